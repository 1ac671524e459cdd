-- The lines of a tree's listing.
use Rattle.std.proofs.Common.{◌≡◌, ℕ, zero, suc, ◌+◌, ◌≤◌, List, [], ◌∷◌, ◌++◌, length, take, Option, Some, None, refl, sym, ap, ◌∙◌, arith, append_assoc, take_all, zero-add}
use Rattle.std.specs.Prelude.{map}
use Rattle.std.proofs.lemmas.List.{append-nil, length-append, length-take, take_more}
use Rattle.std.proofs.lemmas.List.Concat.{flat_map-append}
use Rattle.trace_types.specs.declared.line.Line.{Line}
use Rattle.trace_types.specs.declared.line.Line.TheVariants as line
use Rattle.trace_claims.specs.Listing.{body_lines, living, object_lines, objects_from, tree_lines}
use Rattle.file_tree.specs.declared.object.Body.{Body}
use Rattle.file_tree.specs.declared.object.Body.TheVariants.{Regular, Directory, Link}
use Rattle.file_tree.specs.declared.object.Object.{Object}
use Rattle.file_tree.specs.Tree.{Tree, attr_of, place, slots_within}
use Rattle.harp_types.specs.declared.server.ServerId.{ServerId}
use Rattle.tree_listing.specs.declared.listing.Listed.{Listed}
use Rattle.tree_listing.specs.declared.listing.Listing.{Listing}
use Rattle.tree_listing.specs.Listing.{blocks_listed, bytes_of_file, listed, object_listed, of_each_below, slots_listed, text_of_link, tree_listed}
use Rattle.tree_listing.proofs.Gathering.{of_none, of_one_more}
use Rattle.world_lines.specs.Lines.{line_of_block, line_of_slot, lines_of_listing, lines_of_object, lines_of_objects, lines_of_text}
use Rattle.world_lines.specs.Laws.{CountIsLiving, LinesAreTheTrees}
use Rattle.world_lines.proofs.PartLines.{lines_of_blocks, lines_of_slots}

-- ---- one object

no_slots_lines : (number : ℕ) → map (line_of_slot number) (slots_listed []) ≡ []
unfolding slots_listed of_each_below
no_slots_lines number = refl

no_blocks_lines : (number : ℕ) → map (line_of_block number) (blocks_listed []) ≡ []
unfolding blocks_listed of_each_below
no_blocks_lines number = refl

abbrev parts_of : ℕ → Body → List Line
parts_of number b = map (line_of_slot number) (slots_listed (slots_within b))
    ++ (map (line_of_block number) (blocks_listed (bytes_of_file b))
    ++ lines_of_text number (text_of_link b))

parts_are : (number : ℕ) (b : Body) → parts_of number b ≡ body_lines number b
parts_are number (Regular bytes) =
    ap (λ (xs : List Line). xs ++ (map (line_of_block number) (blocks_listed bytes) ++ []))
    (no_slots_lines number)
    ∙ append-nil (map (line_of_block number) (blocks_listed bytes)) ∙ lines_of_blocks number bytes
parts_are number (Directory slots) =
    ap (λ (xs : List Line). map (line_of_slot number) (slots_listed slots) ++ (xs ++ []))
    (no_blocks_lines number)
    ∙ append-nil (map (line_of_slot number) (slots_listed slots)) ∙ lines_of_slots number slots
parts_are number (Link text) =
    ap (λ (xs : List Line). xs ++ (map (line_of_block number) (blocks_listed [])
    ++ lines_of_text number (Some text))) (no_slots_lines number)
    ∙ ap (λ (xs : List Line). xs ++ lines_of_text number (Some text)) (no_blocks_lines number)

object_is : (tree : Tree) (number : ℕ) (x : Option Object)
    → lines_of_objects (object_listed tree number x) ≡ object_lines tree number x
unfolding lines_of_objects listed
object_is tree number None = refl
object_is tree number (Some o) =
    append-nil (lines_of_object (listed tree number o))
    ∙ ap (λ (xs : List Line). line.Object (attr_of tree number o) ∷ xs) (parts_are number o.body)

-- ---- all objects

last_object : (tree : Tree) (number : ℕ) (os : List (Option Object)) (o : Option Object)
    → objects_from tree number (os ++ o ∷ [])
    ≡ objects_from tree number os ++ object_lines tree (number + length os) o
unfolding objects_from
last_object tree number [] o =
    let here : number ≡ number + 0 = omega arith in
    append-nil (object_lines tree number o) ∙ ap (λ (n : ℕ). object_lines tree n o) here
last_object tree number (p ∷ os) o =
    let there : number + 1 + length os ≡ number + length (p ∷ os) = omega arith in
    ap (λ (xs : List Line). object_lines tree number p ++ xs) (last_object tree (number + 1) os o)
    ∙ sym (append_assoc (object_lines tree number p) (objects_from tree (number + 1) os)
    (object_lines tree (number + 1 + length os) o))
    ∙ ap (λ (n : ℕ). (object_lines tree number p ++ objects_from tree (number + 1) os)
    ++ object_lines tree n o) there

joined : (objects more : List Listed)
    → lines_of_objects (objects ++ more) ≡ lines_of_objects objects ++ lines_of_objects more
unfolding lines_of_objects
joined objects more = flat_map-append lines_of_object objects more

no_objects : (tree : Tree) → lines_of_objects [] ≡ objects_from tree 0 []
unfolding lines_of_objects objects_from
no_objects tree = refl

abbrev at_number : Tree → ℕ → List Listed
at_number tree n = object_listed tree n (place tree n)

objects_so_far : (tree : Tree) (n : ℕ) → n ≤ length tree
    → lines_of_objects (of_each_below n (at_number tree)) ≡ objects_from tree 0 (take n tree)
objects_so_far tree zero le =
    ap lines_of_objects (of_none (at_number tree)) ∙ no_objects tree
objects_so_far tree (suc n) le =
    let next : suc n ≡ n + 1 = omega arith in
    let long : 0 + length (take n tree) ≡ n = omega (arith, length-take n tree, le) in
    let front : List Line = objects_from tree 0 (take n tree) in
    ap (λ (k : ℕ). lines_of_objects (of_each_below k (at_number tree))) next
    ∙ ap lines_of_objects (of_one_more (at_number tree) n)
    ∙ joined (of_each_below n (at_number tree)) (at_number tree n)
    ∙ ap (λ (xs : List Line). xs ++ lines_of_objects (at_number tree n))
    (objects_so_far tree n (omega (arith, le)))
    ∙ ap (λ (xs : List Line). front ++ xs) (object_is tree n (place tree n))
    ∙ ap (λ (k : ℕ). front ++ object_lines tree k (place tree n)) (sym long)
    ∙ sym (last_object tree 0 (take n tree) (place tree n))
    ∙ ap (objects_from tree 0) (sym (take_more tree n None (omega (arith, le))))
    ∙ ap (λ (k : ℕ). objects_from tree 0 (take k tree)) (sym next)

pub lines_are : LinesAreTheTrees
unfolding tree_listed
lines_are tree =
    objects_so_far tree (length tree) (omega arith)
    ∙ ap (objects_from tree 0) (take_all (length tree) tree (omega arith))

-- ---- how many objects are listed

last_living : (os : List (Option Object)) (o : Option Object)
    → living (os ++ o ∷ []) ≡ living os + living (o ∷ [])
unfolding living
last_living [] o = sym (zero-add (living (o ∷ [])))
last_living (None ∷ os) o = last_living os o
last_living (Some p ∷ os) o =
    let rest = last_living os o in
    omega (arith, rest)

one_living : (tree : Tree) (number : ℕ) (x : Option Object)
    → length (object_listed tree number x) ≡ living (x ∷ [])
unfolding living
one_living tree number None = refl
one_living tree number (Some o) = refl

none_living : living [] ≡ 0
unfolding living
none_living = refl

living_so_far : (tree : Tree) (n : ℕ) → n ≤ length tree
    → length (of_each_below n (at_number tree)) ≡ living (take n tree)
living_so_far tree zero le = ap length (of_none (at_number tree)) ∙ sym none_living
living_so_far tree (suc n) le =
    let next : suc n ≡ n + 1 = omega arith in
    let front = living_so_far tree n (omega (arith, le)) in
    let one = one_living tree n (place tree n) in
    ap (λ (k : ℕ). length (of_each_below k (at_number tree))) next
    ∙ ap length (of_one_more (at_number tree) n)
    ∙ length-append (of_each_below n (at_number tree)) (at_number tree n)
    ∙ ap (λ (k : ℕ). k + length (at_number tree n)) front
    ∙ ap (λ (k : ℕ). living (take n tree) + k) one
    ∙ sym (last_living (take n tree) (place tree n))
    ∙ ap living (sym (take_more tree n None (omega (arith, le))))
    ∙ ap (λ (k : ℕ). living (take k tree)) (sym next)

pub count_is : CountIsLiving
unfolding tree_listed
count_is tree =
    living_so_far tree (length tree) (omega arith)
    ∙ ap living (take_all (length tree) tree (omega arith))

-- ---- what is written

pub none_shown : (old : List Line) → old ≡ old ++ lines_of_objects []
unfolding lines_of_objects
none_shown old = sym (append-nil old)

one_object : (x : Listed) → lines_of_objects (x ∷ []) ≡ lines_of_object x
unfolding lines_of_objects
one_object x = append-nil (lines_of_object x)

-- with the lines of one object more
pub one_shown : (old lines new : List Line) (objects : List Listed) (x : Listed)
    → lines ≡ old ++ lines_of_objects objects → new ≡ lines ++ lines_of_object x
    → new ≡ old ++ lines_of_objects (objects ++ x ∷ [])
one_shown old lines new objects x before here =
    here ∙ ap (λ (xs : List Line). xs ++ lines_of_object x) before
    ∙ append_assoc old (lines_of_objects objects) (lines_of_object x)
    ∙ ap (λ (xs : List Line). old ++ (lines_of_objects objects ++ xs)) (sym (one_object x))
    ∙ ap (λ (xs : List Line). old ++ xs) (sym (joined objects (x ∷ [])))

-- the lines of a listing that is a tree's
pub tree_shown : (server : ServerId) (l : Listing) (tree : Tree) (lines : List Line)
    → lines ≡ lines_of_listing server l → l.objects ≡ tree_listed tree
    → lines ≡ line.Listed server l.cp (living tree) ∷ tree_lines tree
tree_shown server l tree lines are is =
    are
    ∙ ap (λ (n : ℕ). line.Listed server l.cp n ∷ lines_of_objects l.objects)
    (ap length is ∙ count_is tree)
    ∙ ap (λ (xs : List Line). line.Listed server l.cp (living tree) ∷ xs)
    (ap lines_of_objects is ∙ lines_are tree)
