-- The lines of a listing, among a step's lines.
use Rattle.std.proofs.Common.{◌≡◌, ℕ, zero, suc, ◌+◌, true, false, List, [], ◌∷◌, ◌++◌, length, take, drop, Option, Some, None, refl, ap}
use Rattle.std.specs.List.{AllByRecursion}
use Rattle.trace_types.specs.declared.step.Step.{Step}
use Rattle.trace_types.specs.declared.step.Step.TheVariants as step
use Rattle.trace_types.specs.declared.line.Line.{Line}
use Rattle.trace_types.specs.declared.line.Line.TheVariants as line
use Rattle.file_tree.specs.Tree.{Slots, Tree, blocks_of}
use Rattle.file_tree.specs.declared.object.Body.{Body}
use Rattle.file_tree.specs.declared.object.Body.TheVariants as body
use Rattle.file_tree.specs.declared.object.Object.{Object}
use Rattle.file_tree.specs.Book.{Entry, tree_after}
use Rattle.trace_claims.specs.Listing.{all_zero, block_line, block_lines, body_lines, is_listing, listing_front, object_lines, objects_from, slot_lines, tree_lines}
use Rattle.trace_claims.proofs.Places.{all-append}
use Rattle.group_rules.specs.Disk.{settled_tests}
use Rattle.group_rules.specs.Names.{place_of}
use Rattle.group_rules.specs.Places.{all_of}
use Rattle.group_rules.specs.State.{Group}
use Rattle.group_rules.specs.Step.{list_of}
use Rattle.group_rules.proofs.Tests.{by_if}
use Rattle.group_trace.specs.Lines.{listed_lines, listing_of}

-- ---- each line of a tree is one of a listing

abbrev pub AreListing : List Line → Type 0
AreListing ls = AllByRecursion (λ l. is_listing l ≡ true) ls

listing-append : (xs ys : List Line) → AreListing xs → AreListing ys → AreListing (xs ++ ys)
listing-append xs ys = all-append (λ l. is_listing l ≡ true) xs ys

slots_listing : (dir i : ℕ) (slots : Slots) → AreListing (slot_lines dir i slots)
unfolding slot_lines
slots_listing dir i [] = tt
slots_listing dir i (None ∷ slots) = slots_listing dir (i + 1) slots
slots_listing dir i (Some s ∷ slots) = (refl, slots_listing dir (i + 1) slots)

blocks_listing : (file i n : ℕ) (bytes : List ℕ) → AreListing (block_lines file i n bytes)
unfolding block_lines
blocks_listing file i zero bytes = tt
blocks_listing file i (suc n) bytes = listing-append (block_line file i (take 4096 bytes))
    (block_lines file (i + 1) n (drop 4096 bytes))
    (by_if AreListing (all_zero (take 4096 bytes)) [] (line.Block file i (take 4096 bytes) ∷ [])
    (λ _. tt) (λ _. (refl, tt)))
    (blocks_listing file (i + 1) n (drop 4096 bytes))

body_listing : (number : ℕ) (b : Body) → AreListing (body_lines number b)
body_listing number (body.Regular bytes) = blocks_listing number 0 (blocks_of (length bytes)) bytes
body_listing number (body.Directory slots) = slots_listing number 0 slots
body_listing number (body.Link text) = (refl, tt)

object_listing : (tree : Tree) (number : ℕ) (o : Option Object)
    → AreListing (object_lines tree number o)
object_listing tree number None = tt
object_listing tree number (Some o) = (refl, body_listing number o.body)

objects_listing : (tree : Tree) (number : ℕ) (os : List (Option Object))
    → AreListing (objects_from tree number os)
unfolding objects_from
objects_listing tree number [] = tt
objects_listing tree number (o ∷ os) = listing-append (object_lines tree number o)
    (objects_from tree (number + 1) os) (object_listing tree number o)
    (objects_listing tree (number + 1) os)

pub tree_listing : (tree : Tree) → AreListing (tree_lines tree)
tree_listing tree = objects_listing tree 0 tree

-- lines that end a listing
abbrev pub EndsListing : List Line → Type 0
EndsListing [] = Unit {0}
EndsListing (l ∷ ls) = is_listing l ≡ false

pub front_is_listing : (ls rest : List Line) → AreListing ls → EndsListing rest
    → listing_front (ls ++ rest) ≡ ls
front_is_listing [] [] h e = refl
front_is_listing [] (l ∷ rest) h e = rw e refl
front_is_listing (l ∷ ls) rest h e = rw h.0 (ap (λ x. l ∷ x) (front_is_listing ls rest h.1 e))

-- ---- what other laws say of listings

-- what holds of each line of a listing
pub list_each : (P : Line → Type 0) → ((l : Line) → is_listing l ≡ true → P l)
    → ((server : _) (cp n : ℕ) → P (line.Listed server cp n))
    → ((server : _) → P (line.Unlisted server))
    → (g : Group Entry) (s : Step) → AllByRecursion P (listing_of g s)
list_each P inside listed unlisted g (step.List server) =
    let q = place_of server in
    by_if (AllByRecursion P) (all_of (settled_tests q (g.server q)))
    (listed_lines q (g.server q).cp (tree_after (take (g.server q).cp (list_of g q)))) _
    (λ _. (
      listed _ _ _,
      each (tree_lines (tree_after (take (g.server q).cp (list_of g q))))
          (tree_listing _),
    ))
    (λ _. (unlisted _, tt))
  where
    each : (ls : List Line) → AreListing ls → AllByRecursion P ls
    each [] h = tt
    each (l ∷ ls) h = (inside l h.0, each ls h.1)
list_each P inside listed unlisted g s = tt
