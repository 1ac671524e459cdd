-- What MKDIR, SYMLINK and CREATE make stands.
use Rattle.std.proofs.Common.{◌≡◌, ℕ, ◌+◌, ◌*◌, ◌≤◌, not, List, [], length, replicate, get_or, Option, Some, None, Ok, refl, sym, ap, ◌∙◌, subst, arith}
use Rattle.std.specs.Prelude.{nat_lt}
use Rattle.std.proofs.lemmas.Bool.{ltb-false}
use Rattle.std.proofs.lemmas.List.{get_or_past}
use Rattle.harp_types.specs.declared.attr.Time.{Time}
use Rattle.harp_types.specs.declared.attr.SetAttr.{SetAttr}
use Rattle.harp_types.specs.declared.call.Call.TheVariants as call
use Rattle.harp_types.specs.declared.cred.Cred.{Cred}
use Rattle.harp_types.specs.declared.reply.Reply.{Reply}
use Rattle.harp_types.specs.declared.reply.Reply.TheVariants.{Node}
use Rattle.harp_types.specs.declared.reply.Status.TheVariants.{FBig, NameTooLong, Exist}
use Rattle.file_tree.specs.declared.object.Body.{Body}
use Rattle.file_tree.specs.declared.object.Body.TheVariants as body
use Rattle.file_tree.specs.declared.object.Object.{Object}
use Rattle.file_tree.specs.Tree.{Tree, Slots, place, slots_within, entry, attr_at}
use Rattle.file_tree.specs.Tries.{live, entry_name}
use Rattle.file_tree.specs.Permissions.{searched, may_make, heeded}
use Rattle.file_tree.specs.Outcome.{given, made, with_object, has_entry, free_name, room_for, is_regular, is_regular_at, set_fields, create_again, create_new, create_at, create, make_dir, make_link}
use Rattle.harp_types.specs.Limits.{largest_file}
use Rattle.file_tree.proofs.TryLaws.{Given, done, step, unless, given_at, IsDirectoryOf, searched_is, searched_slots, room_for_is, heeded_size}
use Rattle.harp_cells.specs.declared.value.Value.{Value}
use Rattle.harp_cells.specs.Effect.{Cells, after}
use Rattle.harp_cells.specs.CellsOfTree.{content_of}
use Rattle.inode_blocks.specs.Holds.{stored, IsBlock, HoldsBytes, EndsAt}
use Rattle.inode_blocks.specs.Changes.{text_put}
use Rattle.inode_blocks.proofs.Places.{zero_at}
use Rattle.inode_blocks.proofs.TreeLaws.{texts_lead, past_end}
use Rattle.inode_dirs.proofs.TreeCells.{slots_placed}
use Rattle.cell_changes.specs.TreeCells.{TreeCells}
use Rattle.cell_changes.specs.Stands.{AllStand}
use Rattle.cell_changes.specs.Table.{makes, creates, entry_in, tree_changes}
use Rattle.cell_changes.proofs.Touched.{file_stands, exact_stands}
use Rattle.cell_changes.proofs.Sets.{set_fields_leads}
use Rattle.cell_changes.proofs.Makes.{IsMaking, TextStands, new_place, makes_lead}

-- ---- blocks of a new object

no_text : (new : Tree) (number : ℕ) → content_of (place new number) ≡ [] → TextStands number [] new
no_text new number content cells ends =
    exact_stands cells new number [] content (λ block. ends block (omega arith)
    ∙ sym (past_end [] block (omega arith)))

a_text : (new : Tree) (number : ℕ) (text : List ℕ) → content_of (place new number) ≡ text
    → length text ≤ 4096
    → TextStands number text new
a_text new number text content short cells ends =
    exact_stands (after (text_put number text) cells) new number text content
    (texts_lead cells number text ends short).0

holes : (cells : Cells) (number count : ℕ) → EndsAt cells number 0
    → HoldsBytes cells number (replicate count 0)
holes cells number count ends = record {
  blocks = λ block. subst IsBlock (sym (ends block (omega arith))) tt;
  byte = λ block at within.
      ap (λ (v : Option Value). get_or (stored v) at 0) (ends block (omega arith))
      ∙ get_or_past [] at 0 (omega arith)
      ∙ sym (zero_at count (4096 * block + at));
}

zeros : (new : Tree) (number count : ℕ) (o : Object) → place new number ≡ Some o
    → o.body ≡ body.Regular (replicate count 0) → TextStands number [] new
zeros new number count o at is cells ends =
    file_stands cells new number (replicate count 0)
    (ap is_regular_at at ∙ ap is_regular is)
    (ap content_of at ∙ ap (λ (b : Body). content_of (Some (record o { body = b }))) is)
    (holes cells number count ends) (λ block past. ends block (omega arith))

-- ---- the calls

-- what a call makes with a text in a directory stands
abbrev MakesLead : TreeCells → ℕ → List ℕ → Reply × Tree → Type 0
MakesLead t dir text x = AllStand (after (makes t.tree x.1 dir text) t.cells) x.1

making : (t : TreeCells) (dir : ℕ) (slots full : Slots) (name : List ℕ) (size : ℕ) (o : Object)
    (now : Time)
    → IsDirectoryOf t.tree dir slots
    → room_for t.tree dir slots name size ≡ Ok full → slots_within o.body ≡ []
    → IsMaking t.tree dir o (with_object t.tree dir full o now)
making t dir slots full name size o now d room bare = record {
  slots = slots;
  name = name;
  now = now;
  directory = d.object;
  at = d.at;
  body = d.body;
  bare = bare;
  becomes = ap (λ (ss : Slots). with_object t.tree dir ss o now)
      (room_for_is t.tree dir slots name size full room).slots_are;
}

new_dir : (t : TreeCells) (cred : Cred) (dir : ℕ) (slots full : Slots) (name : List ℕ) (a : SetAttr)
    (now : Time)
    → IsDirectoryOf t.tree dir slots
    → room_for t.tree dir slots name 0 ≡ Ok full
    → AllStand (after (makes t.tree
    (with_object t.tree dir full (made cred a (body.Directory []) now) now) dir
    []) t.cells) (with_object t.tree dir full (made cred a (body.Directory []) now) now)
new_dir t cred dir slots full name a now d room =
    let o = made cred a (body.Directory []) now in
    let new = with_object t.tree dir full o now in
    let m = making t dir slots full name 0 o now d room refl in
    makes_lead t dir o new [] m
    (no_text new (length t.tree) (ap content_of (new_place t.tree dir o new m)))

pub make_dir_leads : (t : TreeCells) (cred : Cred) (dir : ℕ) (name : List ℕ) (a : SetAttr)
    (now : Time) (reply : Reply) (new : Tree)
    → make_dir t.tree cred dir name a now ≡ Ok (reply, new)
    → AllStand (after (tree_changes t.cells t.tree new (call.MkDir dir name a)) t.cells) new
unfolding make_dir tree_changes
make_dir_leads t cred dir name a now reply new e =
    given_at (make_dir t.tree cred dir name a now) (MakesLead t dir []) (reply, new)
    (step (searched t.tree cred dir) _ (MakesLead t dir []) (λ slots d.
    step (free_name slots name) _ (MakesLead t dir []) (λ u f.
    step (may_make t.tree cred dir a) _ (MakesLead t dir []) (λ v may.
    step (room_for t.tree dir slots name 0) _ (MakesLead t dir []) (λ full room.
    done _ (MakesLead t dir []) (new_dir t cred dir slots full name a now
    (searched_is t.tree cred dir slots d) room)))))) e

new_link : (t : TreeCells) (cred : Cred) (dir : ℕ) (slots full : Slots) (name text : List ℕ)
    (a : SetAttr) (now : Time)
    → IsDirectoryOf t.tree dir slots
    → room_for t.tree dir slots name (length text) ≡ Ok full → length text ≤ 1024
    → AllStand (after (makes t.tree
    (with_object t.tree dir full (made cred a (body.Link text) now) now) dir text) t.cells)
    (with_object t.tree dir full (made cred a (body.Link text) now) now)
new_link t cred dir slots full name text a now d room short =
    let o = made cred a (body.Link text) now in
    let new = with_object t.tree dir full o now in
    let m = making t dir slots full name (length text) o now d room refl in
    makes_lead t dir o new text m
    (a_text new (length t.tree) text (ap content_of (new_place t.tree dir o new m))
    (omega (arith, short)))

pub make_link_leads : (t : TreeCells) (cred : Cred) (dir : ℕ) (name text : List ℕ) (a : SetAttr)
    (now : Time) (reply : Reply)
    (new : Tree)
    → make_link t.tree cred dir name text a now ≡ Ok (reply, new)
    → AllStand (after (tree_changes t.cells t.tree new (call.SymLink dir name text a)) t.cells) new
unfolding make_link tree_changes
make_link_leads t cred dir name text a now reply new e =
    given_at (make_link t.tree cred dir name text a now) (MakesLead t dir text) (reply, new)
    (step (searched t.tree cred dir) _ (MakesLead t dir text) (λ slots d.
    step (entry_name name) _ (MakesLead t dir text) (λ u right.
    unless NameTooLong (nat_lt 1024 (length text)) _ (MakesLead t dir text) (λ short.
    unless Exist (has_entry slots name) _ (MakesLead t dir text) (λ none.
    step (may_make t.tree cred dir a) _ (MakesLead t dir text) (λ v may.
    step (room_for t.tree dir slots name (length text)) _ (MakesLead t dir text) (λ full room.
    done _ (MakesLead t dir text) (new_link t cred dir slots full name text a now
    (searched_is t.tree cred dir slots d) room
    (ltb-false _ _ short))))))))) e

-- ---- CREATE

new_file : (t : TreeCells) (cred : Cred) (dir : ℕ) (slots full : Slots) (name : List ℕ)
    (a : SetAttr) (now : Time) (size : ℕ)
    → IsDirectoryOf t.tree dir slots
    → room_for t.tree dir slots name size ≡ Ok full
    → AllStand (after (makes t.tree
    (with_object t.tree dir full (made cred a (body.Regular (replicate size 0)) now) now) dir
    []) t.cells)
    (with_object t.tree dir full (made cred a (body.Regular (replicate size 0)) now) now)
new_file t cred dir slots full name a now size d room =
    let o = made cred a (body.Regular (replicate size 0)) now in
    let new = with_object t.tree dir full o now in
    let m = making t dir slots full name size o now d room refl in
    makes_lead t dir o new [] m
    (zeros new (length t.tree) size o (new_place t.tree dir o new m) refl)

create_new_leads : (t : TreeCells) (cred : Cred) (dir : ℕ) (slots : Slots) (name : List ℕ)
    (a : SetAttr) (now : Time)
    → IsDirectoryOf t.tree dir slots
    → Given (create_new t.tree cred dir slots name a now) (MakesLead t dir [])
unfolding create_new
create_new_leads t cred dir slots name a now d =
    step (may_make t.tree cred dir a) _ (MakesLead t dir []) (λ v may.
    unless FBig (nat_lt largest_file (given a.size 0)) _ (MakesLead t dir []) (λ small.
    step (room_for t.tree dir slots name (given a.size 0)) _ (MakesLead t dir []) (λ full room.
    done _ (MakesLead t dir []) (new_file t cred dir slots full name a now
    (given a.size 0) d room))))

-- what a call leads to where a name stands for this
abbrev CreateLeads : TreeCells → ℕ → ℕ → Option (ℕ × ℕ) → Reply × Tree → Type 0
CreateLeads t dir size found x =
    AllStand (after (creates t.cells t.tree x.1 dir size found) t.cells) x.1

create_at_leads : (t : TreeCells) (cred : Cred) (dir : ℕ) (slots : Slots) (name : List ℕ)
    (found : Option (ℕ × ℕ)) (a : SetAttr)
    (now : Time) → IsDirectoryOf t.tree dir slots
    → Given (create_at t.tree cred dir slots name found a now) (CreateLeads t dir a.size found)
unfolding create_again
create_at_leads t cred dir slots name None a now d = create_new_leads t cred dir slots name a now d
create_at_leads t cred dir slots name (Some x) a now d =
    unless Exist (not (is_regular_at (place t.tree x.1))) _ (CreateLeads t dir a.size (Some x))
    (λ regular.
    step (live t.tree x.1) _ (CreateLeads t dir a.size (Some x)) (λ o lives.
    let fields = heeded cred o.uid a in
    step (set_fields t.tree cred x.1 fields now) _ (CreateLeads t dir a.size (Some x)) (λ new e.
    done _ (CreateLeads t dir a.size (Some x))
    (subst (λ (size : ℕ). CreateLeads t dir size (Some x) (Node x.1 (attr_at new x.1), new))
    (heeded_size cred o.uid a)
    (set_fields_leads t cred x.1 fields now new e)))))

pub create_leads : (t : TreeCells) (cred : Cred) (dir : ℕ) (name : List ℕ) (a : SetAttr)
    (now : Time) (reply : Reply) (new : Tree)
    → create t.tree cred dir name a now ≡ Ok (reply, new)
    → AllStand (after (tree_changes t.cells t.tree new (call.Create dir name a)) t.cells) new
unfolding create tree_changes
create_leads t cred dir name a now reply new e =
    given_at (create t.tree cred dir name a now)
    (CreateLeads t dir a.size (entry_in t.tree dir name)) (reply, new)
    (step (searched t.tree cred dir) _ (CreateLeads t dir a.size (entry_in t.tree dir name))
    (λ slots d.
    step (entry_name name) _ (CreateLeads t dir a.size (entry_in t.tree dir name)) (λ u right.
    subst (λ (found : Option (ℕ × ℕ)). Given
    (create_at t.tree cred dir slots name (entry slots name) a now)
    (CreateLeads t dir a.size found))
    (ap (λ (ss : Slots). entry ss name)
    (sym (slots_placed t.tree dir slots (searched_slots t.tree cred dir slots d))))
    (create_at_leads t cred dir slots name (entry slots name) a now
    (searched_is t.tree cred dir slots d))))) e
