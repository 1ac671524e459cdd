-- Histories of entries.
use Rattle.std.proofs.Common.{◌≡◌, ℕ, zero, suc, ◌-◌, ◌*◌, ◌/◌, ◌%◌, ◌&&◌, ◌==◌, nat_lt, le_of_eq, Bool, true, false, List, [], ◌∷◌, ◌++◌, length, take, map, Option, Some, None, Ok, Err, refl, sym, ap, ◌∙◌, subst, append_assoc, append-nil, if◌then◌else◌}
use Rattle.std.proofs.lemmas.List.{take_all}
use Rattle.std.proofs.lemmas.List.Sums.{fold-append}
use mathlib.Core.Path.{fun_ext}
use Rattle.harp_types.specs.declared.call.Call.{Call}
use Rattle.harp_types.specs.declared.call.Call.TheVariants as call
use Rattle.harp_types.specs.Update.{is_update}
use Rattle.harp_types.specs.Time.{time_of}
use Rattle.file_tree.specs.Tree.{Tree}
use Rattle.harp_types.specs.Limits.{field_left}
use Rattle.file_tree.specs.Outcome.{Outcome, written}
use Rattle.file_tree.specs.Calls.{answered, outcome}
use Rattle.file_tree.specs.Book.{Entry, last_of, last_stamp, tree_after, tree_next}
use Rattle.file_tree.proofs.BookLaws.{last_push, stamp_push, tree_push}
use Rattle.file_tree.proofs.SoundLaws.{book_sound}
use Rattle.harp_cells.specs.declared.cell.Cell.TheVariants as cell
use Rattle.harp_cells.specs.declared.value.Value.{Value}
use Rattle.harp_cells.specs.declared.change.Change.{Change}
use Rattle.harp_cells.specs.CellsOfTree.{StandForBook, StandForTree, client_value}
use Rattle.harp_cells.specs.Effect.{Cells, after, changed, is_cell}
use Rattle.harp_cells.proofs.TreeLaws.{no_values_are_first}
use Rattle.inode_blocks.specs.Changes.{blocks_met, cuts, kept_of, part_in, put, puts}
use Rattle.inode_blocks.specs.Holds.{stored}
use Rattle.cell_changes.specs.Table.{changes_by, content_size, creates, entry_in, meta_put, set_by, sets, tree_changes, update_changes}
use Rattle.cell_changes.proofs.Leads.{updates_lead}
use Rattle.fuzzy_cells.specs.History.{AllSetOnce, History, cells_at, in_a_row, no_cells}
use Rattle.record_changes.specs.Records.{AreUpdates, client_put, history_from, history_of, record_changes}
use Rattle.record_changes.specs.Laws.{FrontsAreHistories, HistoriesAreAsLong, HistoriesGrow, HistoriesSetOnce, HistoriesStand, PlannedIsNext, SameBlocksSameChanges}
use Rattle.record_changes.proofs.Targets.{clients_stay_by, record_sets_once}

-- ---- lists of records

length_from : (cells : Cells) (earlier entries : List Entry)
    → length (history_from cells earlier entries) ≡ length entries
unfolding history_from
length_from cells earlier [] = refl
length_from cells earlier (e ∷ entries) =
    ap suc (length_from (after (record_changes cells earlier e) cells) (earlier ++ e ∷ []) entries)

pub as_long : HistoriesAreAsLong
as_long entries = length_from no_cells [] entries

front_from : (cells : Cells) (earlier entries : List Entry) (n : ℕ)
    → take n (history_from cells earlier entries) ≡ history_from cells earlier (take n entries)
unfolding history_from
front_from cells earlier entries zero = refl
front_from cells earlier [] (suc n) = refl
front_from cells earlier (e ∷ entries) (suc n) =
    ap (λ (h : History). record_changes cells earlier e
    ∷ h) (front_from (after (record_changes cells earlier e) cells) (earlier ++ e ∷ []) entries n)

pub fronts : FrontsAreHistories
fronts entries n = front_from no_cells [] entries n

-- changes in a row are made one list after the other
after_both : (changes more : List Change) (cells : Cells) → after (changes ++ more) cells ≡
    after more (after changes cells)
after_both changes more cells = fun_ext (λ c. fold-append (changed c) (cells c) changes more)

grow_from : (cells : Cells) (earlier entries : List Entry) (e : Entry)
    → history_from cells earlier (entries ++ e ∷ []) ≡ history_from cells earlier entries
    ++ record_changes (after (in_a_row (history_from cells earlier entries)) cells) (earlier
    ++ entries) e ∷ []
unfolding history_from
grow_from cells earlier [] e = ap (λ (es : List Entry). record_changes cells es e ∷ [])
    (sym (append-nil earlier))
grow_from cells earlier (x ∷ entries) e =
    let first = record_changes cells earlier x in
    let next = after first cells in
    let rest = history_from next (earlier ++ x ∷ []) entries in
    ap (λ (h : History). first ∷ h) (grow_from next (earlier ++ x ∷ []) entries e
    ∙ ap (λ (made : Cells). rest ++ record_changes made ((earlier ++ x ∷ []) ++ entries) e ∷ [])
    (sym (after_both first (in_a_row rest) cells))
    ∙ ap (λ (es : List Entry). rest
    ++ record_changes (after (in_a_row (first ∷ rest)) cells) es e ∷ [])
    (append_assoc earlier (x ∷ []) entries))

pub grow : HistoriesGrow
grow entries e = grow_from no_cells [] entries e
    ∙ ap (λ (h : History). history_of entries
    ++ record_changes (after (in_a_row h) no_cells) entries e ∷ [])
    (sym (take_all (length entries) (history_of entries) (le_of_eq (as_long entries))))

all_once : (cells : Cells) (earlier entries : List Entry)
    → AllSetOnce (history_from cells earlier entries)
unfolding history_from
all_once cells earlier [] = tt
all_once cells earlier (e ∷ entries) = (
  record_sets_once cells earlier e,
  all_once (after (record_changes cells earlier e) cells) (earlier ++ e ∷ []) entries,
)

pub once : HistoriesSetOnce
once entries = all_once no_cells [] entries

-- ---- cells that stand for the book

-- the Put of a client's cell leaves the tree
tree_stays : (cells : Cells) (tree : Tree) (stamp : ℕ) (e : Entry) → StandForTree cells tree stamp
    → StandForTree (after (client_put e ∷ []) cells) tree stamp
unfolding is_cell
tree_stays cells tree stamp e h = record {
  meta = h.meta;
  object = h.object;
  block =
      h.block;
  ends = h.ends;
  slot = h.slot;
}

client_at : (cells : Cells) (e : Entry) (client : ℕ)
    → after (client_put e ∷ []) cells (cell.Client client)
    ≡ (if (e.client == client) && true then client_value (Some e) else cells (cell.Client client))
unfolding is_cell
client_at cells e client = refl

put_last : (same : Bool) (update : Bool) (e : Entry) (last : Option Entry) (held : Option Value)
    → update ≡ true
    → held ≡ client_value last
    → (if same && true then client_value (Some e) else held) ≡ client_value (if update && same then
    Some e else last)
put_last true true e last held h is = refl
put_last false true e last held h is = is
put_last same false e last held h is = absurd cc

next_stands : (cells : Cells) (earlier : List Entry) (e : Entry) → StandForBook cells earlier
    → is_update e.call ≡ true
    → StandForBook (after (record_changes cells earlier e) cells) (earlier ++ e ∷ [])
next_stands cells earlier e stand update =
    let changes = update_changes cells (tree_after earlier) e.cred e.call e.stamp in
    let lead = updates_lead (record {
      cells = cells;
      tree = tree_after earlier;
      stamp =
          last_stamp earlier;
      stand = stand.tree;
      sound = book_sound earlier;
    }) e.cred e.call e.stamp
    update in
    let made = after (client_put e ∷ []) (after changes cells) in
    let stamp : last_stamp (earlier ++ e ∷ []) ≡ e.stamp = stamp_push earlier e ∙ rw update refl in
    let stays : StandForTree made (tree_next (tree_after earlier) e) e.stamp =
    tree_stays (after changes cells) (tree_next (tree_after earlier) e) e.stamp e lead in
    let book : StandForBook made (earlier ++ e ∷ []) = record {
      tree = subst (λ (t : Tree). StandForTree made t (last_stamp (earlier ++ e ∷ [])))
          (sym (tree_push earlier e))
          (subst (λ (n : ℕ). StandForTree made (tree_next (tree_after earlier) e) n)
          (sym stamp) stays);
      client = λ client. client_at (after changes cells) e client
          ∙ put_last (e.client == client) (is_update e.call) e (last_of client earlier)
          (after changes cells (cell.Client client)) update
          (clients_stay_by cells (tree_after earlier) e client ∙ stand.client client)
          ∙ ap client_value (sym (last_push client earlier e));
    } in
    subst (λ (cells : Cells). StandForBook cells (earlier ++ e ∷ []))
    (sym (after_both changes (client_put e ∷ []) cells)) book

all_stand : (cells : Cells) (earlier entries : List Entry) → StandForBook cells earlier
    → AreUpdates entries
    → StandForBook (after (in_a_row (history_from cells earlier entries)) cells) (earlier
    ++ entries)
unfolding history_from
all_stand cells earlier [] stand updates = subst (λ (es : List Entry). StandForBook cells es)
    (sym (append-nil earlier)) stand
all_stand cells earlier (e ∷ entries) stand updates =
    let first = record_changes cells earlier e in
    let next = after first cells in
    let rest = history_from next (earlier ++ e ∷ []) entries in
    subst (λ (made : Cells). StandForBook made (earlier ++ e ∷ entries))
    (sym (after_both first (in_a_row rest) cells))
    (subst (λ (es : List Entry). StandForBook (after (in_a_row rest) next) es)
    (append_assoc earlier (e ∷ []) entries)
    (all_stand next (earlier ++ e ∷ []) entries (next_stands cells earlier e stand updates.0)
    updates.1))

front_updates : (n : ℕ) (entries : List Entry) → AreUpdates entries → AreUpdates (take n entries)
front_updates zero entries u = tt
front_updates (suc n) [] u = tt
front_updates (suc n) (e ∷ entries) u = (u.0, front_updates n entries u.1)

pub stand : HistoriesStand
stand entries updates n = subst (λ (h : History). StandForBook (after (in_a_row h) no_cells)
    (take n entries)) (sym (fronts entries n))
    (all_stand no_cells [] (take n entries) no_values_are_first (front_updates n entries updates))

-- ---- cells with the same blocks

SameBlocks : Cells → Cells → Type 0
SameBlocks cells others = (object block : ℕ) → cells (cell.Block object block) ≡
    others (cell.Block object block)

open_same : (cells others : Cells) → SameBlocks cells others → (object block : ℕ)
    → cells (cell.Block object block) ≡ others (cell.Block object block)
unfolding SameBlocks
open_same cells others h = h

-- the change of one block of a write, by what stands there
abbrev block_from : ℕ → ℕ → ℕ → List ℕ → ℕ → Option Value → Change
block_from number size offset bytes block v =
    put number block (written (if nat_lt (4096 * block) size then stored v else
    []) (offset - 4096 * block) (part_in offset bytes block))

close_same : (cells others : Cells) → ((object block : ℕ) → cells (cell.Block object block) ≡
    others (cell.Block object block)) → SameBlocks cells others
unfolding SameBlocks
close_same cells others h = h

puts_same : (cells others : Cells) → SameBlocks cells others
    → (number size offset : ℕ) (bytes : List ℕ) → puts cells number size offset bytes ≡
    puts others number size offset bytes
puts_same cells others h number size offset bytes =
    ap (λ (f : ℕ → Change). map f (blocks_met offset (length bytes)))
    (fun_ext (λ block. ap (block_from number size offset bytes block)
    (open_same cells others h number block)))

sets_same : (cells others : Cells) → SameBlocks cells others → (old new : Tree) (number size : ℕ)
    → sets cells old new number size ≡ sets others old new number size
sets_same cells others h old new number size =
    ap (λ (v : Option Value). (if size == field_left then [] else
    cuts number (content_size old number) size (kept_of (stored v) (size % 4096)))
    ++ set_by new (cell.Object number ∷ []))
    (open_same cells others h number (size / 4096))

creates_same : (cells others : Cells) → SameBlocks cells others
    → (old new : Tree) (dir size : ℕ) (x : Option (ℕ × ℕ)) → creates cells old new dir size x ≡
    creates others old new dir size x
creates_same cells others h old new dir size None = refl
creates_same cells others h old new dir size (Some x) = sets_same cells others h old new x.1 size

tree_same : (cells others : Cells) → SameBlocks cells others → (old new : Tree) (c : Call)
    → tree_changes cells old new c ≡ tree_changes others old new c
unfolding tree_changes
tree_same cells others h old new (call.SetAttr handle attr) =
    sets_same cells others h old new handle attr.size
tree_same cells others h old new (call.Write handle offset bytes) =
    ap (λ (l : List Change). if length bytes == 0 then [] else l
    ++ set_by new (cell.Object handle ∷ [])) (puts_same cells others h handle
    (content_size old handle) offset bytes)
tree_same cells others h old new (call.Create dir name attr) =
    creates_same cells others h old new dir attr.size (entry_in old dir name)
tree_same cells others h old new (call.MkDir dir name attr) = refl
tree_same cells others h old new (call.SymLink dir name text attr) = refl
tree_same cells others h old new (call.Link handle dir name) = refl
tree_same cells others h old new (call.Remove dir name) = refl
tree_same cells others h old new (call.RmDir dir name) = refl
tree_same cells others h old new (call.Rename dir name to_dir to_name) = refl
tree_same cells others h old new call.Null = refl
tree_same cells others h old new (call.GetAttr handle) = refl
tree_same cells others h old new (call.Lookup dir name) = refl
tree_same cells others h old new (call.ReadLink handle) = refl
tree_same cells others h old new (call.Read handle offset count) = refl
tree_same cells others h old new (call.ReadDir dir cookie count) = refl
tree_same cells others h old new (call.StatFs handle) = refl

by_same : (cells others : Cells) → SameBlocks cells others → (old : Tree) (c : Call) (r : Outcome)
    → changes_by cells old c r ≡ changes_by others old c r
by_same cells others h old c (Ok x) = tree_same cells others h old x.1 c
by_same cells others h old c (Err status) = refl

pub same_blocks : SameBlocksSameChanges
same_blocks cells others earlier e same =
    let old = tree_after earlier in
    let h : SameBlocks cells others = close_same cells others same in
    ap (λ (l : List Change). (l ++ meta_put (outcome old e.cred e.call e.stamp).1 e.stamp ∷ [])
    ++ client_put e ∷ []) (by_same cells others h old e.call (answered old e.cred e.call
    (time_of e.stamp)))

pub planned : PlannedIsNext
planned entries e cells alike = grow entries e
    ∙ ap (λ (l : List Change). history_of entries ++ l ∷ [])
    (same_blocks (cells_at (history_of entries) (length entries)) cells entries e
    (λ object block. sym (alike (cell.Block object block) refl)))
