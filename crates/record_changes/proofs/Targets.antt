-- The cells to which each update's changes set theirs.
use Rattle.std.proofs.Common.{◌≡◌, ℕ, ◌*◌, ◌/◌, ◌%◌, ◌≤◌, ◌&&◌, ◌==◌, Bool, true, false, List, [], ◌∷◌, ◌++◌, length, Option, Some, None, Ok, Err, refl, sym, ap, subst, ⊎_elim, arith, if◌then◌else◌, nat_lt, true≢false}
use Rattle.std.specs.Prelude.{map}
use Rattle.std.specs.List.{list_all}
use Rattle.std.proofs.lemmas.Bool.{and_parts, cond_both, eq-eqb, eqb-true, ltb-true}
use Rattle.harp_types.specs.declared.call.Call.{Call}
use Rattle.harp_types.specs.declared.cred.Cred.{Cred}
use Rattle.harp_types.specs.declared.call.Call.TheVariants as call
use Rattle.harp_types.specs.Time.{time_of}
use Rattle.file_tree.specs.Tree.{Tree, blocks_of, place, slots_of, used_blocks, free_from}
use Rattle.file_tree.specs.declared.object.Object.{Object as FileObject}
use Rattle.harp_types.specs.Limits.{field_left}
use Rattle.file_tree.specs.Outcome.{Outcome}
use Rattle.file_tree.specs.Rename.{freed}
use Rattle.file_tree.specs.Calls.{answered, outcome, settled}
use Rattle.file_tree.specs.Book.{Entry, tree_after}
use Rattle.harp_cells.specs.declared.cell.Cell.{Cell}
use Rattle.harp_cells.specs.declared.cell.Cell.TheVariants as cell
use Rattle.harp_cells.specs.declared.value.Value.{Value}
use Rattle.harp_cells.specs.declared.value.Value.TheVariants as value
use Rattle.harp_cells.specs.declared.change.Change.{Change}
use Rattle.harp_cells.specs.Effect.{Cells, after, is_block_from}
use Rattle.harp_cells.specs.CellsOfTree.{cell_of_tree}
use Rattle.harp_cells.proofs.CellLemmas.{is_block_key_parts}
use Rattle.inode_blocks.specs.Changes.{block_written, blocks_met, cuts, erasure, kept_of, put, put_kept, puts, text_put}
use Rattle.inode_blocks.specs.Holds.{stored}
use Rattle.cell_changes.specs.Table.{change_to, changes_by, content_size, creates, dir_pair, entry_in, erases, free_slot, loses, makes, meta_put, moves, no_updates, renames, resizes, set_by, sets, slot_pair, takes, tree_changes, update_changes}
use Rattle.fuzzy_cells.specs.History.{SetsOnce}
use Rattle.record_changes.specs.Records.{client_put, record_changes}
use Rattle.record_changes.proofs.SetOnce.{AllSetTo, SetsTo, all_both, all_more, all_set, sets_once}

-- ---- the cells after an update

-- a stamp, and what the cells of clients hold
abbrev Last : Type 0
Last = ℕ × (ℕ → Option Value)

-- the totals, the objects and slots by the new tree, and the cells of blocks and clients that are
-- given
abbrev target : Tree → Last → (ℕ → ℕ → Option Value) → Cells
target new e blocks cell.Meta = Some (value.Meta (length new) (used_blocks new) e.0)
target new e blocks (cell.Object object) = cell_of_tree new 0 no_updates (cell.Object object)
target new e blocks (cell.Block object block) = blocks object block
target new e blocks (cell.Slot object slot) = cell_of_tree new 0 no_updates (cell.Slot object slot)
target new e blocks (cell.Client client) = e.1 client
target new e blocks (cell.Saved at) = None

abbrev no_blocks : ℕ → ℕ → Option Value
no_blocks object block = None

-- ---- objects and slots

abbrev is_entry : Cell → Bool
is_entry cell.Meta = false
is_entry (cell.Object object) = true
is_entry (cell.Block object block) = false
is_entry (cell.Slot object slot) = true
is_entry (cell.Client client) = false
is_entry (cell.Saved at) = false

to_value : (f : Cells) (c : Cell) (v : Option Value) → f c ≡ v → SetsTo f (change_to c v)
to_value f c None h = h
to_value f c (Some v) h = h

by_tree : (new : Tree) (e : Last) (blocks : ℕ → ℕ → Option Value) (c : Cell) → is_entry c ≡ true
    → target new e blocks c ≡ cell_of_tree new 0 no_updates c
by_tree new e blocks cell.Meta h = absurd cc
by_tree new e blocks (cell.Object object) h = refl
by_tree new e blocks (cell.Block object block) h = absurd cc
by_tree new e blocks (cell.Slot object slot) h = refl
by_tree new e blocks (cell.Client client) h = absurd cc
by_tree new e blocks (cell.Saved at) h = absurd cc

entries_set : (new : Tree) (e : Last) (blocks : ℕ → ℕ → Option Value) (cells : List Cell)
    → list_all is_entry cells ≡ true → AllSetTo (target new e blocks) (set_by new cells)
entries_set new e blocks [] h = tt
entries_set new e blocks (c ∷ cells) h =
    let both = and_parts (is_entry c) (list_all is_entry cells) h in
    all_more (target new e blocks) (change_to c (cell_of_tree new 0 no_updates c))
    (set_by new cells)
    (to_value (target new e blocks) c (cell_of_tree new 0 no_updates c)
    (by_tree new e blocks c both.0)) (entries_set new e blocks cells both.1)

-- ---- blocks

-- a write
abbrev written_blocks : Cells → ℕ → ℕ → ℕ → List ℕ → ℕ → ℕ → Option Value
written_blocks cells number size offset bytes object block =
    Some (value.Block (block_written cells number size offset bytes block))

puts_set : (new : Tree) (e : Last) (cells : Cells) (number size offset : ℕ) (bytes : List ℕ)
    (blocks : List ℕ)
    → AllSetTo (target new e (written_blocks cells number size offset bytes))
    (map (λ block. put number block (block_written cells number size offset bytes block))
    blocks)
puts_set new e cells number size offset bytes [] = tt
puts_set new e cells number size offset bytes (b ∷ blocks) =
    (refl, puts_set new e cells number size offset bytes blocks)

-- a cut: what is kept, and nothing behind it
abbrev kept_value : Bool → Option (List ℕ) → Option Value
kept_value true (Some bytes) = Some (value.Block bytes)
kept_value true None = None
kept_value false kept = None

abbrev cut_blocks : ℕ → Option (List ℕ) → ℕ → ℕ → Option Value
cut_blocks wanted kept object block = kept_value (block == wanted / 4096) kept

no_kept : (bytes : List ℕ) (wanted block : ℕ) → blocks_of wanted ≤ block → (b : Bool)
    → (block == wanted / 4096) ≡ b → kept_value b (kept_of bytes (wanted % 4096)) ≡ None
no_kept bytes wanted block le false e = refl
no_kept bytes wanted block le true e = cond_both (nat_lt 0 (wanted % 4096)
    && nat_lt (wanted % 4096) (length bytes)) _ _ (λ (x : Option (List ℕ)). kept_value true x ≡
    None)
    (λ t. let a = ltb-true 0 (wanted % 4096) (and_parts (nat_lt 0 (wanted % 4096)) _ t).0 in
    let b = eqb-true block (wanted / 4096) e in absurd (omega arith))
    (λ f. refl)

pub from_block : (f : Cells) (object first : ℕ) → ((block : ℕ) → first ≤ block
    → f (cell.Block object block) ≡ None) → (c : Cell) → is_block_from object first c ≡ true
    → f c ≡ None
unfolding is_block_from
from_block f object first h cell.Meta t = absurd (true≢false (sym t))
from_block f object first h (cell.Object o) t = absurd (true≢false (sym t))
from_block f object first h (cell.Block o b) t =
    let parts = is_block_key_parts object first (3, o, b) t in
    subst (λ (n : ℕ). f (cell.Block n b) ≡ None) (sym parts.1) (h b parts.2)
from_block f object first h (cell.Slot o i) t = absurd (true≢false (sym t))
from_block f object first h (cell.Client n) t = absurd (true≢false (sym t))
from_block f object first h (cell.Saved n) t = absurd (true≢false (sym t))

kept_set : (new : Tree) (e : Last) (number wanted : ℕ) (kept : Option (List ℕ))
    → AllSetTo (target new e (cut_blocks wanted kept)) (put_kept number (wanted / 4096) kept)
kept_set new e number wanted None = tt
kept_set new e number wanted (Some bytes) = (
  ap (λ (b : Bool). kept_value b (Some bytes)) (eq-eqb (wanted / 4096) (wanted / 4096) refl),
  tt,
)

cuts_set : (new : Tree) (e : Last) (number size wanted : ℕ) (bytes : List ℕ)
    → AllSetTo (target new e (cut_blocks wanted (kept_of bytes (wanted % 4096))))
    (cuts number size wanted (kept_of bytes (wanted % 4096)))
cuts_set new e number size wanted bytes =
    let kept = kept_of bytes (wanted % 4096) in
    let f = target new e (cut_blocks wanted kept) in
    cond_both (nat_lt wanted size) _ _ (AllSetTo f)
    (λ _. all_both f (put_kept number (wanted / 4096) kept) (erasure number size wanted)
    (kept_set new e number wanted kept)
    (cond_both (nat_lt (4096 * blocks_of wanted) size) _ _ (AllSetTo f)
    (λ _. (
      from_block f number (blocks_of wanted) (λ block le. no_kept bytes wanted block le
          (block == wanted / 4096) refl),
      tt,
    ))
    (λ _. tt)))
    (λ _. tt)

-- a new link's text
abbrev text_blocks : List ℕ → ℕ → ℕ → Option Value
text_blocks text object block = Some (value.Block text)

text_set : (new : Tree) (e : Last) (number : ℕ) (text : List ℕ)
    → AllSetTo (target new e (text_blocks text)) (text_put number text)
text_set new e number [] = tt
text_set new e number (b ∷ text) = (refl, tt)

-- ---- the updates

-- what an update that isn't refused changes
abbrev Aims : Tree → Last → List Change → Type 0
Aims new e changes = (blocks : ℕ → ℕ → Option Value) × AllSetTo (target new e blocks) changes

aims_none : (new : Tree) (e : Last) → Aims new e []
aims_none new e = (no_blocks, tt)

sets_aim : (cells : Cells) (old new : Tree) (e : Last) (number size : ℕ)
    → Aims new e (sets cells old new number size)
sets_aim cells old new e number size =
    let bytes = stored (cells (cell.Block number (size / 4096))) in
    let blocks = cut_blocks size (kept_of bytes (size % 4096)) in (
      blocks,
      all_both (target new e blocks) (resizes cells old number size)
          (set_by new (cell.Object number ∷ []))
          (cond_both (size == field_left) _ _ (AllSetTo (target new e blocks)) (λ _. tt)
          (λ _. cuts_set new e number (content_size old number) size bytes))
          (entries_set new e blocks (cell.Object number ∷ []) refl),
    )

makes_aim : (old new : Tree) (e : Last) (dir : ℕ) (text : List ℕ)
    → Aims new e (makes old new dir text)
makes_aim old new e dir text =
    let f = target new e (text_blocks text) in (
      text_blocks text,
      all_both f (set_by new (cell.Slot dir (free_slot old dir) ∷ [])
          ++ text_put (length old) text) (set_by new (cell.Object dir
          ∷ cell.Object (length old) ∷ []))
          (all_both f (set_by new (cell.Slot dir (free_slot old dir) ∷ []))
          (text_put (length old) text) (entries_set new e (text_blocks text)
          (cell.Slot dir (free_slot old dir) ∷ []) refl) (text_set new e (length old) text))
          (entries_set new e (text_blocks text) (cell.Object dir
          ∷ cell.Object (length old) ∷ []) refl),
    )

erases_set : (old new : Tree) (e : Last) (number : ℕ)
    → AllSetTo (target new e no_blocks) (erases old number)
erases_set old new e number = cond_both (content_size old number == 0) _ _
    (AllSetTo (target new e no_blocks)) (λ _. tt)
    (λ _. (from_block (target new e no_blocks) number 0 (λ block le. refl), tt))

loses_set : (old new : Tree) (e : Last) (number : ℕ)
    → AllSetTo (target new e no_blocks) (loses old new number)
unfolding loses
loses_set old new e number = all_both (target new e no_blocks)
    (elim (place new number) [ None ↦ erases old number | Some x ↦ [] ])
    (set_by new (cell.Object number ∷ [])) (going (place new number)) (entries_set new e no_blocks
    (cell.Object number ∷ []) refl)
  where
    going : (o : Option FileObject)
        → AllSetTo (target new e no_blocks) (elim o [ None ↦ erases old number | Some x ↦ [] ])
    going None = erases_set old new e number
    going (Some x) = tt

takes_aim : (old new : Tree) (e : Last) (dir : ℕ) (x : Option (ℕ × ℕ))
    → Aims new e (takes old new dir x)
takes_aim old new e dir None = aims_none new e
takes_aim old new e dir (Some x) = (
  no_blocks,
  all_both (target new e no_blocks) (set_by new (cell.Slot dir x.0 ∷ cell.Object dir ∷ []))
      (loses old new x.1) (entries_set new e no_blocks (cell.Slot dir x.0
      ∷ cell.Object dir ∷ []) refl) (loses_set old new e x.1),
)

slots_set : (new : Tree) (e : Last) (dir i to_dir j : ℕ)
    → AllSetTo (target new e no_blocks) (set_by new (slot_pair dir i to_dir j))
slots_set new e dir i to_dir j = entries_set new e no_blocks (slot_pair dir i to_dir j)
    (cond_both ((dir == to_dir) && (i == j)) _ _ (λ (cells : List Cell). list_all is_entry cells ≡
    true) (λ _. refl) (λ _. refl))

dirs_set : (new : Tree) (e : Last) (dir to_dir : ℕ)
    → AllSetTo (target new e no_blocks) (set_by new (dir_pair dir to_dir))
dirs_set new e dir to_dir = entries_set new e no_blocks (dir_pair dir to_dir)
    (cond_both (dir == to_dir) _ _ (λ (cells : List Cell). list_all is_entry cells ≡ true)
    (λ _. refl) (λ _. refl))

moves_set : (old new : Tree) (e : Last) (dir to_dir : ℕ) (x : ℕ × ℕ) (y : Option (ℕ × ℕ))
    → AllSetTo (target new e no_blocks) (moves old new dir to_dir x y)
unfolding moves
moves_set old new e dir to_dir x None =
    let f = target new e no_blocks in
    let j = free_from 0 (freed dir to_dir x.0 (slots_of (place old to_dir))) in
    all_both f (set_by new (slot_pair dir x.0 to_dir j) ++ set_by new (dir_pair dir to_dir))
    (set_by new (cell.Object x.1 ∷ [])) (all_both f (set_by new (slot_pair dir x.0 to_dir j))
    (set_by new (dir_pair dir to_dir)) (slots_set new e dir x.0 to_dir j)
    (dirs_set new e dir to_dir)) (entries_set new e no_blocks (cell.Object x.1 ∷ []) refl)
moves_set old new e dir to_dir x (Some y) =
    let f = target new e no_blocks in
    cond_both (y.1 == x.1) _ _ (AllSetTo f) (λ _. tt)
    (λ _. all_both f (set_by new (slot_pair dir x.0 to_dir y.0) ++ set_by new (dir_pair dir to_dir)
    ++ loses old new y.1) (set_by new (cell.Object x.1 ∷ []))
    (all_both f (set_by new (slot_pair dir x.0 to_dir y.0) ++ set_by new (dir_pair dir to_dir))
    (loses old new y.1) (all_both f (set_by new (slot_pair dir x.0 to_dir y.0))
    (set_by new (dir_pair dir to_dir)) (slots_set new e dir x.0 to_dir y.0)
    (dirs_set new e dir to_dir)) (loses_set old new e y.1))
    (entries_set new e no_blocks (cell.Object x.1 ∷ []) refl))

renames_aim : (old new : Tree) (e : Last) (dir to_dir : ℕ) (x y : Option (ℕ × ℕ))
    → Aims new e (renames old new dir to_dir x y)
renames_aim old new e dir to_dir None y = aims_none new e
renames_aim old new e dir to_dir (Some x) y = (no_blocks, moves_set old new e dir to_dir x y)

creates_aim : (cells : Cells) (old new : Tree) (e : Last) (dir size : ℕ) (x : Option (ℕ × ℕ))
    → Aims new e (creates cells old new dir size x)
creates_aim cells old new e dir size None = makes_aim old new e dir []
creates_aim cells old new e dir size (Some x) = sets_aim cells old new e x.1 size

write_aim : (cells : Cells) (old new : Tree) (e : Last) (number offset : ℕ) (bytes : List ℕ)
    → Aims new e (if length bytes == 0 then [] else
    puts cells number (content_size old number) offset bytes
    ++ set_by new (cell.Object number ∷ []))
write_aim cells old new e number offset bytes = cond_both (length bytes == 0) _ _ (Aims new e)
    (λ _. aims_none new e)
    (λ _.
    let blocks = written_blocks cells number (content_size old number) offset bytes in (
      blocks,
      all_both (target new e blocks) (puts cells number (content_size old number) offset bytes)
          (set_by new (cell.Object number ∷ []))
          (puts_set new e cells number (content_size old number) offset bytes
          (blocks_met offset (length bytes))) (entries_set new e blocks
          (cell.Object number ∷ []) refl),
    ))

tree_aims : (cells : Cells) (old new : Tree) (e : Last) (c : Call)
    → Aims new e (tree_changes cells old new c)
unfolding tree_changes
tree_aims cells old new e (call.SetAttr handle attr) = sets_aim cells old new e handle attr.size
tree_aims cells old new e (call.Write handle offset bytes) =
    write_aim cells old new e handle offset bytes
tree_aims cells old new e (call.Create dir name attr) = creates_aim cells old new e dir attr.size
    (entry_in old dir name)
tree_aims cells old new e (call.MkDir dir name attr) = makes_aim old new e dir []
tree_aims cells old new e (call.SymLink dir name text attr) = makes_aim old new e dir text
tree_aims cells old new e (call.Link handle dir name) = (
  no_blocks,
  entries_set new e no_blocks (cell.Slot dir (free_slot old dir) ∷ cell.Object dir
      ∷ cell.Object handle ∷ []) refl,
)
tree_aims cells old new e (call.Remove dir name) = takes_aim old new e dir (entry_in old dir name)
tree_aims cells old new e (call.RmDir dir name) = takes_aim old new e dir (entry_in old dir name)
tree_aims cells old new e (call.Rename dir name to_dir to_name) =
    renames_aim old new e dir to_dir (entry_in old dir name) (entry_in old to_dir to_name)
tree_aims cells old new e call.Null = aims_none new e
tree_aims cells old new e (call.GetAttr handle) = aims_none new e
tree_aims cells old new e (call.Lookup dir name) = aims_none new e
tree_aims cells old new e (call.ReadLink handle) = aims_none new e
tree_aims cells old new e (call.Read handle offset count) = aims_none new e
tree_aims cells old new e (call.ReadDir dir cookie count) = aims_none new e
tree_aims cells old new e (call.StatFs handle) = aims_none new e

-- with the totals and the client's cell
with_last : (new : Tree) (e : Last) (changes : List Change) → Aims new e changes
    → Aims new e (changes ++ meta_put new e.0 ∷ [])
with_last new e changes h = (
  h.0,
  all_both (target new e h.0) changes (meta_put new e.0 ∷ []) h.1
      (refl, tt),
)

outcome_aims : (cells : Cells) (old : Tree) (e : Last) (c : Call) (r : Outcome)
    → Aims (settled old r).1 e (changes_by cells old c r ++ meta_put (settled old r).1 e.0 ∷ [])
outcome_aims cells old e c (Ok x) = with_last x.1 e (tree_changes cells old x.1 c)
    (tree_aims cells old x.1 e c)
outcome_aims cells old e c (Err status) = with_last old e [] (aims_none old e)

update_aims : (cells : Cells) (old : Tree) (e : Last) (cred : Cred) (c : Call)
    → Aims (outcome old cred c e.0).1 e (update_changes cells old cred c e.0)
update_aims cells old e cred c = outcome_aims cells old e c (answered old cred c (time_of e.0))

pub record_sets_once : (cells : Cells) (earlier : List Entry) (e : Entry)
    → SetsOnce (record_changes cells earlier e)
record_sets_once cells earlier e =
    let old = tree_after earlier in
    let last : Last = (e.stamp, λ client. Some (value.Client e.number e.index e.reply)) in
    let h = update_aims cells old last e.cred e.call in
    let f = target (outcome old e.cred e.call e.stamp).1 last h.0 in
    sets_once f (record_changes cells earlier e)
    (all_both f (update_changes cells old e.cred e.call e.stamp) (client_put e ∷ []) h.1 (
      refl,
      tt,
    ))

-- the changes of the tree leave the cells of clients, whatever those hold
pub clients_stay_by : (cells : Cells) (old : Tree) (e : Entry) (client : ℕ)
    → after (update_changes cells old e.cred e.call e.stamp) cells (cell.Client client) ≡
    cells (cell.Client client)
clients_stay_by cells old e client =
    let last : Last = (e.stamp, λ client. cells (cell.Client client)) in
    let h = update_aims cells old last e.cred e.call in
    ⊎_elim (λ x. x) (λ x. x) (all_set (target (outcome old e.cred e.call e.stamp).1 last h.0)
    (update_changes cells old e.cred e.call e.stamp) h.1 (cell.Client client)
    (cells (cell.Client client)))
