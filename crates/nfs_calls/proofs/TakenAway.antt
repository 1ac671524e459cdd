-- The calls that take an entry away.
use Rattle.std.proofs.Common.{◌≡◌, ℕ, ◌+◌, ◌<◌, ◌^◌, Bool, true, false, List, length, Option, Some, None, Ok, Err, refl, sym, ap, ◌∙◌, arith}
use Rattle.harp_types.specs.declared.attr.Time.{Time}
use Rattle.harp_types.specs.declared.call.Call.TheVariants as call
use Rattle.harp_types.specs.declared.cred.Cred.{Cred}
use Rattle.harp_types.specs.declared.reply.DirEntry.{DirEntry}
use Rattle.harp_types.specs.declared.reply.Reply.{Reply}
use Rattle.harp_types.specs.declared.reply.Reply.TheVariants.{Done}
use Rattle.harp_types.specs.declared.reply.Status.{Status}
use Rattle.harp_types.specs.declared.reply.Status.TheVariants.{Perm, NoEnt, NotDir, IsDir, NotEmpty}
use Rattle.file_tree.specs.declared.object.Object.{Object}
use Rattle.file_tree.specs.Tree.{Tree, Slots, place, slots_of, entry, is_directory_at}
use Rattle.file_tree.specs.Tries.{refuse, check_name, is_dots, some_or}
use Rattle.file_tree.specs.Permissions.{writing, allowed, searched}
use Rattle.file_tree.specs.Outcome.{page_of, find, doomed, has_no_entry, removed, remove, remove_dir}
use Rattle.file_tree.specs.Sound.{IsSound}
use Rattle.file_tree.proofs.TryLaws.{Given, step, unless, given_at, some_is}
use Rattle.file_tree.proofs.SlotLaws.{found}
use Rattle.file_tree.proofs.SoundChanges.{live_from, one_itself}
use Rattle.file_tree.proofs.SoundMoves.{cleared_names, names_at-le}
use Rattle.harp_cells.specs.declared.change.Change.{Change}
use Rattle.harp_cells.specs.declared.value.Inode.{Inode}
use Rattle.harp_cells.specs.Effect.{Cells}
use Rattle.cell_changes.specs.Table.{takes, tree_changes}
use Rattle.cell_changes.specs.TreeCells.{TreeCells}
use Rattle.inode_dirs.specs.Slots.{TellsSlots}
use Rattle.inode_dirs.specs.Pages.{entries_under}
use Rattle.inode_dirs.proofs.TreeCells.{cookies_fit, trees_hold_slots}
use Rattle.inode_dirs.proofs.SlotCounts.{empty_is_last}
use Rattle.nfs_calls.specs.declared.parts.totals.Totals.{Totals}
use Rattle.nfs_calls.specs.TreeCells.{IsInode}
use Rattle.nfs_calls.specs.Plans.{planned, totals_of}

found_entry : (slots : Slots) (name : List ℕ) (r : _) → some_or NoEnt (entry slots name) ≡ r
    → Given r (λ x. entry slots name ≡ Some x)
unfolding Given
found_entry slots name (Ok x) e = some_is NoEnt (entry slots name) x e
found_entry slots name (Err s) e = tt

-- what is found is the entry
pub doomed_entry : (slots : Slots) (name : List ℕ) (x : ℕ × ℕ) → doomed slots name ≡ Ok x
    → entry slots name ≡ Some x
doomed_entry slots name x e =
    given_at (doomed slots name) (λ y. entry slots name ≡ Some y) x
    (unless Perm (is_dots name) (λ u. find slots name) (λ y. entry slots name ≡ Some y)
    (λ dots. step (check_name name) (λ u. some_or NoEnt (entry slots name))
    (λ y. entry slots name ≡ Some y)
    (λ u checked. found_entry slots name (some_or NoEnt (entry slots name)) refl))) e

pub find_entry : (slots : Slots) (name : List ℕ) (x : ℕ × ℕ) → find slots name ≡ Ok x
    → entry slots name ≡ Some x
find_entry slots name x e =
    given_at (find slots name) (λ y. entry slots name ≡ Some y) x
    (step (check_name name) (λ u. some_or NoEnt (entry slots name)) (λ y. entry slots name ≡ Some y)
    (λ u checked. found_entry slots name (some_or NoEnt (entry slots name)) refl)) e

-- an entry names a live object
pub named_lives : (tree : Tree) (dir : ℕ) (name : List ℕ) (x : ℕ × ℕ) → IsSound tree
    → entry (slots_of (place tree dir)) name ≡ Some x
    → place tree x.1 ≡ None → ⊥
named_lives tree dir name x sound e none =
    let f = found (slots_of (place tree dir)) name x e in
    let live = live_from x.1 (place tree x.1) _ (sound.entries x.1)
    (omega (
      arith,
      names_at-le tree dir x.1,
      cleared_names (slots_of (place tree dir)) name x x.1 f,
      one_itself x.1,
    )) in
    let there = live.1 in
    absurd cc

-- a directory that a caller may take entries from
pub record MayTake (tree : Tree) (cred : Cred) (dir : ℕ) : Type 0 where
  pub searches : searched tree cred dir ≡ Ok (slots_of (place tree dir))
  pub writes : allowed tree cred dir writing ≡ Ok tt

pub remove_planned : (cells : Cells) (tree : Tree) (cred : Cred) (dir : ℕ) (name : List ℕ)
    (x : ℕ × ℕ) (now : Time) (i j : Inode) (view : Reply × List Change × Totals)
    → MayTake tree cred dir → doomed (slots_of (place tree dir)) name ≡ Ok x
    → is_directory_at (place tree x.1) ≡ false
    → view ≡ (
      Done,
      takes tree (removed tree dir x now) dir (Some x),
      totals_of (removed tree dir x now),
    )
    → planned cells tree (call.Remove dir name) (remove tree cred dir name now) ≡ Ok view
unfolding remove tree_changes
remove_planned cells tree cred dir name x now i j view is found file e =
    rw (is.searches, found, is.writes, file, e)
    (rw (doomed_entry (slots_of (place tree dir)) name x found) refl)

pub remove_dir_planned : (cells : Cells) (tree : Tree) (cred : Cred) (dir : ℕ) (name : List ℕ)
    (x : ℕ × ℕ) (now : Time) (i j : Inode) (view : Reply × List Change × Totals)
    → MayTake tree cred dir → doomed (slots_of (place tree dir)) name ≡ Ok x
    → is_directory_at (place tree x.1) ≡ true → has_no_entry (slots_of (place tree x.1)) ≡ true
    → view ≡ (
      Done,
      takes tree (removed tree dir x now) dir (Some x),
      totals_of (removed tree dir x now),
    )
    → planned cells tree (call.RmDir dir name) (remove_dir tree cred dir name now) ≡ Ok view
unfolding remove_dir tree_changes
remove_dir_planned cells tree cred dir name x now i j view is found directory empty e =
    rw (is.searches, found, is.writes, directory, empty, e)
    (rw (doomed_entry (slots_of (place tree dir)) name x found) refl)

-- the refusals of an object of another kind
pub remove_directory : (cells : Cells) (tree : Tree) (cred : Cred) (dir : ℕ) (name : List ℕ)
    (x : ℕ × ℕ) (now : Time)
    → MayTake tree cred dir → doomed (slots_of (place tree dir)) name ≡ Ok x
    → is_directory_at (place tree x.1) ≡ true
    → planned cells tree (call.Remove dir name) (remove tree cred dir name now) ≡ Err IsDir
unfolding remove
remove_directory cells tree cred dir name x now is found directory =
    rw (is.searches, found, is.writes, directory) refl

pub remove_dir_file : (cells : Cells) (tree : Tree) (cred : Cred) (dir : ℕ) (name : List ℕ)
    (x : ℕ × ℕ) (now : Time)
    → MayTake tree cred dir → doomed (slots_of (place tree dir)) name ≡ Ok x
    → is_directory_at (place tree x.1) ≡ false
    → planned cells tree (call.RmDir dir name) (remove_dir tree cred dir name now) ≡ Err NotDir
unfolding remove_dir
remove_dir_file cells tree cred dir name x now is found file =
    rw (is.searches, found, is.writes, file) refl

-- a plan by its parts
pub same_plan : (reply : Reply) (a b : List Change) (m n : Totals) → a ≡ b → m ≡ n
    → (let p : Reply × List Change × Totals = (reply, a, m) in
    p) ≡ (let q : Reply × List Change × Totals = (reply, b, n) in q)
same_plan reply a b m n e f = rw (e, f) refl

-- what wasn't refused
pub not_refused : (s : Status) (b : Bool) → refuse s b ≡ Ok tt → b ≡ false
not_refused s false e = refl
not_refused s true e = absurd cc

-- the stored number of slots is that of an object
slots_stored : (tree : Tree) (number : ℕ) (i : Inode) → IsInode tree number i
    → length (slots_of (place tree number)) ≡ i.slots
slots_stored tree number i is = ap (λ (x : Option Object). length (slots_of x)) is.at
    ∙ sym (ap (λ (j : Inode). j.slots) is.is)

tells_own : (t : TreeCells) (told : Option Cells) (number : ℕ) (i : Inode) → told ≡ Some t.cells
    → IsInode t.tree number i
    → TellsSlots told number i.slots (slots_of (place t.tree number))
tells_own t told number i e is = record {
  cells = t.cells;
  are = e;
  holds = trees_hold_slots t.cells t.tree t.stamp number t.stand;
  count = slots_stored t.tree number i is;
}

-- a page behind `..` says whether there is an entry
pub empty_is : (t : TreeCells) (told : Option Cells) (number : ℕ) (i : Inode)
    (entries : List DirEntry) (eof : Bool) → told ≡ Some t.cells → IsInode t.tree number i
    → ((held : Slots) → TellsSlots told number i.slots held → i.slots + 2 < 2 ^ 32
    → (let page : List DirEntry × Bool = (entries, eof) in
    page) ≡ page_of 2 0 (entries_under number i.parent held))
    → eof ≡ has_no_entry (slots_of (place t.tree number))
empty_is t told number i entries eof e is page =
    let slots = slots_of (place t.tree number) in
    let fit : i.slots + 2 < 2 ^ 32 =
    omega (arith, cookies_fit t.tree number t.sound.limits, slots_stored t.tree number i is) in
    ap (λ (p : List DirEntry × Bool). p.1) (page slots (tells_own t told number i e is) fit)
    ∙ empty_is_last number i.parent slots

-- the refusal of a directory with an entry
pub remove_dir_full : (cells : Cells) (tree : Tree) (cred : Cred) (dir : ℕ) (name : List ℕ)
    (x : ℕ × ℕ) (now : Time) (i : Inode)
    → MayTake tree cred dir → doomed (slots_of (place tree dir)) name ≡ Ok x
    → is_directory_at (place tree x.1) ≡ true → has_no_entry (slots_of (place tree x.1)) ≡ false
    → planned cells tree (call.RmDir dir name) (remove_dir tree cred dir name now) ≡ Err NotEmpty
unfolding remove_dir
remove_dir_full cells tree cred dir name x now i is found directory full =
    rw (is.searches, found, is.writes, directory, full) refl
