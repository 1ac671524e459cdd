-- The plan of a write.
use Rattle.std.proofs.Common.{◌≡◌, ℕ, suc, ◌+◌, ◌-◌, ◌/◌, ◌≤◌, ◌==◌, max, ltb, Bool, true, false, cond, List, [], ◌∷◌, ◌++◌, length, map, Some, Ok, refl, sym, ap, ◌∙◌, arith}
use Rattle.std.specs.List.{list_all}
use Rattle.std.proofs.lemmas.Bool.{cond_both}
use Rattle.std.proofs.lemmas.List.FromFn.{length-range_with_len}
use Rattle.std.proofs.lemmas.List.Sums.{count_by-le-length}
use Rattle.harp_types.specs.declared.attr.Attr.{Attr}
use Rattle.harp_types.specs.declared.attr.Kind.TheVariants as kind
use Rattle.harp_types.specs.declared.attr.Time.{Time}
use Rattle.harp_types.specs.declared.call.Call.TheVariants as call
use Rattle.harp_types.specs.declared.cred.Cred.{Cred}
use Rattle.harp_types.specs.declared.reply.Reply.TheVariants.{Attr as AttrReply}
use Rattle.harp_types.specs.declared.reply.Status.TheVariants.{NoSpc}
use Rattle.harp_cells.specs.declared.cell.Cell.{Cell}
use Rattle.harp_cells.specs.declared.cell.Cell.TheVariants as cell
use Rattle.harp_cells.specs.declared.change.Change.{Change}
use Rattle.harp_cells.specs.declared.change.Change.TheVariants as changing
use Rattle.harp_cells.specs.declared.value.Value.{Value}
use Rattle.harp_cells.specs.declared.value.Value.TheVariants as value
use Rattle.file_tree.specs.Tree.{Tree, place, blocks_at, blocks_of, used_blocks, kind_of, size_of, slots_within, attr_at}
use Rattle.file_tree.specs.Tries.{◌>>=◌, refuse, bytes_in}
use Rattle.file_tree.specs.Permissions.{writing, allowed}
use Rattle.file_tree.specs.Outcome.{change, rewritten, write, written}
use Rattle.harp_types.specs.Limits.{largest_file}
use Rattle.file_tree.proofs.FileBytes.{length-written}
use Rattle.file_tree.proofs.Kept.{place_changed}
use Rattle.file_tree.proofs.TryLaws.{bytes_are}
use Rattle.harp_cells.specs.declared.value.Inode.{Inode}
use Rattle.harp_cells.specs.Effect.{Cells}
use Rattle.inode_blocks.specs.Changes.{block_put, block_put_at, blocks_met, puts}
use Rattle.cell_changes.specs.Short.{AreShort, changes_tree, puts_block}
use Rattle.cell_changes.specs.Table.{content_size, set_by, tree_changes}
use Rattle.cell_changes.specs.TreeCells.{TreeCells}
use Rattle.nfs_calls.specs.declared.parts.totals.Totals.{Totals}
use Rattle.nfs_calls.specs.Plans.{planned, totals_of}
use Rattle.nfs_calls.specs.Space.{replaced_blocks}
use Rattle.nfs_calls.specs.TreeCells.{IsInode, attr_by, bytes_within, object_at}
use Rattle.nfs_calls.proofs.Inodes.{attr_is, live_is, content_size as stored_size}
use Rattle.nfs_calls.proofs.Entered.{same_inode}
use Rattle.nfs_calls.proofs.RoomLaws.{blocks_stored}
use Rattle.nfs_calls.proofs.Makes.{attr_placed}
use Rattle.nfs_calls.proofs.FilePlans.{not_directory}
use Rattle.nfs_calls.proofs.Changed.{KeepsKind, inode_with, changed_inode, changed_put, changed_totals}

-- a change that puts a block is of the tree
put_at_is : (c : Cell) (v : Value) (x : ℕ × ℕ) → block_put_at c v ≡ Some x
    → changes_tree (changing.Put c v) ≡ true
put_at_is (cell.Block object block) (value.Block bytes) x e = refl
put_at_is (cell.Block object block) v x e = absurd cc
put_at_is cell.Meta v x e = absurd cc
put_at_is (cell.Object object) v x e = absurd cc
put_at_is (cell.Slot object slot) v x e = absurd cc
put_at_is (cell.Client client) v x e = absurd cc
put_at_is (cell.Saved at) v x e = absurd cc

put_is : (c : Change) (x : ℕ × ℕ) → block_put c ≡ Some x → changes_tree c ≡ true
put_is (changing.Put c v) x e = put_at_is c v x e
put_is (changing.Erase c) x e = absurd cc
put_is (changing.EraseFrom object first) x e = absurd cc

record ArePuts (changes : List Change) (many : ℕ) : Type 0 where
  long : length changes ≡ many
  tree : list_all changes_tree changes ≡ true

are_puts : (changes : List Change) (object : ℕ) (blocks : List ℕ)
    → map block_put changes ≡ map (λ (b : ℕ). let x : ℕ × ℕ = (object, b) in Some x) blocks
    → ArePuts changes (length blocks)
are_puts [] object [] e = record { long = refl; tree = refl }
are_puts [] object (b ∷ blocks) e = absurd cc
are_puts (c ∷ changes) object [] e = absurd cc
are_puts (c ∷ changes) object (b ∷ blocks) e =
    let first : block_put c ≡ Some (object, b) = cc in
    let rest : map block_put changes ≡ map (λ (b : ℕ). let x : ℕ × ℕ = (object, b) in
    Some x) blocks = cc in
    let r = are_puts changes object blocks rest in
    record { long = ap suc r.long; tree = rw (put_is c (object, b) first) r.tree }

few_met : (offset count : ℕ) → count ≤ 8192 → length (blocks_met offset count) ≤ 3
few_met offset count le =
    rw length-range_with_len
    (cond_both (count == 0) 0 (blocks_of (offset + count) - offset / 4096) (λ (n : ℕ). n ≤ 3)
    (λ e. omega arith) (λ e. omega (arith, le)))

-- a write of at most 8192 bytes puts at most three blocks
pub puts_short : (changes : List Change) (object offset count : ℕ)
    → map block_put changes ≡ map (λ (b : ℕ). let x : ℕ × ℕ = (object, b) in
    Some x) (blocks_met offset count)
    → count ≤ 8192 → AreShort 3 changes
puts_short changes object offset count e le =
    let r = are_puts changes object (blocks_met offset count) e in
    let few = few_met offset count le in
    record {
      few = omega (arith, r.long, few);
      blocks = omega (arith, r.long, few, count_by-le-length puts_block changes);
      tree = r.tree;
    }

-- ---- the plan

-- a file whose bytes a caller may write
pub record IsWritten (tree : Tree) (cred : Cred) (number : ℕ) (i : Inode) : Type 0 where
  pub own : IsInode tree number i
  pub bytes : bytes_in (object_at tree number).body ≡ Ok (bytes_within (object_at tree number).body)
  pub file : i.kind ≡ kind.Regular
  pub may : allowed tree cred number writing ≡ Ok tt

file_size : (tree : Tree) (cred : Cred) (number : ℕ) (i : Inode) → IsWritten tree cred number i
    → length (bytes_within (object_at tree number).body) ≡ i.size
file_size tree cred number i is =
    let body = bytes_are (object_at tree number).body _ is.bytes in
    sym (ap size_of body) ∙ sym (ap (λ (j : Inode). j.size) is.own.is)

pub write_nothing : (t : TreeCells) (cred : Cred) (number offset : ℕ) (bytes : List ℕ) (now : Time)
    (i : Inode) (totals : Totals) (attr : Attr) (changes : List Change)
    → IsWritten t.tree cred number i → totals ≡ totals_of t.tree
    → ltb largest_file (offset + length bytes) ≡ false → (length bytes == 0) ≡ true
    → attr ≡ attr_by number i → changes ≡ []
    → planned t.cells t.tree (call.Write number offset bytes)
    (write t.tree cred number offset bytes now) ≡ Ok (AttrReply attr, changes, totals)
unfolding write tree_changes
write_nothing t cred number offset bytes now i totals attr changes is are small test attributes
    nothing =
    let attr_own = sym (attr_is t.tree number i is.own) in
    rw (
      live_is t.tree number i is.own,
      is.bytes,
      is.may,
      small,
      test,
      attr_own,
      attributes,
      nothing,
      are,
    ) refl

room_by : (used old new after : ℕ) (b : Bool)
    → (refuse NoSpc b >>= λ (u : Unit {0}). Ok (used + blocks_of new - blocks_of old)) ≡ Ok after
    → b ≡ false
room_by used old new after true e = absurd cc
room_by used old new after false e = refl

-- there is room for a size
pub room_stored : (tree : Tree) (number : ℕ) (i : Inode) (totals : Totals) (size used : ℕ)
    → IsInode tree number i → totals ≡ totals_of tree
    → replaced_blocks totals.used i.size size ≡ Ok used
    → ltb (65536 + blocks_at (place tree number)) (used_blocks tree + blocks_of size) ≡ false
room_stored tree number i totals size used is are e =
    ap (λ (n : ℕ). ltb (65536 + n) (used_blocks tree + blocks_of size))
    (blocks_stored tree number i is)
    ∙ ap (λ (x : Totals). ltb (65536 + blocks_of i.size) (x.used + blocks_of size)) (sym are)
    ∙ room_by totals.used i.size size used _ e

-- what was computed for a write
pub record IsPlaced (cells : Cells) (number offset : ℕ) (bytes : List ℕ) (now : Time) (i j : Inode)
    (size : ℕ) (changes : List Change) : Type 0 where
  pub size_is : size ≡ max i.size (offset + length bytes)
  pub inode : j ≡ record i { size = size; mtime = now; ctime = now }
  pub are : changes ≡ puts cells number i.size offset bytes
      ++ changing.Put (cell.Object number) (value.Object j) ∷ []

pub write_plan : (t : TreeCells) (cred : Cred) (number offset : ℕ) (bytes : List ℕ) (now : Time)
    (i j : Inode) (totals : Totals) (size used : ℕ) (attr : Attr) (changes : List Change)
    → IsWritten t.tree cred number i → totals ≡ totals_of t.tree
    → ltb largest_file (offset + length bytes) ≡ false → (length bytes == 0) ≡ false
    → replaced_blocks totals.used i.size size ≡ Ok used
    → IsPlaced t.cells number offset bytes now i j size changes → attr ≡ attr_by number j
    → planned t.cells t.tree (call.Write number offset bytes)
    (write t.tree cred number offset bytes now)
    ≡ Ok (AttrReply attr, changes, record { next = totals.next; used = used })
unfolding write tree_changes
write_plan t cred number offset bytes now i j totals size used attr changes is are small test fit
    placed attributes =
    let o = object_at t.tree number in
    let old = bytes_within o.body in
    let f = rewritten now (written old offset bytes) in
    let new = change t.tree number f in
    let body = bytes_are o.body old is.bytes in
    let long = file_size t.tree cred number i is in
    let wanted : size ≡ max (length old) (offset + length bytes) = placed.size_is
    ∙ ap (λ (n : ℕ). max n (offset + length bytes)) (sym long) in
    let sized : size_of (f o).body ≡ size = length-written old offset bytes ∙ sym wanted in
    let keeps : KeepsKind o (f o) =
    record { kind = sym (ap kind_of body); slots = sym (ap slots_within body) } in
    let e = is.own.is in
    let now_is : record i { size = size; mtime = now; ctime = now } ≡ inode_with i (f o) =
    same_inode (record i { size = size; mtime = now; ctime = now }) (inode_with i (f o)) refl
    (ap (λ (k : Inode). k.mode) e) (ap (λ (k : Inode). k.uid) e)
    (ap (λ (k : Inode). k.gid) e) refl refl (sym sized) refl
    (ap (λ (k : Inode). k.atime) e) refl refl in
    let set = placed.inode ∙ now_is in
    let attr_own : attr_at new number ≡ attr =
    attr_placed new number (f o) (place_changed t.tree number f o is.own.at)
    ∙ ap (attr_by number) (changed_inode t.tree number f i is.own keeps ∙ sym set)
    ∙ sym attributes in
    let fits =
    ap (λ (n : ℕ). ltb (65536 + blocks_at (place t.tree number))
    (used_blocks t.tree + blocks_of n)) (sym wanted)
    ∙ room_stored t.tree number i totals size used is.own are fit in
    let content = stored_size t.tree number i is.own (λ d. not_directory i.kind is.file d) in
    let put = changed_put t.tree number f i j is.own keeps set in
    let totals_new =
    changed_totals t.tree number f i totals used is.own are
    (ap (replaced_blocks totals.used i.size) sized ∙ fit) in
    let list : puts t.cells number (content_size t.tree number) offset bytes
    ++ set_by new (cell.Object number ∷ []) ≡ changes =
    (λ k. puts t.cells number (content k) offset bytes ++ put k) ∙ sym placed.are in
    let changes_are : tree_changes t.cells t.tree new (call.Write number offset bytes) ≡ changes =
    ap (λ (b : Bool). cond b [] (puts t.cells number (content_size t.tree number) offset bytes
    ++ set_by new (cell.Object number ∷ []))) test ∙ list in
    let done : write t.tree cred number offset bytes now
    ≡ Ok (AttrReply (attr_at new number), new) =
    rw (live_is t.tree number i is.own, is.bytes, is.may, small, test, fits) refl in
    ap (planned t.cells t.tree (call.Write number offset bytes)) done
    ∙ (λ k. Ok (AttrReply (attr_own k), changes_are k, totals_new k))

-- the same of changes that were added to none
pub puts_short_from : (before changes : List Change) (object offset count : ℕ) → before ≡ []
    → map block_put changes ≡ map block_put before ++ map (λ (b : ℕ). let x : ℕ × ℕ = (object, b) in
    Some x) (blocks_met offset count)
    → count ≤ 8192 → AreShort 3 changes
puts_short_from before changes object offset count none e le =
    puts_short changes object offset count
    (e ∙ ap (λ (l : List Change). map block_put l
    ++ map (λ (b : ℕ). let x : ℕ × ℕ = (object, b) in
    Some x) (blocks_met offset count)) none) le
