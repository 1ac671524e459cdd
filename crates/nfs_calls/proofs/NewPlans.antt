-- The plans of calls that make links and files.
use Rattle.std.proofs.Common.{◌≡◌, ℕ, ◌+◌, ◌*◌, ltb, Bool, true, false, List, [], length, replicate, Some, None, Result, Ok, Err, refl, sym, ap, subst, ◌∙◌}
use Rattle.std.specs.Prelude.{not, IsErr, IsErrAnd}
use Rattle.std.proofs.lemmas.Bool.{ltb-false}
use Rattle.std.proofs.lemmas.List.{length-replicate}
use Rattle.harp_types.specs.declared.attr.Attr.{Attr}
use Rattle.harp_types.specs.declared.attr.Kind.TheVariants as kind
use Rattle.harp_types.specs.declared.attr.SetAttr.{SetAttr}
use Rattle.harp_types.specs.declared.attr.Time.{Time}
use Rattle.harp_types.specs.declared.call.Call.TheVariants as call
use Rattle.harp_types.specs.declared.cred.Cred.{Cred}
use Rattle.harp_types.specs.declared.reply.Reply.{Reply}
use Rattle.harp_types.specs.declared.reply.Reply.TheVariants.{Done, Node}
use Rattle.harp_types.specs.declared.reply.Status.{Status}
use Rattle.harp_types.specs.declared.reply.Status.TheVariants.{Exist}
use Rattle.file_tree.specs.declared.object.Body.TheVariants as body
use Rattle.file_tree.specs.Tree.{Tree, attr_at, place, slots_of, entry, blocks_of, used_blocks}
use Rattle.file_tree.specs.Tries.{◌>>=◌, Tried, refuse, entry_name}
use Rattle.file_tree.specs.Permissions.{searched, may_make, heeded}
use Rattle.file_tree.specs.Outcome.{given, set_fields, has_entry, room_for, made, make_link, create, create_again, create_new, is_regular}
use Rattle.harp_types.specs.Limits.{largest_file}
use Rattle.file_tree.proofs.SlotLaws.{no_entry, none_named}
use Rattle.harp_cells.specs.Effect.{Cells}
use Rattle.harp_cells.specs.declared.change.Change.{Change}
use Rattle.harp_cells.specs.declared.value.Inode.{Inode}
use Rattle.cell_changes.specs.Table.{tree_changes}
use Rattle.cell_changes.specs.TreeCells.{TreeCells}
use Rattle.nfs_calls.specs.declared.error.CallError.{CallError}
use Rattle.nfs_calls.specs.declared.error.CallError.TheVariants as error
use Rattle.nfs_calls.specs.declared.updates.set_attr.Set.{Set}
use Rattle.nfs_calls.specs.Gives.{Fails, Gives}
use Rattle.nfs_calls.specs.declared.parts.new_entry.Room.{Room}
use Rattle.nfs_calls.specs.declared.parts.totals.Totals.{Totals}
use Rattle.nfs_calls.specs.Plans.{planned, totals_of}
use Rattle.nfs_calls.specs.Attributes.{IsSet, sets_planned}
use Rattle.nfs_calls.specs.NewEntries.{made_inode}
use Rattle.nfs_calls.specs.Space.{replaced_blocks}
use Rattle.nfs_calls.specs.TreeCells.{IsInode, attr_by, object_at}
use Rattle.nfs_calls.proofs.Makes.{IsNew, IsOpen, IsComputed, computed_changes, made_tree, full_of, made_new, made_file, made_changes, made_totals, mode_fits, attr_placed}

pub passed : (s : Status) (b : Bool) → Ok tt ≡ refuse s b → b ≡ false
passed s true e = absurd cc
passed s false e = refl

-- ---- links

pub make_link_plan : (t : TreeCells) (totals : Totals) (cred : Cred) (dir : ℕ) (i : Inode)
    (name text : List ℕ) (a : SetAttr) (room : Room) (now : Time) (made_as : Inode)
    (changes : List Change)
    → totals ≡ totals_of t.tree → IsOpen t.tree dir i name (length text) room
    → entry_name name ≡ Ok tt → ltb 1024 (length text) ≡ false
    → has_entry (slots_of (place t.tree dir)) name ≡ false
    → searched t.tree cred dir ≡ Ok (slots_of (place t.tree dir))
    → may_make t.tree cred dir a ≡ Ok tt
    → IsComputed dir i name text room 0
    (made_inode cred a kind.Link 1 0 (length text) now) now totals made_as changes
    → planned t.cells t.tree (call.SymLink dir name text a)
    (make_link t.tree cred dir name text a now)
    ≡ Ok (Done, changes, record { next = totals.next + 1; used = room.used })
unfolding make_link tree_changes
make_link_plan t totals cred dir i name text a room now made_as changes are is right short new
    searches makes computed =
    let o = made cred a (body.Link text) now in
    let n : IsNew t.tree dir i name o room = record {
      sound = t.sound;
      directory = is.directory;
      free = record { right = right; new = no_entry (slots_of (place t.tree dir)) name new };
      opens = is.opens;
      fits = is.fits;
      used = is.used;
      object = (mode_fits a.mode, ltb-false _ _ short);
      bare = λ k. refl;
    } in
    let inode = made_file t.tree dir i name cred a (body.Link text) room now n refl refl in
    let changes_are = made_changes t.tree dir i name o room now text n in
    let wanted =
    computed_changes t.tree dir i name text room 0
    (made_inode cred a kind.Link 1 0
    (length text) now) now totals made_as changes are computed in
    rw (
      searches,
      right,
      short,
      new,
      makes,
      is.fits,
      changes_are,
      inode,
      made_totals t.tree dir i name o room now n,
      wanted,
      are,
    ) refl

-- ---- files

pub create_new_plan : (t : TreeCells) (totals : Totals) (cred : Cred) (dir : ℕ) (i : Inode)
    (name : List ℕ) (a : SetAttr) (room : Room) (now : Time) (made_as : Inode) (attr : Attr)
    (changes : List Change)
    → totals ≡ totals_of t.tree → IsOpen t.tree dir i name (given a.size 0) room
    → entry_name name ≡ Ok tt → ltb largest_file (given a.size 0) ≡ false
    → entry (slots_of (place t.tree dir)) name ≡ None → may_make t.tree cred dir a ≡ Ok tt
    → IsComputed dir i name [] room 0
    (made_inode cred a kind.Regular 1 0 (given a.size 0) now) now totals made_as changes
    → attr ≡ attr_by totals.next made_as
    → planned t.cells t.tree (call.Create dir name a)
    (create_new t.tree cred dir (slots_of (place t.tree dir)) name a now)
    ≡ Ok (Node totals.next attr, changes, record { next = totals.next + 1; used = room.used })
unfolding create_new tree_changes
create_new_plan t totals cred dir i name a room now made_as attr changes are is right small none
    makes computed attributes =
    let size = given a.size 0 in
    let b = body.Regular (replicate size 0) in
    let o = made cred a b now in
    let long : length (replicate size 0) ≡ size = length-replicate {A = ℕ} size 0 in
    let n : IsNew t.tree dir i name o room = record {
      sound = t.sound;
      directory = is.directory;
      free = record { right = right; new = none_named (slots_of (place t.tree dir)) name none };
      opens = is.opens;
      fits = ap (room_for t.tree dir (slots_of (place t.tree dir)) name) long ∙ is.fits;
      used = ap (λ (m : ℕ). replaced_blocks (used_blocks t.tree + blocks_of m) i.size
          (264 * length (full_of t.tree dir name))) long ∙ is.used;
      object = (mode_fits a.mode, rw long (ltb-false _ _ small));
      bare = λ k. refl;
    } in
    let new = made_tree t.tree dir name o now in
    let inode = made_file t.tree dir i name cred a b room now n refl refl
    ∙ ap (λ (m : ℕ). made_inode cred a kind.Regular 1 0 m now) long in
    let attr_is = attr_placed new (length t.tree) o (made_new t.tree dir i name o room now n)
    ∙ ap (attr_by (length t.tree)) inode in
    let changes_are = made_changes t.tree dir i name o room now [] n in
    let wanted =
    computed_changes t.tree dir i name [] room 0
    (made_inode cred a kind.Regular 1 0 size now) now totals made_as changes are computed in
    rw (
      makes,
      small,
      is.fits,
      attr_is,
      none,
      changes_are,
      inode,
      made_totals t.tree dir i name o room now n,
      attributes,
      computed.inode,
      wanted,
      are,
    ) refl

-- an entry that is there gets attributes
pub create_sets : (cells : Cells) (tree : Tree) (cred : Cred) (dir : ℕ) (name : List ℕ)
    (a : SetAttr) (now : Time) (x : ℕ × ℕ) → searched tree cred dir ≡ Ok (slots_of (place tree dir))
    → entry_name name ≡ Ok tt → entry (slots_of (place tree dir)) name ≡ Some x
    → planned cells tree (call.Create dir name a) (create tree cred dir name a now)
    ≡ sets_planned cells tree x.1 a.size (create_again tree cred x.1 a now)
unfolding create tree_changes
create_sets cells tree cred dir name a now x searches right found = rw (searches, right, found) refl

-- a file that is there, whose attributes these are
module _ (cells : Cells) (tree : Tree) (cred : Cred) (number : ℕ) (i : Inode) (a : SetAttr)
    (now : Time)
    (is : IsInode tree number i) where
  abbrev not_regular : Bool
  not_regular = not (is_regular (object_at tree number).body)

  abbrev set_again : Tried Tree
  set_again = set_fields tree cred number (heeded cred i.uid a) now

  again_is : create_again tree cred number a now
      ≡ (refuse Exist not_regular >>= λ (u : Unit {0}). set_again
      >>= λ (new : Tree). Ok (Node number (attr_at new number), new))
  unfolding create_again
  again_is = rw (is.at, is.is) refl

  abbrev again_planned : Tried (Reply × List Change × Totals)
  again_planned = sets_planned cells tree number a.size (create_again tree cred number a now)

  pub again_refused : (s : Status) → Err s ≡ refuse Exist not_regular → again_planned ≡ Err s
  again_refused s refused = rw (again_is, ← refused) refl

  pub again_fails : (e : CallError) → Ok tt ≡ refuse Exist not_regular → Fails e set_again
      → Fails e again_planned
  again_fails (error.Fault fault) passes fails = tt
  again_fails (error.Status s) passes fails = rw (again_is, ← passes, fails) refl

  pub again_sets : (new : Tree) (size : ℕ) (s : Set) (attr : Attr)
      → Ok tt ≡ refuse Exist not_regular → set_again ≡ Ok new
      → size ≡ a.size → IsSet cells tree new number size s → attr ≡ attr_by number s.inode
      → again_planned ≡ Ok (Node number attr, s.changes.items, s.totals)
  again_sets new size s attr passes done sized set attributes =
      rw (again_is, ← passes, done, attributes, set.attr, set.changes, set.totals, sized) refl

pub again_none : (cells : Cells) (tree : Tree) (cred : Cred) (number : ℕ) (a : SetAttr) (now : Time)
    → place tree number ≡ None → sets_planned cells tree number a.size
    (create_again tree cred number a now) ≡ Err Exist
unfolding create_again
again_none cells tree cred number a now none = rw none refl

-- a refusal or a fault that `?` hands on
pub handed_on : {X Y : Type 0} (view : X
    → Y) (r : Result X CallError) (e : CallError) (step : Tried Y)
    → IsErr r → IsErrAnd r (λ f. f ≡ e) → Fails e step → Gives view r step
handed_on view (Ok x) e step is same fails = absurd cc
handed_on view (Err f) e step is same fails =
    subst (λ (g : CallError). Fails g step) (sym same) fails
