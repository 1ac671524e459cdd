-- How long the record of an update is.
use Rattle.std.proofs.Common.{◌≡◌, ℕ, ◌+◌, ◌*◌, ◌≤◌, Bool, true, false, List, [], ◌∷◌, ◌++◌, length, refl, sym, ap, ◌∙◌, subst, arith, length-append, inl, inr, if◌then◌else◌}
use Rattle.std.specs.Prelude.{count_by}
use Rattle.std.specs.List.{flat_map, list_all}
use Rattle.std.proofs.lemmas.Bool.{and_parts}
use Rattle.std.proofs.lemmas.List.Folds.{list_all-append}
use Rattle.std.proofs.lemmas.List.Sums.{sum_by-append}
use Rattle.harp_types.specs.declared.call.Call.{Call}
use Rattle.harp_types.specs.declared.call.Call.TheVariants as call
use Rattle.harp_types.specs.declared.reply.Reply.{Reply}
use Rattle.harp_types.specs.declared.reply.Reply.TheVariants as reply
use Rattle.harp_types.specs.Update.{is_update}
use Rattle.harp_base.specs.Calls.{call_bytes}
use Rattle.harp_base.specs.Fields.{AllFit, many_bytes, u32_bytes, u64_bytes}
use Rattle.harp_base.specs.Replies.{reply_bytes}
use Rattle.harp_cells.specs.declared.cell.Cell.{Cell}
use Rattle.harp_cells.specs.declared.cell.Cell.TheVariants as cell
use Rattle.harp_cells.specs.declared.change.Change.{Change}
use Rattle.harp_cells.specs.declared.change.Change.TheVariants as change
use Rattle.harp_cells.specs.declared.value.Value.{Value}
use Rattle.harp_cells.specs.declared.value.Value.TheVariants as value
use Rattle.harp_cells.specs.CellBytes.{change_bytes}
use Rattle.cell_changes.specs.Short.{AreShort, changes_tree, puts_block}
use Rattle.nfs_calls.specs.Forms.{IsReplyTo, form, form_given}
use Rattle.event_record.specs.declared.record.RecordFields.{RecordFields}
use Rattle.event_record.specs.Bytes.{changes_bytes, record_bytes, tail_bytes, tail_of}
use Rattle.tree_log.specs.Sizes.{IsShortChange, IsShortValue, PlannedAreShort}
use Rattle.tree_log.proofs.Lengths.{len_cred, len_head, len_u16, len_u32, len_u64, sizes}

-- ---- replies

-- what an update gives has no bytes of a file and no page
small_reply : (r : Reply) → (form r ≤ 3) → length (reply_bytes r) ≤ 56
small_reply (reply.Refused status) small = omega arith
small_reply reply.Done small = omega arith
small_reply (reply.Attr attr) small = simp sizes (omega arith)
small_reply (reply.Node handle attr) small = simp sizes (omega arith)
small_reply (reply.Path text) small = absurd (omega arith)
small_reply (reply.Bytes attr bytes) small = absurd (omega arith)
small_reply (reply.Page entries eof) small = absurd (omega arith)
small_reply (reply.Space transfer block blocks free available) small = absurd (omega arith)

given_small : (c : Call) → is_update c ≡ true → form_given c ≤ 3
given_small call.Null u = absurd cc
given_small (call.GetAttr handle) u = absurd cc
given_small (call.SetAttr handle attr) u = omega arith
given_small (call.Lookup dir name) u = absurd cc
given_small (call.ReadLink handle) u = absurd cc
given_small (call.Read handle offset count) u = absurd cc
given_small (call.Write handle offset bytes) u = omega arith
given_small (call.Create dir name attr) u = omega arith
given_small (call.Remove dir name) u = omega arith
given_small (call.Rename dir name to_dir to_name) u = omega arith
given_small (call.Link handle dir name) u = omega arith
given_small (call.SymLink dir name text attr) u = omega arith
given_small (call.MkDir dir name attr) u = omega arith
given_small (call.RmDir dir name) u = omega arith
given_small (call.ReadDir dir cookie count) u = absurd cc
given_small (call.StatFs handle) u = absurd cc

reply_size : (c : Call) (r : Reply) → is_update c ≡ true → IsReplyTo c r
    → length (reply_bytes r) ≤ 56
reply_size c r u (inl refused) = small_reply r (omega (arith, refused))
reply_size c r u (inr given) = small_reply r (omega (arith, given, given_small c u))

-- ---- changes

-- what a Put of a block has more than one of a slot
abbrev more_of : Bool → ℕ
more_of block = if block then 3837 else 0

put_size : (c : Cell) (v : Value) → IsShortValue v → changes_tree (change.Put c v) ≡ true
    → length (change_bytes (change.Put c v)) ≤ 272 + more_of (puts_block (change.Put c v))
put_size cell.Meta (value.Meta next used stamp) short of = simp sizes (omega arith)
put_size cell.Meta (value.Object inode) short of = absurd cc
put_size cell.Meta (value.Unformed inode) short of = absurd cc
put_size cell.Meta (value.Block bytes) short of = absurd cc
put_size cell.Meta (value.Slot named name) short of = absurd cc
put_size cell.Meta (value.Client number index reply) short of = absurd cc
put_size cell.Meta (value.Saved bytes) short of = absurd cc
put_size cell.Meta (value.SavedCred bytes) short of = absurd cc
put_size (cell.Object object) (value.Meta next used stamp) short of = absurd cc
put_size (cell.Object object) (value.Object inode) short of = simp sizes (omega arith)
put_size (cell.Object object) (value.Unformed inode) short of = absurd cc
put_size (cell.Object object) (value.Block bytes) short of = absurd cc
put_size (cell.Object object) (value.Slot named name) short of = absurd cc
put_size (cell.Object object) (value.Client number index reply) short of = absurd cc
put_size (cell.Object object) (value.Saved bytes) short of = absurd cc
put_size (cell.Object object) (value.SavedCred bytes) short of = absurd cc
put_size (cell.Block object block) (value.Meta next used stamp) short of = absurd cc
put_size (cell.Block object block) (value.Object inode) short of = absurd cc
put_size (cell.Block object block) (value.Unformed inode) short of = absurd cc
put_size (cell.Block object block) (value.Block bytes) short of = simp sizes (omega (arith, short))
put_size (cell.Block object block) (value.Slot named name) short of = absurd cc
put_size (cell.Block object block) (value.Client number index reply) short of = absurd cc
put_size (cell.Block object block) (value.Saved bytes) short of = absurd cc
put_size (cell.Block object block) (value.SavedCred bytes) short of = absurd cc
put_size (cell.Slot object slot) (value.Meta next used stamp) short of = absurd cc
put_size (cell.Slot object slot) (value.Object inode) short of = absurd cc
put_size (cell.Slot object slot) (value.Unformed inode) short of = absurd cc
put_size (cell.Slot object slot) (value.Block bytes) short of = absurd cc
put_size (cell.Slot object slot) (value.Slot named name) short of = simp sizes (omega (arith, short))
put_size (cell.Slot object slot) (value.Client number index reply) short of = absurd cc
put_size (cell.Slot object slot) (value.Saved bytes) short of = absurd cc
put_size (cell.Slot object slot) (value.SavedCred bytes) short of = absurd cc
put_size (cell.Client client) v short of = absurd cc
put_size (cell.Saved place) v short of = absurd cc

change_size : (c : Change) → IsShortChange c → changes_tree c ≡ true
    → length (change_bytes c) ≤ 272 + more_of (puts_block c)
change_size (change.Put c v) short of = put_size c v short of
change_size (change.Erase cell.Meta) short of = omega arith
change_size (change.Erase (cell.Object object)) short of = simp sizes (omega arith)
change_size (change.Erase (cell.Block object block)) short of = simp sizes (omega arith)
change_size (change.Erase (cell.Slot object slot)) short of = simp sizes (omega arith)
change_size (change.Erase (cell.Client client)) short of = absurd cc
change_size (change.Erase (cell.Saved place)) short of = absurd cc
change_size (change.EraseFrom object first) short of = simp sizes (omega arith)

abbrev one_of : Bool → ℕ
one_of block = if block then 1 else 0

more_is : (block : Bool) → more_of block ≡ 3837 * one_of block
more_is true = refl
more_is false = refl

count_next : (c : Change) (cs : List Change) → count_by puts_block (c ∷ cs) ≡
    one_of (puts_block c) + count_by puts_block cs
count_next c cs =
    omega (arith, sum_by-append (λ (x : Change). one_of (puts_block x)) (c ∷ []) cs)

many_none : length (many_bytes change_bytes []) ≡ 0
unfolding many_bytes
many_none = refl

many_next : (c : Change) (cs : List Change) → length (many_bytes change_bytes (c ∷ cs)) ≡
    length (change_bytes c) + length (many_bytes change_bytes cs)
unfolding many_bytes
many_next c cs = length-append (change_bytes c) (flat_map change_bytes cs)

changes_size : (cs : List Change) → AllFit IsShortChange cs → list_all changes_tree cs ≡ true
    → length (many_bytes change_bytes cs) ≤ 272 * length cs + 3837 * count_by puts_block cs
changes_size [] short of = omega (arith, many_none)
changes_size (c ∷ cs) short of =
    let parts = and_parts (changes_tree c) (list_all changes_tree cs) of in
    omega (
      arith,
      many_next c cs,
      change_size c short.0 parts.0,
      changes_size cs short.1 parts.1,
      more_is (puts_block c),
      count_next c cs,
    )

-- ---- records

len_tail : (r : RecordFields) → length (tail_bytes (tail_of r)) ≡ length (call_bytes r.call)
    + (8 + (length (reply_bytes r.reply) + (2 + length (many_bytes change_bytes r.changes))))
unfolding tail_bytes changes_bytes
len_tail r = simp (length-append, len_u16, len_u64) (omega arith)

parts_of : (r : RecordFields) → length (record_bytes r) ≡ 29 + (8 + length (tail_bytes (tail_of r)))
parts_of r = simp (length-append, len_head, len_cred) (omega arith)

-- the changes of a plan: those of the tree before the totals, the totals, and the client's Put
many_both : (xs ys : List Change) → length (many_bytes change_bytes (xs ++ ys)) ≡
    length (many_bytes change_bytes xs) + length (many_bytes change_bytes ys)
many_both [] ys = omega (arith, many_none)
many_both (c ∷ xs) ys = omega (arith, many_next c (xs ++ ys), many_next c xs, many_both xs ys)

short_both : (xs ys : List Change) → AllFit IsShortChange (xs ++ ys)
    → AllFit IsShortChange xs × AllFit IsShortChange ys
short_both [] ys short = (tt, short)
short_both (c ∷ xs) ys short =
    let rest = short_both xs ys short.1 in ((short.0, rest.0), rest.1)

totals_size : (next used stamp : ℕ) → length (many_bytes change_bytes
    (change.Put cell.Meta (value.Meta next used stamp) ∷ [])) ≡ 19
unfolding many_bytes u32_bytes u64_bytes
totals_size next used stamp = refl

put_client_size : (client number index : ℕ) (r : Reply) → length (many_bytes change_bytes
    (change.Put (cell.Client client) (value.Client number index r) ∷ [])) ≡
    23 + length (reply_bytes r)
unfolding many_bytes
put_client_size client number index r = simp (length-append, len_u32, len_u64) (omega arith)

-- the changes before the totals are few, and of the tree
record AreBefore (before : List Change) (all : List Change) : Type 0 where
  few : length before ≤ 14
  blocks : count_by puts_block before ≤ 3
  tree : list_all changes_tree before ≡ true

blocks_both : (xs ys : List Change) → count_by puts_block xs ≤ count_by puts_block (xs ++ ys)
blocks_both xs ys = omega (arith, sum_by-append (λ c. if puts_block c then 1 else 0) xs ys)

before_of : (before : List Change) (last : Change) (all : List Change) → all ≡ before ++ last ∷ []
    → AreShort 15 all → AreBefore before all
before_of before last all is short =
    let long : length all ≡ length before + 1 = ap length is ∙ length-append before (last ∷ []) in
    let blocks = subst (λ (cs : List Change). count_by puts_block cs ≤ 3) is short.blocks in
    let tree = subst (λ (cs : List Change). list_all changes_tree cs ≡ true) is short.tree in
    record {
      few = omega (arith, long, short.few);
      blocks = omega (arith, blocks, blocks_both before (last ∷ []));
      tree = (and_parts (list_all changes_tree before) (list_all changes_tree (last ∷ []))
          (sym (list_all-append changes_tree before (last ∷ [])) ∙ tree)).0;
    }

-- ---- the whole

pub planned_short : PlannedAreShort
planned_short r p short =
    let before = p.totals.before in
    let totals = change.Put cell.Meta
    (value.Meta p.totals.totals.next p.totals.totals.used r.stamp) in
    let last = change.Put (cell.Client r.client) (value.Client r.number r.index r.reply) in
    let are : r.changes ≡ (before ++ totals ∷ []) ++ last ∷ [] =
    p.changes ∙ ap (λ (cs : List Change). cs ++ last ∷ []) p.totals.ends in
    let few = before_of before totals p.tree p.totals.ends p.short in
    let all : AllFit IsShortChange ((before ++ totals ∷ []) ++ last ∷ []) =
    subst (AllFit IsShortChange) are short.changes in
    let short_tree = (short_both before (totals ∷ [])
    (short_both (before ++ totals ∷ []) (last ∷ []) all).0).0 in
    let long : length (many_bytes change_bytes r.changes) ≡ length (many_bytes change_bytes before)
    + 19 + (23 + length (reply_bytes r.reply)) =
    omega (
      arith,
      ap (λ (cs : List Change). length (many_bytes change_bytes cs)) are,
      many_both (before ++ totals ∷ []) (last ∷ []),
      many_both before (totals ∷ []),
      totals_size p.totals.totals.next p.totals.totals.used r.stamp,
      put_client_size r.client r.number r.index r.reply,
    ) in
    omega (
      arith,
      parts_of r,
      len_tail r,
      long,
      changes_size before short_tree few.tree,
      few.few,
      few.blocks,
      short.call,
      reply_size r.call r.reply p.update p.form,
    )
