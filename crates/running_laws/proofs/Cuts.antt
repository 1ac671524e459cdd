-- What is left of a disk amid a step: what a crash before it may leave, what some changes of an
-- apply leave, or what the whole step does.
use Rattle.std.proofs.Common.{◌≡◌, ℕ, zero, suc, ◌<◌, Bool, true, false, List, [], ◌∷◌, length, take, nat_lt, Option, Some, inl, inr, refl, sym, ap, ◌∙◌, subst, arith, slice_index_or, true≢false, ⊎_elim, if◌then◌else◌}
use Rattle.std.specs.Prelude.{Any}
use Rattle.std.proofs.lemmas.Bool.{cases_Bool}
use Rattle.std.proofs.lemmas.List.{take_all}
use Rattle.applier.specs.Applied.{FlushesInPart, flushed, lower}
use Rattle.file_tree.specs.Book.{Entry}
use Rattle.group_rules.proofs.Tests.{if_is, is_lt, not_lt}
use Rattle.group_rules.specs.Moves.{Move}
use Rattle.group_rules.specs.Places.{Place}
use Rattle.group_rules.specs.State.{Ack, Beat, Demote, Event, Fetch, Form, Formed, Give, Invite, Join, Message}
use Rattle.group_rules.specs.Step.{Apply, Ask, Comes, Crash, Does, Flush, Input as Begins, ListTree, Power, Suspect, Tick, rule, step}
use Rattle.harp_cells.specs.Effect.{is_cell}
use Rattle.harp_cells.specs.declared.cell.Cell.{Cell}
use Rattle.harp_cells.specs.declared.change.Change.{Change}
use Rattle.harp_cells.specs.declared.value.Value.{Value}
use Rattle.harp_store.specs.Disk.{AfterPart, Disk, IsLeftOf, MayHold, Moments, after_changes, after_step, reads, set_by, synced_whole, then_disk, values_of, with_mark}
use Rattle.harp_store.specs.declared.layers.Unsynced.{Unsynced}
use Rattle.node.proofs.Mute.{KeepsMark, rule_unmarked}
use Rattle.node.proofs.Stepped.{step_alike, tick_unmarked}
use Rattle.node.specs.Disk.{MayLeave, disk_after, marked_by, write_mark}
use Rattle.node.specs.Node.{NodeValue}
use Rattle.node.specs.Stored.{LeavesBy, LeavesFlush, changes_made, disk_by, flushes}
use Rattle.world_host.proofs.NodeCalls.{IsGiven}
use Rattle.world_host.proofs.Stops.{now_at}
use Rattle.running_laws.proofs.Bare.{MayWrite}

-- ---- a disk that is synced holds what it reads as

the_one : (k : ℕ) (held x v : Option Value) → k < length (held ∷ [])
    → slice_index_or (held ∷ []) k x ≡ x → x ≡ v → held ≡ v
the_one zero held x v lt is e = is ∙ e
the_one (suc k) held x v lt is e = absurd (omega (arith, lt))

-- what a cell reads as is what was held, or a value that was put or erased
last_among : (us : List Unsynced) (c : Cell) (held v : Option Value) → set_by c us held ≡ v
    → Any (λ x. x ≡ v) (held ∷ values_of c us)
unfolding set_by values_of
last_among [] c held v e = (0, held, omega arith, refl, e)
last_among (u ∷ us) c held v e =
    by (is_cell u.cell c) e (λ h is. last_among us c h v is)
  where
    by : (b : Bool) → set_by c us (if b then u.value else held) ≡ v
        → ((h : Option Value) → set_by c us h ≡ v → Any (λ x. x ≡ v) (h ∷ values_of c us))
        → Any (λ x. x ≡ v)
        (held ∷ (if b then u.value ∷ values_of c us else values_of c us))
    by true e on =
        let more = on u.value e in
        let lt = more.2 in
        (suc more.0, more.1, omega (arith, lt), more.3, more.4)
    by false e on = on held e

synced_held : (d : Disk) (c : Cell) (v : Option Value) → MayHold (synced_whole d) c v
    → MayHold d c v
unfolding reads values_of
synced_held d c v h = last_among d.unsynced c (d.synced c) v
    (the_one h.0 (reads d c) h.1 v h.2 h.3 h.4)

left_of_whole : (d left : Disk) → IsLeftOf (synced_whole d) left → left.mark ≡ d.mark
    → IsLeftOf d left
left_of_whole d left h mark = record {
  image = record { cells = λ c. synced_held d c (left.synced c) (h.image.cells c); mark = mark };
  synced = h.synced;
}

-- ---- what is left amid a step

pub left_of_old : (old amid : Moments) (left : Disk) → Some amid ≡ Some old → IsLeftOf amid.now left
    → IsLeftOf old.now left
left_of_old old amid left e h =
    subst (λ (d : Disk). IsLeftOf d left) (now_at amid old e) h

-- ---- how it ends

-- a step that is cut ends with no more left than a crash before it may leave, amid the changes of
-- an apply, or behind its last call that changes the disk
pub data Ends (n : NodeValue) (ms : List (Move Entry)) (i : Begins) (old amid : Moments)
    (left : Disk) : Type 0 where
  earlier : IsLeftOf old.now left → Ends n ms i old amid left
  within : (most calls : ℕ) → calls < length (changes_made most n)
      → Some amid ≡ after_changes (take calls (changes_made most n)) (Some old)
      → Ends n ms i old amid left
  behind : MayWrite i → Some amid ≡ disk_by n ms (Some i) (Some old) → Ends n ms i old amid left

module _ (n : NodeValue) (ms : List (Move Entry)) (i : Begins) (old amid : Moments) (left : Disk)
    (h : IsLeftOf amid.now left) where
  unmarked : write_mark ms ≡ false → MayLeave ms (marked_by n.mark ms) (Some old) (Some amid)
      → Ends n ms i old amid left
  unmarked none (inl e) = earlier (left_of_old old amid left e h)
  unmarked none (inr w) = absurd (true≢false (sym w.0 ∙ none))

  by_mark : MayWrite i → disk_by n ms (Some i) (Some old)
      ≡ disk_after ms (marked_by n.mark ms) (Some old)
      → MayLeave ms (marked_by n.mark ms) (Some old) (Some amid) → Ends n ms i old amid left
  by_mark may same (inl e) = earlier (left_of_old old amid left e h)
  by_mark may same (inr w) = behind may (w.1
      ∙ sym (if_is (write_mark ms) (after_step (with_mark (marked_by n.mark ms)) (Some old))
      (Some old) w.0) ∙ sym same)

flush_ends : (n : NodeValue) (ms : List (Move Entry)) (old amid : Moments) (left : Disk)
    → IsLeftOf amid.now left → LeavesFlush n (Some old) (Some amid)
    → Ends n ms (Does Flush) old amid left
flush_ends n ms old amid left h (inl e) = earlier (left_of_old old amid left e h)
flush_ends n ms old amid left h (inr f) = by f.1
  where
    by : FlushesInPart (lower n.plain.ap n.mark) (Some old) (Some amid)
        → Ends n ms (Does Flush) old amid left
    by (inl e) = earlier (left_of_old old amid left e h)
    by (inr (inl e)) =
        let at = subst (λ (d : Disk). IsLeftOf d left)
        (now_at amid (then_disk (synced_whole old.now) old) e) h in
        earlier (left_of_whole old.now left at at.image.mark)
    by (inr (inr e)) = behind tt (e
        ∙ sym (if_is (flushes n) (flushed (lower n.plain.ap n.mark) (Some old)) (Some old) f.0))

apply_ends : (n : NodeValue) (ms : List (Move Entry)) (most : ℕ) (old amid : Moments)
    (left : Disk) → AfterPart (changes_made most n) (Some old) (Some amid)
    → Ends n ms (Does (Apply most)) old amid left
apply_ends n ms most old amid left part =
    let changes = changes_made most n in
    ⊎_elim
    (λ (less : nat_lt part.0 (length changes) ≡ true).
    within most part.0 (is_lt part.0 (length changes) less) part.1)
    (λ (more : nat_lt part.0 (length changes) ≡ false).
    behind tt (part.1 ∙ ap (λ (xs : List Change). after_changes xs (Some old))
    (take_all part.0 changes (not_lt part.0 (length changes) more))))
    (cases_Bool (nat_lt part.0 (length changes)))

-- ---- what begins it

module _ (size : List Entry → Entry → ℕ) (clock : ℕ) (list : List Entry) (n : NodeValue)
    (old amid : Moments) (left : Disk) (h : IsLeftOf amid.now left) where
  -- its moves
  abbrev moves : Begins → List (Move Entry)
  moves i = step size n.me clock list n.plain i

  -- a tick and a message of a running view write no mark
  kept : (i : Begins) → write_mark (rule size n.me clock list n.plain i) ≡ false
      → MayLeave (moves i) (marked_by n.mark (moves i)) (Some old) (Some amid)
      → Ends n (moves i) i old amid left
  kept i none part = unmarked n (moves i) i old amid left h
      ((step_alike size n.me clock list n.plain (Some i)).writes ∙ none) part

  told : (from : Place) (m : Message Entry) → KeepsMark m
      → MayLeave (moves (Comes from m)) (marked_by n.mark (moves (Comes from m))) (Some old)
      (Some amid)
      → Ends n (moves (Comes from m)) (Comes from m) old amid left
  told from m keeps part =
      kept (Comes from m) (rule_unmarked size n.me clock list n.plain from m keeps) part

  -- A STEP THAT IS CUT ends so
  pub cut_ends : (i : Begins) → IsGiven i → LeavesBy n (moves i) (Some i) (Some old) (Some amid)
      → Ends n (moves i) i old amid left
  cut_ends (Does Tick) is part = kept (Does Tick) (tick_unmarked n.me clock n.plain) part
  cut_ends (Does Suspect) is part =
      by_mark n (moves (Does Suspect)) (Does Suspect) old amid left h tt refl part
  cut_ends (Does (Ask client number cred call)) is same =
      earlier (left_of_old old amid left same h)
  cut_ends (Does (Apply most)) is part =
      apply_ends n (moves (Does (Apply most))) most old amid left part
  cut_ends (Does Flush) is part = flush_ends n (moves (Does Flush)) old amid left h part
  cut_ends (Does ListTree) is same = earlier (left_of_old old amid left same h)
  cut_ends (Does Power) is part = absurd is
  cut_ends (Does Crash) is part = absurd is
  cut_ends (Comes from (Invite v)) is part = by_mark n (moves (Comes from (Invite v)))
      (Comes from (Invite v)) old amid left h tt refl part
  cut_ends (Comes from (Join v t)) is part = by_mark n (moves (Comes from (Join v t)))
      (Comes from (Join v t)) old amid left h tt refl part
  cut_ends (Comes from (Form v plan)) is part = by_mark n (moves (Comes from (Form v plan)))
      (Comes from (Form v plan)) old amid left h tt refl part
  cut_ends (Comes from (Fetch v index)) is part = told from (Fetch v index) tt part
  cut_ends (Comes from (Give v index items)) is part =
      by_mark n (moves (Comes from (Give v index items))) (Comes from (Give v index items)) old
      amid left h tt refl part
  cut_ends (Comes from (Formed v lb)) is part = told from (Formed v lb) tt part
  cut_ends (Comes from (Event v index cp base e)) is part =
      told from (Event v index cp base e) tt part
  cut_ends (Comes from (Beat v cp base)) is part = told from (Beat v cp base) tt part
  cut_ends (Comes from (Ack v top lb until)) is part = told from (Ack v top lb until) tt part
  cut_ends (Comes from (Demote v)) is part = by_mark n (moves (Comes from (Demote v)))
      (Comes from (Demote v)) old amid left h tt refl part
