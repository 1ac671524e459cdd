-- The calls of a node's step, which are those of the run's.
use Rattle.std.proofs.Common.{◌≡◌, ◌⊎◌, ℕ, zero, suc, Bool, true, false, List, [], ◌∷◌, length, map, take, Option, Some, None, refl, sym, ap, subst, ◌∙◌, inl, inr, arith, true≢false, if◌then◌else◌}
use Rattle.std.specs.Prelude.{option_map}
use Rattle.std.proofs.lemmas.List.{take_all}
use Rattle.applier.specs.Applied.{FlushesInPart, flushed, lower}
use Rattle.trace_laws.proofs.Counts.{are_counted}
use Rattle.file_tree.specs.Book.{Entry}
use Rattle.group_trace.specs.DiskCalls.{Changing, DiskCall, Marking, Syncing, kind_of, measures_of}
use Rattle.group_trace.specs.DiskRun.{calls_at}
use Rattle.world_host.proofs.Rules.{step_marks}
use Rattle.world_host.proofs.Stops.{Called, CalledAll, MarkLast}
use Rattle.world_rules.specs.Spellings.{spellings}
use Rattle.world_rules.specs.Steps.{moves_at}
use Rattle.group_rules.proofs.Tests.{all_true, each_of, if_not}
use Rattle.group_rules.specs.Disk.{flush_tests, settled_tests}
use Rattle.group_rules.specs.Moves.{Move}
use Rattle.group_rules.specs.Places.{Place, all_of}
use Rattle.group_rules.specs.State.{Group, Server}
use Rattle.group_rules.specs.Step.{Apply, Ask, Comes, Crash, Does, Flush, Input as Begins, ListTree, Power, Suspect, Tick, list_of, step, step_of}
use Rattle.harp_cells.specs.declared.change.Change.{Change}
use Rattle.harp_store.specs.Disk.{AfterPart, Moments, after_changes, after_step, changed_by, with_mark}
use Rattle.harp_store.specs.Mark.{MarkFields}
use Rattle.node.specs.Disk.{MayLeave, disk_after, marked_by, write_mark}
use Rattle.node.specs.Node.{NodeValue, saved_with, server}
use Rattle.node.specs.Stored.{LeavesBy, changes_made, disk_by, flushes, stores}
use Rattle.store_laws.proofs.Calls.{changes_are_of_calls}
use Rattle.store_laws.proofs.Parts.{parts_are_changes, parts_are_flushes}
use Rattle.store_laws.proofs.StepCalls.{steps_make_calls}
use Rattle.store_laws.specs.Calls.{IsCallOf, IsChangeOf, Makes, StoreCall, Writes, flush_calls, told_after}
use Rattle.store_laws.specs.Steps.{any_marks, applied_by, is_of_cells}
use Rattle.store_laws.specs.Told.{OneForOne}
use Rattle.trace_laws.proofs.StopLaws.{makes_no_call}
use Rattle.trace_laws.specs.Stops.{NeverCut}

-- ---- each kind of calls

-- none
abbrev pub no_calls : (mark : MarkFields) (others : List DiskCall) (old new : Option Moments)
    → others ≡ [] → new ≡ old → CalledAll mark others old new
unfolding told_after
no_calls mark others old new none same = record {
  first = record {
    calls = [];
    one = subst (OneForOne IsCallOf []) (sym none) tt;
    last = tt;
    kept = inr (omega arith);
    many = 0;
    made = same;
  };
  all = omega arith;
}

-- the mark alone
abbrev one_mark : (mark new_mark : MarkFields) (others : List DiskCall) (old new : Option Moments)
    (many : ℕ) → others ≡ Marking ∷ []
    → new ≡ told_after (take many (Writes new_mark ∷ [])) old → Called mark others old new
one_mark mark new_mark others old new many one made = record {
  calls = Writes new_mark ∷ [];
  one = subst (OneForOne IsCallOf (Writes new_mark ∷ [])) (sym one) (tt, tt);
  last = refl;
  kept = inr (omega arith);
  many = many;
  made = made;
}

-- a flush
abbrev flush_called : (mark new_mark : MarkFields) (others : List DiskCall)
    (old new : Option Moments) (many : ℕ) → mark.saved ≡ None → others ≡ Syncing ∷ Marking ∷ []
    → new ≡ told_after (take many (flush_calls new_mark)) old → Called mark others old new
flush_called mark new_mark others old new many none two made = record {
  calls = flush_calls new_mark;
  one = subst (OneForOne IsCallOf (flush_calls new_mark)) (sym two) (tt, (tt, tt));
  last = refl;
  kept = inl none;
  many = many;
  made = made;
}

pub changes_last : (changes : List Change) → MarkLast (map Makes changes)
changes_last [] = tt
changes_last (x ∷ changes) = changes_last changes

-- an apply
abbrev apply_called : (mark : MarkFields) (made changes : List Change) (others : List DiskCall)
    (old new : Option Moments) (many : ℕ) → mark.saved ≡ None → others ≡ map Changing changes
    → OneForOne IsChangeOf made changes → new ≡ told_after (take many (map Makes made)) old
    → Called mark others old new
apply_called mark made changes others old new many none same one is = record {
  calls = map Makes made;
  one = subst (OneForOne IsCallOf (map Makes made)) (sym same)
      (changes_are_of_calls made changes one);
  last = changes_last made;
  kept = inl none;
  many = many;
  made = is;
}

changes_told : (changes : List Change) (told : Option Moments)
    → told_after (map Makes changes) told ≡ after_changes changes told
unfolding told_after after_changes
changes_told [] told = refl
changes_told (x ∷ changes) told = changes_told changes (after_step (changed_by x) told)

all_taken : (calls : List StoreCall) (old : Option Moments)
    → told_after calls old ≡ told_after (take (length calls) calls) old
all_taken calls old = ap (λ (cs : List StoreCall). told_after cs old)
    (sym (take_all (length calls) calls (omega arith)))

-- ---- a node beside its server in the group

-- what begins a node's step
abbrev pub IsGiven : Begins → Type 0
IsGiven (Does Power) = ⊥
IsGiven (Does Crash) = ⊥
IsGiven i = Unit {0}

-- the moves by which a node's step writes the mark, whatever its saved log
abbrev pub plain_moves : Group Entry → NodeValue → Begins → List (Move Entry)
plain_moves g n i = step (measures_of spellings).size n.me (g.clock n.me) (list_of g n.me) n.plain i

-- its tests and marks are those of the group's server
pub record IsOf (g : Group Entry) (n : NodeValue) : Type 0 where
  pub settled : all_of (settled_tests n.me (g.server n.me)) ≡ stores n
  pub flush : all_of (flush_tests n.me (g.server n.me)) ≡ flushes n
  pub marks : (i : Begins) → is_of_cells i ≡ false
      → any_marks (moves_at g n.me i) ≡ write_mark (plain_moves g n i)

pub is_of : (g : Group Entry) (n : NodeValue) (items : List Entry)
    → server n items ≡ g.server n.me → IsOf g n
is_of g n items same = record {
  settled = ap (λ (s : Server Entry). all_of (settled_tests n.me s)) (sym same);
  flush = ap (λ (s : Server Entry). all_of (flush_tests n.me s)) (sym same);
  marks = λ i not_so. ap (λ (s : Server Entry). any_marks
      (step (measures_of spellings).size n.me (g.clock n.me) (list_of g n.me) s i)) (sym same)
      ∙ step_marks (measures_of spellings).size n.me (g.clock n.me) (list_of g n.me) n.plain
      (option_map (saved_with items) n.mark.saved) i not_so;
}

-- a mark without the machine's saved log has none
pub none_saved : (items : List Entry) (mark : MarkFields)
    → option_map (saved_with items) mark.saved ≡ None → mark.saved ≡ None
none_saved items mark e = by mark.saved e
  where
    by : (o : _) → option_map (saved_with items) o ≡ None → o ≡ None
    by None e = refl
    by (Some v) e = cc

-- a server that flushes is settled
pub flush_stores : (n : NodeValue) → flushes n ≡ true → stores n ≡ true
flush_stores n e =
    let each = each_of (flush_tests n.me n.plain) e in
    all_true (settled_tests n.me n.plain) (each.0, (each.1.0, tt))

-- ---- steps that may write the mark, and do nothing else to the disk

by_mark : (b : Bool) (mark new_mark : MarkFields) (others : List DiskCall)
    (old new : Option Moments) → others ≡ (if b then Marking ∷ [] else [])
    → new ≡ (if b then after_step (with_mark new_mark) old else old)
    → CalledAll mark others old new
unfolding told_after
by_mark true mark new_mark others old new one made = record {
  first = one_mark mark new_mark others old new 1 one made;
  all = omega arith;
}
by_mark false mark new_mark others old new none same = no_calls mark others old new none same

part_mark : (b : Bool) (mark new_mark : MarkFields) (others : List DiskCall)
    (old new : Option Moments) → others ≡ (if b then Marking ∷ [] else [])
    → (new ≡ old) ⊎ ((b ≡ true) × (new ≡ after_step (with_mark new_mark) old))
    → Called mark others old new
unfolding told_after
part_mark true mark new_mark others old new one (inl same) =
    one_mark mark new_mark others old new 0 one same
part_mark true mark new_mark others old new one (inr made) =
    one_mark mark new_mark others old new 1 one made.1
part_mark false mark new_mark others old new none (inl same) =
    (no_calls mark others old new none same).first
part_mark false mark new_mark others old new none (inr made) =
    absurd (true≢false (sym made.0))

other_calls : (g : Group Entry) (n : NodeValue) (i : Begins) → IsOf g n → is_of_cells i ≡ false
    → calls_at spellings g n.me i
    ≡ (if write_mark (plain_moves g n i) then Marking ∷ [] else [])
other_calls g n i h not_so = (steps_make_calls spellings g n.me).other i not_so
    ∙ ap (λ (b : Bool). if b then Marking ∷ [] else []) (h.marks i not_so)

marked_all : (g : Group Entry) (n : NodeValue) (i : Begins) (old new : Option Moments) → IsOf g n
    → is_of_cells i ≡ false
    → new ≡ disk_after (plain_moves g n i) (marked_by n.mark (plain_moves g n i)) old
    → CalledAll n.mark (calls_at spellings g n.me i) old new
marked_all g n i old new h not_so made = by_mark (write_mark (plain_moves g n i)) n.mark
    (marked_by n.mark (plain_moves g n i)) (calls_at spellings g n.me i) old new
    (other_calls g n i h not_so) made

marked_part : (g : Group Entry) (n : NodeValue) (i : Begins) (old new : Option Moments) → IsOf g n
    → is_of_cells i ≡ false
    → MayLeave (plain_moves g n i) (marked_by n.mark (plain_moves g n i)) old new
    → Called n.mark (calls_at spellings g n.me i) old new
marked_part g n i old new h not_so made = part_mark (write_mark (plain_moves g n i)) n.mark
    (marked_by n.mark (plain_moves g n i)) (calls_at spellings g n.me i) old new
    (other_calls g n i h not_so) made

-- ---- steps that never call

none_made : (g : Group Entry) (q : Place) (i : Begins) → NeverCut i → calls_at spellings g q i ≡ []
none_made g q i never = none (calls_at spellings g q i)
    (are_counted spellings q (g.clock q) (list_of g q) (g.server q)
    (step_of (measures_of spellings).size g q i)
    ∙ makes_no_call (measures_of spellings) g q i never)
  where
    none : (xs : List DiskCall) → map kind_of xs ≡ [] → xs ≡ []
    none [] e = refl
    none (x ∷ xs) e = cc

-- ---- applies and flushes

apply_all : (b : Bool) (mark : MarkFields) (made changes : List Change) (others : List DiskCall)
    (old new : Option Moments) → others ≡ (if b then map Changing changes else [])
    → (b ≡ false → made ≡ []) → (b ≡ true → mark.saved ≡ None)
    → (b ≡ true → OneForOne IsChangeOf made changes) → new ≡ after_changes made old
    → CalledAll mark others old new
unfolding after_changes
apply_all true mark made changes others old new same not_so none one is = record {
  first = apply_called mark made changes others old new (length (map Makes made)) (none refl) same
      (one refl) (is ∙ sym (changes_told made old) ∙ all_taken (map Makes made) old);
  all = omega arith;
}
apply_all false mark made changes others old new same not_so none one is =
    no_calls mark others old new same
    (is ∙ ap (λ (cs : List Change). after_changes cs old) (not_so refl))

apply_part : (b : Bool) (mark : MarkFields) (made changes : List Change) (others : List DiskCall)
    (old new : Option Moments) → others ≡ (if b then map Changing changes else [])
    → (b ≡ false → made ≡ []) → (b ≡ true → mark.saved ≡ None)
    → (b ≡ true → OneForOne IsChangeOf made changes) → AfterPart made old new
    → Called mark others old new
unfolding after_changes
apply_part true mark made changes others old new same not_so none one part =
    let first = parts_are_changes made old new part in
    apply_called mark made changes others old new first.0 (none refl) same (one refl) first.1
apply_part false mark made changes others old new same not_so none one part =
    (no_calls mark others old new same
    (part.1 ∙ ap (λ (cs : List Change). after_changes (take part.0 cs) old) (not_so refl)
    ∙ ap (λ (cs : List Change). after_changes cs old) (none_taken part.0))).first
  where
    none_taken : (n : ℕ) → ◌≡◌ {A = List Change} (take n []) []
    none_taken zero = refl
    none_taken (suc n) = refl

flush_all : (b : Bool) (mark new_mark : MarkFields) (others : List DiskCall)
    (old new : Option Moments) → others ≡ (if b then Syncing ∷ Marking ∷ [] else [])
    → (b ≡ true → mark.saved ≡ None) → new ≡ (if b then flushed new_mark old else old)
    → CalledAll mark others old new
unfolding told_after
flush_all true mark new_mark others old new two none made = record {
  first = flush_called mark new_mark others old new 2 (none refl) two made;
  all = omega arith;
}
flush_all false mark new_mark others old new two none same =
    no_calls mark others old new two same

flush_part : (b : Bool) (mark new_mark : MarkFields) (others : List DiskCall)
    (old new : Option Moments) → others ≡ (if b then Syncing ∷ Marking ∷ [] else [])
    → (b ≡ true → mark.saved ≡ None)
    → (new ≡ old) ⊎ ((b ≡ true) × FlushesInPart new_mark old new) → Called mark others old new
unfolding told_after
flush_part true mark new_mark others old new two none (inl same) =
    flush_called mark new_mark others old new 0 (none refl) two same
flush_part true mark new_mark others old new two none (inr made) =
    let first = parts_are_flushes new_mark old new made.1 in
    flush_called mark new_mark others old new first.0 (none refl) two first.1
flush_part false mark new_mark others old new two none (inl same) =
    (no_calls mark others old new two same).first
flush_part false mark new_mark others old new two none (inr made) =
    absurd (true≢false (sym made.0))

-- ---- all of them

pub no_changes : (n : NodeValue) (most : ℕ) → stores n ≡ false → changes_made most n ≡ []
no_changes n most not_so = if_not (stores n) _ [] not_so

-- what a node's step rests on for its calls
pub record CanCall (g : Group Entry) (n : NodeValue) : Type 0 where
  pub of : IsOf g n
  pub unsaved : stores n ≡ true → n.mark.saved ≡ None
  pub applied : (most : ℕ) → stores n ≡ true
      → OneForOne IsChangeOf (changes_made most n) (applied_by g n.me most)

-- A WHOLE STEP of a node made all calls of the run's step
pub whole_called : (g : Group Entry) (n : NodeValue) (i : Begins) (old new : Option Moments)
    → CanCall g n → IsGiven i → new ≡ disk_by n (plain_moves g n i) (Some i) old
    → CalledAll n.mark (calls_at spellings g n.me i) old new
whole_called g n (Does Tick) old new h is made = marked_all g n (Does Tick) old new h.of refl made
whole_called g n (Does Suspect) old new h is made =
    marked_all g n (Does Suspect) old new h.of refl made
whole_called g n (Does (Ask client number cred call)) old new h is made =
    no_calls n.mark _ old new (none_made g n.me (Does (Ask client number cred call)) tt) made
whole_called g n (Does (Apply most)) old new h is made =
    apply_all (stores n) n.mark (changes_made most n) (applied_by g n.me most) _ old new
    ((steps_make_calls spellings g n.me).apply most
    ∙ ap (λ (b : Bool). if b then map Changing (applied_by g n.me most) else []) h.of.settled)
    (no_changes n most) h.unsaved (h.applied most) made
whole_called g n (Does Flush) old new h is made =
    flush_all (flushes n) n.mark (lower n.plain.ap n.mark) _ old new
    ((steps_make_calls spellings g n.me).flush
    ∙ ap (λ (b : Bool). if b then Syncing ∷ Marking ∷ [] else []) h.of.flush)
    (λ e. h.unsaved (flush_stores n e)) made
whole_called g n (Does ListTree) old new h is made =
    no_calls n.mark _ old new (none_made g n.me (Does ListTree) tt) made
whole_called g n (Does Power) old new h is made = absurd is
whole_called g n (Does Crash) old new h is made = absurd is
whole_called g n (Comes from m) old new h is made =
    marked_all g n (Comes from m) old new h.of refl made

-- and one that failed made some first ones of them
pub part_called : (g : Group Entry) (n : NodeValue) (i : Begins) (old new : Option Moments)
    → CanCall g n → IsGiven i → LeavesBy n (plain_moves g n i) (Some i) old new
    → Called n.mark (calls_at spellings g n.me i) old new
part_called g n (Does Tick) old new h is left = marked_part g n (Does Tick) old new h.of refl left
part_called g n (Does Suspect) old new h is left =
    marked_part g n (Does Suspect) old new h.of refl left
part_called g n (Does (Ask client number cred call)) old new h is left =
    let none = no_calls n.mark _ old new
    (none_made g n.me (Does (Ask client number cred call)) tt) left in none.first
part_called g n (Does (Apply most)) old new h is left =
    apply_part (stores n) n.mark (changes_made most n) (applied_by g n.me most) _ old new
    ((steps_make_calls spellings g n.me).apply most
    ∙ ap (λ (b : Bool). if b then map Changing (applied_by g n.me most) else []) h.of.settled)
    (no_changes n most) h.unsaved (h.applied most) left
part_called g n (Does Flush) old new h is left =
    flush_part (flushes n) n.mark (lower n.plain.ap n.mark) _ old new
    ((steps_make_calls spellings g n.me).flush
    ∙ ap (λ (b : Bool). if b then Syncing ∷ Marking ∷ [] else []) h.of.flush)
    (λ e. h.unsaved (flush_stores n e)) left
part_called g n (Does ListTree) old new h is left =
    (no_calls n.mark _ old new (none_made g n.me (Does ListTree) tt) left).first
part_called g n (Does Power) old new h is left = absurd is
part_called g n (Does Crash) old new h is left = absurd is
part_called g n (Comes from m) old new h is left =
    marked_part g n (Comes from m) old new h.of refl left
