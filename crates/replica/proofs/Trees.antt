-- How trees can still be read.
use Rattle.std.proofs.Common.{◌≡◌, ℕ, ◌+◌, ◌≤◌, ◌-◌, Bool, true, false, length, if◌then◌else◌, List, [], ◌∷◌, ◌++◌, Option, max, sym, ap, ◌∙◌, subst, arith}
use Rattle.std.specs.Prelude.{◌==◌, drop, OnOk, Result, Ok, Err}
use Rattle.std.proofs.lemmas.List.{append-nil, drop-append-le, length-drop}
use Rattle.event_record.specs.declared.record.RecordFields.{RecordFields}
use Rattle.file_tree.specs.Book.{Entry}
use Rattle.harp_types.specs.Update.{is_update}
use Rattle.harp_store.specs.Disk.{Moments}
use Rattle.tree_log.specs.Reading.{HoldsTree, IsNextRecord}
use Rattle.tree_log.proofs.Holding.{committed_holds}
use Rattle.replica.specs.Commits.{IsUnderWay, noted}
use Rattle.replica.specs.Following.{Following, next_of, settled, with_next}
use Rattle.replica.specs.Leading.{Leading}
use Rattle.replica.specs.Trees.{KeepsTree, KeepsTreeOfNext}
use Rattle.node_outputs.specs.Said.{Said}
use Rattle.volatile_log.specs.Log.{LogValue, committed_to, dropped_to, top, with_record}

-- commits leave what can be read
pub commits_keep : (old new : LogValue) (n : ℕ) → new ≡ committed_to old n → KeepsTree old new
commits_keep old new n is list upto told h =
    subst (λ (g : LogValue). HoldsTree list upto g told) (sym is)
    (committed_holds list upto n old told h)

-- and so do those of an Ack
pub acks_keep : (l mid new : Leading) (t lb until : ℕ) (before after : Said)
    → mid ≡ noted t lb until l → IsUnderWay t mid new before after → KeepsTree l.log new.log
acks_keep l mid new t lb until before after is way =
    commits_keep l.log new.log new.log.cp (ap (λ (x : Leading). x.log) way.state
    ∙ ap (λ (m : Leading). committed_to m.log new.log.cp) is)

-- ---- an Event

pub next_keeps : {A E : Type 0} (result : Result A E) (r : RecordFields) (old new : LogValue)
    → r.index ≡ top old + 1
    → ((list : List Entry) (upto : ℕ) (told : Option Moments) (e : Entry) → upto ≤ top old
    → IsNextRecord list e r → is_update e.call ≡ true → HoldsTree list upto old told
    → OnOk result (HoldsTree (list ++ e ∷ []) upto new told))
    → OnOk result (KeepsTreeOfNext r old new)
next_keeps (Ok x) r old new at grows = record {
  next = λ list upto told e le here is update h. grows list upto told e le is update h;
  other = λ not. absurd (not at);
}
next_keeps (Err e) r old new at grows = tt

-- a drop before it and a commit behind it
pub between_keeps : (r : RecordFields) (old dropped taken new : LogValue)
    → top dropped ≡ top old → KeepsTree old dropped → KeepsTreeOfNext r dropped taken
    → KeepsTree taken new → KeepsTreeOfNext r old new
between_keeps r old dropped taken new tops drops takes commits = record {
  next = λ list upto told e le at is update h. commits (list ++ e ∷ []) upto told
      (takes.next list upto told e (omega (arith, le, tops)) (omega (arith, at, tops)) is update
      (drops list upto told h));
  other = λ not list upto told h. commits list upto told
      (takes.other (λ at. not (omega (arith, at, tops))) list upto told
      (drops list upto told h));
}

pub drop_tops : (f dropped : Following) (base : ℕ)
    → dropped ≡ record f { log = dropped_to f.log (max f.log.base base) } → base ≤ top f.log
    → top dropped.log ≡ top f.log
drop_tops f dropped base is within =
    let left = length-drop (max f.log.base base - f.log.base) f.log.records in
    let at : top (dropped_to f.log (max f.log.base base)) ≡ top f.log = omega (arith, left, within) in
    ap (λ (x : Following). top x.log) is ∙ at

-- ---- the records behind an Event

next_if : (b : Bool) (l : LogValue) (m base : ℕ) (r : RecordFields)
    → m - l.base ≡ base - l.base → base - l.base ≤ length l.records
    → let d = dropped_to l m in (if b then with_record d r else d).records
    ≡ drop (base - l.base) (l.records ++ (if b then r ∷ [] else []))
next_if true l m base r left within =
    ap (λ k. drop k l.records ++ r ∷ []) left
    ∙ sym (drop-append-le (base - l.base) l.records (r ∷ []) within)
next_if false l m base r left within =
    ap (λ k. drop k l.records) left ∙ ap (drop (base - l.base)) (sym (append-nil l.records))

pub event_records : (f dropped taken new : Following) (base cp : ℕ) (r : RecordFields)
    → dropped ≡ record f { log = dropped_to f.log (max f.log.base base) }
    → taken ≡ record dropped { log = with_next dropped.log r } → new ≡ settled taken cp
    → base ≤ top f.log
    → new.log.records ≡ drop (base - f.log.base) (f.log.records ++ next_of f.log r)
event_records f dropped taken new base cp r drops takes settles within =
    let m = max f.log.base base in
    let d = dropped_to f.log m in
    let tops : top d ≡ top f.log =
    (let n = length-drop (m - f.log.base) f.log.records in omega (arith, n, within)) in
    ap (λ (x : Following). x.log.records) settles
    ∙ ap (λ (x : Following). x.log.records) takes
    ∙ ap (λ (x : Following). (with_next x.log r).records) drops
    ∙ ap (λ k. (if r.index == k + 1 then with_record d r else d).records) tops
    ∙ next_if (r.index == top f.log + 1) f.log m base r (omega arith) (omega (arith, within))
