-- The log that a storer goes on with is the machine's.
use Rattle.std.proofs.Common.{◌≡◌, ℕ, ◌+◌, ◌-◌, ◌≤◌, ◌⊎◌, List, ◌++◌, take, max, Bool, true, false, refl, ap, sym, subst, ◌∙◌, inl, inr, arith, if◌then◌else◌}
use Rattle.std.specs.Prelude.{map}
use Rattle.std.proofs.lemmas.List.{length-append, length-drop, length-map, length-take}
use Rattle.event_record.specs.Record.{entry_of}
use Rattle.event_record.specs.declared.record.RecordFields.{RecordFields}
use Rattle.file_tree.specs.Book.{Entry}
use Rattle.group_rules.specs.Form.{adopted, keeps}
use Rattle.group_rules.proofs.Tests.{if_is, if_not}
use Rattle.group_rules.specs.Limits.{by_held, is_log}
use Rattle.group_rules.specs.Places.{Place, is_p2, same}
use Rattle.group_rules.specs.State.{Plan, Server}
use Rattle.idle_log.specs.Kept.{cp_in, held_in, lb_in, log_in, with_kept}
use Rattle.idle_log.specs.Pulls.{CanTake, IsFor, TakesUp, adopted_records, needless}
use Rattle.idle_log.specs.declared.kept.Kept.{Kept}
use Rattle.idle_log.specs.declared.kept.Kept.TheVariants as kept
use Rattle.idle_log.proofs.Logs.{adopts_held, resumes}
use Rattle.idle_log.specs.LogLaws.{new_log}
use Rattle.volatile_log.specs.Log.{IsLog, LogValue, StagedValue, adopted_by_empty, adopted_by_lost, adopted_log, committed_to, next, resumed_log, top}

-- ---- which logs go on

keeps_source : (b c : Bool) → c ≡ true → (if b then c else true) ≡ true
keeps_source true c is = is
keeps_source false c is = refl

pub source_goes_on : (q : Place) (l : LogValue) (plan : Plan) → CanTake q (kept.Held l) plan
    → same q plan.source ≡ true
    → l.base ≤ plan.base
source_goes_on q l plan h source = h.goes_on (keeps_source (is_p2 q) (same q plan.source) source)

pub other_goes_on : (q : Place) (l : LogValue) (plan : Plan) → CanTake q (kept.Held l) plan
    → is_p2 q ≡ false → l.base ≤ plan.base
other_goes_on q l plan h stores = h.goes_on (if_not (is_p2 q) (same q plan.source) true stores)

-- the log of a source has all that the view starts with
pub source_is_whole : (q : Place) (l : LogValue) (plan : Plan) → CanTake q (kept.Held l) plan
    → same q plan.source ≡ true
    → top l ≡ plan.start
source_is_whole q l plan h source = omega (arith, h.source source, length-map l.records entry_of)

-- what it drops is on its disk; at the witness LB and AP stand at the base
on_disk_at : (b : Bool) (q : Place) (l : LogValue) (plan : Plan) → CanTake q (kept.Held l) plan
    → is_p2 q ≡ b
    → ((is_p2 q ≡ false) × (plan.base ≤ l.lb)) ⊎ ((is_p2 q ≡ true) × (l.lb ≡ l.base) × (l.ap
    ≡ l.base))
on_disk_at true q l plan h is = inr (is, (h.placed is).0, (h.placed is).1)
on_disk_at false q l plan h is = inl (is, h.disk 0 is)

on_disk : (q : Place) (l : LogValue) (plan : Plan) → CanTake q (kept.Held l) plan
    → ((is_p2 q ≡ false) × (plan.base ≤ l.lb)) ⊎ ((is_p2 q ≡ true) × (l.lb ≡ l.base) × (l.ap
    ≡ l.base))
on_disk q l plan h = on_disk_at (is_p2 q) q l plan h refl

pub drops_low : (q : Place) (l : LogValue) (plan : Plan) → CanTake q (kept.Held l) plan
    → (plan.base ≤ l.lb) ⊎ ((l.lb ≡ l.base) × (l.ap ≡ l.base))
drops_low q l plan h = elim (on_disk q l plan h) [
  | inl low ↦ inl low.1
  | inr none ↦ inr
      (none.1, none.2)
]

pub resumed_top : (l : LogValue) (base : ℕ) → l.base ≤ base → base ≤ top l
    → top (resumed_log l base) ≡ top l
resumed_top l base from to = omega (arith, length-drop (base - l.base) l.records, from, to)

pub needless_held : (q : Place) (l : LogValue) (plan : Plan) → same q plan.source ≡ false
    → is_p2 q ≡ false
    → needless q (kept.Held l) plan ≡ l.cp
needless_held q l plan other stores = rw (other, stores) refl

-- ---- the logs

-- whatever a source has staged doesn't count
source_alone : (q : Place) (s : Server Entry) (plan : Plan) (xs ys : List Entry)
    → same q plan.source ≡ true
    → adopted q s plan xs ≡ adopted q s plan ys
source_alone q s plan xs ys source = rw source refl

pub source_takes_up : (q : Place) (l : LogValue) (plan : Plan) (staged : List RecordFields)
    (log : LogValue) → IsLog l
    → CanTake q (kept.Held l) plan → same q plan.source ≡ true
    → log ≡ committed_to (resumed_log l plan.base) (max (resumed_log l plan.base).cp plan.cp)
    → TakesUp q (kept.Held l) plan staged log
source_takes_up q l plan staged log h can source is =
    let from = source_goes_on q l plan can source in
    let whole = source_is_whole q l plan can source in
    record {
      adopts = λ s. ap new_log is ∙ resumes q s l plan h source from (on_disk q l plan can)
          ∙ source_alone q (with_kept s (kept.Held l)) plan _ (map entry_of staged) source;
      records = λ s. ap (λ (x : LogValue). x.records) is
          ∙ sym (if_is (same q plan.source) _ _ source);
      top = ap top is ∙ resumed_top l plan.base from (omega (arith, whole, can.base)) ∙ whole;
      placed = λ p2. rw is (
        omega (arith, (can.placed p2).0, from),
        omega (
          arith,
          (can.placed p2).1,
          from,
        ),
      );
    }

pub held_takes_up : (q : Place) (l : LogValue) (plan : Plan) (staged : StagedValue)
    (log : LogValue) → IsLog l
    → CanTake q (kept.Held l) plan → same q plan.source ≡ false → is_p2 q ≡ false
    → IsFor q (kept.Held l) plan staged → next staged ≡ staged.start + 1
    → log ≡ adopted_log l staged.records plan.base plan.cp
    → TakesUp q (kept.Held l) plan staged.records log
held_takes_up q l plan staged log h can other stores for full is =
    let from = other_goes_on q l plan can stores in
    let low = can.disk 0 stores in
    let all = length-append (take (l.cp - l.base) l.records) staged.records in
    let left = length-drop (plan.base - l.base) (take
    (l.cp - l.base) l.records ++ staged.records) in
    let front = length-take (l.cp - l.base) l.records in
    record {
      adopts = λ s. ap new_log is ∙ adopts_held q s l plan staged.records h other stores low;
      records = λ s. ap (λ (x : LogValue). x.records) is
          ∙ sym (if_not (same q plan.source) _ _ other
          ∙ if_is (keeps q (with_kept s (kept.Held l)) plan) _ _
          (if_not (is_p2 q) (same q plan.source) true stores));
      top = ap top is ∙ omega (
        arith,
        all,
        left,
        front,
        h.lb,
        h.ap,
        h.cp,
        from,
        low,
        full,
        for.0,
        for.1,
        needless_held
            q l plan other stores,
      );
      placed = λ p2. absurd (let clash : true ≡ false = sym p2 ∙ stores in cc);
    }

-- a lost data server has what it pulled
pub lost_records : (q : Place) (lb : ℕ) (plan : Plan) (staged : List RecordFields)
    (log : LogValue) → same q plan.source ≡ false → log ≡ adopted_by_lost lb staged plan.base plan.cp
    → (s : Server Entry) → log.records
    ≡ adopted_records q (with_kept s (kept.Lost lb)) plan (log_in (kept.Lost lb)).records staged
lost_records q lb plan staged log other is s = ap (λ (x : LogValue). x.records) is
    ∙ sym (if_not (same q plan.source) _ _ other)

no_matter : (b : Bool) (xs ys : List RecordFields) → (if (if b then false else false) then xs else ys) ≡ ys
no_matter true xs ys = refl
no_matter false xs ys = refl

-- and so has the witness
pub witness_records : (q : Place) (k : Kept) (plan : Plan) (staged : List RecordFields)
    (log : LogValue) (cp : ℕ) → same q plan.source ≡ false → is_p2 q ≡ true
    → log ≡ adopted_by_empty staged plan.base cp
    → (s : Server Entry) → log.records
    ≡ adopted_records q (with_kept s k) plan (log_in k).records staged
witness_records q k plan staged log cp other p2 is s = ap (λ (x : LogValue). x.records) is
    ∙ sym (rw (other, p2) (no_matter (is_log (held_in k)) _ staged))

pub cp_told : (lb : ℕ) (k : Kept) → by_held (held_in k) (cp_in k) (lb_in lb k) ≡ cp_in k
cp_told lb (kept.Held l) = refl
cp_told lb (kept.Lost n) = refl
cp_told lb (kept.Empty e) = refl

-- what a held data server has of the view
pub held_bounds : (q : Place) (k : Kept) (plan : Plan) (l : LogValue) → k ≡ kept.Held l
    → CanTake q k plan → is_p2 q ≡ false
    → IsLog l → (plan.base ≤ l.cp) × (l.cp ≤ plan.start)
held_bounds q k plan l is can stores h =
    let here = subst (λ (x : Kept). CanTake q x plan) is can in
    (omega (arith, here.disk 0 stores, h.lb, h.ap), here.covered)
