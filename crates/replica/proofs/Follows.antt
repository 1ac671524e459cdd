-- A partner's steps.
use Rattle.std.proofs.Common.{◌≡◌, ℕ, ◌+◌, ◌-◌, ◌<◌, ◌≤◌, ◌==◌, Bool, true, false, List, [], ◌∷◌, ◌++◌, Option, Some, refl, sym, ap, ◌∙◌, arith, subst, if◌then◌else◌}
use Rattle.std.specs.Prelude.{drop, length, max, min}
use Rattle.std.proofs.lemmas.Bool.{eq-eqb}
use Rattle.std.proofs.lemmas.List.{append-nil, drop-append-le, length-append, length-drop, map-append}
use Rattle.event_record.specs.Record.{entry_of}
use Rattle.event_record.specs.declared.record.RecordFields.{RecordFields}
use Rattle.file_tree.specs.Book.{Entry}
use Rattle.group_rules.specs.Limits.{is_active, room}
use Rattle.group_rules.specs.Moves.{Heeding, Sending}
use Rattle.group_rules.specs.Places.{Zero, One, Two, Place, all_of, same}
use Rattle.group_rules.specs.Replicate.{on_event}
use Rattle.group_rules.specs.State.{Ack, Live, Message, Server}
use Rattle.node_outputs.specs.Makes.{Makes, with_moves}
use Rattle.node_outputs.specs.Said.{said}
use Rattle.node_outputs.specs.declared.outputs.Outputs.{Outputs}
use Rattle.node_outputs.proofs.Makes.{same_said}
use Rattle.replica.proofs.Lists.{entries_drop, entries_length}
use Rattle.replica.specs.Following.{Following, acknowledged, followed, leader_of, mode_followed, place_followed, settled, with_next}
use Rattle.replica.specs.Leading.{Outer, at_horizon, entries}
use Rattle.volatile_log.specs.Log.{LogValue, dropped_to, top, with_record}
use Rattle.promise.specs.Promise.{HorizonValue}

pub same_place : (q : Place) → same q q ≡ true
same_place Zero = refl
same_place One = refl
same_place Two = refl

active : (settled : Bool) (v : ℕ) → all_of (is_active (mode_followed settled) ∷ (v == v) ∷ [])
    ≡ true
unfolding all_of
active true v = rw (eq-eqb v v refl) refl
active false v = rw (eq-eqb v v refl) refl

both_hold : all_of (true ∷ true ∷ []) ≡ true
unfolding all_of
both_hold = refl

heeded_tests : (settled : Bool) (v : ℕ) (q : Place)
    → all_of (all_of (is_active (mode_followed settled) ∷ (v == v) ∷ []) ∷ same q q ∷ []) ≡ true
heeded_tests settled v q = rw (active settled v, same_place q) both_hold

-- what a partner does that takes its log to this one, of these entries, and acknowledges
pub heeded : (f : Following) (o : Outer) (h : HorizonValue) (g : LogValue) (items : List Entry)
    (cp base now : ℕ) (before after : Outputs)
    → g.base ≡ max f.log.base base → g.lb ≡ f.log.lb → g.ap ≡ f.log.ap → g.cp ≡ f.log.cp
    → entries g ≡ drop (base - f.log.base) items → top g ≡ f.log.base + length items
    → said after ≡ record (said before) {
      sends = (said before).sends ++ acknowledged
          (record f { log = g }) (now + h.delta) ∷ [];
    }
    → Makes (place_followed f o) now (on_event (place_followed f o) now (followed f
    (at_horizon o h)) (leader_of f.ahead) f.view cp base items) []
    (followed f (at_horizon o h)) (followed (settled (record f { log = g }) cp) (at_horizon o
    (record h { until = max h.until (now + h.delta) })))
    before after
heeded f o h g items cp base now before after base_is lb_is ap_is cp_is items_is top_is told =
    let q = place_followed f o in
    let s = followed f (at_horizon o h) in
    let until = now + h.delta in
    let F : ℕ → ℕ → ℕ → ℕ → List Entry → Server Entry = λ b lb a c es. record s {
      mode = Live;
      base = b;
      lb = lb;
      ap = a;
      cp = c;
      items = es;
      horizon = max h.until until;
    } in
    let tests = heeded_tests f.settled f.view q in
    let top' = f.log.base + length items in
    let state : F g.base g.lb g.ap (max g.cp (min cp (top g))) (entries g)
    ≡ F (max f.log.base base) f.log.lb f.log.ap (max f.log.cp (min cp top')) (drop
    (base - f.log.base) items) =
    ap (λ b. F b g.lb g.ap (max g.cp (min cp (top g))) (entries g)) base_is
    ∙ ap (λ n. F (max f.log.base base) n g.ap (max g.cp (min cp (top g))) (entries g)) lb_is
    ∙ ap (λ n. F (max f.log.base base) f.log.lb n (max g.cp (min cp (top g))) (entries g)) ap_is
    ∙ ap (λ n. F (max f.log.base base) f.log.lb f.log.ap (max n (min cp (top g))) (entries g)) cp_is
    ∙ ap (λ n. F (max f.log.base base) f.log.lb f.log.ap (max f.log.cp (min cp n))
    (entries g)) top_is
    ∙ ap (λ es. F (max f.log.base base) f.log.lb f.log.ap (max f.log.cp
    (min cp top')) es) items_is in
    let sends : acknowledged (record f { log = g }) until
    ≡ (leader_of f.ahead, Some (Ack f.view top' f.log.lb until)) =
    ap (λ n. let x : Place × Option (Message Entry) = (
      leader_of f.ahead,
      Some
          (Ack f.view n g.lb until),
    ) in x) top_is
    ∙ ap (λ n. let x : Place × Option (Message Entry) = (
      leader_of f.ahead,
      Some
          (Ack f.view top' n until),
    ) in x) lb_is in
    let b = said before in
    let spoken : said after ≡ with_moves q now s (Heeding items cp base ∷ Sending
    (leader_of f.ahead) (Ack f.view top' f.log.lb until) ∷ []) [] b =
    told
    ∙ ap (λ (x : Place × Option (Message Entry)). record b { sends = b.sends ++ x ∷ [] }) sends
    ∙ same_said _ _ (sym (append-nil b.committed)) (sym (append-nil b.answers)) (sym
    (append-nil b.refusals)) refl refl refl refl in
    rw tests (let x : Makes q now (Heeding items cp base ∷ Sending (leader_of f.ahead)
    (Ack f.view top' f.log.lb until) ∷ []) [] s
    (followed (settled (record f { log = g }) cp) (at_horizon o
    (record h { until = max h.until until }))) before after
    = record { state = state; said = spoken } in x)

-- the log after a Beat, and after an Event
pub dropped_entries : (log : LogValue) (base : ℕ) → entries (dropped_to log (max log.base base))
    ≡ drop (base - log.base) (entries log)
dropped_entries log base =
    let n : max log.base base - log.base ≡ base - log.base = omega arith in
    entries_drop log (max log.base base - log.base) ∙ ap (λ k. drop k (entries log)) n

pub dropped_top : (log : LogValue) (base : ℕ) → base ≤ top log
    → top (dropped_to log (max log.base base)) ≡ log.base + length (entries log)
dropped_top log base within =
    let left = length-drop (max log.base base - log.base) log.records in
    let many = entries_length log in
    omega (arith, left, many, within)

taken_entries : (same : Bool) (log : LogValue) (r : RecordFields) (base : ℕ) → base ≤ top log
    → entries (if same then with_record (dropped_to log
    (max log.base base)) r else dropped_to log (max log.base base))
    ≡ drop (base - log.base) (if same then entries log ++ entry_of r ∷ [] else entries log)
taken_entries true log r base within =
    let g = dropped_to log (max log.base base) in
    let many = entries_length log in
    map-append entry_of g.records (r ∷ [])
    ∙ ap (λ es. es ++ entry_of r ∷ []) (dropped_entries log base)
    ∙ sym (drop-append-le (base - log.base) (entries log) (entry_of r ∷ []) (omega
    (arith, within, many)))
taken_entries false log r base within = dropped_entries log base

taken_top : (same : Bool) (log : LogValue) (r : RecordFields) (base : ℕ) → base ≤ top log
    → top (if same then with_record (dropped_to log (max log.base base)) r else dropped_to log
    (max log.base base))
    ≡ log.base + length (if same then entries log ++ entry_of r ∷ [] else entries log)
taken_top true log r base within =
    let left = length-drop (max log.base base - log.base) log.records in
    let more = length-append (drop (max log.base base - log.base) log.records) (r ∷ []) in
    let all = length-append (entries log) (entry_of r ∷ []) in
    let many = entries_length log in
    omega (arith, left, many, within, more, all)
taken_top false log r base within = dropped_top log base within

-- the record is the next one where the machine says so
next_same : (log : LogValue) (r : RecordFields) (base : ℕ) → base ≤ top log
    → (r.index == top (dropped_to log (max log.base base)) + 1)
    ≡ (r.index == log.base + length (entries log) + 1)
next_same log r base within = ap (λ n. r.index == n + 1) (dropped_top log base within)

pub event_entries : (log : LogValue) (r : RecordFields) (base : ℕ) → base ≤ top log
    → entries (with_next (dropped_to log (max log.base base)) r)
    ≡ drop (base - log.base) (if r.index == log.base + length
    (entries log) + 1 then entries log ++ entry_of r ∷ [] else entries log)
event_entries log r base within = rw (next_same log r base within) (taken_entries
    (r.index == log.base + length (entries log) + 1) log r base within)

pub event_top : (log : LogValue) (r : RecordFields) (base : ℕ) → base ≤ top log
    → top (with_next (dropped_to log (max log.base base)) r)
    ≡ log.base + length (if r.index == log.base + length
    (entries log) + 1 then entries log ++ entry_of r ∷ [] else entries log)
event_top log r base within = rw (next_same log r base within) (taken_top
    (r.index == log.base + length (entries log) + 1) log r base within)

-- what a record leaves of a log's numbers
pub next_numbers : (log : LogValue) (r : RecordFields) → ((with_next log r).base ≡ log.base)
    × ((with_next log r).lb ≡ log.lb) × ((with_next log r).ap ≡ log.ap) × ((with_next log r).cp
    ≡ log.cp)
next_numbers log r = numbers (r.index == top log + 1)
  where
    numbers : (same : Bool) → ((if same then with_record log r else log).base ≡ log.base)
        × ((if same then with_record log r else log).lb ≡ log.lb)
        × ((if same then with_record log r else log).ap ≡ log.ap)
        × ((if same then with_record log r else log).cp ≡ log.cp)
    numbers true = (refl, refl, refl, refl)
    numbers false = (refl, refl, refl, refl)

-- ---- an Event and a Beat

-- a partner makes the moves of an Event or a Beat that takes its log to these entries
abbrev pub Heeds : Following → HorizonValue → Following → HorizonValue → (now cp base : ℕ)
    → List Entry → Outputs → Outputs → Type 0
Heeds f h new h2 now cp base items before after = (o : Outer)
    → Makes (place_followed f o) now (on_event (place_followed f o) now (followed f
    (at_horizon o h)) (leader_of f.ahead) f.view cp base items) []
    (followed f (at_horizon o h)) (followed new (at_horizon o h2)) before after

heeds_at : (f new : Following) (h h2 : HorizonValue) (g : LogValue) (now cp base : ℕ)
    (items : List Entry) (before after : Outputs)
    → Heeds f h (settled (record f { log = g }) cp) (record h {
      until = max h.until
          (now + h.delta);
    }) now cp base items before after
    → new ≡ settled (record f { log = g }) cp → h2
    ≡ record h { until = max h.until (now + h.delta) }
    → Heeds f h new h2 now cp base items before after
heeds_at f new h h2 g now cp base items before after made new_is h_is =
    subst (λ (x : Following). Heeds f h x h2 now cp base items before after) (sym new_is)
    (subst (λ (x : HorizonValue). Heeds f h (settled
    (record f { log = g }) cp) x now cp base items before after) (sym h_is) made)

pub heeds_beat : (f mid new : Following) (h h2 : HorizonValue) (now cp base : ℕ)
    (before after : Outputs)
    → mid ≡ record f { log = dropped_to f.log (max f.log.base base) } → new ≡ settled mid cp
    → h2 ≡ record h { until = max h.until (now + h.delta) } → base ≤ top f.log
    → said after ≡ record (said before) {
      sends = (said before).sends ++ acknowledged mid
          (now + h.delta) ∷ [];
    }
    → Heeds f h new h2 now cp base (entries f.log) before after
heeds_beat f mid new h h2 now cp base before after mid_is new_is h_is within told =
    let g = dropped_to f.log (max f.log.base base) in
    heeds_at f new h h2 g now cp base (entries f.log) before after
    (λ o. heeded f o h g (entries f.log) cp base now before after refl refl refl refl
    (dropped_entries f.log base) (dropped_top f.log base within)
    (told ∙ ap (λ (x : Following). record (said before) {
      sends =
          (said before).sends ++ acknowledged x (now + h.delta) ∷ [];
    }) mid_is))
    (new_is ∙ ap (λ (x : Following). settled x cp) mid_is) h_is

pub heeds_event : (f dropped mid new : Following) (h h2 : HorizonValue) (now cp base : ℕ)
    (r : RecordFields) (before after : Outputs)
    → dropped ≡ record f { log = dropped_to f.log (max f.log.base base) } → mid
    ≡ record dropped { log = with_next dropped.log r }
    → new ≡ settled mid cp → h2 ≡ record h { until = max h.until (now + h.delta) }
    → base ≤ top f.log
    → said after ≡ record (said before) {
      sends = (said before).sends ++ acknowledged mid
          (now + h.delta) ∷ [];
    }
    → Heeds f h new h2 now cp base (if r.index == f.log.base + length
    (entries f.log) + 1 then entries f.log ++ entry_of r ∷ [] else entries f.log) before after
heeds_event f dropped mid new h h2 now cp base r before after dropped_is mid_is new_is h_is within
    told =
    let log = dropped_to f.log (max f.log.base base) in
    let g = with_next log r in
    let items = if r.index == f.log.base + length
    (entries f.log) + 1 then entries f.log ++ entry_of r ∷ [] else entries f.log in
    let at : mid ≡ record f { log = g } = mid_is
    ∙ ap (λ (x : Following). record x { log = with_next x.log r }) dropped_is in
    let n = next_numbers log r in
    heeds_at f new h h2 g now cp base items before after
    (λ o. heeded f o h g items cp base now before after n.0 n.1 n.2 n.3
    (event_entries f.log r base within) (event_top f.log r base within)
    (told ∙ ap (λ (x : Following). record (said before) {
      sends =
          (said before).sends ++ acknowledged x (now + h.delta) ∷ [];
    }) at))
    (new_is ∙ ap (λ (x : Following). settled x cp) at) h_is

-- there is room for the next record after the drop
pub room_left : (f dropped : Following) (base index : ℕ) → dropped
    ≡ record f { log = dropped_to f.log (max f.log.base base) } → base ≤ top f.log
    → (index ≡ top f.log + 1 → length f.log.records < room + (base - f.log.base)) → index
    ≡ top dropped.log + 1 → length dropped.log.records < room
room_left f dropped base index is within enough =
    let P : Following → Type 0 = λ x. index ≡ top x.log + 1 → length x.log.records < room in
    subst P (sym is) (λ next. (
    let left = length-drop (max f.log.base base - f.log.base) f.log.records in
    let more = enough (omega (arith, left, within, next)) in
    omega (arith, left, more, within, next)
    ))
