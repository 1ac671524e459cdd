-- The records of the state line of a step.
use Rattle.std.proofs.Common.{◌≡◌, ◌≤◌, Bool, true, false, List, [], ◌∷◌, ◌++◌, append_assoc, length, drop, Option, Some, None, refl, sym, ap, ◌∙◌, subst, arith, if◌then◌else◌}
use Rattle.std.proofs.lemmas.List.Sums.{fold-append}
use Rattle.harp_types.specs.declared.state.StateLine.{StateLine}
use Rattle.trace_types.specs.declared.step.Step.{Step}
use Rattle.trace_types.specs.declared.line.Line.{Line}
use Rattle.trace_types.specs.declared.line.Line.TheVariants as line
use Rattle.trace_claims.specs.LocalSteps.{Adds, AddsRecords, PacketBrings, last_shown, later_shown, records}
use Rattle.trace_claims.specs.Servers.{first_state}
use Rattle.trace_claims.specs.Trace.{AtPlacesAfter, Trace, step_under_way, steps}
use Rattle.trace_claims.proofs.Places.{places-append, step_under_way-append, steps-append}
use Rattle.file_tree.specs.Book.{Entry}
use Rattle.group_rules.specs.Moves.{Booting, Move, acts}
use Rattle.group_rules.specs.Names.{id_of, place_of}
use Rattle.group_rules.specs.Places.{Place}
use Rattle.group_rules.specs.State.{Group, Server}
use Rattle.group_rules.specs.Step.{Ask, Comes, Does, Input, step_of}
use Rattle.group_safety.specs.Laws.{DeliveryGrows}
use Rattle.group_trace.specs.Lines.{answered_lines, entered_lines, listing_of, refused_lines, sent_lines, state_line, state_lines}
use Rattle.group_rules.specs.Shown.{state_of}
use Rattle.group_trace.specs.Shown.{same_shown, shown_of}
use Rattle.trace_laws.proofs.After.{moved_server}
use Rattle.trace_laws.proofs.Asked.{with_event}
use Rattle.trace_laws.proofs.Keeping.{turn_group, turn_lines, turn_whole}
use Rattle.trace_laws.proofs.LineParts.{AreStateless, IsStateless, entered_begin, said_begin, said-answered, said-append, said-refused, said-sent}
use Rattle.trace_laws.proofs.LocalLaws.{came_packet, way_goes}
use Rattle.trace_laws.proofs.RecordLaws.{Counted, adds_none, boot_less, brings_grown, brings_less, deed_grown, deed_less, delivery_grown, shown_records, stateless_shown, up_records}
use Rattle.trace_laws.proofs.Standing.{Stands, before_state, before_stateless, parts_are, stateless-listing}
use Rattle.trace_laws.proofs.Turns.{IsBegunBy, Made, Turned, asked, boot, came, fell, other, whole}

-- ---- what a step adds

-- the records of the server that stepped, which is up
step_adds : (before more : Trace) (g : Group Entry) → Stands before g → Counted before g
    → (s : Step) (q : Place) (i : Input) (ms : List (Move Entry)) → IsBegunBy g s q i
    → Made g q i ms → (acts q (g.clock q) (g.server q) ms).up ≡ true
    → Adds (before ++ more) (Some s) (records (last_shown before (id_of q)))
    (length (acts q (g.clock q) (g.server q) ms).items)
step_adds before more g h c _ _ _ _ (asked server client number cred call) (whole size up) u =
    let there = up_records before g h (place_of server) up in
    let one = deed_grown size g (place_of server) (Ask client number cred call) up in
    omega arith
step_adds before more g h c _ _ _ _ (asked server client number cred call) (boot down) u =
    let less = boot_less before g c (place_of server) in
    omega arith
step_adds before more g h c _ _ _ _ (came n p is) (whole size up) u =
    subst (λ o. PacketBrings o (records (last_shown before (id_of p.to))) (length
    (acts p.to (g.clock p.to) (g.server p.to) (step_of size g p.to (Comes p.from p.body))).items))
    (sym (came_packet before more g h n p is))
    (brings_grown p.body _ _ (subst (λ k. DeliveryGrows p.body k (length
    (acts p.to (g.clock p.to) (g.server p.to) (step_of size g p.to (Comes p.from p.body))).items))
    (sym (up_records before g h p.to up)) (delivery_grown size g n p is up)))
step_adds before more g h c _ _ _ _ (came n p is) (boot down) u =
    subst (λ o. PacketBrings o (records (last_shown before (id_of p.to))) (length
    (acts p.to (g.clock p.to) (g.server p.to) (Booting g.delta ∷ [])).items))
    (sym (came_packet before more g h n p is))
    (brings_less p.body _ _ (boot_less before g c p.to))
step_adds before more g h c _ _ _ _ (other s q d o n) (whole size up) u =
    adds_none (before ++ more) s _ _ o (subst (λ k. length
    (acts q (g.clock q) (g.server q) (step_of size g q (Does d))).items ≤ k)
    (sym (up_records before g h q up)) (deed_less d _ _ n (deed_grown size g q d up)))
step_adds before more g h c _ _ _ _ (other s q d o n) (boot down) u =
    adds_none (before ++ more) s _ _ o (boot_less before g c q)
step_adds before more g h c s q i _ b (fell up) u = absurd cc

-- ---- the state line of a step

no_state_line : (ls : List Line) (before : Trace) → AreStateless ls
    → AtPlacesAfter AddsRecords before ls
no_state_line [] before h = tt
no_state_line (l ∷ ls) before h = (one l h.0, no_state_line ls (before ++ l ∷ []) h.1)
  where
    one : (l : Line) → IsStateless l → AddsRecords before l
    one (line.State server state) h = absurd h
    one l h = tt

-- a state line, where there is one
state_adds : (before : Trace) (q : Place) (old new : Option StateLine)
    → ((st : StateLine) → new ≡ Some st → AddsRecords before (line.State (id_of q) st))
    → AtPlacesAfter AddsRecords before (state_lines q old new)
state_adds before q old new f = by (same_shown old new) new f
  where
    by : (b : Bool) (new : Option StateLine)
        → ((st : StateLine) → new ≡ Some st → AddsRecords before (line.State (id_of q) st))
        → AtPlacesAfter AddsRecords before (if b then [] else state_line q new ∷ [])
    by true new f = tt
    by false None f = (tt, tt)
    by false (Some st) f = (f st refl, tt)

before_begins : (g g' : Group Entry) (q : Place) (ms : List (Move Entry))
    → steps (before_state g g' q ms) ≡ []
before_begins g g' q ms =
    let e = entered_lines (length g.book) (drop (length g.book) g'.book) in
    let rest = answered_lines q ms
    ++ (refused_lines q ms ++ sent_lines (length g.packets) q ms) in
    steps-append e rest ∙ ap (λ ss. ss ++ steps rest) (entered_begin (length g.book) _)
    ∙ said_begin rest (said-append (answered_lines q ms) _ (said-answered q ms)
    (said-append (refused_lines q ms) _ (said-refused q ms) (said-sent (length g.packets) q ms)))

pub records_step : (before : Trace) (g : Group Entry) → Stands before g → Counted before g
    → (s : Step) (q : Place) (i : Input) (ms : List (Move Entry)) → Turned g s q i ms
    → AtPlacesAfter AddsRecords before (turn_lines g s q ms)
records_step before g h c s q i ms t =
    let ls = listing_of g s in
    let start = with_event before s in
    let front = before_state g g' q ms in (
      tt,
      subst (AtPlacesAfter AddsRecords start) (sym (parts_are g g' q ms ls))
          (places-append AddsRecords start front _
          (no_state_line front start (before_stateless g g' q ms))
          (places-append AddsRecords (start ++ front) _ ls
          (state_adds (start ++ front) q (shown_of (g.server q)) (shown_of (g'.server q)) there)
          (no_state_line ls _ (stateless-listing g s)))),
    )
  where
    g' : Group Entry
    g' = turn_group g q ms

    is : g'.server q ≡ acts q (g.clock q) (g.server q) ms
    is = moved_server ms g q (g.server q) refl

    shows : (b : Bool) (st : StateLine)
        → (if b then Some (state_of (g'.server q)) else None) ≡ Some st
        → (b ≡ true) × (state_of (g'.server q) ≡ st)
    shows true st e = (refl, cc)
    shows false st e = absurd cc

    there : (st : StateLine) → shown_of (g'.server q) ≡ Some st
        → AddsRecords (with_event before s ++ before_state g g' q ms) (line.State (id_of q) st)
    there st e =
        let start = with_event before s in
        let front = before_state g g' q ms in
        let b = start ++ front in
        let up = shows (g'.server q).up st e in
        let way : step_under_way b ≡ Some s =
        way_goes start front s (step_under_way-append before (line.Event s ∷ []))
        (before_begins g g' q ms) in
        let last : last_shown b (id_of q) ≡ last_shown before (id_of q) =
        fold-append (later_shown (id_of q)) (first_state (id_of q)) start front
        ∙ stateless_shown front (id_of q) _ (before_stateless g g' q ms)
        ∙ fold-append (later_shown (id_of q)) (first_state (id_of q)) before
        (line.Event s ∷ []) in
        let count : records st ≡ length (acts q (g.clock q) (g.server q) ms).items =
        ap records (sym up.1) ∙ shown_records g' (turn_whole g s q i ms t) q
        ∙ ap (λ (y : Server Entry). length y.items) is in
        let adds = step_adds before (line.Event s ∷ front) g h c s q i ms t.begun t.made
        (sym (ap (λ (y : Server Entry). y.up) is) ∙ up.0) in
        rw (way, ap records last, count) (subst (λ x. Adds x (Some s)
        (records (last_shown before (id_of q)))
        (length (acts q (g.clock q) (g.server q) ms).items))
        (sym (append_assoc before (line.Event s ∷ []) front)) adds)
