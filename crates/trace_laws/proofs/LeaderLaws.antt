-- Acknowledgement, promises and exclusive reading, at each place of a step's lines.
use Rattle.std.proofs.Common.{◌≡◌, ℕ, ◌<◌, ◌≤◌, ◌⊎◌, true, false, not, List, [], ◌∷◌, ◌++◌, append-nil, length, Some, refl, sym, ap, ◌∙◌, subst, inl, inr, arith, true≢false, le_trans, ⊎_elim, eq-or-lt_of_le}
use Rattle.std.specs.List.{AllByRecursion}
use Rattle.std.proofs.lemmas.List.Sums.{fold-append}
use Rattle.std.proofs.lemmas.Bool.{cases_Bool}
use Rattle.harp_types.specs.View.{View, above}
use Rattle.harp_types.specs.declared.server.ServerId.{ServerId}
use Rattle.harp_types.specs.declared.state.Mode.TheVariants as mode
use Rattle.harp_types.specs.declared.state.Role.TheVariants as role
use Rattle.harp_types.specs.declared.state.StateLine.{StateLine}
use Rattle.harp_types.specs.Update.{is_update}
use Rattle.trace_types.specs.declared.step.Step.{Step}
use Rattle.trace_types.specs.declared.step.Step.TheVariants as step
use Rattle.trace_types.specs.declared.line.Line.{Line}
use Rattle.trace_types.specs.declared.line.Line.TheVariants as line
use Rattle.trace_claims.specs.Acknowledged.{IsAcknowledged, WithinOpening, answers_read}
use Rattle.trace_claims.specs.Reading.{AnswersItsAsk, IsNotOpenAbove, IsOfItsAsk, ReadsExclusively, UsesPromise}
use Rattle.trace_claims.specs.Servers.{AckDelivered, HasShown, PromiseDelivered, clock_after, clock_next, first_open, last_state}
use Rattle.trace_claims.specs.Trace.{AtPlacesAfter, Trace, entries, step_under_way}
use Rattle.trace_claims.proofs.Places.{all-append}
use Rattle.file_tree.specs.Book.{Entry, updates}
use Rattle.group_safety.specs.Facts.{BodyOk}
use Rattle.group_rules.specs.Form.{role_of}
use Rattle.group_safety.specs.Laws.{Whole}
use Rattle.group_rules.specs.Moves.{Booting, Move, Reading, Saying, moved}
use Rattle.group_rules.specs.Names.{id_of, view_of}
use Rattle.group_rules.specs.Places.{Pair, Place, S01, S02, S12, leader, partner}
use Rattle.group_rules.specs.State.{Ack, Answers, Group, Leads, Message, Open, Page, Plan, Server}
use Rattle.group_rules.specs.Step.{Ask, Comes, Does, Input}
use Rattle.group_safety.specs.Words.{In, IsActive}
use Rattle.group_safety.proofs.Safe.{sent_known}
use Rattle.group_rules.specs.Shown.{role_shown, state_of}
use Rattle.trace_laws.proofs.Amid.{goes_later, goes_may}
use Rattle.trace_laws.proofs.Answering.{AckUpTo, tails_enter}
use Rattle.trace_laws.proofs.Asked.{asks_for, with_event}
use Rattle.trace_laws.proofs.Keeping.{acked_more, acks_came, clock_keeps, clock_stays, promise_more, turn_group, turn_lines, turn_whole}
use Rattle.trace_laws.proofs.OpenLines.{open_has_line}
use Rattle.trace_laws.proofs.LineParts.{AreStateless, entered_begin, stateless-entered}
use Rattle.trace_laws.proofs.Standing.{IsSound, Stands}
use Rattle.trace_laws.proofs.StateLines.{first_more, shown_less, shown_more}
use Rattle.trace_laws.proofs.StepLaws.{IsNoAnswer, answers_no_read, asks_read, book_there, its_state, law_step, new_lines, up_to_answers, way_there}
use Rattle.trace_laws.proofs.Turns.{IsBegunBy, Turned, asked, came, other}
use Rattle.trace_laws.proofs.Views.{above_is}

-- ---- an open leader

at_leader : (p : Pair) → role_of p (leader p) ≡ Leads (partner p)
at_leader S01 = refl
at_leader S02 = refl
at_leader S12 = refl

role_leads : (p : Pair) (q : Place) → q ≡ leader p → role_of p q ≡ Leads (partner p)
role_leads p q e = subst (λ x. role_of p x ≡ Leads (partner p)) (sym e) (at_leader p)

open_is_active : (s : Server Entry) → s.mode ≡ Open → IsActive s.mode
open_is_active s o = subst IsActive (sym o) tt

its_plan : (g : Group Entry) → Whole g → (q : Place) → (g.server q).mode ≡ Open → (g.server q).plan
    ≡ (g.page (g.server q).accepted).plan
its_plan g w q o = (w.ok.server q).modes.plan (open_is_active (g.server q) o)

-- it shows its partner
leads_partner : (before : Trace) (g : Group Entry) → Stands before g → (q : Place)
    → (g.server q).mode ≡ Open → (state_of (g.server q)).role ≡
    role.Leads (id_of (partner (g.server q).plan.storers))
leads_partner before g h q o =
    let s = g.server q in
    let known = ((h.roles q).known (open_is_active s o)).0 in
    let leads : q ≡ leader s.plan.storers = ((h.whole.ok.server q).modes.leads o).0
    ∙ ap (λ (p : Plan). leader p.storers) (sym (its_plan g h.whole q o)) in
    ap role_shown (known ∙ role_leads s.plan.storers q leads)

-- its CP is held twice
cp_twice : (g : Group Entry) → Whole g → (q : Place) → (g.server q).mode ≡ Open → (g.server q).cp ≤
    (g.page (g.server q).accepted).held_twice
cp_twice g w q o =
    let s = g.server q in
    let fine = w.ok.server q in
    let sure = (fine.logs.log (fine.modes.active (open_is_active s o)).0).sure in
    let formed = fine.views.formed in
    ⊎_elim
    (λ (e : sure.twice ≡ s.accepted). subst (λ v. s.cp ≤ (g.page v).held_twice) e sure.held_twice)
    (λ (lt : sure.twice < s.accepted).
    let a = sure.held_twice in
    let b = (w.ok.pair sure.twice s.accepted lt sure.formed formed).kept_start in
    let c = (w.ok.page s.accepted formed).start_kept (fine.modes.leads o).1 in
    omega arith)
    (eq-or-lt_of_le sure.not_above)

-- what its partner showed
partner_shown : (before : Trace) (g : Group Entry) → Stands before g → (q : Place)
    → (g.server q).mode ≡ Open → (n : ℕ) → n ≤ (g.page (g.server q).accepted).held_twice
    → HasShown before (id_of (partner (g.server q).plan.storers)) (view_of (g.server q).accepted) n
partner_shown before g h q o n l =
    let s = g.server q in
    let fine = h.whole.ok.server q in
    let formed = fine.views.formed in
    let page = h.whole.ok.page s.accepted formed in
    let positive = ((h.roles q).known (open_is_active s o)).1 in
    let shown = h.shown.each s.accepted formed positive
    (page.opened_partner (fine.modes.leads o).1) in
    subst (λ (p : Plan). HasShown before (id_of (partner p.storers)) (view_of s.accepted) n)
    (sym (its_plan g h.whole q o))
    (shown_less before _ (view_of s.accepted) _ n (omega arith) shown)

-- an Ack that comes is within what is held twice
ack_twice : (g : Group Entry) → Whole g → (s : Step) (q : Place) (i : Input) → IsBegunBy g s q i
    → (from : Place) (v t lb until : ℕ) → i ≡ Comes from (Ack v t lb until)
    → t ≤ (g.page v).held_twice
ack_twice g w s q i (asked server client number cred call) from v t lb until is = absurd cc
ack_twice g w s q i (other s' q' d x n) from v t lb until is = absurd cc
ack_twice g w s q i (came k p at) from v t lb until is =
    let body : p.body ≡ Ack v t lb until = cc in
    (subst (λ (m : Message Entry). BodyOk g.page g.joins g.committed p.from p.to m) body
    (sent_known g w k p at).0).3

-- who answers is up
pub up_of_answer : (g : Group Entry) (s : Step) (q : Place) (i : Input) (ms : List (Move Entry))
    → Turned g s q i ms → (n : ℕ) (e : Entry) → In ms (Saying (Answers n e)) → (g.server q).up ≡
    true
up_of_answer g s q i ms t n e x = elim t.up [
  | inl up ↦ up
  | inr boot ↦ absurd (nothing (subst (λ ms. In ms (Saying (Answers n e))) boot x))
]
  where
    nothing : In (Booting g.delta ∷ []) (Saying (Answers n e)) → ⊥
    nothing (inl same) = cc
    nothing (inr none) = none

up_of_read : (g : Group Entry) (s : Step) (q : Place) (i : Input) (e : Entry)
    (after : List (Move Entry)) → Turned g s q i (Reading (g.server q).cp e ∷ after)
    → (g.server q).up ≡ true
up_of_read g s q i e after t = elim t.up [
  | inl up ↦ up
  | inr boot ↦ absurd cc
]

-- ---- more lines

abbrev three_parts : Trace → Step → Group Entry → Place → List (Move Entry) → Trace → Trace
three_parts before s g q ms more = up_to_answers before s g q ms ++ more

shown_there : (before : Trace) (s : Step) (g : Group Entry) (q : Place) (ms : List (Move Entry))
    (more : Trace) (x : ServerId) (v : View) (n : ℕ) → HasShown before x v n
    → HasShown (three_parts before s g q ms more) x v n
shown_there before s g q ms more x v n h =
    shown_more (up_to_answers before s g q ms) more x v n (shown_more (with_event before s)
    (new_lines g q ms) x v n (shown_more before (line.Event s ∷ []) x v n h))

ack_there : (before : Trace) (s : Step) (g : Group Entry) (q : Place) (ms : List (Move Entry))
    (more : Trace) (x y : ServerId) (v : View) (n : ℕ) → AckDelivered (with_event before s) x y v n
    → AckDelivered (three_parts before s g q ms more) x y v n
ack_there before s g q ms more x y v n h = acked_more (up_to_answers before s g q ms) more x y v n
    (acked_more (with_event before s) (new_lines g q ms) x y v n h)

first_there : (before : Trace) (s : Step) (g : Group Entry) (q : Place) (ms : List (Move Entry))
    (more : Trace) (x : ServerId) (v : View) (st : StateLine) → first_open before x v ≡ Some st
    → first_open (three_parts before s g q ms more) x v ≡ Some st
first_there before s g q ms more x v st h =
    first_more (up_to_answers before s g q ms) more x v st (first_more (with_event before s)
    (new_lines g q ms) x v st (first_more before (line.Event s ∷ []) x v st h))

-- ---- which answers are of reads

pub answers_update : (before : Trace) (g : Group Entry) (s : Step) (q : Place) (i : Input)
    (e : Entry) (after : List (Move Entry)) → IsBegunBy g s q i
    → i ≡ Does (Ask e.client e.number e.cred e.call) → is_update e.call ≡ false
    → answers_read (step_under_way (up_to_answers before s g q (Reading (g.server q).cp e
    ∷ after))) ≡ true
answers_update before g s q i e after b is u =
    let ms = Reading (g.server q).cp e ∷ after in
    ap answers_read (sym (ap step_under_way (append-nil (up_to_answers before s g q ms)))
    ∙ way_there before s g q ms [] tt) ∙ asks_read g s q i e b is u

-- ---- acknowledged

no_acknowledged : (before : Trace) (l : Line) → IsNoAnswer l → IsAcknowledged before l
no_acknowledged before (line.Answered server client number index reply) h = absurd h
no_acknowledged before l h = tt

pub acknowledged_step : (before : Trace) (g : Group Entry) → Stands before g
    → (s : Step) (q : Place) (i : Input) (ms : List (Move Entry)) → Turned g s q i ms
    → AtPlacesAfter IsAcknowledged before (turn_lines g s q ms)
acknowledged_step before g h s q i ms t = law_step IsAcknowledged before g s q i ms t (record {
  of_update = λ ms t a n e x more said quiet _.
      let each = a.each n e x in
      let o = each.open' in
      let reach = reached ms more o n each.reach t in
      record {
        state = state_of (g.server q);
        is = its_state before g h s q ms more quiet (up_of_answer g s q i ms t n e x);
        partner = id_of (partner (g.server q).plan.storers);
        leads = leads_partner before g h q o;
        shown = shown_there before s g q ms more _ _ n (partner_shown before g h q o n reach.0);
        acknowledged = reach.1 (up_of_answer g s q i ms t n e x);
      };
  of_read = λ e after t o is u l tails update. absurd
      (true≢false (sym (answers_update before g s q i e after t.begun is u) ∙ update));
  other_lines = no_acknowledged;
})
  where
    reached : (ms : List (Move Entry)) (more : Trace) → (g.server q).mode ≡ Open → (n : ℕ)
        → (n ≤ (g.server q).cp) ⊎ AckUpTo (g.server q) i n → Turned g s q i ms
        → (n ≤ (g.page (g.server q).accepted).held_twice)
        × ((g.server q).up ≡ true → AckDelivered (three_parts before s g q ms more)
        (id_of (partner (g.server q).plan.storers)) (id_of q) (view_of (g.server q).accepted) n
        ⊎ WithinOpening (three_parts before s g q ms more) (id_of q)
        (view_of (g.server q).accepted) n)
    reached ms more o n (inl l) t = (
      le_trans l (cp_twice g h.whole q o),
      (λ up. ⊎_elim
          (λ start.
          let first = open_has_line before g h q up o in
          let cp = (h.first q (g.server q).accepted first.0 first.1).1 in
          inr (record {
            state = first.0;
            is =
                first_there before s g q ms more _ _ first.0 first.1;
            within =
                subst (λ c. n ≤ c) (sym cp) start;
          }))
          (λ ack. inl (ack_there before s g q ms more _ _ _ n
          (acked_more before (line.Event s ∷ []) _ _ _ n ack)))
          ((h.told q).acked o n l)),
    )
    reached ms more o n (inr ack) t = (
      le_trans ack.within (ack_twice g h.whole s q i t.begun ack.from
          (g.server q).accepted ack.top ack.lb ack.until ack.is),
      (λ up. inl (ack_there before s g q ms more _ _ _ n
          ((acks_came before g h.whole h.packets s q i t.begun o ack.from ack.top ack.lb ack.until
          ack.is).acked n ack.within))),
    )

-- ---- own reads

no_own : (before : Trace) (l : Line) → IsNoAnswer l → AnswersItsAsk before l
no_own before (line.Answered server client number index reply) h = absurd h
no_own before l h = tt

-- a step that asks for no read says nothing of reads
no_read_own : (s : Step) → answers_read (Some s) ≡ false → (client number : ℕ)
    → IsOfItsAsk (Some s) client number
no_read_own (step.Ask server asker theirs cred call) none client number =
    λ read. absurd (true≢false (sym (ap not read) ∙ none))
no_read_own s none client number = tt

pub own_step : (before : Trace) (g : Group Entry) → Stands before g
    → (s : Step) (q : Place) (i : Input) (ms : List (Move Entry)) → Turned g s q i ms
    → AtPlacesAfter AnswersItsAsk before (turn_lines g s q ms)
own_step before g h s q i ms t = law_step AnswersItsAsk before g s q i ms t (record {
  of_update = λ ms t a n e x more said quiet.
      subst (λ w. IsOfItsAsk w e.client e.number) (sym (way_there before s g q ms more said))
      (no_read_own s (answers_no_read g s q i t.begun (a.each n e x).asks) e.client e.number);
  of_read = λ e after t o is u l tails.
      let ms = Reading (g.server q).cp e ∷ after in
      let b = up_to_answers before s g q ms in
      let ask = asks_for g s q i e t.begun is in
      let way = sym (ap step_under_way (append-nil b)) ∙ way_there before s g q ms [] tt
      ∙ ap Some ask.is in
      subst (λ w. IsOfItsAsk w e.client e.number) (sym way) (λ read. (refl, refl));
  other_lines = no_own;
})

-- ---- promise use

no_promise : (before : Trace) (l : Line) → IsNoAnswer l → UsesPromise before l
no_promise before (line.Answered server client number index reply) h = absurd h
no_promise before l h = tt

-- an answer of an update's step is of no read
no_read : (before : Trace) (g : Group Entry) (s : Step) (q : Place) (i : Input)
    (ms : List (Move Entry)) (more : Trace) → Turned g s q i ms → answers_read (Some s) ≡ false
    → step_under_way (three_parts before s g q ms more) ≡ Some s
    → answers_read (step_under_way (three_parts before s g q ms more)) ≡ true → ⊥
no_read before g s q i ms more t none way read = true≢false (sym read ∙ ap answers_read way ∙ none)

clock_there : (before : Trace) (g : Group Entry) → Stands before g
    → (s : Step) (q : Place) (i : Input) (ms : List (Move Entry)) → IsBegunBy g s q i
    → clock_after (up_to_answers before s g q ms) (id_of q) ≡ g.clock q
clock_there before g h s q i ms b =
    let f = clock_next (id_of q) in
    fold-append f 0 (with_event before s) (new_lines g q ms) ∙ clock_keeps (new_lines g q ms)
    (id_of q) _ (entered_begin (length g.book) _)
    ∙ fold-append f 0 before (line.Event s ∷ []) ∙ ap (λ c. f c (line.Event s)) (h.clocks q)
    ∙ clock_stays g s q i b (id_of q) (g.clock q)

pub promise_step : (before : Trace) (g : Group Entry) → Stands before g
    → (s : Step) (q : Place) (i : Input) (ms : List (Move Entry)) → Turned g s q i ms
    → AtPlacesAfter UsesPromise before (turn_lines g s q ms)
promise_step before g h s q i ms t = law_step UsesPromise before g s q i ms t (record {
  of_update = λ ms t a n e x more said quiet read.
      absurd (no_read before g s q i ms more t (answers_no_read g s q i t.begun
      (a.each n e x).asks) (way_there before s g q ms more said) read);
  of_read = λ e after t o is u l tails read.
      let ms = Reading (g.server q).cp e ∷ after in
      let b = up_to_answers before s g q ms in
      let up = up_of_read g s q i e after t in
      record {
        state = state_of (g.server q);
        is = ap (λ b. last_state b (id_of q)) (sym (append-nil b))
            ∙ its_state before g h s q ms [] tt up;
        partner = id_of (partner (g.server q).plan.storers);
        leads = leads_partner before g h q o;
        promised = subst (PromiseDelivered b _ _ _) (sym (clock_there before g h s q i ms t.begun))
            (promise_more (with_event before s) (new_lines g q ms) _ _ _ _
            (promise_more before (line.Event s ∷ []) _ _ _ _ ((h.told q).granted o
            (g.clock q) l)));
      };
  other_lines = no_promise;
})

-- ---- exclusive reading

no_exclusive : (before : Trace) (l : Line) → IsNoAnswer l → ReadsExclusively before l
no_exclusive before (line.Answered server client number index reply) h = absurd h
no_exclusive before l h = tt

-- where no later view was opened, no state line shows one
none_above : (page : ℕ → Page Entry) (v : ℕ) → ((w : ℕ) → v < w → (page w).formed ≡ true
    → (page w).opened ≡ false) → (ls : List Line) → AllByRecursion (IsSound page) ls
    → AllByRecursion (IsNotOpenAbove (view_of v)) ls
none_above page v later [] h = tt
none_above page v later (line.State server st ∷ ls) h = (one, none_above page v later ls h.1)
  where
    one : st.mode ≡ mode.Open → above st.accepted (view_of v) ≡ false
    one o = elim (cases_Bool (above st.accepted (view_of v))) [
      | inl high ↦
          let x = h.0 in
          let lt = above_is x.0 v (sym (ap (λ a. above a (view_of v)) x.1) ∙ high) in
          absurd (true≢false (sym (x.4 o).1 ∙ later x.0 lt x.2))
      | inr low ↦ low
    ]
none_above page v later (l ∷ ls) h = (tt, none_above page v later ls h.1)

entered_apart : (v : View) (ls : List Line) → AreStateless ls
    → AllByRecursion (IsNotOpenAbove v) ls
entered_apart v [] h = tt
entered_apart v (line.State server st ∷ ls) h = absurd h.0
entered_apart v (l ∷ ls) h = (tt, entered_apart v ls h.1)

pub exclusive_step : (before : Trace) (g : Group Entry) → Stands before g
    → (s : Step) (q : Place) (i : Input) (ms : List (Move Entry)) → Turned g s q i ms
    → AtPlacesAfter ReadsExclusively before (turn_lines g s q ms)
exclusive_step before g h s q i ms t = law_step ReadsExclusively before g s q i ms t (record {
  of_update = λ ms t a n e x more said quiet read.
      absurd (no_read before g s q i ms more t (answers_no_read g s q i t.begun
      (a.each n e x).asks) (way_there before s g q ms more said) read);
  of_read = λ e after t o is u l tails read.
      let ms = Reading (g.server q).cp e ∷ after in
      let b = up_to_answers before s g q ms in
      let up = up_of_read g s q i e after t in
      let v = (g.server q).accepted in
      let may = (goes_may (Reading (g.server q).cp e) after g q (g.server q) t.goes).2 in
      let same = tails_enter after (moved g q (g.server q) (Reading (g.server q).cp e)) q
      (g.server q) tails o (goes_later (Reading (g.server q).cp e) after g q
      (g.server q) t.goes) in
      let w = turn_whole g s q i ms t in
      let book : entries b ≡ (turn_group g q ms).book = ap entries (sym (append-nil b))
      ∙ book_there before s g q ms [] h.entered tt in
      record {
        state = state_of (g.server q);
        is = ap (λ b. last_state b (id_of q)) (sym (append-nil b))
            ∙ its_state before g h s q ms [] tt up;
        alone = all-append (IsNotOpenAbove (view_of v)) (with_event before s) (new_lines g q ms)
            (all-append (IsNotOpenAbove (view_of v)) before (line.Event s ∷ [])
            (none_above g.page v may.3 before h.lines) (tt, tt))
            (entered_apart (view_of v) (new_lines g q ms) (stateless-entered (length g.book) _));
        whole = may.2 ∙ ap length (sym (ap updates book ∙ w.books.updates ∙ same.1));
      };
  other_lines = no_exclusive;
})
