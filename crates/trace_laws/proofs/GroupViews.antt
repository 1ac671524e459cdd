-- Each answered update stands in the views of the group that its run leaves.
use Rattle.std.proofs.Common.{◌≡◌, ℕ, ◌≤◌, true, List, [], ◌∷◌, ◌++◌, length, take, None, sym, ap, ◌∙◌, subst, le_trans, true≢false}
use Rattle.harp_types.specs.declared.state.StateLine.{StateLine}
use Rattle.trace_types.specs.declared.step.Step.{Step}
use Rattle.trace_types.specs.declared.line.Line.{Line}
use Rattle.trace_types.specs.declared.line.Line.TheVariants as line
use Rattle.trace_claims.specs.Trace.{AtPlacesAfter, Trace}
use Rattle.trace_claims.proofs.Places.{places-append}
use Rattle.file_tree.specs.Book.{Entry}
use Rattle.group_rules.specs.Moves.{Move, Reading, Saying}
use Rattle.group_rules.specs.Names.{id_of, view_of}
use Rattle.group_rules.specs.Places.{Place}
use Rattle.group_rules.specs.Shown.{state_of}
use Rattle.group_rules.specs.State.{Answered, Answers, Group}
use Rattle.group_rules.specs.Step.{Input}
use Rattle.group_safety.specs.Laws.{Whole}
use Rattle.group_safety.specs.Words.{In}
use Rattle.group_safety.proofs.Lawful.{every_later_view}
use Rattle.group_trace.specs.Refusals.{own_refusal}
use Rattle.group_trace.specs.Run.{CanFollow, group_after, is_elementary, next, run, run_lines, step_lines}
use Rattle.group_trace.specs.Scene.{Measures, Scene}
use Rattle.trace_laws.specs.Laws.{StandsInGroup, StandsInViews}
use Rattle.trace_laws.proofs.Keeping.{turn_group, turn_lines}
use Rattle.trace_laws.proofs.LeaderLaws.{answers_update, up_of_answer}
use Rattle.trace_laws.proofs.ListLaws.{take_agree}
use Rattle.trace_laws.proofs.RunLaws.{step_has, step_stands}
use Rattle.trace_laws.proofs.Standing.{Stands}
use Rattle.trace_laws.proofs.StepLaws.{IsNoAnswer, answered_step, given_now, its_state, up_to_answers}
use Rattle.trace_laws.proofs.Answering.{Answering, AnswersUpdates, answered_places, kind_answers, milds_silent, reading, silent_answers, updating}
use Rattle.trace_laws.proofs.LineParts.{AreStateless}
use Rattle.trace_laws.proofs.MoveKinds.{tails_mild}
use Rattle.group_trace.specs.Lines.{answered_lines}
use Rattle.trace_laws.proofs.Turns.{Turned, take_step}

-- what was answered stands in the group
stands_in : (g : Group Entry) → Whole g → (a : Answered Entry) → In g.answered a
    → (st : StateLine) → st.accepted ≡ view_of a.view → StandsInViews g st.accepted a.index
stands_in g w a i st e =
    let own = w.answers.each a i in
    let laws = every_later_view g w a i in
    let book = sym w.books.updates in
    let n = a.index in
    record {
      number = a.view;
      is = sym e;
      in_book = subst (λ es. n ≤ length es) book own.sure.in_book;
      here = subst (λ es. take n (g.page a.view).list ≡ take n es) book
          (take_agree n (g.page a.view).list g.committed own.sure.within own.sure.in_book
          laws.here);
      later = λ v lt f.
          let start = (laws.later v lt f).0 in (
            start,
            subst (λ es. take n (g.page v).list ≡ take n es) book
                (take_agree n (g.page v).list g.committed
                (le_trans start (w.ok.page v f).start_within) own.sure.in_book
                (laws.later v lt f).1),
          );
    }

nothing_else : (end : Group Entry) (before : Trace) (l : Line) → IsNoAnswer l
    → StandsInGroup end before l
nothing_else end before (line.Answered server client number index reply) h = absurd h
nothing_else end before l h = tt

-- the answers of a step, in a group that has all of its answers
stands_step : (end : Group Entry) → Whole end → (before : Trace) (g : Group Entry)
    → Stands before g → (s : Step) (q : Place) (i : Input) (ms : List (Move Entry))
    → Turned g s q i ms
    → ((a : Answered Entry) → In (turn_group g q ms).answered a → In end.answered a)
    → AtPlacesAfter (StandsInGroup end) before (turn_lines g s q ms)
stands_step end w before g h s q i ms t has =
    answered_step (StandsInGroup end) (nothing_else end) before s g q ms
    (by ms t has (kind_answers q (g.clock q) (g.server q) i ms t.kind))
  where
    -- the answer of an update
    one : (ms : List (Move Entry)) → Turned g s q i ms
        → ((a : Answered Entry) → In (turn_group g q ms).answered a → In end.answered a)
        → AnswersUpdates (g.server q) i ms → (n : ℕ) (e : Entry) → In ms (Saying (Answers n e))
        → (more : Trace) → AreStateless more → StandsInGroup end
        (up_to_answers before s g q ms ++ more)
        (line.Answered (id_of q) e.client e.number n e.reply)
    one ms t has a n e x more quiet update st is =
        let it : Answered Entry = record { view = (g.server q).accepted; index = n; entry = e } in
        let shown = its_state before g h s q ms more quiet (up_of_answer g s q i ms t n e x) in
        let same : state_of (g.server q) ≡ st = let both = sym shown ∙ is in cc in
        stands_in end w it (has it (given_now g s q i ms t a n e x)) st
        (ap (λ (y : StateLine). y.accepted) (sym same))

    by : (ms : List (Move Entry)) → Turned g s q i ms
        → ((a : Answered Entry) → In (turn_group g q ms).answered a → In end.answered a)
        → Answering (g.clock q) (g.server q) i ms
        → AtPlacesAfter (StandsInGroup end) (up_to_answers before s g q ms) (answered_lines q ms)
    by ms t has (updating _ a) = answered_places (StandsInGroup end) q ms
        (up_to_answers before s g q ms) a.readless
        (λ n e x more said quiet. one ms t has a n e x more quiet)
    by _ t has (reading e after o is u l tails) =
        let ms = Reading (g.server q).cp e ∷ after in
        let one = line.Answered (id_of q) e.client e.number (g.server q).cp e.reply in
        subst (λ ls. AtPlacesAfter (StandsInGroup end) (up_to_answers before s g q ms) (one ∷ ls))
        (sym (silent_answers q after (milds_silent after (tails_mild after tails)))) (
          (λ update. absurd (true≢false
              (sym (answers_update before g s q i e after t.begun is u) ∙ update))),
          tt,
        )

-- ---- a run

-- a step keeps what was answered
answers_stay : (m : Measures) (before : Trace) (w : Scene) → Stands before w.group → (s : Step)
    → own_refusal m w.group s ≡ None → is_elementary s ≡ true → (a : Answered Entry)
    → In w.group.answered a → In (group_after m w s).answered a
answers_stay m before w h s r e a x = (step_has m before w h s r e a x).0

run_answers : (m : Measures) (ss : List Step) (before : Trace) (w : Scene) → Stands before w.group
    → CanFollow m w ss → (a : Answered Entry) → In w.group.answered a
    → In (run m w ss).group.answered a
unfolding run
run_answers m [] before w h t a x = x
run_answers m (s ∷ ss) before w h t a x =
    run_answers m ss (before ++ step_lines m w s) (next m w s) (step_stands m before w h s t.0 t.1)
    t.2 a (answers_stay m before w h s t.0 t.1 a x)

pub run_views : (end : Group Entry) → Whole end → (m : Measures) (ss : List Step) (before : Trace)
    (w : Scene) → Stands before w.group → CanFollow m w ss
    → ((a : Answered Entry) → In (run m w ss).group.answered a → In end.answered a)
    → AtPlacesAfter (StandsInGroup end) before (run_lines m w ss)
unfolding run_lines run
run_views end k m [] before w h t has = tt
run_views end k m (s ∷ ss) before w h t has =
    let b = before ++ step_lines m w s in
    let stood = step_stands m before w h s t.0 t.1 in
    places-append (StandsInGroup end) before (step_lines m w s) (run_lines m (next m w s) ss)
    (take_step (λ g' ls. ((a : Answered Entry) → In g'.answered a → In end.answered a)
    → AtPlacesAfter (StandsInGroup end) before (line.Event s ∷ ls)) m w h.whole s
    t.0 t.1 (λ g' k' same has'. (tt, tt))
    (λ q i ms t' has'. stands_step end k before w.group h s q i ms t' has')
    (λ a x. has a (run_answers m ss b (next m w s) stood t.2 a x)))
    (run_views end k m ss b (next m w s) stood t.2 has)
