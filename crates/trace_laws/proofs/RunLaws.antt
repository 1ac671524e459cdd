-- What holds of the lines of steps that are taken.
use Rattle.std.proofs.Common.{◌≡◌, true, false, List, [], ◌∷◌, ◌++◌, append_assoc, append-nil, length, Option, Some, None, refl, sym, ap, ◌∙◌, subst}
use Rattle.std.specs.List.{AllByRecursion}
use Rattle.trace_types.specs.declared.step.Step.{Step}
use Rattle.trace_types.specs.declared.step.Step.TheVariants as step
use Rattle.trace_types.specs.declared.line.Line.{Line}
use Rattle.trace_types.specs.declared.line.Line.TheVariants as line
use Rattle.trace_claims.specs.Acknowledged.{AnswersAtOnce, answers_in_step}
use Rattle.trace_claims.specs.LaterViews.{SurvivesLater}
use Rattle.trace_claims.specs.Listing.{ListsTree}
use Rattle.trace_claims.specs.Trace.{AtPlacesAfter, AtPlacesAmid, BeginsWithEvent, Trace, is_last, steps}
use Rattle.trace_claims.proofs.Places.{all-append, places-append, steps-append}
use Rattle.file_tree.specs.Book.{Entry}
use Rattle.group_rules.specs.Moves.{Move}
use Rattle.group_rules.specs.Places.{Place}
use Rattle.group_rules.specs.State.{Answered, Group}
use Rattle.group_rules.specs.Step.{Input}
use Rattle.group_safety.specs.Words.{In}
use Rattle.group_trace.specs.Lines.{entered_lines, lines_of_moves, listing_of}
use Rattle.group_trace.specs.Refusals.{net_refusal, own_refusal}
use Rattle.group_trace.specs.Run.{AreTaken, CanFollow, group_after, is_elementary, lines_where, moved_in, next, run, run_lines, step_lines, turn, Turn}
use Rattle.group_trace.specs.Scene.{Measures, Scene}
use Rattle.group_trace.specs.Shown.{shown_of}
use Rattle.trace_laws.proofs.AtOnceLaw.{delivered_at_once}
use Rattle.trace_laws.proofs.Keeping.{quiet_stands, turn_lines, turn_stands}
use Rattle.trace_laws.proofs.LaterLaws.{HaveBoth, RestHas, answered_stays, survives_step, turn_has}
use Rattle.trace_laws.proofs.LineParts.{entered_open, said_open}
use Rattle.trace_laws.proofs.ListLaws.{lists_step}
use Rattle.trace_laws.proofs.Listings.{EndsListing}
use Rattle.trace_laws.proofs.Standing.{Stands, behind_book, behind_said, moves_begin, said-listing}
use Rattle.trace_laws.proofs.Turns.{Turned, own_none, take_step}

-- steps that are taken can follow each other, whatever was sent
pub can_follow : (m : Measures) (w : Scene) (ss : List Step) → AreTaken m w ss → CanFollow m w ss
can_follow m w [] t = tt
can_follow m w (s ∷ ss) t = (
  own_none (own_refusal m w.group s) (net_refusal w s) t.0,
  t.1,
  can_follow m (next m w s) ss t.2,
)

pub step_stands : (m : Measures) (before : Trace) (w : Scene) → Stands before w.group → (s : Step)
    → own_refusal m w.group s ≡ None → is_elementary s ≡ true
    → Stands (before ++ step_lines m w s) (group_after m w s)
step_stands m before w h s r e = take_step (λ g' ls. Stands (before ++ line.Event s
    ∷ ls) g') m w h.whole s r e
    (λ g' k same. quiet_stands before w.group g' s h k same)
    (λ q i ms t. turn_stands before w.group h s q i ms t)

-- a law of the places of a server's step
abbrev pub TurnLaw : (Trace → Line → Type 0) → Type 0
TurnLaw P = (before : Trace) (g : Group Entry) → Stands before g
    → (s : Step) (q : Place) (i : Input) (ms : List (Move Entry)) → Turned g s q i ms
    → AtPlacesAfter P before (turn_lines g s q ms)

step_places : (P : Trace → Line → Type 0) → ((before : Trace) (s : Step) → P before (line.Event s))
    → TurnLaw P
    → (m : Measures) (before : Trace) (w : Scene) → Stands before w.group → (s : Step)
    → own_refusal m w.group s ≡ None → is_elementary s ≡ true
    → AtPlacesAfter P before (step_lines m w s)
step_places P event law m before w h s r e =
    take_step (λ g' ls. AtPlacesAfter P before (line.Event s ∷ ls)) m w h.whole s r e
    (λ g' k same. (event before s, tt)) (λ q i ms t. law before w.group h s q i ms t)

-- a step's lines begin no other step, and none is a last one
moves_open : (g g' : Group Entry) (q : Place) (ms : List (Move Entry)) (s : Step)
    → AllByRecursion (λ l. is_last l ≡ false) (lines_of_moves g g' q ms (listing_of g s))
moves_open g g' q ms s = all-append (λ l. is_last l ≡ false) (entered_lines (length g.book) _)
    (behind_book g q ms (shown_of (g.server q)) (shown_of (g'.server q)) (listing_of g s))
    (entered_open (length g.book) _) (said_open _ (behind_said g q ms _ _ (listing_of g s)
    (said-listing g s)))

step_opens : (m : Measures) (w : Scene) (s : Step)
    → AllByRecursion (λ l. is_last l ≡ false) (step_lines m w s)
step_opens m w s = (refl, by (turn m w s))
  where
    by : (o : Option Turn)
        → AllByRecursion (λ l. is_last l ≡ false) (lines_where w.group o (listing_of w.group s))
    by None = tt
    by (Some x) = moves_open w.group (moved_in w.group x) x.0 x.1 s

where_begin : (g : Group Entry) (o : Option Turn) (s : Step)
    → steps (lines_where g o (listing_of g s)) ≡ []
where_begin g None s = refl
where_begin g (Some x) s = moves_begin g (moved_in g x) x.0 x.1 (listing_of g s) (said-listing g s)

step_begins : (m : Measures) (w : Scene) (s : Step) → steps (step_lines m w s) ≡ s ∷ []
step_begins m w s = ap (λ ss. s ∷ ss) (where_begin w.group (turn m w s) s)

pub run_stands : (m : Measures) (ss : List Step) (before : Trace) (w : Scene)
    → Stands before w.group → CanFollow m w ss
    → Stands (before ++ run_lines m w ss) (run m w ss).group
unfolding run_lines run
run_stands m [] before w h t = subst (λ b. Stands b w.group) (sym (append-nil before)) h
run_stands m (s ∷ ss) before w h t =
    subst (λ b. Stands b (run m (next m w s) ss).group) (append_assoc before (step_lines m w s)
    (run_lines m (next m w s) ss))
    (run_stands m ss (before ++ step_lines m w s) (next m w s) (step_stands m before w h s t.0 t.1)
    t.2)

pub run_places : (P : Trace → Line → Type 0) → ((before : Trace) (s : Step)
    → P before (line.Event s)) → TurnLaw P
    → (m : Measures) (ss : List Step) (before : Trace) (w : Scene) → Stands before w.group
    → CanFollow m w ss → AtPlacesAfter P before (run_lines m w ss)
unfolding run_lines
run_places P event law m [] before w h t = tt
run_places P event law m (s ∷ ss) before w h t =
    places-append P before (step_lines m w s) (run_lines m (next m w s) ss)
    (step_places P event law m before w h s t.0 t.1)
    (run_places P event law m ss (before ++ step_lines m w s) (next m w s)
    (step_stands m before w h s t.0 t.1) t.2)

pub run_begins : (m : Measures) (ss : List Step) (w : Scene) → steps (run_lines m w ss) ≡ ss
unfolding run_lines
run_begins m [] w = refl
run_begins m (s ∷ ss) w =
    steps-append (step_lines m w s) (run_lines m (next m w s) ss)
    ∙ ap (λ xs. xs ++ steps (run_lines m (next m w s) ss)) (step_begins m w s)
    ∙ ap (λ xs. s ∷ xs) (run_begins m ss (next m w s))

pub run_opens : (m : Measures) (ss : List Step) (w : Scene)
    → AllByRecursion (λ l. is_last l ≡ false) (run_lines m w ss)
unfolding run_lines
run_opens m [] w = tt
run_opens m (s ∷ ss) w = all-append (λ l. is_last l ≡ false) (step_lines m w s)
    (run_lines m (next m w s) ss) (step_opens m w s) (run_opens m ss (next m w s))

pub begins_run : (m : Measures) (ss : List Step) (w : Scene) → BeginsWithEvent (run_lines m w ss)
unfolding run_lines
begins_run m [] w = tt
begins_run m (s ∷ ss) w = tt

-- lines that begin no step ask nothing
no_event : (ls later : List Line) (before : Trace) → steps ls ≡ []
    → AtPlacesAmid AnswersAtOnce (before ++ ls) later → AtPlacesAmid AnswersAtOnce before (ls
    ++ later)
no_event [] later before e h = subst (λ b. AtPlacesAmid AnswersAtOnce b later)
    (append-nil before) h
no_event (line.Event s ∷ ls) later before e h = absurd cc
no_event (l ∷ ls) later before e h = (
  tt,
  no_event ls later (before ++ l ∷ []) e (subst (λ b. AtPlacesAmid AnswersAtOnce b later)
      (sym (append_assoc before (l ∷ []) ls)) h),
)

at_event : (m : Measures) (before : Trace) (w : Scene) → Stands before w.group
    → (s : Step) (later : Trace) → answers_in_step later ≡ []
    → AnswersAtOnce before (line.Event s) (lines_where w.group (turn m w s) (listing_of w.group s)
    ++ later)
at_event m before w h (step.Deliver n) later e = delivered_at_once m before w h n later e
at_event m before w h s later e = tt

-- what follows a step begins another one, or answers nothing
later_idle : (m : Measures) (ss : List Step) (w : Scene) (tail : Trace) → answers_in_step tail ≡ []
    → answers_in_step (run_lines m w ss ++ tail) ≡ []
unfolding run_lines
later_idle m [] w tail e = e
later_idle m (s ∷ ss) w tail e = refl

-- a step, and what follows
amid_step : (P : Trace → Line → Trace → Type 0) (m : Measures) (before : Trace) (w : Scene)
    (s : Step) (ss : List Step) (tail : Trace)
    → AtPlacesAmid P before (step_lines m w s ++ (run_lines m (next m w s) ss ++ tail))
    → AtPlacesAmid P before (run_lines m w (s ∷ ss) ++ tail)
unfolding run_lines
amid_step P m before w s ss tail h =
    subst (AtPlacesAmid P before)
    (sym (append_assoc (step_lines m w s) (run_lines m (next m w s) ss) tail)) h

-- what is left for the steps after one
amid_rest : (P : Trace → Line → Trace → Type 0) (m : Measures) (before : Trace) (w : Scene)
    (s : Step) (ss : List Step) (tail : Trace)
    → AtPlacesAmid P (before ++ run_lines m w (s ∷ ss)) tail
    → AtPlacesAmid P ((before ++ step_lines m w s) ++ run_lines m (next m w s) ss) tail
unfolding run_lines
amid_rest P m before w s ss tail h = subst (λ b. AtPlacesAmid P b tail)
    (sym (append_assoc before (step_lines m w s) (run_lines m (next m w s) ss))) h

run_none : (P : Trace → Line → Trace → Type 0) (m : Measures) (before : Trace) (w : Scene)
    (tail : Trace) → AtPlacesAmid P (before ++ run_lines m w []) tail
    → AtPlacesAmid P before (run_lines m w [] ++ tail)
unfolding run_lines
run_none P m before w tail h = subst (λ b. AtPlacesAmid P b tail) (append-nil before) h

pub run_at_once : (m : Measures) (ss : List Step) (before : Trace) (w : Scene) (tail : Trace)
    → Stands before w.group → CanFollow m w ss → answers_in_step tail ≡ []
    → AtPlacesAmid AnswersAtOnce (before ++ run_lines m w ss) tail
    → AtPlacesAmid AnswersAtOnce before (run_lines m w ss ++ tail)
run_at_once m [] before w tail h t e k = run_none AnswersAtOnce m before w tail k
run_at_once m (s ∷ ss) before w tail h t e k =
    let g = w.group in
    let own = lines_where g (turn m w s) (listing_of g s) in
    let later = run_lines m (next m w s) ss ++ tail in
    amid_step AnswersAtOnce m before w s ss tail (
      at_event m before w h s later (later_idle m ss (next m w s) tail e),
      no_event own later (before ++ line.Event s ∷ []) (where_begin g (turn m w s) s)
          (subst (λ b. AtPlacesAmid AnswersAtOnce b later)
          (sym (append_assoc before (line.Event s ∷ []) own))
          (run_at_once m ss (before ++ step_lines m w s) (next m w s) tail
          (step_stands m before w h s t.0 t.1) t.2 e
          (amid_rest AnswersAtOnce m before w s ss tail k))),
    )

-- a step that is taken keeps what was answered, and its lines show it
pub step_has : (m : Measures) (before : Trace) (w : Scene) → Stands before w.group → (s : Step)
    → own_refusal m w.group s ≡ None → is_elementary s ≡ true → (a : Answered Entry)
    → In w.group.answered a
    → In (group_after m w s).answered a × HaveBoth a (step_lines m w s)
step_has m before w h s r e a x = take_step (λ g' ls. In g'.answered a × HaveBoth a (line.Event s
    ∷ ls)) m w h.whole s r e
    (λ g' k same. (subst (λ l. In l a) (sym same.answered) x, ((tt, tt), tt)))
    (λ q i ms t. let stays = answered_stays w.group q ms a x in (
      stays,
      turn_has w.group s q i ms t a stays,
    ))

run_has : (m : Measures) (ss : List Step) (before : Trace) (w : Scene) → Stands before w.group
    → CanFollow m w ss → (a : Answered Entry) → In w.group.answered a
    → HaveBoth a (run_lines m w ss)
unfolding run_lines
run_has m [] before w h t a x = tt
run_has m (s ∷ ss) before w h t a x =
    let one = step_has m before w h s t.0 t.1 a x in
    all-append _ (step_lines m w s) (run_lines m (next m w s) ss) one.1 (run_has m ss (before
    ++ step_lines m w s) (next m w s) (step_stands m before w h s t.0 t.1) t.2 a one.0)

step_survives : (m : Measures) (before : Trace) (w : Scene) → Stands before w.group → (s : Step)
    → own_refusal m w.group s ≡ None → is_elementary s ≡ true → (rest : Trace)
    → RestHas (group_after m w s) rest
    → AtPlacesAmid SurvivesLater (before ++ step_lines m w s) rest
    → AtPlacesAmid SurvivesLater before (step_lines m w s ++ rest)
step_survives m before w h s r e rest = take_step (λ g' ls. RestHas g' rest
    → AtPlacesAmid SurvivesLater (before ++ line.Event s ∷ ls) rest
    → AtPlacesAmid SurvivesLater before (line.Event s ∷ (ls ++ rest))) m w h.whole s
    r e
    (λ g' k same has j. (tt, j))
    (λ q i ms t has j. survives_step before w.group h s q i ms t rest has j)

pub run_survives : (m : Measures) (ss : List Step) (before : Trace) (w : Scene) (tail : Trace)
    → Stands before w.group → CanFollow m w ss → ((a : Answered Entry) → HaveBoth a tail)
    → AtPlacesAmid SurvivesLater (before ++ run_lines m w ss) tail
    → AtPlacesAmid SurvivesLater before (run_lines m w ss ++ tail)
run_survives m [] before w tail h t has k = run_none SurvivesLater m before w tail k
run_survives m (s ∷ ss) before w tail h t has k =
    let w' = next m w s in
    let stood = step_stands m before w h s t.0 t.1 in
    amid_step SurvivesLater m before w s ss tail (step_survives m before w h s t.0 t.1
    (run_lines m w' ss ++ tail)
    (λ a x. all-append _ (run_lines m w' ss) tail (run_has m ss (before
    ++ step_lines m w s) w' stood t.2 a x) (has a))
    (run_survives m ss (before ++ step_lines m w s) w' tail stood t.2 has
    (amid_rest SurvivesLater m before w s ss tail k)))

ends_listing : (m : Measures) (ss : List Step) (w : Scene) (tail : Trace) → EndsListing tail
    → EndsListing (run_lines m w ss ++ tail)
unfolding run_lines
ends_listing m [] w tail e = e
ends_listing m (s ∷ ss) w tail e = refl

step_lists : (m : Measures) (before : Trace) (w : Scene) → Stands before w.group → (s : Step)
    → own_refusal m w.group s ≡ None → is_elementary s ≡ true → (rest : Trace) → EndsListing rest
    → AtPlacesAmid ListsTree (before ++ step_lines m w s) rest
    → AtPlacesAmid ListsTree before (step_lines m w s ++ rest)
step_lists m before w h s r e rest ends = take_step (λ g' ls. AtPlacesAmid ListsTree (before
    ++ line.Event s ∷ ls) rest → AtPlacesAmid ListsTree before (line.Event s ∷ (ls ++ rest))) m w
    h.whole s r e
    (λ g' k same j. (tt, j)) (λ q i ms t j. lists_step before w.group h s q i ms t rest ends j)

pub run_lists : (m : Measures) (ss : List Step) (before : Trace) (w : Scene) (tail : Trace)
    → Stands before w.group → CanFollow m w ss → EndsListing tail
    → AtPlacesAmid ListsTree (before ++ run_lines m w ss) tail
    → AtPlacesAmid ListsTree before (run_lines m w ss ++ tail)
run_lists m [] before w tail h t ends k = run_none ListsTree m before w tail k
run_lists m (s ∷ ss) before w tail h t ends k =
    let w' = next m w s in
    amid_step ListsTree m before w s ss tail (step_lists m before w h s t.0 t.1 (run_lines m w' ss
    ++ tail) (ends_listing m ss w' tail ends)
    (run_lists m ss (before ++ step_lines m w s) w' tail (step_stands m before w h s t.0 t.1) t.2
    ends (amid_rest ListsTree m before w s ss tail k)))
