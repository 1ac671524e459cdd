-- An answered update stands in every later view: the state lines of a step, and of all later ones.
use Rattle.std.proofs.Common.{◌≡◌, ℕ, ◌<◌, ◌≤◌, Bool, true, false, List, [], ◌∷◌, ◌++◌, append_assoc, append-nil, length, Option, Some, None, refl, sym, ap, ◌∙◌, subst, inl, inr, true≢false, le_trans, le_of_eq, le_of_lt, if◌then◌else◌}
use Rattle.std.specs.List.{AllByRecursion}
use Rattle.harp_types.specs.View.{above}
use Rattle.harp_types.specs.declared.state.StateLine.{StateLine}
use Rattle.trace_types.specs.declared.step.Step.{Step}
use Rattle.trace_types.specs.declared.line.Line.{Line}
use Rattle.trace_types.specs.declared.line.Line.TheVariants as line
use Rattle.trace_claims.specs.LaterViews.{HasAbove, HasHere, Survives, SurvivesLater}
use Rattle.trace_claims.specs.Trace.{AtPlacesAmid, Trace}
use Rattle.trace_claims.proofs.Places.{all-append}
use Rattle.file_tree.specs.Book.{Entry}
use Rattle.group_safety.specs.Laws.{LaterViewsHave, Whole}
use Rattle.group_rules.specs.Limits.{by_held}
use Rattle.group_rules.specs.Moves.{Move, Reading, Saying}
use Rattle.group_rules.specs.Names.{id_of, view_of}
use Rattle.group_rules.specs.Places.{Place}
use Rattle.group_rules.specs.State.{Answered, Answers, Group, Lists, Log, Page, Refuses, top}
use Rattle.group_rules.specs.Step.{Input}
use Rattle.group_safety.specs.Words.{In, IsActive}
use Rattle.group_safety.proofs.Lawful.{answers_grow, every_later_view}
use Rattle.group_trace.specs.Lines.{answered_lines, listing_of, state_line, state_lines}
use Rattle.group_rules.specs.Shown.{state_of}
use Rattle.group_trace.specs.Shown.{same_shown, shown_of}
use Rattle.trace_laws.proofs.Answering.{Answering, AnswersUpdates, AreReadless, given, kind_answers, milds_silent, reading, silent_answers, updating}
use Rattle.trace_laws.proofs.Asked.{with_event}
use Rattle.trace_laws.proofs.Keeping.{turn_group, turn_lines, turn_stands, turn_whole}
use Rattle.trace_laws.proofs.OpenLines.{held_is, open_shown}
use Rattle.trace_laws.proofs.LeaderLaws.{answers_update, up_of_answer}
use Rattle.trace_laws.proofs.LineParts.{AreSaid, AreStateless, stateless-answered, stateless-entered}
use Rattle.trace_laws.proofs.Standing.{IsSound, Stands, before_state, before_stateless, parts_are, stateless-listing}
use Rattle.trace_laws.proofs.MoveKinds.{tails_mild}
use Rattle.trace_laws.proofs.StepLaws.{IsNoAnswer, behind_answers, behind_no, entered_none, its_state, new_lines, up_to_answers}
use Rattle.trace_laws.proofs.Turns.{Turned}
use Rattle.trace_laws.proofs.Views.{above_is, view_is}

-- ---- the lines of one step

-- what a state line shows of an answered update
abbrev pub HasBoth : Answered Entry → Line → Type 0
HasBoth a l = HasAbove (view_of a.view) a.index l × HasHere (view_of a.view) a.index l

abbrev pub HaveBoth : Answered Entry → List Line → Type 0
HaveBoth a ls = AllByRecursion (HasBoth a) ls

pub stateless_have : (a : Answered Entry) (ls : List Line) → AreStateless ls → HaveBoth a ls
stateless_have a [] h = tt
stateless_have a (line.State server st ∷ ls) h = absurd h.0
stateless_have a (l ∷ ls) h = ((tt, tt), stateless_have a ls h.1)

state_has : (g : Group Entry) → Whole g → (a : Answered Entry) → LaterViewsHave g a → (q x : Place)
    → HasBoth a (line.State (id_of x) (state_of (g.server q)))
state_has g w a h q x =
    let s = g.server q in
    let top_of = λ (l : s.held ≡ Log) (n : a.index ≤ top s). subst (λ k. a.index ≤
    k) (ap (λ y. by_held y (top s) s.lb) (sym l)) n in (
      (λ high.
          let lt = above_is s.accepted a.view high in (
            (λ e. let l = held_is s.held e in top_of l (h.held q l (le_of_lt lt))),
            (λ o.
                let open' = open_shown s.mode s.duty o in
                let l = ((w.ok.server q).modes.active (subst IsActive (sym open') tt)).0 in
                subst (λ k. a.index ≤ k) (ap (λ y. by_held y s.cp s.lb) (sym l))
                (h.open' q open' lt)),
          )),
      (λ same e. let l = held_is s.held e in
          top_of l (h.held q l (le_of_eq (sym (view_is s.accepted a.view same))))),
    )

line_has : (g : Group Entry) → Whole g → (a : Answered Entry) → LaterViewsHave g a → (q x : Place)
    → HasBoth a (state_line x (shown_of (g.server q)))
line_has g w a h q x = by (g.server q).up
  where
    by : (b : Bool) → HasBoth a (state_line x (if b then Some (state_of (g.server q)) else None))
    by true = state_has g w a h q x
    by false = (tt, tt)

states_have : (g : Group Entry) → Whole g → (a : Answered Entry) → LaterViewsHave g a
    → (q : Place) (old : Option StateLine) → HaveBoth a (state_lines q old (shown_of (g.server q)))
states_have g w a h q old = by (same_shown old (shown_of (g.server q)))
  where
    by : (b : Bool) → HaveBoth a (if b then [] else state_line q (shown_of (g.server q)) ∷ [])
    by true = tt
    by false = (line_has g w a h q q, tt)

-- the lines of a step that leaves a group in which the answer was given
pub turn_has : (g : Group Entry) (s : Step) (q : Place) (i : Input) (ms : List (Move Entry))
    → Turned g s q i ms → (a : Answered Entry) → In (turn_group g q ms).answered a
    → HaveBoth a (turn_lines g s q ms)
turn_has g s q i ms t a x =
    let g' = turn_group g q ms in
    let w = turn_whole g s q i ms t in
    let P = HasBoth a in (
      (tt, tt),
      subst (AllByRecursion P) (sym (parts_are g g' q ms (listing_of g s)))
          (all-append P (before_state g g' q ms) _
          (stateless_have a _ (before_stateless g g' q ms))
          (all-append P (state_lines q (shown_of (g.server q)) (shown_of (g'.server q)))
          (listing_of g s)
          (states_have g' w a (every_later_view g' w a x) q (shown_of (g.server q)))
          (stateless_have a _ (stateless-listing g s)))),
    )

in_back : (xs ys : List (Answered Entry)) (a : Answered Entry) → In ys a → In (xs ++ ys) a
in_back [] ys a h = h
in_back (x ∷ xs) ys a h = inr (in_back xs ys a h)

-- answers that were given stay
pub answered_stays : (g : Group Entry) (q : Place) (ms : List (Move Entry)) (a : Answered Entry)
    → In g.answered a → In (turn_group g q ms).answered a
answered_stays g q ms a x = let new = answers_grow ms g q (g.server q) in
    subst (λ l. In l a) (sym new.1) (in_back new.0 g.answered a x)

-- ---- the lines before

before_above : (page : ℕ → Page Entry) (v n : ℕ) → ((w : ℕ) → v < w → (page w).formed ≡ true
    → n ≤ (page w).plan.start) → (ls : List Line) → AllByRecursion (IsSound page) ls
    → AllByRecursion (HasAbove (view_of v) n) ls
before_above page v n later [] h = tt
before_above page v n later (line.State server st ∷ ls) h = (
  (λ high.
      let x = h.0 in
      let start = later x.0 (above_is x.0 v (sym (ap (λ a. above a (view_of v)) x.1)
      ∙ high)) x.2 in
      ((λ e. le_trans start (x.3 e)), (λ o. le_trans start (x.4 o).0))),
  before_above page v n later ls h.1,
)
before_above page v n later (l ∷ ls) h = (tt, before_above page v n later ls h.1)

all_first : (P : Line → Type 0) (xs ys : List Line) → AllByRecursion P (xs ++ ys)
    → AllByRecursion P xs
all_first P [] ys h = tt
all_first P (x ∷ xs) ys h = (h.0, all_first P xs ys h.1)

only_above : (a : Answered Entry) (ls : List Line) → HaveBoth a ls
    → AllByRecursion (HasAbove (view_of a.view) a.index) ls
only_above a [] h = tt
only_above a (l ∷ ls) h = (h.0.0, only_above a ls h.1)

only_here : (a : Answered Entry) (ls : List Line) → HaveBoth a ls
    → AllByRecursion (HasHere (view_of a.view) a.index) ls
only_here a [] h = tt
only_here a (l ∷ ls) h = (h.0.1, only_here a ls h.1)

-- ---- places of answers

-- lines that don't answer ask nothing
no_answer : (l : Line) (before later : Trace) → IsNoAnswer l → SurvivesLater before l later
no_answer (line.Answered server client number index reply) before later h = absurd h
no_answer l before later h = tt

amid_none : (ls later before : Trace) → AllByRecursion IsNoAnswer ls
    → AtPlacesAmid SurvivesLater (before ++ ls) later → AtPlacesAmid SurvivesLater before (ls
    ++ later)
amid_none [] later before h k = subst (λ b. AtPlacesAmid SurvivesLater b later)
    (append-nil before) k
amid_none (l ∷ ls) later before h k = (
  no_answer l before (ls ++ later) h.0,
  amid_none ls later (before ++ l ∷ []) h.1 (subst (λ b. AtPlacesAmid SurvivesLater b later)
      (sym (append_assoc before (l ∷ []) ls)) k),
)

amid_answers : (q : Place) (ms : List (Move Entry)) (before later : Trace) → AreReadless ms
    → ((n : ℕ) (e : Entry) → In ms (Saying (Answers n e)) → (more tail : Trace) → AreStateless more
    → AreSaid more → AreStateless tail
    → SurvivesLater (before ++ more) (line.Answered (id_of q) e.client e.number n e.reply) (tail
    ++ later))
    → AtPlacesAmid SurvivesLater (before ++ answered_lines q ms) later
    → AtPlacesAmid SurvivesLater before (answered_lines q ms ++ later)
amid_answers q [] before later r each k = subst (λ b. AtPlacesAmid SurvivesLater b later)
    (append-nil before) k
amid_answers q (Saying (Answers n e) ∷ ms) before later r each k =
    let l = line.Answered (id_of q) e.client e.number n e.reply in (
      subst (λ b. SurvivesLater b l (answered_lines q ms ++ later)) (append-nil before)
          (each n e (inl refl) [] (answered_lines q ms) tt tt (stateless-answered q ms)),
      amid_answers q ms (before ++ l ∷ []) later r.1
          (λ m x i more tail s d t. subst
          (λ b. SurvivesLater b (line.Answered (id_of q) x.client x.number m x.reply) (tail
          ++ later)) (sym (append_assoc before (l ∷ []) more)) (each m x (inr i) (l
          ∷ more) tail (tt, s) (tt, d) t))
          (subst (λ b. AtPlacesAmid SurvivesLater b later)
          (sym (append_assoc before (l ∷ []) (answered_lines q ms))) k),
    )
amid_answers q (Reading n e ∷ ms) before later r each k = absurd r.0
amid_answers q (Saying (Refuses client number cause) ∷ ms) before later r each k =
    amid_answers q ms before later r.1 (λ n e i. each n e (inr i)) k
amid_answers q (Saying (Lists n) ∷ ms) before later r each k = amid_answers q ms before later r.1
    (λ n e i. each n e (inr i)) k
amid_answers q (m ∷ ms) before later r each k = amid_answers q ms before later r.1
    (λ n e i. each n e (inr i)) k

-- ---- a step

-- the lines that follow show each update that was answered so far
abbrev pub RestHas : Group Entry → Trace → Type 0
RestHas g rest = (a : Answered Entry) → In g.answered a → HaveBoth a rest

pub survives_step : (before : Trace) (g : Group Entry) → Stands before g
    → (s : Step) (q : Place) (i : Input) (ms : List (Move Entry)) → Turned g s q i ms
    → (rest : Trace) → RestHas (turn_group g q ms) rest
    → AtPlacesAmid SurvivesLater (before ++ turn_lines g s q ms) rest
    → AtPlacesAmid SurvivesLater before (turn_lines g s q ms ++ rest)
survives_step before g h s q i ms t rest has k = (
  tt,
  subst (AtPlacesAmid SurvivesLater (with_event before s))
      (sym (append_assoc (new_lines g q ms) (answered_lines q ms ++ behind_answers g s q ms) rest))
      (amid_none (new_lines g q ms) ((answered_lines q ms ++ behind_answers g s q ms) ++ rest)
      (with_event before s) (entered_none g q ms)
      (subst (AtPlacesAmid SurvivesLater (up_to_answers before s g q ms))
      (sym (append_assoc (answered_lines q ms) (behind_answers g s q ms) rest))
      (by ms t (kind_answers q (g.clock q) (g.server q) i ms t.kind) has
      (amid_none (behind_answers g s q ms) rest (up_to_answers before s g q ms
      ++ answered_lines q ms) (behind_no g s q ms)
      (subst (λ b. AtPlacesAmid SurvivesLater b rest)
      (sym (regroup before (new_lines g q ms) (answered_lines q ms) (behind_answers g s q ms)))
      k))))),
)
  where
    regroup : (b e a r : List Line) → ((with_event b s ++ e) ++ a) ++ r ≡ b ++ line.Event s
        ∷ (e ++ (a ++ r))
    regroup b e a r = append_assoc (with_event b s ++ e) a r ∙ append_assoc (with_event b s) e (a
        ++ r) ∙ append_assoc b (line.Event s ∷ []) (e ++ (a ++ r))

    -- one answer
    one : (ms : List (Move Entry)) → Turned g s q i ms → RestHas (turn_group g q ms) rest
        → AnswersUpdates (g.server q) i ms → (n : ℕ) (e : Entry) → In ms (Saying (Answers n e))
        → (more tail : Trace)
        → AreStateless more → AreStateless tail → Survives (up_to_answers before s g q ms ++ more)
        (id_of q) n (tail ++ (behind_answers g s q ms ++ rest))
    one ms t has a n e x more tail quiet quiet' =
        let g' = turn_group g q ms in
        let v = (g.server q).accepted in
        let it : Answered Entry = record { view = v; index = n; entry = e } in
        let in_it = given ms g q (g.server q) n e (a.views n e x) x in
        let w = turn_whole g s q i ms t in
        let later = every_later_view g' w it in_it in
        let stood = turn_stands before g h s q i ms t in
        let P = HasAbove (view_of v) n in
        let old = before_above g'.page v n (λ w l f. (later.later w l f).0) before
        (all_first (IsSound g'.page) before (turn_lines g s q ms) stood.lines) in
        let new = only_above it (new_lines g q ms)
        (stateless_have it _ (stateless-entered (length g.book) _)) in
        let behind = behind_have g s q ms it (turn_has g s q i ms t it in_it) in
        let all : HaveBoth it (tail ++ (behind_answers g s q ms ++ rest)) =
        all-append (HasBoth it) tail _ (stateless_have it tail quiet') (all-append (HasBoth it)
        (behind_answers g s q ms) rest behind (has it in_it)) in
        record {
          state = state_of (g.server q);
          is = its_state before g h s q ms more quiet (up_of_answer g s q i ms t n e x);
          above_before = all-append P (up_to_answers before s g q ms) more
              (all-append P (with_event before s) (new_lines g q ms) (all-append P before
              (line.Event s ∷ []) old (tt, tt)) new)
              (only_above it more (stateless_have it more quiet));
          above_later = only_above it _ all;
          here_later = only_here it _ all;
        }
      where
        all_last : (xs ys : List Line) (b : Answered Entry) → HaveBoth b (xs ++ ys) → HaveBoth b ys
        all_last [] ys b h = h
        all_last (x ∷ xs) ys b h = all_last xs ys b h.1

        behind_have : (g : Group Entry) (s : Step) (q : Place) (ms : List (Move Entry))
            (b : Answered Entry) → HaveBoth b (turn_lines g s q ms)
            → HaveBoth b (behind_answers g s q ms)
        behind_have g s q ms b h = all_last (answered_lines q ms) (behind_answers g s q ms) b
            (all_last (new_lines g q ms) (answered_lines q ms ++ behind_answers g s q ms) b h.1)

    by : (ms : List (Move Entry)) → Turned g s q i ms → Answering (g.clock q) (g.server q) i ms
        → RestHas (turn_group g q ms) rest
        → AtPlacesAmid SurvivesLater (up_to_answers before s g q ms ++ answered_lines q ms)
        (behind_answers g s q ms ++ rest)
        → AtPlacesAmid SurvivesLater (up_to_answers before s g q ms) (answered_lines q ms
        ++ (behind_answers g s q ms ++ rest))
    by ms t (updating _ a) has k = amid_answers q ms (up_to_answers before s g q ms)
        (behind_answers g s q ms ++ rest) a.readless
        (λ n e x more tail quiet said quiet' _. one ms t has a n e x more tail quiet quiet') k
    by _ t (reading e after o is u l tails) has k =
        let ms = Reading (g.server q).cp e ∷ after in
        let l = line.Answered (id_of q) e.client e.number (g.server q).cp e.reply in
        let up = up_to_answers before s g q ms in
        let rest' = behind_answers g s q ms ++ rest in
        let alone : answered_lines q ms ≡ l ∷ [] =
        ap (λ ls. l ∷ ls) (silent_answers q after
        (milds_silent after (tails_mild after tails))) in
        subst (λ ls. AtPlacesAmid SurvivesLater up (ls ++ rest')) (sym alone) (
          (λ update. absurd (true≢false (sym (answers_update before g s q i e after t.begun is u)
              ∙ update))),
          subst (λ ls. AtPlacesAmid SurvivesLater (up ++ ls) rest') alone k,
        )
