-- Each answer of the observer is one on a tree of the book.
use Rattle.std.proofs.Common.{◌≡◌, ℕ, ◌≤◌, Bool, true, false, List, [], ◌∷◌, ◌++◌, length, refl, sym, ap, subst, ◌∙◌, append_assoc, arith, Option, Some, None, if◌then◌else◌}
use Rattle.std.specs.Prelude.{map, slice_get}
use Rattle.std.specs.List.{AllByRecursion, flat_map}
use Rattle.std.proofs.lemmas.List.{append-nil, length-append}
use Rattle.std.proofs.lemmas.List.Elements.{filter-append}
use Rattle.std.proofs.lemmas.List.Sums.{fold-append}
use Rattle.std.proofs.lemmas.Grind.{flat_map-append}
use Rattle.harp_types.specs.Update.{is_update}
use Rattle.harp_types.specs.declared.call.Call.{Call}
use Rattle.harp_types.specs.declared.server.ServerId.{ServerId}
use Rattle.file_tree.specs.Book.{Entry, updates}
use Rattle.trace_claims.specs.Trace.{Trace, entries}
use Rattle.trace_claims.proofs.Places.{entries-append}
use Rattle.group_safety.specs.Laws.{Whole}
use Rattle.group_trace.specs.Run.{step_lines}
use Rattle.group_trace.specs.Scene.{Measures, Scene, first_scene}
use Rattle.trace_laws.specs.Laws.{RunIsRight}
use Rattle.trace_laws.proofs.RightRuns.{run_right}
use Rattle.trace_laws.proofs.RunLaws.{can_follow}
use Rattle.observer.specs.Laws.{IsNoOlder}
use Rattle.observed_text.specs.declared.step.Act.TheVariants as act
use Rattle.observed_text.specs.declared.step.ObservedStep.{ObservedStep}
use Rattle.observed_text.specs.declared.step.ObservedStep.TheVariants as observed
use Rattle.observed_text.specs.declared.line.ObservedLine.{ObservedLine}
use Rattle.observed_text.specs.declared.line.ObservedLine.TheVariants as line
use Rattle.observe_laws.specs.Peeks.{AtObservedAfter, IsPeeked, IsPeekedIn, later_act, top_peeked, updates_in}
use Rattle.observe_laws.specs.Run.{AreObserved, is_observed_elementary, is_same_top, observed_lines, observed_next, observed_refusal, observed_run, observed_run_lines, peek_lines, peeked, played_steps, shown_in, top_line, top_lines, want_lines, with_shown, with_taken}
use Rattle.observe_laws.specs.Scene.{ObservedScene, Showing, first_observed, taken_by}
use Rattle.observe_laws.specs.Trace.{ObservedTrace, traced}
use Rattle.observe_laws.proofs.Taken.{observed-more}
use Rattle.observe_laws.proofs.Traced.{lines_played, observed_lines-append, observed_run-append, scene_played, taken_played, traced-append}
use Rattle.observe_laws.proofs.Within.{AreShownWithin, IsOneWithin, IsTopWithin, IsWithin, at_within, progress_grows, shown_grow, shown_one_more, shown_within, taken_on, taken_within}

-- ---- where steps lead

-- steps that are taken lead to this scene, and gave these lines
pub record IsLed (m : Measures) (w : ObservedScene) (before : ObservedTrace) : Type 0 where
  pub done : List ObservedStep
  pub taken : AreObserved m first_observed done
  pub scene : observed_run m first_observed done ≡ w
  pub lines : observed_run_lines m first_observed done ≡ before

pub led_first : (m : Measures) → IsLed m first_observed []
unfolding observed_run observed_run_lines
led_first m = record { done = []; taken = tt; scene = refl; lines = refl }

led_on : (m : Measures) (w : ObservedScene) (before : ObservedTrace) (s : ObservedStep)
    → IsLed m w before → observed_refusal m w s ≡ None → is_observed_elementary s ≡ true
    → IsLed m (observed_next m w s) (before ++ observed_lines m w s)
unfolding observed_run observed_run_lines
led_on m w before s h r e = record {
  done = h.done ++ s ∷ [];
  taken = observed-more m first_observed h.done s h.taken
      (subst (λ (v : ObservedScene). observed_refusal m v s ≡ None) (sym h.scene) r) e;
  scene = observed_run-append m first_observed h.done (s ∷ [])
      ∙ ap (λ (v : ObservedScene). observed_next m v s) h.scene;
  lines = observed_lines-append m first_observed h.done (s ∷ [])
      ∙ (λ i. h.lines i ++ (observed_lines m (h.scene i) s ++ []))
      ∙ ap (λ (ls : ObservedTrace). before ++ ls) (append-nil (observed_lines m w s));
}

run_of : (m : Measures) (w : ObservedScene) (before : ObservedTrace) (h : IsLed m w before)
    → RunIsRight m (played_steps h.done)
run_of m w before h =
    run_right m (played_steps h.done) (can_follow m first_scene (played_steps h.done)
    (taken_played m first_observed h.done h.taken))

is_whole : (m : Measures) (w : ObservedScene) (before : ObservedTrace) → IsLed m w before
    → Whole w.scene.group
is_whole m w before h =
    subst (λ (v : Scene). Whole v.group)
    (sym (scene_played m first_observed h.done) ∙ ap (λ (v : ObservedScene). v.scene) h.scene)
    (run_of m w before h).whole

-- the updates that were entered are those of the group
updates_are : (m : Measures) (w : ObservedScene) (before : ObservedTrace) → IsLed m w before
    → updates_in before ≡ w.scene.group.committed
updates_are m w before h =
    let run = run_of m w before h in
    ap updates_in (sym h.lines)
    ∙ ap (λ (t : Trace). updates (entries t)) (lines_played m first_observed h.done)
    ∙ ap updates run.book ∙ run.whole.books.updates
    ∙ ap (λ (v : Scene). v.group.committed)
    (sym (scene_played m first_observed h.done) ∙ ap (λ (v : ObservedScene). v.scene) h.scene)

updates-append : (xs ys : ObservedTrace)
    → updates_in (xs ++ ys) ≡ updates_in xs ++ updates (entries (traced ys))
updates-append xs ys =
    ap (λ (t : Trace). updates (entries t)) (traced-append xs ys)
    ∙ ap updates (entries-append (traced xs) (traced ys))
    ∙ filter-append (λ (e : Entry). is_update e.call) (entries (traced xs)) (entries (traced ys))

abbrev count : ObservedScene → ℕ
count w = length w.scene.group.committed

grown : (m : Measures) (w v : ObservedScene) (before more : ObservedTrace) → IsLed m w before
    → IsLed m v (before ++ more) → count w ≤ count v
grown m w v before more h k =
    omega (
      arith,
      ap length (updates_are m w before h),
      ap length (updates_are m v (before ++ more) k),
      ap length (updates-append before more),
      length-append (updates_in before) (updates (entries (traced more))),
    )

-- ---- what each step keeps

abbrev peeks_in : ObservedTrace → List ℕ
peeks_in trace = flat_map top_peeked trace

peeks-append : (xs ys : ObservedTrace) → peeks_in (xs ++ ys) ≡ peeks_in xs ++ peeks_in ys
peeks-append xs ys = flat_map-append top_peeked xs ys

-- no answer was of more updates than the finished copy has, and none without one
abbrev ArePast : Option ℕ → List ℕ → Type 0
ArePast None tops = tops ≡ []
ArePast (Some top) tops = AllByRecursion (λ n. n ≤ top) tops

all_past : (a b : ℕ) → a ≤ b → (tops : List ℕ) → AllByRecursion (λ n. n ≤ a) tops
    → AllByRecursion (λ n. n ≤ b) tops
all_past a b le [] h = tt
all_past a b le (n ∷ tops) h = (omega (arith, le, h.0), all_past a b le tops h.1)

past_on : (finished after : Option ℕ) → IsNoOlder finished after → (tops : List ℕ)
    → ArePast finished tops → ArePast after tops
past_on None None n tops h = h
past_on None (Some top) n tops h =
    subst (λ (l : List ℕ). AllByRecursion (λ n. n ≤ top) l) (sym h) tt
past_on (Some a) None n tops h = absurd n
past_on (Some a) (Some b) n tops h = all_past a b n tops h

-- lines without an answer change nothing of it
past_more : (finished : Option ℕ) (before more : ObservedTrace) → peeks_in more ≡ []
    → ArePast finished (peeks_in before) → ArePast finished (peeks_in (before ++ more))
past_more finished before more none h =
    subst (ArePast finished)
    (sym (peeks-append before more ∙ ap (λ (l : List ℕ). peeks_in before ++ l) none
    ∙ append-nil (peeks_in before))) h

pub record Keeps (w : ObservedScene) (before : ObservedTrace) : Type 0 where
  pub progress : IsWithin (count w) w.progress
  pub shown : AreShownWithin (count w) w.shown
  pub peeks : ArePast w.progress.finished (peeks_in before)

pub keeps_first : Keeps first_observed []
keeps_first = record { progress = (tt, tt); shown = tt; peeks = refl }

none_peeked : (ls : Trace) → peeks_in (map line.Traced ls) ≡ []
none_peeked [] = refl
none_peeked (l ∷ ls) = none_peeked ls

want_keeps : (w : ObservedScene) (before : ObservedTrace) (server : ServerId) (packet : ℕ)
    (o : Option Showing) → IsOneWithin (count w) o → Keeps w before
    → Keeps (with_shown w o) (before ++ line.Event (act.Want server) ∷ want_lines packet server o)
want_keeps w before server packet None i h = record {
  progress = h.progress;
  shown = h.shown;
  peeks = past_more w.progress.finished before _ refl h.peeks;
}
want_keeps w before server packet (Some x) i h = record {
  progress = h.progress;
  shown = shown_one_more (count w) w.shown x h.shown i;
  peeks = past_more w.progress.finished before _ refl h.peeks;
}

tops_peekless : (same : Bool) (o : Option ℕ) → peeks_in (if same then [] else top_line o) ≡ []
tops_peekless true o = refl
tops_peekless false None = refl
tops_peekless false (Some top) = refl

take_keeps : (w : ObservedScene) (before : ObservedTrace) (packet : ℕ) (o : Option Showing)
    → IsOneWithin (count w) o → Keeps w before
    → Keeps (with_taken w o) (before ++ line.Event (act.Take packet)
    ∷ top_lines w.progress.finished (with_taken w o).progress.finished)
take_keeps w before packet None i h = record {
  progress = h.progress;
  shown = h.shown;
  peeks = past_more w.progress.finished before _
      (tops_peekless (is_same_top w.progress.finished w.progress.finished) w.progress.finished)
      h.peeks;
}
take_keeps w before packet (Some x) i h =
    let after = (taken_by w.progress x).finished in
    record {
      progress = taken_within (count w) w.progress x h.progress i;
      shown = h.shown;
      peeks = past_more after before _ (tops_peekless (is_same_top w.progress.finished after) after)
          (past_on w.progress.finished after (taken_on w.progress x) (peeks_in before) h.peeks);
    }

last_past : (top : ℕ) (tops : List ℕ) → AllByRecursion (λ n. n ≤ top) tops
    → AllByRecursion (λ n. n ≤ top) (tops ++ top ∷ [])
last_past top [] h = (omega arith, tt)
last_past top (n ∷ tops) h = (h.0, last_past top tops h.1)

peek_past : (committed : List Entry) (call : Call) (finished : Option ℕ) (before : ObservedTrace)
    → ArePast finished (peeks_in before)
    → ArePast finished
    (peeks_in (before ++ line.Event (act.Peek call) ∷ peek_lines committed call finished))
peek_past committed call None before h = past_more None before _ refl h
peek_past committed call (Some top) before h =
    subst (AllByRecursion (λ n. n ≤ top))
    (sym (peeks-append before
    (line.Event (act.Peek call) ∷ line.Peeked top (peeked committed call top) ∷ [])))
    (last_past top (peeks_in before) h)

keeps_on : (m : Measures) (w : ObservedScene) (before : ObservedTrace) (s : ObservedStep)
    → IsLed m w before → IsLed m (observed_next m w s) (before ++ observed_lines m w s)
    → Keeps w before → Keeps (observed_next m w s) (before ++ observed_lines m w s)
keeps_on m w before (observed.Played s) h k keeps =
    let v = observed_next m w (observed.Played s) in
    let le = grown m w v before (observed_lines m w (observed.Played s)) h k in
    record {
      progress = progress_grows (count w) (count v) le w.progress keeps.progress;
      shown = shown_grow (count w) (count v) le w.shown keeps.shown;
      peeks = past_more w.progress.finished before (map line.Traced (step_lines m w.scene s))
          (none_peeked (step_lines m w.scene s)) keeps.peeks;
    }
keeps_on m w before (observed.Acted act.Copy) h k keeps = record {
  progress = (keeps.progress.0, omega arith);
  shown = keeps.shown;
  peeks = past_more w.progress.finished before _ refl keeps.peeks;
}
keeps_on m w before (observed.Acted (act.Want server)) h k keeps =
    want_keeps w before server (length w.shown) (shown_in m w server)
    (shown_within m w (is_whole m w before h) server) keeps
keeps_on m w before (observed.Acted (act.Take packet)) h k keeps =
    take_keeps w before packet (slice_get w.shown packet)
    (at_within (count w) w.shown packet keeps.shown) keeps
keeps_on m w before (observed.Acted (act.Drain server n)) h k keeps = record {
  progress = keeps.progress;
  shown = keeps.shown;
  peeks = past_more w.progress.finished before _ refl keeps.peeks;
}
keeps_on m w before (observed.Acted (act.Peek call)) h k keeps = record {
  progress = keeps.progress;
  shown = keeps.shown;
  peeks = peek_past w.scene.group.committed call w.progress.finished before keeps.peeks;
}

-- ---- each answer

pub observed-places : (P : ObservedTrace → ObservedLine → Type 0) (before xs ys : ObservedTrace)
    → AtObservedAfter P before xs → AtObservedAfter P (before ++ xs) ys
    → AtObservedAfter P before (xs ++ ys)
observed-places P before [] ys p q =
    subst (λ (b : ObservedTrace). AtObservedAfter P b ys) (append-nil before) q
observed-places P before (x ∷ xs) ys p q = (
  p.0,
  observed-places P (before ++ x ∷ []) xs ys p.1
      (subst (λ (b : ObservedTrace). AtObservedAfter P b ys)
      (sym (append_assoc before (x ∷ []) xs)) q),
)

all_traced : (before : ObservedTrace) (ls : Trace)
    → AtObservedAfter IsPeekedIn before (map line.Traced ls)
all_traced before [] = tt
all_traced before (l ∷ ls) = (tt, all_traced (before ++ line.Traced l ∷ []) ls)

want_stands : (before : ObservedTrace) (packet : ℕ) (server : ServerId) (o : Option Showing)
    → AtObservedAfter IsPeekedIn before (want_lines packet server o)
want_stands before packet server None = (tt, tt)
want_stands before packet server (Some x) = (tt, tt)

top_stands : (before : ObservedTrace) (same : Bool) (o : Option ℕ)
    → AtObservedAfter IsPeekedIn before (if same then [] else top_line o)
top_stands before true o = tt
top_stands before false None = tt
top_stands before false (Some top) = (tt, tt)

peek_stands : (before : ObservedTrace) (committed : List Entry) (call : Call)
    (finished : Option ℕ) → updates_in before ≡ committed
    → IsTopWithin (length committed) finished → ArePast finished (peeks_in before)
    → AtObservedAfter IsPeekedIn (before ++ line.Event (act.Peek call) ∷ [])
    (peek_lines committed call finished)
peek_stands before committed call None is within past = (tt, tt)
peek_stands before committed call (Some top) is within past =
    let now = line.Event (act.Peek call) ∷ [] in
    let same : updates_in (before ++ now) ≡ committed =
    updates-append before now ∙ append-nil (updates_in before) ∙ is in
    let peek : IsPeeked (before ++ now) top (peeked committed call top) = record {
      call = call;
      asked = fold-append later_act None before now;
      within = omega (arith, within, ap length same);
      no_earlier = past_more (Some top) before now refl past;
      reply_is = ap (λ (us : List Entry). peeked us call top) (sym same);
    } in (peek, tt)

peeked_at : (m : Measures) (w : ObservedScene) (before : ObservedTrace) (s : ObservedStep)
    → IsLed m w before → Keeps w before
    → AtObservedAfter IsPeekedIn before (observed_lines m w s)
peeked_at m w before (observed.Played s) h keeps = all_traced before (step_lines m w.scene s)
peeked_at m w before (observed.Acted act.Copy) h keeps = (tt, tt)
peeked_at m w before (observed.Acted (act.Want server)) h keeps = (
  tt,
  want_stands (before ++ line.Event (act.Want server) ∷ []) (length w.shown) server
      (shown_in m w server),
)
peeked_at m w before (observed.Acted (act.Take packet)) h keeps =
    let after = (with_taken w (slice_get w.shown packet)).progress.finished in (
      tt,
      top_stands (before ++ line.Event (act.Take packet) ∷ [])
          (is_same_top w.progress.finished after) after,
    )
peeked_at m w before (observed.Acted (act.Drain server n)) h keeps = (tt, tt)
peeked_at m w before (observed.Acted (act.Peek call)) h keeps = (
  tt,
  peek_stands before w.scene.group.committed call w.progress.finished
      (updates_are m w before h) keeps.progress.0 keeps.peeks,
)

pub all_peeked : (m : Measures) (w : ObservedScene) (before : ObservedTrace)
    (ss : List ObservedStep) → IsLed m w before → Keeps w before → AreObserved m w ss
    → AtObservedAfter IsPeekedIn before (observed_run_lines m w ss)
unfolding observed_run_lines
all_peeked m w before [] h keeps t = tt
all_peeked m w before (s ∷ ss) h keeps t =
    let led = led_on m w before s h t.0 t.1 in
    observed-places IsPeekedIn before (observed_lines m w s)
    (observed_run_lines m (observed_next m w s) ss) (peeked_at m w before s h keeps)
    (all_peeked m (observed_next m w s) (before ++ observed_lines m w s) ss led
    (keeps_on m w before s h led keeps) t.2)
