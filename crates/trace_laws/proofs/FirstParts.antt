-- A first part of lines meets each law that speaks of the lines before, and of all lines behind.
use Rattle.std.proofs.Common.{◌≡◌, List, [], ◌∷◌, ◌++◌, refl, sym, ap, ◌∙◌, subst}
use Rattle.std.specs.List.{AllByRecursion}
use Rattle.trace_types.specs.declared.step.Step.{Step}
use Rattle.trace_types.specs.declared.step.Step.TheVariants as step
use Rattle.trace_types.specs.declared.line.Line.{Line}
use Rattle.trace_types.specs.declared.line.Line.TheVariants as line
use Rattle.trace_claims.specs.Acknowledged.{AnswersAtOnce, IsAcknowledged, answers_in_step}
use Rattle.trace_claims.specs.Faithful.{IsBookReply, IsNumbered, WasAsked}
use Rattle.trace_claims.specs.LaterViews.{HasAbove, HasHere, SurvivesLater}
use Rattle.trace_claims.specs.Listing.{ListsTree, listing_front}
use Rattle.trace_claims.specs.LocalSteps.{AddsRecords, IsNextPacket, IsOfItsStep}
use Rattle.trace_claims.specs.Reading.{AnswersItsAsk, ReadsExclusively, UsesPromise}
use Rattle.trace_claims.specs.Trace.{AtPlacesAfter, AtPlacesAmid, HasStep, Trace, entries}
use Rattle.trace_claims.proofs.Places.{entries-append}
use Rattle.file_tree.specs.Book.{Entry, IsBook, MayFollowAll}
use Rattle.trace_laws.specs.FirstParts.{FirstPartsAreRight}
use Rattle.group_trace.specs.Run.{CanFollow, run_lines}
use Rattle.group_trace.specs.Scene.{Measures, first_scene}
use Rattle.trace_laws.proofs.LeaderLaws.{acknowledged_step, exclusive_step, own_step, promise_step}
use Rattle.trace_laws.proofs.RightRuns.{first_stands}
use Rattle.trace_laws.proofs.RunLaws.{run_places, run_stands, run_at_once, run_lists, run_survives}
use Rattle.trace_laws.proofs.LocalLaws.{names_step}
use Rattle.trace_laws.proofs.LocalRuns.{run_packets, run_records}
use Rattle.trace_laws.proofs.StepLaws.{asked_step, numbered_step, replied_step}

all_first : (P : Line → Type 0) (xs ys : List Line) → AllByRecursion P (xs ++ ys)
    → AllByRecursion P xs
all_first P [] ys h = tt
all_first P (x ∷ xs) ys h = (h.0, all_first P xs ys h.1)

places_first : (P : Trace → Line → Type 0) (before xs ys : Trace)
    → AtPlacesAfter P before (xs ++ ys) → AtPlacesAfter P before xs
places_first P before [] ys h = tt
places_first P before (x ∷ xs) ys h = (h.0, places_first P (before ++ x ∷ []) xs ys h.1)

survives_first : (before : Trace) (l : Line) (xs ys : Trace) → SurvivesLater before l (xs ++ ys)
    → SurvivesLater before l xs
survives_first before (line.Answered server client number index reply) xs ys h = λ update.
    let s = h update in
    record {
      state = s.state;
      is = s.is;
      above_before = s.above_before;
      above_later = all_first (HasAbove s.state.accepted index) xs ys s.above_later;
      here_later = all_first (HasHere s.state.accepted index) xs ys s.here_later;
    }
survives_first before l xs ys h = tt

all_survive_first : (before xs ys : Trace) → AtPlacesAmid SurvivesLater before (xs ++ ys)
    → AtPlacesAmid SurvivesLater before xs
all_survive_first before [] ys h = tt
all_survive_first before (x ∷ xs) ys h = (
  survives_first before x xs ys h.0,
  all_survive_first (before ++ x ∷ []) xs ys h.1,
)

-- ---- steps that another one follows

answers_first : (xs ys : Trace) → HasStep xs → answers_in_step (xs ++ ys) ≡ answers_in_step xs
answers_first [] ys h = absurd h
answers_first (line.Event s ∷ xs) ys h = refl
answers_first (line.Answered server client number index reply ∷ xs) ys h =
    ap (λ xs. (server, index) ∷ xs) (answers_first xs ys h)
answers_first (l ∷ xs) ys h = answers_first xs ys h

front_first : (xs ys : Trace) → HasStep xs → listing_front (xs ++ ys) ≡ listing_front xs
front_first [] ys h = absurd h
front_first (line.Object attr ∷ xs) ys h = ap (λ ls. line.Object attr ∷ ls) (front_first xs ys h)
front_first (line.Slot dir slot number name ∷ xs) ys h =
    ap (λ ls. line.Slot dir slot number name ∷ ls) (front_first xs ys h)
front_first (line.Block file block bytes ∷ xs) ys h =
    ap (λ ls. line.Block file block bytes ∷ ls) (front_first xs ys h)
front_first (line.Text link text ∷ xs) ys h =
    ap (λ ls. line.Text link text ∷ ls) (front_first xs ys h)
front_first (l ∷ xs) ys h = refl

at_once_first : (before : Trace) (l : Line) (xs ys : Trace) → HasStep xs
    → AnswersAtOnce before l (xs ++ ys) → AnswersAtOnce before l xs
at_once_first before (line.Event (step.Deliver n)) xs ys s h =
    λ from to view top lb until state p st o a c. sym (answers_first xs ys s)
    ∙ h from to view top lb until state p st o a c
at_once_first before l xs ys s h = tt

lists_first : (before : Trace) (l : Line) (xs ys : Trace) → HasStep xs
    → ListsTree before l (xs ++ ys) → ListsTree before l xs
lists_first before (line.Listed server c n) xs ys s h = record {
  within = h.within;
  objects = h.objects;
  lines = sym (front_first xs ys s) ∙ h.lines;
}
lists_first before l xs ys s h = tt

amid_first : (P : Trace → Line → Trace → Type 0) → ((before : Trace) (l : Line) (xs ys : Trace)
    → HasStep xs → P before l (xs ++ ys) → P before l xs)
    → (before xs ys : Trace) → AtPlacesAmid P before (xs ++ ys)
    → AtPlacesAmid (λ before l later. HasStep later → P before l later) before xs
amid_first P f before [] ys h = tt
amid_first P f before (x ∷ xs) ys h =
    (λ s. f before x xs ys s h.0, amid_first P f (before ++ x ∷ []) xs ys h.1)

follow_first : (earlier xs ys : List Entry) → MayFollowAll earlier (xs ++ ys)
    → MayFollowAll earlier xs
follow_first earlier [] ys h = tt
follow_first earlier (x ∷ xs) ys h = (h.0, follow_first (earlier ++ x ∷ []) xs ys h.1)

pub first_parts_right : (m : Measures) (ss : List Step) → CanFollow m first_scene ss
    → FirstPartsAreRight m ss
first_parts_right m ss t part rest is =
    let lines = run_lines m first_scene ss in
    let h = run_stands m ss [] first_scene first_stands t in
    let places = λ (P : Trace → Line → Type 0) (k : AtPlacesAfter P [] lines). places_first P []
    part rest (subst (AtPlacesAfter P []) is k) in
    let book : entries part ++ entries rest ≡ (entries lines) = sym (entries-append part rest)
    ∙ ap entries (sym is) in
    let whole : IsBook (entries lines) = subst IsBook (sym h.entered) h.whole.books.book in
    let survive = run_survives m ss [] first_scene [] first_stands t (λ a. tt) tt in
    let at_once = run_at_once m ss [] first_scene [] first_stands t refl tt in
    let lists = run_lists m ss [] first_scene [] first_stands t tt tt in
    let is' : lines ++ [] ≡ part ++ rest = nothing lines ∙ is in
    record {
      faithful = record {
        numbered = places IsNumbered (run_places IsNumbered
            (λ b s. tt) numbered_step m ss [] first_scene first_stands t);
        book = follow_first [] (entries part) (entries rest) (subst IsBook (sym book) whole);
        answers = places IsBookReply (run_places IsBookReply
            (λ b s. tt) replied_step m ss [] first_scene first_stands t);
        asked = places WasAsked (run_places WasAsked
            (λ b s. tt) asked_step m ss [] first_scene first_stands t);
      };
      acknowledged = places IsAcknowledged (run_places IsAcknowledged
          (λ b s. tt) acknowledged_step m ss [] first_scene first_stands t);
      own_reads = places AnswersItsAsk (run_places AnswersItsAsk
          (λ b s. tt) own_step m ss [] first_scene first_stands t);
      promises = places UsesPromise (run_places UsesPromise
          (λ b s. tt) promise_step m ss [] first_scene first_stands t);
      exclusive = places ReadsExclusively (run_places ReadsExclusively
          (λ b s. tt) exclusive_step m ss [] first_scene first_stands t);
      later_views = all_survive_first [] part rest (subst (AtPlacesAmid SurvivesLater [])
          is' survive);
      answered_at_once = amid_first AnswersAtOnce at_once_first [] part rest
          (subst (AtPlacesAmid AnswersAtOnce []) is' at_once);
      listings = amid_first ListsTree lists_first [] part rest
          (subst (AtPlacesAmid ListsTree []) is' lists);
      local = record {
        names = places IsOfItsStep (run_places IsOfItsStep
            (λ b s. tt) names_step m ss [] first_scene first_stands t);
        packets = places IsNextPacket (run_packets m ss first_stands t);
        records = places AddsRecords (run_records m ss first_stands t);
      };
    }
  where
    nothing : (xs : Trace) → xs ++ [] ≡ xs
    nothing [] = refl
    nothing (x ∷ xs) = ap (λ ys. x ∷ ys) (nothing xs)
