-- The lines of every run from the first group on are a right trace.
use Rattle.std.proofs.Common.{◌≡◌, ℕ, zero, suc, ◌<◌, true, List, [], ◌∷◌, ◌++◌, append-nil, length, Some, refl, sym, ap, ◌∙◌, subst, arith, true≢false}
use Rattle.trace_types.specs.declared.step.Step.{Step}
use Rattle.trace_types.specs.declared.line.Line.{Line}
use Rattle.trace_types.specs.declared.line.Line.TheVariants as line
use Rattle.trace_types.specs.declared.line.LineFault.{LineFault}
use Rattle.trace_claims.specs.Acknowledged.{AnswersAtOnce, IsAcknowledged, answers_in_step}
use Rattle.trace_claims.specs.Faithful.{IsBookReply, IsNumbered, WasAsked}
use Rattle.trace_claims.specs.LaterViews.{SurvivesLater}
use Rattle.trace_claims.specs.Listing.{ListsTree}
use Rattle.trace_claims.specs.LocalSteps.{AddsRecords, IsNextPacket, IsOfItsStep}
use Rattle.trace_claims.specs.Reading.{AnswersItsAsk, ReadsExclusively, UsesPromise}
use Rattle.trace_claims.specs.Servers.{first_state}
use Rattle.trace_claims.specs.Trace.{AtPlacesAfter, AtPlacesAmid, Ends, Trace, entries}
use Rattle.trace_claims.proofs.Places.{entries-append, places-append}
use Rattle.file_tree.specs.Book.{Entry, IsBook}
use Rattle.group_rules.specs.Limits.{room}
use Rattle.group_rules.specs.Names.{id_of}
use Rattle.group_rules.specs.Places.{Zero, One, Two, Place, all_of}
use Rattle.group_rules.specs.State.{Answered}
use Rattle.group_rules.specs.Step.{first_group}
use Rattle.group_safety.specs.Words.{In, IsActive}
use Rattle.group_safety.proofs.Safe.{first_whole}
use Rattle.trace_laws.specs.Laws.{RunIsRight}
use Rattle.group_trace.specs.Run.{CanFollow, run, run_lines}
use Rattle.group_trace.specs.Scene.{Measures, first_scene}
use Rattle.group_trace.specs.Shown.{shown_of}
use Rattle.trace_laws.proofs.LaterLaws.{HaveBoth}
use Rattle.trace_laws.proofs.LeaderLaws.{acknowledged_step, exclusive_step, own_step, promise_step}
use Rattle.trace_laws.proofs.LineParts.{shown_at}
use Rattle.trace_laws.proofs.Listings.{EndsListing}
use Rattle.trace_laws.proofs.Amid.{PartnerShown}
use Rattle.trace_laws.proofs.Standing.{AskedIn, Stands}
use Rattle.trace_laws.proofs.GroupViews.{run_views}
use Rattle.trace_laws.proofs.LocalLaws.{names_step}
use Rattle.trace_laws.proofs.LocalRuns.{run_packets, run_records}
use Rattle.trace_laws.proofs.StepLaws.{asked_step, numbered_step, replied_step}
use Rattle.trace_laws.proofs.RunLaws.{run_stands, run_places, run_begins, run_opens, begins_run, run_at_once, run_survives, run_lists}

pub first_stands : Stands [] first_group
unfolding shown_at all_of room
first_stands = record {
  whole = first_whole;
  entered = refl;
  states = first_states;
  packets = λ n. refl;
  clocks = λ q. refl;
  asked = first_asked;
  roles = λ q. record { known = λ a. absurd (first_rests q a) };
  told = λ q. record {
    acked = λ o. absurd (first_rests q (subst IsActive (sym o) tt));
    granted =
        λ o. absurd (first_rests q (subst IsActive (sym o) tt));
  };
  shown = record { each = first_shown };
  first = λ q v st e. absurd cc;
  lines = tt;
}
  where
    first_rests : (q : Place) → IsActive (first_group.server q).mode → ⊥
    first_rests Zero a = a
    first_rests One a = a
    first_rests Two a = a

    first_states : (q : Place) → Some (first_state (id_of q)) ≡ shown_of (first_group.server q)
    first_states Zero = refl
    first_states One = refl
    first_states Two = refl

    first_asked : (v : ℕ) (e : Entry) → In (first_group.page v).list e → AskedIn [] e
    first_asked zero e i = absurd i
    first_asked (suc n) e i = absurd i

    first_shown : (v : ℕ) → (first_group.page v).formed ≡ true → 0 < v
        → (first_group.page v).partner_in ≡ true → PartnerShown [] v (first_group.page v)
    first_shown zero f z i = absurd (omega arith)
    first_shown (suc n) f z i = absurd (true≢false (sym f))

-- a last line adds nothing that is asked of the lines
with_last : (P : Trace → Line → Type 0) → ((before : Trace) (number : ℕ) (fault : LineFault)
    → P before (line.Bad number fault))
    → ((before : Trace) (k : ℕ) → P before (line.End k))
    → (lines : Trace) (entered : ℕ) (end : Line) → Ends entered end → AtPlacesAfter P [] lines
    → AtPlacesAfter P [] (lines ++ end ∷ [])
with_last P bad ok lines entered (line.Bad number fault) ends h =
    places-append P [] lines (line.Bad number fault ∷ []) h (bad lines number fault, tt)
with_last P bad ok lines entered (line.End k) ends h = places-append P [] lines (line.End k ∷ []) h
    (ok lines k, tt)
with_last P bad ok lines entered l ends h = absurd ends

enters_none : (entered : ℕ) (end : Line) → Ends entered end → entries (end ∷ []) ≡ []
enters_none entered (line.Bad number fault) ends = refl
enters_none entered (line.End k) ends = refl
enters_none entered l ends = absurd ends

-- of a last line by itself
pub record LastLine (before : Trace) (end : Line) : Type 0 where
  pub idle : answers_in_step (end ∷ []) ≡ []
  pub at_once : AtPlacesAmid AnswersAtOnce before (end ∷ [])
  pub has : (a : Answered Entry) → HaveBoth a (end ∷ [])
  pub survives : AtPlacesAmid SurvivesLater before (end ∷ [])
  pub ends_listing' : EndsListing (end ∷ [])
  pub lists : AtPlacesAmid ListsTree before (end ∷ [])

last_line : (before : Trace) (entered : ℕ) (end : Line) → Ends entered end → LastLine before end
last_line before entered (line.Bad number fault) ends = record {
  idle = refl;
  at_once =
      (tt, tt);
  has = λ a. ((tt, tt), tt);
  survives = (tt, tt);
  ends_listing' = refl;
  lists =
      (tt, tt);
}
last_line before entered (line.End k) ends = record {
  idle = refl;
  at_once = (tt, tt);
  has =
      λ a. ((tt, tt), tt);
  survives = (tt, tt);
  ends_listing' = refl;
  lists = (tt, tt);
}
last_line before entered l ends = absurd ends

pub run_right : (m : Measures) (ss : List Step) → CanFollow m first_scene ss → RunIsRight m ss
run_right m ss t =
    let lines = run_lines m first_scene ss in
    let h = run_stands m ss [] first_scene first_stands t in
    record {
      events = run_begins m ss first_scene;
      book = h.entered;
      whole = h.whole;
      views = run_views (run m first_scene ss).group h.whole m ss [] first_scene first_stands t
          (λ a x. x);
      right = λ end ends.
          let last = last_line lines (length (entries lines)) end ends in
          record {
            closed = record {
              body = lines;
              last = end;
              parts = refl;
              begins =
                  begins_run m ss first_scene;
              open_before = run_opens m ss first_scene;
              ends =
                  ends;
            };
            faithful = record {
              numbered = with_last IsNumbered (λ b m f. tt) (λ b k. tt) lines _ end ends
                  (run_places IsNumbered (λ b s. tt) numbered_step m ss [] first_scene first_stands
                  t);
              book = subst IsBook (sym (entries-append lines (end ∷ []) ∙ ap (λ es. entries lines
                  ++ es) (enters_none _ end ends) ∙ append-nil (entries lines)
                  ∙ h.entered)) h.whole.books.book;
              answers = with_last IsBookReply (λ b m f. tt) (λ b k. tt) lines _ end ends
                  (run_places IsBookReply (λ b s. tt) replied_step m ss [] first_scene first_stands
                  t);
              asked = with_last WasAsked (λ b m f. tt) (λ b k. tt) lines _ end ends
                  (run_places WasAsked (λ b s. tt) asked_step m ss [] first_scene first_stands t);
            };
            acknowledged = with_last IsAcknowledged (λ b m f. tt) (λ b k. tt) lines _ end ends
                (run_places IsAcknowledged (λ b s. tt) acknowledged_step m ss [] first_scene
                first_stands t);
            answered_at_once = run_at_once m ss [] first_scene (end ∷ []) first_stands t last.idle
                last.at_once;
            own_reads = with_last AnswersItsAsk (λ b m f. tt) (λ b k. tt) lines _ end ends
                (run_places AnswersItsAsk (λ b s. tt) own_step m ss [] first_scene first_stands t);
            promises = with_last UsesPromise (λ b m f. tt) (λ b k. tt) lines _ end ends
                (run_places UsesPromise (λ b s. tt) promise_step m ss [] first_scene first_stands
                t);
            exclusive = with_last ReadsExclusively (λ b m f. tt) (λ b k. tt) lines _ end ends
                (run_places ReadsExclusively (λ b s. tt) exclusive_step m ss [] first_scene
                first_stands t);
            later_views = run_survives m ss [] first_scene (end ∷ []) first_stands t last.has
                last.survives;
            listings = run_lists m ss [] first_scene (end ∷ []) first_stands t last.ends_listing'
                last.lists;
            local = record {
              names = with_last IsOfItsStep (λ b m f. tt) (λ b k. tt) lines _ end ends
                  (run_places IsOfItsStep (λ b s. tt) names_step m ss [] first_scene first_stands
                  t);
              packets = with_last IsNextPacket (λ b m f. tt) (λ b k. tt) lines _ end ends
                  (run_packets m ss first_stands t);
              records = with_last AddsRecords (λ b m f. tt) (λ b k. tt) lines _ end ends
                  (run_records m ss first_stands t);
            };
          };
    }
