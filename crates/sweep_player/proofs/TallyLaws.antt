-- A tally with one more line.
use Rattle.std.proofs.Common.{◌≡◌, ℕ, ◌+◌, ◌<◌, ◌≤◌, drop, get_or, length, Bool, false, [], ◌∷◌, ◌++◌, refl, sym, ap, ◌∙◌, subst, append-nil, append_assoc, arith, not, ◌&&◌, Option}
use Rattle.std.proofs.lemmas.List.{at_drop_more, at_drop_all}
use Rattle.harp_types.specs.Trio.{value_of, with_value}
use Rattle.harp_types.specs.declared.server.ServerId.{ServerId}
use Rattle.harp_types.specs.declared.server.ServerId.TheVariants.{Zero, One, Two}
use Rattle.harp_types.specs.declared.state.StateLine.{StateLine}
use Rattle.harp_types.specs.declared.trio.Trio.{Trio}
use Rattle.trace_types.specs.declared.line.Line.{Line}
use Rattle.trace_types.specs.declared.line.Line.TheVariants as line
use Rattle.trace_types.specs.declared.step.Step.{Step}
use Rattle.trace_claims.specs.Servers.{is_open, last_state, later_state}
use Rattle.trace_claims.specs.Trace.{Trace}
use Rattle.sweep_player.specs.declared.tally.Tally.{Tally}
use Rattle.sweep_player.specs.Counts.{is_answered, is_entered, is_open_state, is_opening, is_refused, one_if, openings_behind, summary_of_trace, was_open}
use Rattle.sweep_player.specs.Tally.{IsTallyOf, open_after, opens}
use Rattle.sweep_player.proofs.CountLaws.{alike, state-push, summary-push}

none-open : (server : ServerId) → value_of (record { zero = false; one = false; two = false }) server
    ≡ was_open [] server
none-open Zero = refl
none-open One = refl
none-open Two = refl

-- ---- which servers are open

state_kept : (server s : ServerId) (bs : Trio Bool) (state : StateLine) (o : Option StateLine)
    → value_of bs s ≡ is_open_state o
    → value_of (with_value bs server (is_open state.mode)) s
    ≡ is_open_state (later_state s o (line.State server state))
state_kept Zero Zero bs state o h = refl
state_kept Zero One bs state o h = h
state_kept Zero Two bs state o h = h
state_kept One Zero bs state o h = h
state_kept One One bs state o h = refl
state_kept One Two bs state o h = h
state_kept Two Zero bs state o h = h
state_kept Two One bs state o h = h
state_kept Two Two bs state o h = refl

down_kept : (server s : ServerId) (bs : Trio Bool) (o : Option StateLine)
    → value_of bs s ≡ is_open_state o
    → value_of (with_value bs server false) s
    ≡ is_open_state (later_state s o (line.Down server))
down_kept Zero Zero bs o h = refl
down_kept Zero One bs o h = h
down_kept Zero Two bs o h = h
down_kept One Zero bs o h = h
down_kept One One bs o h = refl
down_kept One Two bs o h = h
down_kept Two Zero bs o h = h
down_kept Two One bs o h = h
down_kept Two Two bs o h = refl

kept : (l : Line) (s : ServerId) (bs : Trio Bool) (o : Option StateLine)
    → value_of bs s ≡ is_open_state o
    → value_of (open_after bs l) s ≡ is_open_state (later_state s o l)
kept (line.State server state) s bs o h = state_kept server s bs state o h
kept (line.Down server) s bs o h = down_kept server s bs o h
kept (line.Event step) s bs o h = h
kept (line.Entered place entry) s bs o h = h
kept (line.Answered server client number index reply) s bs o h = h
kept (line.Refused server client number cause) s bs o h = h
kept (line.Sent packet from to message) s bs o h = h
kept (line.Listed server cp objects) s bs o h = h
kept (line.Unlisted server) s bs o h = h
kept (line.Object attr) s bs o h = h
kept (line.Slot dir slot number name) s bs o h = h
kept (line.Block file block bytes) s bs o h = h
kept (line.Text link text) s bs o h = h
kept (line.Bad number fault) s bs o h = h
kept (line.End entered) s bs o h = h

-- ---- openings

opens-is : (trace : Trace) (t : Tally) (l : Line)
    → ((server : ServerId) → value_of t.stands_open server ≡ was_open trace server)
    → opens t l ≡ is_opening trace l
opens-is trace t (line.State server state) h =
    ap (λ b. is_open state.mode && not b) (h server)
opens-is trace t (line.Down server) h = refl
opens-is trace t (line.Event step) h = refl
opens-is trace t (line.Entered place entry) h = refl
opens-is trace t (line.Answered server client number index reply) h = refl
opens-is trace t (line.Refused server client number cause) h = refl
opens-is trace t (line.Sent packet from to message) h = refl
opens-is trace t (line.Listed server cp objects) h = refl
opens-is trace t (line.Unlisted server) h = refl
opens-is trace t (line.Object attr) h = refl
opens-is trace t (line.Slot dir slot number name) h = refl
opens-is trace t (line.Block file block bytes) h = refl
opens-is trace t (line.Text link text) h = refl
opens-is trace t (line.Bad number fault) h = refl
opens-is trace t (line.End entered) h = refl

-- ---- one more line

-- what a line makes of a tally
pub record Counts (old new : Tally) (l : Line) : Type 0 where
  pub entered : new.summary.entered ≡ old.summary.entered + one_if (is_entered l)
  pub answered : new.summary.answered ≡ old.summary.answered + one_if (is_answered l)
  pub refused : new.summary.refused ≡ old.summary.refused + one_if (is_refused l)
  pub opened : new.summary.opened ≡ old.summary.opened + one_if (opens old l)
  pub stands_open : new.stands_open ≡ open_after old.stands_open l

pub tally-push : (trace : Trace) (old new : Tally) (l : Line) → Counts old new l
    → IsTallyOf trace old → IsTallyOf (trace ++ l ∷ []) new
tally-push trace old new l c h = record {
  summary = alike new.summary _
      (c.entered ∙ ap (λ s. s.entered + one_if (is_entered l)) h.summary)
      (c.answered ∙ ap (λ s. s.answered + one_if (is_answered l)) h.summary)
      (c.refused ∙ ap (λ s. s.refused + one_if (is_refused l)) h.summary)
      (c.opened ∙ ap (λ s. s.opened + one_if (opens old l)) h.summary
      ∙ ap (λ b. (summary_of_trace trace).opened + one_if b) (opens-is trace old l h.stands_open))
      ∙ sym (summary-push trace l);
  stands_open = λ server. ap (λ o. value_of o server) c.stands_open
      ∙ kept l server old.stands_open (last_state trace server) (h.stands_open server)
      ∙ ap is_open_state (sym (state-push trace l server));
}

-- an event line counts nothing
pub event-counts : (trace : Trace) (t : Tally) (s : Step) → IsTallyOf trace t
    → IsTallyOf (trace ++ line.Event s ∷ []) t
event-counts trace t s = tally-push trace t t (line.Event s) (record {
  entered = omega arith;
  answered = omega arith;
  refused = omega arith;
  opened = omega arith;
  stands_open = refl;
})

-- no line
pub tally-first : IsTallyOf []
    (record {
      summary = record { entered = 0; answered = 0; refused = 0; opened = 0 };
      stands_open = record { zero = false; one = false; two = false };
    })
unfolding openings_behind summary_of_trace
tally-first = record { summary = refl; stands_open = none-open }

-- ---- lines of a list

-- some lines behind a trace are counted, and so many of a list are these
pub record HasTaken (trace lines : Trace) (i : ℕ) (t : Tally) : Type 0 where
  pub made : Trace
  pub are : made ++ drop i lines ≡ lines
  pub tally : IsTallyOf (trace ++ made) t

pub taken-none : (trace lines : Trace) (t : Tally) → IsTallyOf trace t → HasTaken trace lines 0 t
taken-none trace lines t h = record {
  made = [];
  are = refl;
  tally = subst (λ x. IsTallyOf x t) (sym (append-nil trace)) h;
}

pub taken-one : (trace lines : Trace) (i : ℕ) (x : Line) (old new : Tally) → i < length lines
    → x ≡ get_or lines i x
    → ((more : Trace) → IsTallyOf more old → IsTallyOf (more ++ x ∷ []) new)
    → HasTaken trace lines i old → HasTaken trace lines (i + 1) new
taken-one trace lines i x old new within is counts h =
    let next = at_drop_more (λ ls. h.made ++ ls) lines i x within
    ∙ ap (λ (y : Line). h.made ++ y ∷ drop (i + 1) lines) (sym is) in
    record {
      made = h.made ++ x ∷ [];
      are = append_assoc h.made (x ∷ []) (drop (i + 1) lines) ∙ sym next ∙ h.are;
      tally = subst (λ more. IsTallyOf more new) (append_assoc trace h.made (x ∷ []))
          (counts (trace ++ h.made) h.tally);
    }

pub taken-all : (trace lines : Trace) (i : ℕ) (t : Tally) → length lines ≤ i
    → HasTaken trace lines i t → IsTallyOf (trace ++ lines) t
taken-all trace lines i t past h =
    let whole : h.made ≡ lines = sym (append-nil h.made)
    ∙ sym (at_drop_all (λ ls. h.made ++ ls) lines i past) ∙ h.are in
    subst (λ ls. IsTallyOf (trace ++ ls) t) whole h.tally
