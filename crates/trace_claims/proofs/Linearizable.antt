-- A faithful trace is linearizable.
use Rattle.std.proofs.Common.{◌≡◌, ℕ, Bool, true, false, List, [], ◌∷◌, ◌++◌, refl, sym, subst, ap, ◌∙◌, append_assoc, arith, ◌⊎◌, inl, inr, Option, Some, None}
use Rattle.std.specs.Prelude.{Contains}
use Rattle.std.proofs.lemmas.List.{append-nil}
use Rattle.std.proofs.lemmas.List.Elements.{Contains-append_cases, Contains-push_cases}
use Rattle.harp_types.specs.Update.{is_update}
use Rattle.harp_types.specs.declared.book.BookEntry.{BookEntry}
use Rattle.harp_types.specs.declared.call.Call.{Call}
use Rattle.harp_types.specs.declared.cred.Cred.{Cred}
use Rattle.harp_types.specs.declared.reply.Reply.{Reply}
use Rattle.harp_types.specs.declared.server.ServerId.{ServerId}
use Rattle.trace_types.specs.declared.step.Step.{Step}
use Rattle.trace_types.specs.declared.step.Step.TheVariants as step
use Rattle.trace_types.specs.declared.line.Line.{Line}
use Rattle.trace_types.specs.declared.line.Line.TheVariants as line
use Rattle.trace_claims.specs.Faithful.{IsBookReply, IsFaithful, IsReadReply, IsReplyIn, IsReplyTo, IsUpdateReply, WasAsked}
use Rattle.trace_claims.specs.Linearizable.{IsInEffect, IsLinearizable, TookEffect}
use Rattle.trace_claims.specs.Trace.{AtPlacesAfter, Trace, entered_by, entries, entry_of, step_under_way, steps}
use Rattle.file_tree.specs.Book.{Entry}

-- the fact of a line amid a trace
at_place : (P : Trace → Line → Type 0) (before xs : Trace) (l : Line) (ys : Trace)
    → AtPlacesAfter P before (xs ++ l ∷ ys) → P (before ++ xs) l
at_place P before [] l ys h = subst (λ b. P b l) (sym (append-nil before)) h.0
at_place P before (x ∷ xs) l ys h = subst (λ b. P b l) (append_assoc before (x ∷ []) xs)
    (at_place P (before ++ x ∷ []) xs l ys h.1)

-- ---- where an entry stands

-- an entry was entered among these lines
record IsEntered (lines : Trace) (e : Entry) : Type 0 where
  earlier : Trace
  place : ℕ
  entry : BookEntry
  behind : Trace
  parts : lines ≡ earlier ++ line.Entered place entry ∷ behind
  is : entry_of entry ≡ e

none_in : (e : Entry) → Contains [] e → ⊥
none_in e h = omega (arith, h.1)

by_line : (l : Line) (ls : Trace) (e : Entry) → Contains (entered_by l) e → IsEntered (l ∷ ls) e
by_line (line.Entered place entry) ls e h = elim (Contains-push_cases [] (entry_of entry) e h) [
  | inl none ↦ absurd (none_in e none)
  | inr same ↦ record {
    earlier = [];
    place = place;
    entry = entry;
    behind = ls;
    parts = refl;
    is = same;
  }
]
by_line l ls e h = absurd (none_in e h)

entered_at : (lines : Trace) (e : Entry) → Contains (entries lines) e → IsEntered lines e
entered_at [] e h = absurd (none_in e h)
entered_at (l ∷ ls) e h = elim (Contains-append_cases (entered_by l) (entries ls) e h) [
  | inl here ↦ by_line l ls e here
  | inr later ↦ let x = entered_at ls e later in record {
    earlier = l ∷ x.earlier;
    place = x.place;
    entry = x.entry;
    behind = x.behind;
    parts = ap (λ xs. l ∷ xs) x.parts;
    is = x.is;
  }
]

-- ---- where a reply is from

-- an entry with the client, the number and the reply of an answer was entered before
record IsOfEntry (before : Trace) (client number : ℕ) (reply : Reply) : Type 0 where
  earlier : Trace
  place : ℕ
  entry : BookEntry
  behind : Trace
  parts : before ≡ earlier ++ line.Entered place entry ∷ behind
  client_is : entry.client ≡ client
  number_is : entry.number ≡ number
  reply_is : entry.reply ≡ reply

of_update : (before : Trace) (client number index : ℕ) (reply : Reply)
    → IsUpdateReply before client number index reply → IsOfEntry before client number reply
of_update before client number index reply u =
    let x = entered_at before u.entry u.stands in record {
      earlier = x.earlier;
      place = x.place;
      entry = x.entry;
      behind = x.behind;
      parts = x.parts;
      client_is = ap (λ (e : Entry). e.client) x.is ∙ u.client_is;
      number_is = ap (λ (e : Entry). e.number) x.is ∙ u.number_is;
      reply_is = ap (λ (e : Entry). e.reply) x.is ∙ u.reply_is;
    }

of_call : (updates : Bool) (before : Trace) (client number index : ℕ) (cred : Cred) (call : Call)
    (reply : Reply) → IsReplyTo updates before client number index cred call reply
    → IsOfEntry before client number reply
of_call true before client number index cred call reply u =
    of_update before client number index reply u
of_call false before client number index cred call reply r = record {
  earlier = r.earlier;
  place = r.place;
  entry = r.entry;
  behind = [];
  parts = r.stands;
  client_is = r.client_is;
  number_is = r.number_is;
  reply_is = r.reply_is;
}

of_step : (s : Option Step) (before : Trace) (client number index : ℕ) (reply : Reply)
    → IsReplyIn s before client number index reply → IsOfEntry before client number reply
of_step (Some (step.Ask server asker asked cred call)) before client number index reply h =
    of_call (is_update call) before client number index cred call reply h
of_step s before client number index reply h = of_update before client number index reply h

-- ---- what was asked

asked_as : (earlier : Trace) (client number : ℕ) (entry : BookEntry) (server : ServerId)
    → entry.client ≡ client → entry.number ≡ number
    → Contains (steps earlier) (step.Ask server entry.client entry.number entry.cred entry.call)
    → Contains (steps earlier) (step.Ask server client number entry.cred entry.call)
asked_as earlier client number entry server client_is number_is h =
    subst (λ n. Contains (steps earlier) (step.Ask server client n entry.cred entry.call))
    number_is (subst (λ n. Contains (steps earlier)
    (step.Ask server n entry.number entry.cred entry.call)) client_is h)

takes_effect : (before lines : Trace) (client number : ℕ) (reply : Reply)
    → AtPlacesAfter WasAsked [] (before ++ lines) → IsOfEntry before client number reply
    → TookEffect before client number reply
takes_effect before lines client number reply asked e =
    let amid = subst (AtPlacesAfter WasAsked []) (ap (λ xs. xs ++ lines) e.parts
    ∙ append_assoc e.earlier (line.Entered e.place e.entry ∷ e.behind) lines) asked in
    let was = at_place WasAsked [] e.earlier (line.Entered e.place e.entry) (e.behind ++ lines)
    amid in record {
      earlier = e.earlier;
      place = e.place;
      entry = e.entry;
      behind = e.behind;
      parts = e.parts;
      client_is = e.client_is;
      number_is = e.number_is;
      reply_is = e.reply_is;
      server = was.0;
      asked = asked_as e.earlier client number e.entry was.0 e.client_is e.number_is was.1;
    }

in_effect : (before : Trace) (l : Line) (lines : Trace)
    → AtPlacesAfter WasAsked [] (before ++ l ∷ lines) → IsBookReply before l → IsInEffect before l
in_effect before (line.Answered server client number index reply) lines asked h =
    takes_effect before (line.Answered server client number index reply ∷ lines) client number
    reply asked (of_step (step_under_way before) before client number index reply h)
in_effect before l lines asked h = tt

all_in_effect : (before lines : Trace) → AtPlacesAfter WasAsked [] (before ++ lines)
    → AtPlacesAfter IsBookReply before lines → AtPlacesAfter IsInEffect before lines
all_in_effect before [] asked h = tt
all_in_effect before (l ∷ lines) asked h = (
  in_effect before l lines asked h.0,
  all_in_effect (before ++ l ∷ []) lines (subst (AtPlacesAfter WasAsked [])
      (sym (append_assoc before (l ∷ []) lines)) asked) h.1,
)

pub linearizable : (trace : Trace) → IsFaithful trace → IsLinearizable trace
linearizable trace f = record {
  order = f.book;
  effect = all_in_effect [] trace f.asked f.answers;
}
