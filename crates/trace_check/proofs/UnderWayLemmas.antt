-- What is kept of the step under way, as a trace grows.
use Rattle.std.proofs.Common.{◌≡◌, ℕ, Bool, true, false, [], ◌∷◌, ◌++◌, Option, Some, None, is_some, refl, sym, ap, ◌∙◌, inl, inr}
use Rattle.std.specs.Prelude.{◌↔◌, ◌⊎◌, not}
use Rattle.std.specs.Bool.{if◌then◌else◌}
use Rattle.harp_types.specs.declared.call.Call.{Call}
use Rattle.harp_types.specs.declared.cred.Cred.{Cred}
use Rattle.harp_types.specs.declared.reply.Reply.{Reply}
use Rattle.harp_types.specs.Update.{is_update}
use Rattle.harp_types.specs.declared.book.BookEntry.{BookEntry}
use Rattle.trace_types.specs.declared.line.Line.{Line}
use Rattle.trace_types.specs.declared.line.Line.TheVariants as line
use Rattle.trace_types.specs.declared.step.Step.{Step}
use Rattle.trace_types.specs.declared.step.Step.TheVariants as step
use Rattle.trace_claims.specs.Acknowledged.{answers_read}
use Rattle.trace_claims.specs.Faithful.{IsReadReply}
use Rattle.trace_claims.specs.Trace.{Trace, later_step, step_under_way}
use Rattle.trace_claims.proofs.Places.{step_under_way-append}
use Rattle.trace_check.specs.UnderWay.{entry_told, last_or, reading_of, reading_told, IsUnderWay}
use Rattle.trace_check.specs.declared.under_way.Reading.{Reading}
use Rattle.trace_check.specs.declared.under_way.UnderWay.{UnderWay}

abbrev next_reading : Option Reading → Option (Option Reading) → Option Reading
next_reading before None = before
next_reading before (Some reading) = reading

reading_next : (s : Option Step) (l : Line) → reading_of (later_step s l)
    ≡ next_reading (reading_of s) (reading_told l)
reading_next s (line.Event step) = refl
reading_next s l = refl

reading_push : (t : Trace) (l : Line) → reading_of (step_under_way (t ++ l ∷ []))
    ≡ next_reading (reading_of (step_under_way t)) (reading_told l)
reading_push t l = ap reading_of (step_under_way-append t (l ∷ []))
    ∙ reading_next (step_under_way t) l

last_push : (before : Option BookEntry) (t : Trace) (l : Line) → last_or before (t ++ l ∷ [])
    ≡ entry_told l
last_push before [] l = refl
last_push before (x ∷ t) l = last_push (entry_told x) t l

pub goes_on : (old : UnderWay) (before : Trace) (l : Line) (o : Option BookEntry)
    → IsUnderWay old before → reading_told l ≡ None
    → (is_some old.reading ≡ true → o ≡ entry_told l)
    → IsUnderWay (record { reading = old.reading; entered = o }) (before ++ l ∷ [])
goes_on old before l o a told is = record {
  reading = a.reading ∙ sym (reading_push before l
      ∙ ap (next_reading (reading_of (step_under_way before))) told);
  entered = λ reads. is reads ∙ sym (last_push None before l);
}

pub begins : (before : Trace) (l : Line) (r : Option Reading) (o : Option BookEntry)
    → reading_told l ≡ Some r → o ≡ entry_told l
    → IsUnderWay (record { reading = r; entered = o }) (before ++ l ∷ [])
begins before l r o told is = record {
  reading = sym (reading_push before l
      ∙ ap (next_reading (reading_of (step_under_way before))) told);
  entered = λ reads. is ∙ sym (last_push None before l);
}

pub nothing_told : (l : Line) → ((step : Step) → l ≡ line.Event step → ⊥)
    → ((place : ℕ) (entry : BookEntry) → l ≡ line.Entered place entry → ⊥)
    → (reading_told l ≡ None) × (entry_told l ≡ None)
nothing_told (line.Event step) begins enters = absurd (begins step refl)
nothing_told (line.Entered place entry) begins enters = absurd (enters place entry refl)
nothing_told l begins enters = (refl, refl)

reads_if : (b : Bool) (r : Reading) → is_some (if b then None else Some r) ≡ not b
reads_if true r = refl
reads_if false r = refl

-- a step asks for a read where there is one
pub reads : (s : Option Step) → is_some (reading_of s) ≡ answers_read s
reads None = refl
reads (Some (step.Ask server client number cred call)) =
    reads_if (is_update call) (record { cred = cred; call = call })
reads (Some s) = refl

-- ---- the entry of the last line

entered_line : (l : Line) (e : BookEntry) → entry_told l ≡ Some e
    → (place : ℕ) × (l ≡ line.Entered place e)
entered_line (line.Entered place entry) e h =
    (place, ap (λ (x : BookEntry). line.Entered place x) (let same : entry ≡ e = cc in same))
entered_line (line.Event s) e h = absurd cc
entered_line (line.Answered server client number index reply) e h = absurd cc
entered_line (line.Refused server client number cause) e h = absurd cc
entered_line (line.Sent packet from to message) e h = absurd cc
entered_line (line.State server state) e h = absurd cc
entered_line (line.Down server) e h = absurd cc
entered_line (line.Listed server cp objects) e h = absurd cc
entered_line (line.Unlisted server) e h = absurd cc
entered_line (line.Object attr) e h = absurd cc
entered_line (line.Slot dir slot number name) e h = absurd cc
entered_line (line.Block file block bytes) e h = absurd cc
entered_line (line.Text link text) e h = absurd cc
entered_line (line.Bad number fault) e h = absurd cc
entered_line (line.End entered) e h = absurd cc

last_stands : (before : Option BookEntry) (t : Trace) (e : BookEntry) → last_or before t ≡ Some e
    → ((t ≡ []) × (before ≡ Some e))
    ⊎ ((earlier : Trace) × (place : ℕ) × (t ≡ earlier ++ line.Entered place e ∷ []))
last_stands before [] e h = inl (refl, h)
last_stands before (x ∷ t) e h = elim (last_stands (entry_told x) t e h) [
  | inl p ↦ (let w = entered_line x e p.1 in inr (
    [],
    w.0,
    ap (λ l. l ∷ t) w.1
        ∙ ap (λ ts. line.Entered w.0 e ∷ ts) p.0,
  ))
  | inr p ↦ inr (x ∷ p.0, p.1, ap (λ ts. x ∷ ts) p.2)
]

last_is : (before : Option BookEntry) (t earlier : Trace) (place : ℕ) (e : BookEntry)
    → t ≡ earlier ++ line.Entered place e ∷ [] → last_or before t ≡ Some e
last_is before t earlier place e h = ap (last_or before) h
    ∙ last_push before earlier (line.Entered place e)

-- the line before enters the read with this client, number, credential, call and reply
pub record Enters (entered : Option BookEntry) (client number : ℕ) (cred : Cred) (call : Call)
    (reply : Reply) : Type 0 where
  pub entry : BookEntry
  pub is : entered ≡ Some entry
  pub client_is : entry.client ≡ client
  pub number_is : entry.number ≡ number
  pub cred_is : entry.cred ≡ cred
  pub call_is : entry.call ≡ call
  pub reply_is : entry.reply ≡ reply

pub not_first : (e : BookEntry) → None ≡ Some e → ⊥
not_first e h = cc

pub enters_is : (u : UnderWay) (t : Trace) (client number : ℕ) (cred : Cred) (call : Call)
    (reply : Reply) → IsUnderWay u t → is_some u.reading ≡ true
    → Enters u.entered client number cred call reply ↔ IsReadReply t client number cred call reply
enters_is u t client number cred call reply a reads = (
  λ h. elim (last_stands None t h.entry (sym (a.entered reads) ∙ h.is)) [
    | inl p ↦ absurd (not_first h.entry p.1)
    | inr p ↦ record {
      earlier = p.0;
      place = p.1;
      entry = h.entry;
      stands = p.2;
      client_is = h.client_is;
      number_is = h.number_is;
      cred_is = h.cred_is;
      call_is = h.call_is;
      reply_is = h.reply_is;
    }
  ],
  λ h. record {
    entry = h.entry;
    is = a.entered reads ∙ last_is None t h.earlier h.place h.entry h.stands;
    client_is = h.client_is;
    number_is = h.number_is;
    cred_is = h.cred_is;
    call_is = h.call_is;
    reply_is = h.reply_is;
  },
)

some_entry : (x y : BookEntry) → Some x ≡ Some y → x ≡ y
some_entry x y e = cc

-- what the entry of the line before says
pub enters_by : (entered : Option BookEntry) (entry : BookEntry) (client number : ℕ) (cred : Cred)
    (call : Call) (reply : Reply) → entered ≡ Some entry
    → Enters entered client number cred call reply
    → (entry.client ≡ client) × (entry.number ≡ number) × (entry.cred ≡ cred)
    × (entry.call ≡ call) × (entry.reply ≡ reply)
enters_by entered entry client number cred call reply is h =
    let same : h.entry ≡ entry = some_entry h.entry entry (sym h.is ∙ is) in (
      ap (λ (e : BookEntry). e.client) (sym same) ∙ h.client_is,
      ap (λ (e : BookEntry). e.number) (sym same) ∙ h.number_is,
      ap (λ (e : BookEntry). e.cred) (sym same) ∙ h.cred_is,
      ap (λ (e : BookEntry). e.call) (sym same) ∙ h.call_is,
      ap (λ (e : BookEntry). e.reply) (sym same) ∙ h.reply_is,
    )
