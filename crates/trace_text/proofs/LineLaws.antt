-- Lines behind their names: what is read is spelled so, and what is spelled so is read.
use Rattle.std.proofs.Common.{◌≡◌, ℕ, suc, ◌+◌, true, List, [], ◌∷◌, ◌++◌, length, drop, Some, Result, Ok, refl, sym, ap, subst, ◌∙◌, arith}
use Rattle.std.specs.Prelude.{decimal, codes}
use Rattle.trace_types.specs.declared.step.Step.{Step}
use Rattle.trace_types.specs.declared.line.Line.{Line}
use Rattle.trace_types.specs.declared.line.Line.TheVariants as lines
use Rattle.text_spelling.specs.Text.{spaced, hex_text, reply_text, attr_text}
use Rattle.text_spelling.specs.Lines.{cause_text}
use Rattle.text_spelling.specs.TraceLines.{fault_text, message_text, entry_line, line_text}
use Rattle.schedule_text.specs.declared.fault.TextFault.{TextFault}
use Rattle.schedule_text.specs.Fields.{Read, ◌>>=◌, EndsWord, space_at, spaced_at}
use Rattle.schedule_text.proofs.Places.{Spells, Spells-then, space_takes, space_again, drop_past, bind_ok, ok_is, read_of}
use Rattle.schedule_text.proofs.Faults.{PlacedReader}
use Rattle.schedule_text.proofs.Faults as faults
use Rattle.schedule_text.proofs.Words.{names_form}
use Rattle.schedule_text.proofs.Words as words
use Rattle.schedule_text.proofs.Rows.{u32_row, count_row, server_row, both_row, made_takes, made_again, made_placed}
use Rattle.schedule_text.proofs.FormTexts as texts
use Rattle.schedule_text.proofs.MeaningLaws.{parts}
use Rattle.trace_text.specs.declared.form.LineForm.{LineForm}
use Rattle.trace_text.specs.declared.form.LineForm.TheVariants as form
use Rattle.trace_text.specs.Fields.{value_named}
use Rattle.trace_text.specs.Reading.{elementary_at, form_name, forms, form_at}
use Rattle.trace_text.specs.Fits.{LineFits}
use Rattle.trace_text.proofs.Named.{is_word, value_unique, IsByName}
use Rattle.trace_text.proofs.AttrLaws.{attr_row}
use Rattle.trace_text.proofs.ReplyLaws.{reply_row, hex_row}
use Rattle.trace_text.proofs.CauseLaws.{cause_row}
use Rattle.trace_text.proofs.MessageLaws.{message_row}
use Rattle.trace_text.proofs.StateLaws.{up_text, down_text, state_takes, up_again, down_again, state_placed, state_spelled}
use Rattle.trace_text.proofs.EventLaws.{IsNothing, StepStands, event_of, elementary_takes, elementary_again, elementary_placed}
use Rattle.trace_text.proofs.BookLaws.{spaced_server, entry_row, some_row, fault_row}

-- ---- the text behind a name

-- the form of a line
abbrev pub form_of : Line → LineForm
form_of (lines.Event s) = form.Event
form_of (lines.Entered place entry) = form.Entered
form_of (lines.Answered server client number index reply) = form.Answered
form_of (lines.Refused server client number cause) = form.Refused
form_of (lines.Sent packet from to message) = form.Sent
form_of (lines.State server state) = form.State
form_of (lines.Down server) = form.State
form_of (lines.Listed server cp objects) = form.Listed
form_of (lines.Unlisted server) = form.Unlisted
form_of (lines.Object attr) = form.Object
form_of (lines.Slot dir slot number name) = form.Slot
form_of (lines.Block file block bytes) = form.Block
form_of (lines.Text link text) = form.Text
form_of (lines.Bad place fault) = form.Bad
form_of (lines.End entered) = form.End

-- a step, as its name and what stands behind it
abbrev pub step_parts : Step → List ℕ
step_parts s = words.form_name (texts.form_of s) ++ texts.rest_text s

-- what stands behind the name of a line
abbrev pub rest_text : Line → List ℕ
rest_text (lines.Event s) = spaced (step_parts s)
rest_text (lines.Entered place entry) = spaced (decimal place) ++ entry_line entry
rest_text (lines.Answered server client number index reply) =
    ((spaced_server server ++ spaced (decimal client)) ++ spaced (decimal number))
    ++ spaced (decimal index) ++ spaced (reply_text reply)
rest_text (lines.Refused server client number cause) =
    ((spaced_server server ++ spaced (decimal client)) ++ spaced (decimal number))
    ++ spaced (cause_text cause)
rest_text (lines.Sent packet from to message) =
    spaced (decimal packet) ++ spaced_server from ++ spaced_server to
    ++ spaced (message_text message)
rest_text (lines.State server state) = up_text server state
rest_text (lines.Down server) = down_text server
rest_text (lines.Listed server cp objects) =
    spaced_server server ++ spaced (decimal cp) ++ spaced (decimal objects)
rest_text (lines.Unlisted server) = spaced_server server
rest_text (lines.Object attr) = spaced (attr_text attr)
rest_text (lines.Slot dir slot number name) =
    spaced (decimal dir) ++ spaced (decimal slot) ++ spaced (decimal number)
    ++ spaced (hex_text name)
rest_text (lines.Block file block bytes) =
    spaced (decimal file) ++ spaced (decimal block) ++ spaced (hex_text bytes)
rest_text (lines.Text link text) = spaced (decimal link) ++ spaced (hex_text text)
rest_text (lines.Bad place fault) = spaced (decimal place) ++ spaced (fault_text fault)
rest_text (lines.End entered) = spaced (decimal entered)

pub line_parts : (l : Line) → line_text l ≡ form_name (form_of l) ++ rest_text l
unfolding line_text
line_parts (lines.Event s) = ap (λ (t : List ℕ). codes ">" ++ spaced t) (parts s)
line_parts (lines.Entered place entry) = refl
line_parts (lines.Answered server client number index reply) = refl
line_parts (lines.Refused server client number cause) = refl
line_parts (lines.Sent packet from to message) = refl
line_parts (lines.State server state) =
    ap (λ (t : List ℕ). codes "state" ++ t) (state_spelled server state)
line_parts (lines.Down server) = refl
line_parts (lines.Listed server cp objects) = refl
line_parts (lines.Unlisted server) = refl
line_parts (lines.Object attr) = refl
line_parts (lines.Slot dir slot number name) = refl
line_parts (lines.Block file block bytes) = refl
line_parts (lines.Text link text) = refl
line_parts (lines.Bad place fault) = refl
line_parts (lines.End entered) = refl

-- the line is of this form, and fits
abbrev IsOf : LineForm → Line → Type 0
IsOf n l = LineFits l × (form_of l ≡ n)

-- ---- events

event_takes : (line : List ℕ) (at : ℕ) (x : Line × ℕ)
    → form_at form.Event line at ≡ Ok x → Spells line at (rest_text x.0) x.1 × IsOf form.Event x.0
unfolding form_at
event_takes line at x e =
    let p = bind_ok (spaced_at elementary_at line at) event_of x e in
    let q = bind_ok (space_at line at) (λ from. elementary_at line from) p.0 p.1 in
    let t = elementary_takes line q.0 p.0 q.2 in
    let whole = Spells-then line at (32 ∷ []) q.0 (step_parts p.0.0) p.0.1
    (space_takes line at q.0 q.1) t.0 in
    subst (λ (y : Line × ℕ). Spells line at (rest_text y.0) y.1 × IsOf form.Event y.0)
    (ok_is (lines.Event p.0.0, p.0.1) x p.2) (whole, (t.1, refl))

event_again : (line : List ℕ) (at : ℕ) (s : Step) (more : List ℕ) → StepStands s
    → IsNothing more → drop at line ≡ spaced (step_parts s) ++ more
    → form_at form.Event line at ≡ Ok (lines.Event s, at + length (spaced (step_parts s)))
unfolding form_at
event_again line at s more fits nothing e =
    let text = step_parts s in
    let front : drop at line ≡ 32 ∷ (text ++ []) =
    e ∙ ap (λ (l : List ℕ). 32 ∷ (text ++ l)) nothing in
    let past = drop_past line at (32 ∷ []) (text ++ []) front in
    let end : at + 1 + length text ≡ at + suc (length text) = omega arith in
    ap (λ (o : Result ℕ TextFault). (o >>= λ from. elementary_at line from) >>= event_of)
    (space_again line at (text ++ []) front)
    ∙ ap (λ (o : Read Step). o >>= event_of) (elementary_again line (at + 1) s fits past)
    ∙ ap (read_of (lines.Event s)) end

event_placed : PlacedReader (form_at form.Event)
unfolding form_at
event_placed line at =
    faults.bind (spaced_at elementary_at line at) _
    (faults.spaced elementary_at elementary_placed line at) (λ y. tt)

-- ---- the other rows

-- ---- what is read

form_takes : (n : LineForm) (line : List ℕ) (at : ℕ) (x : Line × ℕ) → form_at n line at ≡ Ok x
    → Spells line at (rest_text x.0) x.1 × IsOf n x.0
unfolding form_at
form_takes form.Event line at x e = event_takes line at x e
form_takes form.Entered line at x e =
    made_takes (both_row count_row entry_row) (λ x. lines.Entered x.0 x.1) rest_text (IsOf
    form.Entered)
    (λ a f. (refl, (f, refl))) line at x e
form_takes form.Answered line at x e =
    made_takes (both_row (both_row (both_row (both_row server_row u32_row) count_row) count_row)
    reply_row) (λ x. lines.Answered x.0.0.0.0 x.0.0.0.1 x.0.0.1 x.0.1 x.1) rest_text
    (IsOf form.Answered) (λ a f. (refl, ((f.0.0.0.1, f.0.0.1, f.0.1, f.1), refl))) line at x e
form_takes form.Refused line at x e =
    made_takes (both_row (both_row (both_row server_row u32_row) count_row) cause_row) (λ x.
    lines.Refused x.0.0.0 x.0.0.1 x.0.1 x.1) rest_text
    (IsOf form.Refused) (λ a f. (refl, ((f.0.0.1, f.0.1), refl))) line at x e
form_takes form.Sent line at x e =
    made_takes (both_row (both_row (both_row count_row server_row) server_row) message_row) (λ x.
    lines.Sent x.0.0.0 x.0.0.1 x.0.1 x.1) rest_text (IsOf form.Sent)
    (λ a f. (refl, ((f.0.0.0, f.1), refl))) line at x e
form_takes form.State line at x e =
    state_takes rest_text (IsOf form.State) (λ server s fits. (refl, (fits, refl)))
    (λ server. (refl, (tt, refl))) line at x e
form_takes form.Listed line at x e =
    made_takes (both_row (both_row server_row count_row) count_row) (λ x. lines.Listed x.0.0 x.0.1
    x.1) rest_text (IsOf form.Listed)
    (λ a f. (refl, ((f.0.1, f.1), refl))) line at x e
form_takes form.Unlisted line at x e =
    made_takes server_row lines.Unlisted rest_text (IsOf form.Unlisted) (λ a f. (refl, (tt, refl)))
    line at x e
form_takes form.Object line at x e =
    made_takes attr_row lines.Object rest_text (IsOf form.Object) (λ a f. (refl, (f, refl)))
    line at x e
form_takes form.Slot line at x e =
    made_takes (both_row (both_row (both_row u32_row u32_row) u32_row) (some_row 255)) (λ x.
    lines.Slot x.0.0.0 x.0.0.1 x.0.1 x.1) rest_text (IsOf form.Slot)
    (λ a f. (refl, ((f.0.0.0, f.0.0.1, f.0.1, f.1), refl))) line at x e
form_takes form.Block line at x e =
    made_takes (both_row (both_row u32_row u32_row) (some_row 4096)) (λ x. lines.Block x.0.0 x.0.1
    x.1) rest_text (IsOf form.Block)
    (λ a f. (refl, ((f.0.0, f.0.1, f.1), refl))) line at x e
form_takes form.Text line at x e =
    made_takes (both_row u32_row (hex_row 1024)) (λ x. lines.Text x.0 x.1) rest_text (IsOf form.Text)
    (λ a f. (refl, (f, refl))) line at x e
form_takes form.Bad line at x e =
    made_takes (both_row count_row fault_row) (λ x. lines.Bad x.0 x.1) rest_text (IsOf form.Bad)
    (λ a f. (refl, (f.0, refl))) line at x e
form_takes form.End line at x e =
    made_takes count_row lines.End rest_text (IsOf form.End) (λ a f. (refl, (f, refl))) line at x e

form_placed : (n : LineForm) → PlacedReader (form_at n)
unfolding form_at
form_placed form.Event line at = event_placed line at
form_placed form.Entered line at = made_placed (both_row count_row entry_row) (λ x. lines.Entered
    x.0 x.1) line at
form_placed form.Answered line at =
    made_placed (both_row (both_row (both_row (both_row server_row u32_row) count_row) count_row)
    reply_row) (λ x. lines.Answered x.0.0.0.0 x.0.0.0.1 x.0.0.1 x.0.1 x.1) line at
form_placed form.Refused line at =
    made_placed (both_row (both_row (both_row server_row u32_row) count_row) cause_row) (λ x.
    lines.Refused x.0.0.0 x.0.0.1 x.0.1 x.1) line at
form_placed form.Sent line at =
    made_placed (both_row (both_row (both_row count_row server_row) server_row) message_row) (λ x.
    lines.Sent x.0.0.0 x.0.0.1 x.0.1 x.1) line at
form_placed form.State line at = state_placed line at
form_placed form.Listed line at =
    made_placed (both_row (both_row server_row count_row) count_row) (λ x. lines.Listed x.0.0 x.0.1
    x.1) line at
form_placed form.Unlisted line at = made_placed server_row lines.Unlisted line at
form_placed form.Object line at = made_placed attr_row lines.Object line at
form_placed form.Slot line at =
    made_placed (both_row (both_row (both_row u32_row u32_row) u32_row) (some_row 255)) (λ x.
    lines.Slot x.0.0.0 x.0.0.1 x.0.1 x.1) line at
form_placed form.Block line at =
    made_placed (both_row (both_row u32_row u32_row) (some_row 4096)) (λ x. lines.Block x.0.0 x.0.1
    x.1) line at
form_placed form.Text line at = made_placed (both_row u32_row (hex_row 1024)) (λ x. lines.Text x.0
    x.1) line at
form_placed form.Bad line at = made_placed (both_row count_row fault_row) (λ x. lines.Bad x.0 x.1)
    line at
form_placed form.End line at = made_placed count_row lines.End line at

-- ---- what is spelled

nothing_ends : (more : List ℕ) → IsNothing more → EndsWord more
nothing_ends more nothing = subst EndsWord (sym nothing) tt

-- the line is read where its text is the rest of the bytes
abbrev ReadBack : List ℕ → ℕ → Line → Type 0
ReadBack line at l = form_at (form_of l) line at ≡ Ok (l, at + length (rest_text l))

form_gives : (l : Line) (line : List ℕ) (at : ℕ) (more : List ℕ) → LineFits l → EndsWord more
    → IsNothing more → drop at line ≡ rest_text l ++ more → ReadBack line at l
unfolding form_at
form_gives (lines.Event s) line at more f ends nothing e = event_again line at s more f nothing e
form_gives (lines.Entered place entry) line at more f ends nothing e =
    made_again (both_row count_row entry_row) (λ x. lines.Entered x.0 x.1) (place, entry) f line at
    more ends e
form_gives (lines.Answered server client number index reply) line at more f ends nothing e =
    made_again (both_row (both_row (both_row (both_row server_row u32_row) count_row) count_row)
    reply_row) (λ x. lines.Answered x.0.0.0.0 x.0.0.0.1 x.0.0.1 x.0.1 x.1)
    ((((server, client), number), index), reply) ((((tt, f.0), f.1), f.2), f.3) line at more ends e
form_gives (lines.Refused server client number cause) line at more f ends nothing e =
    made_again (both_row (both_row (both_row server_row u32_row) count_row) cause_row) (λ x.
    lines.Refused x.0.0.0 x.0.0.1 x.0.1 x.1)
    (((server, client), number), cause) (((tt, f.0), f.1), tt) line at more ends e
form_gives (lines.Sent packet from to message) line at more f ends nothing e =
    made_again (both_row (both_row (both_row count_row server_row) server_row) message_row) (λ x.
    lines.Sent x.0.0.0 x.0.0.1 x.0.1 x.1)
    (((packet, from), to), message) (((f.0, tt), tt), f.1) line at more ends e
form_gives (lines.State server state) line at more f ends nothing e =
    up_again line at server state more f ends e
form_gives (lines.Down server) line at more f ends nothing e =
    down_again line at server more ends e
form_gives (lines.Listed server cp objects) line at more f ends nothing e =
    made_again (both_row (both_row server_row count_row) count_row) (λ x. lines.Listed x.0.0 x.0.1
    x.1) ((server, cp), objects)
    ((tt, f.0), f.1) line at more ends e
form_gives (lines.Unlisted server) line at more f ends nothing e =
    made_again server_row lines.Unlisted server tt line at more ends e
form_gives (lines.Object attr) line at more f ends nothing e =
    made_again attr_row lines.Object attr f line at more ends e
form_gives (lines.Slot dir slot number name) line at more f ends nothing e =
    made_again (both_row (both_row (both_row u32_row u32_row) u32_row) (some_row 255)) (λ x.
    lines.Slot x.0.0.0 x.0.0.1 x.0.1 x.1) (((dir, slot), number), name)
    (((f.0, f.1), f.2), f.3) line at more ends e
form_gives (lines.Block file block bytes) line at more f ends nothing e =
    made_again (both_row (both_row u32_row u32_row) (some_row 4096)) (λ x. lines.Block x.0.0 x.0.1
    x.1) ((file, block), bytes)
    ((f.0, f.1), f.2) line at more ends e
form_gives (lines.Text link text) line at more f ends nothing e =
    made_again (both_row u32_row (hex_row 1024)) (λ x. lines.Text x.0 x.1) (link, text) f line at
    more ends e
form_gives (lines.Bad place fault) line at more f ends nothing e =
    made_again (both_row count_row fault_row) (λ x. lines.Bad x.0 x.1) (place, fault) (f, tt) line
    at more ends e
form_gives (lines.End entered) line at more f ends nothing e =
    made_again count_row lines.End entered f line at more ends e

form_ends : (l : Line) (more : List ℕ) → EndsWord (rest_text l ++ more)
form_ends (lines.Event s) more = refl
form_ends (lines.Entered place entry) more = refl
form_ends (lines.Answered server client number index reply) more = refl
form_ends (lines.Refused server client number cause) more = refl
form_ends (lines.Sent packet from to message) more = refl
form_ends (lines.State server state) more = refl
form_ends (lines.Down server) more = refl
form_ends (lines.Listed server cp objects) more = refl
form_ends (lines.Unlisted server) more = refl
form_ends (lines.Object attr) more = refl
form_ends (lines.Slot dir slot number name) more = refl
form_ends (lines.Block file block bytes) more = refl
form_ends (lines.Text link text) more = refl
form_ends (lines.Bad place fault) more = refl
form_ends (lines.End entered) more = refl

form_again : (n : LineForm) → value_named form_name forms (form_name n) ≡ Some n
form_again form.Event = refl
form_again form.Entered = refl
form_again form.Answered = refl
form_again form.Refused = refl
form_again form.Sent = refl
form_again form.State = refl
form_again form.Listed = refl
form_again form.Unlisted = refl
form_again form.Object = refl
form_again form.Slot = refl
form_again form.Block = refl
form_again form.Text = refl
form_again form.Bad = refl
form_again form.End = refl

form_word : (n : LineForm) → is_word (form_name n) ≡ true
form_word form.Event = refl
form_word form.Entered = refl
form_word form.Answered = refl
form_word form.Refused = refl
form_word form.Sent = refl
form_word form.State = refl
form_word form.Listed = refl
form_word form.Unlisted = refl
form_word form.Object = refl
form_word form.Slot = refl
form_word form.Block = refl
form_word form.Text = refl
form_word form.Bad = refl
form_word form.End = refl

pub lines_by_name : IsByName (value_named form_name forms) form_at form_name form_of rest_text
    LineFits
    IsNothing
lines_by_name = record {
  unique = value_unique form_name forms;
  again = λ l fits. form_again (form_of l);
  word = form_word;
  take = λ n line at x means e. form_takes n line at x e;
  give = λ l line at more fits nothing within e.
      form_gives l line at more fits (nothing_ends more nothing) nothing e;
  ends = λ l more nothing. form_ends l more;
  placed = form_placed;
}
