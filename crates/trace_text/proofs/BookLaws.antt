-- Entries of the book, contents that aren't empty, and faults of lines: what is read is spelled so,
-- and what is spelled so is read.
use Rattle.std.proofs.Common.{◌≡◌, ℕ, ◌+◌, ◌/◌, ◌%◌, ◌^◌, ◌<◌, ◌≤◌, Bool, true, cond, eqb, inl, inr, List, [], ◌∷◌, ◌++◌, length, get_or, drop, Some, Ok, Err, refl, ap, ◌∙◌, append_assoc, arith}
use Rattle.std.specs.Prelude.{decimal, codes}
use Rattle.std.proofs.lemmas.Bool.{eqb-false, ne_eqb}
use Rattle.hex.specs.Hex.{encode_lower, encode_with}
use Rattle.harp_types.specs.declared.server.ServerId.{ServerId}
use Rattle.harp_types.specs.declared.call.Call.{Call}
use Rattle.harp_types.specs.declared.cred.Cred.{Cred}
use Rattle.harp_types.specs.declared.reply.Reply.{Reply}
use Rattle.harp_types.specs.declared.book.BookEntry.{BookEntry}
use Rattle.trace_types.specs.declared.line.LineFault.{LineFault}
use Rattle.trace_types.specs.declared.line.LineFault.TheVariants as fault
use Rattle.text_spelling.specs.Text.{spaced, hex_text, call_text, cred_text, reply_text}
use Rattle.text_spelling.specs.TraceLines.{fault_text, entry_line}
use Rattle.schedule_text.specs.declared.fault.TextFault.{TextFault}
use Rattle.schedule_text.specs.declared.fault.TextFault.TheVariants.{Grammar}
use Rattle.schedule_text.specs.Fields.{Read, EndsWord, spaced_at, hex_at}
use Rattle.schedule_text.proofs.Places.{Spells, IsField, head_at, chosen}
use Rattle.schedule_text.proofs.FieldLaws.{server_text}
use Rattle.schedule_text.proofs.Names.{name_field, digit, digit_above}
use Rattle.schedule_text.proofs.Faults.{PlacedReader}
use Rattle.schedule_text.proofs.Faults as faults
use Rattle.schedule_text.proofs.Rows.{IsRow, u32_row, count_row, both_row, spaced_row}
use Rattle.schedule_text.proofs.AskLaws.{asked_text, AskedFits, asked_row}
use Rattle.trace_text.specs.Fields.{value_named, some_hex_at}
use Rattle.trace_text.specs.Reading.{entry_of, entry_at, faults as all_faults, fault_at}
use Rattle.trace_text.specs.Fits.{IsCount, AreSomeBytes, EntryLineFits, ReplyFits}
use Rattle.trace_text.proofs.Pieces.{made_row, mark_row}
use Rattle.trace_text.proofs.Named.{Any, is_word, naming_field, naming_placed}
use Rattle.trace_text.proofs.ReplyLaws.{reply_row}

-- ---- entries of the book

abbrev pub spaced_server : ServerId → List ℕ
spaced_server s = spaced (server_text s)

abbrev Whole : Type 0
Whole = ((((ℕ × ℕ) × ℕ) × ℕ) × (Cred × Call)) × (Unit {0} × Reply)

abbrev whole_text : Whole → List ℕ
whole_text x =
    spaced (decimal x.0.0.0.0.0) ++ spaced (decimal x.0.0.0.0.1) ++ spaced (decimal x.0.0.0.1)
    ++ spaced (decimal x.0.0.1) ++ asked_text x.0.1
    ++ (spaced (codes "=") ++ spaced (reply_text x.1.1))

abbrev WholeFits : Whole → Type 0
WholeFits x =
    ((((IsCount x.0.0.0.0.0 × (x.0.0.0.0.1 < 2 ^ 32)) × IsCount x.0.0.0.1) × IsCount x.0.0.1)
    × AskedFits x.0.1) × (Unit {0} × ReplyFits x.1.1)

entry_spelled : (x : Whole) → entry_line (entry_of x) ≡ whole_text x
unfolding entry_line
entry_spelled x =
    let front = spaced (decimal x.0.0.0.0.0) ++ spaced (decimal x.0.0.0.0.1)
    ++ spaced (decimal x.0.0.0.1) ++ spaced (decimal x.0.0.1) in
    let cred = cred_text x.0.1.0 in
    let called = spaced (call_text x.0.1.1) in
    let sign = spaced (codes "=") in
    let replied = spaced (reply_text x.1.1) in
    append_assoc (front ++ cred ++ called) sign replied
    ∙ ap (λ (l : List ℕ). l ++ (sign ++ replied)) (append_assoc front cred called)

entry_parts : BookEntry → Whole
entry_parts e = (
  ((((e.index, e.client), e.number), e.stamp), (e.cred, e.call)),
  (tt, e.reply),
)

whole_fits : (x : Whole) → WholeFits x → EntryLineFits (entry_of x)
whole_fits x f = record {
  index = f.0.0.0.0.0;
  client = f.0.0.0.0.1;
  number = f.0.0.0.1;
  stamp = f.0.0.1;
  cred = f.0.1.0;
  call = f.0.1.1;
  reply = f.1.1;
}

parts_fit : (e : BookEntry) → EntryLineFits e → WholeFits (entry_parts e)
unfolding entry_parts
parts_fit e f = (
  ((((f.index, f.client), f.number), f.stamp), (f.cred, f.call)),
  (tt, f.reply),
)

entry_apart : (e : BookEntry) (rest : List ℕ) → EndsWord (entry_line e ++ rest)
unfolding entry_line
entry_apart e rest = refl

pub entry_row : IsRow entry_at entry_line EntryLineFits
unfolding entry_at entry_parts
entry_row = made_row (both_row (both_row (both_row (both_row (both_row count_row u32_row) count_row) count_row)
    asked_row) (both_row (mark_row 61 (omega arith)) reply_row)) entry_of (record {
      back = entry_parts;
      there = λ a f. (entry_spelled a, whole_fits a f);
      here = λ e f. (parts_fit e f, (refl, entry_spelled (entry_parts e)));
    }) entry_apart

-- ---- some bytes

abbrev some_read : List ℕ → ℕ → ℕ → Bool → Read (List ℕ)
some_read line at most dash = cond dash (Err (Grammar at)) (hex_at most line at)

not_read : {A : Type 0} (f : TextFault) (y : A) → Err f ≡ Ok y → ⊥
not_read f y e = cc

some_length : (line : List ℕ) (at : ℕ) (bytes : List ℕ) (next : ℕ)
    → Spells line at (hex_text bytes) next → (get_or line at 0 ≡ 45 → ⊥) → 1 ≤ length bytes
unfolding hex_text
some_length line at [] next s other =
    absurd (other (head_at line at (45 ∷ drop next line) s.parts))
some_length line at (b ∷ bytes) next s other = omega arith

some_again : (most : ℕ) (line : List ℕ) (at : ℕ) (bytes rest : List ℕ) → AreSomeBytes most bytes
    → EndsWord rest → drop at line ≡ hex_text bytes ++ rest
    → some_hex_at most line at ≡ Ok (bytes, at + length (hex_text bytes))
unfolding hex_text encode_with
some_again most line at [] rest fits ends e = absurd (omega (arith, fits.1))
some_again most line at (b ∷ bytes) rest fits ends e =
    let lt : b < 256 = fits.0.fit 0 in
    let above = digit_above (b / 16) (omega arith) in
    let first = head_at line at (digit (b / 16) ∷ digit (b % 16) ∷ (encode_lower bytes ++ rest))
    e in
    ap (some_read line at most)
    (ne_eqb (get_or line at 0) 45 (λ z. omega (arith, first, above, z)))
    ∙ (name_field most).again line at (b ∷ bytes) rest fits.0 ends e

some_field : (most : ℕ) → IsField (some_hex_at most) hex_text (AreSomeBytes most)
some_field most = record {
  takes = λ line at x e.
      elim (chosen (eqb (get_or line at 0) 45) (Err (Grammar at)) (hex_at most line at) (Ok x) e) [
        | inl dash ↦ absurd (not_read (Grammar at) x dash.1)
        | inr other ↦
            let t = (name_field most).takes line at x other.1 in (
              t.0,
              (t.1, some_length line at x.0 x.1 t.0 (eqb-false (get_or line at 0) 45 other.0)),
            )
      ];
  again = some_again most;
}

pub some_row : (most : ℕ)
    → IsRow (spaced_at (some_hex_at most)) (λ s. spaced (hex_text s)) (AreSomeBytes most)
some_row most = spaced_row (some_hex_at most) hex_text (AreSomeBytes most) (some_field most)
    (λ line at. faults.choice (eqb (get_or line at 0) 45) _ _ tt (faults.name most line at))

-- ---- faults

fault_again : (f : LineFault) → value_named fault_text all_faults (fault_text f) ≡ Some f
fault_again fault.Grammar = refl
fault_again fault.TooLong = refl
fault_again fault.TooMany = refl
fault_again fault.NoPacket = refl
fault_again fault.ServerDown = refl
fault_again fault.ServerUp = refl
fault_again fault.ClockBack = refl
fault_again fault.ClockApart = refl
fault_again fault.NoiseIsMessage = refl
fault_again fault.NetFull = refl

fault_word : (f : LineFault) → is_word (fault_text f) ≡ true
fault_word fault.Grammar = refl
fault_word fault.TooLong = refl
fault_word fault.TooMany = refl
fault_word fault.NoPacket = refl
fault_word fault.ServerDown = refl
fault_word fault.ServerUp = refl
fault_word fault.ClockBack = refl
fault_word fault.ClockApart = refl
fault_word fault.NoiseIsMessage = refl
fault_word fault.NetFull = refl

pub fault_row : IsRow (spaced_at fault_at) (λ f. spaced (fault_text f)) Any
fault_row = spaced_row fault_at fault_text Any
    (naming_field fault_text all_faults (record { again = fault_again; word = fault_word }))
    (naming_placed fault_text all_faults)
