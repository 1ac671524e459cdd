-- The entries of a page: what is read is spelled so, and what is spelled so is read.
use Rattle.std.proofs.Common.{◌≡◌, ℕ, zero, suc, ◌+◌, ◌^◌, ◌<◌, ◌≤◌, Bool, true, false, leb, ◌&&◌, List, [], ◌∷◌, ◌++◌, length, get_or, drop, Some, Ok, refl, ap, subst, ◌∙◌, append_assoc, arith}
use Rattle.std.specs.Prelude.{decimal}
use Rattle.std.specs.List.{flat_map}
use Rattle.std.proofs.lemmas.Bool.{le-leb}
use Rattle.std.proofs.lemmas.List.{length-append}
use Rattle.harp_base.specs.Fields.{AllFit}
use Rattle.harp_types.specs.declared.reply.DirEntry.{DirEntry}
use Rattle.text_spelling.specs.Text.{spaced, hex_text, entry_text, page_end}
use Rattle.schedule_text.specs.Fields.{Read, ◌>>=◌, EndsWord, spaced_at}
use Rattle.schedule_text.proofs.Places.{Spells, Spells-then, head_at, drop_past, bind_ok, ok_is, read_of}
use Rattle.schedule_text.proofs.Numbers.{rereads, base_ten}
use Rattle.schedule_text.proofs.Faults.{PlacedReader, Placed}
use Rattle.schedule_text.proofs.Faults as faults
use Rattle.schedule_text.specs.Reading.{is_digit_at}
use Rattle.schedule_text.proofs.Rows.{IsRow, spaced_row}
use Rattle.trace_text.specs.Fields.{◌⊗◌, value_named}
use Rattle.trace_text.specs.Replies.{entry_of, entry_at, entries_at, page_ends, page_end_at}
use Rattle.trace_text.specs.Fits.{EntryFits, EntriesFit}
use Rattle.trace_text.proofs.Pieces.{IsPiece, field_of, both_piece, made_piece, u32_piece, hex_piece}
use Rattle.trace_text.proofs.AttrLaws.{colon_tail}
use Rattle.trace_text.proofs.Named.{Any, is_word, naming_field, naming_placed}

-- ---- one entry

entry_piece : IsPiece entry_at entry_text EntryFits
unfolding entry_at entry_text
entry_piece =
    made_piece (both_piece (both_piece u32_piece (colon_tail (hex_piece 255)))
    (colon_tail u32_piece)) entry_of (record {
      back = λ e. ((e.fileid, e.name), e.cookie);
      there = λ a fits. (refl, fits);
      here = λ e fits. (fits, (refl, refl));
    })

entry_row : IsRow (spaced_at entry_at) (λ e. spaced (entry_text e)) EntryFits
entry_row = spaced_row entry_at entry_text EntryFits (field_of entry_piece) (entry_piece.placed)

-- ---- many

abbrev pub entries_text : List DirEntry → List ℕ
entries_text entries = flat_map (λ e. spaced (entry_text e)) entries

abbrev is_digit : ℕ → Bool
is_digit b = leb 48 b && leb b 57

abbrev pub entries_on : ℕ → List ℕ → ℕ → Bool → Read (List DirEntry)
entries_on room line at digit =
    elim digit [
      | false ↦ Ok ([], at)
      | true ↦ spaced_at entry_at line at
          >>= λ e. entries_at room line e.1 >>= λ rest. Ok (e.0 ∷ rest.0, rest.1)
    ]

abbrev EntriesRead : ℕ → List ℕ → ℕ → List DirEntry × ℕ → Type 0
EntriesRead room line at x =
    Spells line at (entries_text x.0) x.1 × ((length x.0 ≤ room) × AllFit EntryFits x.0)

entries_none : (room : ℕ) (line : List ℕ) (at : ℕ) (x : List DirEntry × ℕ)
    → read_of [] at ≡ Ok x → EntriesRead room line at x
entries_none room line at x e =
    subst (EntriesRead room line at) (ok_is ([], at) x e)
    (record { parts = refl; length_is = omega arith }, (omega arith, tt))

entries_step : (room : ℕ) (line : List ℕ) (at : ℕ) (x : List DirEntry × ℕ) (digit : Bool)
    → ((next : ℕ) (y : List DirEntry × ℕ) → entries_at room line next ≡ Ok y
    → EntriesRead room line next y)
    → entries_on room line at digit ≡ Ok x → EntriesRead (suc room) line at x
entries_step room line at x false more e = entries_none (suc room) line at x e
entries_step room line at x true more e =
    let p = bind_ok (spaced_at entry_at line at)
    (λ e. entries_at room line e.1 >>= λ rest. Ok (e.0 ∷ rest.0, rest.1)) x e in
    let q = bind_ok (entries_at room line p.0.1) (λ rest. Ok (p.0.0 ∷ rest.0, rest.1)) x p.2 in
    let one = entry_row.field.takes line at p.0 p.1 in
    let two = more p.0.1 q.0 q.1 in
    subst (EntriesRead (suc room) line at) (ok_is (p.0.0 ∷ q.0.0, q.0.1) x q.2) (
      Spells-then line at (spaced (entry_text p.0.0)) p.0.1 (entries_text q.0.0) q.0.1 one.0 two.0,
      (omega (arith, two.1.0), (one.1, two.1.1)),
    )

entries_take : (room : ℕ) (line : List ℕ) (at : ℕ) (x : List DirEntry × ℕ)
    → entries_at room line at ≡ Ok x → EntriesRead room line at x
unfolding entries_at
entries_take zero line at x e = entries_none zero line at x e
entries_take (suc room) line at x e =
    entries_step room line at x (is_digit_at line (at + 1)) (entries_take room line) e

-- the second byte of what stands at a place
second_at : (line : List ℕ) (at : ℕ) (rest : List ℕ) → drop at line ≡ 32 ∷ rest
    → get_or line (at + 1) 0 ≡ get_or rest 0 0
second_at line at rest e = head_at line (at + 1) rest (drop_past line at (32 ∷ []) rest e)

digit_says : (b : ℕ) → 48 ≤ b → b ≤ 57 → is_digit b ≡ true
digit_says b low high =
    ap (λ (c : Bool). c && leb b 57) (le-leb 48 b low) ∙ le-leb b 57 high

-- a spelled entry begins with a digit
entry_digit : (e : DirEntry) (rest : List ℕ) → e.fileid < 2 ^ 32
    → is_digit (get_or (entry_text e ++ rest) 0 0) ≡ true
unfolding entry_text
entry_digit e rest fits =
    let r = rereads 10 4294967295 base_ten (omega arith) e.fileid (omega (arith, fits)) in
    ap (λ (l : List ℕ). is_digit (get_or
    (((l ++ 58 ∷ hex_text e.name) ++ 58 ∷ decimal e.cookie) ++ rest) 0 0)) r.parts
    ∙ digit_says (48 + r.first) (omega arith) (omega (arith, r.digit))

-- a word that is no entry
abbrev EndsEntries : List ℕ → Type 0
EndsEntries [] = ⊥
EndsEntries (b ∷ rest) = (b ≡ 32) × (is_digit (get_or rest 0 0) ≡ false)

entries_ends : (entries : List DirEntry) (rest : List ℕ) → EndsEntries rest
    → EndsWord (entries_text entries ++ rest)
entries_ends [] [] ends = absurd ends
entries_ends [] (b ∷ rest) ends = ends.0
entries_ends (e ∷ entries) rest ends = refl

none_on : (line : List ℕ) (at : ℕ) (rest : List ℕ) → EndsEntries rest → drop at line ≡ rest
    → is_digit_at line (at + 1) ≡ false
none_on line at [] ends e = absurd ends
none_on line at (b ∷ rest) ends e =
    ap is_digit (head_at line (at + 1) rest (drop_past line at (b ∷ []) rest e)) ∙ ends.1

nothing_read : (at : ℕ) → read_of {A = List DirEntry} [] at ≡ read_of [] (at + 0)
nothing_read at = ap (λ (n : ℕ). read_of [] n) {x = at} {y = at + 0} (omega arith)

entries_give : (entries : List DirEntry) (room : ℕ) (line : List ℕ) (at : ℕ) (rest : List ℕ)
    → length entries ≤ room → AllFit EntryFits entries → EndsEntries rest
    → drop at line ≡ entries_text entries ++ rest
    → entries_at room line at ≡ Ok (entries, at + length (entries_text entries))
unfolding entries_at
entries_give [] zero line at rest few fit ends e = nothing_read at
entries_give [] (suc room) line at rest few fit ends e =
    ap (entries_on room line at) (none_on line at rest ends e) ∙ nothing_read at
entries_give (entry ∷ entries) zero line at rest few fit ends e = absurd (omega (arith, few))
entries_give (entry ∷ entries) (suc room) line at rest few fit ends e =
    let text = spaced (entry_text entry) in
    let behind = entries_text entries ++ rest in
    let front : drop at line ≡ text ++ behind = e ∙ append_assoc text (entries_text entries) rest in
    let digit = ap is_digit (second_at line at (entry_text entry ++ behind) front)
    ∙ entry_digit entry behind fit.0.0.0 in
    let one = entry_row.field.again line at entry behind fit.0 (entries_ends entries rest ends)
    front in
    let mid = at + length text in
    let two = entries_give entries room line mid rest (omega (arith, few)) fit.1 ends
    (drop_past line at text behind front) in
    let end : mid + length (entries_text entries) ≡ at + length (entries_text (entry ∷ entries)) =
    omega (arith, length-append text (entries_text entries)) in
    ap (entries_on room line at) digit
    ∙ ap (λ (o : Read DirEntry). o >>= λ e. entries_at room line e.1
    >>= λ rest. Ok (e.0 ∷ rest.0, rest.1)) one
    ∙ ap (λ (o : Read (List DirEntry)). o >>= λ rest. Ok (entry ∷ rest.0, rest.1)) two
    ∙ ap (read_of (entry ∷ entries)) end

entries_on_placed : (room : ℕ) (line : List ℕ) (at : ℕ) → PlacedReader (entries_at room)
    → (digit : Bool) → Placed (entries_on room line at digit)
entries_on_placed room line at more false = tt
entries_on_placed room line at more true =
    faults.bind (spaced_at entry_at line at) _ (entry_row.placed line at) (λ e.
    faults.bind (entries_at room line e.1) _ (more line e.1) (λ rest. tt))

entries_placed : (room : ℕ) → PlacedReader (entries_at room)
unfolding entries_at
entries_placed zero line at = tt
entries_placed (suc room) line at =
    entries_on_placed room line at (entries_placed room) (is_digit_at line (at + 1))

-- ---- a page

page_again : (eof : Bool) → value_named page_end page_ends (page_end eof) ≡ Some eof
page_again true = refl
page_again false = refl

page_word : (eof : Bool) → is_word (page_end eof) ≡ true
page_word true = refl
page_word false = refl

end_row : IsRow (spaced_at page_end_at) (λ eof. spaced (page_end eof)) Any
end_row = spaced_row page_end_at page_end Any
    (naming_field page_end page_ends (record { again = page_again; word = page_word }))
    (naming_placed page_end page_ends)

no_entry : (eof : Bool) (rest : List ℕ) → EndsEntries (spaced (page_end eof) ++ rest)
no_entry true rest = (refl, refl)
no_entry false rest = (refl, refl)

abbrev Page : Type 0
Page = List DirEntry × Bool

abbrev pub page_text : Page → List ℕ
page_text x = entries_text x.0 ++ spaced (page_end x.1)

abbrev PageFits : Page → Type 0
PageFits x = EntriesFit x.0

abbrev page_read : List DirEntry → Bool → ℕ → Read Page
page_read entries eof n = Ok ((entries, eof), n)

page_takes : (line : List ℕ) (at : ℕ) (x : Page × ℕ)
    → (entries_at 65535 ⊗ spaced_at page_end_at) line at ≡ Ok x
    → Spells line at (page_text x.0) x.1 × PageFits x.0
page_takes line at x e =
    let p = bind_ok (entries_at 65535 line at)
    (λ y. spaced_at page_end_at line y.1 >>= λ z. page_read y.0 z.0 z.1) x e in
    let q = bind_ok (spaced_at page_end_at line p.0.1) (λ z. page_read p.0.0 z.0 z.1) x p.2 in
    let one = entries_take 65535 line at p.0 p.1 in
    let two = end_row.field.takes line p.0.1 q.0 q.1 in
    subst (λ (y : Page × ℕ). Spells line at (page_text y.0) y.1 × PageFits y.0)
    (ok_is ((p.0.0, q.0.0), q.0.1) x q.2) (
      Spells-then line at (entries_text p.0.0) p.0.1 (spaced (page_end q.0.0)) q.0.1 one.0 two.0,
      (omega (arith, one.1.0), one.1.1),
    )

page_gives : (line : List ℕ) (at : ℕ) (x : Page) (rest : List ℕ) → PageFits x → EndsWord rest
    → drop at line ≡ page_text x ++ rest
    → (entries_at 65535 ⊗ spaced_at page_end_at) line at ≡ Ok (x, at + length (page_text x))
page_gives line at x rest fits ends e =
    let text = entries_text x.0 in
    let last = spaced (page_end x.1) in
    let front : drop at line ≡ text ++ (last ++ rest) = e ∙ append_assoc text last rest in
    let one = entries_give x.0 65535 line at (last ++ rest) (omega (arith, fits.0)) fits.1
    (no_entry x.1 rest) front in
    let mid = at + length text in
    let two = end_row.field.again line mid x.1 rest tt ends
    (drop_past line at text (last ++ rest) front) in
    let end : mid + length last ≡ at + length (page_text x) = omega
    (arith, length-append text last) in
    ap (λ (o : Read (List DirEntry)). o >>= λ y. spaced_at page_end_at line y.1
    >>= λ z. page_read y.0 z.0 z.1) one
    ∙ ap (λ (o : Read Bool). o >>= λ z. page_read x.0 z.0 z.1) two ∙ ap (page_read x.0 x.1) end

page_apart : (entries : List DirEntry) (eof : Bool) (rest : List ℕ)
    → EndsWord (page_text (entries, eof) ++ rest)
page_apart [] eof rest = refl
page_apart (e ∷ entries) eof rest = refl

pub page_row : IsRow (entries_at 65535 ⊗ spaced_at page_end_at) page_text PageFits
page_row = record {
  field = record { takes = page_takes; again = page_gives };
  placed = λ line at. faults.bind (entries_at 65535 line at) _ (entries_placed 65535 line at)
      (λ x. faults.bind (spaced_at page_end_at line x.1) _ (end_row.placed line x.1) (λ y. tt));
  apart = λ x rest. page_apart x.0 x.1 rest;
}
