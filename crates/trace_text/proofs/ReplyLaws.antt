-- Replies and causes: what is read is spelled so, and what is spelled so is read.
use Rattle.std.proofs.Common.{◌≡◌, ℕ, ◌+◌, ◌*◌, ◌<◌, true, List, [], ◌∷◌, ◌++◌, length, drop, Some, Ok, refl, ap, subst, ◌∙◌, arith}
use Rattle.std.specs.Prelude.{decimal, codes, map}
use Rattle.std.proofs.lemmas.Fmt.{decimal_digit}
use Rattle.harp_types.specs.Statuses.{statuses}
use Rattle.harp_types.specs.declared.reply.Status.{Status}
use Rattle.harp_types.specs.declared.reply.Status.TheVariants as status
use Rattle.harp_types.specs.declared.reply.Reply.{Reply}
use Rattle.harp_types.specs.declared.reply.Reply.TheVariants as reply
use Rattle.text_spelling.specs.Text.{spaced, hex_text, status_number, attr_text, reply_text}
use Rattle.text_spelling.specs.Fits.{AreBytes}
use Rattle.schedule_text.specs.Fields.{EndsWord, spaced_at, hex_at}
use Rattle.schedule_text.proofs.Places.{Spells, IsField, ok_is, read_of}
use Rattle.schedule_text.proofs.Names.{name_field}
use Rattle.schedule_text.proofs.Numbers.{base_ten}
use Rattle.schedule_text.proofs.Faults.{PlacedReader}
use Rattle.schedule_text.proofs.Faults as faults
use Rattle.schedule_text.proofs.Rows.{IsRow, u32_row, both_row, spaced_row, made_takes, made_again, made_placed}
use Rattle.trace_text.specs.declared.reply_form.ReplyForm.{ReplyForm}
use Rattle.trace_text.specs.declared.reply_form.ReplyForm.TheVariants as form
use Rattle.trace_text.specs.Fields.{value_named}
use Rattle.trace_text.specs.Replies.{status_word, status_at, reply_name, reply_forms, reply_fields_at, reply_at}
use Rattle.trace_text.specs.Fits.{ReplyFits}
use Rattle.trace_text.proofs.Pieces.{respelled}
use Rattle.trace_text.proofs.Named.{Any, is_word, value_unique, naming_field, naming_placed, IsByName, by_field, by_placed}
use Rattle.trace_text.proofs.AttrLaws.{attr_row}
use Rattle.trace_text.proofs.EntryLaws.{page_text, page_row}

-- ---- statuses

status_again : (s : Status) → value_named status_word statuses (status_word s) ≡ Some s
status_again status.Perm = refl
status_again status.NoEnt = refl
status_again status.Io = refl
status_again status.NxIo = refl
status_again status.Acces = refl
status_again status.Exist = refl
status_again status.NotDir = refl
status_again status.IsDir = refl
status_again status.FBig = refl
status_again status.NoSpc = refl
status_again status.NameTooLong = refl
status_again status.NotEmpty = refl
status_again status.Stale = refl

status_is_word : (s : Status) → is_word (status_word s) ≡ true
status_is_word status.Perm = refl
status_is_word status.NoEnt = refl
status_is_word status.Io = refl
status_is_word status.NxIo = refl
status_is_word status.Acces = refl
status_is_word status.Exist = refl
status_is_word status.NotDir = refl
status_is_word status.IsDir = refl
status_is_word status.FBig = refl
status_is_word status.NoSpc = refl
status_is_word status.NameTooLong = refl
status_is_word status.NotEmpty = refl
status_is_word status.Stale = refl

-- two digits
two : (n d : ℕ) → 0 < n → n < 10 → d < 10 → decimal (n * 10 + d) ≡ (48 + n) ∷ (48 + d) ∷ []
two n d some low lt =
    base_ten.more n d some lt (omega (arith, low, lt))
    ∙ ap (λ (l : List ℕ). l ++ (48 + d) ∷ []) (decimal_digit n low)

status_digits : (s : Status) → decimal (status_number s) ≡ status_word s
status_digits status.Perm = decimal_digit 1 (omega arith)
status_digits status.NoEnt = decimal_digit 2 (omega arith)
status_digits status.Io = decimal_digit 5 (omega arith)
status_digits status.NxIo = decimal_digit 6 (omega arith)
status_digits status.Acces = two 1 3 (omega arith) (omega arith) (omega arith)
status_digits status.Exist = two 1 7 (omega arith) (omega arith) (omega arith)
status_digits status.NotDir = two 2 0 (omega arith) (omega arith) (omega arith)
status_digits status.IsDir = two 2 1 (omega arith) (omega arith) (omega arith)
status_digits status.FBig = two 2 7 (omega arith) (omega arith) (omega arith)
status_digits status.NoSpc = two 2 8 (omega arith) (omega arith) (omega arith)
status_digits status.NameTooLong = two 6 3 (omega arith) (omega arith) (omega arith)
status_digits status.NotEmpty = two 6 6 (omega arith) (omega arith) (omega arith)
status_digits status.Stale = two 7 0 (omega arith) (omega arith) (omega arith)

status_row : IsRow (spaced_at status_at) (λ s. spaced (status_word s)) Any
status_row = spaced_row status_at status_word Any
    (naming_field status_word statuses (record { again = status_again; word = status_is_word }))
    (naming_placed status_word statuses)

-- ---- replies

pub hex_row : (most : ℕ) → IsRow (spaced_at (hex_at most)) (λ s. spaced (hex_text s)) (AreBytes
    most)
hex_row most = spaced_row (hex_at most) hex_text (AreBytes most) (name_field most)
    (faults.name most)

abbrev reply_form : Reply → ReplyForm
reply_form (reply.Refused s) = form.Refused
reply_form reply.Done = form.Done
reply_form (reply.Attr attr) = form.Attr
reply_form (reply.Node handle attr) = form.Node
reply_form (reply.Path text) = form.Path
reply_form (reply.Bytes attr bytes) = form.Bytes
reply_form (reply.Page entries eof) = form.Page
reply_form (reply.Space transfer block blocks free available) = form.Space

-- what stands behind the name of a reply
abbrev reply_rest : Reply → List ℕ
reply_rest (reply.Refused s) = spaced (status_word s)
reply_rest reply.Done = []
reply_rest (reply.Attr attr) = spaced (attr_text attr)
reply_rest (reply.Node handle attr) = spaced (decimal handle) ++ spaced (attr_text attr)
reply_rest (reply.Path text) = spaced (hex_text text)
reply_rest (reply.Bytes attr bytes) = spaced (attr_text attr) ++ spaced (hex_text bytes)
reply_rest (reply.Page entries eof) = page_text (entries, eof)
reply_rest (reply.Space transfer block blocks free available) =
    spaced (decimal transfer) ++ spaced (decimal block) ++ spaced (decimal blocks)
    ++ spaced (decimal free) ++ spaced (decimal available)

reply_parts : (r : Reply) → reply_text r ≡ reply_name (reply_form r) ++ reply_rest r
unfolding reply_text
reply_parts (reply.Refused s) = ap (λ (l : List ℕ). codes "no" ++ spaced l) (status_digits s)
reply_parts reply.Done = refl
reply_parts (reply.Attr attr) = refl
reply_parts (reply.Node handle attr) = refl
reply_parts (reply.Path text) = refl
reply_parts (reply.Bytes attr bytes) = refl
reply_parts (reply.Page entries eof) = refl
reply_parts (reply.Space transfer block blocks free available) = refl

-- the reply is of this form, and fits
abbrev IsOf : ReplyForm → Reply → Type 0
IsOf n r = ReplyFits r × (reply_form r ≡ n)

done_takes : (line : List ℕ) (at : ℕ) (x : Reply × ℕ) → read_of reply.Done at ≡ Ok x
    → Spells line at (reply_rest x.0) x.1 × IsOf form.Done x.0
done_takes line at x e =
    subst (λ (y : Reply × ℕ). Spells line at (reply_rest y.0) y.1 × IsOf form.Done y.0)
    (ok_is (reply.Done, at) x e) (record { parts = refl; length_is = omega arith }, (tt, refl))

reply_take : (n : ReplyForm) (line : List ℕ) (at : ℕ) (x : Reply × ℕ)
    → reply_fields_at n line at ≡ Ok x → Spells line at (reply_rest x.0) x.1 × IsOf n x.0
unfolding reply_fields_at
reply_take form.Refused line at x e =
    made_takes status_row reply.Refused reply_rest (IsOf form.Refused) (λ a f. (refl, (tt, refl)))
    line at x e
reply_take form.Done line at x e = done_takes line at x e
reply_take form.Attr line at x e =
    made_takes attr_row reply.Attr reply_rest (IsOf form.Attr) (λ a f. (refl, (f, refl)))
    line at x e
reply_take form.Node line at x e =
    made_takes (both_row u32_row attr_row) (λ x. reply.Node x.0 x.1) reply_rest (IsOf form.Node)
    (λ a f. (refl, (f, refl))) line at x e
reply_take form.Path line at x e =
    made_takes (hex_row 1024) reply.Path reply_rest (IsOf form.Path) (λ a f. (refl, (f, refl)))
    line at x e
reply_take form.Bytes line at x e =
    made_takes (both_row attr_row (hex_row 8192)) (λ x. reply.Bytes x.0 x.1) reply_rest
    (IsOf form.Bytes) (λ a f. (refl, (f, refl))) line at x e
reply_take form.Page line at x e =
    made_takes page_row (λ x. reply.Page x.0 x.1) reply_rest (IsOf form.Page)
    (λ a f. (refl, (f, refl))) line at x e
reply_take form.Space line at x e =
    made_takes (both_row (both_row (both_row (both_row u32_row u32_row) u32_row) u32_row) u32_row)
    (λ x. reply.Space x.0.0.0.0 x.0.0.0.1 x.0.0.1 x.0.1 x.1) reply_rest
    (IsOf form.Space)
    (λ a f. (refl, ((f.0.0.0.0, f.0.0.0.1, f.0.0.1, f.0.1, f.1), refl))) line at x e

reply_give : (r : Reply) (line : List ℕ) (at : ℕ) (rest : List ℕ) → ReplyFits r → EndsWord rest
    → drop at line ≡ reply_rest r ++ rest
    → reply_fields_at (reply_form r) line at ≡ Ok (r, at + length (reply_rest r))
unfolding reply_fields_at
reply_give (reply.Refused s) line at rest f ends e =
    made_again status_row reply.Refused s tt line at rest ends e
reply_give reply.Done line at rest f ends e = ap (λ (n : ℕ). read_of reply.Done n) (omega arith)
reply_give (reply.Attr attr) line at rest f ends e =
    made_again attr_row reply.Attr attr f line at rest ends e
reply_give (reply.Node handle attr) line at rest f ends e =
    made_again (both_row u32_row attr_row) (λ x. reply.Node x.0 x.1) (handle, attr) f line at rest
    ends e
reply_give (reply.Path text) line at rest f ends e =
    made_again (hex_row 1024) reply.Path text f line at rest ends e
reply_give (reply.Bytes attr bytes) line at rest f ends e =
    made_again (both_row attr_row (hex_row 8192)) (λ x. reply.Bytes x.0 x.1) (attr, bytes) f
    line at rest ends e
reply_give (reply.Page entries eof) line at rest f ends e =
    made_again page_row (λ x. reply.Page x.0 x.1) (entries, eof) f line at rest ends e
reply_give (reply.Space transfer block blocks free available) line at rest f ends e =
    made_again (both_row (both_row (both_row (both_row u32_row u32_row) u32_row) u32_row) u32_row)
    (λ x. reply.Space x.0.0.0.0 x.0.0.0.1 x.0.0.1 x.0.1 x.1)
    ((((transfer, block), blocks), free), available) ((((f.0, f.1), f.2), f.3), f.4) line at rest
    ends e

reply_ends : (r : Reply) (rest : List ℕ) → EndsWord rest → EndsWord (reply_rest r ++ rest)
reply_ends (reply.Refused s) rest ends = refl
reply_ends reply.Done rest ends = ends
reply_ends (reply.Attr attr) rest ends = refl
reply_ends (reply.Node handle attr) rest ends = refl
reply_ends (reply.Path text) rest ends = refl
reply_ends (reply.Bytes attr bytes) rest ends = refl
reply_ends (reply.Page entries eof) rest ends = page_row.apart (entries, eof) rest
reply_ends (reply.Space transfer block blocks free available) rest ends = refl

reply_placed : (n : ReplyForm) → PlacedReader (reply_fields_at n)
unfolding reply_fields_at
reply_placed form.Refused line at = made_placed status_row reply.Refused line at
reply_placed form.Done line at = tt
reply_placed form.Attr line at = made_placed attr_row reply.Attr line at
reply_placed form.Node line at =
    made_placed (both_row u32_row attr_row) (λ x. reply.Node x.0 x.1) line at
reply_placed form.Path line at = made_placed (hex_row 1024) reply.Path line at
reply_placed form.Bytes line at =
    made_placed (both_row attr_row (hex_row 8192)) (λ x. reply.Bytes x.0 x.1) line at
reply_placed form.Page line at = made_placed page_row (λ x. reply.Page x.0 x.1) line at
reply_placed form.Space line at =
    made_placed (both_row (both_row (both_row (both_row u32_row u32_row) u32_row) u32_row) u32_row)
    (λ x. reply.Space x.0.0.0.0 x.0.0.0.1 x.0.0.1 x.0.1 x.1) line at

reply_again : (n : ReplyForm) → value_named reply_name reply_forms (reply_name n) ≡ Some n
reply_again form.Refused = refl
reply_again form.Done = refl
reply_again form.Attr = refl
reply_again form.Node = refl
reply_again form.Path = refl
reply_again form.Bytes = refl
reply_again form.Page = refl
reply_again form.Space = refl

reply_word : (n : ReplyForm) → is_word (reply_name n) ≡ true
reply_word form.Refused = refl
reply_word form.Done = refl
reply_word form.Attr = refl
reply_word form.Node = refl
reply_word form.Path = refl
reply_word form.Bytes = refl
reply_word form.Page = refl
reply_word form.Space = refl

replies_by_name : IsByName (value_named reply_name reply_forms) reply_fields_at reply_name
    reply_form reply_rest ReplyFits EndsWord
replies_by_name = record {
  unique = value_unique reply_name reply_forms;
  again = λ r fits. reply_again (reply_form r);
  word = reply_word;
  take = λ n line at x means e. reply_take n line at x e;
  give = λ r line at rest fits ends within e. reply_give r line at rest fits ends e;
  ends = reply_ends;
  placed = reply_placed;
}

reply_field : IsField reply_at reply_text ReplyFits
unfolding reply_at
reply_field = respelled reply_text reply_parts (by_field (map reply_name reply_forms)
    replies_by_name)

reply_all_placed : PlacedReader reply_at
unfolding reply_at
reply_all_placed = by_placed (map reply_name reply_forms) replies_by_name

pub reply_row : IsRow (spaced_at reply_at) (λ r. spaced (reply_text r)) ReplyFits
reply_row = spaced_row reply_at reply_text ReplyFits reply_field reply_all_placed
