-- Records undo their bytes.
use Rattle.std.proofs.Common.{◌≡◌, ℕ, ◌+◌, ◌^◌, ◌<◌, ◌≤◌, List, ◌++◌, length, take, drop, Ok, Err, true, false, refl, sym, ap, subst, ◌∙◌, append_assoc, arith, length-append}
use Rattle.std.specs.Prelude.{nat_le, nat_lt}
use Rattle.std.proofs.lemmas.Bool.{leb-true, le-leb, ltb-true, lt-ltb}
use Rattle.harp_types.specs.declared.cred.Cred.{Cred}
use Rattle.harp_base.specs.declared.field.Misread.{Misread}
use Rattle.harp_base.specs.declared.field.Misread.TheVariants.{Ends, BadTag, TooLong, NoMemory}
use Rattle.harp_base.specs.Fields.{Fails, Read, Reader, Spells, ◌⊗◌, field_as, limited, many_at, many_bytes, misread_within, passing, read_within, below_at, u16_at, u16_bytes, u32_bytes, u64_bytes}
use Rattle.harp_base.specs.Names.{cred_bytes}
use Rattle.harp_base.proofs.Codec.{IsBytes, IsCodec, Spells-then, below_codec, bind_ok, drop_past, field_as_again, field_as_codec, field_as_takes, fitting, passing_codec, u16_codec, u32_codec, u64_codec}
use Rattle.harp_base.proofs.ReadLaws.{limited_codec}
use Rattle.harp_base.proofs.AttributeLaws.{then}
use Rattle.harp_base.proofs.CallLaws.{call_codec}
use Rattle.harp_base.proofs.ListLaws.{many_again, many_takes}
use Rattle.harp_base.proofs.NameLaws.{cred_codec, view_codec}
use Rattle.harp_base.proofs.ReplyLaws.{reply_codec}
use Rattle.harp_cells.specs.declared.change.Change.{Change}
use Rattle.harp_cells.specs.CellBytes.{change_at, change_bytes}
use Rattle.harp_cells.specs.ValueBytes.{longest_old_record, longest_record}
use Rattle.harp_cells.proofs.ChangeLaws.{change_codec}
use Rattle.event_record.specs.declared.reading.Head.{Head}
use Rattle.event_record.specs.declared.reading.Tail.{Tail}
use Rattle.event_record.specs.declared.record.RecordFields.{RecordFields}
use Rattle.event_record.specs.Bytes.{ChangesFit, FieldsFit, HeadFits, IndexFits, OldRecordFits, RecordFits, TailFits, changes_at, changes_bytes, head_at, head_bytes, head_from, head_of, index_at, index_limit, item_at, moment_limit, most_changes, old_fields_at, old_item_at, old_record_bytes, record_bytes, record_fields_at, record_from, superuser, tail_at, tail_bytes, tail_from, tail_of}
use Rattle.event_record.specs.Forms.{caller_at, fields_at}

-- ---- numbers and changes

index_codec : IsCodec index_at u64_bytes IndexFits
unfolding index_at
index_codec =
    fitting IndexFits (λ n f. (omega (arith, ltb-true 0 n f.1), f.0))
    (λ n f. (f.1, lt-ltb 0 n (omega (arith, f.0))))
    (passing_codec (λ n. nat_lt 0 n) (below_at index_limit) u64_bytes (λ n. n < index_limit)
    (below_codec index_limit (omega arith)))

few_codec : IsCodec (passing (λ n. nat_le n most_changes) u16_at) u16_bytes (λ n. n ≤ most_changes)
few_codec =
    fitting (λ n. n ≤ most_changes) (λ n f. leb-true n most_changes f.1)
    (λ n le. (omega (arith, le), le-leb n most_changes le))
    (passing_codec (λ n. nat_le n most_changes) u16_at u16_bytes (λ n. n < 2 ^ 16) u16_codec)

abbrev few_at : Reader ℕ
few_at = passing (λ n. nat_le n most_changes) u16_at

changes_takes : (bytes : List ℕ) (at : ℕ) (x : List Change × ℕ) → IsBytes bytes
    → changes_at bytes at ≡ Ok x → Spells bytes at (changes_bytes x.0) x.1 × ChangesFit x.0
unfolding changes_at changes_bytes
changes_takes bytes at x fits e =
    let p = bind_ok (few_at bytes at) (λ n. many_at change_at n.0 bytes n.1) x e in
    let n = few_codec.takes bytes at p.0 fits p.1 in
    let t = many_takes change_codec p.0.0 bytes p.0.1 x fits p.2 in
    let both =
    Spells-then bytes at (u16_bytes p.0.0) p.0.1 (many_bytes change_bytes x.0) x.1 n.0 t.0 in (
      subst (λ (k : ℕ). Spells bytes at (u16_bytes k ++ many_bytes change_bytes x.0) x.1)
          (sym t.1.0) both,
      (omega (arith, n.1, t.1.0), t.1.1),
    )

changes_again : (bytes : List ℕ) (at : ℕ) (x : List Change) (rest : List ℕ) → ChangesFit x
    → drop at bytes ≡ changes_bytes x ++ rest
    → changes_at bytes at ≡ Ok (x, at + length (changes_bytes x))
unfolding changes_at changes_bytes
changes_again bytes at x rest fits e =
    let text = many_bytes change_bytes x in
    let front : drop at bytes ≡ u16_bytes (length x) ++ (text ++ rest) = e
    ∙ append_assoc (u16_bytes (length x)) text rest in
    let first = few_codec.again bytes at (length x) (text ++ rest) fits.0 front in
    let second =
    many_again change_codec x bytes (at + length (u16_bytes (length x))) rest fits.1
    (drop_past bytes at (u16_bytes (length x)) (text ++ rest) front) in
    let len : at + length (u16_bytes (length x) ++ text)
    ≡ at + length (u16_bytes (length x)) + length text =
    omega (arith, length-append (u16_bytes (length x)) text) in
    rw (first, second, len) refl

changes_codec : IsCodec changes_at changes_bytes ChangesFit
changes_codec = record { takes = changes_takes; again = changes_again }

-- ---- records

head_codec : IsCodec head_at head_bytes HeadFits
unfolding head_at head_bytes
head_codec =
    field_as_codec head_from _ _ _ (then (then (then view_codec index_codec) u32_codec) u64_codec)
    (λ h. (((h.stamped, h.index), h.client), h.number)) head_bytes HeadFits (λ h. refl)
    (λ x f. (refl, (f.0.0.0, f.0.0.1, f.0.1, f.1))) (λ h f. (refl, (((f.0, f.1), f.2), f.3)))

tail_codec : IsCodec tail_at tail_bytes TailFits
unfolding tail_at tail_bytes
tail_codec =
    field_as_codec tail_from _ _ _
    (then (then (then call_codec (below_codec moment_limit (omega arith))) reply_codec)
    changes_codec)
    (λ t. (((t.call, t.stamp), t.reply), t.changes)) tail_bytes TailFits (λ t. refl)
    (λ x f. (refl, (f.0.0.0, f.0.0.1, f.0.1, f.1))) (λ t f. (refl, (((f.0, f.1), f.2), f.3)))

fields_codec : IsCodec record_fields_at record_bytes FieldsFit
unfolding record_fields_at
fields_codec =
    field_as_codec (λ x. record_from x.0.0 x.0.1 x.1) _ _ _
    (then (then head_codec cred_codec) tail_codec)
    (λ r. ((head_of r, r.cred), tail_of r)) record_bytes FieldsFit (λ r. refl)
    (λ x f. (refl, (f.0.0, f.0.1, f.1))) (λ r f. (refl, ((f.0, f.1), f.2)))

pub item_codec : IsCodec item_at record_bytes RecordFits
item_codec = limited_codec longest_record record_fields_at record_bytes FieldsFit fields_codec

-- ---- records without a credential

abbrev OldFieldsFit : RecordFields → Type 0
OldFieldsFit r = HeadFits (head_of r) × (r.cred ≡ superuser) × TailFits (tail_of r)

abbrev old_from : Head × Tail → RecordFields
old_from x = record_from x.0 superuser x.1

abbrev parts_bytes : Head × Tail → List ℕ
parts_bytes x = head_bytes x.0 ++ tail_bytes x.1

abbrev PartsFit : Head × Tail → Type 0
PartsFit x = HeadFits x.0 × TailFits x.1

parts_codec : IsCodec (head_at ⊗ tail_at) parts_bytes PartsFit
parts_codec = then head_codec tail_codec

old_takes : (bytes : List ℕ) (at : ℕ) (x : RecordFields × ℕ) → IsBytes bytes
    → old_fields_at bytes at ≡ Ok x
    → Spells bytes at (old_record_bytes x.0) x.1 × OldFieldsFit x.0
unfolding old_fields_at
old_takes bytes at x fits e =
    let t = field_as_takes old_from (head_at ⊗ tail_at) parts_bytes PartsFit parts_codec bytes at
    x fits e in
    subst (λ (r : RecordFields). Spells bytes at (old_record_bytes r) x.1 × OldFieldsFit r) t.1
    (t.2, (t.3.0, refl, t.3.1))

abbrev pub ok_record : RecordFields → ℕ → Read RecordFields
ok_record r n = Ok (r, n)

old_again : (bytes : List ℕ) (at : ℕ) (r : RecordFields) (rest : List ℕ) → OldFieldsFit r
    → drop at bytes ≡ old_record_bytes r ++ rest
    → old_fields_at bytes at ≡ Ok (r, at + length (old_record_bytes r))
unfolding old_fields_at
old_again bytes at r rest fits e =
    let same : old_from (head_of r, tail_of r) ≡ r =
    ap (λ (c : Cred). record_from (head_of r) c (tail_of r)) (sym fits.1) in
    field_as_again old_from (head_at ⊗ tail_at) parts_bytes PartsFit parts_codec bytes at
    (head_of r, tail_of r) rest (fits.0, fits.2) e
    ∙ ap (λ (y : RecordFields). ok_record y (at + length (old_record_bytes r))) same

old_codec : IsCodec old_fields_at old_record_bytes OldFieldsFit
old_codec = record { takes = old_takes; again = old_again }

pub old_item_codec : IsCodec old_item_at old_record_bytes OldRecordFits
old_item_codec = limited_codec longest_old_record old_fields_at old_record_bytes OldFieldsFit
    old_codec

-- with a credential it isn't too long
cred_size : (c : Cred) → length (cred_bytes c) ≡ 8
unfolding cred_bytes u32_bytes
cred_size c = refl

pub old_is_short : (r : RecordFields) → length (old_record_bytes r) ≤ longest_old_record
    → length (record_bytes r) ≤ longest_record
old_is_short r le =
    let head = head_bytes (head_of r) in
    let tail = tail_bytes (tail_of r) in
    omega (
      arith,
      le,
      cred_size r.cred,
      length-append head tail,
      length-append head (cred_bytes r.cred),
      length-append (head ++ cred_bytes r.cred) tail,
    )

-- ---- a record that may be of the old form

abbrev given : {A : Type 0} → Read A → Reader A
given read bytes at = read

abbrev of_superuser : Reader Cred
of_superuser bytes at = Ok (superuser, at)

abbrev whole : Reader Head → Reader Tail → Reader RecordFields
whole head tail = field_as (λ x. record_from x.0.0 x.0.1 x.1) (head ⊗ of_superuser ⊗ tail)

abbrev short : Reader Head → Reader Tail → Reader RecordFields
short head tail = field_as (λ x. record_from x.0 superuser x.1) (head ⊗ tail)

of_tail : (h : Head × ℕ) (t : Read Tail) (bytes : List ℕ) (at : ℕ)
    → whole (given (Ok h)) (given t) bytes at ≡ short (given (Ok h)) (given t) bytes at
of_tail h (Ok t) bytes at = refl
of_tail h (Err e) bytes at = refl

of_head : (h : Read Head) (tail : Reader Tail) (bytes : List ℕ) (at : ℕ)
    → whole (given h) tail bytes at ≡ short (given h) tail bytes at
of_head (Ok h) tail bytes at = of_tail h (tail bytes h.1) bytes at
of_head (Err e) tail bytes at = refl

pub is_record : (bytes : List ℕ) (at : ℕ) → fields_at false bytes at ≡ record_fields_at bytes at
unfolding fields_at caller_at record_fields_at
is_record bytes at = refl

pub is_old_record : (bytes : List ℕ) (at : ℕ) → fields_at true bytes at ≡ old_fields_at bytes at
unfolding fields_at caller_at old_fields_at
is_old_record bytes at = of_head (head_at bytes at) tail_at bytes at

-- ---- what a reader of the front of the bytes gave

pub limited_gives : {A : Type 0} (most : ℕ) (read : Reader A) (bytes cut : List ℕ) (at limit : ℕ)
    (x : A × ℕ) → limit ≡ at + most → cut ≡ take limit bytes → read cut at ≡ Ok x
    → limited most read bytes at ≡ Ok x
unfolding limited
limited_gives most read bytes cut at limit x far is e =
    let same : take (at + most) bytes ≡ cut = sym (is ∙ ap (λ (n : ℕ). take n bytes) far) in
    ap (read_within (at + most)) (ap (λ (c : List ℕ). read c at) same ∙ e)

fails_is : {A : Type 0} (e : Misread) (r : Read A) → r ≡ Err e → Fails e r
fails_is (Ends from to) r is = is
fails_is (BadTag n) r is = is
fails_is (TooLong n) r is = is
fails_is NoMemory r is = tt

fails_within : {A : Type 0} (limit : ℕ) (e : Misread) (r : Read A) → Fails e r
    → Fails (misread_within limit e) (read_within limit r)
fails_within limit (Ends from to) r f =
    fails_is (misread_within limit (Ends from to)) (read_within limit r)
    (ap (read_within limit) f)
fails_within limit (BadTag n) r f = ap (read_within limit) f
fails_within limit (TooLong n) r f = ap (read_within limit) f
fails_within limit NoMemory r f = tt

pub limited_fails : {A : Type 0} (most : ℕ) (read : Reader A) (bytes cut : List ℕ) (at limit : ℕ)
    (e : Misread) → limit ≡ at + most → cut ≡ take limit bytes → Fails e (read cut at)
    → Fails (misread_within limit e) (limited most read bytes at)
unfolding limited
limited_fails {A = A} most read bytes cut at limit e far is f =
    let same : cut ≡ take (at + most) bytes = is ∙ ap (λ (n : ℕ). take n bytes) far in
    subst (λ (n : ℕ). Fails (misread_within n e) (read_within (at + most)
    (read (take (at + most) bytes) at))) (sym far)
    (fails_within (at + most) e (read (take (at + most) bytes) at)
    (subst (λ (c : List ℕ). Fails e (read c at)) same f))
