-- Records as values of cells.
use Rattle.std.proofs.Common.{◌≡◌, ℕ, ◌≤◌, List, [], ◌∷◌, ◌++◌, length, drop, Ok, Err, Result, Option, Some, None, refl, sym, ap, ◌∙◌, arith, length-append, append-nil}
use Rattle.harp_base.specs.Fields.{Read, Spells, Tells, u32_bytes}
use Rattle.harp_base.specs.declared.field.FieldFault.{FieldFault}
use Rattle.harp_base.specs.Names.{cred_bytes}
use Rattle.harp_types.specs.declared.cred.Cred.{Cred}
use Rattle.harp_cells.specs.declared.value.Value.{Value}
use Rattle.harp_cells.specs.declared.value.Value.TheVariants as value
use Rattle.event_record.specs.declared.record.RecordFields.{RecordFields}
use Rattle.event_record.specs.Bytes.{head_bytes, head_of, old_record_bytes, record_bytes, tail_bytes, tail_of}
use Rattle.event_record.proofs.RecordLaws.{item_codec, old_item_codec}
use Rattle.power_save.specs.Saved.{HasRecord, IsValueOf}

-- the bytes of a record aren't none
cred_size : (c : Cred) → length (cred_bytes c) ≡ 8
unfolding cred_bytes u32_bytes
cred_size c = refl

pub some_bytes : (r : RecordFields) → 1 ≤ length (record_bytes r)
some_bytes r =
    let head = head_bytes (head_of r) in
    let tail = tail_bytes (tail_of r) in
    omega (
      arith,
      cred_size r.cred,
      length-append head (cred_bytes r.cred),
      length-append (head ++ cred_bytes r.cred) tail,
    )

-- ---- one record, and nothing behind it

pub drop_whole : (bytes : List ℕ) → drop (length bytes) bytes ≡ []
drop_whole [] = refl
drop_whole (x ∷ xs) = drop_whole xs

pub spelled_whole : (bytes text : List ℕ) (n : ℕ) → n ≡ length bytes → Spells bytes 0 text n
    → bytes ≡ text
spelled_whole bytes text n e s =
    s.parts ∙ ap (λ (rest : List ℕ). text ++ rest) (ap (λ (k : ℕ). drop k bytes) e ∙ drop_whole bytes)
    ∙ append-nil text

-- what is read of a spelling ends where the spelling does
read_to : RecordFields → ℕ → Read RecordFields → ℕ
read_to r n (Ok x) = x.1
read_to r n (Err e) = n

the_record : RecordFields → Read RecordFields → RecordFields
the_record r (Ok x) = x.0
the_record r (Err e) = r

-- the same bytes are one record
pub one_value : (v : Value) (x y : RecordFields) → IsValueOf v x → IsValueOf v y → x ≡ y
unfolding the_record
one_value (value.SavedCred bytes) x y h g =
    ap (the_record x) (sym (item_codec.again bytes 0 x [] h.1 (h.0 ∙ sym (append-nil (record_bytes x))))
    ∙ item_codec.again bytes 0 y [] g.1 (g.0 ∙ sym (append-nil (record_bytes y))))
one_value (value.Saved bytes) x y h g =
    ap (the_record x) (sym (old_item_codec.again bytes 0 x [] h.1 (h.0 ∙ sym (append-nil (old_record_bytes x))))
    ∙ old_item_codec.again bytes 0 y [] g.1 (g.0 ∙ sym (append-nil (old_record_bytes y))))
one_value (value.Meta next used stamp) x y h g = absurd h
one_value (value.Object inode) x y h g = absurd h
one_value (value.Unformed inode) x y h g = absurd h
one_value (value.Block bytes) x y h g = absurd h
one_value (value.Slot object name) x y h g = absurd h
one_value (value.Client number index reply) x y h g = absurd h

pub one_record : (v : Option Value) (x y : RecordFields) → HasRecord v x → HasRecord v y → x ≡ y
one_record None x y h g = absurd h
one_record (Some v) x y h g = one_value v x y h g

-- ---- what was read, and what is spelled

end_of : ℕ → Result (RecordFields × ℕ) FieldFault → ℕ
end_of n (Ok x) = x.1
end_of n (Err e) = n

-- a spelling without anything behind it was read whole
pub read_whole : (bytes text : List ℕ) (r x : RecordFields) (n : ℕ) → bytes ≡ text
    → Tells {X = RecordFields × ℕ} (Ok (x, n)) (Ok (r, length text)) → n ≡ length bytes
unfolding end_of
read_whole bytes text r x n is told = sym (ap (end_of n) told) ∙ sym (ap length is)
