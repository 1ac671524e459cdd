-- The values of cells undo their bytes.
use Rattle.std.proofs.Common.{◌≡◌, ℕ, ◌+◌, ◌<◌, ◌≤◌, ◌^◌, Bool, true, false, List, [], ◌∷◌, ◌++◌, length, drop, Some, Ok, refl, arith}
use Rattle.std.proofs.lemmas.Bool.{ltb-true, lt-ltb}
use Rattle.harp_base.specs.Fields.{Reader, Spells, byte_at, field_as, bytes_at, counted_bytes}
use Rattle.harp_types.specs.Numbered.{value_with_number}
use Rattle.harp_types.specs.Kinds.{kind_number, kinds}
use Rattle.harp_types.specs.declared.attr.Kind.{Kind}
use Rattle.harp_types.specs.declared.attr.Kind.TheVariants as kind
use Rattle.harp_base.proofs.Codec.{IsBytes, IsCodec, byte_codec, u16_codec, u32_codec, u64_codec, below_codec, counted_codec, passing_codec, fitting, tag_codec, part_takes, field_as_again, field_as_codec, fields_by_tag_codec}
use Rattle.harp_base.proofs.AttributeLaws.{then, time_codec, whole_kind}
use Rattle.harp_base.proofs.ReplyLaws.{reply_codec}
use Rattle.harp_cells.specs.Kinds.{is_other_kind}
use Rattle.harp_cells.specs.declared.value.Inode.{Inode}
use Rattle.harp_cells.specs.declared.value.UnformedInode.{UnformedInode}
use Rattle.harp_cells.specs.declared.value.Value.{Value}
use Rattle.harp_cells.specs.declared.value.Value.TheVariants as value
use Rattle.harp_cells.specs.declared.codec_forms.ValueForm.{ValueForm}
use Rattle.harp_cells.specs.declared.codec_forms.ValueForm.TheVariants as form
use Rattle.harp_cells.specs.ValueBytes.{is_some, some_bytes_at, SomeFit, InodeFits, inode_bytes, inode_of_fields, inode_at, UnformedFits, unformed_bytes, unformed_of_fields, unformed_at, other_kind_at, has_other_kind, value_form, value_form_number, value_forms, value_fields, value_bytes, ValueFits, attributes_at, value_fields_at, value_at}

some_codec : (most : ℕ) → most < 2 ^ 16
    → IsCodec (some_bytes_at most) counted_bytes (SomeFit most)
unfolding some_bytes_at
some_codec most small =
    fitting (SomeFit most) (λ b f. (ltb-true 0 (length b) f.1, f.0))
    (λ b f. (f.1, lt-ltb 0 (length b) f.0))
    (passing_codec is_some (bytes_at most) counted_bytes (λ b. length b ≤ most)
    (counted_codec most small))

inode_codec : IsCodec inode_at inode_bytes InodeFits
unfolding inode_at inode_bytes
inode_codec =
    let kind = tag_codec kind_number kinds whole_kind in
    let numbers =
    then (then (then (then (then (then (then kind u16_codec) u32_codec) u32_codec) u32_codec)
    u32_codec) u32_codec) u32_codec in
    field_as_codec inode_of_fields _ _ _
    (then (then (then numbers time_codec) time_codec) time_codec)
    (λ o. (
      (
        (
          (((((((o.kind, o.mode), o.uid), o.gid), o.links), o.parent), o.size), o.slots),
          o.atime,
        ),
        o.mtime,
      ),
      o.ctime,
    )) inode_bytes InodeFits (λ o. refl)
    (λ x f. let n =
    f.0.0.0 in (
      refl,
      (
        n.0.0.0.0.0.0.1,
        n.0.0.0.0.0.1,
        n.0.0.0.0.1,
        n.0.0.0.1,
        n.0.0.1,
        n.0.1,
        n.1,
        f.0.0.1,
        f.0.1,
        f.1,
      ),
    ))
    (λ o f. (refl, ((((((((((tt, f.0), f.1), f.2), f.3), f.4), f.5), f.6), f.7), f.8), f.9)))

other_kind_codec : IsCodec other_kind_at (λ n. n ∷ []) (λ n. Unit {0} × (is_other_kind n ≡ true))
other_kind_codec = passing_codec is_other_kind byte_at (λ n. n ∷ []) (λ _. Unit {0}) byte_codec

unformed_codec : IsCodec unformed_at unformed_bytes UnformedFits
unfolding unformed_at unformed_bytes
unformed_codec =
    let numbers =
    then (then (then (then (then (then (then other_kind_codec u16_codec) u32_codec) u32_codec)
    u32_codec) u32_codec) u32_codec) u32_codec in
    field_as_codec unformed_of_fields _ _ _
    (then (then (then numbers time_codec) time_codec) time_codec)
    (λ o. (
      (
        (
          (((((((o.kind, o.mode), o.uid), o.gid), o.links), o.parent), o.size), o.slots),
          o.atime,
        ),
        o.mtime,
      ),
      o.ctime,
    )) unformed_bytes UnformedFits (λ o. refl)
    (λ x f. let n =
    f.0.0.0 in (
      refl,
      (
        n.0.0.0.0.0.0.0.1,
        n.0.0.0.0.0.0.1,
        n.0.0.0.0.0.1,
        n.0.0.0.0.1,
        n.0.0.0.1,
        n.0.0.1,
        n.0.1,
        n.1,
        f.0.0.1,
        f.0.1,
        f.1,
      ),
    ))
    (λ o f. (refl, (((((((((((tt, f.0), f.1), f.2), f.3), f.4), f.5), f.6), f.7), f.8), f.9), f.10)))

kind_known : (k : Kind) → is_other_kind (kind_number k) ≡ false
kind_known kind.Regular = refl
kind_known kind.Directory = refl
kind_known kind.Link = refl

-- the first byte tells which attributes stand there
is_known : (o : Inode) (bytes : List ℕ) (at : ℕ) (rest : List ℕ)
    → drop at bytes ≡ inode_bytes o ++ rest → has_other_kind bytes at ≡ false
unfolding inode_bytes has_other_kind
is_known o bytes at rest e =
    rw (byte_codec.again bytes at (kind_number o.kind) (drop 1 (inode_bytes o ++ rest)) tt e)
    (kind_known o.kind)

is_other : (o : UnformedInode) (bytes : List ℕ) (at : ℕ) (rest : List ℕ)
    → is_other_kind o.kind ≡ true → drop at bytes ≡ unformed_bytes o ++ rest
    → has_other_kind bytes at ≡ true
unfolding unformed_bytes has_other_kind
is_other o bytes at rest other e =
    rw (byte_codec.again bytes at o.kind (drop 1 (unformed_bytes o ++ rest)) tt e) other

whole_form : (f : ValueForm) → value_with_number value_form_number value_forms (value_form_number f)
    ≡ Some f
whole_form form.Meta = refl
whole_form form.Object = refl
whole_form form.Block = refl
whole_form form.Slot = refl
whole_form form.Client = refl
whole_form form.Saved = refl
whole_form form.SavedCred = refl

module _ {A : Type 0} {r : Reader A} {s : A → List ℕ} {F : A → Type 0} (codec : IsCodec r s F) where
  value_takes : (f : A → Value) (t : ValueForm)
      → ((a : A) → F a → (value_fields (f a) ≡ s a) × ValueFits (f a) × (value_form (f a) ≡ t))
      → (bytes : List ℕ) (at : ℕ) (x : Value × ℕ) → IsBytes bytes → field_as f r bytes at ≡ Ok x
      → Spells bytes at (value_fields x.0) x.1 × ValueFits x.0 × (value_form x.0 ≡ t)
  value_takes f t = part_takes codec f value_fields ValueFits value_form t

  value_again : (f : A → Value) (a : A) → F a → (bytes : List ℕ) (at : ℕ) (rest : List ℕ)
      → drop at bytes ≡ s a ++ rest → field_as f r bytes at ≡ Ok (f a, at + length (s a))
  value_again f a fits bytes at rest e = field_as_again f r s F codec bytes at a rest fits e

object_take : (other : Bool) (bytes : List ℕ) (at : ℕ) (x : Value × ℕ) → IsBytes bytes
    → attributes_at other bytes at ≡ Ok x
    → Spells bytes at (value_fields x.0) x.1 × ValueFits x.0 × (value_form x.0 ≡ form.Object)
object_take true bytes at x fits e =
    value_takes unformed_codec value.Unformed form.Object (λ o f. (refl, f, refl)) bytes at x fits e
object_take false bytes at x fits e =
    value_takes inode_codec value.Object form.Object (λ o f. (refl, f, refl)) bytes at x fits e

fields_take : (t : ValueForm) (bytes : List ℕ) (at : ℕ) (x : Value × ℕ) → IsBytes bytes
    → value_fields_at t bytes at ≡ Ok x
    → Spells bytes at (value_fields x.0) x.1 × ValueFits x.0 × (value_form x.0 ≡ t)
unfolding value_fields_at
fields_take form.Meta bytes at x fits e =
    value_takes (then (then u32_codec u32_codec) (below_codec (2 ^ 62 + 2000) (omega arith)))
    (λ x. value.Meta x.0.0 x.0.1 x.1) form.Meta (λ x f. (refl, (f.0.0, f.0.1, f.1), refl))
    bytes at x fits e
fields_take form.Object bytes at x fits e =
    object_take (has_other_kind bytes at) bytes at x fits e
fields_take form.Block bytes at x fits e =
    value_takes (some_codec 4096 (omega arith)) value.Block form.Block (λ b f. (refl, f, refl))
    bytes at x fits e
fields_take form.Slot bytes at x fits e =
    value_takes (then u32_codec (some_codec 255 (omega arith))) (λ x. value.Slot x.0 x.1) form.Slot
    (λ x f. (refl, f, refl)) bytes at x fits e
fields_take form.Client bytes at x fits e =
    value_takes (then (then u64_codec u64_codec) reply_codec) (λ x. value.Client x.0.0 x.0.1 x.1)
    form.Client (λ x f. (refl, (f.0.0, f.0.1, f.1), refl)) bytes at x fits e
fields_take form.Saved bytes at x fits e =
    value_takes (some_codec 60000 (omega arith)) value.Saved form.Saved (λ b f. (refl, f, refl))
    bytes at x fits e
fields_take form.SavedCred bytes at x fits e =
    value_takes (some_codec 60008 (omega arith)) value.SavedCred form.SavedCred
    (λ b f. (refl, f, refl)) bytes at x fits e

fields_again : (v : Value) (bytes : List ℕ) (at : ℕ) (rest : List ℕ) → ValueFits v
    → drop at bytes ≡ value_fields v ++ rest
    → value_fields_at (value_form v) bytes at ≡ Ok (v, at + length (value_fields v))
unfolding value_fields_at
fields_again (value.Meta n u t) bytes at rest f e =
    value_again (then (then u32_codec u32_codec) (below_codec (2 ^ 62 + 2000) (omega arith)))
    (λ x. value.Meta x.0.0 x.0.1 x.1) ((n, u), t) ((f.0, f.1), f.2) bytes at rest e
fields_again (value.Object o) bytes at rest f e =
    rw (is_known o bytes at rest e) (value_again inode_codec value.Object o f bytes at rest e)
fields_again (value.Unformed o) bytes at rest f e =
    rw (is_other o bytes at rest f.0 e)
    (value_again unformed_codec value.Unformed o f bytes at rest e)
fields_again (value.Block b) bytes at rest f e =
    value_again (some_codec 4096 (omega arith)) value.Block b f bytes at rest e
fields_again (value.Slot o n) bytes at rest f e =
    value_again (then u32_codec (some_codec 255 (omega arith))) (λ x. value.Slot x.0 x.1) (o, n) f
    bytes at rest e
fields_again (value.Client n i r) bytes at rest f e =
    value_again (then (then u64_codec u64_codec) reply_codec) (λ x. value.Client x.0.0 x.0.1 x.1)
    ((n, i), r) ((f.0, f.1), f.2) bytes at rest e
fields_again (value.Saved b) bytes at rest f e =
    value_again (some_codec 60000 (omega arith)) value.Saved b f bytes at rest e
fields_again (value.SavedCred b) bytes at rest f e =
    value_again (some_codec 60008 (omega arith)) value.SavedCred b f bytes at rest e

pub value_codec : IsCodec value_at value_bytes ValueFits
unfolding value_at
value_codec =
    fields_by_tag_codec value_form_number value_forms value_fields_at value_form value_fields
    ValueFits whole_form fields_take fields_again
