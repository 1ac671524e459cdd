-- Times and attributes undo their bytes.
use Rattle.std.proofs.Common.{◌≡◌, ℕ, List, ◌++◌, Some, refl}
use Rattle.harp_types.specs.declared.attr.Kind.{Kind}
use Rattle.harp_types.specs.declared.attr.Kind.TheVariants.{Regular, Directory, Link}
use Rattle.harp_base.specs.Fields.{Reader, ◌⊗◌}
use Rattle.harp_types.specs.Numbered.{value_with_number}
use Rattle.harp_base.specs.Attributes.{TimeFits, SetAttrFits, AttrFits, time_at, time_bytes, set_attr_of, set_attr_at, set_attr_bytes, attr_of, attr_at, attr_bytes}
use Rattle.harp_types.specs.Kinds.{kind_number, kinds}
use Rattle.harp_base.proofs.Codec.{IsCodec, u16_codec, u32_codec, tag_codec, row_codec, field_as_codec}

-- a field and one more
pub then : {A B : Type 0} {r : Reader A} {s : Reader B} {sa : A → List ℕ} {sb : B → List ℕ} {FA : A
    → Type 0} {FB : B → Type 0} → IsCodec r sa FA → IsCodec s sb FB
    → IsCodec (r ⊗ s) (λ x. sa x.0 ++ sb x.1) (λ x. FA x.0 × FB x.1)
then {r = r} {s = s} {sa = sa} {sb = sb} {FA = FA} {FB = FB} ca cb = row_codec r s sa sb FA FB ca cb

pub time_codec : IsCodec time_at time_bytes TimeFits
unfolding time_at time_bytes
time_codec =
    field_as_codec (λ x. record { seconds = x.0; micros = x.1 }) _ _ _ (then u32_codec u32_codec)
    (λ t. (t.seconds, t.micros)) time_bytes TimeFits (λ t. refl) (λ x fits. (refl, fits))
    (λ t fits. (refl, fits))

pub set_attr_codec : IsCodec set_attr_at set_attr_bytes SetAttrFits
unfolding set_attr_at set_attr_bytes
set_attr_codec =
    field_as_codec set_attr_of _ _ _
    (then (then (then (then (then u32_codec u32_codec) u32_codec) u32_codec) time_codec) time_codec)
    (λ a. (((((a.mode, a.uid), a.gid), a.size), a.atime), a.mtime)) set_attr_bytes SetAttrFits
    (λ a. refl) (λ x f. (refl, (f.0.0.0.0.0, f.0.0.0.0.1, f.0.0.0.1, f.0.0.1, f.0.1, f.1)))
    (λ a f. (refl, (((((f.0, f.1), f.2), f.3), f.4), f.5)))

pub whole_kind : (k : Kind) → value_with_number kind_number kinds (kind_number k) ≡ Some k
whole_kind Regular = refl
whole_kind Directory = refl
whole_kind Link = refl

pub attr_codec : IsCodec attr_at attr_bytes AttrFits
unfolding attr_at attr_bytes
attr_codec =
    let kind = tag_codec kind_number kinds whole_kind in
    let numbers =
    then (then (then (then (then (then (then kind u16_codec) u32_codec) u32_codec) u32_codec)
    u32_codec) u32_codec) u32_codec in
    field_as_codec attr_of _ _ _ (then (then (then numbers time_codec) time_codec) time_codec)
    (λ a. (
      (
        (
          (((((((a.kind, a.mode), a.links), a.uid), a.gid), a.size), a.blocks), a.fileid),
          a.atime,
        ),
        a.mtime,
      ),
      a.ctime,
    )) attr_bytes AttrFits (λ a. refl)
    (λ x f. let n =
    f.0.0.0 in (
      refl,
      (
        n.0.0.0.0.0.0.1,
        n.0.0.0.0.0.1,
        n.0.0.0.0.1,
        n.0.0.0.1,
        n.0.0.1,
        n.0.1,
        n.1,
        f.0.0.1,
        f.0.1,
        f.1,
      ),
    ))
    (λ a f. (refl, ((((((((((tt, f.0), f.1), f.2), f.3), f.4), f.5), f.6), f.7), f.8), f.9)))
