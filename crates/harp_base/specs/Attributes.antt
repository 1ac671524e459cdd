-- Times and attributes as bytes.
use Rattle.std.specs.Prelude.{ℕ, ◌<◌, ◌^◌, List, [], ◌∷◌, ◌++◌}
use Rattle.harp_types.specs.declared.attr.Time.{Time}
use Rattle.harp_types.specs.declared.attr.SetAttr.{SetAttr}
use Rattle.harp_types.specs.declared.attr.Attr.{Attr}
use Rattle.harp_types.specs.declared.attr.Kind.{Kind}
use Rattle.harp_types.specs.Kinds.{kind_number, kinds}
use Rattle.harp_base.specs.Fields.{Reader, ◌⊗◌, field_as, tag_at, u16_at, u32_at, u16_bytes, u32_bytes}

-- ---- times

abbrev pub TimeFits : Time → Type 0
TimeFits t = (t.seconds < 2 ^ 32) × (t.micros < 2 ^ 32)

unfoldable pub time_bytes : Time → List ℕ
time_bytes t = u32_bytes t.seconds ++ u32_bytes t.micros

unfoldable pub time_at : Reader Time
time_at = field_as (λ x. record { seconds = x.0; micros = x.1 }) (u32_at ⊗ u32_at)

-- ---- attributes to set

abbrev pub SetAttrFits : SetAttr → Type 0
SetAttrFits a =
    (a.mode < 2 ^ 32) × (a.uid < 2 ^ 32) × (a.gid < 2 ^ 32) × (a.size < 2 ^ 32) × TimeFits a.atime
    × TimeFits a.mtime

unfoldable pub set_attr_bytes : SetAttr → List ℕ
set_attr_bytes a =
    u32_bytes a.mode ++ u32_bytes a.uid ++ u32_bytes a.gid ++ u32_bytes a.size
    ++ time_bytes a.atime ++ time_bytes a.mtime

abbrev pub set_attr_of : ((((ℕ × ℕ) × ℕ) × ℕ) × Time) × Time → SetAttr
set_attr_of (((((m, u), g), s), a), t) =
    record { mode = m; uid = u; gid = g; size = s; atime = a; mtime = t }

unfoldable pub set_attr_at : Reader SetAttr
set_attr_at = field_as set_attr_of (u32_at ⊗ u32_at ⊗ u32_at ⊗ u32_at ⊗ time_at ⊗ time_at)

-- ---- attributes

abbrev pub AttrFits : Attr → Type 0
AttrFits a =
    (a.mode < 2 ^ 16) × (a.links < 2 ^ 32) × (a.uid < 2 ^ 32) × (a.gid < 2 ^ 32) × (a.size < 2 ^ 32)
    × (a.blocks < 2 ^ 32)
    × (a.fileid < 2 ^ 32) × TimeFits a.atime × TimeFits a.mtime × TimeFits a.ctime

unfoldable pub attr_bytes : Attr → List ℕ
attr_bytes a =
    kind_number a.kind ∷ [] ++ u16_bytes a.mode ++ u32_bytes a.links ++ u32_bytes a.uid
    ++ u32_bytes a.gid
    ++ u32_bytes a.size ++ u32_bytes a.blocks ++ u32_bytes a.fileid
    ++ time_bytes a.atime ++ time_bytes a.mtime ++ time_bytes a.ctime

abbrev pub attr_of : ((((((((((Kind × ℕ) × ℕ) × ℕ) × ℕ) × ℕ) × ℕ) × ℕ) × Time) × Time) × Time)
    → Attr
attr_of ((((((((((k, mode), l), u), g), s), b), f), a), m), c) = record {
  kind = k;
  mode = mode;
  links = l;
  uid = u;
  gid = g;
  size = s;
  blocks = b;
  fileid = f;
  atime = a;
  mtime = m;
  ctime = c;
}

unfoldable pub attr_at : Reader Attr
attr_at =
    field_as attr_of
    (tag_at kind_number kinds ⊗ u16_at ⊗ u32_at ⊗ u32_at ⊗ u32_at ⊗ u32_at ⊗ u32_at ⊗ u32_at
    ⊗ time_at ⊗ time_at ⊗ time_at)
