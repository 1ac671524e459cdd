-- Trees whose fields have the bounds of the fields that show them.
use Rattle.std.specs.Prelude.{ℕ, ◌<◌, ◌≤◌, ◌^◌, List, length, Option, Some, None}
use Rattle.std.specs.List.{AllByRecursion}
use Rattle.harp_base.specs.Attributes.{TimeFits}
use Rattle.file_tree.specs.declared.object.Slot.{Slot}
use Rattle.file_tree.specs.declared.object.Body.{Body}
use Rattle.file_tree.specs.declared.object.Body.TheVariants as body
use Rattle.file_tree.specs.declared.object.Object.{Object}
use Rattle.file_tree.specs.Tree.{Tree}

-- each is a byte
abbrev pub AreOctets : List ℕ → Type 0
AreOctets bytes = AllByRecursion (λ b. b < 256) bytes

pub record NameFits (name : List ℕ) : Type 0 where
  pub some : 1 ≤ length name
  pub few : length name ≤ 255

abbrev pub SlotFits : Option Slot → Type 0
SlotFits None = Unit {0}
SlotFits (Some s) = (s.number < 2 ^ 32) × NameFits s.name × AreOctets s.name

abbrev pub BodyFits : Body → Type 0
BodyFits (body.Regular bytes) = AreOctets bytes
BodyFits (body.Directory slots) = AllByRecursion SlotFits slots
BodyFits (body.Link text) = AreOctets text

pub record ObjectFits (o : Object) : Type 0 where
  pub uid : o.uid < 2 ^ 32
  pub gid : o.gid < 2 ^ 32
  pub atime : TimeFits o.atime
  pub mtime : TimeFits o.mtime
  pub ctime : TimeFits o.ctime
  pub body : BodyFits o.body

abbrev pub PlaceFits : Option Object → Type 0
PlaceFits None = Unit {0}
PlaceFits (Some o) = ObjectFits o

-- each object does
abbrev pub TreeFits : Tree → Type 0
TreeFits tree = AllByRecursion PlaceFits tree
