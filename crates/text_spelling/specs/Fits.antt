-- Values that have a spelling.
use Rattle.std.specs.Prelude.{◌≡◌, ℕ, ◌<◌, ◌≤◌, ◌^◌, ◌⊎◌, List, length, slice_index, Option, Some, None}
use Rattle.harp_types.specs.Server.{number_of}
use Rattle.harp_types.specs.declared.server.ServerId.{ServerId}
use Rattle.harp_types.specs.declared.attr.Time.{Time}
use Rattle.harp_types.specs.declared.attr.SetAttr.{SetAttr}
use Rattle.harp_types.specs.declared.call.Call.{Call}
use Rattle.harp_types.specs.declared.call.Call.TheVariants as call
use Rattle.harp_types.specs.declared.cred.Cred.{Cred}
use Rattle.text_spelling.specs.Text.{left}

-- bytes, at most so many
pub record AreBytes (most : ℕ) (bytes : List ℕ) : Type 0 where
  pub few : length bytes ≤ most
  pub fit : (i : ℕ) → slice_index bytes i < 256

abbrev pub TimeFits : Time → Type 0
TimeFits t = (t.seconds < 2 ^ 32) × (t.micros < 2 ^ 32)

-- a mode of four octal digits, or one that is left
pub record SetAttrFits (a : SetAttr) : Type 0 where
  pub mode : (a.mode < 4096) ⊎ (a.mode ≡ left)
  pub uid : a.uid < 2 ^ 32
  pub gid : a.gid < 2 ^ 32
  pub size : a.size < 2 ^ 32
  pub atime : TimeFits a.atime
  pub mtime : TimeFits a.mtime

abbrev pub CallFits : Call → Type 0
CallFits call.Null = Unit {0}
CallFits (call.GetAttr handle) = handle < 2 ^ 32
CallFits (call.SetAttr handle attr) = (handle < 2 ^ 32) × SetAttrFits attr
CallFits (call.Lookup dir name) = (dir < 2 ^ 32) × AreBytes 4096 name
CallFits (call.ReadLink handle) = handle < 2 ^ 32
CallFits (call.Read handle offset count) = (handle < 2 ^ 32) × (offset < 2 ^ 32) × (count < 2 ^ 32)
CallFits (call.Write handle offset bytes) =
    (handle < 2 ^ 32) × (offset < 2 ^ 32) × AreBytes 8192 bytes
CallFits (call.Create dir name attr) = (dir < 2 ^ 32) × AreBytes 4096 name × SetAttrFits attr
CallFits (call.Remove dir name) = (dir < 2 ^ 32) × AreBytes 4096 name
CallFits (call.Rename dir name to_dir to_name) =
    (dir < 2 ^ 32) × AreBytes 4096 name × (to_dir < 2 ^ 32) × AreBytes 4096 to_name
CallFits (call.Link handle dir name) = (handle < 2 ^ 32) × (dir < 2 ^ 32) × AreBytes 4096 name
CallFits (call.SymLink dir name text attr) =
    (dir < 2 ^ 32) × AreBytes 4096 name × AreBytes 4096 text × SetAttrFits attr
CallFits (call.MkDir dir name attr) = (dir < 2 ^ 32) × AreBytes 4096 name × SetAttrFits attr
CallFits (call.RmDir dir name) = (dir < 2 ^ 32) × AreBytes 4096 name
CallFits (call.ReadDir dir cookie count) = (dir < 2 ^ 32) × (cookie < 2 ^ 32) × (count < 2 ^ 32)
CallFits (call.StatFs handle) = handle < 2 ^ 32

abbrev pub CredFits : Cred → Type 0
CredFits cred = (cred.uid < 2 ^ 32) × (cred.gid < 2 ^ 32)

-- two servers, in the order of their numbers
abbrev pub PairFits : ServerId × ServerId → Type 0
PairFits pair = number_of pair.0 < number_of pair.1

abbrev pub AmongFits : Option (ServerId × ServerId) → Type 0
AmongFits None = Unit {0}
AmongFits (Some pair) = PairFits pair
