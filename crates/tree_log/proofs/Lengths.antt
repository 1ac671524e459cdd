-- How long the fields of a record are.
use Rattle.std.proofs.Common.{◌≡◌, ℕ, ◌+◌, List, length, refl, arith, length-append}
use Rattle.harp_types.specs.declared.attr.Attr.{Attr}
use Rattle.harp_types.specs.declared.attr.SetAttr.{SetAttr}
use Rattle.harp_types.specs.declared.cred.Cred.{Cred}
use Rattle.harp_base.specs.Attributes.{attr_bytes, set_attr_bytes, time_bytes}
use Rattle.harp_base.specs.Fields.{counted_bytes, u16_bytes, u32_bytes, u64_bytes}
use Rattle.harp_base.specs.Names.{cred_bytes, view_bytes}
use Rattle.harp_cells.specs.declared.value.Inode.{Inode}
use Rattle.harp_cells.specs.ValueBytes.{inode_bytes}
use Rattle.event_record.specs.declared.record.RecordFields.{RecordFields}
use Rattle.event_record.specs.Bytes.{head_bytes, head_of}

pub len_u16 : (n : ℕ) → length (u16_bytes n) ≡ 2
unfolding u16_bytes
len_u16 n = refl

pub len_u32 : (n : ℕ) → length (u32_bytes n) ≡ 4
unfolding u32_bytes
len_u32 n = refl

pub len_u64 : (n : ℕ) → length (u64_bytes n) ≡ 8
unfolding u64_bytes
len_u64 n = refl

pub len_counted : (bytes : List ℕ) → length (counted_bytes bytes) ≡ 2 + length bytes
unfolding counted_bytes
len_counted bytes =
    omega (arith, length-append (u16_bytes (length bytes)) bytes, len_u16 (length bytes))

pub len_attr : (a : Attr) → length (attr_bytes a) ≡ 51
unfolding attr_bytes time_bytes u16_bytes u32_bytes
len_attr a = refl

pub len_set : (a : SetAttr) → length (set_attr_bytes a) ≡ 32
unfolding set_attr_bytes time_bytes u32_bytes
len_set a = refl

pub len_inode : (i : Inode) → length (inode_bytes i) ≡ 51
unfolding inode_bytes time_bytes u16_bytes u32_bytes
len_inode i = refl

pub len_cred : (c : Cred) → length (cred_bytes c) ≡ 8
unfolding cred_bytes u32_bytes
len_cred c = refl

pub len_head : (r : RecordFields) → length (head_bytes (head_of r)) ≡ 29
unfolding head_bytes view_bytes u32_bytes u64_bytes
len_head r = refl

pub ruleset sizes = (length-append, len_u16, len_u32, len_u64, len_counted, len_attr, len_set, len_inode)
