-- The arguments of the calls, read in the order in which RFC 1094 has them (section 2.2).
use Rattle.std.specs.Prelude.{ℕ, List, Ok}
use Rattle.harp_types.specs.declared.call.Call.{Call}
use Rattle.harp_types.specs.declared.call.Call.TheVariants as call
use Rattle.harp_types.specs.declared.procedure.Procedure.{Procedure}
use Rattle.harp_types.specs.declared.procedure.Procedure.TheVariants as procedure
use Rattle.harp_base.specs.Attributes.{set_attr_at}
use Rattle.harp_base.specs.Fields.{Reader, ◌⊗◌, field_as, u32_at}
use Rattle.harp_types.specs.Limits.{longest_argument, longest_transfer}
use Rattle.rpc_door.specs.Xdr.{handle_at, opaque_at}

-- a name or the text of a link
abbrev pub name_at : Reader (List ℕ)
name_at = opaque_at longest_argument

-- what is left out of a READ is its total count, and of a WRITE its begin offset and total count,
-- which RFC 1094 leaves unused (sections 2.2.7 and 2.2.9)
unfoldable pub arguments_at : Procedure → Reader Call
arguments_at procedure.Null bytes at = Ok (call.Null, at)
arguments_at procedure.GetAttr bytes at = field_as call.GetAttr handle_at bytes at
arguments_at procedure.SetAttr bytes at =
    field_as (λ x. call.SetAttr x.0 x.1) (handle_at ⊗ set_attr_at) bytes at
arguments_at procedure.Lookup bytes at =
    field_as (λ x. call.Lookup x.0 x.1) (handle_at ⊗ name_at) bytes at
arguments_at procedure.ReadLink bytes at = field_as call.ReadLink handle_at bytes at
arguments_at procedure.Read bytes at =
    field_as (λ x. call.Read x.0.0.0 x.0.0.1 x.0.1) (handle_at ⊗ u32_at ⊗ u32_at ⊗ u32_at) bytes at
arguments_at procedure.Write bytes at =
    field_as (λ x. call.Write x.0.0.0.0 x.0.0.1 x.1)
    (handle_at ⊗ u32_at ⊗ u32_at ⊗ u32_at ⊗ opaque_at longest_transfer) bytes at
arguments_at procedure.Create bytes at =
    field_as (λ x. call.Create x.0.0 x.0.1 x.1) (handle_at ⊗ name_at ⊗ set_attr_at) bytes at
arguments_at procedure.Remove bytes at =
    field_as (λ x. call.Remove x.0 x.1) (handle_at ⊗ name_at) bytes at
arguments_at procedure.Rename bytes at =
    field_as (λ x. call.Rename x.0.0.0 x.0.0.1 x.0.1 x.1)
    (handle_at ⊗ name_at ⊗ handle_at ⊗ name_at) bytes at
arguments_at procedure.Link bytes at =
    field_as (λ x. call.Link x.0.0 x.0.1 x.1) (handle_at ⊗ handle_at ⊗ name_at) bytes at
arguments_at procedure.SymLink bytes at =
    field_as (λ x. call.SymLink x.0.0.0 x.0.0.1 x.0.1 x.1)
    (handle_at ⊗ name_at ⊗ name_at ⊗ set_attr_at) bytes at
arguments_at procedure.MkDir bytes at =
    field_as (λ x. call.MkDir x.0.0 x.0.1 x.1) (handle_at ⊗ name_at ⊗ set_attr_at) bytes at
arguments_at procedure.RmDir bytes at =
    field_as (λ x. call.RmDir x.0 x.1) (handle_at ⊗ name_at) bytes at
arguments_at procedure.ReadDir bytes at =
    field_as (λ x. call.ReadDir x.0.0 x.0.1 x.1) (handle_at ⊗ u32_at ⊗ u32_at) bytes at
arguments_at procedure.StatFs bytes at = field_as call.StatFs handle_at bytes at
