-- THE FRONT OF A CALL, with its credential (RFC 1057, section 8).
use Rattle.std.specs.Prelude.{ℕ, ◌==◌, ◌&&◌, List, Option, Some, None, Ok, Err, if◌then◌else◌}
use Rattle.harp_base.specs.Fields.{Read, Reader, ◌⊗◌, field_as, u32_at}
use Rattle.rpc_door.specs.Meaning.{auth_at}
use Rattle.nfs_door.specs.declared.credential.Credential.{Credential}
use Rattle.nfs_door.specs.declared.front.Front.{Front}

unfoldable pub credential_at : Reader Credential
credential_at = field_as (λ x. record { flavour = x.0; body = x.1 }) auth_at

-- its number, 0 for a call, the version of RPC, who is called, and by whom
abbrev pub Fields : Type 0
Fields = (((((ℕ × ℕ) × ℕ) × ℕ) × ℕ) × ℕ) × Credential

abbrev pub front_with : Fields → Front
front_with x = record {
  xid = x.0.0.0.0.0.0;
  kind = x.0.0.0.0.0.1;
  rpc_version = x.0.0.0.0.1;
  program = x.0.0.0.1;
  version = x.0.0.1;
  procedure = x.0.1;
  credential = x.1;
}

-- behind it is a verifier
unfoldable pub front_at : Reader Front
front_at =
    field_as (λ x. front_with x.0)
    (u32_at ⊗ u32_at ⊗ u32_at ⊗ u32_at ⊗ u32_at ⊗ u32_at ⊗ credential_at ⊗ auth_at)

-- the front of a call by RPC version 2, and where its arguments begin
abbrev pub if_call : Read Front → Option (Front × ℕ)
if_call (Ok x) = if x.0.kind == 0 && x.0.rpc_version == 2 then Some x else None
if_call (Err e) = None

abbrev pub front_of : List ℕ → Option (Front × ℕ)
front_of bytes = if_call (front_at bytes 0)
