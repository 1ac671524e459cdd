-- WHAT A RECORD MEANS: nothing, an answer that needs no file service, or a call (RFC 1057,
-- section 8).
use Rattle.std.specs.Prelude.{ℕ, ◌==◌, not, List, [], ◌∷◌, Option, Some, None, Ok, Err, if◌then◌else◌}
use Rattle.harp_types.specs.declared.call.Call.{Call}
use Rattle.harp_types.specs.declared.procedure.Procedure.{Procedure}
use Rattle.harp_types.specs.Procedures.{procedure_number, procedures}
use Rattle.harp_base.specs.Fields.{Read, Reader, ◌⊗◌, field_as, u32_at}
use Rattle.harp_types.specs.Numbered.{value_with_number}
use Rattle.rpc_door.specs.declared.header.Header.{Header}
use Rattle.rpc_door.specs.declared.header.Opening.{Opening}
use Rattle.rpc_door.specs.declared.meaning.RpcIn.{RpcIn}
use Rattle.rpc_door.specs.declared.meaning.RpcIn.TheVariants.{Silent, Fixed, Ask}
use Rattle.rpc_door.specs.Arguments.{arguments_at}
use Rattle.rpc_door.specs.Xdr.{opaque_at, words}

-- ---- answers

-- the reply with this xid is accepted, with no verifier, and in this state
abbrev pub accepted : ℕ → List ℕ → List ℕ
accepted xid state = words (xid ∷ 1 ∷ 0 ∷ 0 ∷ 0 ∷ state)

-- the call is denied: versions of RPC from 2 to 2 are served
abbrev pub denied : ℕ → List ℕ
denied xid = words (xid ∷ 1 ∷ 1 ∷ 0 ∷ 2 ∷ 2 ∷ [])

-- the state of an accepted reply that has no result: this is another program, or another version of
-- it than 2 to 2, or no procedure of it, or arguments that can't be read
abbrev pub no_program : List ℕ
no_program = 1 ∷ []

abbrev pub no_version : List ℕ
no_version = 2 ∷ 2 ∷ 2 ∷ []

abbrev pub no_procedure : List ℕ
no_procedure = 3 ∷ []

abbrev pub no_arguments : List ℕ
no_arguments = 4 ∷ []

-- ---- the front of a record

-- the first three words: xid, 0 for a call, and the version of RPC
unfoldable pub opening_at : Reader Opening
opening_at =
    field_as (λ x. record { xid = x.0.0; kind = x.0.1; version = x.1 }) (u32_at ⊗ u32_at ⊗ u32_at)

-- a credential or a verifier: its flavour and at most 400 bytes (section 8.2)
unfoldable pub auth_at : Reader (ℕ × List ℕ)
auth_at = u32_at ⊗ opaque_at 400

-- who is called, by whom
unfoldable pub header_at : Reader Header
header_at =
    field_as (λ x. record { program = x.0.0.0.0; version = x.0.0.0.1; procedure = x.0.0.1 })
    (u32_at ⊗ u32_at ⊗ u32_at ⊗ auth_at ⊗ auth_at)

-- the procedure of a number
abbrev pub procedure_with : ℕ → Option Procedure
procedure_with n = value_with_number procedure_number procedures n

-- ---- the meaning

abbrev pub call_or_fixed : ℕ → Read Call → RpcIn
call_or_fixed xid (Ok x) = Ask xid x.0
call_or_fixed xid (Err e) = Fixed (accepted xid no_arguments)

-- what the call of a procedure means, whose arguments begin at a place
abbrev pub call_of : ℕ → Option Procedure → List ℕ → ℕ → RpcIn
call_of xid None bytes at = Fixed (accepted xid no_procedure)
call_of xid (Some p) bytes at = call_or_fixed xid (arguments_at p bytes at)

-- NFS is program 100003
unfoldable pub called : ℕ → Header → List ℕ → ℕ → RpcIn
called xid h bytes at =
    if not (h.program == 100003) then Fixed (accepted xid no_program)
    else (if not (h.version == 2) then Fixed (accepted xid no_version)
    else call_of xid (procedure_with h.procedure) bytes at)

-- a call whose header doesn't fit means nothing
abbrev pub called_or_silent : ℕ → List ℕ → Read Header → RpcIn
called_or_silent xid bytes (Ok x) = called xid x.0 bytes x.1
called_or_silent xid bytes (Err e) = Silent

unfoldable pub opened : Opening → List ℕ → ℕ → RpcIn
opened o bytes at =
    if not (o.kind == 0) then Silent
    else (if not (o.version == 2) then Fixed (denied o.xid)
    else called_or_silent o.xid bytes (header_at bytes at))

abbrev pub opened_or_silent : List ℕ → Read Opening → RpcIn
opened_or_silent bytes (Ok x) = opened x.0 bytes x.1
opened_or_silent bytes (Err e) = Silent

unfoldable pub meaning_of : List ℕ → RpcIn
meaning_of bytes = opened_or_silent bytes (opening_at bytes 0)
