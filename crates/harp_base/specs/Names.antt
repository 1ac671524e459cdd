-- Servers, views and credentials as bytes.
use Rattle.std.specs.Prelude.{ℕ, ◌<◌, ◌^◌, List, [], ◌∷◌, ◌++◌}
use Rattle.harp_types.specs.declared.server.ServerId.{ServerId}
use Rattle.harp_types.specs.declared.server.ServerId.TheVariants.{Zero, One, Two}
use Rattle.harp_types.specs.declared.cred.Cred.{Cred}
use Rattle.harp_types.specs.Server.{number_of}
use Rattle.harp_types.specs.View.{View}
use Rattle.harp_base.specs.Fields.{Reader, ◌⊗◌, field_as, tag_at, u32_at, below_at, u32_bytes, u64_bytes}

abbrev pub servers : List ServerId
servers = Zero ∷ One ∷ Two ∷ []

abbrev pub server_at : Reader ServerId
server_at = tag_at number_of servers

-- a view: a count below 2^62, and the coordinator
abbrev pub ViewFits : View → Type 0
ViewFits v = v.count < 2 ^ 62

unfoldable pub view_bytes : View → List ℕ
view_bytes v = u64_bytes v.count ++ number_of v.coordinator ∷ []

unfoldable pub view_at : Reader View
view_at =
    field_as (λ x. record { count = x.0; coordinator = x.1 }) (below_at (2 ^ 62) ⊗ server_at)

abbrev pub CredFits : Cred → Type 0
CredFits c = (c.uid < 2 ^ 32) × (c.gid < 2 ^ 32)

unfoldable pub cred_bytes : Cred → List ℕ
cred_bytes c = u32_bytes c.uid ++ u32_bytes c.gid

unfoldable pub cred_at : Reader Cred
cred_at = field_as (λ x. record { uid = x.0; gid = x.1 }) (u32_at ⊗ u32_at)
