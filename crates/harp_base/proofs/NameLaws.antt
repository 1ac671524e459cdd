-- Servers, views and credentials undo their bytes.
use Rattle.std.proofs.Common.{◌≡◌, ◌^◌, [], ◌∷◌, Some, refl, arith}
use Rattle.harp_types.specs.declared.server.ServerId.{ServerId}
use Rattle.harp_types.specs.declared.server.ServerId.TheVariants.{Zero, One, Two}
use Rattle.harp_types.specs.Server.{number_of}
use Rattle.harp_types.specs.Numbered.{value_with_number}
use Rattle.harp_base.specs.Names.{servers, server_at, ViewFits, view_bytes, view_at, CredFits, cred_bytes, cred_at}
use Rattle.harp_base.proofs.Codec.{IsCodec, u32_codec, below_codec, tag_codec, field_as_codec}
use Rattle.harp_base.proofs.AttributeLaws.{then}

whole_server : (s : ServerId) → value_with_number number_of servers (number_of s) ≡ Some s
whole_server Zero = refl
whole_server One = refl
whole_server Two = refl

pub server_codec : IsCodec server_at (λ s. number_of s ∷ []) (λ _. Unit {0})
server_codec = tag_codec number_of servers whole_server

pub view_codec : IsCodec view_at view_bytes ViewFits
unfolding view_at view_bytes
view_codec =
    field_as_codec (λ x. record { count = x.0; coordinator = x.1 }) _ _ _
    (then (below_codec (2 ^ 62) (omega arith)) server_codec)
    (λ v. (v.count, v.coordinator)) view_bytes ViewFits (λ v. refl) (λ x fits. (refl, fits.0))
    (λ v fits. (refl, (fits, tt)))

pub cred_codec : IsCodec cred_at cred_bytes CredFits
unfolding cred_at cred_bytes
cred_codec =
    field_as_codec (λ x. record { uid = x.0; gid = x.1 }) _ _ _ (then u32_codec u32_codec)
    (λ c. (c.uid, c.gid)) cred_bytes CredFits (λ c. refl) (λ x fits. (refl, fits))
    (λ c fits. (refl, fits))
