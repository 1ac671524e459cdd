-- AS WHOM A CREDENTIAL SPEAKS: the one of a Unix user (RFC 1057, section 9.2), in its words, and
-- how it is read.
use Rattle.std.specs.Prelude.{◌≡◌, ℕ, ◌==◌, ◌≤◌, ◌<◌, ◌^◌, List, [], ◌++◌, length, Option, Some, None, Ok, Err, nat_lt, option_map, if◌then◌else◌}
use Rattle.harp_types.specs.declared.cred.Cred.{Cred}
use Rattle.harp_base.specs.declared.field.Misread.TheVariants.{TooLong}
use Rattle.harp_base.specs.Fields.{AllFit, Read, Reader, ◌>>=◌, ◌⊗◌, field_as, many_at, u32_at, u32_bytes}
use Rattle.rpc_door.specs.Grammar.{IsOpaque, IsWord, Says, ◌then◌}
use Rattle.rpc_door.specs.Xdr.{opaque_at, words}
use Rattle.nfs_door.specs.declared.credential.Caller.{Caller}
use Rattle.nfs_door.specs.declared.credential.Credential.{Credential}

-- ---- the grammar

-- `authunix_parms`: an arbitrary word, the name of the caller's machine, its user and its group,
-- and other groups that it is in
pub record UnixAuth : Type 0 where
  pub stamp : ℕ
  pub machine : List ℕ
  pub uid : ℕ
  pub gid : ℕ
  pub groups : List ℕ

-- at most so many words behind their count
abbrev pub AreWords : ℕ → Says (List ℕ)
AreWords most ns text =
    (length ns ≤ most) × AllFit (λ n. n < 2 ^ 32) ns × (text ≡ u32_bytes (length ns) ++ words ns)

-- the name has at most 255 bytes, and there are at most 16 other groups
abbrev pub IsUnixAuth : Says UnixAuth
IsUnixAuth a text =
    (IsWord then IsOpaque 255 then IsWord then IsWord then AreWords 16)
    ((((a.stamp, a.machine), a.uid), a.gid), a.groups) text

-- ---- reading

abbrev pub words_at : ℕ → Reader (List ℕ)
words_at most bytes at = do
  n ← u32_at bytes at
  if nat_lt most n.0 then Err (TooLong at) else many_at u32_at n.0 bytes n.1

abbrev pub unix_auth_of : (((ℕ × List ℕ) × ℕ) × ℕ) × List ℕ → UnixAuth
unix_auth_of x =
    record { stamp = x.0.0.0.0; machine = x.0.0.0.1; uid = x.0.0.1; gid = x.0.1; groups = x.1 }

unfoldable pub unix_auth_at : Reader UnixAuth
unix_auth_at = field_as unix_auth_of (u32_at ⊗ opaque_at 255 ⊗ u32_at ⊗ u32_at ⊗ words_at 16)

-- what is read where nothing is left behind it in so many bytes
abbrev pub whole : {A : Type 0} → ℕ → Read A → Option A
whole size (Ok x) = if x.1 == size then Some x.0 else None
whole size (Err e) = None

-- the credential of a Unix user that these bytes are
abbrev pub unix_auth : List ℕ → Option UnixAuth
unix_auth bytes = whole (length bytes) (unix_auth_at bytes 0)

-- ---- as whom it speaks

-- a user and a group, in no other one
abbrev pub alone : Cred → Caller
alone who = record { cred = who; groups = [] }

-- as whom a call is made that doesn't say whose it is
abbrev pub nobody : Caller
nobody = alone (record { uid = 65534; gid = 65534 })

abbrev pub user_of : UnixAuth → Caller
user_of a = record { cred = record { uid = a.uid; gid = a.gid }; groups = a.groups }

-- AS WHOM A CREDENTIAL SPEAKS: with flavour 1 as the Unix user that it names, and as none where its
-- body isn't one; with any other flavour as nobody
abbrev pub speaks_as : Credential → Option Caller
speaks_as c = if c.flavour == 1 then option_map user_of (unix_auth c.body) else Some nobody
