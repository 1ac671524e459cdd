-- A CALL as a client sends it, part by part: the external data representation (RFC 1014), the call
-- of a remote procedure (RFC 1057, section 8) and the arguments of NFS version 2 (RFC 1094, 2.2).
use Rattle.std.specs.Prelude.{◌≡◌, ◌≢◌, ◌⊎◌, ℕ, ◌≤◌, ◌<◌, ◌^◌, List, [], ◌∷◌, ◌++◌, length, drop}
use Rattle.harp_types.specs.declared.attr.SetAttr.{SetAttr}
use Rattle.harp_types.specs.declared.call.Call.{Call}
use Rattle.harp_types.specs.declared.call.Call.TheVariants as call
use Rattle.harp_base.specs.Attributes.{SetAttrFits, set_attr_bytes}
use Rattle.harp_types.specs.Procedures.{procedure_number, procedure_of}
use Rattle.harp_base.specs.Fields.{u32_bytes}
use Rattle.harp_types.specs.Limits.{longest_argument, longest_transfer}
use Rattle.rpc_door.specs.Xdr.{handle_bytes, padding, words, zeros}

-- ---- parts

-- a text says a value
abbrev pub Says : Type 0 → Type 1
Says A = A → List ℕ → Type 0

-- one text and then another one
infixl 20 ◌then◌
abbrev pub ◌then◌ : {A B : Type 0} → Says A → Says B → Says (A × B)
(P then Q) x text = (a b : List ℕ) × (text ≡ a ++ b) × P x.0 a × Q x.1 b

abbrev pub IsWord : Says ℕ
IsWord n text = (text ≡ u32_bytes n) × (n < 2 ^ 32)

-- at most so many bytes behind their length, and any bytes that fill them up to a multiple of 4
abbrev pub IsOpaque : ℕ → Says (List ℕ)
IsOpaque most bytes text =
    (fill : List ℕ) × (length bytes ≤ most) × (length fill ≡ padding (length bytes))
    × (text ≡ u32_bytes (length bytes) ++ bytes ++ fill)

abbrev pub IsName : Says (List ℕ)
IsName = IsOpaque longest_argument

-- a handle of an object; one that doesn't end with 28 zeros names 0, which is none
abbrev pub IsHandle : Says ℕ
IsHandle n text = ((text ≡ handle_bytes n) × (n < 2 ^ 32))
    ⊎ ((n ≡ 0) × (length text ≡ 32) × (drop 4 text ≢ zeros 28))

abbrev pub IsSetAttr : Says SetAttr
IsSetAttr a text = (text ≡ set_attr_bytes a) × SetAttrFits a

-- ---- arguments

-- the words that RFC 1094 leaves unused may say anything
abbrev pub AreArguments : Call → List ℕ → Type 0
AreArguments call.Null text = text ≡ []
AreArguments (call.GetAttr h) text = IsHandle h text
AreArguments (call.SetAttr h a) text = (IsHandle then IsSetAttr) (h, a) text
AreArguments (call.Lookup d n) text = (IsHandle then IsName) (d, n) text
AreArguments (call.ReadLink h) text = IsHandle h text
AreArguments (call.Read h offset count) text =
    (total : ℕ) × (IsHandle then IsWord then IsWord then IsWord) (((h, offset), count), total) text
AreArguments (call.Write h offset bytes) text =
    (begin total : ℕ)
    × (IsHandle then IsWord then IsWord then IsWord then IsOpaque longest_transfer)
    ((((h, begin), offset), total), bytes) text
AreArguments (call.Create d n a) text = (IsHandle then IsName then IsSetAttr) ((d, n), a) text
AreArguments (call.Remove d n) text = (IsHandle then IsName) (d, n) text
AreArguments (call.Rename d n to_d to_n) text =
    (IsHandle then IsName then IsHandle then IsName) (((d, n), to_d), to_n) text
AreArguments (call.Link h d n) text = (IsHandle then IsHandle then IsName) ((h, d), n) text
AreArguments (call.SymLink d n t a) text =
    (IsHandle then IsName then IsName then IsSetAttr) (((d, n), t), a) text
AreArguments (call.MkDir d n a) text = (IsHandle then IsName then IsSetAttr) ((d, n), a) text
AreArguments (call.RmDir d n) text = (IsHandle then IsName) (d, n) text
AreArguments (call.ReadDir d cookie count) text =
    (IsHandle then IsWord then IsWord) ((d, cookie), count) text
AreArguments (call.StatFs h) text = IsHandle h text

-- ---- a call

-- a flavour, and at most 400 bytes
abbrev pub IsAuth : Says (ℕ × List ℕ)
IsAuth = IsWord then IsOpaque 400

-- A RECORD IS A CALL of a procedure of NFS version 2: its xid, the words of RPC version 2, any
-- credential and verifier, the arguments, and any bytes behind them
pub record IsCall (bytes : List ℕ) (xid : ℕ) (c : Call) : Type 0 where
  pub credential : ℕ × List ℕ
  pub verifier : ℕ × List ℕ
  pub auth : List ℕ
  pub arguments : List ℕ
  pub rest : List ℕ
  pub xid_fits : xid < 2 ^ 32
  pub auth_is : (IsAuth then IsAuth) (credential, verifier) auth
  pub arguments_are : AreArguments c arguments
  pub bytes_are : bytes ≡ words (xid ∷ 0 ∷ 2 ∷ [])
      ++ (words (100003 ∷ 2 ∷ procedure_number (procedure_of c) ∷ [])
      ++ (auth ++ (arguments ++ rest)))
