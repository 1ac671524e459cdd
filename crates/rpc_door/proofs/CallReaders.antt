-- A record is read as a call just where it is one.
use Rattle.std.proofs.Common.{◌≡◌, ℕ, ◌+◌, ◌<◌, ◌^◌, Bool, true, false, not, cond, eqb, List, [], ◌∷◌, ◌++◌, Option, Some, None, Ok, Err, append_assoc, ap, arith, drop, length, refl, subst, sym, ◌∙◌}
use Rattle.std.specs.Prelude.{find}
use Rattle.std.proofs.lemmas.Bool.{eqb-true}
use Rattle.std.proofs.lemmas.List.{append-nil}
use Rattle.harp_types.specs.declared.call.Call.{Call}
use Rattle.harp_types.specs.declared.procedure.Procedure.{Procedure}
use Rattle.harp_types.specs.declared.procedure.Procedure.TheVariants as procedure
use Rattle.harp_types.specs.Procedures.{procedure_number, procedure_of, procedures}
use Rattle.harp_base.specs.Fields.{Read, ◌⊗◌, u32_at, u32_bytes}
use Rattle.harp_base.proofs.Codec.{IsBytes, drop_past}
use Rattle.rpc_door.specs.declared.header.Header.{Header}
use Rattle.rpc_door.specs.declared.header.Opening.{Opening}
use Rattle.rpc_door.specs.declared.meaning.RpcIn.{RpcIn}
use Rattle.rpc_door.specs.declared.meaning.RpcIn.TheVariants.{Silent, Fixed, Ask}
use Rattle.rpc_door.specs.Grammar.{IsAuth, IsCall, IsWord, Says, ◌then◌}
use Rattle.rpc_door.specs.Arguments.{arguments_at}
use Rattle.rpc_door.specs.Meaning.{auth_at, call_of, call_or_fixed, called, called_or_silent, header_at, meaning_of, opened, opened_or_silent, opening_at, procedure_with}
use Rattle.rpc_door.specs.Xdr.{words}
use Rattle.rpc_door.proofs.Handles.{arguments_again, arguments_take, auth_reader}
use Rattle.rpc_door.proofs.Readers.{IsReader, and_then, made_again, made_takes, word_reader}

-- ---- three words in a row

abbrev Three : Says ((ℕ × ℕ) × ℕ)
Three = IsWord then IsWord then IsWord

three_words : (a b c : ℕ) → a < 2 ^ 32 → b < 2 ^ 32 → c < 2 ^ 32
    → Three ((a, b), c) (words (a ∷ b ∷ c ∷ []))
three_words a b c fa fb fc = (
  u32_bytes a ++ u32_bytes b,
  u32_bytes c,
  ap (λ (s : List ℕ). u32_bytes a ++ (u32_bytes b ++ s)) (append-nil (u32_bytes c))
      ∙ sym (append_assoc (u32_bytes a) (u32_bytes b) (u32_bytes c)),
  (u32_bytes a, u32_bytes b, refl, (refl, fa), (refl, fb)),
  (refl, fc),
)

words_of_three : (x : (ℕ × ℕ) × ℕ) (text : List ℕ) → Three x text
    → (text ≡ words (x.0.0 ∷ x.0.1 ∷ x.1 ∷ [])) × (x.0.0 < 2 ^ 32)
words_of_three x text p =
    let front = p.3 in (
      p.2
          ∙ ap (λ (s : List ℕ). s ++ p.1) (front.2 ∙ ap (λ (s : List ℕ). s ++ front.1) front.3.0
          ∙ ap (λ (s : List ℕ). u32_bytes x.0.0 ++ s) front.4.0)
          ∙ ap (λ (s : List ℕ). (u32_bytes x.0.0 ++ u32_bytes x.0.1) ++ s) p.4.0
          ∙ append_assoc (u32_bytes x.0.0) (u32_bytes x.0.1) (u32_bytes x.1)
          ∙ ap (λ (s : List ℕ). u32_bytes x.0.0 ++ (u32_bytes x.0.1 ++ s))
          (sym (append-nil (u32_bytes x.1))),
      front.3.1,
    )

three_reader : IsReader (u32_at ⊗ u32_at ⊗ u32_at) Three
three_reader = and_then (and_then word_reader word_reader) word_reader

head_reader : IsReader (u32_at ⊗ u32_at ⊗ u32_at ⊗ auth_at ⊗ auth_at) (Three then IsAuth then IsAuth)
head_reader = and_then (and_then three_reader auth_reader) auth_reader

-- ---- procedures

whole_procedure : (p : Procedure) → procedure_with (procedure_number p) ≡ Some p
whole_procedure procedure.Null = refl
whole_procedure procedure.GetAttr = refl
whole_procedure procedure.SetAttr = refl
whole_procedure procedure.Lookup = refl
whole_procedure procedure.ReadLink = refl
whole_procedure procedure.Read = refl
whole_procedure procedure.Write = refl
whole_procedure procedure.Create = refl
whole_procedure procedure.Remove = refl
whole_procedure procedure.Rename = refl
whole_procedure procedure.Link = refl
whole_procedure procedure.SymLink = refl
whole_procedure procedure.MkDir = refl
whole_procedure procedure.RmDir = refl
whole_procedure procedure.ReadDir = refl
whole_procedure procedure.StatFs = refl

abbrev option_of : {A : Type 0} → A → Option A
option_of x = Some x

some_is : {A : Type 0} (x y : A) → option_of x ≡ option_of y → x ≡ y
some_is x y e = cc

find_step : {A : Type 0} (p : A → Bool) (b : Bool) (y x : A) (rest : Option A) → p y ≡ b
    → (rest ≡ Some x → p x ≡ true) → cond b (Some y) rest ≡ Some x → p x ≡ true
find_step p true y x rest is later e = let same : y ≡ x = some_is y x e in
    subst (λ z. p z ≡ true) same is
find_step p false y x rest is later e = later e

find_passes : {A : Type 0} (p : A → Bool) (xs : List A) (x : A) → find p xs ≡ Some x → p x ≡ true
find_passes p [] x e = absurd cc
find_passes p (y ∷ ys) x e = find_step p (p y) y x (find p ys) refl (find_passes p ys x) e

number_is : (n : ℕ) (p : Procedure) → procedure_with n ≡ Some p → procedure_number p ≡ n
number_is n p e = eqb-true (procedure_number p) n
    (find_passes (λ (x : Procedure). eqb (procedure_number x) n) procedures p e)

-- ---- what is a call is read as one

module _ (bytes : List ℕ) (xid : ℕ) (c : Call) (i : IsCall bytes xid c) where
  behind_head : List ℕ
  behind_head = i.arguments ++ i.rest

  number_small : (p : Procedure) → procedure_number p < 2 ^ 32
  number_small procedure.Null = omega arith
  number_small procedure.GetAttr = omega arith
  number_small procedure.SetAttr = omega arith
  number_small procedure.Lookup = omega arith
  number_small procedure.ReadLink = omega arith
  number_small procedure.Read = omega arith
  number_small procedure.Write = omega arith
  number_small procedure.Create = omega arith
  number_small procedure.Remove = omega arith
  number_small procedure.Rename = omega arith
  number_small procedure.Link = omega arith
  number_small procedure.SymLink = omega arith
  number_small procedure.MkDir = omega arith
  number_small procedure.RmDir = omega arith
  number_small procedure.ReadDir = omega arith
  number_small procedure.StatFs = omega arith

  pub read_call : meaning_of bytes ≡ Ask xid c
  unfolding meaning_of opened opening_at called header_at
  read_call =
      let a = words (xid ∷ 0 ∷ 2 ∷ []) in
      let n = procedure_number (procedure_of c) in
      let b = words (100003 ∷ 2 ∷ n ∷ []) in
      let auths = i.auth_is in
      let head = b ++ i.auth in
      let behind_auth = i.arguments ++ i.rest in
      let first : opening_at bytes 0 ≡ Ok (record { xid = xid; kind = 0; version = 2 }, 0 + length a) =
      made_again _ three_reader bytes 0 ((xid, 0), 2) a (b ++ (i.auth ++ behind_auth))
      (three_words xid 0 2 i.xid_fits (omega arith) (omega arith)) i.bytes_are in
      let past : drop (0 + length a) bytes ≡ b ++ (i.auth ++ behind_auth) =
      drop_past bytes 0 a (b ++ (i.auth ++ behind_auth)) i.bytes_are in
      let said : (Three then IsAuth then IsAuth)
      ((((100003, 2), n), i.credential), i.verifier) head = (
        b ++ auths.0,
        auths.1,
        ap (λ (s : List ℕ). b ++ s) auths.2 ∙ sym (append_assoc b auths.0 auths.1),
        (
          b,
          auths.0,
          refl,
          three_words 100003 2 n (omega arith) (omega arith) (number_small (procedure_of c)),
          auths.3,
        ),
        auths.4,
      ) in
      let past_head : drop (0 + length a) bytes ≡ head ++ behind_auth =
      past ∙ sym (append_assoc b i.auth behind_auth) in
      let second : header_at bytes (0 + length a)
      ≡ Ok (record { program = 100003; version = 2; procedure = n }, 0 + length a + length head) =
      made_again _ head_reader bytes (0 + length a) ((((100003, 2), n), i.credential), i.verifier)
      head behind_auth said past_head in
      let third : arguments_at (procedure_of c) bytes (0 + length a + length head)
      ≡ Ok (c, 0 + length a + length head + length i.arguments) =
      arguments_again c bytes (0 + length a + length head) i.arguments i.rest i.arguments_are
      (drop_past bytes (0 + length a) head behind_auth past_head) in
      rw (first, second, whole_procedure (procedure_of c), third) refl

-- ---- what is read as a call is one

asks_silent : (b : Bool) (x : RpcIn) (xid : ℕ) (c : Call) → cond (not b) Silent x ≡ Ask xid c
    → (b ≡ true) × (x ≡ Ask xid c)
asks_silent true x xid c e = (refl, e)
asks_silent false x xid c e = absurd cc

asks_fixed : (b : Bool) (text : List ℕ) (x : RpcIn) (xid : ℕ) (c : Call)
    → cond (not b) (Fixed text) x ≡ Ask xid c → (b ≡ true) × (x ≡ Ask xid c)
asks_fixed true text x xid c e = (refl, e)
asks_fixed false text x xid c e = absurd cc

-- an opening that a call begins with
asks_opening : (bytes : List ℕ) (r : Read Opening) (xid : ℕ) (c : Call)
    → opened_or_silent bytes r ≡ Ask xid c
    → (o : Opening) × (at : ℕ) × (r ≡ Ok (o, at)) × (o.kind ≡ 0) × (o.version ≡ 2)
    × (called_or_silent o.xid bytes (header_at bytes at) ≡ Ask xid c)
unfolding opened
asks_opening bytes (Err d) xid c e = absurd cc
asks_opening bytes (Ok x) xid c e =
    let o = x.0 in
    let k = asks_silent (eqb o.kind 0) _ xid c e in
    let v = asks_fixed (eqb o.version 2) _ _ xid c k.1 in
    (o, x.1, refl, eqb-true o.kind 0 k.0, eqb-true o.version 2 v.0, v.1)

asks_header : (bytes : List ℕ) (own : ℕ) (r : Read Header) (xid : ℕ) (c : Call)
    → called_or_silent own bytes r ≡ Ask xid c
    → (h : Header) × (at : ℕ) × (r ≡ Ok (h, at)) × (h.program ≡ 100003) × (h.version ≡ 2)
    × (call_of own (procedure_with h.procedure) bytes at ≡ Ask xid c)
unfolding called
asks_header bytes own (Err d) xid c e = absurd cc
asks_header bytes own (Ok x) xid c e =
    let h = x.0 in
    let k = asks_fixed (eqb h.program 100003) _ _ xid c e in
    let v = asks_fixed (eqb h.version 2) _ _ xid c k.1 in
    (h, x.1, refl, eqb-true h.program 100003 k.0, eqb-true h.version 2 v.0, v.1)

asks_procedure : (bytes : List ℕ) (own : ℕ) (o : Option Procedure) (at : ℕ) (xid : ℕ) (c : Call)
    → call_of own o bytes at ≡ Ask xid c
    → (p : Procedure) × (o ≡ Some p) × (call_or_fixed own (arguments_at p bytes at) ≡ Ask xid c)
asks_procedure bytes own None at xid c e = absurd cc
asks_procedure bytes own (Some p) at xid c e = (p, refl, e)

abbrev asked : ℕ → Call → RpcIn
asked xid c = Ask xid c

asked_is : (own xid : ℕ) (d c : Call) → asked own d ≡ asked xid c → (own ≡ xid) × (d ≡ c)
asked_is own xid d c e = (cc, cc)

asks_call : (own : ℕ) (r : Read Call) (xid : ℕ) (c : Call) → call_or_fixed own r ≡ Ask xid c
    → (own ≡ xid) × (at : ℕ) × (r ≡ Ok (c, at))
asks_call own (Err d) xid c e = absurd cc
asks_call own (Ok x) xid c e =
    let is = asked_is own xid x.0 c e in
    (is.0, x.1, ap (λ (d : Call). Ok (d, x.1)) is.1)

abbrev words3 : ℕ → ℕ → ℕ → List ℕ
words3 a b c = words (a ∷ b ∷ c ∷ [])

module _ (bytes : List ℕ) (xid : ℕ) (c : Call) (fits : IsBytes bytes) where
  pub call_sent : meaning_of bytes ≡ Ask xid c → IsCall bytes xid c
  unfolding meaning_of opening_at header_at
  call_sent e =
      let o = asks_opening bytes (opening_at bytes 0) xid c e in
      let at = o.1 in
      let t = made_takes _ three_reader bytes 0 (o.0, at) fits o.2 in
      let h = asks_header bytes o.0.xid (header_at bytes at) xid c o.5 in
      let t2 = made_takes _ head_reader bytes at (h.0, h.1) fits h.2 in
      let p = asks_procedure bytes o.0.xid (procedure_with h.0.procedure) h.1 xid c h.5 in
      let q = asks_call o.0.xid (arguments_at p.0 bytes h.1) xid c p.2 in
      let t3 = arguments_take p.0 bytes h.1 (c, q.1) fits q.2 in
      let a = t.0 in
      let first = words_of_three a t.2 t.3 in
      let xid_is : a.0.0 ≡ xid = ap (λ (x : Opening). x.xid) t.1 ∙ q.0 in
      let kind_is : a.0.1 ≡ 0 = ap (λ (x : Opening). x.kind) t.1 ∙ o.3 in
      let version_is : a.1 ≡ 2 = ap (λ (x : Opening). x.version) t.1 ∙ o.4 in
      let b = t2.0 in
      let said = t2.3 in
      let second = words_of_three b.0.0 said.3.0 said.3.3 in
      let program_is : b.0.0.0.0 ≡ 100003 = ap (λ (x : Header). x.program) t2.1 ∙ h.3 in
      let of_is : b.0.0.0.1 ≡ 2 = ap (λ (x : Header). x.version) t2.1 ∙ h.4 in
      let number : b.0.0.1 ≡ procedure_number (procedure_of c) =
      ap (λ (x : Header). x.procedure) t2.1 ∙ sym (number_is h.0.procedure p.0 p.1)
      ∙ ap procedure_number (sym t3.3) in
      let auth = said.3.1 ++ said.1 in
      let rest = drop q.1 bytes in
      let behind_auth = t3.0 ++ rest in
      let front : t.2 ≡ words3 xid 0 2 =
      first.0 ∙ ap (λ (n : ℕ). words3 n a.0.1 a.1) xid_is
      ∙ ap (λ (n : ℕ). words3 xid n a.1) kind_is
      ∙ ap (λ (n : ℕ). words3 xid 0 n) version_is in
      let who : said.3.0 ≡ words3 100003 2 (procedure_number (procedure_of c)) =
      second.0 ∙ ap (λ (n : ℕ). words3 n b.0.0.0.1 b.0.0.1) program_is
      ∙ ap (λ (n : ℕ). words3 100003 n b.0.0.1) of_is
      ∙ ap (λ (n : ℕ). words3 100003 2 n) number in
      let head : t2.2 ≡ said.3.0 ++ auth =
      said.2 ∙ ap (λ (s : List ℕ). s ++ said.1) said.3.2
      ∙ append_assoc said.3.0 said.3.1 said.1 in
      record {
        credential = b.0.1;
        verifier = b.1;
        auth = auth;
        arguments = t3.0;
        rest = rest;
        xid_fits = subst (λ (n : ℕ). n < 2 ^ 32) xid_is first.1;
        auth_is = (said.3.1, said.1, refl, said.3.4, said.4);
        arguments_are = t3.1;
        bytes_are =
            t.4.parts
            ∙ ap (λ (s : List ℕ). t.2 ++ s) (t2.4.parts
            ∙ ap (λ (s : List ℕ). t2.2 ++ s) t3.2.parts
            ∙ ap (λ (s : List ℕ). s ++ behind_auth) head
            ∙ append_assoc said.3.0 auth behind_auth
            ∙ ap (λ (s : List ℕ). s ++ (auth ++ behind_auth)) who)
            ∙ ap (λ (s : List ℕ). s ++ (words3 100003 2 (procedure_number (procedure_of c))
            ++ (auth ++ behind_auth))) front;
      }
