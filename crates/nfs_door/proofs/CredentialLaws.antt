-- A credential is read as a Unix user's just where it is one.
use Rattle.std.proofs.Common.{◌≡◌, ℕ, ◌+◌, ◌<◌, ◌^◌, Bool, true, false, cond, eqb, List, [], ◌++◌, Option, Some, None, Ok, Err, append_assoc, ap, arith, drop, length, length-append, ltb, refl, subst, sym, ◌∙◌}
use Rattle.std.proofs.lemmas.Bool.{eq-eqb, eqb-true, le-ltb, ltb-false}
use Rattle.std.proofs.lemmas.List.{append-nil, drop_all}
use Rattle.harp_base.specs.declared.field.Misread.TheVariants.{TooLong}
use Rattle.harp_base.specs.Fields.{Read, Spells, ◌⊗◌, many_at, many_bytes, u32_at, u32_bytes}
use Rattle.harp_base.proofs.Codec.{IsBytes, Spells-then, bind_ok, drop_past, u32_codec}
use Rattle.harp_base.proofs.ListLaws.{many_again, many_takes}
use Rattle.rpc_door.specs.Grammar.{IsOpaque, IsWord, Says, ◌then◌}
use Rattle.rpc_door.specs.Xdr.{opaque_at, words}
use Rattle.rpc_door.proofs.Readers.{IsReader, and_then, guard_ok, made_again, made_takes, opaque_reader, word_reader}
use Rattle.nfs_door.specs.Credentials.{AreWords, IsUnixAuth, UnixAuth, unix_auth, unix_auth_at, unix_auth_of, whole, words_at}

-- ---- words behind their count

words_take : (most : ℕ) (bytes : List ℕ) (at : ℕ) (x : List ℕ × ℕ) → IsBytes bytes
    → words_at most bytes at ≡ Ok x
    → (text : List ℕ) × AreWords most x.0 text × Spells bytes at text x.1
unfolding many_bytes
words_take most bytes at x fits e =
    let p = bind_ok (u32_at bytes at)
    (λ n. cond (ltb most n.0) (Err (TooLong at)) (many_at u32_at n.0 bytes n.1)) x e in
    let g = guard_ok (ltb most p.0.0) (TooLong at) (many_at u32_at p.0.0 bytes p.0.1) x p.2 in
    let n = u32_codec.takes bytes at p.0 fits p.1 in
    let t = many_takes u32_codec p.0.0 bytes p.0.1 x fits g.1 in
    let both = Spells-then bytes at (u32_bytes p.0.0) p.0.1 (words x.0) x.1 n.0 t.0 in (
      u32_bytes (length x.0) ++ words x.0,
      (omega (arith, ltb-false most p.0.0 g.0, t.1.0), t.1.1, refl),
      subst (λ (k : ℕ). Spells bytes at (u32_bytes k ++ words x.0) x.1) (sym t.1.0) both,
    )

words_again : (most : ℕ) → most < 2 ^ 32 → (bytes : List ℕ) (at : ℕ) (ns text rest : List ℕ)
    → AreWords most ns text → drop at bytes ≡ text ++ rest
    → words_at most bytes at ≡ Ok (ns, at + length text)
unfolding many_bytes
words_again most small bytes at ns text rest p e =
    let n = length ns in
    let front : drop at bytes ≡ u32_bytes n ++ (words ns ++ rest) =
    e ∙ ap (λ (s : List ℕ). s ++ rest) p.2 ∙ append_assoc (u32_bytes n) (words ns) rest in
    let count : u32_at bytes at ≡ Ok (n, at + length (u32_bytes n)) =
    u32_codec.again bytes at n (words ns ++ rest) (omega (arith, p.0)) front in
    let all : many_at u32_at n bytes (at + length (u32_bytes n))
    ≡ Ok (ns, at + length (u32_bytes n) + length (words ns)) =
    many_again u32_codec ns bytes (at + length (u32_bytes n)) rest p.1
    (drop_past bytes at (u32_bytes n) (words ns ++ rest) front) in
    let few : ltb most n ≡ false = le-ltb most n p.0 in
    let len : at + length (u32_bytes n) + length (words ns) ≡ at + length text =
    omega (
      arith,
      ap (λ (s : List ℕ). length s) p.2,
      length-append (u32_bytes n) (words ns),
    ) in
    rw (count, few, all, len) refl

words_reader : (most : ℕ) → most < 2 ^ 32 → IsReader (words_at most) (AreWords most)
words_reader most small = record { takes = words_take most; again = words_again most small }

-- ---- the credential

abbrev Parts : Type 0
Parts = (((ℕ × List ℕ) × ℕ) × ℕ) × List ℕ

abbrev SaysParts : Says Parts
SaysParts = IsWord then IsOpaque 255 then IsWord then IsWord then AreWords 16

parts_reader : IsReader (u32_at ⊗ opaque_at 255 ⊗ u32_at ⊗ u32_at ⊗ words_at 16) SaysParts
parts_reader =
    let machine = opaque_reader 255 (omega arith) in
    and_then (and_then (and_then (and_then word_reader machine) word_reader) word_reader)
    (words_reader 16 (omega arith))

pub read_unix_auth : (bytes : List ℕ) (a : UnixAuth) → IsUnixAuth a bytes → unix_auth bytes ≡ Some a
unfolding unix_auth_at
read_unix_auth bytes a is =
    let parts : Parts = ((((a.stamp, a.machine), a.uid), a.gid), a.groups) in
    let all : unix_auth_at bytes 0 ≡ Ok (a, 0 + length bytes) =
    made_again unix_auth_of parts_reader bytes 0 parts bytes [] is (sym (append-nil bytes)) in
    let end : eqb (0 + length bytes) (length bytes) ≡ true = eq-eqb _ _ (omega arith) in
    rw (all, end) refl

some_of : {A : Type 0} → A → Option A
some_of x = Some x

whole_at : {A : Type 0} (b : Bool) (size end : ℕ) (x y : A) → eqb end size ≡ b
    → cond b (Some x) None ≡ Some y → (x ≡ y) × (end ≡ size)
whole_at true size end x y is e = (cc, eqb-true end size is)
whole_at false size end x y is e = absurd cc

whole_is : {A : Type 0} (size : ℕ) (r : Read A) (y : A) → whole size r ≡ Some y → r ≡ Ok (y, size)
whole_is size (Err d) y e = absurd cc
whole_is size (Ok x) y e =
    let is = whole_at (eqb x.1 size) size x.1 x.0 y refl e in
    rw (← is.0, ← is.1) refl

pub sent_unix_auth : (bytes : List ℕ) (a : UnixAuth) → IsBytes bytes → unix_auth bytes ≡ Some a
    → IsUnixAuth a bytes
unfolding unix_auth_at
sent_unix_auth bytes a fits e =
    let all = whole_is (length bytes) (unix_auth_at bytes 0) a e in
    let t = made_takes unix_auth_of parts_reader bytes 0 (a, length bytes) fits all in
    let text = t.2 in
    let none : drop (length bytes) bytes ≡ [] = drop_all (length bytes) bytes (omega arith) in
    let is : bytes ≡ text =
    t.4.parts ∙ ap (λ (s : List ℕ). text ++ s) none ∙ append-nil text in
    let said : IsUnixAuth (unix_auth_of t.0) text = t.3 in
    subst (λ (s : List ℕ). IsUnixAuth a s) (sym is)
    (subst (λ (b : UnixAuth). IsUnixAuth b text) t.1 said)
