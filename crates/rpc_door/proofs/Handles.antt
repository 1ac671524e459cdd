-- Handles, credentials and arguments, and what their texts say.
use Rattle.std.proofs.Common.{◌≡◌, ℕ, ◌+◌, Bool, true, false, cond, List, [], ◌++◌, ap, arith, drop, inl, inr, length, length-append, ltb, refl, Ok, subst, sym, take, ◌∙◌}
use Rattle.std.specs.Prelude.{◌≢◌, bytes_eq}
use Rattle.std.specs.Int.{w32, from_be_bytes, to_be_bytes}
use Rattle.std.proofs.lemmas.Bool.{le-ltb, ltb-false}
use Rattle.std.proofs.lemmas.List.{drop-drop, get_or-drop, length-take, take_at, take-append-drop}
use Rattle.std.proofs.lemmas.Nat.{be_bytes_4, from_be_bytes-to_be_bytes_4}
use Rattle.std.proofs.lemmas.Slice.Eq.{bytes_eq-Decides}
use Rattle.harp_types.specs.declared.call.Call.{Call}
use Rattle.harp_types.specs.declared.call.Call.TheVariants as call
use Rattle.harp_base.specs.declared.field.Misread.TheVariants.{Ends}
use Rattle.harp_types.specs.declared.procedure.Procedure.{Procedure}
use Rattle.harp_types.specs.declared.procedure.Procedure.TheVariants as procedure
use Rattle.harp_types.specs.Procedures.{procedure_of}
use Rattle.harp_base.specs.Attributes.{set_attr_at}
use Rattle.harp_base.specs.Fields.{Read, Reader, Spells, ◌⊗◌, field_as, u32_at, u32_bytes}
use Rattle.harp_base.proofs.Codec.{IsBytes, IsBytes-take, ok_is}
use Rattle.rpc_door.specs.Arguments.{arguments_at, name_at}
use Rattle.rpc_door.specs.Grammar.{AreArguments, IsAuth, IsHandle, IsName, IsSetAttr, IsWord, Says, ◌then◌}
use Rattle.rpc_door.specs.Meaning.{auth_at}
use Rattle.rpc_door.specs.Xdr.{handle_at, handle_bytes, object_of, zeros}
use Rattle.rpc_door.proofs.Readers.{IsReader, and_then, guard_ok, made_again, made_takes, opaque_reader, set_attr_reader, word_reader}

-- ---- handles

module _ (text : List ℕ) (fits : IsBytes text) (long : length text ≡ 32) where
  handle_with : (same : Bool) → bytes_eq (drop 4 text) (zeros 28) ≡ same
      → IsHandle (cond same (from_be_bytes w32 (take 4 text)) 0) text
  unfolding handle_bytes u32_bytes
  handle_with true is =
      let front : IsBytes (take 4 text) = IsBytes-take 4 text fits in
      let back : to_be_bytes w32 (from_be_bytes w32 (take 4 text)) ≡ take 4 text =
      be_bytes_4 (take 4 text) _ (omega (arith, length-take 4 text)) front refl in
      let zero : drop 4 text ≡ zeros 28 = (bytes_eq-Decides (drop 4 text) (zeros 28)).0 is in
      inl (
        sym (take-append-drop 4 text)
            ∙ ap (λ (s : List ℕ). take 4 text ++ s) zero
            ∙ ap (λ (s : List ℕ). s ++ zeros 28) (sym back),
        omega (arith, front 0, front 1, front 2, front 3),
      )
  handle_with false is =
      inr (refl, long, λ zero. let same = (bytes_eq-Decides (drop 4 text) (zeros 28)).1 zero in cc)

handle_takes : (bytes : List ℕ) (at : ℕ) (x : ℕ × ℕ) → IsBytes bytes → handle_at bytes at ≡ Ok x
    → (text : List ℕ) × IsHandle x.0 text × Spells bytes at text x.1
unfolding handle_at
handle_takes bytes at x fits e =
    let rest = drop at bytes in
    let text = take 32 rest in
    let g = guard_ok (ltb (length rest) 32) (Ends at (at + 32)) (Ok (object_of text, at + 32)) x e in
    let long : length text ≡ 32 = omega (arith, ltb-false _ _ g.0, length-take 32 rest) in
    let is = ok_is (object_of text, at + 32) x g.1 in
    let text_fits : IsBytes text = IsBytes-take 32 rest (λ i. rw get_or-drop (fits (at + i))) in
    let spells : Spells bytes at text (at + 32) = record {
      parts = sym (take-append-drop 32 rest)
          ∙ ap (λ (s : List ℕ). text ++ s) (drop-drop 32 at bytes);
      length_is = omega (arith, long);
    } in
    subst (λ (y : ℕ × ℕ). (text : List ℕ) × IsHandle y.0 text × Spells bytes at text y.1) is
    (text, handle_with text text_fits long (bytes_eq (drop 4 text) (zeros 28)) refl, spells)

handle_front : (bytes : List ℕ) (at n : ℕ) (text rest : List ℕ) → length text ≡ 32
    → object_of text ≡ n → drop at bytes ≡ text ++ rest
    → handle_at bytes at ≡ Ok (n, at + length text)
unfolding handle_at
handle_front bytes at n text rest long is e =
    let enough = le-ltb (length (text ++ rest)) 32 (omega (arith, length-append text rest, long)) in
    rw (e, enough, take_at text rest 32 long, is, long) refl

other_object : (text : List ℕ) (same : Bool) → bytes_eq (drop 4 text) (zeros 28) ≡ same
    → (drop 4 text ≢ zeros 28) → object_of text ≡ 0
other_object text true is other = absurd (other ((bytes_eq-Decides (drop 4 text) (zeros 28)).0 is))
other_object text false is other = rw is refl

handle_again : (bytes : List ℕ) (at n : ℕ) (text rest : List ℕ) → IsHandle n text
    → drop at bytes ≡ text ++ rest → handle_at bytes at ≡ Ok (n, at + length text)
unfolding handle_bytes u32_bytes
handle_again bytes at n text rest (inl p) e =
    let long : length text ≡ 32 = ap length p.0 in
    let behind : drop 4 text ≡ zeros 28 = ap (drop 4) p.0 in
    let before : take 4 text ≡ to_be_bytes w32 n = ap (take 4) p.0 in
    let same = (bytes_eq-Decides (drop 4 text) (zeros 28)).1 behind in
    let is : object_of text ≡ n =
    rw (same, before) (from_be_bytes-to_be_bytes_4 n p.1) in
    handle_front bytes at n text rest long is e
handle_again bytes at n text rest (inr p) e =
    let is : object_of text ≡ n =
    other_object text (bytes_eq (drop 4 text) (zeros 28)) refl p.2 ∙ sym p.0 in
    handle_front bytes at n text rest p.1 is e

pub handle_reader : IsReader handle_at IsHandle
handle_reader = record { takes = handle_takes; again = handle_again }

-- ---- credentials and names

pub auth_reader : IsReader auth_at IsAuth
unfolding auth_at
auth_reader = and_then word_reader (opaque_reader 400 (omega arith))

name_reader : IsReader name_at IsName
name_reader = opaque_reader 4096 (omega arith)

-- ---- arguments

module _ {A : Type 0} {r : Reader A} {P : Says A} (ra : IsReader r P) where
  taken : (f : A → Call) (p : Procedure)
      → ((a : A) (text : List ℕ) → P a text → AreArguments (f a) text × (procedure_of (f a) ≡ p))
      → (bytes : List ℕ) (at : ℕ) (x : Call × ℕ) → IsBytes bytes → field_as f r bytes at ≡ Ok x
      → (text : List ℕ) × AreArguments x.0 text × Spells bytes at text x.1 × (procedure_of x.0 ≡ p)
  taken f p each bytes at x fits e =
      let t = made_takes f ra bytes at x fits e in
      let a = each t.0 t.2 t.3 in (
        t.2,
        subst (λ (c : Call). AreArguments c t.2) t.1 a.0,
        t.4,
        subst (λ (c : Call). procedure_of c ≡ p) t.1 a.1,
      )

numbers : IsReader (handle_at ⊗ u32_at ⊗ u32_at) (IsHandle then IsWord then IsWord)
numbers = and_then (and_then handle_reader word_reader) word_reader

named : IsReader (handle_at ⊗ name_at) (IsHandle then IsName)
named = and_then handle_reader name_reader

made : IsReader (handle_at ⊗ name_at ⊗ set_attr_at) (IsHandle then IsName then IsSetAttr)
made = and_then named set_attr_reader

pub arguments_take : (p : Procedure) (bytes : List ℕ) (at : ℕ) (x : Call × ℕ) → IsBytes bytes
    → arguments_at p bytes at ≡ Ok x
    → (text : List ℕ) × AreArguments x.0 text × Spells bytes at text x.1 × (procedure_of x.0 ≡ p)
unfolding arguments_at
arguments_take procedure.Null bytes at x fits e =
    subst (λ (y : Call × ℕ). (text : List ℕ) × AreArguments y.0 text × Spells bytes at text y.1
    × (procedure_of y.0 ≡ procedure.Null)) (ok_is (call.Null, at) x e)
    ([], refl, record { parts = refl; length_is = omega arith }, refl)
arguments_take procedure.GetAttr bytes at x fits e =
    taken handle_reader call.GetAttr procedure.GetAttr (λ a s q. (q, refl)) bytes at x fits e
arguments_take procedure.SetAttr bytes at x fits e =
    taken (and_then handle_reader set_attr_reader) (λ x. call.SetAttr x.0 x.1) procedure.SetAttr
    (λ a s q. (q, refl)) bytes at x fits e
arguments_take procedure.Lookup bytes at x fits e =
    taken named (λ x. call.Lookup x.0 x.1) procedure.Lookup (λ a s q. (q, refl)) bytes at x fits e
arguments_take procedure.ReadLink bytes at x fits e =
    taken handle_reader call.ReadLink procedure.ReadLink (λ a s q. (q, refl)) bytes at x fits e
arguments_take procedure.Read bytes at x fits e =
    taken (and_then numbers word_reader) (λ x. call.Read x.0.0.0 x.0.0.1 x.0.1) procedure.Read
    (λ a s q. ((a.1, q), refl)) bytes at x fits e
arguments_take procedure.Write bytes at x fits e =
    taken (and_then (and_then numbers word_reader) (opaque_reader 8192 (omega arith)))
    (λ x. call.Write x.0.0.0.0 x.0.0.1 x.1) procedure.Write
    (λ a s q. ((a.0.0.0.1, a.0.1, q), refl)) bytes at x fits e
arguments_take procedure.Create bytes at x fits e =
    taken made (λ x. call.Create x.0.0 x.0.1 x.1) procedure.Create
    (λ a s q. (q, refl)) bytes at x fits e
arguments_take procedure.Remove bytes at x fits e =
    taken named (λ x. call.Remove x.0 x.1) procedure.Remove (λ a s q. (q, refl)) bytes at x fits e
arguments_take procedure.Rename bytes at x fits e =
    taken (and_then (and_then named handle_reader) name_reader)
    (λ x. call.Rename x.0.0.0 x.0.0.1 x.0.1 x.1) procedure.Rename
    (λ a s q. (q, refl)) bytes at x fits e
arguments_take procedure.Link bytes at x fits e =
    taken (and_then (and_then handle_reader handle_reader) name_reader)
    (λ x. call.Link x.0.0 x.0.1 x.1) procedure.Link (λ a s q. (q, refl)) bytes at x fits e
arguments_take procedure.SymLink bytes at x fits e =
    taken (and_then (and_then named name_reader) set_attr_reader)
    (λ x. call.SymLink x.0.0.0 x.0.0.1 x.0.1 x.1) procedure.SymLink
    (λ a s q. (q, refl)) bytes at x fits e
arguments_take procedure.MkDir bytes at x fits e =
    taken made (λ x. call.MkDir x.0.0 x.0.1 x.1) procedure.MkDir
    (λ a s q. (q, refl)) bytes at x fits e
arguments_take procedure.RmDir bytes at x fits e =
    taken named (λ x. call.RmDir x.0 x.1) procedure.RmDir (λ a s q. (q, refl)) bytes at x fits e
arguments_take procedure.ReadDir bytes at x fits e =
    taken numbers (λ x. call.ReadDir x.0.0 x.0.1 x.1) procedure.ReadDir
    (λ a s q. (q, refl)) bytes at x fits e
arguments_take procedure.StatFs bytes at x fits e =
    taken handle_reader call.StatFs procedure.StatFs (λ a s q. (q, refl)) bytes at x fits e

abbrev ok_call : Call → ℕ → Read Call
ok_call c n = Ok (c, n)

pub arguments_again : (c : Call) (bytes : List ℕ) (at : ℕ) (text rest : List ℕ)
    → AreArguments c text → drop at bytes ≡ text ++ rest
    → arguments_at (procedure_of c) bytes at ≡ Ok (c, at + length text)
unfolding arguments_at
arguments_again call.Null bytes at text rest p e =
    ap (λ (n : ℕ). ok_call call.Null n) (omega (arith, ap (λ (s : List ℕ). length s) p))
arguments_again (call.GetAttr h) bytes at text rest p e =
    made_again call.GetAttr handle_reader bytes at h text rest p e
arguments_again (call.SetAttr h a) bytes at text rest p e =
    made_again (λ x. call.SetAttr x.0 x.1) (and_then handle_reader set_attr_reader)
    bytes at (h, a) text rest p e
arguments_again (call.Lookup d n) bytes at text rest p e =
    made_again (λ x. call.Lookup x.0 x.1) named bytes at (d, n) text rest p e
arguments_again (call.ReadLink h) bytes at text rest p e =
    made_again call.ReadLink handle_reader bytes at h text rest p e
arguments_again (call.Read h o c) bytes at text rest p e =
    made_again (λ x. call.Read x.0.0.0 x.0.0.1 x.0.1) (and_then numbers word_reader)
    bytes at (((h, o), c), p.0) text rest p.1 e
arguments_again (call.Write h o b) bytes at text rest p e =
    made_again (λ x. call.Write x.0.0.0.0 x.0.0.1 x.1)
    (and_then (and_then numbers word_reader) (opaque_reader 8192 (omega arith)))
    bytes at ((((h, p.0), o), p.1), b) text rest p.2 e
arguments_again (call.Create d n a) bytes at text rest p e =
    made_again (λ x. call.Create x.0.0 x.0.1 x.1) made bytes at ((d, n), a) text rest p e
arguments_again (call.Remove d n) bytes at text rest p e =
    made_again (λ x. call.Remove x.0 x.1) named bytes at (d, n) text rest p e
arguments_again (call.Rename d n t m) bytes at text rest p e =
    made_again (λ x. call.Rename x.0.0.0 x.0.0.1 x.0.1 x.1)
    (and_then (and_then named handle_reader) name_reader)
    bytes at (((d, n), t), m) text rest p e
arguments_again (call.Link h d n) bytes at text rest p e =
    made_again (λ x. call.Link x.0.0 x.0.1 x.1)
    (and_then (and_then handle_reader handle_reader) name_reader)
    bytes at ((h, d), n) text rest p e
arguments_again (call.SymLink d n t a) bytes at text rest p e =
    made_again (λ x. call.SymLink x.0.0.0 x.0.0.1 x.0.1 x.1)
    (and_then (and_then named name_reader) set_attr_reader)
    bytes at (((d, n), t), a) text rest p e
arguments_again (call.MkDir d n a) bytes at text rest p e =
    made_again (λ x. call.MkDir x.0.0 x.0.1 x.1) made bytes at ((d, n), a) text rest p e
arguments_again (call.RmDir d n) bytes at text rest p e =
    made_again (λ x. call.RmDir x.0 x.1) named bytes at (d, n) text rest p e
arguments_again (call.ReadDir d k c) bytes at text rest p e =
    made_again (λ x. call.ReadDir x.0.0 x.0.1 x.1) numbers bytes at ((d, k), c) text rest p e
arguments_again (call.StatFs h) bytes at text rest p e =
    made_again call.StatFs handle_reader bytes at h text rest p e
