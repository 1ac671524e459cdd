-- What a whole datagram decodes to.
use Rattle.std.proofs.Common.{◌≡◌, ℕ, ◌+◌, Bool, true, false, cond, eqb, List, [], ◌++◌, length, drop, Result, Ok, Err, refl, sym, ap, subst, ◌∙◌, append-nil, arith, zero-add}
use Rattle.std.specs.Prelude.{IfOk}
use Rattle.std.proofs.lemmas.Bool.{eqb-true, eq-eqb}
use Rattle.std.proofs.lemmas.List.{drop_all}
use Rattle.harp_base.specs.declared.field.Misread.TheVariants as misread
use Rattle.harp_base.specs.Fields.{Read, Gives}
use Rattle.harp_base.proofs.Codec.{IsBytes}
use Rattle.wire.specs.declared.message.Message.{Message}
use Rattle.wire.specs.declared.decoding.DecodeFault.{DecodeFault}
use Rattle.wire.specs.declared.decoding.DecodeFault.TheVariants.{Short, BadTag, Trailing, TooLong, NoMemory}
use Rattle.wire.specs.Messages.{message_bytes, MessageFits, message_at, whole, Decodes}
use Rattle.wire.proofs.MessageLaws.{message_codec}

decodes_itself : (r : Result Message DecodeFault) → Decodes r r
decodes_itself (Ok m) = refl
decodes_itself (Err (Short n)) = refl
decodes_itself (Err (BadTag n)) = refl
decodes_itself (Err (Trailing n)) = refl
decodes_itself (Err (TooLong n)) = refl
decodes_itself (Err NoMemory) = tt

pub whole_exact : (size : ℕ) (r read : Read Message) → Gives r read
    → Decodes (whole size r) (whole size read)
whole_exact size (Ok x) read given =
    subst (λ (y : Read Message). Decodes (whole size (Ok x)) (whole size y)) (sym given)
    (decodes_itself (whole size (Ok x)))
whole_exact size (Err (misread.Ends from to)) read given = ap (whole size) given
whole_exact size (Err (misread.BadTag n)) read given = ap (whole size) given
whole_exact size (Err (misread.TooLong n)) read given = ap (whole size) given
whole_exact size (Err misread.NoMemory) read given = tt

-- the message that ends where the bytes end is all of them
module _ (bytes : List ℕ) where
  found_by : (x : Message × ℕ) (b : Bool) → IsBytes bytes → message_at bytes 0 ≡ Ok x
      → eqb x.1 (length bytes) ≡ b
      → IfOk (cond b (Ok x.0) (Err (Trailing x.1)))
      (λ m. (bytes ≡ message_bytes m) × MessageFits m)
  found_by x true fits given ends =
      let t = message_codec.takes bytes 0 x fits given in
      let end : x.1 ≡ length bytes = eqb-true x.1 (length bytes) ends in
      let none : drop x.1 bytes ≡ [] = drop_all x.1 bytes (omega (arith, end)) in (
        t.0.parts ∙ ap (λ (l : List ℕ). message_bytes x.0 ++ l) none
            ∙ append-nil (message_bytes x.0),
        t.1,
      )
  found_by x false fits given ends = tt

  pub whole_found : (r : Read Message) → IsBytes bytes → Gives r (message_at bytes 0)
      → IfOk (whole (length bytes) r) (λ m. (bytes ≡ message_bytes m) × MessageFits m)
  whole_found (Ok x) fits given = found_by x (eqb x.1 (length bytes)) fits given refl
  whole_found (Err e) fits given = tt

  pub whole_only : (r : Read Message) → Gives r (message_at bytes 0) → (m : Message)
      → MessageFits m → bytes ≡ message_bytes m → Decodes (whole (length bytes) r) (Ok m)
  whole_only r given m fits e =
      let front : drop 0 bytes ≡ message_bytes m ++ [] = e ∙ sym (append-nil (message_bytes m)) in
      let read : message_at bytes 0 ≡ Ok (m, 0 + length (message_bytes m)) =
      message_codec.again bytes 0 m [] fits front in
      let ends : eqb (0 + length (message_bytes m)) (length bytes) ≡ true =
      eq-eqb _ _ (omega (arith, ap length e)) in
      let is : whole (length bytes) (message_at bytes 0) ≡ Ok m =
      ap (whole (length bytes)) read ∙ rw ends refl in
      subst (λ (y : Result Message DecodeFault). Decodes (whole (length bytes) r) y) is
      (whole_exact (length bytes) r (message_at bytes 0) given)
