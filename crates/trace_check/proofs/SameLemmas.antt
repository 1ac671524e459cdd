-- Values with one spelling are the same.
use Rattle.std.proofs.Common.{◌≡◌, ℕ, ◌+◌, Bool, List, [], length, eqb, sym, ap, ◌∙◌}
use Rattle.std.specs.Prelude.{◌↔◌, IsTrue}
use Rattle.std.specs.Cmp.Lexicographic.{pointwise}
use Rattle.std.proofs.lemmas.Bool.Decides.{Decides-eqb}
use Rattle.std.proofs.lemmas.Slice.Eq.{slice_eq-Decides}
use Rattle.std.proofs.lemmas.List.{append-nil}
use Rattle.harp_types.specs.declared.call.Call.{Call}
use Rattle.harp_types.specs.declared.reply.Reply.{Reply}
use Rattle.harp_base.specs.Calls.{CallFits, call_at, call_bytes}
use Rattle.harp_base.specs.Fields.{Reader}
use Rattle.harp_base.specs.Replies.{ReplyFits, reply_at, reply_bytes}
use Rattle.harp_base.proofs.CallLaws.{call_codec}
use Rattle.harp_base.proofs.Codec.{IsCodec, ok_is}
use Rattle.harp_base.proofs.ReplyLaws.{reply_codec}

pub codec_same : {A : Type 0} (read : Reader A) (spell : A → List ℕ) (Fits : A → Type 0)
    → IsCodec read spell Fits → (x y : A) → Fits x → Fits y → spell x ≡ spell y → x ≡ y
codec_same {A} read spell Fits codec x y f g e =
    let a = codec.again (spell x) 0 x [] f (sym (append-nil (spell x))) in
    let b = codec.again (spell x) 0 y [] g (e ∙ sym (append-nil (spell y))) in
    ap (λ (p : A × ℕ). p.0) (ok_is (x, 0 + length (spell x)) (y, 0 + length (spell y)) (sym a ∙ b))

pub calls_same : (x y : Call) → CallFits x → CallFits y → call_bytes x ≡ call_bytes y → x ≡ y
calls_same x y f g e = codec_same call_at call_bytes CallFits call_codec x y f g e

pub replies_same : (x y : Reply) → ReplyFits x → ReplyFits y → reply_bytes x ≡ reply_bytes y → x ≡ y
replies_same x y f g e = codec_same reply_at reply_bytes ReplyFits reply_codec x y f g e

same_is : {A : Type 0} (x y : A) (r : Bool) (s t a b : List ℕ) → r ≡ pointwise eqb s t
    → s ≡ a → t ≡ b → (a ≡ b → x ≡ y) → (x ≡ y → a ≡ b) → IsTrue r ↔ (x ≡ y)
same_is x y r s t a b e sa tb to from =
    let d = slice_eq-Decides Decides-eqb s t r e in (
      λ h. to (sym sa ∙ d.0 h ∙ tb),
      λ h. d.1 (sa ∙ from h ∙ sym tb),
    )

pub calls_by_bytes : (x y : Call) (r : Bool) (s t : List ℕ) → r ≡ pointwise eqb s t
    → s ≡ call_bytes x → t ≡ call_bytes y → CallFits x → CallFits y → IsTrue r ↔ (x ≡ y)
calls_by_bytes x y r s t e sx ty f g =
    same_is x y r s t (call_bytes x) (call_bytes y) e sx ty (calls_same x y f g)
    (λ h. ap call_bytes h)

pub replies_by_bytes : (x y : Reply) (r : Bool) (s t : List ℕ) → r ≡ pointwise eqb s t
    → s ≡ reply_bytes x → t ≡ reply_bytes y → ReplyFits x → ReplyFits y → IsTrue r ↔ (x ≡ y)
replies_by_bytes x y r s t e sx ty f g =
    same_is x y r s t (reply_bytes x) (reply_bytes y) e sx ty (replies_same x y f g)
    (λ h. ap reply_bytes h)
