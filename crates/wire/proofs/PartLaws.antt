-- The parts of messages undo their bytes.
use Rattle.std.proofs.Common.{◌≡◌, ℕ, ◌+◌, ◌<◌, ◌≤◌, ◌^◌, Bool, true, false, cond, eqb, ltb, List, [], ◌∷◌, ◌++◌, length, get_or, drop, Option, Some, None, Ok, Err, refl, sym, ap, subst, ◌∙◌, arith, drop-cons, add-one, add-zero}
use Rattle.std.proofs.lemmas.Bool.{eqb-true, ltb-true, lt-ltb}
use Rattle.std.proofs.lemmas.List.{length-drop, get_or-drop}
use Rattle.harp_types.specs.declared.server.ServerId.{ServerId}
use Rattle.harp_types.specs.declared.server.ServerId.TheVariants.{Zero, One, Two}
use Rattle.harp_types.specs.declared.state.Held.{Held}
use Rattle.harp_types.specs.declared.state.Held.TheVariants as held
use Rattle.harp_base.specs.declared.field.Misread.TheVariants.{Ends}
use Rattle.harp_types.specs.Server.{number_of}
use Rattle.harp_base.specs.Fields.{Reader, Spells, ◌⊗◌, field_as, fields_by_tag, passing, tag_at, byte_at, u16_at, u16_bytes, u64_bytes, many_at, many_bytes, AllFit}
use Rattle.harp_types.specs.Numbered.{value_with_number}
use Rattle.harp_base.proofs.Codec.{IsBytes, IsCodec, ok_is, byte_codec, below_codec, passing_codec, fitting, tag_codec, part_takes, field_as_again, field_as_codec, fields_by_tag_codec}
use Rattle.harp_base.proofs.AttributeLaws.{then}
use Rattle.harp_base.proofs.ListLaws.{list_codec}
use Rattle.event_record.specs.declared.record.RecordFields.{RecordFields}
use Rattle.event_record.specs.Bytes.{RecordFits, record_bytes, item_at}
use Rattle.event_record.proofs.RecordLaws.{item_codec}
use Rattle.harp_types.specs.declared.cause.Cause.{Cause}
use Rattle.harp_types.specs.declared.cause.Cause.TheVariants as cause
use Rattle.wire.specs.declared.forms.Reason.{Reason}
use Rattle.wire.specs.declared.forms.Reason.TheVariants as reason
use Rattle.wire.specs.declared.storers.Storers.{Storers}
use Rattle.wire.specs.declared.storers.Storers.TheVariants.{ZeroOne, ZeroTwo, OneTwo}
use Rattle.wire.specs.Storers.{leader_of, partner_of}
use Rattle.wire.specs.Parts.{byte, deadline_at, held_number, helds, held_at, is_pair, storers_from, storers_bytes, storers_at, reason_of, reason_number, reasons, hint_number, hints, no_hint_at, hint_of, cause_bytes, hint_at, cause_at, is_some, RecordsFit, records_bytes, records_at}

pub deadline_codec : IsCodec deadline_at u64_bytes (λ n. n < 2 ^ 62 + 100000)
deadline_codec = below_codec (2 ^ 62 + 100000) (omega arith)

whole_held : (h : Held) → value_with_number held_number helds (held_number h) ≡ Some h
whole_held held.Empty = refl
whole_held held.Held = refl
whole_held held.Lost = refl

pub held_codec : IsCodec held_at (λ h. byte (held_number h)) (λ _. Unit {0})
held_codec = tag_codec held_number helds whole_held

-- ---- storers

abbrev pair : ℕ → ℕ → ℕ × ℕ
pair l p = (l, p)

spelled : (l p : ℕ) (a b c d : Bool) → eqb l 0 ≡ a → eqb l 1 ≡ b → eqb p 1 ≡ c → eqb p 2 ≡ d
    → is_pair (pair l p) ≡ true → storers_bytes (storers_from (pair l p)) ≡ l ∷ p ∷ []
spelled l p true b true d l0 l1 p1 p2 e = rw (eqb-true l 0 l0, eqb-true p 1 p1) refl
spelled l p true b false true l0 l1 p1 p2 e = rw (eqb-true l 0 l0, eqb-true p 2 p2) refl
spelled l p true true false false l0 l1 p1 p2 e = absurd cc
spelled l p true false false false l0 l1 p1 p2 e = absurd cc
spelled l p false true c true l0 l1 p1 p2 e = rw (eqb-true l 1 l1, eqb-true p 2 p2) refl
spelled l p false true true false l0 l1 p1 p2 e = absurd cc
spelled l p false true false false l0 l1 p1 p2 e = absurd cc
spelled l p false false c d l0 l1 p1 p2 e = absurd cc

back : (s : Storers) → storers_from (pair (number_of (leader_of s)) (number_of (partner_of s))) ≡ s
back ZeroOne = refl
back ZeroTwo = refl
back OneTwo = refl

low : (s : Storers) → ltb (number_of (leader_of s)) 2 ≡ true
low ZeroOne = refl
low ZeroTwo = refl
low OneTwo = refl

is_one : (s : Storers) → is_pair (pair (number_of (leader_of s)) (number_of (partner_of s))) ≡ true
is_one ZeroOne = refl
is_one ZeroTwo = refl
is_one OneTwo = refl

pub storers_codec : IsCodec storers_at storers_bytes (λ _. Unit {0})
unfolding storers_at
storers_codec =
    field_as_codec storers_from _ _ _
    (passing_codec is_pair (passing (λ n. ltb n 2) byte_at ⊗ byte_at) _ _
    (then (passing_codec (λ n. ltb n 2) byte_at _ _ byte_codec) byte_codec))
    (λ s. (number_of (leader_of s), number_of (partner_of s))) storers_bytes (λ _. Unit {0}) back
    (λ x fits. (spelled x.0 x.1 _ _ _ _ refl refl refl refl fits.1, tt))
    (λ s fits. (refl, (((tt, low s), tt), is_one s)))

-- ---- causes

whole_reason : (r : Reason) → value_with_number reason_number reasons (reason_number r) ≡ Some r
whole_reason reason.NotLeader = refl
whole_reason reason.NotYetOpen = refl
whole_reason reason.NoPromise = refl
whole_reason reason.LogFull = refl
whole_reason reason.Old = refl
whole_reason reason.BadClient = refl

whole_hint : (h : Option ServerId) → value_with_number hint_number hints (hint_number h) ≡ Some h
whole_hint (Some Zero) = refl
whole_hint (Some One) = refl
whole_hint (Some Two) = refl
whole_hint None = refl

hint_codec : IsCodec (tag_at hint_number hints) (λ h. byte (hint_number h)) (λ _. Unit {0})
hint_codec = tag_codec hint_number hints whole_hint

no_hint_codec : IsCodec no_hint_at (λ u. byte 3) (λ _. Unit {0})
no_hint_codec = tag_codec (λ u. 3) (tt ∷ []) (λ u. refl)

abbrev hint_bytes : Cause → List ℕ
hint_bytes c = byte (hint_number (hint_of c))

abbrev AnyCause : Cause → Type 0
AnyCause c = Unit {0}

unhinted_takes : (c : Cause) (t : Reason) → hint_of c ≡ None → reason_of c ≡ t → (bytes : List ℕ)
    (at : ℕ) (x : Cause × ℕ) → IsBytes bytes → field_as (λ h. c) no_hint_at bytes at ≡ Ok x
    → Spells bytes at (hint_bytes x.0) x.1 × AnyCause x.0 × (reason_of x.0 ≡ t)
unhinted_takes c t none is =
    part_takes no_hint_codec (λ h. c) hint_bytes AnyCause reason_of t
    (λ u f. (rw none refl, tt, is))

unhinted_again : (c : Cause) → (bytes : List ℕ) (at : ℕ) (rest : List ℕ)
    → drop at bytes ≡ byte 3 ++ rest → field_as (λ h. c) no_hint_at bytes at ≡ Ok (c, at + 1)
unhinted_again c bytes at rest e =
    field_as_again (λ h. c) no_hint_at (λ u. byte 3) (λ _. Unit {0}) no_hint_codec
    bytes at tt rest tt e

hint_takes : (t : Reason) (bytes : List ℕ) (at : ℕ) (x : Cause × ℕ) → IsBytes bytes
    → hint_at t bytes at ≡ Ok x
    → Spells bytes at (hint_bytes x.0) x.1 × AnyCause x.0 × (reason_of x.0 ≡ t)
unfolding hint_at
hint_takes reason.NotLeader bytes at x fits e =
    part_takes hint_codec cause.NotLeader hint_bytes AnyCause reason_of reason.NotLeader
    (λ h f. (refl, tt, refl)) bytes at x fits e
hint_takes reason.NotYetOpen bytes at x fits e =
    unhinted_takes cause.NotYetOpen reason.NotYetOpen refl refl bytes at x fits e
hint_takes reason.NoPromise bytes at x fits e =
    unhinted_takes cause.NoPromise reason.NoPromise refl refl bytes at x fits e
hint_takes reason.LogFull bytes at x fits e =
    unhinted_takes cause.LogFull reason.LogFull refl refl bytes at x fits e
hint_takes reason.Old bytes at x fits e =
    unhinted_takes cause.Old reason.Old refl refl bytes at x fits e
hint_takes reason.BadClient bytes at x fits e =
    unhinted_takes cause.BadClient reason.BadClient refl refl bytes at x fits e

hint_again : (c : Cause) (bytes : List ℕ) (at : ℕ) (rest : List ℕ) → AnyCause c
    → drop at bytes ≡ hint_bytes c ++ rest
    → hint_at (reason_of c) bytes at ≡ Ok (c, at + length (hint_bytes c))
unfolding hint_at
hint_again (cause.NotLeader h) bytes at rest f e =
    field_as_again cause.NotLeader (tag_at hint_number hints) (λ k. byte (hint_number k))
    (λ _. Unit {0}) hint_codec bytes at h rest tt e
hint_again cause.NotYetOpen bytes at rest f e = unhinted_again cause.NotYetOpen bytes at rest e
hint_again cause.NoPromise bytes at rest f e = unhinted_again cause.NoPromise bytes at rest e
hint_again cause.LogFull bytes at rest f e = unhinted_again cause.LogFull bytes at rest e
hint_again cause.Old bytes at rest f e = unhinted_again cause.Old bytes at rest e
hint_again cause.BadClient bytes at rest f e = unhinted_again cause.BadClient bytes at rest e

pub cause_codec : IsCodec cause_at cause_bytes AnyCause
unfolding cause_at
cause_codec =
    fields_by_tag_codec reason_number reasons hint_at reason_of hint_bytes AnyCause
    whole_reason hint_takes hint_again

-- ---- records

pub records_codec : IsCodec records_at records_bytes RecordsFit
unfolding records_at records_bytes
records_codec =
    fitting RecordsFit (λ xs f. (ltb-true 0 (length xs) f.1, f.0.0, f.0.1))
    (λ xs f. ((f.1, f.2), lt-ltb 0 (length xs) f.0))
    (passing_codec is_some (fields_by_tag u16_at (many_at item_at)) _ _ (list_codec item_codec))
