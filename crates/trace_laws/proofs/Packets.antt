-- Which packets stand for their numbers.
use Rattle.std.proofs.Common.{◌≡◌, ℕ, suc, ◌-◌, ◌<◌, ◌==◌, true, List, [], ◌∷◌, length, Option, Some, None, sym, ap, ◌∙◌, inl, inr, arith, nat_lt, slice_get}
use Rattle.std.proofs.lemmas.Bool.{cases_eq, eq-eqb, ne_eqb}
use Rattle.std.proofs.lemmas.Bool.Decides.{nat_tests}
use Rattle.trace_claims.specs.Servers.{Packet as PacketShown}
use Rattle.file_tree.specs.Book.{Entry}
use Rattle.group_rules.specs.State.{Packet}
use Rattle.group_rules.specs.Step.{numbered}
use Rattle.group_rules.proofs.Tests.{by_if, if_is, if_not, is_lt}
use Rattle.group_trace.specs.Shown.{packet_shown}
use Rattle.trace_laws.proofs.LineParts.{shown_at}

-- ---- numbers of packets

lt_is : (a b : ℕ) → a < b → nat_lt a b ≡ true
lt_is a b h = grind (arith, nat_tests)

-- the newest packet has the number of those before it, and the others keep theirs
newest : (p : Packet Entry) (ps : List (Packet Entry)) (n : ℕ) → n ≡ length ps
    → slice_get (p ∷ ps) (suc (length ps) - suc n) ≡ Some p
newest p ps n e = let z : suc (length ps) - suc n ≡ 0 = omega (arith, e) in
    ap (slice_get (p ∷ ps)) z

older : (p : Packet Entry) (ps : List (Packet Entry)) (n : ℕ) → n < length ps
    → slice_get (p ∷ ps) (suc (length ps) - suc n) ≡ slice_get ps (length ps - suc n)
older p ps n l = let z : suc (length ps) - suc n ≡ suc (length ps - suc n) = omega (arith, l) in
    ap (slice_get (p ∷ ps)) z

shown_of : (ps : List (Packet Entry)) (n : ℕ) (p : Packet Entry) → n < length ps
    → slice_get ps (length ps - suc n) ≡ Some p → shown_at ps n ≡ Some (packet_shown p)
unfolding shown_at
shown_of [] n p l e = absurd (omega (arith, l))
shown_of (x ∷ ps) n p l e = elim (cases_eq n (length ps)) [
  | inl same ↦
      let found : Some x ≡ Some p = sym (newest x ps n same) ∙ e in
      let is : x ≡ p = cc in
      rw (eq-eqb (length ps) n (sym same)) (ap (λ p. Some (packet_shown p)) is)
  | inr other ↦
      let low : n < length ps = omega (arith, l, other) in
      rw (ne_eqb (length ps) n (λ x. other (sym x))) (shown_of ps n p low (sym (older x ps n low)
      ∙ e))
]

pub shown_where : (ps : List (Packet Entry)) (n : ℕ) (p : Packet Entry) → numbered ps n ≡ Some p
    → shown_at ps n ≡ Some (packet_shown p)
shown_where ps n p = by_if (λ (o : Option (Packet Entry)). o ≡ Some p → shown_at ps n ≡
    Some (packet_shown p)) (nat_lt n (length ps)) _ None
    (λ l e. shown_of ps n p (is_lt n (length ps) l) e) (λ _ e. cc)

-- a packet that a trace shows was sent
pub record WasSent (ps : List (Packet Entry)) (n : ℕ) (x : PacketShown) : Type 0 where
  pub packet : Packet Entry
  pub numbered_so : numbered ps n ≡ Some packet
  pub shown_so : packet_shown packet ≡ x

sent_at : (ps : List (Packet Entry)) (n : ℕ) (x : PacketShown) → shown_at ps n ≡ Some x
    → (p : Packet Entry) × (n < length ps) × (slice_get ps (length ps - suc n) ≡ Some p)
    × (packet_shown p ≡ x)
unfolding shown_at
sent_at [] n x e = cc
sent_at (p ∷ ps) n x e = elim (cases_eq (length ps) n) [
  | inl same ↦ (
    p,
    omega (arith, same),
    newest p ps n (sym same),
    (let y : Some (packet_shown p) ≡ Some x =
        sym (if_is (length ps == n) (Some (packet_shown p)) (shown_at ps n)
        (eq-eqb (length ps) n same)) ∙ e in let z : packet_shown p ≡ x = cc in z),
  )
  | inr other ↦
      let h = sent_at ps n x (sym (if_not (length ps == n) (Some (packet_shown p)) (shown_at ps n)
      (ne_eqb (length ps) n other)) ∙ e) in
      (h.0, omega (arith, h.1), older p ps n h.1 ∙ h.2, h.3)
]

pub was_sent : (ps : List (Packet Entry)) (n : ℕ) (x : PacketShown) → shown_at ps n ≡ Some x
    → WasSent ps n x
was_sent ps n x e =
    let h = sent_at ps n x e in
    record {
      packet = h.0;
      numbered_so =
          if_is (nat_lt n (length ps)) (slice_get ps (length ps - suc n)) None
          (lt_is n (length ps) h.1) ∙ h.2;
      shown_so = h.3;
    }
