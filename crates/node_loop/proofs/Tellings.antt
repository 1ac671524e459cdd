-- What a server is told while it takes its turns.
use Rattle.std.proofs.Common.{◌≡◌, ◌≢◌, ◌≤◌, ◌<◌, ◌^◌, ◌∙◌, ◌⊎◌, ℕ, ◌+◌, ◌-◌, arith, Bool, true, false, List, [], ◌∷◌, ◌++◌, Option, None, Some, ap, inl, inr, refl, subst, sym}
use Rattle.std.specs.Prelude.{if◌then◌else◌, nat_le}
use Rattle.std.proofs.lemmas.List.{append-nil, append_assoc, replicate_more}
use Rattle.harp_types.specs.Memory.{raised}
use Rattle.harp_types.specs.declared.server.ServerId.{ServerId}
use Rattle.node.specs.declared.input.Input.{Input}
use Rattle.node_link.specs.declared.link.Datagram.{Datagram}
use Rattle.node_loop.specs.declared.look.Look.{Look}
use Rattle.node_loop.specs.declared.turned.Turned.{Turned}
use Rattle.node_loop.specs.Looks.{look_of}
use Rattle.node_loop.specs.Orders.{Answered, IsTold, noes}
use Rattle.node_loop.specs.Run.{Turns}
use Rattle.node_loop.specs.Scene.{Spot}
use Rattle.node_loop.specs.Turn.{IsReceive, IsTurnBy, after_arrival}
use Rattle.node_loop.specs.Turns.{Pacing, after_nudge, after_tick, is_due}

-- ---- answers

-- no one was asked
pub answered-none : (told : Option (List Bool)) → Answered [] told told
answered-none None = tt
answered-none (Some answers) = sym (append-nil answers)

pub answered-then : (xs ys : List Bool) (a b c : Option (List Bool)) → Answered xs a b
    → Answered ys b c → Answered (xs ++ ys) a c
answered-then xs ys a b None first then_ = tt
answered-then xs ys a None (Some z) first then_ = absurd then_
answered-then xs ys None (Some y) (Some z) first then_ = absurd first
answered-then xs ys (Some x) (Some y) (Some z) first then_ =
    then_ ∙ ap (λ answers. answers ++ ys) first ∙ append_assoc x xs ys

-- once more
pub no-more : (n : ℕ) (a b c : Option (List Bool)) → Answered (noes n) a b
    → Answered (false ∷ []) b c → Answered (noes (n + 1)) a c
no-more n a b c before then_ =
    subst (λ answers. Answered answers a c) (replicate_more n false)
    (answered-then (noes n) (false ∷ []) a b c before then_)

-- ---- ticks

arrives : (look : Look) (now : ℕ) (input : Option Input) (p : Pacing)
    → (after_arrival look now input p).ticks ≡ p.ticks
arrives look now None p = refl
arrives look now (Some input) p = refl

receives : (look : Look) (p q : Pacing) (t : Turned) (d : Option Datagram)
    → IsReceive look p q t d → q.ticks ≡ p.ticks
receives look p q t None h = ap (λ (x : Pacing). x.ticks) h.pace
receives look p q t (Some d) h =
    ap (λ (x : Pacing). x.ticks) h.3 ∙ arrives look t.now h.0 p

due_ticks : (b : Bool) (me : ServerId) (look : Look) (now : ℕ) (p : Pacing)
    → ((if b then after_tick me look now p else after_nudge now p).ticks ≡ p.ticks)
    ⊎ ((if b then after_tick me look now p else after_nudge now p).ticks ≡ raised p.ticks)
due_ticks true me look now p = inr refl
due_ticks false me look now p = inl refl

turn_ticks : (b : Bool) (me : ServerId) (look : Look) (p q : Pacing) (t : Turned)
    → IsTurnBy b me look p q t → (q.ticks ≡ p.ticks) ⊎ (q.ticks ≡ raised p.ticks)
turn_ticks true me look p q t h =
    subst (λ (x : Pacing). (x.ticks ≡ p.ticks) ⊎ (x.ticks ≡ raised p.ticks)) (sym h.pace)
    (due_ticks (nat_le p.due t.began) me look t.began p)
turn_ticks false me look p q t h = inl (receives look p q t t.taken h)

-- a turn ticks, or doesn't
pub turn-ticks : (me : ServerId) (a c : Spot) → Turns me a c
    → (c.server.pace.ticks ≡ a.server.pace.ticks)
    ⊎ (c.server.pace.ticks ≡ raised a.server.pace.ticks)
turn-ticks me a c h =
    turn_ticks (is_due (look_of a.server.node) h.turned.began a.server.pace) me _ a.server.pace
    c.server.pace h.turned h.turn

-- ---- both

few_by : (n m k : ℕ) → (m ≡ n) ⊎ (m ≡ raised n) → n ≤ k → m ≤ k + 1
few_by n m k (inl e) few = omega (arith, e, few)
few_by n m k (inr e) few = omega (arith, e, few)

-- no more ticks than turns
pub few-more : (me : ServerId) (a c : Spot) (k : ℕ) → Turns me a c → a.server.pace.ticks ≤ k
    → c.server.pace.ticks ≤ k + 1
few-more me a c k h few =
    few_by a.server.pace.ticks c.server.pace.ticks k (turn-ticks me a c h) few

-- Behind a turn, before which there were t ticks, and behind it m, this was said
pub record Asks (t m : ℕ) (said : Bool) (old new : Option (List Bool)) : Type 0 where
  pub quiet : m ≡ t → (said ≡ false) × (new ≡ old)
  pub asked : m ≢ t → Answered (said ∷ []) old new

above : (n m : ℕ) → m ≡ n + 1 → m ≢ n
above n m is e = omega (arith, is, e)

said_no : (n m : ℕ) (said : Bool) (first old new : Option (List Bool))
    → (m ≡ n) ⊎ (m ≡ raised n) → n < 2 ^ 64 - 1 → Asks n m said old new → said ≡ false
    → Answered (noes n) first old → Answered (noes m) first new
said_no n m said first old new (inl e) small asks no_ before =
    subst (λ k. Answered (noes k) first new) (sym e)
    (subst (λ told. Answered (noes n) first told) (sym (asks.quiet e).1) before)
said_no n m said first old new (inr e) small asks no_ before =
    let more : m ≡ n + 1 = omega (arith, e, small) in
    subst (λ k. Answered (noes k) first new) (sym more)
    (no-more n first old new before
    (subst (λ b. Answered (b ∷ []) old new) no_ (asks.asked (above n m more))))

said_yes : (n m : ℕ) (said : Bool) (first old new : Option (List Bool))
    → (m ≡ n) ⊎ (m ≡ raised n) → n < 2 ^ 64 - 1 → Asks n m said old new → said ≡ true
    → Answered (noes n) first old
    → (k : ℕ) × (m ≡ k + 1) × Answered (noes k ++ true ∷ []) first new
said_yes n m said first old new (inl e) small asks yes_ before =
    let never : true ≡ false = sym yes_ ∙ (asks.quiet e).0 in cc
said_yes n m said first old new (inr e) small asks yes_ before =
    let more : m ≡ n + 1 = omega (arith, e, small) in (
      n,
      more,
      answered-then (noes n) (true ∷ []) first old new before
          (subst (λ b. Answered (b ∷ []) old new) yes_ (asks.asked (above n m more))),
    )

-- it goes on
pub goes-on : (me : ServerId) (a c : Spot) (said : Bool) (first old new : Option (List Bool))
    → Turns me a c → a.server.pace.ticks < 2 ^ 64 - 1
    → Asks a.server.pace.ticks c.server.pace.ticks said old new → said ≡ false
    → Answered (noes a.server.pace.ticks) first old
    → Answered (noes c.server.pace.ticks) first new
goes-on me a c said first old new h small asks no_ before =
    said_no a.server.pace.ticks c.server.pace.ticks said first old new (turn-ticks me a c h) small
    asks no_ before

-- or it is told to stop
pub stops-here : (me : ServerId) (a c : Spot) (said : Bool) (first old new : Option (List Bool))
    → (turns most : ℕ) → Turns me a c → a.server.pace.ticks < 2 ^ 64 - 1
    → Asks a.server.pace.ticks c.server.pace.ticks said old new → said ≡ true
    → Answered (noes a.server.pace.ticks) first old
    → IsTold c.server.pace.ticks turns most first new
stops-here me a c said first old new turns most h small asks yes_ before = (
  true,
  said_yes a.server.pace.ticks c.server.pace.ticks said first old new (turn-ticks me a c h) small
      asks yes_ before,
)
