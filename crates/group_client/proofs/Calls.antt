-- A call on its way, and calls one after the other.
use Rattle.std.proofs.Common.{◌≡◌, ℕ, zero, suc, ◌-◌, ◌<◌, List, [], ◌∷◌, ◌++◌, Err, arith, inl, inr, refl, subst}
use Rattle.rpc_door.specs.declared.group.Exchange.{Exchange}
use Rattle.rpc_door.specs.declared.group.GroupFault.{GroupFault}
use Rattle.rpc_door.specs.declared.group.GroupFault.TheVariants as group
use Rattle.client_calls.specs.declared.wait.Wait.{Wait}
use Rattle.group_client.specs.declared.news.Replied.{Replied}
use Rattle.group_client.specs.declared.making.Next.{Next}
use Rattle.group_client.specs.declared.making.Next.TheVariants.{Ends, Waits}
use Rattle.group_client.specs.Rule.{AreMade, Asked, Before, Caller, Goes, IsCut, IsStep, Outcome, Scene, outcome_of}
use Rattle.group_client.specs.Rule.Outcome.{Broken, Done, Spent}

-- a step leads on to where the call waits
pub waits_on : (q : Asked) (left : ℕ) (w v : Wait) (a c : Scene) (next : Next) (o : Outcome)
    → 0 < left → next ≡ Waits v → IsStep q w next a c → Goes (left - 1) q o v c
    → Goes left q o w a
waits_on q zero w v a c next o some is s h = absurd (omega (arith, some))
waits_on q (suc n) w v a c next o some is s h =
    let less : suc n - 1 ≡ n = omega (arith) in
    inl (
      Waits v,
      c,
      subst (λ (x : Next). IsStep q w x a c) is s,
      subst (λ (m : ℕ). Goes m q o v c) less h,
    )

-- or it ends it
pub ends : (q : Asked) (left : ℕ) (w : Wait) (a c : Scene) (next : Next) (r : Replied) → 0 < left
    → next ≡ Ends r → IsStep q w next a c → Goes left q (Done r c) w a
ends q zero w a c next r some is s = absurd (omega (arith, some))
ends q (suc n) w a c next r some is s =
    inl (Ends r, c, subst (λ (x : Next). IsStep q w x a c) is s, refl)

-- a fault of the link, or want of memory, ends a call so
pub broken : (why : GroupFault) (c : Scene) → (why ≡ group.Spent → ⊥)
    → outcome_of (Err why) c ≡ Broken c
broken group.Failed c unspent = refl
broken group.Spent c unspent = absurd (unspent refl)
broken group.NoMemory c unspent = refl

-- a step is cut off
pub cuts_off : (q : Asked) (left : ℕ) (w : Wait) (a c : Scene) (why : GroupFault) → 0 < left
    → (why ≡ group.Spent → ⊥) → IsCut a c → Goes left q (outcome_of (Err why) c) w a
cuts_off q zero w a c why some unspent cut = absurd (omega (arith, some))
cuts_off q (suc n) w a c why some unspent cut = inr (c, cut, broken why c unspent)

-- no step is left
pub over : (q : Asked) (left : ℕ) (w : Wait) (a : Scene) → left ≡ 0 → Goes left q (Spent a) w a
over q zero w a none = refl
over q (suc n) w a none = absurd (omega (arith, none))

-- one call after the other
pub made_then : (caller : Caller) (before more : List Exchange) (a c d : Before)
    → AreMade caller before a c → AreMade caller more c d → AreMade caller (before ++ more) a d
made_then caller [] more a c d p r = subst (λ (x : Before). AreMade caller more x d) p r
made_then caller (x ∷ xs) more a c d p r =
    (p.0, p.1, p.2, made_then caller xs more p.0 c d p.3 r)
