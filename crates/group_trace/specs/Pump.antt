-- The deliveries that a pump stands for.
use Rattle.std.specs.Prelude.{ℕ, zero, suc, Bool, true, not, ◌&&◌, ◌||◌, ◌==◌, List, [], ◌∷◌, length, Option, None, Some, if◌then◌else◌}
use Rattle.std.specs.List.{list_any}
use Rattle.harp_types.specs.declared.server.ServerId.{ServerId}
use Rattle.trace_types.specs.declared.step.Step.{Step}
use Rattle.file_tree.specs.Book.{Entry}
use Rattle.group_rules.specs.Names.{place_of}
use Rattle.group_rules.specs.Places.{Place, same}
use Rattle.group_rules.specs.State.{Packet}
use Rattle.trace_types.specs.declared.step.Step.TheVariants as step
use Rattle.group_trace.specs.Scene.{Measures, Scene}
use Rattle.group_trace.specs.Run.{next}

-- from one of the two servers to the other
abbrev pub is_either : ServerId × ServerId → Place → Place → Bool
is_either pair p q = (same (place_of pair.0) p && same (place_of pair.1) q)
    || (same (place_of pair.0) q && same (place_of pair.1) p)

-- a packet among two servers, or any
abbrev pub is_among : Option (ServerId × ServerId) → Packet Entry → Bool
is_among None p = true
is_among (Some pair) p = is_either pair p.from p.to

-- packet n was never delivered, and is one of these
abbrev pub is_due : Option (ServerId × ServerId) → List ℕ → ℕ → Packet Entry → Bool
is_due among delivered n p = is_among among p && not (list_any (λ m. m == n) delivered)

-- the lowest number of a packet that was never delivered; the packets are the newest first
unfoldable pub lowest_due : Option (ServerId × ServerId) → List ℕ → List (Packet Entry) → Option ℕ
lowest_due among delivered [] = None
lowest_due among delivered (p ∷ ps) = elim (lowest_due among delivered ps) [
  | Some n ↦ Some n
  | None ↦ if is_due among delivered (length ps) p then Some (length ps) else None
]

-- the packet that a pump delivers next
abbrev pub due : Option (ServerId × ServerId) → Scene → Option ℕ
due among w = lowest_due among w.delivered w.group.packets

-- the deliveries of a pump, at most so many
unfoldable pub deliveries : Measures → ℕ → Option (ServerId × ServerId) → Scene → List Step
deliveries m zero among w = []
deliveries m (suc most) among w = elim (due among w) [
  | None ↦ []
  | Some n ↦ step.Deliver n ∷ deliveries m most among (next m w (step.Deliver n))
]

-- more than any pump needs
unfoldable pub most_deliveries : ℕ
most_deliveries = 1099511627776

-- the elementary steps that a step stands for
abbrev pub spelled_out : Measures → Scene → Step → List Step
spelled_out m w (step.Pump among) = deliveries m most_deliveries among w
spelled_out m w s = s ∷ []
