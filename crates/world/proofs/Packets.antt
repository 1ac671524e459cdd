-- The packets of the world, where no message is sent.
use Rattle.std.proofs.Common.{◌≡◌, ℕ, List, Some, sym, ap, ◌∙◌, slice_get}
use Rattle.std.specs.Option.{option_map}
use Rattle.file_tree.specs.Book.{Entry}
use Rattle.group_rules.specs.State.{Group, Message, Packet}
use Rattle.group_rules.specs.Step.{numbered}
use Rattle.node_outputs.specs.Messages.{heard}
use Rattle.node_outputs.specs.Records.{carried}
use Rattle.world_lines.specs.Machine.{StandFor, opened_as, sent}
use Rattle.world_lines.specs.Posted.{Posted}
use Rattle.world_lines.proofs.Machine.{opened_is}
use Rattle.world_laws.specs.StockLaws.{Stays}
use Rattle.world.specs.World.{AreCarried}

-- a packet that was sent is the group's packet of its number
pub numbered_there : (ps : List Posted) (packets : List (Packet Entry)) (numbers : List ℕ)
    → StandFor ps packets numbers → (n : ℕ) (p : Posted) (m : Message Entry)
    → slice_get ps n ≡ Some p → heard p.packet.message ≡ Some m
    → numbered packets n ≡ Some (sent p.packet.from p.packet.to m)
numbered_there ps packets numbers stand n p m e f = sym (opened_is ps packets numbers n stand)
    ∙ ap (λ o. opened_as (option_map (λ (p : Posted). p.packet) o)) e
    ∙ ap (option_map (sent p.packet.from p.packet.to)) f

-- whatever happens to the group, what was sent stays right
pub carried_still : (g g' : Group Entry) (ps : List Posted) (numbers : List ℕ) → Stays g g'
    → StandFor ps g.packets numbers → AreCarried g.page ps → AreCarried g'.page ps
carried_still g g' ps numbers stays stand old n p m e f =
    stays.packets n (sent p.packet.from p.packet.to m) (carried p.packet.message)
    (numbered_there ps g.packets numbers stand n p m e f) (old n p m e f)
