-- What a trace shows of a message.
use Rattle.std.proofs.Common.{◌≡◌, refl}
use Rattle.group_rules.specs.Names.{id_of, place_of}
use Rattle.group_rules.specs.Places.{leader, partner}
use Rattle.group_rules.specs.Shown.{held_shown}
use Rattle.harp_types.specs.declared.server.ServerId.{ServerId}
use Rattle.harp_types.specs.declared.server.ServerId.TheVariants as server
use Rattle.harp_types.specs.declared.state.Held.{Held}
use Rattle.harp_types.specs.declared.state.Held.TheVariants as held
use Rattle.node_outputs.specs.Messages.{held_heard, pair_heard}
use Rattle.wire.specs.Storers.{leader_of, partner_of}
use Rattle.wire.specs.declared.storers.Storers.{Storers}
use Rattle.wire.specs.declared.storers.Storers.TheVariants as storers

pub id_back : (s : ServerId) → id_of (place_of s) ≡ s
id_back server.Zero = refl
id_back server.One = refl
id_back server.Two = refl

pub held_back : (h : Held) → held_shown (held_heard h) ≡ h
held_back held.Empty = refl
held_back held.Held = refl
held_back held.Lost = refl

pub leader_back : (s : Storers) → id_of (leader (pair_heard s)) ≡ leader_of s
leader_back storers.ZeroOne = refl
leader_back storers.ZeroTwo = refl
leader_back storers.OneTwo = refl

pub partner_back : (s : Storers) → id_of (partner (pair_heard s)) ≡ partner_of s
partner_back storers.ZeroOne = refl
partner_back storers.ZeroTwo = refl
partner_back storers.OneTwo = refl
