-- The two storers of a view, each as it sees the other, and their roles.
use Rattle.std.proofs.Common.{◌≡◌, true, refl}
use Rattle.group_rules.specs.Names.{place_of}
use Rattle.group_rules.specs.Places.{Zero, One, Two, Pair, Place, S01, S02, S12, leader, partner, same}
use Rattle.group_rules.specs.State.{Follows, Leads, Outside, Role}
use Rattle.node.specs.Disk.{part_of}
use Rattle.node.specs.State.{role_of}
use Rattle.node_outputs.specs.Messages.{pair_heard}
use Rattle.replica.specs.Leading.{partner_of, storers_led}
use Rattle.replica.specs.declared.leader.Beside.{Beside}
use Rattle.replica.specs.declared.leader.Beside.TheVariants as beside
use Rattle.wire.specs.Storers.{leader_of as leader_told, partner_of as partner_told}
use Rattle.wire.specs.declared.storers.Storers.{Storers}
use Rattle.wire.specs.declared.storers.Storers.TheVariants as storers

-- a role is the one that its mark tells
pub role_back : (r : Role) → role_of (part_of r) ≡ r
role_back (Leads Zero) = refl
role_back (Leads One) = refl
role_back (Leads Two) = refl
role_back (Follows Zero) = refl
role_back (Follows One) = refl
role_back (Follows Two) = refl
role_back Outside = refl

-- a leader beside its partner has the storers of the plan
pub storers_are_led : (pair : Pair) (b : Beside) (q : Place) → same q (leader pair) ≡ true
    → partner_of b ≡ partner pair
    → (pair ≡ storers_led b q) × (leader (storers_led b q) ≡ q)
storers_are_led S01 beside.DataServer Zero leads is = (refl, refl)
storers_are_led S01 beside.DataServer One leads is = cc
storers_are_led S01 beside.DataServer Two leads is = cc
storers_are_led S01 beside.Witness q leads is = cc
storers_are_led S02 beside.Witness Zero leads is = (refl, refl)
storers_are_led S02 beside.Witness One leads is = cc
storers_are_led S02 beside.Witness Two leads is = cc
storers_are_led S02 beside.DataServer q leads is = cc
storers_are_led S12 beside.Witness One leads is = (refl, refl)
storers_are_led S12 beside.Witness Zero leads is = cc
storers_are_led S12 beside.Witness Two leads is = cc
storers_are_led S12 beside.DataServer q leads is = cc

-- the partner as messages name it
pub partner_place : (s : Storers) → place_of (partner_told s) ≡ partner (pair_heard s)
partner_place storers.ZeroOne = refl
partner_place storers.ZeroTwo = refl
partner_place storers.OneTwo = refl

pub leader_place : (s : Storers) → place_of (leader_told s) ≡ leader (pair_heard s)
leader_place storers.ZeroOne = refl
leader_place storers.ZeroTwo = refl
leader_place storers.OneTwo = refl
