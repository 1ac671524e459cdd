-- What a played group tells of the calls that it was asked.
use Rattle.std.specs.Prelude.{◌≡◌, ℕ, ◌+◌, ◌<◌, ◌^◌, List, [], ◌∷◌, ◌++◌, length}
use Rattle.std.specs.List.{AllByRecursion}
use Rattle.harp_types.specs.declared.call.Call.{Call}
use Rattle.harp_types.specs.declared.cred.Cred.{Cred}
use Rattle.group_trace.specs.DiskCalls.{Spellings, measures_of}
use Rattle.group_trace.specs.DiskRun.{DiskScene}
use Rattle.rpc_door.specs.declared.group.Exchange.{Exchange}
use Rattle.rpc_door.specs.declared.group.GroupFault.{GroupFault}
use Rattle.rpc_door.specs.declared.group.GroupFault.TheVariants.{Failed}
use Rattle.door_play.specs.Laws.{HasBytes}
use Rattle.door_play.specs.Played.{HasAnswered, HasGivenUp, IsLeft, calls_of}

-- each of these calls was made by this user and group, and there are fewer than 2^62
pub record AreOf (cred : Cred) (made : List Exchange) : Type 0 where
  pub creds : AllByRecursion (λ x. x.cred ≡ cred) made
  pub few : length made < 2 ^ 62

-- a group with this number for its next call has answered these calls, and as long as it goes on it
-- stands where they led
pub record HasToldOf (f : Spellings) (next : ℕ) (goes_on : Type 0) (stands : DiskScene → Type 0)
    (cred : Cred) (made : List Exchange) : Type 0 where
  pub answered : HasAnswered f cred made
  pub next_is : next ≡ length made + 1
  pub left : goes_on → IsLeft f cred made stands

abbrev pub HasTold : Spellings → ℕ → Type 0 → (DiskScene → Type 0) → Cred → List Exchange → Type 0
HasTold f next goes_on stands cred made =
    HasBytes (measures_of f) → AreOf cred made → HasToldOf f next goes_on stands cred made

-- it has given up a call behind others by the same user and group
abbrev pub GivesUp : Spellings → (DiskScene → Type 0) → GroupFault → Cred → List Exchange → Cred
    → Call → Type 0
GivesUp f stands why cred made by c =
    HasBytes (measures_of f) → AreOf cred made → by ≡ cred → why ≡ Failed
    → HasGivenUp f cred (calls_of made ++ c ∷ []) stands
