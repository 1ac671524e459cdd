-- The limits of the profile, and tests of modes and logs.
use Rattle.std.specs.Prelude.{ℕ, ◌-◌, ◌^◌, ◌≤◌, ◌||◌, nat_le, Bool, true, false, List, [], ◌∷◌}
use Rattle.harp_types.specs.Limits.{log_room}
use Rattle.group_rules.specs.Places.{Zero, One, Two, Place}
use Rattle.group_rules.specs.State.{Empty, Follows, Held, Joins, Leads, Live, Log, Lost, Mode, Open, Outside, Pulls, Rests, Role, Waits}

-- the greatest view count, and the greatest index
unfoldable pub limit : ℕ
limit = 2 ^ 62 - 1

-- the records that a log has room for
unfoldable pub room : ℕ
room = log_room

-- the most bytes of records in a Give
unfoldable pub give_bytes : ℕ
give_bytes = 48000

-- how long promises may last
abbrev pub IsDelta : ℕ → Type 0
IsDelta d = (500 ≤ d) × (d ≤ 100000)

abbrev pub delta_tests : ℕ → List Bool
delta_tests d = nat_le 500 d ∷ nat_le d 100000 ∷ []

abbrev pub is_log : Held → Bool
is_log Log = true
is_log Lost = false
is_log Empty = false

-- a number of a log: a lost server gives its LB for each, an empty one 0
abbrev pub by_held : Held → ℕ → ℕ → ℕ
by_held Log log lost = log
by_held Lost log lost = lost
by_held Empty log lost = 0

abbrev pub is_joins : Mode → Bool
is_joins Rests = false
is_joins Joins = true
is_joins Pulls = false
is_joins Waits = false
is_joins Open = false
is_joins Live = false

abbrev pub is_pulls : Mode → Bool
is_pulls Rests = false
is_pulls Joins = false
is_pulls Pulls = true
is_pulls Waits = false
is_pulls Open = false
is_pulls Live = false

abbrev pub is_waits : Mode → Bool
is_waits Rests = false
is_waits Joins = false
is_waits Pulls = false
is_waits Waits = true
is_waits Open = false
is_waits Live = false

abbrev pub is_open : Mode → Bool
is_open Rests = false
is_open Joins = false
is_open Pulls = false
is_open Waits = false
is_open Open = true
is_open Live = false

abbrev pub is_live : Mode → Bool
is_live Rests = false
is_live Joins = false
is_live Pulls = false
is_live Waits = false
is_live Open = false
is_live Live = true

-- it joined its promised view in this boot, and hasn't accepted it
abbrev pub is_joining : Mode → Bool
is_joining Rests = false
is_joining Joins = true
is_joining Pulls = true
is_joining Waits = false
is_joining Open = false
is_joining Live = false

-- it accepted its promised view in this boot
abbrev pub is_active : Mode → Bool
is_active m = is_waits m || (is_open m || is_live m)

-- its CP is at least its view's start
abbrev pub is_settled : Mode → Bool
is_settled m = is_open m || is_live m

abbrev pub is_outside : Role → Bool
is_outside Outside = true
is_outside (Leads q) = false
is_outside (Follows q) = false

-- q is the first and p the second named storer of a view
abbrev pub is_pair : Place → Place → Bool
is_pair Zero Zero = false
is_pair Zero One = true
is_pair Zero Two = true
is_pair One Zero = false
is_pair One One = false
is_pair One Two = true
is_pair Two Zero = false
is_pair Two One = false
is_pair Two Two = false

-- a choice can give q this role
abbrev pub can_have : Place → Role → Bool
can_have q (Leads p) = is_pair q p
can_have q (Follows p) = is_pair p q
can_have q Outside = false
