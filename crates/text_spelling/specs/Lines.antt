-- The one spelling of what a trace shows of causes, views and states.
use Rattle.std.specs.Prelude.{ℕ, ◌≢◌, List, ◌∷◌, ◌++◌, Option, Some, None, codes, decimal}
use Rattle.std.specs.List.{AllByRecursion}
use Rattle.harp_types.specs.Server.{number_of}
use Rattle.harp_types.specs.View.{View}
use Rattle.harp_types.specs.declared.server.ServerId.{ServerId}
use Rattle.harp_types.specs.declared.state.Mode.{Mode}
use Rattle.harp_types.specs.declared.state.Mode.TheVariants as mode
use Rattle.harp_types.specs.declared.state.Role.{Role}
use Rattle.harp_types.specs.declared.state.Role.TheVariants as role
use Rattle.harp_types.specs.declared.state.Held.{Held}
use Rattle.harp_types.specs.declared.state.Held.TheVariants as held
use Rattle.harp_types.specs.declared.state.StateLine.{StateLine}
use Rattle.harp_types.specs.declared.cause.Cause.{Cause}
use Rattle.harp_types.specs.declared.cause.Cause.TheVariants as cause
use Rattle.text_spelling.specs.Text.{spaced}

-- the server that leads, or a dash for none
abbrev pub hint_text : Option ServerId → List ℕ
hint_text None = codes "-"
hint_text (Some server) = decimal (number_of server)

abbrev pub cause_text : Cause → List ℕ
cause_text cause.BadClient = codes "bad-client"
cause_text (cause.NotLeader hint) = codes "not-leader" ++ spaced (hint_text hint)
cause_text cause.NotYetOpen = codes "not-yet-open"
cause_text cause.NoPromise = codes "no-promise"
cause_text cause.LogFull = codes "log-full"
cause_text cause.Old = codes "old"

-- ---- views and states

-- the count and the coordinator
unfoldable pub view_text : View → List ℕ
view_text v = decimal v.count ++ 46 ∷ decimal (number_of v.coordinator)

abbrev pub mode_text : Mode → List ℕ
mode_text mode.Rests = codes "rests"
mode_text mode.Calls = codes "calls"
mode_text mode.Joined = codes "joined"
mode_text mode.Pulls = codes "pulls"
mode_text mode.Waits = codes "waits"
mode_text mode.Open = codes "open"
mode_text mode.Live = codes "live"

-- the server's part, and the other storer of the view or a dash
abbrev pub role_text : Role → List ℕ
role_text (role.Leads partner) = codes "leads" ++ spaced (decimal (number_of partner))
role_text (role.Follows leader) = codes "follows" ++ spaced (decimal (number_of leader))
role_text role.Outside = codes "outside" ++ spaced (codes "-")

abbrev pub held_text : Held → List ℕ
held_text held.Empty = codes "empty"
held_text held.Held = codes "held"
held_text held.Lost = codes "lost"

-- mode, promised and accepted view, role, what is held, and then the base, LB, AP, CP and top
unfoldable pub state_text : StateLine → List ℕ
state_text s =
    mode_text s.mode ++ spaced (view_text s.promised) ++ spaced (view_text s.accepted)
    ++ spaced (role_text s.role) ++ spaced (held_text s.held)
    ++ (spaced (decimal s.base) ++ spaced (decimal s.lb) ++ spaced (decimal s.ap)
    ++ spaced (decimal s.cp) ++ spaced (decimal s.top))

-- no byte ends a line
abbrev pub IsOneLine : List ℕ → Type 0
IsOneLine text = AllByRecursion (λ b. b ≢ 10) text
