-- The leader or the partner that a server is.
use Rattle.std.specs.Prelude.{Bool, true, false, if◌then◌else◌}
use Rattle.node.specs.declared.state.State.{State}
use Rattle.node.specs.declared.state.State.TheVariants as state

abbrev pub is_led : State → Bool
is_led state.Gone = false
is_led (state.Rests kept) = false
is_led (state.Joined kept joining) = false
is_led (state.Pulls kept joining plan staged) = false
is_led (state.Leads leader plan) = true
is_led (state.Follows partner plan) = false

abbrev pub is_followed : State → Bool
is_followed state.Gone = false
is_followed (state.Rests kept) = false
is_followed (state.Joined kept joining) = false
is_followed (state.Pulls kept joining plan staged) = false
is_followed (state.Leads leader plan) = false
is_followed (state.Follows partner plan) = true

-- either of them
abbrev pub is_active : State → Bool
is_active s = if is_led s then true else is_followed s
