-- Joins and choices as the group's machine has them.
use Rattle.std.specs.Prelude.{Option, None, Some, option_map, is_some, if◌then◌else◌}
use Rattle.harp_types.specs.declared.server.ServerId.{ServerId}
use Rattle.harp_types.specs.declared.state.Held.{Held as Had}
use Rattle.harp_types.specs.declared.state.Held.TheVariants as had
use Rattle.harp_types.specs.Trio.{with_value}
use Rattle.harp_types.specs.declared.trio.Trio.{Trio as Each}
use Rattle.group_rules.specs.Choose.{choose, greatest}
use Rattle.group_rules.specs.Names.{id_of, number_of_view, place_of, view_of}
use Rattle.group_rules.specs.Places.{Pair, Place, S01, S02, S12, Trio, leader, partner}
use Rattle.group_rules.specs.State.{Empty, Held, Log, Lost, Plan as Chosen, Report}
use Rattle.harp_types.specs.View.{View}
use Rattle.view_form.specs.declared.join.JoinInfo.{JoinInfo}
use Rattle.view_form.specs.declared.plan.Plan.{Plan}
use Rattle.view_form.specs.declared.plan.Storers.{Storers}
use Rattle.view_form.specs.declared.plan.Storers.TheVariants as storers

abbrev pub held_of : Had → Held
held_of had.Empty = Empty
held_of had.Held = Log
held_of had.Lost = Lost

-- what a join reports
abbrev pub report : JoinInfo → Report
report join = record {
  held = held_of join.held;
  accepted = number_of_view join.accepted;
  base = join.base;
  lb = join.lb;
  cp = join.cp;
  top = join.top;
  horizon = join.horizon;
}

abbrev pub reports : Each (Option JoinInfo) → Trio (Option Report)
reports joins = record {
  zero_th = option_map report joins.zero;
  one_th = option_map report joins.one;
  two_th = option_map report joins.two;
}

abbrev pub pair : Storers → Pair
pair storers.ZeroOne = S01
pair storers.ZeroTwo = S02
pair storers.OneTwo = S12

abbrev pub source : ServerId × JoinInfo → Place × Report
source best = (place_of best.0, report best.1)

-- a choice of the machine, for a view that starts from this one, as a plan
abbrev pub plan : View → Chosen → Plan
plan from p = record {
  leader = id_of (leader p.storers);
  partner = id_of (partner p.storers);
  source = id_of p.source;
  from = from;
  base = p.base;
  cp = p.cp;
  start = p.start;
  horizon = p.horizon;
}

-- the machine's choice of these joins
abbrev pub choice : Each (Option JoinInfo) → Option Plan
choice joins = option_map (plan (view_of (greatest (reports joins)))) (choose (reports joins))

-- what a coordinator has: its view, and the joins up to the first that allows a choice
pub record Collected : Type 0 where
  pub view : View
  pub joins : Each (Option JoinInfo)

-- a join is taken while none allowed a choice
abbrev pub collected : Collected → ServerId → JoinInfo → Collected
collected c from join =
    if is_some (choice c.joins) then c else record c { joins = with_value c.joins from (Some join) }

-- the choice that it allows, where it is the first that allows one
abbrev pub chosen_at : Collected → ServerId → JoinInfo → Option Plan
chosen_at c from join = if is_some (choice c.joins) then None else choice
    (with_value c.joins from (Some join))
