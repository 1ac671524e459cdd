-- What a server is doing as fields of a server of the group's machine, and what stands of it.
use Rattle.std.specs.Prelude.{◌≡◌, ◌≤◌, ℕ, ◌-◌, Bool, true, false, List, [], map, Option, None}
use Rattle.cell_cache.specs.Entries.{Entries}
use Rattle.event_record.specs.Record.{entry_of}
use Rattle.event_record.specs.declared.record.RecordFields.{RecordFields}
use Rattle.file_tree.specs.Book.{Entry}
use Rattle.group_rules.specs.Names.{number_of_view, place_of}
use Rattle.group_rules.specs.Places.{Place, Trio, get, is_in, leader, nobody, partner, same}
use Rattle.group_rules.specs.State.{Chose, Collects, Duty, Follows, Held, Joins, Leads, Log, Lost, Mode, NoDuty, Outside, Plan, Pulls, Report, Rests, Role, no_plan, no_report}
use Rattle.harp_types.specs.declared.peer.Peer.{Peer}
use Rattle.harp_types.specs.declared.server.ServerId.{ServerId}
use Rattle.harp_types.specs.declared.state.Role.{Role as Part}
use Rattle.harp_types.specs.declared.state.Role.TheVariants as part
use Rattle.harp_types.specs.declared.trio.Trio.{Trio as Each}
use Rattle.harp_store.specs.Mark.{MarkFields}
use Rattle.idle_log.specs.Kept.{AtBase, IsPlaced, ap_in as kept_ap, base_in as kept_base, cp_in as kept_cp, held_in as kept_held, items_in as kept_items, lb_in, log_in, plan_of}
use Rattle.idle_log.specs.Pulls.{CanTake, IsFor}
use Rattle.idle_log.specs.declared.form.Form.{Form}
use Rattle.idle_log.specs.declared.kept.Kept.{Kept}
use Rattle.node.specs.declared.state.Joining.{Joining}
use Rattle.node.specs.declared.state.State.{State}
use Rattle.node.specs.declared.state.State.TheVariants as state
use Rattle.node.specs.declared.state.Task.{Task}
use Rattle.node.specs.declared.state.Task.TheVariants as task
use Rattle.promise.specs.Promise.{HorizonValue}
use Rattle.view_form.specs.Choice.{choice, report, reports}
use Rattle.replica.specs.Following.{Following, leader_of, mode_followed, storers_followed}
use Rattle.replica.specs.Leading.{Leading, Outer, heard_from, mode_led, partner_of, storers_led}
use Rattle.volatile_log.specs.Log.{StagedValue}

-- ---- roles, plans, duties

abbrev pub role_of : Part → Role
role_of (part.Leads s) = Leads (place_of s)
role_of (part.Follows s) = Follows (place_of s)
role_of part.Outside = Outside

abbrev pub duty_of : Task → Duty
duty_of task.Free = NoDuty
duty_of (task.Collects c) = Collects (reports c.joins)
duty_of (task.Chose view plan) = Chose (number_of_view view) (plan_of plan)

abbrev pub heard_of : Each (Option ℕ) → Trio (Option ℕ)
heard_of t = record { zero_th = t.zero; one_th = t.one; two_th = t.two }

-- ---- a state, field by field

abbrev pub is_gone : State → Bool
is_gone state.Gone = true
is_gone (state.Rests kept) = false
is_gone (state.Joined kept joining) = false
is_gone (state.Pulls kept joining plan staged) = false
is_gone (state.Leads leader plan) = false
is_gone (state.Follows partner plan) = false

abbrev pub held_in : State → Held
held_in state.Gone = Lost
held_in (state.Rests kept) = kept_held kept
held_in (state.Joined kept joining) = kept_held kept
held_in (state.Pulls kept joining plan staged) = kept_held kept
held_in (state.Leads leader plan) = Log
held_in (state.Follows partner plan) = Log

abbrev pub base_in : State → ℕ
base_in state.Gone = 0
base_in (state.Rests kept) = kept_base kept
base_in (state.Joined kept joining) = kept_base kept
base_in (state.Pulls kept joining plan staged) = kept_base kept
base_in (state.Leads leader plan) = leader.log.base
base_in (state.Follows partner plan) = partner.log.base

abbrev pub ap_in : State → ℕ
ap_in state.Gone = 0
ap_in (state.Rests kept) = kept_ap kept
ap_in (state.Joined kept joining) = kept_ap kept
ap_in (state.Pulls kept joining plan staged) = kept_ap kept
ap_in (state.Leads leader plan) = leader.log.ap
ap_in (state.Follows partner plan) = partner.log.ap

abbrev pub cp_in : State → ℕ
cp_in state.Gone = 0
cp_in (state.Rests kept) = kept_cp kept
cp_in (state.Joined kept joining) = kept_cp kept
cp_in (state.Pulls kept joining plan staged) = kept_cp kept
cp_in (state.Leads leader plan) = leader.log.cp
cp_in (state.Follows partner plan) = partner.log.cp

abbrev pub items_in : State → List Entry
items_in state.Gone = []
items_in (state.Rests kept) = kept_items kept
items_in (state.Joined kept joining) = kept_items kept
items_in (state.Pulls kept joining plan staged) = kept_items kept
items_in (state.Leads leader plan) = map entry_of leader.log.records
items_in (state.Follows partner plan) = map entry_of partner.log.records

-- its log's records, whole
abbrev pub records_in : State → List RecordFields
records_in state.Gone = []
records_in (state.Rests kept) = (log_in kept).records
records_in (state.Joined kept joining) = (log_in kept).records
records_in (state.Pulls kept joining plan staged) = (log_in kept).records
records_in (state.Leads leader plan) = leader.log.records
records_in (state.Follows partner plan) = partner.log.records

abbrev pub mode_in : State → Mode
mode_in state.Gone = Rests
mode_in (state.Rests kept) = Rests
mode_in (state.Joined kept joining) = Joins
mode_in (state.Pulls kept joining plan staged) = Pulls
mode_in (state.Leads leader plan) = mode_led leader.opened
mode_in (state.Follows partner plan) = mode_followed partner.settled

abbrev pub report_in : State → Report
report_in state.Gone = no_report
report_in (state.Rests kept) = no_report
report_in (state.Joined kept joining) = report joining.told
report_in (state.Pulls kept joining plan staged) = report joining.told
report_in (state.Leads leader plan) = no_report
report_in (state.Follows partner plan) = no_report

abbrev pub plan_in : State → Plan
plan_in state.Gone = no_plan
plan_in (state.Rests kept) = no_plan
plan_in (state.Joined kept joining) = no_plan
plan_in (state.Pulls kept joining plan staged) = plan_of plan
plan_in (state.Leads leader plan) = plan_of plan
plan_in (state.Follows partner plan) = plan_of plan

-- how many records a puller wanted none of
abbrev pub wanted_in : State → ℕ
wanted_in state.Gone = 0
wanted_in (state.Rests kept) = 0
wanted_in (state.Joined kept joining) = 0
wanted_in (state.Pulls kept joining plan staged) = staged.first - 1
wanted_in (state.Leads leader plan) = 0
wanted_in (state.Follows partner plan) = 0

abbrev pub staged_in : State → List Entry
staged_in state.Gone = []
staged_in (state.Rests kept) = []
staged_in (state.Joined kept joining) = []
staged_in (state.Pulls kept joining plan staged) = map entry_of staged.records
staged_in (state.Leads leader plan) = []
staged_in (state.Follows partner plan) = []

-- the staged records, whole
abbrev pub pulled_in : State → List RecordFields
pulled_in state.Gone = []
pulled_in (state.Rests kept) = []
pulled_in (state.Joined kept joining) = []
pulled_in (state.Pulls kept joining plan staged) = staged.records
pulled_in (state.Leads leader plan) = []
pulled_in (state.Follows partner plan) = []

abbrev pub heard_in : State → Trio (Option ℕ)
heard_in state.Gone = nobody
heard_in (state.Rests kept) = nobody
heard_in (state.Joined kept joining) = heard_of joining.formed
heard_in (state.Pulls kept joining plan staged) = heard_of joining.formed
heard_in (state.Leads leader plan) = heard_from leader.beside leader.formed
heard_in (state.Follows partner plan) = nobody

-- what a leader was told by its partner's Acks: a top, an LB and a promise
pub record Told : Type 0 where
  pub top : ℕ
  pub lb : ℕ
  pub grant : ℕ

abbrev pub told_in : State → Told
told_in state.Gone = record { top = 0; lb = 0; grant = 0 }
told_in (state.Rests kept) = record { top = 0; lb = 0; grant = 0 }
told_in (state.Joined kept joining) = record { top = 0; lb = 0; grant = 0 }
told_in (state.Pulls kept joining plan staged) = record { top = 0; lb = 0; grant = 0 }
told_in (state.Leads leader plan) = record {
  top = leader.told_top;
  lb = leader.told_lb;
  grant = leader.grant;
}
told_in (state.Follows partner plan) = record { top = 0; lb = 0; grant = 0 }

-- who waits for the records above CP
abbrev pub peers_in : State → List Peer
peers_in state.Gone = []
peers_in (state.Rests kept) = []
peers_in (state.Joined kept joining) = []
peers_in (state.Pulls kept joining plan staged) = []
peers_in (state.Leads leader plan) = leader.peers
peers_in (state.Follows partner plan) = []

-- the cells of its store that a server keeps in memory: a leader or a partner alone keeps any
abbrev pub cached_in : State → Entries
cached_in state.Gone = []
cached_in (state.Rests kept) = []
cached_in (state.Joined kept joining) = []
cached_in (state.Pulls kept joining plan staged) = []
cached_in (state.Leads leader plan) = leader.cached
cached_in (state.Follows partner plan) = partner.cached

-- ---- what stands of a server

-- what a leader or a partner doesn't know of its server
abbrev pub outer : ServerId → MarkFields → HorizonValue → ℕ → Task → Form → Outer
outer me mark horizon served duty plan = record {
  me = place_of me;
  plan = plan_of plan;
  longest = mark.longest;
  served = served;
  duty = duty_of duty;
  delta = horizon.delta;
  horizon = horizon.until;
}

-- what a server keeps without an active log: its LB is the mark's
pub record IsKept (me : Place) (mark : MarkFields) (kept : Kept) : Type 0 where
  pub lb : lb_in mark.lb kept ≡ mark.lb
  pub placed : IsPlaced me kept

-- the mark of a server that accepted its promised view, in which it has this part and LB
pub record IsActive (mark : MarkFields) (view : ℕ) (part : Role) (low : ℕ) : Type 0 where
  pub promised : number_of_view mark.promised ≡ view
  pub accepted : number_of_view mark.accepted ≡ view
  pub role : role_of mark.role ≡ part
  pub lb : mark.lb ≡ low
  pub saved : mark.saved ≡ None

-- the leader is that of the server's view, by this plan
pub record IsLeading (me : Place) (m : MarkFields) (l : Leading) (plan : Plan) : Type 0 where
  pub mark : IsActive m l.view (Leads (partner_of l.beside)) l.log.lb
  pub storers : plan.storers ≡ storers_led l.beside me
  pub start : plan.start ≡ l.start
  pub horizon : plan.horizon ≡ l.horizon
  pub place : leader (storers_led l.beside me) ≡ me

-- the partner is that of the server's view, by this plan
pub record IsFollowing (me : Place) (m : MarkFields) (f : Following) (plan : Plan) : Type 0 where
  pub mark : IsActive m f.view (Follows (leader_of f.ahead)) f.log.lb
  pub storers : plan.storers ≡ storers_followed f.ahead me
  pub start : plan.start ≡ f.start
  pub place : partner (storers_followed f.ahead me) ≡ me
  pub at_base : AtBase me f.log

-- of the Formed that it heard none is its own
abbrev pub HearsOthers : Place → Joining → Type 0
HearsOthers me joining = get (heard_of joining.formed) me ≡ None

-- a storer that pulls can take its part, and isn't the source
pub record IsPulling (me : Place) (kept : Kept) (plan : Plan) (staged : StagedValue) : Type 0 where
  pub can : CanTake me kept plan
  pub list : IsFor me kept plan staged
  pub storer : is_in plan.storers me ≡ true
  pub other : same me plan.source ≡ false

abbrev pub Fits : Place → MarkFields → State → Type 0
Fits me mark state.Gone = Unit {0}
Fits me mark (state.Rests kept) = IsKept me mark kept
Fits me mark (state.Joined kept joining) = IsKept me mark kept × HearsOthers me joining
Fits me mark (state.Pulls kept joining plan staged) =
    IsKept me mark kept × (1 ≤ staged.first) × HearsOthers me joining
    × IsPulling me kept (plan_of plan) staged
Fits me mark (state.Leads leader plan) = IsLeading me mark leader (plan_of plan)
Fits me mark (state.Follows partner plan) = IsFollowing me mark partner (plan_of plan)

-- a coordinator that still collects has no choice yet
abbrev pub CollectsStill : Task → Type 0
CollectsStill task.Free = Unit {0}
CollectsStill (task.Collects c) = choice c.joins ≡ None
CollectsStill (task.Chose view plan) = Unit {0}
