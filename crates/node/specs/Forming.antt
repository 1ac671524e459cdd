-- A server that joined its promised view, and how it accepts the view.
use Rattle.std.specs.Prelude.{◌≡◌, ◌<◌, ℕ, ◌-◌, true, false, List, [], ◌∷◌, map, Option, None, Some, if◌then◌else◌}
use Rattle.event_record.specs.Record.{entry_of}
use Rattle.file_tree.specs.Book.{Entry}
use Rattle.group_rules.specs.Effects.{accepting}
use Rattle.group_rules.specs.Form.{role_of as role_in}
use Rattle.group_rules.specs.Moves.{Move, Sending}
use Rattle.group_rules.specs.Names.{number_of_view, place_of}
use Rattle.group_rules.specs.Places.{Place, Trio, is_in, leader, nobody, partner, same, with_at}
use Rattle.group_rules.specs.State.{Fetch, Formed, Joins, Plan, Pulls, Role, Server, no_plan}
use Rattle.harp_types.specs.declared.server.ServerId.{ServerId}
use Rattle.harp_store.specs.Mark.{MarkFields}
use Rattle.idle_log.specs.Kept.{log_in, plan_of, with_kept}
use Rattle.idle_log.specs.Pulls.{CanTake, IsFor}
use Rattle.idle_log.specs.declared.form.Form.{Form}
use Rattle.idle_log.specs.declared.kept.Kept.{Kept}
use Rattle.idle_log.specs.LogLaws.{new_log}
use Rattle.node.specs.Disk.{part_of}
use Rattle.node.specs.Node.{NodeValue, server, value}
use Rattle.node.specs.State.{Fits, HearsOthers, IsActive, IsKept, heard_of, is_gone}
use Rattle.node.specs.Stock.{stock, stock_kept}
use Rattle.node.specs.declared.pull.Pull.{Pull}
use Rattle.node.specs.declared.state.Joining.{Joining}
use Rattle.node.specs.declared.state.State.{State}
use Rattle.node.specs.declared.state.Task.{Task}
use Rattle.node_outputs.specs.Makes.{Makes}
use Rattle.node_outputs.specs.declared.outputs.Outputs.{Outputs}
use Rattle.promise.specs.Promise.{HorizonValue}
use Rattle.view_form.specs.Choice.{report}
use Rattle.volatile_log.specs.Log.{LogValue, next}

-- the server where it joined with this, and pulls nothing
abbrev pub joined_with : Server Entry → Kept → Joining → Server Entry
joined_with s k j = record (with_kept s k) {
  mode = Joins;
  report = report j.told;
  plan = no_plan;
  wanted_from = 0;
  staged = [];
  heard = heard_of j.formed;
  told_top = 0;
  told_lb = 0;
  grant = 0;
}

-- and where it pulls
abbrev pub pulling_with : Server Entry → Pull → Server Entry
pulling_with s p = record (joined_with s p.kept p.joining) {
  mode = Pulls;
  plan = plan_of p.form;
  wanted_from = p.staged.first - 1;
  staged = map entry_of p.staged.records;
}

-- a node that joined with this, whatever its state is now
abbrev pub joined_node : NodeValue → Kept → Joining → NodeValue
joined_node n k j = record n {
  halted = false;
  plain = joined_with n.plain k j;
  records = (log_in k).records;
  pulled = [];
  peers = [];
  cached = [];
}

-- and one that pulls
abbrev pub pulling_node : NodeValue → Pull → NodeValue
pulling_node n p = record n {
  halted = false;
  plain = pulling_with n.plain p;
  records = (log_in p.kept).records;
  pulled = p.staged.records;
  peers = [];
  cached = [];
}

-- a storer asked the source for the next record, and waits for it
pub record Fetches (pull : Pull) (old new : NodeValue) (before after : Outputs) : Type 0 where
  pub up : new.halted ≡ false
  pub state : (items : List Entry) → server new items ≡ pulling_with (server old items) pull
  pub sends : (s : Server Entry) (clock : ℕ) → Makes old.me clock
      (Sending (plan_of pull.form).source (Fetch old.plain.promised (next pull.staged)) ∷ [])
      [] s s before after
  pub stock : stock new ≡ stock_kept pull.kept pull.staged.records
  pub cached : new.cached ≡ []
  pub mark : new.mark ≡ old.mark

-- the partner of a plan tells the leader that it accepted
abbrev pub telling : Place → ℕ → Plan → ℕ → List (Move Entry)
telling q v plan lb =
    if same q (partner plan.storers) then Sending (leader plan.storers) (Formed v lb) ∷ [] else []

-- a Formed that is kept of this server alone
abbrev pub kept_from : Place → Option ℕ → Trio (Option ℕ)
kept_from p None = nobody
kept_from p (Some lb) = with_at nobody p (Some lb)

-- a storer's mark where it accepted its promised view, with this LB
abbrev pub accepted_mark : MarkFields → Role → ℕ → MarkFields
accepted_mark mark role lb = record mark {
  accepted = mark.promised;
  role = part_of role;
  lb = lb;
  saved = None;
}

-- a storer can accept its promised view with what it has: all records that the view starts with
pub record CanAccept (me : Place) (mark : MarkFields) (pull : Pull) : Type 0 where
  pub kept : IsKept me mark pull.kept
  pub others : HearsOthers me pull.joining
  pub can : CanTake me pull.kept (plan_of pull.form)
  pub list : IsFor me pull.kept (plan_of pull.form) pull.staged
  pub storer : is_in (plan_of pull.form).storers me ≡ true
  pub full : pull.staged.start < next pull.staged

-- what a storer does that has just accepted a view of this plan with this log, where it joined so
pub record Accepted (me : ServerId) (v : ℕ) (form : Form) (log : LogValue) (joining : Joining)
    (state : State) : Type 0 where
  pub up : is_gone state ≡ false
  pub fits : (mark : MarkFields)
      → IsActive mark v (role_in (plan_of form).storers (place_of me)) log.lb
      → Fits (place_of me) mark state
  pub server : (mark : MarkFields) (horizon : HorizonValue) (served : ℕ) (duty : Task)
      (before : State) (kept : Kept) (items : List Entry) → number_of_view mark.promised ≡ v
      → let plan = plan_of form in
      let role = role_in plan.storers (place_of me) in
      server (value me (accepted_mark mark role log.lb) horizon form.start duty state) items
      ≡ accepting
      (joined_with (server (value me mark horizon served duty before) items) kept joining)
      plan role (new_log log)
