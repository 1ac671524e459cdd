-- What a trace shows of a server, and back.
use Rattle.std.proofs.Common.{◌≡◌, ◌+◌, ℕ, List, length, map, refl, ap, sym, ◌∙◌, subst, arith}
use Rattle.std.proofs.lemmas.List.{length-map}
use Rattle.event_record.specs.Record.{entry_of}
use Rattle.file_tree.specs.Book.{Entry}
use Rattle.group_rules.specs.Limits.{by_held}
use Rattle.group_rules.specs.Names.{id_of, number_of_view, place_of, view_of}
use Rattle.group_rules.specs.Shown.{held_shown, mode_joined, mode_shown, role_shown, state_of}
use Rattle.group_rules.specs.State.{Log, Lost}
use Rattle.harp_store.specs.Mark.{MarkFields}
use Rattle.harp_types.specs.declared.server.ServerId.{ServerId}
use Rattle.harp_types.specs.declared.server.ServerId.TheVariants as server
use Rattle.harp_types.specs.declared.state.Role.{Role}
use Rattle.harp_types.specs.declared.state.Role.TheVariants as role
use Rattle.harp_types.specs.declared.state.Mode.{Mode}
use Rattle.harp_types.specs.declared.state.Mode.TheVariants as mode
use Rattle.harp_types.specs.declared.state.StateLine.{StateLine}
use Rattle.idle_log.specs.Kept.{ap_in, base_in, cp_in, held_in, items_in, lb_in, log_in, plan_of}
use Rattle.idle_log.specs.declared.form.Form.{Form}
use Rattle.idle_log.specs.declared.kept.Kept.{Kept}
use Rattle.idle_log.specs.declared.kept.Kept.TheVariants as kept
use Rattle.node.specs.Node.{NodeValue, server as server_of, value}
use Rattle.node.specs.Showing.{line_of}
use Rattle.node.specs.State.{Fits, IsFollowing, IsKept, IsLeading, duty_of, role_of}
use Rattle.node.specs.declared.state.Joining.{Joining}
use Rattle.node.specs.declared.state.State.{State}
use Rattle.node.specs.declared.state.State.TheVariants as state
use Rattle.node.specs.declared.state.Task.{Task}
use Rattle.promise.specs.Promise.{HorizonValue}
use Rattle.replica.specs.Following.{Following, mode_followed}
use Rattle.replica.specs.Leading.{Leading, mode_led}
use Rattle.view_form.proofs.Views.{view_back}
use Rattle.volatile_log.specs.Log.{LogValue, StagedValue}

pub id_back : (s : ServerId) → id_of (place_of s) ≡ s
id_back server.Zero = refl
id_back server.One = refl
id_back server.Two = refl

pub role_back : (r : Role) → role_shown (role_of r) ≡ r
role_back (role.Leads server.Zero) = refl
role_back (role.Leads server.One) = refl
role_back (role.Leads server.Two) = refl
role_back (role.Follows server.Zero) = refl
role_back (role.Follows server.One) = refl
role_back (role.Follows server.Two) = refl
role_back role.Outside = refl

-- what a trace shows of a log, where the mark's LB is the log's
pub line_log : (mark : MarkFields) (mode : Mode) (log : LogValue) → log.lb ≡ mark.lb
    → line_of mark mode (held_shown Log) log ≡ record {
      mode = mode;
      promised = view_of (number_of_view mark.promised);
      accepted = view_of (number_of_view mark.accepted);
      role = role_shown (role_of mark.role);
      held = held_shown Log;
      base = log.base;
      lb = mark.lb;
      ap = log.ap;
      cp = log.cp;
      top = log.base + length (map entry_of log.records);
    }
line_log mark mode log low =
    rw (
      view_back mark.promised,
      view_back mark.accepted,
      role_back mark.role,
      low,
      length-map log.records entry_of,
    ) refl

-- and of what is kept
pub line_kept : (mark : MarkFields) (mode : Mode) (k : Kept) → lb_in mark.lb k ≡ mark.lb
    → line_of mark mode (held_shown (held_in k)) (log_in k) ≡ record {
      mode = mode;
      promised = view_of (number_of_view mark.promised);
      accepted = view_of (number_of_view mark.accepted);
      role = role_shown (role_of mark.role);
      held = held_shown (held_in k);
      base = by_held (held_in k) (base_in k) mark.lb;
      lb = by_held (held_in k) mark.lb mark.lb;
      ap = by_held (held_in k) (ap_in k) mark.lb;
      cp = by_held (held_in k) (cp_in k) mark.lb;
      top = by_held (held_in k) (base_in k + length (items_in k)) mark.lb;
    }
line_kept mark mode (kept.Held log) low = line_log mark mode log low
line_kept mark mode (kept.Lost n) low =
    let line : ℕ → ℕ → StateLine = λ x t. record {
      mode = mode;
      promised = mark.promised;
      accepted = mark.accepted;
      role = mark.role;
      held = held_shown Lost;
      base = x;
      lb = x;
      ap = x;
      cp = x;
      top = t;
    } in
    let whole : mark.lb + 0 ≡ mark.lb = omega arith in
    rw (view_back mark.promised, view_back mark.accepted, role_back mark.role)
    (ap (λ (x : ℕ). line x (x + 0)) low ∙ ap (line mark.lb) whole)
line_kept mark mode (kept.Empty e) low =
    rw (view_back mark.promised, view_back mark.accepted, role_back mark.role) refl

-- ---- a server, as a trace shows it

module _ (me : ServerId) (mark : MarkFields) (horizon : HorizonValue) (served : ℕ) (duty : Task)
    (s : State) (n : NodeValue) (is : value me mark horizon served duty s ≡ n)
    (fits : Fits (place_of me) mark s) (items : List Entry) (line : StateLine) where
  in_state : (t : State) → s ≡ t
      → state_of (server_of (value me mark horizon served duty t) items)
      ≡ state_of (server_of n items)
  in_state t at = ap (λ (x : State). state_of
      (server_of (value me mark horizon served duty x) items)) (sym at)
      ∙ ap (λ (x : NodeValue). state_of (server_of x items)) is

  pub shown_rests : (k : Kept) → s ≡ state.Rests k
      → line ≡ line_of mark mode.Rests (held_shown (held_in k)) (log_in k)
      → line ≡ state_of (server_of n items)
  shown_rests k at made =
      let own : IsKept (place_of me) mark k = subst (Fits (place_of me) mark) at fits in
      made ∙ line_kept mark mode.Rests k own.lb ∙ in_state (state.Rests k) at

  pub shown_joined : (k : Kept) (joining : Joining) (m : Mode) → s ≡ state.Joined k joining
      → m ≡ mode_joined (duty_of duty)
      → line ≡ line_of mark m (held_shown (held_in k)) (log_in k)
      → line ≡ state_of (server_of n items)
  shown_joined k joining m at same made =
      let own : IsKept (place_of me) mark k = (subst (Fits (place_of me) mark) at fits).0 in
      made ∙ ap (λ (x : Mode). line_of mark x (held_shown (held_in k)) (log_in k)) same
      ∙ line_kept mark (mode_joined (duty_of duty)) k own.lb
      ∙ in_state (state.Joined k joining) at

  pub shown_pulls : (k : Kept) (joining : Joining) (plan : Form) (staged : StagedValue)
      → s ≡ state.Pulls k joining plan staged
      → line ≡ line_of mark mode.Pulls (held_shown (held_in k)) (log_in k)
      → line ≡ state_of (server_of n items)
  shown_pulls k joining plan staged at made =
      let own : IsKept (place_of me) mark k = (subst (Fits (place_of me) mark) at fits).0 in
      made ∙ line_kept mark mode.Pulls k own.lb ∙ in_state (state.Pulls k joining plan staged) at

  pub shown_leads : (leader : Leading) (plan : Form) (m : Mode) (log : LogValue)
      → s ≡ state.Leads leader plan → m ≡ mode_shown (mode_led leader.opened) (duty_of duty)
      → log ≡ leader.log → line ≡ line_of mark m (held_shown Log) log
      → line ≡ state_of (server_of n items)
  shown_leads leader plan m log at same own made =
      let leads : IsLeading (place_of me) mark leader (plan_of plan) =
      subst (Fits (place_of me) mark) at fits in
      let shows = mode_shown (mode_led leader.opened) (duty_of duty) in
      made ∙ ap (λ (x : Mode). line_of mark x (held_shown Log) log) same
      ∙ ap (λ (x : LogValue). line_of mark shows (held_shown Log) x) own
      ∙ line_log mark shows leader.log (sym leads.mark.lb) ∙ in_state (state.Leads leader plan) at

  pub shown_follows : (partner : Following) (plan : Form) (m : Mode) (log : LogValue)
      → s ≡ state.Follows partner plan
      → m ≡ mode_shown (mode_followed partner.settled) (duty_of duty)
      → log ≡ partner.log → line ≡ line_of mark m (held_shown Log) log
      → line ≡ state_of (server_of n items)
  shown_follows partner plan m log at same own made =
      let follows : IsFollowing (place_of me) mark partner (plan_of plan) =
      subst (Fits (place_of me) mark) at fits in
      let shows = mode_shown (mode_followed partner.settled) (duty_of duty) in
      made ∙ ap (λ (x : Mode). line_of mark x (held_shown Log) log) same
      ∙ ap (λ (x : LogValue). line_of mark shows (held_shown Log) x) own
      ∙ line_log mark shows partner.log (sym follows.mark.lb)
      ∙ in_state (state.Follows partner plan) at
