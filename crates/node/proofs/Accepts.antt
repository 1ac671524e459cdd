-- How a storer accepts its view.
use Rattle.std.proofs.Common.{◌≡◌, ℕ, Bool, true, false, List, [], ◌∷◌, Option, Some, refl, ap, sym, ◌∙◌, ◌==◌, subst, inl, inr, if◌then◌else◌}
use Rattle.std.specs.Prelude.{map}
use Rattle.event_record.specs.Record.{entry_of}
use Rattle.event_record.specs.declared.record.RecordFields.{RecordFields}
use Rattle.file_tree.specs.Book.{Entry}
use Rattle.group_rules.proofs.Tests.{all_true, eq_is, if_is}
use Rattle.group_rules.specs.Effects.{NewLog, accepting, fitting}
use Rattle.group_rules.specs.Form.{accept_moves, adopted, role_of as role_in}
use Rattle.group_rules.specs.Moves.{Accepting, Hearing, Move, Sending, acts}
use Rattle.group_rules.specs.Names.{number_of_view, place_of}
use Rattle.group_rules.specs.Open.{on_formed}
use Rattle.group_rules.specs.Places.{Place, Trio, all_of, get, leader, nobody, partner, same, with_at}
use Rattle.group_rules.specs.State.{Follows, Formed, Leads, Message, Plan, Role, Server}
use Rattle.harp_types.specs.View.{View}
use Rattle.harp_types.specs.declared.server.ServerId.{ServerId}
use Rattle.harp_store.specs.Disk.{MayHaveMade, Moments, after_step, with_mark}
use Rattle.harp_store.specs.Mark.{MarkFields}
use Rattle.idle_log.specs.Kept.{plan_of}
use Rattle.idle_log.specs.Pulls.{TakesUp}
use Rattle.idle_log.specs.declared.form.Form.{Form}
use Rattle.idle_log.specs.declared.kept.Kept.{Kept}
use Rattle.idle_log.specs.LogLaws.{new_log}
use Rattle.node.proofs.Calls.{AreSilent, mute}
use Rattle.node.proofs.Led.{as_led, leads_on}
use Rattle.node.proofs.Saying.{unsaid}
use Rattle.node.proofs.Storers.{role_back, storers_are_led}
use Rattle.node.specs.Disk.{MayLeave, marked_by, write_mark}
use Rattle.node.specs.Forming.{Accepted, accepted_mark, joined_with, telling}
use Rattle.node.specs.Node.{NodeValue, server, value}
use Rattle.node.specs.State.{Fits, IsActive, IsLeading, heard_of, outer}
use Rattle.node.specs.declared.state.Joining.{Joining}
use Rattle.node.specs.declared.state.State.{State}
use Rattle.node.specs.declared.state.State.TheVariants as state
use Rattle.node.specs.declared.state.Task.{Task}
use Rattle.node.specs.declared.state.Task.TheVariants as task
use Rattle.node_outputs.proofs.Makes.{makes_then}
use Rattle.node_outputs.specs.Makes.{IsMute, Makes}
use Rattle.node_outputs.specs.Said.{said}
use Rattle.node_outputs.specs.declared.outputs.Outputs.{Outputs}
use Rattle.promise.specs.Promise.{HorizonValue}
use Rattle.replica.specs.Leading.{Leading, Outer, led, partner_of, place_led, storers_led, waiting}
use Rattle.replica.specs.declared.leader.Beside.{Beside}
use Rattle.volatile_log.specs.Log.{LogValue}

-- ---- the moves

silent_if : (b : Bool) (to : Place) (m : Message Entry)
    → AreSilent (if b then Sending to m ∷ [] else [])
silent_if true to m = (tt, tt)
silent_if false to m = tt

pub silent_telling : (q : Place) (v : ℕ) (plan : Plan) (lb : ℕ) → AreSilent (telling q v plan lb)
silent_telling q v plan lb = silent_if (same q (partner plan.storers)) (leader plan.storers)
    (Formed v lb)

pub mute_telling : (q : Place) (v : ℕ) (plan : Plan) (lb : ℕ) → IsMute (telling q v plan lb)
mute_telling q v plan lb = mute (telling q v plan lb) (silent_telling q v plan lb)

-- a server that took up its log and told it
pub accepts : (q : Place) (clock : ℕ) (s new : Server Entry) (plan : Plan) (staged : List Entry)
    (n : NewLog Entry) (before after : Outputs) → n ≡ adopted q s plan staged
    → new ≡ accepting s plan (role_in plan.storers q) n
    → Makes q clock (telling q s.promised plan n.lb) [] new new before after
    → Makes q clock (accept_moves q s plan staged) [] s new before after
accepts q clock s new plan staged n before after is made tells =
    let log = adopted q s plan staged in
    let role = role_in plan.storers q in
    let first : Makes q clock (Accepting plan role log ∷ []) [] s new before before = record {
      state = made ∙ ap (accepting s plan role) is;
      said = unsaid (said before);
    } in
    let second = subst (λ (x : NewLog Entry). Makes q clock (telling q s.promised plan x.lb) []
    new new before after) is tells in
    makes_then q clock (Accepting plan role log ∷ []) (telling q s.promised plan log.lb) [] []
    s new new before before after first second (mute_telling q s.promised plan log.lb)

-- ---- the mark

unmarked : (b : Bool) (to : Place) (m : Message Entry) (mark : MarkFields)
    → marked_by mark (if b then Sending to m ∷ [] else []) ≡ mark
unmarked true to m mark = refl
unmarked false to m mark = refl

pub accept_marks : (q : Place) (s : Server Entry) (plan : Plan) (staged : List Entry)
    (n : NewLog Entry) (mark : MarkFields) → n ≡ adopted q s plan staged
    → accepted_mark mark (role_in plan.storers q) n.lb
    ≡ marked_by mark (accept_moves q s plan staged)
accept_marks q s plan staged n mark is =
    ap (λ (x : NewLog Entry). accepted_mark mark (role_in plan.storers q) x.lb) is
    ∙ sym (unmarked (same q (partner plan.storers)) (leader plan.storers)
    (Formed s.promised (adopted q s plan staged).lb)
    (accepted_mark mark (role_in plan.storers q) (adopted q s plan staged).lb))

-- what a failed call leaves of the mark
pub may_leave : (ms : List (Move Entry)) (m k : MarkFields) (old new : Option Moments)
    → write_mark ms ≡ true → m ≡ k → MayHaveMade (with_mark m) old new → MayLeave ms k old new
may_leave ms m k old new writes is (inl h) = inl h
may_leave ms m k old new writes is (inr h) =
    inr (writes, h ∙ ap (λ (x : MarkFields). after_step (with_mark x) old) is)

-- ---- the leader

-- it leads by this plan
pub waits : (me : ServerId) (v : ℕ) (form : Form) (log : LogValue) (b : Beside) (mark : MarkFields)
    → same (place_of me) (leader (plan_of form).storers) ≡ true
    → partner_of b ≡ partner (plan_of form).storers
    → IsActive mark v (role_in (plan_of form).storers (place_of me)) log.lb
    → IsLeading (place_of me) mark (waiting v b form.start form.horizon log) (plan_of form)
waits me v form log b mark leads beside is =
    let pair = (plan_of form).storers in
    let place = storers_are_led pair b (place_of me) leads beside in
    record {
      mark = record {
        promised = is.promised;
        accepted = is.accepted;
        role = is.role ∙ if_is (same (place_of me) (leader pair)) (Leads (partner pair))
            (Follows (leader pair)) leads ∙ ap Leads (sym beside);
        lb = is.lb;
        saved = is.saved;
      };
      storers = place.0;
      start = refl;
      horizon = refl;
      place = place.1;
    }

-- the server of a leader that accepted, whichever Formed it keeps
led_accepted : (me : ServerId) (v : ℕ) (form : Form) (log : LogValue) (joining : Joining)
    (b : Beside) (mark : MarkFields) (horizon : HorizonValue) (served : ℕ) (duty : Task)
    (before : State) (kept : Kept) (items : List Entry) (heard : Trio (Option ℕ))
    → same (place_of me) (leader (plan_of form).storers) ≡ true
    → partner_of b ≡ partner (plan_of form).storers → number_of_view mark.promised ≡ v
    → heard ≡ fitting (plan_of form)
    (get (heard_of joining.formed) (partner (plan_of form).storers))
    → let plan = plan_of form in
    let role = role_in plan.storers (place_of me) in
    record (led (waiting v b form.start form.horizon log)
    (outer me (accepted_mark mark role log.lb) horizon form.start duty form)) { heard = heard }
    ≡ accepting (joined_with (server (value me mark horizon served duty before) items) kept
    joining)
    plan role (new_log log)
led_accepted me v form log joining b mark horizon served duty before kept items heard leads beside
    promised hears =
    let plan = plan_of form in
    let pair = plan.storers in
    let role : role_in pair (place_of me) ≡ Leads (partner_of b) =
    if_is (same (place_of me) (leader pair)) (Leads (partner pair)) (Follows (leader pair)) leads
    ∙ ap Leads (sym beside) in
    let storers : storers_led b (place_of me) ≡ pair =
    sym (storers_are_led pair b (place_of me) leads beside).0 in
    rw (hears, role, promised, storers) refl

-- the mark of a storer that accepts is an active one
active_mark : (mark : MarkFields) (v : ℕ) (role : Role) (lb : ℕ) → number_of_view mark.promised ≡ v
    → IsActive (accepted_mark mark role lb) v role lb
active_mark mark v role lb promised = record {
  promised = promised;
  accepted = promised;
  role = role_back role;
  lb = refl;
  saved = refl;
}

-- and one that keeps its partner's
tested : (v : ℕ) → all_of ((v == v) ∷ true ∷ []) ≡ true
tested v = all_true ((v == v) ∷ true ∷ []) (eq_is v v refl, (refl, tt))

abbrev pub HearsFormed : Leading → Leading → ℕ → Type 0
HearsFormed l m lb = (o : Outer) (clock : ℕ) → let s = led l o in
    led m o ≡ acts (place_led l o) clock s (on_formed s (partner_of l.beside) s.accepted lb)

hears_as : (v : ℕ) (b : Beside) (start horizon : ℕ) (log : LogValue) (m : Leading) (lb : ℕ)
    → let l = waiting v b start horizon log in HearsFormed l m lb → (o : Outer)
    → led m o ≡ acts (place_led l o) 0 (led l o) (Hearing (partner_of b) lb ∷ [])
hears_as v b start horizon log m lb made o =
    let l = waiting v b start horizon log in
    made o 0 ∙ ap (acts (place_led l o) 0 (led l o))
    (if_is (all_of ((v == v) ∷ true ∷ [])) (Hearing (partner_of b) lb ∷ []) [] (tested v))

pub accepted_formed : (me : ServerId) (v : ℕ) (form : Form) (log : LogValue) (joining : Joining)
    (b : Beside) (m : Leading) (lb : ℕ)
    → same (place_of me) (leader (plan_of form).storers) ≡ true
    → partner_of b ≡ partner (plan_of form).storers
    → with_at nobody (partner (plan_of form).storers) (Some lb) ≡ fitting (plan_of form)
    (get (heard_of joining.formed) (partner (plan_of form).storers))
    → HearsFormed (waiting v b form.start form.horizon log) m lb
    → Accepted me v form log joining (state.Leads m form)
accepted_formed me v form log joining b m lb leads beside hears made =
    let role = role_in (plan_of form).storers (place_of me) in
    let l = waiting v b form.start form.horizon log in
    let lead : (mark : MarkFields) (horizon : HorizonValue) (served : ℕ) (duty : Task)
    → IsActive mark v role log.lb → IsLeading (place_of me) mark m (plan_of form) =
    λ mark horizon served duty is. leads_on me mark horizon served duty l m form
    (place_led l (outer me mark horizon served duty form)) 0 (Hearing (partner_of b) lb ∷ [])
    (waits me v form log b mark leads beside is) ((tt, tt))
    (hears_as v b form.start form.horizon log m lb made (outer me mark horizon served duty form))
    in
    record {
      up = refl;
      fits = λ mark is. lead mark (record { until = 0; delta = 0 }) 0 task.Free is;
      server = λ mark horizon served duty before kept items promised.
          as_led me (accepted_mark mark role log.lb) horizon form.start duty m form items
          (lead (accepted_mark mark role log.lb) horizon form.start duty
          (active_mark mark v role log.lb promised))
          ∙ hears_as v b form.start form.horizon log m lb made
          (outer me (accepted_mark mark role log.lb) horizon form.start duty form)
          ∙ led_accepted me v form log joining b mark horizon served duty before kept items
          (with_at nobody (partner_of b) (Some lb)) leads beside promised
          (ap (λ (p : Place). with_at nobody p (Some lb)) beside ∙ hears);
    }

-- ---- at a node

pub node_active : (me : ServerId) (view : View) (mark new : MarkFields) (form : Form)
    (log : LogValue) (joining : Joining) (st : State)
    → new ≡ accepted_mark mark (role_in (plan_of form).storers (place_of me)) log.lb
    → view ≡ mark.promised → Accepted me (number_of_view view) form log joining st
    → Fits (place_of me) new st
node_active me view mark new form log joining st is same accepted =
    let role = role_in (plan_of form).storers (place_of me) in
    accepted.fits new
    (subst (λ (m : MarkFields). IsActive m (number_of_view view) role log.lb) (sym is)
    (active_mark mark (number_of_view view) role log.lb (sym (ap number_of_view same))))

pub node_accepts : (me : ServerId) (mark new : MarkFields) (horizon : HorizonValue) (served : ℕ)
    (duty : Task) (before : State) (n : NodeValue) (view : View) (kept : Kept)
    (joining : Joining) (form : Form) (staged : List RecordFields) (log : LogValue) (st : State)
    (lb : ℕ)
    (items : List Entry) (clock : ℕ) (o p : Outputs)
    → value me mark horizon served duty before ≡ n
    → new ≡ accepted_mark mark (role_in (plan_of form).storers (place_of me)) log.lb
    → lb ≡ log.lb → view ≡ mark.promised → TakesUp (place_of me) kept (plan_of form) staged log
    → Accepted me (number_of_view view) form log joining st
    → ((s : Server Entry) (clock : ℕ) → Makes (place_of me) clock
    (telling (place_of me) (number_of_view view) (plan_of form) lb) [] s s o p)
    → let s = joined_with (server n items) kept joining in
    Makes n.me clock (accept_moves n.me s (plan_of form) (map entry_of staged)) [] s
    (server (value me new horizon form.start duty st) items) o p
node_accepts me mark new horizon served duty before n view kept joining form staged log st lb
    items clock o p is marks low same takes accepted tells =
    let plan = plan_of form in
    let q = place_of me in
    let role = role_in plan.storers q in
    let old = value me mark horizon served duty before in
    let s = joined_with (server old items) kept joining in
    let after : MarkFields → Server Entry =
    λ m. server (value me m horizon form.start duty st) items in
    let at_end = after (accepted_mark mark role log.lb) in
    let told = subst (λ (w : View). Makes q clock (telling q (number_of_view w) plan log.lb) []
    at_end at_end o p) same
    (subst (λ (l : ℕ). Makes q clock (telling q (number_of_view view) plan l) [] at_end at_end
    o p) low (tells at_end clock)) in
    let made : Makes q clock (accept_moves q s plan (map entry_of staged)) [] s
    (after (accepted_mark mark role log.lb)) o p =
    accepts q clock s (after (accepted_mark mark role log.lb)) plan (map entry_of staged)
    (new_log log) o p (takes.adopts (server old items))
    (accepted.server mark horizon served duty before kept items (sym (ap number_of_view same)))
    told in
    subst (λ (n : NodeValue). let s = joined_with (server n items) kept joining in
    Makes n.me clock (accept_moves n.me s plan (map entry_of staged)) [] s (after new) o p) is
    (subst (λ (m : MarkFields). Makes q clock (accept_moves q s plan (map entry_of staged)) [] s
    (after m) o p) (sym marks) made)

pub node_marks : (me : ServerId) (mark new : MarkFields) (horizon : HorizonValue) (served : ℕ)
    (duty : Task) (before : State) (n : NodeValue) (kept : Kept) (joining : Joining)
    (form : Form) (staged : List RecordFields) (log : LogValue)
    → value me mark horizon served duty before ≡ n
    → new ≡ accepted_mark mark (role_in (plan_of form).storers (place_of me)) log.lb
    → TakesUp (place_of me) kept (plan_of form) staged log
    → new ≡ marked_by n.mark (accept_moves n.me (joined_with n.plain kept joining) (plan_of form)
    (map entry_of staged))
node_marks me mark new horizon served duty before n kept joining form staged log is marks takes =
    let plan = plan_of form in
    let q = place_of me in
    let old = value me mark horizon served duty before in
    subst (λ (n : NodeValue). new ≡ marked_by n.mark (accept_moves n.me
    (joined_with n.plain kept joining) plan (map entry_of staged))) is
    (marks ∙ accept_marks q (joined_with old.plain kept joining) plan (map entry_of staged)
    (new_log log) mark (takes.adopts old.plain))

-- what is left of the mark after an error
pub node_leaves : (q : Place) (s : Server Entry) (plan : Plan) (items : List Entry)
    (new mark : MarkFields) (old told : Option Moments)
    → new ≡ marked_by mark (accept_moves q s plan items) → MayHaveMade (with_mark new) old told
    → let ms = accept_moves q s plan items in MayLeave ms (marked_by mark ms) old told
node_leaves q s plan items new mark old told is made =
    may_leave (accept_moves q s plan items) new (marked_by mark (accept_moves q s plan items)) old
    told refl is made
