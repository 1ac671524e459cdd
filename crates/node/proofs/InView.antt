-- What a node's leader or partner makes, the node makes.
use Rattle.std.proofs.Common.{◌≡◌, ℕ, Bool, true, false, List, [], ◌∷◌, ◌++◌, refl, sym, ap, ◌∙◌, subst, arith, if◌then◌else◌}
use Rattle.std.specs.Prelude.{◌≤◌, ◌+◌, ◌-◌, Option, None, Some, drop, max, nat_le, nat_lt, take}
use Rattle.event_record.specs.declared.record.RecordFields.{RecordFields}
use Rattle.file_tree.specs.Book.{Entry}
use Rattle.group_rules.specs.Limits.{is_open}
use Rattle.group_rules.specs.Moves.{Committing, Move, Noting, Sending, acts}
use Rattle.group_rules.specs.Names.{place_of}
use Rattle.group_rules.specs.Open.{open_heard, open_moves, open_tests, try_open}
use Rattle.group_rules.specs.Places.{Two, Place, all_of, get, is_s01, partner}
use Rattle.group_rules.specs.Replicate.{ack_tests, answers, on_ack}
use Rattle.group_rules.specs.State.{Beat, Demote, Plan, Server, top}
use Rattle.group_rules.specs.Tick.{beats, events, unacknowledged}
use Rattle.harp_types.specs.Limits.{clock_skew}
use Rattle.harp_types.specs.declared.peer.Peer.{Peer}
use Rattle.harp_types.specs.declared.server.ServerId.{ServerId}
use Rattle.harp_store.specs.Mark.{MarkFields}
use Rattle.idle_log.specs.Kept.{AtBase, plan_of}
use Rattle.idle_log.specs.declared.form.Form.{Form}
use Rattle.node.proofs.Led.{AreQuiet, as_led, leads_on}
use Rattle.node.specs.Node.{NodeValue, server, value}
use Rattle.node.specs.State.{Fits, IsFollowing, IsLeading, outer}
use Rattle.node.specs.declared.state.State.{State}
use Rattle.node.specs.declared.state.State.TheVariants as state
use Rattle.node.specs.declared.state.Task.{Task}
use Rattle.node_outputs.specs.Makes.{Makes}
use Rattle.node_outputs.specs.declared.outputs.Outputs.{Outputs}
use Rattle.promise.specs.Promise.{HorizonValue}
use Rattle.replica.specs.Following.{Following, followed, place_followed, settled, with_next}
use Rattle.replica.specs.Leading.{Leading, led, place_led}
use Rattle.volatile_log.specs.Log.{LogValue, dropped_to, with_record}

-- ---- the rules of a leader are of quiet moves

quiet_if : (b : Bool) (ms : List (Move Entry)) → AreQuiet ms → AreQuiet (if b then ms else [])
quiet_if true ms h = h
quiet_if false ms h = tt

quiet_then : (ms ns : List (Move Entry)) → AreQuiet ms → AreQuiet ns → AreQuiet (ms ++ ns)
quiet_then [] ns h k = k
quiet_then (m ∷ ms) ns h k = (h.0, quiet_then ms ns h.1 k)

quiet_answers : (n : ℕ) (es : List Entry) → AreQuiet (answers n es)
quiet_answers n [] = tt
quiet_answers n (e ∷ es) = (tt, quiet_answers (n + 1) es)

quiet_events : (to : Place) (v cp base n : ℕ) (es : List Entry) → AreQuiet
    (events to v cp base n es)
quiet_events to v cp base n [] = tt
quiet_events to v cp base n (e ∷ es) = (tt, quiet_events to v cp base (n + 1) es)

quiet_commits : (s : Server Entry) (t : ℕ)
    → AreQuiet (Committing t ∷ answers s.cp (take (t - s.cp) (drop (s.cp - s.base) s.items)))
quiet_commits s t = (tt, quiet_answers s.cp (take (t - s.cp) (drop (s.cp - s.base) s.items)))

quiet_notes : (s : Server Entry) (t lb until : ℕ) → AreQuiet (Noting t lb until
    ∷ (if nat_lt s.cp t then Committing t
    ∷ answers s.cp (take (t - s.cp) (drop (s.cp - s.base) s.items)) else []))
quiet_notes s t lb until = (
  tt,
  quiet_if (nat_lt s.cp t) (Committing t
      ∷ answers s.cp (take (t - s.cp) (drop (s.cp - s.base) s.items))) (quiet_commits s t),
)

pub quiet_ack : (s : Server Entry) (v t lb until : ℕ) → AreQuiet (on_ack s v t lb until)
quiet_ack s v t lb until = quiet_if (all_of (ack_tests s v)) (Noting t lb until
    ∷ (if nat_lt s.cp t then Committing t
    ∷ answers s.cp (take (t - s.cp) (drop (s.cp - s.base) s.items)) else []))
    (quiet_notes s t lb until)

quiet_told : (s : Server Entry) → AreQuiet
    ((if is_s01 s.plan.storers then Sending Two (Demote s.accepted) ∷ [] else [])
    ++ Sending (partner s.plan.storers) (Beat s.accepted (top s) s.base) ∷ [])
quiet_told s = quiet_then (if is_s01 s.plan.storers then Sending Two (Demote s.accepted) ∷ [] else
    [])
    (Sending (partner s.plan.storers) (Beat s.accepted (top s) s.base) ∷ [])
    (quiet_if (is_s01 s.plan.storers) (Sending Two (Demote s.accepted) ∷ []) (tt, tt)) (tt, tt)

quiet_open_moves : (s : Server Entry) (lb : ℕ) → AreQuiet (open_moves s lb)
quiet_open_moves s lb = (tt, quiet_told s)

quiet_open_heard : (clock : ℕ) (s : Server Entry) (heard : Option ℕ)
    → AreQuiet (open_heard clock s heard)
quiet_open_heard clock s None = tt
quiet_open_heard clock s (Some lb) = quiet_if (nat_le (s.plan.horizon + clock_skew) clock)
    (open_moves s lb) (quiet_open_moves s lb)

pub quiet_open : (q : Place) (clock : ℕ) (s : Server Entry) → AreQuiet (try_open q clock s)
quiet_open q clock s = quiet_if (all_of (open_tests q s))
    (open_heard clock s (get s.heard (partner s.plan.storers)))
    (quiet_open_heard clock s (get s.heard (partner s.plan.storers)))

quiet_beats : (s : Server Entry) → AreQuiet (beats s)
quiet_beats s = (
  tt,
  quiet_events (partner s.plan.storers) s.accepted s.cp s.base (unacknowledged s)
      (take 64 (drop (unacknowledged s - s.base) s.items)),
)

pub quiet_either : (b : Bool) (ms ns : List (Move Entry)) → AreQuiet ms → AreQuiet ns
    → AreQuiet (if b then ms else ns)
quiet_either true ms ns h k = h
quiet_either false ms ns h k = k

-- what a tick of a leader begins with
abbrev pub leads : ℕ → Place → Server Entry → List (Move Entry)
leads clock q s = if is_open s.mode then beats s else try_open q clock s

pub quiet_leads : (q : Place) (clock : ℕ) (s : Server Entry) → AreQuiet (leads clock q s)
quiet_leads q clock s = quiet_either (is_open s.mode) (beats s) (try_open q clock s)
    (quiet_beats s) (quiet_open q clock s)

-- ---- a call of the leader

abbrev pub Rule : Type 0
Rule = Place → Server Entry → List (Move Entry)

-- a rule that the leader made at its own server is made at the node's
made_at : (q : Place) (clock : ℕ) (rule : Rule) (peers : List Peer) (s t a b : Server Entry)
    (p : Place) (before after : Outputs) → p ≡ q → a ≡ s → b ≡ t
    → Makes p clock (rule p s) peers s t before after
    → Makes q clock (rule q a) peers a b before after
made_at q clock rule peers s t a b p before after place old new made =
    subst (λ (x : Server Entry). Makes q clock (rule q a) peers a x before after) (sym new)
    (subst (λ (x : Server Entry). Makes q clock (rule q x) peers x t before after) (sym old)
    (subst (λ (x : Place). Makes x clock (rule x s) peers s t before after) place made))

pub leads_made : (me : ServerId) (mark : MarkFields) (horizon : HorizonValue) (served : ℕ)
    (duty : Task) (l m : Leading) (plan : Form) (s : State) (n : NodeValue) (items : List Entry)
    (clock : ℕ) (rule : Rule) (peers : NodeValue → List Peer) (before after : Outputs)
    → s ≡ state.Leads l plan → value me mark horizon served duty s ≡ n → Fits (place_of me) mark s
    → AreQuiet (rule (place_led l (outer me mark horizon served duty plan))
    (led l (outer me mark horizon served duty plan)))
    → Makes (place_led l (outer me mark horizon served duty plan)) clock
    (rule (place_led l (outer me mark horizon served duty plan))
    (led l (outer me mark horizon served duty plan)))
    (peers (value me mark horizon served duty (state.Leads l plan)))
    (led l (outer me mark horizon served duty plan))
    (led m (outer me mark horizon served duty plan)) before after
    → Makes n.me clock (rule n.me (server n items)) (peers n) (server n items)
    (server (value me mark horizon served duty (state.Leads m plan)) items) before after
leads_made me mark horizon served duty l m plan s n items clock rule peers before after at of fits
    quiet made =
    let o = outer me mark horizon served duty plan in
    let is : IsLeading (place_of me) mark l (plan_of plan) =
    subst (λ (x : State). Fits (place_of me) mark x) at fits in
    let on = leads_on me mark horizon served duty l m plan (place_led l o) clock
    (rule (place_led l o) (led l o)) is quiet made.state in
    let old = value me mark horizon served duty (state.Leads l plan) in
    let new = server (value me mark horizon served duty (state.Leads m plan)) items in
    let whole : Makes (place_of me) clock (rule (place_of me) (server old items)) (peers old)
    (server old items) new before after =
    made_at (place_of me) clock rule (peers old) (led l o) (led m o) (server old items) new
    (place_led l o) before after is.place (as_led me mark horizon served duty l plan items is)
    (as_led me mark horizon served duty m plan items on) made in
    subst (λ (x : NodeValue). Makes x.me clock (rule x.me (server x items)) (peers x)
    (server x items) new before after)
    (ap (λ (x : State). value me mark horizon served duty x) (sym at) ∙ of) whole

pub leads_fits : (me : ServerId) (mark : MarkFields) (horizon : HorizonValue) (served : ℕ)
    (duty : Task) (l m : Leading) (plan : Form) (s : State) (clock : ℕ) (ms : List (Move Entry))
    → s ≡ state.Leads l plan → Fits (place_of me) mark s → AreQuiet ms
    → led m (outer me mark horizon served duty plan) ≡ acts
    (place_led l (outer me mark horizon served duty plan)) clock
    (led l (outer me mark horizon served duty plan)) ms
    → IsLeading (place_of me) mark m (plan_of plan)
leads_fits me mark horizon served duty l m plan s clock ms at fits quiet made =
    leads_on me mark horizon served duty l m plan _ clock ms
    (subst (λ (x : State). Fits (place_of me) mark x) at fits) quiet made

-- ---- a call of the partner

pub as_followed : (me : ServerId) (mark : MarkFields) (horizon : HorizonValue) (served : ℕ)
    (duty : Task) (f : Following) (plan : Form) (items : List Entry)
    → IsFollowing (place_of me) mark f (plan_of plan)
    → server (value me mark horizon served duty (state.Follows f plan)) items
    ≡ followed f (outer me mark horizon served duty plan)
as_followed me mark horizon served duty f plan items is =
    rw (
      is.mark.promised,
      is.mark.accepted,
      is.mark.role,
      is.mark.lb,
      is.mark.saved,
      is.storers,
      is.start,
    ) refl

next_lb : (b : Bool) (l : LogValue) (r : RecordFields)
    → (if b then with_record l r else l).lb ≡ l.lb
next_lb true l r = refl
next_lb false l r = refl

next_ap : (b : Bool) (l : LogValue) (r : RecordFields)
    → (if b then with_record l r else l).ap ≡ l.ap
next_ap true l r = refl
next_ap false l r = refl

next_base : (b : Bool) (l : LogValue) (r : RecordFields)
    → (if b then with_record l r else l).base ≡ l.base
next_base true l r = refl
next_base false l r = refl

-- a log that another one grew out of, with a base that is on the disk
pub record HasGrown (to : ℕ) (old new : LogValue) : Type 0 where
  pub lb : new.lb ≡ old.lb
  pub ap : new.ap ≡ old.ap
  pub base : new.base ≡ max old.base to

still_at_base : (q : Place) (base : ℕ) (old new : LogValue) → HasGrown base old new → base ≤ old.lb
    → AtBase q old → AtBase q new
still_at_base q base old new grown within at witness =
    let both = at witness in (
      omega (arith, grown.lb, grown.base, both.0, within),
      omega (arith, grown.ap, grown.base, both.0, both.1, within),
    )

-- a partner that heeded an Event or a Beat follows on
follows_on : (q : Place) (mark : MarkFields) (f : Following) (log : LogValue) (cp base : ℕ)
    (plan : Plan)
    → IsFollowing q mark f plan → HasGrown base f.log log → base ≤ f.log.lb
    → IsFollowing q mark (settled (record f { log = log }) cp) plan
follows_on q mark f log cp base plan is grown within = record {
  mark = record {
    promised = is.mark.promised;
    accepted = is.mark.accepted;
    role = is.mark.role;
    lb = is.mark.lb ∙ sym grown.lb;
    saved = is.mark.saved;
  };
  storers = is.storers;
  start = is.start;
  place = is.place;
  at_base = still_at_base q base f.log log grown within is.at_base;
}

pub follows_beat : (q : Place) (mark : MarkFields) (f g : Following) (cp base : ℕ) (plan : Plan)
    → g ≡ settled (record f { log = dropped_to f.log (max f.log.base base) }) cp
    → base ≤ f.log.lb → IsFollowing q mark f plan → IsFollowing q mark g plan
follows_beat q mark f g cp base plan same within is =
    subst (λ (x : Following). IsFollowing q mark x plan) (sym same)
    (follows_on q mark f (dropped_to f.log (max f.log.base base)) cp base plan is
    (record { lb = refl; ap = refl; base = refl }) within)

pub follows_event : (q : Place) (mark : MarkFields) (f g : Following) (cp base : ℕ)
    (item : RecordFields) (plan : Plan)
    → g ≡ settled (record f { log = with_next (dropped_to f.log (max f.log.base base)) item }) cp
    → base ≤ f.log.lb → IsFollowing q mark f plan → IsFollowing q mark g plan
follows_event q mark f g cp base item plan same within is =
    let log = dropped_to f.log (max f.log.base base) in
    let grown : HasGrown base f.log (with_next log item) = record {
      lb = next_lb _ log item;
      ap = next_ap _ log item;
      base = next_base _ log item;
    } in
    subst (λ (x : Following). IsFollowing q mark x plan) (sym same)
    (follows_on q mark f (with_next log item) cp base plan is grown within)

pub follows_made : (me : ServerId) (mark : MarkFields) (horizon after_horizon : HorizonValue)
    (served : ℕ) (duty : Task) (f g : Following) (plan : Form) (s : State) (n : NodeValue)
    (items : List Entry) (clock : ℕ) (rule : Rule) (before after : Outputs)
    → s ≡ state.Follows f plan → value me mark horizon served duty s ≡ n
    → IsFollowing (place_of me) mark f (plan_of plan)
    → IsFollowing (place_of me) mark g (plan_of plan)
    → Makes (place_followed f (outer me mark horizon served duty plan)) clock
    (rule (place_followed f (outer me mark horizon served duty plan))
    (followed f (outer me mark horizon served duty plan))) []
    (followed f (outer me mark horizon served duty plan))
    (followed g (outer me mark after_horizon served duty plan)) before after
    → Makes n.me clock (rule n.me (server n items)) [] (server n items)
    (server (value me mark after_horizon served duty (state.Follows g plan)) items) before after
follows_made me mark horizon later served duty f g plan s n items clock rule before after at of is
    on made =
    let o = outer me mark horizon served duty plan in
    let old = value me mark horizon served duty (state.Follows f plan) in
    let new = server (value me mark later served duty (state.Follows g plan)) items in
    let whole : Makes (place_of me) clock (rule (place_of me) (server old items)) []
    (server old items) new before after =
    made_at (place_of me) clock rule [] (followed f o)
    (followed g (outer me mark later served duty plan)) (server old items) new
    (place_followed f o) before after is.place
    (as_followed me mark horizon served duty f plan items is)
    (as_followed me mark later served duty g plan items on) made in
    subst (λ (x : NodeValue). Makes x.me clock (rule x.me (server x items)) [] (server x items)
    new before after)
    (ap (λ (x : State). value me mark horizon served duty x) (sym at) ∙ of) whole

-- a rule that the partner made without a change
pub follows_same : (me : ServerId) (mark : MarkFields) (horizon : HorizonValue) (served : ℕ)
    (duty : Task) (f : Following) (plan : Form) (s : State) (n : NodeValue) (items : List Entry)
    (clock : ℕ) (rule : Rule) (before after : Outputs)
    → s ≡ state.Follows f plan → value me mark horizon served duty s ≡ n
    → Fits (place_of me) mark s
    → Makes (place_followed f (outer me mark horizon served duty plan)) clock
    (rule (place_followed f (outer me mark horizon served duty plan))
    (followed f (outer me mark horizon served duty plan))) []
    (followed f (outer me mark horizon served duty plan))
    (followed f (outer me mark horizon served duty plan)) before after
    → Makes n.me clock (rule n.me (server n items)) [] (server n items) (server n items)
    before after
follows_same me mark horizon served duty f plan s n items clock rule before after at of fits made =
    let is : IsFollowing (place_of me) mark f (plan_of plan) =
    subst (λ (x : State). Fits (place_of me) mark x) at fits in
    subst (λ (x : NodeValue). Makes n.me clock (rule n.me (server n items)) [] (server n items)
    (server x items) before after)
    (ap (λ (x : State). value me mark horizon served duty x) (sym at) ∙ of)
    (follows_made me mark horizon horizon served duty f f plan s n items clock rule before after
    at of is is made)
