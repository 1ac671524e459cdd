-- Moves that send no records.
use Rattle.std.proofs.Common.{◌≡◌, ℕ, ◌+◌, Bool, true, false, List, [], ◌∷◌, ◌++◌, length, refl, ap, ◌∙◌, subst, if◌then◌else◌}
use Rattle.std.specs.Prelude.{◌==◌, ◌||◌, ◌-◌, ◌/◌, nat_lt, drop, take, map, Option, None, Some}
use Rattle.std.specs.List.{flat_map}
use Rattle.event_record.specs.declared.record.RecordFields.{RecordFields}
use Rattle.file_tree.specs.Book.{Entry}
use Rattle.group_rules.specs.Choose.{choose}
use Rattle.group_rules.specs.Disk.{demote_tests}
use Rattle.group_rules.specs.Form.{accept_moves, fits, form_moves, pull_tests, wanted}
use Rattle.group_rules.specs.Joining.{chosen_moves, joined_tests, on_join, suspect, to_each}
use Rattle.group_rules.specs.Limits.{is_joins, limit}
use Rattle.group_rules.specs.Misfits.{misfits}
use Rattle.group_rules.specs.Moves.{Move, Pulling, Sending, acts}
use Rattle.group_rules.specs.Open.{formed_tests, open_heard, open_moves, open_tests, try_open}
use Rattle.group_rules.specs.Places.{Place, Trio, all_of, get, is_s01, other_storers, others, partner, same, with_at}
use Rattle.group_rules.specs.Replicate.{ack_tests, answers, is_in_view}
use Rattle.group_rules.specs.Said.{sends_said}
use Rattle.group_rules.specs.State.{Ack, Beat, Chose, Collects, Demote, Duty, Event, Fetch, Form, Formed, Give, Invite, Join, Message, NoDuty, Plan, Report, Server}
use Rattle.group_rules.specs.Step.{Comes, on_message, rule}
use Rattle.harp_types.specs.Limits.{clock_skew}
use Rattle.harp_types.specs.declared.peer.Peer.{Peer}
use Rattle.node_outputs.specs.Makes.{with_moves}
use Rattle.node_outputs.specs.Messages.{as_heard, heard}
use Rattle.node_outputs.specs.Records.{carried, records_sent}
use Rattle.node_outputs.specs.Said.{Said, nothing, said, sent}
use Rattle.node_outputs.specs.declared.outputs.Outputs.{Outputs}
use Rattle.node_outputs.specs.declared.outputs.Sent.{Sent}
use Rattle.std.specs.Prelude.{nat_le}
use Rattle.wire.specs.declared.message.Message.{Message as Wire}
use Rattle.wire.specs.declared.message.Message.TheVariants as wire

-- ---- a message without records

abbrev pub IsBareMessage : Message Entry → Type 0
IsBareMessage (Event v index cp base e) = ⊥
IsBareMessage (Give v index items) = ⊥
IsBareMessage m = Unit {0}

bare_as : (a m : Message Entry) → Some a ≡ Some m → IsBareMessage m → IsBareMessage a
bare_as a m is h = let same : m ≡ a = cc in subst IsBareMessage same h

bare_carried : (w : Wire) (m : Message Entry) → heard w ≡ Some m → IsBareMessage m
    → carried w ≡ []
bare_carried (wire.Event view cp base r) m is h = absurd (bare_as _ m is h)
bare_carried (wire.Give view first records) m is h = absurd (bare_as _ m is h)
bare_carried (wire.Invite view) m is h = refl
bare_carried (wire.Join view has accepted base lb cp top horizon) m is h = refl
bare_carried (wire.Form view storers source base cp start horizon) m is h = refl
bare_carried (wire.Fetch view first) m is h = refl
bare_carried (wire.Formed view lb) m is h = refl
bare_carried (wire.Beat view cp base) m is h = refl
bare_carried (wire.Ack view top lb until) m is h = refl
bare_carried (wire.Demote view) m is h = refl
bare_carried (wire.Ask client number cred call) m is h = refl
bare_carried (wire.Answer client number index reply) m is h = refl
bare_carried (wire.CannotServe client number cause) m is h = refl

-- ---- moves without records

abbrev pub IsBare : Move Entry → Type 0
IsBare (Sending to m) = IsBareMessage m
IsBare m = Unit {0}

abbrev pub AreBare : List (Move Entry) → Type 0
AreBare [] = Unit {0}
AreBare (m ∷ ms) = IsBare m × AreBare ms

abbrev AreBareSent : List (Place × Message Entry) → Type 0
AreBareSent [] = Unit {0}
AreBareSent (p ∷ ps) = IsBareMessage p.1 × AreBareSent ps

bare_sends : (ms : List (Move Entry)) → AreBare ms → AreBareSent (sends_said ms)
bare_sends [] h = tt
bare_sends (Sending to m ∷ ms) h = (h.0, bare_sends ms h.1)
bare_sends (m ∷ ms) h = bare_sends ms h.1

first_heard : (s : Sent) (ss : List Sent) (p : Place × Message Entry)
    (ps : List (Place × Message Entry)) → map sent (s ∷ ss) ≡ map as_heard (p ∷ ps)
    → heard s.message ≡ Some p.1
first_heard s ss p ps is =
    let both : sent s ≡ as_heard p = cc in
    ap (λ (x : Place × Option (Message Entry)). x.1) both

more_heard : (s : Sent) (ss : List Sent) (p : Place × Message Entry)
    (ps : List (Place × Message Entry)) → map sent (s ∷ ss) ≡ map as_heard (p ∷ ps)
    → map sent ss ≡ map as_heard ps
more_heard s ss p ps is = let rest : map sent ss ≡ map as_heard ps = cc in rest

none_carried : (ss : List Sent) (ps : List (Place × Message Entry))
    → map sent ss ≡ map as_heard ps → AreBareSent ps
    → flat_map (λ (s : Sent). carried s.message) ss ≡ []
none_carried [] ps is h = refl
none_carried (s ∷ ss) [] is h = cc
none_carried (s ∷ ss) (p ∷ ps) is h =
    ap (λ (rs : List RecordFields). rs ++ flat_map (λ (s : Sent). carried s.message) ss)
    (bare_carried s.message p.1 (first_heard s ss p ps is) h.0)
    ∙ none_carried ss ps (more_heard s ss p ps is) h.1

-- what such moves say has no records
pub bare_said : (q : Place) (clock : ℕ) (s : Server Entry) (ms : List (Move Entry))
    (peers : List Peer) (before : Said) (outs : Outputs) → before ≡ nothing
    → said outs ≡ with_moves q clock s ms peers before → AreBare ms → records_sent outs ≡ []
bare_said q clock s ms peers before outs fresh is h = none_carried outs.sends.items (sends_said ms)
    (ap (λ (x : Said). x.sends) is
    ∙ ap (λ (x : Said). x.sends ++ map as_heard (sends_said ms)) fresh)
    (bare_sends ms h)

-- ---- the rules

pub bare_if : (b : Bool) (ms ns : List (Move Entry)) → AreBare ms → AreBare ns
    → AreBare (if b then ms else ns)
bare_if true ms ns h k = h
bare_if false ms ns h k = k

pub bare_then : (ms ns : List (Move Entry)) → AreBare ms → AreBare ns → AreBare (ms ++ ns)
bare_then [] ns h k = k
bare_then (m ∷ ms) ns h k = (h.0, bare_then ms ns h.1 k)

bare_each : (m : Message Entry) (ps : List Place) → IsBareMessage m → AreBare (to_each m ps)
bare_each m [] h = tt
bare_each m (p ∷ ps) h = (h, bare_each m ps h)

bare_answers : (n : ℕ) (es : List Entry) → AreBare (answers n es)
bare_answers n [] = tt
bare_answers n (e ∷ es) = (tt, bare_answers (n + 1) es)

bare_open_moves : (s : Server Entry) (lb : ℕ) → AreBare (open_moves s lb)
bare_open_moves s lb = (
  tt,
  bare_then _ _ (bare_if (is_s01 s.plan.storers) _ [] (tt, tt) tt)
      (tt, tt),
)

bare_heard : (clock : ℕ) (s : Server Entry) (heard : Option ℕ) → AreBare (open_heard clock s heard)
bare_heard clock s None = tt
bare_heard clock s (Some lb) = bare_if (nat_le (s.plan.horizon + clock_skew) clock)
    (open_moves s lb) [] (bare_open_moves s lb) tt

bare_open : (q : Place) (clock : ℕ) (s : Server Entry) → AreBare (try_open q clock s)
bare_open q clock s = bare_if (all_of (open_tests q s))
    (open_heard clock s (get s.heard (partner s.plan.storers))) []
    (bare_heard clock s (get s.heard (partner s.plan.storers))) tt

bare_accept : (q : Place) (s : Server Entry) (plan : Plan) (staged : List Entry)
    → AreBare (accept_moves q s plan staged)
bare_accept q s plan staged = (tt, bare_if (same q (partner plan.storers)) _ [] (tt, tt) tt)

bare_form : (q : Place) (s : Server Entry) (plan : Plan) → AreBare (form_moves q s plan)
bare_form q s plan = bare_if (all_of (is_joins s.mode ∷ fits q s plan ∷ [])) _ []
    (bare_if (same q plan.source || (wanted q s plan == plan.start)) (accept_moves q s plan [])
    (Pulling plan (wanted q s plan)
    ∷ Sending plan.source (Fetch s.promised (wanted q s plan + 1)) ∷ [])
    (bare_accept q s plan []) (tt, (tt, tt))) tt

bare_chosen : (q : Place) (s : Server Entry) (reports : Trio (Option Report))
    (chosen : Option Plan) → AreBare (chosen_moves q s reports chosen)
bare_chosen q s reports None = (tt, tt)
bare_chosen q s reports (Some plan) = (
  tt,
  (
    tt,
    bare_then _ _ (bare_each (Form s.promised plan) (other_storers q plan.storers) tt)
        (bare_form q (record s { duty = Chose s.promised plan }) plan),
  ),
)

bare_join : (q : Place) (s : Server Entry) (from : Place) (v : ℕ) (t : Report) (duty : Duty)
    → AreBare (on_join q s from v t duty)
bare_join q s from v t NoDuty = tt
bare_join q s from v t (Chose w plan) = tt
bare_join q s from v t (Collects reports) =
    bare_if (v == s.promised) _ [] (bare_chosen q s (with_at reports from (Some t))
    (choose (with_at reports from (Some t)))) tt

-- a message that asks for no records
abbrev pub IsNoFetch : Message Entry → Type 0
IsNoFetch (Fetch v index) = ⊥
IsNoFetch m = Unit {0}

bare_message : (size : List Entry → Entry → ℕ) (q : Place) (clock : ℕ) (list : List Entry)
    (s : Server Entry) (from : Place) (m : Message Entry) → IsNoFetch m
    → AreBare (on_message size q clock list s from m)
bare_message size q clock list s from (Invite v) none =
    bare_if (nat_lt s.promised v) _ _ (tt, (tt, tt))
    (bare_if (all_of (joined_tests s v)) _ [] (tt, tt) tt)
bare_message size q clock list s from (Join v t) none = bare_join q s from v t s.duty
bare_message size q clock list s from (Form v plan) none =
    bare_if (v == s.promised) _ [] (bare_form q s plan) tt
bare_message size q clock list s from (Fetch v index) none = absurd none
bare_message size q clock list s from (Give v index items) none =
    bare_if (all_of (pull_tests s v index items)) _ []
    (bare_if (s.wanted_from + length (s.staged ++ items) == s.plan.start) _ _
    (bare_accept q s s.plan (s.staged ++ items)) (tt, (tt, tt))) tt
bare_message size q clock list s from (Formed v lb) none =
    bare_if (all_of (formed_tests s v)) _ [] (tt, tt) tt
bare_message size q clock list s from (Event v index cp base e) none =
    bare_if (all_of (is_in_view s v ∷ same q (partner s.plan.storers) ∷ [])) _ [] (tt, (tt, tt)) tt
bare_message size q clock list s from (Beat v cp base) none =
    bare_if (all_of (is_in_view s v ∷ same q (partner s.plan.storers) ∷ [])) _ [] (tt, (tt, tt)) tt
bare_message size q clock list s from (Ack v t lb until) none =
    bare_if (all_of (ack_tests s v)) _ [] (
      tt,
      bare_if (nat_lt s.cp t) _ [] (
        tt,
        bare_answers s.cp
            (take (t - s.cp) (drop (s.cp - s.base) s.items)),
      ) tt,
    ) tt
bare_message size q clock list s from (Demote v) none =
    bare_if (all_of (demote_tests q s v)) _ [] (tt, tt) tt

pub bare_rule : (size : List Entry → Entry → ℕ) (q : Place) (clock : ℕ) (list : List Entry)
    (s : Server Entry) (from : Place) (m : Message Entry) → IsNoFetch m
    → AreBare (rule size q clock list s (Comes from m))
bare_rule size q clock list s from m none = bare_if (misfits q s from m) [] _ tt
    (bare_then (on_message size q clock list s from m) _
    (bare_message size q clock list s from m none) (bare_open q clock
    (acts q clock s (on_message size q clock list s from m))))

pub bare_suspect : (q : Place) (s : Server Entry) → AreBare (suspect q s)
bare_suspect q s = bare_if (nat_lt (s.promised / 3) limit) _ [] (tt, bare_each _ (others q) tt) tt
