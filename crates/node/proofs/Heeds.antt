-- What an active server heeds, and what others leave alone.
use Rattle.std.proofs.Common.{◌≡◌, ℕ, ◌+◌, ◌-◌, ◌<◌, ◌≤◌, ◌==◌, Bool, true, false, List, [], ◌∷◌, length, refl, sym, ap, ◌∙◌, subst}
use Rattle.file_tree.specs.Book.{Entry}
use Rattle.group_rules.proofs.Tests.{if_not}
use Rattle.group_rules.specs.Limits.{is_active, is_open}
use Rattle.group_rules.specs.Moves.{Heeding, Move, Sending}
use Rattle.group_rules.specs.Names.{number_of_view, place_of}
use Rattle.group_rules.specs.Open.{open_tests, try_open}
use Rattle.group_rules.specs.Places.{Zero, One, Two, Pair, Place, S01, S02, S12, all_of, leader, partner, same}
use Rattle.group_rules.specs.Replicate.{ack_tests, is_in_view, on_ack, on_event}
use Rattle.group_rules.specs.State.{Ack, Server, no_plan, top}
use Rattle.group_rules.specs.Tick.{beats}
use Rattle.harp_types.specs.View.{View}
use Rattle.harp_types.specs.declared.peer.Peer.{Peer}
use Rattle.harp_types.specs.declared.server.ServerId.{ServerId}
use Rattle.harp_store.specs.Mark.{MarkFields}
use Rattle.idle_log.specs.Kept.{plan_of}
use Rattle.idle_log.specs.declared.form.Form.{Form}
use Rattle.node.proofs.InView.{leads}
use Rattle.node.proofs.Sent.{none_made}
use Rattle.node.specs.Active.{is_followed, is_led}
use Rattle.node.specs.Node.{NodeValue, server, value}
use Rattle.node.specs.State.{Fits, mode_in, plan_in}
use Rattle.node.specs.declared.state.State.{State}
use Rattle.node.specs.declared.state.State.TheVariants as state
use Rattle.node.specs.declared.state.Task.{Task}
use Rattle.node_outputs.specs.Makes.{Makes}
use Rattle.node_outputs.specs.declared.outputs.Outputs.{Outputs}
use Rattle.promise.specs.Promise.{HorizonValue}
use Rattle.replica.proofs.Lists.{entries_length}
use Rattle.replica.specs.Following.{Following, leader_of, mode_followed, storers_followed}
use Rattle.replica.specs.Leading.{Leading, mode_led, storers_led}
use Rattle.replica.specs.declared.partner.Ahead.{Ahead}
use Rattle.replica.specs.declared.partner.Ahead.TheVariants as ahead

-- ---- tests that fail

pub none_of_two : (a b : Bool) → b ≡ false → all_of (a ∷ b ∷ []) ≡ false
unfolding all_of
none_of_two true b h = rw h refl
none_of_two false b h = refl

pub no_first : (a : Bool) (bs : List Bool) → a ≡ false → all_of (a ∷ bs) ≡ false
unfolding all_of
no_first a bs h = rw h refl

both : (a b : Bool) → a ≡ true → b ≡ true → all_of (a ∷ b ∷ []) ≡ true
unfolding all_of
both a b h k = rw (h, k) refl

-- ---- the view of a message beside the accepted one

pub accepted_test : (me : ServerId) (mark : MarkFields) (horizon : HorizonValue) (served : ℕ)
    (duty : Task) (s : State) (n : NodeValue) (v a : View) (r b : Bool)
    → value me mark horizon served duty s ≡ n → a ≡ mark.accepted
    → r ≡ (number_of_view v == number_of_view a) → r ≡ b
    → (number_of_view v == n.plain.accepted) ≡ b
accepted_test me mark horizon served duty s n v a r b of at is known =
    ap (λ (x : NodeValue). number_of_view v == x.plain.accepted) (sym of)
    ∙ ap (λ (x : View). number_of_view v == number_of_view x) (sym at) ∙ sym is ∙ known

pub other_view_ack : (s : Server Entry) (v t lb until : ℕ) → (v == s.accepted) ≡ false
    → on_ack s v t lb until ≡ []
other_view_ack s v t lb until other =
    if_not (all_of (ack_tests s v)) _ [] (none_of_two (is_open s.mode) (v == s.accepted) other)

pub other_view : (s : Server Entry) (v : ℕ) → (v == s.accepted) ≡ false → is_in_view s v ≡ false
other_view s v other = none_of_two (is_active s.mode) (v == s.accepted) other

pub not_in_view : (q : Place) (clock : ℕ) (s : Server Entry) (from : Place) (v cp base : ℕ)
    (items : List Entry) → is_in_view s v ≡ false → on_event q clock s from v cp base items ≡ []
not_in_view q clock s from v cp base items out =
    if_not (all_of (is_in_view s v ∷ same q (partner s.plan.storers) ∷ [])) _ []
    (no_first (is_in_view s v) (same q (partner s.plan.storers) ∷ []) out)

-- a rule that makes no moves leaves all as it is
pub leaves : (q : Place) (clock : ℕ) (ms : List (Move Entry)) (s : Server Entry)
    (peers : List Peer) (outs : Outputs) → ms ≡ [] → Makes q clock ms peers s s outs outs
leaves q clock ms s peers outs none =
    subst (λ (xs : List (Move Entry)). Makes q clock xs peers s s outs outs) (sym none)
    (none_made q clock s peers outs)

-- so does one of a node whose state stayed
pub stays : (me : ServerId) (mark : MarkFields) (horizon : HorizonValue) (served : ℕ)
    (duty : Task) (s t : State) (n : NodeValue) (items : List Entry) (q : Place) (clock : ℕ)
    (ms : List (Move Entry)) (peers : List Peer) (outs : Outputs)
    → value me mark horizon served duty s ≡ n → t ≡ s → ms ≡ []
    → Makes q clock ms peers (server n items)
    (server (value me mark horizon served duty t) items) outs outs
stays me mark horizon served duty s t n items q clock ms peers outs of same none =
    subst (λ (x : NodeValue). Makes q clock ms peers (server n items) (server x items) outs outs)
    (sym (ap (value me mark horizon served duty) same ∙ of))
    (leaves q clock ms (server n items) peers outs none)

-- ---- a server that doesn't lead

pub no_leader : (s : State)
    → ((leader : Leading) (plan : Form) → s ≡ state.Leads leader plan → ⊥) → is_led s ≡ false
no_leader state.Gone not = refl
no_leader (state.Rests kept) not = refl
no_leader (state.Joined kept joining) not = refl
no_leader (state.Pulls kept joining plan staged) not = refl
no_leader (state.Leads leader plan) not = absurd (not leader plan refl)
no_leader (state.Follows partner plan) not = refl

never_open : (s : State) → is_led s ≡ false → is_open (mode_in s) ≡ false
never_open state.Gone h = refl
never_open (state.Rests kept) h = refl
never_open (state.Joined kept joining) h = refl
never_open (state.Pulls kept joining plan staged) h = refl
never_open (state.Leads leader plan) h = cc
never_open (state.Follows partner plan) h = followed_closed partner.settled
  where
    followed_closed : (b : Bool) → is_open (mode_followed b) ≡ false
    followed_closed true = refl
    followed_closed false = refl

pub not_open : (me : ServerId) (mark : MarkFields) (horizon : HorizonValue) (served : ℕ)
    (duty : Task) (s : State) (n : NodeValue) → value me mark horizon served duty s ≡ n
    → is_led s ≡ false → is_open n.plain.mode ≡ false
not_open me mark horizon served duty s n of led =
    ap (λ (x : NodeValue). is_open x.plain.mode) (sym of) ∙ never_open s led

pub heeds_none : (s : Server Entry) (v t lb until : ℕ) → is_open s.mode ≡ false
    → on_ack s v t lb until ≡ []
heeds_none s v t lb until closed =
    if_not (all_of (ack_tests s v)) _ [] (no_first (is_open s.mode) ((v == s.accepted) ∷ []) closed)

pub partner_is_other : (p : Pair) → same (partner p) (leader p) ≡ false
partner_is_other S01 = refl
partner_is_other S02 = refl
partner_is_other S12 = refl

pub leader_is_other : (p : Pair) → same (leader p) (partner p) ≡ false
leader_is_other S01 = refl
leader_is_other S02 = refl
leader_is_other S12 = refl

-- only a leader tries to open
pub opens_none : (me : ServerId) (mark : MarkFields) (horizon : HorizonValue) (served : ℕ)
    (duty : Task) (s : State) (items : List Entry) → Fits (place_of me) mark s → is_led s ≡ false
    → all_of (open_tests (place_of me) (server (value me mark horizon served duty s) items))
    ≡ false
opens_none me mark horizon served duty state.Gone items fits led = no_first false _ refl
opens_none me mark horizon served duty (state.Rests kept) items fits led = no_first false _ refl
opens_none me mark horizon served duty (state.Joined kept joining) items fits led =
    no_first false _ refl
opens_none me mark horizon served duty (state.Pulls kept joining plan staged) items fits led =
    no_first false _ refl
opens_none me mark horizon served duty (state.Leads leads plan) items fits led = cc
opens_none me mark horizon served duty (state.Follows follows plan) items fits led =
    none_of_two _ _ (ap (λ (p : Pair). same (place_of me) (leader p)) fits.storers
    ∙ ap (λ (q : Place). same q (leader (storers_followed follows.ahead (place_of me))))
    (sym fits.place) ∙ partner_is_other (storers_followed follows.ahead (place_of me)))

pub tries_none : (me : ServerId) (mark : MarkFields) (horizon : HorizonValue) (served : ℕ)
    (duty : Task) (s : State) (n : NodeValue) (items : List Entry) (clock : ℕ)
    → value me mark horizon served duty s ≡ n → Fits (place_of me) mark s → is_led s ≡ false
    → try_open n.me clock (server n items) ≡ []
tries_none me mark horizon served duty s n items clock of fits led =
    if_not (all_of (open_tests n.me (server n items))) _ []
    (subst (λ (x : NodeValue). all_of (open_tests x.me (server x items)) ≡ false) of
    (opens_none me mark horizon served duty s items fits led))

pub leads_none : (me : ServerId) (mark : MarkFields) (horizon : HorizonValue) (served : ℕ)
    (duty : Task) (s : State) (n : NodeValue) (items : List Entry) (clock : ℕ)
    → value me mark horizon served duty s ≡ n → Fits (place_of me) mark s → is_led s ≡ false
    → leads clock n.me (server n items) ≡ []
leads_none me mark horizon served duty s n items clock of fits led =
    if_not (is_open n.plain.mode) (beats (server n items)) (try_open n.me clock (server n items))
    (not_open me mark horizon served duty s n of led)
    ∙ tries_none me mark horizon served duty s n items clock of fits led

-- ---- a server that leads or follows is in its view

active_led : (b : Bool) → is_active (mode_led b) ≡ true
active_led true = refl
active_led false = refl

active_followed : (b : Bool) → is_active (mode_followed b) ≡ true
active_followed true = refl
active_followed false = refl

pub in_view_led : (me : ServerId) (mark : MarkFields) (horizon : HorizonValue) (served : ℕ)
    (duty : Task) (s : State) (l : Leading) (plan : Form) (n : NodeValue) (v : ℕ)
    → value me mark horizon served duty s ≡ n → s ≡ state.Leads l plan
    → (v == n.plain.accepted) ≡ true → is_in_view n.plain v ≡ true
in_view_led me mark horizon served duty s l plan n v of at test =
    both (is_active n.plain.mode) (v == n.plain.accepted)
    (ap (λ (x : NodeValue). is_active x.plain.mode) (sym of)
    ∙ ap (λ (x : State). is_active (mode_in x)) at ∙ active_led l.opened) test

pub in_view_followed : (me : ServerId) (mark : MarkFields) (horizon : HorizonValue) (served : ℕ)
    (duty : Task) (s : State) (f : Following) (plan : Form) (n : NodeValue) (v : ℕ)
    → value me mark horizon served duty s ≡ n → s ≡ state.Follows f plan
    → (v == n.plain.accepted) ≡ true → is_in_view n.plain v ≡ true
in_view_followed me mark horizon served duty s f plan n v of at test =
    both (is_active n.plain.mode) (v == n.plain.accepted)
    (ap (λ (x : NodeValue). is_active x.plain.mode) (sym of)
    ∙ ap (λ (x : State). is_active (mode_in x)) at ∙ active_followed f.settled) test

pub top_led : (me : ServerId) (mark : MarkFields) (horizon : HorizonValue) (served : ℕ)
    (duty : Task) (s : State) (l : Leading) (plan : Form) (n : NodeValue)
    → value me mark horizon served duty s ≡ n → s ≡ state.Leads l plan
    → top n.plain ≡ l.log.base + length l.log.records
top_led me mark horizon served duty s l plan n of at =
    ap (λ (x : NodeValue). top x.plain) (sym of)
    ∙ ap (λ (x : State). top (value me mark horizon served duty x).plain) at
    ∙ ap (λ k. l.log.base + k) (entries_length l.log)

-- the plain server of a follower
abbrev pub following_plain : ServerId → MarkFields → HorizonValue → ℕ → Task → Following → Form
    → Server Entry
following_plain me mark horizon served duty f plan =
    (value me mark horizon served duty (state.Follows f plan)).plain

pub plain_followed : (me : ServerId) (mark : MarkFields) (horizon : HorizonValue) (served : ℕ)
    (duty : Task) (s : State) (f : Following) (plan : Form) (n : NodeValue)
    → value me mark horizon served duty s ≡ n → s ≡ state.Follows f plan
    → n.plain ≡ following_plain me mark horizon served duty f plan
plain_followed me mark horizon served duty s f plan n of at =
    ap (λ (x : NodeValue). x.plain) (sym of)
    ∙ ap (λ (x : State). (value me mark horizon served duty x).plain) at

-- what is asked of an Event at a follower
pub base_within : (me : ServerId) (mark : MarkFields) (horizon : HorizonValue) (served : ℕ)
    (duty : Task) (s : State) (f : Following) (plan : Form) (n : NodeValue) (v base : ℕ)
    → value me mark horizon served duty s ≡ n → s ≡ state.Follows f plan
    → Fits (place_of me) mark s → (v == n.plain.accepted) ≡ true
    → (is_in_view n.plain v ≡ true → base ≤ n.plain.lb) → base ≤ f.log.lb
base_within me mark horizon served duty s f plan n v base of at fits test within =
    let is = subst (λ (x : State). Fits (place_of me) mark x) at fits in
    let low = within (in_view_followed me mark horizon served duty s f plan n v of at test) in
    subst (λ k. base ≤ k) (ap (λ (x : Server Entry). x.lb)
    (plain_followed me mark horizon served duty s f plan n of at) ∙ is.mark.lb) low

abbrev pub HasRoom : ℕ → ℕ → ℕ → Server Entry → Type 0
HasRoom most index base s =
    index ≡ top s + 1 → length s.items < most + (base - s.base)

pub room_within : (me : ServerId) (mark : MarkFields) (horizon : HorizonValue) (served : ℕ)
    (duty : Task) (s : State) (f : Following) (plan : Form) (n : NodeValue) (v base index most : ℕ)
    → value me mark horizon served duty s ≡ n → s ≡ state.Follows f plan
    → (v == n.plain.accepted) ≡ true
    → (is_in_view n.plain v ≡ true → HasRoom most index base n.plain)
    → index ≡ f.log.base + length f.log.records + 1
    → length f.log.records < most + (base - f.log.base)
room_within me mark horizon served duty s f plan n v base index most of at test within next =
    let plain = subst (HasRoom most index base)
    (plain_followed me mark horizon served duty s f plan n of at)
    (within (in_view_followed me mark horizon served duty s f plan n v of at test)) in
    let count = entries_length f.log in
    let few = plain (next ∙ ap (λ k. f.log.base + k + 1) (sym count)) in
    subst (λ k. k < most + (base - f.log.base)) count few

-- ---- who leads a follower

pub leader_followed : (a : Ahead) (me : Place) → leader (storers_followed a me) ≡ leader_of a
leader_followed ahead.Zero Zero = refl
leader_followed ahead.Zero One = refl
leader_followed ahead.Zero Two = refl
leader_followed ahead.One me = refl

-- ---- a server that doesn't follow

pub no_follower : (s : State)
    → ((partner : Following) (plan : Form) → s ≡ state.Follows partner plan → ⊥)
    → is_followed s ≡ false
no_follower state.Gone not = refl
no_follower (state.Rests kept) not = refl
no_follower (state.Joined kept joining) not = refl
no_follower (state.Pulls kept joining plan staged) not = refl
no_follower (state.Leads leader plan) not = refl
no_follower (state.Follows partner plan) not = absurd (not partner plan refl)

-- it isn't the partner of a view that it is active in
pub no_partner : (me : ServerId) (mark : MarkFields) (horizon : HorizonValue) (served : ℕ)
    (duty : Task) (s : State) (items : List Entry) (v : ℕ) → Fits (place_of me) mark s
    → is_followed s ≡ false
    → all_of (is_in_view (server (value me mark horizon served duty s) items) v
    ∷ same (place_of me) (partner (plan_in s).storers) ∷ []) ≡ false
no_partner me mark horizon served duty state.Gone items v fits other =
    no_first (is_in_view (server (value me mark horizon served duty state.Gone) items) v)
    (same (place_of me) (partner no_plan.storers) ∷ [])
    (no_first false ((v == number_of_view mark.accepted) ∷ []) refl)
no_partner me mark horizon served duty (state.Rests kept) items v fits other =
    no_first (is_in_view (server (value me mark horizon served duty (state.Rests kept)) items) v)
    (same (place_of me) (partner no_plan.storers) ∷ [])
    (no_first false ((v == number_of_view mark.accepted) ∷ []) refl)
no_partner me mark horizon served duty (state.Joined kept joining) items v fits other =
    no_first (is_in_view (server (value me mark horizon served duty (state.Joined kept joining))
    items) v) (same (place_of me) (partner no_plan.storers) ∷ [])
    (no_first false ((v == number_of_view mark.accepted) ∷ []) refl)
no_partner me mark horizon served duty (state.Pulls kept joining plan staged) items v fits other =
    no_first (is_in_view (server (value me mark horizon served duty
    (state.Pulls kept joining plan staged)) items) v)
    (same (place_of me) (partner (plan_of plan).storers) ∷ [])
    (no_first false ((v == number_of_view mark.accepted) ∷ []) refl)
no_partner me mark horizon served duty (state.Leads leads plan) items v fits other =
    none_of_two (is_in_view (server (value me mark horizon served duty (state.Leads leads plan))
    items) v) (same (place_of me) (partner (plan_of plan).storers))
    (ap (λ (p : Pair). same (place_of me) (partner p)) fits.storers
    ∙ ap (λ (q : Place). same q (partner (storers_led leads.beside (place_of me)))) (sym fits.place)
    ∙ leader_is_other (storers_led leads.beside (place_of me)))
no_partner me mark horizon served duty (state.Follows follows plan) items v fits other = cc

pub not_followed : (me : ServerId) (mark : MarkFields) (horizon : HorizonValue) (served : ℕ)
    (duty : Task) (s : State) (n : NodeValue) (items : List Entry) (clock : ℕ) (from : Place)
    (v cp base : ℕ) (es : List Entry)
    → value me mark horizon served duty s ≡ n → Fits (place_of me) mark s → is_followed s ≡ false
    → on_event n.me clock (server n items) from v cp base es ≡ []
not_followed me mark horizon served duty s n items clock from v cp base es of fits other =
    if_not (all_of (is_in_view (server n items) v ∷ same n.me (partner n.plain.plan.storers) ∷ []))
    (Heeding es cp base ∷ Sending from (Ack v (n.plain.base + length es) n.plain.lb
    (clock + n.plain.delta)) ∷ []) []
    (subst (λ (x : NodeValue). all_of (is_in_view (server x items) v
    ∷ same x.me (partner x.plain.plan.storers) ∷ []) ≡ false) of
    (no_partner me mark horizon served duty s items v fits other))

-- ---- what isn't heeded of a view's leader

pub heeded : (a b r : Bool) → r ≡ all_of (a ∷ b ∷ []) → r ≡ true → (a ≡ true) × (b ≡ true)
unfolding all_of
heeded true true r is so = (refl, refl)
heeded true false r is so = cc
heeded false b r is so = cc

pub not_both : (b : Bool) → b ≡ true → b ≡ false → ⊥
not_both b is not = cc

first_fails : (a : Bool) → all_of (a ∷ true ∷ []) ≡ false → a ≡ false
unfolding all_of
first_fails true h = cc
first_fails false h = refl

pub unheeded : (me : ServerId) (mark : MarkFields) (horizon : HorizonValue) (served : ℕ)
    (duty : Task) (s : State) (n : NodeValue) (items : List Entry) (clock : ℕ) (from : Place)
    (v a : View) (f r : Bool) (cp base : ℕ) (es : List Entry)
    → value me mark horizon served duty s ≡ n → Fits (place_of me) mark s → a ≡ mark.accepted
    → f ≡ is_followed s → r ≡ all_of ((number_of_view v == number_of_view a) ∷ f ∷ [])
    → r ≡ false → on_event n.me clock (server n items) from (number_of_view v) cp base es ≡ []
unheeded me mark horizon served duty s n items clock from v a true r cp base es of fits at is test
    not =
    not_in_view n.me clock (server n items) from (number_of_view v) cp base es
    (other_view (server n items) (number_of_view v)
    (accepted_test me mark horizon served duty s n v a (number_of_view v == number_of_view a) false
    of at refl (first_fails (number_of_view v == number_of_view a) (sym test ∙ not))))
unheeded me mark horizon served duty s n items clock from v a false r cp base es of fits at is test
    not =
    not_followed me mark horizon served duty s n items clock from (number_of_view v) cp base es of
    fits (sym is)
