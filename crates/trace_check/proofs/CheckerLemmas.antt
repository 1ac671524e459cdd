-- What a checker finds of a line, and what it knows after it.
use Rattle.std.proofs.Common.{◌≡◌, ℕ, ◌≤◌, Bool, true, false, [], ◌∷◌, ◌++◌, length, Option, Some, None, is_some, refl, sym, ap, subst, ◌∙◌, arith}
use Rattle.std.specs.Prelude.{◌↔◌, ◌⊎◌}
use Rattle.std.specs.Bool.{if◌then◌else◌}
use Rattle.std.specs.Option.{option_map}
use Rattle.std.proofs.lemmas.List.{length-append}
use Rattle.harp_types.specs.Update.{is_update}
use Rattle.harp_types.specs.Trio.{value_of}
use Rattle.harp_types.specs.View.{View}
use Rattle.harp_types.specs.declared.call.Call.{Call}
use Rattle.harp_types.specs.declared.cred.Cred.{Cred}
use Rattle.harp_types.specs.declared.reply.Reply.{Reply}
use Rattle.harp_types.specs.declared.server.ServerId.{ServerId}
use Rattle.harp_types.specs.declared.state.Role.TheVariants as role
use Rattle.harp_types.specs.declared.state.StateLine.{StateLine}
use Rattle.file_tree.specs.Book.{tree_after}
use Rattle.file_tree.specs.Calls.{outcome}
use Rattle.file_tree.specs.Tree.{Tree}
use Rattle.trace_types.specs.declared.step.Step.{Step}
use Rattle.trace_types.specs.declared.step.Step.TheVariants as step
use Rattle.harp_types.specs.declared.book.BookEntry.{BookEntry}
use Rattle.trace_types.specs.declared.line.Line.{Line}
use Rattle.trace_types.specs.declared.line.Line.TheVariants as line
use Rattle.trace_claims.specs.Acknowledged.{HasAcknowledged, WithinOpening}
use Rattle.trace_claims.specs.Faithful.{IsReadReply, IsReplyIn, IsReplyTo, IsUpdateReply}
use Rattle.trace_claims.specs.Reading.{HasPromise}
use Rattle.trace_claims.specs.Servers.{AckDelivered, HasShown, PromiseDelivered, clock_after, first_open, last_state}
use Rattle.trace_claims.specs.Trace.{Trace, entered_by, entries}
use Rattle.trace_check.specs.Breaches.{IsVerdict}
use Rattle.trace_check.specs.Checker.{FollowsLine, Kept, Saw}
use Rattle.trace_check.specs.ClocksRead.{AreClocksOf}
use Rattle.trace_check.specs.Keys.{place_key}
use Rattle.trace_check.specs.Marks.{IsWithin, Reaches}
use Rattle.trace_check.specs.Network.{IsNetworkOf}
use Rattle.trace_check.specs.ServersSeen.{AreServersOf}
use Rattle.trace_check.specs.declared.checker.Checker.{Checker}
use Rattle.trace_check.specs.declared.servers.Servers.{Servers}
use Rattle.trace_check.specs.Asks.{AreAsksOf}
use Rattle.trace_check.specs.History.{HasReply, IsHistoryOf}
use Rattle.trace_check.specs.UnderWay.{IsUnderWay, reading_of}
use Rattle.trace_check.specs.declared.under_way.Reading.{Reading}
use Rattle.trace_check.proofs.BreachLaws.{accepts_more}

-- ---- how many entries

one_entry : (l : Line) → length (entered_by l) ≤ 1
one_entry (line.Entered place entry) = omega arith
one_entry l = omega arith

pub entries_within : (t : Trace) → length (entries t) ≤ length t
entries_within [] = omega arith
entries_within (l ∷ t) =
    omega (arith, one_entry l, entries_within t, length-append (entered_by l) (entries t))

-- ---- the tree after a line

pub reply_is : (t : Trace) (entry : BookEntry) (tree new : Tree) (reply : Reply)
    → tree ≡ tree_after (entries t)
    → outcome tree entry.cred entry.call entry.stamp ≡ (reply, new)
    → reply ≡ (outcome (tree_after (entries t)) entry.cred entry.call entry.stamp).0
reply_is t entry tree new reply is out =
    sym (ap (λ (x : Reply × Tree). x.0) out)
    ∙ ap (λ (s : Tree). (outcome s entry.cred entry.call entry.stamp).0) is

-- ---- acknowledged

state_same : (x y : StateLine) → Some x ≡ Some y → x ≡ y
state_same x y e = cc

leads_one : (x y : ServerId) → role.Leads x ≡ role.Leads y → x ≡ y
leads_one x y e = cc

-- what an acknowledgement is where the last state and the partner are known
pub acks_here : (t : Trace) (s : ServerId) (n : ℕ) (state : StateLine) (partner : ServerId)
    → last_state t s ≡ Some state → state.role ≡ role.Leads partner
    → HasAcknowledged t s n
    ↔ (HasShown t partner state.accepted n × (AckDelivered t partner s state.accepted n
    ⊎ WithinOpening t s state.accepted n))
acks_here t s n state partner is leads = (
  λ h. let same : h.state ≡ state = state_same h.state state (sym h.is ∙ is) in
      let other : h.partner ≡ partner = leads_one h.partner partner
      (sym h.leads ∙ ap (λ (x : StateLine). x.role) same ∙ leads) in
      let P : ServerId → StateLine → Type 0 = λ p x. HasShown t p x.accepted n
      × (AckDelivered t p s x.accepted n ⊎ WithinOpening t s x.accepted n) in
      subst (λ (x : StateLine). P partner x) same
      (subst (λ (p : ServerId). P p h.state) other (h.shown, h.acknowledged)),
  λ h. record {
    state = state;
    is = is;
    partner = partner;
    leads = leads;
    shown = h.0;
    acknowledged = h.1;
  },
)

within_is : (o : Option StateLine) (n : ℕ)
    → IsWithin n (option_map (λ (state : StateLine). state.cp) o)
    ↔ ((state : StateLine) × (o ≡ Some state) × (n ≤ state.cp))
within_is None n = (λ h. absurd h, λ h. (let w = h.1 in absurd cc))
within_is (Some x) n = (
  λ h. (x, refl, h),
  λ h. subst (λ (y : StateLine). n ≤ y.cp) (sym (state_same x h.0 h.1)) h.2,
)

pub opening_is : (servers : Servers) (t : Trace) (s : ServerId) (view : View) (n : ℕ)
    → AreServersOf servers t
    → Reaches (value_of servers.opened s) (place_key s view) n ↔ WithinOpening t s view n
opening_is servers t s view n a =
    let w = within_is (first_open t s view) n in (
      λ r. let h = w.0 (subst (IsWithin n) (a.opened s view) r) in
          record { state = h.0; is = h.1; within = h.2 },
      λ h. subst (IsWithin n) (sym (a.opened s view)) (w.1 (h.state, h.is, h.within)),
    )

-- ---- promised

pub promised_here : (t : Trace) (s : ServerId) (state : StateLine) (partner : ServerId)
    → last_state t s ≡ Some state → state.role ≡ role.Leads partner
    → HasPromise t s ↔ PromiseDelivered t partner s state.accepted (clock_after t s)
promised_here t s state partner is leads = (
  λ h. let same : h.state ≡ state = state_same h.state state (sym h.is ∙ is) in
      let other : h.partner ≡ partner = leads_one h.partner partner
      (sym h.leads ∙ ap (λ (x : StateLine). x.role) same ∙ leads) in
      subst (λ (x : StateLine). PromiseDelivered t partner s x.accepted (clock_after t s)) same
      (subst (λ (p : ServerId). PromiseDelivered t p s h.state.accepted (clock_after t s)) other
      h.promised),
  λ h. record { state = state; is = is; partner = partner; leads = leads; promised = h },
)

-- ---- which reply an answer is

same_type : (t : Trace) (client number : ℕ) (reply : Reply) (x y : Reading) → x ≡ y
    → IsReadReply t client number x.cred x.call reply
    ↔ IsReadReply t client number y.cred y.call reply
same_type t client number reply x y e =
    subst (λ (z : Reading). IsReadReply t client number x.cred x.call reply
    ↔ IsReadReply t client number z.cred z.call reply) e (λ h. h, λ h. h)

some_reading : (x y : Reading) → Some x ≡ Some y → x ≡ y
some_reading x y e = cc

reply_at : (b : Bool) (t : Trace) (client number index : ℕ) (reply : Reply) (cred : Cred)
    (call : Call) (r : Reading)
    → (if b then None else Some (record { cred = cred; call = call })) ≡ Some r
    → IsReplyTo b t client number index cred call reply
    ↔ IsReadReply t client number r.cred r.call reply
reply_at true t client number index reply cred call r e = absurd cc
reply_at false t client number index reply cred call r e =
    same_type t client number reply (record { cred = cred; call = call }) r
    (some_reading (record { cred = cred; call = call }) r e)

pub reply_reading : (s : Option Step) (r : Reading) → reading_of s ≡ Some r → (t : Trace)
    (client number index : ℕ) (reply : Reply) → IsReplyIn s t client number index reply
    ↔ IsReadReply t client number r.cred r.call reply
reply_reading None r e t client number index reply = absurd cc
reply_reading (Some (step.Ask server asker asked cred call)) r e t client number index reply =
    reply_at (is_update call) t client number index reply cred call r e
reply_reading (Some s) r e t client number index reply = absurd cc

update_at : (b : Bool) (t : Trace) (client number index : ℕ) (reply : Reply) (cred : Cred)
    (call : Call) (found : Option Reading) → found ≡ None
    → (if b then None else Some (record { cred = cred; call = call })) ≡ found
    → IsReplyTo b t client number index cred call reply ↔ IsUpdateReply t client number index reply
update_at true t client number index reply cred call found n e = (λ h. h, λ h. h)
update_at false t client number index reply cred call found n e = absurd cc

pub reply_update : (s : Option Step) → reading_of s ≡ None → (t : Trace)
    (client number index : ℕ) (reply : Reply) → IsReplyIn s t client number index reply
    ↔ IsUpdateReply t client number index reply
reply_update None e t client number index reply = (λ h. h, λ h. h)
reply_update (Some (step.Ask server asker asked cred call)) e t client number index reply =
    update_at (is_update call) t client number index reply cred call None refl e
reply_update (Some s) e t client number index reply = (λ h. h, λ h. h)

pub kept_reply : (t : Trace) (client number index : ℕ) (reply : Reply)
    → HasReply (entries t) client number index reply ↔ IsUpdateReply t client number index reply
kept_reply t client number index reply = (
  λ h. record {
    entry = h.entry;
    stands = h.stands;
    updates = h.updates;
    client_is = h.client_is;
    number_is = h.number_is;
    index_is = h.index_is;
    reply_is = h.reply_is;
  },
  λ h. record {
    entry = h.entry;
    stands = h.stands;
    updates = h.updates;
    client_is = h.client_is;
    number_is = h.number_is;
    index_is = h.index_is;
    reply_is = h.reply_is;
  },
)

pub some_of : (o : Option Reading) → is_some o ≡ true → (r : Reading) × (o ≡ Some r)
some_of None e = absurd cc
some_of (Some r) e = (r, refl)

pub none_of : (o : Option Reading) → is_some o ≡ false → o ≡ None
none_of None e = refl
none_of (Some r) e = absurd cc

-- ---- after a line

pub kept_same : (t : Trace) (earlier old : Checker) → old ≡ record earlier { tree = old.tree }
    → Kept earlier t → Kept old t
kept_same t earlier old e k = record {
  history = subst (λ h. IsHistoryOf h (entries t)) (sym (ap (λ (x : Checker). x.history) e))
      k.history;
  asks = subst (λ h. AreAsksOf h t) (sym (ap (λ (x : Checker). x.asks) e)) k.asks;
  network = subst (λ h. IsNetworkOf h t) (sym (ap (λ (x : Checker). x.network) e)) k.network;
  servers = subst (λ h. AreServersOf h t) (sym (ap (λ (x : Checker). x.servers) e)) k.servers;
  clocks = subst (λ h. AreClocksOf h t) (sym (ap (λ (x : Checker). x.clocks) e)) k.clocks;
  under_way = subst (λ h. IsUnderWay h t) (sym (ap (λ (x : Checker). x.under_way) e)) k.under_way;
}

pub saw_more : (t : Trace) (l : Line) (earlier old new : Checker) → Saw earlier t
    → FollowsLine t l earlier old → IsVerdict t l None → new.tree ≡ old.tree
    → Kept new (t ++ l ∷ []) → Saw new (t ++ l ∷ [])
saw_more t l earlier old new s f v e k = record {
  accepted = accepts_more t l s.accepted v;
  tree = e ∙ f.tree;
  kept = k;
}
