-- Asks, at a leader and at the others.
use Rattle.std.proofs.Common.{◌≡◌, ℕ, ◌+◌, ◌==◌, Bool, true, false, List, [], ◌∷◌, ◌++◌, Option, None, Some, refl, sym, ap, ◌∙◌, subst, if◌then◌else◌}
use Rattle.std.specs.Prelude.{◌&&◌, ◌||◌, nat_le, nat_lt}
use Rattle.std.proofs.lemmas.List.{append-nil}
use Rattle.cell_cache.specs.Entries.{AreOf, Entries}
use Rattle.file_tree.specs.Book.{Entry, last_of}
use Rattle.group_rules.specs.Ask.{append, hint_of, new_entry, on_ask, read_entry, read_moves, refuse, update_moves}
use Rattle.group_rules.specs.Limits.{is_active, is_open}
use Rattle.group_rules.specs.Moves.{Appending, Move, Reading, Saying, Sending}
use Rattle.group_rules.specs.Names.{place_of}
use Rattle.group_rules.specs.Places.{Pair, Place, all_of, leader, partner, same}
use Rattle.group_rules.specs.Shown.{cause_of}
use Rattle.group_rules.specs.State.{Answers, BadClient, Cause, Event, LogFull, NoPromise, NotLeader, NotYetOpen, Old, Plan, Server, top}
use Rattle.harp_types.specs.Limits.{last_client}
use Rattle.harp_types.specs.Update.{is_update}
use Rattle.harp_types.specs.declared.call.Call.{Call}
use Rattle.harp_types.specs.declared.cred.Cred.{Cred}
use Rattle.harp_types.specs.declared.peer.Peer.{Peer}
use Rattle.harp_types.specs.declared.server.ServerId.{ServerId}
use Rattle.harp_types.specs.declared.state.Role.{Role as Part}
use Rattle.harp_cells.specs.Effect.{Cells}
use Rattle.harp_store.specs.Disk.{Moments}
use Rattle.harp_store.specs.Mark.{MarkFields}
use Rattle.idle_log.specs.Kept.{plan_of}
use Rattle.idle_log.specs.declared.form.Form.{Form}
use Rattle.node.proofs.Heeds.{no_first, none_of_two, partner_is_other}
use Rattle.node.proofs.InView.{leads_fits, leads_made, quiet_either}
use Rattle.node.proofs.Led.{AreQuiet, as_led}
use Rattle.node.proofs.Stores.{log_is}
use Rattle.node.specs.Active.{is_led}
use Rattle.node.specs.Asking.{Asked, cause_away, reads_tree}
use Rattle.node.specs.Node.{NodeValue, server, value}
use Rattle.node.specs.State.{Fits, IsLeading, cached_in, outer, role_of}
use Rattle.node.specs.Stored.{log_of}
use Rattle.node.specs.declared.state.State.{State}
use Rattle.node.specs.declared.state.State.TheVariants as state
use Rattle.node.specs.declared.state.Task.{Task}
use Rattle.node_outputs.proofs.Makes.{same_said}
use Rattle.node_outputs.specs.Records.{records_sent}
use Rattle.node_outputs.specs.Said.{Said, said}
use Rattle.node_outputs.specs.declared.outputs.Outputs.{Outputs}
use Rattle.promise.specs.Promise.{HorizonValue}
use Rattle.tree_log.specs.Reading.{HoldsTree}
use Rattle.replica.specs.Asking.{Asked as AskedLed, IsGrown, appended, reads_tree as reads_led, recorded}
use Rattle.replica.specs.Following.{storers_followed}
use Rattle.replica.specs.Leading.{Leading, led, mode_led, place_led}
use Rattle.volatile_log.specs.Log.{LogValue}

-- ---- a server that doesn't lead

pub leads_not : (me : ServerId) (mark : MarkFields) (horizon : HorizonValue) (served : ℕ)
    (duty : Task) (s : State) (items : List Entry) → Fits (place_of me) mark s → is_led s ≡ false
    → let t = server (value me mark horizon served duty s) items in
    all_of (is_active t.mode ∷ same (place_of me) (leader t.plan.storers) ∷ []) ≡ false
leads_not me mark horizon served duty state.Gone items fits led = no_first false _ refl
leads_not me mark horizon served duty (state.Rests kept) items fits led = no_first false _ refl
leads_not me mark horizon served duty (state.Joined kept joining) items fits led =
    no_first false _ refl
leads_not me mark horizon served duty (state.Pulls kept joining plan staged) items fits led =
    no_first false _ refl
leads_not me mark horizon served duty (state.Leads leads plan) items fits led = cc
leads_not me mark horizon served duty (state.Follows follows plan) items fits led =
    none_of_two _ _ (ap (λ (p : Pair). same (place_of me) (leader p)) fits.storers
    ∙ ap (λ (q : Place). same q (leader (storers_followed follows.ahead (place_of me))))
    (sym fits.place) ∙ partner_is_other (storers_followed follows.ahead (place_of me)))

away : (client number : ℕ) (hint : Option Place) (many leads : Bool) (ms : List (Move Entry))
    → leads ≡ false
    → (if many then refuse client number BadClient
    else (if leads then ms else refuse client number (NotLeader hint)))
    ≡ refuse client number (if many then BadClient else NotLeader hint)
away client number hint true leads ms not = refl
away client number hint false true ms not = cc
away client number hint false false ms not = refl

pub asks_away : (q : Place) (now : ℕ) (list : List Entry) (s : Server Entry) (client number : ℕ)
    (cred : Cred) (call : Call)
    → all_of (is_active s.mode ∷ same q (leader s.plan.storers) ∷ []) ≡ false
    → on_ask q now list s client number cred call
    ≡ refuse client number (cause_away q s.role client)
asks_away q now list s client number cred call not = away client number (hint_of q s.role)
    (nat_lt last_client client) (all_of (is_active s.mode ∷ same q (leader s.plan.storers) ∷ []))
    (if is_open s.mode
    then (if is_update call
    then update_moves s (new_entry now list client number cred call) (last_of client list)
    else read_moves now s (read_entry s.cp list client number cred call))
    else refuse client number NotYetOpen) not

abbrev refused_by : Said → Peer → ℕ → ℕ → Cause → Said
refused_by b peer client number cause = record b {
  refusals = b.refusals ++ (record {
    peer = peer;
    client = client;
    number = number;
    cause = cause_of cause;
  }) ∷ [];
}

refused_so : (now : ℕ) (list : List Entry) (client number : ℕ) (cause : Cause) (peer : Peer)
    (items : List Entry) (n : NodeValue) (before after : Outputs)
    → said after ≡ refused_by (said before) peer client number cause
    → records_sent after ≡ records_sent before
    → Asked now list (refuse client number cause) peer items n n before after
refused_so now list client number cause peer items n before after told sent =
    let b = said before in record {
      makes = record {
        state = refl;
        said = told ∙ same_said _ _ (sym (append-nil b.committed)) (sym (append-nil b.answers)) refl
            (sym (append-nil b.sends)) refl refl refl;
      };
      waits = sym (append-nil n.peers);
      records = sym (append-nil n.records);
      sent = sent ∙ sym (append-nil (records_sent before));
      tree = λ upto told le h. subst (λ (es : List Entry). HoldsTree es upto (log_of n) told)
          (sym (append-nil list)) h;
    }

pub refuses_away : (me : ServerId) (mark : MarkFields) (horizon : HorizonValue) (served : ℕ)
    (duty : Task) (s : State) (n : NodeValue) (now : ℕ) (list : List Entry)
    (client number : ℕ) (cred : Cred) (call : Call) (peer : Peer) (items : List Entry)
    (r : Part) (before after : Outputs) → value me mark horizon served duty s ≡ n
    → Fits (place_of me) mark s → is_led s ≡ false → r ≡ mark.role
    → said after ≡ refused_by (said before) peer client number
    (cause_away (place_of me) (role_of r) client)
    → records_sent after ≡ records_sent before
    → Asked now list (on_ask n.me now list (server n items) client number cred call) peer items n
    (value me mark horizon served duty s) before after
refuses_away me mark horizon served duty s n now list client number cred call peer items r before
    after of fits led role told sent =
    let cause : cause_away (place_of me) (role_of r) client ≡ cause_away n.me n.plain.role client =
    ap (λ (x : Part). cause_away (place_of me) (role_of x) client) role
    ∙ ap (λ (x : NodeValue). cause_away x.me x.plain.role client) of in
    let not : all_of (is_active n.plain.mode ∷ same n.me (leader n.plain.plan.storers) ∷ [])
    ≡ false =
    subst (λ (x : NodeValue). all_of (is_active x.plain.mode
    ∷ same x.me (leader x.plain.plan.storers) ∷ []) ≡ false) of
    (leads_not me mark horizon served duty s items fits led) in
    subst (λ (x : NodeValue). Asked now list
    (on_ask n.me now list (server n items) client number cred call) peer items n x before after)
    (sym of)
    (subst (λ (ms : List (Move Entry)). Asked now list ms peer items n n before after)
    (sym (asks_away n.me now list (server n items) client number cred call not))
    (refused_so now list client number (cause_away n.me n.plain.role client) peer items n before
    after (told ∙ ap (λ (x : Cause). refused_by (said before) peer client number x) cause) sent))

-- ---- the moves of a leader are quiet

quiet_append : (s : Server Entry) (e : Entry) → AreQuiet (append s e)
quiet_append s e = quiet_either _ (refuse e.client e.number LogFull)
    (Appending e ∷ Sending (partner s.plan.storers)
    (Event s.accepted (top s + 1) s.cp s.base e) ∷ []) (tt, tt) (tt, (tt, tt))

quiet_update : (s : Server Entry) (e : Entry) (last : Option Entry)
    → AreQuiet (update_moves s e last)
quiet_update s e None = quiet_append s e
quiet_update s e (Some last) = quiet_either (e.number == last.number)
    (if nat_le last.index s.cp then Saying (Answers last.index last) ∷ [] else [])
    (if nat_lt e.number last.number then refuse e.client e.number Old else append s e)
    (quiet_either (nat_le last.index s.cp) (Saying (Answers last.index last) ∷ []) [] (tt, tt) tt)
    (quiet_either (nat_lt e.number last.number) (refuse e.client e.number Old) (append s e)
    (tt, tt) (quiet_append s e))

quiet_read : (now : ℕ) (s : Server Entry) (e : Entry) → AreQuiet (read_moves now s e)
quiet_read now s e = quiet_either (nat_le s.grant now) (refuse e.client e.number NoPromise)
    (Reading s.cp e ∷ []) (tt, tt) (tt, tt)

quiet_call : (now : ℕ) (list : List Entry) (s : Server Entry) (client number : ℕ) (cred : Cred)
    (call : Call) → AreQuiet (if is_update call
    then update_moves s (new_entry now list client number cred call) (last_of client list)
    else read_moves now s (read_entry s.cp list client number cred call))
quiet_call now list s client number cred call = quiet_either (is_update call)
    (update_moves s (new_entry now list client number cred call) (last_of client list))
    (read_moves now s (read_entry s.cp list client number cred call))
    (quiet_update s (new_entry now list client number cred call) (last_of client list))
    (quiet_read now s (read_entry s.cp list client number cred call))

quiet_open : (now : ℕ) (list : List Entry) (s : Server Entry) (client number : ℕ) (cred : Cred)
    (call : Call) → AreQuiet (if is_open s.mode
    then (if is_update call
    then update_moves s (new_entry now list client number cred call) (last_of client list)
    else read_moves now s (read_entry s.cp list client number cred call))
    else refuse client number NotYetOpen)
quiet_open now list s client number cred call = quiet_either (is_open s.mode) _
    (refuse client number NotYetOpen) (quiet_call now list s client number cred call) (tt, tt)

pub quiet_ask : (q : Place) (now : ℕ) (list : List Entry) (s : Server Entry) (client number : ℕ)
    (cred : Cred) (call : Call) → AreQuiet (on_ask q now list s client number cred call)
quiet_ask q now list s client number cred call = quiet_either (nat_lt last_client client)
    (refuse client number BadClient) _ (tt, tt)
    (quiet_either (all_of (is_active s.mode ∷ same q (leader s.plan.storers) ∷ [])) _
    (refuse client number (NotLeader (hint_of q s.role)))
    (quiet_open now list s client number cred call) (tt, tt))

-- ---- a leader

-- what an ask changes of it leaves it the leader of its view
pub grown_leads : (q : Place) (mark : MarkFields) (l m : Leading) (plan : Plan) → IsGrown l m
    → IsLeading q mark l plan → IsLeading q mark m plan
grown_leads q mark l m plan grown is = subst (λ (x : Leading). IsLeading q mark x plan) (sym grown)
    (record {
      mark = record {
        promised = is.mark.promised;
        accepted = is.mark.accepted;
        role = is.mark.role;
        lb = is.mark.lb;
        saved = is.mark.saved;
      };
      storers = is.storers;
      start = is.start;
      horizon = is.horizon;
      place = is.place;
    })

-- the cells in memory of a node whose state is this one
pub cached_at : (me : ServerId) (mark : MarkFields) (horizon : HorizonValue) (served : ℕ)
    (duty : Task) (s t : State) (n : NodeValue) (told : Option Cells)
    → value me mark horizon served duty s ≡ n → t ≡ s → AreOf told n.cached
    → AreOf told (cached_in t)
cached_at me mark horizon served duty s t n told of same h =
    subst (λ (es : Entries). AreOf told es)
    (ap (λ (x : NodeValue). x.cached) (sym of) ∙ ap cached_in (sym same)) h

open_led : (b : Bool) → is_open (mode_led b) ≡ b
open_led true = refl
open_led false = refl

-- what the leader reads the node reads
pub reads_so : (me : ServerId) (mark : MarkFields) (horizon : HorizonValue) (served : ℕ)
    (duty : Task) (l : Leading) (plan : Form) (s : State) (n : NodeValue) (list : List Entry)
    (client : ℕ) (call : Call) (now : ℕ) (told : Option Moments)
    → s ≡ state.Leads l plan → value me mark horizon served duty s ≡ n
    → Fits (place_of me) mark s
    → (reads_tree n client call now ≡ true → HoldsTree list n.plain.cp (log_of n) told)
    → reads_led l client call now ≡ true → HoldsTree list l.log.cp l.log told
reads_so me mark horizon served duty l plan s n list client call now told at of fits holds reads =
    let whole : value me mark horizon served duty (state.Leads l plan) ≡ n =
    ap (value me mark horizon served duty) (sym at) ∙ of in
    let is : Fits (place_of me) mark (state.Leads l plan) =
    subst (λ (x : State). Fits (place_of me) mark x) at fits in
    let log = log_is me mark horizon served duty (state.Leads l plan) refl is in
    let P : NodeValue → Type 0 = λ x. reads_tree x client call now ≡ true
    → HoldsTree list x.plain.cp (log_of x) told in
    let mine = subst P (sym whole) holds in
    subst (λ (g : LogValue). HoldsTree list l.log.cp g told) log
    (mine (ap (λ b. nat_le client last_client && b && (is_update call || nat_lt now l.grant))
    (open_led l.opened) ∙ reads))

-- what the leader did the node did
abbrev asked_here : ℕ → List Entry → ℕ → ℕ → Cred → Call → Peer → List Entry → NodeValue → NodeValue
    → Outputs → Outputs → Type 0
asked_here now list client number cred call peer items old new before after = Asked now list
    (on_ask old.me now list (server old items) client number cred call) peer items old new
    before after

pub asked_led : (me : ServerId) (mark : MarkFields) (horizon : HorizonValue) (served : ℕ)
    (duty : Task) (l m : Leading) (plan : Form) (s : State) (n : NodeValue) (now : ℕ)
    (list : List Entry) (client number : ℕ) (cred : Cred) (call : Call) (peer : Peer)
    (items : List Entry) (before after : Outputs)
    → s ≡ state.Leads l plan → value me mark horizon served duty s ≡ n
    → Fits (place_of me) mark s
    → (let o = outer me mark horizon served duty plan in
    AskedLed now list (on_ask (place_led l o) now list (led l o) client number cred call) peer o l
    m before after)
    → Asked now list (on_ask n.me now list (server n items) client number cred call) peer items n
    (value me mark horizon served duty (state.Leads m plan)) before after
asked_led me mark horizon served duty l m plan s n now list client number cred call peer items
    before after at of fits h =
    let o = outer me mark horizon served duty plan in
    let old = value me mark horizon served duty (state.Leads l plan) in
    let new = value me mark horizon served duty (state.Leads m plan) in
    let rule : Place → Server Entry → List (Move Entry) =
    λ q t. on_ask q now list t client number cred call in
    let is : IsLeading (place_of me) mark l (plan_of plan) =
    subst (λ (x : State). Fits (place_of me) mark x) at fits in
    let quiet = quiet_ask (place_led l o) now list (led l o) client number cred call in
    let on = leads_fits me mark horizon served duty l m plan s now (rule (place_led l o) (led l o))
    at fits quiet h.makes.state in
    let moves : rule (place_led l o) (led l o) ≡ rule old.me (server old items) =
    ap (λ (q : Place). rule q (led l o)) is.place
    ∙ ap (rule (place_of me)) (sym (as_led me mark horizon served duty l plan items is)) in
    let k : AskedLed now list (rule old.me (server old items)) peer o l m before after =
    subst (λ (ms : List (Move Entry)). AskedLed now list ms peer o l m before after) moves h in
    let ms = rule old.me (server old items) in
    let view : l.view ≡ old.plain.accepted = sym is.mark.accepted in
    let was = log_is me mark horizon served duty (state.Leads l plan) refl is in
    let goes = log_is me mark horizon served duty (state.Leads m plan) refl on in
    subst (λ (x : NodeValue). asked_here now list client number cred call peer items x new before
    after) (ap (value me mark horizon served duty) (sym at) ∙ of)
    (record {
      makes = leads_made me mark horizon served duty l m plan (state.Leads l plan) old items now
          rule (λ x. peer ∷ []) before after refl refl is quiet h.makes;
      waits = k.waits;
      records = ap (λ (g : LogValue). g.records) k.log
          ∙ ap (λ (v : ℕ). l.log.records ++ recorded v list ms) view;
      sent = k.sent ∙ ap (λ (v : ℕ). records_sent before ++ recorded v list ms) view;
      tree = λ upto told le t. subst (λ (g : LogValue). HoldsTree (list ++ appended ms) upto g told)
          (sym goes)
          (k.tree upto told le (subst (λ (g : LogValue). HoldsTree list upto g told) was t));
    })
