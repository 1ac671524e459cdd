-- Whom a step answers asked under the number of the answer.
use Rattle.std.proofs.Common.{◌≡◌, ℕ, zero, suc, ◌+◌, ◌-◌, ◌||◌, ◌&&◌, ◌==◌, Bool, true, false, List, [], ◌∷◌, ◌++◌, append-nil, length, take, fold, Option, None, Some, nat_le, nat_lt, refl, sym, ap, ◌∙◌, subst, if◌then◌else◌}
use Rattle.std.specs.Prelude.{⊤}
use Rattle.std.proofs.lemmas.Grind.{flat_map-append}
use Rattle.file_tree.specs.Book.{Entry, last_next, last_of}
use Rattle.group_rules.proofs.Tests.{by_if, each_of, is_eq'}
use Rattle.group_rules.specs.Ask.{append, new_entry, on_ask, read_entry, update_moves}
use Rattle.group_rules.specs.Disk.{flush_tests, settled_tests}
use Rattle.group_rules.specs.Limits.{is_active, is_open, limit, room}
use Rattle.group_rules.specs.Misfits.{misfits}
use Rattle.group_rules.specs.Moves.{Move, acts}
use Rattle.group_rules.specs.Open.{rebase, try_open}
use Rattle.group_rules.specs.Places.{Place, all_of, leader, same}
use Rattle.group_rules.specs.Replicate.{ack_tests, answers}
use Rattle.group_rules.specs.Said.{Answer, answered_by, answers_said}
use Rattle.group_rules.specs.State.{Ack, Beat, Demote, Event as Told, Fetch, Form, Formed, Give, Invite, Join, Message, Mode, Server, top}
use Rattle.group_rules.specs.Step.{Apply, Ask, Comes, Crash, Does, Flush, Input as Begins, ListTree, Power, Suspect, Tick, on_message, rule, step}
use Rattle.group_safety.proofs.Modes.{open_is}
use Rattle.harp_types.specs.Limits.{last_client}
use Rattle.harp_types.specs.Update.{is_update}
use Rattle.harp_types.specs.declared.call.Call.{Call}
use Rattle.harp_types.specs.declared.cred.Cred.{Cred}
use Rattle.harp_types.specs.declared.peer.Peer.{Peer}
use Rattle.node.proofs.Calls.{mute_rebase, mute_suspect}
use Rattle.node.proofs.Mute.{mute_rule}
use Rattle.node.proofs.Stepped.{mute_tick}
use Rattle.node.proofs.Takes.{mute_open}
use Rattle.running_laws.specs.Books.{WasAsked}
use Rattle.running_laws.specs.Events.{Event}
use Rattle.running_laws.specs.Follows.{AreAskers, HasAskers, WaitIn, above_cp}

-- ---- to whom an answer is owed

-- a read's is of the very call, an update's of any
abbrev pub IsFor : (reads : Bool) → Entry → Cred → Call → Type 0
IsFor true e cred call = (call ≡ e.call) × (cred ≡ e.cred)
IsFor false e cred call = is_update call ≡ true

-- a peer asked under the number of an answer
pub record IsOwed (es : List Event) (a : Answer) (peer : Peer) : Type 0 where
  pub cred : Cred
  pub call : Call
  pub was : WasAsked es a.entry.client a.entry.number cred call peer
  pub fits : IsFor a.reads a.entry cred call

-- in turn
abbrev pub AreOwed : List Event → List Answer → List Peer → Type 0
AreOwed es [] peers = ⊤
AreOwed es (a ∷ rest) [] = ⊤
AreOwed es (a ∷ rest) (p ∷ peers) = IsOwed es a p × AreOwed es rest peers

-- what moves answer
abbrev pub Owes : List Event → List Peer → List (Move Entry) → Type 0
Owes es peers ms = AreOwed es (answers_said ms) peers

-- ---- moves behind which nobody is answered

said_first : (a b : List (Move Entry)) → answers_said b ≡ [] → answers_said (a ++ b)
    ≡ answers_said a
said_first a b none = flat_map-append answered_by a b
    ∙ ap (λ (xs : List Answer). answers_said a ++ xs) none ∙ append-nil (answers_said a)

owed_first : (es : List Event) (peers : List Peer) (a b : List (Move Entry))
    → answers_said b ≡ [] → Owes es peers a → Owes es peers (a ++ b)
owed_first es peers a b none h =
    subst (λ (xs : List Answer). AreOwed es xs peers) (sym (said_first a b none)) h

owed_none : (es : List Event) (peers : List Peer) (ms : List (Move Entry))
    → answers_said ms ≡ [] → Owes es peers ms
owed_none es peers ms none =
    subst (λ (xs : List Answer). AreOwed es xs peers) (sym none) tt

owed_if : (es : List Event) (peers : List Peer) (b : Bool) (x y : List (Move Entry))
    → (b ≡ true → Owes es peers x) → (b ≡ false → Owes es peers y)
    → Owes es peers (if b then x else y)
owed_if es peers b x y = by_if (Owes es peers) b x y

-- ---- an ask

-- a client's last update is its own
last_own : (client : ℕ) (xs : List Entry) (o : Option Entry)
    → ((l : Entry) → o ≡ Some l → l.client ≡ client) → (l : Entry)
    → fold (last_next client) o xs ≡ Some l → l.client ≡ client
last_own client [] o own l e = own l e
last_own client (x ∷ xs) o own l e =
    last_own client xs (last_next client o x) next l e
  where
    both : (a b : Bool) → (a && b) ≡ true → b ≡ true
    both true b h = h
    both false b h = absurd cc

    next : (k : Entry) → last_next client o x ≡ Some k → k.client ≡ client
    next k = by_if (λ (y : Option Entry). y ≡ Some k → k.client ≡ client)
        (is_update x.call && (x.client == client)) (Some x) o
        (λ t h.
        let own_is : x.client ≡ client =
        is_eq' x.client client (both (is_update x.call) (x.client == client) t) in
        let same : x ≡ k = cc in
        subst (λ (y : Entry). y.client ≡ client) same own_is)
        (λ _ h. own k h)

module _ (es : List Event) (peer : Peer) (client number : ℕ) (cred : Cred) (c : Call)
    (was : WasAsked es client number cred c peer) where
  append_owed : (s : Server Entry) (e : Entry) → Owes es (peer ∷ []) (append s e)
  append_owed s e = owed_if es (peer ∷ [])
      (nat_le room (length s.items) || nat_le limit (top s)) _ _ (λ _. tt) (λ _. tt)

  -- the kept answer of this number
  kept_owed : is_update c ≡ true → (index : ℕ) (last : Entry) → last.client ≡ client
      → number ≡ last.number
      → IsOwed es (record { index = index; entry = last; reads = false }) peer
  kept_owed u index last own same = record {
    cred = cred;
    call = c;
    was = subst (λ (k : ℕ). WasAsked es k last.number cred c peer) (sym own)
        (subst (λ (k : ℕ). WasAsked es client k cred c peer) same was);
    fits = u;
  }

  update_owed : is_update c ≡ true → (s : Server Entry) (e : Entry) (last : Option Entry)
      → e.number ≡ number → ((l : Entry) → last ≡ Some l → l.client ≡ client)
      → Owes es (peer ∷ []) (update_moves s e last)
  update_owed u s e None is own = append_owed s e
  update_owed u s e (Some last) is own = owed_if es (peer ∷ []) (e.number == last.number) _ _
      (λ same. owed_if es (peer ∷ []) (nat_le last.index s.cp) _ []
      (λ _. (
        kept_owed u last.index last (own last refl)
            (sym is ∙ is_eq' e.number last.number same),
        tt,
      ))
      (λ _. tt))
      (λ _. owed_if es (peer ∷ []) (nat_lt e.number last.number) _ _ (λ _. tt)
      (λ _. append_owed s e))

  read_owed : (s : Server Entry) (list : List Entry)
      → IsOwed es (record {
        index = s.cp;
        entry = read_entry s.cp list client number cred c;
        reads = true;
      }) peer
  read_owed s list = record { cred = cred; call = c; was = was; fits = (refl, refl) }

  -- AN ASK is answered to who asks
  ask_owed : (q : Place) (clock : ℕ) (list : List Entry) (s : Server Entry)
      → Owes es (peer ∷ []) (on_ask q clock list s client number cred c)
  ask_owed q clock list s =
      owed_if es (peer ∷ []) (nat_lt last_client client) _ _ (λ _. tt)
      (λ _. owed_if es (peer ∷ [])
      (all_of (is_active s.mode ∷ same q (leader s.plan.storers) ∷ [])) _ _
      (λ _. owed_if es (peer ∷ []) (is_open s.mode) _ _
      (λ _. owed_if es (peer ∷ []) (is_update c) _ _
      (λ u. update_owed u s (new_entry clock list client number cred c) (last_of client list) refl
      (λ l e. last_own client list None (λ k none. cc) l e))
      (λ _. owed_if es (peer ∷ []) (nat_le s.grant clock) _ _ (λ _. tt)
      (λ _. (read_owed s list, tt))))
      (λ _. tt))
      (λ _. tt))

-- ---- an Ack

-- the updates that an Ack commits are answered to who waits for them
answers_owed : (es : List Event) (xs : List Entry) (peers : List Peer) (n m : ℕ)
    → AreAskers es xs peers → AreOwed es (answers_said (answers n (take m xs))) peers
answers_owed es xs peers n zero h = tt
answers_owed es [] peers n (suc m) h = tt
answers_owed es (x ∷ xs) [] n (suc m) h = absurd h
answers_owed es (x ∷ xs) (p ∷ peers) n (suc m) h = (
  record { cred = x.cred; call = x.call; was = h.1; fits = h.0 },
  answers_owed es xs peers (n + 1) m h.2,
)

ack_owed : (es : List Event) (peers : List Peer) (size : List Entry → Entry → ℕ) (q : Place)
    (clock : ℕ) (list : List Entry) (s : Server Entry) (from : Place) (v t lb until : ℕ)
    → HasAskers es s peers
    → Owes es peers (rule size q clock list s (Comes from (Ack v t lb until)))
ack_owed es peers size q clock list s from v t lb until h =
    let ms = on_message size q clock list s from (Ack v t lb until) in
    owed_if es peers (misfits q s from (Ack v t lb until)) [] _ (λ _. tt)
    (λ _. owed_first es peers ms (try_open q clock (acts q clock s ms))
    (mute_open q clock (acts q clock s ms)).answers
    (owed_if es peers (all_of (ack_tests s v)) _ [] (λ tests.
    let o = open_is s.mode (each_of (ack_tests s v) tests).0 in
    let asked : AreAskers es (above_cp s) peers =
    subst (λ (m : Mode). WaitIn es m (above_cp s) peers) o h in
    owed_if es peers (nat_lt s.cp t) _ []
    (λ _. answers_owed es (above_cp s) peers s.cp (t - s.cp) asked) (λ _. tt))
    (λ _. tt)))

-- ---- the others answer nobody

-- neither an ask nor an Ack
abbrev pub IsMuteInput : Begins → Type 0
IsMuteInput (Does (Ask client number cred call)) = ⊥
IsMuteInput (Comes from (Ack v t lb until)) = ⊥
IsMuteInput i = ⊤

none_if : (b : Bool) (x : List (Move Entry)) → answers_said x ≡ []
    → answers_said (if b then x else []) ≡ []
none_if b x h = by_if (λ ms. answers_said ms ≡ []) b x [] (λ _. h) (λ _. refl)

message_none : (size : List Entry → Entry → ℕ) (q : Place) (clock : ℕ) (list : List Entry)
    (s : Server Entry) (from : Place) (m : Message Entry) → IsMuteInput (Comes from m)
    → answers_said (rule size q clock list s (Comes from m)) ≡ []
message_none size q clock list s from (Ack v t lb until) n = absurd n
message_none size q clock list s from (Invite v) n =
    (mute_rule size q clock list s from (Invite v) tt).answers
message_none size q clock list s from (Join v t) n =
    (mute_rule size q clock list s from (Join v t) tt).answers
message_none size q clock list s from (Form v plan) n =
    (mute_rule size q clock list s from (Form v plan) tt).answers
message_none size q clock list s from (Fetch v index) n =
    (mute_rule size q clock list s from (Fetch v index) tt).answers
message_none size q clock list s from (Give v index items) n =
    (mute_rule size q clock list s from (Give v index items) tt).answers
message_none size q clock list s from (Formed v lb) n =
    (mute_rule size q clock list s from (Formed v lb) tt).answers
message_none size q clock list s from (Told v index cp base e) n =
    (mute_rule size q clock list s from (Told v index cp base e) tt).answers
message_none size q clock list s from (Beat v cp base) n =
    (mute_rule size q clock list s from (Beat v cp base) tt).answers
message_none size q clock list s from (Demote v) n =
    (mute_rule size q clock list s from (Demote v) tt).answers

rule_none : (size : List Entry → Entry → ℕ) (q : Place) (clock : ℕ) (list : List Entry)
    (s : Server Entry) (i : Begins) → IsMuteInput i
    → answers_said (rule size q clock list s i) ≡ []
rule_none size q clock list s (Does Tick) n = (mute_tick q clock s).answers
rule_none size q clock list s (Does Suspect) n = (mute_suspect q s).answers
rule_none size q clock list s (Does (Ask client number cred call)) n = absurd n
rule_none size q clock list s (Does (Apply k)) n = none_if (all_of (settled_tests q s)) _ refl
rule_none size q clock list s (Does Flush) n = none_if (all_of (flush_tests q s)) _ refl
rule_none size q clock list s (Does ListTree) n = none_if (all_of (settled_tests q s)) _ refl
rule_none size q clock list s (Does Power) n = refl
rule_none size q clock list s (Does Crash) n = refl
rule_none size q clock list s (Comes from m) n = message_none size q clock list s from m n

-- ---- a step

owed_step : (es : List Event) (peers : List Peer) (size : List Entry → Entry → ℕ) (q : Place)
    (clock : ℕ) (list : List Entry) (s : Server Entry) (i : Begins)
    → Owes es peers (rule size q clock list s i) → Owes es peers (step size q clock list s i)
owed_step es peers size q clock list s i h =
    let ms = rule size q clock list s i in
    owed_first es peers ms (rebase (acts q clock s ms)) (mute_rebase (acts q clock s ms)).answers
    h

-- who is answered by a step that begins so: who asks now, or those who wait
abbrev pub AnswersTo : List Event → List Peer → Server Entry → Begins → Type 0
AnswersTo es peers s (Does (Ask client number cred call)) =
    (p : Peer) × (peers ≡ p ∷ []) × WasAsked es client number cred call p
AnswersTo es peers s (Comes from m) = HasAskers es s peers
AnswersTo es peers s i = ⊤

pub step_owed : (es : List Event) (peers : List Peer) (size : List Entry → Entry → ℕ) (q : Place)
    (clock : ℕ) (list : List Entry) (s : Server Entry) (i : Begins) → AnswersTo es peers s i
    → Owes es peers (step size q clock list s i)
step_owed es peers size q clock list s i h = owed_step es peers size q clock list s i (by i h)
  where
    mute : (i : Begins) → IsMuteInput i → Owes es peers (rule size q clock list s i)
    mute i n = owed_none es peers (rule size q clock list s i)
        (rule_none size q clock list s i n)

    by_message : (from : Place) (m : Message Entry) → HasAskers es s peers
        → Owes es peers (rule size q clock list s (Comes from m))
    by_message from (Ack v t lb until) h =
        ack_owed es peers size q clock list s from v t lb until h
    by_message from (Invite v) h = mute (Comes from (Invite v)) tt
    by_message from (Join v t) h = mute (Comes from (Join v t)) tt
    by_message from (Form v plan) h = mute (Comes from (Form v plan)) tt
    by_message from (Fetch v index) h = mute (Comes from (Fetch v index)) tt
    by_message from (Give v index items) h = mute (Comes from (Give v index items)) tt
    by_message from (Formed v lb) h = mute (Comes from (Formed v lb)) tt
    by_message from (Told v index cp base e) h = mute (Comes from (Told v index cp base e)) tt
    by_message from (Beat v cp base) h = mute (Comes from (Beat v cp base)) tt
    by_message from (Demote v) h = mute (Comes from (Demote v)) tt

    by : (i : Begins) → AnswersTo es peers s i → Owes es peers (rule size q clock list s i)
    by (Does Tick) h = mute (Does Tick) tt
    by (Does Suspect) h = mute (Does Suspect) tt
    by (Does (Ask client number cred call)) h =
        subst (λ (ps : List Peer). Owes es ps (on_ask q clock list s client number cred call))
        (sym h.1) (ask_owed es h.0 client number cred call h.2 q clock list s)
    by (Does (Apply k)) h = mute (Does (Apply k)) tt
    by (Does Flush) h = mute (Does Flush) tt
    by (Does ListTree) h = mute (Does ListTree) tt
    by (Does Power) h = mute (Does Power) tt
    by (Does Crash) h = mute (Does Crash) tt
    by (Comes from m) h = by_message from m h
