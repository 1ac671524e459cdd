-- Messages by their bytes, and what a datagram gives.
use Rattle.std.proofs.Common.{◌≡◌, ◌⊎◌, ℕ, ◌+◌, ◌==◌, ◌||◌, Bool, true, [], length, is_none, Option, None, Some, Result, Ok, inl, inr, refl, sym, ap, ◌∙◌, subst, append-nil}
use Rattle.harp_types.specs.declared.call.Call.{Call}
use Rattle.harp_types.specs.declared.cred.Cred.{Cred}
use Rattle.harp_types.specs.declared.peer.Peer.{Peer}
use Rattle.harp_types.specs.declared.peer.Peer.TheVariants.{Local, Server, Other}
use Rattle.harp_types.specs.declared.server.ServerId.{ServerId}
use Rattle.node.specs.declared.input.Input.{Input}
use Rattle.node.specs.declared.input.Input.TheVariants as input
use Rattle.node_loop.specs.Arriving.{from_server, input_of}
use Rattle.node_outputs.specs.Messages.{heard}
use Rattle.wire.proofs.MessageLaws.{message_codec}
use Rattle.wire.specs.Messages.{MessageFits, form_number, form_of, message_at, message_bytes}
use Rattle.wire.specs.declared.message.Message.{Message}
use Rattle.wire.specs.declared.message.Message.TheVariants as message

-- a message that fits is what its bytes are read as
reads_itself : (m : Message) → MessageFits m
    → message_at (message_bytes m) 0 ≡ Ok (m, 0 + length (message_bytes m))
reads_itself m fits = message_codec.again (message_bytes m) 0 m [] fits
    (sym (append-nil (message_bytes m)))

-- messages that fit and have the same bytes are one
pub same_message : (m k : Message) → MessageFits m → MessageFits k
    → message_bytes m ≡ message_bytes k → m ≡ k
same_message m k f g e =
    let n = 0 + length (message_bytes k) in
    let read : message_at (message_bytes m) 0 ≡ Ok (k, n) =
    subst (λ bytes. message_at bytes 0 ≡ Ok (k, n)) (sym e) (reads_itself k g) in
    let both : ◌≡◌ {A = Result (Message × ℕ) _} (Ok (m, 0 + length (message_bytes m))) (Ok (k, n)) =
    sym (reads_itself m f) ∙ read in
    let pairs : ◌≡◌ {A = Message × ℕ} (m, 0 + length (message_bytes m)) (k, n) = cc in
    ap (λ (x : Message × ℕ). x.0) pairs

-- ---- messages for clients

-- the first bytes of messages that no server hears
is_for_clients : ℕ → Bool
is_for_clients n = (n == 27) || ((n == 12) || (n == 13))

unheard_is : (m : Message) → is_none (heard m) ≡ is_for_clients (form_number (form_of m))
unfolding is_for_clients
unheard_is (message.Invite view) = refl
unheard_is (message.Join view has accepted base lb cp top horizon) = refl
unheard_is (message.Form view storers source base cp start horizon) = refl
unheard_is (message.Fetch view first) = refl
unheard_is (message.Give view first records) = refl
unheard_is (message.Formed view lb) = refl
unheard_is (message.Event view cp base event) = refl
unheard_is (message.Beat view cp base) = refl
unheard_is (message.Ack view top lb until) = refl
unheard_is (message.Demote view) = refl
unheard_is (message.Ask client number cred call) = refl
unheard_is (message.Answer client number index reply) = refl
unheard_is (message.CannotServe client number cause) = refl

none_there : {A : Type 0} (o : Option A) → is_none o ≡ true → o ≡ None
none_there None e = refl
none_there (Some x) e = absurd cc

-- a message with the bytes of one that no server hears is heard by none
pub unheard_by_bytes : (m k : Message) → message_bytes m ≡ message_bytes k → heard k ≡ None
    → heard m ≡ None
unheard_by_bytes m k e none =
    let same : form_number (form_of m) ≡ form_number (form_of k) = cc in
    none_there (heard m) (unheard_is m ∙ ap is_for_clients same ∙ sym (unheard_is k)
    ∙ ap is_none none)

-- ---- what a datagram gives

-- a call of a client, whoever asks it
pub record IsAsked (from : Peer) (m : Message) (given : Input) : Type 0 where
  pub client : ℕ
  pub number : ℕ
  pub cred : Cred
  pub call : Call
  pub message_is : m ≡ message.Ask client number cred call
  pub is : given ≡ input.Ask from client number cred call

-- a server's message, which servers hear
pub record IsTold (from : Peer) (m : Message) (given : Input) : Type 0 where
  pub server : ServerId
  pub from_is : from ≡ Server server
  pub is : given ≡ input.Message server m
  pub heard_is : heard m ≡ None → ⊥

told_by : (from : Peer) (m : Message) (given : Input) → Some given ≡ from_server from m
    → (heard m ≡ None → ⊥) → IsTold from m given
told_by Local m given e is = absurd cc
told_by (Server s) m given e is = record { server = s; from_is = refl; is = cc; heard_is = is }
told_by (Other address port) m given e is = absurd cc

-- WHAT A DATAGRAM GIVES is a call, or a server's message
pub given_as : (from : Peer) (m : Message) (given : Input) → Some given ≡ input_of from m
    → IsAsked from m given ⊎ IsTold from m given
given_as from (message.Ask client number cred call) given e = inl (record {
  client = client;
  number = number;
  cred = cred;
  call = call;
  message_is = refl;
  is = cc;
})
given_as from (message.Answer client number index reply) given e = absurd cc
given_as from (message.CannotServe client number cause) given e = absurd cc
given_as from (message.Invite view) given e =
    inr (told_by from (message.Invite view) given e (λ n. cc))
given_as from (message.Join view has accepted base lb cp top horizon) given e =
    inr (told_by from (message.Join view has accepted base lb cp top horizon) given e (λ n. cc))
given_as from (message.Form view storers source base cp start horizon) given e =
    inr (told_by from (message.Form view storers source base cp start horizon) given e (λ n. cc))
given_as from (message.Fetch view first) given e =
    inr (told_by from (message.Fetch view first) given e (λ n. cc))
given_as from (message.Give view first records) given e =
    inr (told_by from (message.Give view first records) given e (λ n. cc))
given_as from (message.Formed view lb) given e =
    inr (told_by from (message.Formed view lb) given e (λ n. cc))
given_as from (message.Event view cp base event) given e =
    inr (told_by from (message.Event view cp base event) given e (λ n. cc))
given_as from (message.Beat view cp base) given e =
    inr (told_by from (message.Beat view cp base) given e (λ n. cc))
given_as from (message.Ack view top lb until) given e =
    inr (told_by from (message.Ack view top lb until) given e (λ n. cc))
given_as from (message.Demote view) given e =
    inr (told_by from (message.Demote view) given e (λ n. cc))
