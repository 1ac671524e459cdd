-- How a record comes to a step, by what servers replied to its calls, and then to its answer.
use Rattle.std.proofs.Common.{◌≡◌, ◌&&◌, ℕ, All, Bool, true, false, cond, List, [], ◌∷◌, ◌++◌, Option, Some, None, Result, Ok, Err, append_assoc, refl, subst, sym}
use Rattle.std.proofs.lemmas.List.Elements.{All-append, All-cons, All-nil}
use Rattle.std.proofs.lemmas.Bool.{and_parts}
use Rattle.harp_types.specs.declared.reply.Reply.{Reply}
use Rattle.harp_types.specs.declared.server.ServerId.{ServerId}
use Rattle.node_link.specs.declared.link.Datagram.{Datagram}
use Rattle.wire.specs.Messages.{decoded}
use Rattle.wire.specs.declared.decoding.DecodeFault.{DecodeFault}
use Rattle.wire.specs.declared.message.Message.{Message}
use Rattle.wire.specs.declared.message.Message.TheVariants as message
use Rattle.rpc_door.specs.Results.{is_reply_to}
use Rattle.rpc_door.specs.Serving.{sent}
use Rattle.rpc_door.specs.declared.group.Exchange.{Exchange}
use Rattle.nfs_door.specs.Steps.{LeadsTo, after, begun}
use Rattle.nfs_door.specs.declared.step.Errand.{Errand}
use Rattle.nfs_door.specs.declared.step.Step.{Step}
use Rattle.nfs_door.specs.declared.step.Step.TheVariants as step
use Rattle.client_calls.specs.Servers.{server_of}
use Rattle.group_client.specs.Rule.{AnswersRightly, Asked, is_of, news, news_from, said}
use Rattle.group_client.specs.declared.news.News.{News}
use Rattle.group_client.specs.declared.news.News.TheVariants.{Nothing, Refused, Answered}
use Rattle.group_client.specs.declared.news.Replied.{Replied}
use Rattle.door_seats.specs.Answers.{IsAnswered, IsExchange, IsRead}
use Rattle.door_seats.specs.Events.{Event}
use Rattle.door_seats.specs.Seats.{time_at}
use Rattle.door_seats.specs.declared.rule.Rule.{Rule}
use Rattle.door_seats.proofs.Later.{exchanges_later, read_later}

-- ---- what is heard

answers_by : (s : ServerId) (q : Asked) (reply : Reply) (b : Bool)
    → (b ≡ true → is_reply_to q.call reply ≡ true)
    → AnswersRightly q.call (cond b (Answered (record { by = s; reply = reply })) Nothing)
answers_by s q reply true h = h refl
answers_by s q reply false h = tt

refuses_by : (q : Asked) (x : News) (b : Bool) → AnswersRightly q.call x
    → AnswersRightly q.call (cond b x Nothing)
refuses_by q x true h = h
refuses_by q x false h = tt

said_rightly : (s : ServerId) (q : Asked) (m : Message) → AnswersRightly q.call (said s q m)
said_rightly s q (message.Answer client number index reply) =
    answers_by s q reply (is_of q client number && is_reply_to q.call reply)
    (λ e. (and_parts (is_of q client number) (is_reply_to q.call reply) e).1)
said_rightly s q (message.CannotServe client number cause) =
    refuses_by q (Refused s cause) (is_of q client number) tt
said_rightly s q (message.Invite view) = tt
said_rightly s q (message.Join view has accepted base lb cp top horizon) = tt
said_rightly s q (message.Form view storers source base cp start horizon) = tt
said_rightly s q (message.Fetch view first) = tt
said_rightly s q (message.Give view first records) = tt
said_rightly s q (message.Formed view lb) = tt
said_rightly s q (message.Event view cp base event) = tt
said_rightly s q (message.Beat view cp base) = tt
said_rightly s q (message.Ack view top lb until) = tt
said_rightly s q (message.Demote view) = tt
said_rightly s q (message.Ask client number cred call) = tt

from_rightly : (q : Asked) (bytes : List ℕ) (s : Option ServerId) (r : Result Message DecodeFault)
    → decoded bytes ≡ r → AnswersRightly q.call (news_from q bytes s)
from_rightly q bytes None r is = tt
from_rightly q bytes (Some s) (Ok m) is = rw is (said_rightly s q m)
from_rightly q bytes (Some s) (Err e) is = rw is tt

-- A reply that is heard is a reply to the call
pub heard_rightly : (q : Asked) (d : Datagram) (x : Replied) → news q d ≡ Answered x
    → is_reply_to q.call x.reply ≡ true
heard_rightly q d x is =
    subst (AnswersRightly q.call) is
    (from_rightly q d.bytes (server_of q.port d.from) (decoded d.bytes) refl)

-- ---- steps

-- A RECORD HAS COME TO A STEP by what servers replied to its calls
pub record HasComeTo (rule : Rule) (es : List Event) (request : List ℕ) (x : Step) : Type 0 where
  pub now : ℕ
  pub made : List Exchange
  pub leads : (more : List Exchange) (answer : List ℕ) → LeadsTo x more answer
      → LeadsTo (begun rule.everyone (time_at now) request) (made ++ more) answer
  pub replied : All (IsExchange rule es) made
  pub read : IsRead now es

pub come_first : (rule : Rule) (es : List Event) (request : List ℕ) (now : ℕ) → IsRead now es
    → HasComeTo rule es request (begun rule.everyone (time_at now) request)
come_first rule es request now read = record {
  now = now;
  made = [];
  leads = λ more answer h. h;
  replied = All-nil (IsExchange rule es);
  read = read;
}

pub come_later : (rule : Rule) (e : Event) (es : List Event) (request : List ℕ) (x : Step)
    → HasComeTo rule es request x → HasComeTo rule (e ∷ es) request x
come_later rule e es request x h = record {
  now = h.now;
  made = h.made;
  leads = h.leads;
  replied = exchanges_later rule e es h.made h.replied;
  read = read_later h.now e es h.read;
}

-- a server replied to the call of its step
pub come_on : (rule : Rule) (es : List Event) (request : List ℕ) (e : Errand) (reply : Reply)
    → HasComeTo rule es request (step.Call e)
    → IsExchange rule es (record { cred = e.cred; call = e.call; reply = reply })
    → is_reply_to e.call reply ≡ true → HasComeTo rule es request (after e reply)
come_on rule es request e reply h exchange fits =
    let x : Exchange = record { cred = e.cred; call = e.call; reply = reply } in
    record {
      now = h.now;
      made = h.made ++ x ∷ [];
      leads = λ more answer leads.
          subst
          (λ (xs : List Exchange). LeadsTo (begun rule.everyone (time_at h.now) request) xs answer)
          (sym (append_assoc h.made (x ∷ []) more))
          (h.leads (x ∷ more) answer (refl, refl, fits, leads));
      replied = All-append (IsExchange rule es) h.made (x ∷ []) h.replied
          (All-cons (IsExchange rule es) x [] exchange (All-nil (IsExchange rule es)));
      read = h.read;
    }

-- it is answered
answered_with : (rule : Rule) (es : List Event) (request answer : List ℕ) (x : Step)
    → HasComeTo rule es request x → LeadsTo x [] answer → IsAnswered rule es request answer
answered_with rule es request answer x h leads = record {
  now = h.now;
  made = h.made ++ [];
  leads = h.leads [] answer leads;
  replied = All-append (IsExchange rule es) h.made [] h.replied (All-nil (IsExchange rule es));
  read = h.read;
}

pub come_to_answer : (rule : Rule) (es : List Event) (request answer : List ℕ)
    → HasComeTo rule es request (step.Answer answer) → IsAnswered rule es request (sent answer)
come_to_answer rule es request answer h =
    answered_with rule es request (sent answer) (step.Answer answer) h (refl, refl)

pub come_to_nothing : (rule : Rule) (es : List Event) (request : List ℕ)
    → HasComeTo rule es request step.Silent → IsAnswered rule es request []
come_to_nothing rule es request h = answered_with rule es request [] step.Silent h (refl, refl)
