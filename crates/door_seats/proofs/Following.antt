-- A record that is read goes on at its seat: it is answered, or its next call is asked.
use Rattle.std.proofs.Common.{◌≡◌, ◌⊎◌, ℕ, ◌+◌, ◌<◌, min, List, [], ◌∷◌, ◌++◌, Option, Some, None, ap, append-nil, arith, inl, refl, subst, sym, ⊎_elim, ◌∙◌}
use Rattle.harp_types.specs.Memory.{raised}
use Rattle.harp_types.specs.declared.server.ServerId.{ServerId}
use Rattle.rpc_door.specs.Marks.{Whole, front}
use Rattle.rpc_door.specs.Serving.{sent}
use Rattle.nfs_door.specs.declared.step.Step.{Step}
use Rattle.nfs_door.specs.declared.step.Step.TheVariants as step
use Rattle.group_client.specs.Rule.{Asked}
use Rattle.door_seats.specs.Answers.{Asks, IsAnswered, IsAskedIn, IsServed, came, went}
use Rattle.door_seats.specs.Events.{Event}
use Rattle.door_seats.specs.Kept.{Kept}
use Rattle.door_seats.specs.Seats.{Moved, Sent, call_of, followed}
use Rattle.door_seats.specs.declared.rule.Moment.{Moment}
use Rattle.door_seats.specs.declared.rule.Rule.{Rule}
use Rattle.door_seats.specs.declared.seat.Seat.{Seat}
use Rattle.door_seats.specs.declared.seat.Visit.{Visit}
use Rattle.door_seats.proofs.Coming.{HasComeTo, come_to_answer, come_to_nothing}
use Rattle.door_seats.proofs.Keeping.{AreKept, kept_more}
use Rattle.door_seats.proofs.Later.{answered_one, asked_before, asked_now}
use Rattle.door_seats.proofs.MoreBytes.{records_one}
use Rattle.door_seats.proofs.Standing.{IsBelow, IsHeld, IsSeated, MayAsk, Stands, below_later, last_number}

-- ---- what an event asks

-- an event asks this, and nothing else
pub record IsSending (e : Event) (what : Option Sent) : Type 0 where
  pub tells : (q : Asked) → Asks e q
      → (to : ServerId) × (what ≡ Some (record { asked = q; to = to }))
  pub told : (q : Asked) (to : ServerId) → what ≡ Some (record { asked = q; to = to }) → Asks e q

abbrev pub asked_or : Asked → Option Sent → Asked
asked_or q None = q
asked_or q (Some x) = x.asked

pub only_asked : (e : Event) (x : Sent) (q : Asked) → IsSending e (Some x) → Asks e q → q ≡ x.asked
only_asked e x q sends asks = sym (ap (asked_or q) (sends.tells q asks).1)

abbrev nothing_sent : Option Sent
nothing_sent = None

pub no_sent : (x : Sent) → nothing_sent ≡ Some x → ⊥
no_sent x is = absurd cc

pub none_asked : (e : Event) (q : Asked) → IsSending e None → Asks e q → ⊥
none_asked e q sends asks =
    no_sent (record { asked = q; to = (sends.tells q asks).0 }) (sends.tells q asks).1

-- its client asks it under its next number, or asked it before
abbrev pub IsFresh : List Event → (client next : ℕ) → Asked → Type 0
IsFresh es client next q = (q.client ≡ client) × ((q.number ≡ next) ⊎ IsAskedIn es q)

-- WHAT IS RIGHT of a seat that moves at an event, where this was its client's next number
pub record IsMoved (rule : Rule) (first : ℕ) (e : Event) (es : List Event) (n client next : ℕ)
    (m : Moved) : Type 0 where
  pub seat : IsSeated rule first (e ∷ es) n m.seat
  pub kept : AreKept rule (e ∷ es) m.kept
  pub fresh : (q : Asked) → Asks e q → IsFresh es client next q

-- ---- numbers

raised_is : (next top : ℕ) → min (next + 1) top < top → min (next + 1) top ≡ next + 1
raised_is next top within = omega arith

module _ (e : Event) (es : List Event) (client next : ℕ) (below : IsBelow es client next) where
  pub below_quiet : IsSending e None → IsBelow (e ∷ es) client next
  below_quiet sends =
      below_later e es client next below (λ q asks is within. absurd (none_asked e q sends asks))

  below_raised : (x : Sent) → x.asked.number ≡ next → IsSending e (Some x)
      → IsBelow (e ∷ es) client (raised next)
  below_raised x number sends q asked is within =
      let more : raised next ≡ next + 1 = raised_is next last_number within in
      let fits : next < last_number = omega (arith, more, within) in
      ⊎_elim (λ (now : Asks e q).
      let same = ap (λ (p : Asked). p.number) (only_asked e x q sends now) in
      rw (same, number) (omega (arith, more)))
      (λ (before : IsAskedIn es q). let less = below q before is fits in omega (arith, more, less))
      (asked_before e es q asked)

-- ---- answers

-- the record that comes next at a seat is at this one, and no call of it is on its way
pub record HasNext (rule : Rule) (es : List Event) (n : ℕ) (s : Seat) (request : List ℕ)
    : Type 0 where
  pub served : IsServed rule es n
  pub rest : List ℕ
  pub is_next : front served.unread ≡ Whole request rest
  pub ungone : served.ungone ≡ []
  pub unsent : s.unsent ≡ []
  pub line : MayAsk s.line
  pub held : IsHeld s.line → rest ≡ s.unread
  pub visit : s.visit ≡ None

-- it is answered
abbrev served_one : (rule : Rule) (es : List Event) (n : ℕ) (s : Seat) (request answer : List ℕ)
    → HasNext rule es n s request → IsAnswered rule es request answer → IsServed rule es n
served_one rule es n s request answer h a = record {
  records = h.served.records ++ request ∷ [];
  unread = h.rest;
  answers = h.served.answers ++ answer;
  ungone = answer;
  read = records_one (came n es) h.served.records h.served.unread request h.rest h.served.read
      h.is_next;
  answered = answered_one rule es h.served.records h.served.answers request answer
      h.served.answered a;
  front = ap (λ (s : List ℕ). s ++ answer)
      (h.served.front ∙ ap (λ (s : List ℕ). went n es ++ s) h.ungone ∙ append-nil (went n es));
}

pub seat_answered : (rule : Rule) (first : ℕ) (es : List Event) (n : ℕ) (s : Seat)
    (request answer unsent : List ℕ) → HasNext rule es n s request
    → IsAnswered rule es request answer → unsent ≡ answer → s.client ≡ first + n
    → IsBelow es s.client s.next → IsSeated rule first es n (record s { unsent = unsent })
seat_answered rule first es n s request answer unsent h a is client below = record {
  served = served_one rule es n s request answer h a;
  extra = [];
  ungone = sym is ∙ sym (append-nil unsent);
  stands = subst (λ (o : Option Visit). Stands rule es (record s { unsent = unsent }) h.rest [] o)
      (sym h.visit) (λ held. (h.held held, refl));
  client = client;
  below = below;
}

-- ---- steps

-- A SEAT GOES ON with a record, which came to this step
pub follows : (m : Moment) (first : ℕ) (e : Event) (es : List Event) (n : ℕ) (s : Seat)
    (kept : Kept) (request : List ℕ) (x : Step) → IsSending e (followed m request s kept x).sent
    → HasNext m.rule (e ∷ es) n s request → HasComeTo m.rule (e ∷ es) request x
    → AreKept m.rule (e ∷ es) kept → s.client ≡ first + n → IsBelow es s.client s.next
    → IsMoved m.rule first e es n s.client s.next (followed m request s kept x)
follows m first e es n s kept request step.Silent sends h come keeps client below = record {
  seat = seat_answered m.rule first (e ∷ es) n s request [] s.unsent h
      (come_to_nothing m.rule (e ∷ es) request come) h.unsent client
      (below_quiet e es s.client s.next below sends);
  kept = keeps;
  fresh = λ q asks. absurd (none_asked e q sends asks);
}
follows m first e es n s kept request (step.Answer answer) sends h come keeps client below =
    let a = come_to_answer m.rule (e ∷ es) request answer come in
    record {
      seat = seat_answered m.rule first (e ∷ es) n s request (sent answer)
          (s.unsent ++ sent answer) h a (ap (λ (u : List ℕ). u ++ sent answer) h.unsent) client
          (below_quiet e es s.client s.next below sends);
      kept = kept_more m.rule (e ∷ es) request (sent answer) kept a keeps;
      fresh = λ q asks. absurd (none_asked e q sends asks);
    }
follows m first e es n s kept request (step.Call errand) sends h come keeps client below =
    let q = call_of m s errand s.next in
    let x : Sent = record { asked = q; to = s.place } in
    record {
      seat = record {
        served = h.served;
        extra = [];
        ungone = h.ungone ∙ ap (λ (u : List ℕ). u ++ []) (sym h.unsent);
        stands = (
          h.line,
          h.unsent,
          refl,
          h.rest,
          h.is_next,
          h.held,
          come,
          asked_now e es q (sends.told q s.place refl),
        );
        client = client;
        below = below_raised e es s.client s.next below x refl sends;
      };
      kept = keeps;
      fresh = λ p asks.
          let is = only_asked e x p sends asks in
          (ap (λ (y : Asked). y.client) is, inl (ap (λ (y : Asked). y.number) is));
    }
