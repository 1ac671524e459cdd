-- What holds of events holds where one more has happened.
use Rattle.std.proofs.Common.{◌≡◌, ◌⊎◌, ℕ, suc, All, List, [], ◌∷◌, ◌++◌, append-nil, append_assoc, ap, arith, get_or, inl, inr, refl, subst, sym, ◌∙◌}
use Rattle.rpc_door.specs.declared.group.Exchange.{Exchange}
use Rattle.group_client.specs.Rule.{Asked}
use Rattle.door_seats.specs.Answers.{AreAnswered, Asks, IsAnswered, IsAskedIn, IsExchange, IsRead}
use Rattle.door_seats.specs.Events.{Event, Wakes}
use Rattle.door_seats.specs.declared.rule.Rule.{Rule}

-- ---- calls

pub asked_now : (e : Event) (es : List Event) (q : Asked) → Asks e q → IsAskedIn (e ∷ es) q
asked_now e es q h = ([], es, e, refl, h)

pub asked_later : (e : Event) (es : List Event) (q : Asked) → IsAskedIn es q → IsAskedIn (e ∷ es) q
asked_later e es q h = (e ∷ h.0, h.1, h.2, ap (λ (xs : List Event). e ∷ xs) h.3, h.4)

abbrev first_of_events : Event → List Event → List Event
first_of_events e es = e ∷ es

heads : (e x : Event) (es xs : List Event) → first_of_events e es ≡ first_of_events x xs
    → (x ≡ e) × (es ≡ xs)
heads e x es xs h = (cc, cc)

asked_in : (e : Event) (es : List Event) (q : Asked) (later earlier : List Event) (x : Event)
    → e ∷ es ≡ later ++ x ∷ earlier → Asks x q → Asks e q ⊎ IsAskedIn es q
asked_in e es q [] earlier x is h =
    inl (subst (λ (y : Event). Asks y q) (heads e x es earlier is).0 h)
asked_in e es q (y ∷ ys) earlier x is h =
    inr (ys, earlier, x, (heads e y es (ys ++ x ∷ earlier) is).1, h)

pub asked_before : (e : Event) (es : List Event) (q : Asked) → IsAskedIn (e ∷ es) q
    → Asks e q ⊎ IsAskedIn es q
asked_before e es q h = asked_in e es q h.0 h.1 h.2 h.3 h.4

-- ---- answers

pub read_later : (now : ℕ) (e : Event) (es : List Event) → IsRead now es → IsRead now (e ∷ es)
read_later now e es (inl h) = inl h
read_later now e es (inr h) = inr (suc h.0, omega (arith, h.1), h.2)

pub read_now : (now : ℕ) (es : List Event) → IsRead now (Wakes now ∷ es)
read_now now es = inr (0, omega arith, refl)

pub exchange_later : (rule : Rule) (e : Event) (es : List Event) (x : Exchange)
    → IsExchange rule es x → IsExchange rule (e ∷ es) x
exchange_later rule e es x h = record {
  asked = h.asked;
  heard = h.heard;
  by = h.by;
  seat = h.seat;
  sent = h.sent;
  later = e ∷ h.later;
  earlier = h.earlier;
  port = h.port;
  cred = h.cred;
  call = h.call;
  says = h.says;
  order = ap (λ (xs : List Event). e ∷ xs) h.order;
  was_asked = h.was_asked;
}

pub exchanges_later : (rule : Rule) (e : Event) (es : List Event) (made : List Exchange)
    → All (IsExchange rule es) made → All (IsExchange rule (e ∷ es)) made
exchanges_later rule e es made h k d lt = exchange_later rule e es (get_or made k d) (h k d lt)

pub answered_later : (rule : Rule) (e : Event) (es : List Event) (request answer : List ℕ)
    → IsAnswered rule es request answer → IsAnswered rule (e ∷ es) request answer
answered_later rule e es request answer h = record {
  now = h.now;
  made = h.made;
  leads = h.leads;
  replied = exchanges_later rule e es h.made h.replied;
  read = read_later h.now e es h.read;
}

pub all_answered_later : (rule : Rule) (e : Event) (es : List Event) (records : List (List ℕ))
    (answers : List ℕ) → AreAnswered rule es records answers
    → AreAnswered rule (e ∷ es) records answers
all_answered_later rule e es [] answers h = h
all_answered_later rule e es (r ∷ rs) answers h = (
  h.0,
  h.1,
  answered_later rule e es r h.0 h.2,
  all_answered_later rule e es rs h.1 h.3,
  h.4,
)

-- one more is answered
pub answered_one : (rule : Rule) (es : List Event) (records : List (List ℕ))
    (answers request answer : List ℕ) → AreAnswered rule es records answers
    → IsAnswered rule es request answer
    → AreAnswered rule es (records ++ request ∷ []) (answers ++ answer)
answered_one rule es [] answers request answer h a =
    (answer, [], a, refl, ap (λ (s : List ℕ). s ++ answer) h ∙ sym (append-nil answer))
answered_one rule es (r ∷ rs) answers request answer h a = (
  h.0,
  h.1 ++ answer,
  h.2,
  answered_one rule es rs h.1 request answer h.3 a,
  ap (λ (s : List ℕ). s ++ answer) h.4 ∙ append_assoc h.0 h.1 answer,
)
