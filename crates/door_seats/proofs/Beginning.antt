-- What stands at a seat that begins its next record.
use Rattle.std.proofs.Common.{◌≡◌, ℕ, ◌&&◌, Bool, true, false, cond, is_some, length, not, List, [], ◌∷◌, ◌++◌, Option, Some, None, ap, arith, refl, subst, sym, true≢false, ◌∙◌}
use Rattle.std.specs.List.{list_any}
use Rattle.std.proofs.lemmas.Bool.{and_parts, eqb-true}
use Rattle.rpc_door.specs.Marks.{Front, Large, Short, Whole, front}
use Rattle.nfs_door.specs.Steps.{begun}
use Rattle.door_seats.specs.Answers.{IsRead}
use Rattle.door_seats.specs.Events.{Begins, Event}
use Rattle.door_seats.specs.Kept.{Kept, answer_of}
use Rattle.door_seats.specs.Seats.{Moved, Sent, asks_for, begins, begun_by, begun_with, done_if_over, is_empty, is_ready, is_served, moved, time_at}
use Rattle.door_seats.specs.declared.rule.Moment.{Moment}
use Rattle.door_seats.specs.declared.rule.Rule.{Rule}
use Rattle.door_seats.specs.declared.seat.Line.{Line}
use Rattle.door_seats.specs.declared.seat.Line.TheVariants.{Free, Open, Over, Done, Lost}
use Rattle.door_seats.specs.declared.seat.Seat.{Seat}
use Rattle.door_seats.specs.declared.seat.Visit.{Visit}
use Rattle.door_seats.proofs.Changing.{moves_quietly, none_left, seat_rests, seat_turns}
use Rattle.door_seats.proofs.Coming.{come_first}
use Rattle.door_seats.proofs.Following.{HasNext, IsMoved, IsSending, below_quiet, follows, none_asked, seat_answered}
use Rattle.door_seats.proofs.Keeping.{AreKept, kept_answer, kept_later}
use Rattle.door_seats.proofs.Later.{read_later}
use Rattle.door_seats.proofs.Standing.{IsHeld, IsSeated, MayAsk, Stands, served_later}

-- ---- a seat that is ready

served_asks : (l : Line) → is_served l ≡ true → MayAsk l × IsHeld l
served_asks Free is = absurd (true≢false (sym is))
served_asks Open is = (tt, tt)
served_asks Over is = (tt, tt)
served_asks Done is = absurd (true≢false (sym is))
served_asks Lost is = absurd (true≢false (sym is))

no_visit : (o : Option Visit) → not (is_some o) ≡ true → o ≡ None
no_visit None is = refl
no_visit (Some v) is = absurd (true≢false (sym is))

no_bytes : (bytes : List ℕ) → is_empty bytes ≡ true → bytes ≡ []
no_bytes [] is = refl
no_bytes (b ∷ bs) is =
    let none : length (b ∷ bs) ≡ 0 = eqb-true (length (b ∷ bs)) 0 is in
    absurd (omega (arith, none))

-- all that isn't read stands at it, it is to get nothing, and no call is on its way
pub record IsReady (rule : Rule) (first : ℕ) (es : List Event) (n : ℕ) (s : Seat)
    (h : IsSeated rule first es n s) : Type 0 where
  pub line : MayAsk s.line
  pub held : IsHeld s.line
  pub visit : s.visit ≡ None
  pub unsent : s.unsent ≡ []
  pub unread : h.served.unread ≡ s.unread
  pub extra : h.extra ≡ []

idle : (rule : Rule) (es : List Event) (s : Seat) (pending extra : List ℕ) (o : Option Visit)
    → o ≡ None → IsHeld s.line → Stands rule es s pending extra o
    → (pending ≡ s.unread) × (extra ≡ [])
idle rule es s pending extra None is held h = h held
idle rule es s pending extra (Some v) is held h = absurd cc

ready_is : (rule : Rule) (first : ℕ) (es : List Event) (n : ℕ) (s : Seat)
    → (h : IsSeated rule first es n s) → is_ready s ≡ true → IsReady rule first es n s h
ready_is rule first es n s h is =
    let a = and_parts (is_served s.line)
    (not s.is_settled && (not (is_some s.visit) && is_empty s.unsent)) is in
    let b = and_parts (not s.is_settled) (not (is_some s.visit) && is_empty s.unsent) a.1 in
    let c = and_parts (not (is_some s.visit)) (is_empty s.unsent) b.1 in
    let l = served_asks s.line a.0 in
    let none = no_visit s.visit c.0 in
    let all = idle rule es s h.served.unread h.extra s.visit none l.1 h.stands in
    record {
      line = l.0;
      held = l.1;
      visit = none;
      unsent = no_bytes s.unsent c.1;
      unread = all.0;
      extra = all.1;
    }

-- ---- its next record

module _ (m : Moment) (first : ℕ) (es : List Event) (n : ℕ) (sent : Option Sent) (s : Seat)
    (kept : Kept) (h : IsSeated m.rule first es n s) (keeps : AreKept m.rule es kept)
    (read : IsRead m.now es) where
  abbrev e : Event
  e = Begins n sent

  abbrev MovesTo : Moved → Type 0
  MovesTo x = x.sent ≡ sent → IsMoved m.rule first e es n s.client s.next x

  sends : IsSending e sent
  sends = record { tells = λ q asks. asks; told = λ q to is. (to, is) }

  sends_as : (what : Option Sent) → what ≡ sent → IsSending e what
  sends_as what is = subst (λ (o : Option Sent). IsSending e o) (sym is) sends

  stays : MovesTo (moved s kept None)
  stays is = seat_rests m.rule first e es n s kept (sends_as None is) refl refl h keeps

  module _ (r : IsReady m.rule first es n s h) where
    -- all is answered that came, or a record is too large
    rests : (l : Line) → (IsHeld l → IsHeld s.line)
        → MovesTo (moved (record s { line = l; is_settled = true }) kept None)
    rests l held is =
        let t : Seat = record s { line = l; is_settled = true } in
        let stands : Stands m.rule es t h.served.unread h.extra s.visit =
        subst (λ (o : Option Visit). Stands m.rule es t h.served.unread h.extra o) (sym r.visit)
        (λ (now : IsHeld l). (r.unread, r.extra)) in
        moves_quietly m.rule first e es n s t kept (sends_as None is) keeps
        (seat_turns m.rule first e es n s t h.extra (sends_as None is) refl refl h h.ungone stands
        refl refl)

    module _ (request rest : List ℕ) (is_next : front s.unread ≡ Whole request rest) where
      abbrev t : Seat
      t = record s { unread = rest }

      has_next : HasNext m.rule (e ∷ es) n t request
      has_next = record {
        served = served_later m.rule e es n refl refl h.served;
        rest = rest;
        is_next = subst (λ (u : List ℕ). front u ≡ Whole request rest) (sym r.unread) is_next;
        ungone = h.ungone ∙ none_left s.unsent h.extra r.unsent r.extra;
        unsent = r.unsent;
        line = r.line;
        held = λ held. refl;
        visit = r.visit;
      }

      by_kept : (o : Option (List ℕ)) → answer_of request kept ≡ o
          → MovesTo (begun_by m request t kept o)
      by_kept None none is =
          follows m first e es n t kept request (begun m.rule.everyone (time_at m.now) request)
          (sends_as _ is) has_next
          (come_first m.rule (e ∷ es) request m.now (read_later m.now e es read))
          (kept_later m.rule e es kept keeps) h.client h.below
      by_kept (Some answer) found is =
          let later = kept_later m.rule e es kept keeps in
          record {
            seat = seat_answered m.rule first (e ∷ es) n t request answer (s.unsent ++ answer)
                has_next (kept_answer m.rule (e ∷ es) request answer kept later found)
                (ap (λ (u : List ℕ). u ++ answer) r.unsent) h.client
                (below_quiet e es s.client s.next h.below (sends_as None is));
            kept = later;
            fresh = λ q asks. absurd (none_asked e q (sends_as None is) asks);
          }

      by_others : (b : Bool)
          → MovesTo
          (cond b (moved s kept None) (begun_by m request t kept (answer_of request kept)))
      by_others true is = stays is
      by_others false is = by_kept (answer_of request kept) refl is

    by_front : (seats : List Seat) (f : Front) → front s.unread ≡ f
        → MovesTo (begun_with m seats s kept f)
    by_front seats Short none is = rests (done_if_over s.line) (held_if s.line) is where
      held_if : (l : Line) → IsHeld (done_if_over l) → IsHeld l
      held_if Free held = held
      held_if Open held = held
      held_if Over held = held
      held_if Done held = held
      held_if Lost held = held
    by_front seats Large none is = rests Done (λ held. r.held) is
    by_front seats (Whole request rest) is_next is =
        by_others request rest is_next (list_any (asks_for request) seats) is

  by_ready : (seats : List Seat) (b : Bool) → is_ready s ≡ b
      → MovesTo (cond b (begun_with m seats s kept (front s.unread)) (moved s kept None))
  by_ready seats true ready is =
      by_front (ready_is m.rule first es n s h ready) seats (front s.unread) refl is
  by_ready seats false ready is = stays is

  -- A seat begins its next record
  pub begins_rightly : (seats : List Seat) → (begins m seats s kept).sent ≡ sent
      → IsMoved m.rule first e es n s.client s.next (begins m seats s kept)
  begins_rightly seats is = by_ready seats (is_ready s) refl is
