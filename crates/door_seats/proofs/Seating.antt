-- What stands at all seats: before the first event, and where one seat moves.
use Rattle.std.proofs.Common.{◌≡◌, ℕ, zero, suc, ◌+◌, ◌<◌, List, [], ◌∷◌, ◌++◌, Option, Some, None, slice_get, slice_set, ap, arith, inl, lt_irrefl, refl, subst, sym, ⊎_elim, ◌∙◌}
use Rattle.std.proofs.lemmas.Bool.Decides.{eqb_tells}
use Rattle.group_client.specs.Rule.{Asked}
use Rattle.harp_types.specs.declared.server.ServerId.{ServerId}
use Rattle.door_seats.specs.Answers.{AreNumbered, Asks, IsAskedIn, IsRead, IsServed, came, went}
use Rattle.door_seats.specs.Events.{Arrives, Begins, Breaks, Comes, Ends, Event, Goes, Hears, IsAt, Leaves, Passes, Reminds, Seating, Wakes, empty_seat, empty_seats, first_seating, with_moved}
use Rattle.door_seats.specs.Seats.{Moved, Sent}
use Rattle.door_seats.specs.declared.rule.Rule.{Rule}
use Rattle.door_seats.specs.declared.seat.Seat.{Seat}
use Rattle.door_seats.proofs.Changing.{seat_stays}
use Rattle.door_seats.proofs.Following.{IsFresh, IsMoved, asked_or}
use Rattle.door_seats.proofs.Keeping.{kept_later}
use Rattle.door_seats.proofs.Later.{asked_before}
use Rattle.door_seats.proofs.Standing.{AllStand, IsBelow, IsSeated, IsSeatedIf, last_number, served_later}

-- ---- before the first event

nothing_asked : (q : Asked) (later earlier : List Event) (e : Event)
    → [] ≡ later ++ e ∷ earlier → ⊥
nothing_asked q [] earlier e is = absurd cc
nothing_asked q (x ∷ xs) earlier e is = absurd cc

none_before : (q : Asked) → IsAskedIn [] q → ⊥
none_before q h = nothing_asked q h.0 h.1 h.2 h.3

abbrev nothing_served : (rule : Rule) (n : ℕ) → IsServed rule [] n
nothing_served rule n = record {
  records = [];
  unread = [];
  answers = [];
  ungone = [];
  read = refl;
  answered = refl;
  front = refl;
}

empty_seated : (rule : Rule) (client first n : ℕ)
    → IsSeated rule client [] n (empty_seat (client + n) first)
empty_seated rule client first n = record {
  served = nothing_served rule n;
  extra = [];
  ungone = refl;
  stands = λ held. absurd held;
  client = refl;
  below = λ q asked. absurd (none_before q asked);
}

abbrev this_seat : Seat → Option Seat
this_seat s = Some s

same_seat : (s t : Seat) → this_seat s ≡ Some t → t ≡ s
same_seat s t is = cc

pub empty_is : (count client first n : ℕ) (s : Seat)
    → slice_get (empty_seats count client first) n ≡ Some s → s ≡ empty_seat (client + n) first
empty_is zero client first n s is = absurd cc
empty_is (suc count) client first zero s is =
    same_seat (empty_seat client first) s is
    ∙ ap (λ (c : ℕ). empty_seat c first) (omega arith)
empty_is (suc count) client first (suc n) s is =
    empty_is count (client + 1) first n s is
    ∙ ap (λ (c : ℕ). empty_seat c first) (omega arith)

seated_if : (rule : Rule) (client first n : ℕ) (o : Option Seat)
    → ((s : Seat) → o ≡ Some s → s ≡ empty_seat (client + n) first)
    → IsSeatedIf rule client [] n o
seated_if rule client first n None each = nothing_served rule n
seated_if rule client first n (Some s) each =
    subst (IsSeated rule client [] n) (sym (each s refl)) (empty_seated rule client first n)

pub all_stand_first : (rule : Rule) (client first now : ℕ) → now ≡ 0
    → AllStand rule client [] now (first_seating client first)
all_stand_first rule client first now is = record {
  seats = λ n. seated_if rule client first n (slice_get (empty_seats 16 client first) n)
      (empty_is 16 client first n);
  kept = tt;
  numbered = λ q p asked. absurd (none_before q asked);
  read = inl is;
}

-- ---- places

same_place : (xs : List Seat) (n : ℕ) (x y : Seat) → slice_get xs n ≡ Some x
    → slice_get (slice_set xs n y) n ≡ Some y
same_place [] n x y is = absurd cc
same_place (z ∷ zs) zero x y is = refl
same_place (z ∷ zs) (suc n) x y is = same_place zs n x y is

other_place : (xs : List Seat) (n k : ℕ) (y : Seat) → (k ≡ n → ⊥)
    → slice_get (slice_set xs n y) k ≡ slice_get xs k
other_place [] n k y other = refl
other_place (z ∷ zs) zero zero y other = absurd (other refl)
other_place (z ∷ zs) zero (suc k) y other = refl
other_place (z ∷ zs) (suc n) zero y other = refl
other_place (z ∷ zs) (suc n) (suc k) y other = other_place zs n k y (λ is. other (ap suc is))

-- ---- numbers

one_sent : (what : Option Sent) (q p : Asked) (to by : ServerId)
    → what ≡ Some (record { asked = q; to = to }) → what ≡ Some (record { asked = p; to = by })
    → q ≡ p
one_sent what q p to by is also = ap (asked_or q) (sym is ∙ also)

-- an event asks one call, at most
asks_one : (e : Event) (q p : Asked) → Asks e q → Asks e p → q ≡ p
asks_one (Wakes now) q p h k = absurd h
asks_one (Arrives n) q p h k = absurd h
asks_one (Comes n bytes) q p h k = absurd h
asks_one (Ends n) q p h k = absurd h
asks_one (Begins n sent) q p h k = one_sent sent q p h.0 k.0 h.1 k.1
asks_one (Reminds n sent) q p h k = one_sent sent q p h.0 k.0 h.1 k.1
asks_one (Hears n d sent) q p h k = one_sent sent q p h.0 k.0 h.1 k.1
asks_one (Passes d) q p h k = absurd h
asks_one (Goes n bytes) q p h k = absurd h
asks_one (Breaks n) q p h k = absurd h
asks_one (Leaves n) q p h k = absurd h

module _ (e : Event) (es : List Event) (client next : ℕ) (numbered : AreNumbered es)
    (below : IsBelow es client next)
    (fresh : (q : Asked) → Asks e q → IsFresh es client next q) where
  now_and_before : (q p : Asked) → Asks e q → IsAskedIn es p → q.client ≡ p.client
      → q.number ≡ p.number → q.number < last_number → q ≡ p
  now_and_before q p now before client_is number_is fits =
      ⊎_elim
      (λ (is : q.number ≡ next).
      let within : next < last_number = omega (arith, is, fits) in
      let less = below p before (sym client_is ∙ (fresh q now).0) within in
      absurd (omega (arith, less, is, number_is)))
      (λ (old : IsAskedIn es q). numbered q p old before client_is number_is fits) (fresh q now).1

  pub numbered_more : AreNumbered (e ∷ es)
  numbered_more q p asked_q asked_p client_is number_is fits =
      ⊎_elim
      (λ (now : Asks e q). ⊎_elim (λ (also : Asks e p). asks_one e q p now also)
      (λ (before : IsAskedIn es p). now_and_before q p now before client_is number_is fits)
      (asked_before e es p asked_p))
      (λ (before : IsAskedIn es q). ⊎_elim
      (λ (now : Asks e p).
      sym (now_and_before p q now before (sym client_is) (sym number_is)
      (omega (arith, number_is, fits))))
      (λ (also : IsAskedIn es p). numbered q p before also client_is number_is fits)
      (asked_before e es p asked_p)) (asked_before e es q asked_q)

-- ---- one seat moves

-- nothing came or went over the connection of a seat
abbrev pub IsStill : ℕ → Event → List Event → Type 0
IsStill n e es = (came n (e ∷ es) ≡ came n es) × (went n (e ∷ es) ≡ went n es)

module _ (rule : Rule) (first : ℕ) (e : Event) (es : List Event) where
  stays_if : (k : ℕ) (o : Option Seat) → IsStill k e es
      → ((q : Asked) (s : Seat) → Asks e q → o ≡ Some s → q.client ≡ s.client
      → s.client ≡ first + k → ⊥)
      → IsSeatedIf rule first es k o → IsSeatedIf rule first (e ∷ es) k o
  stays_if k None still other h = served_later rule e es k still.0 still.1 h
  stays_if k (Some s) still other h =
      seat_stays rule first e es k s still.0 still.1 h
      (λ q asks is. other q s asks refl is h.client)

  -- all stay, where nothing is asked
  pub all_stay : (now later : ℕ) (g : Seating) → ((k : ℕ) → IsStill k e es)
      → ((q : Asked) → Asks e q → ⊥) → IsRead later (e ∷ es) → AllStand rule first es now g
      → AllStand rule first (e ∷ es) later g
  all_stay now later g still none read all = record {
    seats = λ k. stays_if k (slice_get g.seats k) (still k)
        (λ q s asks is same. absurd (none q asks)) (all.seats k);
    kept = kept_later rule e es g.kept all.kept;
    numbered = numbered_more e es first last_number all.numbered
        (λ q asked is fits. absurd (lt_irrefl last_number fits))
        (λ q asks. absurd (none q asks));
    read = read;
  }

  -- ALL STAND where one of them moves
  pub one_moves : (now later n : ℕ) (s : Seat) (g : Seating) (m : Moved)
      → ((k : ℕ) → (k ≡ n → ⊥) → IsStill k e es) → IsRead later (e ∷ es) → IsAt n s g
      → AllStand rule first es now g → IsMoved rule first e es n s.client s.next m
      → AllStand rule first (e ∷ es) later (with_moved n m g)
  one_moves now later n s g m still read at all moves =
      let seat : IsSeated rule first es n s = subst (IsSeatedIf rule first es n) at (all.seats n) in
      record {
        seats = λ k. ⊎_elim
            (λ (is : (_ ≡ _) × (k ≡ n)).
            subst (λ (j : ℕ). IsSeatedIf rule first (e ∷ es) j
            (slice_get (slice_set g.seats n m.seat) j)) (sym is.1)
            (subst (IsSeatedIf rule first (e ∷ es) n) (sym (same_place g.seats n s m.seat at))
            moves.seat))
            (λ (other : (_ ≡ _) × (k ≡ n → ⊥)).
            subst (IsSeatedIf rule first (e ∷ es) k) (sym (other_place g.seats n k m.seat other.1))
            (stays_if k (slice_get g.seats k) (still k other.1)
            (λ q t asks is same client.
            let own = (moves.fresh q asks).0 in
            other.1 (omega (arith, own, same, client, seat.client))) (all.seats k)))
            (eqb_tells k n);
        kept = moves.kept;
        numbered = numbered_more e es s.client s.next all.numbered seat.below moves.fresh;
        read = read;
      }
