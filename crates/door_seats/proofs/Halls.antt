-- One seat among others, and what it does.
use Rattle.std.proofs.Common.{◌≡◌, ◌<◌, ◌∙◌, ℕ, zero, suc, ◌+◌, List, [], ◌∷◌, ◌++◌, true, false, Option, Some, None, ap, arith, drop, length, refl, slice_get, slice_index_or, slice_set, subst, sym}
use Rattle.std.specs.Prelude.{option_map}
use Rattle.std.specs.List.{list_any}
use Rattle.rpc_door.specs.Marks.{Front, front, Whole}
use Rattle.door_seats.specs.Events.{AreOf, IsAt, Moves, Seating, at, empty_seat, empty_seats, with_moved}
use Rattle.door_seats.specs.Framing.{IsFront}
use Rattle.door_seats.specs.Kept.{Kept, answer_of}
use Rattle.door_seats.specs.Moving.{HasMoved, ask_of}
use Rattle.door_seats.specs.Seats.{Moved, Sent, asks_for, begins, begun_by, begun_with, is_ready, moved, with_unread}
use Rattle.door_seats.specs.declared.framing.Front.{Front as Seen}
use Rattle.door_seats.specs.declared.rule.Moment.{Moment}
use Rattle.door_seats.specs.declared.seat.Ask.{Ask}
use Rattle.door_seats.specs.declared.seat.Seat.{Seat}
use Rattle.door_seats.proofs.Seating.{empty_is}

-- ---- places

at_index : (xs : List Seat) (n : ℕ) (d : Seat) → n < length xs
    → slice_get xs n ≡ Some (slice_index_or xs n d)
at_index [] n d within = absurd (omega (arith, within))
at_index (x ∷ xs) zero d within = refl
at_index (x ∷ xs) (suc n) d within = at_index xs n d (omega (arith, within))

set_same : (xs : List Seat) (n : ℕ) (s : Seat) → slice_get xs n ≡ Some s
    → slice_set xs n s ≡ xs
set_same [] n s at = absurd cc
set_same (x ∷ xs) zero s at = let same : x ≡ s = cc in ap (λ y. y ∷ xs) (sym same)
set_same (x ∷ xs) (suc n) s at = ap (λ ys. x ∷ ys) (set_same xs n s at)

set_length : (xs : List Seat) (n : ℕ) (s : Seat) → length (slice_set xs n s) ≡ length xs
set_length [] n s = refl
set_length (x ∷ xs) zero s = refl
set_length (x ∷ xs) (suc n) s = ap suc (set_length xs n s)

-- each client of such seats is that of before
set_clients : (xs : List Seat) (n k : ℕ) (old new s : Seat) → slice_get xs n ≡ Some old
    → new.client ≡ old.client → slice_get (slice_set xs n new) k ≡ Some s
    → (z : Seat) × (slice_get xs k ≡ Some z) × (s.client ≡ z.client)
set_clients [] n k old new s at same is = absurd cc
set_clients (x ∷ xs) zero zero old new s at same is =
    let found : new ≡ s = cc in
    let was : x ≡ old = cc in
    let now_at = ap (λ (y : Seat). y.client) found in
    (x, refl, sym now_at ∙ same ∙ ap (λ (y : Seat). y.client) (sym was))
set_clients (x ∷ xs) zero (suc k) old new s at same is = (s, is, refl)
set_clients (x ∷ xs) (suc n) zero old new s at same is = (s, is, refl)
set_clients (x ∷ xs) (suc n) (suc k) old new s at same is =
    set_clients xs n k old new s at same is

-- a seat that keeps its client may take the place of another one
of_set : (client n : ℕ) (xs : List Seat) (old new : Seat) → AreOf client xs
    → slice_get xs n ≡ Some old → new.client ≡ old.client → AreOf client (slice_set xs n new)
of_set client n xs old new are at same = record {
  sixteen = set_length xs n new ∙ are.sixteen;
  clients = λ k s is.
      let found = set_clients xs n k old new s at same is in
      found.2 ∙ are.clients k found.0 found.1;
}

-- ---- the first seats

empty_length : (count client first : ℕ) → length (empty_seats count client first) ≡ count
empty_length zero client first = refl
empty_length (suc count) client first = ap suc (empty_length count (client + 1) first)

pub first_are : (client first : ℕ) → AreOf client (empty_seats 16 client first)
first_are client first = record {
  sixteen = empty_length 16 client first;
  clients = λ n s is. ap (λ (x : Seat). x.client) (empty_is 16 client first n s is);
}

one_empty : (client first : ℕ) → empty_seat (client + 0) first ∷ [] ≡ empty_seats 1 client first
one_empty client first =
    let same : client + 0 ≡ client = omega arith in
    ap (λ (c : ℕ). empty_seat c first ∷ []) same

empty_then : (count client first : ℕ)
    → empty_seats count client first ++ (empty_seat (client + count) first ∷ [])
    ≡ empty_seats (suc count) client first
empty_then zero client first = one_empty client first
empty_then (suc count) client first =
    let same : client + suc count ≡ client + 1 + count = omega arith in
    ap (λ (c : ℕ). empty_seat client first
    ∷ (empty_seats count (client + 1) first ++ (empty_seat c first ∷ []))) same
    ∙ ap (λ (xs : List Seat). empty_seat client first ∷ xs) (empty_then count (client + 1) first)

pub one_more : (count client first : ℕ)
    → empty_seats count client first ++ (empty_seat (client + count) first ∷ [])
    ≡ empty_seats (count + 1) client first
one_more count client first =
    let same : suc count ≡ count + 1 = omega arith in
    empty_then count client first ∙ ap (λ (n : ℕ). empty_seats n client first) same

-- ---- the front

pub front_seen : (other bytes : List ℕ) (f g : Seen) → other ≡ bytes → f ≡ g → IsFront other f
    → IsFront bytes g
front_seen other bytes f g same is seen =
    subst (λ (x : Seen). IsFront bytes x) is (subst (λ (b : List ℕ). IsFront b f) same seen)

-- ---- moves

abbrev pub seating : List Seat → Kept → Seating
seating xs kept = record { seats = xs; kept = kept }

-- a seat moves so, and this is asked
abbrev pub Gives : ℕ → Option Ask → (Seat → Kept → Moved) → Seating → Seating → Type 0
Gives n what move g h =
    (sent : Option Sent) × (what ≡ option_map ask_of sent) × Moves n sent move g h

moves_by : (n : ℕ) (what : Option Ask) (move : Seat → Kept → Moved) (g : Seating) (s z : Seat)
    (k : Kept) → IsAt n s g → HasMoved what z k (move s g.kept)
    → Gives n what move g (seating (slice_set g.seats n z) k)
moves_by n what move g s z k is has = (
  (move s g.kept).sent,
  has.ask,
  (
    s,
    is,
    refl,
    ap (λ (y : Seat). seating (slice_set g.seats n y) k) has.seat
        ∙ ap (λ (y : Kept). seating (slice_set g.seats n (move s g.kept).seat) y) has.kept,
  ),
)

stays_by : (n : ℕ) (move : Seat → Kept → Moved) (g : Seating) (s : Seat) → IsAt n s g
    → move s g.kept ≡ moved s g.kept None → Gives n None move g g
stays_by n move g s is stays = (
  None,
  refl,
  (
    s,
    is,
    ap (λ (m : Moved). m.sent) stays,
    sym (ap (λ (m : Moved). with_moved n m g) stays
        ∙ ap (λ (ys : List Seat). seating ys g.kept) (set_same g.seats n s is)),
  ),
)

-- a seat of a hall that looks so
module _ (client n : ℕ) (xs : List Seat) (kept : Kept) (g : Seating) (looks : seating xs kept ≡ g)
    (are : AreOf client xs) (within : n < 16) where
  pub found : (s : Seat) → s ≡ slice_index_or xs n s → slice_get xs n ≡ Some s
  found s is =
      let sixteen : length xs ≡ 16 = are.sixteen in
      at_index xs n s (omega (arith, sixteen, within)) ∙ ap Some (sym is)

  -- a seat that keeps its client leaves them as they are
  pub are_still : (s z : Seat) → s ≡ slice_index_or xs n s → z.client ≡ s.client
      → AreOf client (slice_set xs n z)
  are_still s z is same = of_set client n xs s z are (found s is) same

  pub moves_at : (what : Option Ask) (move : List Seat → Seat → Kept → Moved) (s z : Seat)
      (k : Kept) → s ≡ slice_index_or xs n s → HasMoved what z k (move xs s kept)
      → Gives n what (move g.seats) g (seating (slice_set xs n z) k)
  moves_at what move s z k is has =
      subst (λ (x : Seating). Gives n what (move x.seats) x (seating (slice_set xs n z) k)) looks
      (moves_by n what (move xs) (seating xs kept) s z k (found s is) has)

  pub stays_at : (move : List Seat → Seat → Kept → Moved) (s : Seat)
      → s ≡ slice_index_or xs n s → move xs s kept ≡ moved s kept None
      → Gives n None (move g.seats) g g
  stays_at move s is stays =
      subst (λ (x : Seating). Gives n None (move x.seats) x x) looks
      (stays_by n (move xs) (seating xs kept) s (found s is) stays)

  one_seat : (s t : Seat) → s ≡ slice_index_or xs n s → t ≡ slice_index_or xs n t → s ≡ t
  one_seat s t is too = let both : Some s ≡ Some t = sym (found s is) ∙ found t too in cc

  -- ---- the next record

  pub not_ready : (m : Moment) (s : Seat) → s ≡ slice_index_or xs n s → false ≡ is_ready s
      → Gives n None (begins m g.seats) g g
  not_ready m s is ready = stays_at (begins m) s is (rw (sym ready) refl)

  begins_with : (m : Moment) (f : Front) (s t u : Seat) → s ≡ slice_index_or xs n s
      → t ≡ slice_index_or xs n t → u ≡ slice_index_or xs n u → true ≡ is_ready s
      → front t.unread ≡ f → begins m xs u kept ≡ begun_with m xs u kept f
  begins_with m f s t u is too also ready stands =
      let so : is_ready u ≡ true =
      subst (λ (x : Seat). is_ready x ≡ true) (one_seat s u is also) (sym ready) in
      let as_well : front u.unread ≡ f =
      subst (λ (x : Seat). front x.unread ≡ f) (one_seat t u too also) stands in
      rw (so, as_well) refl

  pub begun : (m : Moment) (f : Front) (what : Option Ask) (s t u z : Seat) (k : Kept)
      → s ≡ slice_index_or xs n s → t ≡ slice_index_or xs n t → u ≡ slice_index_or xs n u
      → true ≡ is_ready s → front t.unread ≡ f → HasMoved what z k (begun_with m xs u kept f)
      → Gives n what (begins m g.seats) g (seating (slice_set xs n z) k)
  begun m f what s t u z k is too also ready stands has =
      moves_at what (begins m) u z k also
      (subst (HasMoved what z k) (sym (begins_with m f s t u is too also ready stands)) has)

  -- a record that another seat's call is for
  pub waits : (m : Moment) (request rest : List ℕ) (s t : Seat) → s ≡ slice_index_or xs n s
      → t ≡ slice_index_or xs n t → true ≡ is_ready s → front t.unread ≡ Whole request rest
      → true ≡ list_any (asks_for request) g.seats → Gives n None (begins m g.seats) g g
  waits m request rest s t is too ready stands asked =
      let here : list_any (asks_for request) xs ≡ true =
      ap (λ (x : Seating). list_any (asks_for request) x.seats) looks ∙ sym asked in
      stays_at (begins m) s is
      (begins_with m (Whole request rest) s t s is too is ready stands ∙ rw here refl)

  -- a record that none is for is begun
  pub unasked : (m : Moment) (request : List ℕ) (taken : ℕ) (what : Option Ask) (s t u z : Seat)
      (k : Kept) → s ≡ slice_index_or xs n s → t ≡ slice_index_or xs n t
      → u ≡ slice_index_or xs n u → true ≡ is_ready s
      → front t.unread ≡ Whole request (drop taken t.unread)
      → false ≡ list_any (asks_for request) g.seats
      → HasMoved what z k (begun_by m request (with_unread (drop taken u.unread) u) kept
      (answer_of request kept)) → Gives n what (begins m g.seats) g (seating (slice_set xs n z) k)
  unasked m request taken what s t u z k is too also ready stands asked has =
      let here : list_any (asks_for request) xs ≡ false =
      ap (λ (x : Seating). list_any (asks_for request) x.seats) looks ∙ sym asked in
      let same = one_seat u t also too in
      let at_front : front t.unread ≡ Whole request (drop taken u.unread) =
      stands ∙ ap (λ (x : Seat). Whole request (drop taken x.unread)) (sym same) in
      begun m (Whole request (drop taken u.unread)) what s t u z k is too also ready at_front
      (rw here has)
