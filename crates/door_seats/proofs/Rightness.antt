-- WHAT HAPPENS AT A DOOR IS RIGHT, from its first moment on.
use Rattle.std.proofs.Common.{◌≡◌, ℕ, List, [], ◌∷◌, Option, Some, None, refl, slice_get, subst, sym}
use Rattle.std.proofs.lemmas.Bool.{ne_eqb}
use Rattle.group_client.specs.Rule.{Asked}
use Rattle.door_seats.specs.Answers.{AreRight, Asks, IsServed}
use Rattle.door_seats.specs.Events.{AllHappen, Arrives, Begins, Breaks, Comes, Does, Ends, Event, Goes, Hears, IsAt, Leaves, Passes, Reminds, Scene, Seating, Wakes, at, first_seating, now_after, with_moved, with_seat}
use Rattle.door_seats.specs.Seats.{Moved, arrived, begins, come, gone, hears_datagram, left, lost, moved, over, reminded}
use Rattle.door_seats.specs.declared.rule.Rule.{Rule}
use Rattle.door_seats.specs.declared.seat.Seat.{Seat}
use Rattle.door_seats.proofs.Beginning.{begins_rightly}
use Rattle.door_seats.proofs.Changing.{arrives, breaks, comes, ends, goes, is_quiet, leaves, moves_quietly}
use Rattle.door_seats.proofs.Following.{IsMoved}
use Rattle.door_seats.proofs.Hearing.{hears_rightly, reminds_rightly}
use Rattle.door_seats.proofs.Later.{read_later, read_now}
use Rattle.door_seats.proofs.Seating.{IsStill, all_stand_first, all_stay, one_moves}
use Rattle.door_seats.proofs.Standing.{AllStand, IsSeated, IsSeatedIf}

-- ---- an event

module _ (rule : Rule) (first : ℕ) (es : List Event) (now : ℕ) (g : Seating)
    (all : AllStand rule first es now g) where
  seat_at : (n : ℕ) (s : Seat) → IsAt n s g → IsSeated rule first es n s
  seat_at n s is = subst (IsSeatedIf rule first es n) is (all.seats n)

  -- a seat whose connection changes
  turns : (e : Event) (n : ℕ) (s t : Seat) → ((q : Asked) → Asks e q → ⊥)
      → ((k : ℕ) → (k ≡ n → ⊥) → IsStill k e es) → IsAt n s g → IsSeated rule first (e ∷ es) n t
      → AllStand rule first (e ∷ es) now (with_seat n t g)
  turns e n s t none still is seat =
      one_moves rule first e es now now n s g (moved t g.kept None) still
      (read_later now e es all.read) is all
      (moves_quietly rule first e es n s t g.kept (is_quiet e none) all.kept seat)

  -- and one that does more
  moves : (e : Event) (n : ℕ) (s : Seat) (m : Moved) → ((k : ℕ) → IsStill k e es) → IsAt n s g
      → IsMoved rule first e es n s.client s.next m
      → AllStand rule first (e ∷ es) now (with_moved n m g)
  moves e n s m still is done =
      one_moves rule first e es now now n s g m (λ k other. still k) (read_later now e es all.read)
      is all done

  pub event : (e : Event) (h : Seating) → Does rule now e g h
      → AllStand rule first (e ∷ es) (now_after e now) h
  event (Wakes t) h does =
      subst (AllStand rule first (Wakes t ∷ es) t) (sym does)
      (all_stay rule first (Wakes t) es now t g (λ k. (refl, refl)) (λ q asks. asks)
      (read_now t es) all)
  event (Arrives n) h does =
      subst (AllStand rule first (Arrives n ∷ es) now) (sym does.3)
      (turns (Arrives n) n does.0 (arrived does.0) (λ q asks. asks)
      (λ k other. let no = ne_eqb n k (λ is. other (sym is)) in (rw no refl, rw no refl)) does.1
      (arrives rule first es n does.0 does.2 (seat_at n does.0 does.1)))
  event (Comes n bytes) h does =
      subst (AllStand rule first (Comes n bytes ∷ es) now) (sym does.3)
      (turns (Comes n bytes) n does.0 (come bytes does.0) (λ q asks. asks)
      (λ k other. let no = ne_eqb n k (λ is. other (sym is)) in (rw no refl, refl)) does.1
      (comes rule first es n does.0 bytes (seat_at n does.0 does.1)))
  event (Ends n) h does =
      subst (AllStand rule first (Ends n ∷ es) now) (sym does.3)
      (turns (Ends n) n does.0 (over does.0) (λ q asks. asks) (λ k other. (refl, refl)) does.1
      (ends rule first es n does.0 does.2 (seat_at n does.0 does.1)))
  event (Begins n sent) h does =
      subst (AllStand rule first (Begins n sent ∷ es) now) (sym does.3)
      (moves (Begins n sent) n does.0 (begins (at rule now) g.seats does.0 g.kept)
      (λ k. (refl, refl)) does.1
      (begins_rightly (at rule now) first es n sent does.0 g.kept (seat_at n does.0 does.1) all.kept
      all.read g.seats does.2))
  event (Reminds n sent) h does =
      subst (AllStand rule first (Reminds n sent ∷ es) now) (sym does.3)
      (moves (Reminds n sent) n does.0 (reminded (at rule now) does.0 g.kept) (λ k. (refl, refl))
      does.1
      (reminds_rightly (at rule now) first es n sent does.0 g.kept (seat_at n does.0 does.1)
      all.kept does.2))
  event (Hears n d sent) h does =
      subst (AllStand rule first (Hears n d sent ∷ es) now) (sym does.3)
      (moves (Hears n d sent) n does.0 (hears_datagram (at rule now) d does.0 g.kept)
      (λ k. (refl, refl)) does.1
      (hears_rightly (at rule now) first es n d sent does.0 g.kept (seat_at n does.0 does.1)
      all.kept does.2))
  event (Passes d) h does =
      subst (AllStand rule first (Passes d ∷ es) now) (sym does.0)
      (all_stay rule first (Passes d) es now now g (λ k. (refl, refl)) (λ q asks. asks)
      (read_later now (Passes d) es all.read) all)
  event (Goes n bytes) h does =
      let c = does.1 in
      subst (AllStand rule first (Goes n bytes ∷ es) now) (sym c.3)
      (turns (Goes n bytes) n c.0 (gone does.0 c.0) (λ q asks. asks)
      (λ k other. let no = ne_eqb n k (λ is. other (sym is)) in (refl, rw no refl)) c.1
      (goes rule first es n c.0 bytes does.0 c.2 (seat_at n c.0 c.1)))
  event (Breaks n) h does =
      subst (AllStand rule first (Breaks n ∷ es) now) (sym does.3)
      (turns (Breaks n) n does.0 (lost does.0) (λ q asks. asks) (λ k other. (refl, refl)) does.1
      (breaks rule first es n does.0 (seat_at n does.0 does.1)))
  event (Leaves n) h does =
      subst (AllStand rule first (Leaves n ∷ es) now) (sym does.3)
      (turns (Leaves n) n does.0 (left does.0) (λ q asks. asks) (λ k other. (refl, refl)) does.1
      (leaves rule first es n does.0 does.2 (seat_at n does.0 does.1)))

-- ---- all events

all_stand : (rule : Rule) (client first : ℕ) (es : List Event) (a c : Scene)
    → a.seating ≡ first_seating client first → a.now ≡ 0 → AllHappen rule es a c
    → AllStand rule client es c.now c.seating
all_stand rule client first [] a c seating now happen =
    let before : AllStand rule client [] a.now a.seating =
    subst (AllStand rule client [] a.now) (sym seating)
    (all_stand_first rule client first a.now now) in
    subst (λ (x : Scene). AllStand rule client [] x.now x.seating) (sym happen) before
all_stand rule client first (e ∷ es) a c seating now happen =
    let b = happen.0 in
    subst (λ (t : ℕ). AllStand rule client (e ∷ es) t c.seating) (sym happen.2.now)
    (event rule client es b.now b.seating
    (all_stand rule client first es a b seating now happen.1) e c.seating happen.2.does)

served_if : (rule : Rule) (client : ℕ) (es : List Event) (n : ℕ) (o : Option Seat)
    → IsSeatedIf rule client es n o → IsServed rule es n
served_if rule client es n None h = h
served_if rule client es n (Some s) h = h.served

-- WHAT HAPPENED IS RIGHT
pub are_right : (rule : Rule) (client first : ℕ) (es : List Event) (a c : Scene)
    → a.seating ≡ first_seating client first → a.now ≡ 0 → AllHappen rule es a c
    → AreRight rule es
are_right rule client first es a c seating now happen =
    let all = all_stand rule client first es a c seating now happen in
    record {
      served = λ n. served_if rule client es n (slice_get c.seating.seats n) (all.seats n);
      numbered = all.numbered;
    }
