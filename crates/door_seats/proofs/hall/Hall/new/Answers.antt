use Rattle.std.proofs.Common.{◌≡◌, ◌∙◌, ◌+◌, ◌++◌, ◌∷◌, [], List, ℕ, ap, arith, subst, sym}
use Rattle.door_seats.specs.Events.{AreOf, empty_seat, empty_seats}
use Rattle.door_seats.specs.declared.seat.Seat.{Seat}
use Rattle.door_seats.proofs.Halls.{first_are, one_more, seating}
use Rattle.door_seats.proofs.hall.Hall.new.Goals as goal

pub loop-n-init : goal.loop-n-init
loop-n-init c = c.new-seats.ensures.items

pub loop-n-preserved : goal.loop-n-preserved
loop-n-preserved c =
    c.in_ok-push.ensures.items
    ∙ ap (λ (s : Seat). c.loop-n.seats.items ++ (s ∷ [])) c.new.ensures
    ∙ ap (λ (xs : List Seat). xs ++ (empty_seat (c.args.client + c.loop-n.n) c.args.first ∷ []))
    c.loop-n.invariant
    ∙ one_more c.loop-n.n c.args.client c.args.first

pub invariant_of-result : goal.invariant_of-result
invariant_of-result c =
    let all : c.loop-n.n ≡ 16 = omega arith in
    let are = subst (λ (n : ℕ). c.loop-n.seats.items ≡ empty_seats n c.args.client c.args.first) all
    c.loop-n.invariant in
    subst (AreOf c.args.client) (sym are) (first_are c.args.client c.args.first)

pub returns : goal.returns
returns c =
    let all : c.loop-n.n ≡ 16 = omega arith in
    let are = subst (λ (n : ℕ). c.loop-n.seats.items ≡ empty_seats n c.args.client c.args.first) all
    c.loop-n.invariant in
    ap (λ (xs : List Seat). seating xs c.in_ok-new.field-0) are
    ∙ ap (λ k. seating (empty_seats 16 c.args.client c.args.first) k) c.in_ok-new.ensures
