use Rattle.std.proofs.Common.{◌∙◌, List, None, ap, refl, drop, ℕ}
use Rattle.std.proofs.lemmas.Result.{IfOk-weaker}
use Rattle.std.specs.List.{list_any}
use Rattle.rpc_door.specs.Marks.{Large, Short}
use Rattle.door_seats.specs.Seats.{asks_for}
use Rattle.door_seats.specs.declared.seat.Seat.{Seat}
use Rattle.door_seats.proofs.Halls.{are_still, begun, front_seen, not_ready, unasked, waits}
use Rattle.door_seats.proofs.hall.Hall.begin.Goals as goal

pub returns-then-not-is_ready : goal.returns-then-not-is_ready
returns-then-not-is_ready c =
    let hall = c.self.inside in
    not_ready hall.client c.args.n hall.seats.items hall.kept c.args.self.now c.self.view_is
    c.self.invariant c.requires.seat c.args.moment c.index.result.now c.index.ensures
    c.if-not-is_ready.ensures

pub invariant_of-self : goal.invariant_of-self
invariant_of-self c =
    let hall = c.self.inside in
    are_still hall.client c.args.n hall.seats.items hall.kept c.args.self.now c.self.view_is
    c.self.invariant c.requires.seat c.index_mut.result.now c.settle.new.self
    c.index_mut.ensures.value (ap (λ (s : Seat). s.client) c.settle.ensures)

pub invariant_of-self-in-Large : goal.invariant_of-self-in-Large
invariant_of-self-in-Large c =
    let hall = c.self.inside in
    are_still hall.client c.args.n hall.seats.items hall.kept c.args.self.now c.self.view_is
    c.self.invariant c.requires.seat c.index_mut-in-Large.result.now c.refuse.new.self
    c.index_mut-in-Large.ensures.value (ap (λ (s : Seat). s.client) c.refuse.ensures)

pub returns-then-is_asked : goal.returns-then-is_asked
returns-then-is_asked c =
    let hall = c.self.inside in
    let bytes = c.index-2.result.now.unread in
    waits hall.client c.args.n hall.seats.items hall.kept c.args.self.now c.self.view_is
    c.self.invariant c.requires.seat c.args.moment c.in-Whole.request
    (drop c.in-Whole.taken bytes) c.index.result.now c.index-2.result.now c.index.ensures
    c.index-2.ensures c.if-not-is_ready.ensures
    (front_seen c.as_slice.result.now bytes _ _ c.as_slice.ensures c.in-Whole.is
    c.in_ok-front_of.ensures)
    (c.if-is_asked.ensures
    ∙ ap (λ (b : List ℕ). list_any (asks_for b) c.args.self.now.seats)
    c.as_slice-in-Whole.ensures)

pub invariant_of-self-in-Whole : goal.invariant_of-self-in-Whole
invariant_of-self-in-Whole c =
    let hall = c.self.inside in
    are_still hall.client c.args.n hall.seats.items hall.kept c.args.self.now c.self.view_is
    c.self.invariant c.requires.seat c.index_mut-in-Whole.result.now c.begin.new.self
    c.index_mut-in-Whole.ensures.value c.begin.ensures.client

pub returns-in-Short : goal.returns-in-Short
returns-in-Short c =
    let hall = c.self.inside in
    begun hall.client c.args.n hall.seats.items hall.kept c.args.self.now c.self.view_is
    c.self.invariant c.requires.seat c.args.moment Short None c.index.result.now
    c.index-2.result.now c.index_mut.result.now c.settle.new.self hall.kept c.index.ensures
    c.index-2.ensures c.index_mut.ensures.value c.if-not-is_ready.ensures
    (front_seen c.as_slice.result.now c.index-2.result.now.unread _ _ c.as_slice.ensures
    c.in-Short.is c.in_ok-front_of.ensures)
    (record { ask = refl; seat = c.settle.ensures; kept = refl })

pub returns-in-Large : goal.returns-in-Large
returns-in-Large c =
    let hall = c.self.inside in
    begun hall.client c.args.n hall.seats.items hall.kept c.args.self.now c.self.view_is
    c.self.invariant c.requires.seat c.args.moment Large None c.index.result.now
    c.index-2.result.now c.index_mut-in-Large.result.now c.refuse.new.self hall.kept
    c.index.ensures c.index-2.ensures c.index_mut-in-Large.ensures.value
    c.if-not-is_ready.ensures
    (front_seen c.as_slice.result.now c.index-2.result.now.unread _ _ c.as_slice.ensures
    c.in-Large.is c.in_ok-front_of.ensures)
    (record { ask = refl; seat = c.refuse.ensures; kept = refl })

pub returns-else-is_asked : goal.returns-else-is_asked
returns-else-is_asked c =
    let hall = c.self.inside in
    let front = front_seen c.as_slice.result.now c.index-2.result.now.unread _ _
    c.as_slice.ensures c.in-Whole.is c.in_ok-front_of.ensures in
    IfOk-weaker c.begin.result _ _
    (λ ask moves. unasked hall.client c.args.n hall.seats.items hall.kept c.args.self.now
    c.self.view_is c.self.invariant c.requires.seat c.args.moment c.in-Whole.request
    c.in-Whole.taken ask c.index.result.now c.index-2.result.now
    c.index_mut-in-Whole.result.now c.begin.new.self c.begin.new.kept c.index.ensures
    c.index-2.ensures c.index_mut-in-Whole.ensures.value c.if-not-is_ready.ensures front
    (c.if-is_asked.ensures
    ∙ ap (λ (b : List ℕ). list_any (asks_for b) c.args.self.now.seats)
    c.as_slice-in-Whole.ensures) moves) c.begin.ensures.moves
