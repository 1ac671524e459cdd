-- From the first moment of a door to its end.
use Rattle.std.proofs.Common.{◌≡◌, ◌≤◌, ◌∙◌, ℕ, [], List, Result, Ok, Err, ap, arith, inl, refl, subst}
use Rattle.std.specs.Prelude.{IsErr, ⊤}
use Rattle.std.specs.Result.{IsErrAnd}
use Rattle.harp_types.specs.Streams.{Rose}
use Rattle.harp_types.specs.declared.server.ServerId.TheVariants.{Zero}
use Rattle.node_link.specs.Readings.{MayTell}
use Rattle.node_link.specs.declared.link.LinkFault.{LinkFault}
use Rattle.node_link.specs.declared.link.LinkFault.TheVariants.{Failed, NoMemory}
use Rattle.client_calls.specs.First.{first_number}
use Rattle.door_seats.specs.Doors.{EndsAt, Goes, GoesBy, IsNew, Serves, Tells, first_scene, outer_of, scene_of, with_clock}
use Rattle.door_seats.specs.Events.{AllHappen, Event, Outer, Scene}
use Rattle.door_seats.specs.declared.door.Door.{Door}
use Rattle.door_seats.specs.declared.door.Outside.{Outside}
use Rattle.door_seats.specs.declared.rule.Rule.{Rule}
use Rattle.door_seats.proofs.Rightness.{are_right}

-- what happened, and how it ended
pub record Ran {A : Type 0} (rule : Rule) (result : Result A LinkFault) (a : Scene) (o : Outer)
    : Type 0 where
  pub events : List Event
  pub last : Scene
  pub happen : AllHappen rule events a last
  pub ends : EndsAt result last.outer o

ran : {A : Type 0} (rule : Rule) (result : Result A LinkFault) (a c : Scene)
    → GoesBy rule result a c → Ran rule result a c.outer
ran rule (Ok x) a c (es, happen) =
    record { events = es; last = c; happen = happen; ends = refl }
ran rule (Err why) a c (d, (es, happen), cut) =
    record { events = es; last = d; happen = happen; ends = cut }

module _ {N L C : Type 0} (t : Tells N L C) where
  -- a door that was made so began there
  begins_at : (rule : Rule) (client first : ℕ) (d : Door) (o : Outside N L C) → IsNew rule client first d
      → scene_of t d o ≡ first_scene client first (outer_of t o)
  begins_at rule client first d o new = rw (new.seating, new.reading) refl

  pub serves : (rule : Rule) (client reading : ℕ) (result : Result ⊤ LinkFault) (old o p : Outside N L C)
      (d e : Door)
      → MayTell (record { place = Zero; millis = reading }) (t.clock old.clock) (t.clock o.clock)
      → o.connections ≡ old.connections → o.link ≡ old.link
      → IsNew rule client (first_number reading) d → Goes t result d o e p
      → Serves t rule client result old p
  serves rule client reading result old o p d e read connections link new goes =
      let r = ran rule result (scene_of t d o) (scene_of t e p)
      (subst (λ x. GoesBy x result (scene_of t d o) (scene_of t e p)) new.rule_is goes.events) in
      let outer : outer_of t o ≡ with_clock (t.clock o.clock) (outer_of t old) =
      rw (connections, link) refl in
      let start : scene_of t d o ≡ first_scene client (first_number reading)
      (with_clock (t.clock o.clock) (outer_of t old)) =
      begins_at rule client (first_number reading) d o new
      ∙ ap (first_scene client (first_number reading)) outer in
      let happen = subst (λ a. AllHappen rule r.events a r.last) start r.happen in
      record {
        reading = reading;
        clock = t.clock o.clock;
        events = r.events;
        last = r.last;
        read = read;
        happen = happen;
        ends = r.ends;
        right = are_right rule client (first_number reading) r.events _ r.last refl refl happen;
        counted = subst (λ (x : L). (t.faults x ≤ t.faults p.link)
            × (result ≡ Err Failed → Rose (t.faults x) (t.faults p.link))) link goes.counted;
      }

  -- without memory no door is made
  pub serves_none : (rule : Rule) (client reading : ℕ) (result : Result ⊤ LinkFault)
      (old o : Outside N L C) → IsErr result → IsErrAnd result (λ f. f ≡ NoMemory)
      → MayTell (record { place = Zero; millis = reading }) (t.clock old.clock) (t.clock o.clock)
      → o.connections ≡ old.connections → o.link ≡ old.link
      → Serves t rule client result old o
  serves_none rule client reading (Ok x) old o is same read connections link = absurd cc
  serves_none rule client reading (Err why) old o is same read connections link =
      let a = first_scene client (first_number reading)
      (with_clock (t.clock o.clock) (outer_of t old)) in
      record {
        reading = reading;
        clock = t.clock o.clock;
        events = [];
        last = a;
        read = read;
        happen = refl;
        ends = record {
          signs = inl (ap t.signs connections);
          link = inl (ap t.link link);
          clock = inl refl;
        };
        right = are_right rule client (first_number reading) [] a a refl refl refl;
        counted = rw link (omega arith, λ failed. absurd cc);
      }
