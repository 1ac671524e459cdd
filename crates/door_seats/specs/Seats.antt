-- A SEAT: a client number, as which the calls of one connection at a time are made. Its records are
-- answered one after the other, and each call is asked until a server answers it.
use Rattle.std.specs.Prelude.{ℕ, ◌*◌, ◌/◌, ◌%◌, ◌^◌, ◌&&◌, ◌==◌, not, nat_le, Bool, true, false, List, [], ◌++◌, length, is_some, Option, Some, None, if◌then◌else◌}
use Rattle.std.specs.List.{list_any}
use Rattle.harp_types.specs.Memory.{raised}
use Rattle.harp_types.specs.declared.attr.Time.{Time}
use Rattle.harp_types.specs.declared.server.ServerId.{ServerId}
use Rattle.node_link.specs.declared.link.Datagram.{Datagram}
use Rattle.rpc_door.specs.Marks.{Front, Large, Short, Whole, front}
use Rattle.rpc_door.specs.Serving.{sent}
use Rattle.nfs_door.specs.declared.step.Errand.{Errand}
use Rattle.nfs_door.specs.declared.step.Step.{Step}
use Rattle.nfs_door.specs.declared.step.Step.TheVariants as step
use Rattle.nfs_door.specs.Steps.{after, begun}
use Rattle.client_calls.specs.Waits.{asked_again, first_wait, hinted}
use Rattle.group_client.specs.Rule.{Asked, news, said}
use Rattle.group_client.specs.declared.news.News.{News}
use Rattle.group_client.specs.declared.news.News.TheVariants.{Nothing, Refused, Answered}
use Rattle.client_calls.specs.declared.wait.Wait.{Wait}
use Rattle.wire.specs.declared.message.Message.{Message}
use Rattle.door_seats.specs.declared.rule.Moment.{Moment}
use Rattle.door_seats.specs.declared.seat.Line.{Line}
use Rattle.door_seats.specs.declared.seat.Line.TheVariants.{Free, Open, Over, Done, Lost}
use Rattle.door_seats.specs.declared.seat.Seat.{Seat}
use Rattle.door_seats.specs.declared.seat.Visit.{Visit}
use Rattle.door_seats.specs.Kept.{Kept, answer_of, is_bytes, with_answer}

-- ---- the connection

-- records of a connection are answered
abbrev pub is_served : Line → Bool
is_served Free = false
is_served Open = true
is_served Over = true
is_served Done = false
is_served Lost = false

-- a connection took the seat
abbrev pub arrived : Seat → Seat
arrived s = record s { line = Open; is_settled = true; unread = []; unsent = [] }

-- bytes came over it
abbrev pub come : List ℕ → Seat → Seat
come bytes s = record s { is_settled = false; unread = s.unread ++ bytes }

-- no more come
abbrev pub over : Seat → Seat
over s = record s { line = Over; is_settled = false }

-- it took bytes, and these are left
abbrev pub gone : List ℕ → Seat → Seat
gone rest s = record s { unsent = rest }

-- it takes no more
abbrev pub lost : Seat → Seat
lost s = record s { line = Lost; unread = []; unsent = [] }

-- it is ended once all that came is answered and taken; one that is lost, once no call is on its
-- way
abbrev pub is_over : (asks : Bool) → Line → Bool
is_over asks Free = false
is_over asks Open = false
is_over asks Over = false
is_over asks Done = true
is_over asks Lost = not asks

abbrev pub is_leaving : Seat → Bool
is_leaving s = is_over (is_some s.visit) s.line

abbrev pub left : Seat → Seat
left s = record s { line = Free; unread = []; unsent = [] }

-- ---- calls

-- a call of a seat waits so
abbrev pub waiting : Wait → Visit → Seat → Seat
waiting w v s = record s { visit = Some (record v { wait = w }) }

-- what is asked of a server
pub record Sent : Type 0 where
  pub asked : Asked
  pub to : ServerId

-- what a seat does: what becomes of it and of the kept answers, and what it asks
pub record Moved : Type 0 where
  pub seat : Seat
  pub kept : Kept
  pub sent : Option Sent

abbrev pub moved : Seat → Kept → Option Sent → Moved
moved s kept what = record { seat = s; kept = kept; sent = what }

-- a call of a seat, under a number
abbrev pub call_of : Moment → Seat → Errand → ℕ → Asked
call_of m s e number = record {
  port = m.rule.port;
  client = s.client;
  number = number;
  cred = e.cred;
  call = e.call;
}

-- a record's call is asked, under the next number, at the server that answered last
abbrev pub asking : ℕ → List ℕ → Errand → Seat → Seat
asking now request e s = record s {
  next = raised s.next;
  visit = Some (record {
    request = request;
    errand = e;
    number = s.next;
    wait = first_wait s.place now;
  });
}

-- HOW A SEAT GOES ON with a record whose next step is this one
abbrev pub followed : Moment → List ℕ → Seat → Kept → Step → Moved
followed m request s kept step.Silent = moved s kept None
followed m request s kept (step.Answer answer) =
    moved (record s { unsent = s.unsent ++ sent answer })
    (with_answer request (sent answer) kept) None
followed m request s kept (step.Call e) =
    moved (asking m.now request e s) kept
    (Some (record { asked = call_of m s e s.next; to = s.place }))

-- ---- records

-- a moment in milliseconds, as NFS tells it
abbrev pub time_at : ℕ → Time
time_at now = record { seconds = now / 1000 % 2 ^ 32; micros = now % 1000 * 1000 }

-- a record is begun: the answer that is kept for it is given again, and where none is, its first
-- step is taken
abbrev pub begun_by : Moment → List ℕ → Seat → Kept → Option (List ℕ) → Moved
begun_by m request s kept (Some answer) =
    moved (record s { unsent = s.unsent ++ answer }) kept None
begun_by m request s kept None =
    followed m request s kept (begun m.rule.everyone (time_at m.now) request)

-- this record's call is on its way at a seat
abbrev pub is_asking : List ℕ → Option Visit → Bool
is_asking request None = false
is_asking request (Some v) = is_bytes v.request request

abbrev pub asks_for : List ℕ → Seat → Bool
asks_for request s = is_asking request s.visit

abbrev pub is_empty : List ℕ → Bool
is_empty bytes = length bytes == 0

-- the next record may be begun: the answer to the one before is taken, and more came than a part of
-- a record
abbrev pub is_ready : Seat → Bool
is_ready s =
    is_served s.line && (not s.is_settled && (not (is_some s.visit) && is_empty s.unsent))

-- where no record is at the front, more has to come; where none does, all is done
abbrev pub done_if_over : Line → Line
done_if_over Free = Free
done_if_over Open = Open
done_if_over Over = Done
done_if_over Done = Done
done_if_over Lost = Lost

abbrev pub settled : Seat → Seat
settled s = record s { line = done_if_over s.line; is_settled = true }

-- a record that is too large ends its connection
abbrev pub refused : Seat → Seat
refused s = record s { line = Done; is_settled = true }

-- so much of what came isn't read
abbrev pub with_unread : List ℕ → Seat → Seat
with_unread rest s = record s { unread = rest }

-- what is done by what stands at the front. A record that another seat's call is for waits
abbrev pub begun_with : Moment → List Seat → Seat → Kept → Front → Moved
begun_with m seats s kept Short = moved (settled s) kept None
begun_with m seats s kept Large = moved (refused s) kept None
begun_with m seats s kept (Whole request rest) =
    if list_any (asks_for request) seats then moved s kept None
    else begun_by m request (record s { unread = rest }) kept (answer_of request kept)

-- THE NEXT RECORD of a seat among these is begun
abbrev pub begins : Moment → List Seat → Seat → Kept → Moved
begins m seats s kept =
    if is_ready s then begun_with m seats s kept (front s.unread) else moved s kept None

-- ---- waiting

-- a call is asked again once its pause is over
abbrev pub reminded_of : Moment → Seat → Kept → Option Visit → Moved
reminded_of m s kept None = moved s kept None
reminded_of m s kept (Some v) =
    if nat_le v.wait.due m.now then moved (waiting (asked_again m.now v.wait) v s) kept
    (Some (record { asked = call_of m s v.errand v.number; to = v.wait.place }))
    else moved s kept None

abbrev pub reminded : Moment → Seat → Kept → Moved
reminded m s kept = reminded_of m s kept s.visit

-- what a seat does by what is said of its call
abbrev pub told : Moment → Seat → Kept → Visit → News → Moved
told m s kept v Nothing = moved s kept None
told m s kept v (Refused by cause) = moved (waiting (hinted by cause v.wait) v s) kept None
told m s kept v (Answered x) =
    followed m v.request (record s { visit = None; place = x.by }) kept (after v.errand x.reply)

-- WHAT A SEAT DOES by a message of a server
abbrev pub hears_of : Moment → ServerId → Message → Seat → Kept → Option Visit → Moved
hears_of m by message s kept None = moved s kept None
hears_of m by message s kept (Some v) =
    told m s kept v (said by (call_of m s v.errand v.number) message)

abbrev pub hears : Moment → ServerId → Message → Seat → Kept → Moved
hears m by message s kept = hears_of m by message s kept s.visit

-- what a seat does by a datagram
abbrev pub hears_of_datagram : Moment → Datagram → Seat → Kept → Option Visit → Moved
hears_of_datagram m d s kept None = moved s kept None
hears_of_datagram m d s kept (Some v) =
    told m s kept v (news (call_of m s v.errand v.number) d)

abbrev pub hears_datagram : Moment → Datagram → Seat → Kept → Moved
hears_datagram m d s kept = hears_of_datagram m d s kept s.visit
