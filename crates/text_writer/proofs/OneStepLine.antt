-- No text has a line end in it.
use Rattle.std.proofs.Common.{ℕ, Bool, true, false, List, [], ◌∷◌, ◌++◌, Option, Some, None, refl, arith}
use Rattle.std.specs.Prelude.{decimal, codes}
use Rattle.harp_types.specs.Server.{number_of}
use Rattle.harp_types.specs.declared.server.ServerId.{ServerId}
use Rattle.harp_types.specs.View.{View}
use Rattle.harp_types.specs.declared.state.Held.{Held}
use Rattle.harp_types.specs.declared.cause.Cause.{Cause}
use Rattle.harp_types.specs.declared.cause.Cause.TheVariants as cause
use Rattle.harp_types.specs.declared.pick.Pick.{Pick}
use Rattle.harp_types.specs.declared.pick.Pick.TheVariants as pick
use Rattle.trace_types.specs.declared.step.Step.{Step}
use Rattle.trace_types.specs.declared.step.Step.TheVariants as step
use Rattle.harp_types.specs.declared.book.BookEntry.{BookEntry}
use Rattle.trace_types.specs.declared.line.LineFault.{LineFault}
use Rattle.trace_types.specs.declared.line.LineFault.TheVariants as fault
use Rattle.trace_types.specs.declared.line.ShownMessage.{ShownMessage}
use Rattle.trace_types.specs.declared.line.ShownMessage.TheVariants as message
use Rattle.trace_types.specs.declared.line.Line.{Line}
use Rattle.trace_types.specs.declared.line.Line.TheVariants as line
use Rattle.text_spelling.specs.Text.{hex_text, call_text, attr_text, reply_text, spaced, cred_text, ask_head, pair_text, among_text}
use Rattle.text_spelling.specs.Lines.{IsOneLine, hint_text, cause_text, view_text, held_text, state_text}
use Rattle.text_spelling.specs.Steps.{bits_text, pick_text, step_text}
use Rattle.text_spelling.specs.TraceLines.{fault_text, message_text, entry_line, line_text}
use Rattle.text_writer.proofs.OneLine.{append, known, number, name, space, words, dash, attr, called, view_line, held_line, state_line, reply_line}

server_number : (s : ServerId) → IsOneLine (decimal (number_of s))
server_number s = number (number_of s)

bits : (bs : List Bool) → IsOneLine (bits_text bs)
unfolding bits_text
bits [] = tt
bits (true ∷ bs) = (λ e. absurd (omega arith), bits bs)
bits (false ∷ bs) = (λ e. absurd (omega arith), bits bs)

pick_line : (p : Pick) → IsOneLine (pick_text p)
pick_line pick.All = known (codes "all") refl
pick_line pick.None = known (codes "none") refl
pick_line (pick.Bits bs) = bits bs

among_line : (among : Option (ServerId × ServerId)) → IsOneLine (codes "pump" ++ among_text among)
unfolding among_text
among_line None = known (codes "pump") refl
among_line (Some pair) =
    words (codes "pump") (pair_text pair ∷ []) (known (codes "pump") refl) (
      append (decimal (number_of pair.0)) (decimal (number_of pair.1)) (number (number_of pair.0))
          (number (number_of pair.1)),
      tt,
    )

pub step_line : (s : Step) → IsOneLine (step_text s)
unfolding step_text ask_head
step_line (step.Deliver packet) =
    words (codes "deliver") (decimal packet ∷ []) (known (codes "deliver") refl) (number packet, tt)
step_line (step.Pump among) = among_line among
step_line (step.Tick server) =
    words (codes "tick") (decimal (number_of server) ∷ []) (known (codes "tick") refl)
    (server_number server, tt)
step_line (step.Suspect server) =
    words (codes "suspect") (decimal (number_of server) ∷ []) (known (codes "suspect") refl)
    (server_number server, tt)
step_line (step.Flush server) =
    words (codes "flush") (decimal (number_of server) ∷ []) (known (codes "flush") refl)
    (server_number server, tt)
step_line (step.List server) =
    words (codes "list") (decimal (number_of server) ∷ []) (known (codes "list") refl)
    (server_number server, tt)
step_line (step.Boot server) =
    words (codes "boot") (decimal (number_of server) ∷ []) (known (codes "boot") refl)
    (server_number server, tt)
step_line (step.Apply server most) =
    words (codes "apply") (decimal (number_of server) ∷ decimal most ∷ [])
    (known (codes "apply") refl) (server_number server, (number most, tt))
step_line (step.Power server) =
    words (codes "power") (decimal (number_of server) ∷ codes "all" ∷ [])
    (known (codes "power") refl) (server_number server, (known (codes "all") refl, tt))
step_line (step.PowerCut server calls p) =
    words (codes "power") (decimal (number_of server) ∷ decimal calls ∷ pick_text p ∷ [])
    (known (codes "power") refl) (server_number server, (number calls, (pick_line p, tt)))
step_line (step.Crash server p) =
    words (codes "crash") (decimal (number_of server) ∷ pick_text p ∷ [])
    (known (codes "crash") refl) (server_number server, (pick_line p, tt))
step_line (step.Stop server calls p) =
    words (codes "stop") (decimal (number_of server) ∷ decimal calls ∷ pick_text p ∷ [])
    (known (codes "stop") refl) (server_number server, (number calls, (pick_line p, tt)))
step_line (step.Noise server bytes) =
    words (codes "noise") (decimal (number_of server) ∷ hex_text bytes ∷ [])
    (known (codes "noise") refl) (server_number server, (name bytes, tt))
step_line (step.Delta millis) =
    words (codes "delta") (decimal millis ∷ []) (known (codes "delta") refl) (number millis, tt)
step_line (step.Clock server reading) =
    words (codes "clock") (decimal (number_of server) ∷ decimal reading ∷ [])
    (known (codes "clock") refl) (number (number_of server), (number reading, tt))
step_line (step.Advance millis) =
    words (codes "advance") (decimal millis ∷ []) (known (codes "advance") refl) (number millis, tt)
step_line (step.Ask server c q cred asked) =
    called (ask_head server c q) cred asked
    (words (codes "ask") (decimal (number_of server) ∷ decimal c ∷ decimal q ∷ [])
    (known (codes "ask") refl)
    (number (number_of server), (number c, (number q, tt))))

hint_line : (h : Option ServerId) → IsOneLine (hint_text h)
hint_line None = dash
hint_line (Some server) = number (number_of server)

cause_line : (c : Cause) → IsOneLine (cause_text c)
cause_line cause.BadClient = known (codes "bad-client") refl
cause_line (cause.NotLeader hint) =
    words (codes "not-leader") (hint_text hint ∷ []) (known (codes "not-leader") refl)
    (hint_line hint, tt)
cause_line cause.NotYetOpen = known (codes "not-yet-open") refl
cause_line cause.NoPromise = known (codes "no-promise") refl
cause_line cause.LogFull = known (codes "log-full") refl
cause_line cause.Old = known (codes "old") refl

fault_line : (f : LineFault) → IsOneLine (fault_text f)
fault_line fault.Grammar = known (codes "grammar") refl
fault_line fault.TooLong = known (codes "too-long") refl
fault_line fault.TooMany = known (codes "too-many") refl
fault_line fault.NoPacket = known (codes "no-packet") refl
fault_line fault.ServerDown = known (codes "server-down") refl
fault_line fault.ServerUp = known (codes "server-up") refl
fault_line fault.ClockBack = known (codes "clock-back") refl
fault_line fault.ClockApart = known (codes "clock-apart") refl
fault_line fault.NoiseIsMessage = known (codes "noise-is-message") refl
fault_line fault.NetFull = known (codes "net-full") refl

message_line : (m : ShownMessage) → IsOneLine (message_text m)
unfolding message_text
message_line (message.Event view index cp base client q) =
    words (codes "event") (view_text view ∷ decimal index ∷ decimal cp ∷ decimal base
    ∷ decimal client ∷ decimal q ∷ []) (known (codes "event") refl)
    (view_line view, (number index, (number cp, (number base, (number client, (number q, tt))))))
message_line (message.Beat view cp base) =
    words (codes "beat") (view_text view ∷ decimal cp ∷ decimal base ∷ [])
    (known (codes "beat") refl) (view_line view, (number cp, (number base, tt)))
message_line (message.Ack view top lb until) =
    words (codes "ack") (view_text view ∷ decimal top ∷ decimal lb ∷ decimal until ∷ [])
    (known (codes "ack") refl)
    (view_line view, (number top, (number lb, (number until, tt))))
message_line (message.Invite view) =
    words (codes "invite") (view_text view ∷ []) (known (codes "invite") refl) (view_line view, tt)
message_line (message.Join view held accepted base lb cp top horizon) =
    append (joined view held accepted) (spaced (decimal base) ++ spaced (decimal lb)
    ++ spaced (decimal cp) ++ spaced (decimal top) ++ spaced (decimal horizon))
    (words (codes "join") (view_text view ∷ held_text held ∷ view_text accepted ∷ [])
    (known (codes "join") refl) (view_line view, (held_line held, (view_line accepted, tt))))
    (words (spaced (decimal base)) (decimal lb ∷ decimal cp ∷ decimal top ∷ decimal horizon ∷ [])
    (space (decimal base) (number base))
    (number lb, (number cp, (number top, (number horizon, tt)))))
  where
    joined : View → Held → View → List ℕ
    joined view held accepted = codes "join" ++ spaced (view_text view) ++ spaced (held_text held)
        ++ spaced (view_text accepted)
message_line (message.Form view leader partner source base cp start horizon) =
    append (formed view leader partner source) (spaced (decimal base) ++ spaced (decimal cp)
    ++ spaced (decimal start) ++ spaced (decimal horizon))
    (words (codes "form") (view_text view ∷ decimal (number_of leader)
    ∷ decimal (number_of partner) ∷ decimal (number_of source) ∷ []) (known (codes "form") refl)
    (view_line view, (server_number leader, (server_number partner, (server_number source, tt)))))
    (words (spaced (decimal base)) (decimal cp ∷ decimal start ∷ decimal horizon ∷ [])
    (space (decimal base) (number base)) (number cp, (number start, (number horizon, tt))))
  where
    formed : View → ServerId → ServerId → ServerId → List ℕ
    formed view leader partner source = codes "form" ++ spaced (view_text view)
        ++ spaced (decimal (number_of leader)) ++ spaced (decimal (number_of partner))
        ++ spaced (decimal (number_of source))
message_line (message.Fetch view first) =
    words (codes "fetch") (view_text view ∷ decimal first ∷ []) (known (codes "fetch") refl)
    (view_line view, (number first, tt))
message_line (message.Give view first records) =
    words (codes "give") (view_text view ∷ decimal first ∷ decimal records ∷ [])
    (known (codes "give") refl) (view_line view, (number first, (number records, tt)))
message_line (message.Formed view lb) =
    words (codes "formed") (view_text view ∷ decimal lb ∷ []) (known (codes "formed") refl)
    (view_line view, (number lb, tt))
message_line (message.Demote view) =
    words (codes "demote") (view_text view ∷ []) (known (codes "demote") refl) (view_line view, tt)

book_line : (e : BookEntry) → IsOneLine (entry_line e)
unfolding entry_line
book_line e =
    words (front e ++ cred_text e.cred ++ spaced (call_text e.call))
    (codes "=" ∷ reply_text e.reply ∷ [])
    (called (front e) e.cred e.call
    (words (spaced (decimal e.index)) (decimal e.client ∷ decimal e.number ∷ decimal e.stamp ∷ [])
    (space (decimal e.index) (number e.index))
    (number e.client, (number e.number, (number e.stamp, tt)))))
    (known (codes "=") refl, (reply_line e.reply, tt))
  where
    front : BookEntry → List ℕ
    front e =
        spaced (decimal e.index) ++ spaced (decimal e.client) ++ spaced (decimal e.number)
        ++ spaced (decimal e.stamp)

pub trace_line : (l : Line) → IsOneLine (line_text l)
unfolding line_text
trace_line (line.Event step) =
    words (codes ">") (step_text step ∷ []) (known (codes ">") refl) (step_line step, tt)
trace_line (line.Entered place entry) =
    append (codes "entered" ++ spaced (decimal place)) (entry_line entry)
    (words (codes "entered") (decimal place ∷ []) (known (codes "entered") refl)
    (number place, tt)) (book_line entry)
trace_line (line.Answered server c q index reply) =
    words (codes "answered") (decimal (number_of server) ∷ decimal c ∷ decimal q ∷ decimal index
    ∷ reply_text reply ∷ []) (known (codes "answered") refl)
    (number (number_of server), (number c, (number q, (number index, (reply_line reply, tt)))))
trace_line (line.Refused server c q cause) =
    words (codes "refused") (decimal (number_of server) ∷ decimal c ∷ decimal q ∷ cause_text cause
    ∷ []) (known (codes "refused") refl)
    (number (number_of server), (number c, (number q, (cause_line cause, tt))))
trace_line (line.Sent packet from to message) =
    words (codes "send") (decimal packet ∷ decimal (number_of from) ∷ decimal (number_of to)
    ∷ message_text message ∷ []) (known (codes "send") refl)
    (number packet, (number (number_of from), (number (number_of to), (message_line message, tt))))
trace_line (line.State server state) =
    words (codes "state") (decimal (number_of server) ∷ state_text state ∷ [])
    (known (codes "state") refl) (number (number_of server), (state_line state, tt))
trace_line (line.Bad place fault) =
    words (codes "bad") (decimal place ∷ fault_text fault ∷ []) (known (codes "bad") refl)
    (number place, (fault_line fault, tt))
trace_line (line.End entered) =
    words (codes "end") (decimal entered ∷ []) (known (codes "end") refl) (number entered, tt)
trace_line (line.Down server) =
    words (codes "state") (decimal (number_of server) ∷ codes "down" ∷ [])
    (known (codes "state") refl) (server_number server, (known (codes "down") refl, tt))
trace_line (line.Listed server cp objects) =
    words (codes "listed") (decimal (number_of server) ∷ decimal cp ∷ decimal objects ∷ [])
    (known (codes "listed") refl) (server_number server, (number cp, (number objects, tt)))
trace_line (line.Unlisted server) =
    words (codes "unlisted") (decimal (number_of server) ∷ []) (known (codes "unlisted") refl)
    (server_number server, tt)
trace_line (line.Object a) =
    words (codes "object") (attr_text a ∷ []) (known (codes "object") refl) (attr a, tt)
trace_line (line.Slot dir slot n bytes) =
    words (codes "slot") (decimal dir ∷ decimal slot ∷ decimal n ∷ hex_text bytes ∷ [])
    (known (codes "slot") refl) (number dir, (number slot, (number n, (name bytes, tt))))
trace_line (line.Block file block bytes) =
    words (codes "block") (decimal file ∷ decimal block ∷ hex_text bytes ∷ [])
    (known (codes "block") refl) (number file, (number block, (name bytes, tt)))
trace_line (line.Text link text) =
    words (codes "text") (decimal link ∷ hex_text text ∷ []) (known (codes "text") refl)
    (number link, (name text, tt))
