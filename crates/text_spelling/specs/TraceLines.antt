-- The one spelling of each line of a trace, without its line end.
use Rattle.std.specs.Prelude.{ℕ, List, ◌++◌, codes, decimal}
use Rattle.harp_types.specs.Server.{number_of}
use Rattle.harp_types.specs.declared.book.BookEntry.{BookEntry}
use Rattle.trace_types.specs.declared.line.LineFault.{LineFault}
use Rattle.trace_types.specs.declared.line.LineFault.TheVariants as fault
use Rattle.trace_types.specs.declared.line.ShownMessage.{ShownMessage}
use Rattle.trace_types.specs.declared.line.ShownMessage.TheVariants as message
use Rattle.trace_types.specs.declared.line.Line.{Line}
use Rattle.trace_types.specs.declared.line.Line.TheVariants as line
use Rattle.text_spelling.specs.Text.{spaced, hex_text, call_text, cred_text, reply_text, attr_text}
use Rattle.text_spelling.specs.Lines.{cause_text, view_text, held_text, state_text}
use Rattle.text_spelling.specs.Steps.{server_text, step_text}

abbrev pub fault_text : LineFault → List ℕ
fault_text fault.Grammar = codes "grammar"
fault_text fault.TooLong = codes "too-long"
fault_text fault.TooMany = codes "too-many"
fault_text fault.NoPacket = codes "no-packet"
fault_text fault.ServerDown = codes "server-down"
fault_text fault.ServerUp = codes "server-up"
fault_text fault.ClockBack = codes "clock-back"
fault_text fault.ClockApart = codes "clock-apart"
fault_text fault.NoiseIsMessage = codes "noise-is-message"
fault_text fault.NetFull = codes "net-full"

-- a message's name, its view, and its fields
unfoldable pub message_text : ShownMessage → List ℕ
message_text (message.Invite view) = codes "invite" ++ spaced (view_text view)
message_text (message.Join view held accepted base lb cp top horizon) =
    codes "join" ++ spaced (view_text view) ++ spaced (held_text held)
    ++ spaced (view_text accepted) ++ (spaced (decimal base) ++ spaced (decimal lb)
    ++ spaced (decimal cp) ++ spaced (decimal top) ++ spaced (decimal horizon))
message_text (message.Form view leader partner source base cp start horizon) =
    codes "form" ++ spaced (view_text view) ++ server_text leader ++ server_text partner
    ++ server_text source ++ (spaced (decimal base) ++ spaced (decimal cp)
    ++ spaced (decimal start) ++ spaced (decimal horizon))
message_text (message.Fetch view first) =
    codes "fetch" ++ spaced (view_text view) ++ spaced (decimal first)
message_text (message.Give view first records) =
    codes "give" ++ spaced (view_text view) ++ spaced (decimal first) ++ spaced (decimal records)
message_text (message.Formed view lb) =
    codes "formed" ++ spaced (view_text view) ++ spaced (decimal lb)
message_text (message.Event view index cp base client number) =
    codes "event" ++ spaced (view_text view) ++ spaced (decimal index) ++ spaced (decimal cp)
    ++ spaced (decimal base) ++ spaced (decimal client) ++ spaced (decimal number)
message_text (message.Beat view cp base) =
    codes "beat" ++ spaced (view_text view) ++ spaced (decimal cp) ++ spaced (decimal base)
message_text (message.Ack view top lb until) =
    codes "ack" ++ spaced (view_text view) ++ spaced (decimal top) ++ spaced (decimal lb)
    ++ spaced (decimal until)
message_text (message.Demote view) = codes "demote" ++ spaced (view_text view)

-- index, client, number, stamp, credential and call, and behind `=` the reply
unfoldable pub entry_line : BookEntry → List ℕ
entry_line e =
    spaced (decimal e.index) ++ spaced (decimal e.client) ++ spaced (decimal e.number)
    ++ spaced (decimal e.stamp) ++ cred_text e.cred ++ spaced (call_text e.call)
    ++ spaced (codes "=") ++ spaced (reply_text e.reply)

unfoldable pub line_text : Line → List ℕ
line_text (line.Event step) = codes ">" ++ spaced (step_text step)
line_text (line.Entered place entry) = codes "entered" ++ spaced (decimal place) ++ entry_line entry
line_text (line.Answered server client number index reply) =
    codes "answered" ++ server_text server ++ spaced (decimal client) ++ spaced (decimal number)
    ++ spaced (decimal index) ++ spaced (reply_text reply)
line_text (line.Refused server client number cause) =
    codes "refused" ++ server_text server ++ spaced (decimal client) ++ spaced (decimal number)
    ++ spaced (cause_text cause)
line_text (line.Sent packet from to message) =
    codes "send" ++ spaced (decimal packet) ++ server_text from ++ server_text to
    ++ spaced (message_text message)
line_text (line.State server state) =
    codes "state" ++ server_text server ++ spaced (state_text state)
line_text (line.Down server) = codes "state" ++ server_text server ++ spaced (codes "down")
line_text (line.Listed server cp objects) =
    codes "listed" ++ server_text server ++ spaced (decimal cp) ++ spaced (decimal objects)
line_text (line.Unlisted server) = codes "unlisted" ++ server_text server
line_text (line.Object attr) = codes "object" ++ spaced (attr_text attr)
line_text (line.Slot dir slot number name) =
    codes "slot" ++ spaced (decimal dir) ++ spaced (decimal slot) ++ spaced (decimal number)
    ++ spaced (hex_text name)
line_text (line.Block file block bytes) =
    codes "block" ++ spaced (decimal file) ++ spaced (decimal block) ++ spaced (hex_text bytes)
line_text (line.Text link text) = codes "text" ++ spaced (decimal link) ++ spaced (hex_text text)
line_text (line.Bad place fault) =
    codes "bad" ++ spaced (decimal place) ++ spaced (fault_text fault)
line_text (line.End entered) = codes "end" ++ spaced (decimal entered)
