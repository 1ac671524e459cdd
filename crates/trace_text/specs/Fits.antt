-- Lines of traces that have a spelling.
use Rattle.std.specs.Prelude.{ℕ, ◌<◌, ◌≤◌, ◌^◌, List, length}
use Rattle.harp_types.specs.View.{View}
use Rattle.harp_types.specs.Server.{number_of}
use Rattle.harp_base.specs.Attributes.{AttrFits}
use Rattle.harp_base.specs.Fields.{AllFit}
use Rattle.harp_types.specs.declared.reply.DirEntry.{DirEntry}
use Rattle.harp_types.specs.declared.reply.Reply.{Reply}
use Rattle.harp_types.specs.declared.reply.Reply.TheVariants as reply
use Rattle.harp_types.specs.declared.state.StateLine.{StateLine}
use Rattle.trace_types.specs.declared.step.Step.{Step}
use Rattle.trace_types.specs.declared.step.Step.TheVariants as step
use Rattle.harp_types.specs.declared.book.BookEntry.{BookEntry}
use Rattle.trace_types.specs.declared.line.ShownMessage.{ShownMessage}
use Rattle.trace_types.specs.declared.line.ShownMessage.TheVariants as message
use Rattle.trace_types.specs.declared.line.Line.{Line}
use Rattle.trace_types.specs.declared.line.Line.TheVariants as line
use Rattle.text_spelling.specs.Fits.{AreBytes, CallFits, CredFits}
use Rattle.text_spelling.specs.StepFits.{StepFits}

-- a number of at most 18 digits
abbrev pub IsCount : ℕ → Type 0
IsCount n = n < 10 ^ 18

abbrev pub ViewFits : View → Type 0
ViewFits v = IsCount v.count

-- from one byte on to so many
abbrev pub AreSomeBytes : ℕ → List ℕ → Type 0
AreSomeBytes most bytes = AreBytes most bytes × (1 ≤ length bytes)

-- ---- replies

abbrev pub EntryFits : DirEntry → Type 0
EntryFits e = ((e.fileid < 2 ^ 32) × AreBytes 255 e.name) × (e.cookie < 2 ^ 32)

abbrev pub EntriesFit : List DirEntry → Type 0
EntriesFit entries = (length entries < 2 ^ 16) × AllFit EntryFits entries

abbrev pub ReplyFits : Reply → Type 0
ReplyFits (reply.Refused status) = Unit {0}
ReplyFits reply.Done = Unit {0}
ReplyFits (reply.Attr attr) = AttrFits attr
ReplyFits (reply.Node handle attr) = (handle < 2 ^ 32) × AttrFits attr
ReplyFits (reply.Path text) = AreBytes 1024 text
ReplyFits (reply.Bytes attr bytes) = AttrFits attr × AreBytes 8192 bytes
ReplyFits (reply.Page entries eof) = EntriesFit entries
ReplyFits (reply.Space transfer block blocks free available) =
    (transfer < 2 ^ 32) × (block < 2 ^ 32) × (blocks < 2 ^ 32) × (free < 2 ^ 32)
    × (available < 2 ^ 32)

-- ---- messages

abbrev pub MessageFits : ShownMessage → Type 0
MessageFits (message.Invite view) = ViewFits view
MessageFits (message.Join view _ accepted base lb cp top horizon) =
    ViewFits view × ViewFits accepted × IsCount base × IsCount lb × IsCount cp × IsCount top
    × IsCount horizon
MessageFits (message.Form view leader partner source base cp start horizon) =
    ViewFits view × (number_of leader < number_of partner) × IsCount base × IsCount cp
    × IsCount start × IsCount horizon
MessageFits (message.Fetch view first) = ViewFits view × IsCount first
MessageFits (message.Give view first records) =
    ViewFits view × IsCount first × (1 ≤ records) × (records < 2 ^ 16)
MessageFits (message.Formed view lb) = ViewFits view × IsCount lb
MessageFits (message.Event view index cp base client number) =
    ViewFits view × (1 ≤ index) × IsCount index × IsCount cp × IsCount base × (client < 2 ^ 32)
    × IsCount number
MessageFits (message.Beat view cp base) = ViewFits view × IsCount cp × IsCount base
MessageFits (message.Ack view top lb until) =
    ViewFits view × IsCount top × IsCount lb × IsCount until
MessageFits (message.Demote view) = ViewFits view

-- ---- lines

abbrev pub IsElementary : Step → Type 0
IsElementary (step.Pump among) = ⊥
IsElementary s = Unit {0}

pub record StateFits (s : StateLine) : Type 0 where
  pub promised : ViewFits s.promised
  pub accepted : ViewFits s.accepted
  pub base : IsCount s.base
  pub lb : IsCount s.lb
  pub ap : IsCount s.ap
  pub cp : IsCount s.cp
  pub top : IsCount s.top

pub record EntryLineFits (e : BookEntry) : Type 0 where
  pub index : IsCount e.index
  pub client : e.client < 2 ^ 32
  pub number : IsCount e.number
  pub stamp : IsCount e.stamp
  pub cred : CredFits e.cred
  pub call : CallFits e.call
  pub reply : ReplyFits e.reply

abbrev pub LineFits : Line → Type 0
LineFits (line.Event step) = StepFits step × IsElementary step
LineFits (line.Entered place entry) = IsCount place × EntryLineFits entry
LineFits (line.Answered server client number index reply) =
    (client < 2 ^ 32) × IsCount number × IsCount index × ReplyFits reply
LineFits (line.Refused server client number cause) = (client < 2 ^ 32) × IsCount number
LineFits (line.Sent packet from to message) = IsCount packet × MessageFits message
LineFits (line.State server state) = StateFits state
LineFits (line.Down server) = Unit {0}
LineFits (line.Listed server cp objects) = IsCount cp × IsCount objects
LineFits (line.Unlisted server) = Unit {0}
LineFits (line.Object attr) = AttrFits attr
LineFits (line.Slot dir slot number name) =
    (dir < 2 ^ 32) × (slot < 2 ^ 32) × (number < 2 ^ 32) × AreSomeBytes 255 name
LineFits (line.Block file block bytes) =
    (file < 2 ^ 32) × (block < 2 ^ 32) × AreSomeBytes 4096 bytes
LineFits (line.Text link text) = (link < 2 ^ 32) × AreBytes 1024 text
LineFits (line.Bad place fault) = IsCount place
LineFits (line.End entered) = IsCount entered
