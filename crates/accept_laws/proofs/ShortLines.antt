-- No line of a run is too long.
use Rattle.std.proofs.Common.{◌≡◌, ℕ, ◌+◌, ◌<◌, ◌≤◌, ◌^◌, Bool, List, [], ◌∷◌, ◌++◌, length, Option, Some, None, arith}
use Rattle.std.specs.Prelude.{codes, decimal}
use Rattle.std.proofs.lemmas.List.{length-append}
use Rattle.harp_types.specs.View.{View}
use Rattle.harp_types.specs.declared.call.Call.{Call}
use Rattle.harp_types.specs.declared.call.Call.TheVariants as call
use Rattle.harp_types.specs.declared.reply.Reply.{Reply}
use Rattle.harp_types.specs.declared.server.ServerId.{ServerId}
use Rattle.harp_types.specs.declared.state.Held.{Held}
use Rattle.harp_types.specs.declared.state.Held.TheVariants as held
use Rattle.harp_types.specs.declared.state.Mode.{Mode}
use Rattle.harp_types.specs.declared.state.Mode.TheVariants as mode
use Rattle.harp_types.specs.declared.state.Role.{Role}
use Rattle.harp_types.specs.declared.state.Role.TheVariants as role
use Rattle.harp_types.specs.declared.state.StateLine.{StateLine}
use Rattle.harp_types.specs.declared.cause.Cause.{Cause}
use Rattle.harp_types.specs.declared.cause.Cause.TheVariants as cause
use Rattle.harp_types.specs.declared.book.BookEntry.{BookEntry}
use Rattle.trace_types.specs.declared.line.Line.{Line}
use Rattle.trace_types.specs.declared.line.Line.TheVariants as line
use Rattle.trace_types.specs.declared.line.LineFault.{LineFault}
use Rattle.trace_types.specs.declared.line.LineFault.TheVariants as fault
use Rattle.trace_types.specs.declared.line.ShownMessage.{ShownMessage}
use Rattle.trace_types.specs.declared.line.ShownMessage.TheVariants as message
use Rattle.text_spelling.specs.Text.{call_text, reply_text}
use Rattle.text_spelling.specs.Lines.{cause_text, held_text, hint_text, mode_text, role_text, state_text, view_text}
use Rattle.text_spelling.specs.TraceLines.{entry_line, fault_text, line_text, message_text}
use Rattle.trace_text.specs.Fits.{IsCount, LineFits, MessageFits, StateFits, ViewFits}
use Rattle.trace_text.specs.Fits.{EntryLineFits}
use Rattle.text_spelling.specs.Fits.{CallFits}
use Rattle.accept_laws.specs.Replies.{AnswersBriefly, ReplyWithin}
use Rattle.accept_laws.specs.Laws.{LineIn}
use Rattle.accept_laws.proofs.Texts.{brief_reply, short_attr, short_call, short_count, short_cred, short_hex, short_list, short_number, short_read, short_reply, short_server}

abbrev pub IsShort : Line → Type 0
IsShort l = length (line_text l) ≤ 20000

-- ---- a call and its reply

pub short_both : (c : Call) (r : Reply) → CallFits c → ReplyWithin r → AnswersBriefly c r
    → length (call_text c) + length (reply_text r) ≤ 18900
short_both (call.Read handle offset count) r f h b =
    let a = short_read handle offset count f in
    let z = short_reply r h in
    omega (arith, a, z)
short_both (call.ReadDir dir cookie count) r f h b =
    let a = short_list dir cookie count f in
    let z = short_reply r h in
    omega (arith, a, z)
short_both c r f h b =
    let a = short_call c f in
    let z = brief_reply r h b in
    omega (arith, a, z)

pub short_entered : (place : ℕ) (e : BookEntry) → IsCount place → EntryLineFits e
    → ReplyWithin e.reply → AnswersBriefly e.call e.reply → IsShort (line.Entered place e)
unfolding line_text entry_line
short_entered place e p f h b =
    let n = short_count place p in
    let i = short_count e.index f.index in
    let c = short_number e.client f.client in
    let k = short_count e.number f.number in
    let s = short_count e.stamp f.stamp in
    let u = short_cred e.cred f.cred in
    let both = short_both e.call e.reply f.call h b in
    simp length-append (omega (arith, n, i, c, k, s, u, both))

pub short_answered : (server : ServerId) (client number index : ℕ) (r : Reply) → client < 2 ^ 32
    → IsCount number → IsCount index → ReplyWithin r
    → IsShort (line.Answered server client number index r)
unfolding line_text
short_answered server client number index r c n i h =
    let s = short_server server in
    let a = short_number client c in
    let b = short_count number n in
    let d = short_count index i in
    let z = short_reply r h in
    simp length-append (omega (arith, s, a, b, d, z))

-- ---- messages and states

short_view : (v : View) → ViewFits v → length (view_text v) ≤ 29
unfolding view_text
short_view v f =
    let a = short_count v.count f in
    let b = short_server v.coordinator in
    simp length-append (omega (arith, a, b))

short_held : (h : Held) → length (held_text h) ≤ 10
short_held held.Empty = omega arith
short_held held.Held = omega arith
short_held held.Lost = omega arith

short_message : (m : ShownMessage) → MessageFits m → length (message_text m) ≤ 400
unfolding message_text
short_message (message.Invite view) f =
    let v = short_view view f in simp length-append (omega (arith, v))
short_message (message.Join view held' accepted base lb cp top horizon) f =
    let v = short_view view f.0 in
    let w = short_view accepted f.1 in
    let h = short_held held' in
    let a = short_count base f.2 in
    let b = short_count lb f.3 in
    let c = short_count cp f.4 in
    let d = short_count top f.5 in
    let e = short_count horizon f.6 in
    simp length-append (omega (arith, v, w, h, a, b, c, d, e))
short_message (message.Form view leader partner source base cp start horizon) f =
    let v = short_view view f.0 in
    let l = short_server leader in
    let p = short_server partner in
    let s = short_server source in
    let a = short_count base f.2 in
    let b = short_count cp f.3 in
    let c = short_count start f.4 in
    let d = short_count horizon f.5 in
    simp length-append (omega (arith, v, l, p, s, a, b, c, d))
short_message (message.Fetch view first) f =
    let v = short_view view f.0 in
    let a = short_count first f.1 in
    simp length-append (omega (arith, v, a))
short_message (message.Give view first records) f =
    let v = short_view view f.0 in
    let a = short_count first f.1 in
    let few = f.3 in
    let b = short_count records (omega (arith, few)) in
    simp length-append (omega (arith, v, a, b))
short_message (message.Formed view lb) f =
    let v = short_view view f.0 in
    let a = short_count lb f.1 in
    simp length-append (omega (arith, v, a))
short_message (message.Event view index cp base client number) f =
    let v = short_view view f.0 in
    let a = short_count index f.2 in
    let b = short_count cp f.3 in
    let c = short_count base f.4 in
    let d = short_number client f.5 in
    let e = short_count number f.6 in
    simp length-append (omega (arith, v, a, b, c, d, e))
short_message (message.Beat view cp base) f =
    let v = short_view view f.0 in
    let a = short_count cp f.1 in
    let b = short_count base f.2 in
    simp length-append (omega (arith, v, a, b))
short_message (message.Ack view top lb until) f =
    let v = short_view view f.0 in
    let a = short_count top f.1 in
    let b = short_count lb f.2 in
    let c = short_count until f.3 in
    simp length-append (omega (arith, v, a, b, c))
short_message (message.Demote view) f =
    let v = short_view view f in simp length-append (omega (arith, v))

short_mode : (m : Mode) → length (mode_text m) ≤ 10
short_mode mode.Rests = omega arith
short_mode mode.Calls = omega arith
short_mode mode.Joined = omega arith
short_mode mode.Pulls = omega arith
short_mode mode.Waits = omega arith
short_mode mode.Open = omega arith
short_mode mode.Live = omega arith

short_role : (r : Role) → length (role_text r) ≤ 30
short_role (role.Leads partner) =
    let s = short_server partner in simp length-append (omega (arith, s))
short_role (role.Follows leader) =
    let s = short_server leader in simp length-append (omega (arith, s))
short_role role.Outside = omega arith

short_state : (s : StateLine) → StateFits s → length (state_text s) ≤ 400
unfolding state_text
short_state s f =
    let m = short_mode s.mode in
    let v = short_view s.promised f.promised in
    let w = short_view s.accepted f.accepted in
    let r = short_role s.role in
    let h = short_held s.held in
    let a = short_count s.base f.base in
    let b = short_count s.lb f.lb in
    let c = short_count s.ap f.ap in
    let d = short_count s.cp f.cp in
    let e = short_count s.top f.top in
    simp length-append (omega (arith, m, v, w, r, h, a, b, c, d, e))

short_hint : (h : Option ServerId) → length (hint_text h) ≤ 10
short_hint None = omega arith
short_hint (Some server) = short_server server

short_cause : (c : Cause) → length (cause_text c) ≤ 40
short_cause cause.BadClient = omega arith
short_cause (cause.NotLeader hint) =
    let h = short_hint hint in simp length-append (omega (arith, h))
short_cause cause.NotYetOpen = omega arith
short_cause cause.NoPromise = omega arith
short_cause cause.LogFull = omega arith
short_cause cause.Old = omega arith

short_fault : (f : LineFault) → length (fault_text f) ≤ 40
short_fault fault.Grammar = omega arith
short_fault fault.TooLong = omega arith
short_fault fault.TooMany = omega arith
short_fault fault.NoPacket = omega arith
short_fault fault.ServerDown = omega arith
short_fault fault.ServerUp = omega arith
short_fault fault.ClockBack = omega arith
short_fault fault.ClockApart = omega arith
short_fault fault.NoiseIsMessage = omega arith
short_fault fault.NetFull = omega arith

-- ---- lines

-- neither a step nor a reply
abbrev pub IsNoReply : Line → Type 0
IsNoReply (line.Event step) = ⊥
IsNoReply (line.Entered place e) = ⊥
IsNoReply (line.Answered server client number index r) = ⊥
IsNoReply l = Unit {0}

pub short_line : (l : Line) → IsNoReply l → LineFits l → IsShort l
unfolding line_text
short_line (line.Event step) n f = absurd n
short_line (line.Entered place e) n f = absurd n
short_line (line.Answered server client number index r) n f = absurd n
short_line (line.Refused server client number cause') n f =
    let s = short_server server in
    let a = short_number client f.0 in
    let b = short_count number f.1 in
    let c = short_cause cause' in
    simp length-append (omega (arith, s, a, b, c))
short_line (line.Sent packet from to m) n f =
    let a = short_count packet f.0 in
    let b = short_server from in
    let c = short_server to in
    let d = short_message m f.1 in
    simp length-append (omega (arith, a, b, c, d))
short_line (line.State server state) n f =
    let s = short_server server in
    let t = short_state state f in
    simp length-append (omega (arith, s, t))
short_line (line.Down server) n f =
    let s = short_server server in simp length-append (omega (arith, s))
short_line (line.Listed server cp objects) n f =
    let s = short_server server in
    let a = short_count cp f.0 in
    let b = short_count objects f.1 in
    simp length-append (omega (arith, s, a, b))
short_line (line.Unlisted server) n f =
    let s = short_server server in simp length-append (omega (arith, s))
short_line (line.Object attr) n f =
    let a = short_attr attr f in simp length-append (omega (arith, a))
short_line (line.Slot dir slot number name) n f =
    let a = short_number dir f.0 in
    let b = short_number slot f.1 in
    let c = short_number number f.2 in
    let d = short_hex name in
    let few = f.3.0.few in
    simp length-append (omega (arith, a, b, c, d, few))
short_line (line.Block file block bytes) n f =
    let a = short_number file f.0 in
    let b = short_number block f.1 in
    let d = short_hex bytes in
    let few = f.2.0.few in
    simp length-append (omega (arith, a, b, d, few))
short_line (line.Text link text) n f =
    let a = short_number link f.0 in
    let d = short_hex text in
    let few = f.1.few in
    simp length-append (omega (arith, a, d, few))
short_line (line.Bad place fault') n f =
    let a = short_count place f in
    let b = short_fault fault' in
    simp length-append (omega (arith, a, b))
short_line (line.End entered) n f =
    let a = short_count entered f in simp length-append (omega (arith, a))

pub lined : (l : Line) → IsNoReply l → LineFits l → LineIn l
lined l n f = (f, short_line l n f)
