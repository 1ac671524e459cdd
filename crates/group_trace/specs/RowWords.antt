-- Words of the worked rows.
use Rattle.std.specs.Prelude.{ℕ, false}
use Rattle.harp_types.specs.View.{View}
use Rattle.harp_types.specs.declared.attr.Attr.{Attr}
use Rattle.harp_types.specs.declared.attr.Kind.TheVariants as kind
use Rattle.harp_types.specs.declared.attr.SetAttr.{SetAttr}
use Rattle.harp_types.specs.declared.attr.Time.{Time}
use Rattle.harp_types.specs.declared.call.Call.{Call}
use Rattle.harp_types.specs.declared.cred.TheConstants.{SUPERUSER}
use Rattle.harp_types.specs.declared.reply.Reply.{Reply}
use Rattle.harp_types.specs.declared.server.ServerId.{ServerId}
use Rattle.harp_types.specs.declared.server.ServerId.TheVariants as server
use Rattle.harp_types.specs.declared.state.Held.{Held}
use Rattle.harp_types.specs.declared.state.Mode.{Mode}
use Rattle.harp_types.specs.declared.state.Role.{Role}
use Rattle.harp_types.specs.declared.book.BookEntry.{BookEntry}
use Rattle.trace_types.specs.declared.line.Line.{Line}
use Rattle.trace_types.specs.declared.line.Line.TheVariants as line
use Rattle.group_trace.specs.Scene.{Measures}

-- records of 100 bytes with five changes, messages of 100 bytes, and no bytes that are one
abbrev pub plain_measures : Measures
plain_measures = record {
  size = λ before e. 100;
  changes = λ before e. 5;
  bytes = λ list m. 100;
  is_message = λ bytes. false;
}

-- a field that is left
abbrev pub left : ℕ
left = 4294967295

-- a time that is left
abbrev pub left_time : Time
left_time = record { seconds = left; micros = left }

-- a mode alone is given
abbrev pub mode_755 : SetAttr
mode_755 = record {
  mode = 493;
  uid = left;
  gid = left;
  size = left;
  atime = left_time;
  mtime = left_time;
}

-- a view by its count and coordinator
abbrev pub view : ℕ → ServerId → View
view count coordinator = record { count = count; coordinator = coordinator }

-- view 0.0
abbrev pub view_zero : View
view_zero = record { count = 0; coordinator = server.Zero }

-- view 1.0
abbrev pub view_one : View
view_one = record { count = 1; coordinator = server.Zero }

-- a time by its seconds and microseconds
abbrev pub time : ℕ → ℕ → Time
time seconds micros = record { seconds = seconds; micros = micros }

-- a directory of user and group 0
abbrev pub directory : ℕ → ℕ → ℕ → ℕ → ℕ → Time → Time → Time → Attr
directory mode links size blocks fileid atime mtime ctime = record {
  kind = kind.Directory;
  mode = mode;
  links = links;
  uid = 0;
  gid = 0;
  size = size;
  blocks = blocks;
  fileid = fileid;
  atime = atime;
  mtime = mtime;
  ctime = ctime;
}

-- an entry that a superuser asked for
abbrev pub entry : ℕ → ℕ → ℕ → ℕ → Call → Reply → BookEntry
entry index client number stamp call reply = record {
  index = index;
  client = client;
  number = number;
  cred = SUPERUSER;
  stamp = stamp;
  call = call;
  reply = reply;
}

-- a server's state line
abbrev pub state : ServerId → Mode → View → View → Role → Held → ℕ → ℕ → ℕ → ℕ → ℕ → Line
state s mode promised accepted role held base lb ap cp top = line.State s (record {
  mode = mode;
  promised = promised;
  accepted = accepted;
  role = role;
  held = held;
  base = base;
  lb = lb;
  ap = ap;
  cp = cp;
  top = top;
})
