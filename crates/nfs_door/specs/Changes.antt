-- WHAT REAL CLIENTS MEAN by the arguments of a call, and what they read in the attributes of a
-- reply, where the door's rule leaves it open.
use Rattle.std.specs.Prelude.{ℕ, ◌*◌, ◌/◌, ◌%◌, ◌==◌, ◌&&◌, ◌||◌, min, not, nat_lt, Bool, false, Option, Some, None, option_map, if◌then◌else◌}
use Rattle.harp_types.specs.declared.attr.Attr.{Attr}
use Rattle.harp_types.specs.declared.attr.SetAttr.{SetAttr}
use Rattle.harp_types.specs.declared.attr.Time.{Time}
use Rattle.harp_types.specs.declared.call.Call.{Call}
use Rattle.harp_types.specs.declared.call.Call.TheVariants as call
use Rattle.harp_types.specs.declared.reply.Reply.{Reply}
use Rattle.harp_types.specs.declared.reply.Reply.TheVariants as reply
use Rattle.harp_types.specs.Limits.{field_left}

-- ---- times to set

-- a second has so many microseconds; a time with as many stands for now, and one with more is none.
-- One that is left as it is has any
abbrev pub time_meant : Time → Time → Option Time
time_meant now t =
    if t.seconds == field_left then Some t
    else (if t.micros == 1000000 then Some now
    else (if nat_lt 1000000 t.micros then None else Some t))

-- a time that isn't told
abbrev pub left_time : Time
left_time = record { seconds = field_left; micros = field_left }

-- a time that stands for now
abbrev pub is_now : Time → Bool
is_now t = not (t.seconds == field_left) && t.micros == 1000000

-- whoever may set a size isn't always one who may set times. So with a size the sign for now is left
-- out: the server sets when the file was changed
abbrev pub mtime_meant : Time → ℕ → Time → Option Time
mtime_meant now size t =
    if not (size == field_left) && is_now t then Some left_time else time_meant now t

abbrev pub with_times : SetAttr → Option Time → Option Time → Option SetAttr
with_times a None mtime = None
with_times a (Some atime) None = None
with_times a (Some atime) (Some mtime) =
    Some (record {
      mode = a.mode;
      uid = a.uid;
      gid = a.gid;
      size = a.size;
      atime = atime;
      mtime = mtime;
    })

abbrev pub attr_meant : Time → SetAttr → Option SetAttr
attr_meant now a = with_times a (time_meant now a.atime) (mtime_meant now a.size a.mtime)

-- THE CALL THAT IS MEANT, where its times are some
abbrev pub call_meant : Time → Call → Option Call
call_meant now (call.SetAttr h a) = option_map (λ b. call.SetAttr h b) (attr_meant now a)
call_meant now (call.Create d n a) = option_map (λ b. call.Create d n b) (attr_meant now a)
call_meant now (call.SymLink d n t a) = option_map (λ b. call.SymLink d n t b) (attr_meant now a)
call_meant now (call.MkDir d n a) = option_map (λ b. call.MkDir d n b) (attr_meant now a)
call_meant now c = Some c

-- ---- files of other types

-- the bits of a mode that tell the type (octal 170000): none, or those of a regular file (octal
-- 100000); or a mode that is left
abbrev pub is_regular : ℕ → Bool
is_regular mode = mode == field_left || (mode / 4096 % 16 == 0 || mode / 4096 % 16 == 8)

-- it would make a device, a pipe or a socket
abbrev pub makes_special : Call → Bool
makes_special (call.Create d n a) = not (is_regular a.mode)
makes_special c = false

-- ---- blocks

-- blocks of 4096 bytes, counted in 512 bytes
abbrev pub in_512 : Attr → Attr
in_512 a = record {
  kind = a.kind;
  mode = a.mode;
  links = a.links;
  uid = a.uid;
  gid = a.gid;
  size = a.size;
  blocks = min (8 * a.blocks) 4294967295;
  fileid = a.fileid;
  atime = a.atime;
  mtime = a.mtime;
  ctime = a.ctime;
}

-- THE REPLY AS IT IS TOLD
abbrev pub reply_told : Reply → Reply
reply_told (reply.Attr attr) = reply.Attr (in_512 attr)
reply_told (reply.Node handle attr) = reply.Node handle (in_512 attr)
reply_told (reply.Bytes attr bytes) = reply.Bytes (in_512 attr) bytes
reply_told r = r
