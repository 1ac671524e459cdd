-- Replies of calls whose fields have the bounds of lines.
use Rattle.std.specs.Prelude.{ℕ, ◌+◌, ◌<◌, ◌≤◌, ◌^◌, List, [], ◌∷◌, length}
use Rattle.harp_base.specs.Attributes.{AttrFits}
use Rattle.harp_types.specs.declared.call.Call.{Call}
use Rattle.harp_types.specs.declared.call.Call.TheVariants as call
use Rattle.harp_types.specs.declared.cred.Cred.{Cred}
use Rattle.harp_types.specs.declared.reply.DirEntry.{DirEntry}
use Rattle.harp_types.specs.declared.reply.Reply.{Reply}
use Rattle.harp_types.specs.declared.reply.Reply.TheVariants as reply
use Rattle.text_spelling.specs.Fits.{CallFits, CredFits}
use Rattle.file_tree.specs.Calls.{outcome}
use Rattle.file_tree.specs.Outcome.{entry_size}
use Rattle.file_tree.specs.Sound.{IsSound}
use Rattle.file_tree.specs.Tree.{Tree}
use Rattle.accept_laws.specs.Trees.{AreOctets, TreeFits}

pub record DirEntryFits (e : DirEntry) : Type 0 where
  pub fileid : e.fileid < 2 ^ 32
  pub few : length e.name ≤ 255
  pub octets : AreOctets e.name
  pub cookie : e.cookie < 2 ^ 32

-- entries that fit, and that take at most so much room of a page
abbrev pub PageFits : ℕ → List DirEntry → Type 0
PageFits most [] = Unit {0}
PageFits most (e ∷ es) =
    DirEntryFits e × (rest : ℕ) × (entry_size e + rest ≤ most) × PageFits rest es

-- a reply whose attributes, names and bytes fit
abbrev pub ReplyWithin : Reply → Type 0
ReplyWithin (reply.Refused status) = Unit {0}
ReplyWithin reply.Done = Unit {0}
ReplyWithin (reply.Attr attr) = AttrFits attr
ReplyWithin (reply.Node handle attr) = (handle < 2 ^ 32) × AttrFits attr
ReplyWithin (reply.Path text) = (length text ≤ 1024) × AreOctets text
ReplyWithin (reply.Bytes attr bytes) = AttrFits attr × (length bytes ≤ 8192) × AreOctets bytes
ReplyWithin (reply.Page entries eof) = PageFits 8192 entries
ReplyWithin (reply.Space transfer block blocks free available) =
    (transfer < 2 ^ 32) × (block < 2 ^ 32) × (blocks < 2 ^ 32) × (free < 2 ^ 32)
    × (available < 2 ^ 32)

-- a reply without bytes of a file or a page
abbrev pub IsBrief : Reply → Type 0
IsBrief (reply.Bytes attr bytes) = ⊥
IsBrief (reply.Page entries eof) = ⊥
IsBrief r = Unit {0}

-- READ and READDIR alone have another
abbrev pub AnswersBriefly : Call → Reply → Type 0
AnswersBriefly (call.Read handle offset count) r = Unit {0}
AnswersBriefly (call.ReadDir dir cookie count) r = Unit {0}
AnswersBriefly c r = IsBrief r

-- a call that a schedule can spell leaves a tree that fits, and its reply fits
abbrev pub CallsKeepFits : Type 0
CallsKeepFits = (tree : Tree) (cred : Cred) (call : Call) (stamp : ℕ) → IsSound tree
    → TreeFits tree → CredFits cred → CallFits call
    → TreeFits (outcome tree cred call stamp).1 × ReplyWithin (outcome tree cred call stamp).0
    × AnswersBriefly call (outcome tree cred call stamp).0
