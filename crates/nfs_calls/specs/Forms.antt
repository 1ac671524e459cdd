-- What stands in every reply and in every list of changes, over any cells.
use Rattle.std.specs.Prelude.{◌≡◌, ◌⊎◌, ℕ, List, [], ◌∷◌, ◌++◌}
use Rattle.harp_types.specs.declared.call.Call.{Call}
use Rattle.harp_types.specs.declared.call.Call.TheVariants as call
use Rattle.harp_types.specs.declared.reply.Reply.{Reply}
use Rattle.harp_base.specs.Replies.{form_of, form_number}
use Rattle.harp_cells.specs.declared.cell.Cell.TheVariants as cell
use Rattle.harp_cells.specs.declared.change.Change.{Change}
use Rattle.harp_cells.specs.declared.change.Change.TheVariants as change
use Rattle.harp_cells.specs.declared.value.Value.TheVariants as value
use Rattle.nfs_calls.specs.declared.parts.totals.Totals.{Totals}

-- the form of a reply, by its number in messages
abbrev pub form : Reply → ℕ
form r = form_number (form_of r)

abbrev pub refused_form : ℕ
refused_form = 0

abbrev pub done_form : ℕ
done_form = 1

abbrev pub attr_form : ℕ
attr_form = 2

abbrev pub node_form : ℕ
node_form = 3

abbrev pub path_form : ℕ
path_form = 4

abbrev pub bytes_form : ℕ
bytes_form = 5

abbrev pub page_form : ℕ
page_form = 6

abbrev pub space_form : ℕ
space_form = 7

-- the form of the reply to a call that isn't refused
abbrev pub form_given : Call → ℕ
form_given call.Null = done_form
form_given (call.GetAttr handle) = attr_form
form_given (call.SetAttr handle attr) = attr_form
form_given (call.Lookup dir name) = node_form
form_given (call.ReadLink handle) = path_form
form_given (call.Read handle offset count) = bytes_form
form_given (call.Write handle offset bytes) = attr_form
form_given (call.Create dir name attr) = node_form
form_given (call.Remove dir name) = done_form
form_given (call.Rename dir name to_dir to_name) = done_form
form_given (call.Link handle dir name) = done_form
form_given (call.SymLink dir name text attr) = done_form
form_given (call.MkDir dir name attr) = node_form
form_given (call.RmDir dir name) = done_form
form_given (call.ReadDir dir cookie count) = page_form
form_given (call.StatFs handle) = space_form

-- a reply that a call can get: a refusal, or what it gives
abbrev pub IsReplyTo : Call → Reply → Type 0
IsReplyTo c r = (form r ≡ refused_form) ⊎ (form r ≡ form_given c)

-- the last of these changes puts the totals of the tree, with the stamp of its last update
pub record EndsWithTotals (stamp : ℕ) (changes : List Change) : Type 0 where
  pub before : List Change
  pub totals : Totals
  pub ends : changes ≡ before ++ change.Put cell.Meta (value.Meta totals.next totals.used stamp)
      ∷ []
