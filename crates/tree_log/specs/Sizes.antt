-- How long the record of an update is.
use Rattle.std.specs.Prelude.{◌≡◌, ◌≤◌, ℕ, true, List, [], ◌∷◌, ◌++◌, length}
use Rattle.harp_base.specs.Calls.{call_bytes}
use Rattle.harp_base.specs.Fields.{AllFit}
use Rattle.harp_types.specs.Limits.{block_size, longest_name}
use Rattle.harp_types.specs.Update.{is_update}
use Rattle.harp_cells.specs.declared.cell.Cell.TheVariants as cell
use Rattle.harp_cells.specs.declared.value.Value.{Value}
use Rattle.harp_cells.specs.declared.value.Value.TheVariants as value
use Rattle.harp_cells.specs.declared.change.Change.{Change}
use Rattle.harp_cells.specs.declared.change.Change.TheVariants as change
use Rattle.cell_changes.specs.Short.{AreShort}
use Rattle.nfs_calls.specs.Forms.{EndsWithTotals, IsReplyTo}
use Rattle.event_record.specs.declared.record.RecordFields.{RecordFields}
use Rattle.event_record.specs.Bytes.{record_bytes}

-- the most bytes of a record of an update
abbrev pub longest_made : ℕ
longest_made = 24000

-- A record of an update as it is planned over any cells: few changes of the tree, the last of which
-- puts the totals, and then its client's Put. The reply is a refusal, or of the update's form
pub record IsPlanned (r : RecordFields) : Type 0 where
  pub update : is_update r.call ≡ true
  pub form : IsReplyTo r.call r.reply
  pub tree : List Change
  pub short : AreShort 15 tree
  pub totals : EndsWithTotals r.stamp tree
  pub changes : r.changes ≡ tree
      ++ change.Put (cell.Client r.client) (value.Client r.number r.index r.reply) ∷ []

-- the most bytes of a call
abbrev pub longest_call : ℕ
longest_call = 8233

-- a block has at most 4,096 bytes, and a name in a directory at most 255
abbrev pub IsShortValue : Value → Type 0
IsShortValue (value.Block bytes) = length bytes ≤ block_size
IsShortValue (value.Slot object name) = length name ≤ longest_name
IsShortValue v = Unit {0}

abbrev pub IsShortChange : Change → Type 0
IsShortChange (change.Put c v) = IsShortValue v
IsShortChange c = Unit {0}

-- The call is short, and so are the blocks and the names that are put. The types of a record's
-- parts keep this
pub record HasShortParts (r : RecordFields) : Type 0 where
  pub call : length (call_bytes r.call) ≤ longest_call
  pub changes : AllFit IsShortChange r.changes

-- such a planned record has few bytes
abbrev pub PlannedAreShort : Type 0
PlannedAreShort = (r : RecordFields) → IsPlanned r → HasShortParts r
    → length (record_bytes r) ≤ longest_made
