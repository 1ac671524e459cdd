-- What a boot makes of a disk, and what the server is then.
use Rattle.std.specs.Prelude.{◌≡◌, ◌⊎◌, ◌<◌, ◌^◌, ℕ, ◌+◌, Bool, true, false, List, [], length, OnErr, OnOk, Option, Result, None, Some, IfSome, max, nat_le, if◌then◌else◌}
use Rattle.event_record.specs.declared.record.RecordFields.{RecordFields}
use Rattle.file_tree.specs.Book.{Entry}
use Rattle.group_rules.specs.Effects.{booted, first_mark as first_mark_of}
use Rattle.group_rules.specs.Limits.{is_log}
use Rattle.group_rules.specs.Names.{place_of}
use Rattle.group_rules.specs.Places.{Place, is_p2}
use Rattle.group_rules.specs.State.{Mark, Server, longest_of}
use Rattle.harp_types.specs.Limits.{first_promise}
use Rattle.harp_types.specs.declared.server.ServerId.{ServerId}
use Rattle.harp_cells.specs.Effect.{Cells}
use Rattle.harp_store.specs.Disk.{AtEachMoment, Disk, Moments, after_step, with_mark}
use Rattle.harp_store.specs.Mark.{MarkFields, first_mark}
use Rattle.idle_log.specs.Kept.{IsPlaced, lb_in}
use Rattle.idle_log.specs.declared.kept.Kept.{Kept}
use Rattle.node.specs.Node.{IsServer, NodeValue, mark_with, saved_with}
use Rattle.node.specs.Stock.{Stock}
use Rattle.node.specs.declared.fault.NodeFault.{NodeFault}
use Rattle.power_save.specs.Entries.{HoldEntries}
use Rattle.power_save.specs.Saved.{HoldRecords}

-- the mark that a boot goes on from, by the mark that the disk has: the same with the longest
-- promise that its disk ever saw, or the first one where it has none. A run of the group begins
-- with promises of 2000, so a new disk counts as one that saw them, and its first rest is as long
abbrev pub boot_mark : ServerId → (delta : ℕ) → Option MarkFields → MarkFields
boot_mark me delta None = first_mark me (max delta first_promise)
boot_mark me delta (Some mark) =
    record mark { longest = Some (max delta (longest_of mark.longest)) }

-- whether a promise of this length is no longer than the longest one of a mark
abbrev pub is_within : (delta : ℕ) → Option ℕ → Bool
is_within delta None = false
is_within delta (Some n) = nat_le delta n

-- whether the disk has that mark already
abbrev pub has_boot_mark : (delta : ℕ) → Option MarkFields → Bool
has_boot_mark delta None = false
has_boot_mark delta (Some mark) = is_within delta mark.longest

-- the disk with it; no cell changes
abbrev pub booted_disk : ServerId → (delta : ℕ) → Disk → Disk
booted_disk me delta d = with_mark (boot_mark me delta d.mark) d

-- a disk as it was, or with the mark that a boot of it goes on from
abbrev pub IsOldOrBooted : ServerId → (delta : ℕ) → Disk → Disk → Type 0
IsOldOrBooted me delta old d = (d ≡ old) ⊎ (d ≡ booted_disk me delta old)

-- the moments of a disk after a boot, which writes that mark where it isn't there
abbrev pub after_boot : ServerId → (delta : ℕ) → Option Moments → Option Moments
after_boot me delta None = None
after_boot me delta (Some h) = if has_boot_mark delta h.now.mark then Some h
    else after_step (booted_disk me delta) (Some h)

-- the machine's mark of a disk, the saved log having these records
abbrev pub mark_before : ServerId → (delta : ℕ) → List Entry → Option MarkFields → Mark Entry
mark_before me delta items None = first_mark_of Entry (max delta first_promise) (place_of me)
mark_before me delta items (Some mark) = mark_with items mark

-- cells hold the saved log of a mark, where it has one, as records of these entries
abbrev pub HoldSaved : Cells → MarkFields → List Entry → Type 0
HoldSaved cells mark items = IfSome mark.saved (λ v. HoldEntries cells mark (saved_with items v))

-- and they hold just these records of it, whole
abbrev pub HoldWhole : Cells → MarkFields → List RecordFields → Type 0
HoldWhole cells mark saved = IfSome mark.saved (λ v.
    (v.top ≡ v.base + length saved) × HoldRecords v.ring cells v.base saved)

-- what a server has whole that has just booted: these records of the saved log, where it holds that
abbrev pub booted_stock : Server Entry → List RecordFields → Stock
booted_stock s saved = record {
  log = if is_log s.held then saved else [];
  pulled = [];
  waits = [];
}

-- what the machine boots from a mark whose saved log isn't on the disk whole: a mark without one
abbrev pub booted_without : Place → (clock delta : ℕ) → Mark Entry → Server Entry
booted_without q clock delta m = record (booted q clock delta (record m { saved = None })) {
  saved = m.saved;
}

-- the mark of server 2 has LB at the base of its saved log, as it writes it always
abbrev pub HasBase : Place → MarkFields → Type 0
HasBase q mark = is_p2 q ≡ true → IfSome mark.saved (λ v. v.base ≡ mark.lb)

-- what a server holds after it read this mark stands at its place, and the mark has its LB, but for
-- server 2, whose mark is lowered to it
pub record IsFound (q : Place) (mark : MarkFields) (k : Kept) : Type 0 where
  pub placed : IsPlaced q k
  pub bound : lb_in mark.lb k < 2 ^ 62
  pub lb : HasBase q mark → lb_in mark.lb k ≡ mark.lb

-- A SERVER THAT HAS JUST BOOTED is up, and neither does anybody wait for it nor does it keep cells
-- in memory
pub record IsFresh (place : ServerId) (n : NodeValue) : Type 0 where
  pub me : n.me ≡ place_of place
  pub is_server : IsServer n
  pub up : n.halted ≡ false
  pub peers : n.peers ≡ []
  pub cached : n.cached ≡ []

-- THE DISK OF A BOOT has the mark that it goes on from, or, after an error, that one or the one of
-- before; and so at each moment, with the cells of before
pub record WritesBoot {A : Type 0} (result : Result A NodeFault) (me : ServerId) (delta : ℕ)
    (old new : Option Moments) : Type 0 where
  pub written : OnOk result (new ≡ after_boot me delta old)
  pub part : OnErr result ((new ≡ old) ⊎ (new ≡ after_boot me delta old))
  pub moments : (h : Moments) → old ≡ Some h
      → AtEachMoment (IsOldOrBooted me delta h.now) old new
