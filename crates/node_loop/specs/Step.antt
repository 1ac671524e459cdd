-- A node's boot, and its steps.
use Rattle.std.specs.Prelude.{◌≡◌, ◌⊎◌, ℕ, false, List, [], Option, None, Some}
use Rattle.event_record.specs.declared.record.RecordFields.{RecordFields}
use Rattle.file_tree.specs.Book.{Entry}
use Rattle.group_rules.specs.Effects.{booted}
use Rattle.group_rules.specs.Names.{place_of}
use Rattle.harp_types.specs.declared.server.ServerId.{ServerId}
use Rattle.harp_store.specs.Disk.{Moments, reads}
use Rattle.node.specs.Boot.{HasBase, HoldSaved, HoldWhole, after_boot, boot_mark, booted_stock, booted_without, mark_before}
use Rattle.node.specs.Input.{FillsInput, input_of}
use Rattle.node.specs.Node.{IsServer, NodeValue, server}
use Rattle.node.specs.Serving.{entry_size}
use Rattle.node.specs.Step.{ListsFor, StepsWhole}
use Rattle.node.specs.Stock.{stock}
use Rattle.node.specs.Stored.{LeavesBy, disk_by, mark_by}
use Rattle.node.specs.Taking.{stepped}
use Rattle.node.specs.declared.input.Input.{Input}
use Rattle.node_outputs.specs.declared.outputs.Outputs.{Outputs}
use Rattle.power_save.specs.Saved.{IsNotSaved}

-- A node is booted from its disk at a reading of its clock: with the log that was saved there, or
-- without one where that isn't whole; and the records of that log are those on the disk, whole
pub record IsBoot (me : ServerId) (delta now : ℕ) (old new : Option Moments)
    (n : NodeValue) : Type 0 where
  pub boots : (h : Moments) (items : List Entry) → old ≡ Some h
      → HoldSaved (reads h.now) (boot_mark me delta h.now.mark) items
      → server n items ≡ booted (place_of me) now delta (mark_before me delta items h.now.mark)
  pub lost : (h : Moments) (items : List Entry) → old ≡ Some h
      → IsNotSaved (reads h.now) (boot_mark me delta h.now.mark)
      → server n items
      ≡ booted_without (place_of me) now delta (mark_before me delta items h.now.mark)
  pub records : (h : Moments) (saved : List RecordFields) → old ≡ Some h
      → HoldWhole (reads h.now) (boot_mark me delta h.now.mark) saved
      → stock n ≡ booted_stock n.plain saved
  pub me_is : n.me ≡ place_of me
  pub is_server : IsServer n
  pub up : n.halted ≡ false
  pub peers : n.peers ≡ []
  pub cached : n.cached ≡ []
  pub mark : (h : Moments) → old ≡ Some h → HasBase (place_of me) (boot_mark me delta h.now.mark)
      → n.mark ≡ boot_mark me delta h.now.mark
  pub written : new ≡ after_boot me delta old

-- A boot fails: the disk is as it was, or has the mark that a boot of it goes on from
abbrev pub FailsBoot : ServerId → (delta : ℕ) → (old new : Option Moments) → Type 0
FailsBoot me delta old new = (new ≡ old) ⊎ (new ≡ after_boot me delta old)

-- A node takes a step at a reading of its clock: it does what the rules of the group say of what it
-- is given, its outputs are just what they say, and so are its mark and its disk; and it stays a
-- server of theirs. Where the rules read the tree, its disk can tell it
pub record IsStep (input : Input) (now : ℕ) (n m : NodeValue) (old new : Option Moments)
    (outs : Outputs) : Type 0 where
  pub steps : (items list : List Entry) → FillsInput list n now old input
      → StepsWhole now list items input
      (stepped entry_size n.me now list (server n items) (input_of input)) n m outs
  pub listing : ListsFor input n old None outs.listing
  pub is_server : IsServer m
  pub me_stays : m.me ≡ n.me
  pub mark : (size : List Entry → Entry → ℕ) (list : List Entry) → m.mark
      ≡ mark_by n (stepped size n.me now list n.plain (input_of input)) (input_of input)
  pub written : (size : List Entry → Entry → ℕ) (list : List Entry) → new
      ≡ disk_by n (stepped size n.me now list n.plain (input_of input)) (input_of input) old

-- A step fails: its disk has a part of what the step makes of it
abbrev pub FailsStep : Input → ℕ → NodeValue → (old new : Option Moments) → Type 0
FailsStep input now n old new =
    (size : List Entry → Entry → ℕ) (list : List Entry)
    → LeavesBy n (stepped size n.me now list n.plain (input_of input)) (input_of input) old new
