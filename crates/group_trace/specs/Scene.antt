-- What a run goes through: the group, and what stands around it.
use Rattle.std.specs.Prelude.{ℕ, Bool, List, [], Option, None}
use Rattle.file_tree.specs.Book.{Entry}
use Rattle.group_rules.specs.Places.{Place}
use Rattle.group_rules.specs.State.{Group, Message}
use Rattle.group_rules.specs.Step.{first_group}

-- What the run takes from the bytes of records and messages: how many bytes the record of an entry
-- has after the entries before it, how many changes of cells, how many bytes a message of a server
-- with this list, and which bytes are a message
pub record Measures : Type 0 where
  pub size : List Entry → Entry → ℕ
  pub changes : List Entry → Entry → ℕ
  pub bytes : List Entry → Message Entry → ℕ
  pub is_message : List ℕ → Bool

-- A group, the numbers of the packets that were delivered, how many calls a stop lets pass in each
-- server's next step, and how many bytes were sent
pub record Scene : Type 0 where
  pub group : Group Entry
  pub delivered : List ℕ
  pub armed : Place → Option ℕ
  pub sent : ℕ

-- three servers that booted on new disks
abbrev pub first_scene : Scene
first_scene = record { group = first_group; delivered = []; armed = λ q. None; sent = 0 }
