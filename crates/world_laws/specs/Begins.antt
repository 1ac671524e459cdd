-- What may begin a step of a server.
use Rattle.std.specs.Prelude.{◌≡◌, ℕ, Some, ⊤}
use Rattle.file_tree.specs.Book.{Entry}
use Rattle.group_rules.specs.Places.{Place}
use Rattle.group_rules.specs.State.{Group}
use Rattle.group_rules.specs.Step.{Comes, Does, Input as Begins, numbered}

-- A STEP BEGINS with a deed, or with a message that was sent to its server
abbrev pub MayBegin : Group Entry → Place → Begins → Type 0
MayBegin g q (Does d) = ⊤
MayBegin g q (Comes from m) =
    (n : ℕ) × (numbered g.packets n ≡ Some (record { from = from; to = q; body = m }))
