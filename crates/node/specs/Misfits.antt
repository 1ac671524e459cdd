-- Whether the tests of a message compare it with what a server does.
use Rattle.std.specs.Prelude.{ℕ, ◌==◌, Bool, [], ◌∷◌}
use Rattle.file_tree.specs.Book.{Entry}
use Rattle.group_rules.specs.Limits.{is_pulls}
use Rattle.group_rules.specs.Places.{all_of}
use Rattle.group_rules.specs.State.{Server}

-- the server pulls the records of this view
abbrev pub pulls_view : Server Entry → ℕ → Bool
pulls_view s v = all_of ((v == s.promised) ∷ is_pulls s.mode ∷ [])
