-- Walks over moves that are put together.
use Rattle.std.proofs.Common.{◌≡◌, ℕ, Bool, true, false, List, [], ◌∷◌, ◌++◌, if◌then◌else◌}
use Rattle.file_tree.specs.Book.{Entry}
use Rattle.group_rules.specs.Moves.{Move, Sending, act, acts}
use Rattle.group_rules.specs.Places.{Place}
use Rattle.group_rules.specs.State.{Message, Server}
use Rattle.group_rules.specs.Joining.{to_each}
use Rattle.group_rules.proofs.Tests.{by_if}
use Rattle.accept_laws.specs.Walks.{Walks}

pub walks_then : (F : Server Entry → Move Entry → Type 0) (q : Place) (clock : ℕ)
    (a b : List (Move Entry)) (s : Server Entry) → Walks F q clock s a
    → Walks F q clock (acts q clock s a) b → Walks F q clock s (a ++ b)
walks_then F q clock [] b s h k = k
walks_then F q clock (m ∷ a) b s h k = (h.0, walks_then F q clock a b (act q clock s m) h.1 k)

pub walks_if : (F : Server Entry → Move Entry → Type 0) (q : Place) (clock : ℕ) (s : Server Entry)
    (b : Bool) (x y : List (Move Entry)) → (b ≡ true → Walks F q clock s x)
    → (b ≡ false → Walks F q clock s y) → Walks F q clock s (if b then x else y)
walks_if F q clock s b x y = by_if (Walks F q clock s) b x y

pub walks_where : (F : Server Entry → Move Entry → Type 0) (q : Place) (clock : ℕ)
    (s : Server Entry) (b : Bool) (x : List (Move Entry)) → (b ≡ true → Walks F q clock s x)
    → Walks F q clock s (if b then x else [])
walks_where F q clock s b x t = by_if (Walks F q clock s) b x [] t (λ _. tt)

-- a move that is only sent, and that keeps the server
pub walks_each : (F : Server Entry → Move Entry → Type 0) (q : Place) (clock : ℕ)
    (s : Server Entry) (m : Message Entry) (ps : List Place) (rest : List (Move Entry))
    → ((to : Place) → F s (Sending to m)) → Walks F q clock s rest
    → Walks F q clock s (to_each m ps ++ rest)
walks_each F q clock s m [] rest h k = k
walks_each F q clock s m (p ∷ ps) rest h k = (h p, walks_each F q clock s m ps rest h k)

pub walks_all : (F : Server Entry → Move Entry → Type 0) (q : Place) (clock : ℕ)
    (s : Server Entry) (m : Message Entry) (ps : List Place) → ((to : Place) → F s (Sending to m))
    → Walks F q clock s (to_each m ps)
walks_all F q clock s m [] h = tt
walks_all F q clock s m (p ∷ ps) h = (h p, walks_all F q clock s m ps h)
