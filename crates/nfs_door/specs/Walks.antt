-- A WALK to a directory: names are looked up, one after the other.
use Rattle.std.specs.Prelude.{◌≡◌, ℕ, List, [], ◌∷◌, ⊤}
use Rattle.harp_types.specs.declared.attr.Attr.{Attr}
use Rattle.harp_types.specs.declared.attr.Kind.{Kind}
use Rattle.harp_types.specs.declared.attr.Kind.TheVariants.{Directory}
use Rattle.harp_types.specs.declared.call.Call.TheVariants as call
use Rattle.harp_types.specs.declared.cred.Cred.{Cred}
use Rattle.harp_types.specs.declared.reply.Reply.TheVariants as reply
use Rattle.rpc_door.specs.declared.group.Exchange.{Exchange}

-- what is found is a directory where no names are left
abbrev pub IsDirectoryAtEnd : List (List ℕ) → Kind → Type 0
IsDirectoryAtEnd [] kind = kind ≡ Directory
IsDirectoryAtEnd (name ∷ names) kind = ⊤

-- THESE EXCHANGES LEAD TO A DIRECTORY: the caller looks up each name in what the one before it gave
abbrev pub WalksTo : Cred → ℕ → List (List ℕ) → List Exchange → ℕ → Type 0
WalksTo who dir [] made object = (made ≡ []) × (object ≡ dir)
WalksTo who dir (name ∷ names) [] object = ⊥
WalksTo who dir (name ∷ names) (x ∷ xs) object =
    (next : ℕ) × (attr : Attr)
    × (x ≡ record { cred = who; call = call.Lookup dir name; reply = reply.Node next attr })
    × IsDirectoryAtEnd names attr.kind × WalksTo who next names xs object
