-- What one event leaves of the world that follows.
use Rattle.std.proofs.Common.{◌≡◌, ℕ, Bool, true, false, List, [], ◌∷◌, ◌++◌, append-nil, Contains, Option, None, Some, refl, ap, ◌∙◌, if◌then◌else◌}
use Rattle.std.proofs.lemmas.List.Concat.{flat_map-append}
use Rattle.file_tree.specs.Book.{Entry}
use Rattle.group_trace.specs.DiskRun.{DiskScene}
use Rattle.harp_store.specs.Disk.{Disk as ToldDisk, Moments, after_step, then_disk}
use Rattle.harp_types.specs.Trio.{value_of, with_value}
use Rattle.harp_types.specs.declared.server.ServerId.{ServerId}
use Rattle.harp_types.specs.declared.server.ServerId.TheVariants as server
use Rattle.harp_types.specs.declared.trio.Trio.{Trio}
use Rattle.node.specs.Boot.{booted_disk}
use Rattle.node.specs.Node.{NodeValue}
use Rattle.node_link.specs.declared.link.SentDatagram.{SentDatagram}
use Rattle.node_outputs.specs.declared.outputs.Answered.{Answered}
use Rattle.world.proofs.Turns.{with_host}
use Rattle.world.specs.World.{WorldValue}
use Rattle.world_host.proofs.Stops.{now_at}
use Rattle.world_lines.specs.Given.{answered_lines}
use Rattle.world_rules.specs.Host.{HostValue}
use Rattle.running_laws.specs.Books.{IsOfBook, answers_in}
use Rattle.running_laws.specs.Events.{Event, Site, all_sent, sent_by}
use Rattle.running_laws.specs.Follows.{Follows, HasAskers, IsPlace, IsPosted}
use Rattle.running_laws.specs.Histories.{IsInTime}
use Rattle.running_laws.specs.Lives.{Happens}
use Rattle.running_laws.proofs.Moving.{LedTo}

-- what holds of each server's two values, where both of one change
pub each_pair : {A B : Type 0} (P : ServerId → A → B → Type 0) (t : Trio A) (u : Trio B)
    (s : ServerId) (x : A) (y : B) → ((p : ServerId) → P p (value_of t p) (value_of u p)) → P s x y
    → (p : ServerId) → P p (value_of (with_value t s x) p) (value_of (with_value u s y) p)
each_pair P t u server.Zero x y h own server.Zero = own
each_pair P t u server.Zero x y h own server.One = h server.One
each_pair P t u server.Zero x y h own server.Two = h server.Two
each_pair P t u server.One x y h own server.Zero = h server.Zero
each_pair P t u server.One x y h own server.One = own
each_pair P t u server.One x y h own server.Two = h server.Two
each_pair P t u server.Two x y h own server.Zero = h server.Zero
each_pair P t u server.Two x y h own server.One = h server.One
each_pair P t u server.Two x y h own server.Two = own

pub each_none : {A : Type 0} (t : Trio (Option A)) (s : ServerId)
    → ((p : ServerId) → value_of t p ≡ None)
    → (p : ServerId) → value_of (with_value t s None) p ≡ None
each_none t server.Zero h server.Zero = refl
each_none t server.Zero h server.One = h server.One
each_none t server.Zero h server.Two = h server.Two
each_none t server.One h server.Zero = h server.Zero
each_none t server.One h server.One = refl
each_none t server.One h server.Two = h server.Two
each_none t server.Two h server.Zero = h server.Zero
each_none t server.Two h server.One = h server.One
each_none t server.Two h server.Two = refl

pub none_some : {A : Type 0} (x : A) → ◌≡◌ {A = Option A} None (Some x) → ⊥
none_some x e = cc

pub same_some : (n m : NodeValue) → Some n ≡ Some m → n ≡ m
same_some n m e = cc

pub twice_set : {T : Type 0} (t : Trio T) (p : ServerId) (x y : T)
    → with_value (with_value t p x) p y ≡ with_value t p y
twice_set t server.Zero x y = refl
twice_set t server.One x y = refl
twice_set t server.Two x y = refl

-- two hosts of a place, one after the other
pub twice_hosted : (x : WorldValue) (s : ServerId) (h k : HostValue)
    → with_host (with_host x s h) s k ≡ with_host x s k
twice_hosted x server.Zero h k = refl
twice_hosted x server.One h k = refl
twice_hosted x server.Two h k = refl

-- a boot's mark leaves what is synced
pub marked_synced : (place : ServerId) (delta : ℕ) (m amid : Moments) (b : Bool)
    → Some amid ≡ (if b then Some m else after_step (booted_disk place delta) (Some m))
    → amid.now.unsynced ≡ m.now.unsynced
marked_synced place delta m amid true e =
    ap (λ (d : ToldDisk). d.unsynced) (now_at amid m e)
marked_synced place delta m amid false e = ap (λ (d : ToldDisk). d.unsynced)
    (now_at amid (then_disk (booted_disk place delta m.now) m) e)

-- what is sent by the longer history
pub sent_more : (before : List Event) (e : Event)
    → all_sent (before ++ e ∷ []) ≡ all_sent before ++ sent_by e
sent_more before e = flat_map-append sent_by before (e ∷ [])
    ∙ ap (λ ds. all_sent before ++ ds) (append-nil (sent_by e))

-- ---- what one event leaves of the world

-- an event is next, of what is followed
pub record IsNext (before : List Event) (e : Event) (a c : Trio Site) (w : DiskScene)
    (x : WorldValue) : Type 0 where
  pub follows : Follows before a w x
  pub happens : Happens e a c
  pub in_time : IsInTime before e

-- the world follows, but for its clocks
pub record IsLeft (before : List Event) (e : Event) (c : Trio Site) (x y : WorldValue)
    : Type 0 where
  pub sites_are : (place : ServerId) → IsPlace place (value_of y.hosts place) (value_of c place)
  pub no_stop : (place : ServerId) → value_of y.stops place ≡ None
  pub posted : (d : SentDatagram) → Contains (all_sent before ++ sent_by e) d → IsPosted y.packets d
  pub clocks : y.clocks ≡ x.clocks
  pub askers : (place : ServerId) (n : NodeValue) → (value_of c place).node ≡ Some n
      → HasAskers (before ++ e ∷ []) n.plain n.peers

-- steps lead there, and each answer of the event is the book's
pub record Leaves (before : List Event) (e : Event) (c : Trio Site) (v : DiskScene) (x : WorldValue)
    : Type 0 where
  pub world : WorldValue
  pub led : LedTo (before ++ e ∷ []) v world (answered_lines e.place (answers_in e.outs))
  pub left : IsLeft before e c x world
  pub more : List Entry
  pub grows : world.book.entries ≡ x.book.entries ++ more
  pub answers : (a : Answered) → Contains (answers_in e.outs) a
      → IsOfBook x.book.entries world.book.entries (before ++ e ∷ []) a
