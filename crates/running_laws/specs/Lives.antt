-- What an event makes of its place: boots, steps and ends of lives, whole and in part.
use Rattle.std.specs.Prelude.{◌≡◌, ◌⊎◌, ℕ, Bool, true, false, List, Option, None, Some, ⊤}
use Rattle.file_tree.specs.Book.{Entry}
use Rattle.harp_store.specs.Disk.{IsLeftOf, Moments}
use Rattle.harp_types.specs.Trio.{value_of, with_value}
use Rattle.harp_types.specs.declared.server.ServerId.{ServerId}
use Rattle.harp_types.specs.declared.trio.Trio.{Trio}
use Rattle.node.specs.Boot.{after_boot}
use Rattle.node.specs.Input.{input_of}
use Rattle.node.specs.Node.{NodeValue}
use Rattle.node.specs.Stored.{LeavesBy}
use Rattle.node.specs.Taking.{stepped}
use Rattle.node.specs.declared.input.Input.{Input}
use Rattle.node.specs.declared.input.Input.TheVariants as input
use Rattle.node_loop.specs.Arriving.{Arrives}
use Rattle.node_loop.specs.Outgoing.{AreSpelled}
use Rattle.node_loop.specs.Stay.{FailsSave, Saves as SavesLog}
use Rattle.node_loop.specs.Step.{IsBoot, IsStep}
use Rattle.node_outputs.specs.declared.outputs.Outputs.{Outputs}
use Rattle.promise.specs.Promise.{IsDelta}
use Rattle.running_laws.specs.Events.{Boots, Does, Ends, Event, Saves, Site, Takes, What}

-- ---- boots

-- A BOOT from the disk of the place
pub record WholeBoot (place : ServerId) (now delta : ℕ) (a b : Site) : Type 0 where
  pub none : a.node ≡ None
  pub length : IsDelta delta
  pub node : NodeValue
  pub is : b.node ≡ Some node
  pub boot : IsBoot place delta now (Some a.disk) (Some b.disk) node

-- the process is gone amid its boot, before or behind the one call that changes the disk
pub record PartOfBoot (place : ServerId) (delta : ℕ) (a b : Site) : Type 0 where
  pub none : a.node ≡ None
  pub length : IsDelta delta
  pub still : b.node ≡ None
  pub amid : Moments
  pub part : (amid ≡ a.disk) ⊎ (Some amid ≡ after_boot place delta (Some a.disk))
  pub left : IsLeftOf amid.now b.disk.now

-- ---- steps

-- A STEP of the node that lives there: what it sends to other servers has a spelling
pub record WholeStep (now : ℕ) (given : Input) (outs : Option Outputs) (a b : Site) : Type 0 where
  pub old : NodeValue
  pub new : NodeValue
  pub puts : Outputs
  pub was : a.node ≡ Some old
  pub is : b.node ≡ Some new
  pub outs_are : outs ≡ Some puts
  pub step : IsStep given now old new (Some a.disk) (Some b.disk) puts
  pub fit : AreSpelled puts

-- the process is gone amid a step, after some first calls that change the disk; nothing was sent
pub record PartOfStep (now : ℕ) (given : Input) (outs : Option Outputs) (a b : Site) : Type 0 where
  pub old : NodeValue
  pub was : a.node ≡ Some old
  pub gone : b.node ≡ None
  pub silent : outs ≡ None
  pub amid : Moments
  pub part : (size : List Entry → Entry → ℕ) (list : List Entry) → LeavesBy old
      (stepped size old.me now list old.plain (input_of given)) (input_of given)
      (Some a.disk) (Some amid)
  pub left : IsLeftOf amid.now b.disk.now

-- a step is given nothing, and nothing changes; or it is whole, or cut
abbrev pub Steps : (cut : Bool) → (now : ℕ) → Option Input → Option Outputs → (a b : Site)
    → Type 0
Steps cut now None outs a b = (b ≡ a) × (outs ≡ None)
Steps false now (Some given) outs a b = WholeStep now given outs a b
Steps true now (Some given) outs a b = PartOfStep now given outs a b

-- what a server does by itself
abbrev pub IsOwn : Input → Type 0
IsOwn input.Tick = ⊤
IsOwn input.Suspect = ⊤
IsOwn (input.Message from message) = ⊥
IsOwn (input.Ask peer client number cred call) = ⊥
IsOwn (input.Apply most) = ⊤
IsOwn input.Flush = ⊤
IsOwn input.List = ⊥

-- ---- ends

-- THE END of a life between two steps: what a crash leaves of the disk is the next life's
pub record EndBetween (a b : Site) : Type 0 where
  pub old : NodeValue
  pub was : a.node ≡ Some old
  pub gone : b.node ≡ None
  pub left : IsLeftOf a.disk.now b.disk.now

-- THE SAVE of a server that is told to stop: it saves its log as the rules say of a power failure,
-- and is gone. Of its disk then a crash leaves the next life's
pub record WholeSave (a b : Site) : Type 0 where
  pub old : NodeValue
  pub was : a.node ≡ Some old
  pub gone : b.node ≡ None
  pub amid : Moments
  pub saves : SavesLog old (Some a.disk) (Some amid)
  pub left : IsLeftOf amid.now b.disk.now

-- the process is gone amid its save, after some first calls that change the disk, or all of them
pub record PartOfSave (a b : Site) : Type 0 where
  pub old : NodeValue
  pub was : a.node ≡ Some old
  pub gone : b.node ≡ None
  pub amid : Moments
  pub part : FailsSave old (Some a.disk) (Some amid)
  pub left : IsLeftOf amid.now b.disk.now

-- ---- all of it

abbrev pub HappensBy : ServerId → (now : ℕ) → What → (cut : Bool) → Option Outputs → (a b : Site)
    → Type 0
HappensBy place now (Boots delta) false outs a b = WholeBoot place now delta a b × (outs ≡ None)
HappensBy place now (Boots delta) true outs a b = PartOfBoot place delta a b × (outs ≡ None)
HappensBy place now (Does given) cut outs a b = IsOwn given × Steps cut now (Some given) outs a b
HappensBy place now (Takes d) cut outs a b =
    (given : Option Input) × Arrives d given × Steps cut now given outs a b
HappensBy place now Saves false outs a b = WholeSave a b × (outs ≡ None)
HappensBy place now Saves true outs a b = PartOfSave a b × (outs ≡ None)
HappensBy place now Ends cut outs a b = EndBetween a b × (outs ≡ None)

-- WHAT AN EVENT MAKES of its place; the others stay
pub record Happens (e : Event) (a c : Trio Site) : Type 0 where
  pub here : HappensBy e.place e.now e.what e.cut e.outs (value_of a e.place) (value_of c e.place)
  pub is : c ≡ with_value a e.place (value_of c e.place)
