-- What happens at the places of three servers that run as processes, and what they put out.
use Rattle.std.specs.Prelude.{◌≡◌, ℕ, Bool, List, [], ◌∷◌, ◌++◌, Option, None, Some, flat_map, ⊤}
use Rattle.harp_store.specs.Disk.{Moments}
use Rattle.harp_store.specs.Memory.{nothing_stored}
use Rattle.harp_types.specs.declared.server.ServerId.{ServerId}
use Rattle.harp_types.specs.declared.trio.Trio.{Trio}
use Rattle.node.specs.Node.{NodeValue}
use Rattle.node.specs.declared.input.Input.{Input}
use Rattle.node_link.specs.declared.link.Datagram.{Datagram}
use Rattle.node_link.specs.declared.link.SentDatagram.{SentDatagram}
use Rattle.node_loop.specs.Outgoing.{datagrams}
use Rattle.node_outputs.specs.declared.outputs.Outputs.{Outputs}

-- a life begins at a place, with promises of this length; its server does something by itself, or
-- takes a datagram; or, told to stop, it saves its log and the life ends; or the life ends
pub data What : Type 0 where
  Boots : (delta : ℕ) → What
  Does : Input → What
  Takes : Datagram → What
  Saves : What
  Ends : What

-- AN EVENT: where, at which reading of the place's clock, and whether the process is gone amid it;
-- and what the step puts out, if one is made whole
pub record Event : Type 0 where
  pub place : ServerId
  pub now : ℕ
  pub what : What
  pub cut : Bool
  pub outs : Option Outputs

-- A PLACE: the node that lives there, if one does, and its disk
pub record Site : Type 0 where
  pub node : Option NodeValue
  pub disk : Moments

-- nobody lives there, and its disk is new
pub record IsNewSite (s : Site) : Type 0 where
  pub gone : s.node ≡ None
  pub empty : s.disk.now ≡ nothing_stored.now

-- with a new disk
abbrev pub new_site : Site
new_site = record { node = None; disk = nothing_stored }

abbrev pub new_sites : Trio Site
new_sites = record { zero = new_site; one = new_site; two = new_site }

-- ---- what is put out

abbrev pub put_out : ServerId → Option Outputs → List SentDatagram
put_out place None = []
put_out place (Some outs) = datagrams place outs

-- what an event sends
abbrev pub sent_by : Event → List SentDatagram
sent_by e = put_out e.place e.outs

abbrev pub all_sent : List Event → List SentDatagram
all_sent events = flat_map sent_by events

-- ---- of each event

-- this holds of each event, with those before it
unfoldable pub EachAfter : (List Event → Event → Type 0) → List Event → List Event → Type 0
EachAfter P before [] = ⊤
EachAfter P before (e ∷ es) = P before e × EachAfter P (before ++ e ∷ []) es
