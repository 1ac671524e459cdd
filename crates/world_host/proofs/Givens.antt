-- What a step of a node is given, and the tree that it reads.
use Rattle.std.proofs.Common.{◌≡◌, ℕ, Bool, true, false, List, Option, Some, None, refl, sym, ap, subst, ◌∙◌, if◌then◌else◌}
use Rattle.std.specs.Prelude.{IfSome, option_map}
use Rattle.file_tree.specs.Book.{Entry}
use Rattle.group_trace.specs.DiskRun.{is_crash}
use Rattle.world_host.proofs.NodeCalls.{IsGiven}
use Rattle.world_host.proofs.Rules.{IsNoListing, step_listed}
use Rattle.world_rules.specs.Steps.{listing_by, peers_by}
use Rattle.group_rules.specs.Names.{place_of}
use Rattle.group_rules.specs.Places.{Place}
use Rattle.group_rules.specs.State.{Message, Server}
use Rattle.group_rules.specs.Step.{Comes, Input as Begins, step}
use Rattle.harp_types.specs.declared.peer.Peer.{Peer}
use Rattle.harp_store.specs.Disk.{Disk as ToldDisk, Moments, reads}
use Rattle.node.proofs.Wholes.{no_listing}
use Rattle.node.specs.Input.{FillsInput, input_of, peers_of}
use Rattle.node.specs.Node.{NodeValue, server}
use Rattle.node.specs.Step.{Lists, ListsFor}
use Rattle.node.specs.Stock.{stock}
use Rattle.node.specs.Stored.{log_of, stores}
use Rattle.node.specs.declared.input.Input.{Input}
use Rattle.node.specs.declared.input.Input.TheVariants as input
use Rattle.node_outputs.specs.Makes.{with_moves}
use Rattle.node_outputs.specs.Messages.{heard}
use Rattle.node_outputs.specs.Said.{Said, nothing, said}
use Rattle.node_outputs.specs.declared.outputs.Outputs.{Outputs}
use Rattle.tree_listing.specs.declared.listing.Listing.{Listing}
use Rattle.tree_log.specs.Reading.{HoldsTree}
use Rattle.replica.specs.Listing.{listing_at}
use Rattle.volatile_log.specs.Log.{LogValue}

-- ---- what begins the step

pub heard_as : (P : Begins → Type 0) (from : Place) (m : Option (Message Entry))
    → ((x : Message Entry) → P (Comes from x)) → IfSome (option_map (Comes from) m) P
heard_as P from None h = tt
heard_as P from (Some x) h = h x

pub begun : (P : Begins → Type 0) (o : Option Begins) (i : Begins) → o ≡ Some i → IfSome o P → P i
begun P o i e h = subst (λ (x : Option Begins). IfSome x P) e h

-- it is nothing that a server does by itself alone
pub is_given : (given : Input) (i : Begins) → input_of given ≡ Some i → IsGiven i
is_given given i e = begun IsGiven (input_of given) i e (each given)
  where
    each : (given : Input) → IfSome (input_of given) IsGiven
    each input.Tick = tt
    each input.Suspect = tt
    each (input.Message from message) =
        heard_as IsGiven (place_of from) (heard message) (λ x. tt)
    each (input.Ask peer client number cred call) = tt
    each (input.Apply most) = tt
    each input.Flush = tt
    each input.List = tt

pub is_no_crash : (given : Input) (i : Begins) → input_of given ≡ Some i → is_crash i ≡ false
is_no_crash given i e =
    let P : Begins → Type 0 = λ j. is_crash j ≡ false in
    begun P (input_of given) i e (each given)
  where
    each : (given : Input) → IfSome (input_of given) (λ j. is_crash j ≡ false)
    each input.Tick = refl
    each input.Suspect = refl
    each (input.Message from message) =
        heard_as (λ j. is_crash j ≡ false) (place_of from) (heard message) (λ x. refl)
    each (input.Ask peer client number cred call) = refl
    each (input.Apply most) = refl
    each input.Flush = refl
    each input.List = refl

-- who is answered
pub same_peers : (n : NodeValue) (given : Input) → peers_of n given ≡ peers_by (stock n) given
same_peers n input.Tick = refl
same_peers n input.Suspect = refl
same_peers n (input.Message from message) = refl
same_peers n (input.Ask peer client number cred call) = refl
same_peers n (input.Apply most) = refl
same_peers n input.Flush = refl
same_peers n input.List = refl

-- ---- the tree over a disk, whatever moments are told before

pub same_tree : (list : List Entry) (upto : ℕ) (log : LogValue) (a b : Moments) → a.now ≡ b.now
    → HoldsTree list upto log (Some a) → HoldsTree list upto log (Some b)
same_tree list upto log a b e h = record {
  of_list = h.of_list;
  behind = record {
    cells = h.behind.cells;
    told_is = ap (λ (d : ToldDisk). Some (reads d)) (sym e) ∙ h.behind.told_is;
    ahead = h.behind.ahead;
    from = h.behind.from;
    within = h.behind.within;
    fuzzy = h.behind.fuzzy;
  };
}

pub same_fills : (list : List Entry) (n : NodeValue) (clock : ℕ) (a b : Moments) (given : Input)
    → a.now ≡ b.now → FillsInput list n clock (Some a) given
    → FillsInput list n clock (Some b) given
same_fills list n clock a b input.Tick e h = h
same_fills list n clock a b input.Suspect e h = h
same_fills list n clock a b (input.Message from message) e h = h
same_fills list n clock a b (input.Ask peer client number cred call) e h =
    λ reads. same_tree list n.plain.cp (log_of n) a b e (h reads)
same_fills list n clock a b (input.Apply most) e h = h
same_fills list n clock a b input.Flush e h = h
same_fills list n clock a b input.List e h = h

-- ---- the listing

lists_at : (b : Bool) (n : NodeValue) (list : List Entry) (told : Option Moments)
    (new : Option Listing) → stores n ≡ b → Lists n told None new
    → (stores n ≡ true → HoldsTree list n.plain.cp (log_of n) told)
    → new ≡ (if b then Some (listing_at n.plain.cp list) else None)
lists_at true n list told new e h tree = h.settled list e (tree e)
lists_at false n list told new e h tree = h.other e

listed_none : (outs : Outputs) (q : Place) (clock : ℕ) (size : List Entry → Entry → ℕ)
    (list : List Entry) (s : Server Entry) (i : Begins) (peers : List Peer) → IsNoListing i
    → said outs ≡ with_moves q clock s (step size q clock list s i) peers nothing
    → outs.listing ≡ None
listed_none outs q clock size list s i peers not_so is = no_listing outs.listing
    (ap (λ (x : Said). x.listed) is ∙ step_listed size q clock list s i None not_so)

-- THE LISTING is the one that is asked for
pub listing_is : (outs : Outputs) (n : NodeValue) (items list : List Entry) (clock : ℕ)
    (size : List Entry → Entry → ℕ) (given : Input) (i : Begins) (peers : List Peer)
    (told : Option Moments) → input_of given ≡ Some i → ListsFor given n told None outs.listing
    → (stores n ≡ true → HoldsTree list n.plain.cp (log_of n) told)
    → said outs ≡ with_moves n.me clock (server n items)
    (step size n.me clock list (server n items) i) peers nothing
    → outs.listing ≡ listing_by (server n items) n.me list given
listing_is outs n items list clock size input.Tick i peers told e h tree is =
    listed_none outs n.me clock size list (server n items) i peers
    (begun IsNoListing _ i e tt) is
listing_is outs n items list clock size input.Suspect i peers told e h tree is =
    listed_none outs n.me clock size list (server n items) i peers
    (begun IsNoListing _ i e tt) is
listing_is outs n items list clock size (input.Message from message) i peers told e h tree is =
    listed_none outs n.me clock size list (server n items) i peers
    (begun IsNoListing _ i e
    (heard_as IsNoListing (place_of from) (heard message) (λ x. tt))) is
listing_is outs n items list clock size (input.Ask peer client number cred call) i peers told e h
    tree is =
    listed_none outs n.me clock size list (server n items) i peers
    (begun IsNoListing _ i e tt) is
listing_is outs n items list clock size (input.Apply most) i peers told e h tree is =
    listed_none outs n.me clock size list (server n items) i peers
    (begun IsNoListing _ i e tt) is
listing_is outs n items list clock size input.Flush i peers told e h tree is =
    listed_none outs n.me clock size list (server n items) i peers
    (begun IsNoListing _ i e tt) is
listing_is outs n items list clock size input.List i peers told e h tree is =
    lists_at (stores n) n list told outs.listing refl h tree
