-- What is made of a message that comes, by its form.
use Rattle.std.proofs.Common.{◌≡◌, ℕ, false, List, [], Option, refl, ap, sym, subst, inl}
use Rattle.std.specs.Prelude.{None, Some, Result, option_map, ⊤}
use Rattle.event_record.specs.declared.record.RecordFields.{RecordFields}
use Rattle.file_tree.specs.Book.{Entry}
use Rattle.group_rules.specs.Misfits.{misfits}
use Rattle.group_rules.specs.Moves.{acts}
use Rattle.group_rules.specs.Names.{place_of}
use Rattle.group_rules.specs.Places.{Place}
use Rattle.group_rules.specs.State.{Message, Server}
use Rattle.group_rules.specs.Step.{Comes, on_message, rule}
use Rattle.harp_store.specs.Disk.{Moments}
use Rattle.harp_types.specs.declared.peer.Peer.{Peer}
use Rattle.harp_types.specs.declared.server.ServerId.{ServerId}
use Rattle.node.proofs.Calls.{AreSilent}
use Rattle.node.proofs.Handled.{AreSame, handles_asked, handles_so, handles_where, saving}
use Rattle.node.proofs.Heard.{client_alike, client_makes, client_stocks, heard_keeps, heard_stocks}
use Rattle.node.proofs.Marks.{disk_as, mark_as}
use Rattle.node.proofs.Mute.{IsNoAck, KeepsMark, silent_either, silent_message}
use Rattle.node.proofs.Opening.{takes}
use Rattle.node.proofs.Takes.{silent_open, silent_then}
use Rattle.node.specs.Cached.{IsCachedAs}
use Rattle.node.specs.Handles.{Acts, Handles, Moves}
use Rattle.node.specs.Node.{NodeValue, server}
use Rattle.node.specs.Stock.{Stocks, stock}
use Rattle.node.specs.Taking.{input_in, ruled}
use Rattle.node.specs.declared.fault.NodeFault.{NodeFault}
use Rattle.node_outputs.specs.Makes.{Makes}
use Rattle.node_outputs.specs.Messages.{heard}
use Rattle.node_outputs.specs.Records.{carried}
use Rattle.node_outputs.specs.declared.outputs.Outputs.{Outputs}
use Rattle.wire.specs.declared.message.Message.{Message as Wire}

-- the moves of what comes, if it is a server's
abbrev pub comes : (List Entry → Entry → ℕ) → (clock : ℕ) → List Entry → ServerId → Wire → Moves
comes size clock list from w q s = ruled size q clock list s (input_in from w)

silent_rule : (size : List Entry → Entry → ℕ) (q : Place) (clock : ℕ) (list : List Entry)
    (s : Server Entry) (from : Place) (m : Message Entry) → IsNoAck m
    → AreSilent (rule size q clock list s (Comes from m))
silent_rule size q clock list s from m none = silent_either (misfits q s from m) [] _ tt
    (silent_then (on_message size q clock list s from m) _
    (silent_message size q clock list s from m none) (silent_open q clock
    (acts q clock s (on_message size q clock list s from m))))

-- a server's message
module _ (size : List Entry → Entry → ℕ) (clock : ℕ) (list : List Entry) (from : ServerId)
    (w : Wire) (m : Message Entry) (n : NodeValue) (came : List RecordFields) (peers : List Peer)
    (is : heard w ≡ Some m) (brought : carried w ≡ came) where
  comes_same : AreSame n (comes size clock list from w) (takes size clock list (place_of from) m)
  comes_same saved = ap (λ (o : Option (Message Entry)). ruled size n.me clock list
      (saving n saved) (option_map (Comes (place_of from)) o)) is

  -- one that answers nobody, whoever waits
  pub handles_heard : (r : Result (Unit {0}) NodeFault) (rests : Type 0) (new : NodeValue)
      (before after : Outputs) (disk left : Option Moments) (faults risen : ℕ) → IsNoAck m
      → Handles r ⊤ clock (takes size clock list (place_of from) m) came [] n new before after
      disk left faults risen
      → Handles r rests clock (comes size clock list from w) (carried w) peers n new before after
      disk left faults risen
  handles_heard r rests new before after disk left faults risen none h =
      subst (λ (rs : List RecordFields). Handles r rests clock (comes size clock list from w) rs
      peers n new before after disk left faults risen) (sym brought)
      (handles_so r rests clock (comes size clock list from w)
      (takes size clock list (place_of from) m) came peers n new before after disk left faults
      risen comes_same
      (handles_asked r rests clock (takes size clock list (place_of from) m) came peers n new
      before after disk left faults risen
      (λ s. silent_rule size n.me clock list s (place_of from) m none)
      (handles_where r rests clock (takes size clock list (place_of from) m) came [] n new before
      after disk left faults risen h)))

  -- one that writes no mark
  pub acts_heard : (rests : Type 0) (new : NodeValue) (before after : Outputs)
      (disk : Option Moments) → KeepsMark m → new.me ≡ n.me → new.halted ≡ false
      → (rests → (items : List Entry) → Makes n.me clock
      (ruled size n.me clock list (server n items) (input_in from w)) peers (server n items)
      (server new items) before after)
      → ((items : List Entry) → Stocks came n.me (server n items)
      (rule size n.me clock list (server n items) (Comes (place_of from) m)) (stock n) (stock new))
      → IsCachedAs n.cached new.cached → new.mark ≡ n.mark
      → Acts rests clock (comes size clock list from w) (carried w) peers n new before after disk
      disk
  acts_heard rests new before after disk keeps me up made stocks cached mark =
      let alike = heard_keeps size n.me clock list n.plain from w m is keeps in
      record {
        me = me;
        up = up;
        makes = made;
        stock = λ items. heard_stocks size n.me clock list (server n items) from w m came
            (stock n) (stock new) is brought (stocks items);
        cached = cached;
        mark = mark_as _ _ n.mark new.mark alike mark;
        written = disk_as _ _ new.mark new.mark disk disk alike refl refl;
      }

-- a client's message
pub acts_client : (size : List Entry → Entry → ℕ) (clock : ℕ) (list : List Entry)
    (from : ServerId) (w : Wire) (n : NodeValue) (peers : List Peer) (rests : Type 0)
    (outs : Outputs) (disk : Option Moments) → heard w ≡ None → n.halted ≡ false
    → Acts rests clock (comes size clock list from w) (carried w) peers n n outs outs disk disk
acts_client size clock list from w n peers rests outs disk is up =
    let alike = client_alike size n.me clock list n.plain from w is in
    record {
      me = refl;
      up = up;
      makes = λ r items. client_makes size n.me clock list (server n items) from w peers outs is;
      stock = λ items. client_stocks size n.me clock list (server n items) from w (stock n) is;
      cached = inl refl;
      mark = mark_as _ _ n.mark n.mark alike refl;
      written = disk_as _ _ n.mark n.mark disk disk alike refl refl;
    }
