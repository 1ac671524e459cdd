-- A message that has come, from what is made of it by its form.
use Rattle.std.proofs.Common.{◌≡◌, ℕ, ◌≤◌, List, [], Option, ap, refl, sym, subst, inl}
use Rattle.std.specs.Prelude.{None, Some, IfSome, option_map}
use Rattle.event_record.specs.declared.record.RecordFields.{RecordFields}
use Rattle.file_tree.specs.Book.{Entry}
use Rattle.group_rules.specs.Moves.{Move}
use Rattle.group_rules.specs.Names.{number_of_view, place_of}
use Rattle.group_rules.specs.Places.{Place}
use Rattle.group_rules.specs.State.{Fetch, Form, Join, Message, Server, top}
use Rattle.group_rules.specs.Step.{Comes, rule}
use Rattle.harp_types.specs.View.{View}
use Rattle.harp_types.specs.declared.peer.Peer.{Peer}
use Rattle.harp_types.specs.declared.server.ServerId.{ServerId}
use Rattle.harp_types.specs.declared.state.Held.{Held as Had}
use Rattle.harp_store.specs.Disk.{Moments}
use Rattle.harp_store.specs.Mark.{MarkFields}
use Rattle.idle_log.specs.Kept.{plan_of}
use Rattle.node.specs.Disk.{MayLeave, marked_by}
use Rattle.node.specs.Node.{NodeValue}
use Rattle.node.specs.Serving.{IsSized}
use Rattle.node.specs.Taking.{Fills, FillsFor, input_in, ruled}
use Rattle.node.proofs.Calls.{any_peers}
use Rattle.node.proofs.Marks.{IsAlike, alike_none, alike_on, alike_same}
use Rattle.node.proofs.Mute.{IsNoAck, KeepsMark, mute_rule, rule_unmarked}
use Rattle.node.proofs.Sent.{none_made}
use Rattle.node.specs.Stock.{Stock, Stocks}
use Rattle.node_outputs.specs.Makes.{Makes}
use Rattle.node_outputs.specs.Messages.{heard}
use Rattle.node_outputs.specs.Records.{carried}
use Rattle.node_outputs.specs.declared.outputs.Outputs.{Outputs}
use Rattle.view_form.specs.Choice.{report}
use Rattle.wire.specs.declared.message.Message.{Message as Wire}
use Rattle.wire.specs.declared.storers.Storers.{Storers}

-- ---- the machine's messages of a Join and of a Form

abbrev pub joins : View → Had → View → (base lb cp top horizon : ℕ) → Message Entry
joins view held accepted base lb cp top horizon = Join (number_of_view view) (report (record {
  held = held;
  accepted = accepted;
  base = base;
  lb = lb;
  cp = cp;
  top = top;
  horizon = horizon;
}))

abbrev pub forms : View → Storers → ServerId → (base cp start horizon : ℕ) → Message Entry
forms view storers source base cp start horizon = Form (number_of_view view) (plan_of (record {
  storers = storers;
  source = source;
  base = base;
  cp = cp;
  start = start;
  horizon = horizon;
}))

-- ---- a message of a server

pub heard_ack : (size : List Entry → Entry → ℕ) (q : Place) (clock : ℕ) (list : List Entry)
    (s new : Server Entry) (from : ServerId) (w : Wire) (m : Message Entry) (peers : List Peer)
    (before after : Outputs) → heard w ≡ Some m
    → Makes q clock (rule size q clock list s (Comes (place_of from) m)) peers s new before after
    → Makes q clock (ruled size q clock list s (input_in from w)) peers s new before after
heard_ack size q clock list s new from w m peers before after is made =
    subst (λ (o : Option (Message Entry)). Makes q clock
    (ruled size q clock list s (option_map (Comes (place_of from)) o)) peers s new before after)
    (sym is) made

-- one that answers nobody, whoever waits
pub heard_makes : (size : List Entry → Entry → ℕ) (q : Place) (clock : ℕ) (list : List Entry)
    (s new : Server Entry) (from : ServerId) (w : Wire) (m : Message Entry) (peers : List Peer)
    (before after : Outputs) → heard w ≡ Some m → IsNoAck m
    → Makes q clock (rule size q clock list s (Comes (place_of from) m)) [] s new before after
    → Makes q clock (ruled size q clock list s (input_in from w)) peers s new before after
heard_makes size q clock list s new from w m peers before after is none made =
    heard_ack size q clock list s new from w m peers before after is
    (any_peers q clock (rule size q clock list s (Comes (place_of from) m)) peers s new before
    after (mute_rule size q clock list s (place_of from) m none) made)

pub heard_alike : (size : List Entry → Entry → ℕ) (q : Place) (clock : ℕ) (list : List Entry)
    (s : Server Entry) (from : ServerId) (w : Wire) (m : Message Entry) → heard w ≡ Some m
    → IsAlike (ruled size q clock list s (input_in from w))
    (rule size q clock list s (Comes (place_of from) m))
heard_alike size q clock list s from w m is = alike_same _ _
    (ap (λ (o : Option (Message Entry)). ruled size q clock list s
    (option_map (Comes (place_of from)) o)) is)

-- one of a running view
pub heard_keeps : (size : List Entry → Entry → ℕ) (q : Place) (clock : ℕ) (list : List Entry)
    (s : Server Entry) (from : ServerId) (w : Wire) (m : Message Entry) → heard w ≡ Some m
    → KeepsMark m → IsAlike (ruled size q clock list s (input_in from w)) []
heard_keeps size q clock list s from w m is keeps = alike_on _ _ []
    (heard_alike size q clock list s from w m is)
    (alike_none (rule size q clock list s (Comes (place_of from) m))
    (rule_unmarked size q clock list s (place_of from) m keeps))

-- an error then leaves the disk as it was
pub keeps_part : (ms : List (Move Entry)) (mark : MarkFields) (told : Option Moments)
    → IsAlike ms [] → MayLeave ms (marked_by mark ms) told told
keeps_part ms mark told alike = inl refl

-- what a Fetch asks for
pub fills_fetch : (size : List Entry → Entry → ℕ) (list : List Entry) (n : NodeValue) (w : Wire)
    (v index : ℕ) → heard w ≡ Some (Fetch v index) → Fills size list n w
    → (n.plain.served ≤ top n.plain) × IsSized size list n v index
fills_fetch size list n w v index is fills =
    subst (λ (o : Option (Message Entry)). IfSome o (FillsFor size list n)) is fills

-- ---- a client's message

pub client_makes : (size : List Entry → Entry → ℕ) (q : Place) (clock : ℕ) (list : List Entry)
    (s : Server Entry) (from : ServerId) (w : Wire) (peers : List Peer) (outs : Outputs)
    → heard w ≡ None
    → Makes q clock (ruled size q clock list s (input_in from w)) peers s s outs outs
client_makes size q clock list s from w peers outs is =
    subst (λ (o : Option (Message Entry)). Makes q clock
    (ruled size q clock list s (option_map (Comes (place_of from)) o)) peers s s outs outs)
    (sym is) (none_made q clock s peers outs)

pub client_alike : (size : List Entry → Entry → ℕ) (q : Place) (clock : ℕ) (list : List Entry)
    (s : Server Entry) (from : ServerId) (w : Wire) → heard w ≡ None
    → IsAlike (ruled size q clock list s (input_in from w)) []
client_alike size q clock list s from w is = alike_same _ _
    (ap (λ (o : Option (Message Entry)). ruled size q clock list s
    (option_map (Comes (place_of from)) o)) is)

-- what a message makes of the records and of those who wait
pub heard_stocks : (size : List Entry → Entry → ℕ) (q : Place) (clock : ℕ) (list : List Entry)
    (s : Server Entry) (from : ServerId) (w : Wire) (m : Message Entry)
    (came : List RecordFields) (old new : Stock) → heard w ≡ Some m → carried w ≡ came
    → Stocks came q s (rule size q clock list s (Comes (place_of from) m)) old new
    → Stocks (carried w) q s (ruled size q clock list s (input_in from w)) old new
heard_stocks size q clock list s from w m came old new is brought h =
    subst (λ (rs : List RecordFields). Stocks rs q s
    (ruled size q clock list s (input_in from w)) old new) (sym brought)
    (subst (λ (o : Option (Message Entry)). Stocks came q s
    (ruled size q clock list s (option_map (Comes (place_of from)) o)) old new) (sym is) h)

pub client_stocks : (size : List Entry → Entry → ℕ) (q : Place) (clock : ℕ) (list : List Entry)
    (s : Server Entry) (from : ServerId) (w : Wire) (old : Stock) → heard w ≡ None
    → Stocks (carried w) q s (ruled size q clock list s (input_in from w)) old old
client_stocks size q clock list s from w old is =
    subst (λ (o : Option (Message Entry)). Stocks (carried w) q s
    (ruled size q clock list s (option_map (Comes (place_of from)) o)) old old) (sym is)
    (λ clock list askers. refl)
