-- A step that leaves a server as it is, and makes no move.
use Rattle.std.proofs.Common.{◌≡◌, ◌+◌, ◌==◌, ℕ, Bool, true, false, if◌then◌else◌, length, List, [], ◌∷◌, refl, ap}
use Rattle.std.specs.Prelude.{Option}
use Rattle.event_record.specs.declared.record.RecordFields.{RecordFields}
use Rattle.file_tree.specs.Book.{Entry}
use Rattle.group_rules.proofs.Tests.{if_not}
use Rattle.group_rules.specs.Form.{fits, form_moves, on_form, on_give}
use Rattle.group_rules.specs.Limits.{is_joins, is_pulls}
use Rattle.group_rules.specs.Moves.{Move}
use Rattle.group_rules.specs.Places.{Place, all_of}
use Rattle.group_rules.specs.State.{Plan, Server}
use Rattle.harp_store.specs.Disk.{Moments}
use Rattle.harp_store.specs.Mark.{MarkFields}
use Rattle.node.proofs.Heeds.{no_first}
use Rattle.node.proofs.Saying.{disk_so, makes_so, mark_so, unsaid}
use Rattle.node.proofs.Stocks.{stocks_so}
use Rattle.node.specs.Disk.{disk_after, marked_by}
use Rattle.node.specs.Misfits.{pulls_view}
use Rattle.node.specs.Node.{NodeValue, server}
use Rattle.node.specs.Stock.{Stocks, stock}
use Rattle.node_outputs.specs.Makes.{Makes}
use Rattle.node_outputs.specs.Said.{said}
use Rattle.node_outputs.specs.declared.outputs.Outputs.{Outputs}

pub none_makes : (clock : ℕ) (n new : NodeValue) (items : List Entry) (ms : List (Move Entry))
    (outs : Outputs) → new ≡ n → ms ≡ []
    → Makes n.me clock ms [] (server n items) (server new items) outs outs
none_makes clock n new items ms outs same none =
    makes_so n.me clock ms [] (server n items) (server new items) outs outs none (record {
      state = ap (λ (x : NodeValue). server x items) same;
      said = unsaid (said outs);
    })

pub none_stocks : (came : List RecordFields) (n new : NodeValue) (items : List Entry)
    (ms : List (Move Entry)) → new ≡ n → ms ≡ []
    → Stocks came n.me (server n items) ms (stock n) (stock new)
none_stocks came n new items ms same none =
    stocks_so came n.me (server n items) ms [] (stock n) (stock new) none
    (λ clock list askers. ap stock same)

pub none_marks : (n new : NodeValue) (ms : List (Move Entry)) → new ≡ n → ms ≡ []
    → new.mark ≡ marked_by n.mark ms
none_marks n new ms same none =
    mark_so n.mark new.mark ms [] none (ap (λ (x : NodeValue). x.mark) same)

pub none_written : (ms : List (Move Entry)) (mark : MarkFields) (told : Option Moments) → ms ≡ []
    → told ≡ disk_after ms mark told
none_written ms mark told none = disk_so told ms [] mark told none refl

-- ---- which servers make no move

pub unjoined : (q : Place) (s : Server Entry) (plan : Plan) → is_joins s.mode ≡ false
    → form_moves q s plan ≡ []
unjoined q s plan out = if_not (all_of (is_joins s.mode ∷ fits q s plan ∷ [])) _ []
    (no_first (is_joins s.mode) (fits q s plan ∷ []) out)

pub other_form : (q : Place) (s : Server Entry) (v : ℕ) (plan : Plan)
    → (v == s.promised) ≡ false → on_form q s v plan ≡ []
other_form q s v plan other = if_not (v == s.promised) _ [] other

both_fail : (a b c : Bool) (ms : List (Move Entry)) → all_of (b ∷ a ∷ []) ≡ false
    → (if all_of (a ∷ b ∷ c ∷ []) then ms else []) ≡ []
unfolding all_of
both_fail true true c ms h = cc
both_fail true false c ms h = refl
both_fail false b c ms h = refl

pub unpulled_for : (q : Place) (s : Server Entry) (v index : ℕ) (items : List Entry)
    → pulls_view s v ≡ false → on_give q s v index items ≡ []
unpulled_for q s v index items h =
    both_fail (is_pulls s.mode) (v == s.promised) (index == s.wanted_from + length s.staged + 1) _ h
