use Rattle.std.proofs.Common.{List, [], ap, inl, inr, le_refl, map, refl, ◌∙◌}
use Rattle.event_record.specs.Record.{entry_of}
use Rattle.group_rules.specs.Form.{role_of as role_in}
use Rattle.group_rules.specs.Names.{place_of}
use Rattle.group_rules.specs.Places.{partner, same}
use Rattle.idle_log.specs.Kept.{plan_of, log_in}
use Rattle.node.proofs.Accepts.{node_accepts, node_active, node_leaves, node_marks}
use Rattle.node.specs.Forming.{accepted_mark, joined_node, joined_with}
use Rattle.event_record.specs.declared.record.RecordFields.{RecordFields}
use Rattle.idle_log.specs.Pulls.{adopted_records}
use Rattle.node.specs.Node.{NodeValue, server}
use Rattle.node.proofs.Handled.{fails_memory, fails_stored, no_memory}
use Rattle.node.proofs.Stocked.{accepting_stock}
use Rattle.node.proofs.Stocks.{as_stock, idle_if}
use Rattle.node.proofs.node.Node.accept.Goals as goal

pub returns-in-Err-clause-handles : goal.returns-in-Err-clause-handles
returns-in-Err-clause-handles g c clock = no_memory _ _ _ _ _ _ _ refl (inl refl)

pub returns-in-Err-clause-count : goal.returns-in-Err-clause-count
returns-in-Err-clause-count g c = le_refl _

pub returns-in-Err-clause-stock : goal.returns-in-Err-clause-stock
returns-in-Err-clause-stock g c = tt

pub returns-in_err-state-clause-handles : goal.returns-in_err-state-clause-handles
returns-in_err-state-clause-handles g c clock = fails_memory _ _ _ _ _ _ _ _ _ _ _ _ _ _
    c.from_residual.ensures.1 refl (inl refl)

pub returns-in_err-state-clause-count : goal.returns-in_err-state-clause-count
returns-in_err-state-clause-count g c = le_refl _

pub returns-in_err-write_mark-clause-handles : goal.returns-in_err-write_mark-clause-handles
returns-in_err-write_mark-clause-handles g c clock =
    fails_stored _ c.write_mark.result c.in_err-write_mark.field-0.0 _ _ _ _ _ _ _ _ _ _ _ _ _
    c.from_residual-in_err-write_mark.ensures.1 c.in_err-write_mark.was c.write_mark.ensures.rose
    refl (node_leaves
    c.args.self.now.me (joined_with c.args.self.now.plain c.args.pull.kept c.args.pull.joining)
    (plan_of c.args.pull.form) (map entry_of c.args.pull.staged.records)
    c.accepted_mark-mark.result c.args.self.now.mark _ _
    (node_marks c.self.inside.me c.self.inside.mark c.accepted_mark-mark.result
    c.self.inside.horizon c.self.inside.served c.self.inside.duty c.self.inside.state
    c.args.self.now c.args.pull.kept c.args.pull.joining c.args.pull.form
    c.args.pull.staged.records c.in-Ok.log c.self.view_is
    (c.accepted_mark-mark.ensures
    ∙ ap (accepted_mark c.self.inside.mark
    (role_in (plan_of c.args.pull.form).storers (place_of c.self.inside.me)))
    c.lb-lb.ensures.value) c.in-Ok.ensures.ok) c.in_err-write_mark.ensures.part)

pub returns-in_err-write_mark-clause-count : goal.returns-in_err-write_mark-clause-count
returns-in_err-write_mark-clause-count g c = c.write_mark.ensures.count

pub invariant_of-self : goal.invariant_of-self
invariant_of-self g c = (
  c.self.invariant.0,
  node_active c.self.inside.me c.promised-view.result c.self.inside.mark
      c.accepted_mark-mark.result c.args.pull.form c.in-Ok.log c.args.pull.joining
      c.in_ok-state.state (c.accepted_mark-mark.ensures
      ∙ ap (accepted_mark c.self.inside.mark
      (role_in (plan_of c.args.pull.form).storers (place_of c.self.inside.me)))
      c.lb-lb.ensures.value) c.promised-view.ensures.value c.in_ok-state.ensures.accepted,
)

pub returns-in_err-tell_formed-clause-handles : goal.returns-in_err-tell_formed-clause-handles
returns-in_err-tell_formed-clause-handles g c clock = fails_memory _ _ _ _ _ _ _ _ _ _ _ _ _ _
    c.from_residual-in_err-tell_formed.ensures.1 (ap (λ (n : NodeValue). n.me) c.self.view_is)
    (node_leaves
    c.args.self.now.me (joined_with c.args.self.now.plain c.args.pull.kept c.args.pull.joining)
    (plan_of c.args.pull.form) (map entry_of c.args.pull.staged.records)
    c.accepted_mark-mark.result c.args.self.now.mark _ _
    (node_marks c.self.inside.me c.self.inside.mark c.accepted_mark-mark.result
    c.self.inside.horizon c.self.inside.served c.self.inside.duty c.self.inside.state
    c.args.self.now c.args.pull.kept c.args.pull.joining c.args.pull.form
    c.args.pull.staged.records c.in-Ok.log c.self.view_is
    (c.accepted_mark-mark.ensures
    ∙ ap (accepted_mark c.self.inside.mark
    (role_in (plan_of c.args.pull.form).storers (place_of c.self.inside.me)))
    c.lb-lb.ensures.value) c.in-Ok.ensures.ok) (inr c.in_ok-write_mark.ensures.written))

pub returns-in_err-tell_formed-clause-count : goal.returns-in_err-tell_formed-clause-count
returns-in_err-tell_formed-clause-count g c = c.write_mark.ensures.count

pub invariant_of-self-2 : goal.invariant_of-self-2
invariant_of-self-2 g c = (
  c.self.invariant.0,
  node_active c.self.inside.me c.promised-view.result c.self.inside.mark
      c.accepted_mark-mark.result c.args.pull.form c.in-Ok.log c.args.pull.joining
      c.in_ok-state.state (c.accepted_mark-mark.ensures
      ∙ ap (accepted_mark c.self.inside.mark
      (role_in (plan_of c.args.pull.form).storers (place_of c.self.inside.me)))
      c.lb-lb.ensures.value) c.promised-view.ensures.value c.in_ok-state.ensures.accepted,
)

pub returns-clause-handles : goal.returns-clause-handles
returns-clause-handles g c clock =
    let now = c.args.self.now in
    let plan = plan_of c.args.pull.form in
    let kept = c.args.pull.kept in
    let old = joined_node now kept c.args.pull.joining in
    record {
      me = ap (λ (n : NodeValue). n.me) c.self.view_is;
      up = c.in_ok-state.ensures.accepted.up;
      makes = λ r items. node_accepts c.self.inside.me c.self.inside.mark
          c.accepted_mark-mark.result c.self.inside.horizon c.self.inside.served c.self.inside.duty
          c.self.inside.state c.args.self.now c.promised-view.result c.args.pull.kept
          c.args.pull.joining c.args.pull.form c.args.pull.staged.records c.in-Ok.log
          c.in_ok-state.state c.lb-lb.result items clock c.args.outs.now c.tell_formed.new.outs
          c.self.view_is
          (c.accepted_mark-mark.ensures
          ∙ ap (accepted_mark c.self.inside.mark
          (role_in (plan_of c.args.pull.form).storers (place_of c.self.inside.me)))
          c.lb-lb.ensures.value) c.lb-lb.ensures.value c.promised-view.ensures.value
          c.in-Ok.ensures.ok
          c.in_ok-state.ensures.accepted
          c.in_ok-tell_formed.ensures;
      stock = λ items. accepting_stock c.args.pull.staged.records now.me (server old items) plan
          _ _ _ kept [] _ (idle_if (same now.me (partner plan.storers)) _ [] (tt, tt) tt)
          (c.in_ok-state.ensures.stock
          ∙ ap (λ (xs : List RecordFields). as_stock xs [] [])
          (c.in-Ok.ensures.ok.records c.args.self.now.plain
          ∙ ap (λ (n : NodeValue). adopted_records n.me
          (joined_with c.args.self.now.plain c.args.pull.kept c.args.pull.joining)
          (plan_of c.args.pull.form) (log_in c.args.pull.kept).records c.args.pull.staged.records)
          c.self.view_is));
      cached = inl c.in_ok-state.ensures.cached;
      mark = node_marks c.self.inside.me c.self.inside.mark
          c.accepted_mark-mark.result
          c.self.inside.horizon c.self.inside.served c.self.inside.duty c.self.inside.state
          c.args.self.now c.args.pull.kept c.args.pull.joining c.args.pull.form
          c.args.pull.staged.records c.in-Ok.log c.self.view_is
          (c.accepted_mark-mark.ensures
          ∙ ap (accepted_mark c.self.inside.mark
          (role_in (plan_of c.args.pull.form).storers (place_of c.self.inside.me)))
          c.lb-lb.ensures.value) c.in-Ok.ensures.ok;
      written = c.in_ok-write_mark.ensures.written;
    }

pub returns-clause-count : goal.returns-clause-count
returns-clause-count g c = c.write_mark.ensures.count

pub returns-clause-stock : goal.returns-clause-stock
returns-clause-stock g c = c.in_ok-state.ensures.stock
    ∙ ap (λ (xs : List RecordFields). as_stock xs [] [])
    (c.in-Ok.ensures.ok.records c.args.self.now.plain
    ∙ ap (λ (n : NodeValue). adopted_records n.me
    (joined_with c.args.self.now.plain c.args.pull.kept c.args.pull.joining)
    (plan_of c.args.pull.form) (log_in c.args.pull.kept).records c.args.pull.staged.records)
    c.self.view_is)
