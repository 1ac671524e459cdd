use Rattle.std.proofs.Common.{◌≡◌, rules, subst}
use Rattle.group_rules.specs.Moves.{Saving, act}
use Rattle.group_rules.specs.Names.{place_of}
use Rattle.group_rules.specs.State.{mark_of}
use Rattle.harp_store.specs.Mark.{MarkFields}
use Rattle.node.proofs.Powering.{left_is, saving_is}
use Rattle.node.specs.Node.{NodeValue, server}
use Rattle.node.specs.Power.{mark_left, saving_mark}
use Rattle.power_save.specs.Saved.{SavesInPart, saved_mark}
use Rattle.volatile_log.specs.Log.{room}
use Rattle.node.proofs.node.Node.power.Goals as goal

pub returns-in-Some-clause-machine : goal.returns-in-Some-clause-machine
returns-in-Some-clause-machine g c = λ items clock.
    let n = c.self.inside in
    let kept = c.into_kept-kept.ensures in
    subst (λ (v : NodeValue). mark_left v items ≡ mark_of (act v.me clock (server v items) Saving))
    c.self.view_is
    (left_is n.me n.mark n.horizon n.served n.duty n.state c.into_kept-kept.result items clock
    (kept.kept (place_of n.me) n.mark c.self.invariant.1) kept.held kept.ap)

pub returns-in-Some-clause-moments : goal.returns-in-Some-clause-moments
returns-in-Some-clause-moments g c up saves =
    let old = g.D.Store.told c.args.store.now in
    let new = g.D.Store.told c.save_log.new.store in
    let n = c.self.inside in
    let kept = c.into_kept-kept.ensures in
    let mark : saved_mark room c.in-Some.log n.mark ≡ saving_mark c.args.self =
    saving_is n.me n.mark n.horizon n.served n.duty n.state c.into_kept-kept.result c.in-Some.log
    c.args.self c.self.view_is c.in-Some.ensures.value kept.base kept.ap kept.cp kept.items in
    record {
      log = c.in-Some.log;
      records = search rules;
      numbered = c.save_log.ensures.numbered;
      entries = search rules;
      part = subst (λ (m : MarkFields). SavesInPart c.in-Some.log m old new) mark
          c.save_log.ensures.part;
      moments = c.save_log.ensures.moments;
    }

pub returns-in-Some-clause-faults : goal.returns-in-Some-clause-faults
returns-in-Some-clause-faults g c = c.save_log.ensures.faults.counts
