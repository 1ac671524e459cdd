use Rattle.std.proofs.Common.{◌∷◌, ◌≡◌, ◌≤◌, [], ap, arith, refl, subst, sym}
use Rattle.std.proofs.lemmas.Result.{IfOk-from_err}
use Rattle.group_rules.specs.Moves.{Sending}
use Rattle.group_rules.specs.Names.{place_of}
use Rattle.group_rules.specs.State.{Fetch}
use Rattle.idle_log.specs.Kept.{plan_of}
use Rattle.node.proofs.Given.{pulled_so}
use Rattle.node.proofs.Sent.{sent_as}
use Rattle.node.specs.Forming.{pulling_with}
use Rattle.node.specs.Node.{NodeValue, server, value}
use Rattle.node.specs.State.{HearsOthers, IsKept, IsPulling}
use Rattle.node.specs.declared.state.State.TheVariants as state
use Rattle.volatile_log.specs.Log.{next}
use Rattle.node.proofs.node.Node.fetch.Goals as goal

pub returns-in_err-send-clause-fetches : goal.returns-in_err-send-clause-fetches
returns-in_err-send-clause-fetches c = IfOk-from_err c.from_residual.result _
    c.from_residual.ensures.0

pub returns-in_err-send-clause-me : goal.returns-in_err-send-clause-me
returns-in_err-send-clause-me c = ap (λ (n : NodeValue). n.me) c.self.view_is

pub invariant_of-self : goal.invariant_of-self
invariant_of-self c =
    let is = sym c.self.view_is in
    let p = c.args.pull in
    let some : 1 ≤ p.staged.first = omega (arith, c.requires.pulls.list.0) in (
      c.self.invariant.0,
      (
        subst (λ (n : NodeValue). IsKept n.me n.mark p.kept) is c.requires.kept,
        some,
        subst (λ (n : NodeValue). HearsOthers n.me p.joining) is c.requires.others,
        subst (λ (n : NodeValue). IsPulling n.me p.kept (plan_of p.form) p.staged) is
            c.requires.pulls,
      ),
    )

pub returns-clause-fetches : goal.returns-clause-fetches
returns-clause-fetches c =
    let n = c.self.inside in
    let to = place_of c.args.pull.form.source in
    record {
      up = refl;
      state = λ items. let is : server (value n.me n.mark n.horizon n.served n.duty
          (state.Pulls c.args.pull.kept c.args.pull.joining c.args.pull.form c.args.pull.staged))
          items ≡ pulling_with (server c.args.self.now items) c.args.pull =
          pulled_so n.me n.mark n.horizon n.served n.duty n.state c.args.self.now c.args.pull
          c.args.pull.staged items c.self.view_is c.requires.kept refl in
          is;
      sends = λ s clock. sent_as c.args.self.now.me clock _ c.self.inside.mark.promised to
          c.promised-view.result
          c.next-first.result (next c.args.pull.staged) s c.args.outs.now c.send.new.self (tt, tt)
          (ap (λ (n : NodeValue). Sending to (Fetch n.plain.promised (next c.args.pull.staged))
          ∷ []) (sym c.self.view_is)) c.promised-view.ensures.value c.next-first.ensures.value
          c.in_ok-send.ensures.said;
      stock = refl;
      cached = refl;
      mark = ap (λ (n : NodeValue). n.mark) c.self.view_is;
    }

pub returns-clause-me : goal.returns-clause-me
returns-clause-me c = ap (λ (n : NodeValue). n.me) c.self.view_is
