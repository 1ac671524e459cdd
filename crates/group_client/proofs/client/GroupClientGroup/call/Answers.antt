use Rattle.std.proofs.Common.{List, refl, subst, sym}
use Rattle.std.proofs.lemmas.List.{append-nil}
use Rattle.rpc_door.specs.declared.group.Exchange.{Exchange}
use Rattle.group_client.specs.Calling.{before_call, caller_of}
use Rattle.group_client.specs.Rule.{AreMade}
use Rattle.group_client.proofs.Calls.{made_then}
use Rattle.group_client.proofs.client.GroupClientGroup.call.Goals as goal
use Rattle.group_client.proofs.client.GroupClientGroup.call.Goals.{then-eq, else-eq}

pub returns-in-Ok-clause-told : goal.returns-in-Ok-clause-told
returns-in-Ok-clause-told g c first before h =
    let link = g.L.Link.told in
    let clock = g.C.Clock.told in
    let a = c.args.self.now in (
      λ runs. made_then (caller_of a) before _ first (before_call link clock a) _
          (h.0 c.requires) (_, c.saturating_add-self.ensures, c.in-Ok.ensures.made, refl),
      λ stopped. absurd cc (stopped, c.requires),
    )

pub returns-after-eq-clause-told : goal.returns-after-eq-clause-told
returns-after-eq-clause-told g c first before h =
    let a = c.args.self.now in
    let was = before_call g.L.Link.told g.C.Clock.told a in
    let all = subst (λ (xs : List Exchange). AreMade (caller_of a) xs first was)
    (sym (append-nil before)) (h.0 c.requires) in
    elim c.if-eq.branch [
      | then-eq w ↦
          rw w.self-is (
            λ e. absurd cc,
            λ e. (was, all, (c.in-Err.fault, c.args.cred, c.args.call.now, c.in-Err.ensures.made)),
          )
      | else-eq w ↦
          rw w.self-is (
            λ e. absurd cc,
            λ e. (was, all, (c.in-Err.fault, c.args.cred, c.args.call.now, c.in-Err.ensures.made)),
          )
    ]

pub returns-after-eq-clause-unanswered : goal.returns-after-eq-clause-unanswered
returns-after-eq-clause-unanswered g c first before h =
    let a = c.args.self.now in
    let was = before_call g.L.Link.told g.C.Clock.told a in
    elim c.if-eq.branch [
      | then-eq w ↦ rw w.self-is (was, h.0 c.requires, c.in-Err.ensures.made)
      | else-eq w ↦ rw w.self-is (was, h.0 c.requires, c.in-Err.ensures.made)
    ]
