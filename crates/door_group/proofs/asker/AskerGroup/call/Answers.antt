use Rattle.std.proofs.Common.{◌≡◌, ℕ, List, Err, ap, refl, subst, sym}
use Rattle.std.proofs.lemmas.List.{append-nil}
use Rattle.harp_types.specs.declared.server.ServerId.{ServerId}
use Rattle.rpc_door.specs.declared.group.Exchange.{Exchange}
use Rattle.rpc_door.specs.declared.group.GroupFault.TheVariants as group
use Rattle.door_group.specs.Rule.{AreMade, Before, GivesUp, IsMade, Outcome}
use Rattle.door_group.specs.Rule.Outcome.{Done}
use Rattle.door_group.proofs.Calls.{made_then}
use Rattle.door_group.proofs.asker.AskerGroup.call.Goals as goal
use Rattle.door_group.proofs.asker.AskerGroup.call.Goals.{then-eq, else-eq}

pub returns-in-Ok-clause-told : goal.returns-in-Ok-clause-told
returns-in-Ok-clause-told g c first before h =
    let turns = g.S.Servers.turns in
    let asks = g.S.Servers.asks in
    let turn_breaks = g.S.Servers.turn_breaks in
    let ask_breaks = g.S.Servers.ask_breaks in
    let a = c.args.self.now in
    let d = c.in-Ok.ensures.done h.0.scene (h.4 c.requires.0) in
    let here = subst (λ (p : ServerId). IsMade turns asks turn_breaks ask_breaks a.turns (record {
      client = a.client;
      number = a.next;
      cred = c.args.cred;
      call = c.args.call.now;
    }) (Done c.in-Ok.reply c.in-Ok.place d.0) p h.0.scene) h.3 d.1 in
    let made = subst (λ (n : ℕ). IsMade turns asks turn_breaks ask_breaks a.turns (record {
      client = a.client;
      number = n;
      cred = c.args.cred;
      call = c.args.call.now;
    }) (Done c.in-Ok.reply c.in-Ok.place d.0) h.0.place h.0.scene) h.2 here in
    let after : Before g.S.Servers.Scene = record {
      number = c.saturating_add-self.result;
      place = c.in-Ok.place;
      scene = d.0;
    } in (
      after,
      made_then turns asks turn_breaks ask_breaks a.client a.turns before _ first h.0 after h.1
          (after, rw h.2 at c.saturating_add-self.ensures, made, refl),
      refl,
      refl,
      λ runs. d.2,
      λ stopped. absurd cc (stopped, c.requires.0),
    )

pub returns-after-eq-clause-unanswered : goal.returns-after-eq-clause-unanswered
returns-after-eq-clause-unanswered g c first before h =
    let turns = g.S.Servers.turns in
    let asks = g.S.Servers.asks in
    let turn_breaks = g.S.Servers.turn_breaks in
    let ask_breaks = g.S.Servers.ask_breaks in
    let a = c.args.self.now in
    let becomes : ServerId → ℕ → Outcome g.S.Servers.Scene g.S.Servers.Trail → Type 0 =
    λ p n o. IsMade turns asks turn_breaks ask_breaks a.turns (record {
      client = a.client;
      number = n;
      cred = c.args.cred;
      call = c.args.call.now;
    }) o p h.0.scene in
    let gives : ServerId → ℕ → Type 0 = λ p n. GivesUp
    (g.S.Servers.stands c.make_call.new.servers) (g.S.Servers.trail c.make_call.new.servers)
    (becomes p n) c.in-Err.fault in
    let given : gives h.0.place h.0.number =
    subst (gives h.0.place) h.2 (subst (λ (p : ServerId). gives p a.next) h.3
    (c.in-Err.ensures.given_up h.0.scene (h.4 c.requires.0))) in
    let failed : c.in-Err.fault ≡ group.Failed → g.S.Servers.failed c.make_call.new.servers =
    λ e. (c.in-Err.ensures.failed (ap Err e)).0 in
    elim c.if-eq.branch [
      | then-eq w ↦ rw w.self-is (h.0, h.1, given, failed)
      | else-eq w ↦ rw w.self-is (h.0, h.1, given, failed)
    ]

pub returns-after-eq-clause-told : goal.returns-after-eq-clause-told
returns-after-eq-clause-told g c first before h =
    let all = subst (λ (xs : List Exchange). AreMade g.S.Servers.turns g.S.Servers.asks
    g.S.Servers.turn_breaks g.S.Servers.ask_breaks
    c.args.self.now.client c.args.self.now.turns xs first h.0)
    (sym (append-nil before)) h.1 in
    let turns = g.S.Servers.turns in
    let asks = g.S.Servers.asks in
    let turn_breaks = g.S.Servers.turn_breaks in
    let ask_breaks = g.S.Servers.ask_breaks in
    let a = c.args.self.now in
    let becomes : ServerId → ℕ → Outcome g.S.Servers.Scene g.S.Servers.Trail → Type 0 =
    λ p n o. IsMade turns asks turn_breaks ask_breaks a.turns (record {
      client = a.client;
      number = n;
      cred = c.args.cred;
      call = c.args.call.now;
    }) o p h.0.scene in
    let gives : ServerId → ℕ → Type 0 = λ p n. GivesUp
    (g.S.Servers.stands c.make_call.new.servers) (g.S.Servers.trail c.make_call.new.servers)
    (becomes p n) c.in-Err.fault in
    let given : gives h.0.place h.0.number =
    subst (gives h.0.place) h.2 (subst (λ (p : ServerId). gives p a.next) h.3
    (c.in-Err.ensures.given_up h.0.scene (h.4 c.requires.0))) in
    elim c.if-eq.branch [
      | then-eq w ↦
          rw w.self-is (
            h.0,
            all,
            h.2,
            h.3,
            λ e. absurd cc,
            λ e. (c.in-Err.fault, c.args.cred, c.args.call.now, given),
          )
      | else-eq w ↦
          rw w.self-is (
            h.0,
            all,
            h.2,
            h.3,
            λ e. absurd cc,
            λ e. (c.in-Err.fault, c.args.cred, c.args.call.now, given),
          )
    ]
