use Rattle.std.proofs.Common.{◌∙◌, ap, arith, inl, inr, refl, subst}
use Rattle.node_loop.specs.declared.counts.Counts.{Counts}
use Rattle.node_loop.specs.Chain.{Chain, Stops}
use Rattle.node_loop.specs.Cut.{IsGivenInPart, work_left}
use Rattle.node_loop.specs.Run.{IsGiven}
use Rattle.node_loop.specs.Scene.{work}
use Rattle.node_loop.specs.Turn.{FailsTurn, IsTurn, LinkTurns, is_dropped}
use Rattle.node_loop.proofs.Results.{on_err}
use Rattle.node_loop.proofs.rounds.turn_to.Goals as goal

pub returns-in-Ok-clause-turns : goal.returns-in-Ok-clause-turns
returns-in-Ok-clause-turns g c =
    let t = c.in_ok-turned.turned in
    record {
      turns = record {
        turned = t;
        before = g.L.Link.told c.take_turn.new.link;
        turn = subst (λ look. IsTurn c.args.me look c.args.running.now.pace c.take_turn.new.pace t)
            c.of-look.ensures c.in_ok-turned.ensures.turn.0;
        link = subst (λ look. LinkTurns c.args.me look c.args.running.now.pace t
            (g.L.Link.told c.args.link.now) (g.L.Link.told c.take_turn.new.link))
            c.of-look.ensures c.in_ok-turned.ensures.turn.1;
        clock = c.in_ok-turned.ensures.turn.2;
        taken = c.give_all.ensures.taken ∙ ap (λ (n : Counts). n.taken) c.take.ensures;
        given = subst (λ n. Chain (IsGiven c.args.me t.now) t.inputs.items
            (record {
              node = c.args.running.now.node;
              disk = g.D.Store.told c.args.store.now;
              link = g.L.Link.told c.take_turn.new.link;
              sent = n;
              heard = c.args.ledger.now.heard.items;
            })
            (work c.give_all.new.node (g.D.Store.told c.give_all.new.store)
            (g.L.Link.told c.give_all.new.link) c.give_all.new.ledger))
            (ap (λ (n : Counts). n.sent) c.take.ensures) c.in-Ok.ensures.given;
      };
      to = refl;
      dropped = c.is_dropped-dropped.ensures
          ∙ ap (λ inputs. is_dropped t.taken inputs) c.as_slice.ensures.value;
    }

pub returns-in_err-turned-clause-part : goal.returns-in_err-turned-clause-part
returns-in_err-turned-clause-part g c =
    on_err c.from_residual.result
    (inl (record {
      fails = subst (λ look. FailsTurn c.args.me look c.args.running.now.pace
          (g.L.Link.told c.args.link.now) (g.L.Link.told c.take_turn.new.link)
          (g.C.Clock.told c.args.clock.now) (g.C.Clock.told c.take_turn.new.clock))
          c.of-look.ensures c.in_err-turned.ensures.part.1;
      disk = refl;
    }))

pub returns-clause-part : goal.returns-clause-part
returns-clause-part g c =
    let t = c.in_ok-turned.turned in
    inr (record {
      turned = t;
      before = g.L.Link.told c.take_turn.new.link;
      pace = c.take_turn.new.pace;
      turn = subst (λ look. IsTurn c.args.me look c.args.running.now.pace c.take_turn.new.pace t)
          c.of-look.ensures c.in_ok-turned.ensures.turn.0;
      link = subst (λ look. LinkTurns c.args.me look c.args.running.now.pace t
          (g.L.Link.told c.args.link.now) (g.L.Link.told c.take_turn.new.link))
          c.of-look.ensures c.in_ok-turned.ensures.turn.1;
      clock = c.in_ok-turned.ensures.turn.2;
      given = subst (λ n. Stops (IsGiven c.args.me t.now) (IsGivenInPart c.args.me t.now)
          t.inputs.items
          (record {
            node = c.args.running.now.node;
            disk = g.D.Store.told c.args.store.now;
            link = g.L.Link.told c.take_turn.new.link;
            sent = n;
            heard = c.args.ledger.now.heard.items;
          })
          (work_left (g.D.Store.told c.give_all.new.store) (g.L.Link.told c.give_all.new.link)))
          (ap (λ (n : Counts). n.sent) c.take.ensures) c.in-Err.ensures.part;
    })

pub returns-in-Ok-clause-link_count : goal.returns-in-Ok-clause-link_count
returns-in-Ok-clause-link_count g c =
    omega (arith, c.take_turn.ensures.count, c.give_all.ensures.link.count)

pub returns-in-Ok-clause-disk_count : goal.returns-in-Ok-clause-disk_count
returns-in-Ok-clause-disk_count g c = c.give_all.ensures.disk.count

pub returns-clause-link_rose : goal.returns-clause-link_rose
returns-clause-link_rose g c = λ is.
    let risen = c.in-Err.ensures.link.rose cc in
    omega (arith, c.take_turn.ensures.count, risen)

pub returns-clause-link_count : goal.returns-clause-link_count
returns-clause-link_count g c =
    omega (arith, c.take_turn.ensures.count, c.give_all.ensures.link.count)

pub returns-clause-disk_rose : goal.returns-clause-disk_rose
returns-clause-disk_rose g c = λ is. c.in-Err.ensures.disk.rose cc

pub returns-clause-disk_count : goal.returns-clause-disk_count
returns-clause-disk_count g c = c.give_all.ensures.disk.count
