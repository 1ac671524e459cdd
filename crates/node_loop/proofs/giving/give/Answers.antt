use Rattle.std.proofs.Common.{◌∙◌, ap, inl, inr, refl, subst}
use Rattle.node.specs.Input.{input_of}
use Rattle.node.specs.Taking.{stepped}
use Rattle.node_loop.specs.declared.counts.Counts.{Counts}
use Rattle.node_loop.specs.Cut.{SendsInPart}
use Rattle.node_loop.specs.Scene.{sent_after, with_all_sent}
use Rattle.node_loop.proofs.Lefts.{whole_left}
use Rattle.node_loop.proofs.Results.{on_err, on_err-one, on_ok-both}
use Rattle.node_loop.proofs.giving.give.Goals as goal

pub returns-in-Ok-clause-given : goal.returns-in-Ok-clause-given
returns-in-Ok-clause-given g c =
    let old = g.L.Link.told c.args.link.now in
    let out = c.in_ok-datagrams-in-Ok.ensures in
    on_ok-both c.send_all.result (λ all counts. record {
      outs = c.step_into.new.outs;
      step = record {
        steps = c.in-Ok.ensures.steps;
        listing = c.in-Ok.ensures.listing;
        is_server = c.in-Ok.ensures.is_server;
        me_stays = c.in-Ok.ensures.brings.me;
        mark = c.in-Ok.ensures.brings.mark;
        written = c.in-Ok.ensures.brings.written;
      };
      link = all ∙ ap (λ ds. with_all_sent ds old) out.sent;
      sent = ap (λ (n : Counts). n.sent) counts
          ∙ ap (λ ds. sent_after ds c.args.ledger.now.counts.sent) out.sent;
      heard = out.heard;
      spelled = out.spelled;
    }) c.send_all.ensures.all c.send_all.ensures.counts

pub returns-in-Ok-clause-part : goal.returns-in-Ok-clause-part
returns-in-Ok-clause-part g c =
    let old = g.L.Link.told c.args.link.now in
    let new = g.L.Link.told c.send_all.new.link in
    on_err-one c.send_all.result (λ part. inr (record {
      node = c.step_into.new.self;
      outs = c.step_into.new.outs;
      step = record {
        steps = c.in-Ok.ensures.steps;
        listing = c.in-Ok.ensures.listing;
        is_server = c.in-Ok.ensures.is_server;
        me_stays = c.in-Ok.ensures.brings.me;
        mark = c.in-Ok.ensures.brings.mark;
        written = c.in-Ok.ensures.brings.written;
      };
      spelled = c.in_ok-datagrams-in-Ok.ensures.spelled;
      sends = subst (λ ds. SendsInPart ds old new) c.in_ok-datagrams-in-Ok.ensures.sent part;
    })) c.send_all.ensures.part

-- what goes out has no spelling, or there is no memory for it: all is on the disk
pub returns-in_err-datagrams-in-Ok-clause-part : goal.returns-in_err-datagrams-in-Ok-clause-part
returns-in_err-datagrams-in-Ok-clause-part g c =
    let n = c.args.node.now in
    on_err c.from_residual.result (inl (record {
      disk = λ size list. whole_left n
          (stepped size n.me c.args.now list n.plain (input_of c.args.input))
          (input_of c.args.input) (g.D.Store.told c.args.store.now)
          (g.D.Store.told c.step_into.new.store) (c.in-Ok.ensures.brings.written size list);
      link = refl;
    }))

-- ---- what failed

pub returns-in-Ok-clause-link : goal.returns-in-Ok-clause-link
returns-in-Ok-clause-link g c = record {
  rose = c.send_all.ensures.rose;
  count = c.send_all.ensures.count;
}

pub returns-in-Ok-clause-disk : goal.returns-in-Ok-clause-disk
returns-in-Ok-clause-disk g c = record {
  rose = λ is. absurd (c.send_all.ensures.disk is);
  count = c.step_into.ensures.faults.count;
}
