use Rattle.std.proofs.Common.{inr, refl}
use Rattle.node_loop.proofs.Results.{on_err-one, on_ok-one}
use Rattle.node_loop.proofs.rounds.give_now.Goals as goal

pub returns-clause-given : goal.returns-clause-given
returns-clause-given g c = on_ok-one c.give.result (λ given. record {
  now = c.now-now.result;
  clock = c.now-now.ensures.told;
  given = given;
  pace = refl;
  taken = c.give.ensures.taken;
}) c.give.ensures.given

pub returns-clause-part : goal.returns-clause-part
returns-clause-part g c = on_err-one c.give.result (λ part. inr (record {
  now = c.now-now.result;
  clock = c.now-now.ensures.told;
  given = part;
})) c.give.ensures.part

pub returns-clause-link_rose : goal.returns-clause-link_rose
returns-clause-link_rose g c = c.give.ensures.link.rose

pub returns-clause-link_count : goal.returns-clause-link_count
returns-clause-link_count g c = c.give.ensures.link.count

pub returns-clause-disk_rose : goal.returns-clause-disk_rose
returns-clause-disk_rose g c = c.give.ensures.disk.rose

pub returns-clause-disk_count : goal.returns-clause-disk_count
returns-clause-disk_count g c = c.give.ensures.disk.count
