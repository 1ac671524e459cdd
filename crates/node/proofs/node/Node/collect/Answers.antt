use Rattle.std.proofs.Common.{[], ap, inl, le_refl, refl, subst, sym, ◌∙◌, ◌∷◌}
use Rattle.std.specs.Prelude.{⊤}
use Rattle.cell_cache.specs.Entries.{Entries}
use Rattle.group_rules.specs.Choose.{greatest}
use Rattle.group_rules.specs.Joining.{on_join}
use Rattle.group_rules.specs.Moves.{Collecting}
use Rattle.group_rules.specs.Names.{number_of_view, place_of}
use Rattle.group_rules.specs.State.{Duty}
use Rattle.node.proofs.Chosen.{chooses_from, collecting, disk_from, marks_from, node_collects, none_moves, part_from}
use Rattle.node.proofs.Collects.{a_choice, other_join}
use Rattle.node.proofs.Handled.{acts_idle, acts_so, both_ways, handles_so, saving}
use Rattle.node.proofs.Stocked.{stock_from}
use Rattle.node.specs.Cached.{IsCachedAs}
use Rattle.node.specs.Collecting.{choosing}
use Rattle.node.specs.Node.{NodeValue, server, value}
use Rattle.node.specs.State.{CollectsStill, duty_of}
use Rattle.node.specs.Stock.{stock}
use Rattle.node.specs.declared.state.Task.{Task}
use Rattle.view_form.specs.Choice.{report, reports}
use Rattle.node.proofs.node.Node.collect.Goals as goal

pub returns-then-not-has_promised-clause-handles : goal.returns-then-not-has_promised-clause-handles
returns-then-not-has_promised-clause-handles g c clock =
    let now = c.args.self.now in
    let from = place_of c.args.from in
    let v = number_of_view c.args.view in
    acts_idle ⊤ clock (λ q s. on_join q s from v (report c.args.info) s.duty) [] now now
    c.args.outs.now (g.D.Store.told c.args.store.now) refl c.requires.up
    (λ saved. other_join now.me (saving now saved) from v (report c.args.info) now.plain.duty
    (sym c.has_promised.ensures.test ∙ c.if-not-has_promised.true))

pub returns-then-not-has_promised-clause-count : goal.returns-then-not-has_promised-clause-count
returns-then-not-has_promised-clause-count g c = le_refl _

pub returns-in-Free-clause-handles : goal.returns-in-Free-clause-handles
returns-in-Free-clause-handles g c clock =
    let n = c.self.inside in
    let now = c.args.self.now in
    let from = place_of c.args.from in
    let v = number_of_view c.args.view in
    let at = sym c.replace.ensures.value ∙ c.in-Free.is in
    acts_idle ⊤ clock (λ q s. on_join q s from v (report c.args.info) s.duty) [] now _
    c.args.outs.now (g.D.Store.told c.args.store.now)
    (ap (λ (d : Task). value n.me n.mark n.horizon n.served d n.state)
    (c.replace.ensures.after ∙ sym at) ∙ c.self.view_is)
    c.requires.up
    (λ saved. ap (λ (d : Duty). on_join now.me (saving now saved) from v (report c.args.info) d)
    (ap (λ (x : NodeValue). x.plain.duty) (sym c.self.view_is) ∙ ap duty_of at))

pub returns-in-Free-clause-count : goal.returns-in-Free-clause-count
returns-in-Free-clause-count g c = le_refl _

pub returns-in-Chose-clause-handles : goal.returns-in-Chose-clause-handles
returns-in-Chose-clause-handles g c clock =
    let n = c.self.inside in
    let now = c.args.self.now in
    let from = place_of c.args.from in
    let v = number_of_view c.args.view in
    let at = sym c.replace.ensures.value ∙ c.in-Chose.is in
    acts_idle ⊤ clock (λ q s. on_join q s from v (report c.args.info) s.duty) [] now _
    c.args.outs.now (g.D.Store.told c.args.store.now)
    (ap (λ (d : Task). value n.me n.mark n.horizon n.served d n.state) (sym at) ∙ c.self.view_is)
    c.requires.up
    (λ saved. ap (λ (d : Duty). on_join now.me (saving now saved) from v (report c.args.info) d)
    (ap (λ (x : NodeValue). x.plain.duty) (sym c.self.view_is) ∙ ap duty_of at))

pub returns-in-Chose-clause-count : goal.returns-in-Chose-clause-count
returns-in-Chose-clause-count g c = le_refl _

pub returns-in-None-clause-handles : goal.returns-in-None-clause-handles
returns-in-None-clause-handles g c clock =
    let now = c.args.self.now in
    let from = place_of c.args.from in
    let v = number_of_view c.args.view in
    let joins = reports c.join-chosen.new.self.joins in
    acts_so ⊤ clock (λ q s. on_join q s from v (report c.args.info) s.duty)
    (λ q s. Collecting joins ∷ []) [] [] now _ c.args.outs.now c.args.outs.now
    (g.D.Store.told c.args.store.now) (g.D.Store.told c.args.store.now)
    (λ saved. none_moves c.self.inside.me c.self.inside.mark c.self.inside.horizon
    c.self.inside.served
    c.self.inside.duty c.self.inside.state now
    (λ (n : NodeValue). saving n saved) c.in-Collects.collector c.join-chosen.new.self
    c.args.from v c.args.info (record { promised = λ n. refl; duty = λ n. refl })
    (sym c.replace.ensures.value ∙ c.in-Collects.is) c.self.view_is
    (sym c.has_promised.ensures.test ∙ c.if-not-has_promised.false) c.self.invariant.0
    c.join-chosen.ensures.joins (sym c.join-chosen.ensures.plan ∙ c.in-None.is))
    (record {
      me = ap (λ (n : NodeValue). n.me) c.self.view_is;
      up = ap (λ (n : NodeValue). n.halted) c.self.view_is ∙ c.requires.up;
      makes = λ r items. node_collects c.self.inside.me c.self.inside.mark c.self.inside.horizon
          c.self.inside.served
          c.self.inside.duty c.self.inside.state now
          c.join-chosen.new.self items clock (Collecting joins ∷ []) c.args.outs.now
          c.self.view_is refl;
      stock = λ items clk list askers. ap stock c.self.view_is;
      cached = inl (ap (λ (n : NodeValue). n.cached) c.self.view_is);
      mark = ap (λ (n : NodeValue). n.mark) c.self.view_is;
      written = refl;
    })

pub returns-in-None-clause-count : goal.returns-in-None-clause-count
returns-in-None-clause-count g c = le_refl _

pub returns-in-Some-clause-handles : goal.returns-in-Some-clause-handles
returns-in-Some-clause-handles g c clock =
    let now = c.args.self.now in
    let new = c.choose.new.self in
    let from = place_of c.args.from in
    let v = number_of_view c.args.view in
    let at = sym c.replace.ensures.value ∙ c.in-Collects.is in
    let duty = collecting c.self.inside.me c.self.inside.mark c.self.inside.horizon
    c.self.inside.served
    c.self.inside.duty c.self.inside.state now
    c.in-Collects.collector at c.self.view_is in
    let view = sym c.has_promised.ensures.test ∙ c.if-not-has_promised.false in
    let ch = a_choice now.me c.args.from v c.args.info c.in-Collects.collector c.in-Some.choice
    (subst CollectsStill at c.self.invariant.0) (sym c.join-chosen.ensures.plan ∙ c.in-Some.is) in
    let last = greatest ch.reports in
    let disk = g.D.Store.told c.args.store.now in
    let left = g.D.Store.told c.choose.new.store in
    handles_so c.choose.result ⊤ clock
    (λ q s. on_join q s from v (report c.args.info) s.duty)
    (λ q s. choosing q s ch.reports ch.chosen last) [] [] now new c.args.outs.now
    c.choose.new.outs disk left (g.D.Store.faults c.args.store.now)
    (g.D.Store.faults c.choose.new.store) (λ saved. ch.moves (saving now saved) view duty)
    (both_ways c.choose.result (c.choose.ensures.handles clock ch.reports last ch.chosen ch.is)
    (λ h. record {
      me = h.me ∙ ap (λ (n : NodeValue). n.me) c.self.view_is;
      up = h.up;
      makes = λ r items. chooses_from c.self.inside.me c.self.inside.mark c.self.inside.horizon
          c.self.inside.served
          c.self.inside.duty c.self.inside.state now
          ch.reports last ch.chosen items clock (server new items) c.replace.new.dest
          c.args.outs.now c.choose.new.outs c.self.view_is (h.makes tt items);
      stock = λ items. stock_from c.self.inside.me c.self.inside.mark c.self.inside.horizon
          c.self.inside.served
          c.self.inside.duty c.self.inside.state now
          ch.reports last ch.chosen items (stock new) c.self.view_is (h.stock items);
      cached = subst (λ (xs : Entries). IsCachedAs xs new.cached)
          (ap (λ (n : NodeValue). n.cached) c.self.view_is) h.cached;
      mark = h.mark ∙ marks_from c.self.inside.me c.self.inside.mark c.self.inside.horizon
          c.self.inside.served
          c.self.inside.duty c.self.inside.state now
          ch.reports last ch.chosen c.self.view_is;
      written = h.written ∙ disk_from c.self.inside.me c.self.inside.mark c.self.inside.horizon
          c.self.inside.served
          c.self.inside.duty c.self.inside.state now
          ch.reports last ch.chosen new.mark disk c.self.view_is;
    })
    (λ why h. record {
      me = h.me ∙ ap (λ (n : NodeValue). n.me) c.self.view_is;
      part = part_from c.self.inside.me c.self.inside.mark c.self.inside.horizon
          c.self.inside.served
          c.self.inside.duty c.self.inside.state now
          ch.reports last ch.chosen disk left c.self.view_is h.part;
      running = h.running;
      rose = h.rose;
    }))

pub returns-in-Some-clause-count : goal.returns-in-Some-clause-count
returns-in-Some-clause-count g c = c.choose.ensures.count
