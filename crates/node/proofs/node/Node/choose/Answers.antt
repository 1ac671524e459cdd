use Rattle.std.proofs.Common.{ap, inl, le_refl, refl, subst, sym, ◌∙◌}
use Rattle.group_rules.specs.Names.{view_of}
use Rattle.node.proofs.Collects.{chosen_disk, chosen_marks, chosen_part, node_chooses}
use Rattle.node.proofs.Handled.{both_ways, fails_memory}
use Rattle.cell_cache.specs.Entries.{Entries}
use Rattle.node.specs.Cached.{IsCachedAs}
use Rattle.node.specs.Node.{NodeValue, server}
use Rattle.node.proofs.Stocked.{chosen_stock}
use Rattle.node.specs.Stock.{stock}
use Rattle.node.proofs.node.Node.choose.Goals as goal

pub returns-in_err-send_forms-clause-handles : goal.returns-in_err-send_forms-clause-handles
returns-in_err-send_forms-clause-handles g c clock reports from chosen is = fails_memory _ _ _ _ _
    _ _ _ _ _ _ _ _ _
    c.from_residual.ensures.1 (ap (λ (n : NodeValue). n.me) c.self.view_is) (inl refl)

pub returns-in_err-send_forms-clause-count : goal.returns-in_err-send_forms-clause-count
returns-in_err-send_forms-clause-count g c = le_refl _

pub returns-clause-handles : goal.returns-clause-handles
returns-clause-handles g c clock reports from chosen is = both_ways c.form_part.result
    (c.form_part.ensures.handles clock)
    (λ h. record {
      me = h.me ∙ ap (λ (n : NodeValue). n.me) c.self.view_is;
      up = h.up;
      makes = λ r items. node_chooses c.self.inside.me c.self.inside.mark
          c.self.inside.horizon c.self.inside.served
          c.self.inside.duty c.self.inside.state c.args.self.now c.promised-view.result
          c.of-form.result c.args.choice.now reports from chosen items clock c.args.outs.now
          c.choose.new.self c.send_forms.new.outs c.form_part.new.outs
          (server c.form_part.new.self items) c.self.view_is c.promised-view.ensures.value is
          (c.of-form.ensures (view_of from) chosen is) c.choose.ensures.said
          c.in_ok-send_forms.ensures (h.makes tt items);
      stock = λ items. chosen_stock c.self.inside.me c.self.inside.mark
          c.self.inside.horizon c.self.inside.served
          c.self.inside.duty c.self.inside.state c.args.self.now c.promised-view.result
          c.of-form.result reports from chosen items (stock c.form_part.new.self) c.self.view_is
          c.promised-view.ensures.value (c.of-form.ensures (view_of from) chosen is) (h.stock
          items);
      cached = subst (λ (xs : Entries). IsCachedAs xs c.form_part.new.self.cached)
          (ap (λ (n : NodeValue). n.cached) c.self.view_is) h.cached;
      mark = h.mark ∙ sym (chosen_marks c.self.inside.me c.self.inside.mark
          c.self.inside.horizon c.self.inside.served
          c.self.inside.duty c.self.inside.state c.args.self.now c.promised-view.result
          c.of-form.result reports from chosen c.self.view_is c.promised-view.ensures.value
          (c.of-form.ensures (view_of from) chosen is));
      written = h.written ∙ chosen_disk c.self.inside.me c.self.inside.mark
          c.self.inside.horizon c.self.inside.served
          c.self.inside.duty c.self.inside.state c.args.self.now c.promised-view.result
          c.of-form.result reports from chosen c.form_part.new.self.mark
          (g.D.Store.told c.args.store.now) c.self.view_is c.promised-view.ensures.value
          (c.of-form.ensures (view_of from) chosen is);
    })
    (λ why h. record {
      me = h.me ∙ ap (λ (n : NodeValue). n.me) c.self.view_is;
      part = chosen_part c.self.inside.me c.self.inside.mark
          c.self.inside.horizon c.self.inside.served
          c.self.inside.duty c.self.inside.state c.args.self.now c.promised-view.result
          c.of-form.result reports from chosen (g.D.Store.told c.args.store.now)
          (g.D.Store.told c.form_part.new.store) c.self.view_is c.promised-view.ensures.value
          (c.of-form.ensures (view_of from) chosen is) h.part;
      running = h.running;
      rose = h.rose;
    })

pub returns-clause-count : goal.returns-clause-count
returns-clause-count g c = c.form_part.ensures.count
