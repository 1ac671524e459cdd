use Rattle.std.proofs.Common.{List, [], ap, arith, inl, le_refl, length, map, refl, subst, sym, true, true≢false, ℕ, ◌+◌, ◌==◌, ◌∙◌, ◌≡◌}
use Rattle.std.specs.Prelude.{⊤}
use Rattle.event_record.specs.Record.{entry_of}
use Rattle.event_record.specs.declared.record.RecordFields.{RecordFields}
use Rattle.group_rules.specs.Form.{accept_moves, form_moves, wanted}
use Rattle.group_rules.specs.Names.{place_of}
use Rattle.group_rules.specs.Places.{Place, is_in, same}
use Rattle.idle_log.specs.Kept.{plan_of, with_kept}
use Rattle.node.proofs.Forms.{begins, begins_so, joined_is, no_test, none_at, not_source, part_at, pulling, stores_at, wanted_at, whole_at}
use Rattle.node.proofs.Saying.{disk_so, makes_so, mark_so, unsaid}
use Rattle.node.specs.Forming.{joined_node, joined_with}
use Rattle.node.specs.Handles.{Handles}
use Rattle.node.specs.Node.{NodeValue, server}
use Rattle.node.specs.State.{IsPulling}
use Rattle.node_outputs.specs.Said.{said}
use Rattle.node.proofs.Stocks.{stocks_so}
use Rattle.node.specs.Stock.{stock, stock_kept}
use Rattle.idle_log.specs.Pulls.{CanTake, IsFor}
use Rattle.node.proofs.Handled.{fails_memory, handles_so, saving}
use Rattle.node.proofs.node.Node.take_part.Goals as goal

pub returns-then-not-fits-clause-handles : goal.returns-then-not-fits-clause-handles
returns-then-not-fits-clause-handles g c clock = record {
  me = ap (λ (n : NodeValue). n.me) c.self.view_is;
  up = refl;
  makes = λ r items. makes_so _ _ _ _ _ _ _ _
      (none_at c.self.inside.me c.self.inside.mark c.self.inside.horizon c.self.inside.served
      c.self.inside.duty c.self.inside.state c.args.self.now
      (λ (n : NodeValue). server n items) c.args.kept c.args.joining (plan_of c.args.form)
      c.fits.result c.lb.result
      (sym c.lb.ensures.value) c.self.view_is c.fits.ensures.test c.if-not-fits.true)
      (record {
        state = joined_is c.self.inside.me c.self.inside.mark c.self.inside.horizon
            c.self.inside.served
            c.self.inside.duty c.self.inside.state c.args.self.now
            c.args.kept c.args.joining items c.self.view_is
            c.requires.kept;
        said = unsaid (said c.args.outs.now);
      });
  stock = λ items. stocks_so [] _ _ _ [] (stock_kept c.args.kept []) _
      (none_at c.self.inside.me c.self.inside.mark c.self.inside.horizon c.self.inside.served
      c.self.inside.duty c.self.inside.state c.args.self.now
      (λ (n : NodeValue). server n items) c.args.kept c.args.joining (plan_of c.args.form)
      c.fits.result
      c.lb.result
      (sym c.lb.ensures.value) c.self.view_is c.fits.ensures.test c.if-not-fits.true)
      (λ clock list askers. refl);
  cached = inl refl;
  mark = mark_so _ _ _ _
      (none_at c.self.inside.me c.self.inside.mark c.self.inside.horizon c.self.inside.served
      c.self.inside.duty c.self.inside.state c.args.self.now
      (λ (n : NodeValue). n.plain) c.args.kept c.args.joining (plan_of c.args.form) c.fits.result
      c.lb.result
      (sym c.lb.ensures.value) c.self.view_is c.fits.ensures.test c.if-not-fits.true) (ap (λ (n :
      NodeValue). n.mark) c.self.view_is);
  written = disk_so _ _ _ c.self.inside.mark _
      (none_at c.self.inside.me c.self.inside.mark c.self.inside.horizon c.self.inside.served
      c.self.inside.duty c.self.inside.state c.args.self.now
      (λ (n : NodeValue). n.plain) c.args.kept c.args.joining (plan_of c.args.form) c.fits.result
      c.lb.result
      (sym c.lb.ensures.value) c.self.view_is c.fits.ensures.test c.if-not-fits.true) refl;
}

pub returns-then-not-fits-clause-count : goal.returns-then-not-fits-clause-count
returns-then-not-fits-clause-count g c = le_refl _

pub returns-in_err-staged-clause-handles : goal.returns-in_err-staged-clause-handles
returns-in_err-staged-clause-handles g c clock = fails_memory _ _ _ _ _ _ _ _ _ _ _ _ _ _
    c.from_residual.ensures.1 refl (inl refl)

pub returns-in_err-staged-clause-count : goal.returns-in_err-staged-clause-count
returns-in_err-staged-clause-count g c = le_refl _

pub accept-requires : goal.accept-requires
accept-requires g c =
    let me = ap (λ (n : NodeValue). n.me) c.self.view_is in
    let plan = plan_of c.args.form in
    record {
      kept = c.requires.kept;
      others = c.requires.others;
      can = subst (λ (q : Place). CanTake q c.args.kept plan) me
          (c.fits.ensures.can c.if-not-fits.false);
      list = subst (λ (q : Place). IsFor q c.args.kept plan c.in_ok-staged.staged) me
          c.in_ok-staged.ensures.list.0;
      storer = subst (λ (q : Place). is_in plan.storers q ≡ true) me
          (stores_at c.self.inside.me c.lb.result (server c.args.self.now []) c.args.kept plan
          c.fits.result c.fits.ensures.test c.if-not-fits.false);
      full = c.is_full-full.ensures.0 c.if-full.true;
    }

pub returns-then-full-clause-handles : goal.returns-then-full-clause-handles
returns-then-full-clause-handles g c clock =
    let now = c.args.self.now in
    let plan = plan_of c.args.form in
    let old = joined_node now c.args.kept c.args.joining in
    handles_so _ _ _ (λ q s. form_moves q s plan) (λ q s. accept_moves q s plan []) []
    _ _ _ _ _ _ _ _ _
    (λ saved. whole_at c.self.inside.me c.self.inside.mark c.self.inside.horizon
    c.self.inside.served
    c.self.inside.duty c.self.inside.state now (λ (n : NodeValue). saving n saved) c.args.kept
    c.args.joining plan c.fits.result c.lb.result (sym c.lb.ensures.value) c.self.view_is
    c.fits.ensures.test c.if-not-fits.false
    (λ s. (c.in_ok-staged.ensures.none s).1 (c.is_full-full.ensures.0 c.if-full.true)))
    (subst (λ (rs : List RecordFields). Handles c.accept.result ⊤ clock
    (λ q s. accept_moves q s plan (map entry_of rs)) rs [] old c.accept.new.self
    c.args.outs.now c.accept.new.outs (g.D.Store.told c.args.store.now)
    (g.D.Store.told c.accept.new.store) (g.D.Store.faults c.args.store.now)
    (g.D.Store.faults c.accept.new.store)) c.in_ok-staged.ensures.list.1
    (c.accept.ensures.handles clock))

pub returns-then-full-clause-count : goal.returns-then-full-clause-count
returns-then-full-clause-count g c = c.accept.ensures.count

pub fetch-requires-clause-kept : goal.fetch-requires-clause-kept
fetch-requires-clause-kept g c = c.requires.kept

pub fetch-requires-clause-others : goal.fetch-requires-clause-others
fetch-requires-clause-others g c = c.requires.others

pub fetch-requires-clause-pulls : goal.fetch-requires-clause-pulls
fetch-requires-clause-pulls g c = subst (λ (q : Place). IsPulling q c.args.kept
    (plan_of c.args.form) c.in_ok-staged.staged) (ap (λ (n : NodeValue). n.me) c.self.view_is)
    (record {
      can = c.fits.ensures.can c.if-not-fits.false;
      list = c.in_ok-staged.ensures.list.0;
      storer = stores_at c.self.inside.me c.lb.result (server c.args.self.now []) c.args.kept
          (plan_of c.args.form) c.fits.result c.fits.ensures.test c.if-not-fits.false;
      other = (not_source (same (place_of c.self.inside.me) (place_of c.args.form.source))
          (wanted (place_of c.self.inside.me) (with_kept (server c.args.self.now []) c.args.kept)
          (plan_of c.args.form) == c.args.form.start)
          (λ whole. true≢false (sym (c.is_full-full.ensures.1
          ((c.in_ok-staged.ensures.none (server c.args.self.now [])).0 whole)) ∙
          c.if-full.false)));
    })

pub returns-in_err-fetch-clause-handles : goal.returns-in_err-fetch-clause-handles
returns-in_err-fetch-clause-handles g c clock = fails_memory _ _ _ _ _ _ _ _ _ _ _ _ _ _
    c.from_residual-in_err-fetch.ensures.1 c.fetch.ensures.me (inl refl)

pub returns-in_err-fetch-clause-count : goal.returns-in_err-fetch-clause-count
returns-in_err-fetch-clause-count g c = le_refl _

pub returns-clause-handles : goal.returns-clause-handles
returns-clause-handles g c clock = record {
  me = c.fetch.ensures.me;
  up = c.in_ok-fetch.ensures.fetches.up;
  makes = λ r items. let first : c.in_ok-staged.staged.first ≡ wanted c.args.self.now.me
      (joined_with (server c.args.self.now items) c.args.kept c.args.joining)
      (plan_of c.args.form) + 1 =
      c.in_ok-staged.ensures.list.0.0 ∙ ap (λ (n : ℕ). n + 1) (wanted_at
      c.self.inside.me c.self.inside.mark c.self.inside.horizon c.self.inside.served
      c.self.inside.duty c.self.inside.state c.args.self.now
      (λ (n : NodeValue). server n items) c.args.kept c.args.joining (plan_of c.args.form) _
      c.self.view_is
      (λ s. c.in_ok-staged.ensures.wanted s
      (not_source (same (place_of c.self.inside.me) (place_of c.args.form.source))
      (wanted (place_of c.self.inside.me) (with_kept (server c.args.self.now []) c.args.kept)
      (plan_of c.args.form) == c.args.form.start)
      (λ whole. true≢false (sym (c.is_full-full.ensures.1
      ((c.in_ok-staged.ensures.none (server c.args.self.now [])).0 whole)) ∙ c.if-full.false))))) in
      let none : length c.in_ok-staged.staged.records ≡ 0 =
      ap (length {A = RecordFields}) c.in_ok-staged.ensures.list.1 in
      makes_so _ _ _ _ _ _ _ _
      (part_at c.self.inside.me c.self.inside.mark c.self.inside.horizon c.self.inside.served
      c.self.inside.duty c.self.inside.state c.args.self.now
      (λ (n : NodeValue). server n items) c.args.kept c.args.joining (plan_of c.args.form)
      c.fits.result c.lb.result
      (sym c.lb.ensures.value) c.self.view_is c.fits.ensures.test c.if-not-fits.false
      (λ s. no_test _ (λ whole. true≢false (sym (c.is_full-full.ensures.1
      ((c.in_ok-staged.ensures.none s).0 whole)) ∙ c.if-full.false))))
      (pulling c.args.self.now.me clock
      (joined_with (server c.args.self.now items) c.args.kept c.args.joining)
      (server c.fetch.new.self items) (plan_of c.args.form) _ c.args.outs.now c.fetch.new.outs
      (omega (arith, first, none))
      (c.in_ok-fetch.ensures.fetches.state items ∙ begins_so c.args.self.now.me
      (server c.args.self.now items) c.args.kept c.args.joining c.args.form
      c.in_ok-staged.staged first c.in_ok-staged.ensures.list.1)
      (c.in_ok-fetch.ensures.fetches.sends (server c.fetch.new.self items) clock));
  stock = λ items. let s = joined_with (server c.args.self.now items) c.args.kept c.args.joining in
      stocks_so [] c.args.self.now.me s _ (begins c.args.self.now.me s (plan_of c.args.form))
      (stock_kept c.args.kept []) (stock c.fetch.new.self)
      (part_at c.self.inside.me c.self.inside.mark c.self.inside.horizon c.self.inside.served
      c.self.inside.duty c.self.inside.state c.args.self.now
      (λ (n : NodeValue). server n items) c.args.kept c.args.joining (plan_of c.args.form)
      c.fits.result
      c.lb.result
      (sym c.lb.ensures.value) c.self.view_is c.fits.ensures.test c.if-not-fits.false
      (λ s. no_test _ (λ whole. true≢false (sym (c.is_full-full.ensures.1
      ((c.in_ok-staged.ensures.none s).0 whole)) ∙ c.if-full.false))))
      (λ clock list askers. c.in_ok-fetch.ensures.fetches.stock
      ∙ ap (stock_kept c.args.kept) c.in_ok-staged.ensures.list.1);
  cached = inl c.in_ok-fetch.ensures.fetches.cached;
  mark = mark_so _ _ _ _
      (part_at c.self.inside.me c.self.inside.mark c.self.inside.horizon c.self.inside.served
      c.self.inside.duty c.self.inside.state c.args.self.now
      (λ (n : NodeValue). n.plain) c.args.kept c.args.joining (plan_of c.args.form) c.fits.result
      c.lb.result
      (sym c.lb.ensures.value) c.self.view_is c.fits.ensures.test c.if-not-fits.false
      (λ s. no_test _ (λ whole. true≢false (sym (c.is_full-full.ensures.1
      ((c.in_ok-staged.ensures.none s).0 whole)) ∙ c.if-full.false))))
      c.in_ok-fetch.ensures.fetches.mark;
  written = disk_so _ _ _ c.fetch.new.self.mark _
      (part_at c.self.inside.me c.self.inside.mark c.self.inside.horizon c.self.inside.served
      c.self.inside.duty c.self.inside.state c.args.self.now
      (λ (n : NodeValue). n.plain) c.args.kept c.args.joining (plan_of c.args.form) c.fits.result
      c.lb.result
      (sym c.lb.ensures.value) c.self.view_is c.fits.ensures.test c.if-not-fits.false
      (λ s. no_test _ (λ whole. true≢false (sym (c.is_full-full.ensures.1
      ((c.in_ok-staged.ensures.none s).0 whole)) ∙ c.if-full.false)))) refl;
}

pub returns-clause-count : goal.returns-clause-count
returns-clause-count g c = le_refl _
