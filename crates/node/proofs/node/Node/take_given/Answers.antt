use Rattle.std.proofs.Common.{◌++◌, [], ap, inl, le_refl, map, refl, subst, sym, ◌∙◌, true≢false}
use Rattle.event_record.specs.Record.{entry_of}
use Rattle.group_rules.specs.Places.{partner, same}
use Rattle.group_rules.specs.Form.{accept_moves}
use Rattle.idle_log.specs.Kept.{log_in, plan_of}
use Rattle.idle_log.specs.Pulls.{adopted_records}
use Rattle.node.proofs.Given.{accepts_alike, all_given, none_staged, part_given, pulled_so, pulls_fit, restaged, some_first, some_given, staged_in, staged_so, stages, staging, still_for, unwanted, whole_given}
use Rattle.node.proofs.Handled.{and_ok, both_ways, fails_memory}
use Rattle.node.proofs.Saying.{disk_so, makes_so, mark_so, part_so, unsaid}
use Rattle.node.proofs.Stocked.{accepting_stock}
use Rattle.node.proofs.Stocks.{as_stock, idle_if, stocks_so}
use Rattle.node.specs.Forming.{joined_with, pulling_with}
use Rattle.node.specs.Node.{NodeValue, server}
use Rattle.node.specs.State.{IsPulling}
use Rattle.node.specs.Stock.{stock, stock_kept}
use Rattle.node_outputs.specs.Said.{said}
use Rattle.volatile_log.specs.Log.{StagedValue, next}
use Rattle.node.proofs.node.Node.take_given.Goals as goal

pub returns-in_err-give-clause-handles : goal.returns-in_err-give-clause-handles
returns-in_err-give-clause-handles g c clock = fails_memory _ _ _ _ _ _ _ _ _ _ _ _ _ _
    c.from_residual.ensures.1 refl (inl refl)

pub returns-in_err-give-clause-count : goal.returns-in_err-give-clause-count
returns-in_err-give-clause-count g c = le_refl _

pub invariant_of-self : goal.invariant_of-self
invariant_of-self g c = pulls_fit c.self.inside.me c.self.inside.mark c.self.inside.horizon
    c.self.inside.served c.self.inside.duty c.self.inside.state c.args.self.now c.args.pull.kept
    c.args.pull.joining c.args.pull.form c.give.new.staged c.self.view_is c.self.invariant.0
    c.requires.kept c.requires.others
    (subst (λ (t : StagedValue). IsPulling c.args.self.now.me c.args.pull.kept
    (plan_of c.args.pull.form) t) (sym (none_staged c.in_ok-give.field-0 c.args.pull.staged
    c.args.records c.give.new.staged
    c.in_ok-give.ensures.staged c.if-not-branch.true)) c.requires.pulls)

pub returns-then-not-branch-clause-handles : goal.returns-then-not-branch-clause-handles
returns-then-not-branch-clause-handles g c clock = record {
  me = ap (λ (n : NodeValue). n.me) c.self.view_is;
  up = refl;
  makes = λ r items. makes_so _ _ _ _ _ _ _ _
      (unwanted c.args.self.now.me (server c.args.self.now items) c.args.pull c.args.first
      (map entry_of c.args.records) c.in_ok-give.field-0 c.requires.pulls c.in_ok-give.ensures.taken
      c.if-not-branch.true)
      (record {
        state = pulled_so c.self.inside.me c.self.inside.mark c.self.inside.horizon
            c.self.inside.served
            c.self.inside.duty c.self.inside.state c.args.self.now
            c.args.pull c.give.new.staged items c.self.view_is c.requires.kept
            (none_staged c.in_ok-give.field-0 c.args.pull.staged c.args.records c.give.new.staged
            c.in_ok-give.ensures.staged c.if-not-branch.true);
        said = unsaid (said c.args.outs.now);
      });
  stock = λ items. stocks_so c.args.records _ _ _ []
      (stock_kept c.args.pull.kept c.args.pull.staged.records) _
      (unwanted c.args.self.now.me (server c.args.self.now items) c.args.pull c.args.first
      (map entry_of c.args.records) c.in_ok-give.field-0 c.requires.pulls c.in_ok-give.ensures.taken
      c.if-not-branch.true)
      (λ clock list askers. ap (λ (t : StagedValue). stock_kept c.args.pull.kept t.records)
      (none_staged c.in_ok-give.field-0 c.args.pull.staged c.args.records c.give.new.staged
      c.in_ok-give.ensures.staged c.if-not-branch.true));
  cached = inl refl;
  mark = mark_so _ _ _ _
      (unwanted c.args.self.now.me c.args.self.now.plain c.args.pull c.args.first
      (map entry_of c.args.records) c.in_ok-give.field-0 c.requires.pulls c.in_ok-give.ensures.taken
      c.if-not-branch.true)
      (ap (λ (n : NodeValue). n.mark) c.self.view_is);
  written = disk_so _ _ _ c.self.inside.mark _
      (unwanted c.args.self.now.me c.args.self.now.plain c.args.pull c.args.first
      (map entry_of c.args.records) c.in_ok-give.field-0 c.requires.pulls c.in_ok-give.ensures.taken
      c.if-not-branch.true) refl;
}

pub returns-then-not-branch-clause-count : goal.returns-then-not-branch-clause-count
returns-then-not-branch-clause-count g c = le_refl _

pub accept-requires : goal.accept-requires
accept-requires g c = record {
  kept = c.requires.kept;
  others = c.requires.others;
  can = c.requires.pulls.can;
  list = still_for c.args.self.now.me c.args.pull.kept (plan_of c.args.pull.form)
      c.args.pull.staged c.args.records c.give.new.staged c.requires.pulls.list
      (staged_so c.in_ok-give.field-0 c.args.pull.staged c.args.records c.give.new.staged
      c.in_ok-give.ensures.staged c.if-not-branch.false);
  storer = c.requires.pulls.storer;
  full = c.is_full.ensures.0 c.if-is_full.true;
}

pub returns-then-is_full-clause-handles : goal.returns-then-is_full-clause-handles
returns-then-is_full-clause-handles g c clock = both_ways c.accept.result
    (and_ok _ _ _ c.accept.result (c.accept.ensures.handles clock) c.accept.ensures.stock)
    (λ h. record {
      me = h.0.me;
      up = h.0.up;
      makes = λ r items. accepts_alike c.args.self.now.me clock (server c.args.self.now items)
          (server c.accept.new.self items) c.args.pull _ _ c.args.outs.now c.accept.new.outs
          (whole_given c.args.self.now.me (server c.args.self.now items) c.args.pull c.args.first
          c.args.records c.in_ok-give.field-0 c.give.new.staged c.requires.pulls c.requires.within
          c.in_ok-give.ensures.taken c.if-not-branch.false c.in_ok-give.ensures.staged
          (c.is_full.ensures.0 c.if-is_full.true)) (h.0.makes tt items);
      stock = λ items. let me = c.args.self.now.me in
          let s = pulling_with (server c.args.self.now items) c.args.pull in
          let j = joined_with (server c.args.self.now items) c.args.pull.kept c.args.pull.joining in
          let plan = plan_of c.args.pull.form in
          stocks_so c.args.records me s _
          (accept_moves me j plan (map entry_of (c.args.pull.staged.records ++ c.args.records)))
          (stock_kept c.args.pull.kept c.args.pull.staged.records) (stock c.accept.new.self)
          (all_given c.args.self.now.me (server c.args.self.now items) c.args.pull c.args.first
          c.args.records c.in_ok-give.field-0 c.give.new.staged c.requires.pulls c.requires.within
          c.in_ok-give.ensures.taken c.if-not-branch.false c.in_ok-give.ensures.staged
          (c.is_full.ensures.0 c.if-is_full.true))
          (accepting_stock c.args.records me s plan _ _ _ c.args.pull.kept
          c.args.pull.staged.records
          (stock c.accept.new.self) (idle_if (same me (partner plan.storers)) _ [] (tt, tt) tt)
          (h.1 ∙ ap (λ (t : StagedValue). as_stock (adopted_records me j plan
          (log_in c.args.pull.kept).records t.records) [] [])
          (staged_so c.in_ok-give.field-0 c.args.pull.staged c.args.records c.give.new.staged
          c.in_ok-give.ensures.staged c.if-not-branch.false)));
      cached = h.0.cached;
      mark = mark_so _ _ _ _
          (whole_given c.args.self.now.me c.args.self.now.plain c.args.pull c.args.first
          c.args.records c.in_ok-give.field-0 c.give.new.staged c.requires.pulls c.requires.within
          c.in_ok-give.ensures.taken c.if-not-branch.false c.in_ok-give.ensures.staged
          (c.is_full.ensures.0 c.if-is_full.true)) h.0.mark;
      written = disk_so _ _ _ c.accept.new.self.mark _
          (whole_given c.args.self.now.me c.args.self.now.plain c.args.pull c.args.first
          c.args.records c.in_ok-give.field-0 c.give.new.staged c.requires.pulls c.requires.within
          c.in_ok-give.ensures.taken c.if-not-branch.false c.in_ok-give.ensures.staged
          (c.is_full.ensures.0 c.if-is_full.true)) h.0.written;
    })
    (λ why h. record {
      me = h.me;
      part = part_so c.args.self.now.mark _ _ _ _
          (whole_given c.args.self.now.me c.args.self.now.plain c.args.pull c.args.first
          c.args.records c.in_ok-give.field-0 c.give.new.staged c.requires.pulls c.requires.within
          c.in_ok-give.ensures.taken c.if-not-branch.false c.in_ok-give.ensures.staged
          (c.is_full.ensures.0 c.if-is_full.true)) h.part;
      running = h.running;
      rose = h.rose;
    })

pub returns-then-is_full-clause-count : goal.returns-then-is_full-clause-count
returns-then-is_full-clause-count g c = c.accept.ensures.count

pub fetch-requires-clause-kept : goal.fetch-requires-clause-kept
fetch-requires-clause-kept g c = c.requires.kept

pub fetch-requires-clause-others : goal.fetch-requires-clause-others
fetch-requires-clause-others g c = c.requires.others

pub fetch-requires-clause-pulls : goal.fetch-requires-clause-pulls
fetch-requires-clause-pulls g c = record {
  can = c.requires.pulls.can;
  list = still_for c.args.self.now.me c.args.pull.kept
      (plan_of c.args.pull.form) c.args.pull.staged c.args.records c.give.new.staged
      c.requires.pulls.list (staged_so c.in_ok-give.field-0 c.args.pull.staged c.args.records
      c.give.new.staged
      c.in_ok-give.ensures.staged c.if-not-branch.false);
  storer = c.requires.pulls.storer;
  other = c.requires.pulls.other;
}

pub returns-in_err-fetch-clause-handles : goal.returns-in_err-fetch-clause-handles
returns-in_err-fetch-clause-handles g c clock = fails_memory _ _ _ _ _ _ _ _ _ _ _ _ _ _
    c.from_residual-in_err-fetch.ensures.1 c.fetch.ensures.me (inl refl)

pub returns-in_err-fetch-clause-count : goal.returns-in_err-fetch-clause-count
returns-in_err-fetch-clause-count g c = le_refl _

pub returns-clause-handles : goal.returns-clause-handles
returns-clause-handles g c clock = record {
  me = c.fetch.ensures.me;
  up = c.in_ok-fetch.ensures.fetches.up;
  makes = λ r items. makes_so _ _ _ _ _ _ _ _
      (part_given c.args.self.now.me (server c.args.self.now items) c.args.pull c.args.first
      c.args.records c.in_ok-give.field-0 c.give.new.staged c.requires.pulls
      c.in_ok-give.ensures.taken c.if-not-branch.false c.in_ok-give.ensures.staged
      (λ full. true≢false (sym (c.is_full.ensures.1 full) ∙ c.if-is_full.false)))
      (staging c.args.self.now.me clock (pulling_with (server c.args.self.now items) c.args.pull)
      (server c.fetch.new.self items) (map entry_of c.give.new.staged.records)
      (next c.give.new.staged) c.args.outs.now c.fetch.new.outs
      (staged_in c.args.pull.staged c.args.records c.give.new.staged
      (some_first _ _ _ _ c.requires.pulls)
      (staged_so c.in_ok-give.field-0 c.args.pull.staged c.args.records c.give.new.staged
      c.in_ok-give.ensures.staged c.if-not-branch.false))
      (c.in_ok-fetch.ensures.fetches.state items
      ∙ restaged (server c.args.self.now items) c.args.pull c.args.records c.give.new.staged
      (staged_so c.in_ok-give.field-0 c.args.pull.staged c.args.records c.give.new.staged
      c.in_ok-give.ensures.staged c.if-not-branch.false))
      (c.in_ok-fetch.ensures.fetches.sends (server c.fetch.new.self items) clock));
  stock = λ items. let s = pulling_with (server c.args.self.now items) c.args.pull in
      stocks_so c.args.records c.args.self.now.me s _
      (stages s (map entry_of (c.args.pull.staged.records ++ c.args.records)))
      (stock_kept c.args.pull.kept c.args.pull.staged.records) (stock c.fetch.new.self)
      (some_given c.args.self.now.me (server c.args.self.now items) c.args.pull c.args.first
      c.args.records c.in_ok-give.field-0 c.give.new.staged c.requires.pulls
      c.in_ok-give.ensures.taken c.if-not-branch.false c.in_ok-give.ensures.staged
      (λ full. true≢false (sym (c.is_full.ensures.1 full) ∙ c.if-is_full.false)))
      (λ clock list askers. c.in_ok-fetch.ensures.fetches.stock
      ∙ ap (λ (t : StagedValue). stock_kept c.args.pull.kept t.records)
      (staged_so c.in_ok-give.field-0 c.args.pull.staged c.args.records c.give.new.staged
      c.in_ok-give.ensures.staged c.if-not-branch.false));
  cached = inl c.in_ok-fetch.ensures.fetches.cached;
  mark = mark_so _ _ _ _
      (part_given c.args.self.now.me c.args.self.now.plain c.args.pull c.args.first
      c.args.records c.in_ok-give.field-0 c.give.new.staged c.requires.pulls
      c.in_ok-give.ensures.taken c.if-not-branch.false c.in_ok-give.ensures.staged
      (λ full. true≢false (sym (c.is_full.ensures.1 full) ∙ c.if-is_full.false)))
      c.in_ok-fetch.ensures.fetches.mark;
  written = disk_so _ _ _ c.fetch.new.self.mark _
      (part_given c.args.self.now.me c.args.self.now.plain c.args.pull c.args.first
      c.args.records c.in_ok-give.field-0 c.give.new.staged c.requires.pulls
      c.in_ok-give.ensures.taken c.if-not-branch.false c.in_ok-give.ensures.staged
      (λ full. true≢false (sym (c.is_full.ensures.1 full) ∙ c.if-is_full.false))) refl;
}

pub returns-clause-count : goal.returns-clause-count
returns-clause-count g c = le_refl _
