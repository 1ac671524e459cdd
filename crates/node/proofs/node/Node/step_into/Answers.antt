use Rattle.std.proofs.Common.{ap, le_refl, refl, subst, sym, true≢false, ◌∙◌}
use Rattle.cell_cache.specs.Entries.{AreOf, Entries}
use Rattle.group_rules.specs.Moves.{acts}
use Rattle.group_rules.specs.Open.{rebase}
use Rattle.group_rules.specs.Places.{Place}
use Rattle.harp_store.specs.Disk.{cells_told}
use Rattle.node.proofs.Brought.{disk_stepped, mark_stepped, none_left, none_marked, none_written, part_stepped}
use Rattle.node.proofs.Stepped.{step_made, step_none}
use Rattle.node.specs.Input.{input_of, peers_of, came}
use Rattle.node.proofs.Faults.{not_failed}
use Rattle.node.specs.Node.{NodeValue, server}
use Rattle.node.specs.State.{is_gone}
use Rattle.node.specs.Taking.{stepped}
use Rattle.std.specs.Prelude.{None, Option}
use Rattle.node.proofs.Wholes.{fills_sized, lists_none, no_listing, stand_none, stands_stepped, stock_none, stock_stepped, unsaid_records}
use Rattle.node.specs.Serving.{entry_size}
use Rattle.node.specs.Step.{ListsFor}
use Rattle.node.specs.Stock.{stock, stock_after}
use Rattle.node_outputs.specs.Records.{records_sent}
use Rattle.node_outputs.specs.Said.{Said}
use Rattle.tree_listing.specs.declared.listing.Listing.{Listing}
use Rattle.node.proofs.node.Node.step_into.Goals as goal

pub returns-then-not-is_heeded-clause-steps : goal.returns-then-not-is_heeded-clause-steps
returns-then-not-is_heeded-clause-steps g c items list fills =
    let n = c.args.self.now in
    let i = c.args.input in
    let none = sym c.is_heeded.ensures ∙ c.if-not-is_heeded.true in record {
      machine = step_none entry_size n.me c.args.now list (input_of i) (peers_of n i)
          (server n items)
          c.args.outs.now none c.requires.none;
      whole = stock_none entry_size n.me c.args.now list (came i) (peers_of n i) (server n items)
          (input_of i) (stock n) none;
      sent = stand_none _ (records_sent c.args.outs.now) (unsaid_records c.args.outs.now
          c.requires.none);
    }

pub returns-then-not-is_heeded-clause-listing : goal.returns-then-not-is_heeded-clause-listing
returns-then-not-is_heeded-clause-listing g c = lists_none c.args.input c.args.self.now
    (g.D.Store.told c.args.store.now) None c.args.outs.now.listing
    (sym c.is_heeded.ensures ∙ c.if-not-is_heeded.true)

pub returns-clause-steps : goal.returns-clause-steps
returns-clause-steps g c items list fills =
    let n = c.args.self.now in
    let i = c.args.input in
    let sized = fills_sized list n c.args.now (g.D.Store.told c.args.store.now) i fills in
    let s = server n items in
    let mid = server c.rule.new.self items in
    let some = sym c.is_heeded.ensures ∙ c.if-not-is_heeded.false in
    let made = c.in-Ok.ensures.makes items entry_size list sized in record {
      machine = step_made entry_size n.me c.args.now list (input_of i) (peers_of n i)
          s mid (server c.rebase.new.self items) c.args.outs.now c.rule.new.outs
          some c.requires.none made
          (c.rebase.ensures.state items c.args.now
          ∙ ap (λ (p : Place). acts p c.args.now mid (rebase mid)) c.rule.ensures.brings.me);
      whole = stock_stepped entry_size n.me c.args.now list (came i) (peers_of n i) s mid
          (input_of i)
          (stock n) (stock c.rule.new.self) (stock c.rebase.new.self) some made.state
          (c.in-Ok.ensures.stock items entry_size list sized)
          (c.rebase.ensures.stock (came i) items c.args.now list (peers_of n i)
          ∙ ap (λ (p : Place). stock_after p c.args.now list (came i) (peers_of n i) mid
          (rebase mid) (stock c.rule.new.self)) c.rule.ensures.brings.me);
      sent = stands_stepped entry_size n.me c.args.now list s (input_of i) n.records
          n.plain.accepted
          (records_sent c.rule.new.outs)
          (c.in-Ok.ensures.sent items entry_size list sized c.requires.none
          (unsaid_records c.args.outs.now c.requires.none));
    }

pub returns-clause-listing : goal.returns-clause-listing
returns-clause-listing g c = subst (λ (o : Option Listing). ListsFor c.args.input c.args.self.now
    (g.D.Store.told c.args.store.now) o c.rule.new.outs.listing)
    (no_listing c.args.outs.now.listing (ap (λ (x : Said). x.listed) c.requires.none))
    c.in-Ok.ensures.listing

pub returns-clause-cached : goal.returns-clause-cached
returns-clause-cached g c =
    subst (λ (es : Entries). AreOf (cells_told (g.D.Store.told c.rule.new.store)) es)
    (sym c.rebase.ensures.cached) c.in-Ok.ensures.runs.cached

-- ---- whether the server goes on

pub returns-then-is_halted-clause-halts : goal.returns-then-is_halted-clause-halts
returns-then-is_halted-clause-halts g c =
    let was = sym c.is_halted.ensures.value ∙ c.if-is_halted.true in record {
      halted = ((λ is. was), λ h. refl);
      still = λ h. (refl, refl);
      up = tt;
      fails = was;
    }

pub returns-then-not-is_heeded-clause-halts : goal.returns-then-not-is_heeded-clause-halts
returns-then-not-is_heeded-clause-halts g c =
    let up = sym c.is_halted.ensures.value ∙ c.if-is_halted.false in record {
      halted = ((λ is. not_failed _ _ _ is), λ h. absurd (true≢false (sym h ∙ up)));
      still = λ h. (refl, refl);
      up = up;
      fails = tt;
    }

pub returns-in-Err-clause-halts : goal.returns-in-Err-clause-halts
returns-in-Err-clause-halts g c =
    let up = sym c.is_halted.ensures.value ∙ c.if-is_halted.false in record {
      halted = (
        (λ is. absurd (c.in-Err.ensures.faults.running is)),
        λ h. absurd (true≢false (sym h ∙ up)),
      );
      still = λ h. absurd (true≢false (sym h ∙ up));
      up = tt;
      fails = ap is_gone c.halt.ensures;
    }

pub returns-clause-halts : goal.returns-clause-halts
returns-clause-halts g c =
    let up = sym c.is_halted.ensures.value ∙ c.if-is_halted.false in record {
      halted = ((λ is. not_failed _ _ _ is), λ h. absurd (true≢false (sym h ∙ up)));
      still = λ h. absurd (true≢false (sym h ∙ up));
      up = c.rebase.ensures.up;
      fails = tt;
    }

-- ---- the mark and the disk

pub returns-then-is_halted-clause-brings : goal.returns-then-is_halted-clause-brings
returns-then-is_halted-clause-brings g c =
    let n = c.args.self.now in record {
      me = refl;
      mark = tt;
      written = tt;
      part = λ size list. none_left n (stepped size n.me c.args.now list n.plain
          (input_of c.args.input)) (input_of c.args.input) (g.D.Store.told c.args.store.now);
    }

pub returns-then-not-is_heeded-clause-brings : goal.returns-then-not-is_heeded-clause-brings
returns-then-not-is_heeded-clause-brings g c =
    let n = c.args.self.now in
    let i = input_of c.args.input in
    let none = sym c.is_heeded.ensures ∙ c.if-not-is_heeded.true in record {
      me = refl;
      mark = λ size list. none_marked n (stepped size n.me c.args.now list n.plain i) i none;
      written = λ size list. none_written n (stepped size n.me c.args.now list n.plain i) i
          (g.D.Store.told c.args.store.now) none;
      part = tt;
    }

pub returns-in-Err-clause-brings : goal.returns-in-Err-clause-brings
returns-in-Err-clause-brings g c =
    let n = c.args.self.now in record {
      me = ap (λ (n : NodeValue). n.me) c.self.view_is ∙ c.rule.ensures.brings.me;
      mark = tt;
      written = tt;
      part = λ size list. part_stepped size n.me c.args.now list n (input_of c.args.input)
          (g.D.Store.told c.args.store.now) (g.D.Store.told c.rule.new.store)
          (c.in-Err.ensures.brings.part size list);
    }

pub returns-clause-brings : goal.returns-clause-brings
returns-clause-brings g c =
    let n = c.args.self.now in
    let i = input_of c.args.input in record {
      me = c.rebase.ensures.me ∙ c.rule.ensures.brings.me;
      mark = λ size list. mark_stepped size n.me c.args.now list n i c.rebase.new.self.mark
          (c.rebase.ensures.mark ∙ c.in-Ok.ensures.brings.mark size list);
      written = λ size list. disk_stepped size n.me c.args.now list n i
          (g.D.Store.told c.args.store.now) (g.D.Store.told c.rule.new.store)
          (c.in-Ok.ensures.brings.written size list);
      part = tt;
    }

-- ---- the store's faults

pub returns-then-is_halted-clause-faults : goal.returns-then-is_halted-clause-faults
returns-then-is_halted-clause-faults g c = record { rose = λ is. cc; count = le_refl _ }

pub returns-then-not-is_heeded-clause-faults : goal.returns-then-not-is_heeded-clause-faults
returns-then-not-is_heeded-clause-faults g c = record { rose = λ is. cc; count = le_refl _ }

pub returns-in-Err-clause-faults : goal.returns-in-Err-clause-faults
returns-in-Err-clause-faults g c = c.in-Err.ensures.faults.counts

pub returns-clause-faults : goal.returns-clause-faults
returns-clause-faults g c = record {
  rose = λ is. cc;
  count = c.rule.ensures.faults.counts.count;
}
