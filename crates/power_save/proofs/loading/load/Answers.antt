use Rattle.std.proofs.Common.{rules, arith, inr, ℕ, ◌≡◌, true, false, Some, sym, subst, ap, ◌∙◌}
use Rattle.std.proofs.lemmas.Grind.{common_steps}
use Rattle.std.proofs.lemmas.Result.{IfOk-from_err}
use Rattle.harp_cells.specs.Effect.{Cells}
use Rattle.harp_store.specs.Disk.{cells_told}
use Rattle.harp_store.specs.Mark.{SavedNumbers}
use Rattle.power_save.specs.Saved.{HoldRecords, IsSavedAs, LacksRecord, fits_log}
use Rattle.power_save.proofs.Entries.{fits_are}
use Rattle.power_save.proofs.Loads.{IsRead, held_by_entries, held_by_mark, no_lack, read_again, read_entries, read_is_whole, was_read}
use Rattle.power_save.proofs.Records.{numbers_are}
use Rattle.power_save.proofs.loading.load.Given as given
use Rattle.power_save.proofs.loading.load.Goals as goal

-- ---- a mark without a saved log

pub returns-in_default-clause-records : goal.returns-in_default-clause-records
returns-in_default-clause-records g c = λ cells told. record {
  records = tt;
  unsaved = λ failed. first_of (search rules, grind (arith, common_steps));
  whole = λ not. first_of (search rules, grind (arith, common_steps));
  found = λ ring saved before log held is failed.
      first_of (search rules, grind (arith, common_steps));
  again = λ ring saved before log held is. tt;
}

pub returns-in_default-clause-entries : goal.returns-in_default-clause-entries
returns-in_default-clause-entries g c = λ cells saved told h. record {
  loaded = tt;
  taken = tt;
  refused = λ failed. first_of (search rules, grind (arith, common_steps));
}

-- ---- numbers that are none of a log

pub returns-then-not-fits_log-clause-records : goal.returns-then-not-fits_log-clause-records
returns-then-not-fits_log-clause-records g c = λ cells told. record {
  records = tt;
  unsaved = λ failed. first_of (search rules, grind (arith, common_steps));
  whole = λ not. first_of (search rules, grind (arith, common_steps));
  found = λ ring saved before log held is failed.
      first_of (search rules, grind (arith, common_steps));
  again = λ ring saved before log held is. tt;
}

pub returns-then-not-fits_log-clause-entries : goal.returns-then-not-fits_log-clause-entries
returns-then-not-fits_log-clause-entries g c = λ cells saved told h.
    let at : c.args.mark.now.saved ≡ Some c.in-Some.saved = sym c.saved.ensures ∙ c.in-Some.is in
    let misfit : fits_log c.args.mark.now.lb (Some c.in-Some.saved) ≡ false = search rules in record {
      loaded = tt;
      taken = tt;
      refused = λ failed. sym (fits_are c.args.mark.now saved cells h)
          ∙ ap (fits_log c.args.mark.now.lb) at ∙ misfit;
    }

-- ---- a record that isn't read

pub returns-in_err-records-clause-records : goal.returns-in_err-records-clause-records
returns-in_err-records-clause-records g c = λ cells told.
    let at : c.args.mark.now.saved ≡ Some c.in-Some.saved = sym c.saved.ensures ∙ c.in-Some.is in
    record {
      records = IfOk-from_err c.from_residual.result _ c.from_residual.ensures.0;
      unsaved = λ failed.
          let lack = c.in_err-records.ensures.lacks cells told (search rules) in
          inr (subst (LacksRecord cells) (sym at) (
            lack.0,
            omega (arith, lack.1, c.base.ensures.value),
            omega (arith, lack.2, c.top.ensures.value),
            λ r is. lack.3 r (subst (λ (ring : ℕ). IsSavedAs ring cells lack.0 r)
                (sym c.ring.ensures.value) is),
          ));
      whole = λ not. first_of (search rules, grind (arith, common_steps));
      found = λ ring saved before log held is failed. no_lack cells c.in-Some.saved c.base.result
          c.top.result c.ring.result saved.records
          c.base.ensures.value c.top.ensures.value c.ring.ensures.value
          (held_by_mark cells c.in-Some.saved c.args.mark.now ring saved before at is held)
          (c.in_err-records.ensures.lacks cells told (search rules));
      again = λ ring saved before log held is. IfOk-from_err c.from_residual.result _
          c.from_residual.ensures.0;
    }

pub returns-in_err-records-clause-entries : goal.returns-in_err-records-clause-entries
returns-in_err-records-clause-entries g c = λ cells saved told h.
    let at : c.args.mark.now.saved ≡ Some c.in-Some.saved = sym c.saved.ensures ∙ c.in-Some.is in
    record {
      loaded = IfOk-from_err c.from_residual.result _ c.from_residual.ensures.0;
      taken = IfOk-from_err c.from_residual.result _ c.from_residual.ensures.0;
      refused = λ failed. absurd (no_lack cells c.in-Some.saved c.base.result c.top.result
          c.ring.result h.records
          c.base.ensures.value c.top.ensures.value c.ring.ensures.value
          (held_by_entries cells c.in-Some.saved c.args.mark.now saved at h)
          (c.in_err-records.ensures.lacks cells told (search rules)));
    }

-- ---- a log that is read

the_read : (g : given.Over) (c : goal.After-of g) (cells : Cells)
    → cells_told (g.D.Store.told c.args.store.now) ≡ Some cells
    → IsRead cells c.args.mark.now c.in-Some.saved c.of.result
the_read g c cells told =
    let at : c.args.mark.now.saved ≡ Some c.in-Some.saved = sym c.saved.ensures ∙ c.in-Some.is in
    was_read cells c.args.mark.now c.in-Some.saved c.of.result c.base.result c.base-2.result
    c.lb-lb.result c.cp.result c.top.result c.ring.result c.in_ok-records.records.items at
    c.of.ensures c.base.ensures.value c.base-2.ensures.value c.lb-lb.ensures.value
    c.cp.ensures.value c.top.ensures.value c.ring.ensures.value c.in_ok-records.ensures.length
    (c.in_ok-records.ensures.records cells told)

pub returns-clause-records : goal.returns-clause-records
returns-clause-records g c = λ cells told.
    let at : c.args.mark.now.saved ≡ Some c.in-Some.saved = sym c.saved.ensures ∙ c.in-Some.is in
    let read = the_read g c cells told in
    let fits : fits_log c.args.mark.now.lb (Some c.in-Some.saved) ≡ true = search rules in record {
      records = λ s is.
          let same : c.in-Some.saved ≡ s = numbers_are c.in-Some.saved s c.args.mark.now.saved at
          is in
          subst (λ (n : SavedNumbers). HoldRecords n.ring cells c.of.result.base
          c.of.result.records) same read.held;
      unsaved = λ failed. cc;
      whole = λ not. absurd (read_is_whole cells c.args.mark.now c.in-Some.saved c.of.result read
          fits not);
      found = λ ring saved before log held is failed. cc;
      again = λ ring saved before log held is. read_again cells c.args.mark.now c.in-Some.saved
          c.of.result ring saved before read held is;
    }

pub returns-clause-entries : goal.returns-clause-entries
returns-clause-entries g c = λ cells saved told h.
    let at : c.args.mark.now.saved ≡ Some c.in-Some.saved = sym c.saved.ensures ∙ c.in-Some.is in
    let fits : fits_log c.args.mark.now.lb (Some c.in-Some.saved) ≡ true = search rules in record {
      loaded = read_entries cells c.args.mark.now c.in-Some.saved c.of.result saved
          (the_read g c cells told) h;
      taken = sym (fits_are c.args.mark.now saved cells h) ∙ ap (fits_log c.args.mark.now.lb) at
          ∙ fits;
      refused = λ failed. cc;
    }

pub returns-clause-log : goal.returns-clause-log
returns-clause-log g c = (
  first_of (search rules, grind (arith, common_steps)),
  first_of (search rules, grind (arith, common_steps)),
)
