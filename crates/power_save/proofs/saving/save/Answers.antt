use Rattle.std.proofs.Common.{rules, ◌≡◌, Err, Ok, Option, Result, ap, ◌∙◌, refl, subst, inl, inr}
use Rattle.std.specs.Prelude.{OnErr}
use Rattle.std.proofs.lemmas.Result.{IfOk-from_err}
use Rattle.harp_store.specs.Disk.{Moments, after_changes, after_step, synced_whole, with_mark}
use Rattle.harp_store.specs.Mark.{MarkFields}
use Rattle.power_save.specs.Saved.{SavesInPart, puts_of, saved_mark}
use Rattle.power_save.proofs.Entries.{entries_now}
use Rattle.power_save.proofs.Moments.{mark_part, mark_safe, puts_safe, saved_now, sync_part, sync_safe}
use Rattle.power_save.proofs.saving.save.Goals as goal
use Rattle.volatile_log.specs.Log.{room}

pub returns-in_err-put_records-clause-moments : goal.returns-in_err-put_records-clause-moments
returns-in_err-put_records-clause-moments g c =
    puts_safe c.args.log.now c.args.mark.now (g.D.Store.told c.args.store.now)
    (g.D.Store.told c.put_records.new.store) c.in_err-put_records.ensures.part

pub returns-in_err-sync-clause-moments : goal.returns-in_err-sync-clause-moments
returns-in_err-sync-clause-moments g c =
    sync_safe c.args.log.now c.args.mark.now (g.D.Store.told c.args.store.now)
    (g.D.Store.told c.put_records.new.store) (g.D.Store.told c.sync.new.self)
    c.in_ok-put_records.ensures.done c.in_err-sync.ensures.part

pub returns-in_err-write_mark-clause-moments : goal.returns-in_err-write_mark-clause-moments
returns-in_err-write_mark-clause-moments g c =
    mark_safe c.args.log.now c.with_saved-marked.result
    (g.D.Store.told c.args.store.now) (g.D.Store.told c.put_records.new.store)
    (g.D.Store.told c.sync.new.self) (g.D.Store.told c.write_mark.new.self)
    c.in_ok-put_records.ensures.done c.in_ok-sync.ensures.synced
    c.in_err-write_mark.ensures.part c.base.ensures.order c.in_ok-put_records.ensures.fits

pub returns-clause-moments : goal.returns-clause-moments
returns-clause-moments g c =
    mark_safe c.args.log.now c.with_saved-marked.result
    (g.D.Store.told c.args.store.now) (g.D.Store.told c.put_records.new.store)
    (g.D.Store.told c.sync.new.self) (g.D.Store.told c.write_mark.new.self)
    c.in_ok-put_records.ensures.done c.in_ok-sync.ensures.synced
    (inr c.in_ok-write_mark.ensures.written) c.base.ensures.order
    c.in_ok-put_records.ensures.fits

pub returns-clause-saved : goal.returns-clause-saved
returns-clause-saved g c =
    saved_now c.args.log.now c.with_saved-marked.result (g.D.Store.told c.args.store.now)
    (g.D.Store.told c.write_mark.new.self)
    (c.in_ok-write_mark.ensures.written
    ∙ ap (λ (o : Option Moments). after_step (with_mark c.with_saved-marked.result) o)
    (c.in_ok-sync.ensures.synced ∙ ap (λ (o : Option Moments). after_step synced_whole o)
    c.in_ok-put_records.ensures.done))
    c.base.ensures.order c.in_ok-put_records.ensures.fits

pub returns-clause-entries : goal.returns-clause-entries
returns-clause-entries g c =
    let is : c.with_saved-marked.result ≡ saved_mark room c.args.log.now c.args.mark.now = search rules in
    entries_now c.args.log.now c.args.mark.now (g.D.Store.told c.sync.new.self)
    (g.D.Store.told c.write_mark.new.self)
    (c.in_ok-write_mark.ensures.written ∙ ap (λ (m : MarkFields). after_step (with_mark m)
    (g.D.Store.told c.sync.new.self)) is)
    (saved_now c.args.log.now c.with_saved-marked.result (g.D.Store.told c.args.store.now)
    (g.D.Store.told c.write_mark.new.self)
    (c.in_ok-write_mark.ensures.written
    ∙ ap (λ (o : Option Moments). after_step (with_mark c.with_saved-marked.result) o)
    (c.in_ok-sync.ensures.synced ∙ ap (λ (o : Option Moments). after_step synced_whole o)
    c.in_ok-put_records.ensures.done))
    c.base.ensures.order c.in_ok-put_records.ensures.fits)

-- ---- the calls, and the mark in memory

-- what holds anyhow holds after an error
err_anyhow : {A E P : Type 0} (r : Result A E) → P → OnErr r P
err_anyhow (Ok x) p = tt
err_anyhow (Err e) p = p

pub returns-in_err-put_records-clause-saves : goal.returns-in_err-put_records-clause-saves
returns-in_err-put_records-clause-saves g c = record {
  done = IfOk-from_err c.from_residual.result _ c.from_residual.ensures.0;
  part = inl c.in_err-put_records.ensures.part;
  mark = IfOk-from_err c.from_residual.result _ c.from_residual.ensures.0;
  kept = err_anyhow c.from_residual.result refl;
}

pub returns-in_err-sync-clause-saves : goal.returns-in_err-sync-clause-saves
returns-in_err-sync-clause-saves g c = record {
  done = IfOk-from_err c.from_residual-in_err-sync.result _ c.from_residual-in_err-sync.ensures.0;
  part = sync_part c.args.log.now (saved_mark room c.args.log.now c.args.mark.now)
      (g.D.Store.told c.args.store.now) (g.D.Store.told c.put_records.new.store)
      (g.D.Store.told c.sync.new.self) c.in_ok-put_records.ensures.done
      c.in_err-sync.ensures.part;
  mark = IfOk-from_err c.from_residual-in_err-sync.result _ c.from_residual-in_err-sync.ensures.0;
  kept = err_anyhow c.from_residual-in_err-sync.result refl;
}

pub returns-in_err-write_mark-clause-saves : goal.returns-in_err-write_mark-clause-saves
returns-in_err-write_mark-clause-saves g c =
    let is : c.with_saved-marked.result ≡ saved_mark room c.args.log.now c.args.mark.now =
    search rules in
    record {
      done = IfOk-from_err c.from_residual-in_err-write_mark.result _
          c.from_residual-in_err-write_mark.ensures.0;
      part = subst (λ (m : MarkFields). SavesInPart c.args.log.now m
          (g.D.Store.told c.args.store.now) (g.D.Store.told c.write_mark.new.self)) is
          (mark_part c.args.log.now c.with_saved-marked.result
          (g.D.Store.told c.args.store.now) (g.D.Store.told c.put_records.new.store)
          (g.D.Store.told c.sync.new.self) (g.D.Store.told c.write_mark.new.self)
          c.in_ok-put_records.ensures.done c.in_ok-sync.ensures.synced
          c.in_err-write_mark.ensures.part);
      mark = IfOk-from_err c.from_residual-in_err-write_mark.result _
          c.from_residual-in_err-write_mark.ensures.0;
      kept = err_anyhow c.from_residual-in_err-write_mark.result refl;
    }

pub returns-clause-saves : goal.returns-clause-saves
returns-clause-saves g c =
    let is : c.with_saved-marked.result ≡ saved_mark room c.args.log.now c.args.mark.now =
    search rules in
    let old = g.D.Store.told c.args.store.now in
    let new = g.D.Store.told c.write_mark.new.self in
    record {
      done = subst (λ (m : MarkFields). new ≡ after_step (with_mark m)
          (after_step synced_whole (after_changes (puts_of c.args.log.now.records) old))) is
          (c.in_ok-write_mark.ensures.written
          ∙ ap (λ (o : Option Moments). after_step (with_mark c.with_saved-marked.result) o)
          (c.in_ok-sync.ensures.synced ∙ ap (λ (o : Option Moments). after_step synced_whole o)
          c.in_ok-put_records.ensures.done));
      part = subst (λ (m : MarkFields). SavesInPart c.args.log.now m old new) is
          (mark_part c.args.log.now c.with_saved-marked.result old
          (g.D.Store.told c.put_records.new.store) (g.D.Store.told c.sync.new.self) new
          c.in_ok-put_records.ensures.done c.in_ok-sync.ensures.synced
          (inr c.in_ok-write_mark.ensures.written));
      mark = is;
      kept = tt;
    }
