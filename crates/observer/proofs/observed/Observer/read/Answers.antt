use Rattle.std.proofs.Common.{◌≡◌, ℕ, Option, Result, IfOk, IfSome, refl, sym, subst, take}
use Rattle.std.specs.declared.alloc.AllocError.{AllocError}
use Rattle.file_tree.specs.Book.{tree_after}
use Rattle.file_tree.specs.Calls.{outcome}
use Rattle.event_record.specs.Bytes.{superuser}
use Rattle.harp_types.specs.declared.reply.Reply.{Reply}
use Rattle.harp_cells.specs.Memory.{held}
use Rattle.harp_cells.specs.declared.reads.CellFault.{CellFault}
use Rattle.observer.specs.Sound.{IsSoundObserver, ObserverValue}
use Rattle.record_changes.specs.Records.{history_of}
use Rattle.observer.proofs.Copies.{exact_finished, tree_cells}
use Rattle.observer.proofs.observed.Observer.read.Goals as goal
use Rattle.observer.proofs.observed.Observer.read.Goals.{in-Ok, in-Err}

pub returns-clause-reply : goal.returns-clause-reply
returns-clause-reply c entries updates sound =
    let history = history_of entries in
    let call = c.args.call.now in
    let o : ObserverValue = record {
      progress = c.self.inside.progress;
      finished = c.self.inside.finished;
      copied = c.self.inside.copied;
    } in
    let s : IsSoundObserver history o =
    subst (IsSoundObserver history) (sym c.self.view_is) sound in
    let exact = exact_finished history o c.in-Some.top c.in-Some.is s in
    let t = tree_cells entries c.in-Some.top (held o.finished) updates exact in
    let told = c.answer.ensures.reply t 0 refl in
    elim c.match-answer.branch [
      | in-Ok w ↦
          subst (λ (r : Result (Option (ℕ × Reply)) AllocError). IfOk r (λ x. IfSome x
          (λ p. p.1 ≡ (outcome (tree_after (take p.0 entries)) superuser call 0).0)))
          (sym w.result-is)
          (subst (λ (r : Result Reply CellFault). IfOk r
          (λ reply. reply ≡ (outcome (tree_after (take c.in-Some.top entries)) superuser call 0).0))
          w.in-Ok.is told)
      | in-Err w ↦
          subst (λ (r : Result (Option (ℕ × Reply)) AllocError). IfOk r (λ x. IfSome x
          (λ p. p.1 ≡ (outcome (tree_after (take p.0 entries)) superuser call 0).0)))
          (sym w.result-is) tt
    ]
