use Rattle.std.proofs.Common.{None, ap, refl, subst, sym, ◌∙◌, ◌≡◌}
use Rattle.group_rules.specs.Names.{place_of}
use Rattle.harp_types.specs.View.{View}
use Rattle.harp_store.specs.Mark.{MarkFields}
use Rattle.group_rules.specs.Places.{Zero, One, Two, Place, get}
use Rattle.idle_log.specs.declared.kept.Kept.{Kept}
use Rattle.node.specs.Disk.{promising}
use Rattle.node.specs.State.{Fits, IsKept, heard_of}
use Rattle.node.specs.declared.state.Joining.{Joining}
use Rattle.node.specs.declared.state.State.{State}
use Rattle.std.proofs.lemmas.Result.{IfOk-from_err}
use Rattle.node.proofs.Faults.{once_done, once_stored}
use Rattle.node.specs.Node.{NodeValue}
use Rattle.node.proofs.node.Node.join.Goals as goal

-- a mark that promises another view has the same LB
kept_on : (me : Place) (old new : MarkFields) (view : View) (kept : Kept) → new ≡ promising old
    view
    → IsKept me old kept → IsKept me new kept
kept_on me old new view kept is h =
    let same : IsKept me (promising old view) kept = record { lb = h.lb; placed = h.placed } in
    subst (λ (m : MarkFields). IsKept me m kept) (sym is) same

-- a server that has just joined heard no Formed
heard_none : (q : Place) → get (heard_of (record { zero = None; one = None; two = None })) q ≡ None
heard_none Zero = refl
heard_none One = refl
heard_none Two = refl

pub invariant_of-self-2 : goal.invariant_of-self-2
invariant_of-self-2 g c = (
  c.requires.duty,
  (
    kept_on (place_of c.self.inside.me) c.self.inside.mark c.promised_mark-mark.result c.args.view
        c.into_kept-kept.result c.promised_mark-mark.ensures
        (c.into_kept-kept.ensures.kept (place_of c.self.inside.me) c.self.inside.mark
        (subst (λ (s : State). Fits (place_of c.self.inside.me) c.self.inside.mark s)
        (sym c.replace.ensures.value) c.self.invariant.1)),
    ap (λ (j : Joining). get (heard_of j.formed) (place_of c.self.inside.me))
        c.first_joining-joins.ensures ∙ heard_none (place_of c.self.inside.me),
  ),
)

pub returns-in_err-write_mark-clause-state : goal.returns-in_err-write_mark-clause-state
returns-in_err-write_mark-clause-state g c = IfOk-from_err c.from_residual.result _
    c.from_residual.ensures.0

pub returns-in_err-write_mark-clause-stock : goal.returns-in_err-write_mark-clause-stock
returns-in_err-write_mark-clause-stock g c = IfOk-from_err c.from_residual.result _
    c.from_residual.ensures.0

pub returns-in_err-write_mark-clause-mark : goal.returns-in_err-write_mark-clause-mark
returns-in_err-write_mark-clause-mark g c = IfOk-from_err c.from_residual.result _
    c.from_residual.ensures.0

pub returns-in_err-write_mark-clause-written : goal.returns-in_err-write_mark-clause-written
returns-in_err-write_mark-clause-written g c = IfOk-from_err c.from_residual.result _
    c.from_residual.ensures.0

pub returns-clause-mark : goal.returns-clause-mark
returns-clause-mark g c = c.promised_mark-mark.ensures
    ∙ ap (λ (n : NodeValue). promising n.mark c.args.view) c.self.view_is

pub returns-clause-part : goal.returns-clause-part
returns-clause-part g c = tt

pub returns-in_err-write_mark-clause-stays : goal.returns-in_err-write_mark-clause-stays
returns-in_err-write_mark-clause-stays g c = record {
  me = refl;
  up = IfOk-from_err c.from_residual.result _ c.from_residual.ensures.0;
  cached = IfOk-from_err c.from_residual.result _ c.from_residual.ensures.0;
}

pub returns-in_err-write_mark-clause-faults : goal.returns-in_err-write_mark-clause-faults
returns-in_err-write_mark-clause-faults g c = once_stored c.from_residual.result
    c.in_err-write_mark.field-0.0 c.write_mark.result _ _ c.from_residual.ensures.1
    c.in_err-write_mark.was c.write_mark.ensures.rose c.write_mark.ensures.count

pub returns-clause-stays : goal.returns-clause-stays
returns-clause-stays g c = record {
  me = ap (λ (n : NodeValue). n.me) c.self.view_is;
  up = refl;
  cached = refl;
}

pub returns-clause-faults : goal.returns-clause-faults
returns-clause-faults g c = once_done _ _ _ c.write_mark.ensures.count

-- a server that joined before keeps what it kept
pub invariant_of-self : goal.invariant_of-self
invariant_of-self g c =
    let n = c.self.inside in (
      c.requires.duty,
      (
        kept_on (place_of n.me) n.mark c.promised_mark-mark.result c.args.view c.in-Joined.field-0
            c.promised_mark-mark.ensures
            (subst (λ (s : State). Fits (place_of n.me) n.mark s) c.in-Joined.is
            c.self.invariant.1).0,
        ap (λ (j : Joining). get (heard_of j.formed) (place_of n.me)) c.first_joining-joins.ensures
            ∙ heard_none (place_of n.me),
      ),
    )

pub returns-in-Joined-clause-mark : goal.returns-in-Joined-clause-mark
returns-in-Joined-clause-mark g c = c.promised_mark-mark.ensures
    ∙ ap (λ (n : NodeValue). promising n.mark c.args.view) c.self.view_is

pub returns-in-Joined-clause-part : goal.returns-in-Joined-clause-part
returns-in-Joined-clause-part g c = tt

pub returns-in-Joined-clause-stays : goal.returns-in-Joined-clause-stays
returns-in-Joined-clause-stays g c = record {
  me = ap (λ (n : NodeValue). n.me) c.self.view_is;
  up = refl;
  cached = refl;
}

pub returns-in-Joined-clause-faults : goal.returns-in-Joined-clause-faults
returns-in-Joined-clause-faults g c = once_done _ _ _ c.write_mark.ensures.count
