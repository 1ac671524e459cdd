-- What the tests of a Form give.
use Rattle.std.proofs.Common.{◌≡◌, ℕ, ◌≤◌, true, false, sym, subst, ◌∙◌, arith}
use Rattle.std.specs.Prelude.{nat_le}
use Rattle.std.proofs.lemmas.Bool.{eqb-true}
use Rattle.file_tree.specs.Book.{Entry}
use Rattle.group_rules.proofs.Tests.{each_of, if_is, if_not, is_le}
use Rattle.group_rules.specs.Form.{fits, fits_tests, source_tests}
use Rattle.group_rules.specs.Limits.{limit, room}
use Rattle.group_rules.specs.Places.{Place, is_p2, same}
use Rattle.group_rules.specs.State.{Plan, Server}
use Rattle.idle_log.proofs.TakingUp.{cp_told}
use Rattle.idle_log.specs.Kept.{IsPlaced, lb_in, with_kept}
use Rattle.idle_log.specs.Pulls.{CanTake, keeps_of}
use Rattle.idle_log.specs.declared.kept.Kept.{Kept}
use Rattle.idle_log.specs.declared.kept.Kept.TheVariants as kept

-- only of server 2, which has no disk, does the mark's LB count
on_disk : (q : Place) (k : Kept) (lb other base : ℕ) → IsPlaced q k → is_p2 q ≡ false
    → base ≤ lb_in lb k → base ≤ lb_in other k
on_disk q (kept.Held l) lb other base placed stores h = h
on_disk q (kept.Lost n) lb other base placed stores h = h
on_disk q (kept.Empty e) lb other base placed stores h = absurd (let clash : true
    ≡ false = sym placed ∙ stores in cc)

pub can_take : (q : Place) (lb : ℕ) (k : Kept) (s : Server Entry) (plan : Plan) → IsPlaced q k
    → fits q (with_kept (record s { lb = lb }) k) plan ≡ true → CanTake q k plan
unfolding limit room
can_take q lb k s plan placed h =
    let t = with_kept (record s { lb = lb }) k in
    let e = each_of (fits_tests q t plan) h in
    record {
      placed = placed;
      base = is_le _ _ e.1.0;
      cp = is_le _ _ e.1.1.0;
      limit = omega (arith, is_le _ _ e.1.1.1.0);
      room = is_le _ _ e.1.1.1.1.0;
      covered = subst (λ n. n ≤ plan.start) (cp_told lb k) (is_le _ _ e.1.1.1.1.1.0);
      disk = λ other stores. on_disk q k lb other plan.base placed stores
          (is_le _ _ (sym (if_not (is_p2 q) true (nat_le plan.base (lb_in lb k)) stores)
          ∙ e.1.1.1.1.1.1.0));
      goes_on = λ keeps. is_le _ _ (sym (if_is (keeps_of q k plan)
          (nat_le t.base plan.base) true keeps) ∙ e.1.1.1.1.1.1.1.0);
      held = λ source. (each_of (source_tests t plan) (sym (if_is
          (same q plan.source) _ true source) ∙ e.1.1.1.1.1.1.1.1.0)).0;
      source = λ source. eqb-true _ _ (each_of (source_tests t plan) (sym (if_is
          (same q plan.source) _ true source) ∙ e.1.1.1.1.1.1.1.1.0)).1.0;
    }
