-- A storer that pulls, and drops what it kept.
use Rattle.std.proofs.Common.{◌≡◌, ◌+◌, true, false, refl, ap, sym, ◌∙◌, arith, true≢false}
use Rattle.group_rules.specs.Places.{Place, is_p2, same}
use Rattle.group_rules.specs.State.{Empty, Plan}
use Rattle.idle_log.specs.Kept.{IsPlaced, held_in}
use Rattle.idle_log.specs.Pulls.{needless}
use Rattle.idle_log.specs.declared.kept.Kept.{Kept}
use Rattle.idle_log.specs.declared.kept.Kept.TheVariants as kept
use Rattle.node.specs.State.{IsPulling}
use Rattle.volatile_log.specs.Log.{StagedValue}

-- a witness that isn't the source pulls all above the base, whatever it holds
needless_there : (q : Place) (k : Kept) (plan : Plan) → is_p2 q ≡ true
    → same q plan.source ≡ false → needless q k plan ≡ plan.base
needless_there q (kept.Held l) plan witness other = rw (witness, other) refl
needless_there q (kept.Lost n) plan witness other = rw other refl
needless_there q (kept.Empty e) plan witness other = rw other refl

-- so it pulls on where it drops what it held
pub pulls_on : (q : Place) (k new : Kept) (plan : Plan) (staged : StagedValue)
    → is_p2 q ≡ true → held_in new ≡ Empty → IsPlaced q new → IsPulling q k plan staged
    → IsPulling q new plan staged
pulls_on q k (kept.Held l) plan staged witness none placed h = cc
pulls_on q k (kept.Lost n) plan staged witness none placed h = cc
pulls_on q k (kept.Empty e) plan staged witness none placed h = record {
  can = record {
    placed = placed;
    base = h.can.base;
    cp = h.can.cp;
    limit = h.can.limit;
    room = h.can.room;
    covered = omega arith;
    disk = λ lb stores. absurd (true≢false (sym witness ∙ stores));
    goes_on = λ keeps. absurd (true≢false (sym keeps));
    held = λ source. absurd (true≢false (sym source ∙ h.other));
    source = λ source. absurd (true≢false (sym source ∙ h.other));
  };
  list = (
    h.list.0 ∙ ap (λ n. n + 1) (needless_there q k plan witness h.other
        ∙ sym (needless_there q (kept.Empty e) plan witness h.other)),
    h.list.1,
  );
  storer = h.storer;
  other = h.other;
}
