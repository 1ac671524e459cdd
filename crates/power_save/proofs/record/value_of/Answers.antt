use Rattle.std.proofs.Common.{◌≤◌, ℕ, List, length, arith, sym, subst}
use Rattle.power_save.proofs.Values.{some_bytes}
use Rattle.power_save.proofs.record.value_of.Goals as goal

pub new-requires : goal.new-requires
new-requires c =
    let same = c.in_ok-bytes.ensures.value in (
      omega arith,
      (
        subst (λ (xs : List ℕ). 1 ≤ length xs) (sym same) (some_bytes c.args.item.now),
        subst (λ (xs : List ℕ). length xs ≤ 60008) (sym same) c.fields.ensures.bound,
      ),
    )
