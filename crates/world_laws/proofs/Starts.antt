-- At first no server has a record.
use Rattle.std.proofs.Common.{◌≡◌, ◌<◌, [], Some, refl, arith}
use Rattle.file_tree.specs.Book.{Entry}
use Rattle.group_rules.specs.Limits.{room}
use Rattle.group_rules.specs.Places.{Zero, One, Two, Place, all_of}
use Rattle.group_rules.specs.State.{Saved}
use Rattle.group_rules.specs.Step.{first_group}
use Rattle.world_laws.proofs.StockSteps.{nothing_right}
use Rattle.world_laws.specs.StockLaws.{StartsRight}
use Rattle.world_laws.specs.Stocks.{HasStock, no_stock}

nothing_saved : (v : Saved Entry) → Some (record { base = 0; cp = 0; items = [] }) ≡ Some v
    → [] ≡ v.items
nothing_saved v e = cc

pub starts_right : StartsRight
unfolding all_of room
starts_right = record {
  stocks = λ q. elim q as (λ q. HasStock first_group q no_stock) [
    | Zero ↦ nothing_right first_group.page (first_group.server Zero) refl refl
    | One ↦ nothing_right first_group.page (first_group.server One) refl refl
    | Two ↦ nothing_right first_group.page (first_group.server Two) refl refl
  ];
  saved = λ q v e o. (
    none q v e,
    record {
      entries = λ i (l : i < 0). absurd (omega arith);
      changes = λ i (l : i < 0). absurd (omega arith);
    },
  );
}
  where
    none : (q : Place) (v : Saved Entry) → (first_group.server q).saved ≡ Some v → [] ≡ v.items
    none Zero v e = nothing_saved v e
    none One v e = nothing_saved v e
    none Two v e = nothing_saved v e
