use Rattle.std.proofs.Common.{◌≤◌, ◌-◌, List, ℕ, ap, arith, drop, length, ◌∙◌}
use Rattle.std.proofs.lemmas.List.{length-take}
use Rattle.rpc_door.proofs.Taking.{range_taken}
use Rattle.rpc_door.proofs.held.Held.pass.Goals as goal

pub returns : goal.returns
returns c =
    let i = c.self.inside in
    let few : c.args.count ≤ i.end - i.at =
    omega (
      arith,
      c.requires,
      ap (λ (xs : List ℕ). length xs) c.self.view_is,
      length-take (i.end - i.at) (drop i.at i.bytes.items),
    ) in
    range_taken i.bytes.items i.at i.end c.args.count few
    ∙ ap (λ (xs : List ℕ). drop c.args.count xs) c.self.view_is
