use Rattle.std.proofs.Common.{arith, ap, ◌∙◌, ◌≤◌, ◌-◌, List, ℕ, drop, length}
use Rattle.std.proofs.lemmas.List.{length-take}
use Rattle.line_reader.proofs.ChunkLemmas.{taken}
use Rattle.line_reader.proofs.chunk.Chunk.take.Goals as goal

pub returns : goal.returns
returns c =
    let i = c.self.inside in
    let whole = ap (λ (xs : List ℕ). length xs) c.self.view_is in
    let few : c.args.count ≤ i.end - i.at =
    omega (arith, c.requires, whole, length-take (i.end - i.at) (drop i.at i.bytes.items)) in
    taken i.bytes.items i.at i.end c.args.count few
    ∙ ap (λ (xs : List ℕ). drop c.args.count xs) c.self.view_is
