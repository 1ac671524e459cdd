use Rattle.std.proofs.Common.{ℕ, List, subst, sym}
use Rattle.world_lines.specs.Book.{BookValue}
use Rattle.group_trace.specs.DiskRun.{first_disk_scene}
use Rattle.world_lines.specs.Posted.{Posted}
use Rattle.world.specs.World.{IsWorld, WorldValue}
use Rattle.world.proofs.First.{first_stands, first_world}
use Rattle.world.proofs.world.World.new.Goals as goal

pub returns : goal.returns
returns c =
    let zero = c.in_ok-new.field-0 in
    let one = c.in_ok-new-2.field-0 in
    let two = c.in_ok-new-3.field-0 in
    let first : WorldValue = first_world zero one two in
    let packets = c.new-4.result in
    let book = c.new-5.result in
    subst (λ (d : ℕ). IsWorld first_disk_scene (record first {
      delta = d;
      packets = packets;
      book = book;
    })) (sym c.first.ensures)
    (subst (λ (ps : List Posted). IsWorld first_disk_scene (record first {
      packets = ps;
      book = book;
    })) (sym c.new-4.ensures.none)
    (subst (λ (b : BookValue). IsWorld first_disk_scene (record first { book = b }))
    (sym c.new-5.ensures)
    (first_stands zero one two c.in_ok-new.ensures.me c.in_ok-new-2.ensures.me
    c.in_ok-new-3.ensures.me c.in_ok-new.ensures.first c.in_ok-new-2.ensures.first
    c.in_ok-new-3.ensures.first)))
