use Rattle.std.proofs.Common.{◌≡◌, length, arith, refl, ◌∙◌}
use Rattle.file_tree.specs.Tree.{place}
use Rattle.tree_listing.specs.Listing.{object_listed, tree_listed}
use Rattle.tree_listing.proofs.Gathering.{grown_by, whole_at}
use Rattle.tree_listing.proofs.Objects.{none_at_0, some_numbers}
use Rattle.tree_listing.proofs.tree.list_tree.Goals as goal

pub loop-number-init : goal.loop-number-init
loop-number-init g c = record {
  kept = c.in_ok-next.ensures.kept;
  left = c.in_ok-next.ensures.left;
  count = omega (arith, c.in_ok-next.ensures.count);
  objects = λ t told. none_at_0 t c.new-objects.result c.new-objects.ensures;
}

pub loop-number-preserved : goal.loop-number-preserved
loop-number-preserved g c = record {
  kept = c.list_object.ensures.kept ∙ c.loop-number.invariant.kept;
  left = c.list_object.ensures.left ∙ c.loop-number.invariant.left;
  count = omega (arith, c.list_object.ensures.count, c.loop-number.invariant.count);
  objects = λ t told.
      let at = c.loop-number.number in
      grown_by (λ n. object_listed t.tree n (place t.tree n)) at c.loop-number.objects
      c.list_object.new.objects (object_listed t.tree at (place t.tree at))
      (c.loop-number.invariant.objects t told) refl
      (c.in_ok-list_object.ensures.object t (c.loop-number.invariant.kept ∙ told));
}

pub returns-clause-list : goal.returns-clause-list
unfolding tree_listed
returns-clause-list g c t told =
    let some = some_numbers t in
    let next : c.in_ok-next.next ≡ length t.tree = c.in_ok-next.ensures.next t told in
    let end : c.loop-number.number ≡ length t.tree =
    omega (arith, some, next, c.loop-number-test.false, c.loop-number.auto.number-end) in
    whole_at (λ n. object_listed t.tree n (place t.tree n)) c.loop-number.number
    (length t.tree) c.loop-number.objects end (c.loop-number.invariant.objects t told)
