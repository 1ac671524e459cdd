-- The listing of a sound tree has few lines.
use Rattle.std.proofs.Common.{ℕ, zero, suc, ◌+◌, ◌*◌, ◌≤◌, List, [], ◌∷◌, length, drop, sum_by, take, Option, Some, None, arith}
use Rattle.std.proofs.lemmas.List.{length-append}
use Rattle.std.proofs.lemmas.List.Sums.{sum_by-cons}
use Rattle.trace_types.specs.declared.line.Line.{Line}
use Rattle.trace_types.specs.declared.line.Line.TheVariants as line
use Rattle.trace_claims.specs.Listing.{all_zero, block_line, block_lines, body_lines, living, object_lines, objects_from, slot_lines, tree_lines}
use Rattle.file_tree.specs.declared.object.Body.{Body}
use Rattle.file_tree.specs.declared.object.Body.TheVariants as body
use Rattle.file_tree.specs.declared.object.Object.{Object}
use Rattle.file_tree.specs.Sound.{IsSound}
use Rattle.file_tree.specs.Tree.{Slots, Tree, blocks_at, blocks_of, size_of, used_blocks}
use Rattle.group_rules.proofs.Tests.{by_if}
use Rattle.accept_laws.specs.CountLaws.{ListingsAreFew}
use Rattle.accept_laws.proofs.Living.{living_few}

slots_few : (dir i : ℕ) (slots : Slots) → length (slot_lines dir i slots) ≤ length slots
unfolding slot_lines
slots_few dir i [] = omega arith
slots_few dir i (None ∷ slots) = let rest = slots_few dir (i + 1) slots in omega (arith, rest)
slots_few dir i (Some s ∷ slots) = let rest = slots_few dir (i + 1) slots in omega (arith, rest)

blocks_few : (file i n : ℕ) (bytes : List ℕ) → length (block_lines file i n bytes) ≤ n
unfolding block_lines
blocks_few file i zero bytes = omega arith
blocks_few file i (suc n) bytes =
    let part = take 4096 bytes in
    let rest = blocks_few file (i + 1) n (drop 4096 bytes) in
    let one = by_if (λ (ls : List Line). length ls ≤ 1) (all_zero part) []
    (line.Block file i part ∷ []) (λ _. omega arith) (λ _. omega arith) in
    let both = length-append (block_line file i part) (block_lines file (i + 1) n (drop 4096 bytes))
    in omega (arith, rest, one, both)

body_few : (number : ℕ) (b : Body)
    → length (body_lines number b) ≤ 1 + 16 * blocks_of (size_of b)
body_few number (body.Regular bytes) =
    let few = blocks_few number 0 (blocks_of (length bytes)) bytes in omega (arith, few)
body_few number (body.Directory slots) =
    let few = slots_few number 0 slots in omega (arith, few)
body_few number (body.Link text) = omega arith

objects_few : (tree : Tree) (number : ℕ) (os : List (Option Object))
    → length (objects_from tree number os) ≤ 2 * living os + 16 * sum_by blocks_at os
unfolding objects_from living
objects_few tree number [] = omega arith
objects_few tree number (o ∷ os) =
    let rest = objects_few tree (number + 1) os in
    let both = length-append (object_lines tree number o) (objects_from tree (number + 1) os) in
    let blocks = sum_by-cons blocks_at o os in
    let here = by o in
    omega (arith, rest, both, blocks, here)
  where
    by : (o : Option Object) → length (object_lines tree number o) + 2 * living os
        ≤ 2 * living (o ∷ os) + 16 * blocks_at o
    by None = omega arith
    by (Some x) = let few = body_few number x.body in omega (arith, few)

pub tree_few : (tree : Tree) → IsSound tree → length (tree_lines tree) ≤ 3145730
unfolding used_blocks
tree_few tree is =
    let all = objects_few tree 0 tree in
    let live = living_few tree is in
    let room = is.limits.room in
    omega (arith, all, live, room)

pub listings_few : ListingsAreFew
listings_few tree is = let few = tree_few tree is in omega (arith, few)
