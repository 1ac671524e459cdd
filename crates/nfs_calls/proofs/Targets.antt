-- What the target of a rename refuses.
use Rattle.std.proofs.Common.{◌≡◌, ℕ, ◌==◌, ◌&&◌, Bool, true, false, not, List, Option, Some, None, Ok, Err, refl, sym, ap, ◌∙◌, inl, inr}
use mathlib.Core.Bool.{beq}
use Rattle.std.proofs.lemmas.Bool.{cases_Bool, eq-eqb, ne_eqb, both_ways}
use Rattle.harp_types.specs.declared.attr.Time.{Time}
use Rattle.harp_types.specs.declared.call.Call.TheVariants as call
use Rattle.harp_types.specs.declared.reply.Status.{Status}
use Rattle.harp_types.specs.declared.reply.Status.TheVariants.{NotDir, IsDir, NotEmpty}
use Rattle.file_tree.specs.declared.object.Body.{Body}
use Rattle.file_tree.specs.declared.object.Body.TheVariants.{Regular, Directory, Link}
use Rattle.file_tree.specs.declared.object.Object.{Object}
use Rattle.file_tree.specs.Tree.{Tree, place, slots_of, slots_within, entry, is_directory, is_directory_at}
use Rattle.file_tree.specs.Outcome.{has_no_entry}
use Rattle.file_tree.specs.Rename.{check_target}
use Rattle.file_tree.specs.Tries.{Tried}
use Rattle.file_tree.proofs.RenameLaw.{target_bare}
use Rattle.file_tree.proofs.TryLaws.{unless, refused_unless, given_at}
use Rattle.harp_cells.specs.declared.value.Inode.{Inode}
use Rattle.harp_cells.specs.Effect.{Cells}
use Rattle.nfs_calls.specs.declared.updates.relocation.Relocation.{Relocation}
use Rattle.nfs_calls.specs.declared.error.CallError.{CallError}
use Rattle.nfs_calls.specs.declared.error.CallError.TheVariants as error
use Rattle.nfs_calls.specs.TreeCells.{IsInode}
use Rattle.nfs_calls.specs.Gives.{Fails}
use Rattle.nfs_calls.specs.Plans.{planned}
use Rattle.nfs_calls.specs.Moves.{kind_refusal, moved_outcome}
use Rattle.nfs_calls.proofs.MovesOver.{IsTarget}

pub differ : (a b : Bool) → not (beq a b) ≡ true → a ≡ b → ⊥
differ true true e same = absurd cc
differ false false e same = absurd cc
differ true false e same = absurd cc
differ false true e same = absurd cc

pub alike : (a b : Bool) → not (beq a b) ≡ false → a ≡ b
alike true true e = refl
alike false false e = refl
alike true false e = absurd cc
alike false true e = absurd cc

-- a directory and what is none
pub target_differs : (tree : Tree) (moved i y : ℕ) (a b : Bool)
    → a ≡ is_directory_at (place tree moved) → b ≡ is_directory_at (place tree y) → (a ≡ b → ⊥)
    → check_target tree moved (Some (i, y)) ≡ Err (kind_refusal a)
unfolding check_target
target_differs tree moved i y true false d e ne = rw (sym d, sym e) refl
target_differs tree moved i y false true d e ne = rw (sym d, sym e) refl
target_differs tree moved i y true true d e ne = absurd (ne refl)
target_differs tree moved i y false false d e ne = absurd (ne refl)

-- the moved object itself
pub target_same : (tree : Tree) (moved i y : ℕ) → y ≡ moved
    → check_target tree moved (Some (i, y)) ≡ Ok tt
unfolding check_target
target_same tree moved i y e =
    let same : (y == moved) ≡ true = eq-eqb y moved e in
    let kind : is_directory_at (place tree y) ≡ is_directory_at (place tree moved) =
    ap (λ (n : ℕ). is_directory_at (place tree n)) e in
    elim (cases_Bool (is_directory_at (place tree moved))) [
      | inl d ↦ rw (kind, d, same) refl
      | inr d ↦ rw (kind, d) refl
    ]

file_is_empty : (b : Body) → is_directory b ≡ false → has_no_entry (slots_within b) ≡ true
file_is_empty (Directory slots) d = absurd cc
file_is_empty (Regular bytes) d = refl
file_is_empty (Link text) d = refl

none_is_empty : (x : Option Object) → is_directory_at x ≡ false → has_no_entry (slots_of x) ≡ true
none_is_empty None d = refl
none_is_empty (Some o) d = file_is_empty o.body d

-- a directory with an entry
pub target_full : (tree : Tree) (moved i y : ℕ)
    → is_directory_at (place tree moved) ≡ is_directory_at (place tree y) → (y ≡ moved → ⊥)
    → has_no_entry (slots_of (place tree y)) ≡ false
    → check_target tree moved (Some (i, y)) ≡ Err NotEmpty
unfolding check_target
target_full tree moved i y kind ne full =
    let other : (y == moved) ≡ false = ne_eqb y moved ne in
    elim (cases_Bool (is_directory_at (place tree y))) [
      | inl d ↦ rw (kind ∙ d, d, other, full) refl
      | inr d ↦ absurd (both_ways _ full (none_is_empty (place tree y) d))
    ]

-- an object without an entry
pub target_empty : (tree : Tree) (moved i y : ℕ)
    → is_directory_at (place tree moved) ≡ is_directory_at (place tree y) → (y ≡ moved → ⊥)
    → has_no_entry (slots_of (place tree y)) ≡ true → check_target tree moved (Some (i, y)) ≡ Ok tt
unfolding check_target
target_empty tree moved i y kind ne empty =
    let other : (y == moved) ≡ false = ne_eqb y moved ne in
    elim (cases_Bool (is_directory_at (place tree y))) [
      | inl d ↦ rw (kind ∙ d, d, other, empty) refl
      | inr d ↦ rw (kind ∙ d, d) refl
    ]

both_ways_round : (a b : Bool) → (a && not b) ≡ false → (b && not a) ≡ false → b ≡ a
both_ways_round true true e f = refl
both_ways_round false false e f = refl
both_ways_round true false e f = absurd cc
both_ways_round false true e f = absurd cc

-- what is accepted is of the same kind
pub target_kind : (tree : Tree) (moved : ℕ) (y : ℕ × ℕ) → check_target tree moved (Some y) ≡ Ok tt
    → is_directory_at (place tree y.1) ≡ is_directory_at (place tree moved)
unfolding check_target
target_kind tree moved y e =
    let a = is_directory_at (place tree moved) in
    let b = is_directory_at (place tree y.1) in
    given_at (check_target tree moved (Some y)) (λ u. b ≡ a) tt
    (unless NotDir (a && not b) _ (λ u. b ≡ a) (λ first.
    unless IsDir (b && not a) _ (λ u. b ≡ a) (λ second.
    refused_unless NotEmpty (b && not (y.1 == moved)
    && not (has_no_entry (slots_of (place tree y.1)))) (λ u. b ≡ a) (λ third.
    both_ways_round a b first second)))) e

pub target_is : (tree : Tree) (m : Relocation) (to_name : List ℕ) (y : ℕ × ℕ) (j : Inode)
    → entry (slots_of (place tree m.to_dir)) to_name ≡ Some y → IsInode tree y.1 j
    → (y.1 ≡ m.number → ⊥) → check_target tree m.number (Some y) ≡ Ok tt
    → IsTarget tree m to_name y j
target_is tree m to_name y j e is ne checked = record {
  entry = e;
  object = is;
  other = ne;
  bare = target_bare tree m.number y checked ne;
  kinds = target_kind tree m.number y checked;
}

-- a refusal that one step gives, and then another one
pub fails_then : {A B : Type 0} (r : CallError) (a : Tried A) (b : Tried B)
    → ((status : Status) → a ≡ Err status → b ≡ Err status) → Fails r a → Fails r b
fails_then (error.Fault fault) a b h e = tt
fails_then (error.Status status) a b h e = h status e

pub target_refused : (cells : Cells) (tree : Tree) (m : Relocation) (name to_name : List ℕ)
    (y : ℕ × ℕ) (now : Time) (status : Status) → check_target tree m.number (Some y) ≡ Err status
    → planned cells tree (call.Rename m.dir name m.to_dir to_name)
    (moved_outcome tree m.dir (m.slot, m.number) m.to_dir to_name (Some y) now) ≡ Err status
target_refused cells tree m name to_name y now status e = rw e refl
