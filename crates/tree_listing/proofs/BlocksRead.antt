-- What stands in a block, and the list of a block.
use Rattle.std.proofs.Common.{◌≡◌, ℕ, zero, suc, ◌-◌, ◌*◌, ◌<◌, ◌≤◌, ◌==◌, ◌&&◌, min, Bool, true, false, List, [], ◌∷◌, ◌++◌, length, take, drop, replicate, Option, Some, refl, sym, ap, ◌∙◌, arith, rules, take_all}
use Rattle.std.specs.Bool.{if◌then◌else◌}
use Rattle.std.specs.List.{list_all}
use Rattle.std.proofs.lemmas.List.{ext_get_or, get_or-drop, get_or-take, length-drop, length-take}
use Rattle.std.proofs.lemmas.List.Folds.{list_all-append}
use Rattle.file_tree.specs.Outcome.{resized}
use Rattle.harp_cells.specs.declared.cell.Cell.TheVariants as cell
use Rattle.harp_cells.specs.declared.value.Value.{Value}
use Rattle.harp_cells.specs.declared.value.Value.TheVariants as value
use Rattle.harp_cells.specs.Effect.{Cells}
use Rattle.harp_cells.specs.CellsOfTree.{block_of}
use Rattle.inode_blocks.specs.Holds.{HoldsBytes, stored}
use Rattle.inode_blocks.proofs.Places.{length-resized, resized_at}
use Rattle.tree_listing.specs.Listing.{block_listed, is_zeros}
use Rattle.tree_listing.specs.declared.listing.ListedBlock.{ListedBlock}

-- ---- zeros

all_zeros : (n : ℕ) → list_all (λ (b : ℕ). b == 0) (replicate n 0) ≡ true
all_zeros zero = refl
all_zeros (suc n) = all_zeros n

and_true : (b : Bool) → (b && true) ≡ b
and_true b = search rules

-- zeros behind bytes tell nothing
pub zeros_behind : (bytes : List ℕ) (count : ℕ)
    → is_zeros (resized bytes count) ≡ is_zeros (take count bytes)
unfolding is_zeros
zeros_behind bytes count =
    list_all-append (λ (b : ℕ). b == 0) (take count bytes) (replicate (count - length bytes) 0)
    ∙ ap (λ (b : Bool). list_all (λ (x : ℕ). x == 0) (take count bytes) && b)
    (all_zeros (count - length bytes))
    ∙ and_true (list_all (λ (x : ℕ). x == 0) (take count bytes))

-- ---- blocks

-- what stands in a block, made as long as the block is, are the block's bytes
pub block_read : (held : Cells) (file : ℕ) (bytes : List ℕ) (block count : ℕ)
    → HoldsBytes held file bytes → count ≡ min (length bytes - 4096 * block) 4096
    → resized (stored (held (cell.Block file block))) count ≡ block_of bytes block
block_read held file bytes block count holds is =
    let here : List ℕ = stored (held (cell.Block file block)) in
    let long : length (take 4096 (drop (4096 * block) bytes)) ≡ count =
    length-take 4096 (drop (4096 * block) bytes)
    ∙ omega (arith, length-drop (4096 * block) bytes, is) in
    ext_get_or 0 (resized here count) (take 4096 (drop (4096 * block) bytes))
    (length-resized here count ∙ sym long)
    (λ i within.
    let short : i < count = omega (arith, length-resized here count) in
    resized_at here count i short
    ∙ holds.byte block i (omega (arith, is))
    ∙ sym (get_or-take 4096 (drop (4096 * block) bytes) i 0 (omega (arith, is))
    ∙ get_or-drop (4096 * block) bytes i 0))

pub stored_block : (v : Option Value) (bytes xs : List ℕ) → v ≡ Some (value.Block bytes)
    → xs ≡ bytes → length bytes ≤ 4096 → xs ≡ stored v
stored_block v bytes xs is same short = same ∙ sym (take_all 4096 bytes short) ∙ ap stored (sym is)

abbrev the_block : ℕ → List ℕ → ListedBlock
the_block block bytes = record { block = block; bytes = bytes }

resized_front : (bytes : List ℕ) (count : ℕ)
    → resized (take count bytes) count ≡ resized bytes count
resized_front bytes count =
    let long : length (take count bytes) ≡ min count (length bytes) = length-take count bytes in
    let missing : count - length (take count bytes) ≡ count - length bytes = omega (arith, long) in
    ap (λ (xs : List ℕ). xs ++ replicate (count - length (take count bytes)) 0)
    (take_all count (take count bytes) (omega (arith, long)))
    ∙ ap (λ (n : ℕ). take count bytes ++ replicate n 0) missing

-- the list of a block by the front of what stands in it
pub block_skipped : (block count : ℕ) (bytes front : List ℕ) → front ≡ take count bytes
    → is_zeros front ≡ true → [] ≡ block_listed block (resized bytes count)
block_skipped block count bytes front is none =
    sym (ap (λ (b : Bool). if b then [] else the_block block (resized bytes count)
    ∷ []) (zeros_behind bytes count ∙ ap is_zeros (sym is) ∙ none))

pub block_kept : (block count : ℕ) (bytes front whole : List ℕ) → front ≡ take count bytes
    → is_zeros front ≡ false → whole ≡ resized front count
    → the_block block whole ∷ [] ≡ block_listed block (resized bytes count)
block_kept block count bytes front whole is some made =
    let here : whole ≡ resized bytes count =
    made ∙ ap (λ (xs : List ℕ). resized xs count) is ∙ resized_front bytes count in
    ap (λ (xs : List ℕ). the_block block xs ∷ []) here
    ∙ sym (ap (λ (b : Bool). if b then [] else the_block block (resized bytes count) ∷ [])
    (zeros_behind bytes count ∙ ap is_zeros (sym is) ∙ some))
