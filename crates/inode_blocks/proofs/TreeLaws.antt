-- Cells of a tree hold the bytes of its files, and cells that hold them stand for it.
use Rattle.std.proofs.Common.{◌≡◌, ℕ, ◌+◌, ◌-◌, ◌*◌, ◌<◌, ◌≤◌, max, Bool, true, false, List, [], ◌∷◌, ◌++◌, length, take, drop, replicate, get_or, Option, Some, None, refl, sym, ap, ◌∙◌, arith, inl, inr, subst}
use Rattle.std.specs.Bool.{if◌then◌else◌}
use Rattle.std.proofs.lemmas.Bool.{cases_eq, cases_lt}
use Rattle.std.proofs.lemmas.List.{get_or-take, get_or-drop, get_or_past, get_or_append_left, get_or-append_right, length-take, length-append, length-replicate, ext_get_or, drop_all, take_all}
use Rattle.file_tree.specs.Tree.{Tree, place}
use Rattle.harp_cells.specs.declared.cell.Cell.{Cell}
use Rattle.harp_cells.specs.declared.cell.Cell.TheVariants as cell
use Rattle.harp_cells.specs.declared.value.Value.{Value}
use Rattle.harp_cells.specs.declared.value.Value.TheVariants as value
use Rattle.harp_cells.specs.Effect.{Cells, after, changed}
use Rattle.harp_cells.specs.CellsOfTree.{StandForTree, content_of, block_of, block_value, full_value, zero_block, is_regular_at, stands_for}
use Rattle.inode_blocks.specs.Holds.{stored, IsBlock, HoldsBytes, EndsAt}
use Rattle.inode_blocks.specs.Changes.{is_block_of, put, text_put}
use Rattle.inode_blocks.specs.Laws.{TreesHold, FilesStand, OthersAreExact, ErasuresLead, TextsLead}
use Rattle.inode_blocks.proofs.Places.{zero_at}
use Rattle.inode_blocks.proofs.BlockCells.{put_here, put_elsewhere, put_apart, erased_from, erased_apart}

-- ---- bytes with zeros up to the end of a block

padded : List ℕ → List ℕ
padded xs = xs ++ replicate (4096 - length xs) 0

length-padded : (xs : List ℕ) → length (padded xs) ≡ max (length xs) 4096
unfolding padded
length-padded xs = simp (length-append, length-replicate) (omega arith)

padded_at : (xs : List ℕ) (i : ℕ) → get_or (padded xs) i 0 ≡ get_or xs i 0
unfolding padded
padded_at xs i = elim (cases_lt i (length xs)) [
  | inl within ↦ get_or_append_left xs (replicate (4096 - length xs) 0) 0 i within
  | inr past ↦ get_or-append_right xs (replicate (4096 - length xs) 0) (length xs) i 0 refl past
      ∙ zero_at (4096 - length xs) (i - length xs) ∙ sym (get_or_past xs i 0 past)
]

same_padded : (xs ys : List ℕ) → length xs ≤ 4096 → length ys ≤ 4096
    → ((at : ℕ) → at < 4096 → get_or xs at 0 ≡ get_or ys at 0) → padded xs ≡ padded ys
same_padded xs ys short also same = ext_get_or 0 (padded xs) (padded ys)
    (omega (arith, length-padded xs, length-padded ys))
    (λ i within. padded_at xs i ∙ same i (omega (arith, length-padded xs)) ∙ sym (padded_at ys i))

-- ---- what the value of a block stands for

-- the 4096 bytes of a value of a block in a file
full : Option Value → Value
full None = zero_block
full (Some v) = full_value v

stands_if : Bool → Option Value → Option Value
stands_if true v = Some (full v)
stands_if false v = v

stands_is : (tree : Tree) (object block : ℕ) (v : Option Value) (t : Bool)
    → t ≡ is_regular_at (place tree object)
    → stands_for tree (cell.Block object block) v ≡ stands_if t v
unfolding full stands_if
stands_is tree object block None true e = ap
    (λ (b : Bool). if◌then◌else◌ {A = Option Value} b (Some zero_block) None) (sym e)
stands_is tree object block None false e = ap
    (λ (b : Bool). if◌then◌else◌ {A = Option Value} b (Some zero_block) None) (sym e)
stands_is tree object block (Some v) true e =
    ap (λ (b : Bool). Some (if◌then◌else◌ {A = Value} b (full_value v) v))
    (sym e)
stands_is tree object block (Some v) false e = ap
    (λ (b : Bool). Some (if◌then◌else◌ {A = Value} b (full_value v) v)) (sym e)

full_block : (bytes : List ℕ) → full (block_value bytes) ≡ value.Block (padded bytes)
unfolding full padded
full_block [] = refl
full_block (b ∷ bytes) = refl

-- the bytes of a block
raw : Value → List ℕ
raw (value.Block bytes) = bytes
raw (value.Meta next used stamp) = []
raw (value.Object inode) = []
raw (value.Unformed inode) = []
raw (value.Slot object name) = []
raw (value.Client number index reply) = []
raw (value.Saved bytes) = []
raw (value.SavedCred bytes) = []

-- a cell of a block holds these bytes
record HoldsBlock (v : Option Value) (bytes : List ℕ) : Type 0 where
  kind : IsBlock v
  byte : (at : ℕ) → at < 4096 → get_or (stored v) at 0 ≡ get_or bytes at 0

by_bytes : (bytes new : List ℕ) → padded bytes ≡ padded new → length new ≤ 4096
    → HoldsBlock (Some (value.Block bytes)) new
by_bytes bytes new e short = record {
  kind = omega (arith, length-padded bytes, length-padded new, ap length e);
  byte = λ at within. get_or-take 4096 bytes at 0 within ∙ sym (padded_at bytes at)
      ∙ ap (λ (xs : List ℕ). get_or xs at 0) e ∙ padded_at new at;
}

by_full : (v : Option Value) (bytes : List ℕ) → length bytes ≤ 4096
    → full v ≡ value.Block (padded bytes)
    → HoldsBlock v bytes
unfolding full raw padded
by_full None bytes short e = record {
  kind = tt;
  byte = λ at within. sym (zero_at 4096 at) ∙ ap (λ (w : Value). get_or (raw w) at 0) e
      ∙ padded_at bytes at;
}
by_full (Some (value.Block b)) bytes short e = by_bytes b bytes (ap raw e) short
by_full (Some (value.Meta next used stamp)) bytes short e = absurd cc
by_full (Some (value.Object inode)) bytes short e = absurd cc
by_full (Some (value.Unformed inode)) bytes short e = absurd cc
by_full (Some (value.Slot object name)) bytes short e = absurd cc
by_full (Some (value.Client number index reply)) bytes short e = absurd cc
by_full (Some (value.Saved b)) bytes short e = absurd cc
by_full (Some (value.SavedCred b)) bytes short e = absurd cc

block_value_holds : (bytes : List ℕ) → length bytes ≤ 4096 → HoldsBlock (block_value bytes) bytes
block_value_holds [] short = record { kind = tt; byte = λ at within. refl }
block_value_holds (b ∷ bytes) short = record
    { kind = short; byte = λ at within. get_or-take 4096 (b ∷ bytes) at 0 within }

by_stands : (t : Bool) (v : Option Value) (bytes : List ℕ) → length bytes ≤ 4096
    → stands_if t v ≡ stands_if t (block_value bytes) → HoldsBlock v bytes
unfolding stands_if
by_stands true v bytes short e = let f : full v ≡ full (block_value bytes) = cc in
    by_full v bytes short
    (f ∙ full_block bytes)
by_stands false v bytes short e = subst (λ (w : Option Value). HoldsBlock w bytes) (sym e)
    (block_value_holds bytes short)

block_of_at : (bytes : List ℕ) (block at : ℕ) → at < 4096
    → get_or (block_of bytes block) at 0 ≡ get_or bytes (4096 * block + at) 0
block_of_at bytes block at within = get_or-take 4096 (drop (4096 * block) bytes) at 0 within
    ∙ get_or-drop (4096 * block) bytes at 0

short_block : (bytes : List ℕ) (block : ℕ) → length (block_of bytes block) ≤ 4096
short_block bytes block = omega (arith, length-take 4096 (drop (4096 * block) bytes))

tree_block : (cells : Cells) (tree : Tree) (stamp object block : ℕ) → StandForTree cells tree stamp
    → HoldsBlock (cells (cell.Block object block)) (block_of (content_of (place tree object)) block)
tree_block cells tree stamp object block stand =
    by_stands (is_regular_at (place tree object)) (cells (cell.Block object block))
    (block_of (content_of (place tree object)) block)
    (short_block (content_of (place tree object)) block)
    (sym (stands_is tree object block (cells (cell.Block object block))
    (is_regular_at (place tree object)) refl)
    ∙ stand.block object block
    ∙ stands_is tree object block (block_value (block_of (content_of (place tree object)) block))
    (is_regular_at (place tree object)) refl)

pub trees_hold : TreesHold
trees_hold cells tree stamp stand object = record {
  blocks = λ block. (tree_block cells tree stamp object block stand).kind;
  byte = λ block at within. (tree_block cells tree stamp object block stand).byte at within
      ∙ block_of_at (content_of (place tree object)) block at within;
}

-- ---- and back

full_stored : (bytes : List ℕ) → full_value (value.Block bytes) ≡ value.Block (padded bytes)
unfolding padded
full_stored bytes = refl

full_of : (v : Option Value) (bytes : List ℕ) → length bytes ≤ 4096 → HoldsBlock v bytes
    → full v ≡ value.Block (padded bytes)
unfolding full
full_of None bytes short h = full_block []
    ∙ ap value.Block (same_padded [] bytes (omega arith) short h.byte)
full_of (Some (value.Block b)) bytes short h = full_stored b
    ∙ ap value.Block (same_padded b bytes h.kind short
    (λ at within. sym (get_or-take 4096 b at 0 within) ∙ h.byte at within))
full_of (Some (value.Meta next used stamp)) bytes short h = absurd h.kind
full_of (Some (value.Object inode)) bytes short h = absurd h.kind
full_of (Some (value.Unformed inode)) bytes short h = absurd h.kind
full_of (Some (value.Slot object name)) bytes short h = absurd h.kind
full_of (Some (value.Client number index reply)) bytes short h = absurd h.kind
full_of (Some (value.Saved b)) bytes short h = absurd h.kind
full_of (Some (value.SavedCred b)) bytes short h = absurd h.kind

file_block : (cells : Cells) (object : ℕ) (bytes : List ℕ) (block : ℕ)
    → HoldsBytes cells object bytes
    → full (cells (cell.Block object block)) ≡ full (block_value (block_of bytes block))
file_block cells object bytes block holds =
    full_of (cells (cell.Block object block)) (block_of bytes block) (short_block bytes block)
    (record {
      kind = holds.blocks block;
      byte = λ at within. holds.byte block at within
          ∙ sym (block_of_at bytes block at within);
    })
    ∙ sym (full_block (block_of bytes block))

pub files_stand : FilesStand
unfolding stands_if
files_stand cells tree object regular holds block =
    stands_is tree object block (cells (cell.Block object block)) true (sym regular)
    ∙ ap Some (file_block cells object (content_of (place tree object)) block holds)
    ∙ sym (stands_is tree object block
    (block_value (block_of (content_of (place tree object)) block)) true
    (sym regular))

-- ---- other objects

pub past_end : (bytes : List ℕ) (block : ℕ) → length bytes ≤ 4096 * block
    → block_value (block_of bytes block) ≡ None
past_end bytes block past =
    ap (λ (xs : List ℕ). block_value (take 4096 xs)) (drop_all (4096 * block) bytes past)

exact : (cells : Cells) (tree : Tree) (stamp object : ℕ) → StandForTree cells tree stamp
    → is_regular_at (place tree object) ≡ false
    → (block : ℕ) → cells (cell.Block object block)
    ≡ block_value (block_of (content_of (place tree object)) block)
unfolding stands_if
exact cells tree stamp object stand other block =
    sym (stands_is tree object block (cells (cell.Block object block)) false (sym other))
    ∙ stand.block object block
    ∙ stands_is tree object block (block_value
    (block_of (content_of (place tree object)) block)) false (sym other)

pub others_are_exact : OthersAreExact
others_are_exact cells tree stamp stand object other = (
  exact cells tree stamp object stand other,
  λ block past. exact cells tree stamp object stand other block
      ∙ past_end (content_of (place tree object)) block past,
)

pub erasures_lead : ErasuresLead
erasures_lead cells object = (
  λ block past. erased_from object 0 block (cells (cell.Block object block)) (omega arith),
  λ c other. erased_apart object 0 c (cells c) other,
)

-- ---- the text of a link

text_block : (cells : Cells) (object : ℕ) (text : List ℕ) → EndsAt cells object 0
    → length text ≤ 4096
    → (block : ℕ) → after (text_put object text) cells (cell.Block object block)
    ≡ block_value (block_of text block)
text_block cells object [] ends short block = ends block (omega arith)
    ∙ sym (past_end [] block (omega arith))
text_block cells object (b ∷ bytes) ends short block = elim (cases_eq 0 block) [
  | inl first ↦ subst (λ (k : ℕ). changed (cell.Block object k) (cells (cell.Block object k))
      (put object 0 (b ∷ bytes)) ≡ block_value (block_of (b ∷ bytes) k)) first
      (put_here object 0 (b ∷ bytes) (cells (cell.Block object 0))
      ∙ ap block_value (sym (take_all 4096 (b ∷ bytes) short)))
  | inr other ↦ put_elsewhere object 0 block (b ∷ bytes) (cells (cell.Block object block)) other
      ∙ ends block (omega arith) ∙ sym (past_end (b ∷ bytes) block (omega (arith, other)))
]

pub text_apart : (cells : Cells) (object : ℕ) (text : List ℕ) (c : Cell)
    → is_block_of object c ≡ false
    → after (text_put object text) cells c ≡ cells c
text_apart cells object [] c other = refl
text_apart cells object (b ∷ bytes) c other = put_apart object 0 (b ∷ bytes) c (cells c) other

pub texts_lead : TextsLead
texts_lead cells object text ends
    short = (
      text_block cells object text ends short,
      λ c other. text_apart cells object text c other,
    )
