-- The bytes of files, of cells in whose picture nothing is found.
use Rattle.std.proofs.Common.{◌≡◌, ℕ, ◌+◌, ◌-◌, ◌*◌, ◌/◌, ◌%◌, ◌<◌, ◌≤◌}
use Rattle.std.proofs.Common.{true, List, [], ◌∷◌, ◌++◌, length, map, get_or, drop}
use Rattle.std.proofs.Common.{replicate, Option, Some, None, refl, sym, ap, subst, ◌∙◌, arith, inl}
use Rattle.std.proofs.Common.{inr}
use Rattle.std.specs.List.{range_with_len}
use Rattle.std.specs.Option.{option_map}
use Rattle.std.proofs.lemmas.Bool.{cases_lt}
use Rattle.std.proofs.lemmas.List.{ext_get_or, get_or-append-add, get_or-drop}
use Rattle.std.proofs.lemmas.List.{get_or-replicate, get_or-take, get_or_append_left, get_or_past}
use Rattle.std.proofs.lemmas.List.{length-append, length-replicate, length-take}
use Rattle.std.proofs.lemmas.List.FromFn.{get_or-map-range_with_len, length-map-range_with_len}
use Rattle.harp_types.specs.declared.attr.Kind.{Kind}
use Rattle.harp_types.specs.declared.attr.Kind.TheVariants as kind
use Rattle.file_tree.specs.Tree.{Tree, place}
use Rattle.harp_cells.specs.declared.cell.Cell.TheVariants as cell
use Rattle.harp_cells.specs.declared.value.Value.{Value}
use Rattle.harp_cells.specs.declared.value.Value.TheVariants as value
use Rattle.harp_cells.specs.CellsOfTree.{block_of, block_value}
use Rattle.harp_cells.specs.CellsOfTree.{is_regular_at}
use Rattle.harp_cells.specs.CellsOfTree.{stands_for}
use Rattle.harp_cells.specs.Effect.{Cells}
use Rattle.audit.specs.declared.picture.Portrait.{Portrait}
use Rattle.audit.specs.Pictures.{IsShaped, attributes, bytes_read, is_link_kind}
use Rattle.audit.specs.Pictures.{object_read, picture_of, portrait_by}
use Rattle.audit.specs.Flaws.{findings, portrait_at}
use Rattle.audit.specs.Rescued.{IsOwn}
use Rattle.audit.proofs.Bodies.{content_length}
use Rattle.audit.proofs.Gathered.{found_by, gathered_at}
use Rattle.audit.proofs.Lookups.{found_from, none_past}
use Rattle.audit.proofs.Flawless.{IsWhole, clean}

-- ---- the bytes of a file

abbrev pub byte_at : Cells → ℕ → ℕ → ℕ
byte_at cells n i = get_or (bytes_read (cells (cell.Block n (i / 4096)))) (i % 4096) 0

abbrev pub content_by : Cells → ℕ → Option Kind → ℕ → List ℕ
content_by cells n None size = []
content_by cells n (Some kind.Regular) size = map (byte_at cells n) (range_with_len 0 size)
content_by cells n (Some kind.Directory) size = []
content_by cells n (Some kind.Link) size = bytes_read (cells (cell.Block n 0))

abbrev pub content_found : Cells → ℕ → Option Portrait → List ℕ
content_found cells n None = []
content_found cells n (Some x) =
    content_by cells n (attributes x.object).kind (attributes x.object).size

pub content : Cells → ℕ → List ℕ
content cells n = content_found cells n (portrait_at (picture_of cells).objects n)

-- ---- full blocks

abbrev pub full : List ℕ → List ℕ
full bytes = bytes ++ replicate (4096 - length bytes) 0

pub full_length : (bytes : List ℕ) → length bytes ≤ 4096 → length (full bytes) ≡ 4096
full_length bytes le =
    omega (
      arith,
      le,
      length-append bytes (replicate (4096 - length bytes) 0),
      length-replicate {A = ℕ} (4096 - length bytes) 0,
    )

abbrev pub zero_bytes : ℕ → List ℕ
zero_bytes m = replicate m 0

pub zeros_at : (m k : ℕ) → get_or (zero_bytes m) k 0 ≡ 0
zeros_at m k = elim (cases_lt k m) [
  | inl lt ↦ get_or-replicate m k 0 0 lt
  | inr le ↦ get_or_past (zero_bytes m) k 0 (omega (arith, le, length-replicate {A = ℕ} m 0))
]

pub full_at : (bytes : List ℕ) (k : ℕ) → get_or (full bytes) k 0 ≡ get_or bytes k 0
full_at bytes k = elim (cases_lt k (length bytes)) [
  | inl lt ↦ get_or_append_left bytes (replicate (4096 - length bytes) 0) 0 k lt
  | inr le ↦
      let behind : k ≡ length bytes + (k - length bytes) = omega (arith, le) in
      ap (λ (j : ℕ). get_or (full bytes) j 0) behind
      ∙ get_or-append-add bytes (replicate (4096 - length bytes) 0) (k - length bytes) 0
      ∙ zeros_at (4096 - length bytes) (k - length bytes) ∙ sym (get_or_past bytes k 0 le)
]

pub same_full : (xs ys : List ℕ) → length xs ≤ 4096 → length ys ≤ 4096
    → ((k : ℕ) → k < 4096 → get_or xs k 0 ≡ get_or ys k 0) → full xs ≡ full ys
same_full xs ys a b each =
    ext_get_or 0 (full xs) (full ys) (full_length xs a ∙ sym (full_length ys b))
    (λ k lt. full_at xs k ∙ each k (omega (arith, lt, full_length xs a)) ∙ sym (full_at ys k))

-- what stands for a block of a file
pub file_block : (tree : Tree) (n b : ℕ) (v : Option Value) → is_regular_at (place tree n) ≡ true
    → IsOwn (cell.Block n b) v
    → stands_for tree (cell.Block n b) v ≡ Some (value.Block (full (bytes_read v)))
file_block tree n b None file own = rw file refl
file_block tree n b (Some (value.Block bytes)) file own = rw file refl
file_block tree n b (Some (value.Meta next used stamp)) file own = absurd own
file_block tree n b (Some (value.Object i)) file own = absurd own
file_block tree n b (Some (value.Unformed i)) file own = absurd own
file_block tree n b (Some (value.Slot object name)) file own = absurd own
file_block tree n b (Some (value.Client number index reply)) file own = absurd own
file_block tree n b (Some (value.Saved bytes)) file own = absurd own
file_block tree n b (Some (value.SavedCred bytes)) file own = absurd own

pub file_part : (tree : Tree) (n b : ℕ) (xs : List ℕ) → is_regular_at (place tree n) ≡ true
    → stands_for tree (cell.Block n b) (block_value xs) ≡ Some (value.Block (full xs))
file_part tree n b [] file = rw file refl
file_part tree n b (x ∷ xs) file = rw file refl

pub byte_of_block : (cells : Cells) (n b k : ℕ) → k < 4096
    → byte_at cells n (4096 * b + k) ≡ get_or (bytes_read (cells (cell.Block n b))) k 0
byte_of_block cells n b k lt =
    let q : (4096 * b + k) / 4096 ≡ b = omega (arith, lt) in
    let r : (4096 * b + k) % 4096 ≡ k = omega (arith, lt) in
    ap (λ (j : ℕ). get_or (bytes_read (cells (cell.Block n j))) ((4096 * b + k) % 4096) 0) q
    ∙ ap (λ (j : ℕ). get_or (bytes_read (cells (cell.Block n b))) j 0) r

pub own_short : (v : Option Value) (n b : ℕ) → IsOwn (cell.Block n b) v
    → length (bytes_read v) ≤ 4096
own_short None n b own = omega arith
own_short (Some (value.Block bytes)) n b own = own.1
own_short (Some (value.Meta next used stamp)) n b own = absurd own
own_short (Some (value.Object i)) n b own = absurd own
own_short (Some (value.Unformed i)) n b own = absurd own
own_short (Some (value.Slot object name)) n b own = absurd own
own_short (Some (value.Client number index reply)) n b own = absurd own
own_short (Some (value.Saved bytes)) n b own = absurd own
own_short (Some (value.SavedCred bytes)) n b own = absurd own

pub block_length : (xs : List ℕ) (b : ℕ) → length (block_of xs b) ≤ 4096
block_length xs b = omega (arith, length-take 4096 (drop (4096 * b) xs))

pub block_at : (xs : List ℕ) (b k : ℕ) → k < 4096
    → get_or (block_of xs b) k 0 ≡ get_or xs (4096 * b + k) 0
block_at xs b k lt =
    get_or-take 4096 (drop (4096 * b) xs) k 0 lt ∙ get_or-drop (4096 * b) xs k 0

-- a byte of the file, also past its end
pub file_byte : (cells : Cells) (n b k size : ℕ) → k < 4096
    → (size ≤ 4096 * b + k → get_or (bytes_read (cells (cell.Block n b))) k 0 ≡ 0)
    → get_or (map (byte_at cells n) (range_with_len 0 size)) (4096 * b + k) 0
    ≡ get_or (bytes_read (cells (cell.Block n b))) k 0
file_byte cells n b k size lt ends = elim (cases_lt (4096 * b + k) size) [
  | inl within ↦
      get_or-map-range_with_len (byte_at cells n) 0 size (4096 * b + k) (4096 * b + k) 0 within
      (omega arith)
      ∙ byte_of_block cells n b k lt
  | inr past ↦
      get_or_past (map (byte_at cells n) (range_with_len 0 size)) (4096 * b + k) 0
      (omega (arith, past, length-map-range_with_len (byte_at cells n) 0 size))
      ∙ sym (ends past)
]

-- ---- what was read

pub record Found (cells : Cells) (n : ℕ) (x : Portrait) : Type 0 where
  pub value : Value
  pub read : object_read n (cells (cell.Object n)) ≡ Some value
  pub is : portrait_by cells n value ≡ x

pub found_value : (cells : Cells) (n : ℕ) (x : Portrait) (r : Option Value)
    → object_read n (cells (cell.Object n)) ≡ r → option_map (portrait_by cells n) r ≡ Some x
    → Found cells n x
found_value cells n x None e is = absurd cc
found_value cells n x (Some v) e is = record { value = v; read = e; is = cc }

-- the objects of a picture that have numbers of it
pub in_range : (cells : Cells) (n : ℕ) → 1 ≤ n → n < (picture_of cells).next
    → portrait_at (picture_of cells).objects n ≡ found_by cells n
in_range cells n low high =
    gathered_at cells 1 ((picture_of cells).next - 1) n low (omega (arith, low, high))

pub found : (cells : Cells) (n : ℕ) (x : Portrait) → IsShaped (picture_of cells)
    → portrait_at (picture_of cells).objects n ≡ Some x → Found cells n x
found cells n x shape e =
    let p = picture_of cells in
    let low : 1 ≤ n = found_from 1 p.next p.objects n x shape.objects e in
    elim (cases_lt n p.next) [
      | inl high ↦
          found_value cells n x (object_read n (cells (cell.Object n))) refl
          (sym (in_range cells n low high) ∙ e)
      | inr past ↦
          let none : None ≡ Some x = sym (none_past 1 p.next p.objects n shape.objects past) ∙ e in
          absurd cc
    ]

-- the content is as long as the picture says
pub filled_by : (cells : Cells) (n : ℕ) (v : Value) (k : Option Kind) → (attributes v).kind ≡ k
    → length (content_by cells n k (attributes v).size)
    ≡ content_length k (attributes v) (portrait_by cells n v).text
filled_by cells n v None e = refl
filled_by cells n v (Some kind.Regular) e =
    length-map-range_with_len (byte_at cells n) 0 (attributes v).size
filled_by cells n v (Some kind.Directory) e = refl
filled_by cells n v (Some kind.Link) e =
    let link : is_link_kind (attributes v).kind ≡ true = ap is_link_kind e in rw link refl

pub filled : (cells : Cells) → IsShaped (picture_of cells) → (n : ℕ) (x : Portrait)
    → portrait_at (picture_of cells).objects n ≡ Some x
    → length (content cells n)
    ≡ content_length (attributes x.object).kind (attributes x.object) x.text
unfolding content
filled cells shape n x e =
    let f = found cells n x shape e in
    ap (λ (o : Option Portrait). length (content_found cells n o)) e
    ∙ subst (λ (y : Portrait). length (content_by cells n (attributes y.object).kind
    (attributes y.object).size)
    ≡ content_length (attributes y.object).kind (attributes y.object) y.text) f.is
    (filled_by cells n f.value (attributes f.value).kind refl)

pub content_is : (cells : Cells) (n : ℕ) (x : Portrait)
    → portrait_at (picture_of cells).objects n ≡ Some x
    → content cells n ≡ content_by cells n (attributes x.object).kind (attributes x.object).size
unfolding content
content_is cells n x e = ap (content_found cells n) e

pub whole : (cells : Cells) → IsShaped (picture_of cells) → findings (picture_of cells) ≡ []
    → IsWhole (content cells) (picture_of cells)
whole cells shape none = record {
  shape = shape;
  clean = clean (picture_of cells) none;
  filled = filled cells shape;
}
