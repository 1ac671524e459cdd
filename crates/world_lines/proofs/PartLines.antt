-- The lines of slots and blocks, from their ends.
use Rattle.std.proofs.Common.{◌≡◌, ℕ, zero, suc, ◌+◌, ◌*◌, ◌≤◌, ◌==◌, Bool, true, false, List, [], ◌∷◌, ◌++◌, length, take, drop, get_or, Option, Some, None, refl, sym, ap, ◌∙◌, arith, append_assoc, take_all, zero-add, ◌&&◌}
use Rattle.std.specs.Prelude.{map}
use Rattle.std.specs.Bool.{if◌then◌else◌}
use Rattle.std.specs.List.{list_all}
use Rattle.std.proofs.lemmas.List.{append-nil, drop-drop, length-take, map-append, take_more}
use Rattle.trace_types.specs.declared.line.Line.{Line}
use Rattle.trace_types.specs.declared.line.Line.TheVariants as line
use Rattle.trace_claims.specs.Listing.{all_zero, block_line, block_lines, slot_lines}
use Rattle.file_tree.specs.declared.object.Slot.{Slot}
use Rattle.file_tree.specs.Tree.{Slots, blocks_of}
use Rattle.harp_cells.specs.CellsOfTree.{block_of}
use Rattle.tree_listing.specs.declared.listing.ListedBlock.{ListedBlock}
use Rattle.tree_listing.specs.declared.listing.ListedSlot.{ListedSlot}
use Rattle.tree_listing.specs.Listing.{block_listed, blocks_listed, is_zeros, of_each_below, slot_listed, slots_listed}
use Rattle.tree_listing.proofs.Gathering.{of_none, of_one_more}
use Rattle.world_lines.specs.Lines.{line_of_block, line_of_slot}

-- ---- slots

abbrev line_at : ℕ → ℕ → Option Slot → List Line
line_at dir i None = []
line_at dir i (Some s) = line.Slot dir i s.number s.name ∷ []

line_at_is : (dir i : ℕ) (s : Option Slot) → map (line_of_slot dir) (slot_listed i s) ≡ line_at dir i s
line_at_is dir i None = refl
line_at_is dir i (Some s) = refl

first_slot : (dir i : ℕ) (s : Option Slot) (slots : Slots)
    → slot_lines dir i (s ∷ slots) ≡ line_at dir i s ++ slot_lines dir (i + 1) slots
unfolding slot_lines
first_slot dir i None slots = refl
first_slot dir i (Some s) slots = refl

no_slots : (dir i : ℕ) → slot_lines dir i [] ≡ []
unfolding slot_lines
no_slots dir i = refl

last_slot : (dir i : ℕ) (slots : Slots) (s : Option Slot)
    → slot_lines dir i (slots ++ s ∷ []) ≡ slot_lines dir i slots ++ line_at dir (i + length slots) s
last_slot dir i [] s =
    let here : i ≡ i + 0 = omega arith in
    first_slot dir i s [] ∙ ap (λ (xs : List Line). line_at dir i s ++ xs) (no_slots dir (i + 1))
    ∙ append-nil (line_at dir i s) ∙ ap (λ (n : ℕ). line_at dir n s) here
    ∙ ap (λ (xs : List Line). xs ++ line_at dir (i + 0) s) (sym (no_slots dir i))
last_slot dir i (t ∷ slots) s =
    let there : i + 1 + length slots ≡ i + length (t ∷ slots) = omega arith in
    first_slot dir i t (slots ++ s ∷ [])
    ∙ ap (λ (xs : List Line). line_at dir i t ++ xs) (last_slot dir (i + 1) slots s)
    ∙ sym (append_assoc (line_at dir i t) (slot_lines dir (i + 1) slots)
    (line_at dir (i + 1 + length slots) s))
    ∙ ap (λ (n : ℕ). (line_at dir i t ++ slot_lines dir (i + 1) slots) ++ line_at dir n s) there
    ∙ ap (λ (xs : List Line). xs ++ line_at dir (i + length (t ∷ slots)) s)
    (sym (first_slot dir i t slots))

slots_so_far : (dir n : ℕ) (slots : Slots) → n ≤ length slots
    → map (line_of_slot dir) (of_each_below n (λ i. slot_listed i (get_or slots i None)))
    ≡ slot_lines dir 0 (take n slots)
slots_so_far dir zero slots le =
    ap (map (line_of_slot dir)) (of_none (λ i. slot_listed i (get_or slots i None)))
    ∙ sym (no_slots dir 0)
slots_so_far dir (suc n) slots le =
    let f : ℕ → List ListedSlot = λ i. slot_listed i (get_or slots i None) in
    let next : suc n ≡ n + 1 = omega arith in
    let long : 0 + length (take n slots) ≡ n = omega (arith, length-take n slots, le) in
    ap (λ (k : ℕ). map (line_of_slot dir) (of_each_below k f)) next
    ∙ ap (map (line_of_slot dir)) (of_one_more f n)
    ∙ map-append (line_of_slot dir) (of_each_below n f) (f n)
    ∙ ap (λ (xs : List Line). xs ++ map (line_of_slot dir) (f n))
    (slots_so_far dir n slots (omega (arith, le)))
    ∙ ap (λ (xs : List Line). slot_lines dir 0 (take n slots) ++ xs)
    (line_at_is dir n (get_or slots n None))
    ∙ ap (λ (k : ℕ). slot_lines dir 0 (take n slots) ++ line_at dir k (get_or slots n None)) (sym long)
    ∙ sym (last_slot dir 0 (take n slots) (get_or slots n None))
    ∙ ap (slot_lines dir 0) (sym (take_more slots n None (omega (arith, le))))
    ∙ ap (λ (k : ℕ). slot_lines dir 0 (take k slots)) (sym next)

-- the lines of a directory's listed slots
pub lines_of_slots : (dir : ℕ) (slots : Slots)
    → map (line_of_slot dir) (slots_listed slots) ≡ slot_lines dir 0 slots
unfolding slots_listed
lines_of_slots dir slots =
    slots_so_far dir (length slots) slots (omega arith)
    ∙ ap (slot_lines dir 0) (take_all (length slots) slots (omega arith))

-- ---- blocks

abbrev the_block : ℕ → List ℕ → ListedBlock
the_block i bytes = record { block = i; bytes = bytes }

zero_then : (b rest more : Bool) → rest ≡ more → (if b then rest else false) ≡ (b && more)
zero_then true rest more same = same
zero_then false rest more same = refl

zeros_are : (bytes : List ℕ) → all_zero bytes ≡ list_all (λ (b : ℕ). b == 0) bytes
unfolding all_zero
zeros_are [] = refl
zeros_are (b ∷ bytes) = zero_then (b == 0) (all_zero bytes) (list_all (λ (x : ℕ). x == 0) bytes) (zeros_are bytes)

where_some : (file i : ℕ) (bytes : List ℕ) (none : Bool)
    → map (line_of_block file) (if none then [] else the_block i bytes ∷ [])
    ≡ (if none then [] else line.Block file i bytes ∷ [])
where_some file i bytes true = refl
where_some file i bytes false = refl

line_of_one : (file i : ℕ) (bytes : List ℕ)
    → map (line_of_block file) (block_listed i bytes) ≡ block_line file i bytes
unfolding is_zeros
line_of_one file i bytes =
    where_some file i bytes (is_zeros bytes)
    ∙ ap (λ (b : Bool). if b then [] else line.Block file i bytes ∷ []) (sym (zeros_are bytes))

no_blocks : (file i : ℕ) (bytes : List ℕ) → block_lines file i 0 bytes ≡ []
unfolding block_lines
no_blocks file i bytes = refl

first_block : (file i n : ℕ) (bytes : List ℕ)
    → block_lines file i (suc n) bytes
    ≡ block_line file i (take 4096 bytes) ++ block_lines file (i + 1) n (drop 4096 bytes)
unfolding block_lines
first_block file i n bytes = refl

last_block : (file i n : ℕ) (bytes : List ℕ)
    → block_lines file i (n + 1) bytes
    ≡ block_lines file i n bytes ++ block_line file (i + n) (take 4096 (drop (4096 * n) bytes))
last_block file i zero bytes =
    let here : i ≡ i + 0 = omega arith in
    first_block file i 0 bytes
    ∙ ap (λ (xs : List Line). block_line file i (take 4096 bytes) ++ xs)
    (no_blocks file (i + 1) (drop 4096 bytes))
    ∙ append-nil (block_line file i (take 4096 bytes))
    ∙ ap (λ (k : ℕ). block_line file k (take 4096 bytes)) here
    ∙ ap (λ (xs : List Line). xs ++ block_line file (i + 0) (take 4096 bytes))
    (sym (no_blocks file i bytes))
last_block file i (suc n) bytes =
    let more : suc n + 1 ≡ suc (n + 1) = omega arith in
    let there : i + 1 + n ≡ i + suc n = omega arith in
    let past : 4096 + 4096 * n ≡ 4096 * suc n = omega arith in
    let first : List Line = block_line file i (take 4096 bytes) in
    let rest : List Line = block_lines file (i + 1) n (drop 4096 bytes) in
    ap (λ (k : ℕ). block_lines file i k bytes) more
    ∙ first_block file i (n + 1) bytes
    ∙ ap (λ (xs : List Line). first ++ xs) (last_block file (i + 1) n (drop 4096 bytes))
    ∙ sym (append_assoc first rest
    (block_line file (i + 1 + n) (take 4096 (drop (4096 * n) (drop 4096 bytes)))))
    ∙ ap (λ (xs : List ℕ). (first ++ rest) ++ block_line file (i + 1 + n) (take 4096 xs))
    (drop-drop (4096 * n) 4096 bytes ∙ ap (λ (k : ℕ). drop k bytes) past)
    ∙ ap (λ (k : ℕ). (first ++ rest) ++ block_line file k (take 4096 (drop (4096 * suc n) bytes)))
    there
    ∙ ap (λ (xs : List Line). xs ++ block_line file (i + suc n)
    (take 4096 (drop (4096 * suc n) bytes))) (sym (first_block file i n bytes))

blocks_so_far : (file n : ℕ) (bytes : List ℕ)
    → map (line_of_block file) (of_each_below n (λ i. block_listed i (block_of bytes i)))
    ≡ block_lines file 0 n bytes
blocks_so_far file zero bytes =
    ap (map (line_of_block file)) (of_none (λ i. block_listed i (block_of bytes i)))
    ∙ sym (no_blocks file 0 bytes)
blocks_so_far file (suc n) bytes =
    let f : ℕ → List ListedBlock = λ i. block_listed i (block_of bytes i) in
    let next : suc n ≡ n + 1 = omega arith in
    ap (λ (k : ℕ). map (line_of_block file) (of_each_below k f)) next
    ∙ ap (map (line_of_block file)) (of_one_more f n)
    ∙ map-append (line_of_block file) (of_each_below n f) (f n)
    ∙ ap (λ (xs : List Line). xs ++ map (line_of_block file) (f n)) (blocks_so_far file n bytes)
    ∙ ap (λ (xs : List Line). block_lines file 0 n bytes ++ xs)
    (line_of_one file n (block_of bytes n))
    ∙ ap (λ (k : ℕ). block_lines file 0 n bytes ++ block_line file k (block_of bytes n)) (sym (zero-add n))
    ∙ sym (last_block file 0 n bytes)
    ∙ ap (λ (k : ℕ). block_lines file 0 k bytes) (sym next)

-- the lines of a file's listed blocks
pub lines_of_blocks : (file : ℕ) (bytes : List ℕ)
    → map (line_of_block file) (blocks_listed bytes)
    ≡ block_lines file 0 (blocks_of (length bytes)) bytes
unfolding blocks_listed
lines_of_blocks file bytes = blocks_so_far file (blocks_of (length bytes)) bytes
