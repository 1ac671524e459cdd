-- What a shown cell rules out is absent after as many updates as it was shown with.
use Rattle.std.proofs.Common.{◌≡◌, ℕ, ◌+◌, ◌*◌, ◌<◌, ◌≤◌, ◌==◌, ◌&&◌, ◌⊎◌, Bool, true, false}
use Rattle.std.proofs.Common.{length, Option, Some, None, refl, sym, ap, subst, ◌∙◌, arith, inl}
use Rattle.std.proofs.Common.{inr}
use Rattle.std.specs.Prelude.{nat_lt}
use Rattle.std.proofs.lemmas.Bool.{and_cases, and_right, both_ways, cases_lt, eq-eqb, le-ltb}
use Rattle.std.proofs.lemmas.Bool.{lt-ltb, or_from, or_parts, or_right}
use Rattle.file_tree.specs.declared.object.Body.{Body}
use Rattle.file_tree.specs.declared.object.Body.TheVariants as body
use Rattle.file_tree.specs.declared.object.Object.{Object}
use Rattle.file_tree.specs.Tree.{blocks_of, kind_of, place, size_of, slots_of, slots_within}
use Rattle.harp_cells.specs.declared.cell.Cell.{Cell}
use Rattle.harp_cells.specs.declared.cell.Cell.TheVariants as cell
use Rattle.harp_cells.specs.declared.value.Inode.{Inode}
use Rattle.harp_cells.specs.declared.value.Value.{Value}
use Rattle.harp_cells.specs.CellsOfTree.{content_of, inode_of}
use Rattle.harp_cells.specs.Effect.{is_cell}
use Rattle.harp_cells.proofs.CellLemmas.{is_cell_itself}
use Rattle.cell_changes.specs.Short.{is_of_tree}
use Rattle.cell_changes.specs.TreeCells.{TreeCells}
use Rattle.nfs_calls.specs.declared.parts.totals.Totals.{Totals}
use Rattle.nfs_calls.specs.TreeCells.{bytes_within, inode_found, inode_of_some, inode_placed}
use Rattle.nfs_calls.specs.TreeCells.{totals_found}
use Rattle.nfs_calls.proofs.Inodes.{content_within, inode_read, totals_read}
use Rattle.observer.specs.declared.phase.Part.{Part}
use Rattle.observer.specs.declared.phase.Part.TheVariants as part
use Rattle.observer.specs.declared.phase.Phase.{Phase}
use Rattle.observer.specs.declared.phase.Phase.TheVariants as phase
use Rattle.observer.specs.Phases.{behind_object, is_of_later, is_part_from, is_to_come, is_within}
use Rattle.observer.specs.Phases.{object_from, part_cell, part_of, parts_from, parts_in}
use Rattle.observer.specs.Phases.{phase_after, wanted_in}
use Rattle.observer.specs.Sound.{IsPhase}
use Rattle.observer.proofs.Moments.{dead_block, dead_object, dead_slot, no_block, no_slot}
use Rattle.observer.proofs.Moments.{out_of_range}
use Rattle.observer.proofs.Orders.{is_in, later_more, not_in, objects_come, outside, part_step}
use Rattle.observer.proofs.Orders.{parts_behind, parts_come, parts_on, within}

pub the_cell : (a b : Cell) → Some a ≡ Some b → a ≡ b
the_cell a b e = cc

-- ---- what stays to come

behind_stays : (n next : ℕ) (x : Option Inode) (c : Cell) → n < next
    → is_to_come (behind_object n next x) c ≡ true → is_of_later n next c ≡ true
behind_stays n next None c lt h = later_more n next c (sym (objects_come (n + 1) next c) ∙ h)
behind_stays n next (Some i) c lt h =
    parts_behind (part_of i.kind) n next 0 (parts_in i.kind i) c lt
    (sym (parts_come (part_of i.kind) n next 0 (parts_in i.kind i) c) ∙ h)

-- what is to come behind the wanted cell was to come before
pub stays : (p : Phase) (v : Option Value) (c : Cell) → IsPhase p
    → is_to_come (phase_after p v) c ≡ true → is_to_come p c ≡ true
stays phase.Whole v c ok h = refl
stays (phase.Object n next) v c ok h = behind_stays n next (inode_found n v) c ok h
stays (phase.Part p n next at count) v c ok h =
    parts_on p n next at count c (sym (parts_come p n next (at + 1) count c) ∙ h)
stays phase.Records v c ok h = h

-- ---- the wanted cell comes no more

behind_itself : (n next : ℕ) → is_within (n + 1) next n ≡ false
behind_itself n next = not_in (n + 1) next n (λ low high. omega (arith, low))

no_object : (p : Part) (n at count k : ℕ) → is_part_from p n at count (cell.Object k) ≡ false
no_object part.Slot n at count k = refl
no_object part.Block n at count k = refl

object_shown : (n next : ℕ) (x : Option Inode)
    → is_to_come (behind_object n next x) (cell.Object n) ≡ false
object_shown n next None = objects_come (n + 1) next (cell.Object n) ∙ behind_itself n next
object_shown n next (Some i) =
    let p = part_of i.kind in
    let count = parts_in i.kind i in
    parts_come p n next 0 count (cell.Object n)
    ∙ or_from (is_part_from p n 0 count (cell.Object n)) (is_within (n + 1) next n)
    (no_object p n 0 count n) (behind_itself n next)

part_shown : (p : Part) (n next at count : ℕ)
    → is_to_come (parts_from p n next (at + 1) count) (part_cell p n at) ≡ false
part_shown part.Slot n next at count =
    parts_come part.Slot n next (at + 1) count (cell.Slot n at)
    ∙ or_from ((n == n) && is_within (at + 1) count at) (is_within (n + 1) next n)
    (and_right (n == n) (is_within (at + 1) count at) (behind_itself at count))
    (behind_itself n next)
part_shown part.Block n next at count =
    parts_come part.Block n next (at + 1) count (cell.Block n at)
    ∙ or_from ((n == n) && is_within (at + 1) count at) (is_within (n + 1) next n)
    (and_right (n == n) (is_within (at + 1) count at) (behind_itself at count))
    (behind_itself n next)

pub shown_once : (p : Phase) (v : Option Value) (c : Cell) → wanted_in p ≡ Some c
    → is_to_come (phase_after p v) c ≡ false
shown_once phase.Whole v c e =
    subst (λ (d : Cell). is_to_come (object_from 1 (totals_found v).next) d ≡ false)
    (the_cell cell.Meta c e) (objects_come 1 (totals_found v).next cell.Meta)
shown_once (phase.Object n next) v c e =
    subst (λ (d : Cell). is_to_come (behind_object n next (inode_found n v)) d ≡ false)
    (the_cell (cell.Object n) c e) (object_shown n next (inode_found n v))
shown_once (phase.Part p n next at count) v c e =
    subst (λ (d : Cell). is_to_come (parts_from p n next (at + 1) count) d ≡ false)
    (the_cell (part_cell p n at) c e) (part_shown p n next at count)
shown_once phase.Records v c e = absurd cc

-- ---- phases

object_phase : (n next : ℕ) → IsPhase (object_from n next)
object_phase n next = elim (cases_lt n next) [
  | inl lt ↦ let t : nat_lt n next ≡ true = lt-ltb n next lt in rw t lt
  | inr le ↦ let t : nat_lt n next ≡ false = le-ltb n next le in rw t tt
]

parts_phase : (p : Part) (n next at count : ℕ) → n < next → IsPhase (parts_from p n next at count)
parts_phase p n next at count ok = elim (cases_lt at count) [
  | inl lt ↦ let t : nat_lt at count ≡ true = lt-ltb at count lt in rw t ok
  | inr le ↦
      let t : nat_lt at count ≡ false = le-ltb at count le in
      rw t (object_phase (n + 1) next)
]

behind_phase : (n next : ℕ) (x : Option Inode) → n < next → IsPhase (behind_object n next x)
behind_phase n next None ok = object_phase (n + 1) next
behind_phase n next (Some i) ok = parts_phase (part_of i.kind) n next 0 (parts_in i.kind i) ok

pub phases : (p : Phase) (v : Option Value) → IsPhase p → IsPhase (phase_after p v)
phases phase.Whole v ok = object_phase 1 (totals_found v).next
phases (phase.Object n next) v ok = behind_phase n next (inode_found n v) ok
phases (phase.Part p n next at count) v ok = parts_phase p n next (at + 1) count ok
phases phase.Records v ok = tt

-- ---- what a shown object rules out

-- objects behind come in any case
behind_come : (n next : ℕ) (x : Option Inode) (c : Cell) → is_of_later (n + 1) next c ≡ true
    → is_to_come (behind_object n next x) c ≡ true
behind_come n next None c h = objects_come (n + 1) next c ∙ h
behind_come n next (Some i) c h =
    let p = part_of i.kind in
    let count = parts_in i.kind i in
    parts_come p n next 0 count c
    ∙ or_right (is_part_from p n 0 count c) (is_of_later (n + 1) next c) h

-- so what is ruled out has the shown object's number
own_number : (n next k : ℕ) (b : Bool) → is_within n next k ≡ true
    → (is_within (n + 1) next k ≡ true → b ≡ true) → b ≡ false → k ≡ n
own_number n next k b here later gone =
    let range = within n next k here in
    elim (cases_lt n k) [
      | inl lt ↦ absurd (both_ways b gone
          (later (is_in (n + 1) next k (omega (arith, lt)) range.1)))
      | inr le ↦ omega (arith, le, range.0)
    ]

few_blocks : (size i : ℕ) → is_within 0 (blocks_of size) i ≡ false → size ≤ 4096 * i
few_blocks size i out = elim (outside 0 (blocks_of size) i out) [
  | inl low ↦ absurd (omega (arith, low))
  | inr past ↦ omega (arith, past)
]

few_slots : (count i : ℕ) → is_within 0 count i ≡ false → count ≤ i
few_slots count i out = elim (outside 0 count i out) [
  | inl low ↦ absurd (omega (arith, low))
  | inr past ↦ past
]

own_part : (n i count : ℕ) → ((n == n) && is_within 0 count i) ≡ false
    → is_within 0 count i ≡ false
own_part n i count h = elim (and_cases (n == n) (is_within 0 count i) h) [
  | inl f ↦ absurd (both_ways (n == n) f (eq-eqb n n refl))
  | inr f ↦ f
]

-- a slot of an object with this body
slot_of_body : (t : TreeCells) (n next i : ℕ) (o : Object) (b : Body) → place t.tree n ≡ Some o
    → length (slots_within o.body) ≡ length (slots_within b)
    → is_to_come (parts_from (part_of (kind_of b)) n next 0
    (parts_in (kind_of b) (inode_of t.tree n o))) (cell.Slot n i) ≡ false
    → t.cells (cell.Slot n i) ≡ None
slot_of_body t n next i o (body.Regular bytes) live many gone =
    no_slot t n i (omega (arith, many, ap (λ (p : Option Object). length (slots_of p)) live))
slot_of_body t n next i o (body.Directory slots) live many gone =
    let count = (inode_of t.tree n o).slots in
    let parts = or_parts ((n == n) && is_within 0 count i) (is_within (n + 1) next n)
    (sym (parts_come part.Slot n next 0 count (cell.Slot n i)) ∙ gone) in
    no_slot t n i (omega (
      arith,
      few_slots count i (own_part n i count parts.0),
      ap (λ (p : Option Object). length (slots_of p)) live,
    ))
slot_of_body t n next i o (body.Link text) live many gone =
    no_slot t n i (omega (arith, many, ap (λ (p : Option Object). length (slots_of p)) live))

slot_gone : (t : TreeCells) (n next i : ℕ) (x : Option Object) → place t.tree n ≡ x
    → is_to_come (behind_object n next (inode_of_some t.tree n x)) (cell.Slot n i) ≡ false
    → t.cells (cell.Slot n i) ≡ None
slot_gone t n next i None dead gone = dead_slot t n i dead
slot_gone t n next i (Some o) live gone = slot_of_body t n next i o o.body live refl gone

-- a block of an object with this body
block_of_body : (t : TreeCells) (n next i : ℕ) (o : Object) (b : Body)
    → length (content_of (place t.tree n)) ≡ length (bytes_within b)
    → size_of o.body ≡ size_of b
    → is_to_come (parts_from (part_of (kind_of b)) n next 0
    (parts_in (kind_of b) (inode_of t.tree n o))) (cell.Block n i) ≡ false
    → t.cells (cell.Block n i) ≡ None
block_of_body t n next i o (body.Regular bytes) long size gone =
    let count = blocks_of (inode_of t.tree n o).size in
    let parts = or_parts ((n == n) && is_within 0 count i) (is_within (n + 1) next n)
    (sym (parts_come part.Block n next 0 count (cell.Block n i)) ∙ gone) in
    no_block t n i (omega (
      arith,
      few_blocks (inode_of t.tree n o).size i (own_part n i count parts.0),
      long,
      size,
    ))
block_of_body t n next i o (body.Directory slots) long size gone =
    no_block t n i (omega (arith, long))
block_of_body t n next i o (body.Link text) long size gone =
    let count = blocks_of (inode_of t.tree n o).size in
    let parts = or_parts ((n == n) && is_within 0 count i) (is_within (n + 1) next n)
    (sym (parts_come part.Block n next 0 count (cell.Block n i)) ∙ gone) in
    no_block t n i (omega (
      arith,
      few_blocks (inode_of t.tree n o).size i (own_part n i count parts.0),
      long,
      size,
    ))

block_gone : (t : TreeCells) (n next i : ℕ) (x : Option Object) → place t.tree n ≡ x
    → is_to_come (behind_object n next (inode_of_some t.tree n x)) (cell.Block n i) ≡ false
    → t.cells (cell.Block n i) ≡ None
block_gone t n next i None dead gone = dead_block t n i dead
block_gone t n next i (Some o) live gone =
    block_of_body t n next i o o.body
    (ap (λ (p : Option Object). length (content_of p)) live ∙ ap length (content_within o)) refl
    gone

-- the attributes that an object's cell stands for are the object's
read_as : (t : TreeCells) (n : ℕ) → inode_found n (t.cells (cell.Object n))
    ≡ inode_of_some t.tree n (place t.tree n)
unfolding inode_placed
read_as t n = inode_read t n

behind_gone : (t : TreeCells) (n next : ℕ) (c : Cell) → is_cell (cell.Object n) c ≡ false
    → is_of_later n next c ≡ true
    → is_to_come (behind_object n next (inode_of_some t.tree n (place t.tree n))) c ≡ false
    → t.cells c ≡ None
behind_gone t n next cell.Meta other here gone = absurd cc
behind_gone t n next (cell.Object k) other here gone =
    let x = inode_of_some t.tree n (place t.tree n) in
    let b = is_to_come (behind_object n next x) (cell.Object k) in
    let same : k ≡ n = own_number n next k b here (behind_come n next x (cell.Object k)) gone in
    absurd (both_ways (is_cell (cell.Object n) (cell.Object k)) other
    (is_cell_itself (cell.Object n) (cell.Object k) (ap (λ (y : ℕ). cell.Object y) (sym same))))
behind_gone t n next (cell.Slot k i) other here gone =
    let x = inode_of_some t.tree n (place t.tree n) in
    let b = is_to_come (behind_object n next x) (cell.Slot k i) in
    let same : k ≡ n = own_number n next k b here (behind_come n next x (cell.Slot k i)) gone in
    ap (λ (y : ℕ). t.cells (cell.Slot y i)) same
    ∙ slot_gone t n next i (place t.tree n) refl
    (ap (λ (y : ℕ). is_to_come (behind_object n next x) (cell.Slot y i)) (sym same) ∙ gone)
behind_gone t n next (cell.Block k i) other here gone =
    let x = inode_of_some t.tree n (place t.tree n) in
    let b = is_to_come (behind_object n next x) (cell.Block k i) in
    let same : k ≡ n = own_number n next k b here (behind_come n next x (cell.Block k i)) gone in
    ap (λ (y : ℕ). t.cells (cell.Block y i)) same
    ∙ block_gone t n next i (place t.tree n) refl
    (ap (λ (y : ℕ). is_to_come (behind_object n next x) (cell.Block y i)) (sym same) ∙ gone)
behind_gone t n next (cell.Client k) other here gone = absurd cc
behind_gone t n next (cell.Saved k) other here gone = absurd cc

-- ---- what the shown totals rule out

no_number : (k next : ℕ) → is_within 1 next k ≡ false → (k ≡ 0) ⊎ (next ≤ k)
no_number k next out = elim (outside 1 next k out) [
  | inl low ↦ inl (omega (arith, low))
  | inr past ↦ inr past
]

whole_gone : (t : TreeCells) (c : Cell) → is_of_tree c ≡ true → is_cell cell.Meta c ≡ false
    → is_of_later 1 (length t.tree) c ≡ false → t.cells c ≡ None
whole_gone t cell.Meta of_tree other out =
    absurd (both_ways (is_cell cell.Meta cell.Meta) other (is_cell_itself cell.Meta cell.Meta refl))
whole_gone t (cell.Object k) of_tree other out =
    dead_object t k (out_of_range t.tree k t.sound (no_number k (length t.tree) out))
whole_gone t (cell.Slot k i) of_tree other out =
    dead_slot t k i (out_of_range t.tree k t.sound (no_number k (length t.tree) out))
whole_gone t (cell.Block k i) of_tree other out =
    dead_block t k i (out_of_range t.tree k t.sound (no_number k (length t.tree) out))
whole_gone t (cell.Client k) of_tree other out = absurd cc
whole_gone t (cell.Saved k) of_tree other out = absurd cc

-- WHAT IS RULED OUT by the value of the wanted cell
pub ruled_out : (t : TreeCells) (p : Phase) (c d : Cell) → wanted_in p ≡ Some d
    → is_of_tree c ≡ true → is_cell d c ≡ false → is_to_come p c ≡ true
    → is_to_come (phase_after p (t.cells d)) c ≡ false → t.cells c ≡ None
ruled_out t phase.Whole c d wanted of_tree other here gone =
    let same : cell.Meta ≡ d = the_cell cell.Meta d wanted in
    let next = ap (λ (x : Totals). x.next) (totals_read t) in
    whole_gone t c of_tree (ap (λ (e : Cell). is_cell e c) same ∙ other)
    (sym (objects_come 1 (length t.tree) c)
    ∙ ap (λ (m : ℕ). is_to_come (object_from 1 m) c) (sym next)
    ∙ ap (λ (e : Cell). is_to_come (object_from 1 (totals_found (t.cells e)).next) c) same
    ∙ gone)
ruled_out t (phase.Object n next) c d wanted of_tree other here gone =
    let same : cell.Object n ≡ d = the_cell (cell.Object n) d wanted in
    behind_gone t n next c (ap (λ (e : Cell). is_cell e c) same ∙ other) here
    (ap (λ (x : Option Inode). is_to_come (behind_object n next x) c) (sym (read_as t n))
    ∙ ap (λ (e : Cell). is_to_come (behind_object n next (inode_found n (t.cells e))) c) same
    ∙ gone)
ruled_out t (phase.Part p n next at count) c d wanted of_tree other here gone =
    let same : part_cell p n at ≡ d = the_cell (part_cell p n at) d wanted in
    absurd (both_ways (is_cell d c) other
    (ap (λ (e : Cell). is_cell e c) (sym same) ∙ part_step p n next at count c here
    (sym (parts_come p n next (at + 1) count c) ∙ gone)))
ruled_out t phase.Records c d wanted of_tree other here gone = absurd cc
