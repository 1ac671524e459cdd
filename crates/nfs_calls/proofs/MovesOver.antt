-- An entry that takes the place of another one.
use Rattle.std.proofs.Common.{◌≡◌, ℕ, ◌+◌, ◌*◌, ◌≤◌, ◌==◌, Bool, true, false, List, [], ◌∷◌, ◌++◌, length, set, None, Some, Ok, refl, sym, ap, ◌∙◌, subst, arith, inl, inr, le_refl}
use Rattle.std.proofs.lemmas.Bool.{cases_eq, eq-eqb, ne_eqb, false_from_ne_true}
use Rattle.std.proofs.lemmas.List.{length-set}
use Rattle.harp_types.specs.declared.attr.Time.{Time}
use Rattle.harp_types.specs.declared.call.Call.TheVariants as call
use Rattle.harp_types.specs.declared.reply.Reply.TheVariants.{Done}
use Rattle.file_tree.specs.declared.object.Slot.{Slot}
use Rattle.file_tree.specs.declared.object.Body.{Body}
use Rattle.file_tree.specs.declared.object.Body.TheVariants.{Directory}
use Rattle.file_tree.specs.declared.object.Object.{Object}
use Rattle.file_tree.specs.Tree.{Tree, Slots, place, slots_of, slots_within, size_of, blocks_of, blocks_at, used_blocks, names_in, names_at, names_of, is_directory, is_directory_at, entry}
use Rattle.file_tree.specs.Tries.{Tried}
use Rattle.file_tree.specs.Outcome.{change, slot_changed, slot_replaced, reslotted, set_ctime, lost_entry}
use Rattle.file_tree.specs.Rename.{check_target, moved_over, moved_to}
use Rattle.file_tree.specs.Sound.{IsSound}
use Rattle.file_tree.proofs.Holders.{Holds}
use Rattle.file_tree.proofs.SlotLaws.{one, IsFound, found, names_set}
use Rattle.file_tree.proofs.SoundChanges.{few_at, one_itself, one_other}
use Rattle.file_tree.proofs.SoundMoves.{cleared_names, share_found, found_held}
use Rattle.file_tree.proofs.SoundRename.{sound_moved_over}
use Rattle.file_tree.proofs.WaysUp.{IsBare}
use Rattle.harp_cells.specs.declared.value.Inode.{Inode}
use Rattle.harp_cells.specs.declared.cell.Cell.TheVariants as cell
use Rattle.harp_cells.specs.declared.change.Change.{Change}
use Rattle.harp_cells.specs.Effect.{Cells}
use Rattle.cell_changes.specs.Table.{set_by, slot_pair, dir_pair, loses, moves, tree_changes}
use Rattle.nfs_calls.specs.declared.updates.relocation.Relocation.{Relocation}
use Rattle.nfs_calls.specs.declared.parts.totals.Totals.{Totals}
use Rattle.nfs_calls.specs.TreeCells.{IsInode, object_at}
use Rattle.nfs_calls.specs.Plans.{planned, totals_of}
use Rattle.nfs_calls.specs.Entries.{loss, after_loss}
use Rattle.nfs_calls.specs.Moves.{moved_outcome, IsMoving}
use Rattle.nfs_calls.proofs.Sets.{IsSet, place_at, place_other, length_on, names_on, used_on, holds_on, kinds_on, set_by_change}
use Rattle.nfs_calls.proofs.Losses.{loss_of, loses_is, totals_lost, body_at}
use Rattle.nfs_calls.proofs.MovedEntry.{IsMoved, are_apart}
use Rattle.nfs_calls.proofs.MovesIn.{moved_slot}

-- an entry that another one replaces: its slot, its object, which has no entry of its own, and the
-- attributes of that
pub record IsTarget (tree : Tree) (m : Relocation) (to_name : List ℕ) (y : ℕ × ℕ)
    (j : Inode) : Type 0 where
  pub entry : entry (slots_of (place tree m.to_dir)) to_name ≡ Some y
  pub object : IsInode tree y.1 j
  pub other : y.1 ≡ m.number → ⊥
  pub bare : IsBare tree y.1
  pub kinds : is_directory_at (place tree y.1) ≡ is_directory_at (place tree m.number)

abbrev pub tree_over : Tree → Relocation → List ℕ → ℕ × ℕ → Time → Tree
tree_over tree m to_name y now = moved_over tree m.dir (m.slot, m.number) m.to_dir to_name y now

-- the new directory's slots with the entry replaced
abbrev pub over_slots : Tree → Relocation → List ℕ → ℕ × ℕ → Slots
over_slots tree m to_name y = set (slots_of (place tree m.to_dir)) y.0 (Some (moved_slot m to_name))

abbrev pub swapped : Tree → Relocation → List ℕ → ℕ × ℕ → Time → Tree
swapped tree m to_name y now =
    change tree m.to_dir (slot_changed now y.0 (Some (moved_slot m to_name)))

-- what the tree keeps
pub record Replaces (tree : Tree) (m : Relocation) (to_name : List ℕ) (y : ℕ × ℕ) (j : Inode)
    (now : Time) (after : Slots) (q : Object) : Type 0 where
  pub moved : IsMoved tree (tree_over tree m to_name y now) m now
  pub to_at : place (tree_over tree m to_name y now) m.to_dir
      ≡ Some (reslotted now after (object_at tree m.to_dir))
  pub from_at : place (tree_over tree m to_name y now) m.dir ≡ Some (slot_changed now m.slot None q)
  pub kept : (k : ℕ) → (k ≡ m.number → ⊥) → (k ≡ y.1 → ⊥) → (d : ℕ) → Holds tree d k
      → Holds (tree_over tree m to_name y now) d k
  pub lost : loses tree (tree_over tree m to_name y now) y.1 ≡ loss y.1 j now
  pub totals : after_loss (totals_of tree) j ≡ totals_of (tree_over tree m to_name y now)

pub slot_is : (now : Time) (i : ℕ) (s : _) (slots : Slots) (o : Object) → o.body ≡ Directory slots
    → slot_changed now i s o ≡ reslotted now (set slots i s) o
slot_is now i s slots o body =
    ap (λ (b : Body). record o { mtime = now; ctime = now; body = slot_replaced b i s }) body

-- the target is neither of the directories
pub record IsAside (m : Relocation) (y : ℕ × ℕ) : Type 0 where
  pub from : y.1 ≡ m.dir → ⊥
  pub to : y.1 ≡ m.to_dir → ⊥

bare_aside : (tree : Tree) (number dir k : ℕ) → IsBare tree number → Holds tree dir k → number ≡ dir
    → ⊥
bare_aside tree number dir k bare held e =
    let some : Holds tree number k = subst (λ (n : ℕ). Holds tree n k) (sym e) held in
    let none = bare k in omega (arith, none, some)

pub is_aside : (tree : Tree) (m : Relocation) (name to_name : List ℕ) (y : ℕ × ℕ) (j : Inode)
    → IsMoving tree m name to_name → IsTarget tree m to_name y j → IsAside m y
is_aside tree m name to_name y j is target = record {
  from = bare_aside tree y.1 m.dir m.number target.bare
      (found_held tree m.dir (object_at tree m.dir) (slots_of (place tree m.dir)) name
      (m.slot, m.number) is.from.own.at (body_at tree m.dir m.from is.from)
      (found (slots_of (place tree m.dir)) name (m.slot, m.number) is.entry));
  to = bare_aside tree y.1 m.to_dir y.1 target.bare
      (found_held tree m.to_dir (object_at tree m.to_dir)
      (slots_of (place tree m.to_dir)) to_name y is.to.own.at (body_at tree m.to_dir m.to is.to)
      (found (slots_of (place tree m.to_dir)) to_name y target.entry));
}

-- a replaced entry gives its place to another one
pub over_names : (slots : Slots) (to_name : List ℕ) (y : ℕ × ℕ) (s : Slot) (k : ℕ)
    → IsFound slots to_name y
    → names_in k (set slots y.0 (Some s)) + one y.1 k ≡ names_in k slots + one s.number k
over_names slots to_name y s k g =
    omega (arith, share_found slots to_name y k g, names_set slots y.0 (Some s) k g.within)

-- ---- sums of entries and of blocks

two_moved : (n0 n1 n2 a b c d s o l w y x : ℕ) → n1 + a ≡ n0 + b → n2 + c ≡ n1 + d → a ≡ s → b ≡ o
    → c ≡ l → d ≡ w → o + y ≡ s + x → w + x ≡ l → n2 + y ≡ n0
two_moved n0 n1 n2 a b c d s o l w y x first second at_a at_b at_c at_d over cleared = omega arith

rest_moved : (n0 n2 n3 n4 y a b c : ℕ) → n2 + y ≡ n0 → n3 + a ≡ n2 + b → b ≡ 0 → a ≡ 0
    → n4 + c ≡ n3 + c → n4 + y ≡ n0
rest_moved n0 n2 n3 n4 y a b c moved lost at_b at_a kept = omega arith

one_less : (n0 n2 y : ℕ) → n2 + y ≡ n0 → y ≡ 1 → n2 + 1 ≡ n0
one_less n0 n2 y moved one = omega arith

none_less : (n0 n2 y : ℕ) → n2 + y ≡ n0 → y ≡ 0 → n2 ≡ n0
none_less n0 n2 y moved none = omega arith

few_left : (n0 n2 y : ℕ) → n0 ≤ 1 → 1 ≤ n2 → n2 + y ≡ n0 → y ≡ 1 → ⊥
few_left n0 n2 y few some moved one = omega arith

two_used : (u0 u1 u2 a b c d s l : ℕ) → u1 + a ≡ u0 + b → u2 + c ≡ u1 + d → a ≡ s → b ≡ s → c ≡ l
    → d ≡ l → u2 ≡ u0
two_used u0 u1 u2 a b c d s l first second at_a at_b at_c at_d = omega arith

same_used : (u v c : ℕ) → v + c ≡ u + c → u ≡ v
same_used u v c kept = omega arith

-- a place has no fewer entries where it loses none, and where it gets one
no_fewer : (a b s w x : ℕ) → a ≡ s → b ≡ w → w + x ≡ s → x ≡ 0 → a ≤ b
no_fewer a b s w x at_a at_b cleared none = omega arith

no_fewer_over : (a b s o x y : ℕ) → a ≡ s → b ≡ o → o + y ≡ s + x → y ≡ 0 → a ≤ b
no_fewer_over a b s o x y at_a at_b over none = omega arith

none_at : (a b : ℕ) → b ≡ 0 → a ≡ 0 → a ≤ b
none_at a b at_b at_a = omega arith

pub replaces : (tree : Tree) (m : Relocation) (name to_name : List ℕ) (y : ℕ × ℕ) (j : Inode)
    (now : Time) (left after : Slots) (q : Object) → IsSound tree → IsMoving tree m name to_name
    → IsTarget tree m to_name y j → place (swapped tree m to_name y now) m.dir ≡ Some q
    → q.body ≡ Directory left → IsFound left name (m.slot, m.number)
    → place (change (swapped tree m to_name y now) m.dir (slot_changed now m.slot None)) m.to_dir
    ≡ Some (reslotted now after (object_at tree m.to_dir))
    → 1 ≤ names_in m.number after → Replaces tree m to_name y j now after q
unfolding moved_over
replaces tree m name to_name y j now left after q sound is target q_at q_body f there named =
    let o = object_at tree m.dir in
    let e = object_at tree m.to_dir in
    let ob = object_at tree m.number in
    let oy = object_at tree y.1 in
    let slots = slots_of (place tree m.dir) in
    let to_slots = slots_of (place tree m.to_dir) in
    let body = body_at tree m.dir m.from is.from in
    let to_body = body_at tree m.to_dir m.to is.to in
    let x : ℕ × ℕ = (m.slot, m.number) in
    let f0 : IsFound slots name x = found slots name x is.entry in
    let g : IsFound to_slots to_name y = found to_slots to_name y target.entry in
    let s = moved_slot m to_name in
    let over = over_slots tree m to_name y in
    let without = set left m.slot None in
    let apart = are_apart tree m name to_name sound is in
    let aside = is_aside tree m name to_name y j is target in
    let one_tree = swapped tree m to_name y now in
    let two_tree = change one_tree m.dir (slot_changed now m.slot None) in
    let three_tree = lost_entry two_tree y.1 now in
    let new = tree_over tree m to_name y now in
    let s1 : IsSet tree one_tree m.to_dir (Some e) (Some (slot_changed now y.0 (Some s) e)) =
    set_by_change tree m.to_dir (slot_changed now y.0 (Some s)) e is.to.own.at in
    let s2 : IsSet one_tree two_tree m.dir (Some q) (Some (slot_changed now m.slot None q)) =
    set_by_change one_tree m.dir (slot_changed now m.slot None) q q_at in
    let changed1 = slot_is now y.0 (Some s) to_slots e to_body in
    let changed2 = slot_is now m.slot None left q q_body in
    let a1 : (k : ℕ) → names_at k (Some e)
    ≡ names_in k to_slots = λ (k : ℕ). ap (λ (b : Body). names_in k (slots_within b)) to_body in
    let b1 : (k : ℕ) → names_at k (Some (slot_changed now y.0 (Some s) e))
    ≡ names_in k over = λ (k : ℕ). ap (λ (r : Object). names_at k (Some r)) changed1 in
    let a2 : (k : ℕ) → names_at k (Some q)
    ≡ names_in k left = λ (k : ℕ). ap (λ (b : Body). names_in k (slots_within b)) q_body in
    let b2 : (k : ℕ) → names_at k (Some (slot_changed now m.slot None q))
    ≡ names_in k without = λ (k : ℕ). ap (λ (r : Object). names_at k (Some r)) changed2 in
    let count : (k : ℕ) → names_of two_tree k + one y.1 k ≡ names_of tree k = λ (k : ℕ).
    two_moved _ _ _ _ _ _ _ _ _ _ _ _ _ (names_on s1 k) (names_on s2 k) (a1 k) (b1 k) (a2 k) (b2 k)
    (over_names to_slots to_name y s k g) (cleared_names left name x k f) in
    let y_there : place two_tree y.1 ≡ Some oy = place_other s2 y.1 aside.from
    ∙ place_other s1 y.1 aside.to ∙ target.object.at in
    let l = loss_of tree two_tree y.1 j now sound target.object target.bare y_there
    (one_less _ _ _ (count y.1) (one_itself y.1)) in
    let y_bare : (k : ℕ) → names_at k (Some oy)
    ≡ 0 = λ (k : ℕ). sym (ap (names_at k) target.object.at) ∙ target.bare k in
    let x_other : m.number ≡ y.1 → ⊥ = λ (h : m.number ≡ y.1). target.other (sym h) in
    let x_there : place three_tree m.number ≡ Some ob =
    place_other l.sets m.number x_other ∙ place_other s2 m.number apart.from
    ∙ place_other s1 m.number apart.to ∙ is.moved.at in
    let s4 : IsSet three_tree new m.number (Some ob) (Some (set_ctime now ob)) =
    set_by_change three_tree m.number (set_ctime now) ob x_there in
    let whole : IsSound new =
    sound_moved_over tree m.dir m.to_dir o e slots to_slots name to_name x y now sound
    is.from.own.at body is.to.own.at to_body f0 g target.other target.bare is.apart in
    let all_names : (k : ℕ) → names_of new k + one y.1 k
    ≡ names_of tree k = λ (k : ℕ). rest_moved _ _ _ _ _ _ _ (names_at k (Some ob)) (count k)
    (names_on l.sets k) (l.bare k) (y_bare k) (names_on s4 k) in
    let same1 : is_directory_at (Some (slot_changed now y.0 (Some s) e))
    ≡ is_directory_at (Some e) = ap (λ (r : Object). is_directory r.body) changed1
    ∙ sym (ap is_directory to_body) in
    let same2 : is_directory_at (Some (slot_changed now m.slot None q)) ≡ is_directory_at (Some q) =
    ap (λ (r : Object). is_directory r.body) changed2 ∙ sym (ap is_directory q_body) in
    let y_at : place new y.1 ≡ l.becomes = place_other s4 y.1 target.other ∙ place_at l.sets in
    let long1 = length-set to_slots y.0 (Some s) in
    let long2 = length-set left m.slot None in
    let blocks_e : blocks_at (Some e) ≡ blocks_of (264 * length to_slots) =
    ap (λ (b : Body). blocks_of (size_of b)) to_body in
    let blocks_1 : blocks_at (Some (slot_changed now y.0 (Some s) e))
    ≡ blocks_of (264 * length to_slots) =
    ap (λ (r : Object). blocks_of (size_of r.body)) changed1
    ∙ ap (λ (n : ℕ). blocks_of (264 * n)) long1 in
    let blocks_q : blocks_at (Some q) ≡ blocks_of (264 * length left) =
    ap (λ (b : Body). blocks_of (size_of b)) q_body in
    let blocks_2 : blocks_at (Some (slot_changed now m.slot None q))
    ≡ blocks_of (264 * length left) =
    ap (λ (r : Object). blocks_of (size_of r.body)) changed2
    ∙ ap (λ (n : ℕ). blocks_of (264 * n)) long2 in
    let used_two : used_blocks two_tree ≡ used_blocks tree =
    two_used _ _ _ _ _ _ _ _ _ (used_on s1) (used_on s2) blocks_e blocks_1 blocks_q blocks_2 in
    let used_new : used_blocks three_tree ≡ used_blocks new =
    same_used _ _ (blocks_at (Some ob)) (used_on s4) in
    let to_at : place new m.to_dir ≡ Some (reslotted now after e) =
    place_other s4 m.to_dir (λ h. apart.to (sym h))
    ∙ place_other l.sets m.to_dir (λ h. aside.to (sym h)) ∙ there in
    let two_next : length two_tree ≡ length tree = length_on s2 ∙ length_on s1 in
    let totals_two : totals_of tree ≡ totals_of two_tree = rw (used_two, two_next) refl in
    let new_next = length_on s4 in
    let totals_new : totals_of three_tree ≡ totals_of new = rw (used_new, new_next) refl in
    record {
      moved = record {
        sound = whole;
        at = place_at s4;
        names = none_less _ _ _ (all_names m.number) (one_other y.1 m.number x_other);
        kinds = λ k h. elim (cases_eq k y.1) [
          | inl same ↦
              let file : is_directory_at (place tree y.1) ≡ false = false_from_ne_true _ (λ d.
              let few = few_at y.1 (place tree y.1) (names_of tree y.1) d (sound.entries y.1) in
              let some : 1 ≤ names_of new y.1 = subst (λ (n : ℕ). 1 ≤ names_of new n) same h in
              few_left _ _ _ few some (all_names y.1) (one_itself y.1)) in
              rw same (ap is_directory_at y_at ∙ l.file ∙ sym file)
          | inr ne ↦ kinds_on s4 refl k ∙ ap is_directory_at (place_other l.sets k ne)
              ∙ kinds_on s2 same2 k ∙ kinds_on s1 same1 k
        ];
        held = subst (λ (n : ℕ). 1 ≤ n) (sym (ap (names_at m.number) to_at)) named;
      };
      to_at = to_at;
      from_at = place_other s4 m.dir (λ h. apart.from (sym h))
          ∙ place_other l.sets m.dir (λ h. aside.from (sym h)) ∙ place_at s2;
      kept = λ k nx ny d h.
          holds_on s4 k (le_refl _) d
          (holds_on l.sets k (none_at _ _ (l.bare k) (y_bare k)) d
          (holds_on s2 k (no_fewer _ _ _ _ _ (a2 k) (b2 k) (cleared_names left name x k f)
          (one_other m.number k nx)) d
          (holds_on s1 k (no_fewer_over _ _ _ _ _ _ (a1 k) (b1 k)
          (over_names to_slots to_name y s k g) (one_other y.1 k ny)) d h)));
      lost = loses_is tree two_tree three_tree new y.1 j now target.object l y_at
          (one_less _ _ _ (all_names y.1) (one_itself y.1));
      totals = ap (λ (t : Totals). after_loss t j) totals_two
          ∙ totals_lost tree two_tree three_tree y.1 j now target.object l ∙ totals_new;
    }

either_step : Tree → Tree → Bool → Tried Tree
either_step tree new b = elim b [ true ↦ Ok tree | false ↦ Ok new ]

to_other : (tree : Tree) (m : Relocation) (to_name : List ℕ) (y : ℕ × ℕ) (now : Time)
    → (y.1 ≡ m.number → ⊥)
    → moved_to tree m.dir (m.slot, m.number) m.to_dir (slots_of (place tree m.to_dir)) to_name
    (Some y) now ≡ Ok (tree_over tree m to_name y now)
unfolding either_step
to_other tree m to_name y now ne =
    ap (either_step tree (tree_over tree m to_name y now)) (ne_eqb y.1 m.number ne)

to_same : (tree : Tree) (m : Relocation) (to_name : List ℕ) (y : ℕ × ℕ) (now : Time)
    → y.1 ≡ m.number
    → moved_to tree m.dir (m.slot, m.number) m.to_dir (slots_of (place tree m.to_dir)) to_name
    (Some y) now ≡ Ok tree
unfolding either_step
to_same tree m to_name y now e =
    ap (either_step tree (tree_over tree m to_name y now)) (eq-eqb y.1 m.number e)

-- the parts of the plan
pub over_planned : (cells : Cells) (tree : Tree) (m : Relocation) (name to_name : List ℕ)
    (y : ℕ × ℕ) (now : Time) (a b l c : List Change) (totals : Totals)
    → entry (slots_of (place tree m.dir)) name ≡ Some (m.slot, m.number)
    → entry (slots_of (place tree m.to_dir)) to_name ≡ Some y
    → (y.1 ≡ m.number → ⊥) → check_target tree m.number (Some y) ≡ Ok tt
    → set_by (tree_over tree m to_name y now) (slot_pair m.dir m.slot m.to_dir y.0) ≡ a
    → set_by (tree_over tree m to_name y now) (dir_pair m.dir m.to_dir) ≡ b
    → loses tree (tree_over tree m to_name y now) y.1 ≡ l
    → set_by (tree_over tree m to_name y now) (cell.Object m.number ∷ []) ≡ c
    → totals_of (tree_over tree m to_name y now) ≡ totals
    → planned cells tree (call.Rename m.dir name m.to_dir to_name)
    (moved_outcome tree m.dir (m.slot, m.number) m.to_dir to_name (Some y) now)
    ≡ Ok (Done, a ++ b ++ l ++ c, totals)
unfolding moves tree_changes
over_planned cells tree m name to_name y now a b l c totals e to_e ne checked sa sb sl sc st =
    let t : (y.1 == m.number) ≡ false = ne_eqb y.1 m.number ne in
    rw (checked, to_other tree m to_name y now ne)
    (rw (e, to_e) (rw t (rw (sa, sb, sl, sc, st) refl)))

-- onto the same object
pub same_planned : (cells : Cells) (tree : Tree) (m : Relocation) (name to_name : List ℕ)
    (y : ℕ × ℕ) (now : Time)
    → entry (slots_of (place tree m.dir)) name ≡ Some (m.slot, m.number)
    → entry (slots_of (place tree m.to_dir)) to_name ≡ Some y
    → y.1 ≡ m.number → check_target tree m.number (Some y) ≡ Ok tt
    → planned cells tree (call.Rename m.dir name m.to_dir to_name)
    (moved_outcome tree m.dir (m.slot, m.number) m.to_dir to_name (Some y) now)
    ≡ Ok (Done, [], totals_of tree)
unfolding moves tree_changes
same_planned cells tree m name to_name y now e to_e same checked =
    let t : (y.1 == m.number) ≡ true = eq-eqb y.1 m.number same in
    rw (checked, to_same tree m to_name y now same) (rw (e, to_e) (rw t refl))
