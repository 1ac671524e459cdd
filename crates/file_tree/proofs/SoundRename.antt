-- Sound trees stay sound where an entry moves.
use Rattle.std.proofs.Common.{◌≡◌, ℕ, ◌+◌, ◌*◌, ◌≤◌, ◌==◌, ◌&&◌, false, List, length, get_or, set, count_by, Some, None, Ok, refl, sym, ap, ◌∙◌, subst, arith, inl, inr}
use Rattle.std.proofs.lemmas.Bool.{cases_eq, cases_Bool, eq-eqb, ne_eqb, cond_both, both_ways}
use Rattle.std.proofs.lemmas.List.{length-set, get_or-set_other}
use Rattle.harp_types.specs.declared.attr.Time.{Time}
use Rattle.file_tree.specs.declared.object.Slot.{Slot}
use Rattle.file_tree.specs.declared.object.Body.{Body}
use Rattle.file_tree.specs.declared.object.Body.TheVariants.{Directory}
use Rattle.file_tree.specs.declared.object.Object.{Object}
use Rattle.file_tree.specs.Tree.{Tree, Slots, place, size_of, blocks_of, blocks_at, used_blocks, names_in, names_at, names_of, is_directory, is_directory_at, with_entry}
use Rattle.file_tree.specs.Tries.{entry_name}
use Rattle.file_tree.specs.Outcome.{change, set_ctime, slot_changed, reslotted, lost_entry}
use Rattle.file_tree.specs.Rename.{is_above, freed, moved_over}
use Rattle.file_tree.specs.Sound.{has_name, IsSound}
use Rattle.file_tree.proofs.Holders.{Holds, IsDirectory}
use Rattle.file_tree.proofs.Climbs.{Climbs}
use Rattle.file_tree.proofs.SlotLaws.{one, IsFound, names_set, names_entered, names_cleared, sound_cleared, sound_renamed, sound_entered}
use Rattle.file_tree.proofs.Reslots.{Reslots, reslots_changed, reslots_reslotted, length_reslots, other_place, own_place, own_names, own_names_after, names_reslots, used_reslots, kinds_reslots, nearly, nearly_reslots, sound_from}
use Rattle.file_tree.proofs.WaysUp.{IsBare, KeepsHolders, others_climb, moved_climb, file_is_bare}
use Rattle.file_tree.proofs.SoundChanges.{zero_is_bare, directory_not_0, one_itself, one_other, live_from, lost, sound_ctime}
use Rattle.file_tree.proofs.SoundMoves.{sound_slots, share_found, cleared_names, holders_reslots, names_at-le, found_held}

-- all directories but y climb in a tree where x got another holder: x is a file, or a directory
-- that isn't above it
way_up : (old new : Tree) (x y to : ℕ) → IsSound old → IsBare old y → KeepsHolders old new x y
    → IsDirectory old to → (to ≡ y → ⊥) → Holds new to x
    → (is_directory_at (place old x) && is_above (length old) old x to) ≡ false → (number : ℕ)
    → IsDirectory old number → (number ≡ y → ⊥) → Climbs new number
way_up old new x y to is bare keeps d not_y held apart number dn ny =
    elim (cases_Bool (is_directory_at (place old x))) [
      | inl yes_directory ↦
          moved_climb old new x y to is bare keeps (rw yes_directory at apart) d not_y held number dn ny
      | inr file ↦
          let other : number ≡ x → ⊥ = λ (e : number ≡ x). both_ways _ file
          (subst (IsDirectory old) e dn) in
          others_climb old new x y is (file_is_bare old x file) bare keeps number dn other ny
    ]

-- ---- into a new entry

-- a directory after one slot of a directory, maybe of itself, was freed
pub freed_at : (tree : Tree) (dir to_dir : ℕ) (slots to_slots : Slots) (i : ℕ) (o e : Object)
    (now : Time) → place tree dir ≡ Some o → o.body ≡ Directory slots
    → place tree to_dir ≡ Some e → e.body ≡ Directory to_slots
    → (p : Object) × (place (change tree dir (slot_changed now i None)) to_dir ≡ Some p)
    × (p.body ≡ Directory (freed dir to_dir i to_slots))
freed_at tree dir to_dir slots to_slots i o e now at body to_at to_body =
    let cleared = change tree dir (slot_changed now i None) in
    let r : Reslots tree cleared dir slots (set slots i None) =
    reslots_changed tree dir o slots i None now at body in
    elim (cases_eq dir to_dir) [
      | inl same ↦
          let one_object : Some o ≡ Some e = sym at ∙ ap (place tree) same ∙ to_at in
          let one_body : Directory slots ≡ Directory to_slots = sym body
          ∙ ap (λ (q : Object). q.body) (let h : o ≡ e = cc in h) ∙ to_body in
          let one_list : slots ≡ to_slots = cc in
          let here : freed dir to_dir i to_slots ≡ set slots i None = let t =
          eq-eqb dir to_dir same in rw t (ap (λ (ss : Slots). set ss i None) (sym one_list)) in (
            r.becomes,
            ap (place cleared) (sym same)
                ∙ own_place tree cleared dir slots (set slots i None) r,
            r.body_after
                ∙ ap Directory (sym here),
          )
      | inr other ↦
          let here : freed dir to_dir i to_slots ≡ to_slots = let t = ne_eqb dir to_dir other in
          rw t refl in (
            e,
            other_place tree cleared dir slots (set slots i None) r to_dir (λ x. other (sym x))
                ∙ to_at,
            to_body ∙ ap Directory (sym here),
          )
    ]

freed_length : (dir to_dir i : ℕ) (slots : Slots) → length (freed dir to_dir i slots) ≡ length slots
freed_length dir to_dir i slots =
    cond_both (dir == to_dir) (set slots i None) slots (λ (ss : Slots). length ss ≡ length slots)
    (λ e. length-set slots i None) (λ e. refl)

freed_names : (dir to_dir i : ℕ) (slots : Slots) (name : List ℕ)
    → count_by (has_name name) (freed dir to_dir i slots) ≤ count_by (has_name name) slots
freed_names dir to_dir i slots name =
    cond_both (dir == to_dir) (set slots i None) slots
    (λ (ss : Slots). count_by (has_name name) ss ≤ count_by (has_name name) slots)
    (λ e. names_cleared slots i name) (λ e. omega arith)

pub sound_moved_in : (tree : Tree) (dir to_dir : ℕ) (o e : Object) (slots to_slots : Slots)
    (name to_name : List ℕ) (x : ℕ × ℕ) (now : Time) → IsSound tree
    → place tree dir ≡ Some o → o.body ≡ Directory slots → place tree to_dir ≡ Some e
    → e.body ≡ Directory to_slots → IsFound slots name x
    → entry_name to_name ≡ Ok tt → count_by (has_name to_name) to_slots ≡ 0
    → (is_directory_at (place tree x.1) && is_above (length tree) tree x.1 to_dir) ≡ false
    → used_blocks tree + blocks_of (264 * length
    (with_entry (freed dir to_dir x.0 to_slots) (record { name = to_name; number = x.1 }))) ≤ 65536
    + blocks_at (place tree to_dir)
    → IsSound (change (change (change tree dir (slot_changed now x.0 None)) to_dir
    (reslotted now (with_entry (freed dir to_dir x.0 to_slots)
    (record { name = to_name; number = x.1 })))) x.1 (set_ctime now))
sound_moved_in tree dir to_dir o e slots to_slots name to_name x now is at body to_at to_body f
    right new apart enough =
    let without = set slots x.0 None in
    let free = freed dir to_dir x.0 to_slots in
    let slot : Slot = record { name = to_name; number = x.1 } in
    let full = with_entry free slot in
    let cleared = change tree dir (slot_changed now x.0 None) in
    let moved = change cleared to_dir (reslotted now full) in
    let r : Reslots tree cleared dir slots without =
    reslots_changed tree dir o slots x.0 None now at body in
    let between = freed_at tree dir to_dir slots to_slots x.0 o e now at body to_at to_body in
    let s : Reslots cleared moved to_dir free full =
    reslots_reslotted cleared to_dir between.0 free full now between.1 between.2 in
    let near =
    nearly_reslots tree cleared dir slots without (names_of tree) r (nearly tree is)
    (sound_cleared slots x.0 (sound_slots (place tree dir) o slots at body (is.objects dir))) in
    let free_sound =
    sound_slots (place cleared to_dir) between.0 free between.1 between.2
    (near.objects to_dir) in
    let none : count_by (has_name to_name) free ≡ 0 =
    omega (arith, freed_names dir to_dir x.0 to_slots to_name, new) in
    let there =
    nearly_reslots cleared moved to_dir free full (names_of tree) s near
    (sound_entered free slot free_sound right none) in
    let names : (k : ℕ) → names_of moved k ≡ names_of tree k = λ (k : ℕ).
    omega (
      arith,
      names_reslots tree cleared dir slots without r k,
      names_reslots cleared moved to_dir free full s k,
      cleared_names slots name x k f,
      names_entered free slot k,
    ) in
    let kinds : (k : ℕ) → IsDirectory moved k
    → IsDirectory tree k = λ (k : ℕ) (d : IsDirectory moved k).
    sym (kinds_reslots tree cleared dir slots without r k)
    ∙ sym (kinds_reslots cleared moved to_dir free full s k) ∙ d in
    let to_directory : IsDirectory tree to_dir = ap is_directory_at to_at
    ∙ ap is_directory to_body in
    let held : Holds moved to_dir x.1 =
    omega (
      arith,
      own_names_after cleared moved to_dir free full s x.1,
      names_entered free slot x.1,
      one_itself x.1,
    ) in
    let whole : IsSound moved = sound_from moved (names_of tree) there names
    (record {
      few = omega (
        arith,
        length_reslots tree cleared dir slots without r,
        length_reslots cleared moved to_dir free full s,
        is.limits.few,
      );
      room =
          let size : blocks_at (place tree to_dir) ≡ blocks_of (264 * length to_slots) =
          ap blocks_at to_at ∙ ap (λ (b : Body). blocks_of (size_of b)) to_body in
          omega (
            arith,
            enough,
            size,
            freed_length dir to_dir x.0 to_slots,
            length-set slots x.0 None,
            used_reslots tree cleared dir slots without r,
            used_reslots cleared moved to_dir free full s,
          );
    })
    (λ k d.
    way_up tree moved x.1 0 to_dir is (zero_is_bare tree is.nothing_at_0)
    (λ h m dm nx nz holds.
    let le : names_in m slots ≤ names_in m without =
    omega (arith, cleared_names slots name x m f, one_other x.1 m nx) in
    let first = holders_reslots tree cleared dir slots without r m le h holds in
    holders_reslots cleared moved to_dir free full s m
    (omega (arith, names_entered free slot m)) h first)
    to_directory (directory_not_0 tree to_dir is.nothing_at_0 to_directory) held apart
    k (kinds k d) (directory_not_0 tree k is.nothing_at_0 (kinds k d))) in
    let live =
    live_from x.1 (place moved x.1) (names_of moved x.1) (whole.entries x.1)
    (omega (arith, held, names_at-le moved to_dir x.1)) in
    sound_ctime moved x.1 live.0 now whole live.1

-- ---- over another entry

-- the entry that moves, in a tree where the target's entry names it too
pub still_found : (tree : Tree) (dir to_dir : ℕ) (o e : Object) (slots to_slots : Slots)
    (name to_name : List ℕ) (x y : ℕ × ℕ) (s : Slot) (now : Time)
    → place tree dir ≡ Some o → o.body ≡ Directory slots → place tree to_dir ≡ Some e
    → e.body ≡ Directory to_slots
    → IsFound slots name x → IsFound to_slots to_name y → (y.1 ≡ x.1 → ⊥)
    → (p : Object) × (left : Slots)
    × (place (change tree to_dir (slot_changed now y.0 (Some s))) dir ≡ Some p)
    × (p.body ≡ Directory left) × IsFound left name x
still_found tree dir to_dir o e slots to_slots name to_name x y s now at body to_at to_body f g ne =
    let swapped = change tree to_dir (slot_changed now y.0 (Some s)) in
    let after = set to_slots y.0 (Some s) in
    let r : Reslots tree swapped to_dir to_slots after =
    reslots_changed tree to_dir e to_slots y.0 (Some s) now to_at to_body in
    elim (cases_eq dir to_dir) [
      | inl same ↦
          let one_object : Some o ≡ Some e = sym at ∙ ap (place tree) same ∙ to_at in
          let one_body : Directory slots ≡ Directory to_slots = sym body
          ∙ ap (λ (q : Object). q.body) (let h : o ≡ e = cc in h) ∙ to_body in
          let one_list : slots ≡ to_slots = cc in
          let g' : IsFound slots to_name y =
          subst (λ (ss : Slots). IsFound ss to_name y) (sym one_list) g in
          let apart : x.0 ≡ y.0 → ⊥ = λ (i : x.0 ≡ y.0).
          let slot_same : Some f.slot ≡ Some g'.slot = sym f.at
          ∙ ap (λ (n : ℕ). get_or slots n None) i ∙ g'.at in
          let number_same : f.slot ≡ g'.slot = cc in
          ne (sym g'.number ∙ ap (λ (t : Slot). t.number) (sym number_same) ∙ f.number) in (
            r.becomes,
            after,
            ap (place swapped) same ∙ own_place tree swapped to_dir to_slots after r,
            r.body_after,
            record {
              slot = f.slot;
              within = omega (
                arith,
                f.within,
                ap length one_list,
                length-set to_slots y.0 (Some s),
              );
              at = get_or-set_other to_slots y.0 x.0 (Some s) None apart
                  ∙ ap (λ (ss : Slots). get_or ss x.0 None) (sym one_list) ∙ f.at;
              named = f.named;
              number = f.number;
            },
          )
      | inr other ↦
          (o, slots, other_place tree swapped to_dir to_slots after r dir other ∙ at, body, f)
    ]

pub sound_moved_over : (tree : Tree) (dir to_dir : ℕ) (o e : Object) (slots to_slots : Slots)
    (name to_name : List ℕ) (x y : ℕ × ℕ) (now : Time) → IsSound tree
    → place tree dir ≡ Some o → o.body ≡ Directory slots → place tree to_dir ≡ Some e
    → e.body ≡ Directory to_slots
    → IsFound slots name x → IsFound to_slots to_name y → (y.1 ≡ x.1 → ⊥) → IsBare tree y.1
    → (is_directory_at (place tree x.1) && is_above (length tree) tree x.1 to_dir) ≡ false
    → IsSound (moved_over tree dir x to_dir to_name y now)
unfolding moved_over
sound_moved_over tree dir to_dir o e slots to_slots name to_name x y now is at body to_at to_body f
    g ne bare apart =
    let slot : Slot = record { name = to_name; number = x.1 } in
    let swapped = change tree to_dir (slot_changed now y.0 (Some slot)) in
    let over = set to_slots y.0 (Some slot) in
    let r : Reslots tree swapped to_dir to_slots over =
    reslots_changed tree to_dir e to_slots y.0 (Some slot) now to_at to_body in
    let still =
    still_found tree dir to_dir o e slots to_slots name to_name x y slot now at body to_at
    to_body f g ne in
    let left = still.1 in
    let without = set left x.0 None in
    let cleared = change swapped dir (slot_changed now x.0 None) in
    let s : Reslots swapped cleared dir left without =
    reslots_changed swapped dir still.0 left x.0 None now still.2 still.3 in
    let near = nearly_reslots tree swapped to_dir to_slots over (names_of tree) r (nearly tree is)
    (sound_renamed to_slots y.0 g.slot slot
    (sound_slots (place tree to_dir) e to_slots to_at to_body (is.objects to_dir)) g.within g.at
    (sym g.named)) in
    let there =
    nearly_reslots swapped cleared dir left without (names_of tree) s near
    (sound_cleared left x.0 (sound_slots (place swapped dir) still.0 left still.2 still.3
    (near.objects dir))) in
    let over_names : (k : ℕ) → names_in k over + one y.1 k
    ≡ names_in k to_slots + one x.1 k = λ (k : ℕ). omega (
      arith,
      share_found to_slots to_name y k g,
      names_set to_slots y.0 (Some slot) k g.within,
    ) in
    let names : (k : ℕ) → names_of cleared k + one y.1 k ≡ names_of tree k = λ (k : ℕ).
    omega (
      arith,
      names_reslots tree swapped to_dir to_slots over r k,
      names_reslots swapped cleared dir left without s k,
      over_names k,
      cleared_names left name x k still.4,
    ) in
    let held_y = found_held tree to_dir e to_slots to_name y to_at to_body g in
    let held_x = found_held tree dir o slots name x at body f in
    let y_not_to : y.1 ≡ to_dir → ⊥ = λ (h : y.1 ≡ to_dir). let none = bare y.1 in
    let some : Holds tree y.1 y.1 = subst (λ (n : ℕ). Holds tree n y.1) (sym h) held_y in
    omega (arith, none, some) in
    let y_not_dir : y.1 ≡ dir → ⊥ = λ (h : y.1 ≡ dir). let none = bare x.1 in
    let some : Holds tree y.1 x.1 = subst (λ (n : ℕ). Holds tree n x.1) (sym h) held_x in
    omega (arith, none, some) in
    let bare_then : IsBare cleared y.1 = λ (k : ℕ).
    ap (names_at k) (other_place swapped cleared dir left without s y.1 y_not_dir
    ∙ other_place tree swapped to_dir to_slots over r y.1 y_not_to) ∙ bare k in
    let after = lost_entry cleared y.1 now in
    let l = lost cleared (names_of tree) y.1 now there names bare_then in
    let kinds : (k : ℕ) → IsDirectory after k
    → IsDirectory tree k = λ (k : ℕ) (d : IsDirectory after k).
    sym (kinds_reslots tree swapped to_dir to_slots over r k)
    ∙ sym (kinds_reslots swapped cleared dir left without s k) ∙ (l.directories k d).0 in
    let to_directory : IsDirectory tree to_dir = ap is_directory_at to_at
    ∙ ap is_directory to_body in
    let swapped_held : Holds swapped to_dir x.1 =
    omega (
      arith,
      own_names_after tree swapped to_dir to_slots over r x.1,
      over_names x.1,
      one_itself x.1,
      one_other y.1 x.1 (λ h. ne (sym h)),
    ) in
    let cleared_held : Holds cleared to_dir x.1 = elim (cases_eq to_dir dir) [
      | inl same ↦
          let before : names_in x.1 over ≡ names_in x.1 left =
          sym (own_names_after tree swapped to_dir to_slots over r x.1)
          ∙ ap (λ (n : ℕ). names_at x.1 (place swapped n)) same
          ∙ own_names swapped cleared dir left without s x.1 in
          let first : Holds tree to_dir x.1 =
          subst (λ (n : ℕ). Holds tree n x.1) (sym same) held_x in
          let here : Holds cleared dir x.1 =
          omega (
            arith,
            first,
            own_names tree swapped to_dir to_slots over r x.1,
            over_names x.1,
            one_itself x.1,
            one_other y.1 x.1 (λ h. ne (sym h)),
            before,
            cleared_names left name x x.1 still.4,
            own_names_after swapped cleared dir left without s x.1,
          ) in
          subst (λ (n : ℕ). Holds cleared n x.1) (sym same) here
      | inr other ↦ let same =
          ap (names_at x.1) (other_place swapped cleared dir left without s to_dir other) in
          omega (arith, same, swapped_held)
    ] in
    let held : Holds after to_dir x.1 = rw (l.kept to_dir x.1) cleared_held in
    let whole : IsSound after = sound_from after (names_of after) l.nearly (λ k. refl)
    (record {
      few = omega (
        arith,
        l.same_length,
        length_reslots tree swapped to_dir to_slots over r,
        length_reslots swapped cleared dir left without s,
        is.limits.few,
      );
      room = omega (
        arith,
        l.used,
        used_reslots tree swapped to_dir to_slots over r,
        used_reslots swapped cleared dir left without s,
        length-set to_slots y.0 (Some slot),
        length-set left x.0 None,
        is.limits.room,
      );
    })
    (λ k d.
    way_up tree after x.1 y.1 to_dir is bare
    (λ h m dm nx ny holds.
    let le : names_in m to_slots ≤ names_in m over =
    omega (arith, over_names m, one_other y.1 m ny) in
    let le' : names_in m left ≤ names_in m without =
    omega (arith, cleared_names left name x m still.4, one_other x.1 m nx) in
    let first = holders_reslots tree swapped to_dir to_slots over r m le h holds in
    let second = holders_reslots swapped cleared dir left without s m le' h first in
    rw (l.kept h m) second)
    to_directory (λ h. y_not_to (sym h)) held apart
    k (kinds k d) (l.directories k d).1) in
    let live =
    live_from x.1 (place after x.1) (names_of after x.1) (whole.entries x.1)
    (omega (arith, held, names_at-le after to_dir x.1)) in
    sound_ctime after x.1 live.0 now whole live.1
