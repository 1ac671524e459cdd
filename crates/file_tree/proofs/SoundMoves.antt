-- Sound trees stay sound where entries are taken away and moved.
use Rattle.std.proofs.Common.{◌≡◌, ℕ, ◌+◌, ◌≤◌, List, length, get_or, set, Option, Some, None, refl, sym, ap, ◌∙◌, subst, arith, inl, inr}
use Rattle.std.proofs.lemmas.Bool.{cases_eq, cases_lt}
use Rattle.std.proofs.lemmas.List.{length-set, get_or_past}
use Rattle.std.proofs.lemmas.List.Sums.{get_or-le-sum_by}
use Rattle.harp_types.specs.declared.attr.Time.{Time}
use Rattle.file_tree.specs.declared.object.Body.{Body}
use Rattle.file_tree.specs.declared.object.Body.TheVariants.{Directory}
use Rattle.file_tree.specs.declared.object.Object.{Object}
use Rattle.file_tree.specs.Tree.{Tree, Slots, place, slots_within, names_in, names_at, names_of}
use Rattle.file_tree.specs.Outcome.{change, slot_changed, lost_entry, removed}
use Rattle.file_tree.specs.Sound.{IsSoundObject, IsSoundBody, AreSound, IsSound}
use Rattle.file_tree.proofs.Holders.{Holds, IsDirectory}
use Rattle.file_tree.proofs.SlotLaws.{one, share, IsFound, names_set, sound_cleared}
use Rattle.file_tree.proofs.Reslots.{Reslots, reslots_changed, length_reslots, other_place, own_names, own_names_after, names_reslots, used_reslots, kinds_reslots, nearly, nearly_reslots, sound_from}
use Rattle.file_tree.proofs.WaysUp.{IsBare, others_climb}
use Rattle.file_tree.proofs.SoundChanges.{zero_is_bare, directory_not_0, one_itself, one_other, lost}

sound_body : (x : Option Object) (o : Object) → x ≡ Some o → IsSoundObject x → IsSoundBody o.body
sound_body None o e h = absurd cc
sound_body (Some p) o e h = let same : p ≡ o = cc in
    subst (λ (q : Object). IsSoundBody q.body) same h.1

-- the slots of a directory are sound
pub sound_slots : (x : Option Object) (o : Object) (slots : Slots) → x ≡ Some o
    → o.body ≡ Directory slots → IsSoundObject x → AreSound slots
sound_slots x o slots at body h = subst IsSoundBody body (sound_body x o at h)

pub share_found : (slots : Slots) (name : List ℕ) (x : ℕ × ℕ) (k : ℕ) (f : IsFound slots name x)
    → share k (get_or slots x.0 None) ≡ one x.1 k
share_found slots name x k f = ap (share k) f.at ∙ ap (λ (n : ℕ). one n k) f.number

-- a cleared slot takes one entry away
pub cleared_names : (slots : Slots) (name : List ℕ) (x : ℕ × ℕ) (k : ℕ) → IsFound slots name x
    → names_in k (set slots x.0 None) + one x.1 k ≡ names_in k slots
cleared_names slots name x k f =
    omega (arith, share_found slots name x k f, names_set slots x.0 None k f.within)

-- entries of another object stay where a directory's slots change
pub holders_reslots : (old new : Tree) (dir : ℕ) (slots after : Slots)
    → Reslots old new dir slots after → (m : ℕ) → names_in m slots ≤ names_in m after
    → (d : ℕ) → Holds old d m → Holds new d m
holders_reslots old new dir slots after r m le d h = elim (cases_eq d dir) [
  | inl e ↦
      let before : 1 ≤ names_at m (place old dir) = subst (λ (n : ℕ). Holds old n m) e h in
      let here : Holds new dir m =
      omega (
        arith,
        before,
        own_names old new dir slots after r m,
        own_names_after old new dir slots after r m,
        le,
      ) in
      subst (λ (n : ℕ). Holds new n m) (sym e) here
  | inr ne ↦ let same = ap (names_at m) (other_place old new dir slots after r d ne) in
      omega (arith, h, same)
]

pub names_at-le : (tree : Tree) (dir k : ℕ) → names_at k (place tree dir) ≤ names_of tree k
unfolding names_of
names_at-le tree dir k = elim (cases_lt dir (length tree)) [
  | inl lt ↦ get_or-le-sum_by (names_at k) tree dir None lt
  | inr le ↦ let none = ap (names_at k) (get_or_past tree dir None le) in omega (arith, none)
]

-- a directory holds what is found in it
pub found_held : (tree : Tree) (dir : ℕ) (o : Object) (slots : Slots) (name : List ℕ) (x : ℕ × ℕ)
    → place tree dir ≡ Some o → o.body ≡ Directory slots → IsFound slots name x → Holds tree dir x.1
found_held tree dir o slots name x at body f =
    let names : names_at x.1 (place tree dir) ≡ names_in x.1 slots = ap (names_at x.1) at
    ∙ ap (λ (b : Body). names_in x.1 (slots_within b)) body in
    omega (arith, names, cleared_names slots name x x.1 f, one_itself x.1)

-- ---- an entry is taken away

pub sound_removed : (tree : Tree) (dir : ℕ) (o : Object) (slots : Slots) (name : List ℕ) (x : ℕ × ℕ)
    (now : Time) → IsSound tree → place tree dir ≡ Some o → o.body ≡ Directory slots
    → IsFound slots name x → IsBare tree x.1 → IsSound (removed tree dir x now)
sound_removed tree dir o slots name x now is at body f bare =
    let cleared = change tree dir (slot_changed now x.0 None) in
    let after = lost_entry cleared x.1 now in
    let r : Reslots tree cleared dir slots (set slots x.0 None) =
    reslots_changed tree dir o slots x.0 None now at body in
    let near =
    nearly_reslots tree cleared dir slots (set slots x.0 None) (names_of tree) r
    (nearly tree is) (sound_cleared slots x.0
    (sound_slots (place tree dir) o slots at body (is.objects dir))) in
    let held = found_held tree dir o slots name x at body f in
    let apart : x.1 ≡ dir → ⊥ = λ (e : x.1 ≡ dir). let none = bare x.1 in
    let some : Holds tree x.1 x.1 = subst (λ (n : ℕ). Holds tree n x.1) (sym e) held in
    omega (arith, none, some) in
    let bare_then : IsBare cleared x.1 = λ (k : ℕ). ap (names_at k)
    (other_place tree cleared dir slots (set slots x.0 None) r x.1 apart) ∙ bare k in
    let l = lost cleared (names_of tree) x.1 now near
    (λ k. omega (
      arith,
      names_reslots tree cleared dir slots (set slots x.0 None) r k,
      cleared_names slots name x k f,
    )) bare_then in
    let directory : (k : ℕ) → IsDirectory after k
    → IsDirectory tree k = λ (k : ℕ) (d : IsDirectory after k). sym
    (kinds_reslots tree cleared dir slots (set slots x.0 None) r k) ∙ (l.directories k d).0 in
    sound_from after (names_of after) l.nearly (λ k. refl)
    (record {
      few = omega (
        arith,
        l.same_length,
        length_reslots tree cleared dir slots (set slots x.0 None) r,
        is.limits.few,
      );
      room = omega (
        arith,
        l.used,
        used_reslots tree cleared dir slots (set slots x.0 None) r,
        length-set slots x.0 None,
        is.limits.room,
      );
    })
    (λ k d.
    others_climb tree after 0 x.1 is (zero_is_bare tree is.nothing_at_0) bare
    (λ e m dm nz nx h.
    let le : names_in m slots ≤ names_in m (set slots x.0 None) =
    omega (arith, cleared_names slots name x m f, one_other x.1 m nx) in
    let between = holders_reslots tree cleared dir slots (set slots x.0 None) r m le e h in
    rw (l.kept e m) between)
    k (directory k d) (directory_not_0 tree k is.nothing_at_0 (directory k d))
    (l.directories k d).1)
