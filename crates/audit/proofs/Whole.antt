-- The tree that the objects of a picture make, where nothing is found in it.
use Rattle.std.proofs.Common.{◌≡◌, ℕ, zero, suc, ◌+◌, ◌-◌, ◌<◌, ◌≤◌, ◌==◌, not}
use Rattle.std.proofs.Common.{true, false, List, [], ◌∷◌, length, map, Option, Some}
use Rattle.std.proofs.Common.{None, refl, sym, ap, subst, ◌∙◌, arith, inl, inr}
use Rattle.std.specs.Option.{option_map}
use Rattle.std.proofs.lemmas.Bool.{and_cases, both_ways, cases_Bool, cases_eq, cases_lt, eq-eqb}
use Rattle.std.proofs.lemmas.Bool.{eqb-true, ltb-false, ne_eqb, not-false, or_left}
use Rattle.std.proofs.lemmas.Bool.{or_parts, or_right}
use Rattle.std.proofs.lemmas.List.Elements.{All-from_recursion}
use Rattle.harp_types.specs.declared.attr.Kind.{Kind}
use Rattle.harp_types.specs.declared.attr.Kind.TheVariants as kind
use Rattle.file_tree.specs.declared.object.Object.{Object}
use Rattle.file_tree.specs.Rename.{is_above}
use Rattle.file_tree.specs.Sound.{AreSound, IsRightlyNamed, IsSound}
use Rattle.file_tree.specs.Sound.{IsSoundBody, IsSoundObject}
use Rattle.file_tree.specs.Tree.{Tree, Slots, is_directory_at, kind_of, links_of}
use Rattle.file_tree.specs.Tree.{parent_of, place, size_of}
use Rattle.file_tree.specs.Tree.{slots_within, used_blocks}
use Rattle.file_tree.specs.Within.{IsWithinLimits}
use Rattle.file_tree.proofs.Holders.{IsDirectory, holder_is_directory}
use Rattle.file_tree.proofs.Holders.{parent_holds}
use Rattle.harp_cells.specs.declared.value.Inode.{Inode}
use Rattle.harp_cells.specs.declared.value.Value.{Value}
use Rattle.harp_cells.specs.declared.value.Value.TheVariants as value
use Rattle.harp_cells.specs.CellsOfTree.{inode_of, slot_value}
use Rattle.audit.specs.declared.picture.Picture.{Picture}
use Rattle.audit.specs.declared.picture.Portrait.{Portrait}
use Rattle.audit.specs.Pictures.{AreInOrder, attributes, is_link_kind}
use Rattle.audit.specs.Flaws.{above, ancestor, blocks_in}
use Rattle.audit.specs.Flaws.{has_wrong_space, is_directory}
use Rattle.audit.specs.Flaws.{is_directory_shown}
use Rattle.audit.specs.Flaws.{parent_shown, portrait_at, slots_in}
use Rattle.audit.proofs.Alike.{blocks_are}
use Rattle.audit.proofs.Bodies.{HasInode, IsShort, body_by}
use Rattle.audit.proofs.Bodies.{has_inode, inode_in, slots_again, text_length}
use Rattle.audit.proofs.Lookups.{found_number, found_shape, none_below, none_past}
use Rattle.audit.proofs.Names.{once_each, rightly_named}
use Rattle.audit.proofs.Ways.{reaches_far}
use Rattle.audit.proofs.Flawless.{object_by, tree_of, IsWhole, long_as}
use Rattle.audit.proofs.Flawless.{placed, flawless_at, even_at, fits_at, alike, bad_slots}
use Rattle.audit.proofs.Flawless.{root_there, links_told, are_named, directory_is, links_same}
use Rattle.audit.proofs.Flawless.{root_body, parent_same}

-- ---- the objects are those of the tree

abbrev pub portrait_of_object : Tree → ℕ → Object → Portrait
portrait_of_object tree n o =
    record {
      number = n;
      object = value.Object (inode_of tree n o);
      slots = map slot_value (slots_within o.body);
      text = text_length o.body;
    }

abbrev pub portrait_of : Tree → ℕ → Option Object → Option Portrait
portrait_of tree n None = None
portrait_of tree n (Some o) = Some (portrait_of_object tree n o)

-- the objects are those of the tree
abbrev pub Shows : List Portrait → Tree → Type 0
Shows objects tree = (n : ℕ) → portrait_at objects n ≡ portrait_of tree n (place tree n)

pub portrait_same : (x y : Portrait) → x.number ≡ y.number → x.object ≡ y.object
    → x.slots ≡ y.slots → x.text ≡ y.text → x ≡ y
portrait_same x y n o s t =
    ap (λ (v : ℕ). let z : Portrait = record { number = v; object = x.object; slots = x.slots; text = x.text } in z) n
    ∙ ap (λ (v : Value). let z : Portrait = record { number = y.number; object = v; slots = x.slots; text = x.text } in z) o
    ∙ ap (λ (v : List (Option Value)). let z : Portrait = record { number = y.number; object = y.object; slots = v; text = x.text } in z) s
    ∙ ap (λ (v : ℕ). let z : Portrait = record { number = y.number; object = y.object; slots = y.slots; text = v } in z) t

-- an inode with other numbers
abbrev pub inode_with : Inode → Kind → ℕ → ℕ → ℕ → ℕ → Inode
inode_with i kind links parent size slots = record i {
  kind = kind;
  links = links;
  parent = parent;
  size = size;
  slots = slots;
}

inode_same : (i : Inode) (k : Kind) (l p s n : ℕ) → i.kind ≡ k → i.links ≡ l → i.parent ≡ p
    → i.size ≡ s → i.slots ≡ n → i ≡ inode_with i k l p s n
inode_same i k l p s n ek el ep es en =
    ap (λ (x : Kind). inode_with i x i.links i.parent i.size i.slots) ek
    ∙ ap (λ (x : ℕ). inode_with i k x i.parent i.size i.slots) el
    ∙ ap (λ (x : ℕ). inode_with i k l x i.size i.slots) ep
    ∙ ap (λ (x : ℕ). inode_with i k l p x i.slots) es
    ∙ ap (λ (x : ℕ). inode_with i k l p s x) en

kind_inner : {X : Type 0} (x y : X) → Some x ≡ Some y → x ≡ y
kind_inner x y h = cc

pub object_same : (content : ℕ → List ℕ) (p : Picture) → IsWhole content p → (n : ℕ) (x : Portrait)
    → portrait_at p.objects n ≡ Some x
    → x.object ≡ value.Object (inode_of (tree_of content p) n (object_by (content n) x))
object_same content p w n x e =
    let shape = found_shape 1 p.next p.objects n x w.shape.objects e in
    let even = (even_at x (flawless_at content p w n x e).form).1 in
    let i : HasInode x.object (inode_in x.object) = has_inode x.object x.text shape.object even in
    let f = fits_at content p w n x e in
    let links = (links_told p.objects x (flawless_at content p w n x e).links).0 in
    let b = body_by (attributes x.object).kind (content n) (slots_in x) in
    i.is ∙ ap value.Object (inode_same (inode_in x.object) (kind_of b)
    (links_of (tree_of content p) n b) (parent_of (tree_of content p) n) (size_of b)
    (length (slots_within b))
    (kind_inner (inode_in x.object).kind (kind_of b) (sym i.kind ∙ sym f.kind))
    (sym i.links ∙ links ∙ links_same content p w n x e)
    (sym i.parent ∙ parent_same content p w n x e)
    (sym i.size ∙ f.size) (sym i.slots ∙ f.count))

empty_slots : {X : Type 0} (xs : List X) → length xs ≡ 0 → xs ≡ []
empty_slots [] h = refl
empty_slots (x ∷ xs) h = absurd (omega (arith, h))

pub slots_same : (content : ℕ → List ℕ) (p : Picture) → IsWhole content p → (n : ℕ) (x : Portrait)
    → portrait_at p.objects n ≡ Some x
    → x.slots ≡ map slot_value (slots_within
    (body_by (attributes x.object).kind (content n) (slots_in x)))
slots_same content p w n x e =
    let shape = found_shape 1 p.next p.objects n x w.shape.objects e in
    let f = fits_at content p w n x e in
    let b = body_by (attributes x.object).kind (content n) (slots_in x) in
    elim (cases_Bool (is_directory x)) [
      | inl d ↦ sym (slots_again x.slots shape.slots) ∙ ap (map slot_value) (f.slots_are d)
      | inr d ↦
          empty_slots x.slots (shape.count ∙ f.none d)
          ∙ sym (ap (map slot_value) (empty_slots (slots_within b) (sym f.count ∙ f.none d)))
    ]

text_same : (content : ℕ → List ℕ) (p : Picture) → IsWhole content p → (n : ℕ) (x : Portrait)
    → portrait_at p.objects n ≡ Some x
    → x.text ≡ text_length (body_by (attributes x.object).kind (content n) (slots_in x))
text_same content p w n x e =
    let shape = found_shape 1 p.next p.objects n x w.shape.objects e in
    let f = fits_at content p w n x e in
    elim (cases_Bool (is_link_kind (attributes x.object).kind)) [
      | inl l ↦ f.text_is l
      | inr l ↦ shape.text l ∙ f.no_text l
    ]

shown_found : (content : ℕ → List ℕ) (p : Picture) → IsWhole content p → (n : ℕ)
    (found : Option Portrait) → portrait_at p.objects n ≡ found
    → found ≡ portrait_of (tree_of content p) n (option_map (object_by (content n)) found)
shown_found content p w n None e = refl
shown_found content p w n (Some x) e =
    ap Some (portrait_same x
    (portrait_of_object (tree_of content p) n (object_by (content n) x))
    (found_number p.objects n x e) (object_same content p w n x e) (slots_same content p w n x e)
    (text_same content p w n x e))

pub shows : (content : ℕ → List ℕ) (p : Picture) → IsWhole content p
    → Shows p.objects (tree_of content p)
shows content p w n =
    shown_found content p w n (portrait_at p.objects n) refl
    ∙ ap (portrait_of (tree_of content p) n) (sym (placed content p n w.shape))

-- ---- the tree is sound

sound_body : (k : Option Kind) (bytes : List ℕ) (slots : Slots) → IsShort (body_by k bytes slots)
    → AreSound slots → IsSoundBody (body_by k bytes slots)
sound_body None bytes slots short sound = short
sound_body (Some kind.Regular) bytes slots short sound = short
sound_body (Some kind.Directory) bytes slots short sound = sound
sound_body (Some kind.Link) bytes slots short sound = short

sound_found : (content : ℕ → List ℕ) (p : Picture) → IsWhole content p → (n : ℕ)
    (found : Option Portrait) → portrait_at p.objects n ≡ found
    → IsSoundObject (option_map (object_by (content n)) found)
sound_found content p w n None e = tt
sound_found content p w n (Some x) e =
    let shape = found_shape 1 p.next p.objects n x w.shape.objects e in
    let flawless = flawless_at content p w n x e in
    let even = even_at x flawless.form in
    let i : HasInode x.object (inode_in x.object) = has_inode x.object x.text shape.object even.1 in
    let bad = bad_slots p.objects x flawless in
    let sound : AreSound (slots_in x) =
    record {
      names = All-from_recursion IsRightlyNamed (slots_in x)
          (rightly_named p.objects (slots_in x) bad.0);
      once = once_each (slots_in x) bad.1;
    } in
    let mode : (attributes x.object).mode ≤ 4095 =
    ltb-false 4095 (attributes x.object).mode even.0 in (
      omega (arith, mode, i.mode),
      sound_body (attributes x.object).kind (content n) (slots_in x)
          (fits_at content p w n x e).short sound,
    )

used_is : (p : Picture) → has_wrong_space p ≡ false
    → (p.used ≡ blocks_in p.objects) × (p.used ≤ 65536)
used_is p h =
    let parts = or_parts (not (p.used == blocks_in p.objects)) _ h in (
      eqb-true p.used (blocks_in p.objects) (not-false (p.used == blocks_in p.objects) parts.0),
      ltb-false 65536 p.used parts.1,
    )

pub used_same : (content : ℕ → List ℕ) (p : Picture) → IsWhole content p
    → p.used ≡ used_blocks (tree_of content p)
used_same content p w =
    (used_is p w.clean.space).0
    ∙ blocks_are p.next p.objects (tree_of content p) w.shape.objects (long_as content p)
    (alike content p w)

within : (content : ℕ → List ℕ) (p : Picture) → IsWhole content p
    → IsWithinLimits (tree_of content p)
within content p w =
    let next : p.next < 4294967296 = w.shape.next in
    record {
      few = omega (arith, next, long_as content p);
      room = omega (arith, used_same content p w, (used_is p w.clean.space).1);
    }

pub above_one : (n : ℕ) (objects : List Portrait) → (n ≡ 1 → ⊥)
    → above objects n ≡ parent_shown (portrait_at objects n)
above_one n objects ne = let t : (n == 1) ≡ false = ne_eqb n 1 ne in rw t refl

climbs_found : (content : ℕ → List ℕ) (p : Picture) → IsWhole content p → (n : ℕ)
    (found : Option Portrait) → portrait_at p.objects n ≡ found
    → IsDirectory (tree_of content p) n → (n ≡ 1 → ⊥)
    → above p.objects n ≡ parent_of (tree_of content p) n
climbs_found content p w n None e d ne =
    let shown : false ≡ is_directory_at (place (tree_of content p) n) =
    ap is_directory_shown (sym e) ∙ directory_is content p w n in absurd cc
climbs_found content p w n (Some x) e d ne =
    above_one n p.objects ne ∙ ap parent_shown e ∙ parent_same content p w n x e

climbs : (content : ℕ → List ℕ) (p : Picture) → IsWhole content p → (steps n : ℕ)
    → IsDirectory (tree_of content p) n → ancestor steps p.objects n ≡ 1
    → is_above steps (tree_of content p) 1 n ≡ true
unfolding ancestor is_above
climbs content p w zero n d h = eq-eqb n 1 h
climbs content p w (suc steps) n d h = elim (cases_eq n 1) [
  | inl one ↦ or_left (n == 1) _ (eq-eqb n 1 one)
  | inr ne ↦
      let up = climbs_found content p w n (portrait_at p.objects n) refl d ne in
      let held = parent_holds (tree_of content p) n (are_named content p w) d ne in
      or_right (n == 1) _
      (climbs content p w steps (parent_of (tree_of content p) n)
      (holder_is_directory (tree_of content p) (parent_of (tree_of content p) n) n held)
      (ap (ancestor steps p.objects) (sym up) ∙ h))
]

-- the next number is above the root's
next_above : (content : ℕ → List ℕ) (p : Picture) → IsWhole content p → 1 ≤ p.next
next_above content p w = elim (cases_lt 1 p.next) [
  | inl lt ↦ omega (arith, lt)
  | inr le ↦
      let none = none_past 1 p.next p.objects 1 w.shape.objects le in
      let root : is_directory_shown (portrait_at p.objects 1) ≡ true = root_there p w.clean in
      absurd (both_ways (is_directory_shown (portrait_at p.objects 1))
      (ap is_directory_shown none) root)
]

few_objects : (from next : ℕ) (xs : List Portrait) → AreInOrder from next xs → from ≤ next
    → length xs + from ≤ next
few_objects from next [] h le = omega (arith, le)
few_objects from next (x ∷ xs) h le =
    omega (arith, h.0, few_objects (x.number + 1) next xs h.3 (omega (arith, h.1)))

reached : (content : ℕ → List ℕ) (p : Picture) → IsWhole content p → (n : ℕ)
    (found : Option Portrait) → portrait_at p.objects n ≡ found
    → IsDirectory (tree_of content p) n
    → ancestor (length p.objects) p.objects n ≡ 1
reached content p w n None e d =
    let shown : false ≡ is_directory_at (place (tree_of content p) n) =
    ap is_directory_shown (sym e) ∙ directory_is content p w n in absurd cc
reached content p w n (Some x) e d =
    let number : x.number ≡ n = found_number p.objects n x e in
    let shown : is_directory x ≡ is_directory_at (place (tree_of content p) n) =
    ap is_directory_shown (sym e) ∙ directory_is content p w n in
    elim (and_cases (is_directory x) (not (ancestor (length p.objects) p.objects x.number == 1))
    (flawless_at content p w n x e).lost) [
      | inl f ↦ absurd (both_ways (is_directory x) f (shown ∙ d))
      | inr there ↦
          ap (ancestor (length p.objects) p.objects) (sym number)
          ∙ eqb-true (ancestor (length p.objects) p.objects x.number) 1
          (not-false (ancestor (length p.objects) p.objects x.number == 1) there)
    ]

pub sound : (content : ℕ → List ℕ) (p : Picture) → IsWhole content p → IsSound (tree_of content p)
sound content p w = record {
  limits = within content p w;
  nothing_at_0 = placed content p 0 w.shape
      ∙ ap (option_map (object_by (content 0)))
      (none_below 1 p.next p.objects 0 w.shape.objects (omega arith));
  root = root_body content p w;
  objects = λ n. subst IsSoundObject (sym (placed content p n w.shape))
      (sound_found content p w n (portrait_at p.objects n) refl);
  entries = are_named content p w;
  reaches = λ n d.
      let many = length (tree_of content p) in
      let few : length p.objects ≤ many = omega (
        arith,
        few_objects 1 p.next p.objects w.shape.objects (next_above content p w),
        long_as content p,
      ) in
      let more : length p.objects + (many - length p.objects) ≡ many = omega (arith, few) in
      climbs content p w many n d
      (ap (λ (k : ℕ). ancestor k p.objects n) (sym more)
      ∙ reaches_far (length p.objects) (many - length p.objects) p.objects n
      (reached content p w n (portrait_at p.objects n) refl d));
}
