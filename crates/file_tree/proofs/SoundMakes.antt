-- Sound trees stay sound where an object or an entry is made.
use Rattle.std.proofs.Common.{◌≡◌, ℕ, ◌+◌, ◌*◌, ◌<◌, ◌≤◌, false, List, [], ◌∷◌, ◌++◌, length, count_by, Option, Some, None, Ok, refl, sym, ap, ◌∙◌, subst, arith, inl, inr}
use Rattle.std.proofs.lemmas.Bool.{cases_lt, cases_eq, ne_eqb}
use Rattle.std.proofs.lemmas.List.{length_push, get_or_past, get_or_push}
use Rattle.std.proofs.lemmas.List.Sums.{sum_by_push}
use Rattle.harp_types.specs.declared.attr.Time.{Time}
use Rattle.file_tree.specs.declared.object.Slot.{Slot}
use Rattle.file_tree.specs.declared.object.Body.{Body}
use Rattle.file_tree.specs.declared.object.Body.TheVariants.{Regular, Directory, Link}
use Rattle.file_tree.specs.declared.object.Object.{Object}
use Rattle.file_tree.specs.Tree.{Tree, Slots, place, slots_within, size_of, blocks_of, blocks_at, used_blocks, names_in, names_at, names_of, is_directory, is_directory_at, with_entry}
use Rattle.file_tree.specs.Tries.{entry_name}
use Rattle.file_tree.specs.Outcome.{change, reslotted, with_object}
use Rattle.file_tree.specs.Sound.{IsSoundObject, HasEntries, IsNamed, has_name, IsSound}
use Rattle.file_tree.proofs.Kept.{place_push, used_push}
use Rattle.file_tree.proofs.Holders.{Holds, IsDirectory, holder_within}
use Rattle.file_tree.proofs.Climbs.{Climbs, up}
use Rattle.file_tree.proofs.SlotLaws.{one, names_entered, sound_entered}
use Rattle.file_tree.proofs.Reslots.{Reslots, reslots_reslotted, length_reslots, own_names_after, names_reslots, used_reslots, kinds_reslots, root_within, directory_within, IsNearly, nearly_reslots, sound_from}
use Rattle.file_tree.proofs.WaysUp.{others_climb}
use Rattle.file_tree.proofs.SoundChanges.{zero_is_bare, directory_not_0, one_itself, one_other, live_from, file_at}
use Rattle.file_tree.proofs.SoundMoves.{sound_slots, holders_reslots, names_at-le}

new_entries : (number : ℕ) (b : Body) → (number ≡ 1 → ⊥) → HasEntries number b 1
new_entries number (Directory slots) ne = let t = ne_eqb number 1 ne in rw t refl
new_entries number (Regular bytes) ne = omega arith
new_entries number (Link text) ne = omega arith

-- a number without an object has no entries
pub no_names : (tree : Tree) (k : ℕ) → IsSound tree → length tree ≤ k → names_of tree k ≡ 0
no_names tree k is le =
    subst (λ (x : Option Object). IsNamed k x (names_of tree k)) (get_or_past tree k None le)
    (is.entries k)

pub pushed_names : (tree : Tree) (o : Object) (k : ℕ) → names_in k (slots_within o.body) ≡ 0
    → names_of (tree ++ Some o ∷ []) k ≡ names_of tree k
unfolding names_of
pushed_names tree o k bare = omega (arith, bare, sum_by_push (names_at k) tree (Some o))

-- a tree with a new object, whose entry is still to come
nearly_pushed : (tree : Tree) (o : Object) → IsSound tree → IsSoundObject (Some o)
    → IsNearly (tree ++ Some o ∷ []) (λ k. names_of tree k + one (length tree) k)
nearly_pushed tree o is sound =
    let pushed = tree ++ Some o ∷ [] in
    let two = root_within tree is.root in
    let last : (k : ℕ) → k ≡ length tree
    → place pushed k ≡ Some o = λ (k : ℕ) (e : k ≡ length tree). get_or_push tree
    (Some o) None k (sym e) in
    let past : (k : ℕ) → length tree ≤ k → (k ≡ length tree → ⊥)
    → place pushed k ≡ None = λ (k : ℕ) (le : length tree ≤ k) (ne : k ≡ length tree → ⊥).
    get_or_past pushed k None (omega (arith, length_push tree (Some o), le, ne)) in
    record {
      nothing_at_0 = place_push tree (Some o) 0 (omega (arith, two)) ∙ is.nothing_at_0;
      root = ap is_directory_at (place_push tree (Some o) 1 two) ∙ is.root;
      objects = λ k. elim (cases_lt k (length tree)) [
        | inl lt ↦ subst IsSoundObject (sym (place_push tree (Some o) k lt)) (is.objects k)
        | inr le ↦ elim (cases_eq k (length tree)) [
          | inl e ↦ subst IsSoundObject (sym (last k e)) sound
          | inr ne ↦ subst IsSoundObject (sym (past k le ne)) tt
        ]
      ];
      named = λ k. elim (cases_lt k (length tree)) [
        | inl lt ↦
            let same : names_of tree k ≡ names_of tree k + one (length tree) k =
            omega (arith, one_other (length tree) k (λ e. omega (arith, e, lt))) in
            subst (λ (x : Option Object). IsNamed k x (names_of tree k + one (length tree) k))
            (sym (place_push tree (Some o) k lt))
            (subst (IsNamed k (place tree k)) same (is.entries k))
        | inr le ↦ elim (cases_eq k (length tree)) [
          | inl e ↦
              let single : 1 ≡ names_of tree k + one (length tree) k =
              omega (
                arith,
                no_names tree k is le,
                ap (one (length tree)) e,
                one_itself (length tree),
              ) in
              let mine : HasEntries k o.body (names_of tree k + one (length tree) k) =
              subst (HasEntries k o.body) single
              (new_entries k o.body (λ h. omega (arith, h, e, two))) in
              subst (λ (x : Option Object). IsNamed k x (names_of tree k + one (length tree) k))
              (sym (last k e)) mine
          | inr ne ↦
              let none : names_of tree k + one (length tree) k ≡ 0 =
              omega (arith, no_names tree k is le, one_other (length tree) k ne) in
              subst (λ (x : Option Object). IsNamed k x (names_of tree k + one (length tree) k))
              (sym (past k le ne)) none
        ]
      ];
    }

-- a new object, and the directory with its entry
pub sound_made : (tree : Tree) (dir : ℕ) (d : Object) (slots : Slots) (name : List ℕ) (o : Object)
    (now : Time) → IsSound tree
    → place tree dir ≡ Some d → d.body ≡ Directory slots → entry_name name ≡ Ok tt
    → count_by (has_name name) slots ≡ 0
    → IsSoundObject (Some o) → ((k : ℕ) → names_in k (slots_within o.body) ≡ 0)
    → length tree < 4294967295
    → used_blocks tree + blocks_of (size_of o.body) + blocks_of
    (264 * length (with_entry slots (record { name = name; number = length tree }))) ≤ 65536
    + blocks_at (place tree dir)
    → IsSound (with_object tree dir
    (with_entry slots (record { name = name; number = length tree })) o now)
sound_made tree dir d slots name o now is at body right new sound bare few enough =
    let slot : Slot = record { name = name; number = length tree } in
    let full = with_entry slots slot in
    let pushed = tree ++ Some o ∷ [] in
    let after = with_object tree dir full o now in
    let directory : IsDirectory tree dir = ap is_directory_at at ∙ ap is_directory body in
    let within = directory_within tree dir directory in
    let at' : place pushed dir ≡ Some d = place_push tree (Some o) dir within ∙ at in
    let r : Reslots pushed after dir slots full =
    reslots_reslotted pushed dir d slots full now at' body in
    let near =
    nearly_reslots pushed after dir slots full (λ k. names_of tree k + one (length tree) k) r
    (nearly_pushed tree o is sound)
    (sound_entered slots slot (sound_slots (place tree dir) d slots at body
    (is.objects dir)) right new) in
    let old : (k : ℕ) → IsDirectory after k → k < length tree
    → IsDirectory tree k = λ (k : ℕ) (e : IsDirectory after k) (lt : k < length tree).
    sym (ap is_directory_at (place_push tree (Some o) k lt))
    ∙ sym (kinds_reslots pushed after dir slots full r k) ∙ e in
    let climbs : (k : ℕ) → IsDirectory tree k → Climbs after k = λ (k : ℕ) (e : IsDirectory tree k).
    others_climb tree after 0 0 is (zero_is_bare tree is.nothing_at_0)
    (zero_is_bare tree is.nothing_at_0)
    (λ h m dm nx ny holds.
    let lt : h < length tree = holder_within tree h m holds in
    let before : Holds pushed h m = let same = ap (names_at m) (place_push tree (Some o) h lt) in
    omega (arith, same, holds) in
    holders_reslots pushed after dir slots full r m
    (omega (arith, names_entered slots slot m)) h before)
    k e (directory_not_0 tree k is.nothing_at_0 e) (directory_not_0 tree k is.nothing_at_0 e) in
    let held : Holds after dir (length tree) =
    omega (
      arith,
      own_names_after pushed after dir slots full r (length tree),
      names_entered slots slot (length tree),
      one_itself (length tree),
    ) in
    sound_from after (λ k. names_of tree k + one (length tree) k) near
    (λ k. omega (
      arith,
      names_reslots pushed after dir slots full r k,
      pushed_names tree o k (bare k),
      names_entered slots slot k,
    ))
    (record {
      few = omega (
        arith,
        length_reslots pushed after dir slots full r,
        length_push tree (Some o),
        few,
      );
      room =
          let size : blocks_at (place tree dir) ≡ blocks_of (264 * length slots) = ap blocks_at at
          ∙ ap (λ (b : Body). blocks_of (size_of b)) body in
          omega (arith, enough, size, used_push tree o, used_reslots pushed after dir slots full r);
    })
    (λ k e. elim (cases_lt k (length tree)) [
      | inl lt ↦ climbs k (old k e lt)
      | inr le ↦
          let two = directory_within after k e in
          let last : k ≡ length tree =
          omega (
            arith,
            two,
            le,
            length_reslots pushed after dir slots full r,
            length_push tree (Some o),
          ) in
          subst (Climbs after) (sym last) (up dir (length tree) held (climbs dir directory))
    ])

-- ---- a further entry of a file or a link

nearly_more : (tree : Tree) (number : ℕ) (o : Object) → IsSound tree → place tree number ≡ Some o
    → is_directory o.body ≡ false → IsNearly tree (λ k. names_of tree k + one number k)
nearly_more tree number o is at file = record {
  nothing_at_0 = is.nothing_at_0;
  root = is.root;
  objects = is.objects;
  named = λ k. elim (cases_eq k number) [
    | inl e ↦
        file_at k (place tree k) o (names_of tree k + one number k) (ap (place tree) e ∙ at) file
        (omega (arith, ap (one number) e, one_itself number))
    | inr ne ↦
        let same : names_of tree k ≡ names_of tree k + one number k =
        omega (arith, one_other number k ne) in
        subst (IsNamed k (place tree k)) same (is.entries k)
  ];
}

-- a sound tree with an object that lives
pub record IsSoundWith (tree : Tree) (number : ℕ) : Type 0 where
  pub sound : IsSound tree
  pub object : Object
  pub at : place tree number ≡ Some object

pub sound_linked : (tree : Tree) (dir : ℕ) (d : Object) (slots : Slots) (name : List ℕ) (number : ℕ)
    (o : Object) (now : Time) → IsSound tree
    → place tree dir ≡ Some d → d.body ≡ Directory slots → entry_name name ≡ Ok tt
    → count_by (has_name name) slots ≡ 0
    → place tree number ≡ Some o → is_directory o.body ≡ false
    → used_blocks tree + blocks_of (264 * length
    (with_entry slots (record { name = name; number = number }))) ≤ 65536 + blocks_at
    (place tree dir)
    → IsSoundWith (change tree dir (reslotted now
    (with_entry slots (record { name = name; number = number })))) number
sound_linked tree dir d slots name number o now is at body right new lives file enough =
    let slot : Slot = record { name = name; number = number } in
    let full = with_entry slots slot in
    let after = change tree dir (reslotted now full) in
    let r : Reslots tree after dir slots full =
    reslots_reslotted tree dir d slots full now at body in
    let near =
    nearly_reslots tree after dir slots full (λ k. names_of tree k + one number k) r
    (nearly_more tree number o is lives file)
    (sound_entered slots slot (sound_slots (place tree dir) d slots at body
    (is.objects dir)) right new) in
    let old : (k : ℕ) → IsDirectory after k
    → IsDirectory tree k = λ (k : ℕ) (e : IsDirectory after k). sym
    (kinds_reslots tree after dir slots full r k) ∙ e in
    let bare = zero_is_bare tree is.nothing_at_0 in
    let whole : IsSound after = sound_from after (λ k. names_of tree k + one number k) near
    (λ k. omega (arith, names_reslots tree after dir slots full r k, names_entered slots slot k))
    (record {
      few = omega (arith, length_reslots tree after dir slots full r, is.limits.few);
      room =
          let size : blocks_at (place tree dir) ≡ blocks_of (264 * length slots) = ap blocks_at at
          ∙ ap (λ (b : Body). blocks_of (size_of b)) body in
          omega (arith, enough, size, used_reslots tree after dir slots full r);
    })
    (λ k e.
    others_climb tree after 0 0 is bare bare
    (λ h m dm nx ny holds. holders_reslots tree after dir slots full r m
    (omega (arith, names_entered slots slot m)) h holds)
    k (old k e) (directory_not_0 tree k is.nothing_at_0 (old k e))
    (directory_not_0 tree k is.nothing_at_0 (old k e))) in
    let held : Holds after dir number =
    omega (
      arith,
      own_names_after tree after dir slots full r number,
      names_entered slots slot number,
      one_itself number,
    ) in
    let live =
    live_from number (place after number) (names_of after number) (whole.entries number)
    (omega (arith, held, names_at-le after dir number)) in
    record { sound = whole; object = live.0; at = live.1 }
