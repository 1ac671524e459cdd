-- Sound trees stay sound where an object changes, and where an object loses an entry.
use Rattle.std.proofs.Common.{◌≡◌, ℕ, ◌+◌, ◌≤◌, ◌==◌, true, false, length, set, Option, Some, None, refl, sym, ap, ◌∙◌, subst, arith, inl, inr}
use Rattle.std.proofs.lemmas.Bool.{cases_eq, eqb-true, eqb-false, eq-eqb, ne_eqb, cond_both, both_ways, false_from_ne_true}
use Rattle.std.proofs.lemmas.List.{length-set, get_or-set_same, get_or-set_other}
use Rattle.std.proofs.lemmas.List.Sums.{sum_by-set}
use Rattle.harp_types.specs.declared.attr.Time.{Time}
use Rattle.file_tree.specs.declared.object.Body.{Body}
use Rattle.file_tree.specs.declared.object.Body.TheVariants.{Regular, Directory, Link}
use Rattle.file_tree.specs.declared.object.Object.{Object}
use Rattle.file_tree.specs.Tree.{Tree, place, slots_within, size_of, blocks_of, blocks_at, used_blocks, names_in, names_at, names_of, is_directory, is_directory_at}
use Rattle.file_tree.specs.Within.{IsWithinLimits}
use Rattle.file_tree.specs.Outcome.{change, set_ctime, lost_entry}
use Rattle.file_tree.specs.Sound.{IsSoundObject, HasEntries, IsNamed, IsSound}
use Rattle.file_tree.proofs.Kept.{place_within, IsWithinLimits-same}
use Rattle.file_tree.proofs.Holders.{IsDirectory}
use Rattle.file_tree.proofs.SlotLaws.{one}
use Rattle.file_tree.proofs.Reslots.{IsNearly, nearly, nearly_set, place_set, change_is, sound_from}
use Rattle.file_tree.proofs.WaysUp.{IsBare, file_is_bare, others_climb}

pub zero_is_bare : (tree : Tree) → place tree 0 ≡ None → IsBare tree 0
zero_is_bare tree none = file_is_bare tree 0 (ap is_directory_at none)

pub directory_not_0 : (tree : Tree) (number : ℕ) → place tree 0 ≡ None → IsDirectory tree number
    → number ≡ 0 → ⊥
directory_not_0 tree number none d e =
    let there : is_directory_at (place tree 0) ≡ true = subst (IsDirectory tree) e d in
    let here : is_directory_at (place tree 0) ≡ false = ap is_directory_at none in
    absurd cc

pub kinds_set : (tree : Tree) (number : ℕ) (o new : Object) → place tree number ≡ Some o
    → is_directory new.body ≡ is_directory o.body → (k : ℕ)
    → is_directory_at (place (set tree number (Some new)) k) ≡ is_directory_at (place tree k)
kinds_set tree number o new at kind k = elim (cases_eq k number) [
  | inl e ↦
      rw e (ap is_directory_at (place_set tree number o new at) ∙ kind
      ∙ sym (ap is_directory_at at))
  | inr ne ↦ ap is_directory_at (get_or-set_other tree number k (Some new) None ne)
]

pub names_at_set : (tree : Tree) (number : ℕ) (o new : Object) → place tree number ≡ Some o
    → ((k : ℕ) → names_in k (slots_within new.body) ≡ names_in k (slots_within o.body))
    → (dir k : ℕ)
    → names_at k (place (set tree number (Some new)) dir) ≡ names_at k (place tree dir)
names_at_set tree number o new at same dir k = elim (cases_eq dir number) [
  | inl e ↦
      rw e (ap (names_at k) (place_set tree number o new at) ∙ same k ∙ sym (ap (names_at k) at))
  | inr ne ↦ ap (names_at k) (get_or-set_other tree number dir (Some new) None ne)
]

pub names_of_set : (tree : Tree) (number : ℕ) (o new : Object) → place tree number ≡ Some o
    → ((k : ℕ) → names_in k (slots_within new.body) ≡ names_in k (slots_within o.body)) → (k : ℕ)
    → names_of (set tree number (Some new)) k ≡ names_of tree k
unfolding names_of
names_of_set tree number o new at same k =
    let old : names_at k (place tree number) ≡ names_in k (slots_within o.body) =
    ap (names_at k) at in
    omega (
      arith,
      old,
      same k,
      sum_by-set (names_at k) tree number (Some new) None
          (place_within tree number o at),
    )

-- an object changes that keeps its kind and its entries
pub sound_set : (tree : Tree) (number : ℕ) (o new : Object) → IsSound tree
    → place tree number ≡ Some o → is_directory new.body ≡ is_directory o.body
    → ((k : ℕ) → names_in k (slots_within new.body) ≡ names_in k (slots_within o.body))
    → IsSoundObject (Some new)
    → IsWithinLimits (set tree number (Some new)) → IsSound (set tree number (Some new))
sound_set tree number o new is at kind same sound limits =
    let after = set tree number (Some new) in
    let old_directory : (k : ℕ) → IsDirectory after k
    → IsDirectory tree k = λ (k : ℕ) (d : IsDirectory after k). sym
    (kinds_set tree number o new at kind k) ∙ d in
    let bare = zero_is_bare tree is.nothing_at_0 in
    sound_from after (names_of tree)
    (nearly_set tree number o new (names_of tree) (nearly tree is) at kind sound)
    (names_of_set tree number o new at same) limits
    (λ k d.
    let not_0 = directory_not_0 tree k is.nothing_at_0 (old_directory k d) in
    others_climb tree after 0 0 is bare bare
    (λ dir m dm nx ny h. rw (names_at_set tree number o new at same dir m) h)
    k (old_directory k d) not_0 not_0)

pub sound_ctime : (tree : Tree) (number : ℕ) (o : Object) (now : Time) → IsSound tree
    → place tree number ≡ Some o → IsSound (change tree number (set_ctime now))
sound_ctime tree number o now is at =
    let new = set_ctime now o in
    let object : IsSoundObject (Some o) = subst IsSoundObject at (is.objects number) in
    rw (change_is tree number (set_ctime now) o at)
    (sound_set tree number o new is at refl (λ k. refl) object
    (IsWithinLimits-same tree number None (Some new) is.limits (place_within tree number o at)
    (ap blocks_at at)))

-- ---- an entry that is lost

pub one_itself : (x : ℕ) → one x x ≡ 1
one_itself x = rw (eq-eqb x x refl) refl

pub one_other : (x k : ℕ) → (k ≡ x → ⊥) → one x k ≡ 0
one_other x k ne = rw (ne_eqb x k (λ e. ne (sym e))) refl

pub live_from : (number : ℕ) (x : Option Object) (entries : ℕ) → IsNamed number x entries
    → 1 ≤ entries → (o : Object) × (x ≡ Some o)
live_from number None entries h some = absurd (omega (arith, h, some))
live_from number (Some o) entries h some = (o, refl)

few_entries : (number : ℕ) (b : Body) (entries : ℕ) → is_directory b ≡ true
    → HasEntries number b entries → entries ≤ 1
few_entries number (Directory slots) entries d h =
    rw h (cond_both (number == 1) 0 1 (λ (x : ℕ). x ≤ 1) (λ e. omega arith) (λ e. omega arith))
few_entries number (Regular bytes) entries d h = absurd cc
few_entries number (Link text) entries d h = absurd cc

pub few_at : (number : ℕ) (x : Option Object) (entries : ℕ) → is_directory_at x ≡ true
    → IsNamed number x entries → entries ≤ 1
few_at number None entries d h = absurd cc
few_at number (Some o) entries d h = few_entries number o.body entries d h

root_entries : (b : Body) (entries : ℕ) → is_directory b ≡ true → HasEntries 1 b entries
    → entries ≡ 0
root_entries (Directory slots) entries d h = h
root_entries (Regular bytes) entries d h = absurd cc
root_entries (Link text) entries d h = absurd cc

pub root_at : (x : Option Object) (entries : ℕ) → is_directory_at x ≡ true → IsNamed 1 x entries
    → entries ≡ 0
root_at None entries d h = absurd cc
root_at (Some o) entries d h = root_entries o.body entries d h

file_entries : (number : ℕ) (b : Body) (entries : ℕ) → is_directory b ≡ false → 1 ≤ entries
    → HasEntries number b entries
file_entries number (Directory slots) entries d h = absurd cc
file_entries number (Regular bytes) entries d h = h
file_entries number (Link text) entries d h = h

-- a file or a link may have any entries, but not none
pub file_at : (number : ℕ) (x : Option Object) (o : Object) (entries : ℕ) → x ≡ Some o
    → is_directory o.body ≡ false → 1 ≤ entries → IsNamed number x entries
file_at number None o entries e d h = absurd cc
file_at number (Some p) o entries e d h = let same : p ≡ o = cc in
    file_entries number p.body entries (ap (λ (q : Object). is_directory q.body) same ∙ d) h

-- what is left where an object lost an entry
pub record IsLost (before after : Tree) (x : ℕ) : Type 0 where
  pub nearly : IsNearly after (names_of after)
  pub kept : (dir k : ℕ) → names_at k (place after dir) ≡ names_at k (place before dir)
  pub directories : (k : ℕ) → IsDirectory after k → IsDirectory before k × (k ≡ x → ⊥)
  pub used : used_blocks after ≤ used_blocks before
  pub same_length : length after ≡ length before

place_gone : (tree : Tree) (x : ℕ) (o : Object) → place tree x ≡ Some o
    → place (set tree x None) x ≡ None
place_gone tree x o at = get_or-set_same tree x None None (place_within tree x o at)

gone_names : (tree : Tree) (x : ℕ) (o : Object) → place tree x ≡ Some o → IsBare tree x → (k : ℕ)
    → names_of (set tree x None) k ≡ names_of tree k
unfolding names_of
gone_names tree x o at bare k =
    omega (arith, bare k, sum_by-set (names_at k) tree x None None (place_within tree x o at))

gone_used : (tree : Tree) (x : ℕ) (o : Object) → place tree x ≡ Some o
    → used_blocks (set tree x None) ≤ used_blocks tree
unfolding used_blocks
gone_used tree x o at =
    omega (arith, sum_by-set blocks_at tree x None None (place_within tree x o at))

stays_used : (tree : Tree) (x : ℕ) (o new : Object) → place tree x ≡ Some o → new.body ≡ o.body
    → used_blocks (set tree x (Some new)) ≡ used_blocks tree
unfolding used_blocks
stays_used tree x o new at body =
    let old : blocks_at (place tree x) ≡ blocks_at (Some o) = ap blocks_at at in
    let same : blocks_at (Some new) ≡ blocks_at (Some o) =
    ap (λ (b : Body). blocks_of (size_of b)) body in
    omega (arith, old, same, sum_by-set blocks_at tree x (Some new) None (place_within tree x o at))

-- its last entry went
gone : (tree : Tree) (entries : ℕ → ℕ) (x : ℕ) (o : Object) → IsNearly tree entries
    → ((k : ℕ) → names_of tree k + one x k ≡ entries k) → IsBare tree x
    → place tree x ≡ Some o → names_of tree x ≡ 0 → IsLost tree (set tree x None) x
gone tree entries x o is count bare at last =
    let after = set tree x None in
    let other : (k : ℕ) → (k ≡ x → ⊥)
    → place after k ≡ place tree k =
    λ (k : ℕ) (ne : k ≡ x → ⊥). get_or-set_other tree x k None None ne in
    let nothing : (k : ℕ) → k ≡ x → place after k ≡ None = λ (k : ℕ) (e : k ≡ x). ap (place after) e
    ∙ place_gone tree x o at in
    let not_0 : 0 ≡ x → ⊥ = λ (e : 0 ≡ x). let none : place tree x ≡ None =
    rw (sym e) is.nothing_at_0 in absurd cc in
    let not_1 : 1 ≡ x → ⊥ = λ (e : 1 ≡ x).
    let none = root_at (place tree 1) (entries 1) is.root (is.named 1) in
    let some : one x 1 ≡ 1 = ap (one x) e ∙ one_itself x in
    absurd (omega (arith, none, some, count 1)) in
    record {
      nearly = record {
        nothing_at_0 = other 0 not_0 ∙ is.nothing_at_0;
        root = ap is_directory_at (other 1 not_1) ∙ is.root;
        objects = λ k. elim (cases_eq k x) [
          | inl e ↦ subst IsSoundObject (sym (nothing k e)) tt
          | inr ne ↦ subst IsSoundObject (sym (other k ne)) (is.objects k)
        ];
        named = λ k. elim (cases_eq k x) [
          | inl e ↦
              let none : names_of after k ≡ 0 = gone_names tree x o at bare k ∙ ap (names_of tree) e
              ∙ last in
              subst (λ (y : Option Object). IsNamed k y (names_of after k)) (sym (nothing k e)) none
          | inr ne ↦
              let same : entries k ≡ names_of after k =
              omega (arith, count k, one_other x k ne, gone_names tree x o at bare k) in
              let old : IsNamed k (place tree k) (names_of after k) =
              subst (IsNamed k (place tree k)) same (is.named k) in
              subst (λ (y : Option Object). IsNamed k y (names_of after k)) (sym (other k ne)) old
        ];
      };
      kept = λ dir k. elim (cases_eq dir x) [
        | inl e ↦ ap (names_at k) (nothing dir e) ∙ sym (bare k)
            ∙ ap (λ (d : ℕ). names_at k (place tree d)) (sym e)
        | inr ne ↦ ap (names_at k) (other dir ne)
      ];
      directories = λ k d. elim (cases_eq k x) [
        | inl e ↦ let none = ap is_directory_at (nothing k e) in absurd cc
        | inr ne ↦ (sym (ap is_directory_at (other k ne)) ∙ d, ne)
      ];
      used = gone_used tree x o at;
      same_length = length-set tree x None;
    }

-- it has entries left
stays : (tree : Tree) (entries : ℕ → ℕ) (x : ℕ) (o : Object) (now : Time) → IsNearly tree entries
    → ((k : ℕ) → names_of tree k + one x k ≡ entries k)
    → place tree x ≡ Some o → (names_of tree x ≡ 0 → ⊥)
    → IsLost tree (set tree x (Some (set_ctime now o))) x
stays tree entries x o now is count at left =
    let new = set_ctime now o in
    let after = set tree x (Some new) in
    let same : (k : ℕ) → names_of after k ≡ names_of tree k =
    names_of_set tree x o new at (λ k. refl) in
    let file : is_directory o.body ≡ false = false_from_ne_true (is_directory o.body) (λ d.
    let few = few_at x (place tree x) (entries x) (ap is_directory_at at ∙ d) (is.named x) in
    omega (arith, few, count x, one_itself x, left)) in
    let object : IsSoundObject (Some o) = subst IsSoundObject at (is.objects x) in
    let base = nearly_set tree x o new entries is at refl object in
    record {
      nearly = record {
        nothing_at_0 = base.nothing_at_0;
        root = base.root;
        objects = base.objects;
        named = λ k. elim (cases_eq k x) [
          | inl e ↦
              let some : 1 ≤ names_of after k = omega (arith, same k, ap (names_of tree) e, left) in
              file_at k (place after k) new (names_of after k)
              (ap (place after) e ∙ place_set tree x o new at) file some
          | inr ne ↦
              let count_same : entries k ≡ names_of after k =
              omega (arith, count k, one_other x k ne, same k) in
              subst (IsNamed k (place after k)) count_same (base.named k)
        ];
      };
      kept = λ dir k. names_at_set tree x o new at (λ m. refl) dir k;
      directories = λ k d. (
        sym (kinds_set tree x o new at refl k) ∙ d,
        λ (e : k ≡ x).
            let here : is_directory_at (place after k) ≡ false =
            ap (λ (n : ℕ). is_directory_at (place after n)) e
            ∙ ap is_directory_at (place_set tree x o new at) ∙ file in
            both_ways _ here d,
      );
      used = omega (arith, stays_used tree x o new at refl);
      same_length = length-set tree x (Some new);
    }

-- an object that nothing is in loses an entry
pub lost : (tree : Tree) (entries : ℕ → ℕ) (x : ℕ) (now : Time) → IsNearly tree entries
    → ((k : ℕ) → names_of tree k + one x k ≡ entries k) → IsBare tree x
    → IsLost tree (lost_entry tree x now) x
unfolding lost_entry
lost tree entries x now is count bare =
    let live =
    live_from x (place tree x) (entries x) (is.named x)
    (omega (arith, count x, one_itself x)) in
    cond_both (names_of tree x == 0) (set tree x None) (change tree x (set_ctime now))
    (λ (t : Tree). IsLost tree t x)
    (λ e. gone tree entries x live.0 is count bare live.1 (eqb-true (names_of tree x) 0 e))
    (λ e. rw (change_is tree x (set_ctime now) live.0 live.1)
    (stays tree entries x live.0 now is count live.1 (eqb-false (names_of tree x) 0 e)))
