-- The objects of a sound tree have no flaw by themselves.
use Rattle.std.proofs.Common.{◌≡◌, ℕ, ◌+◌, ◌*◌, ◌≤◌, ◌==◌, ◌&&◌, ◌||◌}
use Rattle.std.proofs.Common.{not, Bool, true, false, length, get_or, count_by}
use Rattle.std.proofs.Common.{Option, Some, None, refl, sym, ap, subst, ◌∙◌, arith, inl, inr}
use Rattle.std.specs.List.{AllByRecursion, list_any}
use Rattle.std.specs.Prelude.{nat_lt, if◌then◌else◌}
use Rattle.std.proofs.lemmas.Bool.{and_left, and_right, cases_Bool, cases_eq, cases_lt}
use Rattle.std.proofs.lemmas.Bool.{cond_both, eq-eqb, le-ltb, ne_eqb, not_from_true}
use Rattle.std.proofs.lemmas.Bool.{or_from}
use Rattle.std.proofs.lemmas.List.{get_or_past}
use Rattle.std.proofs.lemmas.List.Elements.{recursion_from_All}
use Rattle.std.proofs.lemmas.List.Sums.{get_or-le-sum_by}
use Rattle.file_tree.specs.declared.object.Body.{Body}
use Rattle.file_tree.specs.declared.object.Body.TheVariants as body
use Rattle.file_tree.specs.declared.object.Object.{Object}
use Rattle.file_tree.specs.Sound.{HasEntries, IsNamed, IsRightlyNamed, IsSound, IsSoundBody}
use Rattle.file_tree.specs.Sound.{IsSoundObject}
use Rattle.file_tree.specs.Tree.{Tree, is_directory as is_directory_body, is_directory_at}
use Rattle.file_tree.specs.Tree.{is_subdirectory, kind_of, links_of, names_at, names_in}
use Rattle.file_tree.specs.Tree.{names_of as entries_of, parent_of, place, size_of, slots_within}
use Rattle.file_tree.specs.Tree.{used_blocks}
use Rattle.file_tree.specs.Tries.{is_some}
use Rattle.file_tree.proofs.Holders.{IsDirectory, parent_holds, parent_of_root}
use Rattle.audit.specs.declared.picture.Picture.{Picture}
use Rattle.audit.specs.declared.picture.Portrait.{Portrait}
use Rattle.audit.specs.Pictures.{IsShaped, is_directory_kind}
use Rattle.audit.specs.Flaws.{has_bad_slot, has_odd_form}
use Rattle.audit.specs.Flaws.{has_twins, has_wrong_links, has_wrong_parent, is_bad_entry}
use Rattle.audit.specs.Flaws.{is_directory, is_directory_shown, is_odd_kind, links_by}
use Rattle.audit.specs.Flaws.{names_directory, names_of, names_shown, portrait_at}
use Rattle.audit.specs.Flaws.{slots_in}
use Rattle.audit.proofs.Alike.{AreAlike, AreAlikeAt, directories_alike, live_alike}
use Rattle.audit.proofs.Alike.{names_are, shown_alike}
use Rattle.audit.proofs.Bodies.{entries_again, text_length}
use Rattle.audit.proofs.Names.{good_entries, no_twins}
use Rattle.audit.proofs.Flawless.{count_same}
use Rattle.audit.proofs.Whole.{Shows}
use Rattle.audit.proofs.Flawless.{names_directory_is}
use Rattle.audit.proofs.Whole.{portrait_of}
use Rattle.audit.proofs.Whole.{portrait_of_object}

-- the picture of a sound tree

pub record IsShown (p : Picture) (tree : Tree) : Type 0 where
  pub shape : IsShaped p
  pub next : p.next ≡ length tree
  pub used : p.used ≡ used_blocks tree
  pub shows : Shows p.objects tree
  pub sound : IsSound tree

-- ---- the objects beside those of the tree

pub kind_alike : (b : Body) → is_directory_kind (Some (kind_of b)) ≡ is_directory_body b
kind_alike (body.Regular bytes) = refl
kind_alike (body.Directory slots) = refl
kind_alike (body.Link text) = refl

pub alike_placed : (tree : Tree) (n : ℕ) (o : Option Object) → AreAlikeAt (portrait_of tree n o) o
alike_placed tree n None = tt
alike_placed tree n (Some o) = record {
  kind = kind_alike o.body;
  slots = λ d. entries_again (slots_within o.body);
  size = refl;
}

pub alike : (p : Picture) (tree : Tree) → IsShown p tree → AreAlike p.objects tree
alike p tree h n =
    subst (λ (x : Option Portrait). AreAlikeAt x (place tree n)) (sym (h.shows n))
    (alike_placed tree n (place tree n))

pub directory_is : (p : Picture) (tree : Tree) → IsShown p tree → (n : ℕ)
    → is_directory_shown (portrait_at p.objects n) ≡ is_directory_at (place tree n)
directory_is p tree h n =
    directories_alike (portrait_at p.objects n) (place tree n) (alike p tree h n)

pub names_same : (p : Picture) (tree : Tree) → IsShown p tree → (n : ℕ)
    → names_of p.objects n ≡ entries_of tree n
names_same p tree h n =
    names_are p.next p.objects tree n h.shape.objects h.next (alike p tree h)

-- ---- no flaw of an object

pub even_body : (b : Body) (links parent mode : ℕ) → IsSoundBody b
    → is_odd_kind (Some (kind_of b))
    (record {
      kind = Some (kind_of b);
      mode = mode;
      links = links;
      parent = parent;
      size = size_of b;
      slots = length (slots_within b);
    }) (text_length b) ≡ false
even_body (body.Regular bytes) links parent mode h =
    or_from (nat_lt 2147483647 (length bytes)) (not (0 == 0)) (le-ltb 2147483647 (length bytes) h)
    refl
even_body (body.Directory slots) links parent mode h =
    not_from_true (264 * length slots == 264 * length slots)
    (eq-eqb (264 * length slots) (264 * length slots) refl)
even_body (body.Link text) links parent mode h =
    or_from (not (length text == length text)) (nat_lt 1024 (length text) || not (0 == 0))
    (not_from_true (length text == length text) (eq-eqb (length text) (length text) refl))
    (or_from (nat_lt 1024 (length text)) (not (0 == 0)) (le-ltb 1024 (length text) h) refl)

pub no_odd_form : (tree : Tree) (n : ℕ) (o : Object) → IsSoundObject (Some o)
    → has_odd_form (portrait_of_object tree n o) ≡ false
no_odd_form tree n o h =
    or_from (nat_lt 4095 o.mode) _ (le-ltb 4095 o.mode (omega (arith, h.0)))
    (even_body o.body (links_of tree n o.body) (parent_of tree n) o.mode h.1)

-- the root has no entry
pub root_entries : (b : Body) (count : ℕ) → is_directory_body b ≡ true → HasEntries 1 b count
    → count ≡ 0
root_entries (body.Regular bytes) count d h = absurd cc
root_entries (body.Directory slots) count d h = h
root_entries (body.Link text) count d h = absurd cc

pub root_named : (o : Option Object) (count : ℕ) → is_directory_at o ≡ true → IsNamed 1 o count
    → count ≡ 0
root_named None count d h = absurd cc
root_named (Some o) count d h = root_entries o.body count d h

-- what an entry names is there, and isn't the root
pub named_at : (p : Picture) (tree : Tree) → IsShown p tree → (n : ℕ) (o : Option Object)
    → place tree n ≡ o → 1 ≤ entries_of tree n
    → (n ≡ 1 → ⊥) × (is_some (portrait_at p.objects n) ≡ true)
named_at p tree h n None e some =
    let none : entries_of tree n ≡ 0 =
    subst (λ (x : Option Object). IsNamed n x (entries_of tree n)) e (h.sound.entries n) in
    absurd (omega (arith, none, some))
named_at p tree h n (Some o) e some = (
  (λ one.
      let none : entries_of tree 1 ≡ 0 =
      root_named (place tree 1) (entries_of tree 1) h.sound.root (h.sound.entries 1) in
      let here : entries_of tree n ≡ 0 = ap (entries_of tree) one ∙ none in
      omega (arith, here, some)),
  live_alike (portrait_at p.objects n) (place tree n) (alike p tree h n) ∙ ap is_some e,
)

-- the slots that name a number in one directory are among all that do
pub among : (tree : Tree) (dir n : ℕ) (o : Object) → place tree dir ≡ Some o
    → names_in n (slots_within o.body) ≤ entries_of tree n
unfolding entries_of
among tree dir n o e = elim (cases_lt dir (length tree)) [
  | inl lt ↦
      let here : names_at n (get_or tree dir None) ≡ names_in n (slots_within o.body) =
      ap (names_at n) e in
      omega (arith, here, get_or-le-sum_by (names_at n) tree dir None lt)
  | inr le ↦ let none : place tree dir ≡ None = get_or_past tree dir None le in absurd cc
]

pub names_of_body : (b : Body) → IsSoundBody b → AllByRecursion IsRightlyNamed (slots_within b)
names_of_body (body.Regular bytes) h = tt
names_of_body (body.Directory slots) h = recursion_from_All IsRightlyNamed slots h.names
names_of_body (body.Link text) h = tt

pub twins_of_body : (b : Body) → IsSoundBody b → has_twins (slots_within b) ≡ false
unfolding has_twins
twins_of_body (body.Regular bytes) h = refl
twins_of_body (body.Directory slots) h = no_twins slots h.once
twins_of_body (body.Link text) h = refl

pub no_bad_slot : (p : Picture) (tree : Tree) → IsShown p tree → (n : ℕ) (o : Object)
    → place tree n ≡ Some o → IsSoundBody o.body
    → has_bad_slot p.objects (portrait_of_object tree n o) ≡ false
no_bad_slot p tree h n o e short =
    let slots = slots_within o.body in
    let same : slots_in (portrait_of_object tree n o) ≡ slots = entries_again slots in
    let bad : list_any (is_bad_entry p.objects) slots ≡ false =
    good_entries p.objects slots
    (λ k some. named_at p tree h k (place tree k) refl
    (omega (arith, some, among tree n k o e)))
    (names_of_body o.body short) in
    rw same (or_from (list_any (is_bad_entry p.objects) slots) (has_twins slots) bad
    (twins_of_body o.body short))

pub links_of_directory : (tree : Tree) (n : ℕ) (b : Body)
    → links_of tree n b
    ≡ (if is_directory_body b then 2 + count_by (is_subdirectory tree) (slots_within b)
    else entries_of tree n)
unfolding links_of
links_of_directory tree n (body.Regular bytes) = refl
links_of_directory tree n (body.Directory slots) = refl
links_of_directory tree n (body.Link text) = refl

pub links_same : (p : Picture) (tree : Tree) → IsShown p tree → (n : ℕ) (o : Object)
    → links_of tree n o.body ≡ links_by p.objects (portrait_of_object tree n o)
links_same p tree h n o =
    let x = portrait_of_object tree n o in
    let slots : slots_in x ≡ slots_within o.body = entries_again (slots_within o.body) in
    let subs : count_by (is_subdirectory tree) (slots_within o.body)
    ≡ count_by (names_directory p.objects) (slots_in x) =
    sym (ap (count_by (names_directory p.objects)) slots
    ∙ count_same (names_directory p.objects) (is_subdirectory tree) (slots_within o.body)
    (λ s. names_directory_is p.objects tree s (directory_is p tree h))) in
    links_of_directory tree n o.body
    ∙ ap (λ (b : Bool). if b then 2 + count_by (is_subdirectory tree) (slots_within o.body)
    else entries_of tree n) (sym (kind_alike o.body))
    ∙ ap (λ (c : ℕ). if is_directory x then 2 + c else entries_of tree n) subs
    ∙ ap (λ (c : ℕ). if is_directory x then 2 + count_by (names_directory p.objects) (slots_in x)
    else c) (sym (names_same p tree h n))

-- how often an object is named
pub some_entry : (b : Body) (n count : ℕ) → (n ≡ 1 → ⊥) → HasEntries n b count → 1 ≤ count
some_entry (body.Regular bytes) n count ne h = h
some_entry (body.Directory slots) n count ne h =
    let t : (n == 1) ≡ false = ne_eqb n 1 ne in
    let one : count ≡ 1 = rw t at h in omega (arith, one)
some_entry (body.Link text) n count ne h = h

pub few_entries : (b : Body) (n count : ℕ) → is_directory_body b ≡ true → HasEntries n b count
    → count ≤ 1
few_entries (body.Regular bytes) n count d h = absurd cc
few_entries (body.Directory slots) n count d h =
    cond_both (n == 1) 0 1 (λ (k : ℕ). count ≡ k → count ≤ 1)
    (λ t is. omega (arith, is)) (λ t is. omega (arith, is)) h
few_entries (body.Link text) n count d h = absurd cc

pub no_wrong_links : (p : Picture) (tree : Tree) → IsShown p tree → (n : ℕ) (o : Object)
    → place tree n ≡ Some o → has_wrong_links p.objects (portrait_of_object tree n o) ≡ false
no_wrong_links p tree h n o e =
    let x = portrait_of_object tree n o in
    let count = names_of p.objects n in
    let named : HasEntries n o.body count =
    subst (HasEntries n o.body) (sym (names_same p tree h n))
    (subst (λ (y : Option Object). IsNamed n y (entries_of tree n)) e (h.sound.entries n)) in
    let same : (links_of tree n o.body == links_by p.objects x) ≡ true =
    eq-eqb (links_of tree n o.body) (links_by p.objects x) (links_same p tree h n o) in
    or_from (not (links_of tree n o.body == links_by p.objects x)) _
    (not_from_true (links_of tree n o.body == links_by p.objects x) same)
    (or_from (not (n == 1) && (count == 0)) (is_directory x && nat_lt 1 count)
    (elim (cases_eq n 1) [
      | inl one ↦ and_left (not (n == 1)) (count == 0)
          (not_from_true (n == 1) (eq-eqb n 1 one))
      | inr ne ↦ and_right (not (n == 1)) (count == 0)
          (ne_eqb count 0 (λ z. omega (arith, z, some_entry o.body n count ne named)))
    ])
    (elim (cases_Bool (is_directory x)) [
      | inl d ↦ and_right (is_directory x) (nat_lt 1 count)
          (le-ltb 1 count (few_entries o.body n count (sym (kind_alike o.body) ∙ d) named))
      | inr d ↦ and_left (is_directory x) (nat_lt 1 count) d
    ]))

pub body_directory : (tree : Tree) (n : ℕ) (o : Object) (b : Bool) → place tree n ≡ Some o
    → is_directory (portrait_of_object tree n o) ≡ b → is_directory_at (place tree n) ≡ b
body_directory tree n o b e d = ap is_directory_at e ∙ sym (kind_alike o.body) ∙ d

pub no_parent : (tree : Tree) (n : ℕ) → is_directory_at (place tree n) ≡ false → parent_of tree n ≡ 0
unfolding parent_of
no_parent tree n d = rw d refl

pub no_wrong_parent : (p : Picture) (tree : Tree) → IsShown p tree → (n : ℕ) (o : Object)
    → place tree n ≡ Some o → has_wrong_parent p.objects (portrait_of_object tree n o) ≡ false
no_wrong_parent p tree h n o e =
    let x = portrait_of_object tree n o in
    elim (cases_Bool (is_directory x)) [
      | inr d ↦
          let zero : parent_of tree n ≡ 0 = no_parent tree n (body_directory tree n o false e d) in
          rw d (not_from_true (parent_of tree n == 0) (eq-eqb (parent_of tree n) 0 zero))
      | inl d ↦
          let dir : IsDirectory tree n = body_directory tree n o true e d in
          elim (cases_eq n 1) [
            | inl one ↦
                let at : (n == 1) ≡ true = eq-eqb n 1 one in
                let root : parent_of tree n ≡ 1 =
                ap (parent_of tree) one ∙ parent_of_root tree h.sound.root in
                rw (d, at) (not_from_true (parent_of tree n == 1)
                (eq-eqb (parent_of tree n) 1 root))
            | inr ne ↦
                let apart : (n == 1) ≡ false = ne_eqb n 1 ne in
                let held = parent_holds tree n h.sound.entries dir ne in
                let same = shown_alike (portrait_at p.objects (parent_of tree n))
                (place tree (parent_of tree n)) n (alike p tree h (parent_of tree n)) in
                rw (d, apart) (ne_eqb (names_shown n (portrait_at p.objects (parent_of tree n))) 0
                (λ z. omega (arith, z, same, held)))
          ]
    ]
