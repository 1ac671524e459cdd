-- What objects without a flaw say of their names and attributes, as those of a tree.
use Rattle.std.proofs.Common.{◌≡◌, ℕ, ◌+◌, ◌≤◌, ◌==◌, ◌&&◌, ◌⊎◌, not, Bool}
use Rattle.std.proofs.Common.{true, false, List, [], ◌∷◌, ◌++◌, length, map, count_by, Option, Some}
use Rattle.std.proofs.Common.{None, refl, sym, ap, subst, ◌∙◌, arith, inl, inr}
use Rattle.std.specs.List.{AllByRecursion, flat_map, list_any, range_with_len}
use Rattle.std.specs.Option.{option_map}
use Rattle.std.specs.Prelude.{nat_lt, if◌then◌else◌}
use Rattle.std.proofs.lemmas.Bool.{and_cases, both_ways, cases_Bool, cases_eq, cases_lt, eq-eqb}
use Rattle.std.proofs.lemmas.Bool.{eqb-true, eqb-false, ltb-false, ne_eqb, not-false}
use Rattle.std.proofs.lemmas.Bool.{or_parts}
use Rattle.std.proofs.lemmas.List.{get_or_past, length-map}
use Rattle.std.proofs.lemmas.List.FromFn.{get_or-map-range_with_len, length-map-range_with_len}
use Rattle.std.proofs.lemmas.List.Sums.{sum_by-cons}
use Rattle.harp_types.specs.declared.attr.Kind.{Kind}
use Rattle.harp_types.specs.declared.attr.Kind.TheVariants as kind
use Rattle.file_tree.specs.declared.object.Object.{Object}
use Rattle.file_tree.specs.declared.object.Slot.{Slot}
use Rattle.file_tree.specs.Sound.{HasEntries, IsNamed}
use Rattle.file_tree.specs.Tree.{Tree, Slots, is_directory_at, is_subdirectory, links_of}
use Rattle.file_tree.specs.Tree.{names_at, names_of as entries_of, parent_of, place}
use Rattle.file_tree.specs.Tries.{is_some}
use Rattle.file_tree.proofs.Holders.{AreNamed, Holds, IsDirectory}
use Rattle.file_tree.proofs.Holders.{parent_is, parent_of_root}
use Rattle.audit.specs.declared.flaw.Flaw.{Flaw}
use Rattle.audit.specs.declared.flaw.Flaw.TheVariants as flaw
use Rattle.audit.specs.declared.picture.Picture.{Picture}
use Rattle.audit.specs.declared.picture.Portrait.{Portrait}
use Rattle.audit.specs.Pictures.{IsShaped, attributes, is_directory_kind}
use Rattle.audit.specs.Flaws.{entry_in, finding_at, finding_of}
use Rattle.audit.specs.Flaws.{finding_where, findings, first_flaw, has_bad_slot, has_no_root}
use Rattle.audit.specs.Flaws.{has_twins, is_odd_kind, has_odd_form, has_wrong_links}
use Rattle.audit.specs.Flaws.{has_wrong_parent, has_wrong_space, is_bad_entry, is_directory}
use Rattle.audit.specs.Flaws.{is_directory_shown, is_lost, links_by, names_by, names_directory}
use Rattle.audit.specs.Flaws.{names_of, names_shown, portrait_at, slots_in}
use Rattle.audit.proofs.Alike.{AreAlike, AreAlikeAt, directories_alike, names_are}
use Rattle.audit.proofs.Alike.{shown_alike}
use Rattle.audit.proofs.Bodies.{Fits, body_by, body_fits, content_length}
use Rattle.audit.proofs.Bodies.{inode_in}
use Rattle.audit.proofs.Lookups.{found_each, found_number, found_shape, none_past}
use Rattle.audit.proofs.Names.{counted, unnamed, weight}

-- ---- no flaw

-- an object without a flaw
pub record IsFlawless (objects : List Portrait) (x : Portrait) : Type 0 where
  pub form : has_odd_form x ≡ false
  pub slot : has_bad_slot objects x ≡ false
  pub links : has_wrong_links objects x ≡ false
  pub parent : has_wrong_parent objects x ≡ false
  pub lost : is_lost objects x ≡ false

pub some_flaw : (b : Bool) (f : Flaw) (rest : Option Flaw) → (if b then Some f else rest) ≡ None
    → (b ≡ false) × (rest ≡ None)
some_flaw true f rest h = absurd cc
some_flaw false f rest h = (refl, h)

pub flawless : (objects : List Portrait) (x : Portrait) → first_flaw objects x ≡ None
    → IsFlawless objects x
flawless objects x h =
    let a = some_flaw (has_odd_form x) _ _ h in
    let b = some_flaw (has_bad_slot objects x) _ _ a.1 in
    let c = some_flaw (has_wrong_links objects x) _ _ b.1 in
    let d = some_flaw (has_wrong_parent objects x) _ _ c.1 in
    let e = some_flaw (is_lost objects x) _ _ d.1 in
    record { form = a.0; slot = b.0; links = c.0; parent = d.0; lost = e.0 }

pub no_flaw : (objects : List Portrait) (x : Portrait) → IsFlawless objects x
    → first_flaw objects x ≡ None
no_flaw objects x h = rw (h.form, h.slot, h.links, h.parent, h.lost) refl

pub nothing_of : (n : ℕ) (f : Option Flaw) → finding_of n f ≡ [] → f ≡ None
nothing_of n None h = refl
nothing_of n (Some f) h = absurd cc

pub none_where : (b : Bool) (f : Flaw) → finding_where b f ≡ [] → b ≡ false
none_where true f h = absurd cc
none_where false f h = refl

pub both_empty : {X : Type 0} (xs ys : List X) → xs ++ ys ≡ [] → (xs ≡ []) × (ys ≡ [])
both_empty [] ys h = (refl, h)
both_empty (x ∷ xs) ys h = absurd cc

pub each_empty : (objects xs : List Portrait) → flat_map (finding_at objects) xs ≡ []
    → AllByRecursion (IsFlawless objects) xs
each_empty objects [] h = tt
each_empty objects (x ∷ xs) h =
    let parts = both_empty (finding_at objects x) (flat_map (finding_at objects) xs) h in (
      flawless objects x (nothing_of x.number (first_flaw objects x) parts.0),
      each_empty objects xs parts.1,
    )

-- a picture in which nothing is found
pub record IsClean (p : Picture) : Type 0 where
  pub root : has_no_root p.objects ≡ false
  pub space : has_wrong_space p ≡ false
  pub objects : AllByRecursion (IsFlawless p.objects) p.objects

pub clean : (p : Picture) → findings p ≡ [] → IsClean p
clean p h =
    let first = both_empty
    (finding_where (has_no_root p.objects) flaw.Root
    ++ finding_where (has_wrong_space p) flaw.Space)
    (flat_map (finding_at p.objects) p.objects) h in
    let second = both_empty (finding_where (has_no_root p.objects) flaw.Root)
    (finding_where (has_wrong_space p) flaw.Space) first.0 in
    record {
      root = none_where (has_no_root p.objects) flaw.Root second.0;
      space = none_where (has_wrong_space p) flaw.Space second.1;
      objects = each_empty p.objects p.objects first.1;
    }

pub all_empty : (objects xs : List Portrait) → AllByRecursion (IsFlawless objects) xs
    → flat_map (finding_at objects) xs ≡ []
all_empty objects [] h = refl
all_empty objects (x ∷ xs) h =
    rw (no_flaw objects x h.0) (all_empty objects xs h.1)

pub nothing_found : (p : Picture) → IsClean p → findings p ≡ []
nothing_found p h = rw (h.root, h.space) (all_empty p.objects p.objects h.objects)

-- ---- the tree

abbrev pub object_by : List ℕ → Portrait → Object
object_by bytes x =
    record {
      mode = (inode_in x.object).mode;
      uid = (inode_in x.object).uid;
      gid = (inode_in x.object).gid;
      atime = (inode_in x.object).atime;
      mtime = (inode_in x.object).mtime;
      ctime = (inode_in x.object).ctime;
      body = body_by (attributes x.object).kind bytes (slots_in x);
    }

abbrev pub placed_by : (ℕ → List ℕ) → List Portrait → ℕ → Option Object
placed_by content objects n = option_map (object_by (content n)) (portrait_at objects n)

unfoldable pub tree_of : (ℕ → List ℕ) → Picture → Tree
tree_of content p = map (placed_by content p.objects) (range_with_len 0 p.next)

-- a clean picture, and content for its objects
pub record IsWhole (content : ℕ → List ℕ) (p : Picture) : Type 0 where
  pub shape : IsShaped p
  pub clean : IsClean p
  pub filled : (n : ℕ) (x : Portrait) → portrait_at p.objects n ≡ Some x
      → length (content n)
      ≡ content_length (attributes x.object).kind (attributes x.object) x.text

pub long_as : (content : ℕ → List ℕ) (p : Picture) → p.next ≡ length (tree_of content p)
unfolding tree_of
long_as content p = sym (length-map-range_with_len (placed_by content p.objects) 0 p.next)

pub placed : (content : ℕ → List ℕ) (p : Picture) (n : ℕ) → IsShaped p
    → place (tree_of content p) n ≡ placed_by content p.objects n
unfolding tree_of
placed content p n shape = elim (cases_lt n p.next) [
  | inl lt ↦
      get_or-map-range_with_len (placed_by content p.objects) 0 p.next n n None lt (omega arith)
  | inr le ↦
      get_or_past (map (placed_by content p.objects) (range_with_len 0 p.next)) n None
      (omega (arith, le, length-map-range_with_len (placed_by content p.objects) 0 p.next))
      ∙ sym (ap (option_map (object_by (content n)))
      (none_past 1 p.next p.objects n shape.objects le))
]

pub flawless_at : (content : ℕ → List ℕ) (p : Picture) → IsWhole content p → (n : ℕ) (x : Portrait)
    → portrait_at p.objects n ≡ Some x → IsFlawless p.objects x
flawless_at content p w n x e =
    found_each (IsFlawless p.objects) p.objects n x w.clean.objects e

pub even_at : (x : Portrait) → has_odd_form x ≡ false
    → (nat_lt 4095 (attributes x.object).mode ≡ false)
    × (is_odd_kind (attributes x.object).kind (attributes x.object) x.text
    ≡ false)
even_at x h = or_parts (nat_lt 4095 (attributes x.object).mode) _ h

pub fits_at : (content : ℕ → List ℕ) (p : Picture) → IsWhole content p → (n : ℕ) (x : Portrait)
    → portrait_at p.objects n ≡ Some x
    → Fits (attributes x.object).kind (attributes x.object) x.text (content n) (slots_in x)
fits_at content p w n x e =
    let shape = found_shape 1 p.next p.objects n x w.shape.objects e in
    body_fits (attributes x.object).kind (attributes x.object) x.text (content n) (slots_in x)
    (even_at x (flawless_at content p w n x e).form).1 (w.filled n x e)
    (length-map x.slots entry_in ∙ shape.count)

pub alike_found : (content : ℕ → List ℕ) (p : Picture) → IsWhole content p → (n : ℕ)
    (found : Option Portrait) → portrait_at p.objects n ≡ found
    → AreAlikeAt found (option_map (object_by (content n)) found)
alike_found content p w n None e = tt
alike_found content p w n (Some x) e =
    let f = fits_at content p w n x e in
    record { kind = f.directory; slots = f.slots_are; size = f.size }

pub alike : (content : ℕ → List ℕ) (p : Picture) → IsWhole content p
    → AreAlike p.objects (tree_of content p)
alike content p w n =
    subst (AreAlikeAt (portrait_at p.objects n)) (sym (placed content p n w.shape))
    (alike_found content p w n (portrait_at p.objects n) refl)

pub names_same : (content : ℕ → List ℕ) (p : Picture) → IsWhole content p → (n : ℕ)
    → names_of p.objects n ≡ entries_of (tree_of content p) n
names_same content p w n =
    names_are p.next p.objects (tree_of content p) n w.shape.objects (long_as content p)
    (alike content p w)

-- ---- how often each object is named

pub bad_slots : (objects : List Portrait) (x : Portrait) → IsFlawless objects x
    → (list_any (is_bad_entry objects) (slots_in x) ≡ false)
    × (has_twins (slots_in x) ≡ false)
bad_slots objects x h = or_parts (list_any (is_bad_entry objects) (slots_in x)) _ h.slot

pub names_none : (objects : List Portrait) (n : ℕ) (x : Portrait) → IsFlawless objects x
    → (n ≡ 1) ⊎ (is_some (portrait_at objects n) ≡ false) → names_by n x ≡ 0
names_none objects n x h odd = elim (cases_Bool (is_directory x)) [
  | inl d ↦ rw d (unnamed objects n (slots_in x) (bad_slots objects x h).0 odd)
  | inr d ↦ rw d refl
]

pub unnamed_in : (objects xs : List Portrait) (n : ℕ) → AllByRecursion (IsFlawless objects) xs
    → (n ≡ 1) ⊎ (is_some (portrait_at objects n) ≡ false) → names_of xs n ≡ 0
unfolding names_of
unnamed_in objects [] n all odd = refl
unnamed_in objects (x ∷ xs) n all odd =
    omega (
      arith,
      names_none objects n x all.0 odd,
      unnamed_in objects xs n all.1 odd,
      sum_by-cons (names_by n) x xs,
    )

pub root_there : (p : Picture) → IsClean p → is_directory_shown (portrait_at p.objects 1) ≡ true
root_there p h = not-false (is_directory_shown (portrait_at p.objects 1)) h.root

-- what the links of an object without a flaw say
pub links_told : (objects : List Portrait) (x : Portrait) → has_wrong_links objects x ≡ false
    → ((attributes x.object).links ≡ links_by objects x)
    × ((x.number ≡ 1 → ⊥) → 1 ≤ names_of objects x.number)
    × (is_directory x ≡ true → names_of objects x.number ≤ 1)
links_told objects x h =
    let a = or_parts (not ((attributes x.object).links == links_by objects x)) _ h in
    let b = or_parts (not (x.number == 1) && (names_of objects x.number == 0)) _ a.1 in (
      eqb-true (attributes x.object).links (links_by objects x)
          (not-false ((attributes x.object).links == links_by objects x) a.0),
      (λ ne. elim (and_cases (not (x.number == 1)) (names_of objects x.number == 0) b.0) [
        | inl same ↦ absurd (ne (eqb-true x.number 1 (not-false (x.number == 1) same)))
        | inr some ↦
            let apart = eqb-false (names_of objects x.number) 0 some in
            elim (cases_lt 0 (names_of objects x.number)) [
              | inl lt ↦ omega (arith, lt)
              | inr le ↦ absurd (apart (omega (arith, le)))
            ]
      ]),
      (λ d. elim (and_cases (is_directory x) (nat_lt 1 (names_of objects x.number)) b.1) [
        | inl f ↦ absurd (both_ways (is_directory x) f d)
        | inr few ↦ ltb-false 1 (names_of objects x.number) few
      ]),
    )

pub has_entries : (k : Option Kind) (bytes : List ℕ)
    (slots : Slots) (n count : ℕ)
    → (is_directory_kind k ≡ true → count ≡ (if n == 1 then 0 else 1))
    → (is_directory_kind k ≡ false → 1 ≤ count) → HasEntries n (body_by k bytes slots) count
has_entries None bytes slots n count one some = some refl
has_entries (Some kind.Regular) bytes slots n count one some = some refl
has_entries (Some kind.Directory) bytes slots n count one some = one refl
has_entries (Some kind.Link) bytes slots n count one some = some refl

pub named_found : (content : ℕ → List ℕ) (p : Picture) → IsWhole content p → (n : ℕ)
    (found : Option Portrait) → portrait_at p.objects n ≡ found
    → IsNamed n (option_map (object_by (content n)) found) (names_of p.objects n)
named_found content p w n None e =
    unnamed_in p.objects p.objects n w.clean.objects (inr (ap is_some e))
named_found content p w n (Some x) e =
    let number : x.number ≡ n = found_number p.objects n x e in
    let told = links_told p.objects x (flawless_at content p w n x e).links in
    let some : (n ≡ 1 → ⊥) → 1 ≤ names_of p.objects n =
    λ ne. subst (λ (k : ℕ). 1 ≤ names_of p.objects k) number (told.1 (λ at. ne (sym number ∙ at))) in
    let few : is_directory x ≡ true → names_of p.objects n ≤ 1 =
    λ d. subst (λ (k : ℕ). names_of p.objects k ≤ 1) number (told.2 d) in
    has_entries (attributes x.object).kind (content n) (slots_in x) n (names_of p.objects n)
    (λ d. elim (cases_eq n 1) [
      | inl one ↦
          let t : (n == 1) ≡ true = eq-eqb n 1 one in
          rw t (unnamed_in p.objects p.objects n w.clean.objects (inl one))
      | inr ne ↦
          let t : (n == 1) ≡ false = ne_eqb n 1 ne in
          rw t (omega (arith, some ne, few d))
    ])
    (λ d. some (λ one.
    let root = root_there p w.clean in
    let here : is_directory_shown (portrait_at p.objects n) ≡ true = rw one root in
    both_ways (is_directory x) d (ap is_directory_shown (sym e) ∙ here)))

pub are_named : (content : ℕ → List ℕ) (p : Picture) → IsWhole content p
    → AreNamed (tree_of content p)
are_named content p w n =
    subst (λ (count : ℕ). IsNamed n (place (tree_of content p) n) count) (names_same content p w n)
    (subst (λ (o : Option Object). IsNamed n o (names_of p.objects n))
    (sym (placed content p n w.shape)) (named_found content p w n (portrait_at p.objects n) refl))

-- ---- attributes

pub directory_is : (content : ℕ → List ℕ) (p : Picture) → IsWhole content p → (n : ℕ)
    → is_directory_shown (portrait_at p.objects n) ≡ is_directory_at (place (tree_of content p) n)
directory_is content p w n =
    directories_alike (portrait_at p.objects n) (place (tree_of content p) n) (alike content p w n)

pub count_same : {X : Type 0} (f g : X → Bool) (xs : List X) → ((x : X) → f x ≡ g x)
    → count_by f xs ≡ count_by g xs
count_same f g [] same = refl
count_same f g (x ∷ xs) same =
    let here : weight (f x) ≡ weight (g x) = ap weight (same x) in
    omega (arith, here, count_same f g xs same, counted f x xs, counted g x xs)

pub names_directory_is : (objects : List Portrait) (tree : Tree) (s : Option Slot)
    → ((n : ℕ) → is_directory_shown (portrait_at objects n) ≡ is_directory_at (place tree n))
    → names_directory objects s ≡ is_subdirectory tree s
names_directory_is objects tree None same = refl
names_directory_is objects tree (Some s) same = same s.number

pub links_of_body : (tree : Tree) (n : ℕ) (k : Option Kind) (bytes : List ℕ) (slots : Slots)
    → links_of tree n (body_by k bytes slots)
    ≡ (if is_directory_kind k then 2 + count_by (is_subdirectory tree) slots
    else entries_of tree n)
unfolding links_of
links_of_body tree n None bytes slots = refl
links_of_body tree n (Some kind.Regular) bytes slots = refl
links_of_body tree n (Some kind.Directory) bytes slots = refl
links_of_body tree n (Some kind.Link) bytes slots = refl

pub links_same : (content : ℕ → List ℕ) (p : Picture) → IsWhole content p → (n : ℕ) (x : Portrait)
    → portrait_at p.objects n ≡ Some x
    → links_by p.objects x
    ≡ links_of (tree_of content p) n (body_by (attributes x.object).kind (content n) (slots_in x))
links_same content p w n x e =
    let number : x.number ≡ n = found_number p.objects n x e in
    let subs : count_by (names_directory p.objects) (slots_in x)
    ≡ count_by (is_subdirectory (tree_of content p)) (slots_in x) =
    count_same (names_directory p.objects) (is_subdirectory (tree_of content p)) (slots_in x)
    (λ s. names_directory_is p.objects (tree_of content p) s (directory_is content p w)) in
    let entries : names_of p.objects x.number ≡ entries_of (tree_of content p) n =
    ap (names_of p.objects) number ∙ names_same content p w n in
    ap (λ (c : ℕ). if is_directory x then 2 + c else names_of p.objects x.number) subs
    ∙ ap (λ (c : ℕ). if is_directory x then 2 + count_by (is_subdirectory (tree_of content p))
    (slots_in x) else c) entries
    ∙ sym (links_of_body (tree_of content p) n (attributes x.object).kind (content n) (slots_in x))

pub root_body : (content : ℕ → List ℕ) (p : Picture) → IsWhole content p
    → IsDirectory (tree_of content p) 1
root_body content p w = sym (directory_is content p w 1) ∙ root_there p w.clean

pub no_parent : (tree : Tree) (n : ℕ) → is_directory_at (place tree n) ≡ false → parent_of tree n ≡ 0
unfolding parent_of
no_parent tree n d = rw d refl

-- the stored parent holds a directory other than the root
pub holder_told : (content : ℕ → List ℕ) (p : Picture) → IsWhole content p → (n : ℕ) (x : Portrait)
    → portrait_at p.objects n ≡ Some x → is_directory x ≡ true → (n ≡ 1 → ⊥)
    → Holds (tree_of content p) (attributes x.object).parent n
holder_told content p w n x e d ne =
    let number : x.number ≡ n = found_number p.objects n x e in
    let parent = (attributes x.object).parent in
    let flaw = (flawless_at content p w n x e).parent in
    let apart : (x.number == 1) ≡ false = ne_eqb x.number 1 (λ at. ne (sym number ∙ at)) in
    let held : (names_shown x.number (portrait_at p.objects parent) == 0) ≡ false =
    rw (d, apart) at flaw in
    let same : names_shown x.number (portrait_at p.objects parent)
    ≡ names_at n (place (tree_of content p) parent) =
    ap (λ (k : ℕ). names_shown k (portrait_at p.objects parent)) number
    ∙ shown_alike (portrait_at p.objects parent) (place (tree_of content p) parent) n
    (alike content p w parent) in
    elim (cases_lt 0 (names_at n (place (tree_of content p) parent))) [
      | inl lt ↦ omega (arith, lt)
      | inr le ↦ absurd (eqb-false (names_shown x.number (portrait_at p.objects parent)) 0 held
          (omega (arith, same, le)))
    ]

pub parent_same : (content : ℕ → List ℕ) (p : Picture) → IsWhole content p → (n : ℕ) (x : Portrait)
    → portrait_at p.objects n ≡ Some x
    → (attributes x.object).parent ≡ parent_of (tree_of content p) n
parent_same content p w n x e =
    let number : x.number ≡ n = found_number p.objects n x e in
    let flaw = (flawless_at content p w n x e).parent in
    let shown : is_directory x ≡ is_directory_at (place (tree_of content p) n) =
    ap is_directory_shown (sym e) ∙ directory_is content p w n in
    elim (cases_Bool (is_directory x)) [
      | inr d ↦
          let zero : not ((attributes x.object).parent == 0) ≡ false = rw d at flaw in
          eqb-true (attributes x.object).parent 0
          (not-false ((attributes x.object).parent == 0) zero)
          ∙ sym (no_parent (tree_of content p) n (sym shown ∙ d))
      | inl d ↦ elim (cases_eq n 1) [
        | inl one ↦
            let at : (x.number == 1) ≡ true = eq-eqb x.number 1 (number ∙ one) in
            let root : not ((attributes x.object).parent == 1) ≡ false = rw (d, at) at flaw in
            eqb-true (attributes x.object).parent 1
            (not-false ((attributes x.object).parent == 1) root)
            ∙ sym (parent_of_root (tree_of content p) (root_body content p w))
            ∙ ap (parent_of (tree_of content p)) (sym one)
        | inr ne ↦
            sym (parent_is (tree_of content p) (attributes x.object).parent n
            (are_named content p w) (sym shown ∙ d) ne (holder_told content p w n x e d ne))
      ]
    ]
