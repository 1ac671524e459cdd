-- Ways up, blocks and pictures as the code makes them, step by step.
use Rattle.std.proofs.Common.{◌≡◌, ℕ, zero, suc, ◌+◌, ◌-◌, ◌*◌, ◌<◌, ◌≤◌, ◌^◌, ◌==◌, ◌||◌, ◌++◌}
use Rattle.std.proofs.Common.{Bool, true, false, List, [], ◌∷◌, length, map, get_or, set, take, min, max}
use Rattle.std.proofs.Common.{Option, Some, None, refl, sym, ap, subst, ◌∙◌, arith, inl, inr}
use Rattle.std.proofs.Common.{if◌then◌else◌}
use Rattle.std.specs.List.{flat_map, list_any, range_with_len}
use Rattle.std.specs.Prelude.{nat_lt}
use Rattle.std.proofs.lemmas.Bool.{cases_eq, cases_lt, eq-eqb, eqb-true, ltb-false, ne_eqb}
use Rattle.std.proofs.lemmas.Bool.{both_ways, false_from_ne_true}
use Rattle.std.proofs.lemmas.List.Folds.{flat_map-map, list_any_at, list_any_more}
use Rattle.std.proofs.lemmas.List.{append-nil, flat_map_more, get_or-map, get_or-set_other}
use Rattle.std.proofs.lemmas.List.{get_or-set_same, get_or_default, length-set}
use Rattle.std.proofs.lemmas.List.{length-map, map-append, map-id, take_all, take_more}
use Rattle.std.proofs.lemmas.List.Concat.{flat_map-append}
use Rattle.std.proofs.lemmas.List.FromFn.{map-range_with_len_more}
use Rattle.std.proofs.lemmas.List.Sums.{sum_by_more}
use Rattle.harp_cells.specs.declared.cell.Cell.TheVariants as cell
use Rattle.harp_cells.specs.declared.value.Value.TheVariants as value
use Rattle.harp_cells.specs.declared.cell.Cell.{Cell}
use Rattle.harp_cells.specs.declared.value.Value.{Value}
use Rattle.harp_cells.specs.Effect.{Cells, Reads}
use Rattle.audit.specs.declared.picture.Picture.{Picture}
use Rattle.audit.specs.declared.picture.Portrait.{Portrait}
use Rattle.audit.specs.Entries.{AreByNumber, AreWays, IsPlace, IsWay, entries_by, entry_at}
use Rattle.audit.specs.Flaws.{above, ancestor, blocks_by, blocks_in, entry_in}
use Rattle.audit.specs.Flaws.{is_directory, parent_shown, portrait_at, slots_in}
use Rattle.audit.specs.Pictures.{AreInOrder, IsShaped, picture_of, portraits_at, portraits_below}
use Rattle.audit.specs.Pictures.{slot_read, slots_by, totals_read}
use Rattle.audit.proofs.Gathered.{gathered_order}
use Rattle.audit.proofs.Lookups.{found_number, none_below}
use Rattle.audit.proofs.Searches.{at_place}
use Rattle.audit.proofs.Ways.{enough, further_up, nothing_stays, reaches_far, root_stays}

-- ---- lists made piece by piece

pub flat_more : {X Y : Type 0} (f : X → List Y) (before es new : List Y) (xs : List X) (i : ℕ) (x : X)
    → i < length xs → x ≡ get_or xs i x → es ≡ before ++ flat_map f (take i xs)
    → new ≡ es ++ f x → new ≡ before ++ flat_map f (take (i + 1) xs)
flat_more {X = X} {Y = Y} f before es new xs i x lt read is made =
    made ∙ ap (λ (l : List Y). l ++ f x) is ∙ flat_map_more f before (take i xs) x
    ∙ ap (λ (y : X). before ++ flat_map f (take i xs ++ y ∷ [])) read
    ∙ ap (λ (l : List X). before ++ flat_map f l) (sym (take_more xs i x lt))

pub flat_done : {X Y : Type 0} (f : X → List Y) (before es : List Y) (xs : List X) (i : ℕ)
    → length xs ≤ i → es ≡ before ++ flat_map f (take i xs) → es ≡ before ++ flat_map f xs
flat_done {X = X} {Y = Y} f before es xs i le is =
    is ∙ ap (λ (l : List X). before ++ flat_map f l) (take_all i xs le)

-- ---- entries

pub entries_of_directory : (x : Portrait) (slots : List (Option Value)) (es : List (ℕ × ℕ))
    (before : List (ℕ × ℕ)) → true ≡ is_directory x → slots ≡ x.slots
    → es ≡ before ++ flat_map (λ s. entry_at x.number (entry_in s)) slots
    → es ≡ before ++ entries_by x
entries_of_directory x slots es before dir same is =
    is ∙ ap (λ (l : List (ℕ × ℕ)). before ++ l)
    (ap (flat_map (λ s. entry_at x.number (entry_in s))) same ∙ sym (flat_map-map (entry_at x.number) entry_in x.slots)
    ∙ ap (λ (b : Bool). if b then flat_map (entry_at x.number) (slots_in x) else []) dir)

-- ---- slots

pub none_yet : {X : Type 0} (p : X → Bool) (xs : List X) (i : ℕ) (x : X) → i < length xs
    → x ≡ get_or xs i x → list_any p (take i xs) ≡ false → p x ≡ false
    → list_any p (take (i + 1) xs) ≡ false
none_yet {X = X} p xs i x lt read before isnt =
    list_any_more p xs i x lt ∙ ap (λ (b : Bool). b || p (get_or xs i x)) before
    ∙ ap (λ (y : X). false || p y) (sym read) ∙ isnt

pub one_there : {X : Type 0} (p : X → Bool) (xs : List X) (i : ℕ) (x : X) → i < length xs
    → x ≡ get_or xs i x → p x ≡ true → list_any p xs ≡ true
one_there {X = X} p xs i x lt read is =
    list_any_at p xs i x lt (ap p (sym read) ∙ is)

pub none_there : {X : Type 0} (p : X → Bool) (xs : List X) (i : ℕ) → length xs ≤ i
    → list_any p (take i xs) ≡ false → list_any p xs ≡ false
none_there {X = X} p xs i le none =
    ap (list_any p) (sym (take_all i xs le)) ∙ none

pub any_map : {X Y : Type 0} (p : Y → Bool) (f : X → Y) (xs : List X)
    → list_any p (map f xs) ≡ list_any (λ x. p (f x)) xs
any_map p f [] = refl
any_map p f (x ∷ xs) = ap (λ (b : Bool). p (f x) || b) (any_map p f xs)

-- ---- ways

way_kept : (steps less : ℕ) (objects : List Portrait) (n way : ℕ) → less ≤ steps
    → IsWay steps objects n way → IsWay less objects n way
way_kept steps less objects n way le w = record {
  made = w.made;
  some = w.some;
  enough = omega (arith, w.enough, le);
  is = w.is;
}

ways_kept : (steps less : ℕ) (objects : List Portrait) (ways : List ℕ) → less ≤ steps
    → AreWays steps objects ways → AreWays less objects ways
ways_kept steps less objects ways le w = record {
  long = w.long;
  each = λ i x lt read.
      way_kept steps less objects x.number (get_or ways i 0) le (w.each i x lt read);
}

pub long_enough : (steps : ℕ) (objects : List Portrait) (ways : List ℕ) → length objects ≤ steps
    → AreWays steps objects ways → AreWays (length objects) objects ways
long_enough steps objects ways le w = ways_kept steps (length objects) objects ways le w

same_truth : (a b : Bool) → (a ≡ true → b ≡ true) → (b ≡ true → a ≡ true) → a ≡ b
same_truth true b f g = sym (f refl)
same_truth false true f g = g refl
same_truth false false f g = refl

-- whether a way of enough steps leads to the root
pub way_told : (objects : List Portrait) (n way : ℕ) → AreByNumber objects
    → (w : IsWay (length objects) objects n way)
    → (way == 1) ≡ (ancestor (length objects) objects n == 1)
way_told objects n way order w = same_truth (way == 1)
    (ancestor (length objects) objects n == 1)
    (λ h. eq-eqb (ancestor (length objects) objects n) 1 (enough w.made objects n
    (none_below 1 order.0 objects 0 order.1 (omega arith))
    (sym w.is ∙ eqb-true way 1 h)))
    (λ h. eq-eqb way 1 (w.is ∙ ap (λ (k : ℕ). ancestor k objects n) (far w)
    ∙ reaches_far (length objects) (w.made - length objects) objects n
    (eqb-true (ancestor (length objects) objects n) 1 h)))
  where
    far : (w : IsWay (length objects) objects n way)
        → w.made ≡ length objects + (w.made - length objects)
    far w = omega (arith, w.enough)

pub way_here : (steps : ℕ) (objects : List Portrait) (ways : List ℕ) (i way : ℕ) (x : Portrait)
    → AreWays steps objects ways → i < length objects → way ≡ get_or ways i way
    → x ≡ get_or objects i x → IsWay steps objects x.number way
way_here steps objects ways i way x w lt had read =
    subst (IsWay steps objects x.number)
    (sym (had ∙ get_or_default ways i way 0 (omega (arith, lt, w.long)))) (w.each i x lt read)

pub doubled : (objects : List Portrait) (ways : List ℕ) (steps next : ℕ)
    → next ≡ min (steps * 2) 18446744073709551615 → AreWays (steps + steps) objects ways
    → AreWays next objects ways
doubled objects ways steps next is w =
    ways_kept (steps + steps) next objects ways (omega (arith, is)) w

same_number : (objects : List Portrait) (next steps k : ℕ) → AreInOrder 1 next objects → k ≤ 1
    → ancestor steps objects k ≡ k
same_number objects next steps k h le = elim (cases_eq k 1) [
  | inl one ↦
      subst (λ (m : ℕ). ancestor steps objects m ≡ m) (sym one) (root_stays steps objects)
  | inr ne ↦
      let zero_is : k ≡ 0 = omega (arith, le, ne) in
      subst (λ (m : ℕ). ancestor steps objects m ≡ m) (sym zero_is)
      (nothing_stays steps objects (none_below 1 next objects 0 h (omega arith)))
]

none_at : (p : ℕ → Bool) (xs : List ℕ) (i : ℕ) → i < length xs → list_any p xs ≡ false
    → p (get_or xs i 0) ≡ false
none_at p xs i lt none =
    false_from_ne_true (p (get_or xs i 0))
    (λ t. both_ways (list_any p xs) none (list_any_at p xs i 0 lt t))

-- ways that have all ended are as long as any
pub ended : (objects : List Portrait) (ways : List ℕ) (steps : ℕ) → AreByNumber objects
    → AreWays steps objects ways → list_any (nat_lt 1) ways ≡ false
    → AreWays (length objects) objects ways
ended objects ways steps order w none = record {
  long = w.long;
  each = λ i x lt read.
      let this = w.each i x lt read in
      let low : nat_lt 1 (get_or ways i 0) ≡ false =
      none_at (nat_lt 1) ways i (omega (arith, lt, w.long)) none in record {
        made = this.made + length objects;
        some = omega (arith, this.some);
        enough = omega arith;
        is = sym (further_up this.made (length objects) objects x.number
            ∙ ap (ancestor (length objects) objects) (sym this.is)
            ∙ same_number objects order.0 (length objects) (get_or ways i 0) order.1
            (ltb-false 1 (get_or ways i 0) low));
      };
}

-- some portrait, where a place of a list wants one
pub some_portrait : Portrait
some_portrait = record {
  number = 0;
  object = value.Meta 0 0 0;
  slots = [];
  text = 0;
}

-- the root and nothing stay
pub twice_low : (objects : List Portrait) (next steps n way : ℕ) → AreInOrder 1 next objects
    → IsWay steps objects n way → way ≤ 1 → IsWay (steps + steps) objects n way
twice_low objects next steps n way h w le = record {
  made = w.made + w.made;
  some = omega (arith, w.some);
  enough = omega (arith, w.enough);
  is = sym (further_up w.made w.made objects n ∙ ap (ancestor w.made objects) (sym w.is)
      ∙ same_number objects next w.made way h le);
}

pub twice_found : (objects : List Portrait) (ways : List ℕ) (steps n way place : ℕ)
    → AreWays steps objects ways → IsWay steps objects n way → IsPlace objects way (Some place)
    → IsWay (steps + steps) objects n (get_or ways place 0)
twice_found objects ways steps n way place are w there =
    let d = get_or objects place some_portrait in
    let number : d.number ≡ way = found_number objects way d (there.1 some_portrait) in
    let next : IsWay steps objects d.number (get_or ways place 0) =
    are.each place d there.0 (get_or_default objects place some_portrait d there.0) in record {
      made = w.made + next.made;
      some = omega (arith, w.some);
      enough = omega (arith, w.enough, next.enough);
      is = next.is ∙ ap (ancestor next.made objects) (number ∙ w.is)
          ∙ sym (further_up w.made next.made objects n);
    }

above_none : (objects : List Portrait) (n : ℕ) → (n ≡ 1 → ⊥) → portrait_at objects n ≡ None
    → above objects n ≡ 0
above_none objects n ne e =
    let t : (n == 1) ≡ false = ne_eqb n 1 ne in rw t (ap parent_shown e)

from_nowhere : (objects : List Portrait) (next steps n : ℕ) → AreInOrder 1 next objects → 1 ≤ steps
    → (n ≡ 1 → ⊥) → portrait_at objects n ≡ None → ancestor steps objects n ≡ 0
unfolding ancestor
from_nowhere objects next zero n h le ne e = absurd (omega (arith, le))
from_nowhere objects next (suc steps) n h le ne e =
    ap (ancestor steps objects) (above_none objects n ne e)
    ∙ nothing_stays steps objects (none_below 1 next objects 0 h (omega arith))

pub twice_none : (objects : List Portrait) (next steps n way : ℕ) → AreInOrder 1 next objects
    → IsWay steps objects n way → 1 < way → IsPlace objects way None
    → IsWay (steps + steps) objects n 0
twice_none objects next steps n way h w high none = record {
  made = w.made + w.made;
  some = omega (arith, w.some);
  enough = omega (arith, w.enough);
  is = sym (further_up w.made w.made objects n ∙ ap (ancestor w.made objects) (sym w.is)
      ∙ from_nowhere objects next w.made way h w.some (λ one. omega (arith, one, high)) none);
}

-- ways of which the first ones are doubled
pub record AreDoubledTo (steps : ℕ) (objects : List Portrait) (at : ℕ) (ways : List ℕ)
    : Type 0 where
  pub all : AreWays steps objects ways
  pub done : (i : ℕ) (x : Portrait) → i < at → i < length objects → x ≡ get_or objects i x
      → IsWay (steps + steps) objects x.number (get_or ways i 0)

pub double_first : (steps : ℕ) (objects : List Portrait) (ways : List ℕ)
    → AreWays steps objects ways → AreDoubledTo steps objects 0 ways
double_first steps objects ways w = record {
  all = w;
  done = λ i x below lt read. absurd (omega (arith, below));
}

pub double_next : (steps : ℕ) (objects : List Portrait) (at further : ℕ) (old new : List ℕ)
    → at < length objects → AreDoubledTo steps objects at old
    → ((n : ℕ) → IsWay steps objects n (get_or old at 0) → IsWay (steps + steps) objects n further)
    → new ≡ set old at further → AreDoubledTo steps objects (at + 1) new
double_next steps objects at further old new within was told are = record {
  all = record {
    long = ap length are ∙ length-set old at further ∙ was.all.long;
    each = λ i x lt read. elim (cases_eq i at) [
      | inl e ↦ way_kept (steps + steps) steps objects x.number (get_or new i 0) (omega arith)
          (here i x e lt read)
      | inr ne ↦ subst (IsWay steps objects x.number) (sym (there i ne)) (was.all.each i x lt read)
    ];
  };
  done = λ i x below lt read. elim (cases_eq i at) [
    | inl e ↦ here i x e lt read
    | inr ne ↦ subst (IsWay (steps + steps) objects x.number) (sym (there i ne))
        (was.done i x (omega (arith, below, ne)) lt read)
  ];
}
  where
    here : (i : ℕ) (x : Portrait) → i ≡ at → i < length objects → x ≡ get_or objects i x
        → IsWay (steps + steps) objects x.number (get_or new i 0)
    here i x e lt read =
        let is : get_or new i 0 ≡ further =
        ap (λ (l : List ℕ). get_or l i 0) are
        ∙ ap (λ (k : ℕ). get_or (set old at further) k 0) e
        ∙ get_or-set_same old at further 0 (omega (arith, within, was.all.long)) in
        subst (IsWay (steps + steps) objects x.number) (sym is)
        (told x.number (subst (λ (k : ℕ). IsWay steps objects x.number (get_or old k 0)) e
        (was.all.each i x lt read)))

    there : (i : ℕ) → (i ≡ at → ⊥) → get_or new i 0 ≡ get_or old i 0
    there i ne =
        ap (λ (l : List ℕ). get_or l i 0) are ∙ get_or-set_other old at i further 0 ne

pub double_done : (steps : ℕ) (objects : List Portrait) (at : ℕ) (ways : List ℕ)
    → length objects ≤ at → AreDoubledTo steps objects at ways
    → AreWays (steps + steps) objects ways
double_done steps objects at ways le was = record {
  long = was.all.long;
  each = λ i x lt read. was.done i x (omega (arith, lt, le)) lt read;
}

pub one_step : (objects : List Portrait) (n : ℕ) → ancestor 1 objects n ≡ above objects n
unfolding ancestor
one_step objects n = refl

-- the first steps up
pub ways_more : (objects : List Portrait) (next i up : ℕ) (ways new : List ℕ) (x : Portrait)
    → AreInOrder 1 next objects → i < length objects → x ≡ get_or objects i x
    → ((xs : List Portrait) → portrait_at xs x.number ≡ Some x → up ≡ above xs x.number)
    → ways ≡ map (λ y. ancestor 1 objects y.number) (take i objects) → new ≡ ways ++ up ∷ []
    → new ≡ map (λ y. ancestor 1 objects y.number) (take (i + 1) objects)
ways_more objects next i up ways new x order lt read told is made =
    let f = λ (y : Portrait). ancestor 1 objects y.number in
    let there : portrait_at objects x.number ≡ Some x =
    subst (λ (y : Portrait). portrait_at objects y.number ≡ Some y) (sym read)
    (at_place 1 next objects i x order lt).1 in
    let this : up ≡ f x = told objects there ∙ sym (one_step objects x.number) in
    made ∙ ap (λ (w : List ℕ). w ++ up ∷ []) is
    ∙ ap (λ (u : ℕ). map f (take i objects) ++ u ∷ []) (this ∙ ap f read)
    ∙ sym (map-append f (take i objects) (get_or objects i x ∷ []))
    ∙ ap (map f) (sym (take_more objects i x lt))

pub first_are : (objects : List Portrait) (i : ℕ) (ways : List ℕ) → length objects ≤ i
    → ways ≡ map (λ y. ancestor 1 objects y.number) (take i objects) → AreWays 1 objects ways
first_are objects i ways le is =
    let f = λ (y : Portrait). ancestor 1 objects y.number in
    let all : ways ≡ map f objects = is ∙ ap (map f) (take_all i objects le) in record {
      long = ap length all ∙ length-map objects f;
      each = λ k x lt read. record {
        made = 1;
        some = omega arith;
        enough = omega arith;
        is = ap (λ (l : List ℕ). get_or l k 0) all ∙ get_or-map f objects k x 0 lt
            ∙ ap f (sym read);
      };
    }

-- ---- blocks

pub blocks_more : (xs : List Portrait) (i blocks more new : ℕ) (x : Portrait) → i < length xs
    → x ≡ get_or xs i x → blocks ≡ min (blocks_in (take i xs)) 65537
    → more ≡ blocks_by x → new ≡ min (blocks + more) 65537
    → new ≡ min (blocks_in (take (i + 1) xs)) 65537
unfolding blocks_in
blocks_more xs i blocks more new x lt read is this made =
    let own : blocks_by (get_or xs i x) ≡ blocks_by x = ap blocks_by (sym read) in
    omega (arith, is, this, made, own, sum_by_more blocks_by xs i x lt)

-- ---- reading

-- what was fetched, where the cells tell it
pub fetched : (told : Option Cells) (held : Cells) (c : Cell) (v : Option Value)
    → told ≡ Some held → Reads told c v → v ≡ held c
fetched told held c v is read = subst (λ (o : Option Cells). Reads o c v) is read

pub slots_more : (cells : Cells) (number n : ℕ) → slots_by cells number (n + 1)
    ≡ slots_by cells number n ++ slot_read (cells (cell.Slot number n)) ∷ []
slots_more cells number n =
    map-range_with_len_more (λ i. slot_read (cells (cell.Slot number i))) 0 n n (omega arith)

range_more : (n : ℕ) → 1 ≤ n → range_with_len 1 (n + 1 - 1) ≡ range_with_len 1 (n - 1) ++ n ∷ []
range_more n le =
    let same : n + 1 - 1 ≡ (n - 1) + 1 = omega (arith, le) in
    ap (range_with_len 1) same
    ∙ sym (map-id (range_with_len 1 ((n - 1) + 1)))
    ∙ map-range_with_len_more (λ (i : ℕ). i) 1 (n - 1) n (omega (arith, le))
    ∙ ap (λ (xs : List ℕ). xs ++ n ∷ [])
    (map-id (range_with_len 1 (n - 1)))

pub portraits_more : (cells : Cells) (n : ℕ) → 1 ≤ n
    → portraits_below cells (n + 1) ≡ portraits_below cells n ++ portraits_at cells n
portraits_more cells n le =
    ap (flat_map (portraits_at cells)) (range_more n le)
    ∙ flat_map-append (portraits_at cells) (range_with_len 1 (n - 1)) (n ∷ [])
    ∙ ap (λ (xs : List Portrait). portraits_below cells n ++ xs) (append-nil (portraits_at cells n))

pub whole_below : (cells : Cells) (number next : ℕ) → max next 1 ≤ number → number ≤ max next 1
    → portraits_below cells number ≡ portraits_below cells next
whole_below cells number next past end =
    let same : number - 1 ≡ next - 1 = elim (cases_lt next 1) [
      | inl none ↦ omega (arith, none, past, end)
      | inr some ↦ omega (arith, past, end, some)
    ] in
    ap (λ (k : ℕ). flat_map (portraits_at cells) (range_with_len 1 k)) same

-- what was gathered, and its shape
pub gathered_picture : (cells : Cells) (next used : ℕ) (objects : List Portrait)
    → (next, used) ≡ totals_read (cells cell.Meta) → objects ≡ portraits_below cells next
    → record { next = next; used = used; objects = objects } ≡ picture_of cells
gathered_picture cells next used objects totals are =
    ap (λ (v : List Portrait).
    let p : Picture = record { next = next; used = used; objects = v } in p) are
    ∙ ap (λ (t : ℕ × ℕ).
    let p : Picture = record { next = t.0; used = t.1; objects = portraits_below cells t.0 } in p)
    totals

pub gathered_shape : (cells : Cells) (next used : ℕ) (objects : List Portrait) → next < 2 ^ 32
    → objects ≡ portraits_below cells next
    → IsShaped (record { next = next; used = used; objects = objects })
gathered_shape cells next used objects fits are = record {
  next = fits;
  objects = subst (AreInOrder 1 next) (sym are) (elim (cases_lt 1 next) [
    | inl some ↦ gathered_order cells 1 (next - 1) next (omega (arith, some))
    | inr few ↦
        let none : next - 1 ≡ 0 = omega (arith, few) in
        subst (λ (k : ℕ). AreInOrder 1 next (flat_map (portraits_at cells) (range_with_len 1 k)))
        (sym none) tt
  ]);
}
