-- What entries say of each object, one entry after the other.
use Rattle.std.proofs.Common.{◌≡◌, ℕ, ◌+◌, ◌<◌, ◌≤◌, ◌^◌, ◌==◌, ◌||◌, not, Bool, true, false, cond, min}
use Rattle.std.proofs.Common.{List, [], ◌∷◌, ◌++◌, length, get_or, set, replicate, take, drop, Option}
use Rattle.std.proofs.Common.{Some, None, refl, sym, ap, subst, ◌∙◌, arith, inl, inr}
use Rattle.std.specs.List.{flat_map, list_any}
use Rattle.std.specs.Prelude.{count_by, nat_lt, if◌then◌else◌}
use Rattle.std.proofs.lemmas.Bool.{and_right, cases_eq, cases_lt, eq-eqb, le-ltb, lt-ltb, ne_eqb}
use Rattle.std.proofs.lemmas.List.{append-nil, get_or-replicate, get_or-set_other, get_or-set_same}
use Rattle.std.proofs.lemmas.List.{get_or_default, length-replicate, length-set}
use Rattle.std.proofs.lemmas.List.Folds.{list_any-append}
use Rattle.std.proofs.lemmas.List.Sums.{sum_by-append}
use Rattle.file_tree.specs.declared.object.Slot.{Slot}
use Rattle.audit.specs.declared.entries.Names.{Names}
use Rattle.audit.specs.declared.picture.Portrait.{Portrait}
use Rattle.audit.specs.Entries.{AreByNumber, AreNamed, AreNamedBy, AreSaid, IsNamed, IsPlace}
use Rattle.audit.specs.Entries.{entries_by, entries_in, entry_at, is_entry, most_names}
use Rattle.audit.specs.Entries.{number_named}
use Rattle.audit.specs.Flaws.{is_directory, portrait_at, slots_in}
use Rattle.audit.specs.Pictures.{AreInOrder, attributes}
use Rattle.audit.proofs.Lookups.{found_number}
use Rattle.audit.proofs.Names.{counted, weight}
use Rattle.audit.proofs.Searches.{at_place, listed, names_counted, or_false, two_places}

-- ---- counts, as far as they go

pub none_counted_far : (n c : ℕ) → c ≡ min n most_names → (c == 0) ≡ (n == 0)
none_counted_far n c is = elim (cases_eq n 0) [
  | inl e ↦
      let none : c ≡ 0 = omega (arith, is, e) in eq-eqb c 0 none ∙ sym (eq-eqb n 0 e)
  | inr ne ↦ ne_eqb c 0 (λ z. ne (omega (arith, is, z))) ∙ sym (ne_eqb n 0 ne)
]

pub several_counted_far : (n c : ℕ) → c ≡ min n most_names → nat_lt 1 c ≡ nat_lt 1 n
several_counted_far n c is = elim (cases_lt 1 n) [
  | inl lt ↦
      let some : 1 < c = omega (arith, is, lt) in lt-ltb 1 c some ∙ sym (lt-ltb 1 n lt)
  | inr le ↦
      let few : c ≤ 1 = omega (arith, is, le) in le-ltb 1 c few ∙ sym (le-ltb 1 n le)
]

pub so_many_counted_far : (links n c : ℕ) → links < 2 ^ 32 → c ≡ min n most_names
    → (links == c) ≡ (links == n)
so_many_counted_far links n c lt is = elim (cases_eq links n) [
  | inl e ↦
      let same : links ≡ c = omega (arith, is, e, lt) in
      eq-eqb links c same ∙ sym (eq-eqb links n e)
  | inr ne ↦ ne_eqb links c (λ e. ne (omega (arith, is, e, lt))) ∙ sym (ne_eqb links n ne)
]

-- ---- of one object

joined_counts : (n : ℕ) (es fs : List (ℕ × ℕ)) → count_by (λ e. e.0 == n) (es ++ fs)
    ≡ count_by (λ e. e.0 == n) es + count_by (λ e. e.0 == n) fs
joined_counts n es fs = sum_by-append (λ (e : ℕ × ℕ). cond (e.0 == n) 1 0) es fs

-- an entry that names it
said_once_more : (es : List (ℕ × ℕ)) (x : Portrait) (old new : Names) (number dir : ℕ)
    → x.number ≡ number → AreSaid es x old → new.count ≡ min (old.count + 1) most_names
    → new.held ≡ (old.held || (dir == (attributes x.object).parent))
    → AreSaid (es ++ (number, dir) ∷ []) x new
said_once_more es x old new number dir named said count held =
    let p = is_entry x.number (attributes x.object).parent in
    let it : (number == x.number) ≡ true = eq-eqb number x.number (sym named) in
    let one : weight (number == x.number) ≡ 1 = rw it refl in
    let last : p (number, dir) ≡ (dir == (attributes x.object).parent) = rw it refl in record {
      count = omega (
        arith,
        count,
        said.count,
        joined_counts x.number es ((number, dir) ∷ []),
        counted (λ (e : ℕ × ℕ). e.0 == x.number) (number, dir) [],
        one,
      );
      held = held ∙ ap (λ (b : Bool). b || (dir == (attributes x.object).parent)) said.held
          ∙ ap (λ (b : Bool). list_any p es || b)
          (sym (or_false (p (number, dir)) ∙ last))
          ∙ sym (list_any-append p es ((number, dir) ∷ []));
    }

-- an entry that names another
said_of_another : (es : List (ℕ × ℕ)) (x : Portrait) (names : Names) (number dir : ℕ)
    → (x.number ≡ number → ⊥) → AreSaid es x names → AreSaid (es ++ (number, dir) ∷ []) x names
said_of_another es x names number dir other said =
    let p = is_entry x.number (attributes x.object).parent in
    let it : (number == x.number) ≡ false = ne_eqb number x.number (λ e. other (sym e)) in
    let zero : weight (number == x.number) ≡ 0 = rw it refl in
    let last : p (number, dir) ≡ false = rw it refl in record {
      count = omega (
        arith,
        said.count,
        joined_counts x.number es ((number, dir) ∷ []),
        counted (λ (e : ℕ × ℕ). e.0 == x.number) (number, dir) [],
        zero,
      );
      held = said.held ∙ sym (or_false (list_any p es))
          ∙ ap (λ (b : Bool). list_any p es || b) (sym (or_false (p (number, dir)) ∙ last))
          ∙ sym (list_any-append p es ((number, dir) ∷ []));
    }

said_together : (es fs : List (ℕ × ℕ)) (x : Portrait) (low high both : Names) → AreSaid es x low
    → AreSaid fs x high → both.count ≡ min (low.count + high.count) most_names
    → both.held ≡ (low.held || high.held) → AreSaid (es ++ fs) x both
said_together es fs x low high both first second count held =
    let p = is_entry x.number (attributes x.object).parent in record {
      count = omega (arith, count, first.count, second.count, joined_counts x.number es fs);
      held = held ∙ ap (λ (b : Bool). b || high.held) first.held
          ∙ ap (λ (b : Bool). list_any p es || b) second.held ∙ sym (list_any-append p es fs);
    }

-- ---- of each object

-- no entry says anything
pub nothing_said : (objects : List Portrait) (none : Names) (names : List Names) (n : ℕ)
    → n ≡ length objects → none.count ≡ 0 → none.held ≡ false → names ≡ replicate n none
    → AreNamed objects [] names
nothing_said objects none names n long count held are = record {
  long = ap length are ∙ length-replicate n none ∙ long;
  each = λ i x d lt read.
      let is : get_or names i d ≡ none =
      ap (λ (l : List Names). get_or l i d) are
      ∙ get_or-replicate n i none d (omega (arith, lt, long)) in
      let zero : none.count ≡ min 0 most_names = omega (arith, count) in
      subst (AreSaid [] x) (sym is) (record { count = zero; held = held });
}

-- an entry of the object at a place
pub named_more : (objects : List Portrait) (es : List (ℕ × ℕ)) (old new : List Names)
    (number dir place : ℕ) (x : Portrait) (was made : Names) → AreByNumber objects
    → AreNamed objects es old → IsPlace objects number (Some place) → x ≡ get_or objects place x
    → was ≡ get_or old place was → made.count ≡ min (was.count + 1) most_names
    → made.held ≡ (was.held || (dir == (attributes x.object).parent))
    → new ≡ set old place made → AreNamed objects (es ++ (number, dir) ∷ []) new
named_more objects es old new number dir place x was made order named there read had count held
    are = record {
      long = ap length are ∙ length-set old place made ∙ named.long;
      each = λ i y d lt at. elim (cases_eq i place) [
        | inl e ↦
            let same : x ≡ y = read ∙ get_or_default objects place x y there.0
            ∙ ap (λ (k : ℕ). get_or objects k y) (sym e) ∙ sym at in
            let it : x.number ≡ number =
            found_number objects number x
            (there.1 x ∙ ap (λ (z : Portrait). Some z) (sym read)) in
            let said : AreSaid es x was =
            subst (AreSaid es x) (sym had) (named.each place x was there.0 read) in
            let is : get_or new i d ≡ made =
            ap (λ (l : List Names). get_or l i d) are
            ∙ ap (λ (k : ℕ). get_or (set old place made) k d) e
            ∙ get_or-set_same old place made d (omega (arith, there.0, named.long)) in
            subst (λ (z : Portrait). AreSaid (es ++ (number, dir) ∷ []) z (get_or new i d)) same
            (subst (AreSaid (es ++ (number, dir) ∷ []) x) (sym is)
            (said_once_more es x was made number dir it said count held))
        | inr ne ↦
            let is : get_or new i d ≡ get_or old i d =
            ap (λ (l : List Names). get_or l i d) are ∙ get_or-set_other old place i made d ne in
            let here : (get_or objects place y).number ≡ number =
            found_number objects number (get_or objects place y) (there.1 y) in
            let own : y.number ≡ (get_or objects i y).number =
            ap (λ (z : Portrait). z.number) at in
            subst (AreSaid (es ++ (number, dir) ∷ []) y) (sym is)
            (said_of_another es y (get_or old i d) number dir
            (λ e. elim (cases_lt i place) [
              | inl before ↦
                  let r = two_places 1 order.0 objects i place y order.1 before there.0 in
                  omega (arith, r, here, own, e)
              | inr after ↦
                  let r = two_places 1 order.0 objects place i y order.1
                  (omega (arith, after, ne)) lt in
                  omega (arith, r, here, own, e)
            ])
            (named.each i y d lt at))
      ];
    }

-- one that names no object
pub named_nothing : (objects : List Portrait) (es : List (ℕ × ℕ)) (names : List Names)
    (number dir : ℕ) → AreByNumber objects → AreNamed objects es names
    → portrait_at objects number ≡ None → AreNamed objects (es ++ (number, dir) ∷ []) names
named_nothing objects es names number dir order named none = record {
  long = named.long;
  each = λ i x d lt read.
      said_of_another es x (get_or names i d) number dir
      (λ e.
      let there = (at_place 1 order.0 objects i x order.1 lt).1 in
      let it : (get_or objects i x).number ≡ number =
      sym (ap (λ (z : Portrait). z.number) read) ∙ e in
      let found : portrait_at objects number ≡ Some (get_or objects i x) =
      subst (λ (k : ℕ). portrait_at objects k ≡ Some (get_or objects i x)) it there in
      absurd cc)
      (named.each i x d lt read);
}

-- what a slot holds
pub named_by_one : (objects : List Portrait) (es : List (ℕ × ℕ)) (names : List Names)
    (dir number : ℕ) (o : Option Slot) → Some number ≡ number_named o
    → AreNamed objects (es ++ (number, dir) ∷ []) names → AreNamed objects (es ++ entry_at dir o) names
named_by_one objects es names dir number None is named = absurd cc
named_by_one objects es names dir number (Some s) is named =
    let same : number ≡ s.number = cc is in
    subst (λ (n : ℕ). AreNamed objects (es ++ (n, dir) ∷ []) names) same named

pub named_by_none : (objects : List Portrait) (es : List (ℕ × ℕ)) (names : List Names) (dir : ℕ)
    (o : Option Slot) → None ≡ number_named o → AreNamed objects es names
    → AreNamed objects (es ++ entry_at dir o) names
named_by_none objects es names dir None is named =
    subst (λ (l : List (ℕ × ℕ)). AreNamed objects l names) (sym (append-nil es)) named
named_by_none objects es names dir (Some s) is named = absurd cc

-- what is no directory
pub named_by_no_directory : (objects : List Portrait) (es : List (ℕ × ℕ)) (names : List Names)
    (x : Portrait) → false ≡ is_directory x → AreNamed objects es names
    → AreNamed objects (es ++ entries_by x) names
named_by_no_directory objects es names x isnt named =
    subst (λ (l : List (ℕ × ℕ)). AreNamed objects l names) (sym (append-nil es)
    ∙ ap (λ (b : Bool). es ++ (if b then flat_map (entry_at x.number) (slots_in x) else [])) isnt)
    named

-- what two parts say of an object
pub named_at : (objects : List Portrait) (low high : List Names) (i : ℕ) (x : Portrait)
    (first second both : Names) → AreByNumber objects → AreNamedBy objects low high
    → i < length objects → x ≡ get_or objects i x → first ≡ get_or low i first
    → second ≡ get_or high i second → both.count ≡ min (first.count + second.count) most_names
    → both.held ≡ (first.held || second.held) → IsNamed objects x both
named_at objects low high i x first second both order named lt read one two count held =
    let said : AreSaid (named.some ++ named.others) x both =
    said_together named.some named.others x first second both
    (subst (AreSaid named.some x) (sym one) (named.first.each i x first lt read))
    (subst (AreSaid named.others x) (sym two) (named.second.each i x second lt read)) count held in
    let all : AreSaid (entries_in objects) x both =
    subst (λ (es : List (ℕ × ℕ)). AreSaid es x both) named.all said in record {
      count = all.count
          ∙ ap (λ (n : ℕ). min n most_names) (names_counted x.number objects);
      held = all.held
          ∙ listed x.number (attributes x.object).parent 1 order.0 objects order.1;
    }
