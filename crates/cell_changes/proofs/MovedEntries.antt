-- How a tree is altered where entries of directories go, come or are replaced.
use Rattle.std.proofs.Common.{◌≡◌, ℕ, ◌<◌, ◌==◌, ◌⊎◌, false, length, get_or, set}
use Rattle.std.proofs.Common.{Option, Some, None, refl, sym, ap, ◌∙◌, subst, arith, inl, inr}
use Rattle.std.proofs.lemmas.Bool.{cases_eq, cases_lt, cond_both, eqb-true, eq-eqb, ne_eqb}
use Rattle.std.proofs.lemmas.List.{get_or_past, get_or-set_same, get_or-set_other, set_past}
use Rattle.std.proofs.lemmas.List.Sums.{get_or-le-sum_by}
use Rattle.harp_types.specs.declared.attr.Time.{Time}
use Rattle.file_tree.specs.declared.object.Slot.{Slot}
use Rattle.file_tree.specs.declared.object.Body.TheVariants as body
use Rattle.file_tree.specs.declared.object.Object.{Object}
use Rattle.file_tree.specs.Tree.{Tree, Slots, place, slots_of, slots_within, names_in, names_at, names_of}
use Rattle.file_tree.specs.Tree.{is_directory_at, free_from, with_entry}
use Rattle.file_tree.specs.Outcome.{change, changed_at, set_ctime, lost_entry}
use Rattle.file_tree.proofs.SlotLaws.{share}
use Rattle.file_tree.proofs.Reslots.{Reslots, other_place, own_place, own_names, own_names_after}
use Rattle.file_tree.proofs.SoundMoves.{names_at-le}
use Rattle.file_tree.proofs.WaysUp.{IsBare}
use Rattle.harp_cells.specs.CellsOfTree.{content_of, is_regular_at}
use Rattle.inode_dirs.proofs.SlotChanges.{entry_differs}
use Rattle.cell_changes.specs.Stands.{IsUnmoved}

-- ---- what changes

-- two slots, which may be one, the object that an entry moves to the second one, and the object
-- that loses an entry
pub record Move : Type 0 where
  pub dir : ℕ
  pub slot : ℕ
  pub to_dir : ℕ
  pub to_slot : ℕ
  pub moved : ℕ
  pub target : ℕ

-- neither of the directories, and neither of the objects
pub record IsAside (m : Move) (number : ℕ) : Type 0 where
  pub dir : number ≡ m.dir → ⊥
  pub to_dir : number ≡ m.to_dir → ⊥
  pub moved : number ≡ m.moved → ⊥
  pub target : number ≡ m.target → ⊥

-- neither of the slots
pub record IsOtherSlot (m : Move) (number i : ℕ) : Type 0 where
  pub from : number ≡ m.dir → i ≡ m.slot → ⊥
  pub to : number ≡ m.to_dir → i ≡ m.to_slot → ⊥

-- what other objects, slots and entries a tree keeps
pub record Alters (m : Move) (old new : Tree) : Type 0 where
  pub stays : (number : ℕ) → IsAside m number → place new number ≡ place old number
  pub slot : (dir slot : ℕ) → IsOtherSlot m dir slot
      → get_or (slots_of (place new dir)) slot None ≡ get_or (slots_of (place old dir)) slot None
  pub names : (dir k : ℕ) → (k ≡ m.moved → ⊥) → (k ≡ m.target → ⊥)
      → names_at k (place new dir) ≡ names_at k (place old dir)

alters_then : (m : Move) (a b c : Tree) → Alters m a b → Alters m b c → Alters m a c
alters_then m a b c x y = record {
  stays = λ number aside. y.stays number aside ∙ x.stays number aside;
  slot = λ dir slot other. y.slot dir slot other ∙ x.slot dir slot other;
  names = λ dir k nm nt. y.names dir k nm nt ∙ x.names dir k nm nt;
}

-- objects of one kind and with one content
pub record AreAlike (p q : Option Object) : Type 0 where
  pub content : content_of q ≡ content_of p
  pub regular : is_regular_at q ≡ is_regular_at p
  pub directory : is_directory_at q ≡ is_directory_at p

alike_then : (p q r : Option Object) → AreAlike p q → AreAlike q r → AreAlike p r
alike_then p q r a b = record {
  content = b.content ∙ a.content;
  regular = b.regular ∙ a.regular;
  directory = b.directory ∙ a.directory;
}

alike_itself : (p q : Option Object) → q ≡ p → AreAlike p q
alike_itself p q e = record {
  content = ap content_of e;
  regular = ap is_regular_at e;
  directory = ap is_directory_at e;
}

-- only entries and slots of a move are altered, and each object keeps its kind and its content
pub record KeepsAlike (m : Move) (old new : Tree) : Type 0 where
  pub alters : Alters m old new
  pub alike : (n : ℕ) → AreAlike (place old n) (place new n)

pub keeps_then : (m : Move) (a b c : Tree) → KeepsAlike m a b → KeepsAlike m b c → KeepsAlike m a c
keeps_then m a b c x y = record {
  alters = alters_then m a b c x.alters y.alters;
  alike = λ n. alike_then (place a n) (place b n) (place c n) (x.alike n) (y.alike n);
}

-- ---- other slots of a directory

alike_directories : (o p : Object) (slots after : Slots) → o.body ≡ body.Directory slots
    → p.body ≡ body.Directory after
    → AreAlike (Some o) (Some p)
alike_directories o p slots after was is = record {
  content = rw (was, is) refl;
  regular = rw (was, is) refl;
  directory = rw (was, is) refl;
}

alike_reslots : (old new : Tree) (dir : ℕ) (slots after : Slots) → Reslots old new dir slots after
    → (n : ℕ)
    → AreAlike (place old n) (place new n)
alike_reslots old new dir slots after r n = elim (cases_eq n dir) [
  | inl e ↦
      let here = alike_directories r.was r.becomes slots after r.body r.body_after in
      let there : AreAlike (place old dir) (Some r.becomes) =
      subst (λ (p : Option Object). AreAlike p (Some r.becomes)) (sym r.at) here in
      let both : AreAlike (place old dir) (place new dir) =
      subst (λ (q : Option Object). AreAlike (place old dir) q)
      (sym (own_place old new dir slots after r)) there in
      subst (λ (k : ℕ). AreAlike (place old k) (place new k)) (sym e) both
  | inr ne ↦ alike_itself (place old n) (place new n) (other_place old new dir slots after r n ne)
]

own_slots : (x : Option Object) (o : Object) (slots : Slots) → x ≡ Some o
    → o.body ≡ body.Directory slots
    → slots_of x ≡ slots
own_slots x o slots at is = ap slots_of at ∙ ap slots_within is

-- one slot of one of the directories changes, and with it entries of the objects alone
pub record IsSlotOf (m : Move) (dir : ℕ) (slots after : Slots) : Type 0 where
  pub aside : (number : ℕ) → IsAside m number → number ≡ dir → ⊥
  pub others : (slot : ℕ) → IsOtherSlot m dir slot → get_or after slot None ≡ get_or slots slot None
  pub names : (k : ℕ) → (k ≡ m.moved → ⊥) → (k ≡ m.target → ⊥) → names_in k after ≡ names_in k slots

alters_reslots : (m : Move) (old new : Tree) (dir : ℕ) (slots after : Slots)
    → Reslots old new dir slots after
    → IsSlotOf m dir slots after → Alters m old new
alters_reslots m old new dir slots after r is = record {
  stays = λ number aside. other_place old new dir slots after r number (is.aside number aside);
  slot = λ n slot other. elim (cases_eq n dir) [
    | inl e ↦
        let here : get_or (slots_of (place new dir)) slot None
        ≡ get_or (slots_of (place old dir)) slot None =
        ap (λ (ss : Slots). get_or ss slot None)
        (own_slots (place new dir) r.becomes after
        (own_place old new dir slots after r) r.body_after)
        ∙ is.others slot (subst (λ (k : ℕ). IsOtherSlot m k slot) e other)
        ∙ ap (λ (ss : Slots). get_or ss slot None)
        (sym (own_slots (place old dir) r.was slots r.at r.body)) in
        subst
        (λ (k : ℕ). get_or (slots_of (place new k)) slot None
        ≡ get_or (slots_of (place old k)) slot None)
        (sym e) here
    | inr ne ↦
        ap (λ (p : Option Object). get_or (slots_of p) slot None)
        (other_place old new dir slots after r n ne)
  ];
  names = λ n k nm nt. elim (cases_eq n dir) [
    | inl e ↦
        let here : names_at k (place new dir) ≡ names_at k (place old dir) =
        own_names_after old new dir slots after r k ∙ is.names k nm nt
        ∙ sym (own_names old new dir slots after r k) in
        subst (λ (d : ℕ). names_at k (place new d) ≡ names_at k (place old d)) (sym e) here
    | inr ne ↦ ap (names_at k) (other_place old new dir slots after r n ne)
  ];
}

pub keeps_reslots : (m : Move) (old new : Tree) (dir : ℕ) (slots after : Slots)
    → Reslots old new dir slots after
    → IsSlotOf m dir slots after → KeepsAlike m old new
keeps_reslots m old new dir slots after r is = record {
  alters = alters_reslots m old new dir slots after r is;
  alike = alike_reslots old new dir slots after r;
}

-- a new entry leaves each slot but the first free one
pub entered_other : (slots : Slots) (s : Slot) (k : ℕ) → (k ≡ free_from 0 slots → ⊥)
    → get_or (with_entry slots s) k None ≡ get_or slots k None
entered_other slots s k ne =
    let t : (free_from 0 slots == k) ≡ false = ne_eqb (free_from 0 slots) k (λ e. ne (sym e)) in
    entry_differs slots s k ∙ rw t refl

-- ---- the time of an object

placed : (tree : Tree) (number : ℕ) (x : Option Object) → number < length tree
    → place (set tree number x) number ≡ x
placed tree number x lt = get_or-set_same tree number x None lt

place_change : (tree : Tree) (number : ℕ) (f : Object → Object)
    → place (change tree number f) number ≡ changed_at f (place tree number)
place_change tree number f = elim (cases_lt number (length tree)) [
  | inl lt ↦ placed tree number (changed_at f (place tree number)) lt
  | inr le ↦
      let none : place tree number ≡ None = get_or_past tree number None le in
      ap (λ (t : Tree). place t number) (set_past tree number (changed_at f (place tree number)) le)
      ∙ none ∙ ap (changed_at f) (sym none)
]

other_change : (tree : Tree) (number : ℕ) (f : Object → Object) (n : ℕ) → (n ≡ number → ⊥)
    → place (change tree number f) n ≡ place tree n
other_change tree number f n ne =
    get_or-set_other tree number n (changed_at f (place tree number)) None ne

alike_timed : (p : Option Object) (now : Time) → AreAlike p (changed_at (set_ctime now) p)
alike_timed None now = alike_itself None None refl
alike_timed (Some o) now = record { content = refl; regular = refl; directory = refl }

slots_timed : (p : Option Object) (now : Time)
    → slots_of (changed_at (set_ctime now) p) ≡ slots_of p
slots_timed None now = refl
slots_timed (Some o) now = refl

alike_ctime : (tree : Tree) (number : ℕ) (now : Time) (n : ℕ)
    → AreAlike (place tree n) (place (change tree number (set_ctime now)) n)
alike_ctime tree number now n = elim (cases_eq n number) [
  | inl e ↦
      let here : AreAlike (place tree number) (place (change tree number (set_ctime now)) number) =
      subst (λ (q : Option Object). AreAlike (place tree number) q)
      (sym (place_change tree number (set_ctime now)))
      (alike_timed (place tree number) now) in
      subst (λ (k : ℕ). AreAlike (place tree k) (place (change tree number (set_ctime now)) k))
      (sym e) here
  | inr ne ↦ alike_itself _ _ (other_change tree number (set_ctime now) n ne)
]

slots_ctime : (tree : Tree) (number : ℕ) (now : Time) (n : ℕ)
    → slots_of (place (change tree number (set_ctime now)) n) ≡ slots_of (place tree n)
slots_ctime tree number now n = elim (cases_eq n number) [
  | inl e ↦
      let here = ap slots_of (place_change tree number (set_ctime now))
      ∙ slots_timed (place tree number) now in
      subst (λ (k : ℕ). slots_of (place (change tree number (set_ctime now)) k)
      ≡ slots_of (place tree k)) (sym e) here
  | inr ne ↦ ap slots_of (other_change tree number (set_ctime now) n ne)
]

alters_ctime : (m : Move) (tree : Tree) (number : ℕ) (now : Time)
    → ((n : ℕ) → IsAside m n → n ≡ number → ⊥) → Alters m tree (change tree number (set_ctime now))
alters_ctime m tree number now aside = record {
  stays = λ n is. other_change tree number (set_ctime now) n (aside n is);
  slot = λ n slot other. ap (λ (ss : Slots). get_or ss slot None) (slots_ctime tree number now n);
  names = λ n k nm nt. ap (names_in k) (slots_ctime tree number now n);
}

keeps_ctime : (m : Move) (tree : Tree) (number : ℕ) (now : Time)
    → ((n : ℕ) → IsAside m n → n ≡ number → ⊥)
    → KeepsAlike m tree (change tree number (set_ctime now))
keeps_ctime m tree number now aside = record {
  alters = alters_ctime m tree number now aside;
  alike = alike_ctime tree number now;
}

-- ---- an object that goes

bare_slot : (slots : Slots) (slot : ℕ) (x : Option Slot) → get_or slots slot None ≡ x
    → ((k : ℕ) → names_in k slots ≡ 0) → x ≡ None
bare_slot slots slot None e bare = refl
bare_slot slots slot (Some s) e bare = elim (cases_lt slot (length slots)) [
  | inl lt ↦
      let named : share s.number (get_or slots slot None) ≡ 1 =
      ap (share s.number) e ∙ (rw (eq-eqb s.number s.number refl) refl) in
      absurd (omega (
        arith,
        named,
        bare s.number,
        get_or-le-sum_by (share s.number) slots slot None lt,
      ))
  | inr le ↦ let none = get_or_past slots slot None le in absurd cc
]

place_gone : (tree : Tree) (number : ℕ) → place (set tree number None) number ≡ None
place_gone tree number = elim (cases_lt number (length tree)) [
  | inl lt ↦ placed tree number None lt
  | inr le ↦ ap (λ (t : Tree). place t number) (set_past tree number None le)
      ∙ get_or_past tree number None le
]

other_gone : (tree : Tree) (number n : ℕ) → (n ≡ number → ⊥)
    → place (set tree number None) n ≡ place tree n
other_gone tree number n ne = get_or-set_other tree number n None None ne

slots_gone : (tree : Tree) (number n slot : ℕ) → IsBare tree number
    → get_or (slots_of (place (set tree number None) n)) slot None
    ≡ get_or (slots_of (place tree n)) slot None
slots_gone tree number n slot bare = elim (cases_eq n number) [
  | inl e ↦
      let gone =
      ap (λ (p : Option Object). get_or (slots_of p) slot None) (place_gone tree number) in
      let none = bare_slot (slots_of (place tree number)) slot _ refl bare in
      ap (λ (k : ℕ). get_or (slots_of (place (set tree number None) k)) slot None) e
      ∙ gone ∙ sym none ∙ ap (λ (k : ℕ). get_or (slots_of (place tree k)) slot None) (sym e)
  | inr ne ↦ ap (λ (p : Option Object). get_or (slots_of p) slot None) (other_gone tree number n ne)
]

names_gone : (tree : Tree) (number n k : ℕ) → IsBare tree number
    → names_at k (place (set tree number None) n) ≡ names_at k (place tree n)
names_gone tree number n k bare = elim (cases_eq n number) [
  | inl e ↦
      ap (λ (d : ℕ). names_at k (place (set tree number None) d)) e
      ∙ ap (names_at k) (place_gone tree number)
      ∙ sym (bare k)
      ∙ ap (λ (d : ℕ). names_at k (place tree d)) (sym e)
  | inr ne ↦ ap (names_at k) (other_gone tree number n ne)
]

alters_gone : (m : Move) (tree : Tree) → IsBare tree m.target
    → Alters m tree (set tree m.target None)
alters_gone m tree bare = record {
  stays = λ n aside. other_gone tree m.target n aside.target;
  slot = λ n slot other. slots_gone tree m.target n slot bare;
  names = λ n k nm nt. names_gone tree m.target n k bare;
}

-- ---- what a move makes of a tree

-- the target is gone, and no other directory had an entry of it
pub record IsGone (m : Move) (old new : Tree) : Type 0 where
  pub none : place new m.target ≡ None
  pub unnamed : (dir : ℕ) → (dir ≡ m.dir → ⊥) → (dir ≡ m.to_dir → ⊥)
      → names_at m.target (place old dir) ≡ 0

-- the tree after a move: each object keeps its kind and its content, and the target does or is gone
pub record MovesTo (m : Move) (old new : Tree) : Type 0 where
  pub alters : Alters m old new
  pub alike : (n : ℕ) → (n ≡ m.target → ⊥) → AreAlike (place old n) (place new n)
  pub target : AreAlike (place old m.target) (place new m.target) ⊎ IsGone m old new

-- an update leaves what it doesn't touch
pub unmoved : (m : Move) (old new : Tree) → MovesTo m old new → (number : ℕ) → IsAside m number
    → IsUnmoved old new number
unmoved m old new moves number aside = record {
  stays = moves.alters.stays number aside;
  named = λ dir. moves.alters.names dir number aside.moved aside.target;
  names = λ k some. elim (cases_eq k m.target) [
    | inl e ↦ elim moves.target [
      | inl alike ↦
          subst (λ (n : ℕ). is_directory_at (place new n) ≡ is_directory_at (place old n))
          (sym e) alike.directory
      | inr gone ↦
          let none = gone.unnamed number aside.dir aside.to_dir in
          let one = ap (λ (n : ℕ). names_at n (place old number)) e in
          absurd (omega (arith, some, none, one))
    ]
    | inr ne ↦ (moves.alike k ne).directory
  ];
}

pub moves_alike : (m : Move) (old new : Tree) → KeepsAlike m old new → MovesTo m old new
moves_alike m old new is =
    record { alters = is.alters; alike = λ n ne. is.alike n; target = inl (is.alike m.target) }

-- a tree before its target loses the entry
pub record IsBefore (m : Move) (old before : Tree) : Type 0 where
  pub keeps : KeepsAlike m old before
  pub others : (dir : ℕ) → (dir ≡ m.dir → ⊥) → (dir ≡ m.to_dir → ⊥)
      → place before dir ≡ place old dir
  pub bare : IsBare before m.target

loses_last : (m : Move) (old before : Tree) → IsBefore m old before → names_of before m.target ≡ 0
    → MovesTo m old (set before m.target None)
loses_last m old before is last = record {
  alters = alters_then m old before (set before m.target None) is.keeps.alters
      (alters_gone m before is.bare);
  alike = λ n ne. alike_then (place old n) (place before n) (place (set before m.target None) n)
      (is.keeps.alike n)
      (alike_itself _ _ (other_gone before m.target n ne));
  target = inr (record {
    none = place_gone before m.target;
    unnamed = λ dir nd nt.
        let same = ap (names_at m.target) (is.others dir nd nt) in
        omega (arith, same, last, names_at-le before dir m.target);
  });
}

stays_alike : (m : Move) (old before : Tree) (now : Time) → IsBefore m old before
    → MovesTo m old (change before m.target (set_ctime now))
stays_alike m old before now is =
    let after = change before m.target (set_ctime now) in
    moves_alike m old after
    (keeps_then m old before after is.keeps
    (keeps_ctime m before m.target now (λ n aside. aside.target)))

-- the target loses an entry, and goes where it was the last
pub moves_lost : (m : Move) (old before : Tree) (now : Time) → IsBefore m old before
    → MovesTo m old (lost_entry before m.target now)
unfolding lost_entry
moves_lost m old before now is =
    cond_both (names_of before m.target == 0) (set before m.target None)
    (change before m.target (set_ctime now))
    (MovesTo m old)
    (λ e. loses_last m old before is (eqb-true (names_of before m.target) 0 e))
    (λ e. stays_alike m old before now is)

still_none : (tree : Tree) (number n : ℕ) (now : Time) → place tree n ≡ None
    → place (change tree number (set_ctime now)) n ≡ None
still_none tree number n now none = elim (cases_eq n number) [
  | inl e ↦
      let there : place tree number ≡ None = subst (λ (k : ℕ). place tree k ≡ None) e none in
      subst (λ (k : ℕ). place (change tree number (set_ctime now)) k ≡ None) (sym e)
      (place_change tree number (set_ctime now) ∙ ap (changed_at (set_ctime now)) there)
  | inr ne ↦ other_change tree number (set_ctime now) n ne ∙ none
]

-- the moved object gets its time
pub keeps_timed : (m : Move) (old before : Tree) (now : Time) → KeepsAlike m old before
    → KeepsAlike m old (change before m.moved (set_ctime now))
keeps_timed m old before now is =
    keeps_then m old before (change before m.moved (set_ctime now)) is
    (keeps_ctime m before m.moved now (λ n aside. aside.moved))

pub moves_timed : (m : Move) (old before : Tree) (now : Time) → MovesTo m old before
    → MovesTo m old (change before m.moved (set_ctime now))
moves_timed m old before now is =
    let after = change before m.moved (set_ctime now) in
    let timed = keeps_ctime m before m.moved now (λ n aside. aside.moved) in
    let also : (n : ℕ) → AreAlike (place old n) (place before n)
    → AreAlike (place old n) (place after n) =
    λ (n : ℕ) (alike : AreAlike (place old n) (place before n)).
    alike_then (place old n) (place before n) (place after n) alike (timed.alike n) in
    record {
      alters = alters_then m old before after is.alters timed.alters;
      alike = λ n ne. also n (is.alike n ne);
      target = elim is.target [
        | inl alike ↦ inl (also m.target alike)
        | inr gone ↦ inr (record {
          none = still_none before m.moved m.target now gone.none;
          unnamed = gone.unnamed;
        })
      ];
    }
