-- What a change leaves of the counts of a tree.
use Rattle.std.proofs.Common.{◌≡◌, ℕ, zero, suc, ◌+◌, ◌-◌, ◌*◌, ◌<◌, ◌≤◌, ◌==◌, Bool, true, false, cond, List, [], ◌∷◌, ◌++◌, length, get_or, set, Option, Some, None, refl, sym, ap, ◌∙◌, subst, length-append, arith, inl, inr}
use Rattle.std.proofs.lemmas.Bool.{cases_lt, cases_eq, eq-eqb, ne_eqb}
use Rattle.std.proofs.lemmas.List.{get_or_at, get_or_append_left, get_or_past, set_past, length-set, get_or-set_same, get_or-set_other}
use Rattle.std.proofs.lemmas.List.Sums.{sum_by-set, sum_by_push, get_or-le-sum_by}
use Rattle.harp_types.specs.declared.attr.Time.{Time}
use Rattle.harp_types.specs.declared.attr.SetAttr.{SetAttr}
use Rattle.std.specs.Prelude.{IfSome, MatchOption}
use Rattle.file_tree.specs.declared.object.Slot.{Slot}
use Rattle.file_tree.specs.declared.object.Body.{Body}
use Rattle.file_tree.specs.declared.object.Body.TheVariants.{Regular, Directory, Link}
use Rattle.file_tree.specs.declared.object.Object.{Object}
use Rattle.file_tree.specs.Tree.{first_tree, entry, Tree, Slots, place, slots_within, slots_of, size_of, blocks_of, blocks_at, used_blocks, names_in, names_at, names_of, is_directory_at}
use Rattle.file_tree.specs.Within.{IsWithinLimits}
use Rattle.file_tree.specs.Outcome.{change, changed_at, with_fields, reslotted, slot_changed, slot_replaced, is_regular, is_regular_at}
use Rattle.file_tree.proofs.Bounds.{blocks_placed, names_of-le}
use Rattle.file_tree.proofs.Kept.{IsWithinLimits-set, place_push, used_push}
use Rattle.file_tree.proofs.Reslots.{directory_within}
use Rattle.file_tree.proofs.SlotLaws.{names_set, found}
use Rattle.plain_tree.specs.Counts.{one, share, AreCounts, HasRoomFor, IsEntered}

-- ---- tables of numbers

pub get_or-more : (xs : List ℕ) (i y k : ℕ) → i < length xs → y ≡ get_or xs i 0 + 1
    → get_or (set xs i y) k 0 ≡ get_or xs k 0 + one i k
get_or-more xs i y k lt e = elim (cases_eq k i) [
  | inl same ↦
      let t = eq-eqb i k (sym same) in
      rw t (ap (λ (n : ℕ). get_or (set xs i y) n 0) same
      ∙ get_or-set_same xs i y 0 lt ∙ e ∙ ap (λ (n : ℕ). get_or xs n 0 + 1) (sym same))
  | inr ne ↦
      let t = ne_eqb i k (λ e. ne (sym e)) in
      rw t (get_or-set_other xs i k y 0 ne ∙ omega arith)
]

pub get_or-less : (xs : List ℕ) (i y k : ℕ) → i < length xs → y ≡ get_or xs i 0 - 1
    → get_or (set xs i y) k 0 ≡ get_or xs k 0 - one i k
get_or-less xs i y k lt e = elim (cases_eq k i) [
  | inl same ↦
      let t = eq-eqb i k (sym same) in
      rw t (ap (λ (n : ℕ). get_or (set xs i y) n 0) same
      ∙ get_or-set_same xs i y 0 lt ∙ e ∙ ap (λ (n : ℕ). get_or xs n 0 - 1) (sym same))
  | inr ne ↦
      let t = ne_eqb i k (λ e. ne (sym e)) in
      rw t (get_or-set_other xs i k y 0 ne ∙ omega arith)
]

pub get_or-past_less : (xs : List ℕ) (i k : ℕ) → length xs ≤ i
    → get_or xs k 0 ≡ get_or xs k 0 - one i k
get_or-past_less xs i k le = elim (cases_eq k i) [
  | inl same ↦
      let none : get_or xs k 0 ≡ 0 = get_or_past xs k 0 (omega (arith, le, same)) in
      rw none (omega arith)
  | inr ne ↦ let t = ne_eqb i k (λ e. ne (sym e)) in rw t (omega arith)
]

pub get_or-pushed : (xs : List ℕ) (y k : ℕ)
    → get_or (xs ++ y ∷ []) k 0 ≡ get_or xs k 0 + cond (length xs == k) y 0
get_or-pushed xs y k = elim (cases_eq k (length xs)) [
  | inl same ↦
      let t = eq-eqb (length xs) k (sym same) in
      let none : get_or xs k 0 ≡ 0 = get_or_past xs k 0 (omega (arith, same)) in
      rw t (omega (arith, none, get_or_at xs y [] 0 k (sym same)))
  | inr ne ↦
      let t = ne_eqb (length xs) k (λ e. ne (sym e)) in
      rw t (elim (cases_lt k (length xs)) [
        | inl lt ↦ get_or_append_left xs (y ∷ []) 0 k lt ∙ omega arith
        | inr le ↦
            let none : get_or xs k 0 ≡ 0 = get_or_past xs k 0 le in
            let past : get_or (xs ++ y ∷ []) k 0 ≡ 0 =
            get_or_past (xs ++ y ∷ []) k 0 (omega (arith, le, ne, length-append xs (y ∷ []))) in
            omega (arith, none, past)
      ])
]

pub ruleset tables = (get_or-more, get_or-less, get_or-past_less)

-- ---- changes

pub counts_set : (tree : Tree) (used : ℕ) (names : List ℕ) (number : ℕ) (new : Option Object)
    (used_new : ℕ) (names_new : List ℕ) → AreCounts tree used names → number < length tree
    → used_new + blocks_at (place tree number) ≡ used + blocks_at new
    → length names_new ≡ length names
    → ((k : ℕ) → get_or names_new k 0 + names_at k (place tree number)
    ≡ get_or names k 0 + names_at k new)
    → AreCounts (set tree number new) used_new names_new
unfolding used_blocks names_of
counts_set tree used names number new used_new names_new is lt blocks size at = record {
  blocks = omega (arith, is.blocks, blocks, sum_by-set blocks_at tree number new None lt);
  size = size ∙ is.size ∙ sym (length-set tree number new);
  at = λ k. omega (arith, is.at k, at k, sum_by-set (names_at k) tree number new None lt);
}

pub counts_change : (tree : Tree) (used : ℕ) (names : List ℕ) (number : ℕ) (f : Object → Object)
    (used_new : ℕ) (names_new : List ℕ) → AreCounts tree used names
    → used_new + blocks_at (place tree number)
    ≡ used + blocks_at (changed_at f (place tree number))
    → length names_new ≡ length names
    → ((k : ℕ) → get_or names_new k 0 + names_at k (place tree number)
    ≡ get_or names k 0 + names_at k (changed_at f (place tree number)))
    → AreCounts (change tree number f) used_new names_new
counts_change tree used names number f used_new names_new is blocks size at =
    elim (cases_lt number (length tree)) [
      | inl lt ↦
          counts_set tree used names number (changed_at f (place tree number)) used_new names_new
          is lt blocks size at
      | inr le ↦
          let none : place tree number ≡ None = get_or_past tree number None le in
          let more : used_new + 0 ≡ used + 0 =
          subst (λ (x : Option Object). used_new + blocks_at x ≡ used + blocks_at (changed_at f x))
          none blocks in
          let named : (k : ℕ) → get_or names_new k 0 + 0 ≡ get_or names k 0 + 0 = λ (k : ℕ).
          subst (λ (x : Option Object). get_or names_new k 0 + names_at k x
          ≡ get_or names k 0 + names_at k (changed_at f x)) none (at k) in
          subst (λ (t : Tree). AreCounts t used_new names_new)
          (sym (set_past tree number (changed_at f (place tree number)) le))
          (record {
            blocks = omega (arith, more, is.blocks);
            size = size ∙ is.size;
            at = λ k. omega (arith, named k, is.at k);
          })
    ]

blocks_body : (f : Object → Object) → ((o : Object) → (f o).body ≡ o.body) → (x : Option Object)
    → blocks_at (changed_at f x) ≡ blocks_at x
blocks_body f same None = refl
blocks_body f same (Some o) = ap (λ (b : Body). blocks_of (size_of b)) (same o)

names_body : (f : Object → Object) → ((o : Object) → (f o).body ≡ o.body) → (k : ℕ)
    (x : Option Object) → names_at k (changed_at f x) ≡ names_at k x
names_body f same k None = refl
names_body f same k (Some o) = ap (λ (b : Body). names_in k (slots_within b)) (same o)

-- bodies stay
pub counts_body : (tree : Tree) (used : ℕ) (names : List ℕ) (number : ℕ) (f : Object → Object)
    → AreCounts tree used names → ((o : Object) → (f o).body ≡ o.body)
    → AreCounts (change tree number f) used names
counts_body tree used names number f is same =
    counts_change tree used names number f used names is
    (ap (λ (n : ℕ). used + n) (sym (blocks_body f same (place tree number)))) refl
    (λ k. ap (λ (n : ℕ). get_or names k 0 + n) (sym (names_body f same k (place tree number))))

regular_names : (k : ℕ) (b : Body) → is_regular b ≡ true → names_in k (slots_within b) ≡ 0
regular_names k (Regular bytes) t = refl
regular_names k (Directory slots) t = absurd cc
regular_names k (Link text) t = absurd cc

file_names : (k : ℕ) (x : Option Object) → is_regular_at x ≡ true → names_at k x ≡ 0
file_names k None t = absurd cc
file_names k (Some o) t = regular_names k o.body t

new_names : (f : Object → Object) (bytes : List ℕ) → ((o : Object) → (f o).body ≡ Regular bytes)
    → (k : ℕ) (x : Option Object) → names_at k (changed_at f x) ≡ 0
new_names f bytes is k None = refl
new_names f bytes is k (Some o) = ap (λ (b : Body). names_in k (slots_within b)) (is o)

new_blocks : (f : Object → Object) (bytes : List ℕ) → ((o : Object) → (f o).body ≡ Regular bytes)
    → (x : Option Object) → is_regular_at x ≡ true
    → blocks_at (changed_at f x) ≡ blocks_of (length bytes)
new_blocks f bytes is None t = absurd cc
new_blocks f bytes is (Some o) t = ap (λ (b : Body). blocks_of (size_of b)) (is o)

-- a file gets other bytes
pub counts_bytes : (tree : Tree) (used : ℕ) (names : List ℕ) (number : ℕ) (f : Object → Object)
    (bytes : List ℕ) (used_new : ℕ) → AreCounts tree used names
    → is_regular_at (place tree number) ≡ true → ((o : Object) → (f o).body ≡ Regular bytes)
    → used_new + blocks_at (place tree number) ≡ used + blocks_of (length bytes)
    → AreCounts (change tree number f) used_new names
counts_bytes tree used names number f bytes used_new is file body blocks =
    counts_change tree used names number f used_new names is
    (blocks ∙ ap (λ (n : ℕ). used + n) (sym (new_blocks f bytes body (place tree number) file)))
    refl
    (λ k. omega (
      arith,
      file_names k (place tree number) file,
      new_names f bytes body k (place tree number),
    ))

slot_names_within : (k i : ℕ) (s : Option Slot) (b : Body)
    → names_in k (slots_within (slot_replaced b i s)) ≡ names_in k (set (slots_within b) i s)
slot_names_within k i s (Directory slots) = refl
slot_names_within k i s (Regular bytes) = refl
slot_names_within k i s (Link text) = refl

slot_names : (k i : ℕ) (s : Option Slot) (now : Time) (x : Option Object)
    → names_at k (changed_at (slot_changed now i s) x) ≡ names_in k (set (slots_of x) i s)
slot_names k i s now None = refl
slot_names k i s now (Some o) = slot_names_within k i s o.body

slot_blocks_within : (i : ℕ) (s : Option Slot) (b : Body)
    → size_of (slot_replaced b i s) ≡ size_of b
slot_blocks_within i s (Directory slots) = ap (λ (n : ℕ). 264 * n) (length-set slots i s)
slot_blocks_within i s (Regular bytes) = refl
slot_blocks_within i s (Link text) = refl

slot_blocks : (i : ℕ) (s : Option Slot) (now : Time) (x : Option Object)
    → blocks_at (changed_at (slot_changed now i s) x) ≡ blocks_at x
slot_blocks i s now None = refl
slot_blocks i s now (Some o) = ap blocks_of (slot_blocks_within i s o.body)

-- a directory gets another slot
pub counts_slot : (tree : Tree) (used : ℕ) (names : List ℕ) (dir i : ℕ) (s : Option Slot)
    (now : Time) (names_new : List ℕ) (slots : Slots) → AreCounts tree used names
    → slots ≡ slots_of (place tree dir) → length names_new ≡ length names
    → ((k : ℕ) → get_or names_new k 0 + names_in k slots
    ≡ get_or names k 0 + names_in k (set slots i s))
    → AreCounts (change tree dir (slot_changed now i s)) used names_new
counts_slot tree used names dir i s now names_new slots is slots_is size named =
    let at : (k : ℕ) → get_or names_new k 0 + names_in k (slots_of (place tree dir))
    ≡ get_or names k 0 + names_in k (set (slots_of (place tree dir)) i s) =
    subst (λ (ss : Slots). (k : ℕ) → get_or names_new k 0 + names_in k ss
    ≡ get_or names k 0 + names_in k (set ss i s)) slots_is named in
    counts_change tree used names dir (slot_changed now i s) used names_new is
    (ap (λ (n : ℕ). used + n) (sym (slot_blocks i s now (place tree dir)))) size
    (λ k. omega (arith, at k, slot_names k i s now (place tree dir)))

reslot_names : (k : ℕ) (now : Time) (slots : Slots) (x : Option Object) → is_directory_at x ≡ true
    → names_at k (changed_at (reslotted now slots) x) ≡ names_in k slots
reslot_names k now slots None d = absurd cc
reslot_names k now slots (Some o) d = refl

reslot_blocks : (now : Time) (slots : Slots) (x : Option Object) → is_directory_at x ≡ true
    → blocks_at (changed_at (reslotted now slots) x) ≡ blocks_of (264 * length slots)
reslot_blocks now slots None d = absurd cc
reslot_blocks now slots (Some o) d = refl

-- a directory gets slots that name a number once more
pub counts_reslot : (tree : Tree) (used : ℕ) (names : List ℕ) (dir number : ℕ) (slots : Slots)
    (now : Time) (used_new : ℕ) (names_new : List ℕ) → AreCounts tree used names
    → IsEntered tree dir slots number
    → used_new + blocks_at (place tree dir) ≡ used + blocks_of (264 * length slots)
    → length names_new ≡ length names
    → ((k : ℕ) → get_or names_new k 0 ≡ get_or names k 0 + one number k)
    → AreCounts (change tree dir (reslotted now slots)) used_new names_new
counts_reslot tree used names dir number slots now used_new names_new is entered blocks size at =
    let d = entered.directory in
    counts_change tree used names dir (reslotted now slots) used_new names_new is
    (blocks ∙ ap (λ (n : ℕ). used + n) (sym (reslot_blocks now slots (place tree dir) d))) size
    (λ k. omega (arith, at k, entered.names k, reslot_names k now slots (place tree dir) d))

-- the fields of an object are set, and the bytes of a file
pub counts_fields : (tree : Tree) (used : ℕ) (names : List ℕ) (number : ℕ) (a : SetAttr)
    (bytes : Option (List ℕ)) (now : Time) (used_new : ℕ) → AreCounts tree used names
    → IfSome bytes (λ b. is_regular_at (place tree number) ≡ true)
    → MatchOption bytes (used_new ≡ used)
    (λ b. used_new + blocks_at (place tree number) ≡ used + blocks_of (length b))
    → AreCounts (change tree number (with_fields a bytes now)) used_new names
counts_fields tree used names number a None now used_new is file blocks =
    rw blocks (counts_body tree used names number (with_fields a None now) is (λ o. refl))
counts_fields tree used names number a (Some b) now used_new is file blocks =
    counts_bytes tree used names number (with_fields a (Some b) now) b used_new is file (λ o. refl)
    blocks

-- ---- an object that goes, and one that comes

pub names_placed : (tree : Tree) (number k : ℕ) → names_at k (place tree number) ≤ names_of tree k
unfolding names_of
names_placed tree number k = elim (cases_lt number (length tree)) [
  | inl lt ↦ get_or-le-sum_by (names_at k) tree number None lt
  | inr le ↦ rw (get_or_past tree number None le) (omega arith)
]

-- the slots of one directory name a number no more often than all do
pub counts_held : (tree : Tree) (used : ℕ) (names : List ℕ) (dir : ℕ) (slots : Slots)
    → AreCounts tree used names → slots ≡ slots_of (place tree dir) → (k : ℕ)
    → names_in k slots ≤ get_or names k 0
counts_held tree used names dir slots is slots_is k =
    rw slots_is (omega (arith, is.at k, names_placed tree dir k))

-- a number is named at most 2^20 times
pub counts_few : (tree : Tree) (used : ℕ) (names : List ℕ) → AreCounts tree used names
    → IsWithinLimits tree → (k : ℕ) → get_or names k 0 ≤ 1048576
counts_few tree used names is limits k =
    omega (arith, is.at k, names_of-le tree k, limits.room)

pub counts_gone : (tree : Tree) (used : ℕ) (names : List ℕ) (number used_new : ℕ)
    (names_new : List ℕ) → AreCounts tree used names → number < length tree
    → used_new ≡ used - blocks_at (place tree number) → length names_new ≡ length names
    → ((k : ℕ) → get_or names_new k 0 ≡ get_or names k 0 - names_at k (place tree number))
    → AreCounts (set tree number None) used_new names_new
counts_gone tree used names number used_new names_new is lt blocks size at =
    counts_set tree used names number None used_new names_new is lt
    (omega (arith, blocks, is.blocks, blocks_placed tree number)) size
    (λ k. omega (arith, at k, is.at k, names_placed tree number k))

same_zero : (b : Bool) (n : ℕ) → cond b n n ≡ n
same_zero true n = refl
same_zero false n = refl

pub counts_push : (tree : Tree) (used : ℕ) (names : List ℕ) (o : Object)
    → AreCounts tree used names → slots_within o.body ≡ []
    → AreCounts (tree ++ Some o ∷ []) (used + blocks_of (size_of o.body)) (names ++ 0 ∷ [])
unfolding used_blocks names_of
counts_push tree used names o is empty = record {
  blocks = omega (arith, is.blocks, sum_by_push blocks_at tree (Some o));
  size = omega (
    arith,
    is.size,
    length-append names (0 ∷ []),
    length-append tree (Some o ∷ []),
  );
  at = λ k.
      let none : names_at k (Some o) ≡ 0 = ap (λ (ss : Slots). names_in k ss) empty in
      let zero : cond (length names == k) 0 0 ≡ 0 = same_zero (length names == k) 0 in
      omega (arith, none, zero, is.at k, get_or-pushed names 0 k, sum_by_push (names_at k) tree (Some o));
}

entered_push : (tree : Tree) (dir : ℕ) (slots : Slots) (number : ℕ) (o : Object)
    → IsEntered tree dir slots number → IsEntered (tree ++ Some o ∷ []) dir slots number
entered_push tree dir slots number o is =
    let same : place (tree ++ Some o ∷ []) dir ≡ place tree dir =
    place_push tree (Some o) dir (directory_within tree dir is.directory) in
    record {
      directory = ap is_directory_at same ∙ is.directory;
      names = λ k. is.names k
          ∙ ap (λ (x : Option Object). names_at k x + one number k) (sym same);
    }

-- a further object, and its entry
pub counts_add : (tree : Tree) (used : ℕ) (names : List ℕ) (dir : ℕ) (slots : Slots) (o : Object)
    (now : Time) (used_new : ℕ) → AreCounts tree used names
    → IsEntered tree dir slots (length tree) → slots_within o.body ≡ []
    → used_new + blocks_at (place tree dir)
    ≡ used + blocks_of (size_of o.body) + blocks_of (264 * length slots)
    → AreCounts (change (tree ++ Some o ∷ []) dir (reslotted now slots)) used_new (names ++ 1 ∷ [])
counts_add tree used names dir slots o now used_new is entered empty blocks =
    let same : place (tree ++ Some o ∷ []) dir ≡ place tree dir =
    place_push tree (Some o) dir (directory_within tree dir entered.directory) in
    counts_reslot (tree ++ Some o ∷ []) (used + blocks_of (size_of o.body)) (names ++ 0 ∷ []) dir
    (length tree) slots now used_new (names ++ 1 ∷ []) (counts_push tree used names o is empty)
    (entered_push tree dir slots (length tree) o entered)
    (ap (λ (x : Option Object). used_new + blocks_at x) same ∙ blocks)
    (length-append names (1 ∷ []) ∙ sym (length-append names (0 ∷ [])))
    (λ k.
    let zero : cond (length names == k) 0 0 ≡ 0 = same_zero (length names == k) 0 in
    let now : cond (length names == k) 1 0 ≡ one (length tree) k =
    ap (λ (n : ℕ). one n k) is.size in
    omega (arith, zero, now, get_or-pushed names 1 k, get_or-pushed names 0 k))

abbrev two_zeros : List ℕ
two_zeros = 0 ∷ 0 ∷ []

zero_table : (k : ℕ) → get_or two_zeros k 0 ≡ zero
zero_table zero = refl
zero_table (suc zero) = refl
zero_table (suc (suc k)) = refl

pub counts_first : AreCounts first_tree 0 (0 ∷ 0 ∷ [])
unfolding used_blocks names_of
counts_first = record { blocks = refl; size = refl; at = λ k. zero_table k }

-- ---- one slot of a directory

pub exchanged_in : (slots : Slots) (i : ℕ) (s : Option Slot) (before less after : List ℕ)
    → i < length slots → ((k : ℕ) → names_in k slots ≤ get_or before k 0)
    → ((k : ℕ) → get_or less k 0 ≡ get_or before k 0 - share k (get_or slots i None))
    → ((k : ℕ) → get_or after k 0 ≡ get_or less k 0 + share k s) → (k : ℕ)
    → get_or after k 0 + names_in k slots ≡ get_or before k 0 + names_in k (set slots i s)
exchanged_in slots i s before less after lt held minus plus k =
    omega (
      arith,
      held k,
      minus k,
      plus k,
      names_set slots i s k lt,
      get_or-le-sum_by (share k) slots i None lt,
    )

-- ---- a number that a slot names

share_of : (number : ℕ) (x : Option Slot) (s : Slot) → x ≡ Some s → s.number ≡ number
    → share number x ≡ 1
share_of number x s at same = let t = eq-eqb s.number number same in
    ap (share number) at ∙ rw t refl

-- the number of an entry is an object's or was one
pub entry_within : (tree : Tree) (used : ℕ) (names : List ℕ) (dir : ℕ) (name : List ℕ) (x : ℕ × ℕ)
    → AreCounts tree used names → entry (slots_of (place tree dir)) name ≡ Some x
    → x.1 < length tree
entry_within tree used names dir name x is e = elim (cases_lt x.1 (length tree)) [
  | inl lt ↦ lt
  | inr le ↦
      let slots = slots_of (place tree dir) in
      let f = found slots name x e in
      let here : share x.1 (get_or slots x.0 None) ≡ 1 =
      share_of x.1 (get_or slots x.0 None) f.slot f.at f.number in
      let none : get_or names x.1 0 ≡ 0 = get_or_past names x.1 0 (omega (arith, le, is.size)) in
      absurd (omega (
        arith,
        here,
        none,
        is.at x.1,
        get_or-le-sum_by (share x.1) slots x.0 None f.within,
        names_placed tree dir x.1,
      ))
]

-- a further object leaves room for the new slots of its directory
pub room_pushed : (tree : Tree) (dir : ℕ) (slots : Slots) (o : Object)
    → IsEntered tree dir slots (length tree) → HasRoomFor tree dir slots (size_of o.body)
    → used_blocks (tree ++ Some o ∷ []) + blocks_of (264 * length slots)
    ≤ 65536 + blocks_at (place (tree ++ Some o ∷ []) dir)
room_pushed tree dir slots o entered room =
    let same = ap blocks_at
    (place_push tree (Some o) dir (directory_within tree dir entered.directory)) in
    omega (arith, same, used_push tree o, room.1)

file_within : (tree : Tree) (number : ℕ) → is_regular_at (place tree number) ≡ true
    → number < length tree
file_within tree number file = elim (cases_lt number (length tree)) [
  | inl lt ↦ lt
  | inr le ↦
      let none : false ≡ true =
      subst (λ (x : Option Object). is_regular_at x ≡ true) (get_or_past tree number None le) file in
      absurd cc
]

-- a tree keeps its limits where a file gets bytes that there is room for
pub kept_bytes : (tree : Tree) (number : ℕ) (f : Object → Object) (bytes : List ℕ)
    → IsWithinLimits tree → is_regular_at (place tree number) ≡ true
    → ((o : Object) → (f o).body ≡ Regular bytes)
    → used_blocks tree + blocks_of (length bytes) ≤ 65536 + blocks_at (place tree number)
    → IsWithinLimits (change tree number f)
kept_bytes tree number f bytes is file body room =
    IsWithinLimits-set tree number (changed_at f (place tree number)) is.few
    (file_within tree number file)
    (omega (arith, room, new_blocks f bytes body (place tree number) file))
