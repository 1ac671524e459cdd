-- In the picture of a sound tree nothing is found, and a picture in which nothing is found is one.
use Rattle.std.proofs.Common.{◌≡◌, ℕ, zero, suc, ◌+◌, ◌-◌, ◌<◌, ◌≤◌, ◌==◌, ◌↔◌}
use Rattle.std.proofs.Common.{not, true, false, List, [], length, replicate}
use Rattle.std.proofs.Common.{Option, Some, None, refl, sym, ap, subst, ◌∙◌, arith, inl, inr}
use Rattle.std.specs.Prelude.{nat_lt}
use Rattle.std.proofs.lemmas.Bool.{and_left, and_right, both_ways, cases_Bool, cases_eq, cases_lt}
use Rattle.std.proofs.lemmas.Bool.{eq-eqb, eqb-true, le-ltb, not_from_true}
use Rattle.std.proofs.lemmas.Bool.{or_cases, or_from}
use Rattle.std.proofs.lemmas.List.{get_or_past, length-replicate}
use Rattle.file_tree.specs.declared.object.Object.{Object}
use Rattle.file_tree.specs.Rename.{is_above}
use Rattle.file_tree.specs.Sound.{IsSound}
use Rattle.file_tree.specs.Sound.{IsSoundObject}
use Rattle.file_tree.specs.Tree.{Tree, is_directory_at}
use Rattle.file_tree.specs.Tree.{parent_of, place}
use Rattle.file_tree.specs.Tree.{used_blocks}
use Rattle.file_tree.proofs.Holders.{IsDirectory, holder_is_directory, parent_holds}
use Rattle.harp_cells.specs.declared.cell.Cell.TheVariants as cell
use Rattle.harp_cells.specs.CellsOfTree.{cell_of_tree}
use Rattle.harp_cells.specs.Effect.{Cells}
use Rattle.audit.specs.declared.picture.Picture.{Picture}
use Rattle.audit.specs.declared.picture.Portrait.{Portrait}
use Rattle.audit.specs.Pictures.{AreInOrder, IsShaped, attributes, picture_of}
use Rattle.audit.specs.Pictures.{portraits_below, totals_read}
use Rattle.audit.specs.Flaws.{above, ancestor, blocks_in, findings}
use Rattle.audit.specs.Flaws.{is_directory, is_directory_shown, is_lost}
use Rattle.audit.specs.Flaws.{parent_shown, portrait_at}
use Rattle.audit.specs.Sound.{IsSoundPicture, StandForNamed}
use Rattle.audit.proofs.Alike.{blocks_are}
use Rattle.audit.proofs.Bodies.{content_length}
use Rattle.audit.proofs.Gathered.{found_is, gathered_at, gathered_order, totals_are}
use Rattle.audit.proofs.Lookups.{each_found, none_below, none_past, same_objects}
use Rattle.audit.proofs.Ways.{enough, root_stays}
use Rattle.audit.proofs.Flawless.{IsClean, IsFlawless, IsWhole, clean}
use Rattle.audit.proofs.Whole.{Shows, above_one}
use Rattle.audit.proofs.Flawless.{long_as, nothing_found}
use Rattle.audit.proofs.Whole.{portrait_of}
use Rattle.audit.proofs.Flawless.{tree_of}
use Rattle.audit.proofs.Whole.{portrait_of_object, shows, sound, used_same}
-- the picture of a sound tree
use Rattle.audit.proofs.NoFlaw.{IsShown, alike, directory_is, no_odd_form, no_bad_slot}
use Rattle.audit.proofs.NoFlaw.{no_wrong_links, body_directory, no_wrong_parent}

-- ---- the way up

parent_placed : (tree : Tree) (n : ℕ) (o : Option Object) → is_directory_at o ≡ true
    → parent_shown (portrait_of tree n o) ≡ parent_of tree n
parent_placed tree n None d = absurd cc
parent_placed tree n (Some o) d = refl

climbs : (p : Picture) (tree : Tree) → IsShown p tree → (steps n : ℕ) → IsDirectory tree n
    → is_above steps tree 1 n ≡ true → ancestor steps p.objects n ≡ 1
unfolding ancestor is_above
climbs p tree h zero n d up = eqb-true n 1 up
climbs p tree h (suc steps) n d up = elim (cases_eq n 1) [
  | inl one ↦
      subst (λ (k : ℕ). ancestor (suc steps) p.objects k ≡ 1) (sym one)
      (root_stays (suc steps) p.objects)
  | inr ne ↦
      let above_is : above p.objects n ≡ parent_of tree n =
      above_one n p.objects ne ∙ ap parent_shown (h.shows n)
      ∙ parent_placed tree n (place tree n) d in
      let held = parent_holds tree n h.sound.entries d ne in
      elim (or_cases (n == 1) _ up) [
        | inl root ↦ absurd (ne (eqb-true n 1 root))
        | inr further ↦
            ap (ancestor steps p.objects) above_is
            ∙ climbs p tree h steps (parent_of tree n)
            (holder_is_directory tree (parent_of tree n) n held) further
      ]
]

not_lost : (p : Picture) (tree : Tree) → IsShown p tree → (n : ℕ) (o : Object)
    → place tree n ≡ Some o → is_lost p.objects (portrait_of_object tree n o) ≡ false
not_lost p tree h n o e =
    let x = portrait_of_object tree n o in
    let there = ancestor (length p.objects) p.objects n in
    elim (cases_Bool (is_directory x)) [
      | inr d ↦ and_left (is_directory x) (not (there == 1)) d
      | inl d ↦
          let dir : IsDirectory tree n = body_directory tree n o true e d in
          let up : there ≡ 1 =
          enough (length tree) p.objects n
          (none_below 1 p.next p.objects 0 h.shape.objects (omega arith))
          (climbs p tree h (length tree) n dir (h.sound.reaches n dir)) in
          and_right (is_directory x) (not (there == 1))
          (not_from_true (there == 1) (eq-eqb there 1 up))
    ]

-- ---- the whole

flawless_object : (p : Picture) (tree : Tree) → IsShown p tree → (n : ℕ) (o : Object)
    → place tree n ≡ Some o → IsFlawless p.objects (portrait_of_object tree n o)
flawless_object p tree h n o e =
    let sound : IsSoundObject (Some o) = subst IsSoundObject e (h.sound.objects n) in
    record {
      form = no_odd_form tree n o sound;
      slot = no_bad_slot p tree h n o e sound.1;
      links = no_wrong_links p tree h n o e;
      parent = no_wrong_parent p tree h n o e;
      lost = not_lost p tree h n o e;
    }

flawless_placed : (p : Picture) (tree : Tree) → IsShown p tree → (n : ℕ) (x : Portrait)
    (o : Option Object) → place tree n ≡ o → portrait_of tree n o ≡ Some x
    → IsFlawless p.objects x
flawless_placed p tree h n x None e is = absurd cc
flawless_placed p tree h n x (Some o) e is =
    let same : portrait_of_object tree n o ≡ x = cc in
    subst (IsFlawless p.objects) same (flawless_object p tree h n o e)

pub clean_picture : (p : Picture) (tree : Tree) → IsShown p tree → IsClean p
clean_picture p tree h =
    let used : p.used ≡ blocks_in p.objects =
    h.used ∙ sym (blocks_are p.next p.objects tree h.shape.objects h.next (alike p tree h)) in
    record {
      root = not_from_true (is_directory_shown (portrait_at p.objects 1))
          (directory_is p tree h 1 ∙ h.sound.root);
      space = or_from (not (p.used == blocks_in p.objects)) (nat_lt 65536 p.used)
          (not_from_true (p.used == blocks_in p.objects)
          (eq-eqb p.used (blocks_in p.objects) used))
          (le-ltb 65536 p.used (omega (arith, h.used, h.sound.limits.room)));
      objects = each_found (IsFlawless p.objects) 1 p.next p.objects h.shape.objects
          (λ n x e. flawless_placed p tree h n x (place tree n) refl (sym (h.shows n) ∙ e));
    }

-- ---- cells that stand for a tree

-- a sound tree has the number of its root
some_objects : (tree : Tree) → IsSound tree → 1 < length tree
some_objects tree sound = elim (cases_lt 1 (length tree)) [
  | inl lt ↦ lt
  | inr le ↦
      let none : is_directory_at (place tree 1) ≡ false =
      ap is_directory_at (get_or_past tree 1 None le) in
      absurd (both_ways (is_directory_at (place tree 1)) none sound.root)
]

past_tree : (tree : Tree) (n : ℕ) → length tree ≤ n → portrait_of tree n (place tree n) ≡ None
past_tree tree n le = ap (portrait_of tree n) (get_or_past tree n None le)

pub shown_by_cells : (cells : Cells) (tree : Tree) (stamp : ℕ) → StandForNamed cells tree stamp
    → IsSound tree → Shows (portraits_below cells (length tree)) tree
shown_by_cells cells tree stamp stand sound n =
    let k = length tree - 1 in
    let objects = portraits_below cells (length tree) in
    elim (cases_lt n (length tree)) [
      | inl lt ↦ elim (cases_lt n 1) [
        | inl low ↦
            none_below 1 (1 + k) objects n (gathered_order cells 1 k (1 + k) refl) low
            ∙ sym (subst (λ (m : ℕ). portrait_of tree m (place tree m) ≡ None) (omega (arith, low))
            (ap (portrait_of tree 0) sound.nothing_at_0))
        | inr from ↦
            gathered_at cells 1 k n from (omega (arith, lt))
            ∙ found_is cells tree stamp n stand sound from lt
      ]
      | inr past ↦
          none_past 1 (1 + k) objects n (gathered_order cells 1 k (1 + k) refl)
          (omega (arith, past, some_objects tree sound))
          ∙ sym (past_tree tree n past)
    ]

picture_parts : (p : Picture) (cells : Cells) (next used : ℕ) → p ≡ picture_of cells
    → totals_read (cells cell.Meta) ≡ (next, used)
    → (p.next ≡ next) × (p.used ≡ used) × (p.objects ≡ portraits_below cells next)
picture_parts p cells next used is totals = (
  ap (λ (q : Picture). q.next) is ∙ ap (λ (t : ℕ × ℕ). t.0) totals,
  ap (λ (q : Picture). q.used) is ∙ ap (λ (t : ℕ × ℕ). t.1) totals,
  ap (λ (q : Picture). q.objects) is
      ∙ ap (λ (t : ℕ × ℕ). portraits_below cells t.0) totals,
)

shown_picture : (p : Picture) → IsShaped p → (s : IsSoundPicture p) → IsShown p s.tree
shown_picture p shape s =
    let parts = picture_parts p s.cells (length s.tree) (used_blocks s.tree) s.picture
    (totals_are s.cells s.tree s.stamp s.stand) in
    record {
      shape = shape;
      next = parts.0;
      used = parts.1;
      shows = λ n. ap (λ (xs : List Portrait). portrait_at xs n) parts.2
          ∙ shown_by_cells s.cells s.tree s.stamp s.stand s.sound n;
      sound = s.sound;
    }

-- the picture of a sound tree is that of its cells
picture_same : (p q : Picture) → p.next ≡ q.next → p.used ≡ q.used → p.objects ≡ q.objects → p ≡ q
picture_same p q n u o =
    ap (λ (v : ℕ). let z : Picture = record { next = v; used = p.used; objects = p.objects } in z) n
    ∙ ap (λ (v : ℕ). let z : Picture = record { next = q.next; used = v; objects = p.objects } in z)
    u
    ∙ ap (λ (v : List Portrait).
    let z : Picture = record { next = q.next; used = q.used; objects = v } in z) o

pub own_cells : Tree → Cells
own_cells tree = cell_of_tree tree 0 (λ client. None)

own_stand : (tree : Tree) → StandForNamed (own_cells tree) tree 0
unfolding own_cells
own_stand tree c named = refl

own_picture : (p : Picture) (tree : Tree) → IsShown p tree → p ≡ picture_of (own_cells tree)
own_picture p tree h =
    let cells = own_cells tree in
    let totals = totals_are cells tree 0 (own_stand tree) in
    let k = length tree - 1 in
    let two = some_objects tree h.sound in
    let same : p.objects ≡ portraits_below cells (length tree) =
    same_objects 1 (length tree) p.objects (portraits_below cells (length tree))
    (subst (λ (n : ℕ). AreInOrder 1 n p.objects) h.next h.shape.objects)
    (gathered_order cells 1 k (length tree) (omega (arith, two)))
    (λ n. h.shows n ∙ sym (shown_by_cells cells tree 0 (own_stand tree) h.sound n)) in
    picture_same p (picture_of cells)
    (h.next ∙ sym (ap (λ (t : ℕ × ℕ). t.0) totals))
    (h.used ∙ sym (ap (λ (t : ℕ × ℕ). t.1) totals))
    (same ∙ sym (ap (λ (t : ℕ × ℕ). portraits_below cells t.0) totals))

-- ---- the law

-- zeros, as many as the content of an object has
zeros_of : Option Portrait → List ℕ
zeros_of None = []
zeros_of (Some x) =
    replicate (content_length (attributes x.object).kind (attributes x.object) x.text) 0

zeros : List Portrait → ℕ → List ℕ
zeros objects n = zeros_of (portrait_at objects n)

zeros_fill : (objects : List Portrait) (n : ℕ) (x : Portrait) → portrait_at objects n ≡ Some x
    → length (zeros objects n)
    ≡ content_length (attributes x.object).kind (attributes x.object) x.text
unfolding zeros zeros_of
zeros_fill objects n x e =
    ap (λ (y : Option Portrait). length (zeros_of y)) e
    ∙ length-replicate
    (content_length (attributes x.object).kind (attributes x.object) x.text) 0

pub made_shown : (content : ℕ → List ℕ) (p : Picture) → IsWhole content p
    → IsShown p (tree_of content p)
made_shown content p w = record {
  shape = w.shape;
  next = long_as content p;
  used = used_same content p w;
  shows = shows content p w;
  sound = sound content p w;
}

pub sound_where_nothing_is_found : (p : Picture) → IsShaped p → findings p ≡ [] ↔ IsSoundPicture p
sound_where_nothing_is_found p shape = (
  (λ none.
      let content = zeros p.objects in
      let w : IsWhole content p =
      record { shape = shape; clean = clean p none; filled = zeros_fill p.objects } in
      let h = made_shown content p w in
      record {
        cells = own_cells (tree_of content p);
        tree = tree_of content p;
        stamp = 0;
        stand = own_stand (tree_of content p);
        sound = h.sound;
        picture = own_picture p (tree_of content p) h;
      }),
  (λ s. nothing_found p (clean_picture p s.tree (shown_picture p shape s))),
)
