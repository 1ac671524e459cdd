-- The lines of listings fit.
use Rattle.std.proofs.Common.{◌≡◌, ℕ, zero, suc, ◌+◌, ◌*◌, ◌<◌, ◌≤◌, ◌^◌, Bool, true, false, List, [], ◌∷◌, ◌++◌, take, drop, length, get_or, Option, Some, None, refl, sym, ap, ◌∙◌, subst, arith, if◌then◌else◌}
use Rattle.std.specs.List.{AllByRecursion}
use Rattle.std.proofs.lemmas.List.{length-take}
use Rattle.trace_types.specs.declared.line.Line.{Line}
use Rattle.trace_types.specs.declared.line.Line.TheVariants as line
use Rattle.trace_types.specs.declared.step.Step.{Step}
use Rattle.trace_types.specs.declared.step.Step.TheVariants as step
use Rattle.trace_claims.specs.Listing.{all_zero, block_line, block_lines, body_lines, living, object_lines, objects_from, slot_lines, tree_lines}
use Rattle.trace_claims.proofs.Places.{all-append}
use Rattle.file_tree.specs.Book.{Entry, tree_after}
use Rattle.file_tree.specs.declared.object.Body.{Body}
use Rattle.file_tree.specs.declared.object.Body.TheVariants as body
use Rattle.file_tree.specs.declared.object.Object.{Object}
use Rattle.file_tree.specs.Sound.{IsSound, IsSoundBody, IsSoundObject}
use Rattle.file_tree.specs.Tree.{Slots, Tree, attr_of, blocks_of, place, size_of}
use Rattle.file_tree.proofs.Kept.{place_within}
use Rattle.file_tree.proofs.SoundLaws.{book_sound}
use Rattle.group_rules.specs.Disk.{settled_tests}
use Rattle.group_rules.specs.Names.{id_of, place_of}
use Rattle.group_rules.specs.Places.{Place, all_of}
use Rattle.group_rules.specs.State.{Group, Server, top}
use Rattle.group_rules.specs.Step.{list_of}
use Rattle.group_rules.proofs.Tests.{by_if, each_of}
use Rattle.group_safety.specs.Laws.{Whole}
use Rattle.group_safety.specs.Words.{Each}
use Rattle.group_safety.proofs.Modes.{settled_is}
use Rattle.group_trace.specs.Lines.{listed_lines, listing_of}
use Rattle.trace_text.specs.Fits.{IsCount, LineFits}
use Rattle.accept_laws.specs.Walks.{EntryWithin}
use Rattle.accept_laws.specs.Trees.{AreOctets, BodyFits, SlotFits, TreeFits}
use Rattle.accept_laws.proofs.Attrs.{blocks_few, object_attr, object_fits}
use Rattle.accept_laws.proofs.TreeLists.{all-drop, all-take, octet_at}
use Rattle.accept_laws.specs.Laws.{LineIn}
use Rattle.accept_laws.specs.Within.{IsWithin}
use Rattle.accept_laws.proofs.Lists.{each_take}
use Rattle.accept_laws.proofs.Messages.{AreSmall}
use Rattle.accept_laws.proofs.ShortLines.{lined}
use Rattle.accept_laws.proofs.Trees.{tree_fits}

abbrev AllFits : List Line → Type 0
AllFits ls = AllByRecursion LineIn ls

fits_both : (xs ys : List Line) → AllFits xs → AllFits ys → AllFits (xs ++ ys)
fits_both xs ys = all-append LineIn xs ys

-- ---- the parts of an object

slots_fit : (dir i : ℕ) (slots : Slots) → dir < 2 ^ 32 → i + length slots < 2 ^ 32
    → AllByRecursion SlotFits slots → AllFits (slot_lines dir i slots)
unfolding slot_lines
slots_fit dir i [] d l h = tt
slots_fit dir i (None ∷ slots) d l h = slots_fit dir (i + 1) slots d (omega (arith, l)) h.1
slots_fit dir i (Some s ∷ slots) d l h = (
  lined (line.Slot dir i s.number s.name) tt (
    d,
    omega (arith, l),
    h.0.0,
    (record { few = h.0.1.few; fit = octet_at s.name h.0.2 }, h.0.1.some),
  ),
  slots_fit dir (i + 1) slots d (omega (arith, l)) h.1,
)

some_byte : (bytes : List ℕ) → all_zero bytes ≡ false → 1 ≤ length bytes
unfolding all_zero
some_byte [] e = absurd cc
some_byte (b ∷ bytes) e = omega arith

blocks_fit : (file i n : ℕ) (bytes : List ℕ) → file < 2 ^ 32 → i + n < 2 ^ 32 → AreOctets bytes
    → AllFits (block_lines file i n bytes)
unfolding block_lines
blocks_fit file i zero bytes f l h = tt
blocks_fit file i (suc n) bytes f l h =
    let P : ℕ → Type 0 = λ b. b < 256 in
    let part = take 4096 bytes in
    let cut = length-take 4096 bytes in
    fits_both (block_line file i part) (block_lines file (i + 1) n (drop 4096 bytes))
    (by_if AllFits (all_zero part) [] (line.Block file i part ∷ []) (λ _. tt) (λ z. (
      lined (line.Block file i part) tt (
        f,
        omega (arith, l),
        (
          record { few = omega (arith, cut); fit = octet_at part (all-take P 4096 bytes h) },
          some_byte part z,
        ),
      ),
      tt,
    )))
    (blocks_fit file (i + 1) n (drop 4096 bytes) f (omega (arith, l)) (all-drop P 4096 bytes h))

body_fit : (number : ℕ) (b : Body) → number < 2 ^ 32 → blocks_of (size_of b) ≤ 65536
    → IsSoundBody b → BodyFits b → AllFits (body_lines number b)
body_fit number (body.Regular bytes) n few sound h =
    blocks_fit number 0 (blocks_of (length bytes)) bytes n (omega (arith, few)) h
body_fit number (body.Directory slots) n few sound h =
    slots_fit number 0 slots n (omega (arith, few)) h
body_fit number (body.Link text) n few sound h = (
  lined (line.Text number text) tt (n, record { few = sound; fit = octet_at text h }),
  tt,
)

-- ---- a tree

object_fit : (tree : Tree) (number : ℕ) (o : Option Object) → IsSound tree → TreeFits tree
    → place tree number ≡ o → AllFits (object_lines tree number o)
object_fit tree number None is h at = tt
object_fit tree number (Some o) is h at =
    let within = place_within tree number o at in
    let lt : number < 2 ^ 32 = omega (arith, within, is.limits.few) in
    let fits = object_fits tree number o h at in
    let sound : IsSoundObject (Some o) = subst IsSoundObject at (is.objects number) in (
      lined (line.Object (attr_of tree number o)) tt (object_attr tree number o is at fits lt),
      body_fit number o.body lt (blocks_few tree number o is at) sound.1 fits.body,
    )

objects_fit : (tree : Tree) (number : ℕ) (os : List (Option Object)) → IsSound tree
    → TreeFits tree → ((k : ℕ) → get_or os k None ≡ place tree (number + k))
    → AllFits (objects_from tree number os)
unfolding objects_from
objects_fit tree number [] is h at = tt
objects_fit tree number (o ∷ os) is h at =
    let here : number ≡ number + 0 = omega arith in
    fits_both (object_lines tree number o) (objects_from tree (number + 1) os)
    (object_fit tree number o is h (ap (place tree) here ∙ sym (at 0)))
    (objects_fit tree (number + 1) os is h (λ k.
    let next : number + suc k ≡ number + 1 + k = omega arith in
    at (suc k) ∙ ap (place tree) next))

pub tree_fit : (tree : Tree) → IsSound tree → TreeFits tree → AllFits (tree_lines tree)
tree_fit tree is h = objects_fit tree 0 tree is h (λ k.
    let same : k ≡ 0 + k = omega arith in ap (place tree) same)

living_few : (os : List (Option Object)) → living os ≤ length os
unfolding living
living_few [] = omega arith
living_few (None ∷ os) = let rest = living_few os in omega (arith, rest)
living_few (Some o ∷ os) = let rest = living_few os in omega (arith, rest)

-- ---- the listing of a step

pub listing_fits : (n late : ℕ) → AreSmall n late → (g : Group Entry) → Whole g
    → IsWithin n late g → (s : Step) → AllFits (listing_of g s)
listing_fits n late small g h w (step.List server) =
    let q = place_of server in
    by_if AllFits (all_of (settled_tests q (g.server q)))
    (listed_lines q (g.server q).cp (tree_after (take (g.server q).cp (list_of g q)))) _
    (λ t.
    let s = g.server q in
    let list = (g.page s.accepted).list in
    let es = take s.cp (list_of g q) in
    let tree = tree_after es in
    let active = settled_is s.mode (each_of (settled_tests q s) t).0 in
    let log = (h.ok.server q).logs.log ((h.ok.server q).modes.active active).0 in
    let cp = log.cp_top in
    let top' = log.holds.within in
    let few = (w.page s.accepted).few in
    let most = small.count in
    let is = book_sound es in
    let live = living_few tree in
    let E = EntryWithin n late in
    let fits = tree_fits n late es
    (each_take E s.cp (list_of g q) (each_take E (top s) list (w.page s.accepted).entries)) in (
      lined (line.Listed (id_of q) s.cp (living tree)) tt
          (omega (arith, cp, top', few, most), omega (arith, live, is.limits.few)),
      tree_fit tree is fits,
    ))
    (λ _. (lined (line.Unlisted (id_of q)) tt tt, tt))
listing_fits n late small g h w s = tt
