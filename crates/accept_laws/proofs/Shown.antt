-- What the reply of a call shows of the tree that the call leaves.
use Rattle.std.proofs.Common.{◌≡◌, ℕ, ◌+◌, ◌-◌, ◌<◌, ◌≤◌, ◌^◌, Bool, false, if◌then◌else◌, List, [], ◌∷◌, length, Some, None, Ok, sym, subst, arith}
use Rattle.std.specs.Prelude.{nat_le}
use Rattle.std.specs.List.{AllByRecursion}
use Rattle.std.proofs.lemmas.Bool.{cond_both, leb-true}
use Rattle.harp_base.specs.Attributes.{AttrFits}
use Rattle.harp_types.specs.declared.attr.Attr.{Attr}
use Rattle.harp_types.specs.declared.reply.DirEntry.{DirEntry}
use Rattle.harp_types.specs.declared.reply.Reply.{Reply}
use Rattle.harp_types.specs.declared.reply.Reply.TheVariants as reply
use Rattle.file_tree.specs.declared.object.Body.{Body}
use Rattle.file_tree.specs.declared.object.Body.TheVariants.{Regular, Directory, Link}
use Rattle.file_tree.specs.declared.object.Object.{Object}
use Rattle.file_tree.specs.Tree.{Tree, Slots, attr_at, blocks_of, place, size_of}
use Rattle.file_tree.specs.Tries.{text_in}
use Rattle.file_tree.specs.Outcome.{entries_from, entries_of, entry_size, page_of}
use Rattle.file_tree.specs.Sound.{IsSound, IsSoundBody, IsSoundObject}
use Rattle.file_tree.proofs.Holders.{parent_of-lt}
use Rattle.file_tree.proofs.Reslots.{root_within}
use Rattle.file_tree.proofs.TryLaws.{IsDirectoryOf}
use Rattle.accept_laws.specs.Trees.{AreOctets, BodyFits, SlotFits, TreeFits}
use Rattle.accept_laws.specs.Replies.{DirEntryFits, PageFits, ReplyWithin}
use Rattle.accept_laws.proofs.Attrs.{attr_fits, blocks_few, object_fits}

-- the attributes of an object of a tree
pub record IsAttrOf (tree : Tree) (attr : Attr) : Type 0 where
  pub number : ℕ
  pub fits : number < 2 ^ 32
  pub is : attr ≡ attr_at tree number

abbrev pub Shown : Reply → Tree → Type 0
Shown (reply.Refused status) tree = Unit {0}
Shown reply.Done tree = Unit {0}
Shown (reply.Attr attr) tree = IsAttrOf tree attr
Shown (reply.Node handle attr) tree = (handle < 2 ^ 32) × IsAttrOf tree attr
Shown (reply.Path text) tree = (length text ≤ 1024) × AreOctets text
Shown (reply.Bytes attr bytes) tree = IsAttrOf tree attr × (length bytes ≤ 8192) × AreOctets bytes
Shown (reply.Page entries eof) tree = PageFits 8192 entries
Shown (reply.Space transfer block blocks free available) tree =
    (transfer < 2 ^ 32) × (block < 2 ^ 32) × (blocks < 2 ^ 32) × (free < 2 ^ 32)
    × (available < 2 ^ 32)

shown_attr : (tree : Tree) (attr : Attr) → IsSound tree → TreeFits tree → IsAttrOf tree attr
    → AttrFits attr
shown_attr tree attr is h a = subst AttrFits (sym a.is) (attr_fits tree a.number is h a.fits)

-- what shows fitting trees fits
pub shown_fits : (r : Reply) (tree : Tree) → IsSound tree → TreeFits tree → Shown r tree
    → ReplyWithin r
shown_fits (reply.Refused status) tree is h s = tt
shown_fits reply.Done tree is h s = tt
shown_fits (reply.Attr attr) tree is h s = shown_attr tree attr is h s
shown_fits (reply.Node handle attr) tree is h s = (s.0, shown_attr tree attr is h s.1)
shown_fits (reply.Path text) tree is h s = s
shown_fits (reply.Bytes attr bytes) tree is h s = (shown_attr tree attr is h s.0, s.1, s.2)
shown_fits (reply.Page entries eof) tree is h s = s
shown_fits (reply.Space transfer block blocks free available) tree is h s = s

-- ---- texts

pub text_is : (b : Body) (text : List ℕ) → text_in b ≡ Ok text → b ≡ Link text
text_is (Link text) other e = cc
text_is (Regular bytes) other e = absurd cc
text_is (Directory slots) other e = absurd cc

pub path_shown : (tree : Tree) (n : ℕ) (o : Object) (text : List ℕ) → IsSound tree
    → TreeFits tree → place tree n ≡ Some o → o.body ≡ Link text
    → (length text ≤ 1024) × AreOctets text
path_shown tree n o text is h at body =
    let sound : IsSoundObject (Some o) = subst IsSoundObject at (is.objects n) in (
      subst IsSoundBody body sound.1,
      subst BodyFits body (object_fits tree n o h at).body,
    )

-- ---- pages

entries_fit : (cookie : ℕ) (slots : Slots) → cookie + length slots < 2 ^ 32
    → AllByRecursion SlotFits slots → AllByRecursion DirEntryFits (entries_from cookie slots)
unfolding entries_from
entries_fit cookie [] lt h = tt
entries_fit cookie (None ∷ slots) lt h = entries_fit (cookie + 1) slots (omega (arith, lt)) h.1
entries_fit cookie (Some s ∷ slots) lt h = (
  record {
    fileid = h.0.0;
    few = h.0.1.few;
    octets = h.0.2;
    cookie = omega (arith, lt);
  },
  entries_fit (cookie + 1) slots (omega (arith, lt)) h.1,
)

slots_few : (tree : Tree) (dir : ℕ) (slots : Slots) → IsSound tree → IsDirectoryOf tree dir slots
    → length slots ≤ 1048576
slots_few tree dir slots is d =
    let few : blocks_of (size_of (Directory slots)) ≤ 65536 =
    subst (λ (b : Body). blocks_of (size_of b) ≤ 65536) d.body
    (blocks_few tree dir d.object is d.at) in
    omega (arith, few)

dots_fit : (tree : Tree) (dir : ℕ) (slots : Slots) → IsSound tree → dir < 2 ^ 32
    → IsDirectoryOf tree dir slots → AllByRecursion SlotFits slots
    → AllByRecursion DirEntryFits (entries_of tree dir slots)
dots_fit tree dir slots is lt d h =
    let few = slots_few tree dir slots is d in
    let up = parent_of-lt tree dir (root_within tree is.root) in (
      record {
        fileid = lt;
        few = omega arith;
        octets = (omega arith, tt);
        cookie = omega arith;
      },
      (
        record {
          fileid = omega (arith, up, is.limits.few);
          few = omega arith;
          octets = (omega arith, (omega arith, tt));
          cookie = omega arith;
        },
        entries_fit 3 slots (omega (arith, few)) h,
      ),
    )

page_fits : (above most : ℕ) (es : List DirEntry) → AllByRecursion DirEntryFits es
    → PageFits most (page_of above most es).0
unfolding page_of
page_fits above most [] h = tt
page_fits above most (e ∷ es) h =
    let after = page_of above (most - entry_size e) es in
    cond_both (nat_le e.cookie above) (page_of above most es)
    (if nat_le (entry_size e) most then (e ∷ after.0, after.1) else ([], false))
    (λ (p : List DirEntry × Bool). PageFits most p.0)
    (λ t. page_fits above most es h.1)
    (λ t. cond_both (nat_le (entry_size e) most) (e ∷ after.0, after.1) ([], false)
    (λ (p : List DirEntry × Bool). PageFits most p.0)
    (λ u. let le = leb-true (entry_size e) most u in (
      h.0,
      most - entry_size e,
      omega (arith, le),
      page_fits above (most - entry_size e) es h.1,
    ))
    (λ u. tt))

page_more : (a b : ℕ) (es : List DirEntry) → a ≤ b → PageFits a es → PageFits b es
page_more a b [] le h = tt
page_more a b (e ∷ es) le h = let fits = h.2 in (h.0, h.1, omega (arith, le, fits), h.3)

pub page_shown : (tree : Tree) (dir above most : ℕ) (slots : Slots) → IsSound tree
    → TreeFits tree → dir < 2 ^ 32 → most ≤ 8192 → IsDirectoryOf tree dir slots
    → PageFits 8192 (page_of above most (entries_of tree dir slots)).0
page_shown tree dir above most slots is h lt le d =
    let fits : BodyFits (Directory slots) =
    subst BodyFits d.body (object_fits tree dir d.object h d.at).body in
    page_more most 8192 _ le
    (page_fits above most (entries_of tree dir slots) (dots_fit tree dir slots is lt d fits))
