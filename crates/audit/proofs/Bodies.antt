-- The body that an object's attributes, its content and its slots make.
use Rattle.std.proofs.Common.{◌≡◌, ℕ, ◌*◌, ◌≤◌, ◌==◌, ◌||◌, not, true, false, List, [], ◌∷◌, length}
use Rattle.std.proofs.Common.{map, Option, Some, None, refl, sym, ap, ◌∙◌, arith}
use Rattle.std.specs.List.{AllByRecursion}
use Rattle.std.specs.Prelude.{nat_lt}
use Rattle.std.proofs.lemmas.Bool.{or_parts, ltb-false, eqb-true, not-false}
use Rattle.harp_types.specs.declared.attr.Kind.{Kind}
use Rattle.harp_types.specs.declared.attr.Kind.TheVariants as kind
use Rattle.file_tree.specs.declared.object.Body.{Body}
use Rattle.file_tree.specs.declared.object.Body.TheVariants as body
use Rattle.file_tree.specs.declared.object.Slot.{Slot}
use Rattle.file_tree.specs.Tree.{Slots, slots_within, is_directory as is_directory_body, kind_of}
use Rattle.file_tree.specs.Tree.{size_of}
use Rattle.harp_cells.specs.declared.value.Inode.{Inode}
use Rattle.harp_cells.specs.declared.value.Value.{Value}
use Rattle.harp_cells.specs.declared.value.Value.TheVariants as value
use Rattle.harp_cells.specs.CellsOfTree.{slot_value}
use Rattle.audit.specs.declared.attributes.Attributes.{Attributes}
use Rattle.audit.specs.Pictures.{IsObjectValue, IsSlot, attributes, is_directory_kind, is_link_kind}
use Rattle.audit.specs.Flaws.{entry_in, entry_of_value, is_odd_kind}

-- ---- bodies

abbrev pub body_by : Option Kind → List ℕ → Slots → Body
body_by None bytes slots = body.Regular []
body_by (Some kind.Regular) bytes slots = body.Regular bytes
body_by (Some kind.Directory) bytes slots = body.Directory slots
body_by (Some kind.Link) bytes slots = body.Link bytes

-- how long the content of an object is
abbrev pub content_length : Option Kind → Attributes → ℕ → ℕ
content_length None a text = 0
content_length (Some kind.Regular) a text = a.size
content_length (Some kind.Directory) a text = 0
content_length (Some kind.Link) a text = text

-- the length of a link's text
abbrev pub text_length : Body → ℕ
text_length (body.Regular bytes) = 0
text_length (body.Directory slots) = 0
text_length (body.Link text) = length text

abbrev pub IsShort : Body → Type 0
IsShort (body.Regular bytes) = length bytes ≤ 2147483647
IsShort (body.Directory slots) = Unit {0}
IsShort (body.Link text) = length text ≤ 1024

pub record Fits (k : Option Kind) (a : Attributes) (text : ℕ) (bytes : List ℕ) (slots : Slots)
    : Type 0 where
  pub kind : Some (kind_of (body_by k bytes slots)) ≡ k
  pub directory : is_directory_kind k ≡ is_directory_body (body_by k bytes slots)
  pub slots_are : is_directory_kind k ≡ true → slots ≡ slots_within (body_by k bytes slots)
  pub size : a.size ≡ size_of (body_by k bytes slots)
  pub count : a.slots ≡ length (slots_within (body_by k bytes slots))
  pub none : is_directory_kind k ≡ false → a.slots ≡ 0
  pub text_is : is_link_kind k ≡ true → text ≡ text_length (body_by k bytes slots)
  pub no_text : is_link_kind k ≡ false → 0 ≡ text_length (body_by k bytes slots)
  pub short : IsShort (body_by k bytes slots)

equal : (a b : ℕ) → not (a == b) ≡ false → a ≡ b
equal a b h = eqb-true a b (not-false (a == b) h)

-- without an odd form, and with content as long as it should be
pub body_fits : (k : Option Kind) (a : Attributes) (text : ℕ) (bytes : List ℕ) (slots : Slots)
    → is_odd_kind k a text ≡ false → length bytes ≡ content_length k a text
    → length slots ≡ a.slots → Fits k a text bytes slots
body_fits None a text bytes slots even long many = absurd cc
body_fits (Some kind.Regular) a text bytes slots even long many =
    let parts = or_parts (nat_lt 2147483647 a.size) (not (a.slots == 0)) even in
    let size : a.size ≤ 2147483647 = ltb-false 2147483647 a.size parts.0 in
    record {
      kind = refl;
      directory = refl;
      slots_are = λ d. absurd cc;
      size = sym long;
      count = equal a.slots 0 parts.1;
      none = λ d. equal a.slots 0 parts.1;
      text_is = λ l. absurd cc;
      no_text = λ l. refl;
      short = omega (arith, long);
    }
body_fits (Some kind.Directory) a text bytes slots even long many =
    record {
      kind = refl;
      directory = refl;
      slots_are = λ d. refl;
      size = equal a.size (264 * a.slots) even ∙ ap (λ n. 264 * n) (sym many);
      count = sym many;
      none = λ d. absurd cc;
      text_is = λ l. absurd cc;
      no_text = λ l. refl;
      short = tt;
    }
body_fits (Some kind.Link) a text bytes slots even long many =
    let parts =
    or_parts (not (text == a.size)) (nat_lt 1024 text || not (a.slots == 0)) even in
    let rest = or_parts (nat_lt 1024 text) (not (a.slots == 0)) parts.1 in
    let size : text ≡ a.size = equal text a.size parts.0 in
    let most : text ≤ 1024 = ltb-false 1024 text rest.0 in
    record {
      kind = refl;
      directory = refl;
      slots_are = λ d. absurd cc;
      size = sym size ∙ sym long;
      count = equal a.slots 0 rest.1;
      none = λ d. equal a.slots 0 rest.1;
      text_is = λ l. sym long;
      no_text = λ l. absurd cc;
      short = omega (arith, long);
    }

-- ---- values of objects

abbrev pub no_inode : Inode
no_inode =
    record {
      kind = kind.Regular;
      mode = 0;
      uid = 0;
      gid = 0;
      links = 0;
      parent = 0;
      size = 0;
      slots = 0;
      atime = record { seconds = 0; micros = 0 };
      mtime = record { seconds = 0; micros = 0 };
      ctime = record { seconds = 0; micros = 0 };
    }

abbrev pub inode_in : Value → Inode
inode_in (value.Object i) = i
inode_in (value.Unformed i) = no_inode
inode_in (value.Meta next used stamp) = no_inode
inode_in (value.Block bytes) = no_inode
inode_in (value.Slot object name) = no_inode
inode_in (value.Client number index reply) = no_inode
inode_in (value.Saved bytes) = no_inode
inode_in (value.SavedCred bytes) = no_inode

pub record HasInode (v : Value) (i : Inode) : Type 0 where
  pub is : v ≡ value.Object i
  pub kind : (attributes v).kind ≡ Some i.kind
  pub mode : (attributes v).mode ≡ i.mode
  pub links : (attributes v).links ≡ i.links
  pub parent : (attributes v).parent ≡ i.parent
  pub size : (attributes v).size ≡ i.size
  pub slots : (attributes v).slots ≡ i.slots

pub has_inode : (v : Value) (text : ℕ) → IsObjectValue v
    → is_odd_kind (attributes v).kind (attributes v) text ≡ false → HasInode v (inode_in v)
has_inode (value.Object i) text is even = record {
  is = refl;
  kind = refl;
  mode = refl;
  links = refl;
  parent = refl;
  size = refl;
  slots = refl;
}
has_inode (value.Unformed i) text is even = absurd cc
has_inode (value.Meta next used stamp) text is even = absurd is
has_inode (value.Block bytes) text is even = absurd is
has_inode (value.Slot object name) text is even = absurd is
has_inode (value.Client number index reply) text is even = absurd is
has_inode (value.Saved bytes) text is even = absurd is
has_inode (value.SavedCred bytes) text is even = absurd is

-- ---- slots

slot_again : (v : Value) → IsSlot (Some v) → slot_value (entry_of_value v) ≡ Some v
slot_again (value.Slot object name) is = refl
slot_again (value.Object i) is = absurd cc
slot_again (value.Unformed i) is = absurd cc
slot_again (value.Meta next used stamp) is = absurd cc
slot_again (value.Block bytes) is = absurd cc
slot_again (value.Client number index reply) is = absurd cc
slot_again (value.Saved bytes) is = absurd cc
slot_again (value.SavedCred bytes) is = absurd cc

slot_held : (v : Option Value) → IsSlot v → slot_value (entry_in v) ≡ v
slot_held None is = refl
slot_held (Some v) is = slot_again v is

-- slots that were read are those of the entries in them
pub slots_again : (vs : List (Option Value)) → AllByRecursion IsSlot vs
    → map slot_value (map entry_in vs) ≡ vs
slots_again [] all = refl
slots_again (v ∷ vs) all =
    ap (λ (w : Option Value). w ∷ map slot_value (map entry_in vs)) (slot_held v all.0)
    ∙ ap (λ (ws : List (Option Value)). v ∷ ws) (slots_again vs all.1)

entry_again : (s : Option Slot) → entry_in (slot_value s) ≡ s
entry_again None = refl
entry_again (Some s) = refl

pub entries_again : (slots : Slots) → map entry_in (map slot_value slots) ≡ slots
entries_again [] = refl
entries_again (s ∷ slots) =
    ap (λ (t : Option Slot). t ∷ map entry_in (map slot_value slots)) (entry_again s)
    ∙ ap (λ (ts : Slots). s ∷ ts) (entries_again slots)

pub slots_held : (slots : Slots) → AllByRecursion IsSlot (map slot_value slots)
slots_held [] = tt
slots_held (None ∷ slots) = (refl, slots_held slots)
slots_held (Some s ∷ slots) = (refl, slots_held slots)
