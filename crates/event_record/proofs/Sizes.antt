-- How many bytes fields and records have.
use Rattle.std.proofs.Common.{◌≡◌, ◌+◌, ◌<◌, ◌≤◌, ◌∙◌, ℕ, List, [], ◌∷◌, ap, arith, drop, get_or}
use Rattle.std.proofs.Common.{length, length-append, refl, sym}
use Rattle.std.proofs.lemmas.List.{at_drop_all, at_drop_more}
use Rattle.std.specs.List.{flat_map}
use Rattle.harp_types.specs.View.{View}
use Rattle.harp_types.specs.declared.attr.Attr.{Attr}
use Rattle.harp_types.specs.declared.attr.SetAttr.{SetAttr}
use Rattle.harp_types.specs.declared.cred.Cred.{Cred}
use Rattle.harp_types.specs.declared.reply.DirEntry.{DirEntry}
use Rattle.harp_base.specs.Attributes.{attr_bytes, set_attr_bytes, time_bytes}
use Rattle.harp_base.specs.Calls.{call_bytes}
use Rattle.harp_base.specs.Fields.{counted_bytes, many_bytes, u16_bytes, u32_bytes, u64_bytes}
use Rattle.harp_base.specs.Names.{cred_bytes, view_bytes}
use Rattle.harp_base.specs.Replies.{entries_bytes, entry_bytes, reply_bytes}
use Rattle.harp_cells.specs.declared.value.Inode.{Inode}
use Rattle.harp_cells.specs.declared.value.UnformedInode.{UnformedInode}
use Rattle.harp_cells.specs.CellBytes.{change_bytes}
use Rattle.harp_cells.specs.ValueBytes.{inode_bytes, unformed_bytes}
use Rattle.event_record.specs.declared.record.RecordFields.{RecordFields}
use Rattle.event_record.specs.Bytes.{changes_bytes, head_bytes, head_of, record_bytes}
use Rattle.event_record.specs.Bytes.{tail_bytes, tail_of}

-- ---- fields

pub len_u16 : (n : ℕ) → length (u16_bytes n) ≡ 2
unfolding u16_bytes
len_u16 n = refl

pub len_u32 : (n : ℕ) → length (u32_bytes n) ≡ 4
unfolding u32_bytes
len_u32 n = refl

pub len_u64 : (n : ℕ) → length (u64_bytes n) ≡ 8
unfolding u64_bytes
len_u64 n = refl

pub len_counted : (bytes : List ℕ) → length (counted_bytes bytes) ≡ 2 + length bytes
unfolding counted_bytes
len_counted bytes =
    omega (arith, length-append (u16_bytes (length bytes)) bytes, len_u16 (length bytes))

pub len_attr : (a : Attr) → length (attr_bytes a) ≡ 51
unfolding attr_bytes time_bytes u16_bytes u32_bytes
len_attr a = refl

pub len_set : (a : SetAttr) → length (set_attr_bytes a) ≡ 32
unfolding set_attr_bytes time_bytes u32_bytes
len_set a = refl

pub len_inode : (i : Inode) → length (inode_bytes i) ≡ 51
unfolding inode_bytes time_bytes u16_bytes u32_bytes
len_inode i = refl

pub len_unformed : (i : UnformedInode) → length (unformed_bytes i) ≡ 51
unfolding unformed_bytes time_bytes u16_bytes u32_bytes
len_unformed i = refl

pub len_view : (v : View) → length (view_bytes v) ≡ 9
unfolding view_bytes u64_bytes
len_view v = refl

pub len_cred : (c : Cred) → length (cred_bytes c) ≡ 8
unfolding cred_bytes u32_bytes
len_cred c = refl

pub len_entry : (e : DirEntry) → length (entry_bytes e) ≡ 10 + length e.name
unfolding entry_bytes
len_entry e = simp (length-append, len_u32, len_counted) (omega arith)

pub len_entries : (es : List DirEntry) → length (entries_bytes es)
    ≡ 2 + length (many_bytes entry_bytes es)
unfolding entries_bytes
len_entries es = omega (
  arith,
  length-append (u16_bytes (length es)) (many_bytes entry_bytes es),
  len_u16 (length es),
)

pub ruleset fields = (
  length-append,
  len_u16,
  len_u32,
  len_u64,
  len_counted,
  len_attr,
  len_set,
  len_inode,
  len_unformed,
  len_entry,
  len_entries,
)

-- ---- many of one kind

many_none : {A : Type 0} (spell : A → List ℕ) → length (many_bytes spell []) ≡ 0
unfolding many_bytes
many_none spell = refl

many_next : {A : Type 0} (spell : A → List ℕ) (x : A) (xs : List A)
    → length (many_bytes spell (x ∷ xs)) ≡ length (spell x) + length (many_bytes spell xs)
unfolding many_bytes
many_next spell x xs = length-append (spell x) (flat_map spell xs)

-- those from a place on, one by one
pub many_more : {A : Type 0} (spell : A → List ℕ) (xs : List A) (i : ℕ) (x : A) → i < length xs
    → x ≡ get_or xs i x → length (many_bytes spell (drop i xs))
    ≡ length (spell x) + length (many_bytes spell (drop (i + 1) xs))
many_more spell xs i x below is =
    at_drop_more (λ ys. length (many_bytes spell ys)) xs i x below
    ∙ ap (λ y. length (many_bytes spell (y ∷ drop (i + 1) xs))) (sym is)
    ∙ many_next spell x (drop (i + 1) xs)

pub many_past : {A : Type 0} (spell : A → List ℕ) (xs : List A) (i : ℕ) → length xs ≤ i
    → length (many_bytes spell (drop i xs)) ≡ 0
many_past spell xs i past =
    at_drop_all (λ ys. length (many_bytes spell ys)) xs i past ∙ many_none spell

-- ---- records

len_head : (r : RecordFields) → length (head_bytes (head_of r)) ≡ 29
unfolding head_bytes view_bytes u32_bytes u64_bytes
len_head r = refl

len_tail : (r : RecordFields) → length (tail_bytes (tail_of r)) ≡ length (call_bytes r.call)
    + (8 + (length (reply_bytes r.reply) + (2 + length (many_bytes change_bytes r.changes))))
unfolding tail_bytes changes_bytes
len_tail r = simp (length-append, len_u16, len_u64) (omega arith)

pub record_size : (r : RecordFields) → length (record_bytes r) ≡ 47
    + length (call_bytes r.call) + length (reply_bytes r.reply)
    + length (many_bytes change_bytes r.changes)
record_size r = simp (length-append, len_head, len_cred, len_tail) (omega arith)
