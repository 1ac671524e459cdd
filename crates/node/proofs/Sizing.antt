-- The records of a list's log take the bytes that the list says.
use Rattle.std.proofs.Common.{◌≡◌, ℕ, zero, suc, ◌+◌, ◌-◌, List, [], ◌∷◌, ◌++◌, length, take, refl, ap, sym, ◌∙◌, subst, arith}
use Rattle.std.specs.Prelude.{drop, map}
use Rattle.std.proofs.lemmas.List.{drop-map, length-append}
use Rattle.event_record.specs.Bytes.{head_bytes, head_of, tail_bytes, tail_of}
use Rattle.event_record.specs.Record.{entry_of}
use Rattle.event_record.specs.declared.record.RecordFields.{RecordFields}
use Rattle.file_tree.specs.Book.{Entry}
use Rattle.group_rules.specs.Names.{view_of}
use Rattle.harp_base.specs.Fields.{u32_bytes, u64_bytes}
use Rattle.harp_base.specs.Names.{cred_bytes, view_bytes}
use Rattle.harp_types.specs.View.{View}
use Rattle.harp_cells.specs.declared.change.Change.{Change}
use Rattle.idle_log.specs.LogLaws.{Sized}
use Rattle.tree_log.specs.Records.{record_of}
use Rattle.node.specs.Node.{NodeValue}
use Rattle.node.specs.Serving.{AreSized, entry_size}
use Rattle.node.specs.Stored.{log_of}
use Rattle.record_changes.proofs.Histories.{fronts, grow}
use Rattle.record_changes.specs.Records.{history_of}
use Rattle.tree_log.specs.Reading.{IsOfList}
use Rattle.tree_log.specs.TreeLog.{changes_in}
use Rattle.witness.specs.Serving.{record_size}

-- ---- a record of another view has as many bytes

len_head : (r : RecordFields) → length (head_bytes (head_of r)) ≡ 29
unfolding head_bytes view_bytes u64_bytes u32_bytes
len_head r = refl

same_size : (r : RecordFields) (v : View) → record_size (record r { stamped = v }) ≡ record_size r
same_size r v =
    let cred = cred_bytes r.cred in
    let tail = tail_bytes (tail_of r) in
    length-append (head_bytes (head_of (record r { stamped = v })) ++ cred) tail
    ∙ ap (λ n. n + length tail) (length-append (head_bytes (head_of (record r { stamped = v })))
    cred
    ∙ ap (λ n. n + length cred) (len_head (record r { stamped = v }) ∙ sym (len_head r))
    ∙ sym (length-append (head_bytes (head_of r)) cred))
    ∙ sym (length-append (head_bytes (head_of r) ++ cred) tail)

-- ---- lists by their places

take_more : {A : Type 0} → (n : ℕ) (xs : List A) (y : A) (ys : List A) → drop n xs ≡ y ∷ ys
    → take (suc n) xs ≡ take n xs ++ y ∷ []
take_more zero [] y ys is = cc
take_more zero (x ∷ xs) y ys is = let same : x ≡ y = cc in ap (λ z. z ∷ []) same
take_more (suc n) [] y ys is = cc
take_more (suc n) (x ∷ xs) y ys is = ap (λ zs. x ∷ zs) (take_more n xs y ys is)

drop_more : {A : Type 0} → (n : ℕ) (xs : List A) (y : A) (ys : List A) → drop n xs ≡ y ∷ ys
    → drop (suc n) xs ≡ ys
drop_more zero [] y ys is = cc
drop_more zero (x ∷ xs) y ys is = let same : xs ≡ ys = cc in same
drop_more (suc n) [] y ys is = cc
drop_more (suc n) (x ∷ xs) y ys is = drop_more n xs y ys is

none_dropped : {A : Type 0} → (n : ℕ) → drop {A = A} n [] ≡ []
none_dropped zero = refl
none_dropped (suc n) = refl

drop_both : {A : Type 0} → (a b : ℕ) (xs : List A) → drop b (drop a xs) ≡ drop (a + b) xs
drop_both zero b xs = ap (λ k. drop k xs) (let e : b ≡ zero + b = omega arith in e)
drop_both (suc a) b [] = none_dropped b ∙ sym (none_dropped (suc a + b))
drop_both (suc a) b (x ∷ xs) = drop_both a b xs
    ∙ ap (λ k. drop k (x ∷ xs)) (let e : suc (a + b) ≡ suc a + b = omega arith in e)

last_is : {A : Type 0} → (xs : List A) (a b : A) → xs ++ a ∷ [] ≡ xs ++ b ∷ [] → a ≡ b
last_is [] a b is = let same : a ≡ b = cc in same
last_is (x ∷ xs) a b is = last_is xs a b (let rest : xs ++ a ∷ [] ≡ xs ++ b ∷ [] = cc in rest)

-- the changes at a place of a history are those of its record
changes_at : (list : List Entry) (n : ℕ) (e : Entry) (es : List Entry) (c : List Change)
    (cs : List (List Change)) → drop n list ≡ e ∷ es → drop n (history_of list) ≡ c ∷ cs
    → c ≡ (record_of (view_of 0) (take n list) e).changes
changes_at list n e es c cs entries changes =
    last_is (history_of (take n list)) c (record_of (view_of 0) (take n list) e).changes
    (ap (λ h. h ++ c ∷ []) (sym (fronts list n))
    ∙ sym (take_more n (history_of list) c cs changes)
    ∙ fronts list (suc n)
    ∙ ap history_of (take_more n list e es entries)
    ∙ grow (take n list) e)

size_at : (r : RecordFields) (before : List Entry)
    → r.changes ≡ (record_of (view_of 0) before (entry_of r)).changes
    → entry_size before (entry_of r) ≡ record_size r
size_at r before is =
    ap (λ (cs : List Change). record_size (record r { stamped = view_of 0; changes = cs })) (sym is)
    ∙ same_size r (view_of 0)

sized_from : (list : List Entry) (n : ℕ) (rs : List RecordFields) → map entry_of rs ≡ drop n list
    → changes_in rs ≡ drop n (history_of list) → Sized entry_size record_size (take n list) rs
sized_from list n [] entries changes = tt
sized_from list n (r ∷ rs) entries changes = (
  size_at r (take n list) (changes_at list n (entry_of r) (map entry_of rs) r.changes
      (changes_in rs) (sym entries) (sym changes)),
  subst (λ (es : List Entry). Sized entry_size record_size es rs)
      (take_more n list (entry_of r) (map entry_of rs) (sym entries))
      (sized_from list (suc n) rs
      (sym (drop_more n list (entry_of r) (map entry_of rs) (sym entries)))
      (sym (drop_more n (history_of list) r.changes (changes_in rs) (sym changes)))),
)

sized_take : (k : ℕ) (before : List Entry) (rs : List RecordFields)
    → Sized entry_size record_size before rs → Sized entry_size record_size before (take k rs)
sized_take zero before rs h = tt
sized_take (suc k) before [] h = tt
sized_take (suc k) before (r ∷ rs) h = (h.0, sized_take k (before ++ entry_of r ∷ []) rs h.1)

-- ---- a log of a list

pub are_sized : (list : List Entry) (n : NodeValue) (index last : ℕ) → IsOfList list (log_of n)
    → AreSized entry_size list n index last
are_sized list n index last is above =
    let base = n.plain.base in
    let m = index - 1 - base in
    let to : base + m ≡ index - 1 = omega (arith, above) in
    let entries : map entry_of (drop m n.records) ≡ drop (index - 1) list =
    sym (drop-map entry_of m n.records) ∙ ap (drop m) is.entries ∙ drop_both base m list
    ∙ ap (λ k. drop k list) to in
    let changes : changes_in (drop m n.records) ≡ drop (index - 1) (history_of list) =
    sym (drop-map (λ (r : RecordFields). r.changes) m n.records) ∙ ap (drop m) is.changes
    ∙ drop_both base m (history_of list) ∙ ap (λ k. drop k (history_of list)) to in
    sized_take (last - (index - 1)) (take (index - 1) list) (drop m n.records)
    (sized_from list (index - 1) (drop m n.records) entries changes)
