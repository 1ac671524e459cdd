-- Entries of a journal, whole and torn.
use Rattle.std.proofs.Common.{◌≡◌, ℕ, ◌+◌, ◌-◌, ◌*◌, ◌<◌, ◌≤◌, ◌^◌, List, [], ◌∷◌, ◌++◌, length, take, drop, Option, Some, None, Result, Ok, Err, refl, sym, ap, subst, ◌∙◌, append_assoc, arith, length-append}
use Rattle.std.specs.Prelude.{◌%◌, IfNone, IfOk, fold}
use Rattle.std.specs.Result.{result_ok}
use Rattle.std.proofs.lemmas.List.{take-append-drop, drop-drop, length-take, length-drop, append-nil, take_at}
use Rattle.std.proofs.Math.Seq.{drop-length}
use Rattle.std.specs.List.{flat_map}
use Rattle.harp_base.specs.declared.field.Misread.{Misread}
use Rattle.harp_base.specs.Fields.{Read, Spells, many_at, many_bytes, u64_at, u64_bytes}
use Rattle.harp_base.proofs.Codec.{IsBytes, Spells-then, bind_ok, drop_past, u64_codec}
use Rattle.harp_base.proofs.ListLaws.{many_again, many_takes}
use Rattle.harp_cells.specs.declared.change.Change.{Change}
use Rattle.harp_cells.specs.CellBytes.{change_at, change_bytes}
use Rattle.harp_cells.proofs.ChangeLaws.{change_codec}
use Rattle.store_journal.specs.JournalFile.{ChangesFit, IsFrame, IsTorn, changes_at, changes_bytes, check_sum, entry_bytes, frame_bytes}
use Rattle.store_journal.specs.Waiting.{Adds, TakesEntry, TakesUp, waiting_after, waits}
use Rattle.store_journal.specs.declared.waiting.Waiting.{Waiting}
use Rattle.harp_cells.specs.declared.cell.Cell.{Cell}
use Rattle.harp_cells.specs.declared.value.Value.{Value}

-- ---- changes

pub changes_taken : (bytes : List ℕ) (x : List Change × ℕ) → IsBytes bytes
    → changes_at bytes 0 ≡ Ok x → x.1 ≡ length bytes → bytes ≡ changes_bytes x.0
unfolding changes_at changes_bytes
changes_taken bytes x fits e end =
    let p = bind_ok (u64_at bytes 0) (λ n. many_at change_at n.0 bytes n.1) x e in
    let n = u64_codec.takes bytes 0 p.0 fits p.1 in
    let t = many_takes change_codec p.0.0 bytes p.0.1 x fits p.2 in
    let both =
    Spells-then bytes 0 (u64_bytes p.0.0) p.0.1 (many_bytes change_bytes x.0) x.1 n.0 t.0 in
    both.parts
    ∙ ap (λ (l : List ℕ). (u64_bytes p.0.0 ++ many_bytes change_bytes x.0) ++ l)
    (ap (λ (k : ℕ). drop k bytes) end ∙ drop-length bytes)
    ∙ append-nil (u64_bytes p.0.0 ++ many_bytes change_bytes x.0)
    ∙ ap (λ (k : ℕ). u64_bytes k ++ many_bytes change_bytes x.0) (sym t.1.0)

abbrev ok_changes : List Change → ℕ → Read (List Change)
ok_changes l at = Ok (l, at)

pub changes_again : (bytes : List ℕ) (x : List Change) → ChangesFit x → bytes ≡ changes_bytes x
    → changes_at bytes 0 ≡ Ok (x, length bytes)
unfolding changes_at changes_bytes
changes_again bytes x fits e =
    let text = many_bytes change_bytes x in
    let first = u64_codec.again bytes 0 (length x) text fits.0 e in
    let second =
    many_again change_codec x bytes (0 + length (u64_bytes (length x))) [] fits.1
    (drop_past bytes 0 (u64_bytes (length x)) text e ∙ sym (append-nil text)) in
    let all : 0 + length (u64_bytes (length x)) + length text ≡ length bytes =
    omega (arith, ap length e, length-append (u64_bytes (length x)) text) in
    rw (first, second) (ap (λ (k : ℕ). ok_changes x k) all)

pub same_end : (bytes : List ℕ) (x : List Change) (y : List Change × ℕ) → ChangesFit x
    → bytes ≡ changes_bytes x → changes_at bytes 0 ≡ Ok y → y.1 ≡ length bytes
same_end bytes x y fits e read =
    let h : ok_changes y.0 y.1 ≡ ok_changes x (length bytes) = sym read ∙ changes_again bytes x fits e in
    cc

pub no_misread : (bytes : List ℕ) (x : List Change) (d : Misread) → ChangesFit x
    → bytes ≡ changes_bytes x → changes_at bytes 0 ≡ Err d → ⊥
no_misread bytes x d fits e read =
    let h : Err d ≡ ok_changes x (length bytes) = sym read ∙ changes_again bytes x fits e in
    absurd cc

-- ---- frames

u64_len : (n : ℕ) → length (u64_bytes n) ≡ 8
unfolding u64_bytes
u64_len n = refl

abbrev step : ℕ → ℕ → ℕ
step s b = (s * 2654435761 + b + 1) % 4294967291

sum_small : (s : ℕ) (bytes : List ℕ) → s < 4294967291 → fold step s bytes < 4294967291
sum_small s [] h = h
sum_small s (b ∷ bytes) h = sum_small (step s b) bytes (omega arith)

pub check_small : (bytes : List ℕ) → check_sum bytes < 2 ^ 64
unfolding check_sum
check_small bytes = omega (arith, sum_small 1 bytes (omega arith))

module _ (bytes : List ℕ) (at next from end size sum : ℕ) where
  pub frame_found : Spells bytes at (u64_bytes size) next → Spells bytes next (u64_bytes sum) from
      → end ≡ from + size → end ≤ length bytes
      → check_sum (take (end - from) (drop from bytes)) ≡ sum → IsFrame bytes at from end
  unfolding frame_bytes u64_bytes
  frame_found s t e within is =
      let n = end - from in
      let inner = take n (drop from bytes) in
      let rest = drop end bytes in
      let size_is : length inner ≡ size =
      omega (arith, length-take n (drop from bytes), length-drop from bytes, e, within) in
      let parts : drop from bytes ≡ inner ++ rest =
      sym (take-append-drop n (drop from bytes))
      ∙ ap (λ (l : List ℕ). inner ++ l)
      (drop-drop n from bytes ∙ ap (λ (k : ℕ). drop k bytes) (omega (arith, e))) in
      record {
        parts = s.parts ∙ ap (λ (l : List ℕ). u64_bytes size ++ l)
            (t.parts ∙ ap (λ (l : List ℕ). u64_bytes sum ++ l) parts)
            ∙ ap (λ (k : ℕ). u64_bytes k ++ (u64_bytes sum ++ (inner ++ rest))) (sym size_is)
            ∙ ap (λ (k : ℕ). u64_bytes (length inner) ++ (u64_bytes k ++ (inner ++ rest))) (sym is)
            ∙ ap (λ (l : List ℕ). u64_bytes (length inner) ++ l)
            (sym (append_assoc (u64_bytes (check_sum inner)) inner rest))
            ∙ sym (append_assoc (u64_bytes (length inner)) (u64_bytes (check_sum inner) ++ inner) rest);
        forward =
            omega (arith, s.length_is, t.length_is, u64_len size, u64_len sum);
        order = omega (arith, e);
        within = within;
      }

abbrev pub ok_number : ℕ → ℕ → Read ℕ
ok_number n at = Ok (n, at)

-- what a whole entry at a place reads as
pub record Whole (bytes : List ℕ) (at : ℕ) (inner rest : List ℕ) : Type 0 where
  pub size : u64_at bytes at ≡ Ok (length inner, at + 8)
  pub sum : u64_at bytes (at + 8) ≡ Ok (check_sum inner, at + 8 + 8)
  pub behind : drop (at + 8 + 8) bytes ≡ inner ++ rest

pub whole : (bytes : List ℕ) (at : ℕ) (inner rest : List ℕ) → length inner < 2 ^ 64
    → drop at bytes ≡ frame_bytes inner ++ rest → Whole bytes at inner rest
unfolding frame_bytes u64_bytes
whole bytes at inner rest fits e =
    let a = u64_bytes (length inner) in
    let b = u64_bytes (check_sum inner) in
    let front : drop at bytes ≡ a ++ (b ++ (inner ++ rest)) =
    e ∙ append_assoc a (b ++ inner) rest
    ∙ ap (λ (l : List ℕ). a ++ l) (append_assoc b inner rest) in
    let second : drop (at + 8) bytes ≡ b ++ (inner ++ rest) =
    ap (λ (k : ℕ). drop (at + k) bytes) (sym (u64_len (length inner)))
    ∙ drop_past bytes at a (b ++ (inner ++ rest)) front in
    record {
      size = u64_codec.again bytes at (length inner) (b ++ (inner ++ rest)) fits front
          ∙ ap (λ (k : ℕ). ok_number (length inner) (at + k)) (u64_len (length inner));
      sum = u64_codec.again bytes (at + 8) (check_sum inner) (inner ++ rest) (check_small inner) second
          ∙ ap (λ (k : ℕ). ok_number (check_sum inner) (at + 8 + k)) (u64_len (check_sum inner));
      behind = ap (λ (k : ℕ). drop (at + 8 + k) bytes) (sym (u64_len (check_sum inner)))
          ∙ drop_past bytes (at + 8) b (inner ++ rest) second;
    }

pub first_of : (r : Read ℕ) (x : ℕ × ℕ) → result_ok r ≡ Some x → r ≡ Ok x
first_of (Ok y) x e = cc
first_of (Err d) x e = absurd cc

some_is : (x y : ℕ × ℕ) → Some x ≡ Some y → x ≡ y
some_is x y e = cc

pub within_of : (n : ℕ) (r : Read ℕ) (x : ℕ × ℕ) → result_ok r ≡ Some x → IfOk r (λ y. y.1 ≤ n)
    → x.1 ≤ n
within_of n (Ok y) x e h = subst (λ (z : ℕ × ℕ). z.1 ≤ n) (some_is y x e) h
within_of n (Err d) x e h = absurd cc

none_ok : (r : Read ℕ) (x : ℕ × ℕ) → r ≡ Ok x → result_ok r ≡ None → ⊥
none_ok r x e none = let h : result_ok r ≡ Some x = ap result_ok e in absurd cc

same_ok : (r : Read ℕ) (x y : ℕ × ℕ) → result_ok r ≡ Some x → r ≡ Ok y → x ≡ y
same_ok r x y is e = let h : result_ok r ≡ Some y = ap result_ok e in cc

module _ (bytes : List ℕ) (at : ℕ) (r : Read ℕ) (step : r ≡ u64_at bytes at) where
  pub torn_size : result_ok r ≡ None → IsTorn (drop at bytes)
  torn_size none inner rest fits e =
      none_ok r (length inner, at + 8) (step ∙ (whole bytes at inner rest fits e).size) none

  module _ (size next : ℕ) (first : result_ok r ≡ Some (size, next)) (s : Read ℕ) (step2 : s
      ≡ u64_at bytes next) where
    second : (inner rest : List ℕ) → Whole bytes at inner rest
        → (size ≡ length inner) × (s ≡ Ok (check_sum inner, at + 8 + 8))
    second inner rest w =
        let n = same_ok r (size, next) (length inner, at + 8) first (step ∙ w.size) in (
          ap (λ (x : ℕ × ℕ). x.0) n,
          step2 ∙ ap (λ (k : ℕ). u64_at bytes k) (ap (λ (x : ℕ × ℕ). x.1) n) ∙ w.sum,
        )

    pub torn_sum : result_ok s ≡ None → IsTorn (drop at bytes)
    torn_sum none inner rest fits e =
        none_ok s (check_sum inner, at + 8 + 8)
        (second inner rest (whole bytes at inner rest fits e)).1 none

    pub torn_long : (sum from : ℕ) → result_ok s ≡ Some (sum, from) → length bytes - from < size
        → IsTorn (drop at bytes)
    torn_long sum from is long inner rest fits e =
        let w = whole bytes at inner rest fits e in
        let h = second inner rest w in
        let k = ap (λ (x : ℕ × ℕ). x.1) (same_ok s (sum, from) (check_sum inner, at + 8 + 8) is h.1) in
        let all = ap length w.behind in
        absurd (omega (arith, long, h.0, k, all, length-append inner rest, length-drop (at + 8 + 8) bytes))

    pub torn_other : (sum from : ℕ) → result_ok s ≡ Some (sum, from)
        → (check_sum (take size (drop from bytes)) ≡ sum → ⊥) → IsTorn (drop at bytes)
    torn_other sum from is other inner rest fits e =
        let w = whole bytes at inner rest fits e in
        let h = second inner rest w in
        let n = same_ok s (sum, from) (check_sum inner, at + 8 + 8) is h.1 in
        let behind : drop from bytes ≡ inner ++ rest =
        ap (λ (k : ℕ). drop k bytes) (ap (λ (x : ℕ × ℕ). x.1) n) ∙ w.behind in
        let front : take size (drop from bytes) ≡ inner =
        ap (λ (l : List ℕ). take size l) behind
        ∙ take_at inner rest size (sym h.0) in
        other (ap check_sum front ∙ sym (ap (λ (x : ℕ × ℕ). x.0) n))

pub if_none : {A : Type 0} (o : Option A) (P : Type 0) → P → IfNone o P
if_none None P h = h
if_none (Some x) P h = tt

-- ---- entries, one after the other

many_push : (entries : List (List Change)) (changes : List Change)
    → many_bytes entry_bytes (entries ++ changes ∷ [])
    ≡ many_bytes entry_bytes entries ++ entry_bytes changes
unfolding many_bytes
many_push [] changes = append-nil (entry_bytes changes)
many_push (e ∷ entries) changes =
    ap (λ (l : List ℕ). entry_bytes e ++ l) (many_push entries changes)
    ∙ sym (append_assoc (entry_bytes e) (many_bytes entry_bytes entries) (entry_bytes changes))

many_none : many_bytes entry_bytes [] ≡ []
unfolding many_bytes
many_none = refl

abbrev pub Made : Type 0
Made = Option (Option Value)

abbrev pub waiting_entries : Cell → Made → List (List Change) → Made
waiting_entries c made entries = fold (λ m changes. fold (waiting_after c) m changes) made entries

fold_push : (c : Cell) (made : Made) (entries : List (List Change)) (changes : List Change)
    → waiting_entries c made (entries ++ changes ∷ [])
    ≡ fold (waiting_after c) (waiting_entries c made entries) changes
fold_push c made [] changes = refl
fold_push c made (e ∷ entries) changes = fold_push c (fold (waiting_after c) made e) entries changes

-- the entries up to a place wait
pub record TakesTo (bytes : List ℕ) (at : ℕ) (old new : Waiting) : Type 0 where
  pub entries : List (List Change)
  pub spelled : bytes ≡ many_bytes entry_bytes entries ++ drop at bytes
  pub end_is : at ≡ length (many_bytes entry_bytes entries)
  pub waiting : (c : Cell) → waits new c ≡ waiting_entries c (waits old c) entries

pub none_taken : (bytes : List ℕ) (w : Waiting) → TakesTo bytes 0 w w
none_taken bytes w = record {
  entries = [];
  spelled = ap (λ (l : List ℕ). l ++ bytes) (sym many_none);
  end_is = ap length (sym many_none);
  waiting = λ c. refl;
}

pub one_more : (bytes : List ℕ) (at next : ℕ) (old mid new : Waiting) (changes : List Change)
    → TakesTo bytes at old mid → drop at bytes ≡ entry_bytes changes ++ drop next bytes
    → at < next → next ≤ length bytes → Adds changes mid new → TakesTo bytes next old new
one_more bytes at next old mid new changes t e forward within adds =
    let spelled : bytes ≡ many_bytes entry_bytes (t.entries ++ changes ∷ []) ++ drop next bytes =
    t.spelled ∙ ap (λ (l : List ℕ). many_bytes entry_bytes t.entries ++ l) e
    ∙ sym (append_assoc (many_bytes entry_bytes t.entries) (entry_bytes changes) (drop next bytes))
    ∙ ap (λ (l : List ℕ). l ++ drop next bytes) (sym (many_push t.entries changes)) in
    record {
      entries = t.entries ++ changes ∷ [];
      spelled = spelled;
      end_is = omega (
        arith,
        ap length spelled,
        length-append (many_bytes entry_bytes (t.entries ++ changes ∷ [])) (drop next bytes),
        length-drop next bytes,
        within,
      );
      waiting = λ c. adds c
          ∙ ap (λ (m : Made). fold (waiting_after c) m changes) (t.waiting c)
          ∙ sym (fold_push c (waits old c) t.entries changes);
    }

pub all_taken : (bytes : List ℕ) (at : ℕ) (old mid new : Waiting) → TakesTo bytes at old mid
    → IsTorn (drop at bytes) → new ≡ mid → TakesUp bytes at old new
all_taken bytes at old mid new t torn e = record {
  entries = t.entries;
  tail = drop at bytes;
  spelled = t.spelled;
  torn = torn;
  end_is = t.end_is;
  waiting = λ c. ap (λ (w : Waiting). waits w c) e ∙ t.waiting c;
}
