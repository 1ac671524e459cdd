-- What comes last in a book tells what may follow.
use Rattle.std.proofs.Common.{◌≡◌, ℕ, ◌+◌, ◌<◌, ◌≤◌, ◌==◌, ◌&&◌, true, false, List, [], ◌∷◌, ◌++◌, length, get_or, fold, Option, Some, None, refl, sym, ap, ◌∙◌, subst, append_assoc, arith, inl, inr}
use Rattle.std.specs.Prelude.{◌↔◌, IfSome}
use Rattle.std.specs.List.{AllByRecursion}
use Rattle.std.proofs.lemmas.Bool.{cases_Bool, cases_eq, cases_lt, eq-eqb, ne_eqb, and_from, and_left, and_right, MatchBool-at_true, MatchBool-at_false}
use Rattle.std.proofs.lemmas.List.{append-nil, length_push, get_or_append_left, get_or_push}
use Rattle.harp_types.specs.Update.{is_update}
use Rattle.file_tree.specs.Calls.{outcome}
use Rattle.file_tree.specs.Book.{Entry, tree_after, updates, IsNextUpdate, IsRead, MayFollow, MayFollowAll, IsBook, last_next, last_of, stamp_next, last_stamp, ComesNext}
use Rattle.file_tree.proofs.BookLaws.{updates_push_update, updates_push_read, last_push, stamp_push}

follow_all : (P : List Entry → Type 0)
    → ((earlier : List Entry) (e : Entry) → P earlier → MayFollow earlier e → P (earlier ++ e ∷ []))
    → (earlier entries : List Entry) → P earlier → MayFollowAll earlier entries
    → P (earlier ++ entries)
follow_all P more earlier [] p h = rw (append-nil earlier) p
follow_all P more earlier (e ∷ entries) p h =
    subst P (append_assoc earlier (e ∷ []) entries)
    (follow_all P more (earlier ++ e ∷ []) entries (more earlier e p h.0) h.1)

-- what holds of no entries, and goes on holding where an entry follows, holds of each book
pub book_grows : (P : List Entry → Type 0) → P []
    → ((earlier : List Entry) (e : Entry) → P earlier → MayFollow earlier e → P (earlier ++ e ∷ []))
    → (entries : List Entry) → IsBook entries → P entries
book_grows P none more entries h = follow_all P more [] entries none h

all_push : (P : Entry → Type 0) (xs : List Entry) (x : Entry) → AllByRecursion P xs → P x
    → AllByRecursion P (xs ++ x ∷ [])
all_push P [] x all p = (p, tt)
all_push P (y ∷ xs) x all p = (all.0, all_push P xs x all.1 p)

all_both : (P Q R : Entry → Type 0) → ((x : Entry) → P x → Q x → R x) → (xs : List Entry)
    → AllByRecursion P xs → AllByRecursion Q xs → AllByRecursion R xs
all_both P Q R h [] p q = tt
all_both P Q R h (x ∷ xs) p q = (h x p.0 q.0, all_both P Q R h xs p.1 q.1)

-- ---- the last entries are the greatest

abbrev pub IsAtMost : Option Entry → ℕ → Type 0
IsAtMost None number = ⊥
IsAtMost (Some last) number = number ≤ last.number

-- each update of a client has a number up to its last one, and each update a stamp up to the last
pub record EndsWithLast (entries : List Entry) : Type 0 where
  pub numbers : (client : ℕ) → AllByRecursion (λ x. x.client ≡ client
      → IsAtMost (last_of client entries) x.number) (updates entries)
  pub stamps : AllByRecursion (λ x. x.stamp ≤ last_stamp entries) (updates entries)

pub order_of : (earlier : List Entry) (e : Entry) → is_update e.call ≡ true → MayFollow earlier e
    → IsNextUpdate (updates earlier) e
order_of earlier e u f = MatchBool-at_true (IsNextUpdate (updates earlier) e) (IsRead e) u f.order

last_taken : (client : ℕ) (entries : List Entry) (e : Entry) → is_update e.call ≡ true
    → e.client ≡ client → last_of client (entries ++ e ∷ []) ≡ Some e
last_taken client entries e u c = last_push client entries e
    ∙ (let t = and_from _ _ u (eq-eqb e.client client c) in rw t refl)

last_left : (client : ℕ) (entries : List Entry) (e : Entry) → (e.client ≡ client → ⊥)
    → last_of client (entries ++ e ∷ []) ≡ last_of client entries
last_left client entries e ne = last_push client entries e
    ∙ (let t : (is_update e.call && (e.client == client)) ≡ false =
    and_right _ _ (ne_eqb e.client client ne) in rw t refl)

last_read : (client : ℕ) (entries : List Entry) (e : Entry) → is_update e.call ≡ false
    → last_of client (entries ++ e ∷ []) ≡ last_of client entries
last_read client entries e u = last_push client entries e
    ∙ (let t : (is_update e.call && (e.client == client)) ≡ false = and_left _ _ u in rw t refl)

numbers_more : (earlier : List Entry) (e : Entry) → is_update e.call ≡ true → EndsWithLast earlier
    → IsNextUpdate (updates earlier) e → (client : ℕ)
    → AllByRecursion (λ x. x.client ≡ client
    → IsAtMost (last_of client (earlier ++ e ∷ [])) x.number) (updates earlier ++ e ∷ [])
numbers_more earlier e u ends next client = elim (cases_eq e.client client) [
  | inl c ↦
      let last = last_taken client earlier e u c in
      rw last (all_push (λ x. x.client ≡ client → x.number ≤ e.number) (updates earlier) e
      (all_both (λ x. x.client ≡ e.client → x.number < e.number) (λ x. x.client ≡ client
      → IsAtMost (last_of client earlier) x.number) (λ x. x.client ≡ client → x.number ≤ e.number)
      (λ x p q same. omega (arith, p (same ∙ sym c))) (updates earlier) next.number
      (ends.numbers client))
      (λ same. omega arith))
  | inr ne ↦
      let last = last_left client earlier e ne in
      rw last (all_push (λ x. x.client ≡ client
      → IsAtMost (last_of client earlier) x.number) (updates earlier) e (ends.numbers client)
      (λ same. absurd (ne same)))
]

ends_more : (earlier : List Entry) (e : Entry) → EndsWithLast earlier → MayFollow earlier e
    → EndsWithLast (earlier ++ e ∷ [])
ends_more earlier e ends f = elim (cases_Bool (is_update e.call)) [
  | inl u ↦
      let next = order_of earlier e u f in
      let stamp : last_stamp (earlier ++ e ∷ []) ≡ e.stamp = stamp_push earlier e ∙ rw u refl in
      record {
        numbers = λ client. rw (updates_push_update earlier e u)
            (numbers_more earlier e u ends next client);
        stamps = rw (updates_push_update earlier e u, stamp)
            (all_push (λ x. x.stamp ≤ e.stamp) (updates earlier) e next.stamp (omega arith));
      }
  | inr u ↦
      let stamp : last_stamp (earlier ++ e ∷ []) ≡ last_stamp earlier = stamp_push earlier e
      ∙ rw u refl in
      record {
        numbers = λ client. let last = last_read client earlier e u in
            rw (updates_push_read earlier e u, last) (ends.numbers client);
        stamps = rw (updates_push_read earlier e u, stamp) ends.stamps;
      }
]

pub book_ends : (entries : List Entry) → IsBook entries → EndsWithLast entries
book_ends entries h =
    book_grows EndsWithLast (record { numbers = λ client. tt; stamps = tt }) ends_more entries h

below : (last : Option Entry) (n m : ℕ) → IsAtMost last n → IfSome last (λ l. l.number < m) → n < m
below None n m most less = absurd most
below (Some l) n m most less = omega (arith, most, less)

all_from : (P Q : Entry → Type 0) → ((x : Entry) → P x → Q x) → (xs : List Entry)
    → AllByRecursion P xs → AllByRecursion Q xs
all_from P Q h [] p = tt
all_from P Q h (x ∷ xs) p = (h x p.0, all_from P Q h xs p.1)

-- an update may follow where it comes next after the last ones
pub next_follows : (entries : List Entry) (e : Entry) → IsBook entries → ComesNext entries e
    → MayFollow entries e
next_follows entries e book c =
    let ends = book_ends entries book in
    let u = c.update in
    record {
      reply = c.reply;
      order = rw u (record {
        index = c.index;
        stamp = all_from (λ x. x.stamp ≤ last_stamp entries) (λ x. x.stamp ≤ e.stamp)
            (λ x p. omega (arith, p, c.stamp)) (updates entries) ends.stamps;
        number = all_from (λ x. x.client ≡ e.client
            → IsAtMost (last_of e.client entries) x.number) (λ x. x.client ≡ e.client
            → x.number < e.number)
            (λ x p same. below (last_of e.client entries) x.number e.number (p same) c.number)
            (updates entries) (ends.numbers e.client);
      });
    }

-- ---- and only there

last_among : (P : Entry → Type 0) (client : ℕ) (last : Option Entry) (entries : List Entry)
    → IfSome last (λ l. P l × (l.client ≡ client)) → AllByRecursion P (updates entries)
    → IfSome (fold (last_next client) last entries) (λ l. P l × (l.client ≡ client))
last_among P client last [] p all = p
last_among P client last (e ∷ entries) p all = elim (cases_Bool (is_update e.call)) [
  | inl u ↦
      let more : updates (e ∷ entries) ≡ e ∷ updates entries = rw u refl in
      let parts : AllByRecursion P (e ∷ updates entries) = rw more at all in
      elim (cases_eq e.client client) [
        | inl c ↦
            let taken : last_next client last e ≡ Some e =
            (let t = and_from _ _ u (eq-eqb e.client client c) in rw t refl) in
            rw taken (last_among P client (Some e) entries (parts.0, c) parts.1)
        | inr ne ↦
            let left : last_next client last e ≡ last =
            (let t : (is_update e.call && (e.client == client)) ≡ false =
            and_right _ _ (ne_eqb e.client client ne) in rw t refl) in
            rw left (last_among P client last entries p parts.1)
      ]
  | inr u ↦
      let same : updates (e ∷ entries) ≡ updates entries = rw u refl in
      let left : last_next client last e ≡ last =
      (let t : (is_update e.call && (e.client == client)) ≡ false = and_left _ _ u in
      rw t refl) in
      rw left (last_among P client last entries p (rw same at all))
]

stamp_among : (most stamp : ℕ) (entries : List Entry) → stamp ≤ most
    → AllByRecursion (λ x. x.stamp ≤ most) (updates entries) → fold stamp_next stamp entries ≤ most
stamp_among most stamp [] le all = le
stamp_among most stamp (e ∷ entries) le all = elim (cases_Bool (is_update e.call)) [
  | inl u ↦
      let more : updates (e ∷ entries) ≡ e ∷ updates entries = rw u refl in
      let parts : AllByRecursion (λ x. x.stamp ≤ most) (e ∷ updates entries) = rw more at all in
      let taken : stamp_next stamp e ≡ e.stamp = rw u refl in
      rw taken (stamp_among most e.stamp entries parts.0 parts.1)
  | inr u ↦
      let same : updates (e ∷ entries) ≡ updates entries = rw u refl in
      let left : stamp_next stamp e ≡ stamp = rw u refl in
      rw left (stamp_among most stamp entries le (rw same at all))
]

some_weaker : (last : Option Entry) (client number : ℕ)
    → IfSome last (λ l. (l.client ≡ client → l.number < number) × (l.client ≡ client))
    → IfSome last (λ l. l.number < number)
some_weaker None client number h = tt
some_weaker (Some l) client number h = h.0 h.1

pub follows_next : (entries : List Entry) (e : Entry) → is_update e.call ≡ true
    → MayFollow entries e → ComesNext entries e
follows_next entries e u f =
    let next = order_of entries e u f in
    record {
      update = u;
      reply = f.reply;
      index = next.index;
      stamp = stamp_among e.stamp 0 entries (omega arith) next.stamp;
      number = some_weaker (last_of e.client entries) e.client e.number
          (last_among (λ x. x.client ≡ e.client
          → x.number < e.number) e.client None entries tt next.number);
    }

pub update_follows : (entries : List Entry) (e : Entry) → IsBook entries → is_update e.call ≡ true
    → MayFollow entries e ↔ ComesNext entries e
update_follows entries e book u = (follows_next entries e u, next_follows entries e book)

pub read_follows : (entries : List Entry) (e : Entry) → is_update e.call ≡ false
    → MayFollow entries e ↔ ((e.reply ≡ (outcome (tree_after entries) e.cred e.call e.stamp).0)
    × IsRead e)
read_follows entries e u = (
  λ f. (f.reply, MatchBool-at_false (IsNextUpdate (updates entries) e) (IsRead e) u f.order),
  λ h. record { reply = h.0; order = rw u h.1 },
)

-- ---- indices

abbrev pub AreNumbered : List Entry → Type 0
AreNumbered entries = (k : ℕ) (d : Entry) → k < length (updates entries)
    → (get_or (updates entries) k d).index ≡ k + 1

numbered_more : (earlier : List Entry) (e : Entry) → AreNumbered earlier → MayFollow earlier e
    → AreNumbered (earlier ++ e ∷ [])
numbered_more earlier e h f k d lt = elim (cases_Bool (is_update e.call)) [
  | inl u ↦
      let is = updates_push_update earlier e u in
      let next = order_of earlier e u f in
      let within : k < length (updates earlier ++ e ∷ []) = rw is at lt in
      rw is (elim (cases_lt k (length (updates earlier))) [
        | inl before ↦
            ap (λ (x : Entry). x.index) (get_or_append_left (updates earlier) (e ∷ []) d k before)
            ∙ h k d before
        | inr after ↦
            let last : length (updates earlier) ≡ k =
            omega (arith, within, after, length_push (updates earlier) e) in
            ap (λ (x : Entry). x.index) (get_or_push (updates earlier) e d k last) ∙ next.index
            ∙ omega (arith, last)
      ])
  | inr u ↦ let is = updates_push_read earlier e u in rw is (h k d (rw is at lt))
]

-- the updates of a book have the indices 1, 2, 3 and so on
pub book_numbered : (entries : List Entry) → IsBook entries → AreNumbered entries
book_numbered entries h =
    book_grows AreNumbered (λ k d lt. absurd (omega (arith, lt))) numbered_more entries h
