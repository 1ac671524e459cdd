-- What is kept of the entered calls, as they grow.
use Rattle.std.proofs.Common.{◌≡◌, ℕ, ◌+◌, ◌-◌, ◌<◌, ◌≤◌, Bool, true, false, List, [], ◌∷◌, length, get_or, Option, Some, None, refl, sym, ap, subst, ◌∙◌, arith, inl, inr}
use Rattle.std.specs.Prelude.{◌↔◌, ◌⊎◌, map, filter, Contains, IfSome, IsTrue, MatchBool, nat_lt}
use Rattle.std.specs.Bool.{if◌then◌else◌}
use Rattle.std.specs.Option.{option_map}
use Rattle.std.proofs.lemmas.Bool.{lt-ltb, ltb-true}
use Rattle.std.proofs.lemmas.List.Elements.{All-contains, All-contains_itself, All-filter, filter_passes, Contains-append_cases, Contains-append_left, Contains-append_right, Contains-push, Contains-push_cases}
use Rattle.std.proofs.lemmas.List.{get_or-map, get_or_default, length-map}
use Rattle.harp_types.specs.declared.reply.Reply.{Reply}
use Rattle.harp_types.specs.declared.call.Call.TheVariants.{Null}
use Rattle.harp_types.specs.declared.reply.Reply.TheVariants.{Done}
use Rattle.harp_types.specs.Update.{is_update}
use Rattle.file_tree.specs.Book.{Entry, IsBook, IsNextUpdate, IsRead, last_of, last_stamp, tree_after, updates}
use Rattle.file_tree.specs.Calls.{outcome}
use Rattle.file_tree.proofs.BookOrder.{book_numbered, follows_next, next_follows}
use Rattle.trace_check.specs.History.{HasReply, IsHistoryOf, kept_of}
use Rattle.trace_check.specs.Marks.{mark_at}
use Rattle.trace_check.specs.declared.history.History.{History}
use Rattle.trace_check.specs.declared.history.Kept.{Kept}

-- ---- what comes next

-- the same entry with the reply that its call has
answered : List Entry → Entry → Entry
answered entries e = record {
  index = e.index;
  client = e.client;
  number = e.number;
  cred = e.cred;
  call = e.call;
  stamp = e.stamp;
  reply = (outcome (tree_after entries) e.cred e.call e.stamp).0;
}

order_at : (b : Bool) (P Q : Type 0) → b ≡ true → MatchBool b P Q → P
order_at true P Q e h = h
order_at false P Q e h = absurd cc

order_from : (b : Bool) (P Q : Type 0) → b ≡ true → P → MatchBool b P Q
order_from true P Q e h = h
order_from false P Q e h = absurd cc

-- an update comes next by what came last
pub next_by_last : (entries : List Entry) (e : Entry) → IsBook entries → is_update e.call ≡ true
    → IsNextUpdate (updates entries) e
    ↔ ((e.index ≡ length (updates entries) + 1) × (last_stamp entries ≤ e.stamp)
    × IfSome (last_of e.client entries) (λ last. last.number < e.number))
unfolding answered
next_by_last entries e book u = (
  λ n. let c = follows_next entries (answered entries e) u (record {
    reply = refl;
    order = order_from (is_update e.call) (IsNextUpdate (updates entries) (answered entries e))
        (IsRead (answered entries e)) u
        (record { index = n.index; stamp = n.stamp; number = n.number });
  }) in (c.index, c.stamp, c.number),
  λ h. let f = next_follows entries (answered entries e) book (record {
    update = u;
    reply = refl;
    index = h.0;
    stamp = h.1;
    number = h.2;
  }) in
      let o = order_at (is_update e.call) (IsNextUpdate (updates entries) (answered entries e))
      (IsRead (answered entries e)) u f.order in
      record { index = o.index; stamp = o.stamp; number = o.number },
)

-- ---- replies

-- an element of a filtered list
filtered : {X : Type 0} (p : X → Bool) (xs : List X) (x : X) → Contains (filter p xs) x
    → Contains xs x × (p x ≡ true)
filtered p xs x h = (
  All-contains (Contains xs) (filter p xs) x
      (All-filter p (Contains xs) xs (All-contains_itself xs)) h,
  All-contains (λ y. p y ≡ true) (filter p xs) x (filter_passes p xs) h,
)

first_or_later : {X : Type 0} (x : X) (xs : List X) (y : X) → Contains (x ∷ xs) y
    → (x ≡ y) ⊎ Contains xs y
first_or_later {X} x xs y h = elim (Contains-append_cases (x ∷ []) xs y h) [
  | inl first ↦ (elim (Contains-push_cases [] x y first) [
    | inl none ↦ absurd (omega (arith, none.1))
    | inr e ↦ inl e
  ])
  | inr later ↦ inr later
]

keeps_at : {X : Type 0} (b : Bool) (x : X) (ys : List X) (y : X)
    → ((b ≡ true) × (x ≡ y)) ⊎ Contains ys y → Contains (if b then x ∷ ys else ys) y
keeps_at true x ys y (inl e) =
    subst (Contains (x ∷ ys)) e.1 (Contains-append_left (x ∷ []) ys x (Contains-push [] x))
keeps_at false x ys y (inl e) = absurd cc
keeps_at true x ys y (inr h) = Contains-append_right (x ∷ []) ys y h
keeps_at false x ys y (inr h) = h

keeps : {X : Type 0} (p : X → Bool) (xs : List X) (x : X) → Contains xs x → p x ≡ true
    → Contains (filter p xs) x
keeps p [] x h e = h
keeps p (y ∷ xs) x h e = keeps_at (p y) y (filter p xs) x (elim (first_or_later y xs x h) [
  | inl same ↦ inl (ap p same ∙ e, same)
  | inr later ↦ inr (keeps p xs x later e)
])

-- the update at a place has its index
pub reply_there : (entries : List Entry) (k : ℕ) (e : Entry) (reply : Reply) → IsBook entries
    → k < length (updates entries) → get_or (updates entries) k e ≡ e → e.reply ≡ reply
    → HasReply entries e.client e.number (k + 1) reply
reply_there entries k e reply book lt at is =
    let f = filtered (λ (x : Entry). is_update x.call) entries e (k, lt, at) in record {
      entry = e;
      stands = f.0;
      updates = f.1;
      client_is = refl;
      number_is = refl;
      index_is = ap (λ (x : Entry). x.index) (sym at) ∙ book_numbered entries book k e lt;
      reply_is = is;
    }

-- a reply stands at the place before its index
pub reply_place : (entries : List Entry) (client number index : ℕ) (reply : Reply) → IsBook entries
    → HasReply entries client number index reply
    → (k : ℕ) × (k < length (updates entries)) × (index ≡ k + 1)
    × (get_or (map kept_of (updates entries)) k (record {
      client = client;
      number = number;
      reply = reply;
    }) ≡ record { client = client; number = number; reply = reply })
reply_place entries client number index reply book h =
    let kept = keeps (λ (x : Entry). is_update x.call) entries h.entry h.stands h.updates in
    let numbered = book_numbered entries book kept.0 h.entry kept.1 in (
      kept.0,
      kept.1,
      sym h.index_is ∙ ap (λ (x : Entry). x.index) (sym kept.2) ∙ numbered,
      get_or-map kept_of (updates entries) kept.0 h.entry (record {
        client = client;
        number = number;
        reply = reply;
      }) kept.1 ∙ ap kept_of kept.2
          ∙ ap (λ (c : ℕ). record { client = c; number = h.entry.number; reply = h.entry.reply })
          h.client_is
          ∙ ap (λ (n : ℕ). record { client = client; number = n; reply = h.entry.reply })
          h.number_is
          ∙ ap (λ (r : Reply). record { client = client; number = number; reply = r }) h.reply_is,
    )

-- ---- an update after the last one

number_some : (o : Option Entry) (last n : ℕ) → option_map (λ (x : Entry). x.number) o ≡ Some last
    → IfSome o (λ x. x.number < n) ↔ (last < n)
number_some None last n e = absurd cc
number_some (Some x) last n e =
    let same : x.number ≡ last = cc in
    (λ h. omega (arith, h, same), λ h. omega (arith, h, same))

number_none : (o : Option Entry) (n : ℕ) → option_map (λ (x : Entry). x.number) o ≡ None
    → IfSome o (λ x. x.number < n)
number_none None n e = tt
number_none (Some x) n e = absurd cc

kept_length : (history : History) (entries : List Entry) → IsHistoryOf history entries
    → length history.updates.items ≡ length (updates entries)
kept_length history entries h = ap length h.updates_kept ∙ length-map (updates entries) kept_of

pub stamp_falls : (history : History) (entries : List Entry) (e : Entry)
    → IsHistoryOf history entries → IsBook entries → is_update e.call ≡ true
    → e.stamp < history.stamp → IsTrue false ↔ IsNextUpdate (updates entries) e
stamp_falls history entries e h book u lt = (
  λ t. absurd cc,
  λ n. let q = (next_by_last entries e book u).0 n in absurd (omega (arith, q.1, lt, h.stamp)),
)

pub number_rises : (history : History) (entries : List Entry) (e : Entry) (last : ℕ)
    → IsHistoryOf history entries → IsBook entries → is_update e.call ≡ true
    → (e.index ≡ 0 → ⊥) → e.index - 1 ≡ length history.updates.items
    → history.stamp ≤ e.stamp → mark_at history.numbers (e.client, 0, 0, 0) ≡ Some last
    → IsTrue (nat_lt last e.number) ↔ IsNextUpdate (updates entries) e
number_rises history entries e last h book u nonzero index stamp at =
    let m = kept_length history entries h in
    let last_is = number_some (last_of e.client entries) last e.number
    (sym (h.numbers e.client) ∙ at) in (
      λ t. (next_by_last entries e book u).1 (
        omega (arith, m, index, nonzero),
        omega (arith, h.stamp, stamp),
        last_is.1 (ltb-true last e.number t),
      ),
      λ n. lt-ltb last e.number (last_is.0 ((next_by_last entries e book u).0 n).2),
    )

pub first_number : (history : History) (entries : List Entry) (e : Entry)
    → IsHistoryOf history entries → IsBook entries → is_update e.call ≡ true
    → (e.index ≡ 0 → ⊥) → e.index - 1 ≡ length history.updates.items
    → history.stamp ≤ e.stamp → mark_at history.numbers (e.client, 0, 0, 0) ≡ None
    → IsTrue true ↔ IsNextUpdate (updates entries) e
first_number history entries e h book u nonzero index stamp at =
    let m = kept_length history entries h in (
      λ t. (next_by_last entries e book u).1 (
        omega (arith, m, index, nonzero),
        omega (arith, h.stamp, stamp),
        number_none (last_of e.client entries) e.number (sym (h.numbers e.client) ∙ at),
      ),
      λ n. refl,
    )

-- ---- the update at a place

some_entry : Entry
some_entry = record {
  index = 0;
  client = 0;
  number = 0;
  cred = record { uid = 0; gid = 0 };
  call = Null;
  stamp = 0;
  reply = Done;
}

pub no_place : (history : History) (entries : List Entry) (client number index : ℕ) (reply : Reply)
    → IsHistoryOf history entries → IsBook entries → length history.updates.items ≤ index - 1
    → HasReply entries client number index reply → ⊥
no_place history entries client number index reply h book le r =
    let p = reply_place entries client number index reply book r in
    let m = kept_length history entries h in
    absurd (omega (arith, p.1, p.2, m, le))

-- what is kept at a place is the reply of its index
pub kept_is : (history : History) (entries : List Entry) (client number index : ℕ) (reply : Reply)
    (kept : Kept) → IsHistoryOf history entries → IsBook entries → (index ≡ 0 → ⊥)
    → index - 1 < length history.updates.items
    → kept ≡ get_or history.updates.items (index - 1) kept
    → HasReply entries client number index reply
    ↔ ((kept.client ≡ client) × (kept.number ≡ number) × (kept.reply ≡ reply))
kept_is history entries client number index reply kept h book nonzero lt at =
    let m = kept_length history entries h in
    let items : kept ≡ get_or (map kept_of (updates entries)) (index - 1) kept =
    at ∙ ap (λ (ks : List Kept). get_or ks (index - 1) kept) h.updates_kept in (
      λ r. let p = reply_place entries client number index reply book r in
          let k : index - 1 ≡ p.0 = omega (arith, p.2) in
          let wanted : Kept = record { client = client; number = number; reply = reply } in
          let same : kept ≡ wanted = items
          ∙ get_or_default (map kept_of (updates entries)) (index - 1) kept wanted
          (omega (arith, lt, m, length-map (updates entries) kept_of))
          ∙ ap (λ (i : ℕ). get_or (map kept_of (updates entries)) i wanted) k ∙ p.3 in (
            ap (λ (x : Kept). x.client) same,
            ap (λ (x : Kept). x.number) same,
            ap (λ (x : Kept). x.reply) same,
          ),
      λ f. let e = get_or (updates entries) (index - 1) some_entry in
          let within : index - 1 < length (updates entries) = omega (arith, lt, m) in
          let same : kept ≡ kept_of e = items
          ∙ get_or-map kept_of (updates entries) (index - 1) some_entry kept within in
          let there = reply_there entries (index - 1) e reply book within
          (get_or_default (updates entries) (index - 1) e some_entry within)
          (ap (λ (x : Kept). x.reply) (sym same) ∙ f.2) in
          subst (λ (i : ℕ). HasReply entries client number i reply)
          (let i : index - 1 + 1 ≡ index = omega (arith, nonzero) in i)
          (subst (λ (n : ℕ). HasReply entries client n (index - 1 + 1) reply)
          (ap (λ (x : Kept). x.number) (sym same) ∙ f.1)
          (subst (λ (c : ℕ). HasReply entries c e.number (index - 1 + 1) reply)
          (ap (λ (x : Kept). x.client) (sym same) ∙ f.0) there)),
    )
