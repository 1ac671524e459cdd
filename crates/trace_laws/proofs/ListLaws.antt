-- A listing shows the tree of the book's first updates.
use Rattle.std.proofs.Common.{◌≡◌, ℕ, zero, suc, ◌+◌, ◌≤◌, Bool, true, false, List, [], ◌∷◌, ◌++◌, append_assoc, append-nil, length, take, drop, Option, Some, None, refl, sym, ap, ◌∙◌, subst, arith, true≢false, le_trans, if◌then◌else◌}
use Rattle.std.specs.List.{AllByRecursion}
use Rattle.harp_types.specs.declared.state.StateLine.{StateLine}
use Rattle.trace_types.specs.declared.step.Step.{Step}
use Rattle.trace_types.specs.declared.step.Step.TheVariants as step
use Rattle.trace_types.specs.declared.line.Line.{Line}
use Rattle.trace_types.specs.declared.line.Line.TheVariants as line
use Rattle.trace_claims.specs.Listing.{Lists, ListsTree, is_listing, living, tree_lines}
use Rattle.trace_claims.specs.Trace.{AtPlacesAmid, Trace, entries}
use Rattle.trace_claims.proofs.Places.{all-append, entries-append}
use Rattle.file_tree.specs.Book.{Entry, tree_after, updates}
use Rattle.group_rules.specs.Disk.{settled_tests}
use Rattle.group_safety.specs.Laws.{Whole}
use Rattle.group_rules.specs.Moves.{Move, Reading, Saying, Sending}
use Rattle.group_rules.specs.Names.{id_of, place_of}
use Rattle.group_rules.specs.Places.{Place, all_of}
use Rattle.group_rules.specs.State.{Answers, Group, Lists as SaysLists, Refuses, top}
use Rattle.group_rules.specs.Step.{Input, list_of}
use Rattle.group_safety.specs.Words.{Agree, IsActive}
use Rattle.group_rules.proofs.Tests.{by_if, each_of}
use Rattle.group_safety.proofs.Moving.{goes_grows}
use Rattle.group_safety.proofs.Modes.{settled_is}
use Rattle.group_trace.specs.Lines.{answered_lines, entered_lines, lines_of_moves, listed_lines, listing_of, refused_lines, sent_lines, state_line, state_lines, packet_lines}
use Rattle.group_trace.specs.Shown.{same_shown, shown_of}
use Rattle.trace_laws.proofs.Asked.{with_event}
use Rattle.trace_laws.proofs.Keeping.{turn_group, turn_lines, turn_whole}
use Rattle.trace_laws.proofs.Listings.{AreListing, EndsListing, front_is_listing, tree_listing}
use Rattle.trace_laws.proofs.Standing.{Stands, before_state, moves_enter, parts_are}
use Rattle.trace_laws.proofs.Turns.{Turned}

-- ---- lists

agree_less : (x y : Entry) (xs ys : List Entry) (n : ℕ) → Agree (suc n) (x ∷ xs) (y ∷ ys)
    → (x ≡ y) × Agree n xs ys
agree_less x y xs ys n h = (
  (let e : Some x ≡ Some y = h 0 (omega arith) in let z : x ≡ y = cc in
      z),
  (λ k l. h (suc k) (omega arith)),
)

pub take_agree : (n : ℕ) (xs ys : List Entry) → n ≤ length xs → n ≤ length ys → Agree n xs ys
    → take n xs ≡ take n ys
take_agree zero xs ys a b h = refl
take_agree (suc n) [] ys a b h = absurd (omega arith)
take_agree (suc n) (x ∷ xs) [] a b h = absurd (omega arith)
take_agree (suc n) (x ∷ xs) (y ∷ ys) a b h =
    let less = agree_less x y xs ys n h in
    ap (λ z. z ∷ take n xs) less.0
    ∙ ap (λ zs. y ∷ zs) (take_agree n xs ys (omega arith) (omega arith) less.1)

take_take : (a b : ℕ) (xs : List Entry) → a ≤ b → take a (take b xs) ≡ take a xs
take_take zero b xs l = refl
take_take (suc a) zero xs l = absurd (omega arith)
take_take (suc a) (suc b) [] l = refl
take_take (suc a) (suc b) (x ∷ xs) l = ap (λ zs. x ∷ zs) (take_take a b xs (omega arith))

-- ---- what a settled server lists

-- the first entries of its list are those of the committed ones, now and later
pub record ListsRightly (g g' : Group Entry) (q : Place) : Type 0 where
  pub within : (g.server q).cp ≤ length g'.committed
  pub same : take (g.server q).cp (list_of g q) ≡ take (g.server q).cp g'.committed

lists_rightly : (g : Group Entry) → Whole g
    → (s : Step) (q x : Place) (i : Input) (ms : List (Move Entry)) → Turned g s q i ms
    → IsActive (g.server x).mode → ListsRightly g (turn_group g q ms) x
lists_rightly g w s q x i ms t a =
    let g' = turn_group g q ms in
    let fine = w.ok.server x in
    let log = fine.logs.log (fine.modes.active a).0 in
    let cp = (g.server x).cp in
    let list = (g.page (g.server x).accepted).list in
    let grow = goes_grows ms g q (g.server q) t.goes in
    let book = log.sure.in_book in
    let more = grow.longer in
    record {
      within = le_trans book more;
      same = take_take cp (top (g.server x)) list log.cp_top
          ∙ take_agree cp list g.committed log.sure.within book log.sure.same
          ∙ take_agree cp g.committed g'.committed book (le_trans book more)
          (λ k l. grow.agree k (omega arith));
    }

-- ---- places of listings

-- a line that begins no listing
abbrev pub IsUnlisted : Line → Type 0
IsUnlisted (line.Listed server cp n) = ⊥
IsUnlisted l = Unit {0}

lists_none : (l : Line) (before later : Trace) → IsUnlisted l → ListsTree before l later
lists_none (line.Listed server cp n) before later h = absurd h
lists_none l before later h = tt

pub amid_unlisted : (ls later before : Trace) → AllByRecursion IsUnlisted ls
    → AtPlacesAmid ListsTree (before ++ ls) later → AtPlacesAmid ListsTree before (ls ++ later)
amid_unlisted [] later before h k = subst (λ b. AtPlacesAmid ListsTree b later)
    (append-nil before) k
amid_unlisted (l ∷ ls) later before h k = (
  lists_none l before (ls ++ later) h.0,
  amid_unlisted ls later (before ++ l ∷ []) h.1 (subst (λ b. AtPlacesAmid ListsTree b later)
      (sym (append_assoc before (l ∷ []) ls)) k),
)

listing_unlisted : (ls : List Line) → AreListing ls → AllByRecursion IsUnlisted ls
listing_unlisted [] h = tt
listing_unlisted (l ∷ ls) h = (one l h.0, listing_unlisted ls h.1)
  where
    one : (l : Line) → is_listing l ≡ true → IsUnlisted l
    one (line.Listed server cp n) e = absurd (true≢false (sym e))
    one l e = tt

-- the lines before the listing
abbrev pub before_listing : Group Entry → Place → List (Move Entry) → List Line
before_listing g q ms = before_state g (turn_group g q ms) q ms
    ++ state_lines q (shown_of (g.server q)) (shown_of ((turn_group g q ms).server q))

entered_unlisted : (n : ℕ) (es : List Entry) → AllByRecursion IsUnlisted (entered_lines n es)
unfolding entered_lines
entered_unlisted n [] = tt
entered_unlisted n (e ∷ es) = (tt, entered_unlisted (n + 1) es)

answered_unlisted : (q : Place) (ms : List (Move Entry))
    → AllByRecursion IsUnlisted (answered_lines q ms)
answered_unlisted q [] = tt
answered_unlisted q (Saying (Answers n e) ∷ ms) = (tt, answered_unlisted q ms)
answered_unlisted q (Saying (Refuses client number cause) ∷ ms) = answered_unlisted q ms
answered_unlisted q (Saying (SaysLists n) ∷ ms) = answered_unlisted q ms
answered_unlisted q (Reading n e ∷ ms) = (tt, answered_unlisted q ms)
answered_unlisted q (m ∷ ms) = answered_unlisted q ms

refused_unlisted : (q : Place) (ms : List (Move Entry))
    → AllByRecursion IsUnlisted (refused_lines q ms)
refused_unlisted q [] = tt
refused_unlisted q (Saying (Answers n e) ∷ ms) = refused_unlisted q ms
refused_unlisted q (Saying (Refuses client number cause) ∷ ms) = (tt, refused_unlisted q ms)
refused_unlisted q (Saying (SaysLists n) ∷ ms) = refused_unlisted q ms
refused_unlisted q (m ∷ ms) = refused_unlisted q ms

sent_unlisted : (n : ℕ) (q : Place) (ms : List (Move Entry))
    → AllByRecursion IsUnlisted (sent_lines n q ms)
unfolding packet_lines
sent_unlisted n q [] = tt
sent_unlisted n q (Sending to m ∷ ms) = (tt, sent_unlisted (n + 1) q ms)
sent_unlisted n q (m ∷ ms) = sent_unlisted n q ms

state_unlisted : (q : Place) (before now : Option StateLine)
    → AllByRecursion IsUnlisted (state_lines q before now)
state_unlisted q before now = by (same_shown before now) now
  where
    by : (b : Bool) (now : Option StateLine) → AllByRecursion IsUnlisted (if b then [] else
        state_line q now ∷ [])
    by true now = tt
    by false (Some st) = (tt, tt)
    by false None = (tt, tt)

before_unlisted : (g : Group Entry) (q : Place) (ms : List (Move Entry))
    → AllByRecursion IsUnlisted (before_listing g q ms)
before_unlisted g q ms =
    all-append IsUnlisted (before_state g (turn_group g q ms) q ms) _
    (all-append IsUnlisted (entered_lines (length g.book)
    (drop (length g.book) (turn_group g q ms).book)) _ (entered_unlisted (length g.book) _)
    (all-append IsUnlisted (answered_lines q ms) _ (answered_unlisted q ms)
    (all-append IsUnlisted (refused_lines q ms) (sent_lines (length g.packets) q ms)
    (refused_unlisted q ms) (sent_unlisted (length g.packets) q ms))))
    (state_unlisted q _ _)

-- the entered lines up to there are the book
entered_there : (before : Trace) (g : Group Entry) → Stands before g
    → (s : Step) (q : Place) (ms : List (Move Entry))
    → entries (with_event before s ++ before_listing g q ms) ≡ (turn_group g q ms).book
entered_there before g h s q ms =
    let none = moves_enter g q ms [] tt in
    let parts = parts_are g (turn_group g q ms) q ms [] in
    let all : before_listing g q ms ≡ lines_of_moves g (turn_group g q ms) q ms [] =
    sym (parts ∙ ap (λ x. before_state g (turn_group g q ms) q ms
    ++ x) (append-nil (state_lines q (shown_of (g.server q))
    (shown_of ((turn_group g q ms).server q))))) in
    entries-append (with_event before s) (before_listing g q ms)
    ∙ ap (λ xs. xs ++ entries (before_listing g q ms)) (entries-append before (line.Event s ∷ [])
    ∙ append-nil (entries before) ∙ h.entered)
    ∙ ap (λ ls. g.book ++ entries ls) all ∙ none

-- ---- a step

-- a listing, and what follows
list_amid : (before : Trace) (g : Group Entry) → Whole g
    → (s : Step) (q : Place) (i : Input) (ms : List (Move Entry)) → Turned g s q i ms
    → (now : Trace) → updates (entries now) ≡ (turn_group g q ms).committed → (rest : Trace)
    → EndsListing rest
    → (z : Step) → AtPlacesAmid ListsTree (now ++ listing_of g z) rest
    → AtPlacesAmid ListsTree now (listing_of g z ++ rest)
list_amid before g w s q i ms t now book rest ends (step.List server) k =
    let x = place_of server in
    by_if (λ ls. AtPlacesAmid ListsTree (now ++ ls) rest → AtPlacesAmid ListsTree now (ls ++ rest))
    (all_of (settled_tests x (g.server x)))
    (listed_lines x (g.server x).cp (tree_after (take (g.server x).cp (list_of g x))))
    (line.Unlisted (id_of x) ∷ [])
    (λ tests k.
    let right = lists_rightly g w s q x i ms t (settled_is (g.server x).mode
    (each_of (settled_tests x (g.server x)) tests).0) in
    let cp = (g.server x).cp in
    let tree = tree_after (take cp (list_of g x)) in
    let same : take cp (list_of g x) ≡ take cp (updates (entries now)) = right.same
    ∙ ap (take cp) (sym book) in
    let trees : tree ≡ tree_after (take cp (updates (entries now))) = ap tree_after same in
    let first = line.Listed (id_of x) cp (living tree) in
    let lists : Lists now cp (living tree) (tree_lines tree ++ rest) = record {
      within = subst (λ u. cp ≤ length u) (sym book) right.within;
      objects = ap living trees;
      lines = front_is_listing (tree_lines tree) rest (tree_listing tree) ends
          ∙ ap tree_lines trees;
    } in (
      lists,
      amid_unlisted (tree_lines tree) rest (now ++ first ∷ []) (listing_unlisted (tree_lines tree)
          (tree_listing tree))
          (subst (λ b. AtPlacesAmid ListsTree b rest)
          (sym (append_assoc now (first ∷ []) (tree_lines tree))) k),
    ))
    (λ _ k. (tt, k))
    k
list_amid before g w s q i ms t now book rest ends z k = subst (λ b. AtPlacesAmid ListsTree b rest)
    (append-nil now) k

pub lists_step : (before : Trace) (g : Group Entry) → Stands before g
    → (s : Step) (q : Place) (i : Input) (ms : List (Move Entry)) → Turned g s q i ms
    → (rest : Trace) → EndsListing rest
    → AtPlacesAmid ListsTree (before ++ turn_lines g s q ms) rest
    → AtPlacesAmid ListsTree before (turn_lines g s q ms ++ rest)
lists_step before g h s q i ms t rest ends k =
    let g' = turn_group g q ms in
    let ls = listing_of g s in
    let b = before_listing g q ms in
    let now = with_event before s ++ b in
    let w = turn_whole g s q i ms t in
    let state = state_lines q (shown_of (g.server q)) (shown_of (g'.server q)) in
    let parts : lines_of_moves g g' q ms ls ≡ b ++ ls = parts_are g g' q ms ls
    ∙ sym (append_assoc (before_state g g' q ms) state ls) in
    let whole : (now ++ ls) ≡ before ++ turn_lines g s q ms =
    append_assoc (with_event before s) b ls ∙ ap (λ x. with_event before s ++ x) (sym parts)
    ∙ append_assoc before (line.Event s ∷ []) (lines_of_moves g g' q ms ls) in
    let book : updates (entries now) ≡ g'.committed = ap updates (entered_there before g h s q ms)
    ∙ w.books.updates in (
      tt,
      subst (λ x. AtPlacesAmid ListsTree (with_event before s) (x ++ rest)) (sym parts)
          (subst (AtPlacesAmid ListsTree (with_event before s)) (sym (append_assoc b ls rest))
          (amid_unlisted b (ls ++ rest) (with_event before s) (before_unlisted g q ms)
          (list_amid before g h.whole s q i ms t now book rest ends s (subst
          (λ x. AtPlacesAmid ListsTree x rest) (sym whole) k)))),
    )
