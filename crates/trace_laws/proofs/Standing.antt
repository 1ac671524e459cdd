-- What a trace says of the group that wrote it, and the lines of a server's moves.
use Rattle.std.proofs.Common.{◌≡◌, ℕ, ◌≤◌, true, List, [], ◌∷◌, ◌++◌, append_assoc, append-nil, length, drop, Option, Some, refl, sym, ap, ◌∙◌, subst, inl, inr, fold}
use Rattle.std.specs.Prelude.{Contains}
use Rattle.std.specs.List.{AllByRecursion}
use Rattle.std.proofs.lemmas.List.Sums.{fold-append}
use Rattle.std.proofs.lemmas.List.Elements.{Contains-append_left}
use Rattle.harp_types.specs.declared.server.ServerId.{ServerId}
use Rattle.harp_types.specs.declared.state.Held.TheVariants as held
use Rattle.harp_types.specs.declared.state.Mode.TheVariants as mode
use Rattle.harp_types.specs.declared.state.StateLine.{StateLine}
use Rattle.trace_types.specs.declared.step.Step.{Step}
use Rattle.trace_types.specs.declared.step.Step.TheVariants as step
use Rattle.trace_types.specs.declared.line.Line.{Line}
use Rattle.trace_types.specs.declared.line.Line.TheVariants as line
use Rattle.trace_claims.specs.Listing.{is_listing}
use Rattle.trace_claims.specs.Servers.{clock_after, first_open, last_state, later_state}
use Rattle.trace_claims.specs.Trace.{Trace, entries, steps}
use Rattle.trace_claims.proofs.Places.{entries-append, steps-append}
use Rattle.file_tree.specs.Book.{Entry}
use Rattle.group_safety.specs.Laws.{Whole}
use Rattle.group_rules.specs.Moves.{Move, moved_by}
use Rattle.group_rules.specs.Names.{id_of, view_of}
use Rattle.group_rules.specs.Places.{Place}
use Rattle.group_rules.specs.State.{Group, Page}
use Rattle.group_safety.specs.Words.{In}
use Rattle.group_safety.proofs.Lawful.{book_grows}
use Rattle.group_trace.specs.Lines.{answered_lines, entered_lines, lines_of_moves, listing_of, refused_lines, sent_lines, state_lines}
use Rattle.group_trace.specs.Shown.{shown_of}
use Rattle.trace_laws.proofs.After.{moved_other, moved_packets, packets_by}
use Rattle.trace_laws.proofs.Amid.{AllShown, OpenOk, RoleOk}
use Rattle.trace_laws.proofs.LineParts.{AreSaid, AreSendless, AreStateless, IsSaid, IsSendless, IsStateless, ShowsPackets, entered_begin, entered_enter, packets_shown, said-answered, said-append, said-refused, said-sent, said-state, said_begin, said_enter, sendless-answered, sendless-append, sendless-entered, sendless-refused, sendless-state, sendless_same, stateless-answered, stateless-append, stateless-entered, stateless-refused, stateless-sent, stateless_keep}
use Rattle.trace_laws.proofs.Listings.{list_each}
use Rattle.trace_laws.proofs.StateLines.{other_state, own_state, which}

-- a call was asked before, at some server
abbrev pub AskedIn : Trace → Entry → Type 0
AskedIn before e = (s : ServerId)
    × Contains (steps before) (step.Ask s e.client e.number e.cred e.call)

-- A state line is of a formed view. With a log it has the view's start; an open one has it as
-- committed, and the view was opened
abbrev pub SoundState : (ℕ → Page Entry) → StateLine → Type 0
SoundState page st = (w : ℕ) × (st.accepted ≡ view_of w) × ((page w).formed ≡ true)
    × (st.held ≡ held.Held → (page w).plan.start ≤ st.top)
    × (st.mode ≡ mode.Open → ((page w).plan.start ≤ st.cp) × ((page w).opened ≡ true))

abbrev pub IsSound : (ℕ → Page Entry) → Line → Type 0
IsSound page (line.State server st) = SoundState page st
IsSound page l = Unit {0}

-- What was written so far tells the book, each server's state, the packets and the clocks; each
-- entry of a view's list was asked for; and what the laws of promises, acknowledgements and later
-- views need
pub record Stands (before : Trace) (g : Group Entry) : Type 0 where
  pub whole : Whole g
  pub entered : entries before ≡ g.book
  pub states : (q : Place) → last_state before (id_of q) ≡ shown_of (g.server q)
  pub packets : ShowsPackets before g.packets
  pub clocks : (q : Place) → clock_after before (id_of q) ≡ g.clock q
  pub asked : (v : ℕ) (e : Entry) → In (g.page v).list e → AskedIn before e
  pub roles : (q : Place) → RoleOk q (g.server q)
  pub told : (q : Place) → OpenOk before g.page q (g.server q)
  pub shown : AllShown before g.page
  pub first : (q : Place) (v : ℕ) (st : StateLine) → first_open before (id_of q) (view_of v) ≡
      Some st → ((g.page v).formed ≡ true) × (st.cp ≡ (g.page v).plan.start)
  pub lines : AllByRecursion (IsSound g.page) before

-- ---- later lines take nothing away

pub asked_more : (before more : Trace) (e : Entry) → AskedIn before e → AskedIn (before ++ more) e
asked_more before more e h =
    let s = step.Ask h.0 e.client e.number e.cred e.call in (
      h.0,
      subst (λ ss. Contains ss s) (sym (steps-append before more))
          (Contains-append_left (steps before) (steps more) s h.1),
    )

-- ---- listings

listing_is_said : (l : Line) → is_listing l ≡ true → IsSaid l
listing_is_said (line.Event s) e = cc
listing_is_said (line.Entered place x) e = cc
listing_is_said (line.Bad number fault) e = cc
listing_is_said (line.End entered) e = cc
listing_is_said l e = tt

pub said-listing : (g : Group Entry) (s : Step) → AreSaid (listing_of g s)
said-listing g s = list_each IsSaid listing_is_said (λ x c n. tt) (λ x. tt) g s

listing_is_stateless : (l : Line) → is_listing l ≡ true → IsStateless l
listing_is_stateless (line.State server st) e = cc
listing_is_stateless (line.Down server) e = cc
listing_is_stateless l e = tt

pub stateless-listing : (g : Group Entry) (s : Step) → AreStateless (listing_of g s)
stateless-listing g s = list_each IsStateless listing_is_stateless (λ x c n. tt) (λ x. tt) g s

listing_is_sendless : (l : Line) → is_listing l ≡ true → IsSendless l
listing_is_sendless (line.Sent n from to m) e = cc
listing_is_sendless l e = tt

pub sendless-listing : (g : Group Entry) (s : Step) → AreSendless (listing_of g s)
sendless-listing g s = list_each IsSendless listing_is_sendless (λ x c n. tt) (λ x. tt) g s

-- ---- the lines of a server's moves

abbrev pub Shown : Type 0
Shown = Option StateLine

-- the lines behind those of the book
abbrev pub behind_book : Group Entry → Place → List (Move Entry) → Shown → Shown → List Line
    → List Line
behind_book g q ms old new listing = answered_lines q ms
    ++ (refused_lines q ms ++ (sent_lines (length g.packets) q ms ++ (state_lines q old new
    ++ listing)))

pub behind_said : (g : Group Entry) (q : Place) (ms : List (Move Entry)) (old new : Shown)
    (listing : List Line) → AreSaid listing → AreSaid (behind_book g q ms old new listing)
behind_said g q ms old new listing h =
    said-append (answered_lines q ms) _ (said-answered q ms)
    (said-append (refused_lines q ms) _ (said-refused q ms)
    (said-append (sent_lines (length g.packets) q ms) _ (said-sent (length g.packets) q ms)
    (said-append (state_lines q old new) listing (said-state q old new) h)))

-- the new entries are what the book has more
pub book_is : (g : Group Entry) (q : Place) (ms : List (Move Entry))
    → g.book ++ drop (length g.book) (moved_by g q (g.server q) ms).book ≡
    (moved_by g q (g.server q) ms).book
book_is g q ms = let new = book_grows ms g q (g.server q) in
    rw new.1 (ap (λ es. g.book ++ es) (dropped g.book new.0))
  where
    dropped : (xs ys : List Entry) → drop (length xs) (xs ++ ys) ≡ ys
    dropped [] ys = refl
    dropped (x ∷ xs) ys = dropped xs ys

pub moves_enter : (g : Group Entry) (q : Place) (ms : List (Move Entry)) (ls : List Line)
    → AreSaid ls → g.book ++ entries (lines_of_moves g (moved_by g q (g.server q) ms) q ms ls) ≡
    (moved_by g q (g.server q) ms).book
moves_enter g q ms ls h =
    let g' = moved_by g q (g.server q) ms in
    let new = drop (length g.book) g'.book in
    let rest = behind_book g q ms (shown_of (g.server q)) (shown_of (g'.server q)) ls in
    ap (λ es. g.book ++ es) (entries-append (entered_lines (length g.book) new) rest
    ∙ ap (λ es. es ++ entries rest) (entered_enter (length g.book) new)
    ∙ ap (λ es. new ++ es) (said_enter rest (behind_said g q ms _ _ ls h)) ∙ append-nil new)
    ∙ book_is g q ms

pub moves_begin : (g g' : Group Entry) (q : Place) (ms : List (Move Entry)) (ls : List Line)
    → AreSaid ls → steps (lines_of_moves g g' q ms ls) ≡ []
moves_begin g g' q ms ls h =
    let new = drop (length g.book) g'.book in
    let rest = behind_book g q ms (shown_of (g.server q)) (shown_of (g'.server q)) ls in
    steps-append (entered_lines (length g.book) new) rest
    ∙ ap (λ ss. ss ++ steps rest) (entered_begin (length g.book) new)
    ∙ said_begin rest (behind_said g q ms _ _ ls h)

-- the lines before the state line
abbrev pub before_state : Group Entry → Group Entry → Place → List (Move Entry) → List Line
before_state g g' q ms = entered_lines (length g.book) (drop (length g.book) g'.book)
    ++ (answered_lines q ms ++ (refused_lines q ms ++ sent_lines (length g.packets) q ms))

pub parts_are : (g g' : Group Entry) (q : Place) (ms : List (Move Entry)) (ls : List Line)
    → lines_of_moves g g' q ms ls ≡ before_state g g' q ms
    ++ (state_lines q (shown_of (g.server q)) (shown_of (g'.server q)) ++ ls)
parts_are g g' q ms ls =
    let e = entered_lines (length g.book) (drop (length g.book) g'.book) in
    let a = answered_lines q ms in
    let r = refused_lines q ms in
    let n = sent_lines (length g.packets) q ms in
    let t = state_lines q (shown_of (g.server q)) (shown_of (g'.server q)) ++ ls in
    sym (append_assoc e (a ++ (r ++ n)) t ∙ ap (λ x. e ++ x) (append_assoc a (r ++ n) t
    ∙ ap (λ x. a ++ x) (append_assoc r n t)))

pub before_stateless : (g g' : Group Entry) (q : Place) (ms : List (Move Entry))
    → AreStateless (before_state g g' q ms)
before_stateless g g' q ms =
    let e = entered_lines (length g.book) (drop (length g.book) g'.book) in
    let a = answered_lines q ms in
    let r = refused_lines q ms in
    let n = sent_lines (length g.packets) q ms in
    stateless-append e (a ++ (r ++ n)) (stateless-entered (length g.book) _)
    (stateless-append a (r ++ n) (stateless-answered q ms)
    (stateless-append r n (stateless-refused q ms) (stateless-sent (length g.packets) q ms)))

-- the last state lines
pub moves_state : (g g' : Group Entry) (q x : Place) (ms : List (Move Entry)) (ls : List Line)
    (st : Shown) → AreStateless ls
    → fold (later_state (id_of x)) st (lines_of_moves g g' q ms ls) ≡
    fold (later_state (id_of x)) st (state_lines q (shown_of (g.server q))
    (shown_of (g'.server q)))
moves_state g g' q x ms ls st h =
    let f = later_state (id_of x) in
    let t = state_lines q (shown_of (g.server q)) (shown_of (g'.server q)) in
    ap (fold f st) (parts_are g g' q ms ls) ∙ fold-append f st (before_state g g' q ms) (t ++ ls)
    ∙ ap (λ z. fold f z (t ++ ls)) (stateless_keep (before_state g g' q ms) (id_of x) st
    (before_stateless g g' q ms))
    ∙ fold-append f st t ls ∙ stateless_keep ls (id_of x) (fold f st t) h

pub states_after : (g : Group Entry) (q : Place) (ms : List (Move Entry)) (ls : List Line)
    → AreStateless ls → (x : Place)
    → fold (later_state (id_of x)) (shown_of (g.server x))
    (lines_of_moves g (moved_by g q (g.server q) ms) q ms ls) ≡
    shown_of ((moved_by g q (g.server q) ms).server x)
states_after g q ms ls h x =
    let g' = moved_by g q (g.server q) ms in
    moves_state g g' q x ms ls (shown_of (g.server x)) h ∙ elim (which x q) [
      | inl same ↦ subst (λ y. fold (later_state (id_of y)) (shown_of (g.server y))
          (state_lines q (shown_of (g.server q)) (shown_of (g'.server q))) ≡
          shown_of (g'.server y)) (sym same)
          (own_state q (shown_of (g.server q)) (shown_of (g'.server q)))
      | inr other ↦ other_state q x (shown_of (g.server x)) (shown_of (g.server q))
          (shown_of (g'.server q)) other
          ∙ ap shown_of (sym (moved_other ms g q x (g.server q) other))
    ]

-- the packets
regroup : (b e a r s t : List Line) (x : Line) → ((b ++ x ∷ (e ++ (a ++ r))) ++ s) ++ t ≡ b ++ x
    ∷ (e ++ (a ++ (r ++ (s ++ t))))
regroup b e a r s t x = rw (
  append_assoc (b ++ x ∷ (e ++ (a ++ r))) s t,
  append_assoc b (x ∷ (e ++ (a ++ r))) (s ++ t),
  append_assoc e (a ++ r) (s ++ t),
  append_assoc a r (s ++ t),
) refl

pub packets_after_moves : (before : Trace) (g : Group Entry) (s : Step) (q : Place)
    (ms : List (Move Entry)) (ls : List Line) → AreSendless ls → ShowsPackets before g.packets
    → ShowsPackets (before ++ line.Event s
    ∷ lines_of_moves g (moved_by g q (g.server q) ms) q ms ls)
    (moved_by g q (g.server q) ms).packets
packets_after_moves before g s q ms ls quiet_ls h =
    let g' = moved_by g q (g.server q) ms in
    let es = entered_lines (length g.book) (drop (length g.book) g'.book) in
    let a = answered_lines q ms in
    let r = refused_lines q ms in
    let t = state_lines q (shown_of (g.server q)) (shown_of (g'.server q)) ++ ls in
    let front = line.Event s ∷ (es ++ (a ++ r)) in
    let quiet : AreSendless front = (
      tt,
      sendless-append es (a ++ r) (sendless-entered (length g.book) _)
          (sendless-append a r (sendless-answered q ms) (sendless-refused q ms)),
    ) in
    let shown : ShowsPackets (before ++ front) g.packets = λ n. sendless_same before front n quiet
    ∙ h n in
    let more = packets_shown ms (before ++ front) g.packets q shown in
    subst (ShowsPackets (before ++ line.Event s ∷ lines_of_moves g g' q ms ls))
    (sym (moved_packets ms g q (g.server q)))
    (subst (λ b. ShowsPackets b (packets_by g.packets q ms))
    (regroup before es a r (sent_lines (length g.packets) q ms) t (line.Event s))
    (λ n. sendless_same ((before ++ front) ++ sent_lines (length g.packets) q ms) t n
    (sendless-append (state_lines q _ _) ls (sendless-state q _ _) quiet_ls) ∙ more n))
