-- How many packets a trace has sent, and how many records its servers show.
use Rattle.std.proofs.Common.{◌≡◌, ℕ, ◌+◌, ◌-◌, ◌≤◌, Bool, true, false, List, [], ◌∷◌, ◌++◌, append_assoc, length, drop, Option, Some, None, refl, sym, ap, ◌∙◌, subst, inl, inr, arith, fold, if◌then◌else◌}
use Rattle.std.specs.List.{AllByRecursion}
use Rattle.std.proofs.lemmas.List.Sums.{fold-append}
use Rattle.harp_types.specs.declared.server.ServerId.{ServerId}
use Rattle.harp_types.specs.declared.state.StateLine.{StateLine}
use Rattle.trace_types.specs.declared.step.Step.{Step}
use Rattle.trace_types.specs.declared.step.Step.TheVariants as step
use Rattle.trace_types.specs.declared.line.Line.{Line}
use Rattle.trace_types.specs.declared.line.Line.TheVariants as line
use Rattle.trace_claims.specs.LocalSteps.{Adds, BringsRecords, IsNextPacket, Names, last_shown, later_shown, more_sent, records, sent_in}
use Rattle.harp_types.specs.Server.{same_server}
use Rattle.trace_claims.specs.Servers.{first_state, last_state, later_state}
use Rattle.trace_claims.specs.Trace.{AtPlacesAfter, Trace}
use Rattle.trace_claims.proofs.Places.{all-append, places-append}
use Rattle.file_tree.specs.Book.{Entry}
use Rattle.group_rules.specs.Limits.{by_held}
use Rattle.group_rules.specs.Moves.{Booting, Move, Sending, acts, moved_by}
use Rattle.group_rules.specs.Names.{id_of}
use Rattle.group_rules.specs.Places.{Place}
use Rattle.group_rules.specs.State.{Ack, Beat, Demote, Empty, Event, Fetch, Form, Formed, Give, Group, Held, Invite, Join, Log, Lost, Message, Packet, Server, mark_of}
use Rattle.group_rules.specs.Step.{Ask, Comes, Deed, Does, Input, delivered, numbered, step_of}
use Rattle.group_rules.proofs.Tests.{by_if, if_is}
use Rattle.group_safety.specs.Laws.{DeedGrows, DeliveryGrows, Whole, log_length}
use Rattle.group_safety.proofs.Records.{deeds_grow, deliveries_grow}
use Rattle.group_trace.specs.Lines.{answered_lines, entered_lines, listing_of, lines_of_moves, refused_lines, sent_lines, state_lines, packet_lines}
use Rattle.group_rules.specs.Shown.{state_of}
use Rattle.group_trace.specs.Shown.{message_shown, same_shown, shown_of}
use Rattle.trace_laws.proofs.After.{moved_other, moved_packets, moved_server, packets_by}
use Rattle.trace_laws.proofs.Asked.{with_event}
use Rattle.trace_laws.proofs.Keeping.{turn_group, turn_lines}
use Rattle.trace_laws.proofs.KeptRecords.{Ends, HasKept, boots_with, ends_down, ends_up, kept, step_ends}
use Rattle.trace_laws.proofs.LineParts.{AreSendless, AreStateless, sendless-answered, sendless-append, sendless-entered, sendless-refused, sendless-state}
use Rattle.trace_laws.proofs.LocalLaws.{names_moves, next_sent, no_send, sendless_next, sent_none}
use Rattle.trace_laws.proofs.Standing.{Stands, before_state, before_stateless, parts_are, sendless-listing, stateless-listing}
use Rattle.trace_laws.proofs.StateLines.{not_own, which}
use Rattle.trace_laws.proofs.Turns.{IsNoAsk, IsOther, Turned}

-- ---- what a trace shows last of a server

abbrev no_state : Option StateLine
no_state = None

-- the last state of a server that is up is what was shown last
up_shown : (ls : Trace) (s : ServerId) (o : Option StateLine) (st : StateLine)
    → ((x : StateLine) → o ≡ Some x → x ≡ st) → (x : StateLine)
    → fold (later_state s) o ls ≡ Some x → x ≡ fold (later_shown s) st ls
up_shown [] s o st h x e = h x e
up_shown (line.State server state ∷ ls) s o st h x e = by (same_server server s)
    (up_shown ls s (Some state) state (λ y z. cc) x) (up_shown ls s o st h x) e
  where
    by : (b : Bool)
        → (fold (later_state s) (Some state) ls ≡ Some x → x ≡ fold (later_shown s) state ls)
        → (fold (later_state s) o ls ≡ Some x → x ≡ fold (later_shown s) st ls)
        → fold (later_state s) (if b then Some state else o) ls ≡ Some x
        → x ≡ fold (later_shown s) (if b then state else st) ls
    by true f g e = f e
    by false f g e = g e
up_shown (line.Down server ∷ ls) s o st h x e = by (same_server server s)
    (up_shown ls s no_state st (λ y z. absurd cc) x) (up_shown ls s o st h x) e
  where
    by : (b : Bool)
        → (fold (later_state s) no_state ls ≡ Some x → x ≡ fold (later_shown s) st ls)
        → (fold (later_state s) o ls ≡ Some x → x ≡ fold (later_shown s) st ls)
        → fold (later_state s) (if b then no_state else o) ls ≡ Some x
        → x ≡ fold (later_shown s) st ls
    by true f g e = f e
    by false f g e = g e
up_shown (l ∷ ls) s o st h x e = up_shown ls s o st h x e

last_is_shown : (trace : Trace) (s : ServerId) (st : StateLine) → last_state trace s ≡ Some st
    → last_shown trace s ≡ st
last_is_shown trace s st e =
    sym (up_shown trace s (Some (first_state s)) (first_state s) (λ x z. cc) st e)

pub stateless_shown : (ls : List Line) (s : ServerId) (st : StateLine) → AreStateless ls
    → fold (later_shown s) st ls ≡ st
stateless_shown [] s st h = refl
stateless_shown (line.State server state ∷ ls) s st h = absurd h.0
stateless_shown (l ∷ ls) s st h = stateless_shown ls s st h.1

-- lines that name another server
pub named_shown : (ls : List Line) (q x : Place) (st : StateLine) → (x ≡ q → ⊥)
    → AllByRecursion (Names (id_of q)) ls → fold (later_shown (id_of x)) st ls ≡ st
named_shown [] q x st n h = refl
named_shown (line.State server state ∷ ls) q x st n h =
    let other' : same_server server (id_of x) ≡ false =
    ap (λ s. same_server s (id_of x)) h.0 ∙ not_own q x n in
    rw other' (named_shown ls q x st n h.1)
named_shown (l ∷ ls) q x st n h = named_shown ls q x st n h.1

-- ---- the records of a state line

held_records : (h : Held) (base len lb : ℕ) → (h ≡ Lost → len ≡ 0) → (h ≡ Empty → len ≡ 0)
    → by_held h (base + len) lb - by_held h base lb ≡ len
held_records Log base len lb l e = omega arith
held_records Lost base len lb l e = let z = l refl in omega arith
held_records Empty base len lb l e = let z = e refl in omega arith

pub shown_records : (g : Group Entry) → Whole g → (q : Place)
    → records (state_of (g.server q)) ≡ length (g.server q).items
shown_records g w q =
    let s = g.server q in
    let tidy = w.tidy.each q in
    held_records s.held s.base (length s.items) s.lb (λ e. ap length (tidy.lost e).3)
    (λ e. ap length (tidy.empty e).3)

-- ---- what is kept beside the group

-- The trace numbers the packets, and each server's last state line shows as many records as its
-- next boot gives back
pub record Counted (before : Trace) (g : Group Entry) : Type 0 where
  pub sent : sent_in before ≡ length g.packets
  pub kept : (q : Place) → length (kept q (g.server q)) ≤ records (last_shown before (id_of q))

-- the records of a server that is up
pub up_records : (before : Trace) (g : Group Entry) → Stands before g → (q : Place)
    → (g.server q).up ≡ true → records (last_shown before (id_of q)) ≡ length (g.server q).items
up_records before g h q up =
    let shown : shown_of (g.server q) ≡ Some (state_of (g.server q)) = rw up refl in
    ap records (last_is_shown before (id_of q) (state_of (g.server q)) (h.states q ∙ shown))
    ∙ shown_records g h.whole q

up_kept : (before : Trace) (g : Group Entry) → Stands before g → Counted before g → (q : Place)
    → (g.server q).up ≡ true → HasKept q (g.server q)
up_kept before g h c q up =
    let a = c.kept q in
    let b = up_records before g h q up in
    omega arith

-- ---- the packets of a step

-- the lines before and behind those of the packets
abbrev front_lines : Group Entry → Group Entry → Place → List (Move Entry) → List Line
front_lines g g' q ms = entered_lines (length g.book) (drop (length g.book) g'.book)
    ++ (answered_lines q ms ++ refused_lines q ms)

abbrev back_lines : Group Entry → Group Entry → Step → Place → List Line
back_lines g g' s q =
    state_lines q (shown_of (g.server q)) (shown_of (g'.server q)) ++ listing_of g s

front_sendless : (g g' : Group Entry) (q : Place) (ms : List (Move Entry))
    → AreSendless (front_lines g g' q ms)
front_sendless g g' q ms = sendless-append (entered_lines (length g.book) _) _
    (sendless-entered (length g.book) _)
    (sendless-append (answered_lines q ms) _ (sendless-answered q ms) (sendless-refused q ms))

back_sendless : (g g' : Group Entry) (s : Step) (q : Place) → AreSendless (back_lines g g' s q)
back_sendless g g' s q = sendless-append (state_lines q _ _) (listing_of g s)
    (sendless-state q _ _) (sendless-listing g s)

sends_apart : (g g' : Group Entry) (s : Step) (q : Place) (ms : List (Move Entry))
    → lines_of_moves g g' q ms (listing_of g s)
    ≡ front_lines g g' q ms ++ (sent_lines (length g.packets) q ms ++ back_lines g g' s q)
sends_apart g g' s q ms =
    let e = entered_lines (length g.book) (drop (length g.book) g'.book) in
    let a = answered_lines q ms in
    let r = refused_lines q ms in
    let n = sent_lines (length g.packets) q ms ++ back_lines g g' s q in
    sym (append_assoc e (a ++ r) n ∙ ap (λ x. e ++ x) (append_assoc a r n))

sent_count : (ms : List (Move Entry)) (n : ℕ) (q : Place) (ps : List (Packet Entry))
    → length ps ≡ n → fold more_sent n (sent_lines n q ms) ≡ length (packets_by ps q ms)
unfolding packet_lines
sent_count [] n q ps e = sym e
sent_count (Sending to m ∷ ms) n q ps e =
    sent_count ms (n + 1) q (record { from = q; to = to; body = m } ∷ ps)
    (let z = e in omega arith)
sent_count (m ∷ ms) n q ps e = sent_count ms n q ps e

sent_event : (before : Trace) (s : Step) → sent_in (with_event before s) ≡ sent_in before
sent_event before s = fold-append more_sent 0 before (line.Event s ∷ [])

-- up to the packets of a step
sent_front : (before : Trace) (g : Group Entry) → Counted before g → (g' : Group Entry) (s : Step)
    (q : Place) (ms : List (Move Entry))
    → sent_in (with_event before s ++ front_lines g g' q ms) ≡ length g.packets
sent_front before g c g' s q ms =
    fold-append more_sent 0 (with_event before s) (front_lines g g' q ms)
    ∙ sent_none (front_lines g g' q ms) _ (front_sendless g g' q ms)
    ∙ sent_event before s ∙ c.sent

pub packets_step : (before : Trace) (g : Group Entry) → Stands before g → Counted before g
    → (s : Step) (q : Place) (i : Input) (ms : List (Move Entry)) → Turned g s q i ms
    → AtPlacesAfter IsNextPacket before (turn_lines g s q ms)
packets_step before g h c s q i ms t =
    let g' = turn_group g q ms in
    let start = with_event before s in
    let a = front_lines g g' q ms in
    let n = sent_lines (length g.packets) q ms in
    let b = back_lines g g' s q in (
      tt,
      subst (AtPlacesAfter IsNextPacket start) (sym (sends_apart g g' s q ms))
          (places-append IsNextPacket start a (n ++ b)
          (sendless_next IsNextPacket no_send a start (front_sendless g g' q ms))
          (places-append IsNextPacket (start ++ a) n b
          (next_sent ms (length g.packets) q (start ++ a) (sent_front before g c g' s q ms))
          (sendless_next IsNextPacket no_send b _ (back_sendless g g' s q)))),
    )

pub sent_after : (before : Trace) (g : Group Entry) → Counted before g → (s : Step) (q : Place)
    (ms : List (Move Entry))
    → sent_in (before ++ turn_lines g s q ms) ≡ length (turn_group g q ms).packets
sent_after before g c s q ms =
    let g' = turn_group g q ms in
    let start = with_event before s in
    let a = front_lines g g' q ms in
    let n = sent_lines (length g.packets) q ms in
    let b = back_lines g g' s q in
    ap sent_in (sym (append_assoc before (line.Event s ∷ [])
    (lines_of_moves g g' q ms (listing_of g s)))
    ∙ ap (λ ls. start ++ ls) (sends_apart g g' s q ms) ∙ sym (append_assoc start a (n ++ b)))
    ∙ fold-append more_sent 0 (start ++ a) (n ++ b)
    ∙ ap (λ k. fold more_sent k (n ++ b)) (sent_front before g c g' s q ms)
    ∙ fold-append more_sent (length g.packets) n b
    ∙ sent_none b _ (back_sendless g g' s q)
    ∙ sent_count ms (length g.packets) q g.packets refl
    ∙ ap length (sym (moved_packets ms g q (g.server q)))

-- ---- the records after a step

abbrev IsUnshown : Line → Type 0
IsUnshown (line.State server state) = ⊥
IsUnshown l = Unit {0}

unshown_keep : (ls : List Line) (s : ServerId) (st : StateLine) → AllByRecursion IsUnshown ls
    → fold (later_shown s) st ls ≡ st
unshown_keep [] s st h = refl
unshown_keep (line.State server state ∷ ls) s st h = absurd h.0
unshown_keep (l ∷ ls) s st h = unshown_keep ls s st h.1

stateless_unshown : (ls : List Line) → AreStateless ls → AllByRecursion IsUnshown ls
stateless_unshown [] h = tt
stateless_unshown (line.State server state ∷ ls) h = absurd h.0
stateless_unshown (l ∷ ls) h = (tt, stateless_unshown ls h.1)

down_unshown : (q : Place) (old : Option StateLine)
    → AllByRecursion IsUnshown (state_lines q old None)
down_unshown q old = by_if (AllByRecursion IsUnshown) (same_shown old None) [] _
    (λ _. tt) (λ _. (tt, tt))

-- the lines of a step after which its server is down
down_lines : (g g' : Group Entry) (s : Step) (q : Place) (ms : List (Move Entry))
    → (g'.server q).up ≡ false
    → AllByRecursion IsUnshown (lines_of_moves g g' q ms (listing_of g s))
down_lines g g' s q ms d =
    let none : shown_of (g'.server q) ≡ None = rw d refl in
    let ls = listing_of g s in
    subst (AllByRecursion IsUnshown) (sym (parts_are g g' q ms ls))
    (all-append IsUnshown (before_state g g' q ms) _
    (stateless_unshown _ (before_stateless g g' q ms))
    (all-append IsUnshown (state_lines q (shown_of (g.server q)) (shown_of (g'.server q))) ls
    (subst (λ o. AllByRecursion IsUnshown (state_lines q (shown_of (g.server q)) o)) (sym none)
    (down_unshown q (shown_of (g.server q))))
    (stateless_unshown ls (stateless-listing g s))))

after_step : (before : Trace) (g : Group Entry) (s : Step) (q x : Place) (ms : List (Move Entry))
    → last_shown (before ++ turn_lines g s q ms) (id_of x) ≡
    fold (later_shown (id_of x)) (last_shown before (id_of x))
    (lines_of_moves g (turn_group g q ms) q ms (listing_of g s))
after_step before g s q x ms =
    fold-append (later_shown (id_of x)) (first_state (id_of x)) before (turn_lines g s q ms)

pub kept_after : (before : Trace) (g : Group Entry) → Stands before g → Counted before g
    → (s : Step) (q : Place) (i : Input) (ms : List (Move Entry)) → Turned g s q i ms
    → Stands (before ++ turn_lines g s q ms) (turn_group g q ms) → (x : Place)
    → length (kept x ((turn_group g q ms).server x))
    ≤ records (last_shown (before ++ turn_lines g s q ms) (id_of x))
kept_after before g h c s q i ms t h' x = elim (which x q) [
  | inl same ↦ subst (λ y. length (kept y (g'.server y)) ≤ records (last_shown b' (id_of y)))
      (sym same) (own (step_ends g q i ms t.made t.goes (up_kept before g h c q)))
  | inr differs ↦
      let server = moved_other ms g q x (g.server q) differs in
      let shown = after_step before g s q x ms ∙ named_shown _ q x _ differs
      (names_moves g g' s q ms t.at') in
      subst (λ n. length (kept x (g'.server x)) ≤ n) (sym (ap records shown))
      (subst (λ y. length (kept x y) ≤ records (last_shown before (id_of x))) (sym server)
      (c.kept x))
]
  where
    g' : Group Entry
    g' = turn_group g q ms

    b' : Trace
    b' = before ++ turn_lines g s q ms

    is : g'.server q ≡ acts q (g.clock q) (g.server q) ms
    is = moved_server ms g q (g.server q) refl

    own : Ends q (g.server q) (acts q (g.clock q) (g.server q) ms)
        → length (kept q (g'.server q)) ≤ records (last_shown b' (id_of q))
    own (ends_up up k) =
        let now = up_records b' g' h' q (ap (λ (y : Server Entry). y.up) is ∙ up) in
        let least : HasKept q (g'.server q) = subst (HasKept q) (sym is) k in
        omega arith
    own (ends_down d up k) =
        let there = up_records before g h q up in
        let shown = after_step before g s q q ms ∙ unshown_keep _ (id_of q) _
        (down_lines g g' s q ms (ap (λ (y : Server Entry). y.up) is ∙ d)) in
        let n = ap records shown in
        let least : length (kept q (g'.server q)) ≤ length (g.server q).items =
        subst (λ y. length (kept q y) ≤ length (g.server q).items) (sym is) k in
        omega arith

-- ---- how logs grow

pub brings_less : (m : Message Entry) (old new : ℕ) → new ≤ old
    → BringsRecords (message_shown m) old new
brings_less (Event v index cp base e) old new l = omega arith
brings_less (Give v index items) old new l = tt
brings_less (Invite v) old new l = l
brings_less (Join v r) old new l = l
brings_less (Form v p) old new l = l
brings_less (Fetch v index) old new l = l
brings_less (Formed v lb) old new l = l
brings_less (Beat v cp base) old new l = l
brings_less (Ack v top' lb until) old new l = l
brings_less (Demote v) old new l = l

pub brings_grown : (m : Message Entry) (old new : ℕ) → DeliveryGrows m old new
    → BringsRecords (message_shown m) old new
brings_grown (Event v index cp base e) old new l = l
brings_grown (Give v index items) old new l = tt
brings_grown (Invite v) old new l = l
brings_grown (Join v r) old new l = l
brings_grown (Form v p) old new l = l
brings_grown (Fetch v index) old new l = l
brings_grown (Formed v lb) old new l = l
brings_grown (Beat v cp base) old new l = l
brings_grown (Ack v top' lb until) old new l = l
brings_grown (Demote v) old new l = l

pub deed_less : (d : Deed) (old new : ℕ) → IsNoAsk d → DeedGrows d old new → new ≤ old
deed_less (Ask client number cred call) old new n l = absurd n
deed_less d old new n l = l

pub adds_none : (b : Trace) (s : Step) (old new : ℕ) → IsOther s → new ≤ old
    → Adds b (Some s) old new
adds_none b (step.Ask server client number cred call) old new o l = absurd o
adds_none b (step.Deliver n) old new o l = absurd o
adds_none b s old new o l = l

-- a boot gives back no more than was shown
pub boot_less : (before : Trace) (g : Group Entry) → Counted before g → (q : Place)
    → length (acts q (g.clock q) (g.server q) (Booting g.delta ∷ [])).items
    ≤ records (last_shown before (id_of q))
boot_less before g c q =
    let e = ap length (boots_with q (g.clock q) g.delta (mark_of (g.server q))) in
    let k = c.kept q in
    omega arith

pub deed_grown : (size : List Entry → Entry → ℕ) (g : Group Entry) (q : Place) (d : Deed)
    → (g.server q).up ≡ true → DeedGrows d (length (g.server q).items)
    (length (acts q (g.clock q) (g.server q) (step_of size g q (Does d))).items)
deed_grown size g q d up = subst (λ (x : Server Entry). DeedGrows d (length (g.server q).items)
    (length x.items)) (moved_server (step_of size g q (Does d)) g q (g.server q) refl)
    (subst (λ (x : Group Entry). DeedGrows d (length (g.server q).items) (log_length x q))
    (if_is (g.server q).up (moved_by g q (g.server q) (step_of size g q (Does d))) g up)
    (deeds_grow size g q d))

pub delivery_grown : (size : List Entry → Entry → ℕ) (g : Group Entry) (n : ℕ) (p : Packet Entry)
    → numbered g.packets n ≡ Some p → (g.server p.to).up ≡ true
    → DeliveryGrows p.body (length (g.server p.to).items) (length
    (acts p.to (g.clock p.to) (g.server p.to) (step_of size g p.to (Comes p.from p.body))).items)
delivery_grown size g n p e up =
    let q = p.to in
    let ms = step_of size g q (Comes p.from p.body) in
    subst (λ (x : Server Entry). DeliveryGrows p.body (length (g.server q).items)
    (length x.items)) (moved_server ms g q (g.server q) refl)
    (subst (λ (x : Group Entry). DeliveryGrows p.body (length (g.server q).items) (log_length x q))
    (ap (delivered size g) e ∙ if_is (g.server q).up (moved_by g q (g.server q) ms) g up)
    (deliveries_grow size g n p e))
