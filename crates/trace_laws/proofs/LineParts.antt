-- What the parts of a step's lines add to a trace.
use Rattle.std.proofs.Common.{◌≡◌, ℕ, ◌+◌, ◌≤◌, ◌==◌, Bool, true, false, List, [], ◌∷◌, ◌++◌, append_assoc, append-nil, length, map, Option, Some, None, refl, sym, ap, ◌∙◌, subst, inl, inr, arith, fold, if◌then◌else◌}
use Rattle.std.specs.List.{AllByRecursion}
use Rattle.std.proofs.lemmas.Bool.{cases_Bool, eqb-true, ne_eqb}
use Rattle.harp_types.specs.declared.server.ServerId.{ServerId}
use Rattle.harp_types.specs.declared.state.StateLine.{StateLine}
use Rattle.trace_types.specs.declared.step.Step.{Step}
use Rattle.trace_types.specs.declared.line.Line.{Line}
use Rattle.trace_types.specs.declared.line.Line.TheVariants as line
use Rattle.trace_claims.specs.Servers.{Packet as PacketShown, later_state, packet_in}
use Rattle.trace_claims.specs.Trace.{Trace, entered_by, entries, is_last, later_step, step_of_line, steps}
use Rattle.trace_claims.proofs.Places.{all-append}
use Rattle.file_tree.specs.Book.{Entry}
use Rattle.group_rules.specs.Moves.{Move, Sending}
use Rattle.group_rules.specs.Places.{Place}
use Rattle.group_rules.specs.State.{Message, Packet}
use Rattle.group_rules.specs.Said.{answers_said, refusals_said}
use Rattle.group_trace.specs.Lines.{answered_line, answered_lines, entered_lines, packet_lines, refused_line, refused_lines, sent_line, sent_lines, state_line, state_lines}
use Rattle.group_trace.specs.Shown.{packet_shown, same_shown}
use Rattle.trace_laws.proofs.After.{packets_by}

-- ---- lines that enter nothing and begin nothing

abbrev pub IsSaid : Line → Type 0
IsSaid (line.Event s) = ⊥
IsSaid (line.Entered place e) = ⊥
IsSaid (line.Bad number fault) = ⊥
IsSaid (line.End entered) = ⊥
IsSaid l = Unit {0}

abbrev pub AreSaid : List Line → Type 0
AreSaid ls = AllByRecursion IsSaid ls

pub said-append : (xs ys : List Line) → AreSaid xs → AreSaid ys → AreSaid (xs ++ ys)
said-append xs ys = all-append IsSaid xs ys

-- what holds of each line that is made so
pub made_each : {A : Type 0} (P : Line → Type 0) (f : A → Line) → ((a : A) → P (f a))
    → (xs : List A) → AllByRecursion P (map f xs)
made_each P f h [] = tt
made_each P f h (x ∷ xs) = (h x, made_each P f h xs)

pub said-answered : (q : Place) (ms : List (Move Entry)) → AreSaid (answered_lines q ms)
said-answered q ms = made_each IsSaid (answered_line q) (λ a. tt) (answers_said ms)

pub said-refused : (q : Place) (ms : List (Move Entry)) → AreSaid (refused_lines q ms)
said-refused q ms = made_each IsSaid (refused_line q) (λ r. tt) (refusals_said ms)

pub said-sent : (n : ℕ) (q : Place) (ms : List (Move Entry)) → AreSaid (sent_lines n q ms)
unfolding packet_lines
said-sent n q [] = tt
said-sent n q (Sending to m ∷ ms) = (tt, said-sent (n + 1) q ms)
said-sent n q (m ∷ ms) = said-sent n q ms

pub said-state : (q : Place) (before now : Option StateLine) → AreSaid (state_lines q before now)
said-state q before now = by (same_shown before now) now
  where
    by : (b : Bool) (now : Option StateLine) → AreSaid (if b then [] else state_line q now ∷ [])
    by true now = tt
    by false (Some st) = (tt, tt)
    by false None = (tt, tt)

-- a said line enters nothing, begins no step and isn't the last
said_line : (l : Line) → IsSaid l → (entered_by l ≡ []) × (step_of_line l ≡ [])
    × (is_last l ≡ false)
said_line (line.Event s) h = absurd h
said_line (line.Entered place e) h = absurd h
said_line (line.Bad number fault) h = absurd h
said_line (line.End entered) h = absurd h
said_line l h = (refl, refl, refl)

pub said_enter : (ls : List Line) → AreSaid ls → entries ls ≡ []
said_enter [] h = refl
said_enter (l ∷ ls) h = ap (λ es. es ++ entries ls) (said_line l h.0).0 ∙ said_enter ls h.1

pub said_begin : (ls : List Line) → AreSaid ls → steps ls ≡ []
said_begin [] h = refl
said_begin (l ∷ ls) h = ap (λ ss. ss ++ steps ls) (said_line l h.0).1 ∙ said_begin ls h.1

pub said_open : (ls : List Line) → AreSaid ls → AllByRecursion (λ l. is_last l ≡ false) ls
said_open [] h = tt
said_open (l ∷ ls) h = ((said_line l h.0).2, said_open ls h.1)

-- the step under way goes on
later_said : (before : Option Step) (l : Line) → IsSaid l → later_step before l ≡ before
later_said before (line.Event s) h = absurd h
later_said before (line.Entered place e) h = absurd h
later_said before (line.Bad number fault) h = absurd h
later_said before (line.End entered) h = absurd h
later_said before l h = refl

pub way_said : (ls : List Line) (before : Option Step) → AreSaid ls → fold later_step before ls ≡
    before
way_said [] before h = refl
way_said (l ∷ ls) before h = ap (λ x. fold later_step x ls) (later_said before l h.0)
    ∙ way_said ls before h.1

-- ---- entered lines

pub entered_enter : (n : ℕ) (es : List Entry) → entries (entered_lines n es) ≡ es
unfolding entered_lines
entered_enter n [] = refl
entered_enter n (e ∷ es) = ap (λ xs. e ∷ xs) (entered_enter (n + 1) es)

pub entered_begin : (n : ℕ) (es : List Entry) → steps (entered_lines n es) ≡ []
unfolding entered_lines
entered_begin n [] = refl
entered_begin n (e ∷ es) = entered_begin (n + 1) es

pub entered_open : (n : ℕ) (es : List Entry)
    → AllByRecursion (λ l. is_last l ≡ false) (entered_lines n es)
unfolding entered_lines
entered_open n [] = tt
entered_open n (e ∷ es) = (refl, entered_open (n + 1) es)

pub entered_way : (n : ℕ) (es : List Entry) (before : Option Step)
    → fold later_step before (entered_lines n es) ≡ before
unfolding entered_lines
entered_way n [] before = refl
entered_way n (e ∷ es) before = entered_way (n + 1) es before

-- ---- states

-- a line that is no state line
abbrev pub IsStateless : Line → Type 0
IsStateless (line.State server state) = ⊥
IsStateless (line.Down server) = ⊥
IsStateless l = Unit {0}

abbrev pub AreStateless : List Line → Type 0
AreStateless ls = AllByRecursion IsStateless ls

stateless_line : (s : ServerId) (st : Option StateLine) (l : Line) → IsStateless l
    → later_state s st l ≡ st
stateless_line s st (line.State server state) h = absurd h
stateless_line s st (line.Down server) h = absurd h
stateless_line s st l h = refl

pub stateless_keep : (ls : List Line) (s : ServerId) (st : Option StateLine) → AreStateless ls
    → fold (later_state s) st ls ≡ st
stateless_keep [] s st h = refl
stateless_keep (l ∷ ls) s st h = ap (λ x. fold (later_state s) x ls) (stateless_line s st l h.0)
    ∙ stateless_keep ls s st h.1

pub stateless-append : (xs ys : List Line) → AreStateless xs → AreStateless ys
    → AreStateless (xs ++ ys)
stateless-append xs ys = all-append IsStateless xs ys

pub stateless-entered : (n : ℕ) (es : List Entry) → AreStateless (entered_lines n es)
unfolding entered_lines
stateless-entered n [] = tt
stateless-entered n (e ∷ es) = (tt, stateless-entered (n + 1) es)

pub stateless-answered : (q : Place) (ms : List (Move Entry))
    → AreStateless (answered_lines q ms)
stateless-answered q ms = made_each IsStateless (answered_line q) (λ a. tt) (answers_said ms)

pub stateless-refused : (q : Place) (ms : List (Move Entry)) → AreStateless (refused_lines q ms)
stateless-refused q ms = made_each IsStateless (refused_line q) (λ r. tt) (refusals_said ms)

pub stateless-sent : (n : ℕ) (q : Place) (ms : List (Move Entry))
    → AreStateless (sent_lines n q ms)
unfolding packet_lines
stateless-sent n q [] = tt
stateless-sent n q (Sending to m ∷ ms) = (tt, stateless-sent (n + 1) q ms)
stateless-sent n q (m ∷ ms) = stateless-sent n q ms

-- ---- packets

-- a line that is no send line
abbrev pub IsSendless : Line → Type 0
IsSendless (line.Sent packet from to message) = ⊥
IsSendless l = Unit {0}

abbrev pub AreSendless : List Line → Type 0
AreSendless ls = AllByRecursion IsSendless ls

pub sendless-append : (xs ys : List Line) → AreSendless xs → AreSendless ys
    → AreSendless (xs ++ ys)
sendless-append xs ys = all-append IsSendless xs ys

pub sendless-entered : (n : ℕ) (es : List Entry) → AreSendless (entered_lines n es)
unfolding entered_lines
sendless-entered n [] = tt
sendless-entered n (e ∷ es) = (tt, sendless-entered (n + 1) es)

pub sendless-answered : (q : Place) (ms : List (Move Entry)) → AreSendless (answered_lines q ms)
sendless-answered q ms = made_each IsSendless (answered_line q) (λ a. tt) (answers_said ms)

pub sendless-refused : (q : Place) (ms : List (Move Entry)) → AreSendless (refused_lines q ms)
sendless-refused q ms = made_each IsSendless (refused_line q) (λ r. tt) (refusals_said ms)

pub sendless-state : (q : Place) (before now : Option StateLine)
    → AreSendless (state_lines q before now)
sendless-state q before now = by (same_shown before now) now
  where
    by : (b : Bool) (now : Option StateLine)
        → AreSendless (if b then [] else state_line q now ∷ [])
    by true now = tt
    by false (Some st) = (tt, tt)
    by false None = (tt, tt)

-- the first part's packet, else the second one's
abbrev pub or_else : Option PacketShown → Option PacketShown → Option PacketShown
or_else (Some p) o = Some p
or_else None o = o

pub packet_in-append : (xs ys : List Line) (n : ℕ) → packet_in (xs ++ ys) n ≡
    or_else (packet_in xs n) (packet_in ys n)
packet_in-append [] ys n = refl
packet_in-append (line.Sent packet from to message ∷ xs) ys n =
    by (packet == n) (packet_in-append xs ys n)
  where
    by : (b : Bool) → packet_in (xs ++ ys) n ≡ or_else (packet_in xs n) (packet_in ys n)
        → (if b then Some (record { from = from; to = to; message = message }) else
        packet_in (xs ++ ys) n)
        ≡ or_else (if b then Some (record { from = from; to = to; message = message }) else
        packet_in xs n) (packet_in ys n)
    by true e = refl
    by false e = e
packet_in-append (l ∷ xs) ys n = packet_in-append xs ys n

pub sendless_packet : (ls : List Line) (n : ℕ) → AreSendless ls → packet_in ls n ≡ None
sendless_packet [] n h = refl
sendless_packet (line.Sent packet from to message ∷ ls) n h = absurd h.0
sendless_packet (l ∷ ls) n h = sendless_packet ls n h.1

none_else : (o : Option PacketShown) → or_else o None ≡ o
none_else None = refl
none_else (Some p) = refl

pub sendless_same : (before ls : List Line) (n : ℕ) → AreSendless ls → packet_in (before ++ ls) n ≡
    packet_in before n
sendless_same before ls n h = packet_in-append before ls n ∙ ap (or_else (packet_in before n))
    (sendless_packet ls n h) ∙ none_else (packet_in before n)

-- the packet with a number, the newest first
unfoldable pub shown_at : List (Packet Entry) → ℕ → Option PacketShown
shown_at [] n = None
shown_at (p ∷ ps) n = if length ps == n then Some (packet_shown p) else shown_at ps n

none_past : (ps : List (Packet Entry)) (n : ℕ) → length ps ≤ n → shown_at ps n ≡ None
unfolding shown_at
none_past [] n h = refl
none_past (p ∷ ps) n h = subst (λ b. (if b then Some (packet_shown p) else shown_at ps n) ≡
    None) (sym (ne_eqb (length ps) n (λ e. absurd (omega (arith, e, h)))))
    (none_past ps n (omega (arith, h)))

-- a trace shows these packets
abbrev pub ShowsPackets : Trace → List (Packet Entry) → Type 0
ShowsPackets before ps = (n : ℕ) → packet_in before n ≡ shown_at ps n

shown_one : (before : Trace) (ps : List (Packet Entry)) (q to : Place) (m : Message Entry)
    → ShowsPackets before ps
    → ShowsPackets (before ++ sent_line (length ps) q to m ∷ []) (record {
      from = q;
      to =
          to;
      body = m;
    } ∷ ps)
unfolding shown_at
shown_one before ps q to m h n =
    packet_in-append before (sent_line (length ps) q to m ∷ []) n
    ∙ ap (λ o. or_else o (packet_in (sent_line (length ps) q to m ∷ []) n)) (h n)
    ∙ elim (cases_Bool (length ps == n)) [
      | inl same ↦ rw (same, none_past ps n (omega (arith, eqb-true (length ps) n same))) refl
      | inr other ↦ rw other (none_else (shown_at ps n))
    ]

pub packets_shown : (ms : List (Move Entry)) (before : Trace) (ps : List (Packet Entry))
    (q : Place) → ShowsPackets before ps
    → ShowsPackets (before ++ sent_lines (length ps) q ms) (packets_by ps q ms)
unfolding packet_lines
packets_shown [] before ps q h = subst (λ b. ShowsPackets b ps) (sym (append-nil before)) h
packets_shown (Sending to m ∷ ms) before ps q h =
    subst (λ b. ShowsPackets b (packets_by (record { from = q; to = to; body = m } ∷ ps) q ms))
    (append_assoc before (sent_line (length ps) q to m ∷ []) (sent_lines (length ps + 1) q ms))
    (subst (λ k. ShowsPackets ((before ++ sent_line (length ps) q to m ∷ []) ++ sent_lines k q ms)
    (packets_by (record { from = q; to = to; body = m } ∷ ps) q ms)) (omega arith)
    (packets_shown ms (before ++ sent_line (length ps) q to m ∷ []) (record {
      from = q;
      to =
          to;
      body = m;
    } ∷ ps) q (shown_one before ps q to m h)))
packets_shown (m ∷ ms) before ps q h = packets_shown ms before ps q h
