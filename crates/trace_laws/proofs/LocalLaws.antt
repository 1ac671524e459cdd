-- The lines of a step name its server alone, and packets are numbered as they are sent.
use Rattle.std.proofs.Common.{◌≡◌, Bool, ℕ, ◌+◌, true, false, List, [], ◌∷◌, ◌++◌, append_assoc, append-nil, length, take, Option, Some, None, refl, sym, ap, ◌∙◌, subst, fold, if◌then◌else◌}
use Rattle.std.specs.List.{AllByRecursion}
use Rattle.std.proofs.lemmas.List.Sums.{fold-append}
use Rattle.harp_types.specs.declared.server.ServerId.{ServerId}
use Rattle.harp_types.specs.declared.server.ServerId.TheVariants as server
use Rattle.harp_types.specs.declared.state.StateLine.{StateLine}
use Rattle.trace_types.specs.declared.step.Step.{Step}
use Rattle.trace_types.specs.declared.step.Step.TheVariants as step
use Rattle.trace_types.specs.declared.line.Line.{Line}
use Rattle.trace_types.specs.declared.line.Line.TheVariants as line
use Rattle.trace_claims.specs.Listing.{is_listing, tree_lines}
use Rattle.trace_claims.specs.LocalSteps.{IsGiven, IsNextPacket, IsOfItsStep, Names, more_sent, sent_in, stepper, stepper_of, target_of}
use Rattle.trace_claims.specs.Servers.{packet_in}
use Rattle.trace_claims.specs.Trace.{AtPlacesAfter, Trace, later_step, step_under_way, steps}
use Rattle.trace_claims.proofs.Places.{all-append, step_under_way-append, steps-append}
use Rattle.file_tree.specs.Book.{Entry, tree_after}
use Rattle.group_rules.specs.Disk.{settled_tests}
use Rattle.group_rules.specs.Moves.{Move, Sending}
use Rattle.group_rules.specs.Names.{id_of, place_of}
use Rattle.group_rules.specs.Places.{Place, all_of}
use Rattle.group_rules.specs.Said.{answers_said, refusals_said}
use Rattle.group_rules.specs.State.{Group, Packet}
use Rattle.group_rules.specs.Step.{Input, list_of, numbered}
use Rattle.group_rules.proofs.Tests.{by_if}
use Rattle.group_trace.specs.Lines.{answered_line, answered_lines, refused_line, entered_lines, listed_lines, listing_of, lines_of_moves, refused_lines, sent_lines, state_line, state_lines, packet_lines}
use Rattle.group_trace.specs.Shown.{packet_shown, same_shown}
use Rattle.trace_laws.proofs.Asked.{with_event}
use Rattle.trace_laws.proofs.Keeping.{turn_group, turn_lines}
use Rattle.trace_laws.proofs.LineParts.{made_each, AreSendless, IsSendless, or_else, packet_in-append}
use Rattle.trace_laws.proofs.Listings.{AreListing, tree_listing}
use Rattle.trace_laws.proofs.Packets.{shown_where}
use Rattle.trace_laws.proofs.Standing.{Stands, moves_begin, said-listing}
use Rattle.trace_laws.proofs.Turns.{IsAt, IsBegunBy, Turned, asked, came, other}

-- ---- places of lines that begin no step

-- what holds of each line wherever no step begins before it
pub quiet_places : (P : Trace → Line → Type 0) (Q : Line → Type 0) (start : Trace)
    → ((more : Trace) (l : Line) → steps more ≡ [] → Q l → P (start ++ more) l)
    → (ls more : Trace) → steps more ≡ [] → steps ls ≡ [] → AllByRecursion Q ls
    → AtPlacesAfter P (start ++ more) ls
quiet_places P Q start f [] more m e h = tt
quiet_places P Q start f (line.Event s ∷ ls) more m e h = absurd cc
quiet_places P Q start f (l ∷ ls) more m e h = (
  f more l m h.0,
  subst (λ b. AtPlacesAfter P b ls) (sym (append_assoc start more (l ∷ [])))
      (quiet_places P Q start f ls (more ++ l ∷ [])
      (steps-append more (l ∷ []) ∙ append-nil (steps more) ∙ m) e h.1),
)

-- ---- whom lines name

listing_names : (s : ServerId) (ls : List Line) → AreListing ls → AllByRecursion (Names s) ls
listing_names s [] h = tt
listing_names s (l ∷ ls) h = (one l h.0, listing_names s ls h.1)
  where
    one : (l : Line) → is_listing l ≡ true → Names s l
    one (line.Object attr) e = tt
    one (line.Slot dir slot number name) e = tt
    one (line.Block file block bytes) e = tt
    one (line.Text link text) e = tt
    one (line.Event x) e = cc
    one (line.Entered place x) e = cc
    one (line.Answered server client number index reply) e = cc
    one (line.Refused server client number cause) e = cc
    one (line.Sent n from to m) e = cc
    one (line.State server st) e = cc
    one (line.Down server) e = cc
    one (line.Listed server cp n) e = cc
    one (line.Unlisted server) e = cc
    one (line.Bad number fault) e = cc
    one (line.End n) e = cc

names_listed : (q : Place) (g : Group Entry) (s : Step) → IsAt s q
    → AllByRecursion (Names (id_of q)) (listing_of g s)
names_listed q g (step.List server) at' =
    let x = place_of server in
    by_if (AllByRecursion (Names (id_of q))) (all_of (settled_tests x (g.server x)))
    (listed_lines x (g.server x).cp (tree_after (take (g.server x).cp (list_of g x)))) _
    (λ _. (
      ap id_of (sym at'),
      listing_names (id_of q) (tree_lines (tree_after
          (take (g.server x).cp (list_of g x)))) (tree_listing _),
    ))
    (λ _. (ap id_of (sym at'), tt))
names_listed q g s at' = tt

names_entered : (s : ServerId) (n : ℕ) (es : List Entry)
    → AllByRecursion (Names s) (entered_lines n es)
unfolding entered_lines
names_entered s n [] = tt
names_entered s n (e ∷ es) = (tt, names_entered s (n + 1) es)

names_answered : (q : Place) (ms : List (Move Entry))
    → AllByRecursion (Names (id_of q)) (answered_lines q ms)
names_answered q ms = made_each (Names (id_of q)) (answered_line q) (λ a. refl) (answers_said ms)

names_refused : (q : Place) (ms : List (Move Entry))
    → AllByRecursion (Names (id_of q)) (refused_lines q ms)
names_refused q ms = made_each (Names (id_of q)) (refused_line q) (λ r. refl) (refusals_said ms)

names_sent : (n : ℕ) (q : Place) (ms : List (Move Entry))
    → AllByRecursion (Names (id_of q)) (sent_lines n q ms)
unfolding packet_lines
names_sent n q [] = tt
names_sent n q (Sending to m ∷ ms) = (refl, names_sent (n + 1) q ms)
names_sent n q (m ∷ ms) = names_sent n q ms

names_state : (q : Place) (before now : Option StateLine)
    → AllByRecursion (Names (id_of q)) (state_lines q before now)
names_state q before now = by (same_shown before now) now
  where
    by : (b : Bool) (now : Option StateLine)
        → AllByRecursion (Names (id_of q)) (if b then [] else state_line q now ∷ [])
    by true now = tt
    by false (Some st) = (refl, tt)
    by false None = (refl, tt)

pub names_moves : (g g' : Group Entry) (s : Step) (q : Place) (ms : List (Move Entry)) → IsAt s q
    → AllByRecursion (Names (id_of q)) (lines_of_moves g g' q ms (listing_of g s))
names_moves g g' s q ms at' =
    let N = Names (id_of q) in
    all-append N (entered_lines (length g.book) _) _ (names_entered (id_of q) (length g.book) _)
    (all-append N (answered_lines q ms) _ (names_answered q ms)
    (all-append N (refused_lines q ms) _ (names_refused q ms)
    (all-append N (sent_lines (length g.packets) q ms) _ (names_sent (length g.packets) q ms)
    (all-append N (state_lines q _ _) (listing_of g s) (names_state q _ _)
    (names_listed q g s at')))))

-- ---- the server of a step

pub way_goes : (start more : Trace) (s : Step) → step_under_way start ≡ Some s → steps more ≡ []
    → step_under_way (start ++ more) ≡ Some s
way_goes start more s w e = step_under_way-append start more
    ∙ ap (λ o. fold later_step o more) w ∙ keeps more e
  where
    keeps : (ls : Trace) → steps ls ≡ [] → fold later_step (Some s) ls ≡ Some s
    keeps [] e = refl
    keeps (line.Event x ∷ ls) e = absurd cc
    keeps (l ∷ ls) e = keeps ls e

-- the packet of a delivery, whatever is sent after
pub came_packet : (before more : Trace) (g : Group Entry) → Stands before g
    → (n : ℕ) (p : Packet Entry) → numbered g.packets n ≡ Some p
    → packet_in (before ++ more) n ≡ Some (packet_shown p)
came_packet before more g h n p e = packet_in-append before more n
    ∙ ap (λ o. or_else o (packet_in more n)) (h.packets n ∙ shown_where g.packets n p e)

back_to : (s : ServerId) → s ≡ id_of (place_of s)
back_to server.Zero = refl
back_to server.One = refl
back_to server.Two = refl

of_place : (q : Place) (s : ServerId) → q ≡ place_of s → Some s ≡ Some (id_of q)
of_place q s e = ap Some (back_to s) ∙ ap (λ x. Some (id_of x)) (sym e)

its_stepper : (before more : Trace) (g : Group Entry) → Stands before g
    → (s : Step) (q : Place) (i : Input) → IsBegunBy g s q i → IsAt s q
    → stepper (before ++ more) s ≡ Some (id_of q)
its_stepper before more g h s q i b at' = by s q i b at'
  where
    by : (s : Step) (q : Place) (i : Input) → IsBegunBy g s q i → IsAt s q
        → stepper (before ++ more) s ≡ Some (id_of q)
    by _ _ _ (asked server client number cred call) at' = of_place _ server at'
    by _ _ _ (came n p is) at' = ap target_of (came_packet before more g h n p is)
    by _ _ _ (other (step.Tick server) q d o x) at' = of_place q server at'
    by _ _ _ (other (step.Suspect server) q d o x) at' = of_place q server at'
    by _ _ _ (other (step.Apply server most) q d o x) at' = of_place q server at'
    by _ _ _ (other (step.Flush server) q d o x) at' = of_place q server at'
    by _ _ _ (other (step.List server) q d o x) at' = of_place q server at'
    by _ _ _ (other (step.Boot server) q d o x) at' = of_place q server at'
    by _ _ _ (other (step.Power server) q d o x) at' = of_place q server at'
    by _ _ _ (other (step.PowerCut server calls pick) q d o x) at' = of_place q server at'
    by _ _ _ (other (step.Crash server pick) q d o x) at' = of_place q server at'
    by _ _ _ (other (step.Ask server client number cred call) q d o x) at' = absurd o
    by _ _ _ (other (step.Deliver n) q d o x) at' = absurd o
    by _ _ _ (other s q d o x) at' = absurd at'

given_name : (s : ServerId) (l : Line) → Names s l → IsGiven (Some s) l
given_name s (line.Event x) h = tt
given_name s (line.Bad number fault) h = tt
given_name s (line.End n) h = tt
given_name s l h = h

pub names_step : (before : Trace) (g : Group Entry) → Stands before g
    → (s : Step) (q : Place) (i : Input) (ms : List (Move Entry)) → Turned g s q i ms
    → AtPlacesAfter IsOfItsStep before (turn_lines g s q ms)
names_step before g h s q i ms t =
    let start = with_event before s in
    let ls = lines_of_moves g (turn_group g q ms) q ms (listing_of g s) in (
      tt,
      subst (λ b. AtPlacesAfter IsOfItsStep b ls) (append-nil start)
          (quiet_places IsOfItsStep (Names (id_of q)) start own ls [] refl
          (moves_begin g (turn_group g q ms) q ms (listing_of g s) (said-listing g s))
          (names_moves g (turn_group g q ms) s q ms t.at')),
    )
  where
    own : (more : Trace) (l : Line) → steps more ≡ [] → Names (id_of q) l
        → IsOfItsStep (with_event before s ++ more) l
    own more l m n =
        let start = with_event before s in
        let way : step_under_way (start ++ more) ≡ Some s =
        way_goes start more s (step_under_way-append before (line.Event s ∷ [])) m in
        let mine : stepper (start ++ more) s ≡ Some (id_of q) =
        ap (λ b. stepper b s) (append_assoc before (line.Event s ∷ []) more)
        ∙ its_stepper before (line.Event s ∷ more) g h s q i t.begun t.at' in
        subst (λ x. IsGiven x l) (sym (ap (stepper_of (start ++ more)) way ∙ mine))
        (given_name (id_of q) l n)

-- ---- packets

-- after the first n packets
pub sent_none : (ls : List Line) (n : ℕ) → AreSendless ls → fold more_sent n ls ≡ n
sent_none [] n h = refl
sent_none (line.Sent packet from to m ∷ ls) n h = absurd h.0
sent_none (l ∷ ls) n h = sent_none ls n h.1

pub sendless_next : (P : Trace → Line → Type 0) → ((before : Trace) (l : Line) → IsSendless l
    → P before l) → (ls : List Line) (before : Trace) → AreSendless ls → AtPlacesAfter P before ls
sendless_next P f [] before h = tt
sendless_next P f (l ∷ ls) before h = (f before l h.0, sendless_next P f ls (before ++ l ∷ []) h.1)

pub no_send : (before : Trace) (l : Line) → IsSendless l → IsNextPacket before l
no_send before (line.Sent packet from to m) h = absurd h
no_send before l h = tt

pub next_sent : (ms : List (Move Entry)) (n : ℕ) (q : Place) (before : Trace) → sent_in before ≡ n
    → AtPlacesAfter IsNextPacket before (sent_lines n q ms)
unfolding packet_lines
next_sent [] n q before e = tt
next_sent (Sending to m ∷ ms) n q before e = (
  sym e,
  next_sent ms (n + 1) q _ (fold-append more_sent 0 before _ ∙ ap (λ k. k + 1) e),
)
next_sent (m ∷ ms) n q before e = next_sent ms n q before e
