-- What holds at each place of a step's lines.
use Rattle.std.proofs.Common.{◌≡◌, ℕ, ◌+◌, ◌<◌, Bool, true, false, not, List, [], ◌∷◌, ◌++◌, append-nil, length, drop, Option, Some, None, refl, sym, ap, ◌∙◌, subst, inl, inr, arith, fold, if◌then◌else◌}
use Rattle.std.specs.Prelude.{Contains}
use Rattle.std.specs.List.{AllByRecursion}
use Rattle.std.proofs.lemmas.List.Sums.{fold-append}
use Rattle.harp_types.specs.declared.call.Call.{Call}
use Rattle.harp_types.specs.declared.cred.Cred.{Cred}
use Rattle.harp_types.specs.declared.reply.Reply.{Reply}
use Rattle.harp_types.specs.declared.state.StateLine.{StateLine}
use Rattle.harp_types.specs.Update.{is_update}
use Rattle.trace_types.specs.declared.step.Step.{Step}
use Rattle.trace_types.specs.declared.step.Step.TheVariants as step
use Rattle.trace_types.specs.declared.line.Line.{Line}
use Rattle.trace_types.specs.declared.line.Line.TheVariants as line
use Rattle.trace_claims.specs.Acknowledged.{answers_read}
use Rattle.trace_claims.specs.Faithful.{IsBookReply, IsNumbered, IsReplyIn, IsUpdateReply, WasAsked}
use Rattle.trace_claims.specs.Listing.{is_listing}
use Rattle.trace_claims.specs.Servers.{last_state, later_state}
use Rattle.trace_claims.specs.Trace.{AtPlacesAfter, Trace, entries, later_step, step_under_way}
use Rattle.trace_claims.proofs.Places.{all-append, entries-append, places-append, step_under_way-append}
use Rattle.file_tree.specs.Book.{Entry}
use Rattle.group_rules.specs.Moves.{Move, Reading, Saying, Sending, moved}
use Rattle.group_rules.specs.Names.{id_of}
use Rattle.group_rules.specs.Places.{Place}
use Rattle.group_rules.specs.State.{Answers, Group, Open}
use Rattle.group_rules.specs.Step.{Ask, Does, Input}
use Rattle.group_safety.specs.Words.{In}
use Rattle.group_rules.specs.Said.{refusals_said}
use Rattle.group_trace.specs.Lines.{refused_line, answered_lines, entered_line, entered_lines, listing_of, refused_lines, sent_lines, state_line, state_lines, packet_lines}
use Rattle.group_rules.specs.Shown.{state_of}
use Rattle.group_trace.specs.Shown.{same_shown, shown_of}
use Rattle.trace_laws.proofs.Amid.{goes_later}
use Rattle.trace_laws.proofs.Answering.{Answering, AnswersUpdates, IsInBook, answered_in_book, answered_places, committed_listed, enters, given, in_back, kind_answers, milds_silent, reading, silent_answers, tails_enter, updating}
use Rattle.trace_laws.proofs.Asked.{asked_now, asks_for, with_event}
use Rattle.trace_laws.proofs.Keeping.{turn_asked, turn_group, turn_lines, turn_whole}
use Rattle.trace_laws.proofs.LineParts.{made_each, AreSaid, AreStateless, IsSaid, entered_enter, entered_way, said_enter, stateless-entered, stateless_keep, way_said}
use Rattle.trace_laws.proofs.Listings.{list_each}
use Rattle.trace_laws.proofs.Standing.{AskedIn, Stands, asked_more, behind_book, behind_said, book_is, said-listing}
use Rattle.trace_laws.proofs.MoveKinds.{AreTail, IsAsked, tails_mild}
use Rattle.trace_laws.proofs.Turns.{IsBegunBy, Turned, asked, came, other}

-- ---- places of said lines

-- said lines ask nothing of a law that speaks of other lines
pub said_places : (P : Trace → Line → Type 0) → ((before : Trace) (l : Line) → IsSaid l
    → P before l) → (ls : List Line) (before : Trace) → AreSaid ls → AtPlacesAfter P before ls
said_places P f [] before h = tt
said_places P f (l ∷ ls) before h = (f before l h.0, said_places P f ls (before ++ l ∷ []) h.1)

said_numbered : (before : Trace) (l : Line) → IsSaid l → IsNumbered before l
said_numbered before (line.Entered place e) h = absurd h
said_numbered before l h = tt

said_asked : (before : Trace) (l : Line) → IsSaid l → WasAsked before l
said_asked before (line.Entered place e) h = absurd h
said_asked before l h = tt

-- ---- numbers, and asks

entered_numbered : (es : List Entry) (n : ℕ) (before : Trace) → length (entries before) ≡ n
    → AtPlacesAfter IsNumbered before (entered_lines n es)
unfolding entered_lines
entered_numbered [] n before h = tt
entered_numbered (e ∷ es) n before h = (
  ap (λ k. k + 1) (sym h),
  entered_numbered es (n + 1) (before ++ entered_line (n + 1) e ∷ [])
      (ap length (entries-append before (entered_line (n + 1) e ∷ [])) ∙ pushed (entries before) e
      ∙ ap (λ k. k + 1) h),
)
  where
    pushed : (xs : List Entry) (x : Entry) → length (xs ++ x ∷ []) ≡ length xs + 1
    pushed [] x = refl
    pushed (y ∷ xs) x = omega (arith, pushed xs x)

entered_asked : (es : List Entry) (n : ℕ) (before : Trace) → ((e : Entry) → In es e
    → AskedIn before e) → AtPlacesAfter WasAsked before (entered_lines n es)
unfolding entered_lines
entered_asked [] n before h = tt
entered_asked (e ∷ es) n before h = (
  h e (inl refl),
  entered_asked es (n + 1) (before ++ entered_line (n + 1) e ∷ [])
      (λ x i. asked_more before (entered_line (n + 1) e ∷ []) x (h x (inr i))),
)

dropped : (xs ys : List Entry) → drop (length xs) (xs ++ ys) ≡ ys
dropped [] ys = refl
dropped (x ∷ xs) ys = dropped xs ys

-- the new entries, where the book became one with these at its end
new_are : (g g' : Group Entry) (es : List Entry) → g'.book ≡ g.book ++ es
    → drop (length g.book) g'.book ≡ es
new_are g g' es e = ap (drop (length g.book)) e ∙ dropped g.book es

after_event : (before : Trace) (s : Step) (g : Group Entry) → entries before ≡ g.book
    → entries (with_event before s) ≡ g.book
after_event before s g e = entries-append before (line.Event s ∷ []) ∙ append-nil (entries before)
    ∙ e

-- the lines of new entries, and those behind them
abbrev pub new_lines : Group Entry → Place → List (Move Entry) → List Line
new_lines g q ms = entered_lines (length g.book) (drop (length g.book) (turn_group g q ms).book)

abbrev pub rest_lines : Group Entry → Step → Place → List (Move Entry) → List Line
rest_lines g s q ms = behind_book g q ms (shown_of (g.server q))
    (shown_of ((turn_group g q ms).server q)) (listing_of g s)

rest_said : (g : Group Entry) (s : Step) (q : Place) (ms : List (Move Entry))
    → AreSaid (rest_lines g s q ms)
rest_said g s q ms = behind_said g q ms _ _ (listing_of g s) (said-listing g s)

pub numbered_step : (before : Trace) (g : Group Entry) → Stands before g
    → (s : Step) (q : Place) (i : Input) (ms : List (Move Entry)) → Turned g s q i ms
    → AtPlacesAfter IsNumbered before (turn_lines g s q ms)
numbered_step before g h s q i ms t = (
  tt,
  places-append IsNumbered (with_event before s) (new_lines g q ms) (rest_lines g s q ms)
      (entered_numbered (drop (length g.book) (turn_group g q ms).book) (length g.book)
      (with_event before s) (ap length (after_event before s g h.entered)))
      (said_places IsNumbered said_numbered (rest_lines g s q ms) (with_event before s
      ++ new_lines g q ms) (rest_said g s q ms)),
)

-- each new entry was asked for
new_asked : (before : Trace) (g : Group Entry) → Stands before g
    → (s : Step) (q : Place) (i : Input) (ms : List (Move Entry)) → Turned g s q i ms
    → (e : Entry) → In (drop (length g.book) (turn_group g q ms).book) e
    → AskedIn (with_event before s) e
new_asked before g h s q i ms t = by ms t (kind_answers q (g.clock q) (g.server q) i ms t.kind)
  where
    by : (ms : List (Move Entry)) → Turned g s q i ms → Answering (g.clock q) (g.server q) i ms
        → (e : Entry) → In (drop (length g.book) (turn_group g q ms).book) e
        → AskedIn (with_event before s) e
    by ms t (updating _ a) e x =
        let new = enters ms g q (g.server q) a.readless in
        let w = turn_whole g s q i ms t in
        let listed = committed_listed (turn_group g q ms) w e (subst (λ l. In l e) (sym new.2)
        (in_back g.committed new.0 e (subst
        (λ l. In l e) (new_are g (turn_group g q ms) new.0 new.1) x))) in
        turn_asked before g h s q i ms t listed.0 e listed.1
    by _ t (reading r after o is u l tails) e x =
        let same = tails_enter after (moved g q (g.server q) (Reading (g.server q).cp r)) q
        (g.server q) tails o (goes_later (Reading (g.server q).cp r) after g q
        (g.server q) t.goes) in
        alone (subst (λ l. In l e) (new_are g (turn_group g q (Reading (g.server q).cp r ∷ after))
        (r ∷ []) same.0) x)
      where
        alone : In (r ∷ []) e → AskedIn (with_event before s) e
        alone (inl one) = subst (AskedIn (with_event before s)) one
            (asked_now before g s q i r t.begun is)
        alone (inr none) = absurd none

pub asked_step : (before : Trace) (g : Group Entry) → Stands before g
    → (s : Step) (q : Place) (i : Input) (ms : List (Move Entry)) → Turned g s q i ms
    → AtPlacesAfter WasAsked before (turn_lines g s q ms)
asked_step before g h s q i ms t = (
  tt,
  places-append WasAsked (with_event before s) (new_lines g q ms) (rest_lines g s q ms)
      (entered_asked (drop (length g.book) (turn_group g q ms).book) (length g.book)
      (with_event before s) (new_asked before g h s q i ms t))
      (said_places WasAsked said_asked (rest_lines g s q ms) (with_event before s
      ++ new_lines g q ms) (rest_said g s q ms)),
)

-- ---- answers

-- the lines up to the answers
abbrev pub up_to_answers : Trace → Step → Group Entry → Place → List (Move Entry) → Trace
up_to_answers before s g q ms = with_event before s ++ new_lines g q ms

pub way_there : (before : Trace) (s : Step) (g : Group Entry) (q : Place) (ms : List (Move Entry))
    (more : Trace) → AreSaid more → step_under_way (up_to_answers before s g q ms ++ more) ≡ Some s
way_there before s g q ms more h =
    step_under_way-append (up_to_answers before s g q ms) more
    ∙ ap (λ o. fold later_step o more) (step_under_way-append (with_event before s)
    (new_lines g q ms) ∙ entered_way (length g.book) _ _ ∙ step_under_way-append before
    (line.Event s ∷ []))
    ∙ way_said more (Some s) h

pub book_there : (before : Trace) (s : Step) (g : Group Entry) (q : Place) (ms : List (Move Entry))
    (more : Trace) → entries before ≡ g.book → AreSaid more
    → entries (up_to_answers before s g q ms ++ more) ≡ (turn_group g q ms).book
book_there before s g q ms more e h =
    entries-append (up_to_answers before s g q ms) more
    ∙ ap (λ xs. entries (up_to_answers before s g q ms) ++ xs) (said_enter more h)
    ∙ append-nil (entries (up_to_answers before s g q ms))
    ∙ entries-append (with_event before s) (new_lines g q ms)
    ∙ ap (λ xs. xs ++ entries (new_lines g q ms)) (after_event before s g e)
    ∙ ap (λ xs. g.book ++ xs) (entered_enter (length g.book) _) ∙ book_is g q ms

pub state_there : (before : Trace) (s : Step) (g : Group Entry) (q x : Place)
    (ms : List (Move Entry)) (more : Trace) → AreStateless more
    → last_state (up_to_answers before s g q ms ++ more) (id_of x) ≡ last_state before (id_of x)
state_there before s g q x ms more h =
    let f = later_state (id_of x) in
    fold-append f _ (up_to_answers before s g q ms) more ∙ stateless_keep more (id_of x) _ h
    ∙ fold-append f _ (with_event before s) (new_lines g q ms) ∙ stateless_keep (new_lines g q ms)
    (id_of x) _ (stateless-entered (length g.book) _)
    ∙ fold-append f _ before (line.Event s ∷ [])

-- the state of a server that is up
pub its_state : (before : Trace) (g : Group Entry) → Stands before g
    → (s : Step) (q : Place) (ms : List (Move Entry)) (more : Trace) → AreStateless more
    → (g.server q).up ≡ true
    → last_state (up_to_answers before s g q ms ++ more) (id_of q) ≡ Some (state_of (g.server q))
its_state before g h s q ms more quiet up =
    let shown : shown_of (g.server q) ≡ Some (state_of (g.server q)) = rw up refl in
    state_there before s g q q ms more quiet ∙ h.states q ∙ shown

-- a line that doesn't answer
abbrev pub IsNoAnswer : Line → Type 0
IsNoAnswer (line.Answered server client number index reply) = ⊥
IsNoAnswer l = Unit {0}

no_answers : (P : Trace → Line → Type 0) → ((before : Trace) (l : Line) → IsNoAnswer l
    → P before l) → (ls : List Line) (before : Trace) → AllByRecursion IsNoAnswer ls
    → AtPlacesAfter P before ls
no_answers P f [] before h = tt
no_answers P f (l ∷ ls) before h = (f before l h.0, no_answers P f ls (before ++ l ∷ []) h.1)

entered_no : (n : ℕ) (es : List Entry) → AllByRecursion IsNoAnswer (entered_lines n es)
unfolding entered_lines
entered_no n [] = tt
entered_no n (e ∷ es) = (tt, entered_no (n + 1) es)

refused_no : (q : Place) (ms : List (Move Entry)) → AllByRecursion IsNoAnswer (refused_lines q ms)
refused_no q ms = made_each IsNoAnswer (refused_line q) (λ r. tt) (refusals_said ms)

sent_no : (n : ℕ) (q : Place) (ms : List (Move Entry))
    → AllByRecursion IsNoAnswer (sent_lines n q ms)
unfolding packet_lines
sent_no n q [] = tt
sent_no n q (Sending to m ∷ ms) = (tt, sent_no (n + 1) q ms)
sent_no n q (m ∷ ms) = sent_no n q ms

state_no : (q : Place) (before now : Option StateLine)
    → AllByRecursion IsNoAnswer (state_lines q before now)
state_no q before now = by (same_shown before now) now
  where
    by : (b : Bool) (now : Option StateLine) → AllByRecursion IsNoAnswer (if b then [] else
        state_line q now ∷ [])
    by true now = tt
    by false (Some st) = (tt, tt)
    by false None = (tt, tt)

listing_no : (g : Group Entry) (s : Step) → AllByRecursion IsNoAnswer (listing_of g s)
listing_no g s = list_each IsNoAnswer inside (λ x c n. tt) (λ x. tt) g s
  where
    inside : (l : Line) → is_listing l ≡ true → IsNoAnswer l
    inside (line.Answered server client number index reply) e = cc
    inside l e = tt

-- the lines behind the answers
abbrev pub behind_answers : Group Entry → Step → Place → List (Move Entry) → List Line
behind_answers g s q ms = refused_lines q ms ++ (sent_lines (length g.packets) q ms
    ++ (state_lines q (shown_of (g.server q)) (shown_of ((turn_group g q ms).server q))
    ++ listing_of g s))

pub behind_no : (g : Group Entry) (s : Step) (q : Place) (ms : List (Move Entry))
    → AllByRecursion IsNoAnswer (behind_answers g s q ms)
behind_no g s q ms =
    all-append IsNoAnswer (refused_lines q ms) _ (refused_no q ms)
    (all-append IsNoAnswer (sent_lines (length g.packets) q ms) _ (sent_no (length g.packets) q ms)
    (all-append IsNoAnswer (state_lines q _ _) (listing_of g s) (state_no q _ _) (listing_no g s)))

pub entered_none : (g : Group Entry) (q : Place) (ms : List (Move Entry))
    → AllByRecursion IsNoAnswer (new_lines g q ms)
entered_none g q ms = entered_no (length g.book) _

-- a law of answered lines alone, over all lines of a step
pub answered_step : (P : Trace → Line → Type 0) → ((before : Trace) (l : Line) → IsNoAnswer l
    → P before l)
    → (before : Trace) (s : Step) (g : Group Entry) (q : Place) (ms : List (Move Entry))
    → AtPlacesAfter P (up_to_answers before s g q ms) (answered_lines q ms)
    → AtPlacesAfter P before (turn_lines g s q ms)
answered_step P f before s g q ms h = (
  f before (line.Event s) tt,
  places-append P (with_event before s) (new_lines g q ms) (answered_lines q ms
      ++ behind_answers g s q ms) (no_answers P f (new_lines g q ms) _ (entered_none g q ms))
      (places-append P (up_to_answers before s g q ms) (answered_lines q ms)
      (behind_answers g s q ms) h (no_answers P f (behind_answers g s q ms) _
      (behind_no g s q ms))),
)

-- ---- what the step asks for

-- a step in which updates are answered asks for no read
pub answers_no_read : (g : Group Entry) (s : Step) (q : Place) (i : Input) → IsBegunBy g s q i
    → ((client number : ℕ) (cred : Cred) (call : Call) → i ≡ Does (Ask client number cred call)
    → is_update call ≡ true) → answers_read (Some s) ≡ false
answers_no_read g s q i (asked server client number cred call) u =
    ap not (u client number cred call refl)
answers_no_read g s q i (came n p at) u = refl
answers_no_read g s q i (other (step.Ask server client number cred call) q' d o n) u = absurd o
answers_no_read g s q i (other s' q' d o n) u = refl

pub asks_read : (g : Group Entry) (s : Step) (q : Place) (i : Input) (e : Entry)
    → IsBegunBy g s q i → IsAsked i e → is_update e.call ≡ false → answers_read (Some s) ≡ true
asks_read g s q i e b a r =
    let ask = asks_for g s q i e b a in
    ap (λ s. answers_read (Some s)) ask.is ∙ ap not r

-- ---- replies of the book

no_reply : (before : Trace) (l : Line) → IsNoAnswer l → IsBookReply before l
no_reply before (line.Answered server client number index reply) h = absurd h
no_reply before l h = tt

-- in this step answers are replies to updates
abbrev pub RepliesToUpdates : Step → Type 0
RepliesToUpdates s = (before : Trace) (client number index : ℕ) (reply : Reply)
    → IsUpdateReply before client number index reply
    → IsReplyIn (Some s) before client number index reply

replies_to_updates : (g : Group Entry) (s : Step) (q : Place) (i : Input) → IsBegunBy g s q i
    → ((client number : ℕ) (cred : Cred) (call : Call) → i ≡ Does (Ask client number cred call)
    → is_update call ≡ true) → RepliesToUpdates s
replies_to_updates g s q i (asked server client number cred call) u =
    λ before c k n reply r. rw (u client number cred call refl) r
replies_to_updates g s q i (came n p at) u = λ before c m k reply r. r
replies_to_updates g s q i (other (step.Ask server client number cred call) q' d o n) u = absurd o
replies_to_updates g s q i (other s' q' d o n) u = λ before c m k reply r. r

update_replied : (before : Trace) (g : Group Entry) (s : Step) (q : Place) (n : ℕ) (e : Entry)
    → step_under_way before ≡ Some s → entries before ≡ g.book → RepliesToUpdates s
    → IsInBook g.book n e
    → IsBookReply before (line.Answered (id_of q) e.client e.number n e.reply)
update_replied before g s q n e way book u k =
    subst (λ w. IsReplyIn w before e.client e.number n e.reply) (sym way)
    (u before e.client e.number n e.reply
    (record {
      entry = e;
      stands = subst (λ es. Contains es e) (sym book) k.stands;
      updates =
          k.updates;
      client_is = refl;
      number_is = refl;
      index_is = k.index;
      reply_is = refl;
    }))

-- a read is answered as it was just entered
read_replied : (before : Trace) (g : Group Entry) (s : Step) (q : Place) (i : Input)
    (place index : ℕ) (e : Entry) → IsBegunBy g s q i → IsAsked i e → is_update e.call ≡ false
    → step_under_way (before ++ entered_line place e ∷ []) ≡ Some s
    → IsBookReply (before ++ entered_line place e ∷ [])
    (line.Answered (id_of q) e.client e.number index e.reply)
read_replied before g s q i place index e b a r way =
    let ask = asks_for g s q i e b a in
    subst (λ w. IsReplyIn w (before ++ entered_line place e ∷ []) e.client e.number index e.reply)
    (sym (way ∙ ap Some ask.is)) (rw r (record {
      earlier = before;
      place = place;
      entry = record {
        index = e.index;
        client = e.client;
        number = e.number;
        cred =
            e.cred;
        stamp = e.stamp;
        call = e.call;
        reply = e.reply;
      };
      stands = refl;
      client_is = refl;
      number_is = refl;
      cred_is = refl;
      call_is = refl;
      reply_is = refl;
    }))

one_entered : (g : Group Entry) (e : Entry) (book : List Entry) → book ≡ g.book ++ e ∷ []
    → entered_lines (length g.book) (drop (length g.book) book) ≡
    entered_line (length g.book + 1) e ∷ []
unfolding entered_lines
one_entered g e book is = ap (λ b. entered_lines (length g.book) (drop (length g.book) b)) is
    ∙ ap (entered_lines (length g.book)) (dropped g.book (e ∷ []))

-- what a law of answers asks of each answer of a step
pub record AnswerLaw (P : Trace → Line → Type 0) (before : Trace) (g : Group Entry) (s : Step)
    (q : Place) (i : Input) : Type 0 where
  pub of_update : (ms : List (Move Entry)) → Turned g s q i ms → AnswersUpdates (g.server q) i ms
      → (n : ℕ) (e : Entry) → In ms (Saying (Answers n e)) → (more : Trace) → AreSaid more
      → AreStateless more
      → P (up_to_answers before s g q ms ++ more)
      (line.Answered (id_of q) e.client e.number n e.reply)
  pub of_read : (e : Entry) (after : List (Move Entry)) → Turned g s q i (Reading (g.server q).cp e
      ∷ after) → (g.server q).mode ≡ Open → IsAsked i e → is_update e.call ≡ false
      → g.clock q < (g.server q).grant
      → AreTail after → P (up_to_answers before s g q (Reading (g.server q).cp e ∷ after))
      (line.Answered (id_of q) e.client e.number (g.server q).cp e.reply)
  pub other_lines : (before : Trace) (l : Line) → IsNoAnswer l → P before l

pub law_step : (P : Trace → Line → Type 0) (before : Trace) (g : Group Entry) (s : Step)
    (q : Place) (i : Input) (ms : List (Move Entry)) → Turned g s q i ms
    → AnswerLaw P before g s q i → AtPlacesAfter P before (turn_lines g s q ms)
law_step P before g s q i ms t law = answered_step P law.other_lines before s g q ms
    (by ms t (kind_answers q (g.clock q) (g.server q) i ms t.kind))
  where
    by : (ms : List (Move Entry)) → Turned g s q i ms → Answering (g.clock q) (g.server q) i ms
        → AtPlacesAfter P (up_to_answers before s g q ms) (answered_lines q ms)
    by ms t (updating _ a) = answered_places P q ms (up_to_answers before s g q ms) a.readless
        (λ n e x more said quiet. law.of_update ms t a n e x more said quiet)
    by _ t (reading e after o is u l tails) =
        let ms = Reading (g.server q).cp e ∷ after in
        let one = line.Answered (id_of q) e.client e.number (g.server q).cp e.reply in
        subst (λ ls. AtPlacesAfter P (up_to_answers before s g q ms) (one ∷ ls))
        (sym (silent_answers q after (milds_silent after (tails_mild after tails))))
        (law.of_read e after t o is u l tails, tt)

-- an answer that was given in this step
pub given_now : (g : Group Entry) (s : Step) (q : Place) (i : Input) (ms : List (Move Entry))
    → Turned g s q i ms → AnswersUpdates (g.server q) i ms → (n : ℕ) (e : Entry)
    → In ms (Saying (Answers n e))
    → In (turn_group g q ms).answered (record {
      view = (g.server q).accepted;
      index = n;
      entry =
          e;
    })
given_now g s q i ms t a n e x = given ms g q (g.server q) n e (a.views n e x) x

pub replied_step : (before : Trace) (g : Group Entry) → Stands before g
    → (s : Step) (q : Place) (i : Input) (ms : List (Move Entry)) → Turned g s q i ms
    → AtPlacesAfter IsBookReply before (turn_lines g s q ms)
replied_step before g h s q i ms t = law_step IsBookReply before g s q i ms t (record {
  of_update = λ ms t a n e x more said quiet.
      let in_book = answered_in_book (turn_group g q ms) (turn_whole g s q i ms t) (record {
        view =
            (g.server q).accepted;
        index = n;
        entry = e;
      }) (given_now g s q i ms t a n e x) in
      update_replied (up_to_answers before s g q ms ++ more) (turn_group g q ms) s q n e
      (way_there before s g q ms more said) (book_there before s g q ms more h.entered said)
      (replies_to_updates g s q i t.begun (a.each n e x).asks) in_book;
  of_read = λ e after t o is u l tails.
      let ms = Reading (g.server q).cp e ∷ after in
      let same = tails_enter after (moved g q (g.server q) (Reading (g.server q).cp e)) q
      (g.server q) tails o (goes_later (Reading (g.server q).cp e) after g q
      (g.server q) t.goes) in
      let entered = one_entered g e (turn_group g q ms).book same.0 in
      subst (λ ls. IsBookReply (with_event before s
      ++ ls) (line.Answered (id_of q) e.client e.number (g.server q).cp e.reply)) (sym entered)
      (read_replied (with_event before s) g s q i (length g.book + 1)
      (g.server q).cp e t.begun is u
      (step_under_way-append (with_event before s) (entered_line (length g.book + 1) e ∷ [])
      ∙ step_under_way-append before (line.Event s ∷ [])));
  other_lines = no_reply;
})
