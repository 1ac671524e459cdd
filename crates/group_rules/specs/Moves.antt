-- The small moves of which each step is made, and what each does to the group.
use Rattle.std.specs.Prelude.{ℕ, ◌+◌, ◌-◌, true, false, List, [], ◌∷◌, ◌++◌, length, take, drop, Option, Some, max, if◌then◌else◌}
use Rattle.group_rules.specs.Effects.{NewLog, accepting, booted, demoted, down, heeding, joined_server, opening, report_of, saving}
use Rattle.group_rules.specs.Places.{Place, Trio, at, leader, number, partner, put, same, with_at}
use Rattle.group_rules.specs.State.{Answered, Answers, Chose, Collects, Duty, Group, JoinMade, Lists, Message, Packet, Page, Plan, Pulls, Refuses, Report, Role, Say, Server, mark_of, top}

pub data Move (E : Type 0) : Type 0 where
  -- it joins a view above its promised one, as its coordinator with a duty
  Joining : (view : ℕ) → Duty → Move E
  -- a coordinator takes a join
  Collecting : Trio (Option Report) → Move E
  -- a coordinator forms its view, which starts from another
  Choosing : Plan → (from : ℕ) → Move E
  -- a storer begins to pull, and stages records
  Pulling : Plan → (wanted_from : ℕ) → Move E
  Staging : List E → Move E
  -- a Formed is kept
  Hearing : Place → (lb : ℕ) → Move E
  Accepting : Plan → Role → NewLog E → Move E
  -- the leader opens, and all that its log has is committed
  Opening : (lb : ℕ) → Move E
  -- the partner heeds an Event or Beat, its log being these records before it drops any
  Heeding : List E → (cp base : ℕ) → Move E
  Appending : E → Move E
  -- an open leader keeps what an Ack told
  Noting : (top lb until : ℕ) → Move E
  Committing : ℕ → Move E
  Basing : ℕ → Move E
  Applying : ℕ → Move E
  Flushing : Move E
  Demoting : (view : ℕ) → Move E
  Saving : Move E
  Falling : Move E
  -- a boot, with the group's delta
  Booting : (delta : ℕ) → Move E
  -- a read is entered and answered, with this index
  Reading : (index : ℕ) → E → Move E
  Saying : Say E → Move E
  Sending : Place → Message E → Move E

-- the server after a move
abbrev pub act : {E : Type 0} → Place → ℕ → Server E → Move E → Server E
act q clock s (Joining v duty) = joined_server s v duty
act q clock s (Collecting reports) = record s { duty = Collects reports }
act q clock s (Choosing plan from) = record s { duty = Chose s.promised plan }
act q clock s (Pulling plan from) = record s { mode = Pulls; plan = plan; wanted_from = from; staged = [] }
act q clock s (Staging items) = record s { staged = items }
act q clock s (Hearing x lb) = record s { heard = with_at s.heard x (Some lb) }
act q clock s (Accepting plan role n) = accepting s plan role n
act q clock s (Opening lb) = record (opening s s.plan.start lb) { cp = s.base + length s.items }
act q clock s (Heeding items cp base) = heeding s items cp base clock
act q clock s (Appending e) = record s { items = s.items ++ e ∷ [] }
act q clock s (Noting top lb until) = record s {
  told_top = max s.told_top top;
  told_lb = max s.told_lb lb;
  grant = max s.grant until;
}
act q clock s (Committing n) = record s { cp = n }
act q clock s (Basing n) = record s { base = n; items = drop (n - s.base) s.items }
act q clock s (Applying n) = record s { ap = n }
act q clock s Flushing = record s { lb = s.ap }
act q clock s (Demoting v) = demoted s v
act q clock s Saving = down (mark_of (saving q s s.saved))
act q clock s Falling = down (mark_of s)
act q clock s (Booting delta) = booted q clock delta (mark_of s)
act q clock s (Reading n e) = s
act q clock s (Saying say) = s
act q clock s (Sending to m) = s

-- the page of a view that was just chosen
abbrev pub new_page : {E : Type 0} → Plan → ℕ → List E → Page E
new_page plan from list = record {
  formed = true;
  plan = plan;
  from = from;
  list = list;
  leader_in = false;
  partner_in = false;
  opened = false;
  held_twice = 0;
  until = 0;
}

-- the page after q accepted it
abbrev pub into_page : {E : Type 0} → Page E → Place → Page E
into_page p q = record p {
  leader_in = if same q (leader p.plan.storers) then true else p.leader_in;
  partner_in = if same q (partner p.plan.storers) then true else p.partner_in;
}

-- the page of a view that is open, with k entries held twice and promises up to u
abbrev pub raised_page : {E : Type 0} → Page E → ℕ → ℕ → Page E
raised_page p k u = record p { opened = true; held_twice = k; until = u }

-- the page after the partner had n entries and promised until u
abbrev pub heeded_page : {E : Type 0} → Page E → ℕ → ℕ → Page E
heeded_page p n u = raised_page p (max p.held_twice n) (max p.until u)

-- the pages after a move of a server in the state s
abbrev pub page_after : {E : Type 0} → (ℕ → Page E) → Place → ℕ → Server E → Move E → ℕ → Page E
page_after page q clock s (Choosing plan from) =
    put page s.promised (new_page plan from (take plan.start (page from).list))
page_after page q clock s (Accepting plan role n) = put page s.promised (into_page (page s.promised) q)
page_after page q clock s (Opening lb) =
    put page s.accepted (raised_page (page s.accepted) (page s.accepted).plan.start (page s.accepted).until)
page_after page q clock s (Heeding items cp base) =
    put page s.accepted (heeded_page (page s.accepted) (s.base + length items) (clock + s.delta))
page_after page q clock s (Appending e) =
    put page s.accepted (record (page s.accepted) { list = (page s.accepted).list ++ e ∷ [] })
page_after page q clock s m = page

abbrev pub joins_after : {E : Type 0} → List JoinMade → Place → Server E → Move E → List JoinMade
joins_after joins q s (Joining v duty) = record { from = q; view = v; report = report_of s } ∷ joins
joins_after joins q s m = joins

abbrev pub packets_after : {E : Type 0} → List (Packet E) → Place → Move E → List (Packet E)
packets_after packets q (Sending to m) = record { from = q; to = to; body = m } ∷ packets
packets_after packets q m = packets

-- the book: the entries up to the n-th of a leader's log that weren't entered before
abbrev pub new_entries : {E : Type 0} → List E → ℕ → List E → ℕ → List E
new_entries committed base items n = drop (length committed - base) (take (n - base) items)

abbrev pub entered : {E : Type 0} → List E → ℕ → List E → ℕ → List E
entered committed base items n = committed ++ new_entries committed base items n

abbrev pub committed_after : {E : Type 0} → List E → Server E → Move E → List E
committed_after committed s (Committing n) = entered committed s.base s.items n
committed_after committed s (Opening lb) = entered committed s.base s.items (s.base + length s.items)
committed_after committed s m = committed

abbrev pub book_after : {E : Type 0} → List E → List E → Server E → Move E → List E
book_after book committed s (Committing n) = book ++ new_entries committed s.base s.items n
book_after book committed s (Opening lb) = book ++ new_entries committed s.base s.items (s.base + length s.items)
book_after book committed s (Reading n e) = book ++ e ∷ []
book_after book committed s m = book

abbrev pub said_after : {E : Type 0} → List (Answered E) → Server E → Say E → List (Answered E)
said_after answered s (Answers n e) = record { view = s.accepted; index = n; entry = e } ∷ answered
said_after answered s (Refuses client number cause) = answered
said_after answered s (Lists n) = answered

abbrev pub answered_after : {E : Type 0} → List (Answered E) → Server E → Move E → List (Answered E)
answered_after answered s (Saying say) = said_after answered s say
answered_after answered s m = answered

-- the group after a move of the server q, which is in the state s
abbrev pub moved : {E : Type 0} → Group E → Place → Server E → Move E → Group E
moved g q s m = record {
  server = at g.server q (act q (g.clock q) s m);
  page = page_after g.page q (g.clock q) s m;
  joins = joins_after g.joins q s m;
  packets = packets_after g.packets q m;
  committed = committed_after g.committed s m;
  book = book_after g.book g.committed s m;
  answered = answered_after g.answered s m;
  clock = g.clock;
  delta = g.delta;
}

-- the server after several moves, and the group
abbrev pub acts : {E : Type 0} → Place → ℕ → Server E → List (Move E) → Server E
acts q clock s [] = s
acts q clock s (m ∷ ms) = acts q clock (act q clock s m) ms

abbrev pub moved_by : {E : Type 0} → Group E → Place → Server E → List (Move E) → Group E
moved_by g q s [] = g
moved_by g q s (m ∷ ms) = moved_by (moved g q s m) q (act q (g.clock q) s m) ms
