-- Events that happen one after the other, and what a door makes of them.
use Rattle.std.proofs.Common.{◌≡◌, ◌≤◌, ◌∙◌, ℕ, true, false, List, [], ◌∷◌, ◌++◌, Result, Ok, Err, ap, refl, sym, subst, arith, inl, inr, take, drop, append-nil}
use Rattle.std.proofs.lemmas.List.{take-append-drop}
use Rattle.std.specs.Prelude.{Option, Some, None, OnErr, OnOk, option_map, IsErr, ⊤}
use Rattle.std.specs.Result.{IsErrAnd}
use Rattle.harp_types.specs.Streams.{Rose}
use Rattle.harp_types.specs.declared.server.ServerId.TheVariants.{Zero}
use Rattle.node_link.specs.Readings.{MayTell}
use Rattle.node_link.specs.Traffic.{TakesNext, Traffic, first, next_at, with_sent_told, without_next}
use Rattle.node_link.specs.declared.link.Datagram.{Datagram}
use Rattle.node_link.specs.declared.link.LinkFault.{LinkFault}
use Rattle.node_link.specs.declared.link.LinkFault.TheVariants.{Failed}
use Rattle.door_seats.specs.Doors.{Goes, GoesBy, GoesOn, GoesWell, Heard, IsCounted, Shows, Tells, datagram_of, moment_of, outer_of, scene_of}
use Rattle.door_seats.specs.Events.{AllHappen, Changes, Does, Event, Happens, Hears, IsAt, IsCut, Passes, Reminds, Scene, Seating, Wakes, with_ask, with_seat}
use Rattle.door_seats.specs.Moving.{ask_of}
use Rattle.door_seats.specs.Seats.{Sent, gone}
use Rattle.door_seats.specs.declared.door.Door.{Door}
use Rattle.door_seats.specs.declared.door.Outside.{Outside}
use Rattle.door_seats.specs.declared.rule.Moment.{Moment}
use Rattle.door_seats.specs.declared.rule.Rule.{Rule}
use Rattle.door_seats.specs.declared.seat.Ask.{Ask}
use Rattle.door_seats.specs.declared.seat.Seat.{Seat}

-- ---- results

-- a fault that `?` hands on
pub handed_on : {A : Type 0} (r : Result A LinkFault) (why : LinkFault) → IsErr r
    → IsErrAnd r (λ f. f ≡ why) → r ≡ Err why
handed_on (Ok x) why is same = absurd cc
handed_on (Err f) why is same = ap Err same

-- ---- seats

pub same_seat : (n : ℕ) (g : Seating) (s z : Seat) → IsAt n s g → IsAt n z g → s ≡ z
same_seat n g s z at too = let both : Some s ≡ Some z = sym at ∙ too in cc

-- a seat that was seen to be such is the one that is changed
pub seen : (n : ℕ) (P Q : Seat → Type 0) (change : Seat → Seat) (g h : Seating) → Shows n P g
    → ((s : Seat) → P s → Q s) → Changes n (λ s. ⊤) change g h → Changes n Q change g h
seen n P Q change g h (s, at, p) gives (z, too, _, is) =
    (z, too, gives z (subst P (same_seat n g s z at too) p), is)

-- what was given is the front of what was to be sent
pub given : (n count : ℕ) (bytes : List ℕ) (g h : Seating) → Shows n (λ s. bytes ≡ s.unsent) g
    → ((s : Seat) × IsAt n s g × (h ≡ with_seat n (gone (drop count s.unsent) s) g))
    → (rest : List ℕ) × Changes n (λ s. s.unsent ≡ take count bytes ++ rest) (gone rest) g h
given n count bytes g h (s, at, are) (z, too, is) =
    let same = subst (λ x. bytes ≡ x.unsent) (same_seat n g s z at too) are in
    let front : z.unsent ≡ take count bytes ++ drop count z.unsent =
    subst (λ b. z.unsent ≡ take count b ++ drop count z.unsent) (sym same)
    (sym (take-append-drop count z.unsent)) in
    (drop count z.unsent, (z, too, front, is))

-- ---- asks

-- what was sent is what was asked
pub sent_told : (sent : Option Sent) (ask : Ask) (old new : Option Traffic)
    → Some ask ≡ option_map ask_of sent → new ≡ with_sent_told (datagram_of ask) old
    → new ≡ with_ask sent old
sent_told None ask old new is told = absurd cc
sent_told (Some x) ask old new is told =
    let same : ask ≡ ask_of x = cc in
    told ∙ ap (λ a. with_sent_told (datagram_of a) old) same

-- nothing was asked
pub none_told : (sent : Option Sent) (old : Option Traffic) → None ≡ option_map ask_of sent
    → old ≡ with_ask sent old
none_told None old is = refl
none_told (Some x) old is = absurd cc

-- ---- datagrams

none_first : (ds : List Datagram) → None ≡ first ds → drop 1 ds ≡ ds
none_first [] is = refl
none_first (d ∷ ds) is = absurd cc

none_without : (t : Traffic) → None ≡ next_at Zero t → without_next Zero t ≡ t
none_without t is =
    rw (← is, none_first t.left.zero is, append-nil t.taken) refl

-- where none came, the link tells the same as before
pub none_taken : (old new : Option Traffic) → TakesNext Zero None old new → new ≡ old
none_taken None new told = told
none_taken (Some t) new (is, told) = told ∙ ap Some (none_without t is)

-- ---- events

pub chained : (rule : Rule) (fs es : List Event) (a b c : Scene) → AllHappen rule es a b
    → AllHappen rule fs b c → AllHappen rule (fs ++ es) a c
chained rule [] es a b c first rest = subst (AllHappen rule es a) (sym rest) first
chained rule (f ∷ fs) es a b c first (d, rest, last) = (d, chained rule fs es a b d first rest, last)

pub none_on : (rule : Rule) (a : Scene) → GoesOn rule a a
none_on rule a = ([], refl)

pub one_on : (rule : Rule) (e : Event) (a c : Scene) → Happens rule e a c → GoesOn rule a c
one_on rule e a c happens = (e ∷ [], (a, refl, happens))

pub then_on : (rule : Rule) (a b c : Scene) → GoesOn rule a b → GoesOn rule b c → GoesOn rule a c
then_on rule a b c (es, first) (fs, rest) = (fs ++ es, chained rule fs es a b c first rest)

pub then_by : {A : Type 0} (rule : Rule) (result : Result A LinkFault) (a b c : Scene)
    → GoesOn rule a b → GoesBy rule result b c → GoesBy rule result a c
then_by rule (Ok x) a b c first rest = then_on rule a b c first rest
then_by rule (Err why) a b c first (d, goes, cut) = (d, then_on rule a b d first goes, cut)

-- ---- counts

pub counted_on : {A : Type 0} (result : Result A LinkFault) (k m n : ℕ) → k ≤ m
    → IsCounted result m n → IsCounted result k n
counted_on result k m n more counted =
    (omega (arith, more, counted.0), λ failed. omega (arith, more, counted.1 failed))

-- ---- doors

module _ {N L C : Type 0} (t : Tells N L C) where
  -- nothing happens at first
  pub still : {A : Type 0} (x : A) (d : Door) (o : Outside N L C) → Goes t (Ok x) d o d o
  still x d o = record {
    events = none_on d.rule (scene_of t d o);
    rule = refl;
    counted = (omega arith, λ failed. absurd cc);
  }

  -- what goes well and then goes on
  pub on : {A B : Type 0} {x : A} {result : Result B LinkFault} {d e f : Door}
      {o p q : Outside N L C} → Goes t (Ok x) d o e p → Goes t result e p f q
      → Goes t result d o f q
  on {result = result} {d = d} {e = e} {f = f} {o = o} {p = p} {q = q} first rest = record {
    events = then_by d.rule result (scene_of t d o) (scene_of t e p) (scene_of t f q) first.events
        (subst (λ r. GoesBy r result (scene_of t e p) (scene_of t f q)) first.rule rest.events);
    rule = rest.rule ∙ first.rule;
    counted = counted_on result (t.faults o.link) (t.faults p.link) (t.faults q.link)
        first.counted.0 rest.counted;
  }

  -- nothing can fail where it went well
  pub well : {A : Type 0} {d e : Door} {o p : Outside N L C} (x : A) → GoesWell t d o e p
      → Goes t (Ok x) d o e p
  well x went = record {
    events = went.events;
    rule = went.rule;
    counted = rw went.link (omega arith, λ failed. absurd cc);
  }

  -- the same with another result
  pub again : {A B : Type 0} {x : A} {d e : Door} {o p : Outside N L C} (y : B)
      → Goes t (Ok x) d o e p → Goes t (Ok y) d o e p
  again y goes = record {
    events = goes.events;
    rule = goes.rule;
    counted = (goes.counted.0, λ failed. absurd cc);
  }

  -- what is outside tells the same as before
  pub calm : {A : Type 0} (x : A) (d : Door) (o p : Outside N L C)
      → t.signs p.connections ≡ t.signs o.connections → p.link ≡ o.link → p.clock ≡ o.clock
      → Goes t (Ok x) d o d p
  calm x d o p signs link clock =
      let same : outer_of t p ≡ outer_of t o = rw (signs, link, clock) refl in
      record {
        events = ([], ap (λ y. record { now = d.reading; seating = d.hall; outer = y }) same);
        rule = refl;
        counted = rw link (omega arith, λ failed. absurd cc);
      }

  -- a call is asked again
  pub reminds : (result : Result ⊤ LinkFault) (d e : Door) (o p : Outside N L C) (n : ℕ) (ask : Ask)
      (sent : Option Sent) → Some ask ≡ option_map ask_of sent
      → Does d.rule d.reading (Reminds n sent) d.hall e.hall → e.rule ≡ d.rule
      → e.reading ≡ d.reading
      → OnOk result (t.link p.link ≡ with_sent_told (datagram_of ask) (t.link o.link))
      → OnErr result (t.link p.link ≡ t.link o.link)
      → IsCounted result (t.faults o.link) (t.faults p.link) → p.connections ≡ o.connections
      → p.clock ≡ o.clock → Goes t result d o e p
  reminds (Ok x) d e o p n ask sent is does rule reading told kept counted connections clock = record {
    events = one_on d.rule (Reminds n sent) (scene_of t d o) (scene_of t e p) (record {
      does = does;
      signs = ap t.signs connections;
      link = sent_told sent ask (t.link o.link) (t.link p.link) is told;
      clock = ap t.clock clock;
      now = reading;
    });
    rule = rule;
    counted = counted;
  }
  reminds (Err why) d e o p n ask sent is does rule reading told kept counted connections clock = record {
    events = (
      scene_of t d o,
      none_on d.rule (scene_of t d o),
      record {
        signs = inl (ap t.signs connections);
        link = inl kept;
        clock = inl (ap t.clock clock);
      },
    );
    rule = rule;
    counted = counted;
  }

  -- nothing happened but what an event that is cut off does
  pub stops : {A : Type 0} {d e : Door} {o p : Outside N L C} (result : Result A LinkFault)
      (why : LinkFault) → IsErr result → IsErrAnd result (λ f. f ≡ why) → e.rule ≡ d.rule
      → IsCut (outer_of t o) (outer_of t p) → t.faults o.link ≤ t.faults p.link
      → (why ≡ Failed → Rose (t.faults o.link) (t.faults p.link)) → Goes t result d o e p
  stops (Ok x) why is same rule cut count rose = absurd cc
  stops {d = d} {o = o} (Err f) why is same rule cut count rose = record {
    events = (scene_of t d o, none_on d.rule (scene_of t d o), cut);
    rule = rule;
    counted = (count, λ failed. rose (let met : f ≡ Failed = cc in sym same ∙ met));
  }

  -- what was done goes on, and then fails with whatever result
  pub fails : {A B : Type 0} {d e : Door} {o p : Outside N L C} (result : Result B LinkFault)
      (why : LinkFault) → IsErr result → IsErrAnd result (λ f. f ≡ why)
      → Goes {A = A} t (Err why) d o e p → Goes t result d o e p
  fails (Ok x) why is same goes = absurd cc
  fails (Err f) why is same goes = record {
    events = goes.events;
    rule = goes.rule;
    counted = (
      goes.counted.0,
      λ failed. goes.counted.1 (let met : f ≡ Failed = cc in ap Err (sym same ∙ met)),
    );
  }

  -- the clock is read
  pub wakes : (d e : Door) (o p : Outside N L C) → e.rule ≡ d.rule → e.hall ≡ d.hall
      → MayTell (record { place = Zero; millis = e.reading }) (t.clock o.clock) (t.clock p.clock)
      → p.connections ≡ o.connections → p.link ≡ o.link → Goes t (Ok (tt {0})) d o e p
  wakes d e o p rule hall told connections link = record {
    events = one_on d.rule (Wakes e.reading) (scene_of t d o) (scene_of t e p) (record {
      does = hall;
      signs = ap t.signs connections;
      link = ap t.link link;
      clock = told;
      now = refl;
    });
    rule = rule;
    counted = rw link (omega arith, λ failed. absurd cc);
  }

  -- a datagram was heard, by which a call is asked
  pub heard_ask : (d e : Door) (o p : Outside N L C) (m : Moment) → m ≡ moment_of d
      → (heard : Datagram) (ask : Ask) (between : Option Traffic)
      → TakesNext Zero (Some heard) (t.link o.link) between
      → Heard m heard (Some ask) d.hall e.hall → e.rule ≡ d.rule → e.reading ≡ d.reading
      → t.link p.link ≡ with_sent_told (datagram_of ask) between
      → t.faults o.link ≤ t.faults p.link → t.signs p.connections ≡ t.signs o.connections
      → t.clock p.clock ≡ t.clock o.clock → Goes t (Ok true) d o e p
  heard_ask d e o p m is heard ask between takes (inl (n, sent, asks, does)) rule reading told count signs clock =
      record {
        events = one_on d.rule (Hears n heard sent) (scene_of t d o) (scene_of t e p) (record {
          does = subst (λ x. Does x.rule x.now (Hears n heard sent) d.hall e.hall) is does;
          signs = signs;
          link = (between, takes, sent_told sent ask between (t.link p.link) asks told);
          clock = clock;
          now = reading;
        });
        rule = rule;
        counted = (count, λ failed. absurd cc);
      }
  heard_ask d e o p m is heard ask between takes (inr (none, does)) rule reading told count signs clock =
      absurd cc

  -- one was heard, and nothing is asked
  pub heard_none : (d e : Door) (o p : Outside N L C) (m : Moment) → m ≡ moment_of d
      → (heard : Datagram) → TakesNext Zero (Some heard) (t.link o.link) (t.link p.link)
      → Heard m heard None d.hall e.hall → e.rule ≡ d.rule → e.reading ≡ d.reading
      → t.faults o.link ≤ t.faults p.link → t.signs p.connections ≡ t.signs o.connections
      → t.clock p.clock ≡ t.clock o.clock → Goes t (Ok true) d o e p
  heard_none d e o p m is heard takes (inl (n, sent, asks, does)) rule reading count signs clock =
      record {
        events = one_on d.rule (Hears n heard sent) (scene_of t d o) (scene_of t e p) (record {
          does = subst (λ x. Does x.rule x.now (Hears n heard sent) d.hall e.hall) is does;
          signs = signs;
          link = (t.link p.link, takes, none_told sent (t.link p.link) asks);
          clock = clock;
          now = reading;
        });
        rule = rule;
        counted = (count, λ failed. absurd cc);
      }
  heard_none d e o p m is heard takes (inr (none, does)) rule reading count signs clock = record {
    events = one_on d.rule (Passes heard) (scene_of t d o) (scene_of t e p) (record {
      does = subst (λ x. Does x.rule x.now (Passes heard) d.hall e.hall) is does;
      signs = signs;
      link = takes;
      clock = clock;
      now = reading;
    });
    rule = rule;
    counted = (count, λ failed. absurd cc);
  }

  -- none came
  pub heard_nothing : (d : Door) (o p : Outside N L C)
      → TakesNext Zero None (t.link o.link) (t.link p.link) → t.faults o.link ≤ t.faults p.link
      → t.signs p.connections ≡ t.signs o.connections → t.clock p.clock ≡ t.clock o.clock
      → Goes t (Ok false) d o d p
  heard_nothing d o p takes count signs clock =
      let same : outer_of t p ≡ outer_of t o =
      rw (signs, none_taken (t.link o.link) (t.link p.link) takes, clock) refl in
      record {
        events = ([], ap (λ y. record { now = d.reading; seating = d.hall; outer = y }) same);
        rule = refl;
        counted = (count, λ failed. absurd cc);
      }
