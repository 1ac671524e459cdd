-- Boots and turns of the servers of one call are parts of a history.
use Rattle.std.proofs.Common.{◌≡◌, ℕ, zero, suc, Bool, true, false, nat_le, List, [], ◌∷◌, ◌++◌, append-nil, flat_map, map, Contains, Option, None, Some, refl, sym, ap, ◌∙◌, subst, arith, ⊎_elim}
use Rattle.std.specs.Prelude.{⊤}
use Rattle.std.specs.List.{AllByRecursion}
use Rattle.std.proofs.lemmas.List.Elements.{Contains-append_cases, Contains-append_right, Contains-push_cases}
use Rattle.std.specs.Option.{option_map}
use Rattle.group_rules.proofs.Tests.{by_if}
use Rattle.harp_store.specs.Disk.{Moments}
use Rattle.harp_types.specs.Trio.{value_of, with_value}
use Rattle.harp_types.specs.declared.server.ServerId.{ServerId}
use Rattle.harp_types.specs.declared.trio.Trio.{Trio}
use Rattle.node.specs.declared.input.Input.{Input}
use Rattle.node.specs.declared.input.Input.TheVariants as input
use Rattle.node_link.specs.Readings.{MayTell}
use Rattle.node_link.specs.Traffic.{TakesNext, Traffic, taken_at, without_next}
use Rattle.node_link.specs.declared.clock.Reading.{Reading}
use Rattle.node_link.specs.declared.link.Datagram.{Datagram}
use Rattle.node_loop.specs.Arriving.{Arrives}
use Rattle.node_loop.specs.Chain.{Chain}
use Rattle.node_loop.specs.Looks.{look_of}
use Rattle.node_loop.specs.Run.{BootsWith, IsGiven, TurnsAt, rounds}
use Rattle.node_loop.specs.declared.habit.Habit.{Habit}
use Rattle.node_loop.specs.Scene.{AtWork, Scene, Spot, at_work, with_all_sent, with_spot}
use Rattle.node_loop.specs.Step.{IsBoot}
use Rattle.node_loop.specs.Turn.{IsReceive, IsTurnBy, LinkTurnsBy, MayTellAll, inputs_of, readings_of, second_of}
use Rattle.node_loop.specs.Turns.{Pacing, due_inputs, flushes, given_if, is_due, suspects, tick_inputs}
use Rattle.node_loop.specs.declared.look.Look.{Look}
use Rattle.node_loop.specs.declared.running.Running.{Running}
use Rattle.node_loop.specs.declared.turned.Turned.{Turned}
use Rattle.promise.specs.Promise.{IsDelta}
use Rattle.world.proofs.Tables.{value_there}
use Rattle.running_laws.specs.Events.{Boots, Does, Event, Site, Takes, all_sent}
use Rattle.running_laws.specs.Lives.{IsOwn, WholeBoot}
use Rattle.running_laws.specs.Parts.{AreReadIn, AreSitesOf, ClockDid, Did, LinkDid, all_taken, reading_of, taken_in}
use Rattle.running_laws.proofs.Given.{AreGivenAs, IsWorkOf, all_given, sent_none}
use Rattle.running_laws.proofs.Parts.{HappensThere, all_happen, did_nothing, did_then, site_set}
use Rattle.running_laws.proofs.Told.{booted_tells}

-- ---- the links and the clocks of a turn

-- what was taken before is what these events take, and they send the rest
pub linked : (place : ServerId) (taken : Option Datagram) (es : List Event)
    (old before new : Option Traffic) → TakesNext place taken old before
    → all_taken es ≡ taken_at place taken → new ≡ with_all_sent (all_sent es) before
    → LinkDid es old new
linked place taken es None before new takes took sent =
    sent ∙ ap (with_all_sent (all_sent es)) takes
linked place taken es (Some t) before new takes took sent = (
  record (without_next place t) { sent = t.sent ++ all_sent es },
  sent ∙ ap (with_all_sent (all_sent es)) takes.1,
  ap (λ ts. t.taken ++ ts) (sym (ap (taken_at place) takes.0) ∙ sym took),
  refl,
)

-- a turn that is due takes nothing
pub unlinked : (es : List Event) (old new : Option Traffic) → all_taken es ≡ []
    → new ≡ with_all_sent (all_sent es) old → LinkDid es old new
unlinked es None new took sent = sent
unlinked es (Some t) new took sent = (
  record t { sent = t.sent ++ all_sent es },
  sent,
  sym (append-nil t.taken) ∙ ap (λ ts. t.taken ++ ts) (sym took),
  refl,
)

-- events at the last reading of a turn
pub read_last : (place : ServerId) (now : ℕ) (es : List Event) (front : List Reading)
    → ((e : Event) → Contains es e → (e.place ≡ place) × (e.now ≡ now))
    → AreReadIn es (front ++ record { place = place; millis = now } ∷ [])
unfolding AreReadIn
read_last place now [] front at = tt
read_last place now (e ∷ es) front at =
    let own = at e (0, omega arith, refl) in
    let same : reading_of e ≡ record { place = place; millis = now } =
    ap (λ (p : ServerId). record { place = p; millis = e.now }) own.0
    ∙ ap (λ (n : ℕ). record { place = place; millis = n }) own.1 in (
      front,
      [],
      ap (λ (r : Reading). front ++ r ∷ []) (sym same),
      subst (λ (r : Reading). AreReadIn es (r ∷ [])) (sym same)
          (read_last place now es [] (λ k h. at k (Contains-append_right (e ∷ []) es k h))),
    )

pub told_on : (es : List Event) (readings : List Reading) (old new : Option (List Reading))
    → AreReadIn es readings → MayTellAll readings old new → ClockDid es old new
told_on es readings old None read h = tt
told_on es readings None (Some new) read h = absurd h
told_on es readings (Some old) (Some new) read h = (readings, h, read)

-- ---- boots

one_in : (e k : Event) (P : Event → Type 0) → P e → Contains (e ∷ []) k → P k
one_in e k P own h = ⊎_elim (λ (none : Contains [] k). absurd (omega (arith, none.1)))
    (λ (same : e ≡ k). subst P same own) (Contains-push_cases [] e k h)

boot_read : (e : Event) (old new : Option (List Reading))
    → MayTell (reading_of e) old new
    → ClockDid (e ∷ []) old new
unfolding AreReadIn
boot_read e old None h = tt
boot_read e None (Some new) h = absurd h
boot_read e (Some old) (Some new) h = (reading_of e ∷ [], h, ([], [], refl, tt))

pub did_boot : (places : List ServerId) (habit : Habit) (delta : ℕ) (p : ServerId) (a c : Scene)
    → IsDelta delta → Contains places p → value_of a.servers p ≡ None
    → BootsWith habit delta p a c → Did places a c
did_boot places habit delta p a c length has none boots =
    let booted = boots.boots in
    let e : Event = record {
      place = p;
      now = booted.now;
      what = Boots delta;
      cut = false;
      outs = None;
    } in
    record {
      events = e ∷ [];
      there = λ k h. one_in e k (λ (j : Event). Contains places j.place) has h;
      happen = λ old sites.
          let here = sites p has in
          let boot = subst (λ (d : Option Moments).
          IsBoot p delta booted.now d boots.disk boots.server.node) here.disk booted.boot in
          let told = booted_tells p delta (value_of old p).disk in
          let disk_is = boot.written ∙ told.1 in
          let b : Site = record { node = Some boots.server.node; disk = told.0 } in
          let whole : WholeBoot p booted.now delta (value_of old p) b = record {
            none = here.node ∙ ap (option_map (λ (r : Running). r.node)) none;
            length = length;
            node = boots.server.node;
            is = refl;
            boot = subst (λ (d : Option Moments).
                IsBoot p delta booted.now (Some (value_of old p).disk) d boots.server.node)
                disk_is boot;
          } in (
            with_value old p b,
            subst (λ (z : Scene). AreSitesOf places z (with_value old p b)) (sym boots.is)
                (λ q in_places. site_set a.servers a.disks old p boots.server boots.disk b refl
                disk_is q (sites q in_places)),
            all_happen p (e ∷ []) old (value_of old p) b refl
                (b, record { at = refl; by = (whole, refl) }, refl),
          );
      link = subst (λ (z : Scene). LinkDid (e ∷ []) a.link z.link) (sym boots.is)
          (unlinked (e ∷ []) a.link a.link refl (sym (sent_none a.link)));
      clock = subst (λ (z : Scene). ClockDid (e ∷ []) a.clock z.clock) (sym boots.is)
          (boot_read e a.clock boots.clock booted.clock);
    }

-- nobody lives at these places, nor will where the others were booted
abbrev pub AreFree : List ServerId → Trio (Option Running) → Type 0
AreFree [] servers = ⊤
AreFree (p ∷ ps) servers = (value_of servers p ≡ None)
    × ((r : Running) → AreFree ps (with_value servers p (Some r)))

pub did_boots : (places ps : List ServerId) (habit : Habit) (delta : ℕ) (a c : Scene)
    → IsDelta delta → ((p : ServerId) → Contains ps p → Contains places p) → AreFree ps a.servers
    → Chain (BootsWith habit delta) ps a c → Did places a c
did_boots places [] habit delta a c length within free chain =
    subst (Did places a) (sym chain) (did_nothing places a)
did_boots places (p ∷ ps) habit delta a c length within free chain =
    let boots = chain.1 in
    let first = did_boot places habit delta p a chain.0 length (within p (0, omega arith, refl))
    free.0 boots in
    let rest_free = subst (λ (z : Scene). AreFree ps z.servers) (sym boots.is)
    (free.1 boots.server) in
    did_then places a chain.0 c first
    (did_boots places ps habit delta chain.0 c length
    (λ q has. within q (Contains-append_right (p ∷ []) ps q has)) rest_free chain.2)

-- ---- what a turn gives

pub due_own : (me : ServerId) (look : Look) (now : ℕ) (p : Pacing)
    → AllByRecursion IsOwn (due_inputs me look now p)
due_own me look now p = by_if (AllByRecursion IsOwn) (nat_le p.due now)
    (tick_inputs me look p) (input.Tick ∷ [])
    (λ _. (tt, (tt, given (flushes look p) (suspects me look p)))) (λ _. (tt, tt))
  where
    given : (b c : Bool) → AllByRecursion IsOwn
        (given_if b input.Flush ++ given_if c input.Suspect)
    given true true = (tt, (tt, tt))
    given true false = (tt, tt)
    given false true = (tt, tt)
    given false false = tt

pub own_given : (place : ServerId) (now : ℕ) (inputs : List Input) → AllByRecursion IsOwn inputs
    → AreGivenAs place now (map Does inputs) inputs
own_given place now [] own = tt
own_given place now (i ∷ inputs) own =
    ((λ outs a b step. (own.0, step)), own_given place now inputs own.1)

pub none_taken : (place : ServerId) (inputs : List Input)
    → flat_map (taken_in place) (map Does inputs) ≡ []
none_taken place [] = refl
none_taken place (i ∷ inputs) = none_taken place inputs

-- ---- a turn

-- what a turn of a place comes to
record TurnDoes (place : ServerId) (t : Turned) (x y : AtWork) (link : Option Traffic)
    : Type 0 where
  events : List Event
  there : (e : Event) → Contains events e → (e.place ≡ place) × (e.now ≡ t.now)
  happen : (s : Site) → IsWorkOf x s
      → (u : Site) × IsWorkOf y u × Chain (HappensThere place) events s u
  did : LinkDid events link y.link
  reads : AreReadIn events (readings_of place t)

-- the last reading is that of the events
pub last_reading : (place : ServerId) (t : Turned) (es : List Event)
    → ((e : Event) → Contains es e → (e.place ≡ place) × (e.now ≡ t.now))
    → (t.taken ≡ None → t.now ≡ t.began) → AreReadIn es (readings_of place t)
last_reading place t es at quiet = by t.taken refl
  where
    by : (o : Option Datagram) → t.taken ≡ o → AreReadIn es
        (record { place = place; millis = t.began } ∷ second_of place t.now o)
    by None e = subst (λ (n : ℕ). AreReadIn es (record { place = place; millis = n } ∷ []))
        (quiet e) (read_last place t.now es [] at)
    by (Some d) e = read_last place t.now es
        (record { place = place; millis = t.began } ∷ []) at

timed_does : (place : ServerId) (look : Look) (p : Pacing) (t : Turned) (x y : AtWork)
    (link : Option Traffic) → t.inputs.items ≡ due_inputs place look t.began p
    → t.taken ≡ None → t.now ≡ t.began → x.link ≡ link
    → Chain (IsGiven place t.now) t.inputs.items x y → TurnDoes place t x y link
timed_does place look p t x y link due none now is chain =
    let own = subst (AllByRecursion IsOwn) (sym due) (due_own place look t.began p) in
    let whats = map Does t.inputs.items in
    let works = all_given place t.now whats t.inputs.items x y
    (own_given place t.now t.inputs.items own) chain in
    record {
      events = works.events;
      there = works.there;
      happen = works.happen;
      did = unlinked works.events link y.link
          (works.took ∙ none_taken place t.inputs.items)
          (works.sent ∙ ap (with_all_sent (all_sent works.events)) is);
      reads = last_reading place t works.events works.there (λ _. now);
    }

-- a datagram that gives nothing is an event without a step
dropped_event : ServerId → ℕ → Datagram → Event
dropped_event place now d = record {
  place = place;
  now = now;
  what = Takes d;
  cut = false;
  outs = None;
}

dropped_does : (place : ServerId) (t : Turned) (d : Datagram) (x y : AtWork)
    (link : Option Traffic) → t.taken ≡ Some d → Arrives d None → y ≡ x
    → TakesNext place t.taken link x.link → TurnDoes place t x y link
unfolding dropped_event
dropped_does place t d x y link taken come same takes =
    let e = dropped_event place t.now d in
    let at = λ (k : Event) (h : Contains (e ∷ []) k). one_in e k
    (λ (j : Event). (j.place ≡ place) × (j.now ≡ t.now)) (refl, refl) h in
    record {
      events = e ∷ [];
      there = at;
      happen = λ s w. (
        s,
        subst (λ (z : AtWork). IsWorkOf z s) (sym same) w,
        (s, record { at = refl; by = (None, come, (refl, refl)) }, refl),
      );
      did = linked place t.taken (e ∷ []) link x.link y.link takes
          (sym (ap (taken_at place) taken))
          (ap (λ (z : AtWork). z.link) same ∙ sym (sent_none x.link));
      reads = last_reading place t (e ∷ []) at (λ none. absurd (never none));
    }
  where
    clash : ◌≡◌ {A = Option Datagram} (Some d) None → ⊥
    clash h = cc

    never : t.taken ≡ None → ⊥
    never none = clash (sym taken ∙ none)

arrived_does : (place : ServerId) (t : Turned) (d : Datagram) (given : Input) (x y : AtWork)
    (link : Option Traffic) → t.taken ≡ Some d → Arrives d (Some given)
    → t.inputs.items ≡ given ∷ [] → TakesNext place t.taken link x.link
    → Chain (IsGiven place t.now) t.inputs.items x y → TurnDoes place t x y link
arrived_does place t d given x y link taken come inputs takes chain =
    let works = all_given place t.now (Takes d ∷ []) (given ∷ []) x y
    ((λ outs a b step. (Some given, come, step)), tt)
    (subst (λ is. Chain (IsGiven place t.now) is x y) inputs chain) in
    record {
      events = works.events;
      there = works.there;
      happen = works.happen;
      did = linked place t.taken works.events link x.link y.link takes
          (works.took ∙ sym (ap (taken_at place) taken)) works.sent;
      reads = last_reading place t works.events works.there
          (λ none. absurd (clash (sym taken ∙ none)));
    }
  where
    clash : ◌≡◌ {A = Option Datagram} (Some d) None → ⊥
    clash h = cc

quiet_does : (place : ServerId) (t : Turned) (x y : AtWork) (link : Option Traffic)
    → t.taken ≡ None → t.inputs.items ≡ [] → t.now ≡ t.began
    → TakesNext place t.taken link x.link
    → Chain (IsGiven place t.now) t.inputs.items x y → TurnDoes place t x y link
quiet_does place t x y link none inputs now takes chain =
    let works = all_given place t.now [] [] x y tt
    (subst (λ is. Chain (IsGiven place t.now) is x y) inputs chain) in
    record {
      events = works.events;
      there = works.there;
      happen = works.happen;
      did = linked place t.taken works.events link x.link y.link takes
          (works.took ∙ sym (ap (taken_at place) none)) works.sent;
      reads = last_reading place t works.events works.there (λ _. now);
    }

receive_does : (place : ServerId) (look : Look) (p q : Pacing) (t : Turned) (x y : AtWork)
    (link : Option Traffic) (o : Option Datagram) → t.taken ≡ o → IsReceive look p q t o
    → TakesNext place t.taken link x.link → Chain (IsGiven place t.now) t.inputs.items x y
    → TurnDoes place t x y link
receive_does place look p q t x y link None taken quiet takes chain =
    quiet_does place t x y link taken quiet.inputs quiet.now takes chain
receive_does place look p q t x y link (Some d) taken come takes chain =
    by come.0 come.1 come.2
  where
    by : (given : Option Input) → Arrives d given → t.inputs.items ≡ inputs_of given
        → TurnDoes place t x y link
    by None arrives inputs = dropped_does place t d x y link taken arrives
        (subst (λ is. Chain (IsGiven place t.now) is x y) inputs chain) takes
    by (Some given) arrives inputs =
        arrived_does place t d given x y link taken arrives inputs takes chain

turn_does : (place : ServerId) (look : Look) (p q : Pacing) (t : Turned) (x y : AtWork)
    (link : Option Traffic) (due : Bool) → IsTurnBy due place look p q t
    → LinkTurnsBy due place t link x.link → Chain (IsGiven place t.now) t.inputs.items x y
    → TurnDoes place t x y link
turn_does place look p q t x y link true timed stays chain =
    timed_does place look p t x y link timed.inputs timed.taken timed.now stays chain
turn_does place look p q t x y link false receive takes chain =
    receive_does place look p q t x y link t.taken refl receive takes chain

-- what happens at a spot leads to a scene with another one
pub spot_did : (places : List ServerId) (place : ServerId) (a : Scene) (old new : Spot)
    (es : List Event) → Contains places place → a ≡ with_spot place old a
    → ((e : Event) → Contains es e → e.place ≡ place)
    → ((s : Site) → s.node ≡ Some old.server.node → old.disk ≡ Some s.disk
    → (u : Site) × (u.node ≡ Some new.server.node) × (new.disk ≡ Some u.disk)
    × Chain (HappensThere place) es s u)
    → LinkDid es old.link new.link → ClockDid es old.clock new.clock
    → Did places a (with_spot place new a)
spot_did places place a old new es has was there happen link clock = record {
  events = es;
  there = λ e h. subst (Contains places) (sym (there e h)) has;
  happen = λ sites are.
      let here = are place has in
      let node_is = here.node ∙ ap (λ (z : Scene). option_map (λ (r : Running). r.node)
      (value_of z.servers place)) was
      ∙ ap (option_map (λ (r : Running). r.node))
      (value_there a.servers place (Some old.server)) in
      let disk_is = sym (value_there a.disks place old.disk)
      ∙ sym (ap (λ (z : Scene). value_of z.disks place) was) ∙ here.disk in
      let made = happen (value_of sites place) node_is disk_is in (
        with_value sites place made.0,
        λ q in_places. site_set a.servers a.disks sites place new.server new.disk made.0
            made.1 made.2 q (are q in_places),
        all_happen place es sites (value_of sites place) made.0 refl made.3,
      );
  link = subst (λ (l : Option Traffic). LinkDid es l new.link)
      (sym (ap (λ (z : Scene). z.link) was)) link;
  clock = subst (λ (l : Option (List Reading)). ClockDid es l new.clock)
      (sym (ap (λ (z : Scene). z.clock) was)) clock;
}

-- A TURN of the server of a place
pub did_turn : (places : List ServerId) (place : ServerId) (a c : Scene) → Contains places place
    → TurnsAt place a c → Did places a c
did_turn places place a c has turns =
    let old = turns.old in
    let new = turns.new in
    let t = turns.turns in
    let x = at_work (record old { link = t.before }) in
    let does = turn_does place (look_of old.server.node) old.server.pace new.server.pace t.turned
    x (at_work new) old.link
    (is_due (look_of old.server.node) t.turned.began old.server.pace) t.turn t.link t.given in
    subst (Did places a) (sym turns.is)
    (spot_did places place a old new does.events has turns.was (λ e h. (does.there e h).0)
    (λ s node disk.
    let made = does.happen s (record { node = node; disk = disk }) in
    (made.0, made.1.node, made.1.disk, made.2))
    does.did
    (told_on does.events (readings_of place t.turned) old.clock new.clock does.reads t.clock))

-- TURNS, one after the other
pub did_turns : (places ps : List ServerId) (a c : Scene)
    → ((p : ServerId) → Contains ps p → Contains places p) → Chain TurnsAt ps a c → Did places a c
did_turns places [] a c within chain =
    subst (Did places a) (sym chain) (did_nothing places a)
did_turns places (p ∷ ps) a c within chain = did_then places a chain.0 c
    (did_turn places p a chain.0 (within p (0, omega arith, refl)) chain.1)
    (did_turns places ps chain.0 c
    (λ q has. within q (Contains-append_right (p ∷ []) ps q has)) chain.2)

-- each round is of these places
pub rounds_in : (n : ℕ) (places : List ServerId) (p : ServerId) → Contains (rounds n places) p
    → Contains places p
rounds_in zero places p h = absurd (omega (arith, h.1))
rounds_in (suc n) places p h = ⊎_elim (λ before. rounds_in n places p before) (λ own. own)
    (Contains-append_cases (rounds n places) places p h)
