-- Turns that are cut off, and calls.
use Rattle.std.proofs.Common.{◌≡◌, ℕ, Bool, true, false, List, [], ◌∷◌, append-nil, Contains, Option, None, Some, inl, inr, refl, sym, ap, ◌∙◌, subst, arith, ⊎_elim}
use Rattle.std.specs.List.{AllByRecursion}
use Rattle.std.specs.Option.{option_map}
use Rattle.std.proofs.lemmas.List.Elements.{Contains-append_right}
use Rattle.harp_types.specs.Trio.{value_of, with_value}
use Rattle.harp_types.specs.declared.server.ServerId.{ServerId}
use Rattle.node.specs.declared.input.Input.{Input}
use Rattle.node_link.specs.Traffic.{TakesNext, Traffic, taken_at}
use Rattle.node_link.specs.declared.clock.Reading.{Reading}
use Rattle.node_link.specs.declared.link.Datagram.{Datagram}
use Rattle.node_loop.specs.Arriving.{Arrives}
use Rattle.node_loop.specs.Chain.{Stops}
use Rattle.node_loop.specs.Cut.{IsCutOffWith, IsGivenInPart, IsTurnInPart, SendsInPart, SpotLeft, TurnsAtInPart, with_left, work_left}
use Rattle.node_loop.specs.declared.habit.Habit.{Habit}
use Rattle.node_loop.specs.Looks.{look_of}
use Rattle.node_loop.specs.Outgoing.{datagrams}
use Rattle.node_loop.specs.Run.{IsGiven, TurnsAt, rounds}
use Rattle.node_loop.specs.Scene.{Around, AtWork, Scene, Spot, at_work, with_all_sent, with_spot}
use Rattle.node_loop.specs.Turn.{IsReceive, IsTurnBy, LinkTurnsBy, MayTellAll, inputs_of, readings_of}
use Rattle.node_loop.specs.Turns.{Pacing, due_inputs, is_due}
use Rattle.node_loop.specs.declared.look.Look.{Look}
use Rattle.node_loop.specs.declared.running.Running.{Running}
use Rattle.node_loop.specs.declared.turned.Turned.{Turned}
use Rattle.promise.specs.Promise.{IsDelta}
use Rattle.world.proofs.Tables.{value_there}
use Rattle.running_laws.specs.Events.{Takes, What, all_sent}
use Rattle.running_laws.specs.Lives.{IsOwn}
use Rattle.running_laws.specs.Parts.{AreReadIn, Did, DidInPart, LinkDid, taken_in}
use Rattle.running_laws.proofs.Given.{sent_none}
use Rattle.running_laws.proofs.Living.{AreFree, did_boots, did_turn, due_own, last_reading, linked, rounds_in, spot_did, told_on, unlinked}
use Rattle.running_laws.proofs.Parts.{did_nothing, nothing_linked}
use Rattle.running_laws.proofs.Gone.{FitsAs, IsAtPlace, gone_amid, gone_behind, gone_unstarted, own_breaks, same_link, then_gone}
use Rattle.running_laws.proofs.Left.{twice_set}

-- the spot amid a turn
spot_amid : Spot → AtWork → Option Traffic → Option (List Reading) → Spot
spot_amid old y link clock = record {
  server = record { node = y.node; pace = old.server.pace };
  disk = y.disk;
  link = link;
  clock = clock;
  counts = old.counts;
  heard = y.heard;
}

module _ (places : List ServerId) (place : ServerId) (a : Scene) (old : Spot) (new : SpotLeft)
    (left : Around) (has : Contains places place) (was : a ≡ with_spot place old a)
    (is : left ≡ with_left place new a) where
  -- its disk was left as it was
  nothing_gone : new.disk ≡ old.disk → DidInPart places a left
  nothing_gone same = record {
    mid = a;
    did = did_nothing places a;
    gone = inl (ap (λ (z : Around). z.disks) is ∙ ap (with_value a.disks place) same
        ∙ sym (ap (λ (z : Scene). z.disks) was));
  }

  at_place : (y : AtWork) (link : Option Traffic) (clock : Option (List Reading))
      → IsAtPlace places place (with_spot place (spot_amid old y link clock) a) y new.disk left
  unfolding spot_amid
  at_place y link clock = record {
    has = has;
    site = λ sites are.
        let here = are place has in
        record {
          node = here.node ∙ ap (option_map (λ (r : Running). r.node))
              (value_there a.servers place
              (Some (record { node = y.node; pace = old.server.pace })));
          disk = sym (value_there a.disks place y.disk) ∙ here.disk;
        };
    disk = ap (λ (z : Around). value_of z.disks place) is ∙ value_there a.disks place new.disk;
    others = ap (λ (z : Around). z.disks) is ∙ sym (twice_set a.disks place y.disk new.disk);
  }

  -- what was done of the turn, and the input that was given in part
  ends_so : (now : ℕ) (what : What) (given : Input) (fits : FitsAs place now what given)
      (y : AtWork) (link : Option Traffic)
      → Did places a (with_spot place (spot_amid old y link new.clock) a)
      → IsGivenInPart place now given y (work_left new.disk new.link)
      → LinkDid (record { place = place; now = now; what = what; cut = true; outs = None } ∷ [])
      link y.link
      → DidInPart places a left
  unfolding spot_amid
  ends_so now what given fits y link did (inl fails) taken =
      let mid = with_spot place (spot_amid old y link new.clock) a in
      let at = at_place y link new.clock in
      let link_is = ap (λ (z : Around). z.link) is ∙ fails.link in
      record {
        mid = mid;
        did = did;
        gone = gone_amid places place now what given fits mid y (work_left new.disk new.link) left
            at fails (subst (λ (l : Option Traffic).
            LinkDid (record { place = place; now = now; what = what; cut = true; outs = None } ∷ [])
            link l) (sym link_is) taken);
      }
  ends_so now what given fits y link did (inr front) taken =
      let mid = with_spot place (spot_amid old y link new.clock) a in
      let at = at_place y link new.clock in
      record {
        mid = mid;
        did = did;
        gone = gone_behind places place now what given fits mid y (work_left new.disk new.link)
            left at front y.link (same_link
            (record { place = place; now = now; what = what; cut = true; outs = None })
            (record { place = place; now = now; what = what; cut = false; outs = None }) link
            y.link refl refl taken) (subst (λ (l : Option Traffic).
            SendsInPart (datagrams place front.outs) y.link l)
            (sym (ap (λ (z : Around). z.link) is)) front.sends);
      }

  -- a turn in which something is due
  timed_gone : (t : Turned) (look : Look) (p : Pacing) (before : Option Traffic)
      → t.inputs.items ≡ due_inputs place look t.began p → t.taken ≡ None → t.now ≡ t.began
      → before ≡ old.link → MayTellAll (readings_of place t) old.clock new.clock
      → Stops (IsGiven place t.now) (IsGivenInPart place t.now) t.inputs.items
      (at_work (record old { link = before })) (work_left new.disk new.link)
      → DidInPart places a left
  unfolding spot_amid
  timed_gone t look p before due none now stays clock stops =
      let x = at_work (record old { link = before }) in
      let own = subst (AllByRecursion IsOwn) (sym due) (due_own place look t.began p) in
      let broken = own_breaks place t.now t.inputs.items x (work_left new.disk new.link) own
      stops in
      let k = broken.0 in
      let es = k.works.events in
      let did = spot_did places place a old (spot_amid old k.y k.y.link new.clock) es has was
      (λ e h. (k.works.there e h).0)
      (λ s node disk.
      let made = k.works.happen s (record { node = node; disk = disk }) in
      (made.0, made.1.node, made.1.disk, made.2))
      (unlinked es old.link k.y.link (k.works.took ∙ broken.1)
      (k.works.sent ∙ ap (with_all_sent (all_sent es)) stays))
      (told_on es (readings_of place t) old.clock new.clock
      (last_reading place t es k.works.there (λ _. now)) clock) in
      ends_so t.now k.what k.given k.fits k.y k.y.link did k.part
      (unlinked (record {
        place = place;
        now = t.now;
        what = k.what;
        cut = true;
        outs = None;
      } ∷ []) k.y.link k.y.link (append-nil (taken_in place k.what) ∙ broken.2)
      (sym (sent_none k.y.link)))

  -- a turn in which a datagram comes
  come_gone : (t : Turned) (d : Datagram) (given : Input) (before : Option Traffic)
      → t.taken ≡ Some d → Arrives d (Some given) → t.inputs.items ≡ given ∷ []
      → TakesNext place t.taken old.link before
      → MayTellAll (readings_of place t) old.clock new.clock
      → Stops (IsGiven place t.now) (IsGivenInPart place t.now) t.inputs.items
      (at_work (record old { link = before })) (work_left new.disk new.link)
      → DidInPart places a left
  unfolding spot_amid AreReadIn
  come_gone t d given before taken come inputs takes clock stops =
      let x = at_work (record old { link = before }) in
      let one : Stops (IsGiven place t.now) (IsGivenInPart place t.now) (given ∷ []) x
      (work_left new.disk new.link) =
      subst (λ (is : List Input). Stops (IsGiven place t.now) (IsGivenInPart place t.now) is x
      (work_left new.disk new.link)) inputs stops in
      let part : IsGivenInPart place t.now given x (work_left new.disk new.link) =
      ⊎_elim (λ p. p) (λ on. absurd on.2) one in
      let did = spot_did places place a old (spot_amid old x old.link new.clock) [] has was
      (λ e h. absurd (omega (arith, h.1)))
      (λ s node disk. (s, node, disk, refl)) (nothing_linked old.link)
      (told_on [] (readings_of place t) old.clock new.clock tt clock) in
      ends_so t.now (Takes d) given (record {
        whole = λ outs s u step. (Some given, come, step);
        cut = λ s u step. (Some given, come, step);
      }) x old.link did part
      (linked place t.taken (record {
        place = place;
        now = t.now;
        what = Takes d;
        cut = true;
        outs = None;
      } ∷ []) old.link before before takes (sym (ap (taken_at place) taken))
      (sym (sent_none before)))

  receive_gone : (t : Turned) (look : Look) (p q : Pacing) (before : Option Traffic)
      (o : Option Datagram) → t.taken ≡ o → IsReceive look p q t o
      → TakesNext place t.taken old.link before
      → MayTellAll (readings_of place t) old.clock new.clock
      → Stops (IsGiven place t.now) (IsGivenInPart place t.now) t.inputs.items
      (at_work (record old { link = before })) (work_left new.disk new.link)
      → DidInPart places a left
  receive_gone t look p q before None taken quiet takes clock stops = absurd
      (subst (λ (is : List Input). Stops (IsGiven place t.now) (IsGivenInPart place t.now) is
      (at_work (record old { link = before })) (work_left new.disk new.link)) quiet.inputs stops)
  receive_gone t look p q before (Some d) taken come takes clock stops =
      by come.0 come.1 come.2
    where
      by : (given : Option Input) → Arrives d given → t.inputs.items ≡ inputs_of given
          → DidInPart places a left
      by None arrives inputs = absurd
          (subst (λ (is : List Input). Stops (IsGiven place t.now) (IsGivenInPart place t.now) is
          (at_work (record old { link = before })) (work_left new.disk new.link)) inputs stops)
      by (Some given) arrives inputs =
          come_gone t d given before taken arrives inputs takes clock stops

  turn_gone : (t : Turned) (look : Look) (p q : Pacing) (before : Option Traffic) (due : Bool)
      → IsTurnBy due place look p q t → LinkTurnsBy due place t old.link before
      → MayTellAll (readings_of place t) old.clock new.clock
      → Stops (IsGiven place t.now) (IsGivenInPart place t.now) t.inputs.items
      (at_work (record old { link = before })) (work_left new.disk new.link)
      → DidInPart places a left
  turn_gone t look p q before true timed stays clock stops =
      timed_gone t look p before timed.inputs timed.taken timed.now stays clock stops
  turn_gone t look p q before false receive takes clock stops =
      receive_gone t look p q before t.taken refl receive takes clock stops

-- A TURN OF A PLACE IN PART
gone_turn : (places : List ServerId) (place : ServerId) (a : Scene) (left : Around)
    → Contains places place → TurnsAtInPart place a left → DidInPart places a left
gone_turn places place a left has turns = by turns.turns
  where
    by : IsTurnInPart place turns.old turns.new → DidInPart places a left
    by (inl nothing) =
        nothing_gone places place a turns.old turns.new left has turns.was turns.is nothing.disk
    by (inr front) =
        let look = look_of turns.old.server.node in
        let p = turns.old.server.pace in
        turn_gone places place a turns.old turns.new left has turns.was turns.is front.turned look
        p front.pace front.before (is_due look front.turned.began p) front.turn front.link
        front.clock front.given

pub gone_turns : (places ps : List ServerId) (a : Scene) (left : Around)
    → ((p : ServerId) → Contains ps p → Contains places p)
    → Stops TurnsAt TurnsAtInPart ps a left → DidInPart places a left
gone_turns places [] a left within stops = absurd stops
gone_turns places (p ∷ ps) a left within (inl part) =
    gone_turn places p a left (within p (0, omega arith, refl)) part
gone_turns places (p ∷ ps) a left within (inr on) = then_gone places a on.0 left
    (did_turn places p a on.0 (within p (0, omega arith, refl)) on.1)
    (gone_turns places ps on.0 left
    (λ q has. within q (Contains-append_right (p ∷ []) ps q has)) on.2)

-- A CALL THAT IS CUT OFF
pub gone_call : (places : List ServerId) (habit : Habit) (delta turns : ℕ) (a : Scene)
    (left : Around) → IsDelta delta → AreFree places a.servers
    → IsCutOffWith habit delta places turns a left
    → DidInPart places a left
gone_call places habit delta turns a left length free (inl unstarted) =
    gone_unstarted places habit delta a left length free unstarted
gone_call places habit delta turns a left length free (inr on) = then_gone places a on.0 left
    (did_boots places places habit delta a on.0 length (λ p has. has) free on.1)
    (gone_turns places (rounds turns places) on.0 left
    (λ p has. rounds_in turns places p has) on.2)
