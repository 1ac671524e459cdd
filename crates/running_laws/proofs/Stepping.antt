-- Steps: what a server does by itself, calls, and messages of others, and where they lead.
use Rattle.std.proofs.Common.{◌≡◌, false, true, List, [], ◌∷◌, ◌++◌, Option, None, Some, inl, inr, refl, sym, ◌∙◌, subst, ⊎_elim}
use Rattle.std.proofs.lemmas.List.Elements.{Contains-push}
use Rattle.group_rules.specs.Names.{place_of}
use Rattle.group_trace.specs.DiskRun.{DiskScene}
use Rattle.harp_types.specs.Trio.{value_of}
use Rattle.harp_types.specs.declared.peer.Peer.TheVariants.{Server}
use Rattle.harp_types.specs.declared.server.ServerId.{ServerId}
use Rattle.harp_types.specs.declared.trio.Trio.{Trio}
use Rattle.node.specs.Node.{NodeValue}
use Rattle.node.specs.declared.input.Input.{Input}
use Rattle.node.specs.declared.input.Input.TheVariants as input
use Rattle.node_link.specs.declared.link.Datagram.{Datagram}
use Rattle.node_link.specs.declared.link.SentDatagram.{SentDatagram}
use Rattle.node_loop.specs.Arriving.{Arrives, IsMessage}
use Rattle.wire.specs.declared.message.Message.{Message}
use Rattle.world.specs.World.{WorldValue}
use Rattle.running_laws.specs.Books.{WasAsked}
use Rattle.running_laws.specs.Events.{Event, Site, Takes}
use Rattle.running_laws.specs.Follows.{AreForClients, Follows, HasAskers, IsPacket}
use Rattle.running_laws.specs.Histories.{IsInTime, IsNotForged}
use Rattle.running_laws.specs.Lives.{Steps, WholeStep}
use Rattle.running_laws.proofs.Answering.{answers_left}
use Rattle.running_laws.proofs.Moving.{IsAt, LedTo}
use Rattle.running_laws.proofs.Runs.{StepOfRun, deed_run, packet_run}
use Rattle.running_laws.proofs.Spelled.{IsAsked, IsTold, given_as, same_message, unheard_by_bytes}
use Rattle.running_laws.proofs.Steps.{IsDeed, asked_deed}
use Rattle.running_laws.proofs.Takings.{lines_left, turns, up_so, world_left}
use Rattle.running_laws.proofs.Waiting.{waits_at}
use Rattle.running_laws.proofs.Left.{IsNext, Leaves}
use Rattle.running_laws.proofs.Happened.{asked_here, nothing_arrives, packed_left, set_world, site_here, turn_leaves, turn_left, turn_to}

module _ (before : List Event) (e : Event) (a c : Trio Site) (w : DiskScene) (x : WorldValue)
    (k : IsNext before e a c w x) where
  abbrev f : Follows before a w x
  f = k.follows

  abbrev in_time : IsInTime before e
  in_time = k.in_time

  abbrev set : WorldValue
  set = set_world before e a c w x k

  abbrev es : List Event
  es = before ++ e ∷ []

  abbrev here : Site
  here = value_of a e.place

  abbrev there : Site
  there = value_of c e.place

  -- who lives there is up, and who waits there asked
  up_here : (v : DiskScene) → IsAt es v set → (n : NodeValue) → here.node ≡ Some n
      → (v.scene.group.server (place_of e.place)).up ≡ true
  up_here v at n is =
      let site = site_here before e a c w x k n is in
      up_so set e.place n (site.node ∙ is) (site.served n is) v at.stands

  waits_here : (v : DiskScene) (at : IsAt es v set) (n : NodeValue) → here.node ≡ Some n
      → HasAskers es (v.scene.group.server (place_of e.place))
      (at.stands.servers e.place).stock.waits
  waits_here v at n is =
      let site = site_here before e a c w x k n is in
      waits_at es v set e.place (at.stands.servers e.place) n (site.node ∙ is)
      (asked_here before e a c w x k n is)

  -- what a server does by itself, and a call
  pub deed_runs : (v : DiskScene) → IsAt es v set → (given : Input) → IsDeed es e.place given
      → (n : NodeValue) → here.node ≡ Some n → StepOfRun es v set e.place given
  deed_runs v at given d n is = deed_run es v set e.place given d at (up_here v at n is)

  -- a message of a server, which was posted
  message_runs : (v : DiskScene) → IsAt es v set → (d : Datagram) (m : Message)
      → IsMessage d.bytes m → (s : ServerId) → IsPacket x.packets s e.place d.bytes
      → (n : NodeValue) → here.node ≡ Some n → StepOfRun es v set e.place (input.Message s m)
  message_runs v at d m spelled s p n is =
      let same = same_message p.posted.packet.message m p.spells.1 spelled.1
      (sym p.spells.0 ∙ spelled.0) in
      packet_run es v set e.place s m d.bytes p same at (up_here v at n is) (waits_here v at n is)

  told_runs : (v : DiskScene) → IsAt es v set → (d : Datagram) (m : Message) (given : Input)
      → IsMessage d.bytes m → IsNotForged before e.place (Takes d) → IsTold d.from m given
      → (n : NodeValue) → here.node ≡ Some n → StepOfRun es v set e.place given
  told_runs v at d m given spelled network told n is =
      let sent = network told.server told.from_is in
      let datagram : SentDatagram =
      record { place = told.server; to = Server e.place; bytes = d.bytes } in
      ⊎_elim
      (λ (p : IsPacket x.packets told.server e.place d.bytes).
      subst (λ (i : Input). StepOfRun es v set e.place i) (sym told.is)
      (message_runs v at d m spelled told.server p n is))
      (λ (k : AreForClients d.bytes). absurd (told.heard_is
      (unheard_by_bytes m k.message (sym spelled.0 ∙ k.spells) k.unheard)))
      (f.posted datagram sent e.place refl)

  -- this very event asks
  asks_now : (d : Datagram) (m : Message) (given : Input) → e.what ≡ Takes d
      → IsMessage d.bytes m → (k : IsAsked d.from m given)
      → WasAsked es k.client k.number k.cred k.call d.from
  asks_now d m given what_is spelled k = record {
    event = e;
    among = Contains-push before e;
    datagram = d;
    takes = what_is;
    from = refl;
    asks = subst (IsMessage d.bytes) k.message_is spelled;
  }

  -- what arrives
  pub arrives_runs : (v : DiskScene) → IsAt es v set → (d : Datagram) (given : Input)
      → e.what ≡ Takes d → Arrives d (Some given) → IsNotForged before e.place (Takes d)
      → (n : NodeValue) → here.node ≡ Some n → StepOfRun es v set e.place given
  arrives_runs v at d given what_is (inl m) network n is = ⊎_elim
      (λ asked. deed_runs v at given (asked_deed es e.place d.from m.0 given asked
      (asks_now d m.0 given what_is m.1 asked)) n is)
      (λ told. told_runs v at d m.0 given m.1 network told n is)
      (given_as d.from m.0 given m.2)
  arrives_runs v at d given what_is (inr noise) network n is =
      let never : ◌≡◌ {A = Option Input} (Some given) None = noise.1 in
      absurd cc

  -- ---- whole steps

  whole_leaves : (v : DiskScene) (given : Input) (step : WholeStep e.now given e.outs here there)
      → StepOfRun es v set e.place given → Leaves before e c v set
  whole_leaves v given step r =
      let t = turn_to before e a c w x k given step in
      let y = world_left set e.place e.now given e.outs here there t in
      let run = r.leads y (lines_left set e.place e.now given e.outs here there t)
      t.step.puts.listing
      (turns set e.place e.now given e.outs here there t v r.taken_as r.begins) in
      turn_leaves before e a c w x k v given t r.taken_as r.begins r.to
      (record y { packets = run.0 })
      (subst (LedTo es v (record y { packets = run.0 }))
      (answers_left set e.place e.now given e.outs here there t) run.2) refl
      (λ waits. packed_left before e a c w x k y run.0 run.1
      (turn_left before e a c w x k given t waits))

  pub deed_happens : (v : DiskScene) → IsAt es v set → (given : Input) → IsDeed es e.place given
      → WholeStep e.now given e.outs here there → Leaves before e c v set
  deed_happens v at given d step =
      whole_leaves v given step (deed_runs v at given d step.old step.was)

  pub arrives : (v : DiskScene) → IsAt es v set → (d : Datagram) (given : Option Input)
      → e.what ≡ Takes d → Arrives d given → IsNotForged before e.place (Takes d)
      → Steps false e.now given e.outs here there → Leaves before e c v set
  arrives v at d None what_is come network step =
      nothing_arrives before e a c w x k v at step.0 step.1
  arrives v at d (Some given) what_is come network step = whole_leaves v given step
      (arrives_runs v at d given what_is come network step.old step.was)
