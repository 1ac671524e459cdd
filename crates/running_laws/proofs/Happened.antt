-- What an event leaves of the world once the clocks are set, by what its place becomes.
use Rattle.std.proofs.Common.{◌≡◌, ℕ, List, [], ◌∷◌, ◌++◌, append-nil, Contains, None, Some, inl, refl, sym, ap, ◌∙◌, subst, arith, ⊎_elim}
use Rattle.std.proofs.lemmas.List.Elements.{Contains-append_cases, recursion_from_All}
use Rattle.file_tree.specs.Book.{Entry}
use Rattle.group_rules.specs.Names.{place_of}
use Rattle.group_rules.specs.Step.{Input as Begins}
use Rattle.group_trace.specs.DiskRun.{DiskScene}
use Rattle.harp_types.specs.Trio.{value_of, with_value}
use Rattle.harp_types.specs.declared.server.ServerId.{ServerId}
use Rattle.harp_types.specs.declared.server.ServerId.TheVariants as server
use Rattle.harp_types.specs.declared.trio.Trio.{Trio}
use Rattle.node.specs.Node.{IsServer, NodeValue}
use Rattle.node.specs.declared.input.Input.{Input}
use Rattle.node_loop.specs.Outgoing.{datagrams}
use Rattle.node_outputs.specs.declared.outputs.Answered.{Answered}
use Rattle.world.proofs.Tables.{each_value}
use Rattle.world.proofs.Turns.{with_host}
use Rattle.world.specs.Turns.{TurnBegins}
use Rattle.world.specs.World.{WorldValue}
use Rattle.world_host.proofs.Shown.{its_node}
use Rattle.world_lines.specs.Book.{BookValue}
use Rattle.world_lines.specs.Given.{answered_lines, book_given, packets_of}
use Rattle.world_lines.specs.Posted.{Posted}
use Rattle.world_rules.specs.Host.{HostValue}
use Rattle.world_rules.specs.Steps.{peers_by}
use Rattle.running_laws.specs.Books.{IsOfBook, answers_in}
use Rattle.running_laws.specs.Events.{Event, Site, all_sent, put_out, sent_by}
use Rattle.running_laws.specs.Follows.{Follows, HasAskers, IsNew, IsPlace, IsSite}
use Rattle.running_laws.specs.Histories.{IsInTime}
use Rattle.running_laws.specs.Lives.{Happens, WholeStep}
use Rattle.running_laws.proofs.Askers.{has_more}
use Rattle.running_laws.proofs.Clocks.{reads_now, set_last}
use Rattle.running_laws.proofs.Moving.{IsAt, LedTo, led_nowhere}
use Rattle.running_laws.proofs.Owed.{AnswersTo}
use Rattle.running_laws.proofs.Posts.{Keeps, keeps_more, outs_posted, posted_still}
use Rattle.running_laws.proofs.Replying.{answered_so, grows_so}
use Rattle.running_laws.proofs.Takings.{IsTurn, disk_left, host_left, world_left}
use Rattle.running_laws.proofs.Waiting.{waits_then}
use Rattle.running_laws.proofs.Left.{IsNext, IsLeft, Leaves, each_none, each_pair, none_some, same_some}

module _ (before : List Event) (e : Event) (a c : Trio Site) (w : DiskScene) (x : WorldValue)
    (k : IsNext before e a c w x) where
  abbrev f : Follows before a w x
  f = k.follows

  abbrev h : Happens e a c
  h = k.happens

  abbrev in_time : IsInTime before e
  in_time = k.in_time

  abbrev pub clocks_set : Trio ℕ
  clocks_set = set_last before e x.clocks f.clocks in_time

  -- the world once its clocks are set
  abbrev pub set_world : WorldValue
  set_world = record x { clocks = clocks_set }

  abbrev set : WorldValue
  set = set_world

  -- the history with the event
  abbrev es : List Event
  es = before ++ e ∷ []

  abbrev pub here : Site
  here = value_of a e.place

  abbrev pub there : Site
  there = value_of c e.place

  -- ---- nothing arrives

  same_sites : there ≡ here → c ≡ a
  same_sites same = h.is ∙ ap (with_value a e.place) same ∙ whole e.place
    where
      whole : (p : ServerId) → with_value a p (value_of a p) ≡ a
      whole server.Zero = refl
      whole server.One = refl
      whole server.Two = refl

  pub all_silent : e.outs ≡ None → all_sent before ++ sent_by e ≡ all_sent before
  all_silent silent = ap (λ outs. all_sent before ++ put_out e.place outs) silent
      ∙ append-nil (all_sent before)

  -- ---- who waits, and who is answered

  -- who waits at the places, where it is so of the place of the event
  pub askers_left : ((n : NodeValue) → there.node ≡ Some n → HasAskers es n.plain n.peers)
      → (place : ServerId) (n : NodeValue) → (value_of c place).node ≡ Some n
      → HasAskers es n.plain n.peers
  askers_left own = subst (λ (z : Trio Site). (place : ServerId) (n : NodeValue)
      → (value_of z place).node ≡ Some n → HasAskers es n.plain n.peers) (sym h.is)
      (each_value (λ (p : ServerId) (s : Site). (n : NodeValue) → s.node ≡ Some n
      → HasAskers es n.plain n.peers) a e.place there
      (λ p other n is. has_more before (e ∷ []) n.plain n.peers (f.askers p n is)) own)

  pub gone_askers : there.node ≡ None → (n : NodeValue) → there.node ≡ Some n
      → HasAskers es n.plain n.peers
  gone_askers gone n is = absurd (none_some n (sym gone ∙ is))

  pub none_said : e.outs ≡ None → (r : Answered) → Contains (answers_in e.outs) r → ⊥
  none_said silent r = subst (λ outs. Contains (answers_in outs) r → ⊥) (sym silent)
      (λ none. omega (arith, none.1))

  -- nothing was said, and nothing comes to the book
  pub silently : (v : DiskScene) (y : WorldValue) → LedTo es v y [] → IsLeft before e c set y
      → y.book ≡ x.book → e.outs ≡ None → Leaves before e c v set
  silently v y led left same silent = record {
    world = y;
    led = subst (λ outs. LedTo es v y (answered_lines e.place (answers_in outs))) (sym silent)
        led;
    left = left;
    more = [];
    grows = ap (λ (b : BookValue). b.entries) same ∙ sym (append-nil x.book.entries);
    answers = λ r has. absurd (none_said silent r has);
  }

  nothing_left : there ≡ here → e.outs ≡ None → IsLeft before e c set set
  nothing_left same silent =
      let all = all_silent silent in
      record {
        sites_are = subst (λ (z : Trio Site). (place : ServerId)
            → IsPlace place (value_of x.hosts place) (value_of z place)) (sym (same_sites same))
            f.sites_are;
        no_stop = f.no_stop;
        posted = λ d has. f.posted d (subst (λ ds. Contains ds d) all has);
        clocks = refl;
        askers = askers_left (λ n is. has_more before (e ∷ []) n.plain n.peers
            (f.askers e.place n (ap (λ (s : Site). s.node) (sym same) ∙ is)));
      }

  pub nothing_arrives : (v : DiskScene) → IsAt es v set → there ≡ here → e.outs ≡ None
      → Leaves before e c v set
  nothing_arrives v at same silent =
      silently v set (led_nowhere es v set at) (nothing_left same silent) refl silent

  -- ---- a step

  -- a place where somebody lives isn't new
  pub site_here : (n : NodeValue) → here.node ≡ Some n → IsSite (value_of x.hosts e.place) here
  site_here n is = ⊎_elim (λ s. s) (λ (k : IsNew e.place (value_of x.hosts e.place) here).
      absurd (none_some n (sym k.new.gone ∙ is))) (f.sites_are e.place)

  pub own_me : (n : NodeValue) → here.node ≡ Some n → n.me ≡ place_of e.place
  own_me n is =
      let own = f.stands.servers e.place in
      let runs = its_node (w.scene.group.server (place_of e.place)) own.stock own.saved
      (w.disks (place_of e.place)) (value_of x.hosts e.place) n own.host
      ((site_here n is).node ∙ is) in
      runs.me ∙ own.me

  -- a whole step of the node that lives there
  abbrev pub turn_to : (given : Input) → WholeStep e.now given e.outs here there
      → IsTurn set e.place e.now given e.outs here there
  turn_to given s = record {
    site = site_here s.old s.was;
    me = (f.stands.servers e.place).me;
    own_me = own_me;
    no_stop = f.no_stop e.place;
    clock = reads_now before e x.clocks f.clocks in_time;
    step = s;
  }

  pub turn_left : (given : Input) (t : IsTurn set e.place e.now given e.outs here there)
      → HasAskers es t.step.new.plain t.step.new.peers
      → IsLeft before e c set (world_left set e.place e.now given e.outs here there t)
  turn_left given t waits =
      let puts = t.step.puts in
      let host = host_left set e.place e.now given e.outs here there t in
      let sent : sent_by e ≡ datagrams e.place puts = ap (put_out e.place) t.step.outs_are in
      let fits = recursion_from_All _ puts.sends.items t.step.fit in
      let all = x.packets ++ packets_of e.place puts.sends.items in
      record {
        sites_are = subst (λ (z : Trio Site). (place : ServerId)
            → IsPlace place (value_of (with_value x.hosts e.place host) place)
            (value_of z place))
            (sym h.is)
            (each_pair IsPlace x.hosts a e.place host there f.sites_are (inl (record {
              node = sym t.step.is;
              disk = (disk_left set e.place e.now given e.outs here there t).is;
              served = λ n is. subst IsServer (same_some t.step.new n (sym t.step.is ∙ is))
                  t.step.step.is_server;
              synced = λ none. absurd (none_some t.step.new (sym none ∙ t.step.is));
            })));
        no_stop = each_none x.stops e.place f.no_stop;
        posted = λ d has. ⊎_elim
            (λ old. posted_still x.packets all d
            (keeps_more x.packets (packets_of e.place puts.sends.items)) (f.posted d old))
            (λ new. outs_posted e.place puts x.packets fits d
            (subst (λ ds. Contains ds d) sent new))
            (Contains-append_cases (all_sent before) (sent_by e) d has);
        clocks = refl;
        askers = askers_left (λ n is. subst (λ (k : NodeValue). HasAskers es k.plain k.peers)
            (same_some t.step.new n (sym t.step.is ∙ is)) waits);
      }

  -- whichever packets count as delivered
  pub packed_left : (y : WorldValue) (packets : List Posted) → Keeps y.packets packets
      → IsLeft before e c set y → IsLeft before e c set (record y { packets = packets })
  packed_left y packets keeps l = record {
    sites_are = l.sites_are;
    no_stop = l.no_stop;
    posted = λ d has. posted_still y.packets packets d keeps (l.posted d has);
    clocks = l.clocks;
    askers = l.askers;
  }

  -- who waits at who lives there asked
  pub asked_here : (n : NodeValue) → here.node ≡ Some n → HasAskers es n.plain n.peers
  asked_here n is = has_more before (e ∷ []) n.plain n.peers (f.askers e.place n is)

  -- WHAT A WHOLE STEP LEAVES, of which all is there but who waits and who is answered
  pub turn_leaves : (v : DiskScene) (given : Input)
      (t : IsTurn set e.place e.now given e.outs here there) (i : Begins)
      (begins : TurnBegins v set (place_of e.place) given i)
      → AnswersTo es (peers_by (begins.stands.servers e.place).stock given)
      (v.scene.group.server (place_of e.place)) i
      → (y : WorldValue)
      → LedTo es v y (answered_lines e.place t.step.puts.answers.items)
      → y.book ≡ book_given set.book t.step.puts
      → (HasAskers es t.step.new.plain t.step.new.peers → IsLeft before e c set y)
      → Leaves before e c v set
  turn_leaves v given t i begins to y led book left =
      let book_is = ap (λ (b : BookValue). b.entries) book in
      let grows = grows_so es v set e.place e.now given e.outs here there t i begins in
      record {
        world = y;
        led = subst (λ outs. LedTo es v y (answered_lines e.place (answers_in outs)))
            (sym t.step.outs_are) led;
        left = left (waits_then es v set e.place e.now given e.outs here there t i begins
            (asked_here t.step.old t.step.was) to);
        more = grows.0;
        grows = book_is ∙ grows.1;
        answers = λ r has. subst (λ (new : List Entry). IsOfBook x.book.entries new es r)
            (sym book_is)
            (answered_so es v set e.place e.now given e.outs here there t i begins to r has);
      }

  -- ---- boots and ends

  -- the world with another host at the place, in which nothing was sent
  pub silent_left : (host : HostValue) (delta : ℕ) → IsPlace e.place host there → e.outs ≡ None
      → ((n : NodeValue) → there.node ≡ Some n → HasAskers es n.plain n.peers)
      → IsLeft before e c set (with_host (record set { delta = delta }) e.place host)
  silent_left host delta site silent waits =
      let all = all_silent silent in
      record {
        sites_are = subst (λ (z : Trio Site). (place : ServerId)
            → IsPlace place (value_of (with_value x.hosts e.place host) place)
            (value_of z place))
            (sym h.is)
            (each_pair IsPlace x.hosts a e.place host there f.sites_are site);
        no_stop = each_none x.stops e.place f.no_stop;
        posted = λ d has. f.posted d (subst (λ ds. Contains ds d) all has);
        clocks = refl;
        askers = askers_left waits;
      }
