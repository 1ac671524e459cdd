-- Steps that are cut: a crash of the run, a stop of it amid an apply, or the whole step and a crash
-- behind it.
use Rattle.std.proofs.Common.{◌≡◌, ℕ, ◌<◌, List, [], ◌∷◌, ◌++◌, length, take, Contains, Option, None, Some, inl, refl, sym, ap, ◌∙◌, subst}
use Rattle.file_tree.specs.Book.{Entry}
use Rattle.group_rules.specs.Names.{place_of}
use Rattle.group_rules.specs.Step.{list_of}
use Rattle.group_trace.specs.DiskCalls.{measures_of}
use Rattle.group_trace.specs.DiskRun.{DiskScene}
use Rattle.harp_store.specs.Disk.{after_changes}
use Rattle.harp_types.specs.Trio.{value_of, with_value}
use Rattle.harp_types.specs.declared.server.ServerId.{ServerId}
use Rattle.harp_types.specs.declared.trio.Trio.{Trio}
use Rattle.node.specs.Input.{input_of}
use Rattle.node.specs.Stored.{LeavesBy, changes_made, disk_by}
use Rattle.node.specs.Taking.{stepped}
use Rattle.node.specs.declared.input.Input.{Input}
use Rattle.node.specs.declared.input.Input.TheVariants as input
use Rattle.node_link.specs.declared.link.SentDatagram.{SentDatagram}
use Rattle.world.proofs.Servers.{turned_to}
use Rattle.world.proofs.Tables.{value_there}
use Rattle.world.specs.Turns.{turn_lines}
use Rattle.world.specs.World.{WorldValue}
use Rattle.world_host.proofs.Givens.{is_given}
use Rattle.world_host.proofs.NodeCalls.{plain_moves}
use Rattle.world_host.proofs.Wholes.{part_at}
use Rattle.world_lines.specs.Book.{BookValue}
use Rattle.world_lines.specs.Given.{answered_lines, packets_of}
use Rattle.world_lines.specs.Posted.{Posted}
use Rattle.world_rules.specs.Host.{HostValue}
use Rattle.world_rules.specs.Spellings.{spellings}
use Rattle.world_rules.specs.declared.stop.Stop.{Stop}
use Rattle.running_laws.specs.Books.{answers_in}
use Rattle.running_laws.specs.Events.{Event, Site}
use Rattle.running_laws.specs.Follows.{Follows, IsPlace, IsPosted, IsSite}
use Rattle.running_laws.specs.Lives.{EndBetween, Happens, PartOfStep}
use Rattle.running_laws.proofs.Bare.{MayWrite}
use Rattle.running_laws.proofs.BehindTurns.{IsCutThere, book_behind, book_grows, host_behind, new_node, none_said as none_behind, sends, site_behind, turn_behind, world_behind}
use Rattle.running_laws.proofs.Clocks.{reads_now}
use Rattle.running_laws.proofs.Cuts.{Ends, behind, cut_ends, earlier, within}
use Rattle.running_laws.proofs.Endings.{IsEnding, disk_fallen, end_led, host_fallen, world_fallen}
use Rattle.running_laws.proofs.Happened.{all_silent, askers_left, gone_askers, none_said, own_me, set_world, silent_left, silently, site_here}
use Rattle.running_laws.proofs.Left.{IsLeft, IsNext, Leaves, each_none, each_pair, none_some, twice_set}
use Rattle.running_laws.proofs.Moving.{IsAt, LedTo, led_on}
use Rattle.running_laws.proofs.Posts.{keeps_more, posted_still}
use Rattle.running_laws.proofs.Resting.{end_happens}
use Rattle.running_laws.proofs.Runs.{StepOfRun}
use Rattle.running_laws.proofs.Steps.{own_deed}
use Rattle.running_laws.proofs.Stopped.{IsStopped, disk_stopped, host_stopped, stopped_led, the_stop, world_stopped}

-- steps lead to a world behind a step that answers nobody, and of the site that its host has there
-- a crash leaves another one
record IsLedBehind (es : List Event) (v : DiskScene) (x : WorldValue) (place : ServerId)
    (there : Site) : Type 0 where
  host : HostValue
  packets : List Posted
  book : BookValue
  site : Site
  led : LedTo es v (turned_to x place host packets book) []
  stands : IsSite host site
  me : host.me ≡ place_of place
  ending : EndBetween site there
  posted : (d : SentDatagram) → IsPosted x.packets d → IsPosted packets d
  more : List Entry
  grows : book.entries ≡ x.book.entries ++ more

module _ (before : List Event) (e : Event) (a c : Trio Site) (w : DiskScene) (x : WorldValue)
    (k : IsNext before e a c w x) where
  abbrev f : Follows before a w x
  f = k.follows

  abbrev h : Happens e a c
  h = k.happens

  abbrev set : WorldValue
  set = set_world before e a c w x k

  abbrev es : List Event
  es = before ++ e ∷ []

  abbrev here : Site
  here = value_of a e.place

  abbrev there : Site
  there = value_of c e.place

  -- ---- behind the last call

  -- the crash
  ended : (v : DiskScene) → IsLedBehind es v set e.place there → e.outs ≡ None
      → Leaves before e c v set
  ended v t silent =
      let y = turned_to set e.place t.host t.packets t.book in
      let there_is = value_there x.hosts e.place t.host in
      let ending : IsEnding y e.place t.site there = record {
        site = subst (λ (k : HostValue). IsSite k t.site) (sym there_is) t.stands;
        me = ap (λ (k : HostValue). k.me) there_is ∙ t.me;
        ending = t.ending;
      } in
      let fell = host_fallen y e.place t.site there ending in
      let z = world_fallen y e.place t.site there ending in
      let all = all_silent before e a c w x k silent in
      record {
        world = z;
        led = subst (λ outs. LedTo es v z (answered_lines e.place (answers_in outs)))
            (sym silent) (led_on es v y z [] [] t.led
            (λ u at. end_led y e.place t.site there ending es u at));
        left = record {
          sites_are = subst (λ (hosts : Trio HostValue). (place : ServerId)
              → IsPlace place (value_of hosts place) (value_of c place))
              (sym (twice_set x.hosts e.place t.host fell))
              (subst (λ (z : Trio Site). (place : ServerId)
              → IsPlace place (value_of (with_value x.hosts e.place fell) place)
              (value_of z place)) (sym h.is)
              (each_pair IsPlace x.hosts a e.place fell there f.sites_are (inl (record {
                node = sym t.ending.gone;
                disk = (disk_fallen y e.place t.site there ending).is;
                served = λ n is. absurd (none_some n (sym t.ending.gone ∙ is));
                synced = λ none. t.ending.left.synced;
              }))));
          no_stop = each_none (with_value x.stops e.place None) e.place
              (each_none x.stops e.place f.no_stop);
          posted = λ d has. t.posted d (f.posted d (subst (λ ds. Contains ds d) all has));
          clocks = refl;
          askers = askers_left before e a c w x k (gone_askers before e a c w x k t.ending.gone);
        };
        more = t.more;
        grows = t.grows;
        answers = λ r has. absurd (none_said before e a c w x k silent r has);
      }

  -- the disk is that of the whole step, which the run takes
  whole : (v : DiskScene) (given : Input) (p : PartOfStep e.now given e.outs here there)
      (r : StepOfRun es v set e.place given) → MayWrite r.taken_as
      → Some p.amid ≡ disk_by p.old (plain_moves v.scene.group p.old r.taken_as) (Some r.taken_as)
      (Some here.disk)
      → IsLedBehind es v set e.place there
  whole v given p r may made =
      let site = site_here before e a c w x k p.old p.was in
      let i = r.taken_as in
      let t : IsCutThere v set e.place i here.disk p.amid = record {
        may = may;
        no_stop = f.no_stop e.place;
        node = p.old;
        lives = site.node ∙ p.was;
        disk = site.disk;
        served = site.served p.old p.was;
        made = made;
      } in
      let sent = packets_of e.place (sends v set e.place given i r.begins here.disk p.amid t) in
      let grows = book_grows v set e.place given i r.begins here.disk p.amid t in
      let run = r.leads (world_behind v set e.place given i r.begins here.disk p.amid t)
      (turn_lines v (v.scene.armed (place_of e.place)) (place_of e.place) i) None
      (turn_behind v set e.place given i r.begins here.disk p.amid t) in
      let host = host_behind v set e.place given i r.begins here.disk p.amid t in
      let book = book_behind v set e.place given i r.begins here.disk p.amid t in
      record {
        host = host;
        packets = run.0;
        book = book;
        site = record {
          node = Some (new_node v set e.place given i r.begins here.disk p.amid t);
          disk = p.amid;
        };
        led = subst (LedTo es v (turned_to set e.place host run.0 book))
            (none_behind v set e.place given i r.begins here.disk p.amid t) run.2;
        stands = site_behind v set e.place given i r.begins here.disk p.amid t;
        me = refl;
        ending = record {
          old = new_node v set e.place given i r.begins here.disk p.amid t;
          was = refl;
          gone = p.gone;
          left = p.left;
        };
        posted = λ d has. posted_still (x.packets ++ sent) run.0 d run.1
            (posted_still x.packets (x.packets ++ sent) d (keeps_more x.packets sent) has);
        more = grows.0;
        grows = grows.1;
      }

  -- ---- amid the changes of an apply

  stopped : (v : DiskScene) → IsAt es v set → (given : Input)
      → (p : PartOfStep e.now given e.outs here there) → (most calls : ℕ)
      → calls < length (changes_made most p.old)
      → Some p.amid ≡ after_changes (take calls (changes_made most p.old)) (Some here.disk)
      → Leaves before e c v set
  stopped v at given p most calls less made =
      let t : IsStopped set e.place e.now most here there = record {
        site = site_here before e a c w x k p.old p.was;
        me = (f.stands.servers e.place).me;
        node = p.old;
        was = p.was;
        own_me = own_me before e a c w x k p.old p.was;
        clock = reads_now before e x.clocks f.clocks k.in_time;
        calls = calls;
        amid = p.amid;
        less = less;
        made = made;
        left = p.left;
      } in
      let host = host_stopped set e.place e.now most here there t in
      let stop = the_stop set e.place e.now most here there t in
      silently before e a c w x k v (world_stopped set e.place e.now most here there t)
      (stopped_led set e.place e.now most here there t es v at
      (own_deed es e.place (input.Apply most) tt))
      (subst (λ (stops : Trio (Option Stop)). IsLeft before e c set
      (record set { hosts = with_value x.hosts e.place host; stops = stops }))
      (sym (twice_set x.stops e.place (Some stop) None))
      (silent_left before e a c w x k host set.delta (inl (record {
        node = sym p.gone;
        disk = (disk_stopped set e.place e.now most here there t).is;
        served = λ n is. absurd (none_some n (sym p.gone ∙ is));
        synced = λ none. p.left.synced;
      })) p.silent (gone_askers before e a c w x k p.gone))) refl p.silent

  -- ---- all of them

  -- the disk amid the step, by the moves that the run's step makes of the node
  part_there : (v : DiskScene) (given : Input) (p : PartOfStep e.now given e.outs here there)
      (r : StepOfRun es v set e.place given)
      → LeavesBy p.old (plain_moves v.scene.group p.old r.taken_as) (Some r.taken_as)
      (Some here.disk) (Some p.amid)
  part_there v given p r =
      let g = v.scene.group in
      let clock : e.now ≡ g.clock p.old.me =
      sym (reads_now before e x.clocks f.clocks k.in_time)
      ∙ r.begins.stands.clocks e.place
      ∙ ap g.clock (sym (own_me before e a c w x k p.old p.was)) in
      part_at g given r.taken_as p.old (Some here.disk) (Some p.amid) r.begins.begins
      (subst (λ (now : ℕ). (size : List Entry → Entry → ℕ) (list : List Entry) → LeavesBy p.old
      (stepped size p.old.me now list p.old.plain (input_of given)) (input_of given)
      (Some here.disk) (Some p.amid)) clock p.part)

  by_end : (v : DiskScene) → IsAt es v set → (given : Input)
      (p : PartOfStep e.now given e.outs here there) (r : StepOfRun es v set e.place given)
      → Ends p.old (plain_moves v.scene.group p.old r.taken_as) r.taken_as here.disk p.amid
      there.disk.now
      → Leaves before e c v set
  by_end v at given p r (earlier left) = end_happens before e a c w x k v at
      (record { old = p.old; was = p.was; gone = p.gone; left = left }) p.silent
  by_end v at given p r (within most calls less made) =
      stopped v at given p most calls less made
  by_end v at given p r (behind may made) = ended v (whole v given p r may made) p.silent

  -- A STEP THAT IS CUT leads on
  pub cut_step : (v : DiskScene) → IsAt es v set → (given : Input)
      → PartOfStep e.now given e.outs here there → StepOfRun es v set e.place given
      → Leaves before e c v set
  cut_step v at given p r =
      let g = v.scene.group in
      by_end v at given p r (cut_ends (measures_of spellings).size (g.clock p.old.me)
      (list_of g p.old.me) p.old here.disk p.amid there.disk.now p.left r.taken_as
      (is_given given r.taken_as r.begins.begins) (part_there v given p r))
