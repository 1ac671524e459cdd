-- Boots and ends of lives, and boots that are cut.
use Rattle.std.proofs.Common.{◌≡◌, ℕ, List, [], ◌∷◌, ◌++◌, Contains, None, Some, inl, inr, refl, sym, ap, ◌∙◌, subst, ⊎_elim, ◌⊎◌}
use Rattle.group_rules.specs.Names.{place_of}
use Rattle.group_trace.specs.DiskRun.{DiskScene}
use Rattle.harp_store.specs.Disk.{IsLeftOf, IsSynced, Moments}
use Rattle.harp_types.specs.Trio.{value_of}
use Rattle.harp_types.specs.declared.server.ServerId.{ServerId}
use Rattle.harp_types.specs.declared.trio.Trio.{Trio}
use Rattle.node.specs.Boot.{after_boot, has_boot_mark}
use Rattle.node.specs.Node.{IsServer, NodeValue}
use Rattle.promise.specs.Promise.{IsDelta}
use Rattle.world.proofs.Tables.{each_value, value_there}
use Rattle.world.specs.Clocks.{delta_after}
use Rattle.world.specs.World.{WorldValue}
use Rattle.world_rules.specs.Host.{HostValue}
use Rattle.running_laws.specs.Events.{Event, Site}
use Rattle.running_laws.specs.Follows.{Follows, IsNew, IsPlace, IsSite}
use Rattle.running_laws.specs.Histories.{IsInTime}
use Rattle.running_laws.specs.Lives.{EndBetween, Happens, PartOfBoot, WholeBoot}
use Rattle.running_laws.proofs.Bootings.{IsBootAt, IsBooting, boot_led, boot_there, delta_is, delta_led, disk_booted, host_booted, world_booted}
use Rattle.running_laws.proofs.FirstBoots.{first_boot, from, new_left, new_there, new_written}
use Rattle.running_laws.proofs.Making.{made_boot}
use Rattle.running_laws.proofs.Clocks.{reads_now}
use Rattle.running_laws.proofs.Endings.{IsEnding, disk_fallen, end_led, host_fallen, world_fallen}
use Rattle.running_laws.proofs.Moving.{IsAt, LedTo, led_nowhere, led_on}
use Rattle.running_laws.proofs.Picks.{left_of_synced}
use Rattle.running_laws.proofs.Waiting.{none_waits}
use Rattle.running_laws.proofs.Left.{IsNext, IsLeft, Leaves, marked_synced, none_some, same_some, twice_hosted}
use Rattle.running_laws.proofs.Happened.{all_silent, askers_left, gone_askers, set_world, silent_left, silently, site_here}

module _ (before : List Event) (e : Event) (a c : Trio Site) (w : DiskScene) (x : WorldValue)
    (k : IsNext before e a c w x) where
  abbrev f : Follows before a w x
  f = k.follows

  abbrev h : Happens e a c
  h = k.happens

  abbrev in_time : IsInTime before e
  in_time = k.in_time

  abbrev set : WorldValue
  set = set_world before e a c w x k

  abbrev es : List Event
  es = before ++ e ∷ []

  abbrev here : Site
  here = value_of a e.place

  abbrev there : Site
  there = value_of c e.place

  boot_at : (delta : ℕ) (b : Site) → WholeBoot e.place e.now delta here b
      → IsBootAt (value_of x.hosts e.place) e.place e.now delta b
  boot_at delta b boot = ⊎_elim
      (λ (s : IsSite (value_of x.hosts e.place) here). boot_there _ e.place e.now delta here b s
      boot)
      (λ (k : IsNew e.place (value_of x.hosts e.place) here). first_boot _ e.place e.now delta here
      b k boot.boot.written boot)
      (f.sites_are e.place)

  booted_happens : (v : DiskScene) → IsAt es v set → (delta : ℕ) → IsDelta delta
      → IsBootAt (value_of x.hosts e.place) e.place e.now delta there
      → ((n : NodeValue) → there.node ≡ Some n → n.peers ≡ []) → e.outs ≡ None
      → Leaves before e c v set
  booted_happens v at delta length boot alone silent =
      let longer = delta_after set.delta delta in
      let ready = record set { delta = longer } in
      let t : IsBooting ready e.place e.now delta there = record {
        me = (f.stands.servers e.place).me;
        clock = reads_now before e x.clocks f.clocks in_time;
        length = delta_is set.delta delta length;
        boot = boot;
      } in
      let y = world_booted ready e.place e.now delta there t in
      let led : LedTo es v y [] = led_on es v ready y [] [] (delta_led es v set delta at)
      (λ u there_at. boot_led ready e.place e.now delta there t es u there_at) in
      let host_is = ap (λ (k : HostValue). k.node) (value_there x.hosts e.place
      (host_booted ready e.place e.now delta there t)) in
      silently before e a c w x k v y led
      (silent_left before e a c w x k (host_booted ready e.place e.now delta there t) longer
      (inl (record {
        node = sym boot.is;
        disk = (disk_booted ready e.place e.now delta there t).is;
        served = λ n is. subst IsServer (same_some boot.node n (sym boot.is ∙ is))
            boot.boots.served;
        synced = λ none. absurd (none_some boot.node (sym none ∙ boot.is));
      })) silent
      (λ n is. none_waits es led.scene y led.there e.place n (host_is ∙ sym boot.is ∙ is)
      (alone n is)))
      refl silent

  pub boot_happens : (v : DiskScene) → IsAt es v set → (delta : ℕ)
      → WholeBoot e.place e.now delta here there → e.outs ≡ None → Leaves before e c v set
  boot_happens v at delta boot silent =
      booted_happens v at delta boot.length (boot_at delta there boot)
      (λ n is. subst (λ (k : NodeValue). k.peers ≡ [])
      (same_some boot.node n (sym boot.is ∙ is)) boot.boot.peers) silent

  pub end_happens : (v : DiskScene) → IsAt es v set → EndBetween here there → e.outs ≡ None
      → Leaves before e c v set
  end_happens v at ending silent =
      let t : IsEnding set e.place here there = record {
        site = site_here before e a c w x k ending.old ending.was;
        me = (f.stands.servers e.place).me;
        ending = ending;
      } in
      let y = world_fallen set e.place here there t in
      silently before e a c w x k v y (end_led set e.place here there t es v at)
      (silent_left before e a c w x k (host_fallen set e.place here there t) set.delta
      (inl (record {
        node = sym ending.gone;
        disk = (disk_fallen set e.place here there t).is;
        served = λ n is. absurd (none_some n (sym ending.gone ∙ is));
        synced = λ none. ending.left.synced;
      })) silent (gone_askers before e a c w x k ending.gone)) refl silent

  -- ---- boots that are cut

  none_here : IsPlace e.place (value_of x.hosts e.place) here → here.node ≡ None
      → IsSynced here.disk.now
  none_here (inl s) none = s.synced none
  none_here (inr k) none = subst IsSynced (sym k.new.empty) refl

  place_still : IsPlace e.place (value_of x.hosts e.place) here → here.node ≡ None
      → there.node ≡ None → there.disk.now ≡ here.disk.now
      → IsPlace e.place (value_of x.hosts e.place) there
  place_still (inl s) none gone same = inl (record {
    node = s.node ∙ none ∙ sym gone;
    disk = s.disk ∙ sym same;
    served = λ n is. absurd (none_some n (sym gone ∙ is));
    synced = λ _. subst IsSynced (sym same) (s.synced none);
  })
  place_still (inr k) none gone same = inr (record {
    new = record { gone = gone; empty = same ∙ k.new.empty };
    node = k.node;
    disk = k.disk;
  })

  -- before its write: nothing changed
  unwritten_boot : (v : DiskScene) → IsAt es v set → here.node ≡ None → there.node ≡ None
      → there.disk.now ≡ here.disk.now → e.outs ≡ None → Leaves before e c v set
  unwritten_boot v at none gone same silent =
      let all = all_silent before e a c w x k silent in
      silently before e a c w x k v set (led_nowhere es v set at) (record {
        sites_are = subst (λ (z : Trio Site). (place : ServerId)
            → IsPlace place (value_of x.hosts place) (value_of z place)) (sym h.is)
            (each_value (λ (p : ServerId) (s : Site). IsPlace p (value_of x.hosts p) s) a e.place
            there (λ p other. f.sites_are p)
            (place_still (f.sites_are e.place) none gone same));
        no_stop = f.no_stop;
        posted = λ d has. f.posted d (subst (λ ds. Contains ds d) all has);
        clocks = refl;
        askers = askers_left before e a c w x k (gone_askers before e a c w x k gone);
      }) refl silent

  -- behind it: a boot, and a crash
  written_boot : (v : DiskScene) → IsAt es v set → (delta : ℕ) (b : Site) → IsDelta delta
      → IsBootAt (value_of x.hosts e.place) e.place e.now delta b → EndBetween b there
      → there.disk.now ≡ b.disk.now → e.outs ≡ None → Leaves before e c v set
  written_boot v at delta b length boot end same silent =
      let longer = delta_after set.delta delta in
      let ready = record set { delta = longer } in
      let t : IsBooting ready e.place e.now delta b = record {
        me = (f.stands.servers e.place).me;
        clock = reads_now before e x.clocks f.clocks in_time;
        length = delta_is set.delta delta length;
        boot = boot;
      } in
      let host = host_booted ready e.place e.now delta b t in
      let y = world_booted ready e.place e.now delta b t in
      let there_is = value_there x.hosts e.place host in
      let ending : IsEnding y e.place b there = record {
        site = subst (λ (k : HostValue). IsSite k b) (sym there_is) (record {
          node = sym t.boot.is;
          disk = (disk_booted ready e.place e.now delta b t).is;
          served = λ n is. subst IsServer (same_some t.boot.node n (sym t.boot.is ∙ is))
              t.boot.boots.served;
          synced = λ none. absurd (none_some t.boot.node (sym none ∙ t.boot.is));
        });
        me = ap (λ (k : HostValue). k.me) there_is;
        ending = end;
      } in
      let fell = host_fallen y e.place b there ending in
      let z = world_fallen y e.place b there ending in
      silently before e a c w x k v z
      (led_on es v ready z [] [] (delta_led es v set delta at)
      (λ u ready_at. led_on es u y z [] []
      (boot_led ready e.place e.now delta b t es u ready_at)
      (λ k booted_at. end_led y e.place b there ending es k booted_at)))
      (subst (IsLeft before e c set) (sym (twice_hosted ready e.place host fell))
      (silent_left before e a c w x k fell longer (inl (record {
        node = sym end.gone;
        disk = (disk_fallen y e.place b there ending).is;
        served = λ n is. absurd (none_some n (sym end.gone ∙ is));
        synced = λ none. end.left.synced;
      })) silent (gone_askers before e a c w x k end.gone))) refl silent

  -- the node that it was about to make
  made_at : (delta : ℕ) (amid : Moments) → here.node ≡ None
      → Some amid ≡ after_boot e.place delta (Some here.disk)
      → (n : NodeValue) × IsBootAt (value_of x.hosts e.place) e.place e.now delta
      (record { node = Some n; disk = amid })
  made_at delta amid none written =
      let q = place_of e.place in
      let own = f.stands.servers e.place in
      let host = value_of x.hosts e.place in
      let b : Site = record { node = None; disk = amid } in
      ⊎_elim
      (λ (s : IsSite host here). made_boot (w.scene.group.server q) own.stock own.saved
      (w.disks q) host own.host e.place e.now delta own.me (s.node ∙ none) here.disk amid amid
      s.disk written refl)
      (λ (k : IsNew e.place host here). made_boot (w.scene.group.server q) own.stock own.saved
      (w.disks q) host own.host e.place e.now delta own.me k.node
      (from host e.place e.now delta here b k written)
      (new_left host e.place e.now delta here b k written) amid k.disk
      (new_written host e.place e.now delta here b k written)
      (new_there host e.place e.now delta here b k written))
      (f.sites_are e.place)

  pub cut_boot : (v : DiskScene) → IsAt es v set → (delta : ℕ)
      → (p : PartOfBoot e.place delta here there)
      → (p.amid ≡ here.disk) ⊎ (Some p.amid ≡ after_boot e.place delta (Some here.disk))
      → e.outs ≡ None → Leaves before e c v set
  cut_boot v at delta p (inl old) silent =
      let left = subst (λ (m : Moments). IsLeftOf m.now there.disk.now) old p.left in
      unwritten_boot v at p.none p.still
      (left_of_synced here.disk.now there.disk.now (none_here (f.sites_are e.place) p.none) left)
      silent
  cut_boot v at delta p (inr written) silent =
      let made = made_at delta p.amid p.none written in
      let b : Site = record { node = Some made.0; disk = p.amid } in
      let synced : IsSynced p.amid.now = marked_synced e.place delta here.disk p.amid
      (has_boot_mark delta here.disk.now.mark) written
      ∙ none_here (f.sites_are e.place) p.none in
      written_boot v at delta b p.length made.1
      (record { old = made.0; was = refl; gone = p.still; left = p.left })
      (left_of_synced p.amid.now there.disk.now synced p.left) silent
