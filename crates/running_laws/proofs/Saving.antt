-- The save of a server that is told to stop: a power failure of the run, whole, or cut by a stop.
use Rattle.std.proofs.Common.{◌≡◌, ℕ, ◌<◌, true, false, List, [], ◌∷◌, ◌++◌, length, take, nat_lt, Option, None, Some, inl, refl, sym, ap, ◌∙◌, subst, ⊎_elim}
use Rattle.std.proofs.lemmas.Bool.{cases_Bool}
use Rattle.std.proofs.lemmas.List.{take_all}
use Rattle.group_rules.proofs.Tests.{if_is, is_lt, not_lt}
use Rattle.group_rules.specs.Names.{place_of}
use Rattle.group_rules.specs.Step.{Does, Power}
use Rattle.group_trace.specs.DiskCalls.{measures_of}
use Rattle.group_trace.specs.DiskRun.{DiskScene, disk_next}
use Rattle.group_trace.specs.Lines.{state_lines}
use Rattle.group_trace.specs.Refusals.{own_refusal, where_down}
use Rattle.group_trace.specs.Run.{is_elementary, step_lines}
use Rattle.harp_store.specs.Disk.{Disk as ToldDisk, IsLeftOf, IsSynced, Moments}
use Rattle.harp_types.specs.Trio.{value_of}
use Rattle.harp_types.specs.declared.pick.Pick.{Pick}
use Rattle.harp_types.specs.declared.pick.Pick.TheVariants as pick
use Rattle.harp_types.specs.declared.server.ServerId.{ServerId}
use Rattle.harp_types.specs.declared.trio.Trio.{Trio}
use Rattle.node.specs.Node.{IsServer as IsServed, NodeValue}
use Rattle.node.specs.Power.{SavesAtOnce, saves_log}
use Rattle.node_loop.specs.Stay.{Saves as SavesLog}
use Rattle.store_laws.proofs.Calls.{saves_are_told}
use Rattle.store_laws.proofs.Parts.{parts_are_saves}
use Rattle.store_laws.specs.Calls.{StoreCall, told_after}
use Rattle.trace_types.specs.declared.line.Line.{Line}
use Rattle.trace_types.specs.declared.line.Line.TheVariants as line
use Rattle.trace_types.specs.declared.line.LineFault.TheVariants as fault
use Rattle.trace_types.specs.declared.step.Step.{Step}
use Rattle.trace_types.specs.declared.step.Step.TheVariants as step
use Rattle.world.proofs.Steps.{power_taken}
use Rattle.world.proofs.Tables.{value_there}
use Rattle.world.proofs.TheLaws.{the_laws}
use Rattle.world.proofs.Turns.{failure_leaves, with_host}
use Rattle.world.specs.Turns.{after_turn, turn_lines}
use Rattle.world.specs.World.{WorldValue}
use Rattle.world_host.proofs.Saves.{PoweredWell, save_fails}
use Rattle.world_host.proofs.Shown.{its_node}
use Rattle.world_host.proofs.Wholes.{Holds}
use Rattle.world_rules.specs.Host.{HostValue}
use Rattle.world_rules.specs.Spellings.{spellings}
use Rattle.world_rules.specs.Steps.{HostFails, IsStop}
use Rattle.world_rules.specs.declared.stop.Stop.{Stop}
use Rattle.running_laws.specs.Events.{Event, Site}
use Rattle.running_laws.specs.Follows.{Follows, IsAskedStep, IsSite}
use Rattle.running_laws.specs.Lives.{PartOfSave, WholeSave}
use Rattle.running_laws.proofs.Answering.{none_shown}
use Rattle.running_laws.proofs.Bootings.{none_shown_so}
use Rattle.running_laws.proofs.Happened.{gone_askers, own_me, set_world, silent_left, silently, site_here}
use Rattle.running_laws.proofs.Left.{IsNext, Leaves, none_some}
use Rattle.running_laws.proofs.Listed.{IsListed, host_listed, left_listed}
use Rattle.running_laws.proofs.Moving.{IsAt, LedTo, take_one}
use Rattle.running_laws.proofs.Picks.{left_of_synced, pick_of_left}
use Rattle.running_laws.proofs.Resting.{end_happens}
use Rattle.running_laws.proofs.SaveCalls.{all_made, all_saved, calls_of, cut_fails, first_listed}
use Rattle.running_laws.proofs.Takings.{shown_so, state_shown, up_so}

-- ---- the step of a run

-- A POWER FAILURE IS A STEP of a run, with this stop and its pick
record IsPower (es : List Event) (place : ServerId) (stop : Option Stop) : Type 0 where
  step : Step
  most : Option ℕ
  by : Pick
  stops : IsStop stop most by
  asks : IsAskedStep es step
  elementary : is_elementary step ≡ true
  same : (w : DiskScene) → own_refusal (measures_of spellings) w.scene.group step
      ≡ where_down w.scene.group place
  leads : (w : DiskScene) → disk_next spellings w step
      ≡ after_turn w most by (place_of place) (Does Power)
  says : (w : DiskScene) → step_lines (measures_of spellings) w.scene step ≡ line.Event step
      ∷ turn_lines w most (place_of place) (Does Power)

power_step : (es : List Event) (place : ServerId) (stop : Option Stop) → IsPower es place stop
power_step es place None = record {
  step = step.Power place;
  most = None;
  by = pick.None;
  stops = refl;
  asks = tt;
  elementary = refl;
  same = λ w. refl;
  leads = λ w. refl;
  says = λ w. refl;
}
power_step es place (Some stop) = record {
  step = step.PowerCut place stop.calls stop.pick;
  most = Some stop.calls;
  by = stop.pick;
  stops = (refl, refl);
  asks = tt;
  elementary = refl;
  same = λ w. refl;
  leads = λ w. refl;
  says = λ w. refl;
}

-- ---- where it leads

-- what a save at a place rests on, and what it leaves
record IsSaving (x : WorldValue) (place : ServerId) (a b : Site) (stop : Option Stop)
    : Type 0 where
  site : IsSite (value_of x.hosts place) a
  me : (value_of x.hosts place).me ≡ place_of place
  node : NodeValue
  was : a.node ≡ Some node
  own : node.me ≡ place_of place
  listed : IsListed b.disk.now
  fails : (host : HostValue) → Holds host node.me None b.disk.now
      → HostFails (value_of x.hosts place) host stop

module _ (x : WorldValue) (place : ServerId) (a b : Site) (stop : Option Stop)
    (t : IsSaving x place a b stop) where
  abbrev old : HostValue
  old = value_of x.hosts place

  -- the host without a node, with the disk that is left
  abbrev host_saved : HostValue
  host_saved = record { me = place_of place; node = None; disk = t.listed.list }

  abbrev world_saved : WorldValue
  world_saved = with_host x place host_saved

  abbrev lines_saved : List Line
  lines_saved = state_lines (place_of place) (state_shown t.node) None

  old_is : old.node ≡ Some t.node
  old_is = t.site.node ∙ t.was

  old_served : IsServed t.node
  old_served = t.site.served t.node t.was

  fails_so : HostFails old host_saved stop
  fails_so = t.fails host_saved (record { me = sym t.own; node = refl; disk = t.listed.is })

  new_none : (value_of world_saved.hosts place).node ≡ None
  new_none = ap (λ (h : HostValue). h.node) (value_there x.hosts place host_saved)

  -- A SAVE leads on
  save_led : (es : List Event) (w : DiskScene) → IsAt es w x → LedTo es w world_saved []
  save_led es w at =
      let p = power_step es place stop in
      subst (LedTo es w world_saved) (none_shown (place_of place) (state_shown t.node) None)
      (take_one es w x world_saved p.step lines_saved at p.asks
      (power_taken p.step place p.most p.by stop x world_saved [] lines_saved refl
      (failure_leaves the_laws x world_saved place stop host_saved (state_shown t.node) None []
      lines_saved (shown_so x place t.node old_is old_served) (sym t.me) fails_so refl
      (none_shown_so world_saved place new_none) refl) p.stops p.same p.leads p.says)
      (p.same w ∙ if_is (w.scene.group.server (place_of place)).up None
      (Some fault.ServerDown) (up_so x place t.node old_is old_served w at.stands)) p.elementary)

-- ---- of a node

-- what a save says
saved_so : (n : NodeValue) (told left : Option Moments) → SavesLog n told left
    → PoweredWell n told left
saved_so n told left s = record {
  powered = record { machine = s.rules; moments = s.at_once; kept = s.kept };
  saved = s.saved;
}

same_moments : (h k : Moments) → Some h ≡ Some k → h ≡ k
same_moments h k e = cc

-- ---- the event

module _ (before : List Event) (e : Event) (a c : Trio Site) (w : DiskScene) (x : WorldValue)
    (k : IsNext before e a c w x) where
  abbrev f : Follows before a w x
  f = k.follows

  abbrev set : WorldValue
  set = set_world before e a c w x k

  abbrev es : List Event
  es = before ++ e ∷ []

  abbrev here : Site
  here = value_of a e.place

  abbrev there : Site
  there = value_of c e.place

  abbrev host : HostValue
  host = value_of x.hosts e.place

  -- the host has the node of the place, over its disk
  had : (n : NodeValue) → here.node ≡ Some n → Holds host n.me (Some n) here.disk.now
  had n was =
      let site = site_here before e a c w x k n was in
      record {
        me = (f.stands.servers e.place).me ∙ sym (own_me before e a c w x k n was);
        node = site.node ∙ was;
        disk = site.disk;
      }

  here_listed : (n : NodeValue) → here.node ≡ Some n → IsListed here.disk.now
  here_listed n was = host_listed host here.disk.now (had n was).disk

  -- its disk has the node's mark
  marked : (n : NodeValue) → here.node ≡ Some n → here.disk.now.mark ≡ Some n.mark
  marked n was =
      let own = f.stands.servers e.place in
      let runs = its_node (w.scene.group.server (place_of e.place)) own.stock own.saved
      (w.disks (place_of e.place)) host n own.host (had n was).node in
      ap (λ (d : ToldDisk). d.mark) (sym (had n was).disk) ∙ runs.mark

  -- what it leaves
  saved_left : (v : DiskScene) → IsAt es v set → (stop : Option Stop)
      → IsSaving set e.place here there stop → there.node ≡ None → IsSynced there.disk.now
      → e.outs ≡ None → Leaves before e c v set
  saved_left v at stop t gone synced silent =
      silently before e a c w x k v (world_saved set e.place here there stop t)
      (save_led set e.place here there stop t es v at)
      (silent_left before e a c w x k (host_saved set e.place here there stop t) set.delta
      (inl (record {
        node = sym gone;
        disk = t.listed.is;
        served = λ n is. absurd (none_some n (sym gone ∙ is));
        synced = λ none. synced;
      })) silent (gone_askers before e a c w x k gone)) refl silent

  -- nothing is to be saved: the life ends
  kept_save : (v : DiskScene) → IsAt es v set → (n : NodeValue) (amid : Moments)
      → here.node ≡ Some n → there.node ≡ None → Some amid ≡ Some here.disk
      → IsLeftOf amid.now there.disk.now → e.outs ≡ None → Leaves before e c v set
  kept_save v at n amid was gone kept left silent =
      end_happens before e a c w x k v at (record {
        old = n;
        was = was;
        gone = gone;
        left = subst (λ (m : Moments). IsLeftOf m.now there.disk.now)
            (same_moments amid here.disk kept) left;
      }) silent

  -- the log is saved
  log_save : (v : DiskScene) → IsAt es v set → (s : WholeSave here there)
      → saves_log s.old ≡ true → e.outs ≡ None → Leaves before e c v set
  log_save v at s does silent =
      let sv = s.saves.saved does in
      let same = left_of_synced s.amid.now there.disk.now sv.has.synced s.left in
      let listed = first_listed _ here.disk s.amid
      (sv.disk ∙ sym (saves_are_told sv.log _ (Some here.disk))) (here_listed s.old s.was) in
      let t : IsSaving set e.place here there None = record {
        site = site_here before e a c w x k s.old s.was;
        me = (f.stands.servers e.place).me;
        node = s.old;
        was = s.was;
        own = own_me before e a c w x k s.old s.was;
        listed = subst IsListed (sym same) listed;
        fails = λ after has. save_fails host after s.old here.disk s.amid (had s.old s.was)
            (record { me = has.me; node = has.node; disk = has.disk ∙ same })
            (saved_so s.old (Some here.disk) (Some s.amid) s.saves);
      } in
      saved_left v at None t s.gone (subst IsSynced (sym same) sv.has.synced) silent

  -- A WHOLE SAVE leads on
  pub whole_save : (v : DiskScene) → IsAt es v set → WholeSave here there → e.outs ≡ None
      → Leaves before e c v set
  whole_save v at s silent = ⊎_elim
      (λ (does : saves_log s.old ≡ true). log_save v at s does silent)
      (λ (not_so : saves_log s.old ≡ false).
      kept_save v at s.old s.amid s.was s.gone (s.saves.kept not_so) s.left silent)
      (cases_Bool (saves_log s.old))

  -- ---- in part

  -- not all of its calls were made
  first_save : (v : DiskScene) → IsAt es v set → (s : PartOfSave here there)
      → saves_log s.old ≡ true → (calls : ℕ)
      → (one : SavesAtOnce s.old (Some here.disk) (Some s.amid))
      → calls < length (calls_of s.old (Some here.disk) (Some s.amid) one)
      → Some s.amid ≡ told_after (take calls (calls_of s.old (Some here.disk) (Some s.amid) one))
      (Some here.disk)
      → e.outs ≡ None → Leaves before e c v set
  first_save v at s does calls one less made silent =
      let picked = pick_of_left s.amid.now there.disk.now s.left in
      let stop : Stop = record { calls = calls; pick = picked.0 } in
      let t : IsSaving set e.place here there (Some stop) = record {
        site = site_here before e a c w x k s.old s.was;
        me = (f.stands.servers e.place).me;
        node = s.old;
        was = s.was;
        own = own_me before e a c w x k s.old s.was;
        listed = left_listed s.amid.now there.disk.now s.left
            (first_listed _ here.disk s.amid made (here_listed s.old s.was));
        fails = λ after has. cut_fails host after s.old stop here.disk s.amid (had s.old s.was)
            (record {
              does = does;
              at = one;
              less = less;
              made = made;
              holds = record { me = has.me; node = has.node; disk = has.disk ∙ picked.1 };
            });
      } in
      saved_left v at (Some stop) t s.gone s.left.synced silent

  -- all of them were: the save is whole
  last_save : (s : PartOfSave here there) → saves_log s.old ≡ true
      → (one : SavesAtOnce s.old (Some here.disk) (Some s.amid))
      → Some s.amid ≡ told_after (calls_of s.old (Some here.disk) (Some s.amid) one)
      (Some here.disk)
      → WholeSave here there
  last_save s does one made =
      let all = all_made s.old here.disk s.amid one made in
      record {
        old = s.old;
        was = s.was;
        gone = s.gone;
        amid = s.amid;
        saves = record {
          rules = s.part.rules;
          saved = λ _. record {
            log = one.log;
            records = one.records;
            numbered = one.numbered;
            entries = one.entries;
            disk = all;
            has = all_saved s.old here.disk s.amid one does (marked s.old s.was) all;
          };
          at_once = s.part.saving;
          kept = s.part.kept;
        };
        left = s.left;
      }

  log_part : (v : DiskScene) → IsAt es v set → (s : PartOfSave here there)
      → saves_log s.old ≡ true → e.outs ≡ None → Leaves before e c v set
  log_part v at s does silent =
      let one = s.part.saving does in
      let calls = calls_of s.old (Some here.disk) (Some s.amid) one in
      let made = parts_are_saves one.log _ (Some here.disk) (Some s.amid) one.part in
      ⊎_elim
      (λ (less : nat_lt made.0 (length calls) ≡ true).
      first_save v at s does made.0 one (is_lt made.0 (length calls) less) made.1 silent)
      (λ (more : nat_lt made.0 (length calls) ≡ false).
      whole_save v at (last_save s does one (made.1
      ∙ ap (λ (cs : List StoreCall). told_after cs (Some here.disk))
      (take_all made.0 calls (not_lt made.0 (length calls) more)))) silent)
      (cases_Bool (nat_lt made.0 (length calls)))

  -- A SAVE IN PART leads on
  pub cut_save : (v : DiskScene) → IsAt es v set → PartOfSave here there → e.outs ≡ None
      → Leaves before e c v set
  cut_save v at s silent = ⊎_elim
      (λ (does : saves_log s.old ≡ true). log_part v at s does silent)
      (λ (not_so : saves_log s.old ≡ false).
      kept_save v at s.old s.amid s.was s.gone (s.part.kept not_so) s.left silent)
      (cases_Bool (saves_log s.old))
