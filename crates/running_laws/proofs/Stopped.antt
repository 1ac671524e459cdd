-- An apply that is cut amid its changes: a stop of the run lets as many calls pass, and its pick is
-- what was left.
use Rattle.std.proofs.Common.{◌≡◌, ℕ, ◌<◌, Bool, true, false, List, [], ◌∷◌, length, map, take, Option, None, Some, inl, refl, sym, ap, ◌∙◌, subst, arith, true≢false, ⊎_elim}
use Rattle.std.specs.Prelude.{not, ◌&&◌}
use Rattle.std.proofs.lemmas.Bool.{cases_Bool}
use Rattle.std.proofs.lemmas.List.{length-map, take-map}
use Rattle.group_rules.proofs.Tests.{if_is}
use Rattle.group_rules.specs.Disk.{settled_tests}
use Rattle.group_rules.specs.Names.{place_of}
use Rattle.group_rules.specs.Places.{all_of}
use Rattle.group_rules.specs.Step.{Apply, Does, Input as Begins}
use Rattle.group_trace.specs.DiskCalls.{Changing, DiskCall}
use Rattle.group_trace.specs.DiskRun.{DiskScene, calls_at, disk_after, is_crash}
use Rattle.group_trace.specs.Lines.{state_lines}
use Rattle.harp_cells.specs.declared.change.Change.{Change}
use Rattle.harp_store.specs.Disk.{IsLeftOf, Moments, Now, after_changes, after_step, changed_by}
use Rattle.harp_store.specs.Mark.{MarkFields}
use Rattle.harp_store.specs.Memory.{crashed_by}
use Rattle.harp_types.specs.Trio.{value_of, with_value}
use Rattle.harp_types.specs.declared.pick.Pick.{Pick}
use Rattle.harp_types.specs.declared.server.ServerId.{ServerId}
use Rattle.node.specs.Node.{IsServer as IsServed, NodeValue}
use Rattle.node.specs.Stored.{changes_made, stores}
use Rattle.node.specs.declared.input.Input.TheVariants as input
use Rattle.store_laws.proofs.Calls.{changes_are_of_calls, steps_follow}
use Rattle.store_laws.proofs.StepCalls.{steps_make_calls}
use Rattle.store_laws.specs.Calls.{IsCallOf, Makes, StoreCall, told_after}
use Rattle.store_laws.specs.Steps.{applied_by}
use Rattle.store_laws.specs.Told.{IsDiskOf, OneForOne}
use Rattle.trace_types.specs.declared.line.Line.{Line}
use Rattle.trace_types.specs.declared.line.LineFault.TheVariants as fault
use Rattle.trace_types.specs.declared.step.Step.TheVariants as step
use Rattle.world.proofs.Quiet.{stop_taken}
use Rattle.world.proofs.Steps.{deed_taken}
use Rattle.world.proofs.Tables.{value_there}
use Rattle.world.proofs.TheLaws.{the_laws}
use Rattle.world.proofs.Turns.{turn_leaves, with_host}
use Rattle.world.specs.Turns.{Turns}
use Rattle.world.specs.World.{WorldValue}
use Rattle.world_host.proofs.Falls.{fallen}
use Rattle.world_host.proofs.NodeCalls.{changes_last, no_changes}
use Rattle.world_host.proofs.Stops.{KeepsLog, cut_is, keeps_log}
use Rattle.world_host.proofs.Takes.{TakesFrom, host_takes}
use Rattle.world_host.proofs.Wholes.{Holds, can_call, node_mark}
use Rattle.world_rules.specs.Host.{HostValue}
use Rattle.world_rules.specs.Spellings.{spellings}
use Rattle.world_rules.specs.Steps.{HostTakes, Takes}
use Rattle.world_rules.specs.declared.stop.Stop.{Stop}
use Rattle.running_laws.specs.Events.{Event, Site}
use Rattle.running_laws.specs.Follows.{IsSite}
use Rattle.running_laws.proofs.Answering.{none_shown}
use Rattle.running_laws.proofs.Bootings.{none_shown_so}
use Rattle.running_laws.proofs.Listed.{IsListed, host_listed, left_listed, part_listed}
use Rattle.running_laws.proofs.Moving.{IsAt, LedTo, led_on, take_one}
use Rattle.running_laws.proofs.Picks.{pick_of_left}
use Rattle.running_laws.proofs.Steps.{IsDeed}
use Rattle.running_laws.proofs.Takings.{shown_so, state_shown, up_so}

-- ---- of a host

pub one_long : (xs : List StoreCall) (ys : List DiskCall) → OneForOne IsCallOf xs ys
    → length xs ≡ length ys
one_long [] [] h = refl
one_long (x ∷ xs) (y ∷ ys) h =
    let rest = one_long xs ys h.1 in omega (arith, rest)
one_long [] (y ∷ ys) h = absurd h
one_long (x ∷ xs) [] h = absurd h

changes_told : (changes : List Change) (told : Option Moments)
    → told_after (map Makes changes) told ≡ after_changes changes told
unfolding told_after after_changes
changes_told [] told = refl
changes_told (x ∷ changes) told = changes_told changes (after_step (changed_by x) told)

-- who makes changes stores
stores_so : (n : NodeValue) (most j : ℕ) → j < length (changes_made most n) → stores n ≡ true
stores_so n most j less = ⊎_elim (λ (e : stores n ≡ true). e)
    (λ (e : stores n ≡ false).
    let none = ap length (no_changes n most e) in absurd (omega (arith, less, none)))
    (cases_Bool (stores n))

same_begun : (i j : Begins) → Some i ≡ Some j → i ≡ j
same_begun i j e = cc

-- fewer changes were made than the apply makes, and a pick left this of them
pub record IsCutAt (n : NodeValue) (most : ℕ) (stop : Stop) (old amid : Moments)
    (host : HostValue) : Type 0 where
  pub less : stop.calls < length (changes_made most n)
  pub made : Some amid ≡ after_changes (take stop.calls (changes_made most n)) (Some old)
  pub holds : Holds host n.me None (crashed_by stop.pick amid.now)

-- A STOP COMES
stops_from : (n : NodeValue) (most now : ℕ) (stop : Stop) (old amid : Moments) (host : HostValue)
    → IsCutAt n most stop old amid host
    → TakesFrom n.me (Some n) old.now host (input.Apply most) now (Some stop) None
stops_from n most now stop old amid host s g calls pick i k saved r h up clock by can =
    let q = n.me in
    let changes = changes_made most n in
    let made = map Makes changes in
    let ready = can_call g (input.Apply most) i k saved r n old.now h can in
    let so = stores_so n most stop.calls s.less in
    let all : calls_at spellings g q (Does (Apply most)) ≡ map Changing (applied_by g q most) =
    (steps_make_calls spellings g q).apply most
    ∙ if_is (all_of (settled_tests q (g.server q))) (map Changing (applied_by g q most)) []
    (ready.of.settled ∙ so) in
    let one : OneForOne IsCallOf made (calls_at spellings g q i) =
    subst (λ (j : Begins). OneForOne IsCallOf made (calls_at spellings g q j))
    (same_begun (Does (Apply most)) i can.begins)
    (subst (OneForOne IsCallOf made) (sym all)
    (changes_are_of_calls changes (applied_by g q most) (ready.applied most so))) in
    let long = one_long made (calls_at spellings g q i) one in
    let many = length-map changes Makes in
    let cut = cut_is spellings g q i stop.calls (omega (arith, s.less, long, many)) in
    let left = disk_after spellings g (Some stop.calls) pick q i r in
    let passed : told_after (take stop.calls made) (Some old) ≡ Some amid =
    ap (λ (cs : List StoreCall). told_after cs (Some old)) (take-map Makes stop.calls changes)
    ∙ changes_told (take stop.calls changes) (Some old) ∙ sym s.made in
    let kept = keeps_log n.mark made stop.calls old amid (changes_last changes)
    (inl (ready.unsaved so)) (omega (arith, s.less, many)) passed in
    let told = steps_follow spellings g (Some stop.calls) pick q i made (Some old) r h.disk one
    can.few in
    let disk = subst (λ (t : Option Moments). Now (λ x. IsDiskOf (crashed_by pick x) left) t)
    passed (told.crashed (ap (λ (b : Bool). b && not (is_crash i)) cut)) in
    subst (λ (m : Option ℕ). Takes g m pick q (input.Apply most) i k saved r host None)
    (sym by.0) (record {
      whole = λ whole. absurd (true≢false (sym whole ∙ cut));
      stopped = λ _. (
        refl,
        fallen (g.server q) saved q stop.pick old.now amid.now left h.mark
            (subst (λ (m : MarkFields). KeepsLog m old.now amid.now)
            (sym (node_mark (g.server q) k saved r n old.now h)) kept)
            (subst (λ (p : Pick). IsDiskOf (crashed_by p amid.now) left) by.1 disk) host s.holds,
      );
    })

-- ---- at a place

-- what an apply that is cut amid its changes rests on, and what it leaves
pub record IsStopped (x : WorldValue) (place : ServerId) (now most : ℕ) (a b : Site)
    : Type 0 where
  pub site : IsSite (value_of x.hosts place) a
  pub me : (value_of x.hosts place).me ≡ place_of place
  pub node : NodeValue
  pub was : a.node ≡ Some node
  pub own_me : node.me ≡ place_of place
  pub clock : value_of x.clocks place ≡ now
  pub calls : ℕ
  pub amid : Moments
  pub less : calls < length (changes_made most node)
  pub made : Some amid ≡ after_changes (take calls (changes_made most node)) (Some a.disk)
  pub left : IsLeftOf amid.now b.disk.now

module _ (x : WorldValue) (place : ServerId) (now most : ℕ) (a b : Site)
    (t : IsStopped x place now most a b) where
  abbrev old : HostValue
  old = value_of x.hosts place

  pub picked : (by : Pick) × (b.disk.now ≡ crashed_by by t.amid.now)
  picked = pick_of_left t.amid.now b.disk.now t.left

  abbrev pub the_stop : Stop
  the_stop = record { calls = t.calls; pick = picked.0 }

  -- the world with the stop
  abbrev armed : WorldValue
  armed = record x { stops = with_value x.stops place (Some the_stop) }

  -- the disk that is left
  pub disk_stopped : IsListed b.disk.now
  disk_stopped = left_listed t.amid.now b.disk.now t.left
      (part_listed (take t.calls (changes_made most t.node)) a.disk t.amid t.made
      (host_listed old a.disk.now t.site.disk))

  -- the host without a node, with that disk
  abbrev pub host_stopped : HostValue
  host_stopped = record { me = place_of place; node = None; disk = disk_stopped.list }

  abbrev pub world_stopped : WorldValue
  world_stopped = with_host armed place host_stopped

  abbrev lines_stopped : List Line
  lines_stopped = state_lines (place_of place) (state_shown t.node) None

  old_is : old.node ≡ Some t.node
  old_is = t.site.node ∙ t.was

  old_served : IsServed t.node
  old_served = t.site.served t.node t.was

  takes : HostTakes old host_stopped (input.Apply most) now (Some the_stop) None
  takes = host_takes old host_stopped t.node.me (Some t.node) a.disk.now (input.Apply most) now
      (Some the_stop) None
      (record { me = t.me ∙ sym t.own_me; node = old_is; disk = t.site.disk })
      (stops_from t.node most now the_stop a.disk t.amid host_stopped (record {
        less = t.less;
        made = t.made;
        holds = record {
          me = sym t.own_me;
          node = refl;
          disk = disk_stopped.is ∙ picked.1;
        };
      }))

  takes_so : HostTakes old host_stopped (input.Apply most) (value_of armed.clocks place)
      (value_of armed.stops place) None
  takes_so = subst (λ (s : Option Stop). HostTakes old host_stopped (input.Apply most)
      (value_of armed.clocks place) s None) (sym (value_there x.stops place (Some the_stop)))
      (subst (λ (n : ℕ). HostTakes old host_stopped (input.Apply most) n (Some the_stop) None)
      (sym t.clock) takes)

  none_left : (value_of world_stopped.hosts place).node ≡ None
  none_left = ap (λ (h : HostValue). h.node) (value_there x.hosts place host_stopped)

  turns : Turns armed world_stopped place (input.Apply most) [] lines_stopped None
  turns = turn_leaves the_laws armed world_stopped place (input.Apply most) host_stopped None
      (state_shown t.node) None [] [] lines_stopped None
      (shown_so armed place t.node old_is old_served) (sym t.me) takes_so
      (record { world = refl; lines = refl; listed = refl })
      (none_shown_so world_stopped place none_left) refl

  -- A STOP AND THE APPLY lead on
  pub stopped_led : (es : List Event) (w : DiskScene) → IsAt es w x
      → IsDeed es place (input.Apply most) → LedTo es w world_stopped []
  stopped_led es w at d =
      led_on es w armed world_stopped [] []
      (take_one es w x armed (step.Stop place t.calls picked.0) [] at tt
      (stop_taken x armed place t.calls picked.0 the_stop refl (refl, refl))
      (if_is (w.scene.group.server (place_of place)).up None (Some fault.ServerDown)
      (up_so x place t.node old_is old_served w at.stands)) refl)
      (λ u there. subst (LedTo es u world_stopped)
      (none_shown (place_of place) (state_shown t.node) None)
      (take_one es u armed world_stopped d.step lines_stopped there d.asks
      (deed_taken d.step place (input.Apply most) d.deed armed world_stopped [] lines_stopped None
      refl turns d.begins d.goes d.same d.leads d.says)
      (d.same u ∙ if_is (u.scene.group.server (place_of place)).up None (Some fault.ServerDown)
      (up_so armed place t.node old_is old_served u there.stands)) d.elementary))
