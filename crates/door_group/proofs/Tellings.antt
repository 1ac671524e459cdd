-- What an asker of lent servers tells behind a door.
use Rattle.std.proofs.Common.{◌≡◌, ℕ, Bool, true, false, List, [], ◌++◌, Option, Result, Ok, Err, ap, inl, inr, refl, subst, sym}
use Rattle.std.specs.Prelude.{MatchResult, ⊤}
use Rattle.harp_types.specs.declared.server.ServerId.{ServerId}
use Rattle.door_group.specs.Rule.{AreMade, Before, GaveUpOne, GivesUp, IsMade, Outcome}
use Rattle.door_group.specs.Local.{AskBreaks, AskedAt, TurnBreaks, Turned}
use Rattle.node_loop.specs.Scene.{Around, Scene, around_in, start, with_heard}
use Rattle.rpc_door.specs.Group.{Tells, Unanswered}
use Rattle.rpc_door.specs.Serving.{DoorEnds, RunsAfter, Side, closed, side}
use Rattle.rpc_door.specs.declared.fault.DoorFault.{DoorFault}
use Rattle.rpc_door.specs.declared.fault.DoorFault.TheVariants as door
use Rattle.rpc_door.specs.declared.group.Exchange.{Exchange}
use Rattle.rpc_door.specs.declared.group.GroupFault.{GroupFault}
use Rattle.rpc_door.specs.declared.group.GroupFault.TheVariants as group
use Rattle.rpc_door.proofs.TellLaws.{Leaves, Says, door_ends}
use Rattle.door_group.specs.Served.{Answered, AnsweredOrGivenUp, AnsweredSoFar, Becomes, EndsAfter, GivenUp, IsOver}
use Rattle.door_group.specs.declared.served.Caller.{Caller}

-- ---- what an asker tells

-- it made these calls since its first one, and they are here now unless it was stopped, where one
-- more was given up
abbrev pub Telling : (client turns next : ℕ) → ServerId → Bool → Scene → Tells (Before Scene)
Telling client turns next place stopped s first made =
    (c : Before Scene) × AreMade Turned AskedAt TurnBreaks AskBreaks client turns made first c
    × (next ≡ c.number) × (place ≡ c.place) × (stopped ≡ false → c.scene ≡ with_heard [] s)
    × (stopped ≡ true → GaveUpOne Turned AskedAt TurnBreaks AskBreaks client turns
    (λ v. v ≡ with_heard [] s) (around_in s) c)

-- and then gave up one more
abbrev pub Leaving : (client turns : ℕ) → Scene → Type 0 → Unanswered (Before Scene)
Leaving client turns s failed why first made cred call =
    (c : Before Scene) × AreMade Turned AskedAt TurnBreaks AskBreaks client turns made first c
    × GivesUp (λ v. v ≡ with_heard [] s) (around_in s)
    (λ o. IsMade Turned AskedAt TurnBreaks AskBreaks turns
    (record { client = client; number = c.number; cred = cred; call = call }) o c.place c.scene) why
    × (why ≡ group.Failed → failed)

-- what a scene runs on
abbrev pub around : Scene → Scene
around s = start s.disks s.link s.clock

is_over : (s c : Scene) → c ≡ with_heard [] s → IsOver (around s) c
is_over s c is =
    (ap (λ (x : Scene). x.disks) is, ap (λ (x : Scene). x.link) is, ap (λ (x : Scene). x.clock) is)

gives_over : (s : Scene) (becomes : Outcome Scene Around → Type 0)
    (why : GroupFault) → GivesUp (λ v. v ≡ with_heard [] s) (around_in s) becomes why
    → GivesUp (IsOver (around s)) (around_in s) becomes why
gives_over s becomes group.Failed h = h
gives_over s becomes group.Spent h = (h.0, h.1, is_over s h.0 h.2)
gives_over s becomes group.NoMemory h = h

-- ---- in the words of the door

module _ (caller : Caller) (input : List ℕ) (source after : Option (List ℕ))
    (next : ℕ) (place : ServerId) (stopped : Bool) (s : Scene) (failed : Type 0)
    (first : Before Scene) (old : Side (Before Scene)) (start : old.told first []) where
  abbrev pub now : Side (Before Scene)
  now = side (Telling caller.client caller.turns next place stopped s)
      (Leaving caller.client caller.turns s failed) after

  abbrev pub opened : Side ⊤
  opened = closed old.written

  says : (told : Tells ⊤) → ((made : List Exchange) → now.told first made → told tt made)
      → Says caller.cred input source old now opened.told told opened.unanswered
      (GivenUp caller first (around s))
  says told gives made few more t before none =
      subst (λ (xs : List Exchange). told t (xs ++ made)) (sym none)
      (gives made (more first [] start))

  leaves : (told : Tells ⊤) (why : GroupFault)
      → Leaves caller.cred input source old now opened.told told opened.unanswered
      (GivenUp caller first (around s)) why
  leaves told why made call few left t before none =
      let h = left first [] start in
      subst (λ (xs : List Exchange). GivenUp caller first (around s) why t (xs ++ made) caller.cred call)
      (sym none) (h.0, h.1, gives_over s (Becomes caller caller.cred call h.0) why h.2)

  ended_with : (told : Tells ⊤) → ((made : List Exchange) → now.told first made → told tt made)
      → (r : Result ℕ DoorFault) → DoorEnds caller.cred input source old now r
      → DoorEnds caller.cred input source opened (side told (GivenUp caller first (around s)) after) r
  ended_with told gives r ends =
      door_ends caller.cred input source old now opened.told told opened.unanswered
      (GivenUp caller first (around s)) (says told gives) r (λ why is room. leaves told why) ends

  anywhere : (made : List Exchange) → now.told first made → Answered caller first tt made
  anywhere made h = (h.0, h.1)

  -- by whether it was stopped
  either : (b : Bool) → stopped ≡ b → (made : List Exchange) → now.told first made
      → AnsweredOrGivenUp caller first (around s) tt made
  either false runs made h = inl (h.0, h.1, is_over s h.0.scene (h.4 runs))
  either true over made h =
      let last = h.5 over in
      inr (
        last.0,
        last.1,
        last.2,
        (h.0, h.1, gives_over s (Becomes caller last.1 last.2 h.0) last.0 last.3),
      )

  here : stopped ≡ false → (made : List Exchange) → now.told first made
      → AnsweredSoFar caller first (around s) tt made
  here runs made h = (h.0, h.1, is_over s h.0.scene (h.4 runs))

  pub ends_after : (runs : Type 0) → (runs → stopped ≡ false) → (r : Result ℕ DoorFault)
      → MatchResult r (λ n. runs) (RunsAfter runs) → DoorEnds caller.cred input source old now r
      → EndsAfter caller input source old.written after first (around s) r
  ends_after runs goes (Ok number) run ends =
      ended_with (AnsweredSoFar caller first (around s)) (here (goes run)) (Ok number) ends
  ends_after runs goes (Err door.ReadFault) run ends =
      ended_with (AnsweredSoFar caller first (around s)) (here (goes run)) (Err door.ReadFault) ends
  ends_after runs goes (Err door.WriteFault) run ends =
      ended_with (AnsweredSoFar caller first (around s)) (here (goes run)) (Err door.WriteFault) ends
  ends_after runs goes (Err (door.BadRecord number)) run ends =
      ended_with (AnsweredSoFar caller first (around s)) (here (goes run)) (Err (door.BadRecord number)) ends
  ends_after runs goes (Err door.GroupFailed) run ends =
      ended_with (Answered caller first) anywhere (Err door.GroupFailed) ends
  ends_after runs goes (Err door.GroupSpent) run ends =
      ended_with (Answered caller first) anywhere (Err door.GroupSpent) ends
  ends_after runs goes (Err door.NoMemory) run ends =
      ended_with (AnsweredOrGivenUp caller first (around s)) (either stopped refl) (Err door.NoMemory)
      ends

  -- where the servers failed they show it
  pub shows : DoorEnds caller.cred input source old now (Err door.GroupFailed) → failed
  shows h = (h.left first [] start).3 refl
