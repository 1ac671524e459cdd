-- What a group in memory tells behind a door, in the words of the top call.
use Rattle.std.proofs.Common.{◌≡◌, ℕ, List, [], ◌∷◌, ◌++◌, Option, Result, Ok, Err, arith, inr, refl, sym, subst}
use Rattle.std.specs.Prelude.{IfErr, MatchResult, ⊤}
use Rattle.harp_types.specs.declared.cred.Cred.{Cred}
use Rattle.group_trace.specs.DiskCalls.{measures_of}
use Rattle.door_play.specs.Laws.{HasBytes}
use Rattle.door_play.specs.Played.{HasGivenUp, calls_of}
use Rattle.door_play.specs.Told.{AreOf, GivesUp, HasTold}
use Rattle.rpc_door.specs.Group.{Tells}
use Rattle.rpc_door.specs.Serving.{DoorEnds, IsCaused, RunsAfter, Side, closed, faults, most_records, of_group, side}
use Rattle.rpc_door.specs.declared.fault.DoorFault.{DoorFault}
use Rattle.rpc_door.specs.declared.fault.DoorFault.TheVariants as door
use Rattle.rpc_door.specs.declared.group.Exchange.{Exchange}
use Rattle.rpc_door.specs.declared.group.GroupFault.{GroupFault}
use Rattle.rpc_door.specs.declared.group.GroupFault.TheVariants as group
use Rattle.rpc_door.proofs.TellLaws.{AreFew, Leaves, Says, door_ends}
use Rattle.world.specs.World.{IsWorld, WorldValue}
use Rattle.world_rules.specs.Spellings.{spellings}
use Rattle.play_commands.specs.declared.exit.Exit.{Exit}
use Rattle.play_commands.specs.Door.{Answered, AnsweredIn, DoorPlayed, GivenUpIn, exit_of_door}

-- the number of a message's form is a byte
pub has_bytes : HasBytes (measures_of spellings)
has_bytes list message = omega arith

-- ---- the exits

-- no call of a group in memory takes too many turns
pub not_spent : (reads writes failed more_reads more_writes more_failed : ℕ)
    (r : Result ℕ DoorFault)
    → IfErr r (λ why. IsCaused why (faults reads writes (record { failed = failed; spent = 0 }))
    (faults more_reads more_writes (record { failed = more_failed; spent = 0 })))
    → r ≡ Err door.GroupSpent → ⊥
not_spent reads writes failed more_reads more_writes more_failed r caused is =
    let rose = subst (λ (x : Result ℕ DoorFault). IfErr x (λ why. IsCaused why
    (faults reads writes (record { failed = failed; spent = 0 }))
    (faults more_reads more_writes (record { failed = more_failed; spent = 0 })))) is caused in
    absurd (omega (arith, rose))

-- a door ended so, whose group told of no call at first, and tells this of the world now
module _ (cred : Cred) (input : List ℕ) (source : Option (List ℕ)) (old : Side Cred) (next : ℕ)
    (goes_on runs : Type 0) (goes : runs → goes_on) (world : WorldValue)
    (after : Option (List ℕ)) (start : old.told cred []) where
  abbrev pub now : Side Cred
  now = side (HasTold spellings next goes_on (λ w. IsWorld w world))
      (GivesUp spellings (λ w. IsWorld w world)) after

  abbrev pub first : Side ⊤
  first = closed old.written

  few_of : (made : List Exchange) → AreFew cred made → AreOf cred made
  unfolding most_records
  few_of made few = record { creds = few.0; few = omega (arith, few.1) }

  -- what is told in other words
  says : (told : Tells ⊤) → ((made : List Exchange) → AreOf cred made → now.told cred made
      → told tt made)
      → Says cred input source old now first.told told first.unanswered (GivenUpIn cred world)
  says told gives made few more s before none =
      subst (λ (xs : List Exchange). told s (xs ++ made)) (sym none)
      (gives made (few_of made few) (more cred [] start))

  leaves : (told : Tells ⊤) (r : Result ℕ DoorFault) → (r ≡ Err door.GroupSpent → ⊥)
      → (why : GroupFault) → r ≡ Err (of_group why) → (why ≡ group.NoMemory → ⊥)
      → Leaves cred input source old now first.told told first.unanswered
      (GivenUpIn cred world) why
  leaves told r unspent group.Failed is room made c few left s before none =
      subst (λ (xs : List Exchange). HasGivenUp spellings cred (calls_of (xs ++ made) ++ c ∷ [])
      (λ w. IsWorld w world)) (sym none)
      (left cred [] start has_bytes (few_of made few) refl refl)
  leaves told r unspent group.Spent is room made c few left s before none = absurd (unspent is)
  leaves told r unspent group.NoMemory is room made c few left s before none =
      absurd (room refl)

  in_world : runs → (r : Result ℕ DoorFault) → (r ≡ Err door.GroupSpent → ⊥)
      → DoorEnds cred input source old now r
      → DoorEnds cred input source first (side (AnsweredIn cred world) (GivenUpIn cred world) after)
      r
  in_world run r unspent ends =
      door_ends cred input source old now first.told (AnsweredIn cred world) first.unanswered
      (GivenUpIn cred world) (says (AnsweredIn cred world)
      (λ made are told. ((told has_bytes are).answered, (told has_bytes are).left (goes run))))
      r (leaves (AnsweredIn cred world) r unspent) ends

  anywhere : (r : Result ℕ DoorFault) → (r ≡ Err door.GroupSpent → ⊥)
      → DoorEnds cred input source old now r
      → DoorEnds cred input source first (side (Answered cred) (GivenUpIn cred world) after) r
  anywhere r unspent ends =
      door_ends cred input source old now first.told (Answered cred) first.unanswered
      (GivenUpIn cred world) (says (Answered cred)
      (λ made are told. (told has_bytes are).answered)) r (leaves (Answered cred) r unspent) ends

  pub played : (r : Result ℕ DoorFault) → (r ≡ Err door.GroupSpent → ⊥)
      → MatchResult r (λ n. runs) (RunsAfter runs) → DoorEnds cred input source old now r
      → DoorPlayed cred input source old.written after world (exit_of_door r)
  played (Ok number) unspent run ends = (number, in_world run (Ok number) unspent ends)
  played (Err door.ReadFault) unspent run ends = in_world run (Err door.ReadFault) unspent ends
  played (Err door.WriteFault) unspent run ends = in_world run (Err door.WriteFault) unspent ends
  played (Err (door.BadRecord number)) unspent run ends =
      (number, in_world run (Err (door.BadRecord number)) unspent ends)
  played (Err door.GroupFailed) unspent run ends = inr (anywhere (Err door.GroupFailed) unspent ends)
  played (Err door.GroupSpent) unspent run ends = absurd (unspent refl)
  played (Err door.NoMemory) unspent run ends = inr (anywhere (Err door.NoMemory) unspent ends)

-- of the same user and group
pub same_door : (u g uid gid : ℕ) (input : List ℕ) (source before after : Option (List ℕ))
    (world : WorldValue) (e : Exit) → u ≡ uid → g ≡ gid
    → DoorPlayed (record { uid = u; gid = g }) input source before after world e
    → DoorPlayed (record { uid = uid; gid = gid }) input source before after world e
same_door u g uid gid input source before after world e one two ends =
    subst (λ (x : ℕ). DoorPlayed (record { uid = x; gid = gid }) input source before after world e)
    one (subst (λ (x : ℕ). DoorPlayed (record { uid = u; gid = x }) input source before after
    world e) two ends)
