-- What the servers of one call do, from their boots to where it leads.
use Rattle.std.proofs.Common.{ℕ, List, [], ◌∷◌, Option, refl}
use Rattle.harp_store.specs.Disk.{Moments}
use Rattle.harp_types.specs.declared.server.ServerId.{ServerId}
use Rattle.harp_types.specs.declared.server.ServerId.TheVariants as server
use Rattle.harp_types.specs.declared.trio.Trio.{Trio}
use Rattle.node_link.specs.Traffic.{Traffic}
use Rattle.node_link.specs.declared.clock.Reading.{Reading}
use Rattle.node_loop.specs.Run.{IsRun, rounds}
use Rattle.node_loop.specs.Scene.{Scene, all_places, nobody, start}
use Rattle.node_loop.specs.declared.counts.Served.{Served}
use Rattle.node_loop.specs.declared.habit.Habit.TheVariants.{Plain}
use Rattle.promise.specs.Promise.{IsDelta}
use Rattle.running_laws.specs.Parts.{DoesPart, LiveInHistories, LivesArePartsOfHistories}
use Rattle.running_laws.proofs.GoneTurns.{gone_call}
use Rattle.running_laws.proofs.Living.{AreFree, did_boots, did_turns, rounds_in}
use Rattle.running_laws.proofs.Parts.{did_then}
use Rattle.running_laws.proofs.Stays.{stays_so}

does_part : (places : List ServerId) (delta turns : ℕ) (a : Scene) (new : Trio (Option Moments))
    (left : Option Traffic) (read : Option (List Reading)) (served : Served) → IsDelta delta
    → AreFree places a.servers → IsRun delta places turns a served new left read
    → DoesPart places a new left read
does_part places delta turns a new left read served length free run = (
  run.end,
  record { disks_are = run.disks_are; link_is = run.link_is; clock_is = run.clock_is },
  did_then places a run.booted run.end
      (did_boots places places Plain delta a run.booted length (λ p has. has) free run.boots)
      (did_turns places (rounds turns places) run.booted run.end
      (λ p has. rounds_in turns places p has) run.turned),
)

one_free : (place : ServerId) → AreFree (place ∷ []) nobody
one_free server.Zero = (refl, λ r. tt)
one_free server.One = (refl, λ r. tt)
one_free server.Two = (refl, λ r. tt)

live_so : (places : List ServerId) → AreFree places nobody → LiveInHistories places
live_so places free = record {
  whole = λ delta turns disks new link left clock read served length run.
      does_part places delta turns (start disks link clock) new left read served length free run;
  cut = λ delta turns disks link clock left length off.
      gone_call places Plain delta turns (start disks link clock) left length free off;
}

-- LIVES ARE PARTS OF HISTORIES
pub lives_are_parts : LivesArePartsOfHistories
lives_are_parts = (
  live_so all_places (refl, λ r. (refl, λ s. (refl, λ t. tt))),
  λ place. live_so (place ∷ []) (one_free place),
  λ place. stays_so place (one_free place),
)
