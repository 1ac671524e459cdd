-- What a server does that stays up, until it saved its log or is cut off.
use Rattle.std.proofs.Common.{◌≡◌, ℕ, true, false, List, [], ◌∷◌, Option, None, Some, inl, inr, refl, sym, ap, ◌∙◌, subst, arith}
use Rattle.std.specs.Option.{option_map}
use Rattle.harp_store.specs.Disk.{IsLeftOf, Moments}
use Rattle.harp_types.specs.Trio.{value_of, with_value}
use Rattle.harp_types.specs.declared.server.ServerId.{ServerId}
use Rattle.node_loop.specs.Chain.{Chain, Stops}
use Rattle.node_loop.specs.Cut.{TurnsAtInPart}
use Rattle.node_loop.specs.Run.{TurnsAt, rounds}
use Rattle.node_loop.specs.Scene.{Around, Scene, around, around_in, nobody}
use Rattle.node_loop.specs.Stay.{FailsSave, HasRun, IsSaveCut, IsStay, IsTurnCut, Outer, Saves as SavesLog, TurnsWatched, TurnsWatchedInPart, Watched, WatchedLeft, around_on, start_on, watched}
use Rattle.node_loop.specs.declared.counts.Stayed.{Stayed}
use Rattle.node_loop.specs.declared.habit.Habit.TheVariants.{Steady}
use Rattle.node_loop.specs.declared.running.Running.{Running}
use Rattle.promise.specs.Promise.{IsDelta}
use Rattle.world.proofs.Tables.{value_there}
use Rattle.running_laws.specs.Events.{Site}
use Rattle.running_laws.specs.Lives.{PartOfSave, WholeSave}
use Rattle.running_laws.specs.Parts.{Did, DidInPart, DidThenSaved, IsSiteOf, StaysInHistories, save_of}
use Rattle.running_laws.proofs.Gone.{gone_unstarted, then_gone}
use Rattle.running_laws.proofs.GoneTurns.{gone_turns}
use Rattle.running_laws.proofs.Living.{AreFree, did_boots, did_turns, rounds_in}
use Rattle.running_laws.proofs.Parts.{did_then, happens_so}

-- turns that are watched are turns
turned_so : (ps : List ServerId) (a c : Watched) → Chain TurnsWatched ps a c
    → Chain TurnsAt ps a.scene c.scene
turned_so [] a c same = ap (λ (w : Watched). w.scene) same
turned_so (p ∷ ps) a c on = (on.0.scene, on.1.turns, turned_so ps on.0 c on.2)

stopped_so : (ps : List ServerId) (a : Watched) (left : WatchedLeft)
    → Stops TurnsWatched TurnsWatchedInPart ps a left
    → Stops TurnsAt TurnsAtInPart ps a.scene left.around
stopped_so [] a left stops = absurd stops
stopped_so (p ∷ ps) a left (inl part) = inl part.turns
stopped_so (p ∷ ps) a left (inr on) =
    inr (on.0.scene, on.1.turns, stopped_so ps on.0 left on.2)

-- ---- the save

-- what the server of a place makes of its disk, where it is told
module _ (mid : Scene) (place : ServerId) (server : Running) (disk : Option Moments)
    (was : value_of mid.servers place ≡ Some server) (s : Site)
    (here : IsSiteOf mid.servers mid.disks place s) (h b : Moments) (told : disk ≡ Some h)
    (left : IsLeftOf h.now b.now) where
  its : s.node ≡ Some server.node
  its = here.node ∙ ap (option_map (λ (r : Running). r.node)) was

  whole_so : SavesLog server.node (value_of mid.disks place) disk
      → WholeSave s (record { node = None; disk = b })
  whole_so saves = record {
    old = server.node;
    was = its;
    gone = refl;
    amid = h;
    saves = subst (SavesLog server.node (Some s.disk)) told
        (subst (λ (d : Option Moments). SavesLog server.node d disk) here.disk saves);
    left = left;
  }

  part_so : FailsSave server.node (value_of mid.disks place) disk
      → PartOfSave s (record { node = None; disk = b })
  part_so part = record {
    old = server.node;
    was = its;
    gone = refl;
    amid = h;
    part = subst (FailsSave server.node (Some s.disk)) told
        (subst (λ (d : Option Moments). FailsSave server.node d disk) here.disk part);
    left = left;
  }

-- the disk that it left
disk_there : (mid : Scene) (place : ServerId) (disk : Option Moments) (left : Around)
    → left ≡ around (with_value mid.disks place disk) mid.link mid.clock
    → value_of left.disks place ≡ disk
disk_there mid place disk left is =
    ap (λ (z : Around). value_of z.disks place) is ∙ value_there mid.disks place disk

left_there : (mid : Scene) (place : ServerId) (disk : Option Moments) (left : Around)
    → left ≡ around (with_value mid.disks place disk) mid.link mid.clock
    → left ≡ around (with_value mid.disks place (value_of left.disks place)) mid.link mid.clock
left_there mid place disk left is = is
    ∙ ap (λ (d : Option Moments). around (with_value mid.disks place d) mid.link mid.clock)
    (sym (disk_there mid place disk left is))

module _ (place : ServerId) (free : AreFree (place ∷ []) nobody) where
  abbrev own : List ServerId
  own = place ∷ []

  ran_so : (delta most turns dropped : ℕ) (old new : Outer) (ran : Scene) → IsDelta delta
      → HasRun delta place most turns dropped old new ran → Did own (start_on place old) ran
  ran_so delta most turns dropped old new ran length run =
      did_then own (start_on place old) run.booted ran
      (did_boots own own Steady delta (start_on place old) run.booted length (λ p has. has) free
      run.begun.boots)
      (did_turns own (rounds turns own) run.booted ran
      (λ p has. rounds_in turns own p has)
      (turned_so (rounds turns own) (watched run.booted [] 0)
      (watched ran run.sights dropped) run.runs.turned))

  cut_so : (delta most : ℕ) (old new : Outer) → IsDelta delta
      → IsTurnCut delta place most old new
      → DidInPart own (start_on place old) (around_on place new)
  cut_so delta most old new length cut =
      then_gone own (start_on place old) cut.booted (around_on place new)
      (did_boots own own Steady delta (start_on place old) cut.booted length (λ p has. has) free
      cut.begun.boots)
      (gone_turns own (rounds most own) cut.booted (around_on place new)
      (λ p has. rounds_in most own p has)
      (stopped_so (rounds most own) (watched cut.booted [] 0)
      (record { around = around_on place new; sights = cut.sights }) cut.stops.stops))

  saved_so : (delta most : ℕ) (old new : Outer) (stayed : Stayed) → IsDelta delta
      → IsStay delta place most old stayed new
      → DidThenSaved place false (start_on place old) (around_on place new)
  saved_so delta most old new stayed length stay =
      let ran = stay.ran in
      let save = stay.saves in
      let is : around_on place new
      ≡ around (with_value ran.disks place save.disk) ran.link ran.clock =
      stay.around_is ∙ ap around_in save.is in
      record {
        mid = ran;
        did = ran_so delta most stayed.turns stayed.dropped old new ran length stay.runs;
        saves = λ now h b told left sites are.
            happens_so place (save_of place false now) sites (record { node = None; disk = b })
            (record {
              at = refl;
              by = (
                whole_so ran place stay.server save.disk save.was (value_of sites place)
                    (are place (0, omega arith, refl)) h b
                    (sym (disk_there ran place save.disk (around_on place new) is) ∙ told) left
                    save.saves,
                refl,
              );
            });
        is = left_there ran place save.disk (around_on place new) is;
      }

  save_cut_so : (delta most : ℕ) (old new : Outer) → IsDelta delta
      → IsSaveCut delta place most old new
      → DidThenSaved place true (start_on place old) (around_on place new)
  save_cut_so delta most old new length cut =
      let ran = cut.ran in
      let save = cut.part in
      record {
        mid = ran;
        did = ran_so delta most cut.turns cut.dropped old new ran length cut.runs;
        saves = λ now h b told left sites are.
            happens_so place (save_of place true now) sites (record { node = None; disk = b })
            (record {
              at = refl;
              by = (
                part_so ran place save.server save.disk save.was (value_of sites place)
                    (are place (0, omega arith, refl)) h b
                    (sym (disk_there ran place save.disk (around_on place new) save.is) ∙ told)
                    left save.saves,
                refl,
              );
            });
        is = left_there ran place save.disk (around_on place new) save.is;
      }

  -- A SERVER THAT STAYS UP does a part of a history
  pub stays_so : StaysInHistories place
  stays_so = record {
    ran = ran_so;
    saved = saved_so;
    unstarted = λ delta old new length left. gone_unstarted own Steady delta
        (start_on place old) (around_on place new) length free left.left;
    cut = cut_so;
    save_cut = save_cut_so;
  }
