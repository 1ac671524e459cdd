-- How servers end.
use Rattle.std.proofs.Common.{◌≡◌, ◌∷◌, [], ℕ, List, Option, refl, sym, subst, inl}
use Rattle.harp_types.specs.declared.server.ServerId.{ServerId}
use Rattle.harp_types.specs.Trio.{value_of, with_value}
use Rattle.harp_types.specs.declared.server.ServerId.TheVariants.{Zero, One, Two}
use Rattle.harp_types.specs.declared.trio.Trio.{Trio}
use Rattle.harp_store.specs.Disk.{Moments}
use Rattle.harp_store.specs.declared.store.StoreFault.{StoreFault}
use Rattle.harp_store.specs.declared.store.StoreFault.TheVariants as store
use Rattle.node_link.specs.Traffic.{Traffic}
use Rattle.node_link.specs.declared.clock.Reading.{Reading}
use Rattle.node_loop.specs.Cut.{IsCutOff}
use Rattle.node_loop.specs.Scene.{Around, around, only, start}
use Rattle.node_loop.specs.declared.fault.LoopFault.{LoopFault}
use Rattle.node_loop.specs.declared.fault.LoopFault.TheVariants as loop
use Rattle.play_commands.specs.declared.exit.Exit.{Exit}
use Rattle.harp_cli.specs.declared.loop_words.Loop.{Loop}
use Rattle.harp_cli.specs.Exit.{exit_of_loop, exit_of_store}
use Rattle.harp_cli.specs.Serve.{AreCutOff, ServeEnds}
use Rattle.harp_cli.specs.Words.{delta_of}

not_attached : (places : List ServerId) (runs : Loop) (old new : Around) (before : Option (List ℕ))
    → new ≡ old → (f : StoreFault)
    → ServeEnds places runs old new before before (exit_of_store f)
not_attached places runs old new before kept store.Failed = (refl, inl (inl kept))
not_attached places runs old new before kept store.NoMemory = inl (refl, inl (inl kept))

-- a disk wasn't attached: nothing was done
pub ends_unattached : (places : List ServerId) (runs : Loop) (old new : Around)
    (before : Option (List ℕ)) → new ≡ old → (f : StoreFault) (e : Exit)
    → e ≡ exit_of_store f → ServeEnds places runs old new before before e
ends_unattached places runs old new before kept f e is =
    subst (ServeEnds places runs old new before before) (sym is)
    (not_attached places runs old new before kept f)

cut_off : (places : List ServerId) (runs : Loop) (old new : Around) (before : Option (List ℕ))
    → AreCutOff places runs old new → (f : LoopFault)
    → ServeEnds places runs old new before before (exit_of_loop f)
cut_off places runs old new before cut loop.StoreFailed = (refl, cut)
cut_off places runs old new before cut loop.LinkFailed = (refl, cut)
cut_off places runs old new before cut loop.NoMemory = inl (refl, cut)

-- the servers were cut off, over disks that were attached
pub ends_cut_off : (places : List ServerId) (runs : Loop) (old new : Around)
    (before : Option (List ℕ)) (disks : Trio (Option Moments)) (delta : ℕ) → disks ≡ old.disks
    → delta ≡ delta_of runs.delta → IsCutOff delta places runs.turns
    (start disks old.link old.clock) new → (f : LoopFault) (e : Exit)
    → e ≡ exit_of_loop f → ServeEnds places runs old new before before e
ends_cut_off places runs old new before disks delta kept told cut f e is =
    let over : IsCutOff delta places runs.turns (start old.disks old.link old.clock) new =
    subst (λ ds. IsCutOff delta places runs.turns (start ds old.link old.clock) new) kept cut in
    let same : AreCutOff places runs old new = subst (λ d. IsCutOff d places runs.turns
    (start old.disks old.link old.clock) new) told over in
    subst (ServeEnds places runs old new before before) (sym is)
    (cut_off places runs old new before same f)

-- ---- one server, by its place

-- a server of this place ends so over the disks; those of the others stay
abbrev pub NodeEnds : {D : Type 0} → (D → Option Moments) → Trio D → Trio D → ServerId → Loop
    → Option Traffic → Option Traffic → Option (List Reading) → Option (List Reading)
    → Option (List ℕ) → Option (List ℕ) → Exit → Type 0
NodeEnds told disks left place runs link sent clock read before after e =
    ServeEnds (place ∷ []) runs (around (only place (told (value_of disks place))) link clock)
    (around (only place (told (value_of left place))) sent read) before after e
    × (left ≡ with_value disks place (value_of left place))

at_its_place : {D : Type 0} (told : D → Option Moments) (disks : Trio D) (disk : D)
    (place : ServerId) (runs : Loop) (link sent : Option Traffic)
    (clock read : Option (List Reading)) (before after : Option (List ℕ)) (e : Exit)
    → ServeEnds (place ∷ []) runs (around (only place (told (value_of disks place))) link clock)
    (around (only place (told disk)) sent read) before after e
    → NodeEnds told disks (with_value disks place disk) place runs link sent clock read before
    after e
at_its_place told disks disk Zero runs link sent clock read before after e ends = (ends, refl)
at_its_place told disks disk One runs link sent clock read before after e ends = (ends, refl)
at_its_place told disks disk Two runs link sent clock read before after e ends = (ends, refl)

pub node_ends : {D : Type 0} (told : D → Option Moments) (disks : Trio D) (was disk : D)
    (place other : ServerId) (runs again : Loop) (link sent : Option Traffic)
    (clock read : Option (List Reading)) (before after : Option (List ℕ)) (e : Exit)
    → was ≡ value_of disks place → place ≡ other → runs ≡ again
    → ServeEnds (place ∷ []) runs (around (only place (told was)) link clock)
    (around (only place (told disk)) sent read) before after e
    → NodeEnds told disks (with_value disks place disk) other again link sent clock read before
    after e
node_ends told disks was disk place other runs again link sent clock read before after e old at by
    ends =
    let here = subst (λ d. ServeEnds (place ∷ []) runs (around (only place (told d)) link clock)
    (around (only place (told disk)) sent read) before after e) old ends in
    let same = at_its_place told disks disk place runs link sent clock read before after e here in
    let moved = subst (λ p. NodeEnds told disks (with_value disks place disk) p runs link sent
    clock read before after e) at same in
    subst (λ r. NodeEnds told disks (with_value disks place disk) other r link sent clock read
    before after e) by moved

pub same_ends : (places : List ServerId) (runs again : Loop) (old new : Around)
    (before after : Option (List ℕ)) (e : Exit) → runs ≡ again
    → ServeEnds places runs old new before after e → ServeEnds places again old new before after e
same_ends places runs again old new before after e same ends =
    subst (λ r. ServeEnds places r old new before after e) same ends
