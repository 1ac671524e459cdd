-- How a server ends.
use Rattle.std.proofs.Common.{◌≡◌, ℕ, List, Option, refl, sym, subst, inl, inr}
use Rattle.harp_types.specs.declared.server.ServerId.{ServerId}
use Rattle.harp_store.specs.Disk.{Moments}
use Rattle.harp_store.specs.declared.store.StoreFault.{StoreFault}
use Rattle.harp_store.specs.declared.store.StoreFault.TheVariants as store
use Rattle.node_loop.specs.Stay.{IsStay, IsStayCut, Outer as Around}
use Rattle.node_loop.specs.declared.counts.Stayed.{Stayed}
use Rattle.node_loop.specs.declared.fault.LoopFault.{LoopFault}
use Rattle.node_loop.specs.declared.fault.LoopFault.TheVariants as loop
use Rattle.harpd.specs.Exit.{exit_of_loop, exit_of_store}
use Rattle.harpd.specs.Folders.{Done, with_entered, with_left}
use Rattle.harpd.specs.Serve.{Outer, ServerEnds, Leaves, Tells, WasCut, HasStayed, most_turns}
use Rattle.harpd.specs.Words.{delta_of}
use Rattle.harpd.specs.declared.exit.Exit.{Exit}
use Rattle.harpd.specs.declared.exit.Exit.TheVariants as exit
use Rattle.harpd.specs.declared.words.Loop.{Loop}

-- ---- the folder

-- it wasn't left
pub leaves_kept : (folder : List ℕ) (was is : List Done) → is ≡ was → (f : StoreFault)
    → Leaves folder was is (exit_of_store f)
leaves_kept folder was is kept store.Failed = kept
leaves_kept folder was is kept store.NoMemory = inl kept

-- it was left, and then something was written, or not
pub leaves_told : (folder : List ℕ) (was is : List Done) (served : Stayed)
    (before after : Option (List ℕ)) → is ≡ with_left folder was → (e : Exit)
    → Tells served before after e → (e ≡ exit.DiskFailed → ⊥) → Leaves folder was is e
leaves_told folder was is served before after left exit.Done tells none = left
leaves_told folder was is served before after left exit.SinkFailed tells none = left
leaves_told folder was is served before after left exit.NoMemory tells none = inr left
leaves_told folder was is served before after left exit.DiskFailed tells none = absurd (none refl)
leaves_told folder was is served before after left exit.LinkFailed tells none = absurd tells
leaves_told folder was is served before after left exit.RefusedWords tells none = absurd tells

-- ---- a server

by_store : (place : ServerId) (runs : Loop) (folder : List ℕ) (old new : Outer)
    → WasCut place runs folder old new → (f : StoreFault)
    → ServerEnds place runs folder old new (exit_of_store f)
by_store place runs folder old new cut store.Failed = inl cut
by_store place runs folder old new cut store.NoMemory = inl cut

-- it wasn't started: nothing was done
pub ends_unstarted : (place : ServerId) (runs : Loop) (folder : List ℕ) (old new : Outer)
    → new ≡ old → (f : StoreFault) (e : Exit) → e ≡ exit_of_store f
    → ServerEnds place runs folder old new e
ends_unstarted place runs folder old new kept f e is =
    let left : IsStayCut (delta_of runs.delta) place most_turns old.around old.around =
    inl (record { left = inl refl; silent = refl }) in
    let cut : WasCut place runs folder old old =
    record { left = left; silent = refl; entered = inl refl } in
    subst (ServerEnds place runs folder old new) (sym is)
    (by_store place runs folder old new (subst (WasCut place runs folder old) (sym kept) cut) f)

by_loop : (place : ServerId) (runs : Loop) (folder : List ℕ) (old new : Outer)
    → WasCut place runs folder old new → (f : LoopFault)
    → ServerEnds place runs folder old new (exit_of_loop f)
by_loop place runs folder old new cut loop.StoreFailed = inl cut
by_loop place runs folder old new cut loop.LinkFailed = cut
by_loop place runs folder old new cut loop.NoMemory = inl cut

-- what it runs on, once its disk is attached
abbrev pub attached : Option Moments → Around → Around
attached disk o = record o { disk = disk }

-- it was cut off, over a disk that was attached
pub ends_cut_off : (place : ServerId) (runs : Loop) (folder : List ℕ) (old new : Outer)
    (disk : Option Moments) (delta : ℕ) → disk ≡ old.around.disk → delta ≡ delta_of runs.delta
    → IsStayCut delta place most_turns (attached disk old.around) new.around
    → new.written ≡ old.written → new.done ≡ with_entered folder old.done
    → (f : LoopFault) (e : Exit) → e ≡ exit_of_loop f → ServerEnds place runs folder old new e
ends_cut_off place runs folder old new disk delta kept told cut silent entered f e is =
    let over : IsStayCut delta place most_turns old.around new.around =
    subst (λ d. IsStayCut delta place most_turns (attached d old.around) new.around) kept cut in
    let left = subst (λ d. IsStayCut d place most_turns old.around new.around) told over in
    subst (ServerEnds place runs folder old new) (sym is)
    (by_loop place runs folder old new
    (record { left = left; silent = silent; entered = inr entered }) f)

told_stay : (place : ServerId) (runs : Loop) (folder : List ℕ) (old new : Outer)
    (served : Stayed) → HasStayed place runs old new served → (e : Exit)
    → Tells served old.written new.written e
    → Leaves folder (with_entered folder old.done) new.done e
    → ServerEnds place runs folder old new e
told_stay place runs folder old new served stayed exit.Done tells leaves =
    record { served = served; stayed = stayed; tells = tells; leaves = leaves }
told_stay place runs folder old new served stayed exit.SinkFailed tells leaves =
    record { served = served; stayed = stayed; tells = tells; leaves = leaves }
told_stay place runs folder old new served stayed exit.NoMemory tells leaves =
    inr (record { served = served; stayed = stayed; tells = tells; leaves = leaves })
told_stay place runs folder old new served stayed exit.DiskFailed tells leaves =
    inr (record { served = served; stayed = stayed; tells = tells; leaves = leaves })
told_stay place runs folder old new served stayed exit.LinkFailed tells leaves = absurd tells
told_stay place runs folder old new served stayed exit.RefusedWords tells leaves = absurd tells

-- it stayed up, over a disk that was attached
pub ends_stayed : (place : ServerId) (runs : Loop) (folder : List ℕ) (old new : Outer)
    (disk : Option Moments) (delta : ℕ) (served : Stayed) → disk ≡ old.around.disk
    → delta ≡ delta_of runs.delta
    → IsStay delta place most_turns (attached disk old.around) served new.around
    → (e : Exit) → Tells served old.written new.written e
    → Leaves folder (with_entered folder old.done) new.done e
    → ServerEnds place runs folder old new e
ends_stayed place runs folder old new disk delta served kept told stay e tells leaves =
    let over : IsStay delta place most_turns old.around served new.around =
    subst (λ d. IsStay delta place most_turns (attached d old.around) served new.around) kept
    stay in
    let stayed : HasStayed place runs old new served =
    subst (λ d. IsStay d place most_turns old.around served new.around) told over in
    told_stay place runs folder old new served stayed e tells leaves
