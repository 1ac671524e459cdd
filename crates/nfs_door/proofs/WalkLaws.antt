-- A walk to a directory is what a MNT makes.
use Rattle.std.proofs.Common.{◌≡◌, ℕ, true, List, [], ◌∷◌, ap, refl, subst, sym}
use Rattle.harp_types.specs.declared.attr.Kind.{Kind}
use Rattle.harp_types.specs.declared.call.Call.TheVariants as call
use Rattle.harp_types.specs.declared.cred.Cred.{Cred}
use Rattle.rpc_door.specs.Serving.{sent}
use Rattle.rpc_door.specs.declared.group.Exchange.{Exchange}
use Rattle.nfs_door.specs.Mounts.{handle_answer, looks_up, mounts, reaches}
use Rattle.nfs_door.specs.Paths.{is_absolute, names_in}
use Rattle.nfs_door.specs.Steps.{LeadsTo}
use Rattle.nfs_door.specs.Walks.{IsDirectoryAtEnd, WalksTo}
use Rattle.nfs_door.specs.declared.step.Then.TheVariants.{Mounts}
use Rattle.nfs_door.specs.declared.step.Step.TheVariants as step

-- behind a name that was found
found_on : (who : Cred) (xid next : ℕ) (names : List (List ℕ)) (kind : Kind) (xs : List Exchange)
    (written : List ℕ) → IsDirectoryAtEnd names kind
    → LeadsTo (looks_up who xid next names) xs written
    → LeadsTo (reaches who xid names next kind) xs written
found_on who xid next [] kind xs written is leads =
    subst (λ (k : Kind). LeadsTo (reaches who xid [] next k) xs written) (sym is) leads
found_on who xid next (name ∷ names) kind xs written is leads = leads

walk : (who : Cred) (xid dir : ℕ) (names : List (List ℕ)) (made : List Exchange) (object : ℕ)
    → WalksTo who dir names made object
    → LeadsTo (looks_up who xid dir names) made (sent (handle_answer xid object))
walk who xid dir [] made object w = (w.0, ap (λ (n : ℕ). sent (handle_answer xid n)) w.1)
walk who xid dir (name ∷ names) [] object w = absurd w
walk who xid dir (name ∷ names) (x ∷ xs) object w =
    let written = sent (handle_answer xid object) in
    let on = found_on who xid w.0 names w.1.kind xs written w.3
    (walk who xid w.0 names xs object w.4) in
    let errand = step.Call (record {
      cred = who;
      call = call.Lookup dir name;
      then = Mounts xid names;
    }) in
    subst (λ (y : Exchange). LeadsTo errand (y ∷ xs) written) (sym w.2) (refl, refl, refl, on)

pub mounted : (who : Cred) (xid : ℕ) (path : List ℕ) (made : List Exchange) (object : ℕ)
    → is_absolute path ≡ true → WalksTo who 1 (names_in path) made object
    → LeadsTo (mounts who xid path) made (sent (handle_answer xid object))
mounted who xid path made object is w = rw is (walk who xid 1 (names_in path) made object w)
