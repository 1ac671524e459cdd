-- What stores with a stop tell of their disks.
use Rattle.std.proofs.Common.{◌≡◌, ℕ, ◌≤◌, true, false, List, [], length, Option, None, ap, ◌∙◌, arith}
use Rattle.std.specs.Prelude.{is_some}
use Rattle.world_host.proofs.Stops.{first_told}
use Rattle.world_host.proofs.Takes.{told_on, told_stopped}
use Rattle.harp_store.specs.Disk.{Disk as ToldDisk, Moments, then_disk}
use Rattle.harp_store.specs.Stopping.{numbered, stop_moment, told_by}
use Rattle.harp_store.specs.Values.{stands, told}
use Rattle.harp_store.specs.declared.attempt.Attempt.{Attempt}
use Rattle.harp_store.specs.declared.stores.StoppingStore.{StoppingStore}

-- its stop lets so many calls pass, and none was made yet
pub record IsArmed (calls : ℕ) (s : StoppingStore) : Type 0 where
  pub left : s.left ≡ calls
  pub stopped : s.stopped ≡ None
  pub past : (stands s).past ≡ []

pub armed_told : (calls : ℕ) (s : StoppingStore) → IsArmed calls s
    → told s ≡ first_told calls (stands s).now
armed_told calls s h = ap (λ (n : ℕ). told_by n s.stopped (stands s)) h.left
    ∙ ap (λ (a : Option Attempt). told_by calls a (stands s)) h.stopped
    ∙ ap (λ (p : List ToldDisk). numbered calls (record { past = p; now = (stands s).now })) h.past

pub armed_now : (calls : ℕ) (s : StoppingStore) → IsArmed calls s
    → (told s).now ≡ (stands s).now
armed_now calls s h = ap (λ (m : Moments). m.now) (armed_told calls s h)

pub armed_within : (calls : ℕ) (s : StoppingStore) → IsArmed calls s → calls ≤ stop_moment
armed_within calls s h =
    let left = h.left in
    let within = s.stops.within in
    omega (arith, left, within)

pub stopped_told : (s : StoppingStore) → is_some s.stopped ≡ true
    → (e : ToldDisk) × (told s ≡ then_disk e (numbered 0 (stands s)))
stopped_told s some = told_stopped s.left s.stopped (stands s) some (s.stops.left_is some)

pub stopped_within : (s : StoppingStore) → length (stands s).past ≤ stop_moment
stopped_within s = let within = s.stops.within in omega (arith, within)

pub on_told : (s : StoppingStore) → is_some s.stopped ≡ false
    → told s ≡ numbered s.left (stands s)
on_told s none = told_on s.left s.stopped (stands s) none
