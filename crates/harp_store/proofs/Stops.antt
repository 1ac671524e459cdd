-- A stop that is set.
use Rattle.std.proofs.Common.{◌≡◌, ℕ, ◌<◌, ◌^◌, ◌∙◌, ap, arith, length, refl, None}
use Rattle.harp_store.specs.Disk.{Moments}
use Rattle.harp_store.specs.Failing.{lifted}
use Rattle.harp_store.specs.Memory.{without_past}
use Rattle.harp_store.specs.declared.failing.Failing.{Failing}
use Rattle.harp_store.specs.Sound.{IsSound}
use Rattle.harp_store.specs.Stopping.{IsStopping, stop_moment}

-- so many calls pass from the first moment on
pub starts : (calls : ℕ) (now old : Moments) → calls < 2 ^ 64 → now ≡ without_past old
    → IsStopping calls None 0 (length now.past)
unfolding stop_moment
starts calls now old less e =
    let none : length now.past ≡ 0 = ap (λ (h : Moments). length h.past) e in
    record {
      before = λ is. refl;
      left_is = λ is. cc;
      failed = λ is. cc;
      within = omega (arith, less, none);
    }

-- a settled store stays without a stop
pub stays_sound : (old new : Failing) → IsSound old
    → new ≡ record old { stop = lifted old.stop } → IsSound new
stays_sound old new sound e = record {
  stop = ap (λ (f : Failing). f.stop) e ∙ ap lifted sound.stop;
  read = ap (λ (f : Failing). f.read) e ∙ sound.read;
}
