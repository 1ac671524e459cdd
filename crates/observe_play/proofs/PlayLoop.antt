-- What a play that is observed keeps from line to line.
use Rattle.std.proofs.Common.{◌≡◌, ℕ, ◌≤◌, List, [], append-nil, refl, sym, Option, Some, None}
use Rattle.std.specs.Io.KnownBytes.{Appends}
use Rattle.line_reader.specs.Reading.{text_left}
use Rattle.group_rules.specs.Places.{Trio}
use Rattle.group_trace.specs.DiskCalls.{Spellings, measures_of}
use Rattle.group_trace.specs.DiskRun.{DiskScene, disk_run, first_disk_scene}
use Rattle.schedule_play.specs.OnTheWay.{AreBelow}
use Rattle.observe_laws.specs.Reading.{all_observed, observed_from, observed_reading_of}
use Rattle.observe_laws.specs.Run.{observed_run, observed_run_lines}
use Rattle.observe_laws.specs.Scene.{first_observed}
use Rattle.observe_laws.specs.Trace.{observed_trace_text}
use Rattle.observe_play.specs.OnTheWay.{HasObserved, ObservesOn}
use Rattle.observe_play.specs.Watch.{StandsAt, WatchValue}

-- before the line with this number
pub record Keeps (f : Spellings) (number : ℕ) (told written0 left written : Option (List ℕ))
    (stands : DiskScene → Type 0) (x : WatchValue) (clocks : Trio ℕ)
    (source0 source sink0 sink : ℕ) : Type 0 where
  pub within : number ≤ 50001
  pub below : AreBelow number clocks
  pub goes : (text : List ℕ) → told ≡ Some text
      → ObservesOn f text number left written0 written stands x
  pub source_count : source0 ≤ source
  pub sink_count : sink0 ≤ sink

same : (w : Option (List ℕ)) → Appends w w []
same None = tt
same (Some w) = sym (append-nil w)

-- a play has read no line at the beginning
come_first : (f : Spellings) (w : Option (List ℕ)) (stands : DiskScene → Type 0) (x : WatchValue)
    → stands first_disk_scene → StandsAt first_observed x
    → HasObserved f (observed_reading_of (measures_of f) []) (λ w. all_observed) w w stands x
unfolding observed_from observed_run observed_run_lines disk_run observed_trace_text
come_first f w stands x first watch = record {
  done = [];
  taken = tt;
  reading_is = refl;
  wrote = same w;
  left = first;
  watch = watch;
}

pub goes-first : (f : Spellings) (text : List ℕ) (told : Option (List ℕ)) (held : List ℕ)
    (w : Option (List ℕ)) (stands : DiskScene → Type 0) (x : WatchValue)
    → told ≡ Some text → held ≡ [] → stands first_disk_scene → StandsAt first_observed x
    → ObservesOn f text 1 (text_left held told) w w stands x
goes-first f text told held w stands x is nothing first watch = record {
  read = [];
  bytes = [];
  rest = text;
  left_is = rw (is, nothing) refl;
  text_is = refl;
  lines_are = refl;
  number_is = refl;
  come = come_first f w stands x first watch;
}
