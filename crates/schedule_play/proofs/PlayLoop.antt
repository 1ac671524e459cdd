-- What a play keeps from line to line.
use Rattle.std.proofs.Common.{◌≡◌, ℕ, ◌≤◌, List, [], append-nil, refl, sym, Option, Some, None, arith}
use Rattle.std.specs.Io.KnownBytes.{Appends}
use Rattle.line_reader.specs.Reading.{text_left}
use Rattle.group_rules.specs.Places.{Zero, One, Two, Place, Trio, get}
use Rattle.group_trace.specs.Run.{run, run_lines}
use Rattle.group_trace.specs.DiskCalls.{Spellings, measures_of}
use Rattle.group_trace.specs.DiskRun.{DiskScene, disk_run, first_disk_scene}
use Rattle.schedule_play.specs.OnTheWay.{AreBelow, GoesOn, HasCome}
use Rattle.schedule_play.specs.Reading.{all_read, reading_from, reading_of}
use Rattle.schedule_play.specs.Trace.{trace_text}

-- before the line with this number
pub record Keeps (f : Spellings) (number : ℕ) (told written0 left written : Option (List ℕ))
    (stands : DiskScene → Type 0) (clocks : Trio ℕ) (source0 source sink0 sink : ℕ) : Type 0 where
  pub within : number ≤ 50001
  pub below : AreBelow number clocks
  pub goes : (text : List ℕ) → told ≡ Some text → GoesOn f text number left written0 written stands
  pub source_count : source0 ≤ source
  pub sink_count : sink0 ≤ sink

same : (w : Option (List ℕ)) → Appends w w []
same None = tt
same (Some w) = sym (append-nil w)

-- a play has read no line at the beginning
come_first : (f : Spellings) (w : Option (List ℕ)) (stands : DiskScene → Type 0)
    → stands first_disk_scene
    → HasCome f (reading_of (measures_of f) []) (λ w. all_read) w w stands
unfolding reading_from run run_lines disk_run trace_text
come_first f w stands first =
    record { done = []; taken = tt; reading_is = refl; wrote = same w; left = first }

pub goes-first : (f : Spellings) (text : List ℕ) (told : Option (List ℕ)) (held : List ℕ)
    (w : Option (List ℕ)) (stands : DiskScene → Type 0)
    → told ≡ Some text → held ≡ [] → stands first_disk_scene
    → GoesOn f text 1 (text_left held told) w w stands
goes-first f text told held w stands is nothing first = record {
  read = [];
  bytes = [];
  rest = text;
  left_is = rw (is, nothing) refl;
  text_is = refl;
  lines_are = refl;
  number_is = refl;
  come = come_first f w stands first;
}

pub below-first : (clocks : Trio ℕ)
    → ((q : Place) → get clocks q ≡ first_disk_scene.scene.group.clock q) → AreBelow 1 clocks
below-first clocks are =
    let zero_th = are Zero in
    let one_th = are One in
    let two_th = are Two in
    (omega (arith, zero_th), omega (arith, one_th), omega (arith, two_th))
