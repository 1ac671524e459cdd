-- What a play wrote of which `check` says yes.
use Rattle.std.proofs.Common.{◌≡◌, ◌⊎◌, ℕ, List, Option, inl, inr, arith, subst}
use Rattle.accept_laws.specs.AcceptLaws.{HasShortLines, PlaysAreAccepted}
use Rattle.group_trace.specs.DiskRun.{DiskScene}
use Rattle.schedule_play.specs.Ends.{EndsWhole, PlayEnds}
use Rattle.schedule_play.specs.Reading.{reading}
use Rattle.schedule_play.specs.Trace.{trace_of, trace_text}
use Rattle.schedule_play.specs.declared.exit.Exit.{Exit as Played}
use Rattle.schedule_play.specs.declared.exit.Exit.TheVariants as played
use Rattle.world.specs.World.{IsWorld, WorldValue}
use Rattle.world_rules.specs.Spellings.{spellings}
use Rattle.play_commands.specs.declared.exit.Exit.{Exit}
use Rattle.play_commands.specs.Exit.{status_of}
use Rattle.play_commands.specs.Play.{HasPlayed, exit_of_play, sizes}
use Rattle.harp_cli.specs.Accepted.{WroteRightText}

-- the statuses of a play that wrote its whole trace
abbrev pub TellsWhole : ℕ → Type 0
TellsWhole status = (status ≡ 0) ⊎ (status ≡ 5)

pub wrote_right : PlaysAreAccepted → (text : List ℕ) (source before after : Option (List ℕ))
    (world : WorldValue) (e : Exit) → HasPlayed text source before after world e
    → HasShortLines text → TellsWhole (status_of e) → WroteRightText before after
wrote_right law text source before after world e h short told =
    by h.ended h.ends (subst (λ (x : Exit). TellsWhole (status_of x)) h.exit_is told)
  where
    stands : DiskScene → Type 0
    stands w = IsWorld w world

    whole : EndsWhole spellings (reading sizes text) before after stands
        → WroteRightText before after
    whole ends = record {
      text = trace_text (trace_of sizes text);
      wrote = ends.wrote;
      right = law text short;
    }

    by : (ended : Played) → PlayEnds spellings text source before after stands ended
        → TellsWhole (status_of (exit_of_play ended)) → WroteRightText before after
    by played.Done ends told = whole ends.2
    by played.RefusedLine ends told = whole ends.1
    by played.SourceFailed ends (inl e) = absurd (omega (arith, e))
    by played.SourceFailed ends (inr e) = absurd (omega (arith, e))
    by played.SinkFailed ends (inl e) = absurd (omega (arith, e))
    by played.SinkFailed ends (inr e) = absurd (omega (arith, e))
    by played.NoMemory ends (inl e) = absurd (omega (arith, e))
    by played.NoMemory ends (inr e) = absurd (omega (arith, e))
