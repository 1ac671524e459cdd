use Rattle.schedule_play.specs.Trace.{trace_of}
use Rattle.play_commands.specs.Play.{sizes}
use Rattle.harp_cli.proofs.texts.linearizable_texts.Goals as goal

pub returns : goal.returns
returns c text = c.faithful_is_linearizable.ensures (trace_of sizes text)
    (c.every_text.ensures.right sizes text).faithful
