use Rattle.play_commands.specs.Play.{sizes}
use Rattle.harp_cli.proofs.texts.traced_texts.Goals as goal

pub returns-clause-taken : goal.returns-clause-taken
returns-clause-taken c = c.every_text.ensures.taken sizes

pub returns-clause-right : goal.returns-clause-right
returns-clause-right c = c.every_text.ensures.right sizes

pub returns-clause-events : goal.returns-clause-events
returns-clause-events c = c.every_text.ensures.events sizes

pub returns-clause-book : goal.returns-clause-book
returns-clause-book c = c.every_text.ensures.book sizes

pub returns-clause-views : goal.returns-clause-views
returns-clause-views c = c.every_text.ensures.views sizes

pub returns-clause-parts : goal.returns-clause-parts
returns-clause-parts c = c.every_text.ensures.parts sizes
