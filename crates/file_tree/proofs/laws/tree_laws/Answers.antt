use Rattle.file_tree.proofs.ReadLaw.{read_keeps}
use Rattle.file_tree.proofs.RefusalLaw.{refusal_keeps}
use Rattle.file_tree.proofs.SoundFacts.{entry_lives, parent_is_directory}
use Rattle.file_tree.proofs.SoundLaws.{first_sound, outcome_sound, book_sound}
use Rattle.file_tree.proofs.laws.tree_laws.Goals as goal

pub returns : goal.returns
returns c = record {
  first_is_sound = first_sound;
  outcomes_keep_sound = outcome_sound;
  reads_keep = read_keeps;
  refusals_keep = refusal_keeps;
  all_are_sound = book_sound;
  entries_live = entry_lives;
  parents_are_directories = parent_is_directory;
}
