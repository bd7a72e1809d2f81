use Rattle.summary_directory.proofs.Extents.{extent_shown}
use Rattle.summary_directory.proofs.laws.pages_show_the_blocks_of_a_table.Goals as goal

pub returns : goal.returns
returns c = λ layout pages table blocks whole there has. extent_shown layout pages table blocks whole there has
