use Rattle.index_contents.proofs.Relations.{is_index}
use Rattle.index_contents.proofs.index.index_pages_are_known.Goals as goal

pub returns : goal.returns
returns c = is_index
