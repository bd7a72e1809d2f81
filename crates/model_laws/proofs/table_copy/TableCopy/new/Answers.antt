use Rattle.std.proofs.Common.{ap, ◌∙◌}
use Rattle.block_model.specs.TableState.{id_cmp}
use Rattle.model_laws.specs.Listed.{table_of}
use Rattle.model_laws.proofs.KeyedLists.{none_listed}
use Rattle.model_laws.proofs.table_copy.TableCopy.new.Goals as goal

pub returns : goal.returns
returns c = ap table_of c.new.ensures.items ∙ none_listed id_cmp
