use Rattle.std.proofs.Common.{ap, sym, ◌∙◌}
use Rattle.std.specs.FinMap.{entries}
use Rattle.block_model.specs.TableState.{id_cmp}
use Rattle.model_laws.specs.Listed.{at_ids}
use Rattle.model_laws.proofs.KeyedLists.{entries_listed}
use Rattle.model_laws.proofs.table_copy.TableCopy.rows.Goals as goal

pub returns : goal.returns
returns c = ap at_ids c.as_slice.ensures.value ∙ sym (entries_listed id_cmp (at_ids c.self.inside.rows.items) c.self.invariant) ∙ ap entries c.self.view_is
