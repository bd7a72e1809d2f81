use Rattle.std.proofs.Common.{ap, ◌∙◌}
use Rattle.std.specs.List.{list_any}
use Rattle.std.specs.Ordering.{eq_by_cmp}
use Rattle.std.specs.FinMap.{contains_key}
use Rattle.block_model.specs.TableState.{id_cmp}
use Rattle.block_model.specs.declared.row.Row.{Row}
use Rattle.model_laws.proofs.KeyedLists.{has_keyed}
use Rattle.model_laws.proofs.table_copy.TableCopy.has.Goals as goal

pub returns : goal.returns
returns c = c.has_row.ensures ∙ ap (list_any (λ (r : Row). eq_by_cmp id_cmp c.args.id r.id)) c.as_slice.ensures.value
    ∙ has_keyed id_cmp (λ (r : Row). (r.id, r)) c.args.id c.self.inside.rows.items c.self.invariant ∙ ap (λ m. contains_key m c.args.id) c.self.view_is
