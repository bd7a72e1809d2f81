use Rattle.std.proofs.Common.{not, ap, ◌∙◌}
use Rattle.std.specs.Ordering.{eq_by_cmp}
use Rattle.std.specs.FinMap.{remove}
use Rattle.block_model.specs.declared.row.RowId.{RowId}
use Rattle.block_model.specs.declared.row.Row.{Row}
use Rattle.block_model.specs.TableState.{id_cmp, ids_total, ids_exact}
use Rattle.model_laws.specs.Listed.{at_ids}
use Rattle.model_laws.proofs.KeyedLists.{filter_keyed, sorted_filter, remove_listed}
use Rattle.model_laws.proofs.table_copy.TableCopy.remove.Goals as goal

pub invariant_of-self : goal.invariant_of-self
invariant_of-self c =
    let other = λ (x : RowId). not (eq_by_cmp id_cmp c.args.id x) in
    sorted_filter id_cmp other (at_ids c.self.inside.rows.items) (at_ids c.remove_row.new.rows.items) c.self.invariant (ap at_ids c.remove_row.ensures ∙ filter_keyed id_cmp (λ (r : Row). (r.id, r)) other c.self.inside.rows.items)

pub returns : goal.returns
returns c =
    let other = λ (x : RowId). not (eq_by_cmp id_cmp c.args.id x) in
    remove_listed id_cmp ids_total ids_exact c.args.id (at_ids c.self.inside.rows.items) (at_ids c.remove_row.new.rows.items) c.self.invariant (ap at_ids c.remove_row.ensures ∙ filter_keyed id_cmp (λ (r : Row). (r.id, r)) other c.self.inside.rows.items)
    ∙ ap (λ m. remove m c.args.id) c.self.view_is
