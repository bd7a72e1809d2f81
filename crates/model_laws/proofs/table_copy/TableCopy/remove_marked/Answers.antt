use Rattle.std.proofs.Common.{not, ap, ◌∙◌}
use Rattle.std.specs.FinMap.{retain_keys}
use Rattle.std.specs.FinSet.{contains}
use Rattle.block_model.specs.declared.row.RowId.{RowId}
use Rattle.block_model.specs.declared.row.Row.{Row}
use Rattle.block_model.specs.TableState.{id_cmp, ids_total, ids_exact}
use Rattle.model_laws.specs.Listed.{at_ids}
use Rattle.model_laws.proofs.KeyedLists.{filter_keyed, sorted_filter, retain_listed}
use Rattle.model_laws.proofs.table_copy.TableCopy.remove_marked.Goals as goal

pub invariant_of-self : goal.invariant_of-self
invariant_of-self c =
    let unmarked = λ (x : RowId). not (contains c.args.marks.now x) in
    sorted_filter id_cmp unmarked (at_ids c.self.inside.rows.items) (at_ids c.remove_marked_rows.new.rows.items) c.self.invariant (ap at_ids c.remove_marked_rows.ensures ∙ filter_keyed id_cmp (λ (r : Row). (r.id, r)) unmarked c.self.inside.rows.items)

pub returns : goal.returns
returns c =
    let unmarked = λ (x : RowId). not (contains c.args.marks.now x) in
    retain_listed id_cmp ids_total ids_exact unmarked (at_ids c.self.inside.rows.items) (at_ids c.remove_marked_rows.new.rows.items) c.self.invariant (ap at_ids c.remove_marked_rows.ensures ∙ filter_keyed id_cmp (λ (r : Row). (r.id, r)) unmarked c.self.inside.rows.items)
    ∙ ap (λ m. retain_keys m unmarked) c.self.view_is
