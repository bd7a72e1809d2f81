use Rattle.std.proofs.Common.{ap, sym, ◌∙◌}
use Rattle.std.specs.List.{filter}
use Rattle.block_model.specs.declared.row.Row.{Row}
use Rattle.block_model.specs.RowMatches.{row_matches}
use Rattle.block_model.specs.TableState.{id_cmp, rows_in}
use Rattle.model_laws.proofs.KeyedLists.{values_listed}
use Rattle.model_laws.proofs.table_copy.TableCopy.found.Goals as goal

pub returns : goal.returns
returns c = c.in_ok-found.ensures ∙ ap (filter (row_matches c.args.query.now)) (c.as_slice.ensures.value ∙ sym (values_listed id_cmp (λ (r : Row). r.id) c.self.inside.rows.items c.self.invariant) ∙ ap rows_in c.self.view_is)
