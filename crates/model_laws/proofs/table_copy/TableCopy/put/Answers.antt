use Rattle.std.proofs.Common.{ap, ◌∙◌}
use Rattle.std.specs.FinMap.{insert}
use Rattle.block_model.specs.TableState.{id_cmp, ids_total}
use Rattle.model_laws.specs.Listed.{at_ids}
use Rattle.model_laws.proofs.KeyedLists.{sorted_put, insert_listed}
use Rattle.model_laws.proofs.table_copy.TableCopy.put.Goals as goal

pub invariant_of-self-2 : goal.invariant_of-self-2
invariant_of-self-2 c = sorted_put id_cmp ids_total (at_ids c.self.inside.rows.items) (at_ids c.put_row.new.rows.items) c.args.row.id c.args.row c.self.invariant c.in_ok-put_row.ensures.ok

pub returns-clause-ok : goal.returns-clause-ok
returns-clause-ok c = insert_listed id_cmp ids_total (at_ids c.self.inside.rows.items) (at_ids c.put_row.new.rows.items) c.args.row.id c.args.row c.self.invariant c.in_ok-put_row.ensures.ok
    ∙ ap (λ m. insert m c.args.row.id c.args.row) c.self.view_is
