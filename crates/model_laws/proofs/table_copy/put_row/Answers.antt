use Rattle.std.proofs.Common.{◌≡◌, ◌++◌, List, take, drop, subst, arith, sym, ◌∙◌}
use Rattle.std.specs.FinMap.{put}
use Rattle.block_model.specs.declared.row.Row.{Row}
use Rattle.block_model.specs.TableState.{id_cmp, ids_exact}
use Rattle.model_laws.proofs.KeyedLists.{put_in_place, tied}
use Rattle.model_laws.specs.Listed.{at_ids}
use Rattle.model_laws.proofs.table_copy.put_row.Goals as goal

pub returns-then-same_id-clause-ok : goal.returns-then-same_id-clause-ok
returns-then-same_id-clause-ok c = put_in_place id_cmp (λ (r : Row). (r.id, r)) ids_exact c.place_in-at.result c.index.result.now c.args.row c.args.rows.now.items (omega (arith, c.if-at-len.true, c.args.rows.now.ok)) c.index.ensures
    (tied (id_cmp c.args.row.id c.index.result.now.id) (sym c.same_id.ensures ∙ c.if-same_id.true))
    (subst (λ (rows : List Row). put id_cmp c.args.row.id c.args.row (at_ids rows) ≡ at_ids (take c.place_in-at.result rows) ++ put id_cmp c.args.row.id c.args.row (at_ids (drop c.place_in-at.result rows)))
    c.as_slice.ensures.value (c.place_in-at.ensures.before c.args.row))
