use Rattle.std.proofs.Common.{◌≡◌, ◌++◌, take, drop, map}
use Rattle.std.specs.FinMap.{put}
use Rattle.block_model.specs.declared.row.Row.{Row}
use Rattle.block_model.specs.TableState.{id_cmp}
use Rattle.model_laws.proofs.table_copy.place_in.Given as goal

abbrev pub invariant-rows : goal.invariant-rows
invariant-rows l = (r : Row) → put id_cmp l.id r (map (λ (r : Row). (r.id, r)) l.rows)
    ≡ map (λ (r : Row). (r.id, r)) (take l.i l.rows) ++ put id_cmp l.id r (map (λ (r : Row). (r.id, r)) (drop l.i l.rows))
