use Rattle.std.proofs.Common.{◌≡◌, take}
use Rattle.model_laws.proofs.table_copy.copied_rows.Given as goal

abbrev pub invariant-rows : goal.invariant-rows
invariant-rows l = l.copy ≡ take l.row-index l.rows
