use Rattle.std.proofs.Common.{◌≡◌, take}
use Rattle.std.specs.List.{filter}
use Rattle.block_model.specs.RowMatches.{row_matches}
use Rattle.model_laws.proofs.table_copy.matching_rows.Given as goal

abbrev pub invariant-rows : goal.invariant-rows
invariant-rows l = l.found ≡ filter (row_matches l.query) (take l.row-index l.rows)
