use Rattle.std.proofs.Common.{◌≡◌, not, drop}
use Rattle.std.specs.FinMap.{retain_keys}
use Rattle.std.specs.FinMap.Entries.{where_key}
use Rattle.std.specs.FinSet.{contains}
use Rattle.block_model.specs.TableState.{id_cmp}
use Rattle.block_model.specs.RequestEffect.{is_own, with_rows}
use Rattle.model_laws.specs.Listed.{at_ids}
use Rattle.model_laws.proofs.transaction.Transaction.merged_into.Given as goal

abbrev pub invariant-rows : goal.invariant-rows
invariant-rows l = l.rows ≡ with_rows (retain_keys l.table (λ id. not (contains l.self.marks id))) (where_key id_cmp (is_own l.self) (at_ids (drop l.at l.view)))
