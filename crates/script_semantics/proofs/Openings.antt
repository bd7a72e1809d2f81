-- a new database
use Rattle.std.proofs.Common.{sym, ap, ◌∙◌, is_some}
use Rattle.std.specs.Ordering.{nat_cmp}
use Rattle.std.specs.FinMap.{get-empty}
use Rattle.std.proofs.lemmas.Bool.{false≢true}
use Rattle.block_model.specs.TableState.{id_cmp}
use Rattle.script_semantics.specs.Openings.{NewIsOpening}

pub new_is_opening : NewIsOpening
new_is_opening = record { none_open = λ n. get-empty nat_cmp n; earlier = λ id has. absurd (false≢true (sym (ap is_some (get-empty id_cmp id)) ∙ has)) }
