-- which conditions a summary may meet
use Rattle.std.specs.Prelude.{Bool, ◌||◌, ◌==◌, List, length}
use Rattle.std.specs.List.{list_all, list_any}
use Rattle.block_model.specs.declared.row.Cond.{Cond}
use Rattle.opclass_api.specs.NumberBounds.{key_holds}
use Rattle.opclass_multi.specs.declared.element.Element.{Element}
use Rattle.opclass_multi.specs.Kept.{Kept}

-- each condition holds of the least and the greatest of the element
abbrev pub all_hold : List Cond → Element → Bool
all_hold conds e = list_all (λ cond. key_holds e.least e.greatest cond.op cond.key) conds

-- there is no condition, or one element meets them all
abbrev pub may_meet : List Element → List Cond → Bool
may_meet es conds = (length conds == 0) || list_any (all_hold conds) es

-- whether the summary may include a value that meets each condition
abbrev pub consistent : Kept → List Cond → Bool
consistent s conds = may_meet s.elements conds
