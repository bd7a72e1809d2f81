-- which conditions a summary may meet
use Rattle.std.specs.Prelude.{Bool, false, List}
use Rattle.std.specs.List.{list_all}
use Rattle.block_model.specs.declared.row.Cond.{Cond}
use Rattle.opclass_api.specs.NumberBounds.{key_holds}
use Rattle.opclass_minmax.specs.Bounds.{Bounds, NothingYet, Between}

-- with nothing yet no condition holds
abbrev pub condition_holds : Bounds → Cond → Bool
condition_holds NothingYet cond = false
condition_holds (Between least greatest) cond = key_holds least greatest cond.op cond.key

-- each condition holds
abbrev pub consistent : Bounds → List Cond → Bool
consistent s conds = list_all (condition_holds s) conds
