-- what is known of tuples
use Rattle.std.proofs.Common.{◌≡◌, ℕ, ℤ, Bool, List, Option, Some, sym, ap, ◌∙◌}
use Rattle.block_model.specs.declared.row.Cond.{Cond}
use Rattle.opclass_any.specs.declared.classes.AnyClass.{AnyClass}
use Rattle.index_steps.specs.IndexTuples.{keeps_conds}
use Rattle.range_tuple.specs.Tuples.{Tuple}
use Rattle.kept_tuples.specs.declared.bounds.Bounds.TheVariants.{MinMax}
use Rattle.kept_tuples.specs.MinMaxTuples.{Tells, minmax_tuple}
use Rattle.kept_tuples.specs.Wanted.{may_have}
use Rattle.kept_tuples.specs.declared.wanted.Wanted.{Wanted}
use Rattle.summary_directory.specs.JudgedBlocks.{keeps_cell}
use Rattle.summary_directory.specs.KnownBounds.{IsWantedOf, ReadsAgain}

-- a range whose tuple is known is kept where it may have what is wanted
pub known_keeps : (classes : List (ℕ × AnyClass)) (conds : List Cond) (w : Wanted) (nulls : Bool) (least greatest : ℤ) (tuple : Option (List ℕ)) → ReadsAgain classes → IsWantedOf classes conds (Some w) → Tells (MinMax nulls least greatest) tuple
    → may_have w nulls least greatest ≡ keeps_cell classes conds tuple
known_keeps classes conds w nulls least greatest tuple again wanted tells =
    let place = wanted.0 in
    let range = tells.1.0 in
    let t : Tuple = minmax_tuple place range nulls least greatest in
    let at_place = tells.1.1 place in
    wanted.2 range nulls least greatest tells.0
    ∙ ap (λ (read : Option Tuple). keeps_conds read conds) (sym (again t at_place.0 (sym wanted.1)))
    ∙ ap (keeps_cell classes conds) (sym at_place.1)
