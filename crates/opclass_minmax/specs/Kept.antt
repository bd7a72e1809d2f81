-- how the bounds are kept
use Rattle.std.specs.Prelude.{Option, None, Some}
use Rattle.opclass_minmax.specs.Bounds.{Bounds, NothingYet, Between}
use Rattle.opclass_minmax.specs.declared.summary.Extremes.{Extremes}

abbrev pub bounds_of : Option Extremes → Bounds
bounds_of None = NothingYet
bounds_of (Some e) = Between e.least e.greatest
