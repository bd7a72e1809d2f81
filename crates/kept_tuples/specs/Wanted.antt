-- what conditions want of a minmax column
use Rattle.std.specs.Prelude.{◌≡◌, ℕ, ℤ, int_le, ◌==◌, Bool, true, not, ◌&&◌, ◌||◌, List}
use Rattle.std.specs.Int.{int_max, int_min}
use Rattle.block_model.specs.declared.row.Cond.{Cond}
use Rattle.block_model.specs.declared.value.Op.{Op}
use Rattle.block_model.specs.declared.value.Op.TheVariants.{IsNull, NotNull}
use Rattle.block_model.specs.declared.value.Value.{Value}
use Rattle.opclass_api.specs.NumberBounds.{key_holds}
use Rattle.opclass_minmax.specs.Bounds.{IsOrdered}
use Rattle.range_tuple.specs.Keeps.{keeps}
use Rattle.kept_tuples.specs.MinMaxTuples.{minmax_tuple}
use Rattle.kept_tuples.specs.declared.wanted.Wanted.{Wanted}

-- nulls where they are wanted, and for each bound that is wanted a value that meets it
abbrev pub may_have : Wanted → (nulls : Bool) → (least greatest : ℤ) → Bool
may_have w nulls least greatest = not w.none && ((nulls || not w.nulls) && (int_le least w.greatest && int_le w.least greatest))

-- a tuple of that column keeps the conditions exactly where it may have what they want
abbrev pub IsWanted : (place : ℕ) → List Cond → Wanted → Type 0
IsWanted place conds w = (range : ℕ) (nulls : Bool) (least greatest : ℤ) → IsOrdered least greatest → may_have w nulls least greatest ≡ keeps (minmax_tuple place range nulls least greatest) conds

-- whether a column with values from the least to the greatest allows one condition on it
abbrev pub allows : (nulls : Bool) → (least greatest : ℤ) → Op → Value → Bool
allows nulls least greatest IsNull key = nulls
allows nulls least greatest NotNull key = true
allows nulls least greatest op key = key_holds least greatest op key

-- conditions on another column say nothing
abbrev pub allows_on : (place : ℕ) → (nulls : Bool) → (least greatest : ℤ) → Cond → Bool
allows_on place nulls least greatest cond = not (cond.column == place) || allows nulls least greatest cond.op cond.key

-- a column may have what is wanted exactly where this holds
abbrev pub WantedWhere : Wanted → (Bool → ℤ → ℤ → Bool) → Type 0
WantedWhere w holds = (nulls : Bool) (least greatest : ℤ) → IsOrdered least greatest → may_have w nulls least greatest ≡ holds nulls least greatest

-- what both want
abbrev pub both : Wanted → Wanted → Wanted
both v w = record { nulls = v.nulls || w.nulls; none = v.none || w.none; least = int_max v.least w.least; greatest = int_min v.greatest w.greatest }
