-- the conditions of a scan, gathered by column
use Rattle.std.specs.Prelude.{◌≡◌, ℕ, ◌≤◌, Bool, true, false, not, ◌&&◌, ◌||◌, ◌==◌, All, List, length, take, slice_range}
use Rattle.std.specs.List.{list_any}
use Rattle.block_model.specs.declared.limits.TheConstants.{MAX_CONDITIONS}
use Rattle.block_model.specs.declared.value.Op.{Op}
use Rattle.block_model.specs.declared.value.Op.TheVariants.{IsNull, NotNull}
use Rattle.block_model.specs.declared.row.Cond.{Cond}
use Rattle.range_tuple.specs.Keeps.{comparisons}
use Rattle.range_tuple.specs.NullStates.{has_nulls, has_values}
use Rattle.range_tuple.specs.declared.scan_keys.ColumnKeys.{ColumnKeys}
use Rattle.range_tuple.specs.declared.state.NullState.{NullState}

abbrev pub is_null : Op → Bool
is_null IsNull = true
is_null op = false

abbrev pub is_not_null : Op → Bool
is_not_null NotNull = true
is_not_null op = false

-- an `is null` is among the conditions on the column
abbrev pub asks_for_nulls : ℕ → List Cond → Bool
asks_for_nulls place conds = list_any (λ cond. (cond.column == place) && is_null cond.op) conds

-- an `is not null` is
abbrev pub asks_for_values : ℕ → List Cond → Bool
asks_for_values place conds = list_any (λ cond. (cond.column == place) && is_not_null cond.op) conds

-- nulls and values were added where they are asked for
abbrev pub has_asked : NullState → Bool → Bool → Bool
has_asked state nulls values = (not nulls || has_nulls state) && (not values || has_values state)

-- what conditions ask of a column
pub record IsAsked (place : ℕ) (conds asked : List Cond) (nulls values : Bool) : Type 0 where
  pub comparisons_on : asked ≡ comparisons place conds
  pub nulls_asked : nulls ≡ asks_for_nulls place conds
  pub values_asked : values ≡ asks_for_values place conds

-- the same of a column whose comparisons are gathered
pub record IsGathered (conds gathered : List Cond) (keys : ColumnKeys) : Type 0 where
  pub in_order : keys.first ≤ keys.end
  pub within : keys.end ≤ length gathered
  pub asked : IsAsked keys.column conds (slice_range gathered keys.first keys.end) keys.nulls keys.values

-- the first so many keys are of the columns that conditions are on
pub record AreGathered (conds gathered : List Cond) (keys : List ColumnKeys) (count : ℕ) : Type 0 where
  pub few : count ≤ MAX_CONDITIONS
  pub each : All (IsGathered conds gathered) (take count keys)
  pub all : (place : ℕ) → list_any (λ k. k.column == place) (take count keys) ≡ false → list_any (λ cond. cond.column == place) conds ≡ false
