-- what is known of the tuples of an index
use Rattle.std.specs.Prelude.{◌≡◌, ℕ, List, length, slice_index_or, Option, None}
use Rattle.kept_tuples.specs.declared.bounds.Bounds.{Bounds}
use Rattle.kept_tuples.specs.declared.bounds.Bounds.TheVariants.{Unknown}
use Rattle.kept_tuples.specs.MinMaxTuples.{Tells}

-- what is known of each range's tuple
pub record AreBounds (bounds : List Bounds) (tuples : List (Option (List ℕ))) : Type 0 where
  pub each_has : length bounds ≡ length tuples
  pub tells : (range : ℕ) → Tells (slice_index_or bounds range Unknown) (slice_index_or tuples range None)
