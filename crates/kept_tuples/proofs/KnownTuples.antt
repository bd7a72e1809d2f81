-- what is known of tuples
use Rattle.std.proofs.Common.{ℕ, List, Option, None, inl, inr}
use Rattle.std.specs.Prelude.{slice_index_or}
use Rattle.std.proofs.lemmas.Bool.{cases_eq}
use Rattle.kept_tuples.specs.declared.bounds.Bounds.{Bounds}
use Rattle.kept_tuples.specs.declared.bounds.Bounds.TheVariants.{Unknown}
use Rattle.kept_tuples.specs.KnownTuples.{AreBounds}
use Rattle.kept_tuples.specs.MinMaxTuples.{Tells}
use Rattle.kept_tuples.specs.Places.{placed}
use Rattle.kept_tuples.proofs.Placed.{placed_else, placed_here, same_length}

-- what is known of each tuple, once one is put at its place
pub bounds_placed : (bounds : List Bounds) (tuples : List (Option (List ℕ))) (at : ℕ) (b : Bounds) (tuple : Option (List ℕ)) → AreBounds bounds tuples → Tells b tuple → AreBounds (placed Unknown bounds at b) (placed None tuples at tuple)
bounds_placed bounds tuples at b tuple are tells = record { each_has = same_length Unknown None bounds tuples at b tuple are.each_has; tells = told }
  where
    told : (r : ℕ) → Tells (slice_index_or (placed Unknown bounds at b) r Unknown) (slice_index_or (placed None tuples at tuple) r None)
    told r = elim (cases_eq r at) [
      | inl here ↦ rw (here, placed_here Unknown bounds at b, placed_here None tuples at tuple) tells
      | inr apart ↦ rw (placed_else Unknown bounds at r b apart, placed_else None tuples at r tuple apart) (are.tells r)
    ]
