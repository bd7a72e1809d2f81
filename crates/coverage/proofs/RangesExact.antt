-- Which ranges a maintenance statement goes over, and where an insert asks for a summary, by the blocks of the ranges.
use Rattle.std.proofs.Common.{◌≡◌, ◌⊎◌, inl, inr, ⊎_elim, ℕ, ◌+◌, ◌*◌, ◌/◌, ◌≤◌, ◌<◌, max, sym, subst, arith}
use Rattle.std.specs.Prelude.{refl, IsTrue, ◌↔◌}
use Rattle.std.proofs.Math.Nat.{div-eq_of_lt-le, le_antisymm, le_refl, lt_of_le_of_lt, lt_of_lt_of_le, not-le_of_lt}
use Rattle.coverage.proofs.Numbers.{lt_or_ge}
use Rattle.coverage.specs.Table.{EachRange, WholeRanges, TableState}
use Rattle.coverage.specs.TableSteps.{range_in, AsksFor, HasRange}

block_first : (b p : ℕ) → 0 < p → b / p * p ≤ b
block_first b p some = omega arith

block_last : (b p : ℕ) → 0 < p → b < (b / p + 1) * p
block_last b p some = omega arith

further : (r p : ℕ) → 0 < p → r * p < (r + 1) * p
further r p some = omega arith

first_of : (r p : ℕ) → 0 < p → r * p / p ≡ r
first_of r p some = div-eq_of_lt-le p (le_refl (r * p)) (further r p some)

module _ (w : TableState) (at : ℕ) (some : 0 < (w.index at).pages_per_range) where
  pub whole_ranges : (range extent : ℕ) → HasRange w (WholeRanges extent) at range ↔ ((b : ℕ) → range_in w at b ≡ range → b < extent)
  whole_ranges range extent = (
    λ all b of. lt_of_lt_of_le (subst (λ r. b < (r + 1) * p) of (block_last b p some)) all,
    λ below. elim (lt_or_ge extent ((range + 1) * p)) [ inl less ↦ absurd (not_below below less) | inr le ↦ le ],
  )
    where
      p : ℕ
      p = (w.index at).pages_per_range

      crosses : (a b c : ℕ) → max a b ≡ c → c < a → ⊥
      crosses a b c is less = omega arith

      not_below : ((b : ℕ) → range_in w at b ≡ range → b < extent) → extent < (range + 1) * (w.index at).pages_per_range → ⊥
      not_below below less =
          crosses extent (range * (w.index at).pages_per_range) (max extent (range * (w.index at).pages_per_range)) refl
          (below (max extent (range * (w.index at).pages_per_range))
          (div-eq_of_lt-le (w.index at).pages_per_range (omega arith)
          (omega (arith, less, further range (w.index at).pages_per_range some))))

  pub each_range : (range extent : ℕ) → HasRange w (EachRange extent) at range ↔ ((b : ℕ) × (range_in w at b ≡ range) × (b < extent))
  each_range range extent = (
    λ has. (range * (w.index at).pages_per_range, first_of range (w.index at).pages_per_range some, has),
    λ one.
        lt_of_le_of_lt
        (subst (λ r. r * (w.index at).pages_per_range ≤ one.0) one.1 (block_first one.0 (w.index at).pages_per_range some)) one.2,
  )

  pub asks_first : (b k : ℕ) → AsksFor w b k at ↔ (IsTrue (w.index at).autosummarize × (0 < range_in w at b)
      × ((c j : ℕ) → range_in w at c ≡ range_in w at b → (b < c) ⊎ ((b ≡ c) × (k ≤ j))))
  asks_first b k = (
    λ asks. (
      asks.0,
      asks.3,
      λ c j of. later c j (subst (λ n. n ≤ c) asks.2
          (subst (λ r. r * (w.index at).pages_per_range ≤ c) of (block_first c (w.index at).pages_per_range some))) (omega (arith, asks.1)),
    ),
    λ first.
        let start = first.2 (range_in w at b * (w.index at).pages_per_range) 0 (first_of (range_in w at b) (w.index at).pages_per_range some) in
        ⊎_elim
        (λ (less : b < range_in w at b * (w.index at).pages_per_range).
        absurd (not-le_of_lt less (block_first b (w.index at).pages_per_range some)))
        (λ (at_start : (b ≡ range_in w at b * (w.index at).pages_per_range) × (k ≤ 0)). (first.0, omega (arith, at_start.1), sym at_start.0, first.1))
        start,
  )
    where
      later : (c j : ℕ) → b ≤ c → k ≤ j → (b < c) ⊎ ((b ≡ c) × (k ≤ j))
      later c j le low = elim (lt_or_ge b c) [ inl less ↦ inl less | inr ge ↦ inr (le_antisymm le ge, low) ]
