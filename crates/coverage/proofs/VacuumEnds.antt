-- A vacuum whose session steps alone from one of its indexes on ends, or waits, or lacks a page, within the sum over these indexes.
use Rattle.std.proofs.Common.{◌≡◌, ⊎_elim, ℕ, ◌+◌, ◌-◌, ◌*◌, ◌/◌, ◌≤◌, ◌<◌, Some, false, true, sym, ◌∙◌, ap, subst, arith, zero, suc}
use Rattle.std.specs.Prelude.{refl}
use Rattle.std.proofs.Math.Nat.{le_refl}
use Rattle.block_model.specs.declared.reply.Point.{Point}
use Rattle.coverage.specs.Statements.{Empty, NotBuilding}
use Rattle.coverage.specs.Table.{WholeRanges, Index, Task, Resting, Considers, Maintains, Restarts, TableState, index_view_at}
use Rattle.coverage.specs.TableSteps.{HasRange, OnlyTurns, Onward, IsMaintained, TableStep}
use Rattle.coverage.specs.TablePoints.{does_point}
use Rattle.coverage.specs.GoingOn.{StepsAlone, LastAlone, OneMoreAlone}
use Rattle.coverage.specs.StepsLeft.{sum_below, HasAtMostTuples, IsSummarise, whole_ranges, later_ranges, index_steps, vacuum_steps}
use Rattle.coverage.specs.TableCovered.{IsInTable, IsTableKept}
use Rattle.coverage.proofs.PlacesCounted.{fewer}
use Rattle.coverage.proofs.Sums.{sum_grows}
use Rattle.coverage.proofs.ScansEndAlone.{one_of_whole_ranges}
use Rattle.coverage.proofs.StepDid.{Did, DidRestart, step_did, step_settles}
use Rattle.coverage.proofs.SummariseLeft.{IsTaken, OwnMap, Left, Works, one_page}
use Rattle.coverage.proofs.SummariseEnds.{considers_onward, FromStays, only_stays, nothing_moved, alone_left}
use Rattle.coverage.proofs.TableSeen.{table_step_kept}

-- the steps after the first one of those that a session takes alone
data Behind (s : ℕ) (v : TableState) : ℕ → Type 0 where
  NoneBehind : Behind s v 0
  SomeBehind : (k : ℕ) → (v.task s ≡ Resting → ⊥) → StepsAlone s k v → Behind s v k

module _ (w0 : TableState) (s : ℕ) (tuples : ℕ → ℕ) (has : (i : ℕ) → i < w0.indexes → HasAtMostTuples w0 i (tuples i)) where
  abbrev f : ℕ → ℕ
  f = index_steps w0 tuples

  abbrev all : ℕ
  all = sum_below w0.indexes f

  -- what the indexes behind this one take
  abbrev rest_of : ℕ → ℕ
  rest_of at = all - sum_below (suc at) f

  abbrev per_of : ℕ → ℕ
  per_of at = (w0.index at).pages_per_range

  -- the whole ranges of an index, and the pages by which its map may grow
  abbrev whole : ℕ → ℕ
  whole at = whole_ranges w0 w0.blocks at

  abbrev pages_of : ℕ → ℕ
  pages_of at = (w0.index at).pages.limit - (w0.index at).pages.map_pages

  module _ (at : ℕ) (below : at < w0.indexes) where
    -- what is left is enough for this index and those behind it
    split : (n : ℕ) → all ≤ n + sum_below at f → f at + rest_of at ≤ n
    split n le = omega (arith, sum_grows f (suc at) w0.indexes below, le)

    -- with its first range before it, so much is left in the index
    begins_left : (w u v : TableState) (n : ℕ) → IsTableKept w → FromStays at w0 w → FromStays at w0 u → FromStays at w0 v
        → HasRange u (WholeRanges w.blocks) at 0 → f at + rest_of at ≤ suc n
        → Left (index_view_at at v) 0 (per_of at) (tuples at + whole at) (whole at - 1) ((whole at - 1) * (per_of at + 9) + rest_of at) n (NotBuilding Empty)
    begins_left w u v n kept was between stays has_one enough = Works (NotBuilding Empty) (per_of at + 9) (pages_of at) (tuples at) false true OwnMap (record {
      per_is = ap (λ (x : Index). x.pages_per_range) (here v stays);
      tuples_are = fewer (IsTaken (index_view_at at w0)) (IsTaken (index_view_at at v)) (tuples at)
          (λ x taken none. taken (ap (λ (i : Index). i.tuple x) (here v stays) ∙ none)) (has at below);
      room = omega (arith, some);
      pages = ap (λ (x : Index). x.pages.limit - x.pages.map_pages) (here v stays);
    }) (omega (arith, one_range, enough))
      where
        here : (x : TableState) → FromStays at w0 x → x.index at ≡ w0.index at
        here x same = same.index at (le_refl at)

        ranged : 0 < per_of at
        ranged = subst (λ (x : Index). 0 < x.pages_per_range) (here w was) (kept.indexes at (subst (λ m. at < m) (sym was.indexes) below)).sound.ranged

        some : 0 < whole at
        some = subst (λ m. 0 < m / per_of at) was.blocks (one_of_whole_ranges (per_of at) w.blocks 0 ranged
            (subst (λ (x : Index). (0 + 1) * x.pages_per_range ≤ w.blocks) (here u between) has_one))

        one_range : whole at * (per_of at + 9) ≡ (whole at - 1) * (per_of at + 9) + (per_of at + 9)
        one_range = one_page (whole at) (per_of at + 9) some

    restarted : (w u : TableState) (new : Task) → Did s w u (Restarts at) new → (new ≡ Considers (WholeRanges w.blocks) at 0) × OnlyTurns w u
    restarted w u _ (DidRestart _ only) = (refl, only)

    -- the ranges behind the first one
    later_same : (w v : TableState) → FromStays at w0 w → FromStays at w0 v → whole at - 1 ≡ later_ranges v (WholeRanges w.blocks) at 0
    later_same w v was stays = ap (λ n. n / per_of at - 1) (sym was.blocks)
        ∙ ap (λ (x : Index). w.blocks / x.pages_per_range - 1) (sym (stays.index at (le_refl at)))

    later_stays : (v : TableState) → FromStays at w0 v → FromStays (suc at) w0 v
    later_stays v stays = record {
      indexes = stays.indexes;
      blocks = stays.blocks;
      index = λ i le. stays.index i (omega arith);
    }

    -- how many come behind the first step
    one_step : (n : ℕ) → f at + rest_of at ≤ n → (m : ℕ) × (n ≡ suc m) × (f at + rest_of at ≤ suc m) × (rest_of at ≤ m)
    one_step n le = made (whole at * (per_of at + 9)) (pages_of at * (3 * (tuples at + whole at) + 3)) (rest_of at) le
      where
        made : (a g rest : ℕ) → 1 + a + g + rest ≤ n → (m : ℕ) × (n ≡ suc m) × (1 + a + g + rest ≤ suc m) × (rest ≤ m)
        made a g rest le = (n - 1, omega arith, omega arith, omega arith)

    module _ (behind : (k n : ℕ) (w : TableState) → StepsAlone s k w → IsTableKept w → w.task s ≡ Restarts (suc at) → FromStays (suc at) w0 w
        → all ≤ n + sum_below (suc at) f → k ≤ n) where
      next_within : (k m : ℕ) (w : TableState) → StepsAlone s k w → IsTableKept w → w.task s ≡ Restarts (suc at) → FromStays (suc at) w0 w → rest_of at ≤ m → k ≤ m
      next_within k m w alone kept was stays le = behind k m w alone kept was stays (omega arith)

      after_first : (k m : ℕ) (w u v : TableState) → IsTableKept w → FromStays at w0 w → FromStays at w0 u → FromStays at w0 v → IsTableKept v
          → StepsAlone s k v → f at + rest_of at ≤ suc m → rest_of at ≤ m → Onward u (Considers (WholeRanges w.blocks) at 0) (v.task s) → k ≤ m
      after_first k m w u v kept was between stays kept' more enough le on = ⊎_elim
          (λ (begins : HasRange u (WholeRanges w.blocks) at 0 × (v.task s ≡ Maintains (WholeRanges w.blocks) at 0 (NotBuilding Empty))).
          alone_left w0 s (WholeRanges w.blocks) tt at (per_of at) (tuples at + whole at) (rest_of at)
          (λ i j x more' kept'' next. next_within i j x more' kept'' next.1 next.2 next.3)
          k v more kept' m 0 (whole at - 1) (NotBuilding Empty) begins.1 (later_same w v was stays)
          (later_stays v stays, begins_left w u v m kept was between stays begins.0 enough))
          (λ (next : (IsSummarise (WholeRanges w.blocks) → ⊥) × (v.task s ≡ Restarts (suc at))).
          next_within k m v more kept' next.1 (later_stays v stays) le)
          (considers_onward u (WholeRanges w.blocks) at 0 (v.task s) on)

      first_step : (k n : ℕ) (w v : TableState) (step : TableStep s w v) (p : Point) → does_point s w step.between step.does ≡ Some p → IsTableKept w
          → w.task s ≡ Restarts at → FromStays at w0 w → all ≤ n + sum_below at f → Behind s v k → suc k ≤ n
      first_step _ n w v step p point kept was stays enough NoneBehind = omega (arith, (one_step n (split n enough)).1)
      first_step k n w v step p point kept was stays enough (SomeBehind _ going more) =
          let u = step.between in
          let one = one_step n (split n enough) in
          let did = restarted w u (u.task s) (subst (λ t. Did s w u t (u.task s)) was (step_did s w u p step.does point)) in
          let between = only_stays at w0 w u did.1 stays in
          ⊎_elim
          (λ (on : Onward u (Considers (WholeRanges w.blocks) at 0) (v.task s) × OnlyTurns u v).
          let rest = after_first k one.0 w u v kept stays between (only_stays at w0 u v on.1 between) (table_step_kept s w v kept step) more one.2 one.3 on.0 in
          omega (arith, one.1))
          (λ (done : IsMaintained u (Considers (WholeRanges w.blocks) at 0) × (v.task s ≡ Resting)). absurd (going done.1))
          (step_settles s u v step.settles (Considers (WholeRanges w.blocks) at 0) did.0)

  -- from an index on, with so many indexes left
  from_index : (d at : ℕ) → at + d ≡ w0.indexes → (k n : ℕ) (w : TableState) → StepsAlone s k w → IsTableKept w → w.task s ≡ Restarts at
      → FromStays at w0 w → all ≤ n + sum_below at f → k ≤ n
  from_index zero at ends k n w alone kept was stays enough =
      absurd (omega (arith, ends, subst (λ m. at < m) stays.indexes (subst (IsInTable w) was (kept.inside s))))
  from_index (suc d) at ends _ n _ (LastAlone w v step p point) kept was stays enough =
      first_step at (omega arith) (from_index d (suc at) (omega arith)) 0 n w v step p point kept was stays enough NoneBehind
  from_index (suc d) at ends _ n _ (OneMoreAlone k w v step p point going more) kept was stays enough =
      first_step at (omega arith) (from_index d (suc at) (omega arith)) k n w v step p point kept was stays enough
      (SomeBehind k going more)

pub vacuum_within : (s n at : ℕ) (tuples : ℕ → ℕ) (w : TableState) → IsTableKept w → w.task s ≡ Restarts at
    → ((i : ℕ) → i < w.indexes → HasAtMostTuples w i (tuples i)) → StepsAlone s n w → n ≤ vacuum_steps w at tuples
vacuum_within s n at tuples w kept was has alone =
    from_index w s tuples has (w.indexes - at) at (omega (arith, subst (IsInTable w) was (kept.inside s))) n (vacuum_steps w at tuples) w alone kept was
    (nothing_moved at w) (omega arith)
