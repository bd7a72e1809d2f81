-- what a summarise makes exactly
use Rattle.std.proofs.Common.{◌≡◌, ℕ, suc, ◌+◌, ◌-◌, ◌≤◌, ◌<◌, min, List, ◌++◌, length, sym, ap, ◌∙◌, arith}
use Rattle.std.proofs.lemmas.List.Sums.{fold-append}
use Rattle.block_model.specs.declared.value.Value.{Value}
use Rattle.range_tuple.specs.ExactTuples.{with_rows}
use Rattle.range_tuple.specs.Tuples.{Tuple, empty_placeholder, parts_of, restarted, with_row}
use Rattle.index_steps.specs.IndexTuples.{IndexShape, classes_of}
use Rattle.summarise_core.specs.ExactSummaries.{HasPassed, blocks_of_range, first_of_range, rows_of_block, rows_of_blocks}
use Rattle.summarise_core.specs.ShownHeap.{Heap}
use Rattle.summarise_core.proofs.Seen.{restarted_is}

-- rows behind others
more_rows : (xs ys : List (List Value)) (t : Tuple) → with_rows (xs ++ ys) t ≡ with_rows ys (with_rows xs t)
more_rows xs ys t = fold-append (λ (widened : Tuple) (row : List Value). with_row row widened) t xs ys

-- one more is within, where the next one is below the end
one_within : (first n next extent end : ℕ) → next ≡ first + n → extent ≡ end → next < extent → suc n ≤ end - first
one_within first n next extent end place ends below = omega (arith, place, ends, below)

-- where the next one isn't, there are no more
all_within : (first n next extent end : ℕ) → next ≡ first + n → extent ≡ end → n ≤ end - first → extent ≤ next → n ≡ end - first
all_within first n next extent end place ends within all = omega (arith, place, ends, within, all)

module _ (shape : IndexShape) (heap : Heap) (range extent next : ℕ) (running : Tuple) where
  -- nothing is passed yet
  pub begins_exact : (t : Tuple) → parts_of t.columns ≡ classes_of shape → running ≡ restarted range t → extent ≡ min (length heap.blocks) (first_of_range heap (range + 1)) → next ≡ first_of_range heap range
      → HasPassed shape heap range extent next running
  begins_exact t of started ends first = record {
    passed = 0;
    ends = ends;
    reached = omega (arith, first);
    within = omega arith;
    added = started ∙ sym (restarted_is shape range t of);
  }

  -- one block more
  pub passes_exact : (u : Tuple) → next < extent → u ≡ with_rows (rows_of_block heap.blocks next) running → HasPassed shape heap range extent next running → HasPassed shape heap range extent (next + 1) u
  passes_exact u below made so_far =
      let first : ℕ = first_of_range heap range in
      let n : ℕ = so_far.passed in
      let none : Tuple = empty_placeholder range shape.columns shape.parts in
      let place : next ≡ first + n = so_far.reached in
      record {
        passed = suc n;
        ends = so_far.ends;
        reached = omega (arith, place);
        within = one_within first n next extent (min (length heap.blocks) (first_of_range heap (range + 1))) place so_far.ends below;
        added =
            made
            ∙ ap (λ (b : ℕ). with_rows (rows_of_block heap.blocks b) running) place
            ∙ ap (λ (t : Tuple). with_rows (rows_of_block heap.blocks (first + n)) t) so_far.added
            ∙ sym (more_rows (rows_of_blocks heap.blocks first n) (rows_of_block heap.blocks (first + n)) none);
      }

  -- where the next block is past the extent, all are passed
  pub all_passed : (so_far : HasPassed shape heap range extent next running) → extent ≤ next → so_far.passed ≡ blocks_of_range heap range
  all_passed so_far all =
      all_within (first_of_range heap range) so_far.passed next extent (min (length heap.blocks) (first_of_range heap (range + 1))) so_far.reached so_far.ends so_far.within all
