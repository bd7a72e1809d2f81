use Rattle.std.proofs.Common.{ℕ, true, sym, subst}
use Rattle.range_tuple.specs.ExactTuples.{IsExactTuple}
use Rattle.range_tuple.specs.Tuples.{Tuple}
use Rattle.summarise_core.specs.ExactSummaries.{HasPassed, first_of_range, rows_of_blocks}
use Rattle.summarise_core.proofs.Exact.{all_passed}
use Rattle.summarise_core.proofs.range_laws.a_running_tuple_is_exact.Goals as goal

pub returns-clause-so_far : goal.returns-clause-so_far
returns-clause-so_far c = λ shape heap range extent next running so_far.
    subst (λ (t : Tuple). IsExactTuple (rows_of_blocks heap.blocks (first_of_range heap range) so_far.passed) t) (sym so_far.added)
    (c.rows_leave_exact_summaries.ensures range true shape.columns shape.parts (rows_of_blocks heap.blocks (first_of_range heap range) so_far.passed))

pub returns-clause-all : goal.returns-clause-all
returns-clause-all c = λ shape heap range extent next running passed.
    let so_far : HasPassed shape heap range extent next running = passed.0 in
    subst (λ (n : ℕ). IsExactTuple (rows_of_blocks heap.blocks (first_of_range heap range) n) running) (all_passed shape heap range extent next running so_far passed.1)
    (subst (λ (t : Tuple). IsExactTuple (rows_of_blocks heap.blocks (first_of_range heap range) so_far.passed) t) (sym so_far.added)
    (c.rows_leave_exact_summaries.ensures range true shape.columns shape.parts (rows_of_blocks heap.blocks (first_of_range heap range) so_far.passed)))
