use Rattle.std.proofs.Common.{◌≡◌, ℕ, Some, ap, subst, ◌∙◌, arith}
use Rattle.index_steps.specs.IndexTuples.{index_at}
use Rattle.index_steps.specs.ShownTable.{indexes_of}
use Rattle.index_steps.proofs.Listed.{is_ascending, is_counted, is_listed}
use Rattle.index_steps.proofs.laws.every_index_of_a_table_is_listed.Goals as goal

pub returns-clause-listed : goal.returns-clause-listed
unfolding indexes_of
returns-clause-listed c = λ layout table n below of.
    let found = is_listed table 0 layout.schema.indexes n below of in
    (found.0, found.1 ∙ ap Some (omega arith))

pub returns-clause-only : goal.returns-clause-only
unfolding indexes_of
returns-clause-only c = λ layout table at n there.
    let counted = is_counted table 0 layout.schema.indexes at n there in
    let same : counted.by ≡ n = omega (arith, counted.is) in
    (omega (arith, counted.is, counted.below), subst (λ (k : ℕ). (index_at layout k).table ≡ table) same counted.of)

pub returns-clause-ascending : goal.returns-clause-ascending
unfolding indexes_of
returns-clause-ascending c = λ layout table i j m n below first second. is_ascending table 0 layout.schema.indexes i j m n below first second
