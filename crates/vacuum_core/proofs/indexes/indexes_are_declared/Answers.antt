use Rattle.std.proofs.lemmas.Option.{slice_get-get_or}
use Rattle.index_steps.specs.ShownTable.{indexes_of}
use Rattle.std.specs.Prelude.{slice_index_or}
use Rattle.vacuum_core.proofs.indexes.indexes_are_declared.Goals as goal

pub returns : goal.returns
returns c = λ layout table k d below.
    (c.every_index_of_a_table_is_listed.ensures.only layout table k (slice_index_or (indexes_of layout table) k d) (slice_get-get_or (indexes_of layout table) k d below)).0
