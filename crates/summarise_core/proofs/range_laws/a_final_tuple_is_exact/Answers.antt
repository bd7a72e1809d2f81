use Rattle.std.proofs.Common.{◌≡◌, List, sym, subst, ap, ◌∙◌}
use Rattle.range_tuple.specs.Tuples.{IndexedColumn, Tuple, united_columns}
use Rattle.summarise_core.specs.ExactSummaries.{AreJoined, rows_of_range}
use Rattle.summarise_core.proofs.Joined.{joined_columns}
use Rattle.summarise_core.proofs.range_laws.a_final_tuple_is_exact.Goals as goal

pub returns : goal.returns
returns c = λ shape heap range extent next running united copied of passed unites.
    let held : Tuple = unites.placeholder in
    let columns : united.columns ≡ united_columns held.columns running.columns = ap (λ (t : Tuple). t.columns) unites.union in
    record {
      placeholder = held;
      read = unites.read;
      joined = subst (λ (all : List IndexedColumn). AreJoined (rows_of_range heap range) held.columns all) (sym columns)
          (joined_columns (rows_of_range heap range) held.columns running.columns (of ∙ sym unites.of) (c.a_running_tuple_is_exact.ensures.all shape heap range extent next running passed));
      range = ap (λ (t : Tuple). t.range) unites.union;
      final = ap (λ (t : Tuple). t.placeholder) unites.union;
    }
