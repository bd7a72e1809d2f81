use Rattle.index_steps.specs.IndexTuples.{classes_of}
use Rattle.index_steps.proofs.Excluding.{excludes, some_classes}
use Rattle.index_steps.proofs.class_laws.tuples_exclude_what_they_do_not_keep.Goals as goal

pub returns : goal.returns
returns c = λ shape bytes conds matches some own meets none.
    excludes shape bytes conds matches c.a_row_is_included_as_tested.ensures meets (λ t is out. c.a_tuple_excludes_what_it_does_not_keep.ensures (classes_of shape) bytes t conds (some_classes shape some) is own out) none
