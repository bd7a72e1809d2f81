use Rattle.std.proofs.Common.{◌≡◌, ℕ, List, refl, ap, subst, ◌∙◌}
use Rattle.std.specs.Prelude.{Some, false}
use Rattle.opclass_any.specs.declared.classes.AnyClass.{AnyClass}
use Rattle.range_tuple.specs.TupleBytes.{tuple_bytes}
use Rattle.range_tuple.specs.TupleReading.{tuple_in}
use Rattle.range_tuple.specs.Tuples.{Tuple}
use Rattle.index_contents.specs.IndexContents.{contents}
use Rattle.index_steps.specs.IndexTuples.{shape_of}
use Rattle.index_steps.specs.Readings.{IsReadAs}
use Rattle.index_steps.specs.ShownIndex.{lock_in}
use Rattle.index_steps.proofs.OnlyReading.{still_read}
use Rattle.summarise_core.proofs.Stepped.{has_left, is_united}
use Rattle.summarise_core.proofs.in_range.unite.Goals as goal

pub returns-in-Ok-false-clause-stepped : goal.returns-in-Ok-false-clause-stepped
returns-in-Ok-false-clause-stepped g c = λ tells locks heap hand.
    let store = c.args.pages.now in
    let at = c.args.at in
    let shape = shape_of store.layout at.index in
    let lock = lock_in store.layout locks at.index in
    has_left shape heap at.actor at.range (contents store.layout store.pages at.index) (contents store.layout c.copy_tuple.new.pages.pages at.index) lock (record hand { running = c.args.running.now }) (still_read g.D.Disk.told store c.copy_tuple.new.pages c.copy_tuple.ensures.kept tells at.index at.actor lock)
    c.copy_tuple.new.copied c.copy_tuple.new.tuple c.args.spot (c.in-Ok-false.ensures.gone c.in-Ok-false.field-0-test tells)

pub returns-clause-stepped : goal.returns-clause-stepped
returns-clause-stepped g c = λ tells locks heap hand.
    let store = c.args.pages.now in
    let at = c.args.at in
    let shape = shape_of store.layout at.index in
    let lock = lock_in store.layout locks at.index in
    let running = c.args.running.now in
    let reads : IsReadAs shape (tuple_bytes running) running = record {
      spelt = refl;
      read = subst (λ (parts : List (ℕ × AnyClass)). tuple_in parts (tuple_bytes running) ≡ Some running) c.requires.running (c.one_tuple.ensures.read running c.known.ensures.tuple refl);
    } in
    is_united shape heap at.actor at.range (contents store.layout store.pages at.index) (contents store.layout c.copy_tuple.new.pages.pages at.index) lock hand (still_read g.D.Disk.told store c.copy_tuple.new.pages c.copy_tuple.ensures.kept tells at.index at.actor lock)
    c.copy_tuple.new.copied c.copy_tuple.new.tuple c.settle.new.self running c.args.spot (c.in-Ok-true.ensures.there c.in-Ok-true.field-0-test tells) (c.in-Ok-true.ensures.read c.in-Ok-true.field-0-test) reads
    (c.settle.ensures ∙ ap (λ (t : Tuple). record t { placeholder = false }) c.unite.ensures.widened)

pub returns-in-Ok-false-clause-exact : goal.returns-in-Ok-false-clause-exact
returns-in-Ok-false-clause-exact g c = λ heap hand passed. passed.0

pub returns-clause-exact : goal.returns-clause-exact
returns-clause-exact g c = λ heap hand passed. (
  passed,
  record {
    placeholder = c.copy_tuple.new.tuple;
    read = c.in-Ok-true.ensures.read c.in-Ok-true.field-0-test;
    of = c.copy_tuple.ensures.same_index ∙ c.requires.tuple;
    union = c.settle.ensures ∙ ap (λ (t : Tuple). record t { placeholder = false }) c.unite.ensures.widened;
  },
)
