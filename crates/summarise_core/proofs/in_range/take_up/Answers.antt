use Rattle.std.proofs.Common.{sym, ◌∙◌}
use Rattle.index_contents.specs.IndexContents.{contents}
use Rattle.index_steps.specs.IndexTuples.{shape_of}
use Rattle.index_steps.specs.ShownIndex.{lock_in}
use Rattle.index_steps.proofs.OnlyReading.{still_read}
use Rattle.summarise_core.proofs.Stepped.{had_final, has_gone, is_taken_up}
use Rattle.summarise_core.proofs.in_range.take_up.Goals as goal

pub returns-in-Ok-false-clause-stepped : goal.returns-in-Ok-false-clause-stepped
returns-in-Ok-false-clause-stepped g c = λ tells locks heap hand.
    let store = c.args.pages.now in
    let at = c.args.at in
    let shape = shape_of store.layout at.index in
    let lock = lock_in store.layout locks at.index in
    has_gone shape heap at.actor at.range (contents store.layout store.pages at.index) (contents store.layout c.copy_tuple.new.pages.pages at.index) lock hand (still_read g.D.Disk.told store c.copy_tuple.new.pages c.copy_tuple.ensures.kept tells at.index at.actor lock)
    c.copy_tuple.new.copied c.copy_tuple.new.tuple c.args.spot (c.in-Ok-false.ensures.gone c.in-Ok-false.field-0-test tells)

pub returns-then-is_placeholder-clause-stepped : goal.returns-then-is_placeholder-clause-stepped
returns-then-is_placeholder-clause-stepped g c = λ tells locks heap hand.
    let store = c.args.pages.now in
    let at = c.args.at in
    let shape = shape_of store.layout at.index in
    let lock = lock_in store.layout locks at.index in
    is_taken_up shape heap at.actor at.range (contents store.layout store.pages at.index) (contents store.layout c.copy_tuple.new.pages.pages at.index) lock hand (still_read g.D.Disk.told store c.copy_tuple.new.pages c.copy_tuple.ensures.kept tells at.index at.actor lock)
    c.copy_tuple.new.copied c.copy_tuple.new.tuple c.args.spot (c.in-Ok-true.ensures.there c.in-Ok-true.field-0-test tells) (c.in-Ok-true.ensures.read c.in-Ok-true.field-0-test) (sym c.is_placeholder.ensures ∙ c.if-is_placeholder.true)

pub returns-clause-stepped : goal.returns-clause-stepped
returns-clause-stepped g c = λ tells locks heap hand.
    let store = c.args.pages.now in
    let at = c.args.at in
    let shape = shape_of store.layout at.index in
    let lock = lock_in store.layout locks at.index in
    had_final shape heap at.actor at.range (contents store.layout store.pages at.index) (contents store.layout c.copy_tuple.new.pages.pages at.index) lock hand (still_read g.D.Disk.told store c.copy_tuple.new.pages c.copy_tuple.ensures.kept tells at.index at.actor lock)
    c.copy_tuple.new.copied c.copy_tuple.new.tuple c.args.spot (c.in-Ok-true.ensures.there c.in-Ok-true.field-0-test tells) (c.in-Ok-true.ensures.read c.in-Ok-true.field-0-test) (sym c.is_placeholder.ensures ∙ c.if-is_placeholder.false)
