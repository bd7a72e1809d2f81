use Rattle.std.proofs.Common.{◌∙◌}
use Rattle.index_contents.specs.IndexContents.{contents}
use Rattle.index_steps.specs.IndexTuples.{shape_of}
use Rattle.index_steps.specs.ShownIndex.{lock_in}
use Rattle.index_steps.proofs.OnlyReading.{still_read}
use Rattle.summarise_core.proofs.Stepped.{is_named, is_unnamed}
use Rattle.summarise_core.proofs.in_range.look.Goals as goal

pub returns-in-Ok-Some-clause-stepped : goal.returns-in-Ok-Some-clause-stepped
returns-in-Ok-Some-clause-stepped g c = λ tells locks heap hand rests.
    let store = c.args.pages.now in
    let at = c.args.at in
    let shape = shape_of store.layout at.index in
    let lock = lock_in store.layout locks at.index in
    is_named shape heap at.actor at.range (contents store.layout store.pages at.index) (contents store.layout c.read_map.new.pages.pages at.index) lock hand (still_read g.D.Disk.told store c.read_map.new.pages c.read_map.ensures.kept tells at.index at.actor lock)
    c.args.copied.now c.in-Ok-Some.spot (c.in-Ok-Some.ensures.entry tells ∙ c.in-Ok-Some.field-0-is)

pub returns-in-Ok-None-clause-stepped : goal.returns-in-Ok-None-clause-stepped
returns-in-Ok-None-clause-stepped g c = λ tells locks heap hand rests.
    let store = c.args.pages.now in
    let at = c.args.at in
    let shape = shape_of store.layout at.index in
    let lock = lock_in store.layout locks at.index in
    is_unnamed shape heap at.actor at.range (contents store.layout store.pages at.index) (contents store.layout c.read_map.new.pages.pages at.index) lock hand (still_read g.D.Disk.told store c.read_map.new.pages c.read_map.ensures.kept tells at.index at.actor lock)
    c.args.copied.now rests (c.in-Ok-None.ensures.entry tells ∙ c.in-Ok-None.field-0-is)
