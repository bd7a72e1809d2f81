use Rattle.std.proofs.Common.{ℕ, List, ap, sym, subst}
use Rattle.std.specs.Box.{boxed_slice_items}
use Rattle.std.specs.Prelude.{vec_capacity}
use Rattle.heap_rows.specs.HeapBlocks.{HasBlocks}
use Rattle.vacuum_core.specs.Vacuums.{ComesTo, VacuumState}
use Rattle.vacuum_core.proofs.Beginning.{lacks_right, takes_right}
use Rattle.vacuum_core.proofs.vacuum.Vacuum.begin.Goals as goal

pub returns-in-Err-take-clause-does : goal.returns-in-Err-take-clause-does
returns-in-Err-take-clause-does g c = λ locks tells blocks has.
    let store = c.args.pages.now in
    lacks_right store.layout store.pages c.stand_at.new.pages.pages locks c.args.rights.now c.take.new.self c.args.actor c.self.inside.table c.args.self.now blocks (c.in-Ok-stand_at.ensures.kept.pages tells) c.requires.begins has c.in-Err-take.by
    (ap (λ (a : VacuumState). a.table) c.self.view_is) c.in-Err-take.ensures.refused c.in-Err-take.ensures.another c.in-Err-take.ensures.same

pub returns-clause-does : goal.returns-clause-does
returns-clause-does g c = λ locks tells blocks has.
    let store = c.args.pages.now in
    let has_too : HasBlocks store.layout store.pages c.self.inside.table blocks = subst (λ (a : VacuumState). HasBlocks store.layout store.pages a.table blocks) (sym c.self.view_is) has in
    takes_right store.layout store.pages c.stand_at.new.pages.pages locks c.args.rights.now c.take.new.self c.args.actor c.self.inside.table c.args.self.now blocks (c.in-Ok-stand_at.ensures.kept.pages tells) c.requires.begins has
    c.blocks-extent.result c.self.inside.room.rows.room (vec_capacity c.self.inside.room.dead) (boxed_slice_items c.self.inside.indexes) c.self.inside.course c.in-Ok-stand_at.next c.answer_at.result c.self.view_is
    (c.blocks-extent.ensures.count tells blocks has_too) c.in-Ok-take.ensures.free c.in-Ok-take.ensures.taken
    (subst (λ (l : List ℕ). ComesTo store.layout store.pages l c.blocks-extent.result 0 c.in-Ok-stand_at.next) c.deref.ensures.value (c.in-Ok-stand_at.ensures.comes tells)) c.answer_at.ensures
