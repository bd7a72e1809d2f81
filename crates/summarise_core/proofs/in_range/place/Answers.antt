use Rattle.std.proofs.Common.{ℕ, List, [], length, refl, sym, subst, arith, ◌<◌}
use Rattle.index_steps.specs.Tuples.{IsTupleSize}
use Rattle.range_tuple.specs.TupleBytes.{tuple_bytes}
use Rattle.coverage.specs.Verdicts.{Full, PutVerdict}
use Rattle.index_contents.specs.IndexContents.{contents}
use Rattle.index_steps.specs.declared.placing.Placed.TheVariants as placed
use Rattle.index_steps.specs.IndexTuples.{seen, shape_of}
use Rattle.index_steps.specs.ShownIndex.{lock_in}
use Rattle.index_steps.proofs.Onward.{full_too}
use Rattle.summarise_core.specs.ShownHeap.{Heap}
use Rattle.summarise_core.proofs.Stepped.{full_to_put, is_put, placed_as, waits_to_put}
use Rattle.summarise_core.proofs.Locking.{as_few, few_more}
use Rattle.summarise_core.proofs.in_range.place.Goals as goal

pub returns-in-Ok-Put-clause-stepped : goal.returns-in-Ok-Put-clause-stepped
returns-in-Ok-Put-clause-stepped g c = λ tells heap hand rests.
    let store = c.args.pages.now in
    let at = c.args.at in
    let shape = shape_of store.layout at.index in
    let was = contents store.layout store.pages at.index in
    let is = contents store.layout c.put_new.new.pages.pages at.index in
    let lock = lock_in store.layout c.args.locks.now at.index in
    let locked = lock_in store.layout c.put_new.new.locks at.index in
    let made = rw c.in-Ok-Put.field-0-is at c.in-Ok-Put.ensures.placed in
    is_put shape heap at.actor at.range was is lock locked hand c.args.united.now c.restart.new.self c.requires.tuple c.restart.ensures.restarted rests (c.requires.ready tells) c.in-Ok-Put.to
    (placed_as shape at.actor at.range was is lock locked _ (tuple_bytes c.restart.new.self) (placed.Put c.in-Ok-Put.to) c.spell-size.ensures.bytes (made tells))

pub returns-in-Ok-Waits-clause-stepped : goal.returns-in-Ok-Waits-clause-stepped
returns-in-Ok-Waits-clause-stepped g c = λ tells heap hand rests.
    let store = c.args.pages.now in
    let at = c.args.at in
    let shape = shape_of store.layout at.index in
    let was = contents store.layout store.pages at.index in
    let is = contents store.layout c.put_new.new.pages.pages at.index in
    let lock = lock_in store.layout c.args.locks.now at.index in
    let locked = lock_in store.layout c.put_new.new.locks at.index in
    let made = rw c.in-Ok-Waits.field-0-is at c.in-Ok-Waits.ensures.placed in
    waits_to_put shape heap at.actor at.range was is lock locked hand c.args.united.now c.restart.new.self c.requires.tuple c.restart.ensures.restarted rests (c.requires.ready tells) c.in-Ok-Waits.held
    (placed_as shape at.actor at.range was is lock locked _ (tuple_bytes c.restart.new.self) (placed.Waits c.in-Ok-Waits.held) c.spell-size.ensures.bytes (made tells))

pub returns-in-Err-clause-full : goal.returns-in-Err-clause-full
returns-in-Err-clause-full g c =
    let store = c.args.pages.now in
    let at = c.args.at in
    let shape = shape_of store.layout at.index in
    let was = contents store.layout store.pages at.index in
    let is = contents store.layout c.put_new.new.pages.pages at.index in
    let lock = lock_in store.layout c.args.locks.now at.index in
    let locked = lock_in store.layout c.put_new.new.locks at.index in
    let no_heap : Heap = record { pages_per_range = 0; table = 0; blocks = [] } in
    full_too store.layout store.layout at.index _ _ c.in-Err.fault refl
    (λ number full tells hand rests w shows.
    full_to_put shape no_heap at.actor at.range was is lock locked hand c.args.united.now c.restart.new.self c.requires.tuple c.restart.ensures.restarted rests (c.requires.ready tells) w number shows
    (subst (λ (b : List ℕ). PutVerdict w at.actor at.range (length (seen shape b).bytes) (Full number)) c.spell-size.ensures.bytes (full tells w shows)))
    c.in-Err.ensures.full

pub put_new-requires-clause-size : goal.put_new-requires-clause-size
put_new-requires-clause-size g c = subst (λ (b : List ℕ). IsTupleSize (length b)) (sym c.spell-size.ensures.bytes) c.spell-size.ensures.size

pub spell-size-requires : goal.spell-size-requires
spell-size-requires g c = omega (arith, c.tuples_of_an_index_need_one_room.ensures c.restart.new.self.columns c.args.united.now.columns c.restart.ensures.same_index, c.requires.room)

pub returns-in-Ok-Put-clause-own : goal.returns-in-Ok-Put-clause-own
returns-in-Ok-Put-clause-own g c = λ few. few_more 2 0 2 c.args.locks.now c.put_new.new.locks c.args.at.actor c.put_new.ensures.counts few (omega arith)

pub returns-in-Ok-Waits-clause-own : goal.returns-in-Ok-Waits-clause-own
returns-in-Ok-Waits-clause-own g c = λ few.
    let same = rw c.in-Ok-Waits.field-0-is at c.in-Ok-Waits.ensures.locks in
    as_few 0 0 c.args.locks.now c.put_new.new.locks c.args.at.actor same few (omega arith)

pub returns-in-Ok-Waits-clause-rests : goal.returns-in-Ok-Waits-clause-rests
returns-in-Ok-Waits-clause-rests g c = λ hand. refl

pub returns-in-Ok-Waits-clause-stands : goal.returns-in-Ok-Waits-clause-stands
returns-in-Ok-Waits-clause-stands g c =
    let some : 0 < 3 = omega arith in
    (some, refl)
