use Rattle.std.proofs.Common.{◌≡◌, ◌≢◌, ℕ, ◌<◌, List, length, Option, None, Some, sym, ap, subst, ◌∙◌, arith}
use Rattle.std.specs.Prelude.{slice_get, slice_set}
use Rattle.block_model.specs.declared.reply.Reply.TheVariants as replies
use Rattle.store_layout.specs.DiskLayout.{DiskLayout}
use Rattle.page_store.specs.Survives.{Survives}
use Rattle.page_locks.specs.declared.did.Did.TheVariants as did
use Rattle.page_locks.specs.RightHolders.{right_of}
use Rattle.page_map.specs.PageMap.{PageMap}
use Rattle.index_steps.specs.IndexTuples.{index_at}
use Rattle.index_steps.specs.ShownTable.{indexes_of}
use Rattle.script_semantics.specs.Names.{index_name}
use Rattle.summarise_core.specs.declared.course.Standing.{Standing}
use Rattle.summarise_core.specs.Summarises.{RightAnswers, count_of, taken_in}
use Rattle.session_parts.specs.declared.hand.Hand.TheVariants as hands
use Rattle.session_parts.specs.declared.hand.Stepped.{Stepped}
use Rattle.session_parts.specs.declared.hand.Stepped.TheVariants as stepped
use Rattle.session_parts.specs.declared.faults.StoreFault.{StoreFault}
use Rattle.session_parts.specs.declared.parts.Parts.{Parts}
use Rattle.session_parts.specs.DamagedPages.{summary_names}
use Rattle.session_parts.specs.StoreFaults.{fault_of}
use Rattle.session_parts.specs.UndoneLaws.{StepsSo}
use Rattle.session_parts.proofs.Undone.{fit_of_parts}
use Rattle.session_maintenance.proofs.SummariseTurns.{right_left}
use Rattle.session_maintenance.proofs.UpkeepAt.{of_same, table_below, table_is}
use Rattle.session_maintenance.proofs.UpkeepParts.{with_queue, with_these}
use Rattle.session_maintenance.proofs.WorkParts.{begins_not_done, begins_not_range, begun_so, full_first, never_lacks, own_none, refused_first, replied_so}
use Rattle.session_maintenance.proofs.work.begin_summary.Goals as goal

-- the step may be made

pub table_of-table-requires : goal.table_of-table-requires
table_of-table-requires g c =
    let parts = c.args.parts.now in
    of_same (λ (l : DiskLayout) (i : ℕ). i < length l.schema.indexes) c.layout.result.now parts.pages.layout (sym c.layout.ensures) c.index-index.result c.args.summarise.index (sym c.index-index.ensures) c.requires.of.index

pub step-requires-clause-of : goal.step-requires-clause-of
step-requires-clause-of g c = c.requires.of

pub step-requires-clause-left : goal.step-requires-clause-left
step-requires-clause-left g c = λ done. begins_not_done (sym c.requires.begins ∙ done)

pub step-requires-clause-rights : goal.step-requires-clause-rights
step-requires-clause-rights g c =
    let as_many = (fit_of_parts g.D.Disk.told c.args.parts.now c.args.session hands.Working c.requires.fit).rights in
    omega (arith, as_many)

pub step-requires-clause-locks : goal.step-requires-clause-locks
step-requires-clause-locks g c = λ some.
    let none : taken_in c.args.summarise c.args.summarise.standing ≡ 0 = ap (λ (q : Standing). taken_in c.args.summarise q) c.requires.begins in
    absurd (omega (arith, some, none))

pub step-requires-clause-ready : goal.step-requires-clause-ready
step-requires-clause-ready g c = λ tells at. absurd (begins_not_range (sym c.requires.begins ∙ at))

-- it goes on

pub returns-in-Ok-Moved : goal.returns-in-Ok-Moved
returns-in-Ok-Moved g c =
    let told = g.D.Disk.told in
    let parts = c.args.parts.now in
    let e = c.step.ensures in
    let outcome = c.in-Ok-Moved.ensures.outcome in
    let below = table_below parts.pages.layout c.layout.result.now c.layout.ensures c.args.summarise.index c.index-index.result c.index-index.ensures c.table_of-table.result c.table_of-table.ensures.number c.table_of-table.ensures.there in
    let so = subst (λ (q : List (ℕ × ℕ)). StepsSo told parts (with_queue parts c.step.new.pages c.step.new.locks c.step.new.rights q) c.args.session hands.Working
    (stepped.Moved c.in-Ok-Moved.point (hands.Works (record { summarise = c.step.new.self; range = c.args.range })))) (sym c.take.ensures.rest)
    (begun_so told parts c.args.session c.args.range c.args.summarise c.requires.fit below c.requires.begins c.requires.of c.requires.range c.step.new.pages c.step.new.locks c.step.new.self
    (record { of = e.of; index = e.same_index; wish = e.same_wish; others = e.others; order = e.order; leaves = e.locks; counts = e.counts })
    c.a_summarise_steps_in_its_table.ensures.steps c.other_pages_show_alike.ensures c.requires.first c.step.new.rights c.in-Ok-Moved.point (rw c.in-Ok-Moved.field-0-is at c.in-Ok-Moved.ensures.does)
    (rw c.in-Ok-Moved.field-0-is at c.in-Ok-Moved.ensures.stands) (c.in-Ok-Moved.ensures.own (own_none told parts c.args.session c.args.range c.args.summarise c.requires.fit below c.requires.begins c.requires.of c.requires.range))
    (rw c.in-Ok-Moved.field-0-is at c.in-Ok-Moved.ensures.right) (outcome.0, outcome.1)) in
    record { so = so; survives = e.survives }

-- it replies at once, and gives the summarise lock

pub give-requires : goal.give-requires
give-requires g c =
    let parts = c.args.parts.now in
    let as_many = (fit_of_parts g.D.Disk.told parts c.args.session hands.Working c.requires.fit).rights in
    let below = c.table_of-table.ensures.there in
    let same = ap (λ (l : DiskLayout). length l.schema.tables) c.layout.ensures in
    let right = rw c.in-Ok-Finished.field-0-is at c.in-Ok-Finished.ensures.right in
    let left = right_left c.table_of-table.result c.args.session parts.rights c.step.new.rights c.args.summarise.standing (did.Finished c.in-Ok-Finished.field-0-0) (omega (arith, as_many, below, same))
    (subst (λ (t : ℕ). RightAnswers t c.args.session parts.rights c.step.new.rights c.args.summarise.standing (did.Finished c.in-Ok-Finished.field-0-0))
    (sym (table_is parts.pages.layout c.layout.result.now c.layout.ensures c.args.summarise.index c.index-index.result c.index-index.ensures c.table_of-table.result c.table_of-table.ensures.number)) right) in
    let kept = left.tables in
    omega (arith, as_many, below, same, kept)

pub told-requires : goal.told-requires
told-requires g c =
    let parts = c.args.parts.now in
    of_same (λ (l : DiskLayout) (i : ℕ). i < length l.schema.indexes) c.layout-in-Ok-Finished.result.now parts.pages.layout (sym (c.layout-in-Ok-Finished.ensures ∙ c.step.ensures.others.leaves.layout))
    c.step.new.self.index c.args.summarise.index (sym c.step.ensures.same_index) c.requires.of.index

pub returns-in-Ok-Finished : goal.returns-in-Ok-Finished
returns-in-Ok-Finished g c =
    let told = g.D.Disk.told in
    let parts = c.args.parts.now in
    let e = c.step.ensures in
    let outcome = c.in-Ok-Finished.ensures.outcome in
    let number = table_is parts.pages.layout c.layout.result.now c.layout.ensures c.args.summarise.index c.index-index.result c.index-index.ensures c.table_of-table.result c.table_of-table.ensures.number in
    let below = table_below parts.pages.layout c.layout.result.now c.layout.ensures c.args.summarise.index c.index-index.result c.index-index.ensures c.table_of-table.result c.table_of-table.ensures.number c.table_of-table.ensures.there in
    let named = of_same (λ (l : DiskLayout) (i : ℕ). (table at : ℕ) → slice_get (indexes_of l table) at ≡ Some i → c.told.result ≡ replies.Worked (index_name l table at) c.args.range (count_of c.step.new.self))
    parts.pages.layout c.layout-in-Ok-Finished.result.now (c.layout-in-Ok-Finished.ensures ∙ e.others.leaves.layout) c.args.summarise.index c.step.new.self.index e.same_index c.told.ensures in
    let so = subst (λ (q : List (ℕ × ℕ)). StepsSo told parts (with_queue parts c.step.new.pages c.step.new.locks c.give.new.self q) c.args.session hands.Working (stepped.Done c.told.result)) (sym c.take-in-Ok-Finished.ensures.rest)
    (replied_so told parts c.args.session c.args.range c.args.summarise c.requires.fit below c.requires.begins c.requires.of c.requires.range c.step.new.pages c.step.new.locks c.step.new.self
    (record { of = e.of; index = e.same_index; wish = e.same_wish; others = e.others; order = e.order; leaves = e.locks; counts = e.counts })
    c.a_summarise_steps_in_its_table.ensures.steps c.other_pages_show_alike.ensures c.requires.first c.step.new.rights c.give.new.self c.in-Ok-Finished.field-0-0 (rw c.in-Ok-Finished.field-0-is at c.in-Ok-Finished.ensures.does)
    (rw c.in-Ok-Finished.field-0-is at c.in-Ok-Finished.ensures.stands) (c.in-Ok-Finished.ensures.own (own_none told parts c.args.session c.args.range c.args.summarise c.requires.fit below c.requires.begins c.requires.of c.requires.range))
    (rw c.in-Ok-Finished.field-0-is at c.in-Ok-Finished.ensures.right) (outcome.0, outcome.1)
    (subst (λ (t : ℕ). right_of c.step.new.rights t ≡ Some c.args.session → c.give.new.self ≡ slice_set c.step.new.rights t None) number c.give.ensures.given)
    (subst (λ (t : ℕ). right_of c.step.new.rights t ≢ Some c.args.session → c.give.new.self ≡ c.step.new.rights) number c.give.ensures.same)
    c.told.result named) in
    record { so = so; survives = e.survives }

-- its index is full

pub refused-requires-clause-index : goal.refused-requires-clause-index
refused-requires-clause-index g c =
    let parts = c.args.parts.now in
    of_same (λ (l : DiskLayout) (i : ℕ). i < length l.schema.indexes) c.step.new.pages.layout parts.pages.layout (sym c.step.ensures.others.leaves.layout) c.index-index.result c.args.summarise.index (sym c.index-index.ensures) c.requires.of.index

pub refused-requires-clause-table : goal.refused-requires-clause-table
refused-requires-clause-table g c =
    let parts = c.args.parts.now in
    let as_many = (fit_of_parts g.D.Disk.told parts c.args.session hands.Working c.requires.fit).rights in
    let below = c.table_of-table.ensures.there in
    let same = ap (λ (l : DiskLayout). length l.schema.tables) c.layout.ensures in
    let kept = ap (λ (l : List (Option ℕ)). length l) c.in-Err-Full.ensures.rights in
    omega (arith, as_many, below, same, kept)

pub returns-in-Err-Full : goal.returns-in-Err-Full
returns-in-Err-Full g c =
    let told = g.D.Disk.told in
    let parts = c.args.parts.now in
    let e = c.step.ensures in
    let later = c.refused.new.parts in
    let outcome = rw c.in-Err-Full.field-0-is at c.in-Err-Full.ensures.outcome in
    let full = rw c.in-Err-Full.field-0-is at c.in-Err-Full.ensures.full in
    let same_locks : c.step.new.locks ≡ parts.locks = rw c.in-Err-Full.field-0-is at c.in-Err-Full.ensures.at_full in
    let number = table_is parts.pages.layout c.layout.result.now c.layout.ensures c.args.summarise.index c.index-index.result c.index-index.ensures c.table_of-table.result c.table_of-table.ensures.number in
    let below = table_below parts.pages.layout c.layout.result.now c.layout.ensures c.args.summarise.index c.index-index.result c.index-index.ensures c.table_of-table.result c.table_of-table.ensures.number c.table_of-table.ensures.there in
    let so : StepsSo told parts later c.args.session hands.Working (stepped.Done c.refused.result) =
    subst (λ (q : Parts _). StepsSo told parts q c.args.session hands.Working (stepped.Done c.refused.result)) (sym c.refused.ensures.rest)
    (full_first told parts c.args.session c.args.range c.args.summarise c.requires.fit below c.requires.begins c.requires.of c.requires.range c.step.new.pages c.step.new.locks c.step.new.self
    (record { of = e.of; index = e.same_index; wish = e.same_wish; others = e.others; order = e.order; leaves = e.locks; counts = e.counts })
    later.locks c.in-Err-Full.number full.1 same_locks (outcome.0, outcome.1) c.refused.ensures.all c.refused.ensures.limit c.refused.ensures.none (λ m other. c.refused.ensures.counts.others m other) later.rights
    (subst (λ (r : List (Option ℕ)). right_of r (index_at parts.pages.layout c.args.summarise.index).table ≡ Some c.args.session → later.rights ≡ slice_set r (index_at parts.pages.layout c.args.summarise.index).table None) c.in-Err-Full.ensures.rights
    (subst (λ (t : ℕ). right_of c.step.new.rights t ≡ Some c.args.session → later.rights ≡ slice_set c.step.new.rights t None) number c.refused.ensures.given))
    (subst (λ (r : List (Option ℕ)). right_of r (index_at parts.pages.layout c.args.summarise.index).table ≢ Some c.args.session → later.rights ≡ r) c.in-Err-Full.ensures.rights
    (subst (λ (t : ℕ). right_of c.step.new.rights t ≢ Some c.args.session → later.rights ≡ c.step.new.rights) number c.refused.ensures.kept))
    c.refused.result) in
    record { so = so; survives = subst (λ (q : Parts _). Survives told (λ (passed : PageMap). passed ≡ parts.pages.pages) parts.pages q.pages) (sym c.refused.ensures.rest) e.survives }

-- the pages refuse it

pub returns-in-Err-Store : goal.returns-in-Err-Store
returns-in-Err-Store g c =
    let told = g.D.Disk.told in
    let parts = c.args.parts.now in
    let e = c.step.ensures in
    let below = table_below parts.pages.layout c.layout.result.now c.layout.ensures c.args.summarise.index c.index-index.result c.index-index.ensures c.table_of-table.result c.table_of-table.ensures.number c.table_of-table.ensures.there in
    let fault : c.fault_of.result ≡ fault_of c.in-Err-Store.error = rw c.in-Err-Store.field-0-is at c.fault_of.ensures in
    let is : c.undone.result ≡ stepped.Undone (fault_of c.in-Err-Store.error) hands.Working = c.undone.ensures ∙ ap (λ (f : StoreFault). stepped.Undone f hands.Working) fault in
    let so = subst (λ (a : Stepped). StepsSo told parts (with_these parts c.step.new.pages c.drop_all.new.self c.step.new.rights) c.args.session hands.Working a) (sym is)
    (subst (λ (r : List (Option ℕ)). StepsSo told parts (with_these parts c.step.new.pages c.drop_all.new.self r) c.args.session hands.Working (stepped.Undone (fault_of c.in-Err-Store.error) hands.Working))
    (sym c.in-Err-Store.ensures.rights)
    (refused_first told parts c.args.session c.args.range c.args.summarise c.requires.fit below c.requires.begins c.requires.of c.requires.range c.step.new.pages c.step.new.locks c.step.new.self
    (record { of = e.of; index = e.same_index; wish = e.same_wish; others = e.others; order = e.order; leaves = e.locks; counts = e.counts })
    c.drop_all.new.self c.drop_all.ensures.limit c.drop_all.ensures.none (λ m other. c.drop_all.ensures.counts.others m other) c.in-Err-Store.error (rw c.in-Err-Store.field-0-is at c.in-Err-Store.ensures.outcome)
    (summary_names parts.pages.layout c.args.summarise.index c.args.summarise.hand.stage c.in-Err-Store.error (rw c.in-Err-Store.field-0-is at c.in-Err-Store.ensures.at)))) in
    record { so = so; survives = e.survives }

-- it waits for no page, has the summarise lock, and takes no memory

pub unreachable-requires : goal.unreachable-requires
unreachable-requires g c =
    let stands = rw c.in-Ok-Blocked.field-0-is at c.in-Ok-Blocked.ensures.stands in
    begins_not_range (sym c.requires.begins ∙ stands.0)

pub unreachable-unreachable : goal.unreachable-unreachable
unreachable-unreachable g c = c.unreachable.result

pub unreachable-requires-in-Ok-NoRight : goal.unreachable-requires-in-Ok-NoRight
unreachable-requires-in-Ok-NoRight g c =
    never_lacks _ (index_at c.args.parts.now.pages.layout c.args.summarise.index).table c.args.session c.args.parts.now.rights c.step.new.rights c.args.summarise.standing c.requires.begins c.requires.free
    (rw c.in-Ok-NoRight.field-0-is at c.in-Ok-NoRight.ensures.right)

pub unreachable-unreachable-in-Ok-NoRight : goal.unreachable-unreachable-in-Ok-NoRight
unreachable-unreachable-in-Ok-NoRight g c = c.unreachable-in-Ok-NoRight.result

pub unreachable-requires-in-Err-Memory : goal.unreachable-requires-in-Err-Memory
unreachable-requires-in-Err-Memory g c = rw c.in-Err-Memory.field-0-is at c.in-Err-Memory.ensures.outcome

pub unreachable-unreachable-in-Err-Memory : goal.unreachable-unreachable-in-Err-Memory
unreachable-unreachable-in-Err-Memory g c = c.unreachable-in-Err-Memory.result
