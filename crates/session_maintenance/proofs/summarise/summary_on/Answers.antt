use Rattle.std.proofs.Common.{◌≡◌, ◌≢◌, ℕ, ◌<◌, length, List, Option, None, Some, refl, sym, ap, subst, ◌∙◌, arith}
use Rattle.std.specs.Prelude.{slice_get, slice_set}
use Rattle.block_model.specs.declared.reply.Refusal.TheVariants as refusals
use Rattle.block_model.specs.declared.reply.Reply.TheVariants as replies
use Rattle.block_model.specs.declared.reply.What.TheVariants as whats
use Rattle.store_layout.specs.DiskLayout.{DiskLayout}
use Rattle.page_store.specs.SurvivesLaws.{survives_still}
use Rattle.page_store.specs.Survives.{Survives}
use Rattle.page_locks.specs.declared.did.Did.TheVariants as did
use Rattle.page_locks.specs.RightHolders.{right_of}
use Rattle.page_map.specs.PageMap.{PageMap}
use Rattle.snapshot_core.specs.StoredVersions.{transaction_of}
use Rattle.index_steps.specs.IndexTuples.{index_at}
use Rattle.index_steps.specs.ShownTable.{indexes_of}
use Rattle.script_semantics.specs.Names.{index_name, table_name}
use Rattle.summarise_core.specs.Summarises.{RightAnswers, count_of}
use Rattle.session_parts.specs.declared.hand.Stepped.TheVariants as stepped
use Rattle.session_parts.specs.declared.faults.StoreFault.{StoreFault}
use Rattle.session_parts.specs.declared.parts.Parts.{Parts}
use Rattle.session_parts.specs.DamagedPages.{reopen_names, summary_names}
use Rattle.session_parts.specs.StoreFaults.{fault_of}
use Rattle.session_parts.specs.UndoneLaws.{StepsSo}
use Rattle.session_parts.proofs.Undone.{fit_of_parts, refused_is_undone}
use Rattle.session_maintenance.specs.Askers.{hand_for, reply_for}
use Rattle.session_maintenance.proofs.SummariseFull.{full_so}
use Rattle.session_maintenance.proofs.SummariseParts.{MachineLeft, done, is_ready, lacks_right, moved, own_before, refused, summarise_takes, waits_there}
use Rattle.session_maintenance.proofs.SummariseTurns.{right_left}
use Rattle.session_maintenance.proofs.SummaryReplies.{by_asker, replies_so}
use Rattle.session_maintenance.proofs.UpkeepAt.{of_same, table_below, table_is}
use Rattle.session_maintenance.proofs.UpkeepParts.{leaves_same, with_these}
use Rattle.session_maintenance.proofs.summarise.summary_on.Goals as goal

-- the pages refuse it before it

pub returns-in-Err : goal.returns-in-Err
returns-in-Err g c =
    let told = g.D.Disk.told in
    let parts = c.args.parts.now in
    let hand = hand_for c.args.asker c.args.summarise.now in
    let so = subst (λ (f : StoreFault). StepsSo told parts parts c.args.session hand (stepped.Undone f hand)) (sym c.fault_of.ensures)
    (refused_is_undone told parts parts c.args.session hand c.in-Err.error c.requires.fit (fit_of_parts told parts c.args.session hand c.requires.fit).over (leaves_same told parts.pages)
    (record { transactions = refl; locks = refl; rights = refl; journal = refl; queue = refl; dropped = refl }) c.in-Err.ensures.outcome (reopen_names parts.pages.layout c.in-Err.error c.in-Err.ensures.reopen)) in
    record { so = so; survives = survives_still told parts.pages c.ready.ensures.stays }

-- the step may be made

pub table_of-table-requires : goal.table_of-table-requires
table_of-table-requires g c =
    let parts = c.args.parts.now in
    let fits = fit_of_parts g.D.Disk.told parts c.args.session (hand_for c.args.asker c.args.summarise.now) c.requires.fit in
    let by = by_asker parts.pages.layout (transaction_of parts.transactions.opens c.args.session) c.args.asker in
    of_same (λ (l : DiskLayout) (i : ℕ). i < length l.schema.indexes) c.layout.result.now parts.pages.layout (sym c.layout.ensures) c.index-index.result c.args.summarise.now.index (sym c.index-index.ensures) (by.of c.args.summarise.now fits.in_hand).index

pub step-requires-clause-of : goal.step-requires-clause-of
step-requires-clause-of g c =
    let parts = c.args.parts.now in
    (by_asker parts.pages.layout (transaction_of parts.transactions.opens c.args.session) c.args.asker).of c.args.summarise.now (fit_of_parts g.D.Disk.told parts c.args.session (hand_for c.args.asker c.args.summarise.now) c.requires.fit).in_hand

pub step-requires-clause-left : goal.step-requires-clause-left
step-requires-clause-left g c =
    let parts = c.args.parts.now in
    (by_asker parts.pages.layout (transaction_of parts.transactions.opens c.args.session) c.args.asker).left c.args.summarise.now (fit_of_parts g.D.Disk.told parts c.args.session (hand_for c.args.asker c.args.summarise.now) c.requires.fit).in_hand

pub step-requires-clause-rights : goal.step-requires-clause-rights
step-requires-clause-rights g c =
    let as_many = (fit_of_parts g.D.Disk.told c.args.parts.now c.args.session (hand_for c.args.asker c.args.summarise.now) c.requires.fit).rights in
    omega (arith, as_many)

pub step-requires-clause-locks : goal.step-requires-clause-locks
step-requires-clause-locks g c = λ some.
    let few = c.requires.few in
    let limit = (fit_of_parts g.D.Disk.told c.args.parts.now c.args.session (hand_for c.args.asker c.args.summarise.now) c.requires.fit).limit in
    let takes = summarise_takes c.args.summarise.now in
    omega (arith, few, limit, takes)

pub step-requires-clause-ready : goal.step-requires-clause-ready
step-requires-clause-ready g c = λ tells.
    let parts = c.args.parts.now in
    let outcome = c.in-Ok.ensures.outcome in
    let below = table_below parts.pages.layout c.layout.result.now c.layout.ensures c.args.summarise.now.index c.index-index.result c.index-index.ensures c.table_of-table.result c.table_of-table.ensures.number c.table_of-table.ensures.there in
    is_ready g.D.Disk.told parts c.args.session (hand_for c.args.asker) (by_asker parts.pages.layout (transaction_of parts.transactions.opens c.args.session) c.args.asker) c.args.summarise.now c.requires.fit below c.requires.shown tells outcome.0
    c.a_kept_table_takes_a_summarise.ensures.ready

-- it goes on

pub returns-in-Ok-Moved : goal.returns-in-Ok-Moved
returns-in-Ok-Moved g c =
    let told = g.D.Disk.told in
    let parts = c.args.parts.now in
    let hand = hand_for c.args.asker c.args.summarise.now in
    let e = c.step.ensures in
    let outcome = c.in-Ok-Moved.ensures.outcome in
    let by = by_asker parts.pages.layout (transaction_of parts.transactions.opens c.args.session) c.args.asker in
    let below = table_below parts.pages.layout c.layout.result.now c.layout.ensures c.args.summarise.now.index c.index-index.result c.index-index.ensures c.table_of-table.result c.table_of-table.ensures.number c.table_of-table.ensures.there in
    let so = moved told parts c.args.session (hand_for c.args.asker) by c.args.summarise.now c.requires.fit below c.step.new.pages c.step.new.locks c.step.new.self
    (record { of = e.of; index = e.same_index; wish = e.same_wish; others = e.others; order = e.order; leaves = e.locks; counts = e.counts })
    c.a_summarise_steps_in_its_table.ensures.steps c.other_pages_show_alike.ensures c.step.new.rights c.in-Ok-Moved.point (rw c.in-Ok-Moved.field-0-is at c.in-Ok-Moved.ensures.does)
    (rw c.in-Ok-Moved.field-0-is at c.in-Ok-Moved.ensures.stands) (c.in-Ok-Moved.ensures.own (own_before told parts c.args.session (hand_for c.args.asker) by c.args.summarise.now c.requires.fit below)) (rw c.in-Ok-Moved.field-0-is at c.in-Ok-Moved.ensures.right) (outcome.0, outcome.1) in
    record { so = so; survives = e.survives }

-- it replies, and gives the summarise lock

pub give-requires : goal.give-requires
give-requires g c =
    let parts = c.args.parts.now in
    let fits = fit_of_parts g.D.Disk.told parts c.args.session (hand_for c.args.asker c.args.summarise.now) c.requires.fit in
    let as_many = fits.rights in
    let below = c.table_of-table.ensures.there in
    let same = ap (λ (l : DiskLayout). length l.schema.tables) c.layout.ensures in
    let right = rw c.in-Ok-Finished.field-0-is at c.in-Ok-Finished.ensures.right in
    let left = right_left c.table_of-table.result c.args.session parts.rights c.step.new.rights c.args.summarise.now.standing (did.Finished c.in-Ok-Finished.field-0-0) (omega (arith, as_many, below, same))
    (subst (λ (t : ℕ). RightAnswers t c.args.session parts.rights c.step.new.rights c.args.summarise.now.standing (did.Finished c.in-Ok-Finished.field-0-0))
    (sym (table_is parts.pages.layout c.layout.result.now c.layout.ensures c.args.summarise.now.index c.index-index.result c.index-index.ensures c.table_of-table.result c.table_of-table.ensures.number)) right) in
    let kept = left.tables in
    omega (arith, as_many, below, same, kept)

pub told-requires : goal.told-requires
told-requires g c =
    let parts = c.args.parts.now in
    let fits = fit_of_parts g.D.Disk.told parts c.args.session (hand_for c.args.asker c.args.summarise.now) c.requires.fit in
    let by = by_asker parts.pages.layout (transaction_of parts.transactions.opens c.args.session) c.args.asker in
    of_same (λ (l : DiskLayout) (i : ℕ). i < length l.schema.indexes) c.layout-in-Ok-Finished.result.now parts.pages.layout (sym (c.layout-in-Ok-Finished.ensures ∙ c.step.ensures.others.leaves.layout))
    c.step.new.self.index c.args.summarise.now.index (sym c.step.ensures.same_index) (by.of c.args.summarise.now fits.in_hand).index

pub returns-in-Ok-Finished : goal.returns-in-Ok-Finished
returns-in-Ok-Finished g c =
    let told = g.D.Disk.told in
    let parts = c.args.parts.now in
    let hand = hand_for c.args.asker c.args.summarise.now in
    let e = c.step.ensures in
    let outcome = c.in-Ok-Finished.ensures.outcome in
    let by = by_asker parts.pages.layout (transaction_of parts.transactions.opens c.args.session) c.args.asker in
    let number = table_is parts.pages.layout c.layout.result.now c.layout.ensures c.args.summarise.now.index c.index-index.result c.index-index.ensures c.table_of-table.result c.table_of-table.ensures.number in
    let below = table_below parts.pages.layout c.layout.result.now c.layout.ensures c.args.summarise.now.index c.index-index.result c.index-index.ensures c.table_of-table.result c.table_of-table.ensures.number c.table_of-table.ensures.there in
    let left : MachineLeft told parts c.args.session c.args.summarise.now c.step.new.pages c.step.new.locks c.step.new.self = record { of = e.of; index = e.same_index; wish = e.same_wish; others = e.others; order = e.order; leaves = e.locks; counts = e.counts } in
    let named = of_same (λ (l : DiskLayout) (i : ℕ). (table at : ℕ) → slice_get (indexes_of l table) at ≡ Some i → c.told.result ≡ reply_for c.args.asker (index_name l table at) (count_of c.step.new.self))
    parts.pages.layout c.layout-in-Ok-Finished.result.now (c.layout-in-Ok-Finished.ensures ∙ e.others.leaves.layout) c.args.summarise.now.index c.step.new.self.index e.same_index c.told.ensures in
    let so = done told parts c.args.session (hand_for c.args.asker) by c.args.summarise.now c.requires.fit below c.step.new.pages c.step.new.locks c.step.new.self left
    c.a_summarise_steps_in_its_table.ensures.steps c.other_pages_show_alike.ensures c.step.new.rights c.give.new.self c.in-Ok-Finished.field-0-0 (rw c.in-Ok-Finished.field-0-is at c.in-Ok-Finished.ensures.does)
    (rw c.in-Ok-Finished.field-0-is at c.in-Ok-Finished.ensures.stands) (c.in-Ok-Finished.ensures.own (own_before told parts c.args.session (hand_for c.args.asker) by c.args.summarise.now c.requires.fit below)) (rw c.in-Ok-Finished.field-0-is at c.in-Ok-Finished.ensures.right) (outcome.0, outcome.1)
    (subst (λ (t : ℕ). right_of c.step.new.rights t ≡ Some c.args.session → c.give.new.self ≡ slice_set c.step.new.rights t None) number c.give.ensures.given)
    (subst (λ (t : ℕ). right_of c.step.new.rights t ≢ Some c.args.session → c.give.new.self ≡ c.step.new.rights) number c.give.ensures.same)
    c.told.result (replies_so told parts c.args.session c.args.asker c.args.summarise.now c.requires.fit below c.step.new.pages c.step.new.locks c.step.new.self left c.in-Ok-Finished.field-0-0 c.told.result named) in
    record { so = so; survives = e.survives }

-- it waits

pub page_waited_for-what-requires : goal.page_waited_for-what-requires
page_waited_for-what-requires g c =
    let parts = c.args.parts.now in
    let fits = fit_of_parts g.D.Disk.told parts c.args.session (hand_for c.args.asker c.args.summarise.now) c.requires.fit in
    let by = by_asker parts.pages.layout (transaction_of parts.transactions.opens c.args.session) c.args.asker in
    of_same (λ (l : DiskLayout) (i : ℕ). i < length l.schema.indexes) c.layout-in-Ok-Blocked.result.now parts.pages.layout (sym (c.layout-in-Ok-Blocked.ensures ∙ c.step.ensures.others.leaves.layout))
    c.index-index.result c.args.summarise.now.index (sym c.index-index.ensures) (by.of c.args.summarise.now fits.in_hand).index

pub returns-in-Ok-Blocked : goal.returns-in-Ok-Blocked
returns-in-Ok-Blocked g c =
    let told = g.D.Disk.told in
    let parts = c.args.parts.now in
    let hand = hand_for c.args.asker c.args.summarise.now in
    let e = c.step.ensures in
    let outcome = c.in-Ok-Blocked.ensures.outcome in
    let by = by_asker parts.pages.layout (transaction_of parts.transactions.opens c.args.session) c.args.asker in
    let below = table_below parts.pages.layout c.layout.result.now c.layout.ensures c.args.summarise.now.index c.index-index.result c.index-index.ensures c.table_of-table.result c.table_of-table.ensures.number c.table_of-table.ensures.there in
    let what = c.page_waited_for-what.result in
    let so = waits_there told parts c.args.session (hand_for c.args.asker) by c.args.summarise.now c.requires.fit below c.step.new.pages c.step.new.locks c.step.new.self
    (record { of = e.of; index = e.same_index; wish = e.same_wish; others = e.others; order = e.order; leaves = e.locks; counts = e.counts })
    c.a_summarise_steps_in_its_table.ensures.steps c.other_pages_show_alike.ensures c.step.new.rights c.in-Ok-Blocked.held (rw c.in-Ok-Blocked.field-0-is at c.in-Ok-Blocked.ensures.does)
    (rw c.in-Ok-Blocked.field-0-is at c.in-Ok-Blocked.ensures.stands) (rw c.in-Ok-Blocked.field-0-is at c.in-Ok-Blocked.ensures.blocked) (c.in-Ok-Blocked.ensures.own (own_before told parts c.args.session (hand_for c.args.asker) by c.args.summarise.now c.requires.fit below))
    (rw c.in-Ok-Blocked.field-0-is at c.in-Ok-Blocked.ensures.right) (outcome.0, outcome.1) what
    (of_same (λ (l : DiskLayout) (i : ℕ). (table at : ℕ) → slice_get (indexes_of l table) at ≡ Some i → what ≡ whats.Page (index_name l table at) c.in-Ok-Blocked.held.page.block)
    parts.pages.layout c.layout-in-Ok-Blocked.result.now (c.layout-in-Ok-Blocked.ensures ∙ e.others.leaves.layout) c.args.summarise.now.index c.index-index.result c.index-index.ensures c.page_waited_for-what.ensures.among) in
    record { so = so; survives = e.survives }

pub lock_waited_for-what-requires : goal.lock_waited_for-what-requires
lock_waited_for-what-requires g c =
    subst (λ (l : DiskLayout). c.table_of-table.result < length l.schema.tables) (c.layout.ensures ∙ sym (c.layout-in-Ok-NoRight.ensures ∙ c.step.ensures.others.leaves.layout)) c.table_of-table.ensures.there

pub returns-in-Ok-NoRight : goal.returns-in-Ok-NoRight
returns-in-Ok-NoRight g c =
    let told = g.D.Disk.told in
    let parts = c.args.parts.now in
    let hand = hand_for c.args.asker c.args.summarise.now in
    let e = c.step.ensures in
    let outcome = c.in-Ok-NoRight.ensures.outcome in
    let by = by_asker parts.pages.layout (transaction_of parts.transactions.opens c.args.session) c.args.asker in
    let number = table_is parts.pages.layout c.layout.result.now c.layout.ensures c.args.summarise.now.index c.index-index.result c.index-index.ensures c.table_of-table.result c.table_of-table.ensures.number in
    let below = table_below parts.pages.layout c.layout.result.now c.layout.ensures c.args.summarise.now.index c.index-index.result c.index-index.ensures c.table_of-table.result c.table_of-table.ensures.number c.table_of-table.ensures.there in
    let what = c.lock_waited_for-what.result in
    let so = lacks_right told parts c.args.session (hand_for c.args.asker) by c.args.summarise.now c.requires.fit below c.step.new.pages c.step.new.locks c.step.new.self
    (record { of = e.of; index = e.same_index; wish = e.same_wish; others = e.others; order = e.order; leaves = e.locks; counts = e.counts })
    c.a_summarise_steps_in_its_table.ensures.steps c.other_pages_show_alike.ensures c.step.new.rights c.in-Ok-NoRight.by (rw c.in-Ok-NoRight.field-0-is at c.in-Ok-NoRight.ensures.does)
    (rw c.in-Ok-NoRight.field-0-is at c.in-Ok-NoRight.ensures.stands) (rw c.in-Ok-NoRight.field-0-is at c.in-Ok-NoRight.ensures.no_right) (c.in-Ok-NoRight.ensures.own (own_before told parts c.args.session (hand_for c.args.asker) by c.args.summarise.now c.requires.fit below))
    (rw c.in-Ok-NoRight.field-0-is at c.in-Ok-NoRight.ensures.right) (outcome.0, outcome.1) what
    (subst (λ (t : ℕ). what ≡ whats.Work (table_name parts.pages.layout t)) number
    (subst (λ (l : DiskLayout). what ≡ whats.Work (table_name l c.table_of-table.result)) (c.layout-in-Ok-NoRight.ensures ∙ e.others.leaves.layout) c.lock_waited_for-what.ensures)) in
    record { so = so; survives = e.survives }

-- its index is full

pub refused-requires-clause-index : goal.refused-requires-clause-index
refused-requires-clause-index g c =
    let parts = c.args.parts.now in
    let fits = fit_of_parts g.D.Disk.told parts c.args.session (hand_for c.args.asker c.args.summarise.now) c.requires.fit in
    let by = by_asker parts.pages.layout (transaction_of parts.transactions.opens c.args.session) c.args.asker in
    of_same (λ (l : DiskLayout) (i : ℕ). i < length l.schema.indexes) c.step.new.pages.layout parts.pages.layout (sym c.step.ensures.others.leaves.layout) c.index-index.result c.args.summarise.now.index (sym c.index-index.ensures) (by.of c.args.summarise.now fits.in_hand).index

pub refused-requires-clause-table : goal.refused-requires-clause-table
refused-requires-clause-table g c =
    let parts = c.args.parts.now in
    let as_many = (fit_of_parts g.D.Disk.told parts c.args.session (hand_for c.args.asker c.args.summarise.now) c.requires.fit).rights in
    let below = c.table_of-table.ensures.there in
    let same = ap (λ (l : DiskLayout). length l.schema.tables) c.layout.ensures in
    let kept = ap (λ (l : List (Option ℕ)). length l) c.in-Err-Full.ensures.rights in
    omega (arith, as_many, below, same, kept)

pub returns-in-Err-Full : goal.returns-in-Err-Full
returns-in-Err-Full g c =
    let told = g.D.Disk.told in
    let parts = c.args.parts.now in
    let hand = hand_for c.args.asker c.args.summarise.now in
    let e = c.step.ensures in
    let later = c.refused.new.parts in
    let outcome = rw c.in-Err-Full.field-0-is at c.in-Err-Full.ensures.outcome in
    let full = rw c.in-Err-Full.field-0-is at c.in-Err-Full.ensures.full in
    let replied = rw c.in-Err-Full.field-0-is at c.refused.ensures.reply in
    let same_locks : c.step.new.locks ≡ parts.locks = rw c.in-Err-Full.field-0-is at c.in-Err-Full.ensures.at_full in
    let by = by_asker parts.pages.layout (transaction_of parts.transactions.opens c.args.session) c.args.asker in
    let number = table_is parts.pages.layout c.layout.result.now c.layout.ensures c.args.summarise.now.index c.index-index.result c.index-index.ensures c.table_of-table.result c.table_of-table.ensures.number in
    let below = table_below parts.pages.layout c.layout.result.now c.layout.ensures c.args.summarise.now.index c.index-index.result c.index-index.ensures c.table_of-table.result c.table_of-table.ensures.number c.table_of-table.ensures.there in
    let so : StepsSo told parts later c.args.session hand (stepped.Done c.refused.result) =
    subst (λ (q : Parts _). StepsSo told parts q c.args.session hand (stepped.Done c.refused.result)) (sym c.refused.ensures.rest)
    (full_so told parts c.args.session (hand_for c.args.asker) by c.args.summarise.now c.requires.fit below c.a_summarise_steps_in_its_table.ensures.full c.other_pages_show_alike.ensures c.step.new.pages c.step.new.locks later.locks c.step.new.self
    (record { of = e.of; index = e.same_index; wish = e.same_wish; others = e.others; order = e.order; leaves = e.locks; counts = e.counts })
    c.in-Err-Full.number full.1 same_locks c.in-Err-Full.ensures.kept (outcome.0, outcome.1) c.refused.ensures.all c.refused.ensures.limit c.refused.ensures.none (λ m other. c.refused.ensures.counts.others m other) later.rights
    (subst (λ (r : List (Option ℕ)). right_of r (index_at parts.pages.layout c.args.summarise.now.index).table ≡ Some c.args.session → later.rights ≡ slice_set r (index_at parts.pages.layout c.args.summarise.now.index).table None) c.in-Err-Full.ensures.rights
    (subst (λ (t : ℕ). right_of c.step.new.rights t ≡ Some c.args.session → later.rights ≡ slice_set c.step.new.rights t None) number c.refused.ensures.given))
    (subst (λ (r : List (Option ℕ)). right_of r (index_at parts.pages.layout c.args.summarise.now.index).table ≢ Some c.args.session → later.rights ≡ r) c.in-Err-Full.ensures.rights
    (subst (λ (t : ℕ). right_of c.step.new.rights t ≢ Some c.args.session → later.rights ≡ c.step.new.rights) number c.refused.ensures.kept))
    c.refused.result
    (of_same (λ (l : DiskLayout) (i : ℕ). (table at : ℕ) → slice_get (indexes_of l table) at ≡ Some i → c.refused.result ≡ replies.Refused (refusals.Full (index_name l table at) c.in-Err-Full.number))
    parts.pages.layout c.step.new.pages.layout e.others.leaves.layout c.args.summarise.now.index c.index-index.result c.index-index.ensures replied)) in
    record { so = so; survives = subst (λ (q : Parts _). Survives told (λ (passed : PageMap). passed ≡ parts.pages.pages) parts.pages q.pages) (sym c.refused.ensures.rest) e.survives }

-- the pages refuse it

pub returns-in-Err-Store : goal.returns-in-Err-Store
returns-in-Err-Store g c =
    let told = g.D.Disk.told in
    let fault : c.fault_of-in-Err-Store.result ≡ fault_of c.in-Err-Store.error = rw c.in-Err-Store.field-0-is at c.fault_of-in-Err-Store.ensures in
    let parts = c.args.parts.now in
    let hand = hand_for c.args.asker c.args.summarise.now in
    let next = hand_for c.args.asker c.step.new.self in
    let e = c.step.ensures in
    let by = by_asker parts.pages.layout (transaction_of parts.transactions.opens c.args.session) c.args.asker in
    let below = table_below parts.pages.layout c.layout.result.now c.layout.ensures c.args.summarise.now.index c.index-index.result c.index-index.ensures c.table_of-table.result c.table_of-table.ensures.number c.table_of-table.ensures.there in
    let so = subst (λ (f : StoreFault). StepsSo told parts (with_these parts c.step.new.pages c.drop_all.new.self c.step.new.rights) c.args.session hand (stepped.Undone f next)) (sym fault)
    (subst (λ (r : List (Option ℕ)). StepsSo told parts (with_these parts c.step.new.pages c.drop_all.new.self r) c.args.session hand (stepped.Undone (fault_of c.in-Err-Store.error) next))
    (sym c.in-Err-Store.ensures.rights)
    (refused told parts c.args.session (hand_for c.args.asker) by c.args.summarise.now c.requires.fit below c.requires.shown c.a_kept_table_takes_a_summarise.ensures.sound c.step.new.pages c.step.new.locks c.drop_all.new.self c.step.new.self
    (record { of = e.of; index = e.same_index; wish = e.same_wish; others = e.others; order = e.order; leaves = e.locks; counts = e.counts })
    c.in-Err-Store.ensures.stays.0 c.drop_all.ensures.limit c.drop_all.ensures.none (λ m other. c.drop_all.ensures.counts.others m other) c.in-Err-Store.error (rw c.in-Err-Store.field-0-is at c.in-Err-Store.ensures.outcome)
    (summary_names parts.pages.layout c.args.summarise.now.index c.args.summarise.now.hand.stage c.in-Err-Store.error (rw c.in-Err-Store.field-0-is at c.in-Err-Store.ensures.at)))) in
    record { so = so; survives = e.survives }

-- it takes no memory

pub unreachable-requires : goal.unreachable-requires
unreachable-requires g c = rw c.in-Err-Memory.field-0-is at c.in-Err-Memory.ensures.outcome

pub unreachable-unreachable : goal.unreachable-unreachable
unreachable-unreachable g c = c.unreachable.result
