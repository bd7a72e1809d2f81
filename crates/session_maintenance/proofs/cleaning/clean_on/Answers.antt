use Rattle.std.proofs.Common.{◌≡◌, ◌≢◌, ℕ, ◌<◌, length, List, [], Option, None, Some, Ok, refl, sym, subst, ◌∙◌, arith}
use Rattle.std.specs.Prelude.{slice_set}
use Rattle.disk_trait.specs.Told.{Told}
use Rattle.page_map.specs.PageMap.{View}
use Rattle.block_model.specs.declared.reply.What.TheVariants as whats
use Rattle.store_layout.specs.DiskLayout.{DiskLayout}
use Rattle.page_locks.specs.declared.did.Did.TheVariants as did
use Rattle.page_locks.specs.LockHolders.{LockState}
use Rattle.page_locks.specs.RightHolders.{right_of}
use Rattle.snapshot_core.specs.declared.snapshots.Snapshot.{Snapshot}
use Rattle.tx_table.specs.TxState.{TxState}
use Rattle.index_contents.specs.IndexContents.{relation_of as index_relation}
use Rattle.script_semantics.specs.Names.{table_name}
use Rattle.vacuum_core.specs.Vacuums.{PrunesAt}
use Rattle.session_parts.specs.declared.hand.Cleaning.{Cleaning}
use Rattle.session_parts.specs.declared.hand.Hand.{Hand}
use Rattle.session_parts.specs.declared.hand.Hand.TheVariants as hands
use Rattle.session_parts.specs.declared.hand.Stepped.{Stepped}
use Rattle.session_parts.specs.declared.hand.Stepped.TheVariants as stepped
use Rattle.session_parts.specs.declared.faults.StoreFault.{StoreFault}
use Rattle.session_parts.specs.declared.parts.Parts.{Parts}
use Rattle.session_parts.specs.DamagedPages.{reopen_names, vacuum_names}
use Rattle.session_parts.specs.StepIs.{stepped_in}
use Rattle.session_parts.specs.UndoneLaws.{StepsSo}
use Rattle.session_parts.proofs.Undone.{refused_is_undone}
use Rattle.session_maintenance.proofs.UpkeepParts.{leaves_same}
use Rattle.page_store.specs.SurvivesLaws.{survives_still}
use Rattle.session_maintenance.proofs.CleaningDone.{finished, moved}
use Rattle.session_maintenance.proofs.CleaningParts.{fits, heap_there, of, with_these, within}
use Rattle.session_maintenance.proofs.CleaningRights.{right_left}
use Rattle.session_maintenance.proofs.CleaningWaits.{held_index, lacks_right, one_index, refused, waits_held}
use Rattle.session_maintenance.proofs.InHand.{fit_there, same_cleaning, shown_there, so_there}
use Rattle.session_maintenance.proofs.cleaning.clean_on.Goals as goal

-- it is a cleaning

pub unreachable-requires : goal.unreachable-requires
unreachable-requires g c = c.in_default.not-Cleans c.requires.which.0 c.requires.which.1

pub unreachable-unreachable : goal.unreachable-unreachable
unreachable-unreachable g c = c.unreachable.result

-- of the hand that cleans, whose step took no page lock
so_kept : {D : Type 0} (told : D → Told) (parts : Parts D) (n : ℕ) (hand : Hand) (x : Cleaning) → hand ≡ hands.Cleans x → (pages : View D) (locks : LockState) (righted : List (Option ℕ)) (answer : Stepped) → locks ≡ parts.locks
    → StepsSo told parts (with_these parts pages righted) n (hands.Cleans x) answer → StepsSo told parts (record parts { pages = pages; locks = locks; rights = righted }) n hand answer
so_kept told parts n hand x is pages locks righted answer same so = so_there told parts n hand (hands.Cleans x) is (record parts { pages = pages; locks = locks; rights = righted }) answer
    (subst (λ (l : LockState). StepsSo told parts (record parts { pages = pages; locks = l; rights = righted }) n (hands.Cleans x) answer) (sym same) so)

-- the pages refuse it before it

pub returns-in-Err : goal.returns-in-Err
returns-in-Err g c =
    let told = g.D.Disk.told in
    let parts = c.args.parts.now in
    let x = c.in-Cleans.cleaning in
    let hand = hands.Cleans x in
    let fit = fit_there told parts c.args.session c.args.hand.now (hands.Cleans x) c.in-Cleans.is c.requires.fit in
    let so = so_there told parts c.args.session c.args.hand.now hand c.in-Cleans.is parts (stepped.Undone c.fault_of.result hand)
    (subst (λ (f : StoreFault). StepsSo told parts parts c.args.session hand (stepped.Undone f hand)) (sym c.fault_of.ensures)
    (refused_is_undone told parts parts c.args.session hand c.in-Err.error fit (fits told parts c.args.session x fit).over (leaves_same told parts.pages)
    (record { transactions = refl; locks = refl; rights = refl; journal = refl; queue = refl; dropped = refl }) c.in-Err.ensures.outcome (reopen_names parts.pages.layout c.in-Err.error c.in-Err.ensures.reopen))) in
    record { steps = so.steps; fit = so.fit; others = so.others; stays = so.stays; cause = so.cause; survives = survives_still told parts.pages c.ready.ensures.stays }

-- the step may be made

pub step-requires-clause-of : goal.step-requires-clause-of
step-requires-clause-of g c =
    let told = g.D.Disk.told in
    let parts = c.args.parts.now in
    let x = c.in-Cleans.cleaning in
    let fit = fit_there told parts c.args.session c.args.hand.now (hands.Cleans x) c.in-Cleans.is c.requires.fit in
    of told parts c.args.session x fit

pub step-requires-clause-left : goal.step-requires-clause-left
step-requires-clause-left g c =
    let told = g.D.Disk.told in
    let parts = c.args.parts.now in
    let x = c.in-Cleans.cleaning in
    let fit = fit_there told parts c.args.session c.args.hand.now (hands.Cleans x) c.in-Cleans.is c.requires.fit in
    (fits told parts c.args.session x fit).in_hand.left

pub step-requires-clause-rights : goal.step-requires-clause-rights
step-requires-clause-rights g c =
    let told = g.D.Disk.told in
    let parts = c.args.parts.now in
    let x = c.in-Cleans.cleaning in
    let fit = fit_there told parts c.args.session c.args.hand.now (hands.Cleans x) c.in-Cleans.is c.requires.fit in
    let as_many = (fits told parts c.args.session x fit).rights in
    omega (arith, as_many)

pub step-requires-clause-heap : goal.step-requires-clause-heap
step-requires-clause-heap g c =
    let told = g.D.Disk.told in
    let parts = c.args.parts.now in
    let x = c.in-Cleans.cleaning in
    let fit = fit_there told parts c.args.session c.args.hand.now (hands.Cleans x) c.in-Cleans.is c.requires.fit in
    heap_there told parts c.args.session x fit (shown_there told parts c.args.session c.args.hand.now (hands.Cleans x) c.in-Cleans.is c.requires.shown) c.in-Ok.ensures.outcome.0

-- it goes on

pub returns-in-Ok-Moved : goal.returns-in-Ok-Moved
returns-in-Ok-Moved g c =
    let told = g.D.Disk.told in
    let parts = c.args.parts.now in
    let x = c.in-Cleans.cleaning in
    let fit = fit_there told parts c.args.session c.args.hand.now (hands.Cleans x) c.in-Cleans.is c.requires.fit in
    let e = c.step.ensures in
    let it = c.in-Ok-Moved.ensures in
    let point = c.in-Ok-Moved.point in
    let so = so_kept told parts c.args.session c.args.hand.now x c.in-Cleans.is c.step.new.pages c.step.new.locks c.step.new.rights (stepped.Moved point (hands.Cleans (record { vacuum = c.step.new.self; summaries = x.summaries }))) e.locks
    (moved told parts c.args.session x fit c.step.new.pages c.step.new.self (record { of_then = e.of; table = e.same_table; others = e.others; leaves = e.leaves; order = e.order }) c.a_vacuum_steps_in_its_table.ensures.steps
    (record { oldest = c.oldest_speaks_for_all.ensures; by_journal = c.dead_to_all_is_dead.ensures.blocks; spared = c.a_table_is_watched.ensures.spared }) c.step.new.rights point (rw c.in-Ok-Moved.field-0-is at it.does)
    (subst (λ (l : List Snapshot). PrunesAt told parts.pages c.step.new.pages l parts.transactions.tx.first x.vacuum x.vacuum.standing) c.oldest_snapshot-live.ensures
    (subst (λ (t : TxState). PrunesAt told parts.pages c.step.new.pages c.oldest_snapshot-live.result.now t.first x.vacuum x.vacuum.standing) c.tx.ensures it.pruned))
    (rw c.in-Ok-Moved.field-0-is at it.stands) (rw c.in-Ok-Moved.field-0-is at it.right) (it.outcome.0, it.outcome.1)) in
    record { steps = so.steps; fit = so.fit; others = so.others; stays = so.stays; cause = so.cause; survives = e.survives }

-- it comes to its summaries, or replies

pub end_cleaning-requires-clause-which : goal.end_cleaning-requires-clause-which
end_cleaning-requires-clause-which g c = (record { vacuum = c.step.new.self; summaries = c.in-Cleans.cleaning.summaries }, refl)

pub end_cleaning-requires-clause-table : goal.end_cleaning-requires-clause-table
end_cleaning-requires-clause-table g c = λ cleaning is.
    let told = g.D.Disk.told in
    let parts = c.args.parts.now in
    let x = c.in-Cleans.cleaning in
    let fit = fit_there told parts c.args.session c.args.hand.now (hands.Cleans x) c.in-Cleans.is c.requires.fit in
    let e = c.step.ensures in
    let it = c.in-Ok-Finished.ensures in
    let inside = within told parts c.args.session x fit in
    let kept = (right_left x.vacuum.table c.args.session parts.rights c.step.new.rights x.vacuum.standing (did.Finished c.in-Ok-Finished.point) inside (rw c.in-Ok-Finished.field-0-is at it.right)).tables in
    let same = e.same_table in
    let there : c.step.new.self.table < length c.step.new.rights = omega (arith, inside, kept, same) in
    subst (λ (k : Cleaning). k.vacuum.table < length c.step.new.rights) (same_cleaning is) there

pub returns-in-Ok-Finished : goal.returns-in-Ok-Finished
returns-in-Ok-Finished g c =
    let told = g.D.Disk.told in
    let parts = c.args.parts.now in
    let x = c.in-Cleans.cleaning in
    let fit = fit_there told parts c.args.session c.args.hand.now (hands.Cleans x) c.in-Cleans.is c.requires.fit in
    let e = c.step.ensures in
    let it = c.in-Ok-Finished.ensures in
    let point = c.in-Ok-Finished.point in
    let given = c.end_cleaning.new.rights in
    let ends = c.end_cleaning.ensures (record { vacuum = c.step.new.self; summaries = x.summaries }) refl in
    let answer = stepped_in c.end_cleaning.new.hand (Ok c.end_cleaning.result) in
    let so = so_kept told parts c.args.session c.args.hand.now x c.in-Cleans.is c.step.new.pages c.step.new.locks given (answer) e.locks
    (subst (λ (a : Stepped). StepsSo told parts (with_these parts c.step.new.pages given) c.args.session (hands.Cleans x) a) (sym ends.answer)
    (finished told parts c.args.session x fit c.step.new.pages c.step.new.self (record { of_then = e.of; table = e.same_table; others = e.others; leaves = e.leaves; order = e.order }) c.a_vacuum_steps_in_its_table.ensures.steps
    (record { oldest = c.oldest_speaks_for_all.ensures; by_journal = c.dead_to_all_is_dead.ensures.blocks; spared = c.a_table_is_watched.ensures.spared }) c.step.new.rights point (rw c.in-Ok-Finished.field-0-is at it.does)
    (subst (λ (l : List Snapshot). PrunesAt told parts.pages c.step.new.pages l parts.transactions.tx.first x.vacuum x.vacuum.standing) c.oldest_snapshot-live.ensures
    (subst (λ (t : TxState). PrunesAt told parts.pages c.step.new.pages c.oldest_snapshot-live.result.now t.first x.vacuum x.vacuum.standing) c.tx.ensures it.pruned))
    (rw c.in-Ok-Finished.field-0-is at it.stands) (rw c.in-Ok-Finished.field-0-is at it.right) (it.outcome.0, it.outcome.1) given x.summaries.items refl
    (subst (λ (t : ℕ). x.summaries.items ≡ [] → right_of c.step.new.rights t ≡ Some c.args.session → given ≡ slice_set c.step.new.rights t None) e.same_table ends.given)
    (subst (λ (t : ℕ). x.summaries.items ≡ [] → right_of c.step.new.rights t ≢ Some c.args.session → given ≡ c.step.new.rights) e.same_table ends.same)
    ends.held)) in
    record { steps = so.steps; fit = so.fit; others = so.others; stays = so.stays; cause = so.cause; survives = e.survives }

-- it waits

pub index_of-index-requires : goal.index_of-index-requires
index_of-index-requires g c =
    let told = g.D.Disk.told in
    let parts = c.args.parts.now in
    let x = c.in-Cleans.cleaning in
    let fit = fit_there told parts c.args.session c.args.hand.now (hands.Cleans x) c.in-Cleans.is c.requires.fit in
    let e = c.step.ensures in
    let it = c.in-Ok-Blocked.ensures in
    let stands = (rw c.in-Ok-Blocked.field-0-is at it.stands) in
    subst (λ (l : DiskLayout). (index : ℕ) × (index < length l.schema.indexes) × (c.in-Ok-Blocked.held.page.relation ≡ index_relation l index)) (sym (c.layout.ensures ∙ e.leaves.layout))
    (held_index told x.vacuum c.args.session parts.pages c.step.new.pages parts.locks c.in-Ok-Blocked.held (of told parts c.args.session x fit) stands.0 (rw c.in-Ok-Blocked.field-0-is at it.blocked))

pub page_waited_for-what-requires : goal.page_waited_for-what-requires
page_waited_for-what-requires g c =
    let told = g.D.Disk.told in
    let parts = c.args.parts.now in
    let x = c.in-Cleans.cleaning in
    let fit = fit_there told parts c.args.session c.args.hand.now (hands.Cleans x) c.in-Cleans.is c.requires.fit in
    let e = c.step.ensures in
    let it = c.in-Ok-Blocked.ensures in
    let stands = (rw c.in-Ok-Blocked.field-0-is at it.stands) in
    let index = held_index told x.vacuum c.args.session parts.pages c.step.new.pages parts.locks c.in-Ok-Blocked.held (of told parts c.args.session x fit) stands.0 (rw c.in-Ok-Blocked.field-0-is at it.blocked) in
    let same = one_index parts.pages.layout c.layout.result.now index.0 c.index_of-index.result c.in-Ok-Blocked.held.page.relation (c.layout.ensures ∙ e.leaves.layout) index.2 c.index_of-index.ensures in
    subst (λ (l : DiskLayout). c.index_of-index.result < length l.schema.indexes) (sym (c.layout-in-Ok-Blocked.ensures ∙ e.leaves.layout)) (subst (λ (i : ℕ). i < length parts.pages.layout.schema.indexes) (sym same) index.1)

pub returns-in-Ok-Blocked : goal.returns-in-Ok-Blocked
returns-in-Ok-Blocked g c =
    let told = g.D.Disk.told in
    let parts = c.args.parts.now in
    let x = c.in-Cleans.cleaning in
    let fit = fit_there told parts c.args.session c.args.hand.now (hands.Cleans x) c.in-Cleans.is c.requires.fit in
    let e = c.step.ensures in
    let it = c.in-Ok-Blocked.ensures in
    let stands = (rw c.in-Ok-Blocked.field-0-is at it.stands) in
    let what = c.page_waited_for-what.result in
    let so = so_kept told parts c.args.session c.args.hand.now x c.in-Cleans.is c.step.new.pages c.step.new.locks c.step.new.rights (stepped.Blocked what c.in-Ok-Blocked.held.by (hands.Cleans (record { vacuum = c.step.new.self; summaries = x.summaries }))) e.locks
    (waits_held told parts c.args.session x fit c.step.new.pages c.step.new.self (record { of_then = e.of; table = e.same_table; others = e.others; leaves = e.leaves; order = e.order }) stands.1 c.a_vacuum_steps_in_its_table.ensures.steps c.step.new.rights c.in-Ok-Blocked.held stands.0 (rw c.in-Ok-Blocked.field-0-is at it.does)
    (rw c.in-Ok-Blocked.field-0-is at it.blocked) (rw c.in-Ok-Blocked.field-0-is at it.right) (it.outcome.0, it.outcome.1) what c.index_of-index.result c.layout.result.now c.layout-in-Ok-Blocked.result.now
    (c.layout.ensures ∙ e.leaves.layout) (c.layout-in-Ok-Blocked.ensures ∙ e.leaves.layout) c.index_of-index.ensures c.page_waited_for-what.ensures.among) in
    record { steps = so.steps; fit = so.fit; others = so.others; stays = so.stays; cause = so.cause; survives = e.survives }

pub lock_waited_for-what-requires : goal.lock_waited_for-what-requires
lock_waited_for-what-requires g c =
    let told = g.D.Disk.told in
    let parts = c.args.parts.now in
    let x = c.in-Cleans.cleaning in
    let fit = fit_there told parts c.args.session c.args.hand.now (hands.Cleans x) c.in-Cleans.is c.requires.fit in
    subst (λ (l : DiskLayout). c.table-table.result < length l.schema.tables) (sym (c.layout-in-Ok-NoRight.ensures ∙ c.step.ensures.leaves.layout))
    (subst (λ (t : ℕ). t < length parts.pages.layout.schema.tables) (sym c.table-table.ensures) (of told parts c.args.session x fit).table)

pub returns-in-Ok-NoRight : goal.returns-in-Ok-NoRight
returns-in-Ok-NoRight g c =
    let told = g.D.Disk.told in
    let parts = c.args.parts.now in
    let x = c.in-Cleans.cleaning in
    let fit = fit_there told parts c.args.session c.args.hand.now (hands.Cleans x) c.in-Cleans.is c.requires.fit in
    let e = c.step.ensures in
    let it = c.in-Ok-NoRight.ensures in
    let stands = (rw c.in-Ok-NoRight.field-0-is at it.stands) in
    let what = c.lock_waited_for-what.result in
    let so = so_kept told parts c.args.session c.args.hand.now x c.in-Cleans.is c.step.new.pages c.step.new.locks c.step.new.rights (stepped.Blocked what c.in-Ok-NoRight.by (hands.Cleans (record { vacuum = c.step.new.self; summaries = x.summaries }))) e.locks
    (lacks_right told parts c.args.session x fit c.step.new.pages c.step.new.self (record { of_then = e.of; table = e.same_table; others = e.others; leaves = e.leaves; order = e.order }) stands.1 c.a_vacuum_steps_in_its_table.ensures.steps c.step.new.rights c.in-Ok-NoRight.by stands.0 (rw c.in-Ok-NoRight.field-0-is at it.does)
    (rw c.in-Ok-NoRight.field-0-is at it.right) (it.outcome.0, it.outcome.1) what
    (subst (λ (t : ℕ). what ≡ whats.Work (table_name parts.pages.layout t)) c.table-table.ensures
    (subst (λ (l : DiskLayout). what ≡ whats.Work (table_name l c.table-table.result)) (c.layout-in-Ok-NoRight.ensures ∙ e.leaves.layout) c.lock_waited_for-what.ensures))) in
    record { steps = so.steps; fit = so.fit; others = so.others; stays = so.stays; cause = so.cause; survives = e.survives }

-- the pages refuse it

pub returns-in-Err-Store : goal.returns-in-Err-Store
returns-in-Err-Store g c =
    let told = g.D.Disk.told in
    let parts = c.args.parts.now in
    let x = c.in-Cleans.cleaning in
    let fit = fit_there told parts c.args.session c.args.hand.now (hands.Cleans x) c.in-Cleans.is c.requires.fit in
    let e = c.step.ensures in
    let it = c.in-Err-Store.ensures in
    let next = hands.Cleans (record { vacuum = c.step.new.self; summaries = x.summaries }) in
    let so = so_kept told parts c.args.session c.args.hand.now x c.in-Cleans.is c.step.new.pages c.step.new.locks c.step.new.rights (stepped.Undone c.fault_of-in-Err-Store.result next) e.locks
    (subst (λ (f : StoreFault). StepsSo told parts (with_these parts c.step.new.pages c.step.new.rights) c.args.session (hands.Cleans x) (stepped.Undone f next)) (sym c.fault_of-in-Err-Store.ensures)
    (refused told parts c.args.session x fit c.step.new.pages c.step.new.self (record { of_then = e.of; table = e.same_table; others = e.others; leaves = e.leaves; order = e.order }) it.stays c.step.new.rights it.rights c.in-Err-Store.error (rw c.in-Err-Store.field-0-is at it.outcome)
    (vacuum_names parts.pages.layout x.vacuum.table c.in-Err-Store.error (rw c.in-Err-Store.field-0-is at it.at)))) in
    record { steps = so.steps; fit = so.fit; others = so.others; stays = so.stays; cause = so.cause; survives = e.survives }

pub unreachable-requires-in-Err-Full : goal.unreachable-requires-in-Err-Full
unreachable-requires-in-Err-Full g c = rw c.in-Err-Full.field-0-is at c.in-Err-Full.ensures.at

pub unreachable-unreachable-in-Err-Full : goal.unreachable-unreachable-in-Err-Full
unreachable-unreachable-in-Err-Full g c = c.unreachable-in-Err-Full.result

pub unreachable-requires-in-Err-Memory : goal.unreachable-requires-in-Err-Memory
unreachable-requires-in-Err-Memory g c = rw c.in-Err-Memory.field-0-is at c.in-Err-Memory.ensures.at

pub unreachable-unreachable-in-Err-Memory : goal.unreachable-unreachable-in-Err-Memory
unreachable-unreachable-in-Err-Memory g c = c.unreachable-in-Err-Memory.result
