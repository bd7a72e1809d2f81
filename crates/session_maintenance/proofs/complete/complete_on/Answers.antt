use Rattle.std.proofs.Common.{◌≡◌, ◌≢◌, ℕ, ◌<◌, ◌≤◌, length, List, Option, None, Some, Ok, refl, sym, ap, subst, ◌∙◌, arith, length-set}
use Rattle.std.specs.Prelude.{slice_get, slice_set}
use Rattle.std.specs.Vec.{with_item}
use Rattle.block_model.specs.declared.reply.Refusal.TheVariants as refusals
use Rattle.block_model.specs.declared.reply.Reply.TheVariants as replies
use Rattle.block_model.specs.declared.reply.What.TheVariants as whats
use Rattle.store_layout.specs.DiskLayout.{DiskLayout}
use Rattle.page_store.specs.SurvivesLaws.{survives_still}
use Rattle.page_store.specs.Survives.{Survives}
use Rattle.page_locks.specs.declared.did.Did.TheVariants as did
use Rattle.page_locks.specs.RightHolders.{right_of}
use Rattle.page_map.specs.PageMap.{PageMap}
use Rattle.index_steps.specs.IndexTuples.{index_at}
use Rattle.index_steps.specs.ShownTable.{indexes_of}
use Rattle.script_semantics.specs.Names.{index_name, table_name}
use Rattle.session_parts.specs.declared.hand.Completing.{Completing}
use Rattle.session_parts.specs.declared.hand.Hand.TheVariants as hands
use Rattle.session_parts.specs.declared.hand.Stepped.TheVariants as stepped
use Rattle.session_parts.specs.declared.faults.StoreFault.{StoreFault}
use Rattle.session_parts.specs.declared.parts.Parts.{Parts}
use Rattle.session_parts.specs.DamagedPages.{reopen_names, summary_names}
use Rattle.session_parts.specs.StepIs.{stepped_in}
use Rattle.session_parts.specs.StoreFaults.{fault_of}
use Rattle.session_parts.specs.UndoneLaws.{StepsSo}
use Rattle.session_parts.proofs.Undone.{fit_of_parts, refused_is_undone}
use Rattle.session_maintenance.proofs.SummariseParts.{summarise_takes}
use Rattle.session_maintenance.proofs.SummariseTurns.{right_left}
use Rattle.session_maintenance.proofs.UpkeepAt.{of_same}
use Rattle.session_maintenance.proofs.UpkeepParts.{leaves_same, with_these}
use Rattle.session_maintenance.proofs.CompleteFull.{full_so}
use Rattle.session_maintenance.proofs.IndexEnds.{finished}
use Rattle.session_maintenance.proofs.Summaries.{few_ranges, got_now, inside, is_left, is_of}
use Rattle.session_maintenance.proofs.SummarySteps.{IsNow, OfTable, is_now, is_ready, lacks_right, moved, own_was, refused, waits_there, within}
use Rattle.session_maintenance.proofs.complete.complete_on.Goals as goal

-- the pages refuse it before it

pub returns-in-Err : goal.returns-in-Err
returns-in-Err g c =
    let told = g.D.Disk.told in
    let parts = c.args.parts.now in
    let hand = hands.Completes c.args.completing.now in
    let so = subst (λ (f : StoreFault). StepsSo told parts parts c.args.session hand (stepped.Undone f hand)) (sym c.fault_of.ensures)
    (refused_is_undone told parts parts c.args.session hand c.in-Err.error c.requires.fit (fit_of_parts told parts c.args.session hand c.requires.fit).over (leaves_same told parts.pages)
    (record { transactions = refl; locks = refl; rights = refl; journal = refl; queue = refl; dropped = refl }) c.in-Err.ensures.outcome (reopen_names parts.pages.layout c.in-Err.error c.in-Err.ensures.reopen)) in
    record { steps = so.steps; fit = so.fit; others = so.others; stays = so.stays; cause = so.cause; survives = survives_still told parts.pages c.ready.ensures.stays }

-- the step may be made

pub index_mut-summary-requires : goal.index_mut-summary-requires
index_mut-summary-requires g c =
    let fits = fit_of_parts g.D.Disk.told c.args.parts.now c.args.session (hands.Completes c.args.completing.now) c.requires.fit in
    let below = inside c.args.completing.now fits.in_hand.now fits.in_hand.is in
    let as_long = c.args.completing.now.summaries.ok.0 in
    omega (arith, below, as_long)

pub step-requires-clause-of : goal.step-requires-clause-of
step-requires-clause-of g c =
    let parts = c.args.parts.now in
    let a = c.index_mut-summary.result.now in
    let fits = fit_of_parts g.D.Disk.told parts c.args.session (hands.Completes c.args.completing.now) c.requires.fit in
    (is_of c.args.completing.now a (got_now c.args.completing.now parts.pages.layout a fits.in_hand c.index_mut-summary.ensures.value) parts.pages.layout fits.in_hand).0

pub step-requires-clause-left : goal.step-requires-clause-left
step-requires-clause-left g c =
    let parts = c.args.parts.now in
    let a = c.index_mut-summary.result.now in
    let fits = fit_of_parts g.D.Disk.told parts c.args.session (hands.Completes c.args.completing.now) c.requires.fit in
    is_left c.args.completing.now a (got_now c.args.completing.now parts.pages.layout a fits.in_hand c.index_mut-summary.ensures.value) parts.pages.layout fits.in_hand

pub step-requires-clause-rights : goal.step-requires-clause-rights
step-requires-clause-rights g c =
    let as_many = (fit_of_parts g.D.Disk.told c.args.parts.now c.args.session (hands.Completes c.args.completing.now) c.requires.fit).rights in
    omega (arith, as_many)

pub step-requires-clause-locks : goal.step-requires-clause-locks
step-requires-clause-locks g c = λ some.
    let few = c.requires.few in
    let limit = (fit_of_parts g.D.Disk.told c.args.parts.now c.args.session (hands.Completes c.args.completing.now) c.requires.fit).limit in
    let takes = summarise_takes c.index_mut-summary.result.now in
    omega (arith, few, limit, takes)

pub step-requires-clause-ready : goal.step-requires-clause-ready
step-requires-clause-ready g c = λ tells.
    let parts = c.args.parts.now in
    let x = c.args.completing.now in
    let a = c.index_mut-summary.result.now in
    let fits = fit_of_parts g.D.Disk.told parts c.args.session (hands.Completes x) c.requires.fit in
    let at : IsNow parts.pages.layout x a = is_now parts.pages.layout x a fits.in_hand c.index_mut-summary.ensures.value (subst OfTable c.layout.ensures c.indexes_are_listed.ensures.of_table) in
    is_ready g.D.Disk.told parts c.args.session x a at.got c.requires.fit at.table c.requires.shown tells c.in-Ok.ensures.outcome.0 c.a_kept_table_takes_a_summarise.ensures.ready

-- it goes on

pub returns-in-Ok-Moved : goal.returns-in-Ok-Moved
returns-in-Ok-Moved g c =
    let told = g.D.Disk.told in
    let parts = c.args.parts.now in
    let x = c.args.completing.now in
    let a = c.index_mut-summary.result.now in
    let then : Completing = record x { summaries = with_item x.summaries x.next c.step.new.self } in
    let e = c.step.ensures in
    let outcome = c.in-Ok-Moved.ensures.outcome in
    let fits = fit_of_parts told parts c.args.session (hands.Completes x) c.requires.fit in
    let at : IsNow parts.pages.layout x a = is_now parts.pages.layout x a fits.in_hand c.index_mut-summary.ensures.value (subst OfTable c.layout.ensures c.indexes_are_listed.ensures.of_table) in
    let so = moved told parts c.args.session x a at.got c.requires.fit at.table c.step.new.pages c.step.new.locks c.step.new.self
    (record { of = e.of; index = e.same_index; wish = e.same_wish; others = e.others; order = e.order; leaves = e.locks; counts = e.counts })
    then (record { items = refl; table = refl; rows = refl; unnamed = refl }) refl refl
    c.a_summarise_steps_in_its_table.ensures.steps c.other_pages_show_alike.ensures c.step.new.rights c.in-Ok-Moved.point (rw c.in-Ok-Moved.field-0-is at c.in-Ok-Moved.ensures.does)
    (rw c.in-Ok-Moved.field-0-is at c.in-Ok-Moved.ensures.stands) (c.in-Ok-Moved.ensures.own (own_was told parts c.args.session x a at.got c.requires.fit at.table)) (rw c.in-Ok-Moved.field-0-is at c.in-Ok-Moved.ensures.right) (outcome.0, outcome.1) in
    record { steps = so.steps; fit = so.fit; others = so.others; stays = so.stays; cause = so.cause; survives = e.survives }

-- its index is done: the next one comes, or it replies and gives the summarise lock

pub end_index-requires-clause-now : goal.end_index-requires-clause-now
end_index-requires-clause-now g c =
    let x = c.args.completing.now in
    let fits = fit_of_parts g.D.Disk.told c.args.parts.now c.args.session (hands.Completes x) c.requires.fit in
    let below = inside x fits.in_hand.now fits.in_hand.is in
    let long = length-set x.summaries.items x.next c.step.new.self in
    omega (arith, below, long)

pub end_index-requires-clause-few : goal.end_index-requires-clause-few
end_index-requires-clause-few g c =
    let told = g.D.Disk.told in
    let parts = c.args.parts.now in
    let x = c.args.completing.now in
    let a = c.index_mut-summary.result.now in
    let e = c.step.ensures in
    let fits = fit_of_parts told parts c.args.session (hands.Completes x) c.requires.fit in
    let few = subst (λ (l : DiskLayout). length (indexes_of l x.table) ≤ 8) c.layout.ensures (c.indexes_are_listed.ensures.few x.table) in
    few_ranges parts.pages.layout x (record x { summaries = with_item x.summaries x.next c.step.new.self }) a c.step.new.self (got_now x parts.pages.layout a fits.in_hand c.index_mut-summary.ensures.value) fits.in_hand refl refl e.same_index e.same_wish e.of refl refl
    (rw c.in-Ok-Finished.field-0-is at c.in-Ok-Finished.ensures.stands) few

pub end_index-requires-clause-table : goal.end_index-requires-clause-table
end_index-requires-clause-table g c =
    let told = g.D.Disk.told in
    let parts = c.args.parts.now in
    let x = c.args.completing.now in
    let a = c.index_mut-summary.result.now in
    let fits = fit_of_parts told parts c.args.session (hands.Completes x) c.requires.fit in
    let at : IsNow parts.pages.layout x a = is_now parts.pages.layout x a fits.in_hand c.index_mut-summary.ensures.value (subst OfTable c.layout.ensures c.indexes_are_listed.ensures.of_table) in
    let inside = within told parts c.args.session x a at.got c.requires.fit at.table in
    let left = right_left (index_at parts.pages.layout a.index).table c.args.session parts.rights c.step.new.rights a.standing (did.Finished c.in-Ok-Finished.point) inside (rw c.in-Ok-Finished.field-0-is at c.in-Ok-Finished.ensures.right) in
    let kept = left.tables in
    let own = at.table in
    omega (arith, inside, kept, own)

pub returns-in-Ok-Finished : goal.returns-in-Ok-Finished
returns-in-Ok-Finished g c =
    let told = g.D.Disk.told in
    let parts = c.args.parts.now in
    let x = c.args.completing.now in
    let a = c.index_mut-summary.result.now in
    let then : Completing = record x { summaries = with_item x.summaries x.next c.step.new.self } in
    let e = c.step.ensures in
    let ends = c.end_index.ensures in
    let outcome = c.in-Ok-Finished.ensures.outcome in
    let fits = fit_of_parts told parts c.args.session (hands.Completes x) c.requires.fit in
    let at : IsNow parts.pages.layout x a = is_now parts.pages.layout x a fits.in_hand c.index_mut-summary.ensures.value (subst OfTable c.layout.ensures c.indexes_are_listed.ensures.of_table) in
    let so = finished told parts c.args.session x a at c.requires.fit c.step.new.pages c.step.new.locks c.step.new.self
    (record { of = e.of; index = e.same_index; wish = e.same_wish; others = e.others; order = e.order; leaves = e.locks; counts = e.counts })
    then (record { items = refl; table = refl; rows = refl; unnamed = refl }) refl refl
    c.a_summarise_steps_in_its_table.ensures.steps c.other_pages_show_alike.ensures c.step.new.rights c.end_index.new.rights c.in-Ok-Finished.point (stepped_in (hands.Completes c.end_index.new.completing) (Ok c.end_index.result)) (rw c.in-Ok-Finished.field-0-is at c.in-Ok-Finished.ensures.does)
    (rw c.in-Ok-Finished.field-0-is at c.in-Ok-Finished.ensures.stands) (c.in-Ok-Finished.ensures.own (own_was told parts c.args.session x a at.got c.requires.fit at.table)) (rw c.in-Ok-Finished.field-0-is at c.in-Ok-Finished.ensures.right) (outcome.0, outcome.1)
    (record { next = ends.next; held = ends.held; reply = ends.reply; gives = ends.given; keeps = ends.kept }) in
    record { steps = so.steps; fit = so.fit; others = so.others; stays = so.stays; cause = so.cause; survives = e.survives }

-- it waits

pub page_waited_for-what-requires : goal.page_waited_for-what-requires
page_waited_for-what-requires g c =
    let parts = c.args.parts.now in
    let a = c.index_mut-summary.result.now in
    let fits = fit_of_parts g.D.Disk.told parts c.args.session (hands.Completes c.args.completing.now) c.requires.fit in
    let of = (is_of c.args.completing.now a (got_now c.args.completing.now parts.pages.layout a fits.in_hand c.index_mut-summary.ensures.value) parts.pages.layout fits.in_hand).0 in
    of_same (λ (l : DiskLayout) (i : ℕ). i < length l.schema.indexes) c.layout-in-Ok-Blocked.result.now parts.pages.layout (sym (c.layout-in-Ok-Blocked.ensures ∙ c.step.ensures.others.leaves.layout))
    c.index-index.result a.index (sym c.index-index.ensures) of.index

pub returns-in-Ok-Blocked : goal.returns-in-Ok-Blocked
returns-in-Ok-Blocked g c =
    let told = g.D.Disk.told in
    let parts = c.args.parts.now in
    let x = c.args.completing.now in
    let a = c.index_mut-summary.result.now in
    let then : Completing = record x { summaries = with_item x.summaries x.next c.step.new.self } in
    let e = c.step.ensures in
    let outcome = c.in-Ok-Blocked.ensures.outcome in
    let fits = fit_of_parts told parts c.args.session (hands.Completes x) c.requires.fit in
    let at : IsNow parts.pages.layout x a = is_now parts.pages.layout x a fits.in_hand c.index_mut-summary.ensures.value (subst OfTable c.layout.ensures c.indexes_are_listed.ensures.of_table) in
    let what = c.page_waited_for-what.result in
    let so = waits_there told parts c.args.session x a at.got c.requires.fit at.table c.step.new.pages c.step.new.locks c.step.new.self
    (record { of = e.of; index = e.same_index; wish = e.same_wish; others = e.others; order = e.order; leaves = e.locks; counts = e.counts })
    then (record { items = refl; table = refl; rows = refl; unnamed = refl }) refl refl
    c.a_summarise_steps_in_its_table.ensures.steps c.other_pages_show_alike.ensures c.step.new.rights c.in-Ok-Blocked.held (rw c.in-Ok-Blocked.field-0-is at c.in-Ok-Blocked.ensures.does)
    (rw c.in-Ok-Blocked.field-0-is at c.in-Ok-Blocked.ensures.stands) (rw c.in-Ok-Blocked.field-0-is at c.in-Ok-Blocked.ensures.blocked) (c.in-Ok-Blocked.ensures.own (own_was told parts c.args.session x a at.got c.requires.fit at.table))
    (rw c.in-Ok-Blocked.field-0-is at c.in-Ok-Blocked.ensures.right) (outcome.0, outcome.1) what
    (of_same (λ (l : DiskLayout) (i : ℕ). (table at : ℕ) → slice_get (indexes_of l table) at ≡ Some i → what ≡ whats.Page (index_name l table at) c.in-Ok-Blocked.held.page.block)
    parts.pages.layout c.layout-in-Ok-Blocked.result.now (c.layout-in-Ok-Blocked.ensures ∙ e.others.leaves.layout) a.index c.index-index.result c.index-index.ensures c.page_waited_for-what.ensures.among) in
    record { steps = so.steps; fit = so.fit; others = so.others; stays = so.stays; cause = so.cause; survives = e.survives }

pub lock_waited_for-what-requires : goal.lock_waited_for-what-requires
lock_waited_for-what-requires g c =
    let fits = fit_of_parts g.D.Disk.told c.args.parts.now c.args.session (hands.Completes c.args.completing.now) c.requires.fit in
    subst (λ (l : DiskLayout). c.args.completing.now.table < length l.schema.tables) (sym (c.layout-in-Ok-NoRight.ensures ∙ c.step.ensures.others.leaves.layout)) fits.in_hand.table

pub returns-in-Ok-NoRight : goal.returns-in-Ok-NoRight
returns-in-Ok-NoRight g c =
    let told = g.D.Disk.told in
    let parts = c.args.parts.now in
    let x = c.args.completing.now in
    let a = c.index_mut-summary.result.now in
    let then : Completing = record x { summaries = with_item x.summaries x.next c.step.new.self } in
    let e = c.step.ensures in
    let outcome = c.in-Ok-NoRight.ensures.outcome in
    let fits = fit_of_parts told parts c.args.session (hands.Completes x) c.requires.fit in
    let at : IsNow parts.pages.layout x a = is_now parts.pages.layout x a fits.in_hand c.index_mut-summary.ensures.value (subst OfTable c.layout.ensures c.indexes_are_listed.ensures.of_table) in
    let what = c.lock_waited_for-what.result in
    let so = lacks_right told parts c.args.session x a at.got c.requires.fit at.table c.step.new.pages c.step.new.locks c.step.new.self
    (record { of = e.of; index = e.same_index; wish = e.same_wish; others = e.others; order = e.order; leaves = e.locks; counts = e.counts })
    then (record { items = refl; table = refl; rows = refl; unnamed = refl }) refl refl
    c.a_summarise_steps_in_its_table.ensures.steps c.other_pages_show_alike.ensures c.step.new.rights c.in-Ok-NoRight.by (rw c.in-Ok-NoRight.field-0-is at c.in-Ok-NoRight.ensures.does)
    (rw c.in-Ok-NoRight.field-0-is at c.in-Ok-NoRight.ensures.stands) (rw c.in-Ok-NoRight.field-0-is at c.in-Ok-NoRight.ensures.no_right) (c.in-Ok-NoRight.ensures.own (own_was told parts c.args.session x a at.got c.requires.fit at.table))
    (rw c.in-Ok-NoRight.field-0-is at c.in-Ok-NoRight.ensures.right) (outcome.0, outcome.1) what
    (subst (λ (t : ℕ). what ≡ whats.Work (table_name parts.pages.layout t)) (sym at.table)
    (subst (λ (l : DiskLayout). what ≡ whats.Work (table_name l x.table)) (c.layout-in-Ok-NoRight.ensures ∙ e.others.leaves.layout) c.lock_waited_for-what.ensures)) in
    record { steps = so.steps; fit = so.fit; others = so.others; stays = so.stays; cause = so.cause; survives = e.survives }

-- its index is full

pub refused-requires-clause-index : goal.refused-requires-clause-index
refused-requires-clause-index g c =
    let parts = c.args.parts.now in
    let a = c.index_mut-summary.result.now in
    let fits = fit_of_parts g.D.Disk.told parts c.args.session (hands.Completes c.args.completing.now) c.requires.fit in
    let of = (is_of c.args.completing.now a (got_now c.args.completing.now parts.pages.layout a fits.in_hand c.index_mut-summary.ensures.value) parts.pages.layout fits.in_hand).0 in
    of_same (λ (l : DiskLayout) (i : ℕ). i < length l.schema.indexes) c.step.new.pages.layout parts.pages.layout (sym c.step.ensures.others.leaves.layout) c.index-index.result a.index (sym c.index-index.ensures) of.index

pub refused-requires-clause-table : goal.refused-requires-clause-table
refused-requires-clause-table g c =
    let fits = fit_of_parts g.D.Disk.told c.args.parts.now c.args.session (hands.Completes c.args.completing.now) c.requires.fit in
    let as_many = fits.rights in
    let below = fits.in_hand.table in
    let kept = ap (λ (l : List (Option ℕ)). length l) c.in-Err-Full.ensures.rights in
    omega (arith, as_many, below, kept)

pub returns-in-Err-Full : goal.returns-in-Err-Full
returns-in-Err-Full g c =
    let told = g.D.Disk.told in
    let parts = c.args.parts.now in
    let x = c.args.completing.now in
    let a = c.index_mut-summary.result.now in
    let e = c.step.ensures in
    let later = c.refused.new.parts in
    let outcome = rw c.in-Err-Full.field-0-is at c.in-Err-Full.ensures.outcome in
    let full = rw c.in-Err-Full.field-0-is at c.in-Err-Full.ensures.full in
    let same_locks : c.step.new.locks ≡ parts.locks = rw c.in-Err-Full.field-0-is at c.in-Err-Full.ensures.at_full in
    let fits = fit_of_parts told parts c.args.session (hands.Completes x) c.requires.fit in
    let at : IsNow parts.pages.layout x a = is_now parts.pages.layout x a fits.in_hand c.index_mut-summary.ensures.value (subst OfTable c.layout.ensures c.indexes_are_listed.ensures.of_table) in
    let number = (index_at parts.pages.layout a.index).table in
    let so : StepsSo told parts later c.args.session (hands.Completes x) (stepped.Done c.refused.result) =
    subst (λ (q : Parts _). StepsSo told parts q c.args.session (hands.Completes x) (stepped.Done c.refused.result)) (sym c.refused.ensures.rest)
    (full_so told parts c.args.session x a at.got c.requires.fit at.table c.a_summarise_steps_in_its_table.ensures.full c.other_pages_show_alike.ensures c.step.new.pages c.step.new.locks later.locks c.step.new.self
    (record { of = e.of; index = e.same_index; wish = e.same_wish; others = e.others; order = e.order; leaves = e.locks; counts = e.counts })
    c.in-Err-Full.number full.1 same_locks c.in-Err-Full.ensures.kept (outcome.0, outcome.1) c.refused.ensures.all c.refused.ensures.limit c.refused.ensures.none (λ m other. c.refused.ensures.counts.others m other) later.rights
    (subst (λ (r : List (Option ℕ)). right_of r (index_at parts.pages.layout a.index).table ≡ Some c.args.session → later.rights ≡ slice_set r (index_at parts.pages.layout a.index).table None) c.in-Err-Full.ensures.rights
    (subst (λ (t : ℕ). right_of c.step.new.rights t ≡ Some c.args.session → later.rights ≡ slice_set c.step.new.rights t None) (sym at.table) c.refused.ensures.given))
    (subst (λ (r : List (Option ℕ)). right_of r (index_at parts.pages.layout a.index).table ≢ Some c.args.session → later.rights ≡ r) c.in-Err-Full.ensures.rights
    (subst (λ (t : ℕ). right_of c.step.new.rights t ≢ Some c.args.session → later.rights ≡ c.step.new.rights) (sym at.table) c.refused.ensures.kept))
    c.refused.result
    (of_same (λ (l : DiskLayout) (i : ℕ). (table at : ℕ) → slice_get (indexes_of l table) at ≡ Some i → c.refused.result ≡ replies.Refused (refusals.Full (index_name l table at) c.in-Err-Full.number))
    parts.pages.layout c.step.new.pages.layout e.others.leaves.layout a.index c.index-index.result c.index-index.ensures c.refused.ensures.reply)) in
    record {
      steps = so.steps;
      fit = so.fit;
      others = so.others;
      stays = so.stays;
      cause = so.cause;
      survives = subst (λ (q : Parts _). Survives told (λ (passed : PageMap). passed ≡ parts.pages.pages) parts.pages q.pages) (sym c.refused.ensures.rest) e.survives;
    }

-- the pages refuse it

pub returns-in-Err-Store : goal.returns-in-Err-Store
returns-in-Err-Store g c =
    let told = g.D.Disk.told in
    let parts = c.args.parts.now in
    let x = c.args.completing.now in
    let a = c.index_mut-summary.result.now in
    let then : Completing = record x { summaries = with_item x.summaries x.next c.step.new.self } in
    let e = c.step.ensures in
    let fits = fit_of_parts told parts c.args.session (hands.Completes x) c.requires.fit in
    let at : IsNow parts.pages.layout x a = is_now parts.pages.layout x a fits.in_hand c.index_mut-summary.ensures.value (subst OfTable c.layout.ensures c.indexes_are_listed.ensures.of_table) in
    let so = subst (λ (f : StoreFault). StepsSo told parts (with_these parts c.step.new.pages c.drop_all.new.self c.step.new.rights) c.args.session (hands.Completes x) (stepped.Undone f (hands.Completes then))) (sym c.fault_of-in-Err-Store.ensures)
    (subst (λ (r : List (Option ℕ)). StepsSo told parts (with_these parts c.step.new.pages c.drop_all.new.self r) c.args.session (hands.Completes x) (stepped.Undone (fault_of c.in-Err-Store.error) (hands.Completes then)))
    (sym c.in-Err-Store.ensures.rights)
    (refused told parts c.args.session x a at.got c.requires.fit at.table c.requires.shown c.a_kept_table_takes_a_summarise.ensures.sound c.step.new.pages c.step.new.locks c.drop_all.new.self c.step.new.self
    (record { of = e.of; index = e.same_index; wish = e.same_wish; others = e.others; order = e.order; leaves = e.locks; counts = e.counts })
    c.in-Err-Store.ensures.stays.0 then (record { items = refl; table = refl; rows = refl; unnamed = refl }) refl refl c.drop_all.ensures.limit c.drop_all.ensures.none (λ m other. c.drop_all.ensures.counts.others m other) c.in-Err-Store.error (rw c.in-Err-Store.field-0-is at c.in-Err-Store.ensures.outcome)
    (summary_names parts.pages.layout a.index a.hand.stage c.in-Err-Store.error (rw c.in-Err-Store.field-0-is at c.in-Err-Store.ensures.at)))) in
    record { steps = so.steps; fit = so.fit; others = so.others; stays = so.stays; cause = so.cause; survives = e.survives }

-- it takes no memory

pub unreachable-requires : goal.unreachable-requires
unreachable-requires g c = rw c.in-Err-Memory.field-0-is at c.in-Err-Memory.ensures.outcome

pub unreachable-unreachable : goal.unreachable-unreachable
unreachable-unreachable g c = c.unreachable.result
