use Rattle.std.proofs.Common.{◌≡◌, ℕ, List, [], ◌∷◌, ◌++◌, ◌+◌, ◌≤◌, length, Option, Some, Result, Ok, refl, sym, ap, subst, ◌∙◌, arith}
use Rattle.std.specs.Prelude.{IfSome, IsSome, slice_get}
use Rattle.block_model.specs.declared.reply.Reply.{Reply}
use Rattle.block_model.specs.declared.reply.Reply.TheVariants as replies
use Rattle.block_model.specs.declared.request.Request.TheVariants as requests
use Rattle.block_model.specs.declared.request.Tag.TheVariants as tags
use Rattle.block_model.specs.declared.row.Row.{Row}
use Rattle.page_locks.specs.declared.did.Did.TheVariants as did
use Rattle.snapshot_core.specs.declared.sessions.Open.{Open}
use Rattle.snapshot_core.specs.StoredVersions.{transaction_of}
use Rattle.store_layout.specs.StatementRequests.{tagged_entry}
use Rattle.store_layout.specs.DiskLayout.{DiskLayout}
use Rattle.block_model.specs.declared.reply.Point.TheVariants as points
use Rattle.brin_insert.specs.AskedFor.{InsertAsks}
use Rattle.brin_insert.specs.InsertAnswers.{relation_at}
use Rattle.brin_insert.specs.InsertHands.{InsertHand}
use Rattle.session_parts.specs.declared.hand.Hand.{Hand}
use Rattle.session_parts.specs.declared.hand.Hand.TheVariants as hands
use Rattle.session_parts.specs.declared.hand.Stepped.TheVariants as stepped
use Rattle.session_parts.specs.declared.faults.Step.{Step}
use Rattle.session_parts.specs.declared.faults.Step.TheVariants as steps
use Rattle.session_parts.specs.declared.faults.StoreFault.{StoreFault}
use Rattle.session_parts.specs.StepIs.{stepped_in}
use Rattle.disk_trait.specs.Told.{Told}
use Rattle.session_parts.specs.DamagedPages.{relation_names, reopen_names}
use Rattle.session_parts.specs.UndoneLaws.{StepsSo}
use Rattle.std.proofs.lemmas.Bool.{false≢true}
use Rattle.block_model.specs.declared.place.Spot.{Spot}
use Rattle.block_model.specs.declared.reply.Refusal.TheVariants as refusals
use Rattle.page_locks.specs.LockChanges.{GivesAll}
use Rattle.page_locks.specs.LockHolders.{LockState, holder}
use Rattle.store_layout.specs.declared.limits.TheConstants.{MAX_ENTRIES}
use Rattle.index_steps.specs.ShownTable.{indexes_of}
use Rattle.script_semantics.specs.Names.{index_name}
use Rattle.brin_insert.proofs.Tasks.{number_there}
use Rattle.session_parts.specs.declared.parts.Parts.{Parts}
use Rattle.session_parts.specs.HandFits.{IsOwnRow}
use Rattle.session_parts.specs.HandsAsk.{named_requests}
use Rattle.page_store.specs.Survives.{Survives}
use Rattle.tx_table.specs.Durable.{IsBefore}
use Rattle.tx_table.proofs.Parts.{passed_none}
use Rattle.session_inserts.proofs.AtIndex.{insert_of, kept_at_index}
use Rattle.session_inserts.proofs.Beside.{at_no_status, at_work_of, over_beside, own_of, past_room, under_way}
use Rattle.session_inserts.proofs.FewDropped.{dropped_named, dropped_within, silent_end, silent_step, stands_still}
use Rattle.session_inserts.proofs.OnParts.{done_so, full_so, moved_so, none_left, number_at, spent_so, waited_there, waits_so}
use Rattle.session_inserts.proofs.Refusing.{LeftRefused, LeftUndone, leaves_same, share_whole, undone_so}
use Rattle.session_inserts.proofs.in_index.insert_on.Goals as goal

-- the answer of a step that is done
done_as : {D : Type 0} {told : D → Told} {parts new : Parts D} {n : ℕ} {was : Hand} (hand : Hand) {answer : Result Step StoreFault} {reply : Reply} → answer ≡ Ok (steps.Done reply) → StepsSo told parts new n was (stepped.Done reply)
    → StepsSo told parts new n was (stepped_in hand answer)
done_as {D} {told} {parts} {new} {n} {was} hand {answer} {reply} is so = subst (λ (r : Result Step StoreFault). StepsSo told parts new n was (stepped_in hand r)) (sym is) so

-- the pages refuse it before it

pub returns-in-Err : goal.returns-in-Err
returns-in-Err g c =
    let parts = c.args.parts.now in
    let hand = hands.Inserts c.args.insert.now in
    let fits = c.an_undone_step_changes_nothing.ensures.parts parts c.args.session hand c.requires.fit in
    let so : StepsSo g.D.Disk.told parts parts c.args.session hand (stepped.Undone c.fault_of.result hand) = subst (λ (f : StoreFault). StepsSo g.D.Disk.told parts parts c.args.session hand (stepped.Undone f hand)) (sym c.fault_of.ensures)
    (c.an_undone_step_changes_nothing.ensures.refused parts parts c.args.session hand c.in-Err.error c.requires.fit fits.over (leaves_same g.D.Disk.told parts.pages) (record { transactions = refl; locks = refl; rights = refl; journal = refl; queue = refl; dropped = refl }) c.in-Err.ensures.outcome
    (reopen_names parts.pages.layout c.in-Err.error c.in-Err.ensures.reopen)) in
    record { steps = so.steps; fit = so.fit; others = so.others; stays = so.stays; cause = so.cause; spare = fits.in_hand.1; survives = passed_none g.D.Disk.told (IsBefore parts.pages) parts.pages parts.pages c.ready.ensures.stays }

-- the step may be made

pub index-index-requires : goal.index-index-requires
index-index-requires g c =
    let fits = c.an_undone_step_changes_nothing.ensures.parts c.args.parts.now c.args.session (hands.Inserts c.args.insert.now) c.requires.fit in
    let work = at_work_of c.args.insert.now fits.in_hand.2 fits.in_hand.3 in
    subst (λ (o : Option InsertHand). IsSome o) (sym work.got) refl

pub step-requires-clause-made : goal.step-requires-clause-made
step-requires-clause-made g c = (c.an_undone_step_changes_nothing.ensures.parts c.args.parts.now c.args.session (hands.Inserts c.args.insert.now) c.requires.fit).in_hand.1

pub step-requires-clause-left : goal.step-requires-clause-left
step-requires-clause-left g c = (c.an_undone_step_changes_nothing.ensures.parts c.args.parts.now c.args.session (hands.Inserts c.args.insert.now) c.requires.fit).in_hand.2

pub step-requires-clause-locks : goal.step-requires-clause-locks
step-requires-clause-locks g c = λ x is.
    let few = c.requires.few in
    let limit = (c.an_undone_step_changes_nothing.ensures.parts c.args.parts.now c.args.session (hands.Inserts c.args.insert.now) c.requires.fit).limit in
    omega (arith, few, limit)

pub step-requires-clause-kept : goal.step-requires-clause-kept
step-requires-clause-kept g c = λ tells.
    let fits = c.an_undone_step_changes_nothing.ensures.parts c.args.parts.now c.args.session (hands.Inserts c.args.insert.now) c.requires.fit in
    kept_at_index g.D.Disk.told c.args.parts.now c.args.session c.args.insert.now fits.in_hand.1 fits.in_hand.2 fits.in_hand.3 (c.requires.shown tells c.in-Ok.ensures.outcome.0)

pub page_waited_for-requires : goal.page_waited_for-requires
page_waited_for-requires g c =
    let parts = c.args.parts.now in
    let fits = c.an_undone_step_changes_nothing.ensures.parts parts c.args.session (hands.Inserts c.args.insert.now) c.requires.fit in
    number_at parts.pages.layout c.layout.result.now c.args.insert.now fits.in_hand.1 fits.in_hand.2 fits.in_hand.3 c.index-index.result c.index-index.ensures (c.layout.ensures ∙ c.step.ensures.others.leaves.layout)

-- it goes on

pub set-requires-clause-session : goal.set-requires-clause-session
set-requires-clause-session g c = (c.an_undone_step_changes_nothing.ensures.parts c.args.parts.now c.args.session (hands.Inserts c.args.insert.now) c.requires.fit).session

pub set-requires-clause-few : goal.set-requires-clause-few
set-requires-clause-few g c =
    let parts = c.args.parts.now in
    let after = c.step.new.self in
    let fits = c.an_undone_step_changes_nothing.ensures.parts parts c.args.session (hands.Inserts c.args.insert.now) c.requires.fit in
    let some = stands_still c.args.insert.now.place after.place fits.in_hand.3 c.in-Ok-Moved.ensures.placed in
    dropped_within parts.pages.layout c.layout-layout.result.now (c.layout-layout.ensures ∙ c.step.ensures.others.leaves.layout) after c.dropped.result.now c.dropped.ensures c.step.ensures.made (rw c.in-Ok-Moved.field-0-is at c.in-Ok-Moved.ensures.left) some

pub set-requires-clause-named : goal.set-requires-clause-named
set-requires-clause-named g c = dropped_named c.args.parts.now.pages.layout c.layout-layout.result.now (c.layout-layout.ensures ∙ c.step.ensures.others.leaves.layout) c.step.new.self c.dropped.result.now c.dropped.ensures c.step.ensures.made

pub returns-in-Ok-Moved : goal.returns-in-Ok-Moved
returns-in-Ok-Moved g c =
    let parts = c.args.parts.now in
    let hand = hands.Inserts c.args.insert.now in
    let outcome = c.in-Ok-Moved.ensures.outcome in
    let laws = c.an_undone_step_changes_nothing.ensures in
    let after = c.step.new.self in
    let named = c.set.ensures.own ∙ ap (λ (l : DiskLayout). named_requests l c.dropped.result.now) (c.layout-layout.ensures ∙ c.step.ensures.others.leaves.layout) ∙ ap (λ (l : List (ℕ × ℕ)). named_requests parts.pages.layout l) c.dropped.ensures in
    let so = moved_so g.D.Disk.told c.one_hand_changes.ensures laws.parts laws.stores parts c.step.new.pages c.step.new.locks c.args.session c.step.new.queue c.set.new.self c.args.insert.now after c.requires.fit
    (record { others = c.step.ensures.others; order = c.step.ensures.order; leaves = c.step.ensures.locks; counts = c.step.ensures.counts; made = c.step.ensures.made; row = c.step.ensures.same_row; ready = (outcome.0, outcome.1) })
    c.set.ensures.others
    c.steps_of_an_insert.ensures.index c.in-Ok-Moved.point (rw c.in-Ok-Moved.field-0-is at c.in-Ok-Moved.ensures.stepped) (rw c.in-Ok-Moved.field-0-is at c.in-Ok-Moved.ensures.left) c.in-Ok-Moved.ensures.placed
    (c.in-Ok-Moved.ensures.own (laws.parts parts c.args.session hand c.requires.fit).own) named c.in-Ok-Moved.ensures.asked in
    record { steps = so.steps; fit = so.fit; others = so.others; stays = so.stays; cause = so.cause; spare = c.step.ensures.made; survives = c.step.ensures.survives }

-- it is done

pub returns-in-Ok-Finished : goal.returns-in-Ok-Finished
returns-in-Ok-Finished g c =
    let parts = c.args.parts.now in
    let hand = hands.Inserts c.args.insert.now in
    let outcome = c.in-Ok-Finished.ensures.outcome in
    let laws = c.an_undone_step_changes_nothing.ensures in
    let after = c.step.new.self in
    let is : c.done.result ≡ Ok (steps.Done (replies.Inserted c.args.insert.now.row.id)) = c.done.ensures ∙ ap (λ (r : Row). Ok (steps.Done (replies.Inserted r.id))) (c.row.ensures ∙ c.step.ensures.same_row) in
    let silent = silent_end c.args.insert.now.asking (did.Finished c.in-Ok-Finished.field-0-0) (rw c.in-Ok-Finished.field-0-is at c.in-Ok-Finished.ensures.asks) (λ (e : did.Finished c.in-Ok-Finished.field-0-0 ≡ did.Moved points.Ask). cc) in
    let quiet = silent_step c.args.insert.now.asking parts.queue c.step.new.queue c.args.insert.now.dropped.items after.dropped.items silent c.step.ensures.plain in
    let then : Parts _ = record parts { pages = c.step.new.pages; locks = c.step.new.locks } in
    let new : Parts _ = record then { queue = c.step.new.queue } in
    let so : StepsSo g.D.Disk.told parts new c.args.session hand (stepped_in (hands.Inserts after) c.done.result) =
    subst (λ (l : List (ℕ × ℕ)). StepsSo g.D.Disk.told parts (record then { queue = l }) c.args.session hand (stepped_in (hands.Inserts after) c.done.result)) (sym quiet.0)
    (done_as (hands.Inserts after) is
    (done_so g.D.Disk.told c.one_hand_changes.ensures laws.parts laws.stores parts c.step.new.pages c.step.new.locks c.args.session parts.queue parts.dropped c.args.insert.now after c.requires.fit
    (record { others = c.step.ensures.others; order = c.step.ensures.order; leaves = c.step.ensures.locks; counts = c.step.ensures.counts; made = c.step.ensures.made; row = c.step.ensures.same_row; ready = (outcome.0, outcome.1) })
    (λ m apart. refl)
    c.steps_of_an_insert.ensures.index c.in-Ok-Finished.field-0-0 (rw c.in-Ok-Finished.field-0-is at c.in-Ok-Finished.ensures.stepped) c.in-Ok-Finished.ensures.placed
    (none_left after (rw c.in-Ok-Finished.field-0-is at c.in-Ok-Finished.ensures.left) c.step.new.locks c.args.session (c.in-Ok-Finished.ensures.own (laws.parts parts c.args.session hand c.requires.fit).own)) silent refl
    (λ tells. subst (λ (l : List (ℕ × ℕ)). InsertAsks parts.pages.layout parts.pages.pages c.args.insert.now after parts.queue l) quiet.0 (c.in-Ok-Finished.ensures.asked tells)))) in
    record { steps = so.steps; fit = so.fit; others = so.others; stays = so.stays; cause = so.cause; spare = c.step.ensures.made; survives = c.step.ensures.survives }

-- it waits

pub returns-in-Ok-Blocked : goal.returns-in-Ok-Blocked
returns-in-Ok-Blocked g c =
    let parts = c.args.parts.now in
    let hand = hands.Inserts c.args.insert.now in
    let outcome = c.in-Ok-Blocked.ensures.outcome in
    let laws = c.an_undone_step_changes_nothing.ensures in
    let after = c.step.new.self in
    let fits = laws.parts parts c.args.session hand c.requires.fit in
    let silent = silent_end c.args.insert.now.asking (did.Blocked c.in-Ok-Blocked.held) (rw c.in-Ok-Blocked.field-0-is at c.in-Ok-Blocked.ensures.asks) (λ (e : did.Blocked c.in-Ok-Blocked.held ≡ did.Moved points.Ask). cc) in
    let quiet = silent_step c.args.insert.now.asking parts.queue c.step.new.queue c.args.insert.now.dropped.items after.dropped.items silent c.step.ensures.plain in
    let so = waits_so g.D.Disk.told c.one_hand_changes.ensures laws.parts laws.stores parts c.step.new.pages c.step.new.locks c.args.session c.step.new.queue parts.dropped c.args.insert.now after c.requires.fit
    (record { others = c.step.ensures.others; order = c.step.ensures.order; leaves = c.step.ensures.locks; counts = c.step.ensures.counts; made = c.step.ensures.made; row = c.step.ensures.same_row; ready = (outcome.0, outcome.1) })
    (λ m apart. refl)
    c.steps_of_an_insert.ensures.index.waits c.steps_of_an_insert.ensures.index.stays c.steps_of_an_insert.ensures.index.leads c.steps_of_an_insert.ensures.index.alike c.in-Ok-Blocked.held
    (rw c.in-Ok-Blocked.field-0-is at c.in-Ok-Blocked.ensures.stepped) (rw c.in-Ok-Blocked.field-0-is at c.in-Ok-Blocked.ensures.left) c.in-Ok-Blocked.ensures.placed (rw c.in-Ok-Blocked.field-0-is at c.in-Ok-Blocked.ensures.blocked)
    (c.in-Ok-Blocked.ensures.own fits.own) quiet.0 refl quiet.1 c.index-index.result c.index-index.ensures c.page_waited_for.result
    (waited_there parts.pages.layout c.layout.result.now (c.layout.ensures ∙ c.step.ensures.others.leaves.layout) c.index-index.result c.in-Ok-Blocked.held.page.block c.page_waited_for.result c.page_waited_for.ensures.among) in
    record { steps = so.steps; fit = so.fit; others = so.others; stays = so.stays; cause = so.cause; spare = c.step.ensures.made; survives = c.step.ensures.survives }

pub unreachable-requires : goal.unreachable-requires
unreachable-requires g c = rw c.in-Ok-NoRight.field-0-is at c.in-Ok-NoRight.ensures.left

pub unreachable-unreachable : goal.unreachable-unreachable
unreachable-unreachable g c = c.unreachable.result

pub unreachable-requires-in-Err-Memory : goal.unreachable-requires-in-Err-Memory
unreachable-requires-in-Err-Memory g c = rw c.in-Err-Memory.field-0-is at c.in-Err-Memory.ensures.outcome

pub unreachable-unreachable-in-Err-Memory : goal.unreachable-unreachable-in-Err-Memory
unreachable-unreachable-in-Err-Memory g c = c.unreachable-in-Err-Memory.result

-- the index is full, and the journal has no room for that

pub returns-then-not-fits : goal.returns-then-not-fits
returns-then-not-fits g c =
    let parts = c.args.parts.now in
    let hand = hands.Inserts c.args.insert.now in
    let outcome = rw c.in-Err-Full.field-0-is at c.in-Err-Full.ensures.outcome in
    let laws = c.an_undone_step_changes_nothing.ensures in
    let after = c.step.new.self in
    let full = past_room (length parts.journal.entries) MAX_ENTRIES (λ (within : length parts.journal.entries + 1 ≤ MAX_ENTRIES). false≢true (sym c.if-not-fits.true ∙ c.fits.ensures.1 within)) in
    let new : Parts _ = record parts { pages = c.step.new.pages; locks = c.step.new.locks; queue = c.step.new.queue } in
    let so : StepsSo g.D.Disk.told parts new c.args.session hand (stepped.Undone c.spent.result (hands.Inserts after)) =
    subst (λ (f : StoreFault). StepsSo g.D.Disk.told parts new c.args.session hand (stepped.Undone f (hands.Inserts after))) (sym c.spent.ensures)
    (spent_so g.D.Disk.told c.one_hand_changes.ensures laws.parts laws.stores parts c.step.new.pages c.step.new.locks c.args.session c.step.new.queue parts.dropped c.args.insert.now after c.requires.fit
    (record { others = c.step.ensures.others; order = c.step.ensures.order; leaves = c.step.ensures.locks; counts = c.step.ensures.counts; made = c.step.ensures.made; row = c.step.ensures.same_row; ready = (outcome.0, outcome.1) })
    (λ m apart. refl)
    c.steps_of_an_insert.ensures.index c.steps_of_an_insert.ensures.refusal c.in-Err-Full.field-0-0 c.in-Err-Full.number (rw c.in-Err-Full.field-0-is at c.in-Err-Full.ensures.full)
    c.in-Err-Full.ensures.same_place c.in-Err-Full.ensures.still_left c.in-Err-Full.ensures.stays c.in-Err-Full.ensures.same_stage (rw c.in-Err-Full.field-0-is at c.in-Err-Full.ensures.at_full) c.in-Err-Full.ensures.kept
    c.in-Err-Full.ensures.queue refl c.in-Err-Full.ensures.dropped (length parts.journal.entries) refl full) in
    record { steps = so.steps; fit = so.fit; others = so.others; stays = so.stays; cause = so.cause; spare = c.step.ensures.made; survives = c.step.ensures.survives }

-- it has room, and the insert is refused

pub full_index-requires-clause-index : goal.full_index-requires-clause-index
full_index-requires-clause-index g c =
    let parts = c.args.parts.now in
    let fits = c.an_undone_step_changes_nothing.ensures.parts parts c.args.session (hands.Inserts c.args.insert.now) c.requires.fit in
    number_at parts.pages.layout c.step.new.pages.layout c.args.insert.now fits.in_hand.1 fits.in_hand.2 fits.in_hand.3 c.index-index.result c.index-index.ensures c.step.ensures.others.leaves.layout

pub full_index-requires-clause-promised : goal.full_index-requires-clause-promised
full_index-requires-clause-promised g c =
    let parts = c.args.parts.now in
    let fits = c.an_undone_step_changes_nothing.ensures.parts parts c.args.session (hands.Inserts c.args.insert.now) c.requires.fit in
    let own = under_way (transaction_of parts.transactions.opens c.args.session) fits.in_hand.0 in
    let two = share_whole (Some (hands.Inserts c.args.insert.now)) (transaction_of parts.transactions.opens c.args.session) own.own own.is own.whole refl in
    let enough = fits.share in
    omega (arith, two, enough)

pub full_index-requires-clause-open : goal.full_index-requires-clause-open
full_index-requires-clause-open g c =
    let parts = c.args.parts.now in
    let fits = c.an_undone_step_changes_nothing.ensures.parts parts c.args.session (hands.Inserts c.args.insert.now) c.requires.fit in
    let own = under_way (transaction_of parts.transactions.opens c.args.session) fits.in_hand.0 in
    subst (λ (t : Option Open). IsSome t) (sym own.is) refl

pub returns-else-not-fits : goal.returns-else-not-fits
returns-else-not-fits g c =
    let parts = c.args.parts.now in
    let hand = hands.Inserts c.args.insert.now in
    let outcome = rw c.in-Err-Full.field-0-is at c.in-Err-Full.ensures.outcome in
    let laws = c.an_undone_step_changes_nothing.ensures in
    let after = c.step.new.self in
    let later = c.full_index.new.parts in
    let fits = laws.parts parts c.args.session hand c.requires.fit in
    let own = under_way (transaction_of parts.transactions.opens c.args.session) fits.in_hand.0 in
    let work = at_work_of c.args.insert.now fits.in_hand.2 fits.in_hand.3 in
    let number : c.index-index.result ≡ work.hand.index = subst (λ (o : Option InsertHand). IfSome o (λ (h : InsertHand). c.index-index.result ≡ h.index)) work.got c.index-index.ensures in
    let there : slice_get (indexes_of parts.pages.layout c.args.insert.now.row.table) c.args.insert.now.at ≡ Some c.index-index.result =
    number_there parts.pages.layout c.args.insert.now c.args.insert.now.at work.hand fits.in_hand.1 work.got ∙ ap Some (sym number) in
    let same_locks : c.step.new.locks ≡ parts.locks = rw c.in-Err-Full.field-0-is at c.in-Err-Full.ensures.at_full in
    let row_is : c.row-in-Err-Full.result.now ≡ c.args.insert.now.row = c.row-in-Err-Full.ensures ∙ c.step.ensures.same_row in
    let layout_is = c.step.ensures.others.leaves.layout in
    let reply = replies.Refused (refusals.Full (index_name parts.pages.layout c.args.insert.now.row.table c.args.insert.now.at) c.in-Err-Full.number) in
    let answer_is : c.full_index.result ≡ Ok (steps.Done reply) =
    (subst (λ (l : DiskLayout). slice_get (indexes_of l c.args.insert.now.row.table) c.args.insert.now.at ≡ Some c.index-index.result → c.full_index.result ≡ Ok (steps.Done (replies.Refused (refusals.Full (index_name l c.args.insert.now.row.table c.args.insert.now.at) c.in-Err-Full.number)))) layout_is
    (c.full_index.ensures.reply c.args.insert.now.row.table c.args.insert.now.at)) there in
    let refused : LeftRefused g.D.Disk.told parts c.step.new.pages later.transactions later.locks later.journal c.args.session hand own.own (tagged_entry c.args.session c.args.insert.now.row.table (requests.Put c.args.insert.now.row.values) tags.Full) = record {
      fits = fits;
      free = refl;
      no_right = refl;
      open_is = own.is;
      whole = own.whole;
      leaves = c.step.ensures.others.leaves;
      over = over_beside g.D.Disk.told parts.transactions.tx parts.pages c.step.new.pages _ (at_no_status parts.pages.layout c.args.insert.now fits.in_hand.2 fits.in_hand.3) fits.over c.step.ensures.others;
      failed = c.full_index.ensures.failed own.own own.is;
      limit = c.full_index.ensures.limit ∙ c.step.ensures.counts.limit;
      none = c.full_index.ensures.none;
      others = λ m other. c.full_index.ensures.counts.others m other ∙ c.step.ensures.counts.adds.others m other;
      entries = c.full_index.ensures.entries ∙ ap (λ (r : Row). parts.journal.entries ++ tagged_entry c.args.session r.table (requests.Put r.values) tags.Full ∷ []) row_is;
      promised = c.full_index.ensures.promised;
      room = c.fits.ensures.0 c.if-not-fits.false;
    } in
    let so : StepsSo g.D.Disk.told parts later c.args.session hand (stepped_in (hands.Inserts after) c.full_index.result) = done_as (hands.Inserts after) answer_is
    (subst (λ (q : Parts _). StepsSo g.D.Disk.told parts q c.args.session hand (stepped.Done reply)) (sym c.full_index.ensures.rest)
    (subst (λ (l : List (ℕ × ℕ)). StepsSo g.D.Disk.told parts (record parts { pages = c.step.new.pages; transactions = later.transactions; locks = later.locks; journal = later.journal; queue = l }) c.args.session hand (stepped.Done reply)) (sym c.in-Err-Full.ensures.queue)
    (full_so g.D.Disk.told c.one_hand_changes.ensures laws.parts laws.stores parts c.step.new.pages c.step.new.locks c.args.session parts.queue parts.dropped c.args.insert.now after c.requires.fit
    (record { others = c.step.ensures.others; order = c.step.ensures.order; leaves = c.step.ensures.locks; counts = c.step.ensures.counts; made = c.step.ensures.made; row = c.step.ensures.same_row; ready = (outcome.0, outcome.1) })
    (λ m apart. refl)
    c.steps_of_an_insert.ensures.refusal c.in-Err-Full.field-0-0 c.in-Err-Full.number (rw c.in-Err-Full.field-0-is at c.in-Err-Full.ensures.full) c.in-Err-Full.ensures.kept
    later.transactions later.locks later.journal own.own refused (subst (λ (l : LockState). GivesAll (holder l) (holder later.locks) c.args.session) same_locks c.full_index.ensures.given)
    (own_of (transaction_of parts.transactions.opens c.args.session) fits.in_hand.0 c.args.insert.now.row.id.t fits.in_hand.4 own.own own.is) reply refl))) in
    record { steps = so.steps; fit = so.fit; others = so.others; stays = so.stays; cause = so.cause; spare = c.step.ensures.made; survives = subst (λ (q : Parts _). Survives g.D.Disk.told (IsBefore c.args.parts.now.pages) c.args.parts.now.pages q.pages) (sym c.full_index.ensures.rest) c.step.ensures.survives }

-- the pages refuse it

pub returns-in-Err-Store : goal.returns-in-Err-Store
returns-in-Err-Store g c =
    let parts = c.args.parts.now in
    let hand = hands.Inserts c.args.insert.now in
    let laws = c.an_undone_step_changes_nothing.ensures in
    let after = c.step.new.self in
    let fits = laws.parts parts c.args.session hand c.requires.fit in
    let undone : LeftUndone g.D.Disk.told parts c.step.new.pages c.drop_all.new.self parts.journal c.args.session hand (hands.Inserts after) = record {
      fits = fits;
      in_hand = (fits.in_hand.0, c.step.ensures.made, c.in-Err-Store.ensures.still_left, subst (λ (o : Option Spot). IsSome o) (sym c.in-Err-Store.ensures.same_place) fits.in_hand.3, subst (λ (r : Row). IsOwnRow (transaction_of parts.transactions.opens c.args.session) r.id.t) (sym c.step.ensures.same_row) fits.in_hand.4);
      no_right = refl;
      share = refl;
      statement = ap insert_of c.step.ensures.same_row;
      leaves = c.step.ensures.others.leaves;
      over = over_beside g.D.Disk.told parts.transactions.tx parts.pages c.step.new.pages _ (at_no_status parts.pages.layout c.args.insert.now fits.in_hand.2 fits.in_hand.3) fits.over c.step.ensures.others;
      limit = c.drop_all.ensures.limit ∙ c.step.ensures.counts.limit;
      none = c.drop_all.ensures.none;
      others = λ m other. c.drop_all.ensures.counts.others m other ∙ c.step.ensures.counts.adds.others m other;
      entries = refl;
      promised = refl;
    } in
    let then : Parts _ = record parts { pages = c.step.new.pages; locks = c.drop_all.new.self } in
    let so : StepsSo g.D.Disk.told parts (record then { queue = c.step.new.queue }) c.args.session hand (stepped.Undone c.fault_of-in-Err-Store.result (hands.Inserts after)) =
    subst (λ (l : List (ℕ × ℕ)). StepsSo g.D.Disk.told parts (record then { queue = l }) c.args.session hand (stepped.Undone c.fault_of-in-Err-Store.result (hands.Inserts after))) (sym c.in-Err-Store.ensures.queue)
    (subst (λ (f : StoreFault). StepsSo g.D.Disk.told parts then c.args.session hand (stepped.Undone f (hands.Inserts after))) (sym c.fault_of-in-Err-Store.ensures)
    (undone_so g.D.Disk.told c.one_hand_changes.ensures laws.stores parts c.step.new.pages c.drop_all.new.self parts.journal c.args.session hand (hands.Inserts after) undone c.in-Err-Store.error
    (rw c.in-Err-Store.field-0-is at c.in-Err-Store.ensures.outcome) (relation_names parts.pages.layout (relation_at parts.pages.layout c.args.insert.now) c.in-Err-Store.error (rw c.in-Err-Store.field-0-is at c.in-Err-Store.ensures.at)))) in
    record { steps = so.steps; fit = so.fit; others = so.others; stays = so.stays; cause = so.cause; spare = c.step.ensures.made; survives = c.step.ensures.survives }
