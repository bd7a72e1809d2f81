use Rattle.std.proofs.Common.{◌≡◌, ℕ, [], ◌∷◌, ◌++◌, ◌<◌, ◌≤◌, List, length, Option, Some, Ok, Err, refl, sym, ap, subst, ◌∙◌, arith}
use Rattle.std.specs.Prelude.{IsSome, IsSomeAnd}
use Rattle.std.proofs.lemmas.Option.{none-some}
use Rattle.block_model.specs.declared.place.Spot.{Spot}
use Rattle.block_model.specs.declared.reply.Refusal.TheVariants as refusals
use Rattle.block_model.specs.declared.reply.Reply.TheVariants as replies
use Rattle.block_model.specs.declared.request.Request.TheVariants as requests
use Rattle.block_model.specs.declared.request.Tag.TheVariants as tags
use Rattle.block_model.specs.declared.row.Row.{Row}
use Rattle.block_model.specs.declared.request.Entry.{Entry}
use Rattle.page_locks.specs.declared.did.Did.TheVariants as did
use Rattle.page_locks.specs.LockChanges.{GivesAll}
use Rattle.page_locks.specs.LockHolders.{LockState, holder}
use Rattle.snapshot_core.specs.declared.sessions.Open.{Open}
use Rattle.snapshot_core.specs.StoredVersions.{transaction_of}
use Rattle.store_layout.specs.StatementRequests.{request_entry, tagged_entry}
use Rattle.store_layout.specs.DiskLayout.{DiskLayout}
use Rattle.script_semantics.specs.Names.{table_name}
use Rattle.index_steps.specs.ShownRows.{shown_by}
use Rattle.coverage.specs.Table.{Task}
use Rattle.brin_insert.specs.declared.insert.Insert.{Insert}
use Rattle.brin_insert.specs.InsertAnswers.{IsInsertFull, WaitsForNoRow, relation_at}
use Rattle.brin_insert.specs.InsertLocks.{held_by, stage_of}
use Rattle.brin_insert.specs.Inserts.{HasStepAt, IsInsertFor, task_at, work_of}
use Rattle.brin_insert.proofs.OwnLocks.{no_stage}
use Rattle.page_locks.specs.LockCounts.{locks_of}
use Rattle.session_parts.specs.declared.faults.Step.TheVariants as steps
use Rattle.session_parts.specs.declared.faults.StoreFault.{StoreFault}
use Rattle.session_parts.specs.declared.hand.Hand.TheVariants as hands
use Rattle.session_parts.specs.declared.hand.Stepped.TheVariants as stepped
use Rattle.session_parts.specs.declared.parts.Parts.{Parts}
use Rattle.session_parts.specs.StepIs.{answer_of}
use Rattle.session_parts.specs.DamagedPages.{relation_names}
use Rattle.session_parts.specs.UndoneLaws.{StepsSo}
use Rattle.session_inserts.specs.Promised.{unpromised}
use Rattle.session_inserts.specs.SparePut.{left_behind}
use Rattle.page_store.specs.Survives.{Survives}
use Rattle.tx_table.specs.Durable.{IsBefore}
use Rattle.session_inserts.proofs.Beside.{over_beside, under_way}
use Rattle.session_inserts.proofs.FewDropped.{none_dropped, silent_nowhere, silent_step}
use Rattle.session_inserts.proofs.OnParts.{none_left}
use Rattle.session_inserts.proofs.Refusing.{LeftRefused, LeftUndone, share_whole, undone_so}
use Rattle.session_inserts.proofs.RowParts.{at_no_heap_status, full_heap_so, kept_at_row, row_done_so, row_moved_so}
use Rattle.session_inserts.proofs.SpareMachine.{put_settles, waits}
use Rattle.session_inserts.proofs.row.first_step.Goals as goal

pub unreachable-requires : goal.unreachable-requires
unreachable-requires g c = subst (λ (o : Option Insert). IsSomeAnd o (IsInsertFor c.args.parts.now.pages.layout)) c.in_default.is c.requires.made

pub unreachable-unreachable : goal.unreachable-unreachable
unreachable-unreachable g c = c.unreachable.result

pub step-requires-clause-made : goal.step-requires-clause-made
step-requires-clause-made g c =
    let w = waits g.D.Disk.told c.args.parts.now c.args.session c.args.machine.now c.in-Some.insert c.in-Some.is c.requires.made c.requires.nowhere c.requires.id c.requires.fit c.requires.shown in
    w.made

pub step-requires-clause-left : goal.step-requires-clause-left
step-requires-clause-left g c =
    let w = waits g.D.Disk.told c.args.parts.now c.args.session c.args.machine.now c.in-Some.insert c.in-Some.is c.requires.made c.requires.nowhere c.requires.id c.requires.fit c.requires.shown in
    subst (λ (place : Option Spot). HasStepAt place (work_of c.in-Some.insert)) (sym w.nowhere) tt

pub step-requires-clause-locks : goal.step-requires-clause-locks
step-requires-clause-locks g c =
    let w = waits g.D.Disk.told c.args.parts.now c.args.session c.args.machine.now c.in-Some.insert c.in-Some.is c.requires.made c.requires.nowhere c.requires.id c.requires.fit c.requires.shown in
    λ x is. absurd (none-some _ (sym (no_stage c.in-Some.insert w.nowhere) ∙ is))

pub step-requires-clause-kept : goal.step-requires-clause-kept
step-requires-clause-kept g c =
    let w = waits g.D.Disk.told c.args.parts.now c.args.session c.args.machine.now c.in-Some.insert c.in-Some.is c.requires.made c.requires.nowhere c.requires.id c.requires.fit c.requires.shown in
    λ tells. kept_at_row g.D.Disk.told c.args.parts.now c.args.session c.in-Some.insert w.nowhere w.made.table (w.shown tells c.requires.ready)

pub enter_row-requires-clause-promised : goal.enter_row-requires-clause-promised
enter_row-requires-clause-promised g c = c.requires.promised

pub enter_row-requires-clause-number : goal.enter_row-requires-clause-number
enter_row-requires-clause-number g c = c.requires.number

pub enter_row-requires-in-Ok-Finished-clause-promised : goal.enter_row-requires-in-Ok-Finished-clause-promised
enter_row-requires-in-Ok-Finished-clause-promised g c = c.requires.promised

pub enter_row-requires-in-Ok-Finished-clause-number : goal.enter_row-requires-in-Ok-Finished-clause-number
enter_row-requires-in-Ok-Finished-clause-number g c = c.requires.number

pub unreachable-requires-in-Ok-Blocked : goal.unreachable-requires-in-Ok-Blocked
unreachable-requires-in-Ok-Blocked g c =
    let w = waits g.D.Disk.told c.args.parts.now c.args.session c.args.machine.now c.in-Some.insert c.in-Some.is c.requires.made c.requires.nowhere c.requires.id c.requires.fit c.requires.shown in
    subst (λ (place : Option Spot). WaitsForNoRow place (did.Blocked c.in-Ok-Blocked.field-0-0)) w.nowhere (rw c.in-Ok-Blocked.field-0-is at c.in-Ok-Blocked.ensures.first)

pub unreachable-unreachable-in-Ok-Blocked : goal.unreachable-unreachable-in-Ok-Blocked
unreachable-unreachable-in-Ok-Blocked g c = c.unreachable-in-Ok-Blocked.result

pub unreachable-requires-in-Ok-NoRight : goal.unreachable-requires-in-Ok-NoRight
unreachable-requires-in-Ok-NoRight g c = rw c.in-Ok-NoRight.field-0-is at c.in-Ok-NoRight.ensures.left

pub unreachable-unreachable-in-Ok-NoRight : goal.unreachable-unreachable-in-Ok-NoRight
unreachable-unreachable-in-Ok-NoRight g c = c.unreachable-in-Ok-NoRight.result

pub unreachable-requires-in-Err-Memory : goal.unreachable-requires-in-Err-Memory
unreachable-requires-in-Err-Memory g c = rw c.in-Err-Memory.field-0-is at c.in-Err-Memory.ensures.outcome

pub unreachable-unreachable-in-Err-Memory : goal.unreachable-unreachable-in-Err-Memory
unreachable-unreachable-in-Err-Memory g c = c.unreachable-in-Err-Memory.result

pub release-requires : goal.release-requires
release-requires g c = let some = c.requires.promised in omega (arith, some)

pub release-requires-in-Err-Store : goal.release-requires-in-Err-Store
release-requires-in-Err-Store g c = let some = c.requires.promised in omega (arith, some)

pub full_table-requires-clause-table : goal.full_table-requires-clause-table
full_table-requires-clause-table g c =
    let w = waits g.D.Disk.told c.args.parts.now c.args.session c.args.machine.now c.in-Some.insert c.in-Some.is c.requires.made c.requires.nowhere c.requires.id c.requires.fit c.requires.shown in
    subst (λ (l : DiskLayout). c.row-in-Err-Full.result.now.table < length l.schema.tables) (sym c.step.ensures.others.leaves.layout)
    (subst (λ (r : Row). r.table < length c.args.parts.now.pages.layout.schema.tables) (sym (c.row-in-Err-Full.ensures ∙ c.step.ensures.same_row)) w.made.table)

pub full_table-requires-clause-promised : goal.full_table-requires-clause-promised
full_table-requires-clause-promised g c =
    let parts = c.args.parts.now in
    let w = waits g.D.Disk.told c.args.parts.now c.args.session c.args.machine.now c.in-Some.insert c.in-Some.is c.requires.made c.requires.nowhere c.requires.id c.requires.fit c.requires.shown in
    let hand = hands.Puts c.in-Some.insert.row.table c.in-Some.insert.row.values in
    let fits = c.an_undone_step_changes_nothing.ensures.parts (unpromised parts) c.args.session hand w.fit in
    let own = under_way (transaction_of parts.transactions.opens c.args.session) fits.in_hand.0 in
    let two = share_whole (Some hand) (transaction_of parts.transactions.opens c.args.session) own.own own.is own.whole refl in
    let enough = fits.share in
    let less = c.release.ensures.promised in
    omega (arith, two, enough, less)

pub full_table-requires-clause-open : goal.full_table-requires-clause-open
full_table-requires-clause-open g c =
    let parts = c.args.parts.now in
    let w = waits g.D.Disk.told c.args.parts.now c.args.session c.args.machine.now c.in-Some.insert c.in-Some.is c.requires.made c.requires.nowhere c.requires.id c.requires.fit c.requires.shown in
    let hand = hands.Puts c.in-Some.insert.row.table c.in-Some.insert.row.values in
    let fits = c.an_undone_step_changes_nothing.ensures.parts (unpromised parts) c.args.session hand w.fit in
    let own = under_way (transaction_of parts.transactions.opens c.args.session) fits.in_hand.0 in
    subst (λ (t : Option Open). IsSome t) (sym own.is) refl

-- the row is put, and the insert goes on

pub returns-in-Ok-Moved : goal.returns-in-Ok-Moved
returns-in-Ok-Moved g c =
    let parts = c.args.parts.now in
    let w = waits g.D.Disk.told c.args.parts.now c.args.session c.args.machine.now c.in-Some.insert c.in-Some.is c.requires.made c.requires.nowhere c.requires.id c.requires.fit c.requires.shown in
    let hand = hands.Puts c.in-Some.insert.row.table c.in-Some.insert.row.values in
    let outcome = c.in-Ok-Moved.ensures.outcome in
    let laws = c.an_undone_step_changes_nothing.ensures in
    let after = c.step.new.self in
    let later = c.enter_row.new.parts in
    let fits = laws.parts (unpromised parts) c.args.session hand w.fit in
    let own = under_way (transaction_of parts.transactions.opens c.args.session) fits.in_hand.0 in
    let row_is : c.row.result.now ≡ c.in-Some.insert.row = c.row.ensures ∙ c.step.ensures.same_row in
    let none : locks_of parts.locks c.args.session ≤ held_by (stage_of c.in-Some.insert) = let few = fits.own in omega (arith, few) in
    let quiet = silent_step c.in-Some.insert.asking parts.queue c.step.new.queue c.in-Some.insert.dropped.items after.dropped.items (silent_nowhere parts.pages.layout c.in-Some.insert w.made w.nowhere) c.step.ensures.plain in
    let so : StepsSo g.D.Disk.told (unpromised parts) later c.args.session hand (stepped.Moved c.in-Ok-Moved.point (hands.Inserts after)) =
    subst (λ (q : Parts _). StepsSo g.D.Disk.told (unpromised parts) q c.args.session hand (stepped.Moved c.in-Ok-Moved.point (hands.Inserts after))) (sym c.enter_row.ensures.rest)
    (subst (λ (l : List (ℕ × ℕ)). StepsSo g.D.Disk.told (unpromised parts) (record parts { pages = c.step.new.pages; locks = c.step.new.locks; transactions = later.transactions; journal = later.journal; queue = l }) c.args.session hand (stepped.Moved c.in-Ok-Moved.point (hands.Inserts after))) (sym quiet.0)
    (row_moved_so g.D.Disk.told c.one_hand_changes.ensures laws.parts laws.stores parts c.step.new.pages c.step.new.locks later.transactions later.journal c.args.session c.in-Some.insert after w.fit
    (record { others = c.step.ensures.others; order = c.step.ensures.order; leaves = c.step.ensures.locks; counts = c.step.ensures.counts; made = c.step.ensures.made; row = c.step.ensures.same_row; ready = (outcome.0, outcome.1) })
    own.own
    (record {
      none = none_dropped parts.pages.layout c.in-Some.insert after.dropped.items w.made w.nowhere quiet.1;
      nowhere = w.nowhere;
      open_is = own.is;
      next = w.id own.own own.is;
      counted = c.enter_row.ensures.counted own.own own.is;
      entries = c.enter_row.ensures.entries ∙ ap (λ (r : Row). parts.journal.entries ++ request_entry c.args.session r.table (requests.Put r.values) ∷ []) row_is;
      promised = c.enter_row.ensures.promised;
      room = let room = c.requires.fits in omega (arith, room);
    })
    c.steps_of_an_insert.ensures.row c.in-Ok-Moved.point (rw c.in-Ok-Moved.field-0-is at c.in-Ok-Moved.ensures.stepped) (rw c.in-Ok-Moved.field-0-is at c.in-Ok-Moved.ensures.left) c.in-Ok-Moved.ensures.placed (c.in-Ok-Moved.ensures.own none))) in
    let then = put_settles g.D.Disk.told (unpromised parts) later c.args.session c.args.machine.now c.in-Some.insert (Some after) (Ok (steps.Moved c.in-Ok-Moved.point)) c.in-Some.is
    (record { stepped = stepped.Moved c.in-Ok-Moved.point (hands.Inserts after); so = so; left_is = refl; answer_is = refl }) in
    record {
      so = then;
      machine = c.step.ensures.made;
      survives = subst (λ (q : Parts _). Survives g.D.Disk.told (IsBefore c.args.parts.now.pages) c.args.parts.now.pages q.pages) (sym c.enter_row.ensures.rest) c.step.ensures.survives;
    }

-- it is done

pub returns-in-Ok-Finished : goal.returns-in-Ok-Finished
returns-in-Ok-Finished g c =
    let parts = c.args.parts.now in
    let w = waits g.D.Disk.told c.args.parts.now c.args.session c.args.machine.now c.in-Some.insert c.in-Some.is c.requires.made c.requires.nowhere c.requires.id c.requires.fit c.requires.shown in
    let hand = hands.Puts c.in-Some.insert.row.table c.in-Some.insert.row.values in
    let outcome = c.in-Ok-Finished.ensures.outcome in
    let laws = c.an_undone_step_changes_nothing.ensures in
    let after = c.step.new.self in
    let later = c.enter_row-in-Ok-Finished.new.parts in
    let fits = laws.parts (unpromised parts) c.args.session hand w.fit in
    let own = under_way (transaction_of parts.transactions.opens c.args.session) fits.in_hand.0 in
    let row_is : c.row-in-Ok-Finished.result.now ≡ c.in-Some.insert.row = c.row-in-Ok-Finished.ensures ∙ c.step.ensures.same_row in
    let none : locks_of parts.locks c.args.session ≤ held_by (stage_of c.in-Some.insert) = let few = fits.own in omega (arith, few) in
    let quiet = silent_step c.in-Some.insert.asking parts.queue c.step.new.queue c.in-Some.insert.dropped.items after.dropped.items (silent_nowhere parts.pages.layout c.in-Some.insert w.made w.nowhere) c.step.ensures.plain in
    let is : c.row-in-Ok-Finished-2.result.now ≡ c.in-Some.insert.row = c.row-in-Ok-Finished-2.ensures ∙ c.step.ensures.same_row in
    let so : StepsSo g.D.Disk.told (unpromised parts) later c.args.session hand (stepped.Done (replies.Inserted c.row-in-Ok-Finished-2.result.now.id)) =
    subst (λ (r : Row). StepsSo g.D.Disk.told (unpromised parts) later c.args.session hand (stepped.Done (replies.Inserted r.id))) (sym is)
    (subst (λ (q : Parts _). StepsSo g.D.Disk.told (unpromised parts) q c.args.session hand (stepped.Done (replies.Inserted c.in-Some.insert.row.id))) (sym c.enter_row-in-Ok-Finished.ensures.rest)
    (subst (λ (l : List (ℕ × ℕ)). StepsSo g.D.Disk.told (unpromised parts) (record parts { pages = c.step.new.pages; locks = c.step.new.locks; transactions = later.transactions; journal = later.journal; queue = l }) c.args.session hand (stepped.Done (replies.Inserted c.in-Some.insert.row.id))) (sym quiet.0)
    (row_done_so g.D.Disk.told c.one_hand_changes.ensures laws.parts laws.stores parts c.step.new.pages c.step.new.locks later.transactions later.journal c.args.session c.in-Some.insert after w.fit
    (record { others = c.step.ensures.others; order = c.step.ensures.order; leaves = c.step.ensures.locks; counts = c.step.ensures.counts; made = c.step.ensures.made; row = c.step.ensures.same_row; ready = (outcome.0, outcome.1) })
    own.own
    (record {
      none = none_dropped parts.pages.layout c.in-Some.insert after.dropped.items w.made w.nowhere quiet.1;
      nowhere = w.nowhere;
      open_is = own.is;
      next = w.id own.own own.is;
      counted = c.enter_row-in-Ok-Finished.ensures.counted own.own own.is;
      entries = c.enter_row-in-Ok-Finished.ensures.entries ∙ ap (λ (r : Row). parts.journal.entries ++ request_entry c.args.session r.table (requests.Put r.values) ∷ []) row_is;
      promised = c.enter_row-in-Ok-Finished.ensures.promised;
      room = let room = c.requires.fits in omega (arith, room);
    })
    c.steps_of_an_insert.ensures.row c.in-Ok-Finished.field-0-0 (rw c.in-Ok-Finished.field-0-is at c.in-Ok-Finished.ensures.stepped) c.in-Ok-Finished.ensures.placed
    (none_left after (rw c.in-Ok-Finished.field-0-is at c.in-Ok-Finished.ensures.left) c.step.new.locks c.args.session (c.in-Ok-Finished.ensures.own none))))) in
    let then = put_settles g.D.Disk.told (unpromised parts) later c.args.session c.args.machine.now c.in-Some.insert (Some after) c.done.result c.in-Some.is
    (record { stepped = stepped.Done (replies.Inserted c.row-in-Ok-Finished-2.result.now.id); so = so; left_is = ap (left_behind hand (Some after)) c.done.ensures; answer_is = c.done.ensures }) in
    record {
      so = then;
      machine = c.step.ensures.made;
      survives = subst (λ (q : Parts _). Survives g.D.Disk.told (IsBefore c.args.parts.now.pages) c.args.parts.now.pages q.pages) (sym c.enter_row-in-Ok-Finished.ensures.rest) c.step.ensures.survives;
    }

-- no place is left

pub returns-in-Err-Full : goal.returns-in-Err-Full
returns-in-Err-Full g c =
    let parts = c.args.parts.now in
    let w = waits g.D.Disk.told c.args.parts.now c.args.session c.args.machine.now c.in-Some.insert c.in-Some.is c.requires.made c.requires.nowhere c.requires.id c.requires.fit c.requires.shown in
    let hand = hands.Puts c.in-Some.insert.row.table c.in-Some.insert.row.values in
    let outcome = rw c.in-Err-Full.field-0-is at c.in-Err-Full.ensures.outcome in
    let laws = c.an_undone_step_changes_nothing.ensures in
    let later = c.full_table.new.parts in
    let fits = laws.parts (unpromised parts) c.args.session hand w.fit in
    let own = under_way (transaction_of parts.transactions.opens c.args.session) fits.in_hand.0 in
    let row_is : c.row-in-Err-Full.result.now ≡ c.in-Some.insert.row = c.row-in-Err-Full.ensures ∙ c.step.ensures.same_row in
    let same_locks : c.step.new.locks ≡ parts.locks = rw c.in-Err-Full.field-0-is at c.in-Err-Full.ensures.at_full in
    let says = rw c.in-Err-Full.field-0-is at c.in-Err-Full.ensures.full in
    let reply = replies.Refused (refusals.Full (table_name parts.pages.layout c.in-Some.insert.row.table) c.in-Err-Full.number) in
    let answer_is : c.full_table.result ≡ answer_of (stepped.Done reply) =
    c.full_table.ensures.reply ∙ ap (λ (l : DiskLayout). answer_of (stepped.Done (replies.Refused (refusals.Full (table_name l c.row-in-Err-Full.result.now.table) c.in-Err-Full.number)))) c.step.ensures.others.leaves.layout
    ∙ ap (λ (r : Row). answer_of (stepped.Done (replies.Refused (refusals.Full (table_name parts.pages.layout r.table) c.in-Err-Full.number)))) row_is in
    let refused : LeftRefused g.D.Disk.told (unpromised parts) c.step.new.pages later.transactions later.locks later.journal c.args.session hand own.own (tagged_entry c.args.session c.in-Some.insert.row.table (requests.Put c.in-Some.insert.row.values) tags.Full) = record {
      fits = fits;
      free = refl;
      no_right = refl;
      open_is = own.is;
      whole = own.whole;
      leaves = c.step.ensures.others.leaves;
      over = over_beside g.D.Disk.told parts.transactions.tx parts.pages c.step.new.pages _ (at_no_heap_status parts.pages.layout c.in-Some.insert w.nowhere) fits.over c.step.ensures.others;
      failed = c.full_table.ensures.failed own.own own.is;
      limit = c.full_table.ensures.limit ∙ c.step.ensures.counts.limit;
      none = c.full_table.ensures.none;
      others = λ m other. c.full_table.ensures.counts.others m other ∙ c.step.ensures.counts.adds.others m other;
      entries = c.full_table.ensures.entries ∙ ap (λ (l : List Entry). l ++ tagged_entry c.args.session c.row-in-Err-Full.result.now.table (requests.Put c.row-in-Err-Full.result.now.values) tags.Full ∷ []) c.release.ensures.entries
          ∙ ap (λ (r : Row). parts.journal.entries ++ tagged_entry c.args.session r.table (requests.Put r.values) tags.Full ∷ []) row_is;
      promised = let one = c.full_table.ensures.promised in let two = c.release.ensures.promised in omega (arith, one, two);
      room = let room = c.requires.fits in omega (arith, room);
    } in
    let so : StepsSo g.D.Disk.told (unpromised parts) later c.args.session hand (stepped.Done reply) =
    subst (λ (q : Parts _). StepsSo g.D.Disk.told (unpromised parts) q c.args.session hand (stepped.Done reply)) (sym c.full_table.ensures.rest)
    (subst (λ (l : List (ℕ × ℕ)). StepsSo g.D.Disk.told (unpromised parts) (record (unpromised parts) { pages = c.step.new.pages; transactions = later.transactions; locks = later.locks; journal = later.journal; queue = l }) c.args.session hand (stepped.Done reply)) (sym c.in-Err-Full.ensures.queue)
    (full_heap_so g.D.Disk.told c.one_hand_changes.ensures laws.stores c.steps_of_an_insert.ensures.refusal (unpromised parts) c.step.new.pages later.locks later.transactions later.journal c.args.session c.in-Some.insert.row.table c.in-Some.insert.row.values tags.Full tt own.own
    refused (subst (λ (l : LockState). GivesAll (holder l) (holder later.locks) c.args.session) same_locks c.full_table.ensures.given) c.in-Err-Full.ensures.kept (outcome.0, outcome.1) refl c.in-Err-Full.number
    (λ tells blocks has. subst (λ (t : Task). IsInsertFull c.args.session c.in-Some.insert.at (shown_by parts.pages.layout parts.pages.pages parts.locks c.in-Some.insert.row.table blocks) t c.in-Err-Full.number) (ap (λ (place : Option Spot). task_at parts.pages.layout c.in-Some.insert place) w.nowhere) (says.1 tells blocks has))
    reply refl)) in
    let then = put_settles g.D.Disk.told (unpromised parts) later c.args.session c.args.machine.now c.in-Some.insert (Some c.step.new.self) c.full_table.result c.in-Some.is
    (record { stepped = stepped.Done reply; so = so; left_is = ap (left_behind hand (Some c.step.new.self)) answer_is; answer_is = answer_is }) in
    record {
      so = then;
      machine = c.step.ensures.made;
      survives = subst (λ (q : Parts _). Survives g.D.Disk.told (IsBefore c.args.parts.now.pages) c.args.parts.now.pages q.pages) (sym c.full_table.ensures.rest) c.step.ensures.survives;
    }

-- the pages refuse it

pub returns-in-Err-Store : goal.returns-in-Err-Store
returns-in-Err-Store g c =
    let parts = c.args.parts.now in
    let w = waits g.D.Disk.told c.args.parts.now c.args.session c.args.machine.now c.in-Some.insert c.in-Some.is c.requires.made c.requires.nowhere c.requires.id c.requires.fit c.requires.shown in
    let hand = hands.Puts c.in-Some.insert.row.table c.in-Some.insert.row.values in
    let laws = c.an_undone_step_changes_nothing.ensures in
    let fits = laws.parts (unpromised parts) c.args.session hand w.fit in
    let undone : LeftUndone g.D.Disk.told (unpromised parts) c.step.new.pages c.drop_all.new.self c.release-in-Err-Store.new.self c.args.session hand hand = record {
      fits = fits;
      in_hand = fits.in_hand;
      no_right = refl;
      share = refl;
      statement = refl;
      leaves = c.step.ensures.others.leaves;
      over = over_beside g.D.Disk.told parts.transactions.tx parts.pages c.step.new.pages _ (at_no_heap_status parts.pages.layout c.in-Some.insert w.nowhere) fits.over c.step.ensures.others;
      limit = c.drop_all.ensures.limit ∙ c.step.ensures.counts.limit;
      none = c.drop_all.ensures.none;
      others = λ m other. c.drop_all.ensures.counts.others m other ∙ c.step.ensures.counts.adds.others m other;
      entries = c.release-in-Err-Store.ensures.entries;
      promised = let less = c.release-in-Err-Store.ensures.promised in omega (arith, less);
    } in
    let beside : Parts _ = record parts { pages = c.step.new.pages; locks = c.drop_all.new.self; journal = c.release-in-Err-Store.new.self } in
    let new : Parts _ = record beside { queue = c.step.new.queue } in
    let so : StepsSo g.D.Disk.told (unpromised parts) new c.args.session hand (stepped.Undone c.fault_of.result hand) =
    subst (λ (l : List (ℕ × ℕ)). StepsSo g.D.Disk.told (unpromised parts) (record beside { queue = l }) c.args.session hand (stepped.Undone c.fault_of.result hand)) (sym c.in-Err-Store.ensures.queue)
    (subst (λ (f : StoreFault). StepsSo g.D.Disk.told (unpromised parts) beside c.args.session hand (stepped.Undone f hand)) (sym c.fault_of.ensures)
    (undone_so g.D.Disk.told c.one_hand_changes.ensures laws.stores (unpromised parts) c.step.new.pages c.drop_all.new.self c.release-in-Err-Store.new.self c.args.session hand hand undone c.in-Err-Store.error
    (rw c.in-Err-Store.field-0-is at c.in-Err-Store.ensures.outcome) (relation_names parts.pages.layout (relation_at parts.pages.layout c.in-Some.insert) c.in-Err-Store.error (rw c.in-Err-Store.field-0-is at c.in-Err-Store.ensures.at)))) in
    let then = put_settles g.D.Disk.told (unpromised parts) new c.args.session c.args.machine.now c.in-Some.insert (Some c.step.new.self) (Err c.fault_of.result) c.in-Some.is
    (record { stepped = stepped.Undone c.fault_of.result hand; so = so; left_is = refl; answer_is = refl }) in
    record { so = then; machine = c.step.ensures.made; survives = c.step.ensures.survives }
