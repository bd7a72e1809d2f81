use Rattle.std.proofs.Common.{◌≡◌, [], ◌∷◌, ◌++◌, ◌+◌, ◌<◌, ◌≤◌, List, length, Option, None, Some, refl, sym, ap, subst, ◌∙◌, arith}
use Rattle.std.specs.Prelude.{IfSome, IsSome, IsSomeAnd}
use Rattle.std.proofs.lemmas.Bool.{false≢true}
use Rattle.block_model.specs.declared.reply.Refusal.TheVariants as refusals
use Rattle.block_model.specs.declared.reply.Reply.TheVariants as replies
use Rattle.block_model.specs.declared.request.Entry.{Entry}
use Rattle.block_model.specs.declared.request.Request.TheVariants as requests
use Rattle.block_model.specs.declared.request.Tag.TheVariants as tags
use Rattle.snapshot_core.specs.declared.sessions.Open.{Open}
use Rattle.snapshot_core.specs.StoredVersions.{transaction_of}
use Rattle.store_layout.specs.declared.limits.TheConstants.{MAX_ENTRIES}
use Rattle.store_layout.specs.StatementRequests.{tagged_entry}
use Rattle.transactions.specs.Sessions.{next_row_of}
use Rattle.page_locks.specs.LockChanges.{GivesAll}
use Rattle.page_locks.specs.LockCounts.{locks_of}
use Rattle.page_locks.specs.LockHolders.{holder}
use Rattle.transactions.specs.TransactionsState.{OfOpen, with_failed}
use Rattle.brin_insert.specs.Inserts.{IsInsertFor}
use Rattle.session_parts.specs.declared.faults.StoreFault.{StoreFault}
use Rattle.session_parts.specs.declared.hand.Hand.{Hand}
use Rattle.session_parts.specs.declared.hand.Hand.TheVariants as hands
use Rattle.session_parts.specs.declared.hand.Stepped.TheVariants as stepped
use Rattle.session_parts.specs.declared.parts.Parts.{Parts}
use Rattle.session_parts.specs.Stepping.{IsFit, IsShown}
use Rattle.session_parts.specs.DamagedPages.{reopen_names}
use Rattle.session_parts.specs.UndoneLaws.{StepsSo}
use Rattle.session_inserts.specs.Promised.{unpromised}
use Rattle.session_inserts.specs.Settling.{SettlesSo}
use Rattle.session_inserts.specs.SparePut.{left_behind}
use Rattle.page_store.specs.Survives.{Survives}
use Rattle.tx_table.specs.Durable.{IsBefore}
use Rattle.tx_table.proofs.Parts.{passed_none}
use Rattle.session_inserts.proofs.Beside.{past_one, past_room, under_way}
use Rattle.session_inserts.proofs.Refusing.{LeftRefused, leaves_same, share_whole}
use Rattle.session_inserts.proofs.RowParts.{no_room_so, short_so, unpromised_is}
use Rattle.session_inserts.proofs.SpareMachine.{of_its_row, row_settles}
use Rattle.session_inserts.proofs.row.put_row.Goals as goal

pub returns-in-Err : goal.returns-in-Err
returns-in-Err g c =
    let parts = c.args.parts.now in
    let hand = hands.Puts c.args.table c.args.values.now in
    let fits = c.an_undone_step_changes_nothing.ensures.parts parts c.args.session hand c.requires.fit in
    let so : StepsSo g.D.Disk.told parts parts c.args.session hand (stepped.Undone c.fault_of.result hand) = subst (λ (f : StoreFault). StepsSo g.D.Disk.told parts parts c.args.session hand (stepped.Undone f hand)) (sym c.fault_of.ensures)
    (c.an_undone_step_changes_nothing.ensures.refused parts parts c.args.session hand c.in-Err.error c.requires.fit fits.over (leaves_same g.D.Disk.told parts.pages) (record { transactions = refl; locks = refl; rights = refl; journal = refl; queue = refl; dropped = refl }) c.in-Err.ensures.outcome
    (reopen_names parts.pages.layout c.in-Err.error c.in-Err.ensures.reopen)) in
    record { so = record { stepped = stepped.Undone c.fault_of.result hand; so = so; left_is = refl; answer_is = refl }; machine = c.requires.machine; survives = passed_none g.D.Disk.told (IsBefore parts.pages) parts.pages parts.pages c.ready.ensures.stays }

pub returns-then-not-fits : goal.returns-then-not-fits
returns-then-not-fits g c =
    let parts = c.args.parts.now in
    let hand = hands.Puts c.args.table c.args.values.now in
    let fits = c.an_undone_step_changes_nothing.ensures.parts parts c.args.session hand c.requires.fit in
    let full = past_room (length parts.journal.entries) MAX_ENTRIES (λ (within : length parts.journal.entries + 1 ≤ MAX_ENTRIES). false≢true (sym c.if-not-fits.true ∙ c.fits.ensures.1 within)) in
    let so : StepsSo g.D.Disk.told parts parts c.args.session hand (stepped.Undone c.spent.result hand) = subst (λ (f : StoreFault). StepsSo g.D.Disk.told parts parts c.args.session hand (stepped.Undone f hand)) (sym c.spent.ensures)
    (c.an_undone_step_changes_nothing.ensures.spent parts c.args.session hand (length parts.journal.entries) c.requires.fit c.in-Ok.ensures.outcome.0 refl (past_one (length parts.journal.entries) MAX_ENTRIES full)
    (λ names hand_list p has tells shown. no_room_so c.steps_of_an_insert.ensures.refusal parts c.args.session c.args.table c.args.values.now fits.in_hand.1 full names hand_list p has shown)) in
    record { so = record { stepped = stepped.Undone c.spent.result hand; so = so; left_is = refl; answer_is = refl }; machine = c.requires.machine; survives = passed_none g.D.Disk.told (IsBefore parts.pages) parts.pages parts.pages c.ready.ensures.stays }

pub machine_for-requires-clause-open : goal.machine_for-requires-clause-open
machine_for-requires-clause-open g c =
    let parts = c.args.parts.now in
    let fits = c.an_undone_step_changes_nothing.ensures.parts parts c.args.session (hands.Puts c.args.table c.args.values.now) c.requires.fit in
    let own = under_way (transaction_of parts.transactions.opens c.args.session) fits.in_hand.0 in
    subst (λ (t : Option Open). IsSome t) (sym own.is) refl

pub machine_for-requires-clause-table : goal.machine_for-requires-clause-table
machine_for-requires-clause-table g c = (c.an_undone_step_changes_nothing.ensures.parts c.args.parts.now c.args.session (hands.Puts c.args.table c.args.values.now) c.requires.fit).in_hand.1

pub machine_for-requires-clause-kinds : goal.machine_for-requires-clause-kinds
machine_for-requires-clause-kinds g c = (c.an_undone_step_changes_nothing.ensures.parts c.args.parts.now c.args.session (hands.Puts c.args.table c.args.values.now) c.requires.fit).in_hand.2

pub machine_for-requires-clause-machine : goal.machine_for-requires-clause-machine
machine_for-requires-clause-machine g c = c.requires.machine

pub first_step-requires-clause-made : goal.first_step-requires-clause-made
first_step-requires-clause-made g c = subst (λ (q : Parts _). IsSomeAnd c.machine_for.new.machine (IsInsertFor q.pages.layout)) (sym c.machine_for.ensures.rest) c.in-Ok-machine_for.ensures.made

pub first_step-requires-clause-nowhere : goal.first_step-requires-clause-nowhere
first_step-requires-clause-nowhere g c = c.in-Ok-machine_for.ensures.nowhere

pub first_step-requires-clause-id : goal.first_step-requires-clause-id
first_step-requires-clause-id g c = subst (λ (q : Parts _). IfSome c.machine_for.new.machine (λ insert. OfOpen q.transactions c.args.session (λ o. next_row_of o ≡ Some insert.row.id))) (sym c.machine_for.ensures.rest) c.in-Ok-machine_for.ensures.id

pub first_step-requires-clause-number : goal.first_step-requires-clause-number
first_step-requires-clause-number g c = subst (λ (q : Parts _). IsSomeAnd (transaction_of q.transactions.opens c.args.session) (λ (o : Open). o.next_k + 1 < 4294967296)) (sym c.machine_for.ensures.rest) c.in-Ok-machine_for.ensures.number

pub first_step-requires-clause-promised : goal.first_step-requires-clause-promised
first_step-requires-clause-promised g c = let more = c.in-Ok-machine_for.ensures.promised in omega (arith, more)

pub first_step-requires-clause-fits : goal.first_step-requires-clause-fits
first_step-requires-clause-fits g c =
    let room = c.fits.ensures.0 c.if-not-fits.false in
    let same : length c.machine_for.new.parts.journal.entries ≡ length c.args.parts.now.journal.entries = ap (λ (l : List Entry). length l) c.machine_for.ensures.entries in
    omega (arith, room, same)

pub first_step-requires-clause-ready : goal.first_step-requires-clause-ready
first_step-requires-clause-ready g c = subst (λ (q : Parts _). q.pages.failed ≡ None) (sym c.machine_for.ensures.rest) c.in-Ok.ensures.outcome.0

pub first_step-requires-clause-fit : goal.first_step-requires-clause-fit
first_step-requires-clause-fit g c =
    let before = unpromised_is c.args.parts.now c.machine_for.new.parts c.machine_for.ensures.rest c.machine_for.ensures.entries c.in-Ok-machine_for.ensures.promised in
    of_its_row c.machine_for.new.machine c.args.table c.args.values.now (λ (h : Hand). IsFit g.D.Disk.told (unpromised c.machine_for.new.parts) c.args.session h) c.in-Ok-machine_for.ensures.row
    (subst (λ (q : Parts _). IsFit g.D.Disk.told q c.args.session (hands.Puts c.args.table c.args.values.now)) (sym before) c.requires.fit)

pub first_step-requires-clause-shown : goal.first_step-requires-clause-shown
first_step-requires-clause-shown g c =
    let before = unpromised_is c.args.parts.now c.machine_for.new.parts c.machine_for.ensures.rest c.machine_for.ensures.entries c.in-Ok-machine_for.ensures.promised in
    of_its_row c.machine_for.new.machine c.args.table c.args.values.now (λ (h : Hand). IsShown g.D.Disk.told (unpromised c.machine_for.new.parts) c.args.session h) c.in-Ok-machine_for.ensures.row
    (subst (λ (q : Parts _). IsShown g.D.Disk.told q c.args.session (hands.Puts c.args.table c.args.values.now)) (sym before) c.requires.shown)

pub returns-in-Ok-machine_for : goal.returns-in-Ok-machine_for
returns-in-Ok-machine_for g c =
    let parts = c.args.parts.now in
    let before = unpromised_is parts c.machine_for.new.parts c.machine_for.ensures.rest c.machine_for.ensures.entries c.in-Ok-machine_for.ensures.promised in
    let hand = hands.Puts c.args.table c.args.values.now in
    let left = left_behind hand c.first_step.new.machine c.first_step.result in
    let so : SettlesSo g.D.Disk.told parts c.first_step.new.parts c.args.session hand left c.first_step.result = subst (λ (q : Parts _). SettlesSo g.D.Disk.told q c.first_step.new.parts c.args.session hand left c.first_step.result) before
    (row_settles g.D.Disk.told (unpromised c.machine_for.new.parts) c.first_step.new.parts c.args.session c.machine_for.new.machine (IsInsertFor parts.pages.layout) c.args.table c.args.values.now c.first_step.new.machine c.first_step.result
    c.in-Ok-machine_for.ensures.made c.in-Ok-machine_for.ensures.row c.first_step.ensures.so) in
    record {
      so = so;
      machine = subst (λ (q : Parts _). IfSome c.first_step.new.machine (IsInsertFor q.pages.layout)) c.machine_for.ensures.rest c.first_step.ensures.machine;
      survives = subst (λ (q : Parts _). Survives g.D.Disk.told (IsBefore q.pages) q.pages c.first_step.new.parts.pages) c.machine_for.ensures.rest c.first_step.ensures.survives;
    }

pub lacks_memory-requires-clause-promised : goal.lacks_memory-requires-clause-promised
lacks_memory-requires-clause-promised g c =
    let parts = c.args.parts.now in
    let hand = hands.Puts c.args.table c.args.values.now in
    let fits = c.an_undone_step_changes_nothing.ensures.parts parts c.args.session hand c.requires.fit in
    let own = under_way (transaction_of parts.transactions.opens c.args.session) fits.in_hand.0 in
    let two = share_whole (Some hand) (transaction_of parts.transactions.opens c.args.session) own.own own.is own.whole refl in
    let enough = fits.share in
    let same = c.in-Err-machine_for.ensures.same in
    omega (arith, two, enough, same)

pub lacks_memory-requires-clause-open : goal.lacks_memory-requires-clause-open
lacks_memory-requires-clause-open g c =
    let parts = c.args.parts.now in
    let fits = c.an_undone_step_changes_nothing.ensures.parts parts c.args.session (hands.Puts c.args.table c.args.values.now) c.requires.fit in
    let own = under_way (transaction_of parts.transactions.opens c.args.session) fits.in_hand.0 in
    subst (λ (q : Parts _). IsSome (transaction_of q.transactions.opens c.args.session)) (sym c.machine_for.ensures.rest) (subst (λ (t : Option Open). IsSome t) (sym own.is) refl)

pub returns-in-Err-machine_for : goal.returns-in-Err-machine_for
returns-in-Err-machine_for g c =
    let parts = c.args.parts.now in
    let hand = hands.Puts c.args.table c.args.values.now in
    let laws = c.an_undone_step_changes_nothing.ensures in
    let outcome = c.in-Ok.ensures.outcome in
    let later = c.lacks_memory.new.parts in
    let mid = c.machine_for.ensures.rest in
    let fits = laws.parts parts c.args.session hand c.requires.fit in
    let own = under_way (transaction_of parts.transactions.opens c.args.session) fits.in_hand.0 in
    let refused : LeftRefused g.D.Disk.told parts parts.pages later.transactions later.locks later.journal c.args.session hand own.own (tagged_entry c.args.session c.args.table (requests.Put c.args.values.now) tags.NoMemory) = record {
      fits = fits;
      free = refl;
      no_right = refl;
      open_is = own.is;
      whole = own.whole;
      leaves = leaves_same g.D.Disk.told parts.pages;
      over = fits.over;
      failed = (subst (λ (q : Parts _). (o : Open) → transaction_of q.transactions.opens c.args.session ≡ Some o → later.transactions ≡ with_failed q.transactions c.args.session o) mid c.lacks_memory.ensures.failed) own.own own.is;
      limit = c.lacks_memory.ensures.limit ∙ ap (λ (q : Parts _). q.locks.limit) mid;
      none = c.lacks_memory.ensures.none;
      others = λ m other. c.lacks_memory.ensures.counts.others m other ∙ ap (λ (q : Parts _). locks_of q.locks m) mid;
      entries = c.lacks_memory.ensures.entries ∙ ap (λ (l : List Entry). l ++ tagged_entry c.args.session c.args.table (requests.Put c.args.values.now) tags.NoMemory ∷ []) c.machine_for.ensures.entries;
      promised = let one = c.lacks_memory.ensures.promised in let same = c.in-Err-machine_for.ensures.same in omega (arith, one, same);
      room = c.fits.ensures.0 c.if-not-fits.false;
    } in
    let so : StepsSo g.D.Disk.told parts later c.args.session hand (stepped.Done (replies.Refused refusals.Memory)) =
    subst (λ (q : Parts _). StepsSo g.D.Disk.told parts q c.args.session hand (stepped.Done (replies.Refused refusals.Memory)))
    (sym (c.lacks_memory.ensures.rest ∙ ap (λ (q : Parts _). record q { transactions = later.transactions; locks = later.locks; journal = later.journal }) mid))
    (short_so g.D.Disk.told c.one_hand_changes.ensures laws.stores c.steps_of_an_insert.ensures.refusal parts parts.pages later.locks later.transactions later.journal c.args.session c.args.table c.args.values.now tags.NoMemory tt own.own refused
    (subst (λ (q : Parts _). GivesAll (holder q.locks) (holder later.locks) c.args.session) mid c.lacks_memory.ensures.given) (record { leaves = leaves_same g.D.Disk.told parts.pages; pages = λ tells. refl }) (outcome.0, outcome.1) refl) in
    record { so = record { stepped = stepped.Done (replies.Refused refusals.Memory); so = so; left_is = ap (left_behind hand c.machine_for.new.machine) c.lacks_memory.ensures.reply; answer_is = c.lacks_memory.ensures.reply }; machine = c.machine_for.ensures.machine; survives = subst (λ (q : Parts _). Survives g.D.Disk.told (IsBefore c.args.parts.now.pages) c.args.parts.now.pages q.pages) (sym (c.lacks_memory.ensures.rest ∙ ap (λ (q : Parts _). record q { transactions = later.transactions; locks = later.locks; journal = later.journal }) mid)) (passed_none g.D.Disk.told (IsBefore parts.pages) parts.pages parts.pages c.ready.ensures.stays) }
