use Rattle.std.proofs.Common.{◌≡◌, ◌≢◌, ℕ, ◌<◌, length, None, Some, Ok, Err, slice_set, sym, ap, subst, ◌∙◌, arith}
use Rattle.block_model.specs.declared.reply.Reply.{Reply}
use Rattle.store_layout.specs.DiskLayout.{DiskLayout}
use Rattle.page_map.specs.PageMap.{PageMap}
use Rattle.page_store.specs.Survives.{Survives}
use Rattle.page_locks.specs.RightHolders.{right_of}
use Rattle.summarise_core.specs.Desummarises.{count_at}
use Rattle.block_model.specs.declared.reply.Reply.TheVariants as replies
use Rattle.page_map.specs.PageMap.{View}
use Rattle.session_parts.specs.declared.hand.Hand.TheVariants as hands
use Rattle.session_parts.specs.declared.hand.Stepped.TheVariants as stepped
use Rattle.session_parts.specs.declared.parts.Parts.{Parts}
use Rattle.session_parts.specs.UndoneLaws.{StepsSo}
use Rattle.session_parts.proofs.Undone.{fit_of_parts}
use Rattle.session_maintenance.specs.declared.settle.Came.TheVariants as cames
use Rattle.session_maintenance.proofs.Desummarises.{StepTold, comes, desummarise_takes, needs, replied}
use Rattle.session_maintenance.proofs.UpkeepAt.{of_same, table_below, table_is}
use Rattle.session_maintenance.proofs.desummarise.desummarise_on.Goals as goal

-- the step may be made

pub table_of-table-requires : goal.table_of-table-requires
table_of-table-requires g c =
    let parts = c.args.parts.now in
    let fits = fit_of_parts g.D.Disk.told parts c.args.session (hands.Desummarises c.args.desummarise.now) c.requires.fit in
    of_same (λ (l : DiskLayout) (i : ℕ). i < length l.schema.indexes) c.layout.result.now parts.pages.layout (sym c.layout.ensures) c.index.result c.args.desummarise.now.index (sym c.index.ensures) fits.in_hand.0.index

pub step-came-requires-clause-of : goal.step-came-requires-clause-of
step-came-requires-clause-of g c = (fit_of_parts g.D.Disk.told c.args.parts.now c.args.session (hands.Desummarises c.args.desummarise.now) c.requires.fit).in_hand.0

pub step-came-requires-clause-left : goal.step-came-requires-clause-left
step-came-requires-clause-left g c = (fit_of_parts g.D.Disk.told c.args.parts.now c.args.session (hands.Desummarises c.args.desummarise.now) c.requires.fit).in_hand.1

pub step-came-requires-clause-rights : goal.step-came-requires-clause-rights
step-came-requires-clause-rights g c =
    let as_many = (fit_of_parts g.D.Disk.told c.args.parts.now c.args.session (hands.Desummarises c.args.desummarise.now) c.requires.fit).rights in
    omega (arith, as_many)

pub step-came-requires-clause-locks : goal.step-came-requires-clause-locks
step-came-requires-clause-locks g c = λ some.
    let few = c.requires.few in
    let limit = (fit_of_parts g.D.Disk.told c.args.parts.now c.args.session (hands.Desummarises c.args.desummarise.now) c.requires.fit).limit in
    let takes = desummarise_takes c.args.desummarise.now in
    omega (arith, few, limit, takes)

-- and settled

pub settle-requires-clause-table : goal.settle-requires-clause-table
settle-requires-clause-table g c = subst (λ (l : DiskLayout). c.table_of-table.result < length l.schema.tables) (c.layout.ensures ∙ sym c.step-came.ensures.others.leaves.layout) c.table_of-table.ensures.there

pub settle-requires-clause-rights : goal.settle-requires-clause-rights
settle-requires-clause-rights g c =
    let told = g.D.Disk.told in
    let parts = c.args.parts.now in
    let e = c.step-came.ensures in
    let below = table_below parts.pages.layout c.layout.result.now c.layout.ensures c.args.desummarise.now.index c.index.result c.index.ensures c.table_of-table.result c.table_of-table.ensures.number c.table_of-table.ensures.there in
    let number = table_is parts.pages.layout c.layout.result.now c.layout.ensures c.args.desummarise.now.index c.index.result c.index.ensures c.table_of-table.result c.table_of-table.ensures.number in
    let so : StepTold told parts c.args.session c.args.desummarise.now c.step-came.new.self c.step-came.new.pages c.step-came.new.locks c.step-came.new.rights c.step-came.result = record { does = e.does; after = e.stands; of = e.of; index = e.same_index; block = e.same_block; right = e.right; same_rights = e.rights; blocked = e.blocked; no_right = e.no_right; of_store = e.of_store; others = e.others; order = e.order; leaves = e.locks; counts = e.counts; own = e.own; stays = e.stays; at = e.at; outcome = e.outcome } in
    (needs told parts c.args.session c.args.desummarise.now c.requires.fit below c.a_desummarise_steps_in_its_table.ensures.steps c.requires.shown c.a_kept_table_takes_a_desummarise.ensures c.step-came.new.self c.step-came.new.pages c.step-came.new.locks c.step-came.new.rights c.step-came.result so c.table_of-table.result number).0

pub settle-requires-clause-page : goal.settle-requires-clause-page
settle-requires-clause-page g c =
    let told = g.D.Disk.told in
    let parts = c.args.parts.now in
    let e = c.step-came.ensures in
    let below = table_below parts.pages.layout c.layout.result.now c.layout.ensures c.args.desummarise.now.index c.index.result c.index.ensures c.table_of-table.result c.table_of-table.ensures.number c.table_of-table.ensures.there in
    let number = table_is parts.pages.layout c.layout.result.now c.layout.ensures c.args.desummarise.now.index c.index.result c.index.ensures c.table_of-table.result c.table_of-table.ensures.number in
    let so : StepTold told parts c.args.session c.args.desummarise.now c.step-came.new.self c.step-came.new.pages c.step-came.new.locks c.step-came.new.rights c.step-came.result = record { does = e.does; after = e.stands; of = e.of; index = e.same_index; block = e.same_block; right = e.right; same_rights = e.rights; blocked = e.blocked; no_right = e.no_right; of_store = e.of_store; others = e.others; order = e.order; leaves = e.locks; counts = e.counts; own = e.own; stays = e.stays; at = e.at; outcome = e.outcome } in
    (needs told parts c.args.session c.args.desummarise.now c.requires.fit below c.a_desummarise_steps_in_its_table.ensures.steps c.requires.shown c.a_kept_table_takes_a_desummarise.ensures c.step-came.new.self c.step-came.new.pages c.step-came.new.locks c.step-came.new.rights c.step-came.result so c.table_of-table.result number).1

pub settle-requires-clause-full : goal.settle-requires-clause-full
settle-requires-clause-full g c =
    let told = g.D.Disk.told in
    let parts = c.args.parts.now in
    let e = c.step-came.ensures in
    let below = table_below parts.pages.layout c.layout.result.now c.layout.ensures c.args.desummarise.now.index c.index.result c.index.ensures c.table_of-table.result c.table_of-table.ensures.number c.table_of-table.ensures.there in
    let number = table_is parts.pages.layout c.layout.result.now c.layout.ensures c.args.desummarise.now.index c.index.result c.index.ensures c.table_of-table.result c.table_of-table.ensures.number in
    let so : StepTold told parts c.args.session c.args.desummarise.now c.step-came.new.self c.step-came.new.pages c.step-came.new.locks c.step-came.new.rights c.step-came.result = record { does = e.does; after = e.stands; of = e.of; index = e.same_index; block = e.same_block; right = e.right; same_rights = e.rights; blocked = e.blocked; no_right = e.no_right; of_store = e.of_store; others = e.others; order = e.order; leaves = e.locks; counts = e.counts; own = e.own; stays = e.stays; at = e.at; outcome = e.outcome } in
    (needs told parts c.args.session c.args.desummarise.now c.requires.fit below c.a_desummarise_steps_in_its_table.ensures.steps c.requires.shown c.a_kept_table_takes_a_desummarise.ensures c.step-came.new.self c.step-came.new.pages c.step-came.new.locks c.step-came.new.rights c.step-came.result so c.table_of-table.result number).2

-- it goes on, waits, or isn't done

pub returns-in-Goes : goal.returns-in-Goes
returns-in-Goes g c =
    let told = g.D.Disk.told in
    let parts = c.args.parts.now in
    let e = c.step-came.ensures in
    let below = table_below parts.pages.layout c.layout.result.now c.layout.ensures c.args.desummarise.now.index c.index.result c.index.ensures c.table_of-table.result c.table_of-table.ensures.number c.table_of-table.ensures.there in
    let number = table_is parts.pages.layout c.layout.result.now c.layout.ensures c.args.desummarise.now.index c.index.result c.index.ensures c.table_of-table.result c.table_of-table.ensures.number in
    let so : StepTold told parts c.args.session c.args.desummarise.now c.step-came.new.self c.step-came.new.pages c.step-came.new.locks c.step-came.new.rights c.step-came.result = record { does = e.does; after = e.stands; of = e.of; index = e.same_index; block = e.same_block; right = e.right; same_rights = e.rights; blocked = e.blocked; no_right = e.no_right; of_store = e.of_store; others = e.others; order = e.order; leaves = e.locks; counts = e.counts; own = e.own; stays = e.stays; at = e.at; outcome = e.outcome } in
    let all = comes told parts c.args.session c.args.desummarise.now c.requires.fit below c.a_desummarise_steps_in_its_table.ensures.steps c.requires.shown c.a_kept_table_takes_a_desummarise.ensures c.step-came.new.self c.step-came.new.pages c.step-came.new.locks c.step-came.new.rights c.step-came.result so c.table_of-table.result number c.settle.new.parts c.settle.result c.settle.ensures.settles (Ok (cames.Goes c.in-Goes.step)) (c.in-Ok.is ∙ ap Ok c.in-Goes.is) in
    record { steps = all.steps; fit = all.fit; others = all.others; stays = all.stays; cause = all.cause; survives = subst (λ (q : View _). Survives told (λ (passed : PageMap). passed ≡ parts.pages.pages) parts.pages q) (sym c.settle.ensures.pages) e.survives }

pub returns-in-Err : goal.returns-in-Err
returns-in-Err g c =
    let told = g.D.Disk.told in
    let parts = c.args.parts.now in
    let e = c.step-came.ensures in
    let below = table_below parts.pages.layout c.layout.result.now c.layout.ensures c.args.desummarise.now.index c.index.result c.index.ensures c.table_of-table.result c.table_of-table.ensures.number c.table_of-table.ensures.there in
    let number = table_is parts.pages.layout c.layout.result.now c.layout.ensures c.args.desummarise.now.index c.index.result c.index.ensures c.table_of-table.result c.table_of-table.ensures.number in
    let so : StepTold told parts c.args.session c.args.desummarise.now c.step-came.new.self c.step-came.new.pages c.step-came.new.locks c.step-came.new.rights c.step-came.result = record { does = e.does; after = e.stands; of = e.of; index = e.same_index; block = e.same_block; right = e.right; same_rights = e.rights; blocked = e.blocked; no_right = e.no_right; of_store = e.of_store; others = e.others; order = e.order; leaves = e.locks; counts = e.counts; own = e.own; stays = e.stays; at = e.at; outcome = e.outcome } in
    let all = comes told parts c.args.session c.args.desummarise.now c.requires.fit below c.a_desummarise_steps_in_its_table.ensures.steps c.requires.shown c.a_kept_table_takes_a_desummarise.ensures c.step-came.new.self c.step-came.new.pages c.step-came.new.locks c.step-came.new.rights c.step-came.result so c.table_of-table.result number c.settle.new.parts c.settle.result c.settle.ensures.settles (Err c.in-Err.fault) c.in-Err.is in
    record { steps = all.steps; fit = all.fit; others = all.others; stays = all.stays; cause = all.cause; survives = subst (λ (q : View _). Survives told (λ (passed : PageMap). passed ≡ parts.pages.pages) parts.pages q) (sym c.settle.ensures.pages) e.survives }

-- it replies, and gives the summarise lock

pub give-requires : goal.give-requires
give-requires g c =
    let told = g.D.Disk.told in
    let parts = c.args.parts.now in
    let e = c.step-came.ensures in
    let below = table_below parts.pages.layout c.layout.result.now c.layout.ensures c.args.desummarise.now.index c.index.result c.index.ensures c.table_of-table.result c.table_of-table.ensures.number c.table_of-table.ensures.there in
    let number = table_is parts.pages.layout c.layout.result.now c.layout.ensures c.args.desummarise.now.index c.index.result c.index.ensures c.table_of-table.result c.table_of-table.ensures.number in
    let so : StepTold told parts c.args.session c.args.desummarise.now c.step-came.new.self c.step-came.new.pages c.step-came.new.locks c.step-came.new.rights c.step-came.result = record { does = e.does; after = e.stands; of = e.of; index = e.same_index; block = e.same_block; right = e.right; same_rights = e.rights; blocked = e.blocked; no_right = e.no_right; of_store = e.of_store; others = e.others; order = e.order; leaves = e.locks; counts = e.counts; own = e.own; stays = e.stays; at = e.at; outcome = e.outcome } in
    let ended = comes told parts c.args.session c.args.desummarise.now c.requires.fit below c.a_desummarise_steps_in_its_table.ensures.steps c.requires.shown c.a_kept_table_takes_a_desummarise.ensures c.step-came.new.self c.step-came.new.pages c.step-came.new.locks c.step-came.new.rights c.step-came.result so c.table_of-table.result number c.settle.new.parts c.settle.result c.settle.ensures.settles (Ok (cames.Ends c.in-Ends.field-0)) (c.in-Ok.is ∙ ap Ok c.in-Ends.is) in
    subst (λ (q : Parts _). c.table_of-table.result < length q.rights) (sym ended.0) (needs told parts c.args.session c.args.desummarise.now c.requires.fit below c.a_desummarise_steps_in_its_table.ensures.steps c.requires.shown c.a_kept_table_takes_a_desummarise.ensures c.step-came.new.self c.step-came.new.pages c.step-came.new.locks c.step-came.new.rights c.step-came.result so c.table_of-table.result number).0

pub returns-in-Ends : goal.returns-in-Ends
returns-in-Ends g c =
    let told = g.D.Disk.told in
    let parts = c.args.parts.now in
    let e = c.step-came.ensures in
    let below = table_below parts.pages.layout c.layout.result.now c.layout.ensures c.args.desummarise.now.index c.index.result c.index.ensures c.table_of-table.result c.table_of-table.ensures.number c.table_of-table.ensures.there in
    let number = table_is parts.pages.layout c.layout.result.now c.layout.ensures c.args.desummarise.now.index c.index.result c.index.ensures c.table_of-table.result c.table_of-table.ensures.number in
    let so : StepTold told parts c.args.session c.args.desummarise.now c.step-came.new.self c.step-came.new.pages c.step-came.new.locks c.step-came.new.rights c.step-came.result = record { does = e.does; after = e.stands; of = e.of; index = e.same_index; block = e.same_block; right = e.right; same_rights = e.rights; blocked = e.blocked; no_right = e.no_right; of_store = e.of_store; others = e.others; order = e.order; leaves = e.locks; counts = e.counts; own = e.own; stays = e.stays; at = e.at; outcome = e.outcome } in
    let ended = comes told parts c.args.session c.args.desummarise.now c.requires.fit below c.a_desummarise_steps_in_its_table.ensures.steps c.requires.shown c.a_kept_table_takes_a_desummarise.ensures c.step-came.new.self c.step-came.new.pages c.step-came.new.locks c.step-came.new.rights c.step-came.result so c.table_of-table.result number c.settle.new.parts c.settle.result c.settle.ensures.settles (Ok (cames.Ends c.in-Ends.field-0)) (c.in-Ok.is ∙ ap Ok c.in-Ends.is) in
    let given = subst (λ (q : Parts _). right_of q.rights c.table_of-table.result ≡ Some c.args.session → c.give.new.self ≡ slice_set q.rights c.table_of-table.result None) ended.0 c.give.ensures.given in
    let kept = subst (λ (q : Parts _). right_of q.rights c.table_of-table.result ≢ Some c.args.session → c.give.new.self ≡ q.rights) ended.0 c.give.ensures.same in
    let done = replied told parts c.args.session c.args.desummarise.now c.requires.fit below c.a_desummarise_steps_in_its_table.ensures.steps c.requires.shown c.a_kept_table_takes_a_desummarise.ensures c.step-came.new.self c.step-came.new.pages c.step-came.new.locks c.step-came.new.rights c.step-came.result so c.table_of-table.result number c.in-Ends.field-0 ended.1 c.give.new.self given kept in
    let all = subst (λ (r : Reply). StepsSo told parts (record c.settle.new.parts { rights = c.give.new.self }) c.args.session (hands.Desummarises c.args.desummarise.now) (stepped.Done r)) (sym c.told.ensures)
    (subst (λ (q : Parts _). StepsSo told parts (record q { rights = c.give.new.self }) c.args.session (hands.Desummarises c.args.desummarise.now) (stepped.Done (replies.Desummarized (count_at c.step-came.new.self.stage)))) (sym ended.0) done) in
    record { steps = all.steps; fit = all.fit; others = all.others; stays = all.stays; cause = all.cause; survives = subst (λ (q : View _). Survives told (λ (passed : PageMap). passed ≡ parts.pages.pages) parts.pages q) (sym c.settle.ensures.pages) e.survives }
