use Rattle.std.proofs.Common.{◌≡◌, ℕ, ◌/◌, ◌<◌, length, Some, refl, sym, ap, subst, ◌∙◌, arith}
use Rattle.block_model.specs.declared.reply.What.TheVariants as whats
use Rattle.store_layout.specs.DiskLayout.{DiskLayout}
use Rattle.page_store.specs.SurvivesLaws.{survives_still}
use Rattle.page_locks.specs.RightHolders.{right_of}
use Rattle.index_steps.specs.IndexTuples.{index_at}
use Rattle.summarise_core.specs.Summarises.{IsSummariseOf, in_range_of}
use Rattle.script_semantics.specs.Names.{table_name}
use Rattle.session_parts.specs.declared.hand.Hand.TheVariants as hands
use Rattle.session_parts.specs.declared.hand.Stepped.{Stepped}
use Rattle.session_parts.specs.UndoneLaws.{StepsSo}
use Rattle.session_parts.proofs.Undone.{fit_of_parts}
use Rattle.session_maintenance.proofs.UpkeepAt.{table_below, table_is}
use Rattle.session_maintenance.proofs.WorkAtOnce.{short_so}
use Rattle.session_maintenance.proofs.WorkParts.{held_so}
use Rattle.session_maintenance.proofs.work.take_up.Goals as goal

-- the table of the request

pub table_of-table-requires : goal.table_of-table-requires
table_of-table-requires g c = subst (λ (l : DiskLayout). c.args.request.index < length l.schema.indexes) (sym c.layout-layout.ensures) c.requires.first.index

pub another_holder-requires : goal.another_holder-requires
another_holder-requires g c =
    let as_many = (fit_of_parts g.D.Disk.told c.args.parts.now c.args.session hands.Working c.requires.fit).rights in
    let below = c.table_of-table.ensures.there in
    let same = ap (λ (l : DiskLayout). length l.schema.tables) c.layout-layout.ensures in
    omega (arith, as_many, below, same)

-- another session has its summarise lock

pub lock_waited_for-requires : goal.lock_waited_for-requires
lock_waited_for-requires g c = c.table_of-table.ensures.there

pub returns-in-Some : goal.returns-in-Some
returns-in-Some g c =
    let told = g.D.Disk.told in
    let parts = c.args.parts.now in
    let request = c.args.request in
    let layout = c.layout-layout.result.now in
    let number = table_is parts.pages.layout layout c.layout-layout.ensures request.index request.index refl c.table_of-table.result c.table_of-table.ensures.number in
    let below = table_below parts.pages.layout layout c.layout-layout.ensures request.index request.index refl c.table_of-table.result c.table_of-table.ensures.number c.table_of-table.ensures.there in
    let what = c.lock_waited_for.result in
    let so : StepsSo told parts parts c.args.session hands.Working c.waits.result = subst (λ (a : Stepped). StepsSo told parts parts c.args.session hands.Working a) (sym c.waits.ensures)
    (held_so told parts c.args.session c.requires.fit c.requires.ready c.other_pages_show_alike.ensures (request.index, request.range) c.requires.first.first c.requires.first.index below c.in-Some.by
    (ap (λ (t : ℕ). right_of parts.rights t) (sym number) ∙ c.in-Some.ensures.holds) c.in-Some.ensures.another what
    (subst (λ (t : ℕ). what ≡ whats.Work (table_name parts.pages.layout t)) number (subst (λ (l : DiskLayout). what ≡ whats.Work (table_name l c.table_of-table.result)) c.layout-layout.ensures c.lock_waited_for.ensures))) in
    record { so = so; survives = survives_still told parts.pages c.known.ensures.stays }

-- the summary

pub new-requires : goal.new-requires
new-requires g c = subst (λ (l : DiskLayout). c.args.request.index < length l.schema.indexes) (sym c.layout-layout.ensures) c.requires.first.index

pub begin_summary-requires-clause-fit : goal.begin_summary-requires-clause-fit
begin_summary-requires-clause-fit g c = c.requires.fit

pub begin_summary-requires-clause-begins : goal.begin_summary-requires-clause-begins
begin_summary-requires-clause-begins g c = c.in-Ok.ensures.begins

pub begin_summary-requires-clause-of : goal.begin_summary-requires-clause-of
begin_summary-requires-clause-of g c = subst (λ (l : DiskLayout). IsSummariseOf l c.in-Ok.summarise) c.layout-layout.ensures c.in-Ok.ensures.of

pub begin_summary-requires-clause-range : goal.begin_summary-requires-clause-range
begin_summary-requires-clause-range g c =
    (c.args.request.block, c.in-Ok.ensures.wish, ap (λ (i : ℕ). c.args.request.block / in_range_of c.args.parts.now.pages.layout i) c.in-Ok.ensures.index ∙ c.requires.first.range)

pub begin_summary-requires-clause-first : goal.begin_summary-requires-clause-first
begin_summary-requires-clause-first g c = c.requires.first.first ∙ ap (λ (i : ℕ). Some (i, c.args.request.range)) (sym c.in-Ok.ensures.index)

pub begin_summary-requires-clause-free : goal.begin_summary-requires-clause-free
begin_summary-requires-clause-free g c = λ m holds.
    let parts = c.args.parts.now in
    let request = c.args.request in
    let number = table_is parts.pages.layout c.layout-layout.result.now c.layout-layout.ensures request.index request.index refl c.table_of-table.result c.table_of-table.ensures.number in
    c.another_holder.ensures.free c.in-None.is m (ap (λ (t : ℕ). right_of parts.rights t) (number ∙ ap (λ (i : ℕ). (index_at parts.pages.layout i).table) (sym c.in-Ok.ensures.index)) ∙ holds)

pub returns-in-Ok : goal.returns-in-Ok
returns-in-Ok g c = record { so = c.begin_summary.ensures.so; survives = c.begin_summary.ensures.survives }

-- memory is short for it

pub returns-in-Err : goal.returns-in-Err
returns-in-Err g c =
    let told = g.D.Disk.told in
    let parts = c.args.parts.now in
    let request = c.args.request in
    let layout = c.layout-layout.result.now in
    let number = table_is parts.pages.layout layout c.layout-layout.ensures request.index request.index refl c.table_of-table.result c.table_of-table.ensures.number in
    let below = table_below parts.pages.layout layout c.layout-layout.ensures request.index request.index refl c.table_of-table.result c.table_of-table.ensures.number c.table_of-table.ensures.there in
    let so = short_so told parts c.args.session c.requires.fit c.requires.ready c.other_pages_show_alike.ensures (request.index, request.range) c.requires.first.first below
    (λ m holds. c.another_holder.ensures.free c.in-None.is m (ap (λ (t : ℕ). right_of parts.rights t) number ∙ holds)) in
    record { so = so; survives = survives_still told parts.pages c.known.ensures.stays }
