use Rattle.std.proofs.Common.{◌≡◌, refl, sym, ap, subst, ◌∙◌}
use Rattle.store_layout.specs.DiskLayout.{DiskLayout}
use Rattle.page_store.specs.SurvivesLaws.{survives_still}
use Rattle.session_parts.specs.declared.hand.Hand.TheVariants as hands
use Rattle.session_parts.specs.declared.hand.Stepped.{Stepped}
use Rattle.session_parts.specs.declared.hand.Stepped.TheVariants as stepped
use Rattle.session_parts.specs.declared.faults.StoreFault.{StoreFault}
use Rattle.session_parts.specs.DamagedPages.{reopen_names}
use Rattle.session_parts.specs.StoreFaults.{fault_of}
use Rattle.session_parts.specs.UndoneLaws.{StepsSo}
use Rattle.session_parts.proofs.Undone.{fit_of_parts, refused_is_undone}
use Rattle.session_maintenance.specs.FirstRequests.{HasNoRequest, IsFirstRequest}
use Rattle.session_maintenance.proofs.UpkeepParts.{leaves_same}
use Rattle.session_maintenance.proofs.WorkAtOnce.{idle_so}
use Rattle.session_maintenance.proofs.work.begin_work.Goals as goal

-- the pages refuse it

pub returns-in-Err : goal.returns-in-Err
returns-in-Err g c =
    let told = g.D.Disk.told in
    let parts = c.args.parts.now in
    let is : c.undone.result ≡ stepped.Undone (fault_of c.in-Err.error) hands.Working = c.undone.ensures ∙ ap (λ (f : StoreFault). stepped.Undone f hands.Working) c.fault_of.ensures in
    let so : StepsSo told parts parts c.args.session hands.Working c.undone.result = subst (λ (a : Stepped). StepsSo told parts parts c.args.session hands.Working a) (sym is)
    (refused_is_undone told parts parts c.args.session hands.Working c.in-Err.error c.requires.fit (fit_of_parts told parts c.args.session hands.Working c.requires.fit).over (leaves_same told parts.pages)
    (record { transactions = refl; locks = refl; rights = refl; journal = refl; queue = refl; dropped = refl }) c.in-Err.ensures.outcome (reopen_names parts.pages.layout c.in-Err.error c.in-Err.ensures.reopen)) in
    record { steps = so.steps; fit = so.fit; others = so.others; stays = so.stays; cause = so.cause; survives = survives_still told parts.pages c.ready.ensures.stays }

-- a request came first

pub take_up-requires-clause-fit : goal.take_up-requires-clause-fit
take_up-requires-clause-fit g c = c.requires.fit

pub take_up-requires-clause-ready : goal.take_up-requires-clause-ready
take_up-requires-clause-ready g c = c.in-Ok.ensures.outcome.0

pub take_up-requires-clause-first : goal.take_up-requires-clause-first
take_up-requires-clause-first g c = subst (λ (l : DiskLayout). IsFirstRequest l c.args.parts.now.queue c.in-Some.request) c.layout.ensures c.in-Some.ensures.first

pub returns-in-Some : goal.returns-in-Some
returns-in-Some g c =
    let so = c.take_up.ensures.so in
    record { steps = so.steps; fit = so.fit; others = so.others; stays = so.stays; cause = so.cause; survives = c.take_up.ensures.survives }

-- none is held

pub returns-in-None : goal.returns-in-None
returns-in-None g c =
    let told = g.D.Disk.told in
    let parts = c.args.parts.now in
    let none = subst (λ (l : DiskLayout). HasNoRequest l parts.queue) c.layout.ensures (c.first_request.ensures.none c.in-None.is) in
    let so = idle_so told parts c.args.session c.requires.fit c.in-Ok.ensures.outcome.0 c.other_pages_show_alike.ensures none in
    record { steps = so.steps; fit = so.fit; others = so.others; stays = so.stays; cause = so.cause; survives = survives_still told parts.pages c.ready.ensures.stays }
