use Rattle.std.proofs.Common.{◌<◌, ◌∙◌, sym, ap, arith}
use Rattle.tx_table.specs.Statuses.{number_limit}
use Rattle.tx_table.proofs.Pages.{status_past}
use Rattle.tx_table.proofs.Stores.{names_statuses, page_passes, stored_found}
use Rattle.tx_table.proofs.status_pages.stored_status.Goals as goal

pub place_of-place-requires : goal.place_of-place-requires
place_of-place-requires g c = omega (arith, c.if-t-number_limit.false, c.number_limit.ensures, ap number_limit c.layout.ensures, ap number_limit c.layout-2.ensures)

pub status_at-requires-clause-page : goal.status_at-requires-clause-page
status_at-requires-clause-page g c = page_passes c.args.pages.now.layout c.place_of-place.result.relation c.in-Ok-read.page.now c.place_of-place.ensures.relation c.in-Ok-read.ensures.form

pub returns-then-t-number_limit-clause-status : goal.returns-then-t-number_limit-clause-status
returns-then-t-number_limit-clause-status g c = λ tells statuses has.
    let store = c.args.pages.now in
    sym (status_past store.layout store.pages statuses c.args.t has (omega (arith, c.if-t-number_limit.true, c.number_limit.ensures, ap number_limit c.layout.ensures)))

pub returns-in-Ok-read-clause-status : goal.returns-in-Ok-read-clause-status
returns-in-Ok-read-clause-status g c = λ tells statuses has.
    let store = c.args.pages.now in
    let below : c.args.t < number_limit store.layout = omega (arith, c.if-t-number_limit.false, c.number_limit.ensures, ap number_limit c.layout.ensures) in
    c.status_named.ensures
    ∙ stored_found store statuses c.args.t c.status_at.result c.place_of-place.result c.in-Ok-read.page.now has below c.place_of-place.ensures.relation c.place_of-place.ensures.block (c.in-Ok-read.ensures.page tells) c.status_at.ensures

pub returns-in-Ok-read-clause-past : goal.returns-in-Ok-read-clause-past
returns-in-Ok-read-clause-past g c = λ past. absurd (omega (arith, past, c.if-t-number_limit.false, c.number_limit.ensures, ap number_limit c.layout.ensures))

pub returns-in-Err-read-clause-at : goal.returns-in-Err-read-clause-at
returns-in-Err-read-clause-at g c =
    let layout = c.args.pages.now.layout in
    let place = c.place_of-place in
    names_statuses layout place.result c.in-Err-read.error place.ensures.relation (omega (arith, place.ensures.block, c.if-t-number_limit.false, c.number_limit.ensures, ap number_limit c.layout.ensures)) c.in-Err-read.ensures.at
