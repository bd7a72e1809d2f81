use Rattle.std.proofs.Common.{◌%◌, ◌<◌, refl, arith}
use Rattle.std.proofs.lemmas.Result.{IfErr-weaker, on_ok_weaker}
use Rattle.page_map.specs.declared.faults.StoreError.{StoreError}
use Rattle.page_map.specs.Outcome.{NamesPage}
use Rattle.tx_table.specs.LeavesRest.{NamesStatuses}
use Rattle.tx_table.proofs.Pages.{number_set, set_statuses}
use Rattle.tx_table.proofs.Stores.{change_rest, names_statuses, set_fits}
use Rattle.tx_table.proofs.status_pages.set_status.Goals as goal

pub change-requires-clause-fits : goal.change-requires-clause-fits
change-requires-clause-fits g c = λ tells.
    let store = c.args.pages.now in
    let place = c.place_of-place in
    set_fits store.layout store.pages place.result c.args.t (c.args.t % 32640) c.number_of.result place.ensures.relation place.ensures.block (omega arith) c.number_of.ensures.small (c.requires.started tells)

pub returns-clause-set : goal.returns-clause-set
returns-clause-set g c =
    let store = c.args.pages.now in
    let new = c.change.new.self in
    let place = c.place_of-place in
    on_ok_weaker c.change.result (λ changed tells statuses has.
    set_statuses store.layout store.pages new.pages statuses c.args.t c.number_of.result c.args.status has c.requires.number (c.requires.started tells)
    (number_set store.layout place.result c.args.t (c.args.t % 32640) c.number_of.result store.pages new.pages place.ensures.relation place.ensures.block refl (changed tells)) c.number_of.ensures.named) c.change.ensures.changed

pub returns-clause-rest : goal.returns-clause-rest
returns-clause-rest g c =
    let store = c.args.pages.now in
    let new = c.change.new.self in
    let place = c.place_of-place in
    change_rest g.D.Disk.told c.args.t c.number_of.result store new c.change.result
    (on_ok_weaker c.change.result (λ changed tells. number_set store.layout place.result c.args.t (c.args.t % 32640) c.number_of.result store.pages new.pages place.ensures.relation place.ensures.block refl (changed tells)) c.change.ensures.changed)
    c.change.ensures.kept c.change.ensures.leaves

pub returns-clause-at : goal.returns-clause-at
returns-clause-at g c =
    let layout = c.args.pages.now.layout in
    let place = c.place_of-place in
    let below : place.result.block < layout.sizes.status_blocks = omega (arith, place.ensures.block, c.requires.number) in
    IfErr-weaker c.change.result (NamesPage layout place.result) (NamesStatuses layout) (λ (error : StoreError) names. names_statuses layout place.result error place.ensures.relation below names) c.change.ensures.at
