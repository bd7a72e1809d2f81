use Rattle.std.proofs.Common.{◌≡◌, sym, ap, ◌∙◌, subst}
use Rattle.std.proofs.lemmas.Option.{same_Some}
use Rattle.block_model.specs.declared.row.RowId.{RowId}
use Rattle.page_map.specs.PageMap.{PageMap}
use Rattle.snapshot_core.specs.declared.sessions.Open.{Open}
use Rattle.store_layout.specs.DiskLayout.{DiskLayout}
use Rattle.tx_table.specs.LeavesRest.{NamesStatuses}
use Rattle.tx_table.specs.Statuses.{HasStatuses, shown_status}
use Rattle.tx_table.specs.TxState.{TxState}
use Rattle.tx_table.proofs.Parts.{before_then}
use Rattle.session_parts.specs.DamagedPages.{heap_names, statuses_names}
use Rattle.session_transactions.proofs.Judging.{by_status}
use Rattle.session_transactions.proofs.conflicts.hit_conflicts.Goals as goal

pub returns-in-Ok-status-clause-conflicts : goal.returns-in-Ok-status-clause-conflicts
returns-in-Ok-status-clause-conflicts g c = λ o opened tells stored blocks row has blocks_has there its_id.
    let own_is : c.open.result.now.t ≡ o.t = ap (λ (x : Open). x.t) (same_Some c.open.result.now o (sym c.open.ensures ∙ opened)) in
    let deleter_is : c.in-Ok.deleter ≡ row.deleter = c.in-Ok.ensures.deleter tells blocks blocks_has row there in
    let kept = c.deleter_of.ensures.kept in
    let has_now : HasStatuses c.deleter_of.new.pages.layout c.deleter_of.new.pages.pages stored =
    subst (λ (l : DiskLayout). HasStatuses l c.deleter_of.new.pages.pages stored) (sym kept.leaves.layout) (subst (λ (m : PageMap). HasStatuses c.args.pages.now.layout m stored) (sym (kept.pages tells)) has) in
    by_status c.args.transactions.now.tx.first stored o.t row c.in-Ok-status.status c.holds.result
    (λ is. c.if-hit-own.false (ap (λ (i : RowId). i.t) (sym its_id) ∙ is ∙ sym own_is)) (λ is. c.if-deleter-own.false (deleter_is ∙ is ∙ sym own_is)) (λ is. c.if-deleter-eq0.false (deleter_is ∙ is))
    (c.in-Ok-status.ensures.shown (kept.leaves.tells ∙ tells) stored has_now ∙ ap (λ (t : TxState). shown_status t.first stored c.in-Ok.deleter) c.tx.ensures
    ∙ ap (shown_status c.args.transactions.now.tx.first stored) deleter_is) c.holds.ensures

pub returns-in-Ok-status-clause-survives : goal.returns-in-Ok-status-clause-survives
returns-in-Ok-status-clause-survives g c = before_then g.D.Disk.told c.args.pages.now c.deleter_of.new.pages c.status.new.pages c.deleter_of.ensures.kept c.deleter_of.ensures.survives c.status.ensures.survives

pub returns-in-Err-status-clause-survives : goal.returns-in-Err-status-clause-survives
returns-in-Err-status-clause-survives g c = before_then g.D.Disk.told c.args.pages.now c.deleter_of.new.pages c.status.new.pages c.deleter_of.ensures.kept c.deleter_of.ensures.survives c.status.ensures.survives

pub returns-in-Err-clause-names : goal.returns-in-Err-clause-names
returns-in-Err-clause-names g c = heap_names c.args.pages.now.layout c.args.table c.args.hit.spot.block c.in-Err.error c.requires.table c.requires.block c.in-Err.ensures.at

pub returns-in-Err-status-clause-names : goal.returns-in-Err-status-clause-names
returns-in-Err-status-clause-names g c =
    statuses_names c.args.pages.now.layout c.in-Err-status.error (subst (λ (l : DiskLayout). NamesStatuses l c.in-Err-status.error) c.deleter_of.ensures.kept.leaves.layout c.in-Err-status.ensures.at)
