use Rattle.std.proofs.Common.{◌≡◌, ◌∙◌, ℕ, [], MatchResult, Result, sym, ap, subst, arith}
use Rattle.std.specs.Prelude.{IfErr, IsTrue}
use Rattle.std.proofs.lemmas.Result.{err_from_is_err_and}
use Rattle.session_starts.specs.FreshPages.{fresh_pages}
use Rattle.store_layout.specs.DiskLayout.{DiskLayout}
use Rattle.recovery.specs.declared.fault.StartFault.{StartFault}
use Rattle.recovery.specs.declared.fault.StartFault.TheVariants as starts
use Rattle.recovery.specs.Untouched.{KeepsFront}
use Rattle.session_starts.specs.ImageLaws.{ImageIsShown}
use Rattle.session_parts.specs.declared.parts.Parts.{Parts}
use Rattle.session_parts.specs.StoreStates.{store_of}
use Rattle.session_starts.specs.OpenedParts.{ShowsStart}
use Rattle.session_starts.specs.Started.{ImagesStay}
use Rattle.session_starts.proofs.Opened.{OneMap, opens_table, start_and_calls, start_refused, start_stays, undamaged}
use Rattle.session_starts.proofs.start.start_parts.Goals as goal

pub returns-in_err-pages-clause-any_moment : goal.returns-in_err-pages-clause-any_moment
returns-in_err-pages-clause-any_moment g c =
    let told = g.D.Disk.told in
    let old = told c.args.disk in
    let p = err_from_is_err_and c.from_residual.result c.from_residual.ensures.1 in
    subst (λ (r : Result (Parts _) (StartFault × _)). MatchResult r (λ parts. ImagesStay old (told parts.pages.disk)) (λ e. ImagesStay old (told e.1))) (sym p.1)
    (subst (λ (e : StartFault × _). ImagesStay old (told e.1)) (sym p.2) (start_stays old (told c.in_err-pages.field-0.0.1) c.in_err-pages.ensures.any_moment))

pub returns-in-Ok-clause-starts : goal.returns-in-Ok-clause-starts
returns-in-Ok-clause-starts g c = λ tells fresh.
    let kept = c.in-Ok.ensures.kept in
    let before = sym kept.leaves.tells ∙ tells in
    subst (λ (l : DiskLayout). ShowsStart l (store_of c.in-Ok.parts [] [])) (sym kept.leaves.layout)
    (c.in-Ok.ensures.starts before (sym (kept.pages before) ∙ fresh ∙ ap fresh_pages kept.leaves.layout))

pub returns-in-Ok-clause-later : goal.returns-in-Ok-clause-later
returns-in-Ok-clause-later g c = omega (arith, c.in_ok-pages.ensures.faults, c.in-Ok.ensures.kept.leaves.faults)

pub returns-in-Ok-clause-opens : goal.returns-in-Ok-clause-opens
returns-in-Ok-clause-opens g c =
    let is = c.in-Ok.ensures in
    opens_table g.D.Disk.told c.in_ok-pages.pages c.in-Ok.parts c.in_ok-pages.ensures.sure is.survives is.kept is.opened
    (subst ImageIsShown (c.layout-2.ensures ∙ sym is.kept.leaves.layout) c.an_image_is_shown.ensures)

pub returns-in-Ok-clause-any_moment : goal.returns-in-Ok-clause-any_moment
returns-in-Ok-clause-any_moment g c =
    let told = g.D.Disk.told in
    let mid = c.in_ok-pages.pages in
    let started = c.in_ok-pages.ensures in
    start_and_calls told (told c.args.disk) mid c.in-Ok.parts.pages started.sure c.in-Ok.ensures.survives c.one_layout.ensures (subst OneMap c.layout.ensures c.an_image_opens_to_one_map.ensures)
    (λ image now. g.met.D.Disk.now_is_since mid.disk (told c.args.disk).moment image started.any_moment.later now) started.any_moment

pub returns-in-Err-clause-any_moment : goal.returns-in-Err-clause-any_moment
returns-in-Err-clause-any_moment g c =
    let told = g.D.Disk.told in
    let mid = c.in_ok-pages.pages in
    let started = c.in_ok-pages.ensures in
    subst (λ (disk : _). ImagesStay (told c.args.disk) (told disk)) (sym c.into_disk.ensures)
    (start_and_calls told (told c.args.disk) mid c.in-Err.pages started.sure c.in-Err.ensures.survives c.one_layout.ensures (subst OneMap c.layout.ensures c.an_image_opens_to_one_map.ensures)
    (λ image now. g.met.D.Disk.now_is_since mid.disk (told c.args.disk).moment image started.any_moment.later now) started.any_moment)

pub returns-in-Err-clause-refused : goal.returns-in-Err-clause-refused
returns-in-Err-clause-refused g c =
    let told = g.D.Disk.told in
    start_refused told (told c.args.disk) c.in_ok-pages.pages c.in-Err.pages c.in_ok-pages.ensures.any_moment.tells_contents c.in_ok-pages.ensures.faults c.in-Err.ensures.kept.leaves.faults c.in_ok-pages.ensures.fresh c.in-Err.fault c.start_fault.result c.into_disk.result
    c.in-Err.ensures.outcome c.start_fault.ensures c.into_disk.ensures

pub returns-in_err-pages-clause-front : goal.returns-in_err-pages-clause-front
returns-in_err-pages-clause-front g c =
    let told = g.D.Disk.told in
    let old = told c.args.disk in
    let p = err_from_is_err_and c.from_residual.result c.from_residual.ensures.1 in
    subst (λ (r : Result (Parts _) (StartFault × _)). IfErr r (λ e. (at : ℕ) → e.0 ≡ starts.Damaged at → IsTrue old.tells_contents → KeepsFront old (told e.1))) (sym p.1)
    (subst (λ (e : StartFault × _). (at : ℕ) → e.0 ≡ starts.Damaged at → IsTrue old.tells_contents → KeepsFront old (told e.1)) (sym p.2) (λ at is tells. c.in_err-pages.ensures.front))

pub returns-in-Err-clause-front : goal.returns-in-Err-clause-front
returns-in-Err-clause-front g c = λ at is tells.
    let told = g.D.Disk.told in
    absurd (undamaged told (told c.args.disk) c.in_ok-pages.pages c.in-Err.pages c.in_ok-pages.ensures.any_moment.tells_contents c.in_ok-pages.ensures.faults c.in-Err.ensures.kept.leaves.faults c.in_ok-pages.ensures.fresh c.in-Err.fault at
    c.in-Err.ensures.outcome (sym c.start_fault.ensures ∙ is) tells)
