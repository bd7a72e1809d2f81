use Rattle.std.proofs.Common.{◌≡◌, ℕ, refl, sym, ap, subst, ◌∙◌}
use Rattle.std.proofs.lemmas.Result.{IfOk-weaker}
use Rattle.block_model.specs.declared.place.Place.{Place}
use Rattle.store_layout.specs.DiskLayout.{DiskLayout}
use Rattle.page_map.specs.PageMap.{PageMap}
use Rattle.page_locks.specs.LockChanges.{IsFreeFor, page_of}
use Rattle.page_locks.specs.LockHolders.{holder}
use Rattle.coverage.specs.Verdicts.{SwapVerdict, Waits}
use Rattle.heap_rows.specs.SurvivesLaws.{survives_on, survives_still}
use Rattle.index_contents.specs.IndexContents.{contents, relation_of}
use Rattle.index_contents.specs.OrderLaws.{order_then}
use Rattle.index_steps.specs.IndexTuples.{seen, shape_of}
use Rattle.index_steps.specs.ShownIndex.{lock_in}
use Rattle.index_steps.specs.SwapAnswers.{LeavesLocks}
use Rattle.index_steps.proofs.Replacing.{swap_differs, swap_fits, swap_from, swap_replaces, swap_waits}
use Rattle.index_steps.proofs.Views.{reads_index}
use Rattle.index_steps.proofs.swapping.swap.Goals as goal

pub returns-in-Some-clause-swapped : goal.returns-in-Some-clause-swapped
returns-in-Some-clause-swapped g c = λ tells w shows none.
    let store = c.args.pages.now in
    let at = c.args.at in
    let shape = shape_of store.layout at.index in
    let relation : c.relation_of-relation.result ≡ relation_of store.layout at.index = c.relation_of-relation.ensures.number ∙ ap (λ (l : DiskLayout). relation_of l at.index) c.layout.ensures in
    subst (λ (p : Place). SwapVerdict w at.actor at.range c.args.spot (seen shape c.args.copied.now) (seen shape c.args.bytes.now) (Waits p.block)) (sym c.in-Some.ensures.names)
    (swap_waits shape (contents store.layout store.pages at.index) (lock_in store.layout c.args.locks.now at.index) at.actor at.range c.args.spot c.args.copied.now c.args.bytes.now w shows c.in-Some.held.by
    (ap (λ (r : ℕ). holder c.args.locks.now (page_of r c.args.spot.block)) (sym relation) ∙ c.in-Some.ensures.another.0) c.in-Some.ensures.another.1)

pub returns-in-Ok-replace-clause-swapped : goal.returns-in-Ok-replace-clause-swapped
returns-in-Ok-replace-clause-swapped g c = λ tells w shows none.
    let store = c.args.pages.now in
    let at = c.args.at in
    let shape = shape_of store.layout at.index in
    let old = contents store.layout store.pages at.index in
    let new = contents store.layout c.replace.new.pages.pages at.index in
    let lock = lock_in store.layout c.args.locks.now at.index in
    let relation : c.relation_of-relation.result ≡ relation_of store.layout at.index = c.relation_of-relation.ensures.number ∙ ap (λ (l : DiskLayout). relation_of l at.index) c.layout.ensures in
    let free : IsFreeFor (holder c.args.locks.now) at.actor (page_of (relation_of store.layout at.index) c.args.spot.block) = subst (λ (r : ℕ). IsFreeFor (holder c.args.locks.now) at.actor (page_of r c.args.spot.block)) relation c.in-None.ensures.free in
    let replaces = c.in-Ok-replace.ensures.replaced tells in (
      swap_fits shape old lock at.actor at.range c.args.spot c.args.copied.now c.args.bytes.now w shows free new replaces,
      swap_replaces shape old lock at.actor at.range c.args.spot c.args.copied.now c.args.bytes.now w shows free new replaces none,
    )

pub returns-in-Err-Changed-clause-swapped : goal.returns-in-Err-Changed-clause-swapped
returns-in-Err-Changed-clause-swapped g c = λ tells w shows none.
    let store = c.args.pages.now in
    let at = c.args.at in
    let shape = shape_of store.layout at.index in
    let old = contents store.layout store.pages at.index in
    let new = contents store.layout c.replace.new.pages.pages at.index in
    let lock = lock_in store.layout c.args.locks.now at.index in
    let relation : c.relation_of-relation.result ≡ relation_of store.layout at.index = c.relation_of-relation.ensures.number ∙ ap (λ (l : DiskLayout). relation_of l at.index) c.layout.ensures in
    let free : IsFreeFor (holder c.args.locks.now) at.actor (page_of (relation_of store.layout at.index) c.args.spot.block) = subst (λ (r : ℕ). IsFreeFor (holder c.args.locks.now) at.actor (page_of r c.args.spot.block)) relation c.in-None.ensures.free in
    let misfit = rw c.in-Err-Changed.field-0-is at c.in-Err-Changed.ensures.misfit in
    let same : new ≡ old = ap (λ (pages : PageMap). contents store.layout pages at.index) (c.in-Err-Changed.ensures.kept.pages tells) in (
      swap_differs shape old lock at.actor at.range c.args.spot c.args.copied.now c.args.bytes.now w shows free (misfit tells).3,
      reads_index shape old new lock lock w at.actor shows same refl none,
    )

pub returns-in-Err-Full-clause-swapped : goal.returns-in-Err-Full-clause-swapped
returns-in-Err-Full-clause-swapped g c =
    let store = c.args.pages.now in
    let at = c.args.at in
    let kept = c.in-Err-Full.ensures.kept in
    IfOk-weaker c.put_elsewhere.result _ _
    (λ swapped makes tells.
    swap_from store.layout c.replace.new.pages.layout store.pages c.replace.new.pages.pages c.put_elsewhere.new.pages.pages c.args.locks.now c.put_elsewhere.new.locks at.index at.actor at.range c.args.spot c.args.copied.now c.args.bytes.now swapped
    kept.leaves.layout (kept.pages tells) (makes (kept.leaves.tells ∙ tells)))
    c.put_elsewhere.ensures.swapped

pub returns-in-Err-Full-clause-apart : goal.returns-in-Err-Full-clause-apart
returns-in-Err-Full-clause-apart g c = subst (λ (l : DiskLayout). LeavesLocks (holder c.args.locks.now) (holder c.put_elsewhere.new.locks) (relation_of l c.args.at.index) c.args.at.actor) c.in-Err-Full.ensures.kept.leaves.layout c.put_elsewhere.ensures.apart

pub returns-in-Err-clause-survives : goal.returns-in-Err-clause-survives
returns-in-Err-clause-survives g c = survives_still g.D.Disk.told c.args.pages.now c.ready.ensures.stays

pub returns-in-Some-clause-survives : goal.returns-in-Some-clause-survives
returns-in-Some-clause-survives g c = survives_still g.D.Disk.told c.args.pages.now c.ready.ensures.stays

pub returns-in-Err-Full-clause-survives : goal.returns-in-Err-Full-clause-survives
returns-in-Err-Full-clause-survives g c = survives_on g.D.Disk.told c.args.pages.now c.replace.new.pages c.put_elsewhere.new.pages c.in-Err-Full.ensures.kept c.replace.ensures.survives c.put_elsewhere.ensures.survives

pub returns-in-Err-Full-clause-order : goal.returns-in-Err-Full-clause-order
returns-in-Err-Full-clause-order g c = order_then g.D.Disk.told c.args.at.index c.args.pages.now c.replace.new.pages c.put_elsewhere.new.pages c.in-Err-Full.ensures.kept c.put_elsewhere.ensures.order
