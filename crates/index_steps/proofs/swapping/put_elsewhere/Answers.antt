use Rattle.std.proofs.Common.{◌≡◌, inl, inr, ℕ, List, [], ◌∷◌, length, Option, refl, sym, ap, subst, ◌∙◌}
use Rattle.block_model.specs.declared.place.Place.{Place}
use Rattle.block_model.specs.declared.schema.Sizes.{Sizes}
use Rattle.store_layout.specs.DiskLayout.{DiskLayout}
use Rattle.page_locks.specs.LockChanges.{IsFirstHeld, TakesAll}
use Rattle.page_locks.specs.LockHolders.{holder}
use Rattle.coverage.specs.IndexView.{map_page_of}
use Rattle.coverage.specs.Verdicts.{IsTarget}
use Rattle.heap_rows.specs.SurvivesLaws.{survives_still}
use Rattle.index_contents.specs.IndexContents.{contents, relation_of}
use Rattle.index_steps.specs.IndexTuples.{shape_of}
use Rattle.index_steps.specs.ShownIndex.{lock_in}
use Rattle.index_steps.specs.LockLaws.{first_rest, takes_apart, takes_these}
use Rattle.index_steps.proofs.Replacing.{limit_is, move_full, move_goes, move_puts, move_waits}
use Rattle.index_steps.proofs.Views.{none_locked}
use Rattle.index_steps.proofs.swapping.put_elsewhere.Goals as goal

pub returns-in-None-clause-full : goal.returns-in-None-clause-full
returns-in-None-clause-full g c =
    let store = c.args.pages.now in
    let at = c.args.at in
    let number : c.from.result ≡ store.layout.sizes.index_blocks = c.from.ensures ∙ ap (λ (s : Sizes). s.index_blocks) (c.sizes.ensures ∙ ap (λ (l : DiskLayout). l.sizes) c.layout-in-None.ensures) in (
      c.relation_of-relation.ensures.number ∙ ap (λ (l : DiskLayout). relation_of l at.index) c.layout.ensures,
      λ tells w shows.
          move_full (shape_of store.layout at.index) (contents store.layout store.pages at.index) (lock_in store.layout c.args.locks.now at.index) at.actor at.range c.args.spot c.args.copied.now c.args.bytes.now w shows
          c.requires.free (c.requires.must tells) c.from.result (c.in-None.ensures.none refl tells) (number ∙ sym (limit_is store.layout store.pages at.index)),
    )

pub returns-in-Err-clause-swapped : goal.returns-in-Err-clause-swapped
returns-in-Err-clause-swapped g c = λ tells w shows none.
    let store = c.args.pages.now in
    let at = c.args.at in
    let h : Place → Option ℕ = holder c.args.locks.now in
    let relation : c.relation_of-relation.result ≡ relation_of store.layout at.index = c.relation_of-relation.ensures.number ∙ ap (λ (l : DiskLayout). relation_of l at.index) c.layout.ensures in
    let blocks : ℕ → List ℕ = λ m. c.args.spot.block ∷ c.in-Some.block ∷ m ∷ [] in
    let first : IsFirstHeld h (relation_of store.layout at.index) at.actor (blocks (map_page_of at.range)) c.in-Err.held.page.block =
    subst (λ (m : ℕ). IsFirstHeld h (relation_of store.layout at.index) at.actor (blocks m) c.in-Err.held.page.block) c.map_page_of.ensures
    (subst (λ (r : ℕ). IsFirstHeld h r at.actor (blocks c.map_page_of.result) c.in-Err.held.page.block) relation c.in-Err.ensures.refused) in
    move_waits (shape_of store.layout at.index) (contents store.layout store.pages at.index) (lock_in store.layout c.args.locks.now at.index) at.actor at.range c.args.spot c.args.copied.now c.args.bytes.now w shows
    c.requires.free (c.requires.must tells) h (relation_of store.layout at.index) c.in-Some.block c.in-Err.held.page.block (λ page. refl) (c.in-Some.ensures.target tells)
    (first_rest h (relation_of store.layout at.index) at.actor c.args.spot.block (c.in-Some.block ∷ map_page_of at.range ∷ []) c.in-Err.held.page.block c.requires.free first)

pub returns-in-Ok-put-clause-swapped : goal.returns-in-Ok-put-clause-swapped
returns-in-Ok-put-clause-swapped g c = λ tells w shows none.
    let store = c.args.pages.now in
    let at = c.args.at in
    let to = c.in-Ok-put.to in
    let h : Place → Option ℕ = holder c.args.locks.now in
    let k : Place → Option ℕ = holder c.take_all.new.self in
    let r : ℕ = relation_of store.layout at.index in
    let lock = lock_in store.layout c.args.locks.now at.index in
    let old = contents store.layout store.pages at.index in
    let new = contents store.layout c.put.new.pages.pages at.index in
    let shape = shape_of store.layout at.index in
    let relation : c.relation_of-relation.result ≡ r = c.relation_of-relation.ensures.number ∙ ap (λ (l : DiskLayout). relation_of l at.index) c.layout.ensures in
    let these : List ℕ = c.args.spot.block ∷ to.block ∷ map_page_of at.range ∷ [] in
    let block : to.block ≡ c.in-Some.block = c.in-Ok-put.ensures.block in
    let takes : TakesAll h k r these at.actor =
    subst (λ (b : ℕ). TakesAll h k r (c.args.spot.block ∷ b ∷ map_page_of at.range ∷ []) at.actor) (sym block)
    (subst (λ (m : ℕ). TakesAll h k r (c.args.spot.block ∷ c.in-Some.block ∷ m ∷ []) at.actor) c.map_page_of.ensures
    (subst (λ (q : ℕ). TakesAll h k q (c.args.spot.block ∷ c.in-Some.block ∷ c.map_page_of.result ∷ []) at.actor) relation c.in-Ok.ensures.taken)) in
    let target : IsTarget old.pages old.bytes (length c.args.bytes.now) to.block = subst (λ (b : ℕ). IsTarget old.pages old.bytes (length c.args.bytes.now) b) (sym block) (c.in-Some.ensures.target tells) in
    let puts = c.in-Ok-put.ensures.put tells in (
      move_goes shape old lock at.actor at.range c.args.spot c.args.copied.now c.args.bytes.now w shows c.requires.free (c.requires.must tells) new to target puts (takes.free to.block (inr (inl refl))) (takes.free (map_page_of at.range) (inr (inr (inl refl)))),
      move_puts shape old lock at.actor at.range c.args.spot c.args.copied.now c.args.bytes.now w shows new to h k r these puts (takes.free to.block (inr (inl refl))) (λ page. refl) takes,
      takes_these r at.actor h k these lock (λ page. refl) takes (none_locked shape old lock w at.actor shows none),
    )

pub returns-in-Ok-put-clause-apart : goal.returns-in-Ok-put-clause-apart
returns-in-Ok-put-clause-apart g c = takes_apart c.relation_of-relation.result (relation_of c.args.pages.now.layout c.args.at.index) c.args.at.actor (holder c.args.locks.now) (holder c.take_all.new.self) (c.args.spot.block ∷ c.in-Some.block ∷ c.map_page_of.result ∷ [])
    (c.relation_of-relation.ensures.number ∙ ap (λ (l : DiskLayout). relation_of l c.args.at.index) c.layout.ensures) c.in-Ok.ensures.taken

pub returns-in-Err-put-clause-apart : goal.returns-in-Err-put-clause-apart
returns-in-Err-put-clause-apart g c = takes_apart c.relation_of-relation.result (relation_of c.args.pages.now.layout c.args.at.index) c.args.at.actor (holder c.args.locks.now) (holder c.take_all.new.self) (c.args.spot.block ∷ c.in-Some.block ∷ c.map_page_of.result ∷ [])
    (c.relation_of-relation.ensures.number ∙ ap (λ (l : DiskLayout). relation_of l c.args.at.index) c.layout.ensures) c.in-Ok.ensures.taken

pub returns-in-None-clause-survives : goal.returns-in-None-clause-survives
returns-in-None-clause-survives g c = survives_still g.D.Disk.told c.args.pages.now c.known.ensures.stays

pub returns-in-Err-clause-survives : goal.returns-in-Err-clause-survives
returns-in-Err-clause-survives g c = survives_still g.D.Disk.told c.args.pages.now c.known.ensures.stays

pub returns-in-Ok-put-clause-order : goal.returns-in-Ok-put-clause-order
returns-in-Ok-put-clause-order g c = c.put.ensures.order (λ tells. c.a_target_takes_its_tuple.ensures.first _ _ _ _ (c.in-Some.ensures.target tells))

pub returns-in-Err-put-clause-order : goal.returns-in-Err-put-clause-order
returns-in-Err-put-clause-order g c = c.put.ensures.order (λ tells. c.a_target_takes_its_tuple.ensures.first _ _ _ _ (c.in-Some.ensures.target tells))
