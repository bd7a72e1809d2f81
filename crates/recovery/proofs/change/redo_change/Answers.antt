use Rattle.std.proofs.Common.{◌≡◌, ◌⊎◌, inl, inr, ⊎_elim, ℕ, ◌<◌, ◌≤◌, true, false, [], ◌∷◌, ◌++◌, length, get_or, set, refl, sym, ◌∙◌, ap, subst, arith}
use Rattle.std.specs.Prelude.{IsTrue}
use Rattle.block_model.specs.declared.place.Place.{Place}
use Rattle.store_layout.specs.DiskLayout.{IsPlace, disk_size}
use Rattle.wal_record.specs.Changes.{logged, place_of}
use Rattle.page_map.specs.Redo.{IsAnew}
use Rattle.recovery.specs.LoggedChanges.{changes_at}
use Rattle.recovery.specs.Redoing.{AreMarked}
use Rattle.recovery.proofs.Answering.{change_cause}
use Rattle.recovery.proofs.Changing.{cannot_begin, cannot_fit, cannot_stand, marked_more}
use Rattle.recovery.proofs.Making.{change_made}
use Rattle.recovery.proofs.change.redo_change.Goals as goal

pub returns-then-not-is_place-clause-cause : goal.returns-then-not-is_place-clause-cause
returns-then-not-is_place-clause-cause g c = (
  λ frames start done r marked tells more make.
      cannot_stand c.args.layout.now start.contents done (logged c.args.change.now) (λ is. c.if-not-is_place.ensures.isnt refl (subst (IsPlace c.args.layout.now) (sym c.place_of-place.ensures) is)) more make,
  omega arith,
)

pub returns-then-not-may_stand-clause-cause : goal.returns-then-not-may_stand-clause-cause
returns-then-not-may_stand-clause-cause g c =
    let place = c.place_of-place.result in
    let is = c.if-not-is_place.ensures.is refl in (
      λ frames start done r marked tells more make.
          cannot_begin c.args.layout.now start.contents done (logged c.args.change.now)
          (ap (λ (p : Place). changes_at p done) (sym c.place_of-place.ensures) ∙ marked.unmarked place is (ap (λ (n : ℕ). get_or c.args.marks.now n false) (sym c.number_of-at.ensures.number) ∙ c.if-not-may_stand.ensures.begun refl))
          (c.if-not-may_stand.ensures.whole refl) more make,
      omega arith,
    )

pub returns-in-Ok-clause-redone : goal.returns-in-Ok-clause-redone
returns-in-Ok-clause-redone g c = λ frames start done r marked first.
    let layout = c.args.layout.now in
    let fill = c.pages_fill_the_disk.ensures in
    let change = logged c.args.change.now in
    let place = c.place_of-place.result in
    let own : place_of change ≡ place = sym c.place_of-place.ensures in
    let is = c.if-not-is_place.ensures.is refl in
    let number = c.number_of-at.ensures.number in
    let old = g.D.Disk.told c.args.disk.now in
    let size : (IsTrue old.tells_contents → disk_size layout ≤ length old.contents) = λ tells. omega (arith, g.met.D.Disk.contents_fit c.args.disk.now tells, c.requires.ready.sized) in
    let begun : (IsAnew change) ⊎ (0 < length (changes_at place done)) =
    ⊎_elim (λ (on : get_or c.args.marks.now c.number_of-at.result false ≡ true). inr (marked.marked place is (ap (λ (n : ℕ). get_or c.args.marks.now n false) (sym number) ∙ on))) (λ (anew : IsAnew change). inl anew) (c.if-not-may_stand.ensures.may refl) in (
      change_made c.redo_forgets_a_page_begun_anew.ensures c.redo_goes_on.ensures c.redo_is_a_function.ensures layout fill frames start done old (g.D.Disk.told c.redo_page.new.disk) c.args.pool.now c.redo_page.new.pool place change
          is own c.requires.ready.held size (c.in-Ok.ensures.any_moment frames start done r).moments begun c.in-Ok.ensures.redone first r,
      subst (λ (n : ℕ). AreMarked layout (done ++ change ∷ []) (set c.args.marks.now n true)) (sym number)
          (marked_more layout fill done c.args.marks.now place change is own (omega (arith, number, c.number_of-at.ensures.within, c.requires.marks)) marked),
    )

pub returns-in-Err-clause-cause : goal.returns-in-Err-clause-cause
returns-in-Err-clause-cause g c =
    let layout = c.args.layout.now in
    let change = logged c.args.change.now in
    let place = c.place_of-place.result in
    let old = g.D.Disk.told c.args.disk.now in
    change_cause (Unit {0}) layout place change old c.args.pool.now c.args.marks.now (g.D.Disk.told c.redo_page.new.disk) c.in-Err.stop
    (λ not frames start done r marked tells more make.
    cannot_fit c.redo_forgets_a_page_begun_anew.ensures c.redo_goes_on.ensures c.redo_is_a_function.ensures layout frames start old done c.args.pool.now place change (c.if-not-is_place.ensures.is refl) (sym c.place_of-place.ensures) r not tells more make)
    c.in-Err.ensures.cause
