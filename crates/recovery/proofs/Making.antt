-- a change that is made
use Rattle.std.proofs.Common.{◌≡◌, ◌⊎◌, inl, inr, ℕ, ◌<◌, ◌≤◌, List, [], ◌∷◌, ◌++◌, length, refl, sym, ◌∙◌, subst}
use Rattle.std.specs.Prelude.{IsTrue, Some}
use Rattle.block_model.specs.declared.place.Place.{Place}
use Rattle.store_layout.specs.DiskLayout.{DiskLayout, IsPlace, disk_size}
use Rattle.store_layout.specs.PagesFillDisk.{PagesFillDisk}
use Rattle.disk_trait.specs.Told.{Told}
use Rattle.disk_trait.specs.Throughout.{Throughout}
use Rattle.log_area.specs.Frames.{LogFrame}
use Rattle.page_layout.specs.declared.page.Form.{Form}
use Rattle.wal_record.specs.Changes.{LoggedChange, place_of}
use Rattle.page_map.specs.Redo.{ForgetPage, IsAnew, Redone}
use Rattle.buffer_pool.specs.PoolState.{PoolState}
use Rattle.recovery.specs.LoggedChanges.{changes_at}
use Rattle.recovery.specs.Reaches.{OpensAsBefore}
use Rattle.recovery.specs.Holds.{MayClean}
use Rattle.recovery.specs.PooledPages.{HoldsDurablePages}
use Rattle.recovery.specs.RedoesPage.{RedoesPage}
use Rattle.recovery.specs.Redoing.{AreFirstOf, Redoing}
use Rattle.recovery.proofs.Changing.{made_of, redoing_set}
use Rattle.recovery.proofs.Steps.{redoing_cleaned, redoing_read}

-- once a page was written, or none
pub redoing_mid : (layout : DiskLayout) → PagesFillDisk layout → (frames : List LogFrame) (start : Told) (done : List LoggedChange) (disk after : Told) (pool mid : PoolState) → HoldsDurablePages layout pool
    → (IsTrue disk.tells_contents → disk_size layout ≤ length disk.contents) → Throughout start after (OpensAsBefore start) → MayClean disk pool after mid
    → Redoing layout frames start done disk pool → Redoing layout frames start done after mid
redoing_mid layout fill frames start done disk after pool mid held size moments (inl none) r =
    subst (λ (p : PoolState). Redoing layout frames start done after p) (sym none.1) (subst (λ (t : Told). Redoing layout frames start done t pool) (sym none.0) r)
redoing_mid layout fill frames start done disk after pool mid held size moments (inr c) r =
    redoing_cleaned layout fill disk after pool mid c (held c.page c.held c.cleanable.held).0 frames start done size moments r

module _ (forgets : (form : Form) (change : LoggedChange) (changes : List LoggedChange) → IsAnew change → ForgetPage form (change ∷ changes)) (goes_on : (form : Form) (page mid new : List ℕ) (first more : List LoggedChange) → Redone form page first mid → Redone form mid more new → Redone form page (first ++ more) new) (once : (form : Form) (page a b : List ℕ) (changes : List LoggedChange) → Redone form page changes a → Redone form page changes b → a ≡ b) where
  pub change_made : (layout : DiskLayout) → PagesFillDisk layout → (frames : List LogFrame) (start : Told) (done : List LoggedChange) (disk after : Told) (pool new : PoolState) (place : Place) (c : LoggedChange)
      → IsPlace layout place → place_of c ≡ place → HoldsDurablePages layout pool → (IsTrue disk.tells_contents → disk_size layout ≤ length disk.contents) → Throughout start after (OpensAsBefore start)
      → (IsAnew c) ⊎ (0 < length (changes_at place done)) → RedoesPage layout place c disk pool after new → AreFirstOf frames (done ++ c ∷ [])
      → Redoing layout frames start done disk pool → Redoing layout frames start (done ++ c ∷ []) after new
  change_made layout fill frames start done disk after pool new place c is own held size moments begun redoes first r =
      let read = redoing_read layout frames start done disk redoes.read pool redoes.still r in
      let fits : IsTrue redoes.read.tells_contents → disk_size layout ≤ length redoes.read.contents =
      subst (λ (t : Told). IsTrue t.tells_contents → disk_size layout ≤ length t.contents) (sym redoes.still) size in
      let mid = redoing_mid layout fill frames start done redoes.read after pool redoes.holds.mid held fits moments redoes.holds.cleans read in
      redoing_set layout fill redoes.holds.mid new place is (record { content = redoes.made; log = Some 0 }) redoes.holds.sets frames start after done c own refl begun
      (λ tells. made_of forgets goes_on once layout frames start disk done pool place c redoes.page redoes.made is own r redoes.before redoes.fits redoes.means redoes.bytes
      (r.moments.tells_contents ∙ sym moments.tells_contents ∙ tells)) first mid
