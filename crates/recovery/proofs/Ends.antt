-- a log that is redone
use Rattle.std.proofs.Common.{◌≡◌, inl, inr, ℕ, Bool, true, false, List, [], ◌∷◌, length, sym, ◌∙◌, ap, subst, ⊎_elim, arith}
use Rattle.std.specs.Prelude.{IsTrue, None, Some, take, ◌%◌}
use Rattle.std.proofs.lemmas.Bool.{cases_Bool}
use Rattle.std.proofs.lemmas.List.{append-nil}
use Rattle.block_model.specs.declared.limits.TheConstants.{PAGE_SIZE}
use Rattle.block_model.specs.declared.place.Place.{Place}
use Rattle.block_model.specs.NumberMaps.{none_Some, same_Some}
use Rattle.store_layout.specs.DiskLayout.{DiskLayout, IsPlace, area_size, first_offset}
use Rattle.store_format.specs.ControlPage.{HasControl}
use Rattle.disk_trait.specs.Told.{Told}
use Rattle.disk_trait.specs.Throughout.{Throughout}
use Rattle.disk_trait.specs.ThroughoutLaws.{joined, weaker}
use Rattle.log_area.specs.Frames.{LogFrame, HoldsFrames}
use Rattle.log_area.specs.Log.{Log, Stands, chosen_area}
use Rattle.page_layout.specs.declared.page.Form.{Form}
use Rattle.page_map.specs.Redo.{ForgetPage, IsAnew, Redone}
use Rattle.page_map.specs.Forms.{IsPageIn, form_of}
use Rattle.wal_record.specs.Changes.{LoggedChange}
use Rattle.buffer_pool.specs.PoolState.{PoolState}
use Rattle.recovery.specs.LoggedChanges.{changes_at}
use Rattle.recovery.specs.Opens.{OpensAs, disk_page}
use Rattle.recovery.specs.Reaches.{OpensAsBefore}
use Rattle.recovery.specs.InPool as InPool
use Rattle.recovery.specs.InPool.{IsInPool}
use Rattle.recovery.specs.PooledPages as Held
use Rattle.recovery.specs.Safe.{IsSafe, Rebuilds, is_marked}
use Rattle.recovery.specs.ShownLaws.{shown_at, shown_whole}
use Rattle.recovery.specs.ShownPages.{shown_page, shown_pages}
use Rattle.recovery.specs.RedoesFrame.{AreRedone}
use Rattle.recovery.specs.Redoing.{KeepsTheRest}
use Rattle.recovery.proofs.Changes.{none_or_some}
use Rattle.recovery.proofs.Images.{area_same, control_same, redo_any, same_byte}

-- images from the moment before a read or a sync on
pub after_before : (old mid new : Told) → ((image : List ℕ) → IsTrue (mid.now image) → IsTrue (old.now image)) → Throughout old mid (OpensAsBefore old) → Throughout mid new (OpensAsBefore mid) → Throughout old new (OpensAsBefore old)
after_before old mid new was first second =
    joined old mid new (OpensAsBefore old) first (weaker mid new (OpensAsBefore mid) (OpensAsBefore old) second (λ image comes. (comes.0, was comes.0 comes.1, comes.2)))

module _ (forgets : (form : Form) (change : LoggedChange) (changes : List LoggedChange) → IsAnew change → ForgetPage form (change ∷ changes)) (layout : DiskLayout) (log : Log) (frames : List LogFrame) (start disk : Told) (pool : PoolState) (marks : List Bool) (r : AreRedone layout frames frames start disk pool marks) (area : log.room ≡ area_size layout) where
  abbrev same_tells : disk.tells_contents ≡ start.tells_contents
  same_tells = r.redoing.moments.tells_contents

  -- the pages of an image that keeps the rest are redone to those that are shown
  rebuilt : IsTrue disk.tells_contents → (image : List ℕ) → KeepsTheRest layout r.done start.contents image → Rebuilds layout marks r.done (shown_pages layout pool disk.contents) image
  rebuilt tells image kept =
      let made = r.redoing.pages tells in
      record {
        places = made.places;
        anew = made.anew;
        redone = λ place is.
            let form = form_of layout place.relation in
            let own = changes_at place r.done in
            let shown = sym (shown_at layout pool disk.contents place is) in
            subst (Redone form (disk_page layout image place) own) shown (elim (none_or_some own) [
              | inl none ↦ subst (λ (page : List ℕ). Redone form page own (shown_page layout pool disk.contents place)) (sym (kept.pages place is none)) (made.redone place is)
              | inr some ↦ redo_any forgets form own (disk_page layout start.contents place) (disk_page layout image place) (shown_page layout pool disk.contents place) some (made.anew place) (made.redone place is)
            ]);
        marked = r.marked.marked;
        unmarked = r.marked.unmarked;
      }

  -- the log stands on it
  stands_kept : (image : List ℕ) → KeepsTheRest layout r.done start.contents image → Stands log frames start.contents → Stands log frames image
  stands_kept image kept stands = record {
    side = ap (λ (b : ℕ). b % 2) (same_byte (first_offset layout) image start.contents 1 (omega arith) kept.log) ∙ stands.side;
    holds = subst (λ (room : ℕ). HoldsFrames (chosen_area room image) frames) (sym area)
        (subst (λ (l : List ℕ). HoldsFrames l frames) (sym (area_same layout image start.contents kept.log)) (subst (λ (room : ℕ). HoldsFrames (chosen_area room start.contents) frames) area stands.holds));
    used = stands.used;
  }

  pub safe_image : (image : List ℕ) → IsTrue disk.tells_contents → HasControl layout (take PAGE_SIZE start.contents) → Stands log frames start.contents → KeepsTheRest layout r.done start.contents image
      → IsSafe layout log marks [] (shown_pages layout pool disk.contents) image
  safe_image image tells control stands kept = record {
    frames = frames;
    done = r.done;
    control = subst (HasControl layout) (sym (control_same layout image start.contents kept.log)) control;
    stands = stands_kept image kept stands;
    decoded = r.logged;
    rebuilds = subst (λ (l : List LoggedChange). Rebuilds layout marks l (shown_pages layout pool disk.contents) image) (sym (append-nil r.done)) (rebuilt tells image kept);
  }

  -- what was on the disk at the start opens to the pages that are shown
  pub opens_start : IsTrue disk.tells_contents → HasControl layout (take PAGE_SIZE start.contents) → Stands log frames start.contents
      → ((place : Place) → IsPlace layout place → IsPageIn layout place.relation (shown_page layout pool disk.contents place)) → OpensAs layout start.contents (shown_pages layout pool disk.contents)
  opens_start tells control stands checked =
      let made = r.redoing.pages tells in
      record {
        control = control;
        opens = record {
          frames = frames;
          changes = r.done;
          opened = subst (λ (room : ℕ). HoldsFrames (chosen_area room start.contents) frames) area stands.holds;
          decoded = r.logged;
          places = made.places;
          anew = made.anew;
          redone = λ place is.
              subst (Redone (form_of layout place.relation) (disk_page layout start.contents place) (changes_at place r.done)) (sym (shown_at layout pool disk.contents place is)) (made.redone place is);
          checked = λ place is. subst (IsPageIn layout place.relation) (sym (shown_at layout pool disk.contents place is)) (checked place is);
          whole = shown_whole layout pool disk.contents;
        };
      }

  pub in_pool : IsTrue disk.tells_contents → IsInPool layout log pool marks [] disk.contents
  in_pool tells = record {
    clean = λ place held is got none. r.redoing.clean tells place held is got none;
    dirty = λ place held waits is got log. ⊎_elim (λ (on : is_marked marks layout place ≡ true). on)
        (λ (off : is_marked marks layout place ≡ false). absurd (let some = r.redoing.touched place held is got in omega (arith, some, ap (length {A = LoggedChange}) (r.marked.unmarked place is off)))) (cases_Bool (is_marked marks layout place));
    waits = λ place is none. absurd (omega (arith, none));
  }

-- what the pool holds are pages of the layout, of which none waits for the log
pub holds_pages : (layout : DiskLayout) (pool : PoolState) → Held.HoldsDurablePages layout pool → InPool.HoldsPages layout pool
holds_pages layout pool held number page got = (held number page got).0

pub waits_at_most : (layout : DiskLayout) (log : Log) (pool : PoolState) → Held.HoldsDurablePages layout pool → InPool.WaitsAtMost log pool
waits_at_most layout log pool held number waits page got log_is =
    ⊎_elim (λ (none : page.log ≡ None). absurd (none_Some waits (sym none ∙ log_is))) (λ (zero_is : page.log ≡ Some 0). (let same : 0 ≡ waits = same_Some 0 waits (sym zero_is ∙ log_is) in omega (arith, same)))
    (held number page got).1
