-- the step that a scan makes, in the table that the pages show
use Rattle.std.proofs.Common.{◌≡◌, ℕ, Bool, List, Option, None, Some}
use Rattle.page_layout.specs.PageContents.{Slot}
use Rattle.page_layout.specs.RowBytes.{StoredRow}
use Rattle.page_locks.specs.declared.did.Did.{Did}
use Rattle.heap_rows.specs.RowPlaces.{slot_at}
use Rattle.snapshot_core.specs.declared.sessions.Open.{Open}
use Rattle.bitmap_scan.specs.Finds.{FindHand, FindSteps, SeesThere, Sight, scanning, sees_stored}
use Rattle.bitmap_scan.specs.ScanAnswers.{ScanStepped}
use Rattle.bitmap_scan.specs.ScanSteps.{account_at}
use Rattle.bitmap_scan.specs.TableScans.{table_scan}
use Rattle.script_semantics.specs.Place.{Place}
use Rattle.session_parts.specs.ShowsPlace.{IsPlaceOf}
use Rattle.session_parts.specs.StoreStates.{ShownStore}
use Rattle.session_scans.specs.declared.looking.Looking.{Looking}
use Rattle.session_scans.specs.LookLaws.{LookLaws}
use Rattle.session_scans.specs.Looks.{deletes_of}
use Rattle.session_scans.proofs.Standing.{LooksThere, ScansAt, pages_show, scans_at, shows, sight}

-- what the session sees in the block that is read next
pub sees_there : (sight : Sight) (blocks : List (List Slot)) (sees : ℕ → ℕ → Bool) (next : Option ℕ)
    → ((b k : ℕ) (row : StoredRow) → slot_at blocks (record { block = b; slot = k }) ≡ Some row → sees b k ≡ sees_stored sight row) → SeesThere sight blocks sees next
sees_there there blocks sees None now = tt
sees_there there blocks sees (Some b) now = now b

module _ (laws : LookLaws) (old : ShownStore) (n : ℕ) (looking : Looking) (before after : FindHand) (o : Open) (there : LooksThere old n looking before o) (p : Place) (shown : IsPlaceOf old p) where
  abbrev at : ScansAt old.layout (pages_show laws old n looking before o there p shown) (shows laws old n looking before o there p shown).unseen n (shows laws old n looking before o there p shown).blocks
      (sight laws old n looking before o there p shown) (deletes_of looking) before
  at = scans_at laws old n looking before o there p shown

  abbrev pub MakesStep : Did → Type 0
  MakesStep answer = FindSteps old.layout old.pages (sight laws old n looking before o there p shown) before after answer

  -- the step, in the table that the pages show
  pub stepped : (answer : Did) → MakesStep answer → (now : ℕ → ℕ → Option Bool)
      × ScanStepped n (pages_show laws old n looking before o there p shown) (shows laws old n looking before o there p shown).unseen (account_at before.judging.stage)
      (table_scan old.layout after.judging (scanning at.sees now (deletes_of looking) after)) answer
  stepped answer steps = steps n old.locks (shows laws old n looking before o there p shown).blocks at.sees at.judged (deletes_of looking) (shows laws old n looking before o there p shown).unseen
      (shows laws old n looking before o there p shown).has at.is at.begins (sees_there (sight laws old n looking before o there p shown) (shows laws old n looking before o there p shown).blocks at.sees before.next at.now)
