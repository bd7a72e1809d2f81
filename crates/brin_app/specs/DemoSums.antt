-- what the demo over a store sums up
use Rattle.std.specs.Prelude.{◌≡◌, ◌≢◌, ◌⊎◌, ℕ, IsTrue, List, Option, Ok, Err}
use Rattle.std.specs.Io.KnownBytes.{Appends}
use Rattle.block_model.specs.Causes.{Rose}
use Rattle.disk_trait.specs.Told.{Told}
use Rattle.io_traits.specs.Written.{AppendsPart}
use Rattle.store_layout.specs.DiskLayout.{DiskLayout}
use Rattle.recovery.specs.StartCauses.{HasNoStore, IsDamagedStore}
use Rattle.page_map.specs.Keeps.{Tells}
use Rattle.script_run.specs.declared.engine.AnswerFault.TheVariants.{Memory}
use Rattle.script_run.specs.declared.fault.RunFault.TheVariants as faults
use Rattle.script_run.specs.Runs.{RunEnd}
use Rattle.demo_script.specs.declared.counts.Counts.{Counts}
use Rattle.demo_script.specs.Played.{HasPlayed, HasStopped}
use Rattle.demo_script.specs.Summary.{summary_text}
use Rattle.script_semantics.specs.Place.{Place}
use Rattle.session_parts.specs.ShowsPlace.{ShowsPlace}
use Rattle.brin_app.specs.declared.sessions.Sessions.{Sessions}
use Rattle.brin_app.specs.Asking.{AsksLine}
use Rattle.brin_app.specs.DemoOutput.{IsFreshDemo}
use Rattle.brin_app.specs.ScriptOutput.{HoldsFresh}
use Rattle.brin_app.specs.SessionPlaces.{StopsLine}
use Rattle.brin_app.specs.Statuses.{IsStatus}

-- the whole demo was said to the sessions, with these counts, and its table has so many blocks then
pub record IsCounted {D : Type 0} (told : D → Told) (seed rows : ℕ) (a b : Sessions D) (text : List ℕ) : Type 0 where
  pub counts : Counts
  pub blocks : ℕ
  pub played : HasPlayed (AsksLine told) seed rows a b counts
  pub shown : Tells told b.store.pages → (p : Place) → ShowsPlace b.store p → blocks ≡ (p.tables 0).blocks
  pub text_is : text ≡ summary_text counts blocks

-- by how it ends, what was written
abbrev pub HasSummed : {D : Type 0} → (D → Told) → (seed rows : ℕ) → (a b : Sessions D) → (taken taken' : Option (List ℕ)) → RunEnd → Type 0
HasSummed told seed rows a b taken taken' (Ok done) = (text : List ℕ) × IsCounted told seed rows a b text × Appends taken taken' text
HasSummed told seed rows a b taken taken' (Err faults.Write) = (text : List ℕ) × IsCounted told seed rows a b text × AppendsPart taken taken' text
HasSummed told seed rows a b taken taken' (Err (faults.Unanswered fault)) =
    (taken' ≡ taken) × (HasStopped (AsksLine told) (StopsLine told) seed rows a b fault ⊎ ((fault ≡ Memory) × (counts : Counts) × HasPlayed (AsksLine told) seed rows a b counts))
HasSummed told seed rows a b taken taken' end = ⊥

-- What comes of the demo over the disk of a new store, where it tells its contents, and when each status comes. No source is read.
pub record SumsFresh (status seed rows : ℕ) (old new : Told) (taken taken' : Option (List ℕ)) (write_rose : Type 0) : Type 0 where
  pub known : IsStatus status
  pub run : IsTrue old.tells_contents → (layout : DiskLayout) → HoldsFresh old layout → (left : Option (List ℕ)) → IsFreshDemo status seed rows old new layout left left taken taken'
  pub write_fault : status ≡ 5 → write_rose
  pub disk_fault : status ≡ 6 → Rose old.faults new.faults
  pub no_store : status ≡ 9 → IsTrue old.tells_contents → HasNoStore old.size old.contents
  pub damaged : status ≡ 11 → IsTrue old.tells_contents → (at : ℕ) × IsDamagedStore old.size old.contents at
  pub others : (status ≢ 2) × (status ≢ 4)
