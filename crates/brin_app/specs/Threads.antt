-- what a script comes to that is run by one worker a session, over a name that says what the call was given
use Rattle.std.specs.Prelude.{◌≡◌, ◌⊎◌, ℕ, ◌<◌, IsTrue, List, length, Option, Some}
use Rattle.block_model.specs.DatabaseState.{DatabaseState, initial_state}
use Rattle.block_model.specs.TableState.{TableState}
use Rattle.disk_trait.specs.Told.{Told}
use Rattle.disk_trait.specs.Throughout.{Throughout}
use Rattle.store_layout.specs.DiskLayout.{DiskLayout, disk_size}
use Rattle.script_run.specs.Runs.{RunEnd}
use Rattle.script_run.specs.Script.{script_lines}
use Rattle.transcripts.specs.Transcript.{Said}
use Rattle.plain_script.specs.PlainScripts.{plain_script}
use Rattle.session_core.specs.StoreImage.{database_with}
use Rattle.threads_run.specs.Given.{TakesBytes}
use Rattle.threads_run.specs.Output.{FillsJournal, IsThreadsOutput}
use Rattle.brin_app.specs.declared.status.TheConstants.{SCRIPT_LIMIT}
use Rattle.brin_app.specs.declared.top.Task.{Task}
use Rattle.brin_app.specs.declared.top.Task.TheVariants.{Threads, ThreadsStored}
use Rattle.brin_app.specs.ScriptOutput.{EachImageHas, HoldsTable, IsOldOrEmpty, IsUnmade, IsUnopened, exit_status}

-- ---- what the name says

-- The disk tells its contents, and the source holds these bytes of script. The store is to be made: of that layout, with the empty database.
pub record IsGivenNew (made : DiskLayout) (disk : Told) (left : Option (List ℕ)) (opening : DatabaseState) (layout : DiskLayout) (script : List ℕ) : Type 0 where
  pub tells : IsTrue disk.tells_contents
  pub source : left ≡ Some script
  pub layout_is : layout ≡ made
  pub opening_is : opening ≡ initial_state

-- The disk tells its contents, and the source holds these bytes of script. The store stands there: of that layout, with the opening's table and next number.
pub record IsGivenStored (disk : Told) (left : Option (List ℕ)) (opening : DatabaseState) (layout : DiskLayout) (script : List ℕ) : Type 0 where
  pub tells : IsTrue disk.tells_contents
  pub source : left ≡ Some script
  pub table : TableState
  pub holds : HoldsTable disk layout table
  pub opening_is : opening ≡ database_with holds.image.next table

-- what an honest name says is so where the task is done
abbrev pub IsGivenFor : Task → Told → Option (List ℕ) → DatabaseState → DiskLayout → List ℕ → Type 0
IsGivenFor (Threads made) disk left opening layout script = IsGivenNew made disk left opening layout script
IsGivenFor ThreadsStored disk left opening layout script = IsGivenStored disk left opening layout script
IsGivenFor task disk left opening layout script = Unit {0}

-- ---- what becomes of it

-- The script was run by its workers, and the status says how that ended.
pub record HasWorkers (status : ℕ) (opening : DatabaseState) (layout : DiskLayout) (script : List ℕ) (new : Told) (taken taken' : Option (List ℕ)) : Type 0 where
  pub end : RunEnd
  pub status_is : status ≡ exit_status end
  pub output : IsThreadsOutput SCRIPT_LIMIT end opening layout script new taken taken'

-- A store was made before: while it was made each image was there before, or is no store, or has the empty table; and then each has that table.
pub record IsMadeBefore (layout : DiskLayout) (old : Told) : Type 0 where
  pub made : Told
  pub any_moment : Throughout old made (IsOldOrEmpty layout old)
  pub empty : EachImageHas made layout initial_state.table

-- The store isn't made, or isn't opened; or the script was run over it so.
abbrev pub IsWorkedFor : Task → ℕ → (old new : Told) → (left left' taken taken' : Option (List ℕ)) → DatabaseState → DiskLayout → List ℕ → Type 0
IsWorkedFor (Threads made) status old new left left' taken taken' opening layout script =
    IsUnmade status made old new left left' taken taken' ⊎ (IsMadeBefore made old × HasWorkers status opening layout script new taken taken')
IsWorkedFor ThreadsStored status old new left left' taken taken' opening layout script =
    IsUnopened status layout opening.table old new left left' taken taken' ⊎ HasWorkers status opening layout script new taken taken'
IsWorkedFor task status old new left left' taken taken' opening layout script = Unit {0}

-- Whatever the name says: nothing is read, or as much as is read by a run that ends with this status.
abbrev pub HasRead : ℕ → (left left' : Option (List ℕ)) → Type 0
HasRead status left left' = (left' ≡ left) ⊎ ((end : RunEnd) × (status ≡ exit_status end) × TakesBytes SCRIPT_LIMIT end left left')

-- ---- a full journal, too long a script, and no other status

-- the sessions' lines, in some order, come to a place that has no room in the journal for a session's next step
abbrev pub FillsJournalSo : DatabaseState → DiskLayout → List ℕ → Type 0
FillsJournalSo opening layout script = (said : List Said) × FillsJournal layout opening (plain_script layout.schema (script_lines script)) said

-- the script is longer than is taken, or it may fill the journal
abbrev pub IsTooMuch : DatabaseState → DiskLayout → List ℕ → Type 0
IsTooMuch opening layout script = (SCRIPT_LIMIT < length script) ⊎ FillsJournalSo opening layout script

-- where it is neither, and the disk that is to be made a store has the size, all is done or memory ran out
abbrev pub IsCompleteFor : Task → ℕ → Told → DatabaseState → DiskLayout → List ℕ → Type 0
IsCompleteFor (Threads made) status disk opening layout script = disk.size ≡ disk_size made → ¬ (IsTooMuch opening layout script) → (status ≡ 0) ⊎ (status ≡ 7)
IsCompleteFor ThreadsStored status disk opening layout script = ¬ (IsTooMuch opening layout script) → (status ≡ 0) ⊎ (status ≡ 7)
IsCompleteFor task status disk opening layout script = Unit {0}
