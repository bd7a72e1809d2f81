-- when each status comes
use Rattle.std.specs.Prelude.{◌≡◌, ◌≢◌, ◌⊎◌, ℕ, ◌+◌, ◌≤◌, IsTrue, List, [], ◌∷◌, ◌++◌, length, Option, Some, IsSomeAnd}
use Rattle.std.specs.Io.KnownBytes.{Consumes}
use Rattle.block_model.specs.Causes.{Rose}
use Rattle.block_model.specs.TableState.{TableState}
use Rattle.disk_trait.specs.Told.{Told}
use Rattle.store_layout.specs.DiskLayout.{DiskLayout, disk_size}
use Rattle.recovery.specs.StartCauses.{HasNoStore, IsDamagedStore}
use Rattle.recovery.specs.Untouched.{IsUntouched, KeepsFront}
use Rattle.script_semantics.specs.Place.{Place}
use Rattle.script_semantics.specs.Starts.{IsStart}
use Rattle.script_run.specs.declared.engine.AnswerFault.TheVariants.{Full}
use Rattle.script_run.specs.Answers.{AreAnswers}
use Rattle.script_run.specs.Runs.{AreFirst}
use Rattle.brin_app.specs.declared.status.TheConstants.{SCRIPT_LIMIT}
use Rattle.brin_app.specs.declared.top.Task.{Task}
use Rattle.brin_app.specs.declared.top.Task.TheVariants.{Demo, Init, Run, RunStored, Threads, ThreadsStored}
use Rattle.brin_app.specs.DemoOutput.{IsCompleteDemo}
use Rattle.brin_app.specs.ScriptOutput.{HoldsTable, IsIdle, StartsOver, Stops, Texts}
use Rattle.brin_app.specs.Statuses.{IsStatus}
use Rattle.brin_app.specs.TaskOutputs.{IsOutputOf}

-- ---- no store, and a damaged one

-- The disk that is to be made a store hasn't the layout's size; or none stands there, where it tells its contents. Of a store that `threads` is to open its name tells
-- alone: over an honest one it stands there (specs/Threads.antt).
abbrev pub LacksStore : Task → Told → Type 0
LacksStore (Init layout) disk = disk.size ≢ disk_size layout
LacksStore (Run layout) disk = IsTrue disk.tells_contents → disk.size ≢ disk_size layout
LacksStore (Demo layout seed rows) disk = IsTrue disk.tells_contents → disk.size ≢ disk_size layout
LacksStore RunStored disk = IsTrue disk.tells_contents → HasNoStore disk.size disk.contents
LacksStore (Threads layout) disk = IsTrue disk.tells_contents → disk.size ≢ disk_size layout
LacksStore ThreadsStored disk = Unit {0}

-- the disk tells its contents still, where it did
abbrev pub TellsStill : (old new : Told) → Type 0
TellsStill old new = IsTrue old.tells_contents → IsTrue new.tells_contents

-- The store that stands there is damaged, where the disk tells its contents; one that was made isn't. Of one that `threads` made it is so over a disk that tells them
-- still when it comes back; of one that `threads` is to open its name tells alone.
abbrev pub HasDamage : Task → (old new : Told) → Type 0
HasDamage RunStored old new = IsTrue old.tells_contents → (at : ℕ) × IsDamagedStore old.size old.contents at
HasDamage (Run layout) old new = IsTrue old.tells_contents → ⊥
HasDamage (Demo layout seed rows) old new = IsTrue old.tells_contents → ⊥
HasDamage (Init layout) old new = ⊥
HasDamage ThreadsStored old new = Unit {0}
HasDamage (Threads layout) old new = TellsStill old new → IsTrue old.tells_contents → ⊥

-- ---- a disk over which nothing can be done

-- it hasn't the size of the store that is to be made: nothing is read, nothing written, and it stays as it was
pub record IsRefusedBySize (status : ℕ) (old new : Told) (left left' taken taken' : Option (List ℕ)) : Type 0 where
  pub why : (status ≡ 7) ⊎ (status ≡ 9)
  pub disk : new ≡ old
  pub idle : IsIdle left left' taken taken'

-- its contents are told, and are no store's: nothing is read and nothing written
pub record IsRefusedByBytes (status : ℕ) (left left' taken taken' : Option (List ℕ)) : Type 0 where
  pub why : (status ≡ 6) ⊎ ((status ≡ 7) ⊎ ((status ≡ 9) ⊎ (status ≡ 11)))
  pub idle : IsIdle left left' taken taken'

-- No store is there to run a script over; and where the status says so, none was written to, or of a damaged one the pages alone.
pub record IsRefusedStored (status : ℕ) (old new : Told) (left left' taken taken' : Option (List ℕ)) : Type 0 where
  pub none : IsTrue old.tells_contents → ((layout : DiskLayout) (table : TableState) → HoldsTable old layout table → ⊥) → IsRefusedByBytes status left left' taken taken'
  pub untouched : status ≡ 9 → IsUntouched old new
  pub front : status ≡ 11 → IsTrue old.tells_contents → KeepsFront old new

-- It was left as it is: nothing is read, nothing written, and each byte is the one that it was.
pub record IsLeftAlone (old new : Told) (left left' taken taken' : Option (List ℕ)) : Type 0 where
  pub contents : new.contents ≡ old.contents
  pub idle : IsIdle left left' taken taken'

abbrev pub IsRefusedSo : Task → ℕ → (old new : Told) → (left left' taken taken' : Option (List ℕ)) → Type 0
IsRefusedSo (Init layout) status old new left left' taken taken' = old.size ≢ disk_size layout → IsRefusedBySize status old new left left' taken taken'
IsRefusedSo (Run layout) status old new left left' taken taken' = old.size ≢ disk_size layout → IsRefusedBySize status old new left left' taken taken'
IsRefusedSo (Demo layout seed rows) status old new left left' taken taken' = old.size ≢ disk_size layout → IsRefusedBySize status old new left left' taken taken'
IsRefusedSo RunStored status old new left left' taken taken' = IsRefusedStored status old new left left' taken taken'
IsRefusedSo (Threads layout) status old new left left' taken taken' = old.size ≢ disk_size layout → IsRefusedBySize status old new left left' taken taken'
IsRefusedSo ThreadsStored status old new left left' taken taken' = status ≡ 9 → IsLeftAlone old new left left' taken taken'

-- ---- a full journal, and too long a script

-- first lines of this script, with texts of theirs, lead from a start to a journal that has no room for the requests of the next one
pub record FillsJournal (Starts : Place → Type 0) (layout : DiskLayout) (script : List ℕ) (left : Option (List ℕ)) : Type 0 where
  pub start : Place
  pub starts : Starts start
  pub done : List (List ℕ)
  pub texts : List (List ℕ)
  pub place : Place
  pub line : List ℕ
  pub after : Place
  pub first : AreFirst (done ++ line ∷ []) script left
  pub answers : AreAnswers (Texts layout) start done texts place
  pub past : Stops layout place line Full after

-- the script that was taken fills the journal
abbrev pub JournalWasFull : (Place → Type 0) → DiskLayout → Option (List ℕ) → Option (List ℕ) → Type 0
JournalWasFull Starts layout left left' = (script : List ℕ) × Consumes left left' script × FillsJournal Starts layout script left'

-- Where the source tells its bytes, 8 comes where as many as the limit were taken and then another, and else only where
-- the journal was full.
pub record IsSpentExactly (status : ℕ) (Starts : Place → Type 0) (layout : DiskLayout) (old new : List ℕ) : Type 0 where
  pub past_limit : length old ≡ (SCRIPT_LIMIT + 1) + length new → status ≡ 8
  pub only : status ≡ 8 → (length old ≡ (SCRIPT_LIMIT + 1) + length new) ⊎ JournalWasFull Starts layout (Some old) (Some new)

abbrev pub HasSpentCauses : ℕ → (Place → Type 0) → DiskLayout → Option (List ℕ) → Option (List ℕ) → Type 0
HasSpentCauses status Starts layout (Some old) (Some new) = IsSpentExactly status Starts layout old new
HasSpentCauses status Starts layout old new = Unit {0}

-- where the source tells its bytes, 8 comes where as many as the limit were taken and then another
abbrev pub IsSpentPast : ℕ → Option (List ℕ) → Option (List ℕ) → Type 0
IsSpentPast status (Some old) (Some new) = length old ≡ (SCRIPT_LIMIT + 1) + length new → status ≡ 8
IsSpentPast status old new = Unit {0}

-- Where the disk tells its contents: over a new store, and over each that may stand there; a demo fits the journal. When else 8 comes of `threads` specs/Threads.antt
-- says.
abbrev pub IsSpentOf : Task → ℕ → Told → Option (List ℕ) → Option (List ℕ) → Type 0
IsSpentOf (Init layout) status disk left left' = status ≢ 8
IsSpentOf (Run layout) status disk left left' = IsTrue disk.tells_contents → HasSpentCauses status (IsStart layout) layout left left'
IsSpentOf (Demo layout seed rows) status disk left left' = IsTrue disk.tells_contents → status ≢ 8
IsSpentOf (Threads layout) status disk left left' = IsSpentPast status left left'
IsSpentOf ThreadsStored status disk left left' = IsSpentPast status left left'
IsSpentOf RunStored status disk left left' =
    IsTrue disk.tells_contents → (layout : DiskLayout) (table : TableState) (holds : HoldsTable disk layout table) → HasSpentCauses status (StartsOver layout holds.pages holds.image.next table) layout left left'

-- ---- no other status

-- the source tells its bytes, and has no more than are taken
abbrev pub FitsLimit : Option (List ℕ) → Type 0
FitsLimit left = IsSomeAnd left (λ bytes. length bytes ≤ SCRIPT_LIMIT)

-- no part of the source's bytes fills the journal
abbrev pub FitsJournal : (Place → Type 0) → DiskLayout → Option (List ℕ) → Type 0
FitsJournal Starts layout left = (left' : Option (List ℕ)) → JournalWasFull Starts layout left left' → ⊥

-- where the script isn't too long and its requests fit the journal, it was run to its end or memory ran out
abbrev pub IsComplete : ℕ → (Place → Type 0) → DiskLayout → Option (List ℕ) → Type 0
IsComplete status Starts layout left = FitsLimit left → FitsJournal Starts layout left → (status ≡ 0) ⊎ (status ≡ 7)

-- The same of a task, where the disk that is to be made a store has the size, or a store stands there. Of `threads` specs/Threads.antt says it.
abbrev pub IsCompleteOf : Task → ℕ → Told → Option (List ℕ) → Type 0
IsCompleteOf (Init layout) status disk left = disk.size ≡ disk_size layout → (status ≡ 0) ⊎ (status ≡ 7)
IsCompleteOf (Run layout) status disk left = IsTrue disk.tells_contents → disk.size ≡ disk_size layout → IsComplete status (IsStart layout) layout left
IsCompleteOf (Demo layout seed rows) status disk left = IsCompleteDemo status layout disk
IsCompleteOf (Threads layout) status disk left = Unit {0}
IsCompleteOf ThreadsStored status disk left = Unit {0}
IsCompleteOf RunStored status disk left =
    IsTrue disk.tells_contents → (layout : DiskLayout) (table : TableState) (holds : HoldsTable disk layout table) → IsComplete status (StartsOver layout holds.pages holds.image.next table) layout left

-- ---- all of it

-- What is done for a task, by the status and the disk; the counts of source and sink rose where these say so.
pub record IsDoneSo (task : Task) (status : ℕ) (old new : Told) (left left' taken taken' : Option (List ℕ)) (read_rose write_rose : Type 0) : Type 0 where
  pub known : IsStatus status
  pub output : IsOutputOf task status old new left left' taken taken'
  pub read_fault : status ≡ 4 → read_rose
  pub write_fault : status ≡ 5 → write_rose
  pub disk_fault : status ≡ 6 → Rose old.faults new.faults
  pub no_store : status ≡ 9 → LacksStore task old
  pub refused_disk : IsRefusedSo task status old new left left' taken taken'
  pub damaged : status ≡ 11 → HasDamage task old new
  pub no_usage : status ≢ 2
  pub spent : IsSpentOf task status old left left'
  pub complete : ¬ read_rose → ¬ write_rose → ¬ (Rose old.faults new.faults) → IsCompleteOf task status old left
