-- What a script leaves that was run by one worker a session: which bytes the sink has, and which table each image of the disk has.
use Rattle.std.specs.Prelude.{◌≡◌, ◌⊎◌, ℕ, ◌<◌, ◌≤◌, ◌==◌, IsTrue, List, ◌++◌, length, count_by, Option, Some, Ok, Err}
use Rattle.std.specs.List.{flat_map}
use Rattle.std.specs.Io.KnownBytes.{Appends}
use Rattle.block_model.specs.DatabaseState.{DatabaseState}
use Rattle.block_model.specs.TableState.{TableState}
use Rattle.disk_trait.specs.Told.{Told}
use Rattle.io_traits.specs.Written.{AppendsPart}
use Rattle.store_layout.specs.declared.statement.Statement.{Statement}
use Rattle.store_layout.specs.declared.statement.Statement.TheVariants as statements
use Rattle.store_layout.specs.DiskLayout.{DiskLayout}
use Rattle.script_semantics.specs.Place.{Place}
use Rattle.script_semantics.specs.StatementSteps.{LacksRoom}
use Rattle.script_run.specs.declared.engine.AnswerFault.TheVariants as unanswered
use Rattle.script_run.specs.declared.fault.RunFault.TheVariants as faults
use Rattle.script_run.specs.Runs.{RunEnd}
use Rattle.script_run.specs.Script.{script_lines}
use Rattle.transactions.specs.FoundLaws.{table_committed}
use Rattle.transcripts.specs.Transcript.{IsTranscript, Line, Said, next_statement}
use Rattle.transcript_laws.specs.Schedule.{Schedule}
use Rattle.transcript_laws.specs.StepLaws.{limits_of}
use Rattle.plain_script.specs.PlainScripts.{PlainScript, plain_script}
use Rattle.session_core.specs.StopRule.{IsImageWith}

-- ---- what is written

-- the texts of the entries, one after the other
abbrev pub texts_of : List Said → List ℕ
texts_of said = flat_map (λ (e : Said). e.text) said

-- first the texts of the lines that no worker has, in the order of the lines; then those of the entries, in theirs
abbrev pub output_of : PlainScript → List Said → List ℕ
output_of script said = script.unread ++ texts_of said

-- each line of each session was answered, once
abbrev pub AreAllSaid : List Line → List Said → Type 0
AreAllSaid lines said = (number : ℕ) → number < length lines → count_by (λ (e : Said). e.line == number) said ≡ 1

-- ---- which table the disk has

-- each image that a stop may leave now has the table
abbrev pub AllImagesHave : DiskLayout → TableState → Told → Type 0
AllImagesHave layout table disk = (image : List ℕ) → IsTrue (disk.now image) → IsImageWith layout table image

-- the image has the database's table, or that with the commit of session n, whose next line is one
abbrev pub HasTableOr : DiskLayout → (ℕ → Option Statement) → DatabaseState → ℕ → List ℕ → Type 0
HasTableOr layout next s n image = IsImageWith layout s.table image ⊎ ((next n ≡ Some statements.Commit) × IsImageWith layout (table_committed s n) image)

-- for one session each image that a stop may leave now has one of the two
abbrev pub AllImagesHaveOr : DiskLayout → (ℕ → Option Statement) → DatabaseState → Told → Type 0
AllImagesHaveOr layout next s disk = (n : ℕ) × ((image : List ℕ) → IsTrue (disk.now image) → HasTableOr layout next s n image)

-- ---- how it ends

-- before a worker is begun: a read failed, the script is too long, or memory is short
abbrev pub IsUnread : ℕ → List ℕ → RunEnd → Type 0
IsUnread limit bytes (Err faults.Read) = Unit {0}
IsUnread limit bytes (Err faults.Spent) = limit < length bytes
IsUnread limit bytes (Err (faults.Unanswered unanswered.Memory)) = Unit {0}
IsUnread limit bytes end = ⊥

-- the sessions' lines, in some order, come behind these entries to a place that has no room in the journal for a session's next step
pub record FillsJournal (layout : DiskLayout) (opening : DatabaseState) (script : PlainScript) (said : List Said) : Type 0 where
  pub place : Place
  pub schedule : Schedule layout script.names script.lines opening said place
  pub session : ℕ
  pub lacks : LacksRoom place session

-- The workers end where all lines are answered, the disk fails, the journal is full, or memory is short. Then all texts are written, or a front of them where a write
-- fails. Where all is answered, and where the journal is full, each image has exactly the transcript's table.
abbrev pub HasEndedSo : DiskLayout → DatabaseState → PlainScript → List Said → DatabaseState → Told → (taken taken' : Option (List ℕ)) → RunEnd → Type 0
HasEndedSo layout opening script said s disk taken taken' (Ok done) = Appends taken taken' (output_of script said) × AreAllSaid script.lines said × AllImagesHave layout s.table disk
HasEndedSo layout opening script said s disk taken taken' (Err faults.Write) = AppendsPart taken taken' (output_of script said)
HasEndedSo layout opening script said s disk taken taken' (Err (faults.Unanswered unanswered.Memory)) = Appends taken taken' (output_of script said)
HasEndedSo layout opening script said s disk taken taken' (Err (faults.Unanswered unanswered.Disk)) = Appends taken taken' (output_of script said)
HasEndedSo layout opening script said s disk taken taken' (Err (faults.Unanswered unanswered.Full)) = Appends taken taken' (output_of script said) × FillsJournal layout opening script said × AllImagesHave layout s.table disk
HasEndedSo layout opening script said s disk taken taken' end = ⊥

-- Each session had a worker. What was answered is a right transcript of the script; each image has the table to which it leads, or that with a commit that was in hand.
pub record HasWorked (end : RunEnd) (opening : DatabaseState) (layout : DiskLayout) (script : PlainScript) (disk : Told) (taken taken' : Option (List ℕ)) : Type 0 where
  pub said : List Said
  pub s : DatabaseState
  pub right : IsTranscript (limits_of layout) script.names script.lines opening said s
  pub images : AllImagesHaveOr layout (next_statement script.lines said) s disk
  pub ended : HasEndedSo layout opening script said s disk taken taken' end

-- No worker was begun: nothing is written, and each image has the opening's table.
pub record IsUnbegun (limit : ℕ) (end : RunEnd) (opening : DatabaseState) (layout : DiskLayout) (bytes : List ℕ) (disk : Told) (taken taken' : Option (List ℕ)) : Type 0 where
  pub unread : IsUnread limit bytes end
  pub nothing : taken' ≡ taken
  pub images : AllImagesHave layout opening.table disk

-- what a run of these bytes leaves, from that opening on
abbrev pub IsThreadsOutput : ℕ → RunEnd → DatabaseState → DiskLayout → List ℕ → Told → (taken taken' : Option (List ℕ)) → Type 0
IsThreadsOutput limit end opening layout bytes disk taken taken' =
    IsUnbegun limit end opening layout bytes disk taken taken' ⊎ ((length bytes ≤ limit) × HasWorked end opening layout (plain_script layout.schema (script_lines bytes)) disk taken taken')
