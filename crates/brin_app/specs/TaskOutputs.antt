-- what becomes of a task
use Rattle.std.specs.Prelude.{ℕ, List, Option}
use Rattle.disk_trait.specs.Told.{Told}
use Rattle.brin_app.specs.declared.top.Task.{Task}
use Rattle.brin_app.specs.declared.top.Task.TheVariants.{Demo, Init, Run, RunStored, Threads, ThreadsStored}
use Rattle.brin_app.specs.DemoOutput.{IsDemoOutput}
use Rattle.brin_app.specs.ScriptOutput.{IsIdle, IsMade, IsNewOutput, IsStoredOutput}
use Rattle.brin_app.specs.Threads.{HasRead}

-- of `threads` specs/Threads.antt says what is written; over any name it is known how much is read
abbrev pub IsOutputOf : Task → ℕ → (old new : Told) → (left left' taken taken' : Option (List ℕ)) → Type 0
IsOutputOf (Init layout) status old new left left' taken taken' = IsIdle left left' taken taken' × IsMade status layout old new
IsOutputOf (Run layout) status old new left left' taken taken' = IsNewOutput status layout old new left left' taken taken'
IsOutputOf RunStored status old new left left' taken taken' = IsStoredOutput status old new left left' taken taken'
IsOutputOf (Threads layout) status old new left left' taken taken' = HasRead status left left'
IsOutputOf ThreadsStored status old new left left' taken taken' = HasRead status left left'
IsOutputOf (Demo layout seed rows) status old new left left' taken taken' = IsDemoOutput status layout seed rows old new left left' taken taken'
