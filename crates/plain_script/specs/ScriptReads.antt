-- What the reading of a script takes and answers.
use Rattle.std.specs.Prelude.{◌≡◌, ℕ, ◌+◌, ◌≤◌, List, length, Option, Result, Ok, Err}
use Rattle.std.specs.Io.KnownBytes.{Consumes, IsAtEnd}
use Rattle.block_model.specs.declared.schema.Schema.{Schema}
use Rattle.script_run.specs.Script.{script_lines}
use Rattle.plain_script.specs.HeldScripts.{HeldScript, held_whole}
use Rattle.plain_script.specs.PlainScripts.{plain_script}
use Rattle.plain_script.specs.declared.fault.ScriptFault.{ScriptFault}
use Rattle.plain_script.specs.declared.fault.ScriptFault.TheVariants as faults

-- The bytes that were taken are a script of legal length, up to the source's end, and the answer is that script. A byte past the limit is
-- taken exactly where the answer says so.
abbrev pub Reads : Schema → ℕ → List ℕ → Option (List ℕ) → Result HeldScript ScriptFault → Type 0
Reads schema limit script left (Ok held) = (length script ≤ limit) × IsAtEnd left × (held ≡ held_whole (plain_script schema (script_lines script)))
Reads schema limit script left (Err faults.Read) = length script ≤ limit
Reads schema limit script left (Err faults.Spent) = length script ≡ limit + 1
Reads schema limit script left (Err faults.Memory) = length script ≤ limit

-- a reading took such bytes from the source
abbrev pub ReadsScript : Schema → ℕ → Option (List ℕ) → Option (List ℕ) → Result HeldScript ScriptFault → Type 0
ReadsScript schema limit left left' result = (script : List ℕ) × Consumes left left' script × Reads schema limit script left' result
