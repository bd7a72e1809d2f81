-- what the words of a command line ask for
use Rattle.std.specs.Prelude.{◌≡◌, ◌⊎◌, ℕ, List, None, IsSome}
use Rattle.block_model.specs.declared.schema.Schema.{Schema}
use Rattle.block_model.specs.declared.schema.Sizes.{Sizes}
use Rattle.store_layout.specs.DiskLayout.{DiskLayout}
use Rattle.store_layout.specs.FirstBrokenRule.{first_broken_rule}
use Rattle.command_line.specs.declared.command.Command.{Command}
use Rattle.command_line.specs.declared.command.Command.TheVariants as commands
use Rattle.command_line.specs.CommandWords.{IsCommand}
use Rattle.command_line.specs.DeclaredSchema.{Denotes}
use Rattle.command_line.specs.Laws.{AreDemoNumbers}
use Rattle.demo_script.specs.DemoStore.{IsDemoLayout}
use Rattle.brin_app.specs.declared.top.Task.{Task}
use Rattle.brin_app.specs.declared.top.Task.TheVariants.{Demo, Init, Run, RunStored, Threads, ThreadsStored}

-- a layout of these sizes and of what is declared, which passes no limit
pub record IsLayoutFor (sizes : Sizes) (declared : List (List ℕ)) (layout : DiskLayout) : Type 0 where
  pub sizes_are : layout.sizes ≡ sizes
  pub schema : Denotes declared layout.schema
  pub within : first_broken_rule layout.schema sizes ≡ None

-- what a command asks for
abbrev pub IsTaskOf : Command → Task → Type 0
IsTaskOf (commands.Init sizes declared) (Init layout) = IsLayoutFor sizes declared layout
IsTaskOf (commands.Run sizes declared) (Run layout) = IsLayoutFor sizes declared layout
IsTaskOf commands.RunStored RunStored = Unit {0}
IsTaskOf (commands.Threads sizes declared) (Threads layout) = IsLayoutFor sizes declared layout
IsTaskOf commands.ThreadsStored ThreadsStored = Unit {0}
IsTaskOf (commands.Demo seed rows) (Demo layout seed' rows') = IsDemoLayout rows layout × (seed' ≡ seed) × (rows' ≡ rows)
IsTaskOf command task = ⊥

-- the words are a command that asks for it
pub record Asks (words : List (List ℕ)) (task : Task) : Type 0 where
  pub command : Command
  pub is : IsCommand words command
  pub task_is : IsTaskOf command task

-- the task runs a script by one worker a session
abbrev pub IsThreaded : Task → Type 0
IsThreaded (Threads layout) = Unit {0}
IsThreaded ThreadsStored = Unit {0}
IsThreaded task = ⊥

-- the words ask for such a task
abbrev pub AsksForThreads : List (List ℕ) → Type 0
AsksForThreads words = (task : Task) × Asks words task × IsThreaded task

-- and for no other
abbrev pub AsksOnlyForThreads : List (List ℕ) → Type 0
AsksOnlyForThreads words = (task : Task) × Asks words task × IsThreaded task × ((other : Task) → Asks words other → other ≡ task)

-- what is declared is no schema, or it passes a limit with these sizes
abbrev pub HasNoLayout : Sizes → List (List ℕ) → Type 0
HasNoLayout sizes declared = (schema : Schema) → Denotes declared schema → IsSome (first_broken_rule schema sizes)

-- the numbers of a demo are within their limits
abbrev pub HasNumbers : Task → Type 0
HasNumbers (Demo layout seed rows) = AreDemoNumbers seed rows
HasNumbers task = Unit {0}

abbrev pub HasDemoNumbers : Command → Type 0
HasDemoNumbers (commands.Demo seed rows) = AreDemoNumbers seed rows
HasDemoNumbers command = Unit {0}

-- why a command can't be begun
abbrev pub IsWrong : Command → Type 0
IsWrong (commands.Init sizes declared) = HasNoLayout sizes declared
IsWrong (commands.Run sizes declared) = HasNoLayout sizes declared
IsWrong (commands.Threads sizes declared) = HasNoLayout sizes declared
IsWrong command = ⊥

-- the words are no command, or one that can't be begun
abbrev pub IsUsage : List (List ℕ) → Type 0
IsUsage words = ((command : Command) → ¬ (IsCommand words command)) ⊎ ((command : Command) × IsCommand words command × IsWrong command)
