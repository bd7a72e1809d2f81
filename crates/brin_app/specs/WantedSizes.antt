-- how large a disk the words of a command line want
use Rattle.std.specs.Prelude.{◌≡◌, ◌⊎◌, ℕ, List, Option, Some, None}
use Rattle.store_layout.specs.DiskLayout.{DiskLayout, disk_size}
use Rattle.brin_app.specs.declared.top.Task.{Task}
use Rattle.brin_app.specs.declared.top.Task.TheVariants.{Demo, Init, Run, RunStored, Threads, ThreadsStored}
use Rattle.brin_app.specs.Tasks.{Asks}

-- the size of the disk of which a task makes a store
abbrev pub size_for : Task → Option ℕ
size_for (Init layout) = Some (disk_size layout)
size_for (Run layout) = Some (disk_size layout)
size_for (Demo layout seed rows) = Some (disk_size layout)
size_for RunStored = None
size_for (Threads layout) = Some (disk_size layout)
size_for ThreadsStored = None

-- the words ask for a new store of this layout, alone, with a script or with the demo
abbrev pub AsksForNew : List (List ℕ) → DiskLayout → Type 0
AsksForNew words layout = Asks words (Init layout) ⊎ (Asks words (Run layout) ⊎ ((seed : ℕ) × (rows : ℕ) × Asks words (Demo layout seed rows)))

-- the same, and with a script that is run by one worker a session
abbrev pub MakesStore : List (List ℕ) → DiskLayout → Type 0
MakesStore words layout = AsksForNew words layout ⊎ Asks words (Threads layout)

-- The size is wanted that a new store has for which the words ask. None is wanted where they ask for none.
pub record IsWantedSize (words : List (List ℕ)) (size : Option ℕ) : Type 0 where
  pub asked : (layout : DiskLayout) → MakesStore words layout → size ≡ Some (disk_size layout)
  pub only : (n : ℕ) → size ≡ Some n → (layout : DiskLayout) × MakesStore words layout × (n ≡ disk_size layout)
  pub stored : Asks words RunStored → size ≡ None
  pub threads : Asks words ThreadsStored → size ≡ None
