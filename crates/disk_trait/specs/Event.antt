-- what happened on a disk, and what it held before
use Rattle.std.specs.Prelude.{ℕ, List}
use Rattle.disk_trait.specs.Spliced.{spliced}

-- a write, by its offset and the bytes that it replaced, or a sync that succeeded
pub data Event : Type 0 where
  wrote : ℕ → List ℕ → Event
  synced : Event

-- the contents before an event, from those after it
abbrev pub contents_before : Event → List ℕ → List ℕ
contents_before (wrote at replaced) contents = spliced contents at replaced
contents_before synced contents = contents
