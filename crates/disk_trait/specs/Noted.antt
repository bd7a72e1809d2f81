-- how a record of events is kept
use Rattle.std.specs.Prelude.{ℕ, ◌+◌, List, [], ◌∷◌, take, drop}
use Rattle.disk_trait.specs.Event.{Event, wrote, synced}
use Rattle.disk_trait.specs.declared.history.Call.{Call}
use Rattle.disk_trait.specs.declared.history.Call.TheVariants.{Wrote, Synced}

-- the events of calls in their order, onto earlier ones; the bytes that the writes replaced stand one after another
abbrev pub events_onto : List Event → List Call → List ℕ → List Event
events_onto earlier [] replaced = earlier
events_onto earlier (Wrote at count ∷ calls) replaced = events_onto (wrote at (take count replaced) ∷ earlier) calls (drop count replaced)
events_onto earlier (Synced ∷ calls) replaced = events_onto (synced ∷ earlier) calls replaced

-- how many bytes the writes replaced
abbrev pub replaced_count : List Call → ℕ
replaced_count [] = 0
replaced_count (Wrote at count ∷ calls) = count + replaced_count calls
replaced_count (Synced ∷ calls) = replaced_count calls
