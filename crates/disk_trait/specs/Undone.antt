-- the old bytes of writes that aren't synced
use Rattle.std.specs.Prelude.{ℕ, List, [], ◌∷◌}
use Rattle.disk_trait.specs.Spliced.{spliced}
use Rattle.disk_trait.specs.Event.{Event, wrote, synced}

-- the contents as the last sync that succeeded left them, from those now
abbrev pub undone : List ℕ → List Event → List ℕ
undone contents [] = contents
undone contents (wrote at replaced ∷ events) = undone (spliced contents at replaced) events
undone contents (synced ∷ events) = contents
