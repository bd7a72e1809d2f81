-- the changes that the frames of a log hold
use Rattle.std.specs.Prelude.{◌≡◌, ℕ, ◌==◌, ◌&&◌, if◌then◌else◌, List, [], ◌∷◌, ◌++◌, length}
use Rattle.block_model.specs.declared.place.Place.{Place}
use Rattle.log_area.specs.Frames.{LogFrame}
use Rattle.wal_record.specs.Changes.{LoggedChange, IsChange, place_of}
use Rattle.wal_record.specs.ChangeBytes.{bytes_of}
use Rattle.page_map.specs.Redo.{IsAnew}

-- the bytes are those of these changes, one behind the other
abbrev pub AreChangesOf : List ℕ → List LoggedChange → Type 0
AreChangesOf bytes [] = bytes ≡ []
AreChangesOf bytes (change ∷ changes) = (rest : List ℕ) × IsChange change × (bytes ≡ bytes_of change ++ rest) × AreChangesOf rest changes

-- each frame holds changes of exactly its length and count, and these are all of them
abbrev pub AreLogged : List LogFrame → List LoggedChange → Type 0
AreLogged [] changes = changes ≡ []
AreLogged (frame ∷ frames) changes =
    (own : List LoggedChange) × (others : List LoggedChange) × AreChangesOf frame.changes own × (frame.count ≡ length own) × AreLogged frames others
    × (changes ≡ own ++ others)

-- those of one page
abbrev pub changes_at : Place → List LoggedChange → List LoggedChange
changes_at place [] = []
changes_at place (change ∷ changes) =
    if (place_of change).relation == place.relation && (place_of change).block == place.block then change ∷ changes_at place changes
    else changes_at place changes

-- the first one makes the whole page
abbrev pub BeginAnew : List LoggedChange → Type 0
BeginAnew [] = Unit {0}
BeginAnew (change ∷ changes) = IsAnew change
