-- the state of private copies for which row versions, statuses and open transactions stand
use Rattle.std.specs.Prelude.{ℕ, ◌+◌, Bool, not, ◌&&◌, ◌==◌, List, [], ◌∷◌, filter, map, length, slice_index_or, Option, None, Some}
use Rattle.std.specs.List.{flat_map}
use Rattle.std.specs.Ordering.{nat_cmp}
use Rattle.std.specs.FinMap.{FinMap, from_entries}
use Rattle.std.specs.FinSet as set
use Rattle.block_model.specs.TableState.{TableState, RowIds}
use Rattle.block_model.specs.DatabaseState.{DatabaseState, OpenTransaction}
use Rattle.snapshot_core.specs.declared.statuses.Status.{Status}
use Rattle.snapshot_core.specs.declared.statuses.Status.TheVariants.{Unused}
use Rattle.snapshot_core.specs.Visibility.{sees, is_committed}
use Rattle.snapshot_core.specs.declared.table.Version.{Version}
use Rattle.snapshot_core.specs.declared.sessions.Open.{Open}

-- the versions of all tables
abbrev pub all_versions : List (List Version) → List Version
all_versions tables = flat_map (λ versions. versions) tables

-- the rows of the versions that pass, in order of their ids
unfoldable pub table_of : (Version → Bool) → List Version → TableState
table_of passes versions = from_entries (map (λ v. (v.row.id, v.row)) (filter passes versions))

-- the ids of the rows of the versions that pass
unfoldable pub ids_of : (Version → Bool) → List Version → RowIds
ids_of passes versions = set.from_list (map (λ v. v.row.id) (filter passes versions))

-- how a transaction stands
abbrev pub status_of : List Status → ℕ → Status
status_of statuses t = slice_index_or statuses t Unused

-- a commit put the row, and no commit deleted it
abbrev pub is_of_commit : List Status → Version → Bool
is_of_commit statuses v = is_committed (status_of statuses v.row.id.t) && not (is_committed (status_of statuses v.deleter))

-- an open transaction sees a row of the one numbered t that the deleter has deleted
abbrev pub sees_at : List Status → Open → ℕ → ℕ → Bool
sees_at statuses o t deleter = sees o.snapshot o.t t deleter (status_of statuses t) (status_of statuses deleter)

-- it sees the row
abbrev pub is_seen : List Status → Open → Version → Bool
is_seen statuses o v = sees_at statuses o v.row.id.t v.deleter

-- it deleted the row, and another put it
abbrev pub is_marked : Open → Version → Bool
is_marked o v = (v.deleter == o.t) && not (v.row.id.t == o.t)

-- its copy of the tables has the rows that it sees, and its marks are the rows of others that it deleted
abbrev pub visible_transaction : List Status → List Version → Open → OpenTransaction
visible_transaction statuses versions o =
    record { t = o.t; next_k = o.next_k; view = table_of (is_seen statuses o) versions; marks = ids_of (is_marked o) versions; failed = o.failed }

-- the open transactions by their sessions, from the session of that number on
abbrev pub open_from : ℕ → List (Option Open) → List (ℕ × Open)
open_from n [] = []
open_from n (None ∷ places) = open_from (n + 1) places
open_from n (Some o ∷ places) = (n, o) ∷ open_from (n + 1) places

-- each session's transaction
abbrev pub visible_sessions : List Status → List Version → List (Option Open) → FinMap nat_cmp OpenTransaction
visible_sessions statuses versions sessions = from_entries (map (λ e. (e.0, visible_transaction statuses versions e.1)) (open_from 0 sessions))

-- the table has the rows of commits, and the next transaction's number is the count of statuses
abbrev pub visible_state : List Version → List Status → List (Option Open) → DatabaseState
visible_state versions statuses sessions =
    record { next = length statuses; table = table_of (is_of_commit statuses) versions; sessions = visible_sessions statuses versions sessions }
