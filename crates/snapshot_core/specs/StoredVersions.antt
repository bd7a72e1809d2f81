-- what holds of stored row versions, statuses and open transactions
use Rattle.std.specs.Prelude.{◌≡◌, ◌≢◌, ℕ, ◌<◌, ◌≤◌, true, false, List, [], map, length, slice_index_or, All, Option, None, Some}
use Rattle.std.specs.List.{IsDistinct}
use Rattle.std.specs.Ordering.{eq_by_cmp}
use Rattle.std.specs.BTreeMap.{is_at}
use Rattle.std.specs.Map.{lookup}
use Rattle.block_model.specs.declared.row.RowId.{RowId}
use Rattle.block_model.specs.TableState.{id_cmp}
use Rattle.store_layout.specs.declared.limits.TheConstants.{MAX_SESSIONS}
use Rattle.snapshot_core.specs.declared.statuses.Status.{Status}
use Rattle.snapshot_core.specs.declared.statuses.Status.TheVariants.{Unused, Begun}
use Rattle.snapshot_core.specs.Visibility.{is_committed, had_ended}
use Rattle.snapshot_core.specs.declared.table.Version.{Version}
use Rattle.snapshot_core.specs.declared.sessions.Open.{Open}
use Rattle.snapshot_core.specs.VisibleState.{all_versions, status_of}

-- the version of the row of that id
abbrev pub stored : List Version → RowId → Option Version
stored versions id = lookup (is_at (id_cmp id)) (map (λ v. (v.row.id, v)) versions)

-- the versions of the table of that number
abbrev pub versions_at : List (List Version) → ℕ → List Version
versions_at tables table = slice_index_or tables table []

-- the transaction of the session of that number
abbrev pub transaction_of : List (Option Open) → ℕ → Option Open
transaction_of sessions session = slice_index_or sessions session None

-- The version's transactions are known. The row of one that is under way is deleted by that one alone, and one that is under way has deleted its own rows and those of commits alone.
pub record IsKnown (statuses : List Status) (v : Version) : Type 0 where
  pub put : v.row.id.t < length statuses
  pub gone : v.deleter < length statuses
  pub own : status_of statuses v.row.id.t ≡ Begun → v.deleter ≢ 0 → v.deleter ≡ v.row.id.t
  pub marked : status_of statuses v.deleter ≡ Begun → v.deleter ≢ v.row.id.t → is_committed (status_of statuses v.row.id.t) ≡ true

-- an open transaction has begun, and its rows stand before the place of its next one
pub record IsUnderWay (versions : List Version) (statuses : List Status) (o : Open) : Type 0 where
  pub numbered : 0 < o.t
  pub begun : status_of statuses o.t ≡ Begun
  pub taken : o.snapshot.next ≤ length statuses
  pub placed : (id : RowId) (v : Version) → stored versions id ≡ Some v → id.t ≡ o.t → id.k < o.next_k

-- two transactions differ, and the second's snapshot hasn't the first
pub record AreApart (o p : Open) : Type 0 where
  pub differ : o.t ≢ p.t
  pub unfinished : had_ended p.snapshot o.t ≡ false

-- the versions are of rows with ids of their own, the open transactions are those that have begun, and no two sessions share one
pub record IsStored (versions : List Version) (statuses : List Status) (sessions : List (Option Open)) : Type 0 where
  pub nobody : status_of statuses 0 ≡ Unused
  pub some : 0 < length statuses
  pub ids_differ : IsDistinct (eq_by_cmp id_cmp) (map (λ v. v.row.id) versions)
  pub known : (id : RowId) (v : Version) → stored versions id ≡ Some v → IsKnown statuses v
  pub under_way : (session : ℕ) (o : Open) → transaction_of sessions session ≡ Some o → IsUnderWay versions statuses o
  pub apart : (m n : ℕ) (o p : Open) → transaction_of sessions m ≡ Some o → transaction_of sessions n ≡ Some p → m ≢ n → AreApart o p
  pub begun : (t : ℕ) → ((session : ℕ) (o : Open) → transaction_of sessions session ≡ Some o → o.t ≢ t) → status_of statuses t ≢ Begun

-- where nobody is under way, a row may have any deleter that is known, whatever became of the transaction that put it
abbrev pub AnyDeleterIsKnown : Type 0
AnyDeleterIsKnown = (statuses : List Status) (v : Version) → ((t : ℕ) → status_of statuses t ≢ Begun) → v.row.id.t < length statuses → v.deleter < length statuses → IsKnown statuses v

-- there is a place for each session, and each row is of its table
pub record AreVersions (tables : List (List Version)) (statuses : List Status) (sessions : List (Option Open)) : Type 0 where
  pub places : length sessions ≡ MAX_SESSIONS
  pub own_table : (table : ℕ) → All (λ v. v.row.table ≡ table) (versions_at tables table)
  pub stored : IsStored (all_versions tables) statuses sessions
