-- what a stop may leave of a step that changes no more than the status of its session's transaction
use Rattle.std.specs.Prelude.{ℕ}
use Rattle.disk_trait.specs.Told.{Told}
use Rattle.heap_rows.specs.Survives.{Survives}
use Rattle.page_map.specs.PageMap.{View}
use Rattle.snapshot_core.specs.declared.statuses.Status.TheVariants.{Committed}
use Rattle.tx_table.specs.Durable.{HasPart, IsBefore}
use Rattle.transactions.specs.Sessions.{committed_by}
use Rattle.transactions.specs.TransactionsState.{OfOpen, TransactionsState}

-- at every moment of the step an image opens to what one did before it, or to the pages as they were
abbrev pub PassesNothing : {D : Type 0} → (D → Told) → (old new : View D) → Type 0
PassesNothing told old new = Survives told (IsBefore old) old new

-- or, within a commit, to these with the session's transaction committed
abbrev pub PassesCommit : {D : Type 0} → (D → Told) → TransactionsState → (n : ℕ) → (old new : View D) → Type 0
PassesCommit told t n old new = OfOpen t n (λ o. Survives told (HasPart old.layout old.pages (committed_by o) Committed) old new)
