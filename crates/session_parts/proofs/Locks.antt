-- who locks the pages of a table
use Rattle.std.proofs.Common.{◌≡◌, ◌≢◌, ℕ, zero, suc, Option, None, Some, refl, sym, ap, ◌∙◌}
use Rattle.std.proofs.lemmas.Option.{none-some}
use Rattle.block_model.specs.declared.place.Place.{Place as PagePlace}
use Rattle.block_model.specs.declared.row.Row.{Row}
use Rattle.page_locks.specs.LockChanges.{GivesAll}
use Rattle.page_locks.specs.LockHolders.{holder}
use Rattle.coverage.specs.IndexView.{IndexView}
use Rattle.coverage.specs.Knowing.{Knows, LocksNone}
use Rattle.coverage.specs.Statements.{Copied, Empty, Held, OnIndex}
use Rattle.coverage.specs.Table.{Inserts, Marks, Resting, Scans, Task, index_view_at, inserting_of, on_index_by, seen_by}
use Rattle.session_parts.specs.TableLaws.{GivesNone, IsQuiet, QuietOnesLockNone}

-- an insert before its move locks no page of any index
insert_locks_none : (v : IndexView) (s b k : ℕ) (r : Row) (i at : ℕ) (on : OnIndex) → IsQuiet (Inserts b k r at on) → Knows v s (inserting_of b k r (on_index_by i at on)) → LocksNone v.lock s
insert_locks_none v s b k r zero zero Empty quiet knows = knows.2
insert_locks_none v s b k r zero zero (Held x) quiet knows = knows.2.0
insert_locks_none v s b k r zero zero (Copied x old new) quiet knows = knows.2.0
insert_locks_none v s b k r zero zero on quiet knows = absurd quiet
insert_locks_none v s b k r zero (suc at) on quiet knows = knows.0
insert_locks_none v s b k r (suc i) zero on quiet knows = knows.2
insert_locks_none v s b k r (suc i) (suc at) on quiet knows = insert_locks_none v s b k r i at on (quiet_on at on quiet) knows
  where
    quiet_on : (at : ℕ) (on : OnIndex) → IsQuiet (Inserts b k r (suc at) on) → IsQuiet (Inserts b k r at on)
    quiet_on at Empty quiet = tt
    quiet_on at (Held x) quiet = tt
    quiet_on at (Copied x old new) quiet = tt
    quiet_on at on quiet = absurd quiet

quiet_locks_none : (v : IndexView) (s at : ℕ) (task : Task) → IsQuiet task → Knows v s (seen_by at task) → LocksNone v.lock s
quiet_locks_none v s at Resting quiet knows = knows.0
quiet_locks_none v s at (Inserts b k r j on) quiet knows = insert_locks_none v s b k r at j on quiet knows
quiet_locks_none v s at (Scans scan) quiet knows = knows.0.0
quiet_locks_none v s at (Marks scan ids) quiet knows = knows.0
quiet_locks_none v s at task quiet knows = absurd quiet

pub quiet_ones_lock_none : QuietOnesLockNone
quiet_ones_lock_none w n at page kept quiet below = quiet_locks_none (index_view_at at w) n at (w.task n) quiet ((kept.indexes at below).knows n) page

-- where all locks of one actor are given, a page that it hasn't locked has its holder
holder_stays : (h k : PagePlace → Option ℕ) (n : ℕ) (page : PagePlace) → GivesAll h k n → h page ≢ Some n → k page ≡ h page
holder_stays h k n page gives apart = by_holder (h page) refl (k page) refl
  where
    by_holder : (a : Option ℕ) → h page ≡ a → (b : Option ℕ) → k page ≡ b → k page ≡ h page
    by_holder None was None now = now ∙ sym was
    by_holder None was (Some m) now = absurd (none-some m (sym was ∙ gives.only page m now))
    by_holder (Some m) was b now = gives.kept page m (λ (same : m ≡ n). apart (was ∙ ap Some same)) was ∙ sym was

pub gives_none : GivesNone
gives_none layout old new n index page gives apart = holder_stays (holder old) (holder new) n _ gives apart
