-- Whose rows count where nobody has a transaction: those of commits.
use Rattle.std.proofs.Common.{◌≡◌, ◌≢◌, ℕ, zero, suc, Bool, true, false, cond, ◌||◌, eqb, ltb, List, replicate, None, refl, sym, ap, ◌∙◌}
use Rattle.std.specs.List.{list_any}
use Rattle.std.specs.Prelude.{IsTrue}
use Rattle.std.proofs.lemmas.Bool.{false≢true}
use Rattle.store_layout.specs.declared.limits.TheConstants.{MAX_SESSIONS}
use Rattle.snapshot_core.specs.declared.statuses.Status.{Status}
use Rattle.snapshot_core.specs.declared.statuses.Status.TheVariants.{Begun, Committed, RolledBack, Unused}
use Rattle.snapshot_core.specs.Visibility.{is_committed}
use Rattle.tx_table.specs.Statuses.{after_stop, status_of}
use Rattle.transactions.specs.CountedRows.{counts, goes_on}
use Rattle.transactions.specs.GivenStatuses.{given_status}
use Rattle.transactions.proofs.Given.{given_some}
use Rattle.transactions.proofs.Openings.{committed_after}
use Rattle.store_image.specs.StoreImage.{opened_at}

or_none : (a b : Bool) → b ≡ false → (a || b) ≡ a
or_none true b is = refl
or_none false b is = is

none_goes_on : (n u : ℕ) → list_any (goes_on u) (replicate n None) ≡ false
none_goes_on zero u = refl
none_goes_on (suc n) u = none_goes_on n u

pub counts_opened : (next : ℕ) (ss : List Status) (u : ℕ) → counts (opened_at next) ss u ≡ is_committed (given_status next ss u)
counts_opened next ss u = or_none (is_committed (given_status next ss u)) (list_any (goes_on u) (replicate MAX_SESSIONS None)) (none_goes_on MAX_SESSIONS u)

committed_is : (e : Status) → is_committed e ≡ true → e ≡ Committed
committed_is Unused is = absurd (false≢true is)
committed_is Begun is = absurd (false≢true is)
committed_is Committed is = refl
committed_is RolledBack is = absurd (false≢true is)

pub counted_is_committed : (next : ℕ) (ss : List Status) (u : ℕ) → IsTrue (counts (opened_at next) ss u) → status_of ss u ≡ Committed
counted_is_committed next ss u counted = go (eqb u 0) (sym (counts_opened next ss u) ∙ counted)
  where
    go : (b : Bool) → is_committed (cond b Unused (after_stop (ltb u next) (status_of ss u))) ≡ true → status_of ss u ≡ Committed
    go true is = absurd (false≢true is)
    go false is = committed_is (status_of ss u) (sym (committed_after (ltb u next) (status_of ss u)) ∙ is)

pub committed_counts : (next : ℕ) (ss : List Status) (u : ℕ) → u ≢ 0 → status_of ss u ≡ Committed → IsTrue (counts (opened_at next) ss u)
committed_counts next ss u some is = counts_opened next ss u ∙ ap is_committed (given_some next ss u some) ∙ committed_after (ltb u next) (status_of ss u) ∙ ap is_committed is
