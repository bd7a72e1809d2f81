-- laws of a page that was cleaned
use Rattle.std.specs.Prelude.{◌≡◌, ℕ, ◌+◌, ◌≤◌, Some, None, Result, Ok, Err, Bool, true, false}
use Rattle.std.proofs.Common.{sym, ◌∙◌, ap, subst, ⊎_elim}
use Rattle.std.specs.FinMap as map
use Rattle.block_model.specs.declared.limits.TheConstants.{PAGE_SIZE}
use Rattle.block_model.specs.NumberMaps.{found_after_put}
use Rattle.disk_trait.specs.Told.{Told}
use Rattle.disk_trait.specs.declared.disk.DiskFault.{DiskFault}
use Rattle.buffer_pool.specs.PoolState.{PoolState, held_at}
use Rattle.buffer_pool.specs.WritesPage.{CleansOne, CleansPage, LieWithin, place_of}

-- pages that lie within the disk still do
pub lie_within_cleaned : (old new : PoolState) (at durable size : ℕ) (disk after : Told) (result : Result Bool DiskFault) → CleansOne old new at durable disk after result → LieWithin old at size → LieWithin new at size
lie_within_cleaned old new at durable size disk after (Ok true) it before q x got =
    ⊎_elim (λ (own : (q ≡ it.page) × (record it.held { log = None } ≡ x)). subst (λ (p : ℕ). place_of at p + PAGE_SIZE ≤ size) (sym own.0) (before it.page it.held it.cleanable.held))
    (λ (other : (q ≡ it.page → ⊥) × (map.get old.pages q ≡ Some x)). before q x other.1)
    (found_after_put old.pages it.page q (record it.held { log = None }) x (ap (λ (p : PoolState). held_at p q) (sym it.clean) ∙ got))
lie_within_cleaned old new at durable size disk after (Ok false) it before q x got = subst (λ (p : PoolState). LieWithin p at size) (sym it.same) before q x got
lie_within_cleaned old new at durable size disk after (Err fault) it before q x got = subst (λ (p : PoolState). LieWithin p at size) (sym it.same) before q x got

-- the disk has the size that it had
pub same_size_cleaned : (old new : PoolState) (at durable : ℕ) (disk after : Told) (result : Result Bool DiskFault) → CleansOne old new at durable disk after result → after.size ≡ disk.size
same_size_cleaned old new at durable disk after (Ok true) it = it.writes.moments.size
same_size_cleaned old new at durable disk after (Ok false) it = ap (λ (t : Told). t.size) it.untouched
same_size_cleaned old new at durable disk after (Err fault) it = it.writes.moments.size

-- the same where the page was named
pub lie_within_cleaned_page : (old new : PoolState) (at page durable size : ℕ) (disk after : Told) (result : Result Bool DiskFault) → CleansPage old new at page durable disk after result → LieWithin old at size → LieWithin new at size
lie_within_cleaned_page old new at page durable size disk after (Ok true) it before = lie_within_cleaned old new at durable size disk after (Ok true) it.0 before
lie_within_cleaned_page old new at page durable size disk after (Ok false) it before = subst (λ (p : PoolState). LieWithin p at size) (sym it.same) before
lie_within_cleaned_page old new at page durable size disk after (Err fault) it before = lie_within_cleaned old new at durable size disk after (Err fault) it.0 before

pub same_size_cleaned_page : (old new : PoolState) (at page durable : ℕ) (disk after : Told) (result : Result Bool DiskFault) → CleansPage old new at page durable disk after result → after.size ≡ disk.size
same_size_cleaned_page old new at page durable disk after (Ok true) it = it.0.writes.moments.size
same_size_cleaned_page old new at page durable disk after (Ok false) it = ap (λ (t : Told). t.size) it.untouched
same_size_cleaned_page old new at page durable disk after (Err fault) it = it.0.writes.moments.size
