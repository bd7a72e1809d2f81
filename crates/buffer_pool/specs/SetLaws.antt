-- laws of a page that was set
use Rattle.std.specs.Prelude.{◌≡◌, ◌⊎◌, ℕ, ◌+◌, ◌≤◌, Some}
use Rattle.std.proofs.Common.{sym, ◌∙◌, ap, subst, inl, inr, ⊎_elim}
use Rattle.std.specs.FinMap as map
use Rattle.block_model.specs.declared.limits.TheConstants.{PAGE_SIZE}
use Rattle.block_model.specs.NumberMaps.{found_after_put, found_after_removal}
use Rattle.buffer_pool.specs.PoolState.{HeldPage, PoolState, held_at}
use Rattle.buffer_pool.specs.SetsPage.{SetsPage}
use Rattle.buffer_pool.specs.WritesPage.{LieWithin, place_of}

-- what is held then is that page, or was held before
pub held_after : (old new : PoolState) (page : ℕ) (held : HeldPage) → SetsPage old page held new → (q : ℕ) (it : HeldPage) → held_at new q ≡ Some it → ((q ≡ page) × (held ≡ it)) ⊎ (held_at old q ≡ Some it)
held_after old new page held (inl kept) q it got =
    ⊎_elim (λ (own : (q ≡ page) × (held ≡ it)). inl own) (λ (other : (q ≡ page → ⊥) × (map.get old.pages q ≡ Some it)). inr other.1)
    (found_after_put old.pages page q held it (ap (λ (p : PoolState). held_at p q) (sym kept.1) ∙ got))
held_after old new page held (inr gone) q it got =
    ⊎_elim (λ (own : (q ≡ page) × (held ≡ it)). inl own) (λ (other : (q ≡ page → ⊥) × (map.get (map.remove old.pages gone.0) q ≡ Some it)). inr (found_after_removal old.pages gone.0 q it other.1).1)
    (found_after_put (map.remove old.pages gone.0) page q held it (ap (λ (p : PoolState). held_at p q) (sym gone.4) ∙ got))

-- pages that lie within the disk still do
pub lie_within_after : (old new : PoolState) (page : ℕ) (held : HeldPage) (at size : ℕ) → SetsPage old page held new → place_of at page + PAGE_SIZE ≤ size → LieWithin old at size → LieWithin new at size
lie_within_after old new page held at size sets here before q it got =
    ⊎_elim (λ (own : (q ≡ page) × (held ≡ it)). subst (λ (x : ℕ). place_of at x + PAGE_SIZE ≤ size) (sym own.0) here) (before q it) (held_after old new page held sets q it got)
