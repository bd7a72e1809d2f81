-- which kinds may stand in a block of an index, and the page of the map that is without entries
use Rattle.std.proofs.Common.{◌≡◌, ◌≢◌, inl, inr, ℕ, zero, suc, ◌+◌, ◌-◌, ◌<◌, ◌≤◌, List, [], ◌∷◌, length, get_or, refl, ◌∙◌, ap, ⊎_elim, arith}
use Rattle.std.specs.Prelude.{replicate}
use Rattle.block_model.specs.declared.limits.TheConstants.{PAGE_SIZE}
use Rattle.recovery.specs.PageOrder.{empty_page}
use Rattle.recovery.specs.Orders.{IsTupleKind, MayStand}

pub at_meta : (maps block kind : ℕ) → block ≡ 0 → kind ≡ 3 → MayStand maps block kind
at_meta maps block kind is same = record { meta = λ e. same; map = λ low within. absurd (omega (arith, low, is)); behind = λ past. absurd (omega (arith, past, is)) }

pub at_map : (maps block kind : ℕ) → 1 ≤ block → block ≤ maps → kind ≡ 4 → MayStand maps block kind
at_map maps block kind low within same = record { meta = λ e. absurd (omega (arith, low, e)); map = λ l w. same; behind = λ past. absurd (omega (arith, past, within)) }

pub at_left : (maps block kind : ℕ) → maps < block → kind ≡ 4 → block ≡ maps + 1 → MayStand maps block kind
at_left maps block kind past same is = record { meta = λ e. absurd (omega (arith, past, e)); map = λ low within. absurd (omega (arith, past, within)); behind = λ p. inr (same, is) }

pub at_tuples : (maps block kind : ℕ) → maps < block → IsTupleKind kind → MayStand maps block kind
at_tuples maps block kind past tuple = record { meta = λ e. absurd (omega (arith, past, e)); map = λ low within. absurd (omega (arith, past, within)); behind = λ p. inl tuple }

pub no_tuple : (kind : ℕ) → kind ≡ 4 → IsTupleKind kind → ⊥
no_tuple kind same (inl e) = omega (arith, same, e)
no_tuple kind same (inr (inl e)) = omega (arith, same, e)
no_tuple kind same (inr (inr e)) = omega (arith, same, e)

pub left_is : (maps block kind : ℕ) → maps < block → kind ≡ 4 → MayStand maps block kind → block ≡ maps + 1
left_is maps block kind past same stand =
    ⊎_elim (λ (tuple : IsTupleKind kind). absurd (no_tuple kind same tuple)) (λ (left : (kind ≡ 4) × (block ≡ maps + 1)). left.1) (stand.behind past)

pub tuples_are : (maps block kind : ℕ) → maps < block → kind ≢ 4 → MayStand maps block kind → IsTupleKind kind
tuples_are maps block kind past other stand =
    ⊎_elim (λ (tuple : IsTupleKind kind). tuple) (λ (left : (kind ≡ 4) × (block ≡ maps + 1)). absurd (other left.0)) (stand.behind past)

pub no_other : (kind : ℕ) → kind ≢ 5 → kind ≢ 6 → kind ≢ 0 → IsTupleKind kind → ⊥
no_other kind a b c (inl e) = a e
no_other kind a b c (inr (inl e)) = b e
no_other kind a b c (inr (inr e)) = c e

zeros : (l : List ℕ) → ((k : ℕ) → k < length l → get_or l k 0 ≡ 0) → l ≡ replicate (length l) 0
zeros [] each = refl
zeros (x ∷ l) each = ap (λ (y : ℕ). y ∷ l) (each 0 (omega arith)) ∙ ap (λ (m : List ℕ). 0 ∷ m) (zeros l (λ k low. each (suc k) (omega (arith, low))))

-- a page whose first byte is the kind, and whose others are zeros
pub empty_is : (kind : ℕ) (page : List ℕ) → length page ≡ PAGE_SIZE → get_or page 0 0 ≡ kind → ((k : ℕ) → 0 < k → k < length page → get_or page k 0 ≡ 0) → page ≡ empty_page kind
empty_is kind [] long first rest = absurd (omega (arith, long))
empty_is kind (x ∷ l) long first rest =
    ap (λ (y : ℕ). y ∷ l) first
    ∙ ap (λ (m : List ℕ). kind ∷ m) (zeros l (λ k low. rest (suc k) (omega (arith, low)) (omega (arith, low))) ∙ ap (λ (n : ℕ). replicate n 0) (let e : length l ≡ PAGE_SIZE - 1 = omega (arith, long) in e))

get_or-replicate : (n k : ℕ) → ◌≡◌ {A = ℕ} (get_or {A = ℕ} (replicate n 0) k 0) 0
get_or-replicate zero k = refl
get_or-replicate (suc n) zero = refl
get_or-replicate (suc n) (suc k) = get_or-replicate n k

pub empty_zeros : (kind k : ℕ) → 0 < k → get_or (empty_page kind) k 0 ≡ 0
empty_zeros kind zero some = absurd (omega (arith, some))
empty_zeros kind (suc k) some = get_or-replicate (PAGE_SIZE - 1) k
