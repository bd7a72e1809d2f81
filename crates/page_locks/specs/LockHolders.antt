-- who holds the lock of which page
use Rattle.std.specs.Prelude.{ℕ, Option, refl}
use Rattle.std.proofs.Common.{ap}
use Rattle.std.specs.Coded.{Coded, code_by, coded×, coded_ℕ}
use Rattle.std.specs.declared.cmp.Ordering.{Ordering}
use Rattle.std.specs.Ordering.{nat_cmp, ordering_then}
use Rattle.std.specs.Cmp.{IsTotalOrder}
use Rattle.std.specs.FinMap as map
use Rattle.std.proofs.lemmas.Cmp.{on_total, then_total, nat_cmp_total}
use Rattle.std.proofs.lemmas.Map.Lookups.{exact_pairs, exact_unsigned}
use Rattle.block_model.specs.declared.place.Place.{Place}

-- by the relation, and then by the block
abbrev pub place_cmp : Place → Place → Ordering
place_cmp a b = ordering_then (nat_cmp a.relation b.relation) (nat_cmp a.block b.block)

-- an entry is a page and the actor that holds its lock; a page without one is free
abbrev pub Holders : Type 0
Holders = map.FinMap place_cmp ℕ

-- how many locks can be held at once, and who holds which
pub record LockState : Type 0 where
  pub limit : ℕ
  pub holders : Holders

-- who holds the lock of the page
abbrev pub holder : LockState → Place → Option ℕ
holder s page = map.get s.holders page

-- how many locks are held
abbrev pub count_of : LockState → ℕ
count_of s = map.len s.holders

-- the actor holds the lock of the page as well
abbrev pub with_lock : LockState → Place → ℕ → LockState
with_lock s page actor = record s { holders = map.insert s.holders page actor }

-- nobody holds the lock of the page any more
abbrev pub without_lock : LockState → Place → LockState
without_lock s page = record s { holders = map.remove s.holders page }

-- how these are stored
abbrev pub coded_place : Coded Place
coded_place = code_by (ℕ × ℕ) (coded× coded_ℕ coded_ℕ) (λ a. (a.relation, a.block)) (λ p. record { relation = p.0; block = p.1 }) (λ _. refl)

abbrev pub coded_locks : Coded LockState
coded_locks = code_by (ℕ × Holders) (coded× coded_ℕ (map.code coded_place coded_ℕ)) (λ s. (s.limit, s.holders)) (λ p. record { limit = p.0; holders = p.1 }) (λ _. refl)

-- the order of pages is total
pub places_total : IsTotalOrder place_cmp
places_total = then_total (on_total (λ (a : Place). a.relation) nat_cmp_total) (on_total (λ (a : Place). a.block) nat_cmp_total)

-- and only equal pages tie in it
pub places_exact : map.IsAntisymmetric place_cmp
places_exact a b h = ap (λ (p : ℕ × ℕ). record { relation = p.0; block = p.1 }) (exact_pairs nat_cmp nat_cmp exact_unsigned exact_unsigned (a.relation, a.block) (b.relation, b.block) h)
