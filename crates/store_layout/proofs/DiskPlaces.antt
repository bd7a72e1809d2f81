-- blocks of relations that stand one behind the other
use Rattle.std.proofs.Common.{◌≡◌, ◌≢◌, ℕ, suc, zero, ◌+◌, ◌-◌, ◌*◌, ◌<◌, ◌≤◌, min, List, [], ◌∷◌, ◌++◌, length, map, take, get_or, sym, ap, ◌∙◌, inl, inr, arith}
use Rattle.std.specs.List.{sum}
use Rattle.std.proofs.lemmas.List.Sums.{sum_by-cons, sum_by-append}
use Rattle.std.proofs.Math.Nat.{suc-mul}
use Rattle.std.proofs.lemmas.Bool.{cases_lt, cases_order}
use Rattle.block_model.specs.declared.place.Place.{Place}
use Rattle.store_layout.specs.DiskLayout.{DiskLayout, disk_size, relation_blocks, page_offset, IsPlace, first_offset, HasBoundedSizes, HasSmallPlaces}
use Rattle.store_layout.specs.RelationCounts.{count_relations}
use Rattle.store_layout.specs.PagesFillDisk.{PagesFillDisk, AreApart}

sum_cons : (x : ℕ) (xs : List ℕ) → sum (x ∷ xs) ≡ x + sum xs
sum_cons x xs = sum_by-cons (λ y. y) x xs

-- the blocks of a relation end before a later relation begins
ends_before : (bs : List ℕ) (r s : ℕ) → r < s → sum (take r bs) + get_or bs r 0 ≤ sum (take s bs)
ends_before [] zero (suc s) below = omega arith
ends_before [] (suc r) (suc s) below = omega arith
ends_before (b ∷ bs) zero (suc s) below = omega (arith, sum_cons b (take s bs))
ends_before (b ∷ bs) (suc r) (suc s) below =
    omega (arith, sum_cons b (take r bs), sum_cons b (take s bs), ends_before bs r s (omega arith))
ends_before bs r zero below = absurd (omega arith)

-- and before the last one ends
ends_within : (bs : List ℕ) (r : ℕ) → r < length bs → sum (take r bs) + get_or bs r 0 ≤ sum bs
ends_within [] r below = absurd (omega arith)
ends_within (b ∷ bs) zero below = omega (arith, sum_cons b bs)
ends_within (b ∷ bs) (suc r) below = omega (arith, sum_cons b (take r bs), sum_cons b bs, ends_within bs r (omega arith))

-- each block belongs to a relation
abbrev IsFound : List ℕ → ℕ → Type 0
IsFound bs n = (r : ℕ) × (b : ℕ) × (r < length bs) × (b < get_or bs r 0) × (sum (take r bs) + b ≡ n)

found : (bs : List ℕ) (n : ℕ) → n < sum bs → IsFound bs n
found [] n below = absurd (omega arith)
found (x ∷ xs) n below =
    elim (cases_lt n x) [
      | inl inside ↦ (0, n, omega arith, inside, omega arith)
      | inr behind ↦
          let rest : IsFound xs (n - x) = found xs (n - x) (omega (arith, sum_cons x xs)) in
          let above : sum (take rest.0 xs) + rest.1 ≡ n - x = rest.4 in
          (suc rest.0, rest.1, omega arith, rest.3, omega (arith, sum_cons x (take rest.0 xs)))
    ]

sum_same : {X : Type 0} (c : ℕ) (xs : List X) → sum (map (λ _. c) xs) ≡ length xs * c
sum_same c [] = omega arith
sum_same c (x ∷ xs) = sum_cons c (map (λ _. c) xs) ∙ (let rest : sum (map (λ _. c) xs) ≡ length xs * c = sum_same c xs in omega (arith, suc-mul (length xs) c))

front_same : {X : Type 0} (c : ℕ) (xs : List X) (k : ℕ) → k ≤ length xs → sum (take k (map (λ _. c) xs)) ≡ k * c
front_same c xs zero within = omega arith
front_same c [] (suc k) within = absurd (omega arith)
front_same c (x ∷ xs) (suc k) within =
    sum_cons c (take k (map (λ _. c) xs)) ∙ (let rest : sum (take k (map (λ _. c) xs)) ≡ k * c = front_same c xs k (omega arith) in omega (arith, suc-mul k c))

-- the first k of two lists of equal numbers
front_of_both : {X Y : Type 0} (h i : ℕ) (ts : List X) (is : List Y) (k : ℕ) → k ≤ length ts + length is
    → sum (take k (map (λ _. h) ts ++ map (λ _. i) is)) ≡ min k (length ts) * h + (k - min k (length ts)) * i
front_of_both h i [] is k within =
    let none : min k 0 ≡ 0 = omega arith in
    rw none (front_same i is k (omega arith) ∙ (let all : k - 0 ≡ k = omega arith in rw all (omega arith)))
front_of_both h i (t ∷ ts) is zero within =
    let none : min 0 (suc (length ts)) ≡ 0 = omega arith in
    rw none (omega arith)
front_of_both h i (t ∷ ts) is (suc k) within =
    let rest : sum (take k (map (λ _. h) ts ++ map (λ _. i) is)) ≡ min k (length ts) * h + (k - min k (length ts)) * i = front_of_both h i ts is k (omega arith) in
    let less : min (suc k) (suc (length ts)) ≡ suc (min k (length ts)) = omega arith in
    let same : suc k - suc (min k (length ts)) ≡ k - min k (length ts) = omega arith in
    sum_cons h (take k (map (λ _. h) ts ++ map (λ _. i) is))
    ∙ rw (less, same) (omega (arith, suc-mul (min k (length ts)) h))

-- the blocks in front of the relation that comes behind the statuses and k others
pub front_of_relation : (d : DiskLayout) (relation k : ℕ) → relation ≡ suc k → k ≤ length d.schema.tables + length d.schema.indexes
    → sum (take relation (relation_blocks d))
    ≡ d.sizes.status_blocks + (min k (length d.schema.tables) * d.sizes.heap_blocks + (k - min k (length d.schema.tables)) * d.sizes.index_blocks)
unfolding relation_blocks
front_of_relation d relation k is within =
    let others : List ℕ = map (λ _. d.sizes.heap_blocks) d.schema.tables ++ map (λ _. d.sizes.index_blocks) d.schema.indexes in
    rw is
    (sum_cons d.sizes.status_blocks (take k others)
    ∙ ap (λ n. d.sizes.status_blocks + n) (front_of_both d.sizes.heap_blocks d.sizes.index_blocks d.schema.tables d.schema.indexes k within))

pub all_blocks : (d : DiskLayout) → disk_size d ≡ first_offset d + 8192 * sum (relation_blocks d)
unfolding disk_size relation_blocks
all_blocks d =
    let heaps : List ℕ = map (λ _. d.sizes.heap_blocks) d.schema.tables in
    let indexes : List ℕ = map (λ _. d.sizes.index_blocks) d.schema.indexes in
    omega (arith, sum_cons d.sizes.status_blocks (heaps ++ indexes), sum_by-append (λ (y : ℕ). y) heaps indexes, sum_same d.sizes.heap_blocks d.schema.tables, sum_same d.sizes.index_blocks d.schema.indexes)

same_place : (p q : Place) → p.relation ≡ q.relation → p.block ≡ q.block → p ≡ q
same_place p q r b = λ i. record { relation = r i; block = b i }

apart_by_relation : (d : DiskLayout) (p q : Place) → IsPlace d p → p.relation < q.relation → page_offset d p + 8192 ≤ page_offset d q
unfolding page_offset
apart_by_relation d p q at before = omega (arith, ends_before (relation_blocks d) p.relation q.relation before, at.block)

apart_by_block : (d : DiskLayout) (p q : Place) → p.relation ≡ q.relation → p.block < q.block → page_offset d p + 8192 ≤ page_offset d q
unfolding page_offset
apart_by_block d p q same before = rw same (omega arith)

apart : (d : DiskLayout) (p q : Place) → IsPlace d p → IsPlace d q → p ≢ q → AreApart d p q
apart d p q at there differ =
    elim (cases_order p.relation q.relation) [
      | inl same ↦
          elim (cases_order p.block q.block) [
            | inl alike ↦ absurd (differ (same_place p q same alike))
            | inr unlike ↦
                elim unlike [ inl before ↦ inl (apart_by_block d p q same before) | inr behind ↦ inr (apart_by_block d q p (sym same) behind) ]
          ]
      | inr unlike ↦
          elim unlike [ inl before ↦ inl (apart_by_relation d p q at before) | inr behind ↦ inr (apart_by_relation d q p there behind) ]
    ]

aligned : (d : DiskLayout) (p : Place) → (n : ℕ) × (page_offset d p ≡ 8192 * n)
unfolding page_offset
aligned d p = (1 + 2 * d.sizes.log_pages + (sum (take p.relation (relation_blocks d)) + p.block), omega arith)

begins : (d : DiskLayout) (p : Place) → first_offset d ≤ page_offset d p
unfolding page_offset
begins d p = omega arith

ends : (d : DiskLayout) (p : Place) → IsPlace d p → page_offset d p + 8192 ≤ disk_size d
unfolding page_offset
ends d p at = omega (arith, all_blocks d, ends_within (relation_blocks d) p.relation at.relation, at.block)

filled : (d : DiskLayout) (n : ℕ) → first_offset d ≤ 8192 * n → 8192 * n + 8192 ≤ disk_size d → (p : Place) × IsPlace d p × (page_offset d p ≡ 8192 * n)
unfolding page_offset
filled d n from to =
    let at : IsFound (relation_blocks d) (n - (1 + 2 * d.sizes.log_pages)) = found (relation_blocks d) _ (omega (arith, all_blocks d)) in
    let is : sum (take at.0 (relation_blocks d)) + at.1 ≡ n - (1 + 2 * d.sizes.log_pages) = at.4 in
    (record { relation = at.0; block = at.1 }, record { relation = at.2; block = at.3 }, omega arith)

pub pages_fill : (d : DiskLayout) → PagesFillDisk d
pages_fill d = record {
  areas = omega arith;
  disjoint = apart d;
  aligned = λ p _. aligned d p;
  begins = λ p _. begins d p;
  ends = ends d;
  filled = filled d;
}

same_small : {X : Type 0} (c m : ℕ) → c ≤ m → (xs : List X) (r : ℕ) → get_or (map (λ _. c) xs) r 0 ≤ m
same_small c m within [] r = omega arith
same_small c m within (x ∷ xs) zero = within
same_small c m within (x ∷ xs) (suc r) = same_small c m within xs r

both_small : {X Y : Type 0} (h i m : ℕ) → h ≤ m → i ≤ m → (ts : List X) (is : List Y) (r : ℕ) → get_or (map (λ _. h) ts ++ map (λ _. i) is) r 0 ≤ m
both_small h i m h_within i_within [] is r = same_small i m i_within is r
both_small h i m h_within i_within (t ∷ ts) is zero = h_within
both_small h i m h_within i_within (t ∷ ts) is (suc r) = both_small h i m h_within i_within ts is r

blocks_small : (d : DiskLayout) → HasBoundedSizes d → (r : ℕ) → get_or (relation_blocks d) r 0 ≤ 131072
unfolding relation_blocks
blocks_small d bounds zero = omega (arith, bounds.few_status_blocks)
blocks_small d bounds (suc r) =
    both_small d.sizes.heap_blocks d.sizes.index_blocks 131072 bounds.few_heap_blocks (omega (arith, bounds.few_index_blocks)) d.schema.tables d.schema.indexes r

pub small_places : (d : DiskLayout) → HasBoundedSizes d → HasSmallPlaces d
small_places d bounds = record {
  relation = λ p at. omega (arith, count_relations d, at.relation, bounds.few_tables, bounds.few_indexes);
  block = λ p at. omega (arith, blocks_small d bounds p.relation, at.block);
}
