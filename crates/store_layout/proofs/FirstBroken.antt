-- what the first broken rule says of all twelve
use Rattle.std.proofs.Common.{◌≡◌, ℕ, suc, zero, ◌+◌, ◌<◌, ◌≤◌, Bool, true, false, not, List, [], ◌∷◌, length, get_or, Option, None, Some, MatchOption, refl, subst, arith}
use Rattle.std.specs.List.{position_from}
use Rattle.std.proofs.lemmas.Bool.{leb-true, and_parts}
use Rattle.block_model.specs.declared.schema.Schema.{Schema}
use Rattle.block_model.specs.declared.schema.Sizes.{Sizes}
use Rattle.block_model.specs.ClassLimits.{is_within}
use Rattle.store_layout.specs.FirstBrokenRule.{rules, first_broken_rule, KeepsLimits, IsFirstBroken, IsLeastBroken}
use Rattle.store_layout.specs.DiskLayout.{DiskLayout, HasBoundedSizes}

-- the first false of a list that is numbered from i on
abbrev Least : ℕ → List Bool → Option ℕ → Type 0
Least i xs o =
    MatchOption o ((k : ℕ) → get_or xs k true ≡ true)
    (λ r. (k : ℕ) × (r ≡ i + k) × (get_or xs k true ≡ false) × ((j : ℕ) → j < k → get_or xs j true ≡ true))

one_more : (xs : List Bool) (n : ℕ) → ((k : ℕ) → k < n → get_or xs k true ≡ true) → (k : ℕ) → k < suc n → get_or (true ∷ xs) k true ≡ true
one_more xs n h zero below = refl
one_more xs n h (suc k) below = h k (omega arith)

all_more : (xs : List Bool) → ((k : ℕ) → get_or xs k true ≡ true) → (k : ℕ) → get_or (true ∷ xs) k true ≡ true
all_more xs h zero = refl
all_more xs h (suc k) = h k

least_more : (i : ℕ) (xs : List Bool) (o : Option ℕ) → Least (i + 1) xs o → Least i (true ∷ xs) o
least_more i xs None h = all_more xs h
least_more i xs (Some r) h =
    let at : r ≡ (i + 1) + h.0 = h.1 in
    let moved : r ≡ i + suc h.0 = omega arith in
    (suc h.0, moved, h.2, one_more xs h.0 h.3)

least : (i : ℕ) (xs : List Bool) → Least i xs (position_from not i xs)
least i [] = λ k. refl
least i (true ∷ xs) = least_more i xs (position_from not (i + 1) xs) (least (i + 1) xs)
least i (false ∷ xs) = (0, omega arith, refl, λ j below. absurd (omega arith))

of_rules : (schema : Schema) (sizes : Sizes) (o : Option ℕ) → Least 0 (true ∷ rules schema sizes) o → MatchOption o (KeepsLimits schema sizes) (IsFirstBroken schema sizes)
of_rules schema sizes None h = h
of_rules schema sizes (Some r) h =
    let at : r ≡ 0 + h.0 = h.1 in
    let is : h.0 ≡ r = omega arith in
    subst (IsFirstBroken schema sizes) is (record { broken = h.2; lower_hold = h.3 })

pub is_least_broken : (schema : Schema) (sizes : Sizes) → IsLeastBroken schema sizes
unfolding first_broken_rule
is_least_broken schema sizes = of_rules schema sizes (position_from not 1 (rules schema sizes)) (least 0 (true ∷ rules schema sizes))

pub keeps_limits : (schema : Schema) (sizes : Sizes) → first_broken_rule schema sizes ≡ None → KeepsLimits schema sizes
keeps_limits schema sizes none =
    subst (λ (o : Option ℕ). MatchOption o (KeepsLimits schema sizes) (IsFirstBroken schema sizes)) none (is_least_broken schema sizes)

ends_of : (low high n : ℕ) → is_within low high n ≡ true → (low ≤ n) × (n ≤ high)
ends_of low high n h =
    let parts = and_parts _ _ h in
    (leb-true low n parts.0, leb-true n high parts.1)

pub has_bounded_sizes : (d : DiskLayout) → KeepsLimits d.schema d.sizes → HasBoundedSizes d
has_bounded_sizes d keeps =
    let tables = ends_of 1 8 (length d.schema.tables) (and_parts _ _ (and_parts _ _ (keeps 1)).0).0 in
    let heap = ends_of 1 131072 d.sizes.heap_blocks (keeps 8) in
    let index = ends_of 3 16384 d.sizes.index_blocks (keeps 9) in
    let status = ends_of 1 64 d.sizes.status_blocks (keeps 10) in
    let log = ends_of 16 4096 d.sizes.log_pages (keeps 11) in
    let frames = ends_of 16 65536 d.sizes.frames (keeps 12) in
    record {
      some_table = tables.0;
      few_tables = tables.1;
      few_indexes = leb-true _ _ (and_parts _ _ (keeps 3)).0;
      some_heap_block = heap.0;
      few_heap_blocks = heap.1;
      some_index_blocks = index.0;
      few_index_blocks = index.1;
      some_status_block = status.0;
      few_status_blocks = status.1;
      some_log_pages = log.0;
      few_log_pages = log.1;
      some_frames = frames.0;
      few_frames = frames.1;
    }
