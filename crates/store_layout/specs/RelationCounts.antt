-- how many relations a store has, and how many blocks each
use Rattle.std.proofs.Common.{◌≡◌, ℕ, zero, suc, ◌+◌, ◌<◌, ◌≤◌, List, [], ◌∷◌, ◌++◌, length, map, get_or, refl, ap, length-append, arith}
use Rattle.std.proofs.lemmas.List.{length-map}
use Rattle.std.specs.Prelude.{slice_index}
use Rattle.block_model.specs.declared.schema.Table.{Table}
use Rattle.store_layout.specs.DiskLayout.{DiskLayout, relation_blocks}

-- the statuses, the tables and the indexes
pub count_relations : (d : DiskLayout) → length (relation_blocks d) ≡ 1 + (length d.schema.tables + length d.schema.indexes)
unfolding relation_blocks
count_relations d = simp (length-append, length-map) (omega arith)

-- the blocks of the statuses, of a table and of an index
pub blocks_of_statuses : (d : DiskLayout) (r : ℕ) → r ≡ 0 → slice_index (relation_blocks d) r ≡ d.sizes.status_blocks
unfolding relation_blocks
blocks_of_statuses d r is = ap (λ (k : ℕ). slice_index (relation_blocks d) k) is

-- at a place in two lists, one behind the other
pub of_both : {X Y Z : Type 0} (f : X → Z) (i : Z) (ts : List X) (is : List Y) (k : ℕ) (t : X) (d : Z) → k < length ts → get_or (map f ts ++ map (λ _. i) is) k d ≡ f (get_or ts k t)
of_both f i [] is k t d within = absurd (omega (arith, within))
of_both f i (x ∷ ts) is zero t d within = refl
of_both f i (x ∷ ts) is (suc k) t d within = of_both f i ts is k t d (omega (arith, within))

of_last : {Y Z : Type 0} (i : Z) (is : List Y) (k : ℕ) (d : Z) → k < length is → get_or (map (λ _. i) is) k d ≡ i
of_last i [] k d within = absurd (omega (arith, within))
of_last i (x ∷ is) zero d within = refl
of_last i (x ∷ is) (suc k) d within = of_last i is k d (omega (arith, within))

pub behind_both : {X Y Z : Type 0} (f : X → Z) (i : Z) (ts : List X) (is : List Y) (k : ℕ) (d : Z) → length ts ≤ k → k < length ts + length is → get_or (map f ts ++ map (λ _. i) is) k d ≡ i
behind_both f i [] is k d past within = of_last i is k d (omega (arith, within))
behind_both f i (t ∷ ts) is zero d past within = absurd (omega (arith, past))
behind_both f i (t ∷ ts) is (suc k) d past within = behind_both f i ts is k d (omega (arith, past)) (omega (arith, within))

pub blocks_of_table : (d : DiskLayout) (r : ℕ) → 0 < r → r ≤ length d.schema.tables → slice_index (relation_blocks d) r ≡ d.sizes.heap_blocks
unfolding relation_blocks
blocks_of_table d zero some within = absurd (omega (arith, some))
blocks_of_table d (suc r) some within = table_there d.schema.tables r (omega (arith, within))
  where
    table_there : (ts : List Table) (k : ℕ) → k < length ts → get_or (map (λ _. d.sizes.heap_blocks) ts ++ map (λ _. d.sizes.index_blocks) d.schema.indexes) k 0 ≡ d.sizes.heap_blocks
    table_there [] k low = absurd (omega (arith, low))
    table_there (t ∷ ts) zero low = refl
    table_there (t ∷ ts) (suc k) low = table_there ts k (omega (arith, low))

pub blocks_of_index : (d : DiskLayout) (r : ℕ) → length d.schema.tables < r → r < 1 + (length d.schema.tables + length d.schema.indexes) → slice_index (relation_blocks d) r ≡ d.sizes.index_blocks
unfolding relation_blocks
blocks_of_index d zero past within = absurd (omega (arith, past))
blocks_of_index d (suc r) past within = behind_both (λ _. d.sizes.heap_blocks) d.sizes.index_blocks d.schema.tables d.schema.indexes r 0 (omega (arith, past)) (omega (arith, within))
