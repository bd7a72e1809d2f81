-- the indexes of a table, by their places among them
use Rattle.std.proofs.Common.{◌≡◌, ℕ, zero, suc, ◌+◌, ◌<◌, ◌==◌, Bool, true, false, cond, List, [], ◌∷◌, length, map, Some, refl, ap, ◌∙◌, arith}
use Rattle.std.specs.Prelude.{slice_get, slice_index_or}
use Rattle.std.proofs.lemmas.Bool.{eqb-true}
use Rattle.std.proofs.lemmas.Option.{none-some, same_Some}
use Rattle.block_model.specs.declared.schema.Index.{Index}
use Rattle.store_layout.specs.DiskLayout.{DiskLayout}
use Rattle.index_steps.specs.IndexTuples.{index_at, no_index}
use Rattle.index_steps.specs.ShownTable.{indexes_of, numbers_from}
use Rattle.bitmap_scan.specs.ScanHands.{ScannedIndex, scanned_at, scanned_index, scanned_indexes}

-- the index of a number, and that it is the table's
pub record IsOfTable (layout : DiskLayout) (table n : ℕ) : Type 0 where
  pub declared : n < length layout.schema.indexes
  pub table_is : (index_at layout n).table ≡ table

record IsBehind (table n : ℕ) (l : List Index) (m : ℕ) : Type 0 where
  k : ℕ
  place : m ≡ n + k
  within : k < length l
  table_is : (slice_index_or l k no_index).table ≡ table

one_later : (table n : ℕ) (index : Index) (more : List Index) (m : ℕ) → IsBehind table (n + 1) more m → IsBehind table n (index ∷ more) m
one_later table n index more m found = record { k = suc found.k; place = omega (arith, found.place); within = omega (arith, found.within); table_is = found.table_is }

by_table : (table n : ℕ) (index : Index) (more : List Index) (m : ℕ) → ((j : ℕ) → slice_get (numbers_from table (n + 1) more) j ≡ Some m → IsBehind table (n + 1) more m) → (b : Bool) → (index.table == table) ≡ b → (at : ℕ)
    → slice_get (cond b (n ∷ numbers_from table (n + 1) more) (numbers_from table (n + 1) more)) at ≡ Some m → IsBehind table n (index ∷ more) m
by_table table n index more m later true test zero there = record { k = 0; place = omega (arith, same_Some n m there); within = omega arith; table_is = eqb-true index.table table test }
by_table table n index more m later true test (suc i) there = one_later table n index more m (later i there)
by_table table n index more m later false test i there = one_later table n index more m (later i there)

behind : (table n : ℕ) (l : List Index) (at m : ℕ) → slice_get (numbers_from table n l) at ≡ Some m → IsBehind table n l m
behind table n [] at m is = absurd (none-some m is)
behind table n (index ∷ more) at m is = by_table table n index more m (λ j there. behind table (n + 1) more j m there) (index.table == table) refl at is

pub of_table : (layout : DiskLayout) (table at n : ℕ) → slice_get (indexes_of layout table) at ≡ Some n → IsOfTable layout table n
unfolding indexes_of
of_table layout table at n is =
    let found = behind table 0 layout.schema.indexes at n is in
    let same : n ≡ found.k = omega (arith, found.place) in
    record {
      declared = omega (arith, same, found.within);
      table_is = ap (λ (m : ℕ). (index_at layout m).table) same ∙ found.table_is;
    }

-- an index at its place
pub record IsThere (layout : DiskLayout) (table : ℕ) (indexes : List ScannedIndex) (at : ℕ) : Type 0 where
  pub n : ℕ
  pub there : slice_get (indexes_of layout table) at ≡ Some n
  pub scanned : scanned_at indexes at ≡ scanned_index layout n
  pub of : IsOfTable layout table n

number_there : (layout : DiskLayout) (ns : List ℕ) (at : ℕ) → at < length (map (scanned_index layout) ns) → (n : ℕ) × (slice_get ns at ≡ Some n) × (scanned_at (map (scanned_index layout) ns) at ≡ scanned_index layout n)
number_there layout [] at below = absurd (omega (arith, below))
number_there layout (n ∷ ns) zero below = (n, refl, refl)
number_there layout (n ∷ ns) (suc at) below = number_there layout ns at (omega (arith, below))

pub is_there : (layout : DiskLayout) (table : ℕ) (indexes : List ScannedIndex) (at : ℕ) → indexes ≡ scanned_indexes layout table → at < length indexes → IsThere layout table indexes at
is_there layout table indexes at is below =
    let found = number_there layout (indexes_of layout table) at (omega (arith, below, ap length is)) in
    record {
      n = found.0;
      there = found.1;
      scanned = ap (λ (l : List ScannedIndex). scanned_at l at) is ∙ found.2;
      of = of_table layout table at found.0 found.1;
    }
