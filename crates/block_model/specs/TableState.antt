-- a state of the tables ("Transaction Isolation": what a transaction sees of them)
use Rattle.std.specs.Prelude.{◌≡◌, ℕ, true, List}
use Rattle.std.proofs.Common.{ap}
use Rattle.std.specs.declared.cmp.Ordering.{Ordering}
use Rattle.std.specs.Ordering.{nat_cmp, ordering_then, eq_by_cmp}
use Rattle.std.specs.Cmp.{IsTotalOrder}
use Rattle.std.specs.FinMap.{FinMap, IsAntisymmetric, values}
use Rattle.std.specs.FinSet.{FinSet}
use Rattle.std.proofs.lemmas.Cmp.{on_total, then_total, nat_cmp_total, eq_by_cmp_equiv}
use Rattle.std.proofs.lemmas.Map.Lookups.{exact_pairs, exact_unsigned}
use Rattle.block_model.specs.declared.row.RowId.{RowId}
use Rattle.block_model.specs.declared.row.Row.{Row}

-- by the transaction that put the row, and then by the row's place in it
abbrev pub id_cmp : RowId → RowId → Ordering
id_cmp a b = ordering_then (nat_cmp a.t b.t) (nat_cmp a.k b.k)

-- at each of some ids one row, in order of those ids; that a row stands at its own id is a law of runs, not of the type
abbrev pub TableState : Type 0
TableState = FinMap id_cmp Row

-- ids of rows, in their order
abbrev pub RowIds : Type 0
RowIds = FinSet id_cmp

-- the rows, in order
abbrev pub rows_in : TableState → List Row
rows_in table = values table

-- the order of ids is total
pub ids_total : IsTotalOrder id_cmp
ids_total = then_total (on_total (λ (s : RowId). s.t) nat_cmp_total) (on_total (λ (s : RowId). s.k) nat_cmp_total)

-- and only equal ids tie in it
pub ids_exact : IsAntisymmetric id_cmp
ids_exact a b h = ap (λ (p : ℕ × ℕ). record { t = p.0; k = p.1 }) (exact_pairs nat_cmp nat_cmp exact_unsigned exact_unsigned (a.t, a.k) (b.t, b.k) h)

pub id_ties_itself : (a : RowId) → eq_by_cmp id_cmp a a ≡ true
id_ties_itself a = (eq_by_cmp_equiv ids_total).refl a
