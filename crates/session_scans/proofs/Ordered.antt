-- what a scan found, in order of the ids
use Rattle.std.proofs.Common.{◌≡◌, ◌⊎◌, inl, inr, ℕ, zero, suc, ◌+◌, ◌<◌, ◌==◌, Bool, true, false, ◌&&◌, ◌||◌, List, [], ◌∷◌, length, map, get_or, IsSorted, refl, sym, ap, subst, ◌∙◌, arith}
use Rattle.std.specs.declared.cmp.Ordering.{Ordering}
use Rattle.std.specs.declared.cmp.Ordering.TheVariants.{Less, Equal, Greater}
use Rattle.std.specs.List.{AllByRecursion, Contains, IsDistinct}
use Rattle.std.specs.List.Sorted.{IsStrictlySortedBy}
use Rattle.std.specs.Ordering.{MatchOrdering, eq_by_cmp, is_eq, is_lt, nat_cmp, ordering_reverse, ordering_then}
use Rattle.std.proofs.lemmas.Bool.{and_parts, eqb-true, false≢true, true≢false}
use Rattle.std.proofs.lemmas.Cmp.{ranked}
use Rattle.std.proofs.lemmas.List.{get_or-map, length-map}
use Rattle.std.proofs.lemmas.Map.Keys.{apart_from_distinct, sorted_from_all_adjacent, sorted_head, sorted_tail}
use Rattle.block_model.specs.declared.place.Spot.{Spot}
use Rattle.block_model.specs.declared.row.Row.{Row}
use Rattle.block_model.specs.declared.row.RowId.{RowId}
use Rattle.block_model.specs.TableState.{id_cmp, ids_total}
use Rattle.coverage.specs.RowOrder.{AreInOrder, IsAmong, IsBefore}
use Rattle.bitmap_scan.specs.Finds.{is_found}
use Rattle.session_parts.specs.Hands.{ids_of}
use Rattle.session_scans.specs.FoundLists.{hits_of, rows_of}

-- the ids of rows
abbrev pub row_ids : List Row → List RowId
row_ids rows = map (λ (r : Row). r.id) rows

pub same_ids : (ordered : List (Row × Spot)) → ids_of (hits_of ordered) ≡ row_ids (rows_of ordered)
same_ids [] = refl
same_ids (f ∷ ordered) = ap (λ (l : List RowId). f.0.id ∷ l) (same_ids ordered)

-- ---- an order of ids

before_by : (a b : RowId) (r q : Ordering) → MatchOrdering r (a.t < b.t) (a.t ≡ b.t) (b.t < a.t) → MatchOrdering q (a.k < b.k) (a.k ≡ b.k) (b.k < a.k) → ordering_then r q ≡ Less → IsBefore a b
before_by a b Less q t k is = inl t
before_by a b Equal Less t k is = inr (t, k)
before_by a b Equal Equal t k is = absurd (cc)
before_by a b Equal Greater t k is = absurd (cc)
before_by a b Greater q t k is = absurd (cc)

comes_before : (a b : RowId) → id_cmp a b ≡ Less → IsBefore a b
comes_before a b is = before_by a b (nat_cmp a.t b.t) (nat_cmp a.k b.k) (ranked a.t b.t (nat_cmp a.t b.t) refl) (ranked a.k b.k (nat_cmp a.k b.k) refl) is

among_all : (P : RowId → Type 0) (ids : List RowId) → AllByRecursion P ids → (id : RowId) → IsAmong ids id → P id
among_all P [] all id among = absurd among
among_all P (x ∷ ids) all id (inl is) = subst P (sym is) all.0
among_all P (x ∷ ids) all id (inr more) = among_all P ids all.1 id more

in_order : (ids : List RowId) → IsStrictlySortedBy id_cmp ids → AreInOrder ids
in_order [] sorted = tt
in_order (x ∷ ids) sorted = (
  (λ id among. comes_before x id (among_all (λ (y : RowId). id_cmp x y ≡ Less) ids (sorted_head id_cmp x ids sorted) id among)),
  in_order ids (sorted_tail id_cmp x ids sorted),
)

-- ids that don't fall and differ rise
rising : (x y : RowId) → is_lt (id_cmp y x) ≡ false → eq_by_cmp id_cmp x y ≡ false → id_cmp x y ≡ Less
rising x y up apart =
    elim (id_cmp y x) as (λ r. id_cmp x y ≡ ordering_reverse r → is_lt r ≡ false → id_cmp x y ≡ Less) [
      | Less ↦ λ e h. absurd (true≢false h)
      | Equal ↦ λ e h. absurd (true≢false (sym (ap is_eq e) ∙ apart))
      | Greater ↦ λ e h. e
    ] (ids_total.antisymm x y) up

no_row : Row
no_row = record { table = 0; id = record { t = 0; k = 0 }; values = [] }

strictly : (rows : List Row) → IsDistinct (eq_by_cmp id_cmp) (row_ids rows) → IsSorted (λ (a b : Row). id_cmp a.id b.id) rows → IsStrictlySortedBy id_cmp (row_ids rows)
strictly rows distinct sorted = sorted_from_all_adjacent ids_total (row_ids rows) no_row.id (λ k below.
    let within : k + 1 < length rows = omega (arith, below, length-map rows (λ (r : Row). r.id)) in
    let first = get_or-map (λ (r : Row). r.id) rows k no_row no_row.id (omega (arith, within)) in
    let next = get_or-map (λ (r : Row). r.id) rows (k + 1) no_row no_row.id within in
    (λ i. id_cmp (first i) (next i))
    ∙ rising (get_or rows k no_row).id (get_or rows (k + 1) no_row).id (sorted k no_row (omega arith) within)
    (sym (λ i. eq_by_cmp id_cmp (first i) (next i)) ∙ apart_from_distinct (eq_by_cmp id_cmp) (row_ids rows) k (k + 1) no_row.id distinct (omega arith) below))

pub rows_in_order : (rows : List Row) → IsDistinct (eq_by_cmp id_cmp) (row_ids rows) → IsSorted (λ (a b : Row). id_cmp a.id b.id) rows → AreInOrder (row_ids rows)
rows_in_order rows distinct sorted = in_order (row_ids rows) (strictly rows distinct sorted)

-- ---- what is among them

-- an id among those of a list is that of one of it
pub one_among : (P : Row × Spot → Type 0) (found : List (Row × Spot)) → AllByRecursion P found → (id : RowId) → IsAmong (row_ids (rows_of found)) id → (f : Row × Spot) × P f × (f.0.id ≡ id)
one_among P [] all id among = absurd among
one_among P (f ∷ found) all id (inl is) = (f, all.0, sym is)
one_among P (f ∷ found) all id (inr more) = one_among P found all.1 id more

among_at : (found : List (Row × Spot)) (k : ℕ) (f : Row × Spot) → k < length found → get_or found k f ≡ f → IsAmong (row_ids (rows_of found)) f.0.id
among_at [] k f below is = absurd (omega arith)
among_at (x ∷ found) zero f below is = inl (ap (λ (y : Row × Spot). y.0.id) (sym is))
among_at (x ∷ found) (suc k) f below is = inr (among_at found k f (omega (arith, below)) is)

pub among_them : (found : List (Row × Spot)) (f : Row × Spot) → Contains found f → IsAmong (row_ids (rows_of found)) f.0.id
among_them found f has = among_at found has.0 f has.1 has.2

either_true : (a b : Bool) → (a || b) ≡ true → (a ≡ true) ⊎ (b ≡ true)
either_true true b is = inl refl
either_true false b is = inr is

-- where something is found at a place, it is one of the list
pub record IsOneAt (found : List (Row × Spot)) (b k : ℕ) : Type 0 where
  pub one : Row × Spot
  pub contained : Contains found one
  pub block : one.1.block ≡ b
  pub slot : one.1.slot ≡ k

further : (x : Row × Spot) (found : List (Row × Spot)) (b k : ℕ) → IsOneAt found b k → IsOneAt (x ∷ found) b k
further x found b k at = record { one = at.one; contained = (suc at.contained.0, omega (arith, at.contained.1), at.contained.2); block = at.block; slot = at.slot }

pub one_at : (found : List (Row × Spot)) (b k : ℕ) → is_found found b k ≡ true → IsOneAt found b k
one_at [] b k is = absurd (false≢true is)
one_at (x ∷ found) b k is = elim (either_true ((x.1.block == b) && (x.1.slot == k)) (is_found found b k) is) [
  | inl here ↦
      let both = and_parts (x.1.block == b) (x.1.slot == k) here in
      record { one = x; contained = (0, omega arith, refl); block = eqb-true x.1.block b both.0; slot = eqb-true x.1.slot k both.1 }
  | inr more ↦ further x found b k (one_at found b k more)
]
