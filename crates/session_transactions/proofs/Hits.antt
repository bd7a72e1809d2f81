-- The rows that a delete found, by their hits.
use Rattle.std.proofs.Common.{◌≡◌, ◌<◌, ℕ, zero, suc, All, List, [], ◌∷◌, drop, map, Option, None, Some, refl, sym, ap, subst, ◌∙◌}
use Rattle.std.specs.List.{slice_get}
use Rattle.std.proofs.lemmas.List.{drop-map}
use Rattle.std.proofs.lemmas.Option.{get_or_from_slice_get, none-some, same_Some, slice_get_within}
use Rattle.block_model.specs.declared.row.Row.{Row}
use Rattle.block_model.specs.declared.row.RowId.{RowId}
use Rattle.session_parts.specs.declared.hand.Hit.{Hit}
use Rattle.session_parts.specs.Hands.{ids_of}

pub hits_from : (hits : List Hit) (k : ℕ) (hit : Hit) → slice_get hits k ≡ Some hit → drop k hits ≡ hit ∷ drop (suc k) hits
hits_from [] zero hit is = absurd (none-some hit is)
hits_from [] (suc k) hit is = absurd (none-some hit is)
hits_from (h ∷ hits) zero hit is = ap (λ (x : Hit). x ∷ hits) (same_Some h hit is)
hits_from (h ∷ hits) (suc k) hit is = hits_from hits k hit is

-- the first of some rows with these ids
pub record IsFirstOf (rows : List Row) (id : RowId) (rest : List RowId) : Type 0 where
  pub row : Row
  pub more : List Row
  pub is : rows ≡ row ∷ more
  pub its_id : row.id ≡ id
  pub others : map (λ (r : Row). r.id) more ≡ rest

some_id : RowId → List RowId → RowId
some_id id [] = id
some_id id (i ∷ ids) = i

rest_ids : List RowId → List RowId
rest_ids [] = []
rest_ids (i ∷ ids) = ids

is_some : List RowId → Option RowId
is_some [] = None
is_some (i ∷ ids) = Some i

pub first_of : (rows : List Row) (id : RowId) (rest : List RowId) → map (λ (r : Row). r.id) rows ≡ id ∷ rest → IsFirstOf rows id rest
unfolding some_id rest_ids is_some
first_of [] id rest is = absurd (none-some id (ap is_some is))
first_of (row ∷ rows) id rest is = record { row = row; more = rows; is = refl; its_id = ap (some_id id) is; others = ap rest_ids is }

-- the rows from the next hit on
pub rows_from : (rows : List Row) (hits : List Hit) (k : ℕ) (hit : Hit) → map (λ (r : Row). r.id) rows ≡ ids_of hits → slice_get hits k ≡ Some hit
    → IsFirstOf (drop k rows) hit.id (ids_of (drop (suc k) hits))
rows_from rows hits k hit is there = first_of (drop k rows) hit.id (ids_of (drop (suc k) hits))
    (sym (drop-map (λ (r : Row). r.id) k rows) ∙ ap (drop k) is ∙ drop-map (λ (h : Hit). h.id) k hits ∙ ap ids_of (hits_from hits k hit there))

-- each of them lies on such a block
pub hit_within : (limit : ℕ) (hits : List Hit) (k : ℕ) (hit : Hit) → All (λ (h : Hit). h.spot.block < limit) hits → slice_get hits k ≡ Some hit → hit.spot.block < limit
hit_within limit hits k hit within is = subst (λ (h : Hit). h.spot.block < limit) (get_or_from_slice_get hits k hit hit is) (within k hit (slice_get_within hits k hit is))
