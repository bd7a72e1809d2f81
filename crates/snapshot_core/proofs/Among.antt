-- a version among others
use Rattle.std.proofs.Common.{◌≡◌, Bool, true, false, cond, ℕ, List, [], ◌∷◌, ◌++◌, Option, None, Some, refl, sym, ap, ◌∙◌, subst}
use Rattle.std.specs.List.{AllByRecursion, IsDistinct}
use Rattle.std.specs.Cmp.{eq_by_cmp_equiv}
use Rattle.std.specs.Ordering.{eq_by_cmp}
use Rattle.std.proofs.lemmas.Bool.{true≢false}
use Rattle.std.proofs.lemmas.List.{map-append}
use Rattle.std.proofs.lemmas.List.Sorted.{IsPermutation-map, IsPermutation-sym, IsPermutation-middle}
use Rattle.std.proofs.lemmas.Map.Keys.{IsDistinct-IsPermutation, IsDistinct-cons, IsDistinct-head}
use Rattle.block_model.specs.declared.row.RowId.{RowId}
use Rattle.block_model.specs.TableState.{id_cmp, ids_total, id_ties_itself}
use Rattle.snapshot_core.specs.declared.table.Version.{Version}
use Rattle.snapshot_core.specs.StoredVersions.{stored}
use Rattle.snapshot_core.specs.Marks.{with_deleter}
use Rattle.snapshot_core.proofs.Choices.{same_id}
use Rattle.snapshot_core.proofs.Stored.{ids, AreDistinct, Puts}

-- ---- a version between others

none_parts : (b : Bool) (x : Version) (o : Option Version) → cond b (Some x) o ≡ None → (b ≡ false) × (o ≡ None)
none_parts true x o e = absurd (cc)
none_parts false x o e = (refl, e)

none_apart : (vs : List Version) (q : RowId) → stored vs q ≡ None → AllByRecursion (λ y. eq_by_cmp id_cmp q y ≡ false) (ids vs)
none_apart [] q e = tt
none_apart (x ∷ xs) q e = let parts = none_parts (eq_by_cmp id_cmp q x.row.id) x (stored xs q) e in (parts.0, none_apart xs q parts.1)

apart_none : (vs : List Version) (q : RowId) → AllByRecursion (λ y. eq_by_cmp id_cmp q y ≡ false) (ids vs) → stored vs q ≡ None
apart_none [] q h = refl
apart_none (x ∷ xs) q h = ap (λ b. cond b (Some x) (stored xs q)) h.0 ∙ apart_none xs q h.1

none_in_front : (xs ys : List Version) (q : RowId) → stored (xs ++ ys) q ≡ None → stored xs q ≡ None
none_in_front [] ys q e = refl
none_in_front (x ∷ xs) ys q e = let parts = none_parts (eq_by_cmp id_cmp q x.row.id) x (stored (xs ++ ys) q) e in ap (λ b. cond b (Some x) (stored xs q)) parts.0 ∙ none_in_front xs ys q parts.1

stored_mid : (xs ys : List Version) (v : Version) (q : RowId) → stored xs v.row.id ≡ None → stored (xs ++ v ∷ ys) q ≡ cond (eq_by_cmp id_cmp q v.row.id) (Some v) (stored (xs ++ ys) q)
stored_mid [] ys v q none = refl
stored_mid (x ∷ xs) ys v q none =
    let parts = none_parts (eq_by_cmp id_cmp v.row.id x.row.id) x (stored xs v.row.id) none in
    ap (cond (eq_by_cmp id_cmp q x.row.id) (Some x)) (stored_mid xs ys v q parts.1)
    ∙ swapped (eq_by_cmp id_cmp q x.row.id) (eq_by_cmp id_cmp q v.row.id) (λ a b. true≢false (sym (id_ties_itself v.row.id) ∙ ap (eq_by_cmp id_cmp v.row.id) (sym (same_id q v.row.id b) ∙ same_id q x.row.id a) ∙ parts.0))
  where
    swapped : (a b : Bool) → (a ≡ true → b ≡ true → ⊥) → cond a (Some x) (cond b (Some v) (stored (xs ++ ys) q)) ≡ cond b (Some v) (cond a (Some x) (stored (xs ++ ys) q))
    swapped true true h = absurd (h refl refl)
    swapped true false h = refl
    swapped false b h = refl

distinct_mid : (xs ys : List Version) (v : Version) → AreDistinct (xs ++ ys) → stored (xs ++ ys) v.row.id ≡ None → AreDistinct (xs ++ v ∷ ys)
distinct_mid xs ys v d none =
    IsDistinct-IsPermutation (eq_by_cmp id_cmp) (eq_by_cmp_equiv ids_total).symm (ids (v ∷ (xs ++ ys))) (ids (xs ++ v ∷ ys))
    (IsPermutation-map (λ (v : Version). v.row.id) (v ∷ (xs ++ ys)) (xs ++ v ∷ ys) (IsPermutation-sym _ _ (IsPermutation-middle xs v ys)))
    (IsDistinct-cons (eq_by_cmp id_cmp) v.row.id (ids (xs ++ ys)) (none_apart (xs ++ ys) v.row.id none) d)

mid_is_alone : (xs ys : List Version) (v : Version) → AreDistinct (xs ++ v ∷ ys) → stored (xs ++ ys) v.row.id ≡ None
mid_is_alone xs ys v d = apart_none (xs ++ ys) v.row.id (IsDistinct-head (eq_by_cmp id_cmp) v.row.id (ids (xs ++ ys))
    (IsDistinct-IsPermutation (eq_by_cmp id_cmp) (eq_by_cmp_equiv ids_total).symm (ids (xs ++ v ∷ ys)) (ids (v ∷ (xs ++ ys)))
    (IsPermutation-map (λ (v : Version). v.row.id) (xs ++ v ∷ ys) (v ∷ (xs ++ ys)) (IsPermutation-middle xs v ys)) d))

pub puts_new : (xs ys : List Version) (v : Version) → AreDistinct (xs ++ ys) → stored (xs ++ ys) v.row.id ≡ None → Puts (xs ++ ys) (xs ++ v ∷ ys) v
puts_new xs ys v d none = record { before = d; after = distinct_mid xs ys v d none; at = λ q. stored_mid xs ys v q (none_in_front xs ys v.row.id none) }

-- the version is found by its id
pub found_mid : (xs ys : List Version) (v : Version) → AreDistinct (xs ++ v ∷ ys) → stored (xs ++ v ∷ ys) v.row.id ≡ Some v
found_mid xs ys v d = stored_mid xs ys v v.row.id (none_in_front xs ys v.row.id (mid_is_alone xs ys v d)) ∙ ap (λ b. cond b (Some v) (stored (xs ++ ys) v.row.id)) (id_ties_itself v.row.id)

pub puts_deleter : (xs ys : List Version) (v : Version) (t : ℕ) → AreDistinct (xs ++ v ∷ ys) → Puts (xs ++ v ∷ ys) (xs ++ with_deleter v t ∷ ys) (with_deleter v t)
puts_deleter xs ys v t d = record {
  before = d;
  after = subst (IsDistinct (eq_by_cmp id_cmp)) (map-append (λ (v : Version). v.row.id) xs (v ∷ ys) ∙ sym (map-append (λ (v : Version). v.row.id) xs (with_deleter v t ∷ ys))) d;
  at = λ q.
      let none = none_in_front xs ys v.row.id (mid_is_alone xs ys v d) in
      stored_mid xs ys (with_deleter v t) q none
      ∙ over_it (eq_by_cmp id_cmp q v.row.id) (stored (xs ++ ys) q)
      ∙ ap (cond (eq_by_cmp id_cmp q v.row.id) (Some (with_deleter v t))) (sym (stored_mid xs ys v q none));
}
  where
    over_it : (b : Bool) (o : Option Version) → cond b (Some (with_deleter v t)) o ≡ cond b (Some (with_deleter v t)) (cond b (Some v) o)
    over_it true o = refl
    over_it false o = refl
