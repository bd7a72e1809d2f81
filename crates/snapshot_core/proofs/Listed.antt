-- versions brought in order of their rows' ids
use Rattle.std.proofs.Common.{◌≡◌, Bool, true, false, cond, ◌&&◌, T, List, [], ◌∷◌, map, Option, None, Some, refl, sym, ap, ◌∙◌, subst, IsPermutation}
use Rattle.std.specs.declared.cmp.Ordering.TheVariants.{Less, Equal, Greater}
use Rattle.std.specs.List.{filter, IsDistinct, AllByRecursion}
use Rattle.std.specs.Ordering.{eq_by_cmp, is_lt}
use Rattle.std.specs.Cmp.{eq_by_cmp_equiv}
use Rattle.std.specs.FinMap.{entries, values, empty, from_entries, from_sorted, find, put, is_sorted, get-entries, get-from_sorted, entries-from_sorted, entries_sorted, entries-insert, len-entries, len-empty, same_map}
use Rattle.std.specs.FinMap.Entries.{below_all, by_order}
use Rattle.std.proofs.lemmas.List.{nil_from_length}
use Rattle.std.proofs.lemmas.List.Sorted.{IsPermutation-map, IsPermutation-sym, Contains-permutation}
use Rattle.std.proofs.lemmas.Map.Entries.{option_filter}
use Rattle.std.proofs.lemmas.Map.Views.{lookup-from_Contains, Contains-from_lookup}
use Rattle.block_model.specs.declared.row.RowId.{RowId}
use Rattle.block_model.specs.declared.row.Row.{Row}
use Rattle.block_model.specs.TableState.{id_cmp, ids_total, ids_exact}
use Rattle.snapshot_core.specs.declared.table.Version.{Version}
use Rattle.snapshot_core.specs.VisibleState.{table_of}
use Rattle.snapshot_core.specs.StoredVersions.{stored}
use Rattle.snapshot_core.proofs.Choices.{same_id, lesser_apart, both, first_of_both, second_of_both}
use Rattle.snapshot_core.proofs.Stored.{by_id, ids, AreDistinct, row_of, keys_by_id, find_row, stored-filter, distinct-filter, get-table_of}

abbrev pub rows_of : List Version → List Row
rows_of vs = map (λ (v : Version). v.row) vs

abbrev pub rows_by_id : List Version → List (RowId × Row)
rows_by_id vs = map (λ (v : Version). (v.row.id, v.row)) vs

-- the ids rise
abbrev pub AreInOrder : List Version → Type 0
AreInOrder vs = T (is_sorted id_cmp (rows_by_id vs))

values_by_id : (vs : List Version) → map (λ (e : RowId × Row). e.1) (rows_by_id vs) ≡ rows_of vs
values_by_id [] = refl
values_by_id (v ∷ vs) = ap (λ l. v.row ∷ l) (values_by_id vs)

rows-filter : (m : Row → Bool) (vs : List Version) → filter m (rows_of vs) ≡ rows_of (filter (λ v. m v.row) vs)
rows-filter m [] = refl
rows-filter m (v ∷ vs) =
    elim (m v.row) as (λ b. cond b (v.row ∷ filter m (rows_of vs)) (filter m (rows_of vs)) ≡ rows_of (cond b (v ∷ filter (λ v. m v.row) vs) (filter (λ v. m v.row) vs))) [
      | true ↦ ap (λ l. v.row ∷ l) (rows-filter m vs)
      | false ↦ rows-filter m vs
    ]

-- ---- a filter keeps the order, and versions in order are distinct

below-filter : (x : RowId) (m : Version → Bool) (vs : List Version) → T (below_all id_cmp x (rows_by_id vs)) → T (below_all id_cmp x (rows_by_id (filter m vs)))
below-filter x m [] h = tt
below-filter x m (v ∷ vs) h =
    let here : T (is_lt (id_cmp x v.row.id)) = first_of_both (is_lt (id_cmp x v.row.id)) (below_all id_cmp x (rows_by_id vs)) h in
    let rest = below-filter x m vs (second_of_both (is_lt (id_cmp x v.row.id)) (below_all id_cmp x (rows_by_id vs)) h) in
    elim (m v) as (λ b. T (below_all id_cmp x (rows_by_id (cond b (v ∷ filter m vs) (filter m vs))))) [
      | true ↦ both (is_lt (id_cmp x v.row.id)) (below_all id_cmp x (rows_by_id (filter m vs))) here rest
      | false ↦ rest
    ]

in_order-filter : (m : Version → Bool) (vs : List Version) → AreInOrder vs → AreInOrder (filter m vs)
in_order-filter m [] h = tt
in_order-filter m (v ∷ vs) h =
    let here = below-filter v.row.id m vs (first_of_both (below_all id_cmp v.row.id (rows_by_id vs)) (is_sorted id_cmp (rows_by_id vs)) h) in
    let rest = in_order-filter m vs (second_of_both (below_all id_cmp v.row.id (rows_by_id vs)) (is_sorted id_cmp (rows_by_id vs)) h) in
    elim (m v) as (λ b. T (is_sorted id_cmp (rows_by_id (cond b (v ∷ filter m vs) (filter m vs))))) [
      | true ↦ both (below_all id_cmp v.row.id (rows_by_id (filter m vs))) (is_sorted id_cmp (rows_by_id (filter m vs))) here rest
      | false ↦ rest
    ]

all_apart : (x : RowId) (vs : List Version) → T (below_all id_cmp x (rows_by_id vs)) → AllByRecursion (λ y. eq_by_cmp id_cmp x y ≡ false) (ids vs)
all_apart x [] h = tt
all_apart x (v ∷ vs) h =
    (lesser_apart (id_cmp x v.row.id) (first_of_both (is_lt (id_cmp x v.row.id)) (below_all id_cmp x (rows_by_id vs)) h), all_apart x vs (second_of_both (is_lt (id_cmp x v.row.id)) (below_all id_cmp x (rows_by_id vs)) h))

in_order_distinct : (vs : List Version) → AreInOrder vs → AreDistinct vs
unfolding IsDistinct
in_order_distinct [] h = tt
in_order_distinct (v ∷ vs) h = (
  all_apart v.row.id vs (first_of_both (below_all id_cmp v.row.id (rows_by_id vs)) (is_sorted id_cmp (rows_by_id vs)) h),
  in_order_distinct vs (second_of_both (below_all id_cmp v.row.id (rows_by_id vs)) (is_sorted id_cmp (rows_by_id vs)) h),
)

-- ---- the rows of a table are those of versions in order

row_list : (v : Version) (vs : List Version) → (ws : List Version) × (put id_cmp v.row.id v.row (rows_by_id vs) ≡ rows_by_id ws)
row_list v [] = (v ∷ [], refl)
row_list v (x ∷ xs) =
    elim (id_cmp v.row.id x.row.id) as (λ o. id_cmp v.row.id x.row.id ≡ o → (ws : List Version)
    × (by_order o ((v.row.id, v.row) ∷ rows_by_id (x ∷ xs)) ((x.row.id, v.row) ∷ rows_by_id xs) ((x.row.id, x.row) ∷ put id_cmp v.row.id v.row (rows_by_id xs)) ≡ rows_by_id ws)) [
      | Less ↦ λ e. (v ∷ x ∷ xs, refl)
      | Equal ↦ λ e. (v ∷ xs, ap (λ (i : RowId). (i, v.row) ∷ rows_by_id xs) (sym (ids_exact v.row.id x.row.id e)))
      | Greater ↦ λ e. let rest = row_list v xs in (x ∷ rest.0, ap (λ l. (x.row.id, x.row) ∷ l) rest.1)
    ] refl

table_list : (xs : List Version) → (ws : List Version) × (entries (from_entries {R = id_cmp} (rows_by_id xs)) ≡ rows_by_id ws)
table_list [] = ([], nil_from_length (entries (empty {X = Row} {R = id_cmp})) (sym (len-entries empty) ∙ len-empty id_cmp Row))
table_list (x ∷ xs) =
    let rest = table_list xs in
    let more = row_list x rest.0 in
    (more.0, entries-insert ids_total (from_entries (rows_by_id xs)) x.row.id x.row ∙ ap (put id_cmp x.row.id x.row) rest.1 ∙ more.1)

listed : (p : Version → Bool) (vs : List Version) → (ws : List Version) × (entries (table_of p vs) ≡ rows_by_id ws)
unfolding table_of
listed p vs = table_list (filter p vs)

listed_in_order : (p : Version → Bool) (vs : List Version) → AreInOrder (listed p vs).0
listed_in_order p vs = subst (λ es. T (is_sorted id_cmp es)) (listed p vs).1 (entries_sorted (table_of p vs))

-- versions in order that are found alike are of the same rows
same_rows : (vs ws : List Version) → AreInOrder vs → AreInOrder ws → ((q : RowId) → row_of (stored vs q) ≡ row_of (stored ws q)) → rows_of vs ≡ rows_of ws
same_rows vs ws s t h =
    let same : from_sorted {R = id_cmp} (rows_by_id vs) ≡ from_sorted (rows_by_id ws) = same_map ids_total ids_exact _ _ (λ q.
    get-from_sorted id_cmp (rows_by_id vs) q s ∙ find_row vs q ∙ h q ∙ sym (get-from_sorted id_cmp (rows_by_id ws) q t ∙ find_row ws q)) in
    sym (values_by_id vs)
    ∙ ap (λ (l : List (RowId × Row)). map (λ (e : RowId × Row). e.1) l) (sym (entries-from_sorted id_cmp (rows_by_id vs) s) ∙ ap entries same ∙ entries-from_sorted id_cmp (rows_by_id ws) t)
    ∙ values_by_id ws

-- ---- a permutation is found as the list is

found_in : (xs ys : List Version) (q : RowId) (v : Version) → IsPermutation xs ys → AreDistinct ys → stored xs q ≡ Some v → stored ys q ≡ Some v
found_in xs ys q v perm d e =
    lookup-from_Contains (eq_by_cmp_equiv ids_total) q v (by_id ys) (subst (IsDistinct (eq_by_cmp id_cmp)) (sym (keys_by_id ys)) d)
    (Contains-permutation (by_id xs) (by_id ys) (q, v) (IsPermutation-map (λ (v : Version). (v.row.id, v)) xs ys perm) (Contains-from_lookup same_id q v (by_id xs) e))

same_found : {X : Type 0} (a b : Option X) → ((x : X) → a ≡ Some x → b ≡ Some x) → ((x : X) → b ≡ Some x → a ≡ Some x) → a ≡ b
same_found None None f g = refl
same_found None (Some y) f g = g y refl
same_found (Some x) b f g = sym (f x refl)

stored-permutation : (xs ys : List Version) (q : RowId) → IsPermutation xs ys → AreDistinct xs → AreDistinct ys → stored ys q ≡ stored xs q
stored-permutation xs ys q perm d d' = same_found (stored ys q) (stored xs q) (λ v. found_in ys xs q v (IsPermutation-sym xs ys perm) d) (λ v. found_in xs ys q v perm d')

-- ---- what a query finds

row_passes : (m : Row → Bool) (o : Option Version) → row_of (option_filter (λ v. m v.row) o) ≡ option_filter m (row_of o)
row_passes m None = refl
row_passes m (Some v) = elim (m v.row) as (λ b. row_of (cond b (Some v) None) ≡ cond b (Some v.row) None) [ true ↦ refl | false ↦ refl ]

row_passes_both : (p : Version → Bool) (m : Row → Bool) (o : Option Version) → option_filter m (row_of (option_filter p o)) ≡ row_of (option_filter (λ v. p v && m v.row) o)
row_passes_both p m None = refl
row_passes_both p m (Some v) = elim (p v) as (λ b. option_filter m (row_of (cond b (Some v) None)) ≡ row_of (cond (b && m v.row) (Some v) None)) [ true ↦ sym (row_passes m (Some v)) | false ↦ refl ]

-- the rows of a table that meet a test
table_rows : (p : Version → Bool) (m : Row → Bool) (vs : List Version) → filter m (values (table_of p vs)) ≡ rows_of (filter (λ v. m v.row) (listed p vs).0)
table_rows p m vs =
    ap (λ (l : List (RowId × Row)). filter m (map (λ (e : RowId × Row). e.1) l)) (listed p vs).1 ∙ ap (filter m) (values_by_id (listed p vs).0) ∙ rows-filter m (listed p vs).0

-- the versions that pass both tests, in order, are of the rows of a table of the first that pass the second
pub found_rows : (p : Version → Bool) (m : Row → Bool) (vs out : List Version) → AreDistinct vs → IsPermutation (filter (λ v. p v && m v.row) vs) out → AreInOrder out → rows_of out ≡ filter m (values (table_of p vs))
found_rows p m vs out d perm ordered =
    let both_pass : Version → Bool = λ v. p v && m v.row in
    let ws = (listed p vs).0 in
    let ws_ordered = listed_in_order p vs in
    same_rows out (filter (λ v. m v.row) ws) ordered (in_order-filter (λ v. m v.row) ws ws_ordered) (λ q.
    ap row_of (stored-permutation (filter both_pass vs) out q perm (distinct-filter both_pass vs d) (in_order_distinct out ordered) ∙ stored-filter both_pass vs q d)
    ∙ sym (row_passes_both p m (stored vs q))
    ∙ ap (option_filter m) (sym (sym (find_row ws q) ∙ ap (find id_cmp q) (sym (listed p vs).1) ∙ sym (get-entries (table_of p vs) q) ∙ get-table_of p vs q d))
    ∙ sym (row_passes m (stored ws q))
    ∙ ap row_of (sym (stored-filter (λ v. m v.row) ws q (in_order_distinct ws ws_ordered))))
    ∙ sym (table_rows p m vs)
