-- versions found by their ids, and the tables and sets of those that pass
use Rattle.std.proofs.Common.{◌≡◌, Bool, true, false, cond, ◌||◌, List, [], ◌∷◌, map, Option, None, Some, refl, sym, ap, ◌∙◌, ◌⊎◌, inl, inr, subst}
use Rattle.std.specs.List.{filter, list_any, IsDistinct}
use Rattle.std.specs.Cmp.{eq_by_cmp_equiv}
use Rattle.std.specs.Ordering.{eq_by_cmp}
use Rattle.std.specs.BTreeMap.{is_at}
use Rattle.std.specs.Option.{is_some, option_map}
use Rattle.std.specs.Map.{lookup, keys_of}
use Rattle.std.specs.FinMap.{get, insert, remove, find, get-from_entries, get-insert, get-remove, same_map}
use Rattle.std.specs.FinSet as set
use Rattle.std.proofs.lemmas.Map.Entries.{option_filter, lookup-filter-values}
use Rattle.std.proofs.lemmas.Map.Made.{IsDistinct-keys_filter}
use Rattle.block_model.specs.declared.row.RowId.{RowId}
use Rattle.block_model.specs.declared.row.Row.{Row}
use Rattle.block_model.specs.TableState.{id_cmp, ids_total, ids_exact}
use Rattle.snapshot_core.specs.declared.table.Version.{Version}
use Rattle.snapshot_core.specs.VisibleState.{table_of, ids_of}
use Rattle.snapshot_core.specs.StoredVersions.{stored}
use Rattle.snapshot_core.proofs.Choices.{chosen, same_id, same_filtered}

abbrev pub by_id : List Version → List (RowId × Version)
by_id versions = map (λ (v : Version). (v.row.id, v)) versions

abbrev pub ids : List Version → List RowId
ids versions = map (λ (v : Version). v.row.id) versions

-- no two are of rows with one id
abbrev pub AreDistinct : List Version → Type 0
AreDistinct versions = IsDistinct (eq_by_cmp id_cmp) (ids versions)

abbrev pub row_of : Option Version → Option Row
row_of o = option_map (λ (v : Version). v.row) o

pub keys_by_id : (vs : List Version) → keys_of (by_id vs) ≡ ids vs
keys_by_id [] = refl
keys_by_id (v ∷ vs) = ap (λ l. v.row.id ∷ l) (keys_by_id vs)

by_id-filter : (p : Version → Bool) (vs : List Version) → by_id (filter p vs) ≡ filter (λ (e : RowId × Version). p e.1) (by_id vs)
by_id-filter p [] = refl
by_id-filter p (v ∷ vs) =
    elim (p v) as (λ b. by_id (cond b (v ∷ filter p vs) (filter p vs)) ≡ cond b ((v.row.id, v) ∷ filter (λ (e : RowId × Version). p e.1) (by_id vs)) (filter (λ (e : RowId × Version). p e.1) (by_id vs))) [
      | true ↦ ap (λ l. (v.row.id, v) ∷ l) (by_id-filter p vs)
      | false ↦ by_id-filter p vs
    ]

-- a stored version is of the row with the id by which it is found
pub stored_id : (vs : List Version) (q : RowId) (v : Version) → stored vs q ≡ Some v → v.row.id ≡ q
stored_id [] q v e = absurd (cc)
stored_id (x ∷ xs) q v e =
    elim (chosen (eq_by_cmp id_cmp q x.row.id) x v (stored xs q) e) [
      | inl a ↦ sym (same_id q x.row.id a.0 ∙ ap (λ (y : Version). y.row.id) a.1)
      | inr b ↦ stored_id xs q v b.1
    ]

pub stored-filter : (p : Version → Bool) (vs : List Version) (q : RowId) → AreDistinct vs → stored (filter p vs) q ≡ option_filter p (stored vs q)
stored-filter p vs q d =
    ap (lookup (is_at (id_cmp q))) (by_id-filter p vs)
    ∙ lookup-filter-values (eq_by_cmp_equiv ids_total) p q (by_id vs) (subst (IsDistinct (eq_by_cmp id_cmp)) (sym (keys_by_id vs)) d)

pub distinct-filter : (p : Version → Bool) (vs : List Version) → AreDistinct vs → AreDistinct (filter p vs)
distinct-filter p vs d =
    subst (IsDistinct (eq_by_cmp id_cmp)) (ap keys_of (sym (by_id-filter p vs)) ∙ keys_by_id (filter p vs))
    (IsDistinct-keys_filter (eq_by_cmp id_cmp) (λ (e : RowId × Version). p e.1) (by_id vs) (subst (IsDistinct (eq_by_cmp id_cmp)) (sym (keys_by_id vs)) d))

mapped_cond : {X Y : Type 0} (f : X → Y) (b : Bool) (x : X) (o : Option X) → option_map f (cond b (Some x) o) ≡ cond b (Some (f x)) (option_map f o)
mapped_cond f true x o = refl
mapped_cond f false x o = refl

pub find_row : (vs : List Version) (q : RowId) → find id_cmp q (map (λ (v : Version). (v.row.id, v.row)) vs) ≡ row_of (stored vs q)
find_row [] q = refl
find_row (v ∷ vs) q =
    ap (cond (eq_by_cmp id_cmp q v.row.id) (Some v.row)) (find_row vs q) ∙ sym (mapped_cond (λ (v : Version). v.row) (eq_by_cmp id_cmp q v.row.id) v (stored vs q))

pub get-table_of : (p : Version → Bool) (vs : List Version) (q : RowId) → AreDistinct vs → get (table_of p vs) q ≡ row_of (option_filter p (stored vs q))
unfolding table_of
get-table_of p vs q d = get-from_entries ids_total (map (λ (v : Version). (v.row.id, v.row)) (filter p vs)) q ∙ find_row (filter p vs) q ∙ ap row_of (stored-filter p vs q d)

stored_among : (vs : List Version) (q : RowId) → list_any (eq_by_cmp id_cmp q) (ids vs) ≡ is_some (stored vs q)
stored_among [] q = refl
stored_among (v ∷ vs) q =
    elim (eq_by_cmp id_cmp q v.row.id) as (λ b. (b || list_any (eq_by_cmp id_cmp q) (ids vs)) ≡ is_some (cond b (Some v) (stored vs q))) [
      | true ↦ refl
      | false ↦ stored_among vs q
    ]

pub contains-ids_of : (p : Version → Bool) (vs : List Version) (q : RowId) → AreDistinct vs → set.contains (ids_of p vs) q ≡ is_some (option_filter p (stored vs q))
unfolding ids_of
contains-ids_of p vs q d = set.contains-from_list ids_total (ids (filter p vs)) q ∙ stored_among (filter p vs) q ∙ ap is_some (stored-filter p vs q d)

-- only what passes at the stored versions matters
pub same_table : (p p' : Version → Bool) (vs : List Version) → AreDistinct vs → ((q : RowId) (v : Version) → stored vs q ≡ Some v → p v ≡ p' v) → table_of p vs ≡ table_of p' vs
same_table p p' vs d h = same_map ids_total ids_exact _ _ (λ q. get-table_of p vs q d ∙ ap row_of (same_filtered p p' (stored vs q) (h q)) ∙ sym (get-table_of p' vs q d))

-- nothing is marked where nothing passes
pub no_ids : (p : Version → Bool) (vs : List Version) → AreDistinct vs → ((q : RowId) (v : Version) → stored vs q ≡ Some v → p v ≡ false) → ids_of p vs ≡ set.empty
no_ids p vs d h = set.same_set ids_total ids_exact _ _ (λ q. contains-ids_of p vs q d ∙ ap is_some (same_filtered p (λ v. false) (stored vs q) (h q)) ∙ never (stored vs q) ∙ sym (set.contains-empty id_cmp q))
  where
    never : (o : Option Version) → is_some (option_filter (λ v. false) o) ≡ false
    never None = refl
    never (Some v) = refl

-- ---- one version more, or another one in the place of one

-- the second list has this version at its id, and else what the first has
pub record Puts (vs ws : List Version) (v : Version) : Type 0 where
  pub before : AreDistinct vs
  pub after : AreDistinct ws
  pub at : (q : RowId) → stored ws q ≡ cond (eq_by_cmp id_cmp q v.row.id) (Some v) (stored vs q)

passed : (p : Version → Bool) (b c : Bool) (v : Version) (o : Option Version) → p v ≡ c → row_of (option_filter p (cond b (Some v) o)) ≡ cond b (cond c (Some v.row) None) (row_of (option_filter p o))
passed p true c v o e = ap (λ (c : Bool). row_of (cond c (Some v) None)) e ∙ mapped_cond (λ (v : Version). v.row) c v None
passed p false c v o e = refl

pub table-insert : (p : Version → Bool) (vs ws : List Version) (v : Version) → Puts vs ws v → p v ≡ true → table_of p ws ≡ insert (table_of p vs) v.row.id v.row
table-insert p vs ws v put e = same_map ids_total ids_exact _ _ (λ q.
    get-table_of p ws q put.after
    ∙ ap (λ (o : Option Version). row_of (option_filter p o)) (put.at q)
    ∙ passed p (eq_by_cmp id_cmp q v.row.id) true v (stored vs q) e
    ∙ ap (cond (eq_by_cmp id_cmp q v.row.id) (Some v.row)) (sym (get-table_of p vs q put.before))
    ∙ sym (get-insert ids_total (table_of p vs) v.row.id v.row q))

pub table-remove : (p : Version → Bool) (vs ws : List Version) (v : Version) → Puts vs ws v → p v ≡ false → table_of p ws ≡ remove (table_of p vs) v.row.id
table-remove p vs ws v put e = same_map ids_total ids_exact _ _ (λ q.
    get-table_of p ws q put.after
    ∙ ap (λ (o : Option Version). row_of (option_filter p o)) (put.at q)
    ∙ passed p (eq_by_cmp id_cmp q v.row.id) false v (stored vs q) e
    ∙ ap (cond (eq_by_cmp id_cmp q v.row.id) None) (sym (get-table_of p vs q put.before))
    ∙ sym (get-remove ids_total (table_of p vs) v.row.id q))

pub ids-insert : (p : Version → Bool) (vs ws : List Version) (v : Version) → Puts vs ws v → p v ≡ true → ids_of p ws ≡ set.insert (ids_of p vs) v.row.id
ids-insert p vs ws v put e = set.same_set ids_total ids_exact _ _ (λ q.
    contains-ids_of p ws q put.after
    ∙ ap (λ (o : Option Version). is_some (option_filter p o)) (put.at q)
    ∙ here (eq_by_cmp id_cmp q v.row.id) (stored vs q)
    ∙ ap (λ b. eq_by_cmp id_cmp q v.row.id || b) (sym (contains-ids_of p vs q put.before))
    ∙ sym (set.contains-insert ids_total (ids_of p vs) v.row.id q))
  where
    here : (b : Bool) (o : Option Version) → is_some (option_filter p (cond b (Some v) o)) ≡ (b || is_some (option_filter p o))
    here true o = ap (λ (c : Bool). is_some (cond c (Some v) None)) e
    here false o = refl

-- where the new version shows what stood there, nothing changes
shown_there : {X : Type 0} (f : Option Version → X) (vs ws : List Version) (v : Version) (q : RowId) → Puts vs ws v → f (Some v) ≡ f (stored vs v.row.id) → f (stored ws q) ≡ f (stored vs q)
shown_there f vs ws v q put same = ap f (put.at q) ∙ go (eq_by_cmp id_cmp q v.row.id) refl
  where
    go : (b : Bool) → eq_by_cmp id_cmp q v.row.id ≡ b → f (cond b (Some v) (stored vs q)) ≡ f (stored vs q)
    go true e = same ∙ ap (λ (i : RowId). f (stored vs i)) (sym (same_id q v.row.id e))
    go false e = refl

pub table-kept : (p : Version → Bool) (vs ws : List Version) (v : Version) → Puts vs ws v → row_of (option_filter p (Some v)) ≡ row_of (option_filter p (stored vs v.row.id)) → table_of p ws ≡ table_of p vs
table-kept p vs ws v put same = same_map ids_total ids_exact _ _ (λ q.
    get-table_of p ws q put.after ∙ shown_there (λ (o : Option Version). row_of (option_filter p o)) vs ws v q put same ∙ sym (get-table_of p vs q put.before))

pub ids-kept : (p : Version → Bool) (vs ws : List Version) (v : Version) → Puts vs ws v → is_some (option_filter p (Some v)) ≡ is_some (option_filter p (stored vs v.row.id)) → ids_of p ws ≡ ids_of p vs
ids-kept p vs ws v put same = set.same_set ids_total ids_exact _ _ (λ q.
    contains-ids_of p ws q put.after ∙ shown_there (λ (o : Option Version). is_some (option_filter p o)) vs ws v q put same ∙ sym (contains-ids_of p vs q put.before))

-- which version is found afterwards
pub stored_after : (vs ws : List Version) (v : Version) (q : RowId) (x : Version) → Puts vs ws v → stored ws q ≡ Some x → ((q ≡ v.row.id) × (v ≡ x)) ⊎ (stored vs q ≡ Some x)
stored_after vs ws v q x put h = elim (chosen (eq_by_cmp id_cmp q v.row.id) v x (stored vs q) (sym (put.at q) ∙ h)) [ inl a ↦ inl (same_id q v.row.id a.0, a.1) | inr b ↦ inr b.1 ]
