-- Where the versions that are stored stand.
use Rattle.std.proofs.Common.{◌≡◌, ◌≢◌, Bool, true, false, cond, ℕ, suc, ◌<◌, List, [], ◌∷◌, ◌++◌, length, get_or, set, None, Some, ◌⊎◌, inl, inr, refl, sym, ap, subst, ◌∙◌, arith}
use Rattle.std.specs.List.{AllByRecursion, flat_map}
use Rattle.std.specs.Cmp.{eq_by_cmp_equiv}
use Rattle.std.specs.Ordering.{eq_by_cmp}
use Rattle.std.proofs.lemmas.Bool.{cases_eq, true≢false}
use Rattle.std.proofs.lemmas.List.{append-nil, get_or-set_same, length-set}
use Rattle.std.proofs.lemmas.List.Sorted.{IsPermutation-map, IsPermutation-middle}
use Rattle.std.proofs.lemmas.Map.Keys.{IsDistinct-IsPermutation, IsDistinct-head}
use Rattle.std.proofs.lemmas.List.FromFn.{length-map-range_with_len}
use Rattle.block_model.specs.declared.place.Spot.{Spot}
use Rattle.block_model.specs.declared.row.RowId.{RowId}
use Rattle.block_model.specs.TableState.{id_cmp, id_ties_itself, ids_total}
use Rattle.store_layout.specs.DiskLayout.{DiskLayout}
use Rattle.page_layout.specs.PageContents.{Slot}
use Rattle.page_layout.specs.PageWrites.{marked}
use Rattle.page_layout.specs.RowBytes.{StoredRow}
use Rattle.page_map.specs.PageMap.{PageMap}
use Rattle.heap_rows.specs.HeapBlocks.{HasBlocks, slots_of}
use Rattle.heap_rows.specs.RowPlaces.{slot_at, with_slot}
use Rattle.heap_rows.proofs.Spots.{mark_slot}
use Rattle.heap_rows.proofs.TableBlocks.{one_list}
use Rattle.snapshot_core.specs.declared.table.Version.{Version}
use Rattle.snapshot_core.specs.StoredVersions.{stored}
use Rattle.snapshot_core.specs.VisibleState.{all_versions}
use Rattle.snapshot_core.proofs.Stored.{AreDistinct, ids}
use Rattle.transactions.specs.ShownVersions.{shown_tables, version_of, versions_in, versions_of_table, versions_on}
use Rattle.transactions.proofs.Changes.{slot_there, swaps_mark}
use Rattle.transactions.proofs.TableSwaps.{swaps_shown}
use Rattle.transactions.proofs.Swaps.{Swaps, swaps_in}
use Rattle.transactions.proofs.Tables.{shown_at, table_by_blocks}
use Rattle.transactions.proofs.PageSlots.{are_read}
use Rattle.transactions.proofs.Shown.{versions_on_pages}

-- ---- a version of joined lists is one of a list

stored_append : (xs ys : List Version) (q : RowId) (v : Version) → stored (xs ++ ys) q ≡ Some v → (stored xs q ≡ Some v) ⊎ (stored ys q ≡ Some v)
stored_append [] ys q v there = inr there
stored_append (x ∷ xs) ys q v there = go (eq_by_cmp id_cmp q x.row.id) (λ e. stored_append xs ys q v e) there
  where
    go : (b : Bool) → (stored (xs ++ ys) q ≡ Some v → (stored xs q ≡ Some v) ⊎ (stored ys q ≡ Some v)) → cond b (Some x) (stored (xs ++ ys) q) ≡ Some v → (cond b (Some x) (stored xs q) ≡ Some v) ⊎ (stored ys q ≡ Some v)
    go true rest e = inl e
    go false rest e = rest e

stored_joined : {A : Type 0} (f : A → List Version) (l : List A) (d : A) (q : RowId) (v : Version) → stored (flat_map f l) q ≡ Some v → (n : ℕ) × (n < length l) × (stored (f (get_or l n d)) q ≡ Some v)
stored_joined f [] d q v there = absurd (cc)
stored_joined f (x ∷ xs) d q v there = elim (stored_append (f x) (flat_map f xs) q v there) [
  | inl here ↦ (0, omega arith, here)
  | inr later ↦ let rest = stored_joined f xs d q v later in (suc rest.0, (let low = rest.1 in omega arith), rest.2)
]

-- ---- its slot

-- a version stands in this slot of its table
pub record Stands (layout : DiskLayout) (pages : PageMap) (v : Version) : Type 0 where
  pub below : v.row.table < length layout.schema.tables
  pub blocks : List (List Slot)
  pub has : HasBlocks layout pages v.row.table blocks
  pub spot : Spot
  pub row : StoredRow
  pub there : slot_at blocks spot ≡ Some row
  pub is : v ≡ version_of v.row.table row

-- of the rows in a slot
its_row : (table : ℕ) (slot : Slot) (q : RowId) (v : Version) → stored (versions_in table slot) q ≡ Some v → (row : StoredRow) × (slot ≡ Some row) × (v ≡ version_of table row)
its_row table None q v there = absurd (cc)
its_row table (Some row) q v there = go (eq_by_cmp id_cmp q row.id) there
  where
    go : (b : Bool) → cond b (Some (version_of table row)) None ≡ Some v → (r : StoredRow) × (Some row ≡ Some r) × (v ≡ version_of table r)
    go true e = (row, refl, let same : version_of table row ≡ v = cc in sym same)
    go false e = absurd (cc)

in_blocks : (layout : DiskLayout) (pages : PageMap) (table : ℕ) (blocks : List (List Slot)) (q : RowId) (v : Version) → table < length layout.schema.tables → HasBlocks layout pages table blocks → stored (flat_map (versions_on table) blocks) q ≡ Some v → Stands layout pages v
in_blocks layout pages table blocks q v below has there =
    let block = stored_joined (versions_on table) blocks [] q v there in
    let slot = stored_joined (versions_in table) (slots_of blocks block.0) None q v block.2 in
    let row = its_row table (get_or (slots_of blocks block.0) slot.0 None) q v slot.2 in
    let own : table ≡ v.row.table = ap (λ (v : Version). v.row.table) (sym row.2) in
    subst (λ (k : ℕ). (k ≡ v.row.table) → Stands layout pages v) own
    (λ same. record {
      below = subst (λ (k : ℕ). k < length layout.schema.tables) own below;
      blocks = blocks;
      has = subst (λ (k : ℕ). HasBlocks layout pages k blocks) own has;
      spot = record { block = block.0; slot = slot.0 };
      row = row.0;
      there = row.1;
      is = row.2 ∙ ap (λ (k : ℕ). version_of k row.0) own;
    }) refl

-- each version that is stored stands somewhere
pub stored_stands : (layout : DiskLayout) (pages : PageMap) (q : RowId) (v : Version) → ((table : ℕ) → table < length layout.schema.tables → (blocks : List (List Slot)) × HasBlocks layout pages table blocks)
    → stored (versions_on_pages layout pages) q ≡ Some v → Stands layout pages v
stored_stands layout pages q v all there =
    let table = stored_joined (λ (versions : List Version). versions) (shown_tables layout pages) [] q v there in
    let below : table.0 < length layout.schema.tables = omega (arith, table.1, length-map-range_with_len (versions_of_table layout pages) 0 (length layout.schema.tables)) in
    let blocks = all table.0 below in
    in_blocks layout pages table.0 blocks.0 q v below blocks.1
    (ap (λ (vs : List Version). stored vs q) (sym (shown_at layout pages table.0 below ∙ table_by_blocks are_read layout pages table.0 blocks.0 blocks.1)) ∙ table.2)

-- ---- no two slots have rows of one id

-- the others are of other ids
alone : (xs ys : List Version) (v : Version) → AreDistinct (xs ++ v ∷ ys) → AllByRecursion (λ y. eq_by_cmp id_cmp v.row.id y ≡ false) (ids (xs ++ ys))
alone xs ys v d = IsDistinct-head (eq_by_cmp id_cmp) v.row.id (ids (xs ++ ys))
    (IsDistinct-IsPermutation (eq_by_cmp id_cmp) (eq_by_cmp_equiv ids_total).symm (ids (xs ++ v ∷ ys)) (ids (v ∷ (xs ++ ys)))
    (IsPermutation-map (λ (v : Version). v.row.id) (xs ++ v ∷ ys) (v ∷ (xs ++ ys)) (IsPermutation-middle xs v ys)) d)

of_middle : (P : RowId → Type 0) (xs ys : List Version) (w : Version) → AllByRecursion P (ids (xs ++ w ∷ ys)) → P w.row.id
of_middle P [] ys w all = all.0
of_middle P (x ∷ xs) ys w all = of_middle P xs ys w all.1

-- a slot that is cleared
clears : (table : ℕ) (blocks : List (List Slot)) (spot : Spot) (row : StoredRow) → slot_at blocks spot ≡ Some row
    → Swaps (version_of table row ∷ []) [] (flat_map (versions_on table) blocks) (flat_map (versions_on table) (with_slot blocks spot None))
clears table blocks spot row at =
    let there = slot_there blocks spot row at in
    let p : List Version = versions_in table (slot_at blocks spot) in
    subst (λ (slot : Slot). Swaps (versions_in table slot) [] (flat_map (versions_on table) blocks) (flat_map (versions_on table) (with_slot blocks spot None))) at
    (swaps_in (versions_on table) p [] blocks spot.block [] (set (slots_of blocks spot.block) spot.slot None) there.0
    (swaps_in (versions_in table) p [] (slots_of blocks spot.block) spot.slot None None there.1
    (record { front = []; back = []; was = sym (append-nil p); is = refl })))

-- two lists that have one version at other places
twice : (vs ws us : List Version) (v w x : Version) → AreDistinct vs → Swaps (v ∷ []) [] vs ws → Swaps (w ∷ []) (x ∷ []) ws us → v.row.id ≡ w.row.id → ⊥
twice vs ws us v w x d first second same =
    let others = alone first.front first.back v (subst AreDistinct first.was d) in
    let here = of_middle (λ y. eq_by_cmp id_cmp v.row.id y ≡ false) second.front second.back w
    (subst (λ (l : List Version). AllByRecursion (λ y. eq_by_cmp id_cmp v.row.id y ≡ false) (ids l)) (sym first.is ∙ second.was) others) in
    true≢false (sym (ap (eq_by_cmp id_cmp v.row.id) (sym same) ∙ id_ties_itself v.row.id) ∙ here)

not_apart : (layout : DiskLayout) (pages : PageMap) (table : ℕ) (blocks : List (List Slot)) (spot other : Spot) (row there : StoredRow) → AreDistinct (versions_on_pages layout pages) → table < length layout.schema.tables → HasBlocks layout pages table blocks
    → slot_at blocks spot ≡ Some row → slot_at blocks other ≡ Some there → there.id ≡ row.id → other ≢ spot → ⊥
not_apart layout pages table blocks spot other row there d below has at at_other same apart =
    let cleared = with_slot blocks spot None in
    let now = flat_map (versions_on table) cleared in
    let left = (mark_slot blocks spot row None at).others other apart ∙ at_other in
    let ts = shown_tables layout pages in
    let long = length-map-range_with_len (versions_of_table layout pages) 0 (length layout.schema.tables) in
    let first : Swaps (version_of table row ∷ []) [] (all_versions ts) (all_versions (set ts table now)) =
    swaps_shown layout pages table (version_of table row ∷ []) [] now below
    (subst (λ (vs : List Version). Swaps (version_of table row ∷ []) [] vs now) (sym (table_by_blocks are_read layout pages table blocks has)) (clears table blocks spot row at)) in
    let marks = swaps_mark table cleared other there 0 left in
    let p : List Version = version_of table there ∷ [] in
    let q : List Version = version_of table (marked there 0) ∷ [] in
    let then = flat_map (versions_on table) (with_slot cleared other (Some (marked there 0))) in
    let second : Swaps p q (all_versions (set ts table now)) (all_versions (set (set ts table now) table then)) =
    swaps_in (λ (versions : List Version). versions) p q (set ts table now) table [] then (omega (arith, below, long, length-set ts table now))
    (subst (λ (vs : List Version). Swaps p q vs then) (sym (get_or-set_same ts table now [] (omega (arith, below, long)))) marks) in
    twice (all_versions ts) (all_versions (set ts table now)) (all_versions (set (set ts table now) table then)) (version_of table row) (version_of table there) (version_of table (marked there 0)) d first second (sym same)

pub one_spot : (layout : DiskLayout) (pages : PageMap) (table : ℕ) (blocks : List (List Slot)) (spot other : Spot) (row there : StoredRow) → AreDistinct (versions_on_pages layout pages) → table < length layout.schema.tables → HasBlocks layout pages table blocks
    → slot_at blocks spot ≡ Some row → slot_at blocks other ≡ Some there → there.id ≡ row.id → other ≡ spot
one_spot layout pages table blocks spot other row there d below has at at_other same = elim (cases_eq other.block spot.block) [
  | inl block ↦ elim (cases_eq other.slot spot.slot) [
    | inl slot ↦ λ i. record { block = block i; slot = slot i }
    | inr apart ↦ absurd (not_apart layout pages table blocks spot other row there d below has at at_other same (λ e. apart (ap (λ (x : Spot). x.slot) e)))
  ]
  | inr apart ↦ absurd (not_apart layout pages table blocks spot other row there d below has at at_other same (λ e. apart (ap (λ (x : Spot). x.block) e)))
]

-- a table has one list of blocks
pub one_blocks : (layout : DiskLayout) (pages : PageMap) (table : ℕ) (a b : List (List Slot)) → HasBlocks layout pages table a → HasBlocks layout pages table b → a ≡ b
one_blocks layout pages table a b has_a has_b = one_list are_read.one layout pages table a b has_a has_b
