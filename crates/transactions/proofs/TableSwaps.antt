-- What a put makes of the versions on pages.
use Rattle.std.proofs.Common.{◌≡◌, ◌≢◌, ℕ, ◌+◌, ◌<◌, List, [], length, set, sym, subst, arith}
use Rattle.std.specs.Prelude.{◌-◌}
use Rattle.std.proofs.lemmas.List.FromFn.{length-map-range_with_len}
use Rattle.block_model.specs.declared.place.Place.{Place}
use Rattle.store_layout.specs.DiskLayout.{DiskLayout}
use Rattle.page_map.specs.PageMap.{PageMap, page_at}
use Rattle.heap_rows.specs.Heaps.{relation_of}
use Rattle.snapshot_core.specs.declared.table.Version.{Version}
use Rattle.snapshot_core.specs.VisibleState.{all_versions}
use Rattle.transactions.specs.ShownVersions.{versions_of_table, shown_tables}
use Rattle.transactions.proofs.Swaps.{Swaps, set_at_place, swaps_in}
use Rattle.transactions.proofs.Tables.{same_versions, shown_at}

-- the pages of other relations are as before
abbrev pub OthersStay : PageMap → PageMap → ℕ → Type 0
OthersStay old new table = (place : Place) → place.relation ≢ relation_of table → page_at new place ≡ page_at old place

-- a change of one table is one of all
pub swaps_shown : (layout : DiskLayout) (old : PageMap) (table : ℕ) (p q now : List Version) → table < length layout.schema.tables
    → Swaps p q (versions_of_table layout old table) now → Swaps p q (all_versions (shown_tables layout old)) (all_versions (set (shown_tables layout old) table now))
swaps_shown layout old table p q now below s =
    let there : table < length (shown_tables layout old) = omega (arith, below, length-map-range_with_len (versions_of_table layout old) 0 (length layout.schema.tables)) in
    swaps_in (λ (versions : List Version). versions) p q (shown_tables layout old) table [] now there (subst (λ (vs : List Version). Swaps p q vs now) (sym (shown_at layout old table below)) s)

pub swaps_table : (layout : DiskLayout) (old new : PageMap) (table : ℕ) (p q : List Version) → table < length layout.schema.tables → OthersStay old new table
    → Swaps p q (versions_of_table layout old table) (versions_of_table layout new table) → Swaps p q (all_versions (shown_tables layout old)) (all_versions (shown_tables layout new))
swaps_table layout old new table p q below others s =
    let other_tables : (k : ℕ) → k ≢ table → versions_of_table layout new k ≡ versions_of_table layout old k =
    λ k ne. same_versions layout old new k (λ block. others (record { relation = relation_of k; block = block }) (λ e. ne (let same : k + 1 ≡ table + 1 = e in omega arith))) in
    let is = set_at_place (versions_of_table layout old) (versions_of_table layout new) (length layout.schema.tables) table [] below other_tables in
    subst (λ (ts : List (List Version)). Swaps p q (all_versions (shown_tables layout old)) (all_versions ts)) (sym is)
    (swaps_shown layout old table p q (versions_of_table layout new table) below s)
