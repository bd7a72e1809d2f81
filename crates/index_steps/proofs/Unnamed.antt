-- a tuple that the map doesn't name
use Rattle.std.proofs.Common.{◌≡◌, ◌≢◌, ℕ, ◌<◌, ◌≤◌, List, length, Option, None, Some, refl, sym, ap, ◌∙◌, arith}
use Rattle.std.specs.Prelude.{◌^◌, nat_le, Bool, true, false, if◌then◌else◌}
use Rattle.std.proofs.lemmas.Option.{none-some}
use Rattle.block_model.specs.declared.place.Spot.{Spot}
use Rattle.store_layout.specs.DiskLayout.{DiskLayout, HasBoundedSizes, relation_blocks}
use Rattle.store_layout.specs.RelationCounts.{blocks_of_index, count_relations}
use Rattle.page_map.specs.PageMap.{IsWhole, PageMap, unstarted_page}
use Rattle.index_layout.specs.IndexReading.{map_pages_of}
use Rattle.coverage.specs.IndexView.{map_page_of}
use Rattle.index_contents.specs.Calls.{past_the_limit}
use Rattle.index_contents.specs.IndexContents.{contents, entry_on, index_page, relation_of}
use Rattle.index_contents.specs.Reading.{no_entry}
use Rattle.index_steps.specs.IndexTuples.{seen, shape_of}
use Rattle.index_steps.specs.FirstTuples.{IsOf}
use Rattle.index_steps.proofs.Growing.{no_range_there, range_there}

-- a range whose page of the map the index can't have has no entry
no_entry_past : (layout : DiskLayout) (pages : PageMap) (index range : ℕ) → IsWhole layout pages → index < length layout.schema.indexes → layout.sizes.index_blocks ≤ map_page_of range → (contents layout pages index).entry range ≡ None
unfolding contents
no_entry_past layout pages index range whole there past =
    let relation = relation_of layout index in
    let many = count_relations layout in
    let inside : relation < length (relation_blocks layout) = omega (arith, many, there) in
    let page : index_page layout pages index (map_page_of range) ≡ unstarted_page =
    past_the_limit layout pages relation (map_page_of range) whole inside (omega (arith, past, blocks_of_index layout relation (omega arith) (omega (arith, there)))) in
    let none : entry_on (index_page layout pages index (map_page_of range)) range ≡ None = ap (λ (p : List ℕ). entry_on p range) page ∙ no_entry range in
    ap (λ (e : Option Spot). if nat_le (map_page_of range) (map_pages_of (index_page layout pages index 0)) then e else None) none ∙ same (nat_le (map_page_of range) (map_pages_of (index_page layout pages index 0)))
  where
    same : (b : Bool) → ◌≡◌ {A = Option Spot} (if b then None else None) None
    same true = refl
    same false = refl

-- so it is where the bytes are fewer than the number of a range
pub unnamed_there : (layout : DiskLayout) (pages : PageMap) (index : ℕ) (bytes : List ℕ) (range : Option ℕ) (x : Spot) → IsWhole layout pages → HasBoundedSizes layout → index < length layout.schema.indexes → IsOf bytes range
    → ((m : ℕ) → range ≡ Some m → (contents layout pages index).entry m ≢ Some x) → (contents layout pages index).entry (seen (shape_of layout index) bytes).range ≢ Some x
unnamed_there layout pages index bytes None x whole sizes there few unnamed named =
    let at = no_range_there (shape_of layout index) bytes few in
    let none = no_entry_past layout pages index (2 ^ 32) whole there (omega (arith, sizes.few_index_blocks)) in
    absurd (none-some x (sym none ∙ ap (contents layout pages index).entry (sym at) ∙ named))
unnamed_there layout pages index bytes (Some m) x whole sizes there of unnamed named =
    unnamed m refl (ap (contents layout pages index).entry (sym (range_there (shape_of layout index) bytes m of)) ∙ named)
