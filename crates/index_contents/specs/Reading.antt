-- what an index has where its pages say it
use Rattle.std.specs.Prelude.{◌≡◌, ℕ, ◌+◌, ◌%◌, ◌≤◌, ◌<◌, Bool, List, [], drop, slice_index, slice_index_or, Option, None, if◌then◌else◌}
use Rattle.std.proofs.Common.{refl, sym, ap, ◌∙◌, arith}
use Rattle.std.proofs.lemmas.Bool.{le-leb, lt-leb, ne_eqb}
use Rattle.std.proofs.lemmas.List.{get_or-replicate}
use Rattle.block_model.specs.declared.limits.TheConstants.{PAGE_SIZE}
use Rattle.block_model.specs.declared.place.Spot.{Spot}
use Rattle.store_layout.specs.DiskLayout.{DiskLayout}
use Rattle.recovery.specs.PageMap.{PageMap, block_at, unstarted_page}
use Rattle.index_layout.specs.declared.format.TheConstants.{UNSTARTED, META, MAP, MAP_ENTRIES}
use Rattle.index_layout.specs.IndexReading.{is_regular, map_pages_of, number_at, slots_in, slots_of}
use Rattle.coverage.specs.IndexView.{Mapping, map_page_of}
use Rattle.index_contents.specs.IndexContents.{contents, entry_on, index_page, map_kind, relation_of, tuple_on}
use Rattle.index_contents.specs.Kinds.{is_map_page}
use Rattle.index_contents.specs.PageLaws.{no_map}

-- a page that isn't started has no entries and no tuples
pub unstarted_kind : slice_index unstarted_page 0 ≡ UNSTARTED
unfolding unstarted_page
unstarted_kind = get_or-replicate {A = ℕ} PAGE_SIZE 0 0 0 (omega arith)

pub no_entry : (range : ℕ) → entry_on unstarted_page range ≡ None
no_entry range = ap (λ (l : List (Option Spot)). slice_index_or l (range % MAP_ENTRIES) None) (no_map unstarted_page UNSTARTED unstarted_kind refl refl).entries

pub no_tuple : (slot : ℕ) → tuple_on unstarted_page slot ≡ None
unfolding slots_of
no_tuple slot = ap (λ (k : ℕ). slice_index_or (if is_regular k then slots_in unstarted_page (number_at unstarted_page 2 2) (drop 32 unstarted_page) else []) slot None) unstarted_kind

-- the entry of a range that no counted page holds
pub uncounted : (layout : DiskLayout) (pages : PageMap) (index range relation counted : ℕ) → relation ≡ relation_of layout index → counted ≡ map_pages_of (block_at pages relation 0) → counted < map_page_of range → (contents layout pages index).entry range ≡ None
unfolding contents
uncounted layout pages index range relation counted at is below =
    let few : counted ≡ map_pages_of (index_page layout pages index 0) = is ∙ ap (λ (r : ℕ). map_pages_of (block_at pages r 0)) at in
    ap (λ (b : Bool). if b then entry_on (index_page layout pages index (map_page_of range)) range else None) (lt-leb (map_page_of range) (map_pages_of (index_page layout pages index 0)) (omega (arith, below, few)))

-- of one that a counted page holds
pub counted_entry : (layout : DiskLayout) (pages : PageMap) (index range relation counted : ℕ) (entry : Option Spot) → relation ≡ relation_of layout index → counted ≡ map_pages_of (block_at pages relation 0) → map_page_of range ≤ counted
    → entry_on (block_at pages relation (map_page_of range)) range ≡ entry → (contents layout pages index).entry range ≡ entry
unfolding contents
counted_entry layout pages index range relation counted entry at is above found =
    let many : counted ≡ map_pages_of (index_page layout pages index 0) = is ∙ ap (λ (r : ℕ). map_pages_of (block_at pages r 0)) at in
    ap (λ (b : Bool). if b then entry_on (index_page layout pages index (map_page_of range)) range else None) (le-leb (map_page_of range) (map_pages_of (index_page layout pages index 0)) (omega (arith, above, many)))
    ∙ ap (λ (r : ℕ). entry_on (block_at pages r (map_page_of range)) range) (sym at) ∙ found

-- the tuple at a spot
pub tuple_there : (layout : DiskLayout) (pages : PageMap) (index relation : ℕ) (spot : Spot) → relation ≡ relation_of layout index → tuple_on (block_at pages relation spot.block) spot.slot ≡ (contents layout pages index).bytes spot
unfolding contents
tuple_there layout pages index relation spot at = ap (λ (r : ℕ). tuple_on (block_at pages r spot.block) spot.slot) at

-- a page behind the metapage is of the map as its byte says
pub map_byte : (block : ℕ) → map_kind (block + 1) ≡ MAP
map_byte block = ap (λ (b : Bool). if b then META else MAP) (ne_eqb (block + 1) 0 (λ same. absurd (omega (arith, same))))

pub is_map : (layout : DiskLayout) (pages : PageMap) (index relation block : ℕ) → relation ≡ relation_of layout index → (contents layout pages index).pages.kind (block + 1) ≡ Mapping → slice_index (block_at pages relation (block + 1)) 0 ≡ MAP
unfolding contents
is_map layout pages index relation block at is =
    ap (λ (r : ℕ). slice_index (block_at pages r (block + 1)) 0) at
    ∙ is_map_page (block + 1) (slice_index (index_page layout pages index (block + 1)) 0) is ∙ map_byte block
