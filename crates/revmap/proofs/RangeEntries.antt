-- An entry of the map, by its page.
use Rattle.std.proofs.Common.{◌≡◌, ◌≢◌, ℕ, zero, suc, ◌/◌, ◌%◌, ◌==◌, ◌<◌, ◌≤◌, Bool, inl, inr, List, [], drop, set, length, refl, sym, ap, subst, ◌∙◌, arith}
use Rattle.std.specs.Prelude.{slice_index, slice_index_or, Option, None, Some, if◌then◌else◌}
use Rattle.std.proofs.lemmas.Bool.{cases_eq, cases_lt, le-leb, ne_eqb}
use Rattle.std.proofs.lemmas.List.{get_or-set_same, get_or-set_other}
use Rattle.std.proofs.lemmas.Option.{none-some}
use Rattle.block_model.specs.declared.place.Place.{Place}
use Rattle.block_model.specs.declared.place.Spot.{Spot}
use Rattle.store_layout.specs.DiskLayout.{DiskLayout}
use Rattle.disk_trait.specs.Told.{Told}
use Rattle.page_layout.specs.declared.page.Form.{Form}
use Rattle.page_layout.specs.declared.page.Form.TheVariants as forms
use Rattle.page_layout.specs.PageContents.{IsPageOf}
use Rattle.page_layout.specs.PageWrites.{IsOfIndex}
use Rattle.wal_record.specs.Changes.{MapSet}
use Rattle.page_map.specs.Forms.{FitsIn, IsPageIn, form_of}
use Rattle.page_map.specs.Keeps.{Tells}
use Rattle.page_map.specs.PageMap.{PageMap, View, block_at, unstarted_page}
use Rattle.index_layout.specs.declared.format.TheConstants.{MAP, MAP_ENTRIES}
use Rattle.index_layout.specs.IndexPages.{IsMap}
use Rattle.index_layout.specs.IndexReading.{entries_in, entries_of, map_pages_of}
use Rattle.coverage.specs.IndexView.{Emptying, IsPastMap, Mapping, map_page_of}
use Rattle.index_contents.specs.IndexContents.{contents, entry_in, entry_on, index_page, kind_at, relation_of}
use Rattle.index_contents.specs.IndexChanges.{LeavesOtherPages, SetsEntry}
use Rattle.index_contents.specs.MapLaws.{is_of_map, sets_entry}
use Rattle.index_contents.specs.PageLaws.{StayBeside, blocks_stay}
use Rattle.index_contents.specs.Reading.{counted_entry, is_map, map_byte, no_entry, uncounted, unstarted_kind}
use Rattle.index_contents.specs.KeepsOrder.{KeepsOrder}
use Rattle.index_contents.specs.OrderedCalls.{keeps_by_entries}
use Rattle.revmap.specs.MapEntries.{HoldsRange}

-- the page that holds a range is of the map
pub holds_map : (layout : DiskLayout) (pages : PageMap) (index range relation block : ℕ) → relation ≡ relation_of layout index → block ≡ map_page_of range → HoldsRange (contents layout pages index).pages range → slice_index (block_at pages relation block) 0 ≡ MAP
holds_map layout pages index range relation block at on holds =
    ap (λ (b : ℕ). slice_index (block_at pages relation b) 0) on ∙ is_map layout pages index relation (range / 1020) at holds.1

-- so it is one of those that the index may have
pub no_map_there : (page : List ℕ) → page ≡ unstarted_page → slice_index page 0 ≡ MAP → ⊥
no_map_there page is map =
    let kind : 0 ≡ 4 = sym unstarted_kind ∙ sym (ap (λ (p : List ℕ). slice_index p 0) is) ∙ map in
    absurd (omega (arith, kind))

-- a page of the map has its entries
length_in : (n : ℕ) (bytes : List ℕ) → length (entries_in n bytes) ≡ n
unfolding entries_in
length_in zero bytes = refl
length_in (suc n) bytes = ap suc (length_in n (drop 8 bytes))

pub has_entries : (page : List ℕ) → slice_index page 0 ≡ MAP → length (entries_of page) ≡ MAP_ENTRIES
unfolding entries_of
has_entries page is = ap (λ (k : ℕ). length {A = Option Spot} (if k == MAP then entries_in MAP_ENTRIES (drop 32 page) else [])) is ∙ length_in MAP_ENTRIES (drop 32 page)

-- an entry of a range that is set on its page
at_range : {D : Type 0} (told : D → Told) (index range : ℕ) (spot : Option Spot) (old new : View D) → ((list : List (Option Spot)) (page : List ℕ) → IsMap list page → list ≡ entries_of page) → StayBeside (map_page_of range) (index_page old.layout old.pages index) (index_page old.layout new.pages index)
    → HoldsRange (contents old.layout old.pages index).pages range → IsMap (set (entries_of (index_page old.layout old.pages index (map_page_of range))) (range % MAP_ENTRIES) spot) (index_page old.layout new.pages index (map_page_of range))
    → SetsEntry (contents old.layout old.pages index) (contents old.layout new.pages index) range ((contents old.layout old.pages index).entry range) spot
unfolding contents
at_range told index range spot old new one stay holds is =
    let f : ℕ → List ℕ = index_page old.layout old.pages index in
    let g : ℕ → List ℕ = index_page old.layout new.pages index in
    let block : ℕ = map_page_of range in
    let entry : ℕ = range % MAP_ENTRIES in
    let before : List (Option Spot) = entries_of (f block) in
    let list : List (Option Spot) = set before entry spot in
    let map : slice_index (f block) 0 ≡ MAP = is_map old.layout old.pages index (relation_of old.layout index) (range / 1020) refl holds.1 in
    let read : (n : ℕ) → slice_index_or (entries_of (g block)) n None ≡ slice_index_or list n None = λ n. ap (λ (l : List (Option Spot)). slice_index_or l n None) (sym (one list (g block) is)) in
    let below : entry < length before = omega (arith, has_entries (f block) map) in
    sets_entry old.layout.sizes.index_blocks f g range (entry_in f range) spot stay (le-leb block (map_pages_of (f 0)) holds.0) map (is_of_map list (g block) is) refl
    (read entry ∙ get_or-set_same {A = Option Spot} before entry spot None below) (λ n apart. read n ∙ get_or-set_other {A = Option Spot} before entry n spot None apart)

pub sets_range : {D : Type 0} (told : D → Told) (index range relation block entry : ℕ) (spot : Option Spot) (old new : View D) → ((list : List (Option Spot)) (page : List ℕ) → IsMap list page → list ≡ entries_of page) → relation ≡ relation_of old.layout index → block ≡ map_page_of range → entry ≡ range % MAP_ENTRIES
    → Tells told old → LeavesOtherPages told (record { relation = relation; block = block }) old new → HoldsRange (contents old.layout old.pages index).pages range → IsMap (set (entries_of (block_at old.pages relation block)) entry spot) (block_at new.pages relation block)
    → SetsEntry (contents old.layout old.pages index) (contents old.layout new.pages index) range ((contents old.layout old.pages index).entry range) spot
sets_range told index range relation block entry spot old new one at on number tells leaves holds is =
    let f : ℕ → List ℕ = index_page old.layout old.pages index in
    let g : ℕ → List ℕ = index_page old.layout new.pages index in
    let stay : StayBeside (map_page_of range) f g = subst (λ (b : ℕ). StayBeside b f g) on (blocks_stay told old.layout index (record { relation = relation; block = block }) old new leaves tells) in
    let here : IsMap (set (entries_of (f block)) entry spot) (g block) = subst (λ (r : ℕ). IsMap (set (entries_of (block_at old.pages r block)) entry spot) (block_at new.pages r block)) at is in
    let there : IsMap (set (entries_of (f (map_page_of range))) entry spot) (g (map_page_of range)) = subst (λ (b : ℕ). IsMap (set (entries_of (f b)) entry spot) (g b)) on here in
    at_range told index range spot old new one stay holds (subst (λ (n : ℕ). IsMap (set (entries_of (f (map_page_of range))) n spot) (g (map_page_of range))) number there)

-- so the pages of the index stay in order
pub sets_order : {D : Type 0} (told : D → Told) (index range relation block entry : ℕ) (spot : Option Spot) (old new : View D) → relation ≡ relation_of old.layout index → block ≡ map_page_of range → LeavesOtherPages told (record { relation = relation; block = block }) old new
    → (Tells told old → HoldsRange (contents old.layout old.pages index).pages range) → (Tells told old → IsMap (set (entries_of (block_at old.pages relation block)) entry spot) (block_at new.pages relation block)) → KeepsOrder told index old new
sets_order told index range relation block entry spot old new at on leaves holds is =
    keeps_by_entries told index block old new (subst (λ (r : ℕ). LeavesOtherPages told (record { relation = r; block = block }) old new) at leaves) (omega (arith, on)) (λ tells. omega (arith, on, (holds tells).0))
    (λ tells. ap (λ (r : ℕ). slice_index (block_at new.pages r block) 0) (sym at) ∙ is_of_map (set (entries_of (block_at old.pages relation block)) entry spot) (block_at new.pages relation block) (is tells))

-- a page of the map takes an entry
pub takes_entry : (layout : DiskLayout) (place : Place) (page : List ℕ) (entry : ℕ) (spot : Spot) → form_of layout place.relation ≡ forms.Index → IsPageIn layout place.relation page → slice_index page 0 ≡ MAP → entry < MAP_ENTRIES → FitsIn layout place.relation page (MapSet place entry spot)
takes_entry layout place page entry spot form is map within =
    ((subst (λ (f : Form). IsOfIndex f) (sym form) tt, subst (λ (f : Form). IsPageOf f page) form is), map, within)

-- the entry of a range, which a counted page holds, as it was read there
pub entry_read : (layout : DiskLayout) (pages : PageMap) (index range relation block number counted : ℕ) (entry : Option Spot) → relation ≡ relation_of layout index → block ≡ map_page_of range → number ≡ range % MAP_ENTRIES
    → counted ≡ map_pages_of (block_at pages relation 0) → block ≤ counted → entry ≡ slice_index_or (entries_of (block_at pages relation block)) number None → (contents layout pages index).entry range ≡ entry
entry_read layout pages index range relation block number counted entry at on of is above read =
    let found : entry_on (block_at pages relation (map_page_of range)) range ≡ entry = ap (λ (b : ℕ). entry_on (block_at pages relation b) range) (sym on) ∙ ap (λ (n : ℕ). slice_index_or (entries_of (block_at pages relation block)) n None) (sym of) ∙ sym read in
    counted_entry layout pages index range relation counted entry at is (omega (arith, above, on)) found

-- one that a page behind the last one would hold
pub entry_past : (layout : DiskLayout) (pages : PageMap) (index range relation block counted : ℕ) → relation ≡ relation_of layout index → block ≡ map_page_of range → counted ≡ map_pages_of (block_at pages relation 0) → block ≤ counted → block_at pages relation block ≡ unstarted_page
    → (contents layout pages index).entry range ≡ None
entry_past layout pages index range relation block counted at on is above past =
    let found : entry_on (block_at pages relation (map_page_of range)) range ≡ None = ap (λ (b : ℕ). entry_on (block_at pages relation b) range) (sym on) ∙ ap (λ (p : List ℕ). entry_on p range) past ∙ no_entry range in
    counted_entry layout pages index range relation counted None at is (omega (arith, above, on)) found

-- no entry is past the map
pub past_is_none : (layout : DiskLayout) (pages : PageMap) (index range : ℕ) → IsPastMap (contents layout pages index).pages range → (contents layout pages index).entry range ≡ None
unfolding contents
past_is_none layout pages index range past = uncounted layout pages index range (relation_of layout index) (map_pages_of (index_page layout pages index 0)) refl refl past

-- a page of another kind has no entry
no_entries : (page : List ℕ) (range : ℕ) → slice_index page 0 ≢ MAP → entry_on page range ≡ None
unfolding entries_of
no_entries page range apart = ap (λ (b : Bool). slice_index_or {A = Option Spot} (if b then entries_in MAP_ENTRIES (drop 32 page) else []) (range % MAP_ENTRIES) None) (ne_eqb (slice_index page 0) MAP apart)

-- one that names a spot is held
pub named_is_held : (layout : DiskLayout) (pages : PageMap) (index range : ℕ) (spot : Spot) → (contents layout pages index).entry range ≡ Some spot → HoldsRange (contents layout pages index).pages range
unfolding contents
named_is_held layout pages index range spot named =
    let f : ℕ → List ℕ = index_page layout pages index in
    let block : ℕ = map_page_of range in
    elim (cases_lt (map_pages_of (f 0)) block) [
      | inl past ↦ absurd (none-some spot (sym (past_is_none layout pages index range past) ∙ named))
      | inr counted ↦ elim (cases_eq (slice_index (f block) 0) MAP) [
        | inl map ↦ (counted, ap (kind_at block) map ∙ ap (λ (k : ℕ). if MAP == k then Mapping else Emptying) (map_byte (range / 1020)))
        | inr apart ↦ absurd (none-some spot (sym (counted_entry layout pages index range (relation_of layout index) (map_pages_of (f 0)) None refl refl counted (no_entries (f block) range apart)) ∙ named))
      ]
    ]
