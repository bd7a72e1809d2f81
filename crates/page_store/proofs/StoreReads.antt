-- what the facts of a store tell of its pages
use Rattle.std.proofs.Common.{◌≡◌, inl, ⊎_elim, ℕ, ◌<◌, ◌≤◌, List, [], length, map, get_or, sym, ap, subst, ◌∙◌, arith}
use Rattle.std.specs.Prelude.{Option, None, Some, count_by}
use Rattle.std.proofs.lemmas.Bool.{cases_lt, eq-eqb}
use Rattle.std.proofs.lemmas.List.{get_or-map, get_or_past, length-map}
use Rattle.block_model.specs.declared.place.Place.{Place}
use Rattle.store_layout.specs.DiskLayout.{DiskLayout, IsPlace, relation_blocks}
use Rattle.disk_trait.specs.Told.{Told}
use Rattle.index_layout.specs.IndexReading.{map_pages_of}
use Rattle.page_layout.specs.PageContents.{IsForm}
use Rattle.page_layout.specs.PageWrites.{IsOfIndex}
use Rattle.page_layout.specs.SlotsOnPage.{lowest_on}
use Rattle.page_map.specs.declared.facts.PageFacts.{PageFacts}
use Rattle.page_map.specs.declared.page_room.Room.TheVariants as rooms
use Rattle.page_map.specs.FactLists.{IsFirstOf, IsFirstOfIndex, tells_started}
use Rattle.page_map.specs.FirstRoom.{IsFirstRoomOf}
use Rattle.page_map.specs.Forms.{IsPageIn, form_of}
use Rattle.page_map.specs.Keeps.{Tells}
use Rattle.page_map.specs.PageFacts.{facts_in}
use Rattle.page_map.specs.PageMap.{PageMap, block_at, block_limit, page_at, page_in, unstarted_page}
use Rattle.page_map.specs.PageRoom.{IsRoom, NamesSlot}
use Rattle.page_map.specs.Started.{AreFirst, started_count}
use Rattle.page_map.proofs.FactsKept.{OneList}
use Rattle.page_map.proofs.Maps.{blocks_in, relations_in}
use Rattle.page_map.proofs.PageKinds.{kind_unstarted, unstarted_is, zero_kind}
use Rattle.page_map.proofs.Rooms.{free_there, lowest_same}
use Rattle.recovery.specs.ShownLaws.{shown_whole}
use Rattle.page_store.specs.LoggedState.{LoggedState, store_of}
use Rattle.page_store.proofs.RelationSteps.{count_known, facts_long, first_known, maps_known, room_known}
use Rattle.page_store.specs.StoreFacts.{AreKnown, IsSlotOf, facts_at}

-- each page that is told passes its check
abbrev pub AreChecked : {D : Type 0} → (D → Told) → LoggedState D → Type 0
AreChecked told s = Tells told (store_of told s) → (place : Place) → IsPlace s.layout place → IsPageIn s.layout place.relation (page_at (store_of told s).pages place)

module _ {D : Type 0} (told : D → Told) (s : LoggedState D) (facts : List (List PageFacts)) (known : AreKnown told s facts) (checked : AreChecked told s) (relation : ℕ) (low : relation < length (relation_blocks s.layout)) (formed : IsForm (form_of s.layout relation)) where
  whole : map length (store_of told s).pages ≡ relation_blocks s.layout
  whole = shown_whole s.layout s.pool (told s.disk).contents

  pub state_limit : Tells told (store_of told s) → length (get_or facts relation []) ≡ block_limit s.layout relation
  state_limit tells = facts_long s.layout (store_of told s).pages whole facts known.whole (known.known tells) (checked tells) relation low formed

  pub state_count : Tells told (store_of told s) → count_by tells_started (get_or facts relation []) ≡ started_count (store_of told s).pages relation
  state_count tells = count_known s.layout (store_of told s).pages whole facts known.whole (known.known tells) (checked tells) relation low formed

  pub state_first : Tells told (store_of told s) → (n : ℕ) → AreFirst (block_limit s.layout relation) (block_at (store_of told s).pages relation) n → count_by tells_started (get_or facts relation []) ≡ n
  state_first tells = first_known s.layout (store_of told s).pages whole facts known.whole (known.known tells) (checked tells) relation low formed

  pub state_room : OneList → (need past : ℕ) (result : Option ℕ) → (IsOfIndex (form_of s.layout relation) → IsFirstOfIndex (get_or facts relation []) need past result) → ((IsOfIndex (form_of s.layout relation) → ⊥) → IsFirstOf (get_or facts relation []) result)
      → Tells told (store_of told s) → IsFirstRoomOf s.layout (store_of told s).pages relation need past result
  state_room one need past result index rows tells = room_known s.layout (store_of told s).pages whole facts known.whole (known.known tells) (checked tells) relation low formed one need past result index rows

  pub state_maps : Tells told (store_of told s) → (facts_in (get_or facts relation []) 0).maps ≡ map_pages_of (block_at (store_of told s).pages relation 0)
  state_maps tells = maps_known s.layout (store_of told s).pages whole facts known.whole (known.known tells) (checked tells) relation low formed

-- a list of facts for each relation
pub facts_counted : (layout : DiskLayout) (facts : List (List PageFacts)) → map length facts ≡ relation_blocks layout → length facts ≡ length (relation_blocks layout)
facts_counted layout facts counts = sym (length-map facts (length {A = PageFacts})) ∙ ap (length {A = ℕ}) counts

pub facts_limit : (layout : DiskLayout) (facts : List (List PageFacts)) → map length facts ≡ relation_blocks layout → (relation : ℕ) → relation < length (relation_blocks layout) → length (get_or facts relation []) ≡ block_limit layout relation
facts_limit layout facts counts relation low =
    sym (get_or-map (length {A = PageFacts}) facts relation [] 0 (omega (arith, facts_counted layout facts counts, low))) ∙ ap (λ (l : List ℕ). get_or l relation 0) counts

-- every place, also one that the layout doesn't have, has a page that passes its check
pub checked_all : {D : Type 0} (told : D → Told) (s : LoggedState D) → AreChecked told s → Tells told (store_of told s) → (place : Place) → IsPageIn s.layout place.relation (page_at (store_of told s).pages place)
checked_all told s checked tells place =
    let pages : PageMap = (store_of told s).pages in
    let long : length pages ≡ length (relation_blocks s.layout) = relations_in s.layout pages (shown_whole s.layout s.pool (told s.disk).contents) in
    ⊎_elim
    (λ (low : place.relation < length (relation_blocks s.layout)). ⊎_elim
    (λ (small : place.block < block_limit s.layout place.relation). checked tells place (record { relation = low; block = small }))
    (λ (past : block_limit s.layout place.relation ≤ place.block).
    inl (get_or_past (get_or pages place.relation []) place.block unstarted_page (omega (arith, past, blocks_in s.layout pages place.relation (shown_whole s.layout s.pool (told s.disk).contents) (omega (arith, low, long)))) ∙ unstarted_is))
    (cases_lt place.block (block_limit s.layout place.relation)))
    (λ (past : length (relation_blocks s.layout) ≤ place.relation). inl (ap (λ (l : List (List ℕ)). page_in l place.block) (get_or_past pages place.relation [] (omega (arith, past, long))) ∙ none_in place.block ∙ unstarted_is))
    (cases_lt place.relation (length (relation_blocks s.layout)))
  where
    none_in : (block : ℕ) → page_in [] block ≡ unstarted_page
    none_in block = get_or_past [] block unstarted_page (omega arith)

-- The room of one page

module _ {D : Type 0} (told : D → Told) (s : LoggedState D) (facts : List (List PageFacts)) (known : AreKnown told s facts) (checked : AreChecked told s) (one : OneList) (place : Place) (is : IsPlace s.layout place) (tells : Tells told (store_of told s)) where
  page : List ℕ
  page = page_at (store_of told s).pages place

  pub room_unstarted : (facts_at facts place).kind ≡ 0 → IsRoom (form_of s.layout place.relation) (page_at (store_of told s).pages place) rooms.NotStarted
  room_unstarted none =
      kind_unstarted (form_of s.layout place.relation) (page_at (store_of told s).pages place) (checked tells place is)
      (eq-eqb (get_or (page_at (store_of told s).pages place) 0 0) 0 (sym (ap (λ (f : PageFacts). f.kind) (known.known tells place is)) ∙ none))

  pub room_free : (slot : ℕ) → (facts_at facts place).lowest ≡ Some slot → IsRoom (form_of s.layout place.relation) (page_at (store_of told s).pages place) (rooms.Free slot)
  room_free slot found =
      let lowest : lowest_on (form_of s.layout place.relation) (page_at (store_of told s).pages place) ≡ Some slot = sym (ap (λ (f : PageFacts). f.lowest) (known.known tells place is)) ∙ found in (
        free_there one (form_of s.layout place.relation) (page_at (store_of told s).pages place) slot (checked tells place is) lowest,
        lowest_same one (form_of s.layout place.relation) (page_at (store_of told s).pages place) (Some slot) lowest,
      )

  pub room_full : ((facts_at facts place).kind ≡ 0 → ⊥) → (facts_at facts place).lowest ≡ None → IsRoom (form_of s.layout place.relation) (page_at (store_of told s).pages place) rooms.Full
  room_full started found =
      let lowest : lowest_on (form_of s.layout place.relation) (page_at (store_of told s).pages place) ≡ None = sym (ap (λ (f : PageFacts). f.lowest) (known.known tells place is)) ∙ found in (
        λ zeros. started (ap (λ (f : PageFacts). f.kind) (known.known tells place is) ∙ zero_kind (page_at (store_of told s).pages place) zeros),
        lowest_same one (form_of s.layout place.relation) (page_at (store_of told s).pages place) None lowest,
      )

-- a slot that is told
pub slot_named : (slot : ℕ) {D : Type 0} (told : D → Told) (s : LoggedState D) (facts : List (List PageFacts)) → AreKnown told s facts → (place : Place) → IsPlace s.layout place → (facts_at facts place).lowest ≡ Some slot → NamesSlot (form_of s.layout place.relation) (rooms.Free slot)
slot_named slot told s facts known place is found = subst (IsSlotOf (form_of s.layout place.relation)) found (known.slots place is)
