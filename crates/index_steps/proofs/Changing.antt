-- the page behind the map, and the metapage, as the changes of the log make them
use Rattle.std.proofs.Common.{◌≡◌, ◌≢◌, inl, inr, ℕ, suc, ◌+◌, ◌<◌, List, [], ◌∷◌, refl, sym, ap, subst, ◌∙◌, arith}
use Rattle.std.specs.Prelude.{slice_index, slice_index_or, length, replicate, Bool, true, None, Some, if◌then◌else◌}
use Rattle.std.proofs.lemmas.Bool.{cases_eq, ne_eqb}
use Rattle.std.proofs.lemmas.Option.{none-some}
use Rattle.block_model.specs.declared.place.Place.{Place}
use Rattle.block_model.specs.declared.place.Spot.{Spot}
use Rattle.store_layout.specs.DiskLayout.{DiskLayout}
use Rattle.disk_trait.specs.Told.{Told}
use Rattle.page_layout.specs.declared.page.Form.{Form}
use Rattle.page_layout.specs.declared.page.Form.TheVariants as forms
use Rattle.page_layout.specs.IndexLaws.{meta_front, regular_front}
use Rattle.page_layout.specs.PageContents.{IsPageOf}
use Rattle.page_layout.specs.PageWrites.{IsOfIndex}
use Rattle.page_map.specs.Redo.{IsIndexPageOf, Means}
use Rattle.page_map.specs.Changed.{Changed, redone_once}
use Rattle.page_map.specs.Forms.{FitsIn, IsPageIn, form_of}
use Rattle.page_map.specs.Keeps.{Leaves, Tells}
use Rattle.page_map.specs.PageMap.{PageMap, View, block_at, page_at}
use Rattle.wal_record.specs.Changes.{Evacuate, LoggedChange, MapPage, MetaSet, PageStart}
use Rattle.index_contents.specs.PageOrder.{IsIndexInOrder, kind_of}
use Rattle.index_layout.specs.declared.format.TheConstants.{UNSTARTED, META, MAP, EVACUATED, MAP_ENTRIES}
use Rattle.index_layout.specs.IndexPages.{IsLastUsed, IsMeta, IsRegular, Slot}
use Rattle.index_layout.specs.IndexReading.{is_regular, map_pages_of, number_at, slots_of}
use Rattle.coverage.specs.IndexView.{Emptying, Mapping}
use Rattle.index_contents.specs.IndexContents.{contents, index_page, relation_of, tuple_on}
use Rattle.index_contents.specs.IndexChanges.{LeavesOtherPages}
use Rattle.index_contents.specs.MapLaws.{is_of_map}
use Rattle.index_contents.specs.PageLaws.{StayBeside}
use Rattle.index_steps.specs.MapChanges.{CountsBlock, TurnsBlock}
use Rattle.index_steps.specs.NextPages.{IsEmptyMap, StandsNext}
use Rattle.index_steps.specs.declared.next.PageState.{PageState}
use Rattle.index_steps.specs.declared.next.PageState.TheVariants as states
use Rattle.index_steps.proofs.Counted.{counts_block, no_entry_behind}
use Rattle.index_steps.proofs.EmptyMaps.{HasOneMap, empty_is_map}
use Rattle.index_steps.proofs.Ordered.{count_read, counted_in_order, turned_in_order}
use Rattle.index_steps.proofs.Turned.{HasOneList, flags_block, starts_block, turned_block}

-- a metapage has one number
abbrev pub HasOneCount : Type 0
HasOneCount = (number : ℕ) (page : List ℕ) → IsMeta number page → number ≡ map_pages_of page

-- a page of an index's relation is one of the form
pub of_index : (form : Form) (page : List ℕ) → form ≡ forms.Index → IsPageOf form page → IsIndexPageOf form page
of_index form page index is = (subst IsOfIndex (sym index) tt, subst (λ (f : Form). IsPageOf f page) index is)

-- every page but the one that changed stays
pub stays_beside : (layout : DiskLayout) (index block relation : ℕ) (change : List LoggedChange) (old new : PageMap) → relation ≡ relation_of layout index → Changed layout (record { relation = relation; block = block }) change old new → StayBeside block (index_page layout old index) (index_page layout new index)
stays_beside layout index block relation change old new at changed other apart =
    changed.others (record { relation = relation_of layout index; block = other }) (λ same. apart (ap (λ (p : Place). p.block) same))

-- the changed page of the index
pub page_there : (layout : DiskLayout) (pages : PageMap) (index block relation : ℕ) → relation ≡ relation_of layout index → block_at pages relation block ≡ index_page layout pages index block
page_there layout pages index block relation at = ap (λ (r : ℕ). block_at pages r block) at

-- a page that counts pages is a metapage
counts_none : (page : List ℕ) → slice_index page 0 ≢ META → map_pages_of page ≡ 0
unfolding map_pages_of
counts_none page apart = ap (λ (b : Bool). if b then number_at page 32 4 else 0) (ne_eqb (slice_index page 0) META apart)

pub is_meta : (page : List ℕ) → 0 < map_pages_of page → slice_index page 0 ≡ META
is_meta page some = elim (cases_eq (slice_index page 0) META) [
  | inl is ↦ is
  | inr apart ↦ absurd (omega (arith, some, counts_none page apart))
]

module _ (layout : DiskLayout) (old new : PageMap) (index block relation : ℕ) (at : relation ≡ relation_of layout index) where
  abbrev place : Place
  place = record { relation = relation; block = block }

  abbrev f : ℕ → List ℕ
  f = index_page layout old index

  abbrev g : ℕ → List ℕ
  g = index_page layout new index

  abbrev limit : ℕ
  limit = layout.sizes.index_blocks

  made_once : (change : LoggedChange) → Changed layout place (change ∷ []) old new → Means (form_of layout relation) (block_at old relation block) change (block_at new relation block)
  made_once change changed = redone_once (form_of layout relation) (page_at old place) change (page_at new place) changed.redone

  beside : (change : LoggedChange) → Changed layout place (change ∷ []) old new → StayBeside block f g
  beside change changed = stays_beside layout index block relation (change ∷ []) old new at changed

  -- the page is an empty one of the map then
  empty_there : IsEmptyMap (block_at new relation block) → IsEmptyMap (g block)
  empty_there is = subst IsEmptyMap (page_there layout new index block relation at) is

  flagged_there : IsRegular EVACUATED (slots_of (block_at old relation block)) (block_at new relation block) → IsRegular EVACUATED (slots_of (f block)) (g block)
  flagged_there is = subst (λ (r : ℕ). IsRegular EVACUATED (slots_of (block_at old r block)) (block_at new r block)) at is

  module _ (map : IsEmptyMap (g block)) (stay : StayBeside block f g) where
    -- one that wasn't started
    pub starts : StandsNext layout old index block states.Unstarted → TurnsBlock (contents layout old index) (contents layout new index) block Mapping
    unfolding contents
    starts next = subst (λ (b : ℕ). TurnsBlock (contents layout old index) (contents layout new index) b Mapping) (sym next.next)
        (starts_block limit f g (map_pages_of (f 0)) (subst (λ (b : ℕ). StayBeside b f g) next.next stay) refl
        (subst (λ (b : ℕ). slice_index (f b) 0 ≡ UNSTARTED) next.next next.is) (subst (λ (b : ℕ). IsEmptyMap (g b)) next.next map))

    -- or had no tuples any more
    pub empties : StandsNext layout old index block states.Emptying → ((x : Spot) → x.block ≡ block → (contents layout old index).bytes x ≡ None) → TurnsBlock (contents layout old index) (contents layout new index) block Mapping
    unfolding contents
    empties next none = subst (λ (b : ℕ). TurnsBlock (contents layout old index) (contents layout new index) b Mapping) (sym next.next)
        (turned_block limit f g (map_pages_of (f 0)) (subst (λ (b : ℕ). StayBeside b f g) next.next stay) refl
        (λ slot. none (record { block = map_pages_of (f 0) + 1; slot = slot }) (sym next.next)) (subst (λ (b : ℕ). IsEmptyMap (g b)) next.next map))

    pub map_in_order : (state : PageState) → StandsNext layout old index block state → IsIndexInOrder limit f → IsIndexInOrder limit g
    unfolding contents
    map_in_order state next order =
        let n : ℕ = map_pages_of (f 0) in
        let here : IsEmptyMap (g (n + 1)) = subst (λ (b : ℕ). IsEmptyMap (g b)) next.next map in
        let four : kind_of (g (n + 1)) ≡ 4 = is_of_map (replicate MAP_ENTRIES None) (g (n + 1)) here in
        turned_in_order limit f g n order (count_read (f 0) order.metapage) (subst (λ (b : ℕ). StayBeside b f g) next.next stay) (λ none. let e : 4 ≡ 0 = sym four ∙ none in absurd (omega (arith, e))) (inr (empty_is_map (g (n + 1)) here))

  module _ (flag : IsRegular EVACUATED (slots_of (f block)) (g block)) (stay : StayBeside block f g) (next : StandsNext layout old index block states.Regular) where
    flag_next : IsRegular EVACUATED (slots_of (f (map_pages_of (f 0) + 1))) (g (map_pages_of (f 0) + 1))
    unfolding contents
    flag_next = subst (λ (b : ℕ). IsRegular EVACUATED (slots_of (f b)) (g b)) next.next flag

    stay_next : StayBeside (map_pages_of (f 0) + 1) f g
    unfolding contents
    stay_next = subst (λ (b : ℕ). StayBeside b f g) next.next stay

    pub flags : HasOneList → TurnsBlock (contents layout old index) (contents layout new index) block Emptying
    unfolding contents
    flags one = subst (λ (b : ℕ). TurnsBlock (contents layout old index) (contents layout new index) b Emptying) (sym next.next)
        (flags_block limit f g (map_pages_of (f 0)) one stay_next refl flag_next)

    pub flag_in_order : IsIndexInOrder limit f → IsIndexInOrder limit g
    flag_in_order order =
        let n : ℕ = map_pages_of (f 0) in
        let six : kind_of (g (n + 1)) ≡ 6 = regular_front EVACUATED (slots_of (f (n + 1))) (g (n + 1)) flag_next in
        turned_in_order limit f g n order (count_read (f 0) order.metapage) stay_next (λ none. let e : 6 ≡ 0 = sym six ∙ none in absurd (omega (arith, e))) (inl (inr (inl six)))

  -- what the changes of the log make
  pub started_block : Changed layout place (PageStart place MAP ∷ []) old new → StandsNext layout old index block states.Unstarted → TurnsBlock (contents layout old index) (contents layout new index) block Mapping
  started_block changed next = starts (empty_there (made_once (PageStart place MAP) changed)) (beside (PageStart place MAP) changed) next

  pub started_order : Changed layout place (PageStart place MAP ∷ []) old new → StandsNext layout old index block states.Unstarted → IsIndexInOrder limit f → IsIndexInOrder limit g
  started_order changed next = map_in_order (empty_there (made_once (PageStart place MAP) changed)) (beside (PageStart place MAP) changed) states.Unstarted next

  pub emptied_block : Changed layout place (MapPage place ∷ []) old new → StandsNext layout old index block states.Emptying → ((x : Spot) → x.block ≡ block → (contents layout old index).bytes x ≡ None)
      → TurnsBlock (contents layout old index) (contents layout new index) block Mapping
  emptied_block changed next none = empties (empty_there (made_once (MapPage place) changed)) (beside (MapPage place) changed) next none

  pub emptied_order : Changed layout place (MapPage place ∷ []) old new → StandsNext layout old index block states.Emptying → IsIndexInOrder limit f → IsIndexInOrder limit g
  emptied_order changed next = map_in_order (empty_there (made_once (MapPage place) changed)) (beside (MapPage place) changed) states.Emptying next

  pub flagged_block : HasOneList → Changed layout place (Evacuate place ∷ []) old new → StandsNext layout old index block states.Regular → TurnsBlock (contents layout old index) (contents layout new index) block Emptying
  flagged_block one changed next = flags (flagged_there (made_once (Evacuate place) changed)) (beside (Evacuate place) changed) next one

  pub flagged_order : Changed layout place (Evacuate place ∷ []) old new → StandsNext layout old index block states.Regular → IsIndexInOrder limit f → IsIndexInOrder limit g
  flagged_order changed next = flag_in_order (flagged_there (made_once (Evacuate place) changed)) (beside (Evacuate place) changed) next

module _ (layout : DiskLayout) (old new : PageMap) (index block : ℕ) (next : StandsNext layout old index block states.LeftOver) (meta : IsMeta block (index_page layout new index 0)) (counts : block ≡ map_pages_of (index_page layout new index 0)) (stay : StayBeside 0 (index_page layout old index) (index_page layout new index)) where
  was_meta : slice_index (index_page layout old index 0) 0 ≡ META
  unfolding contents
  was_meta = is_meta (index_page layout old index 0) next.counted

  now_meta : slice_index (index_page layout new index 0) 0 ≡ META
  now_meta = meta_front block (index_page layout new index 0) meta

  -- the metapage counts the page
  pub counted : HasOneMap → CountsBlock (contents layout old index) (contents layout new index)
  unfolding contents
  counted one = counts_block layout.sizes.index_blocks (index_page layout old index) (index_page layout new index) stay was_meta now_meta (sym counts ∙ next.next) (no_entry_behind one (index_page layout old index) block next.next next.is)

  pub count_in_order : IsIndexInOrder layout.sizes.index_blocks (index_page layout old index) → IsIndexInOrder layout.sizes.index_blocks (index_page layout new index)
  unfolding contents
  count_in_order order =
      let f : ℕ → List ℕ = index_page layout old index in
      let g : ℕ → List ℕ = index_page layout new index in
      let n : ℕ = map_pages_of (f 0) in
      let four : kind_of (f (n + 1)) ≡ 4 = is_of_map (replicate MAP_ENTRIES None) (f (n + 1)) (subst (λ (b : ℕ). IsEmptyMap (f b)) next.next next.is) in
      counted_in_order layout.sizes.index_blocks f g n order (count_read (f 0) order.metapage) (subst (λ (b : ℕ). b < layout.sizes.index_blocks) next.next next.below) four stay now_meta (sym (count_read (g 0) now_meta) ∙ sym counts ∙ next.next)

-- the change of the metapage
module _ (layout : DiskLayout) (old new : PageMap) (index block relation : ℕ) (at : relation ≡ relation_of layout index)
    (changed : Changed layout (record { relation = relation; block = 0 }) (MetaSet (record { relation = relation; block = 0 }) block ∷ []) old new) (next : StandsNext layout old index block states.LeftOver) where
  meta_there : IsMeta block (index_page layout new index 0)
  meta_there = subst (λ (p : List ℕ). IsMeta block p) (page_there layout new index 0 relation at)
      (redone_once (form_of layout relation) (page_at old (record { relation = relation; block = 0 })) (MetaSet (record { relation = relation; block = 0 }) block) (page_at new (record { relation = relation; block = 0 })) changed.redone)

  meta_beside : StayBeside 0 (index_page layout old index) (index_page layout new index)
  meta_beside = stays_beside layout index 0 relation (MetaSet (record { relation = relation; block = 0 }) block ∷ []) old new at changed

  pub counted_block : HasOneMap → HasOneCount → CountsBlock (contents layout old index) (contents layout new index)
  counted_block one count = counted layout old new index block next meta_there (count block (index_page layout new index 0) meta_there) meta_beside one

  pub counted_order : HasOneCount → IsIndexInOrder layout.sizes.index_blocks (index_page layout old index) → IsIndexInOrder layout.sizes.index_blocks (index_page layout new index)
  counted_order count = count_in_order layout old new index block next meta_there (count block (index_page layout new index 0) meta_there) meta_beside

-- the pages take the changes
module _ (layout : DiskLayout) (pages : PageMap) (index block relation : ℕ) (at : relation ≡ relation_of layout index) (form : form_of layout relation ≡ forms.Index) where
  pub flag_fits : IsPageIn layout relation (block_at pages relation block) → StandsNext layout pages index block states.Regular → FitsIn layout relation (block_at pages relation block) (Evacuate (record { relation = relation; block = block }))
  flag_fits is next = (of_index (form_of layout relation) (block_at pages relation block) form is, ap (λ (p : List ℕ). slice_index p 0) (page_there layout pages index block relation at) ∙ next.is)

  pub turn_fits : IsPageIn layout relation (block_at pages relation block) → StandsNext layout pages index block states.Emptying → slots_of (block_at pages relation block) ≡ []
      → FitsIn layout relation (block_at pages relation block) (MapPage (record { relation = relation; block = block }))
  turn_fits is next none = (
    of_index (form_of layout relation) (block_at pages relation block) form is,
    ap (λ (p : List ℕ). slice_index p 0) (page_there layout pages index block relation at) ∙ next.is,
    ap (length {A = Slot}) none,
  )

  pub count_fits : IsPageIn layout relation (block_at pages relation 0) → StandsNext layout pages index block states.LeftOver → FitsIn layout relation (block_at pages relation 0) (MetaSet (record { relation = relation; block = 0 }) block)
  unfolding contents
  count_fits is next = (
    of_index (form_of layout relation) (block_at pages relation 0) form is,
    ap (λ (p : List ℕ). slice_index p 0) (page_there layout pages index 0 relation at) ∙ is_meta (index_page layout pages index 0) next.counted,
  )

-- slots of which none has a tuple, and the last one isn't free
none_left : (list : List Slot) → IsLastUsed list → ((n : ℕ) → slice_index_or list n None ≡ None) → list ≡ []
none_left [] last none = refl
none_left (None ∷ []) last none = absurd last
none_left (Some tuple ∷ []) last none = absurd (none-some tuple (sym (none 0)))
none_left (Some tuple ∷ next ∷ rest) last none = absurd (none-some tuple (sym (none 0)))
none_left (None ∷ next ∷ rest) last none =
    let gone : next ∷ rest ≡ [] = none_left (next ∷ rest) last (λ n. none (suc n)) in
    let few : length (next ∷ rest) ≡ 0 = ap (length {A = Slot}) gone in
    absurd (omega (arith, few))

-- a page that is emptied and has no tuple has no slots
pub no_slots_left : (layout : DiskLayout) (pages : PageMap) (index block relation : ℕ) → relation ≡ relation_of layout index → StandsNext layout pages index block states.Emptying
    → (is_regular (slice_index (block_at pages relation block) 0) ≡ true → IsRegular (slice_index (block_at pages relation block) 0) (slots_of (block_at pages relation block)) (block_at pages relation block))
    → ((x : Spot) → x.block ≡ block → (contents layout pages index).bytes x ≡ None) → slots_of (block_at pages relation block) ≡ []
unfolding contents
no_slots_left layout pages index block relation at next regular none =
    let same : block_at pages relation block ≡ index_page layout pages index block = page_there layout pages index block relation at in
    let kind : is_regular (slice_index (block_at pages relation block) 0) ≡ true = ap (λ (p : List ℕ). is_regular (slice_index p 0)) same ∙ ap is_regular next.is in
    none_left (slots_of (block_at pages relation block)) (regular kind).last (λ n. ap (λ (p : List ℕ). tuple_on p n) same ∙ none (record { block = block; slot = n }) refl)

-- what a call leaves of the other pages
pub leaves_pages : {D : Type 0} (told : D → Told) (at : Place) (changes : List LoggedChange) (old new : View D) → Leaves told old new → (Tells told old → Changed old.layout at changes old.pages new.pages) → LeavesOtherPages told at old new
leaves_pages told at changes old new leaves changed = record { leaves = leaves; pages = λ tells other apart. (changed tells).others other apart }
