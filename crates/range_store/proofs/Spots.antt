-- The tuples of an index, by its pages.
use Rattle.std.proofs.Common.{◌≡◌, ◌⊎◌, ℕ, ◌<◌, ◌≤◌, inl, inr, List, length, sym, ap, subst, ◌∙◌}
use Rattle.std.specs.Prelude.{slice_index, None}
use Rattle.std.proofs.lemmas.Bool.{cases_eq}
use Rattle.block_model.specs.declared.place.Spot.{Spot}
use Rattle.store_layout.specs.DiskLayout.{DiskLayout}
use Rattle.disk_trait.specs.Told.{Told}
use Rattle.page_map.specs.Keeps.{Tells}
use Rattle.page_map.specs.PageMap.{PageMap, View, block_at, unstarted_page}
use Rattle.index_contents.specs.TheConstants.{REGULAR}
use Rattle.index_contents.specs.IndexPages.{IsIndexPage, Slot}
use Rattle.index_contents.specs.IndexWrites.{room_on}
use Rattle.coverage.specs.IndexView.{Pages, Regular, Unstarted}
use Rattle.coverage.specs.Verdicts.{MustMove}
use Rattle.index_contents.proofs.Rooms.{page_room_there, place_room_there}
use Rattle.index_contents.specs.IndexContents.{IndexContents, contents, contents_in, index_page, relation_of, tuple_on}
use Rattle.index_contents.specs.IndexChanges.{DropsBytes, LeavesOtherPages, PutsBytes, ReplacesBytes}
use Rattle.index_contents.specs.Kinds.{is_regular_page, is_unstarted_page, regular_page}
use Rattle.index_contents.specs.PageLaws.{StayBeside, blocks_stay, drops_bytes, puts_bytes, replaces_bytes, stays_as_it_is}
use Rattle.index_contents.specs.Reading.{no_tuple, tuple_there}
use Rattle.range_store.specs.declared.faults.SwapFault.{SwapFault}
use Rattle.range_store.specs.declared.faults.SwapFault.TheVariants as faults
use Rattle.range_store.specs.PageTuples.{DropsOn, PutsOn, ReplacesOn, TakesOn}
use Rattle.range_store.specs.Tuples.{MisfitsOn, ShowsMisfit, TakesBytes, TakesInPlace}
use Rattle.range_store.proofs.TupleKinds.{regular_says_none}

-- a page that takes bytes takes tuples, or isn't started
pub takes_either : (pages : Pages) (bytes : Spot → Slot) (need block : ℕ) → TakesBytes pages bytes need block → (pages.kind block ≡ Regular) ⊎ (pages.kind block ≡ Unstarted)
takes_either pages bytes need block (inl regular) = inl regular.0
takes_either pages bytes need block (inr unstarted) = inr unstarted

-- a page takes bytes as the index says
pub takes_on : (layout : DiskLayout) (pages : PageMap) (index relation block size : ℕ) → relation ≡ relation_of layout index → IsIndexPage (index_page layout pages index block)
    → TakesBytes (contents layout pages index).pages (contents layout pages index).bytes size block → TakesOn (block_at pages relation block) size
unfolding contents
takes_on layout pages index relation block size at checked (inl regular) =
    let page : ℕ → List ℕ = index_page layout pages index in
    let is : slice_index (page block) 0 ≡ REGULAR = is_regular_page block (slice_index (page block) 0) regular.0 in
    inl (subst (λ (r : ℕ). (slice_index (block_at pages r block) 0 ≡ REGULAR) × (size ≤ room_on (block_at pages r block))) (sym at)
    (is, subst (λ (n : ℕ). size ≤ n) (page_room_there layout.sizes.index_blocks page block checked is) regular.1))
takes_on layout pages index relation block size at checked (inr unstarted) = inr (ap (λ (r : ℕ). slice_index (block_at pages r block) 0) at ∙ is_unstarted_page block (slice_index (index_page layout pages index block) 0) unstarted)

puts_there : {D : Type 0} (told : D → Told) (index : ℕ) (spot : Spot) (bytes : List ℕ) (old new : View D) → StayBeside spot.block (index_page old.layout old.pages index) (index_page old.layout new.pages index) → PutsOn (index_page old.layout old.pages index spot.block) (index_page old.layout new.pages index spot.block) spot.slot bytes
    → PutsBytes (contents old.layout old.pages index) (contents old.layout new.pages index) spot bytes
unfolding contents
puts_there told index spot bytes old new stay puts =
    puts_bytes old.layout.sizes.index_blocks (index_page old.layout old.pages index) (index_page old.layout new.pages index) spot bytes stay puts.before puts.after (regular_page spot.block (slice_index (index_page old.layout new.pages index spot.block) 0) puts.kind) puts.free puts.lower puts.changes

-- a tuple is put on its page
pub puts_at : {D : Type 0} (told : D → Told) (index relation : ℕ) (spot : Spot) (bytes : List ℕ) (old new : View D) → relation ≡ relation_of old.layout index → Tells told old → LeavesOtherPages told (record { relation = relation; block = spot.block }) old new
    → PutsOn (block_at old.pages relation spot.block) (block_at new.pages relation spot.block) spot.slot bytes → PutsBytes (contents old.layout old.pages index) (contents old.layout new.pages index) spot bytes
puts_at told index relation spot bytes old new at tells leaves puts =
    puts_there told index spot bytes old new (blocks_stay told old.layout index (record { relation = relation; block = spot.block }) old new leaves tells)
    (subst (λ (r : ℕ). PutsOn (block_at old.pages r spot.block) (block_at new.pages r spot.block) spot.slot bytes) at puts)

replaces_there : {D : Type 0} (told : D → Told) (index : ℕ) (spot : Spot) (before after : List ℕ) (old new : View D) → StayBeside spot.block (index_page old.layout old.pages index) (index_page old.layout new.pages index) → IsIndexPage (index_page old.layout old.pages index spot.block)
    → TakesInPlace (index_page old.layout old.pages index spot.block) spot.slot before (length after) → ReplacesOn (index_page old.layout old.pages index spot.block) (index_page old.layout new.pages index spot.block) spot.slot before after
    → ReplacesBytes (contents old.layout old.pages index) (contents old.layout new.pages index) spot before after
unfolding contents
replaces_there told index spot before after old new stay checked takes replaces =
    let f : ℕ → List ℕ = index_page old.layout old.pages index in
    let g : ℕ → List ℕ = index_page old.layout new.pages index in
    replaces_bytes old.layout.sizes.index_blocks f g spot before after stay (regular_says_none (f spot.block) replaces.was) (regular_says_none (g spot.block) replaces.kind)
    (regular_page spot.block (slice_index (f spot.block) 0) replaces.was) (regular_page spot.block (slice_index (g spot.block) 0) replaces.kind)
    (subst (λ (n : ℕ). length after ≤ n) (sym (place_room_there old.layout.sizes.index_blocks f spot.block checked spot.slot before replaces.was replaces.stood)) takes.2) replaces.stood replaces.changes

-- a tuple gives way on its page
pub replaces_at : {D : Type 0} (told : D → Told) (index relation : ℕ) (spot : Spot) (before after : List ℕ) (old new : View D) → relation ≡ relation_of old.layout index → Tells told old → LeavesOtherPages told (record { relation = relation; block = spot.block }) old new → IsIndexPage (index_page old.layout old.pages index spot.block)
    → TakesInPlace (block_at old.pages relation spot.block) spot.slot before (length after) → ReplacesOn (block_at old.pages relation spot.block) (block_at new.pages relation spot.block) spot.slot before after
    → ReplacesBytes (contents old.layout old.pages index) (contents old.layout new.pages index) spot before after
replaces_at told index relation spot before after old new at tells leaves checked takes replaces =
    replaces_there told index spot before after old new (blocks_stay told old.layout index (record { relation = relation; block = spot.block }) old new leaves tells) checked
    (subst (λ (r : ℕ). TakesInPlace (block_at old.pages r spot.block) spot.slot before (length after)) at takes)
    (subst (λ (r : ℕ). ReplacesOn (block_at old.pages r spot.block) (block_at new.pages r spot.block) spot.slot before after) at replaces)

-- why it doesn't
misfits_there : (layout : DiskLayout) (pages : PageMap) (index : ℕ) (spot : Spot) (expect : List ℕ) (size : ℕ) (fault : SwapFault) → IsIndexPage (index_page layout pages index spot.block)
    → MisfitsOn (index_page layout pages index spot.block) spot.slot expect size fault → ShowsMisfit (contents layout pages index) (index_page layout pages index spot.block) spot expect size fault
unfolding contents
misfits_there layout pages index spot expect size (faults.Changed found at) checked misfits = misfits
misfits_there layout pages index spot expect size (faults.Full need most_free) checked misfits =
    let page : ℕ → List ℕ = index_page layout pages index in
    let c : IndexContents = contents_in layout.sizes.index_blocks page in
    let must : MustMove c.pages c.bytes spot size = elim (cases_eq (slice_index (page spot.block) 0) REGULAR) [
      | inl is ↦ inr (subst (λ (m : ℕ). m < size) (misfits.3 ∙ sym (place_room_there layout.sizes.index_blocks page spot.block checked spot.slot expect is misfits.0)) misfits.1)
      | inr other ↦ inl (λ regular. other (is_regular_page spot.block (slice_index (page spot.block) 0) regular))
    ] in
    (misfits.0, must, misfits.2, misfits.3)
misfits_there layout pages index spot expect size (faults.Store error) checked misfits = tt

pub misfits_at : (layout : DiskLayout) (pages : PageMap) (index relation : ℕ) (spot : Spot) (expect : List ℕ) (size : ℕ) (fault : SwapFault) → relation ≡ relation_of layout index → IsIndexPage (index_page layout pages index spot.block) → MisfitsOn (block_at pages relation spot.block) spot.slot expect size fault
    → ShowsMisfit (contents layout pages index) (index_page layout pages index spot.block) spot expect size fault
misfits_at layout pages index relation spot expect size fault at checked misfits =
    misfits_there layout pages index spot expect size fault checked (subst (λ (r : ℕ). MisfitsOn (block_at pages r spot.block) spot.slot expect size fault) at misfits)

-- the pages are as they were
all_stay : (f g : ℕ → List ℕ) (block : ℕ) → StayBeside block f g → g block ≡ f block → (other : ℕ) → g other ≡ f other
all_stay f g block stay here other = elim (cases_eq other block) [
  | inl at ↦ ap g at ∙ here ∙ sym (ap f at)
  | inr apart ↦ stay other apart
]

drops_in : (limit : ℕ) (f g : ℕ → List ℕ) (spot : Spot) → StayBeside spot.block f g → DropsOn (f spot.block) (g spot.block) spot.slot → DropsBytes (contents_in limit f) (contents_in limit g) spot
drops_in limit f g spot stay drops = elim drops.map [
  | inl same ↦
      let path : f ≡ g = λ i block. sym (all_stay f g spot.block stay same block) i in
      subst (λ (h : ℕ → List ℕ). DropsBytes (contents_in limit f) (contents_in limit h) spot) path (stays_as_it_is limit f spot (ap (λ (p : List ℕ). tuple_on p spot.slot) (sym same) ∙ drops.changes.now))
  | inr none ↦ drops_bytes limit f g spot stay none.0 none.1 drops.kind drops.changes
]

drops_there : {D : Type 0} (told : D → Told) (index : ℕ) (spot : Spot) (old new : View D) → StayBeside spot.block (index_page old.layout old.pages index) (index_page old.layout new.pages index) → DropsOn (index_page old.layout old.pages index spot.block) (index_page old.layout new.pages index spot.block) spot.slot
    → DropsBytes (contents old.layout old.pages index) (contents old.layout new.pages index) spot
unfolding contents
drops_there told index spot old new stay drops = drops_in old.layout.sizes.index_blocks (index_page old.layout old.pages index) (index_page old.layout new.pages index) spot stay drops

-- a tuple goes from its page
pub drops_at : {D : Type 0} (told : D → Told) (index relation : ℕ) (spot : Spot) (old new : View D) → relation ≡ relation_of old.layout index → Tells told old → LeavesOtherPages told (record { relation = relation; block = spot.block }) old new
    → DropsOn (block_at old.pages relation spot.block) (block_at new.pages relation spot.block) spot.slot → DropsBytes (contents old.layout old.pages index) (contents old.layout new.pages index) spot
drops_at told index relation spot old new at tells leaves drops =
    drops_there told index spot old new (blocks_stay told old.layout index (record { relation = relation; block = spot.block }) old new leaves tells) (subst (λ (r : ℕ). DropsOn (block_at old.pages r spot.block) (block_at new.pages r spot.block) spot.slot) at drops)

-- a page stays where the spot has no tuple
pub none_changes : (layout : DiskLayout) (old new : PageMap) (index relation : ℕ) (spot : Spot) → relation ≡ relation_of layout index → DropsOn (block_at old relation spot.block) (block_at new relation spot.block) spot.slot → (contents layout old index).bytes spot ≡ None
    → index_page layout new index spot.block ≡ index_page layout old index spot.block
none_changes layout old new index relation spot at drops none =
    subst (λ (r : ℕ). block_at new r spot.block ≡ block_at old r spot.block) at (drops.free (tuple_there layout old index relation spot at ∙ none))

-- nothing goes from a spot without a tuple
pub none_drops : (layout : DiskLayout) (pages : PageMap) (index : ℕ) (spot : Spot) → (contents layout pages index).bytes spot ≡ None → DropsBytes (contents layout pages index) (contents layout pages index) spot
unfolding contents
none_drops layout pages index spot none = stays_as_it_is layout.sizes.index_blocks (index_page layout pages index) spot none

-- a page that the index can't have has no tuple
pub none_past : (layout : DiskLayout) (pages : PageMap) (index relation : ℕ) (spot : Spot) → relation ≡ relation_of layout index → block_at pages relation spot.block ≡ unstarted_page → (contents layout pages index).bytes spot ≡ None
none_past layout pages index relation spot at past = sym (tuple_there layout pages index relation spot at) ∙ ap (λ (p : List ℕ). tuple_on p spot.slot) past ∙ no_tuple spot.slot
