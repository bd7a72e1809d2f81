-- calls that change one page of an index, and keep the order of its pages
use Rattle.std.specs.Prelude.{◌≡◌, ◌⊎◌, ℕ, ◌==◌, ◌||◌, ◌<◌, ◌≤◌, Bool, true, false, List, slice_index, if◌then◌else◌}
use Rattle.std.proofs.Common.{inl, inr, sym, ap, subst, ◌∙◌, refl, arith}
use Rattle.std.proofs.lemmas.Bool.{cases_eq, eqb-true, false≢true}
use Rattle.disk_trait.specs.Told.{Told}
use Rattle.store_layout.specs.DiskLayout.{DiskLayout}
use Rattle.recovery.specs.Keeps.{Tells}
use Rattle.recovery.specs.PageMap.{PageMap, View}
use Rattle.recovery.specs.PageOrder.{IsIndexInOrder, kind_of, map_pages}
use Rattle.index_layout.specs.declared.format.TheConstants.{META, REGULAR, EVACUATED}
use Rattle.index_layout.specs.IndexReading.{is_regular, map_pages_of, number_at}
use Rattle.coverage.specs.IndexView.{Regular, Unstarted}
use Rattle.coverage.specs.Verdicts.{IsLowestNumber, IsPageUnstarted}
use Rattle.index_contents.specs.IndexChanges.{LeavesOtherPages}
use Rattle.index_contents.specs.IndexContents.{contents, index_page, relation_of}
use Rattle.index_contents.specs.Kinds.{is_regular_page, is_unstarted_page, unstarted_page_kind}
use Rattle.index_contents.specs.PageLaws.{StayBeside, blocks_stay}
use Rattle.index_contents.specs.KeepsOrder.{HasTuples, KeepsOrder}
use Rattle.index_contents.specs.OrderLaws.{order_by_entries, order_by_new_page, order_by_tuples}

-- the pages that a metapage counts
counted_same : (page : List ℕ) → kind_of page ≡ 3 → map_pages_of page ≡ map_pages page
unfolding map_pages_of
counted_same page is = ap (λ (k : ℕ). if k == META then number_at page 32 4 else 0) is

counted_in : (layout : DiskLayout) (pages : PageMap) (index : ℕ) → IsIndexInOrder layout.sizes.index_blocks (index_page layout pages index) → (contents layout pages index).pages.map_pages ≡ map_pages (index_page layout pages index 0)
unfolding contents
counted_in layout pages index order = counted_same (index_page layout pages index 0) order.metapage

-- the byte of a page's kind
pub regular_byte : (layout : DiskLayout) (pages : PageMap) (index block : ℕ) → (contents layout pages index).pages.kind block ≡ Regular → kind_of (index_page layout pages index block) ≡ 5
unfolding contents
regular_byte layout pages index block is = is_regular_page block (slice_index (index_page layout pages index block) 0) is

unstarted_byte : (layout : DiskLayout) (pages : PageMap) (index block : ℕ) → (contents layout pages index).pages.kind block ≡ Unstarted → kind_of (index_page layout pages index block) ≡ 0
unfolding contents
unstarted_byte layout pages index block is = is_unstarted_page block (slice_index (index_page layout pages index block) 0) is

unstarted_kind : (layout : DiskLayout) (pages : PageMap) (index block : ℕ) → kind_of (index_page layout pages index block) ≡ 0 → (contents layout pages index).pages.kind block ≡ Unstarted
unfolding contents
unstarted_kind layout pages index block is = unstarted_page_kind block (slice_index (index_page layout pages index block) 0) is

-- a page of tuples, by the test of its byte
either : (page : List ℕ) (one two : Bool) → (slice_index page 0 == REGULAR) ≡ one → (slice_index page 0 == EVACUATED) ≡ two → (one || two) ≡ true → HasTuples page
either page true two is other passes = inl (eqb-true (slice_index page 0) REGULAR is)
either page false true is other passes = inr (eqb-true (slice_index page 0) EVACUATED other)
either page false false is other passes = absurd (false≢true passes)

tested : (page : List ℕ) → is_regular (slice_index page 0) ≡ true → HasTuples page
tested page passes = either page (slice_index page 0 == REGULAR) (slice_index page 0 == EVACUATED) refl refl passes

module _ {D : Type 0} (told : D → Told) (index block : ℕ) (old new : View D) (leaves : LeavesOtherPages told (record { relation = relation_of old.layout index; block = block }) old new) where
  abbrev before : ℕ → List ℕ
  before = index_page old.layout old.pages index

  abbrev after : ℕ → List ℕ
  after = index_page old.layout new.pages index

  stay : Tells told old → StayBeside block before after
  stay tells = blocks_stay told old.layout index (record { relation = relation_of old.layout index; block = block }) old new leaves tells

  -- a page of tuples stays one
  pub keeps_by_tuples : (Tells told old → (block < old.layout.sizes.index_blocks) × HasTuples (before block) × HasTuples (after block)) → KeepsOrder told index old new
  keeps_by_tuples tuples tells order = let are = tuples tells in order_by_tuples old.layout.sizes.index_blocks block before after order (stay tells) are.0 are.1 are.2

  -- the page is as it was
  pub keeps_by_same : (Tells told old → after block ≡ before block) → KeepsOrder told index old new
  keeps_by_same same tells order = subst (IsIndexInOrder old.layout.sizes.index_blocks) (sym all) order
    where
      each : (b : ℕ) → after b ≡ before b
      each b = elim (cases_eq b block) [
        | inl is ↦ ap after is ∙ same tells ∙ ap before (sym is)
        | inr other ↦ stay tells b other
      ]

      all : after ≡ before
      all = λ i b. each b i

  -- the spot of a page has no tuple any more
  pub keeps_by_drop : block < old.layout.sizes.index_blocks → (Tells told old → kind_of (after block) ≡ kind_of (before block)) → (Tells told old → is_regular (slice_index (before block) 0) ≡ false → after block ≡ before block) → KeepsOrder told index old new
  keeps_by_drop low kind alone tells order = by_test (is_regular (slice_index (before block) 0)) refl
    where
      by_test : (b : Bool) → is_regular (slice_index (before block) 0) ≡ b → IsIndexInOrder old.layout.sizes.index_blocks after
      by_test true test = keeps_by_tuples (λ t. (low, tested (before block) test, tested (after block) (ap is_regular (kind t) ∙ test))) tells order
      by_test false test = keeps_by_same (λ t. alone t test) tells order

  -- a tuple comes to a page of tuples, or to the lowest one that isn't started
  pub keeps_by_put : block < old.layout.sizes.index_blocks → (Tells told old → ((contents old.layout old.pages index).pages.kind block ≡ Regular) ⊎ ((contents old.layout old.pages index).pages.kind block ≡ Unstarted))
      → (Tells told old → (contents old.layout new.pages index).pages.kind block ≡ Regular)
      → (Tells told old → (contents old.layout old.pages index).pages.kind block ≡ Unstarted → IsLowestNumber (IsPageUnstarted (contents old.layout old.pages index).pages) block) → KeepsOrder told index old new
  keeps_by_put low takes regular lowest tells order =
      let now : kind_of (after block) ≡ 5 = regular_byte old.layout new.pages index block (regular tells) in
      elim (takes tells) [
        | inl was ↦ order_by_tuples old.layout.sizes.index_blocks block before after order (stay tells) low (inl (regular_byte old.layout old.pages index block was)) (inl now)
        | inr none ↦ order_by_new_page old.layout.sizes.index_blocks block before after order (stay tells) low (unstarted_byte old.layout old.pages index block none)
            (λ b less zero. absurd (omega (arith, less, (lowest tells none).1 b (unstarted_kind old.layout old.pages index b zero)))) now
      ]

  -- an entry of a counted page of the map is set
  pub keeps_by_entries : 1 ≤ block → (Tells told old → block ≤ (contents old.layout old.pages index).pages.map_pages) → (Tells told old → kind_of (after block) ≡ 4) → KeepsOrder told index old new
  keeps_by_entries some within now tells order = order_by_entries old.layout.sizes.index_blocks block before after order (stay tells) some (omega (arith, within tells, counted_in old.layout old.pages index order)) (now tells)
