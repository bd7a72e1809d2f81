-- What pages have that pass their checks and stand in order: statuses with a next number, and the blocks of each table.
use Rattle.std.proofs.Common.{◌≡◌, ◌≢◌, inl, inr, ℕ, zero, suc, ◌-◌, ◌<◌, ◌≤◌, List, [], map, refl, sym, ap, subst, ◌∙◌, arith}
use Rattle.std.specs.List.{range_with_len}
use Rattle.std.proofs.lemmas.Bool.{cases_eq}
use Rattle.std.proofs.lemmas.List.FromFn.{get_or-map-range_with_len, length-map-range_with_len}
use Rattle.store_layout.specs.DiskLayout.{DiskLayout, HasBoundedSizes}
use Rattle.page_layout.specs.PageContents.{HasSlots, IsPageOf, IsUnstarted, Slot}
use Rattle.page_layout.specs.SlotLaws.{heap_front, unstarted_front}
use Rattle.page_layout.specs.SlotsOnPage.{slots_on}
use Rattle.recovery.specs.PageMap.{PageMap, block_at}
use Rattle.recovery.specs.PageOrder.{StartsFirst, kind_of}
use Rattle.heap_rows.specs.HeapBlocks.{HasBlocks, slots_of}
use Rattle.heap_rows.specs.Heaps.{form_at, relation_of}
use Rattle.snapshot_core.specs.declared.statuses.Status.{Status}
use Rattle.tx_table.specs.LeavesRest.{AreStarted}
use Rattle.tx_table.specs.Statuses.{HasStatuses, number_limit}
use Rattle.tx_table.specs.TxState.{IsNext}
use Rattle.tx_table.proofs.Openings.{IsNextBelow, next_found}
use Rattle.tx_table.proofs.Pages.{number_at}
use Rattle.transactions.proofs.PageSlots.{are_read}

-- ---- the statuses

module _ (layout : DiskLayout) (pages : PageMap) (sizes : HasBoundedSizes layout) (started : AreStarted layout pages) where
  -- the next number, from one on that was given to none
  next_from : (n : ℕ) → n ≤ number_limit layout → ((t : ℕ) → n ≤ t → t < number_limit layout → number_at pages t ≡ 0)
      → (next : ℕ) × (1 ≤ next) × (next ≤ number_limit layout) × IsNextBelow pages layout.sizes.status_blocks next
  next_from zero within none = (
    1,
    omega arith,
    omega (arith, sizes.some_status_block),
    record { passes = λ block below. inr (started block below); used = λ more. absurd (omega (arith, more)); unused = λ t from below. none t (omega arith) below },
  )
  next_from (suc n) within none = elim (cases_eq (number_at pages n) 0) [
    | inl free ↦ next_from n (omega (arith, within)) (λ t from below. elim (cases_eq t n) [ inl same ↦ ap (number_at pages) same ∙ free | inr apart ↦ none t (omega (arith, from, apart)) below ])
    | inr given ↦ (
      suc n,
      omega arith,
      within,
      record {
        passes = λ block below. inr (started block below);
        used = λ more is. given (let same : suc n - 1 ≡ n = omega arith in ap (number_at pages) (sym same) ∙ is);
        unused = none;
      },
    )
  ]

  pub statuses_found : (next : ℕ) × (statuses : List Status) × HasStatuses layout pages statuses × IsNext statuses next
  statuses_found =
      let found = next_from (number_limit layout) (omega arith) (λ t from below. absurd (omega (arith, from, below))) in
      let shown = next_found layout pages layout.sizes.status_blocks found.0 refl found.1 found.2 found.3 in
      (found.0, shown.0, shown.1, shown.2)

-- ---- the blocks of a table

module _ (layout : DiskLayout) (pages : PageMap) (table : ℕ) (first : StartsFirst layout.sizes.heap_blocks (block_at pages (relation_of table)))
    (passes : (block : ℕ) → block < layout.sizes.heap_blocks → IsPageOf (form_at layout table) (block_at pages (relation_of table) block)) where
  abbrev page : ℕ → List ℕ
  page block = block_at pages (relation_of table) block

  abbrev read : ℕ → List Slot
  read block = slots_on (form_at layout table) (block_at pages (relation_of table) block)

  started_slots : (p : List ℕ) → IsPageOf (form_at layout table) p → kind_of p ≢ 0 → HasSlots (form_at layout table) p (slots_on (form_at layout table) p)
  started_slots p (inl zeros) some = absurd (some (unstarted_front p 8192 refl zeros))
  started_slots p (inr is) some = subst (HasSlots (form_at layout table) p) (are_read.one (form_at layout table) p is.0 is.1) is.1

  unstarted_page : (p : List ℕ) → IsPageOf (form_at layout table) p → kind_of p ≡ 0 → IsUnstarted p
  unstarted_page p (inl zeros) none = zeros
  unstarted_page p (inr is) none = absurd (omega (arith, heap_front (form_at layout table) p is.0 is.1, none))

  -- the blocks, before one from which on none is started
  blocks_before : (n : ℕ) → n ≤ layout.sizes.heap_blocks → ((block : ℕ) → n ≤ block → block < layout.sizes.heap_blocks → kind_of (page block) ≡ 0) → (blocks : List (List Slot)) × HasBlocks layout pages table blocks
  blocks_before zero within none = (
    [],
    record {
      within = omega arith;
      started = λ block low. absurd (omega (arith, low));
      unstarted = λ block past below. unstarted_page (page block) (passes block below) (none block past below);
    },
  )
  blocks_before (suc n) within none = elim (cases_eq (kind_of (page n)) 0) [
    | inl unstarted ↦ blocks_before n (omega (arith, within)) (λ block from below. elim (cases_eq block n) [ inl same ↦ ap (λ (b : ℕ). kind_of (page b)) same ∙ unstarted | inr apart ↦ none block (omega (arith, from, apart)) below ])
    | inr started ↦
        let long = length-map-range_with_len read 0 (suc n) in (
          map read (range_with_len 0 (suc n)),
          record {
            within = omega (arith, long, within);
            started = λ block low.
                let lower : block < suc n = omega (arith, low, long) in
                let at : slots_of (map read (range_with_len 0 (suc n))) block ≡ read block = get_or-map-range_with_len read 0 (suc n) block block [] lower (omega arith) in
                subst (HasSlots (form_at layout table) (page block)) (sym at) (started_slots (page block) (passes block (omega (arith, lower, within))) (started_before n within started block lower));
            unstarted = λ block past below. unstarted_page (page block) (passes block below) (none block (omega (arith, past, long)) below);
          },
        )
  ]
    where
      started_before : (n : ℕ) → suc n ≤ layout.sizes.heap_blocks → kind_of (page n) ≢ 0 → (block : ℕ) → block < suc n → kind_of (page block) ≢ 0
      started_before n within started block lower = elim (cases_eq block n) [
        | inl same ↦ λ none. started (ap (λ (b : ℕ). kind_of (page b)) (sym same) ∙ none)
        | inr apart ↦ first block n (omega (arith, lower, apart)) (omega (arith, within)) started
      ]

  pub blocks_found : (blocks : List (List Slot)) × HasBlocks layout pages table blocks
  blocks_found = blocks_before layout.sizes.heap_blocks (omega arith) (λ block from below. absurd (omega (arith, from, below)))
