-- The next number, as the pages show it block by block.
use Rattle.std.proofs.Common.{◌≡◌, ◌≢◌, inl, inr, ℕ, ◌-◌, ◌*◌, ◌/◌, ◌%◌, ◌<◌, ◌≤◌, List, map, sym, ap, subst, ◌∙◌, arith}
use Rattle.std.specs.List.{range_with_len}
use Rattle.std.proofs.lemmas.Bool.{cases_lt}
use Rattle.std.proofs.lemmas.List.FromFn.{get_or-map-range_with_len, length-map-range_with_len}
use Rattle.page_layout.specs.declared.page.Form.TheVariants as forms
use Rattle.page_layout.specs.PageContents.{IsPageOf}
use Rattle.page_map.specs.PageMap.{PageMap, block_at}
use Rattle.snapshot_core.specs.declared.statuses.Status.{Status}
use Rattle.snapshot_core.specs.declared.statuses.Status.TheVariants.{Unused}
use Rattle.store_layout.specs.DiskLayout.{DiskLayout}
use Rattle.tx_table.specs.Statuses.{HasEntry, HasStatuses, number_limit, status_named, status_of}
use Rattle.tx_table.specs.TxState.{IsNext}
use Rattle.tx_table.proofs.Entries.{has_named, named_zero}
use Rattle.tx_table.proofs.Pages.{number_at, status_past}

-- of the first blocks: each passes its check, and the next number is that of their entries
pub record IsNextBelow (pages : PageMap) (blocks next : ℕ) : Type 0 where
  pub passes : (block : ℕ) → block < blocks → IsPageOf forms.Status (block_at pages 0 block)
  pub used : 1 < next → number_at pages (next - 1) ≢ 0
  pub unused : (t : ℕ) → next ≤ t → t < blocks * 32640 → number_at pages t ≡ 0

-- pages that pass their check have a list of statuses
abbrev shown_list : DiskLayout → PageMap → List Status
shown_list layout pages = map (λ t. status_named (number_at pages t)) (range_with_len 0 (number_limit layout))

shown_at : (layout : DiskLayout) (pages : PageMap) (t : ℕ) → t < number_limit layout → status_of (shown_list layout pages) t ≡ status_named (number_at pages t)
shown_at layout pages t below = get_or-map-range_with_len (λ (u : ℕ). status_named (number_at pages u)) 0 (number_limit layout) t t Unused below (omega arith)

shown_has : (layout : DiskLayout) (pages : PageMap) → ((block : ℕ) → block < layout.sizes.status_blocks → IsPageOf forms.Status (block_at pages 0 block)) → HasStatuses layout pages (shown_list layout pages)
shown_has layout pages passes = record {
  counted = length-map-range_with_len (λ (t : ℕ). status_named (number_at pages t)) 0 (number_limit layout);
  each = λ t below.
      subst (HasEntry (block_at pages 0 (t / 32640)) (t % 32640)) (sym (shown_at layout pages t below))
      (has_named (block_at pages 0 (t / 32640)) (t % 32640) (passes (t / 32640) (omega (arith, below))));
}

-- and the next number, once all are read
pub next_found : (layout : DiskLayout) (pages : PageMap) (blocks next : ℕ) → blocks ≡ layout.sizes.status_blocks → 1 ≤ next → next ≤ number_limit layout → IsNextBelow pages blocks next
    → (statuses : List Status) × HasStatuses layout pages statuses × IsNext statuses next
next_found layout pages blocks next all some within is =
    let has = shown_has layout pages (λ block below. is.passes block (omega (arith, below, all))) in (
      shown_list layout pages,
      has,
      record {
        some = some;
        used = λ more none. is.used more (named_zero (number_at pages (next - 1)) (sym (shown_at layout pages (next - 1) (omega (arith, more, within))) ∙ none));
        unused = λ t from. elim (cases_lt t (number_limit layout)) [
          | inl below ↦ shown_at layout pages t below ∙ ap status_named (is.unused t from (omega (arith, below, all)))
          | inr past ↦ status_past layout pages (shown_list layout pages) t has past
        ];
      },
    )
