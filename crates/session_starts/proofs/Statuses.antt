-- the statuses and the tables of fresh pages
use Rattle.std.proofs.Common.{◌≡◌, inr, ℕ, zero, suc, ◌+◌, ◌/◌, ◌%◌, ◌<◌, List, [], length, refl, sym, ◌∙◌, ap, subst, arith}
use Rattle.std.specs.Prelude.{replicate, slice_index}
use Rattle.std.proofs.lemmas.List.{length-replicate}
use Rattle.block_model.specs.declared.place.Place.{Place}
use Rattle.page_layout.specs.PageContents.{IsStatusPage, IsUnstarted, statuses}
use Rattle.page_map.specs.PageMap.{PageMap, block_at}
use Rattle.heap_rows.specs.HeapBlocks.{HasBlocks}
use Rattle.heap_rows.specs.Heaps.{relation_of}
use Rattle.snapshot_core.specs.declared.statuses.Status.{Status}
use Rattle.snapshot_core.specs.declared.statuses.Status.TheVariants.{Unused}
use Rattle.store_format.specs.FreshStore.{fresh_page, unstarted_page, unused_statuses}
use Rattle.store_format.proofs.Places.{fresh_status, fresh_table}
use Rattle.store_layout.specs.DiskLayout.{DiskLayout, IsPlace}
use Rattle.store_layout.specs.RelationCounts.{blocks_of_statuses, blocks_of_table, count_relations}
use Rattle.tx_table.specs.LeavesRest.{AreStarted}
use Rattle.tx_table.specs.Statuses.{HasStatuses, number_limit, status_named, status_of}
use Rattle.tx_table.specs.TxState.{IsNext}

-- zeros name unused statuses
zero_entry : (n e : ℕ) → slice_index (statuses (replicate n 0)) e ≡ 0
unfolding statuses
zero_entry zero e = refl
zero_entry (suc n) zero = refl
zero_entry (suc n) (suc zero) = refl
zero_entry (suc n) (suc (suc zero)) = refl
zero_entry (suc n) (suc (suc (suc zero))) = refl
zero_entry (suc n) (suc (suc (suc (suc e)))) = zero_entry n e

all_unused : (n t : ℕ) → status_of (replicate n Unused) t ≡ Unused
all_unused zero t = refl
all_unused (suc n) zero = refl
all_unused (suc n) (suc t) = all_unused n t

pub next_of_unused : (n : ℕ) → IsNext (replicate n Unused) 1
next_of_unused n = record { some = omega arith; used = λ more. absurd (omega (arith, more)); unused = λ t from. all_unused n t }

abbrev no_entries : List ℕ
no_entries = statuses (replicate 8160 0)

status_page : IsStatusPage unused_statuses (statuses (replicate 8160 0))
unfolding unused_statuses
status_page = record { bytes = (replicate 8160 0, length-replicate {A = ℕ} 8160 0, refl, refl) }

module _ (layout : DiskLayout) (pages : PageMap) (fresh : (place : Place) → IsPlace layout place → block_at pages place.relation place.block ≡ fresh_page layout place) where
  status_block : (block : ℕ) → block < layout.sizes.status_blocks → block_at pages 0 block ≡ unused_statuses
  status_block block below =
      let place : Place = record { relation = 0; block = block } in
      fresh place (record { relation = omega (arith, count_relations layout); block = omega (arith, below, blocks_of_statuses layout 0 refl) }) ∙ fresh_status layout place refl

  started_block : (block : ℕ) → block < layout.sizes.status_blocks → IsStatusPage (block_at pages 0 block) (statuses (replicate 8160 0))
  started_block block below = subst (λ (page : List ℕ). IsStatusPage page (statuses (replicate 8160 0))) (sym (status_block block below)) status_page

  pub fresh_started : AreStarted layout pages
  fresh_started block below = (statuses (replicate 8160 0), started_block block below)

  pub fresh_statuses : HasStatuses layout pages (replicate (number_limit layout) Unused)
  fresh_statuses = record {
    counted = length-replicate {A = Status} (number_limit layout) Unused;
    each = λ t below. inr (
      statuses (replicate 8160 0),
      started_block (t / 32640) (omega (arith, below)),
      all_unused (number_limit layout) t ∙ sym (ap status_named (zero_entry 8160 (t % 32640))),
    );
  }

  -- no page of a table is started
  zeros : (page : List ℕ) → page ≡ unstarted_page → IsUnstarted page
  unfolding unstarted_page
  zeros page is = is

  pub heap_unstarted : (table block : ℕ) → table < length layout.schema.tables → block < layout.sizes.heap_blocks → IsUnstarted (block_at pages (relation_of table) block)
  heap_unstarted table block within below =
      let place : Place = record { relation = table + 1; block = block } in
      let is : IsPlace layout place = record { relation = omega (arith, within, count_relations layout); block = omega (arith, below, blocks_of_table layout (table + 1) (omega arith) (omega (arith, within))) } in
      zeros (block_at pages (relation_of table) block) (fresh place is ∙ fresh_table layout place (λ none. absurd (omega (arith, none))) (omega (arith, within)))

  pub no_blocks : (table : ℕ) → table < length layout.schema.tables → HasBlocks layout pages table []
  no_blocks table within = record {
    within = omega arith;
    started = λ block there. absurd (omega (arith, there));
    unstarted = λ block past below. heap_unstarted table block within below;
  }
