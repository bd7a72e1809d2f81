-- the step that a scan takes next, without its being taken
use Rattle.std.proofs.Common.{◌≡◌, ℕ, zero, suc, ◌+◌, ◌<◌, inl, inr, Bool, true, false, List, [], ◌++◌, length, Option, None, Some, refl, sym, ap, subst, ◌∙◌}
use Rattle.std.specs.Prelude.{replicate}
use Rattle.std.proofs.lemmas.Bool.{cases_lt}
use Rattle.std.proofs.lemmas.List.{get_or_past}
use Rattle.block_model.specs.declared.place.Spot.{Spot}
use Rattle.block_model.specs.declared.reply.Point.TheVariants as points
use Rattle.block_model.specs.declared.row.Row.{Row}
use Rattle.store_layout.specs.DiskLayout.{DiskLayout}
use Rattle.page_layout.specs.FreeSlots.{slot_count}
use Rattle.page_layout.specs.PageContents.{Slot}
use Rattle.page_layout.specs.SlotsOnPage.{slots_on}
use Rattle.page_layout.proofs.SlotsRead.{one_list, unstarted_free}
use Rattle.page_map.specs.PageMap.{PageMap, block_at}
use Rattle.page_map.specs.declared.faults.StoreError.{StoreError}
use Rattle.page_map.specs.declared.faults.StoreError.TheVariants as errors
use Rattle.page_map.specs.Outcome.{IsReopen}
use Rattle.page_locks.specs.declared.did.Did.TheVariants as did
use Rattle.heap_rows.specs.declared.rows.Stored.{Stored}
use Rattle.heap_rows.specs.Heaps.{form_at, relation_of}
use Rattle.heap_rows.specs.HeapBlocks.{HasBlocks, slots_of}
use Rattle.heap_rows.specs.StoredRows.{stored_from, stored_rows}
use Rattle.page_map.specs.declared.faults.MachineFault.TheVariants as faults
use Rattle.bitmap_scan.specs.Finds.{FaultNamesRead, FindHand, FindSteps, IsFindOf, IsNext, Sight, did_at, visible_matches}
use Rattle.bitmap_scan.specs.LooksAhead.{ComesTo, NextIs}
use Rattle.bitmap_scan.specs.ScanAnswers.{NamesNoPage}
use Rattle.bitmap_scan.specs.ScanSteps.{point_at}
use Rattle.bitmap_scan.proofs.Finding.{comes_to, goes_on, reads_on}
use Rattle.bitmap_scan.proofs.Next.{ReadsNext, candidate_within}

-- slots that are free have no rows
none_stored : (from n : ℕ) → stored_from from (replicate n None) ≡ []
unfolding stored_from
none_stored from zero = refl
none_stored from (suc n) = none_stored (from + 1) n

-- the rows of a block are those that its page shows
module _ (layout : DiskLayout) (pages : PageMap) (table b : ℕ) where
  abbrev pub rows_on : List Stored
  rows_on = stored_rows (slots_on (form_at layout table) (block_at pages (relation_of table) b))

  pub are_rows : (blocks : List (List Slot)) → HasBlocks layout pages table blocks → b < layout.sizes.heap_blocks → rows_on ≡ stored_rows (slots_of blocks b)
  unfolding stored_from
  are_rows blocks has below =
      let form = form_at layout table in
      let page = block_at pages (relation_of table) b in
      elim (cases_lt b (length blocks)) [
        | inl there ↦ ap (stored_from 0) (sym (one_list form page (slots_of blocks b) (has.started b there)))
        | inr past ↦ ap (stored_from 0) (unstarted_free form page 8192 refl (has.unstarted b past below)) ∙ none_stored 0 (slot_count form) ∙ ap (stored_from 0) (sym (get_or_past blocks b [] past))
      ]

-- a block is read next
module _ (layout : DiskLayout) (pages : PageMap) (old : FindHand) (of : IsFindOf layout old) (b : ℕ) (is : old.next ≡ Some b) (reads : ReadsNext old b) where
  there : b < layout.sizes.heap_blocks
  there = subst (λ (n : ℕ). b < n) of.judging.room (candidate_within old.judging.candidates b reads.first.candidate)

  abbrev found : Sight → List (Row × Spot)
  found sight = old.found ++ visible_matches sight old.judging.query b (rows_on layout pages old.judging.query.table b)

  reads_it : (next : Option ℕ) → IsNext old.judging.candidates (b + 1) next → (sight : Sight) → FindSteps layout pages sight old (record old { read = b + 1; next = next; found = found sight }) (did_at points.Page next)
  reads_it next first sight =
      reads_on layout pages sight old of.judging.indexes b (found sight) next reads.first first
      (λ blocks has. ap (λ (rows : List Stored). old.found ++ visible_matches sight old.judging.query b rows) (are_rows layout pages old.judging.query.table b blocks has there)) reads.all is

  pub ends_block : IsNext old.judging.candidates (b + 1) None → NextIs layout pages old did.Finished
  ends_block none sight = (record old { read = b + 1; next = None; found = found sight }, points.Page, reads_it None none sight)

  pub goes_block : (c : ℕ) → IsNext old.judging.candidates (b + 1) (Some c) → NextIs layout pages old did.Moved
  goes_block c first sight = (record old { read = b + 1; next = Some c; found = found sight }, points.Page, reads_it (Some c) first sight)

-- a range is judged next, or the block count is read
module _ (layout : DiskLayout) (pages : PageMap) (old : FindHand) (ahead : List Bool) (none : old.read ≡ 0) where
  first_from : (candidates : List Bool) (next : Option ℕ) → candidates ≡ ahead → IsNext ahead 0 next → IsNext candidates old.read next
  first_from candidates next are first = subst (λ (n : ℕ). IsNext candidates n next) (sym none) (subst (λ (l : List Bool). IsNext l 0 next) (sym are) first)

  pub ends_ranges : ComesTo layout pages old.judging ahead true → IsNext ahead 0 None → NextIs layout pages old did.Finished
  ends_ranges comes first sight = (
    record old { judging = comes.new; next = None },
    point_at old.judging.stage,
    comes_to layout pages sight old comes.new comes.scan.indexes comes.query comes.to (point_at old.judging.stage) refl (comes.yes refl) None (first_from comes.new.candidates None comes.candidates first),
  )

  pub goes_to_blocks : (b : ℕ) → ComesTo layout pages old.judging ahead true → IsNext ahead 0 (Some b) → NextIs layout pages old did.Moved
  goes_to_blocks b comes first sight = (
    record old { judging = comes.new; next = Some b },
    point_at old.judging.stage,
    comes_to layout pages sight old comes.new comes.scan.indexes comes.query comes.to (point_at old.judging.stage) refl (comes.yes refl) (Some b) (first_from comes.new.candidates (Some b) comes.candidates first),
  )

pub goes_to_range : (layout : DiskLayout) (pages : PageMap) (old : FindHand) (ahead : List Bool) → ComesTo layout pages old.judging ahead false → NextIs layout pages old did.Moved
goes_to_range layout pages old ahead comes sight = (
  record old { judging = comes.new },
  point_at old.judging.stage,
  goes_on layout pages sight old comes.new comes.scan.indexes comes.query comes.to (point_at old.judging.stage) refl comes.begun (comes.no refl),
)

-- a disk fault of an earlier call names no page
pub names_reopen : (layout : DiskLayout) (table block : ℕ) (error : StoreError) → IsReopen error → FaultNamesRead layout table block (faults.Store error)
names_reopen layout table block errors.Disk none = absurd none
names_reopen layout table block (errors.Reopen n) reopen = inr tt
names_reopen layout table block (errors.Damaged at) none = absurd none

pub names_none : (error : StoreError) → IsReopen error → NamesNoPage (faults.Store error)
names_none errors.Disk none = tt
names_none (errors.Reopen n) reopen = tt
names_none (errors.Damaged at) none = none
