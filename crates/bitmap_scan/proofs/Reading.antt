-- the page step of a scan, as one of its table
use Rattle.std.proofs.Common.{◌≡◌, ◌⊎◌, inl, inr, ℕ, ◌<◌, ◌≤◌, Bool, true, false, ◌&&◌, List, ◌++◌, length, Option, Some, refl, sym, ap, subst, ◌∙◌}
use Rattle.std.specs.Prelude.{IsTrue}
use Rattle.std.proofs.lemmas.Bool.{and_parts, cases_lt, false≢true}
use Rattle.std.proofs.lemmas.List.{length-map}
use Rattle.block_model.specs.declared.place.Spot.{Spot}
use Rattle.block_model.specs.declared.row.Row.{Row}
use Rattle.block_model.specs.RowMatches.{row_matches}
use Rattle.store_layout.specs.DiskLayout.{DiskLayout}
use Rattle.page_layout.specs.PageContents.{Slot}
use Rattle.page_map.specs.PageMap.{PageMap}
use Rattle.page_locks.specs.LockHolders.{LockState}
use Rattle.coverage.specs.Machines.{ShownTable, Unseen, table_state}
use Rattle.coverage.specs.Table.{TableScan, TableState}
use Rattle.coverage.specs.TableSteps.{IsScanRead, ReadsPage, ScanHasStep}
use Rattle.heap_rows.specs.Heaps.{kinds_at}
use Rattle.heap_rows.specs.HeapBlocks.{HasBlocks, slots_of}
use Rattle.heap_rows.specs.RowPlaces.{slot_at}
use Rattle.heap_rows.specs.StoredRows.{stored_rows}
use Rattle.index_steps.specs.IndexTuples.{are_values}
use Rattle.index_steps.specs.ShownTable.{indexes_of}
use Rattle.bitmap_scan.specs.Finds.{FindHand, IsNextCandidate, SeesThere, Sight, is_found, scanning, visible_matches}
use Rattle.bitmap_scan.specs.ScanHands.{ScanHand, is_candidate, scanned_index, scanned_indexes}
use Rattle.index_steps.specs.ShownRows.{row_in, shown_by}
use Rattle.bitmap_scan.specs.TableScans.{is_match, table_scan}
use Rattle.bitmap_scan.specs.declared.stage.Stage.TheVariants as stages
use Rattle.bitmap_scan.proofs.FoundRows.{found_either, found_is, found_more, found_new, found_there, values_there, slot_of_row}

-- a hand after all ranges are judged
abbrev pub judged_hand : ScanHand → ScanHand
judged_hand hand = record hand { stage = stages.Judged }

module _ (w : TableState) (scan : TableScan) (candidates : List Bool) (judged : scan.at ≡ w.indexes) (are : scan.candidate ≡ is_candidate candidates) where
  pub has_block : (b : ℕ) → scan.explains ≡ false → IsNextCandidate candidates scan.read b → ScanHasStep w scan
  has_block b selects next = inr (selects, judged, (b, ap (λ (f : ℕ → Bool). f b) are ∙ next.candidate, next.unread))

  pub is_read : ((c : ℕ) → scan.read ≤ c → is_candidate candidates c ≡ false) → IsScanRead w scan
  is_read none = (judged, inr (λ b candidate. below b (sym (ap (λ (f : ℕ → Bool). f b) are) ∙ candidate)))
    where
      below : (b : ℕ) → is_candidate candidates b ≡ true → b < scan.read
      below b candidate = elim (cases_lt b scan.read) [ inl less ↦ less | inr more ↦ absurd (false≢true (sym (none b more) ∙ candidate)) ]

module _ (layout : DiskLayout) (pages : PageMap) (sight : Sight) (old new : FindHand) (b : ℕ) (indexes : old.judging.indexes ≡ scanned_indexes layout old.judging.query.table)
    (next : IsNextCandidate old.judging.candidates old.read b) where
  module _ (s : ℕ) (locks : LockState) (blocks : List (List Slot)) (sees : ℕ → ℕ → Bool) (judged : ℕ → ℕ → Option Bool) (deletes : Bool) (u : Unseen) (has : HasBlocks layout pages old.judging.query.table blocks)
      (there : SeesThere sight blocks sees (Some b)) (found : new.found ≡ old.found ++ visible_matches sight old.judging.query b (stored_rows (slots_of blocks b))) where
    abbrev shown : ShownTable
    shown = shown_by layout pages locks old.judging.query.table blocks

    abbrev w : TableState
    w = table_state shown u

    abbrev scan : TableScan
    scan = table_scan layout (judged_hand old.judging) (scanning sees judged deletes old)

    abbrev more : List (Row × Spot)
    more = visible_matches sight old.judging.query b (stored_rows (slots_of blocks b))

    counted : length old.judging.indexes ≡ w.indexes
    counted = ap length indexes ∙ length-map (indexes_of layout old.judging.query.table) (scanned_index layout)

    now_found : (c k : ℕ) → is_found (old.found ++ more) c k ≡ true → is_found new.found c k ≡ true
    now_found c k is = subst (λ (l : List (Row × Spot)). is_found l c k ≡ true) (sym found) is

    on_page : (k : ℕ) (r : Row) → w.row b k ≡ Some r → IsTrue (sees b k) → IsTrue (is_match layout old.judging.query r) → is_found new.found b k ≡ true
    on_page k r is seen matches =
        let row = slot_of_row old.judging.query.table (slot_at blocks (record { block = b; slot = k })) r is in
        let match = (and_parts (are_values (kinds_at layout old.judging.query.table) r.values) _ matches).1 in
        now_found b k (found_new old.found more b k (found_there sight old.judging.query b (slots_of blocks b) k row.0 row.1
        (subst (λ (q : Row). row_matches old.judging.query q ≡ true) row.2 match) (sym (there k row.0 row.1) ∙ seen)))

    only_those : (c k : ℕ) → is_found new.found c k ≡ true → (is_found old.found c k ≡ true) ⊎ ((c ≡ b) × ((r : Row) × (w.row c k ≡ Some r) × IsTrue (sees c k) × IsTrue (is_match layout old.judging.query r)))
    only_those c k is = elim (found_either old.found more c k (subst (λ (l : List (Row × Spot)). is_found l c k ≡ true) found is)) [
      | inl before ↦ inl before
      | inr now ↦
          let one = found_is sight old.judging.query b (slots_of blocks b) c k now in
          inr (
            one.block_is,
            subst (λ (d : ℕ). (r : Row) × (w.row d k ≡ Some r) × IsTrue (sees d k) × IsTrue (is_match layout old.judging.query r)) (sym one.block_is) (
              record { table = old.judging.query.table; id = one.row.id; values = one.row.values },
              ap (row_in old.judging.query.table) one.there,
              there k one.row one.there ∙ one.sees,
              ap (λ (t : Bool). t && row_matches old.judging.query (record { table = old.judging.query.table; id = one.row.id; values = one.row.values }))
                  (values_there layout pages old.judging.query.table blocks b k one.row has one.there) ∙ one.matches,
            ),
          )
    ]

    pub reads_page : ReadsPage w scan b (is_found new.found)
    reads_page = record {
      reads = refl;
      judged = counted;
      given = next.candidate;
      unread = next.unread;
      first = λ c candidate unread. next.first c candidate unread;
      keeps = λ c k is. now_found c k (found_more old.found more c k is);
      page = on_page;
      only = only_those;
    }
