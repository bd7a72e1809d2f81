-- the last step of a delete's scan, behind which it goes on to mark what it found
use Rattle.std.proofs.Common.{◌≡◌, ℕ, ◌<◌, ◌≤◌, List, [], ◌∷◌, length, Option, Some, All, refl, sym, ap, subst, ◌∙◌, arith}
use Rattle.std.specs.Prelude.{IsTrue}
use Rattle.std.specs.Global.{Vec}
use Rattle.std.specs.Cmp.{eq_by_cmp_equiv}
use Rattle.std.specs.FinMap as finite
use Rattle.std.specs.Ordering.{eq_by_cmp}
use Rattle.std.proofs.lemmas.List.Elements.{All-contains, All-map, All-weaker, recursion_from_All}
use Rattle.std.proofs.lemmas.List.Sorted.{All-permutation, Contains-permutation, IsPermutation-map}
use Rattle.std.proofs.lemmas.Map.Keys.{IsDistinct-IsPermutation}
use Rattle.std.proofs.lemmas.Option.{same_Some}
use Rattle.block_model.specs.declared.place.Spot.{Spot}
use Rattle.block_model.specs.declared.reply.Point.{Point}
use Rattle.block_model.specs.declared.row.Query.{Query}
use Rattle.block_model.specs.declared.row.Row.{Row}
use Rattle.block_model.specs.declared.row.RowId.{RowId}
use Rattle.block_model.specs.DatabaseState.{OpenTransaction}
use Rattle.block_model.specs.RequestEffect.{rows_found}
use Rattle.block_model.specs.TableState.{id_cmp, ids_total}
use Rattle.page_layout.specs.RowBytes.{StoredRow}
use Rattle.page_locks.specs.declared.did.Did.TheVariants as did
use Rattle.heap_rows.specs.RowPlaces.{slot_at}
use Rattle.store_layout.specs.declared.limits.TheConstants.{MAX_ENTRIES}
use Rattle.store_layout.specs.declared.statement.Statement.TheVariants as statements
use Rattle.snapshot_core.specs.declared.sessions.Open.{Open}
use Rattle.coverage.specs.Machines.{table_state, task_turned}
use Rattle.coverage.specs.RowOrder.{AreInOrder, IsAmong}
use Rattle.coverage.specs.Table.{Marks, Scans, TableScan, TableState, Task}
use Rattle.coverage.specs.TableSteps.{ListsFound, Onward, ToMarks}
use Rattle.bitmap_scan.specs.Finds as scans
use Rattle.bitmap_scan.specs.Finds.{FindHand, is_found}
use Rattle.bitmap_scan.specs.ScanSteps.{point_at}
use Rattle.bitmap_scan.proofs.FoundRows.{slot_of_row}
use Rattle.bitmap_scan.proofs.Stepping.{onward_turned}
use Rattle.script_semantics.specs.Place.{Place, database_at, new_hand}
use Rattle.script_semantics.specs.StatementSteps.{Moved, Steps}
use Rattle.session_parts.specs.declared.hand.Hand.TheVariants as hands
use Rattle.session_parts.specs.declared.hand.Hit.{Hit}
use Rattle.session_parts.specs.declared.hand.Marking.{Marking}
use Rattle.session_parts.specs.Hands.{hits_left, ids_of}
use Rattle.session_parts.specs.HandsInTables.{IsMarkingAt}
use Rattle.session_parts.specs.ShowsPlace.{IsLeftToMark, IsPlaceOf}
use Rattle.session_parts.specs.StoreStates.{ShownStore, hand_in}
use Rattle.session_parts.proofs.Leads.{scan_saw_rows}
use Rattle.session_scans.specs.declared.looking.Looking.TheVariants as lookings
use Rattle.session_scans.specs.FoundLists.{ListsHits, hit_of, rows_of}
use Rattle.session_scans.specs.LookLaws.{LookLaws}
use Rattle.session_scans.proofs.Found.{found_here, goes, ids_distinct, now, read, rows_are, rows_sorted, scan_then, sees_found, sees_standing}
use Rattle.session_scans.proofs.GoesOn.{moves_on}
use Rattle.session_scans.proofs.Stepped.{MakesStep}
use Rattle.session_scans.proofs.Led.{ScanLeft}
use Rattle.session_scans.proofs.Ordered.{among_them, one_among, one_at, row_ids, rows_in_order, same_ids}
use Rattle.session_scans.proofs.Standing.{LooksThere, pages_show, scans_at, shows, w}
use Rattle.session_scans.proofs.Stands.{IsThere}
use Rattle.session_scans.proofs.Turns.{copy}

module _ (laws : LookLaws) (old new : ShownStore) (n : ℕ) (before after : FindHand) (o : Open) (there : LooksThere old n lookings.Delete before o) (p : Place) (shown : IsPlaceOf old p) (left : ScanLeft old new n old.transactions)
    (few : length old.entries ≤ MAX_ENTRIES) (same_entries : new.entries ≡ old.entries) (same : after.judging.query ≡ before.judging.query) (point : Point) (named : point ≡ point_at before.judging.stage)
    (steps : MakesStep laws old n lookings.Delete before after o there p shown (did.Finished point))
    (stand : All (IsThere before.judging.query.table (shows laws old n lookings.Delete before o there p shown).blocks) after.found) (ascend : scans.Ascend 0 0 after.found)
    (hits : Vec Hit) (more_copy : Query) (lists : ListsHits after.found hits.items) (some : 0 < length hits.items) where
  abbrev query : Query
  query = before.judging.query

  abbrev number : ℕ
  number = query.table

  abbrev marking : Marking
  marking = record { query = after.judging.query; look = Some more_copy; hits = hits; next = 0 }

  abbrev ordered : List (Row × Spot)
  ordered = lists.0

  abbrev found_scan : TableScan
  found_scan = scan_then laws old n lookings.Delete before after o there p shown same point steps

  abbrev here : TableState
  here = w laws old n lookings.Delete before o there p shown

  ids_are : ids_of hits.items ≡ row_ids (rows_of ordered)
  ids_are = ap ids_of lists.2 ∙ same_ids ordered

  -- one that was found is found at its place, stands there, and its session sees it
  abbrev IsSeenThere : Row × Spot → Type 0
  IsSeenThere f = IsTrue (is_found after.found f.1.block f.1.slot) × IsThere number (shows laws old n lookings.Delete before o there p shown).blocks f × IsTrue (found_scan.sees f.1.block f.1.slot)

  all_seen : All IsSeenThere after.found
  all_seen = λ k d below. (found_here after.found k d below, stand k d below, sees_found laws old n lookings.Delete before after o there p shown same point steps stand k d below)

  ordered_seen : All IsSeenThere ordered
  ordered_seen = All-permutation IsSeenThere after.found ordered lists.1.permutation all_seen

  ids_in_order : AreInOrder (row_ids (rows_of ordered))
  ids_in_order = rows_in_order (rows_of ordered)
      (IsDistinct-IsPermutation (eq_by_cmp id_cmp) (eq_by_cmp_equiv ids_total).symm (row_ids (rows_of after.found)) (row_ids (rows_of ordered))
      (IsPermutation-map (λ (r : Row). r.id) (rows_of after.found) (rows_of ordered) (IsPermutation-map (λ (f : Row × Spot). f.0) after.found ordered lists.1.permutation))
      (ids_distinct laws old n lookings.Delete before after o there p shown same point steps stand ascend))
      (rows_sorted ordered lists.1.sorted)

  each_among : (b k : ℕ) (r : Row) → IsTrue (found_scan.found b k) → here.row b k ≡ Some r → IsAmong (row_ids (rows_of ordered)) r.id
  each_among b k r found is =
      let one = one_at after.found b k found in
      let its_row : here.row b k ≡ Some one.one.0 =
      (λ i. here.row (sym one.block i) (sym one.slot i)) ∙ All-contains (IsThere number (shows laws old n lookings.Delete before o there p shown).blocks) after.found one.one stand one.contained in
      subst (λ (x : Row). IsAmong (row_ids (rows_of ordered)) x.id) (same_Some one.one.0 r (sym its_row ∙ is)) (among_them ordered one.one (Contains-permutation after.found ordered one.one lists.1.permutation one.contained))

  only_those : (id : RowId) → IsAmong (row_ids (rows_of ordered)) id → (b : ℕ) × (k : ℕ) × (r : Row) × IsTrue (found_scan.found b k) × (here.row b k ≡ Some r) × (r.id ≡ id)
  only_those id among =
      let one = one_among IsSeenThere ordered (recursion_from_All IsSeenThere ordered ordered_seen) id among in
      (one.0.1.block, one.0.1.slot, one.0.0, one.1.0, one.1.1, one.2)

  found_listed : (ids : List RowId) → row_ids (rows_of ordered) ≡ ids → ListsFound here found_scan ids
  found_listed ids is = subst (ListsFound here found_scan) is (record { ordered = ids_in_order; all = each_among; only = only_those })

  abbrev next : Task
  next = Marks found_scan (ids_of (hits_left marking))

  to_marks : (items : List Hit) → 0 < length items → row_ids (rows_of ordered) ≡ ids_of items → Onward here (Scans found_scan) (Marks found_scan (ids_of items))
  to_marks [] none is = absurd (omega arith)
  to_marks (h ∷ items) some is = ToMarks found_scan h.id (ids_of items) (read laws old n lookings.Delete before after o there p shown same point steps) refl refl (found_listed (h.id ∷ ids_of items) is)

  marks_stand : All (λ (h : Hit). (row : StoredRow) × (slot_at (shows laws old n lookings.Delete before o there p shown).blocks h.spot ≡ Some row) × (row.id ≡ h.id) × IsTrue (found_scan.sees h.spot.block h.spot.slot)) hits.items
  marks_stand =
      let Q : Hit → Type 0 = λ h. (row : StoredRow) × (slot_at (shows laws old n lookings.Delete before o there p shown).blocks h.spot ≡ Some row) × (row.id ≡ h.id) × IsTrue (found_scan.sees h.spot.block h.spot.slot) in
      subst (All Q) (sym lists.2) (All-map Q hit_of ordered (All-weaker IsSeenThere (λ (f : Row × Spot). Q (hit_of f)) (λ f seen.
      let slot = slot_of_row number (slot_at (shows laws old n lookings.Delete before o there p shown).blocks f.1) f.0 seen.1 in
      (slot.0, slot.1, sym (ap (λ (r : Row). r.id) slot.2), seen.2)) ordered ordered_seen))

  module _ (is : hand_in new.hands n ≡ Some (hands.Marks marking)) where
    marking_at : IsMarkingAt old.transactions.tx.first shown.database.stored o (shows laws old n lookings.Delete before o there p shown).blocks marking next
    marking_at = record {
      scan = found_scan;
      task_is = refl;
      stand = marks_stand;
      standing = sees_standing laws old n lookings.Delete before after o there p shown same point steps stand;
      saw = scan_saw_rows old.transactions.tx shown.database.stored o found_scan.sees (shows laws old n lookings.Delete before o there p shown).blocks (scans_at laws old n lookings.Delete before o there p shown).now;
    }

    -- it has to mark what the query finds in the session's copy
    left_to_mark : (x : Option OpenTransaction) → x ≡ Some (copy laws old n lookings.Delete before o there p shown).0 → IsLeftToMark x (hands.Marks marking)
    left_to_mark x got = subst (λ (y : Option OpenTransaction). IsLeftToMark y (hands.Marks marking)) (sym got)
        (ap (λ (q : Query). row_ids (rows_found (copy laws old n lookings.Delete before o there p shown).0 q)) same
        ∙ ap row_ids (sym (rows_are laws old n lookings.Delete before after o there p shown same point steps stand ascend (rows_of ordered) (ordered, lists.1, refl))) ∙ sym ids_are)

    pub goes_to_marks : (q : Place) × IsPlaceOf new q × Steps p n (Moved point) q
    goes_to_marks =
        let its_goes = goes laws old n lookings.Delete before after o there p shown same point steps in
        moves_on laws old new n lookings.Delete before after o there p shown left few same_entries same point named (now laws old n lookings.Delete before after o there p shown same point steps) its_goes next (λ rests. cc)
        (its_goes.onward next (onward_there next (to_marks hits.items some (sym ids_are)))) (hands.Marks marking) is tt (λ other there_is. sym (same_Some after.judging.query.table other there_is))
        ((λ own. marking_at), (λ away. absurd (away (ap (λ (q : Query). q.table) same)))) (new_hand (statements.Delete after.judging.query), refl, refl, (refl, refl), refl)
        (left_to_mark (finite.get (database_at p).sessions n) (copy laws old n lookings.Delete before o there p shown).1)
      where
        onward_there : (task : Task) → Onward here (Scans found_scan) task
            → Onward (table_state (pages_show laws old n lookings.Delete before o there p shown) (task_turned n (Scans (goes laws old n lookings.Delete before after o there p shown same point steps).done) (shows laws old n lookings.Delete before o there p shown).unseen)) (Scans found_scan) task
        onward_there task onward = onward_turned (pages_show laws old n lookings.Delete before o there p shown) (shows laws old n lookings.Delete before o there p shown).unseen n
            (Scans (goes laws old n lookings.Delete before after o there p shown same point steps).done) found_scan task onward
