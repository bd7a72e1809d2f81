-- what a scan has found with its last step
use Rattle.std.proofs.Common.{◌≡◌, ◌≢◌, inl, inr, ℕ, zero, suc, ◌+◌, ◌<◌, ◌≤◌, ◌==◌, Bool, true, false, ◌&&◌, ◌||◌, List, [], ◌∷◌, length, map, get_or, Option, None, Some, All, IsSorted, refl, sym, ap, ◌∙◌, arith}
use Rattle.std.specs.Prelude.{IsTrue}
use Rattle.std.specs.List.{IsDistinct}
use Rattle.std.specs.Ordering.{eq_by_cmp, is_lt}
use Rattle.std.proofs.lemmas.Bool.{eq-eqb, false≢true}
use Rattle.std.proofs.lemmas.List.{get_or-map, length-map}
use Rattle.std.proofs.lemmas.List.Sorted.{IsPermutation-map}
use Rattle.std.proofs.lemmas.Option.{none-some, same_Some}
use Rattle.block_model.specs.declared.place.Spot.{Spot}
use Rattle.block_model.specs.declared.reply.Point.{Point}
use Rattle.block_model.specs.declared.row.Query.{Query}
use Rattle.block_model.specs.declared.row.Row.{Row}
use Rattle.block_model.specs.RequestEffect.{rows_found}
use Rattle.block_model.specs.RowMatches.{row_matches}
use Rattle.block_model.specs.TableState.{id_cmp}
use Rattle.page_layout.specs.RowBytes.{StoredRow}
use Rattle.page_locks.specs.declared.did.Did.TheVariants as did
use Rattle.heap_rows.specs.RowPlaces.{slot_at}
use Rattle.snapshot_core.specs.declared.sessions.Open.{Open}
use Rattle.transactions.specs.FoundRows as transactions
use Rattle.transactions.specs.FoundRows.{AreFound, IsFoundThere}
use Rattle.transactions.specs.StoredRows.{row_of, sees_row}
use Rattle.transactions.proofs.Found.{distinct_found}
use Rattle.index_steps.specs.ShownRows.{row_in}
use Rattle.coverage.specs.Table.{TableScan}
use Rattle.coverage.specs.TableSteps.{IsScanRead}
use Rattle.bitmap_scan.specs.Finds as scans
use Rattle.bitmap_scan.specs.Finds.{FindHand, is_found}
use Rattle.bitmap_scan.specs.ScanSteps.{ScanGoes, account_at}
use Rattle.bitmap_scan.specs.TableScans.{is_match}
use Rattle.bitmap_scan.proofs.FoundRows.{slot_of_row}
use Rattle.script_semantics.specs.Place.{Place, database_at}
use Rattle.session_parts.specs.ShowsPlace.{IsPlaceOf}
use Rattle.session_parts.specs.StoreStates.{ShownStore}
use Rattle.session_scans.specs.declared.looking.Looking.{Looking}
use Rattle.session_scans.specs.FoundLists.{ListsRows, rows_of}
use Rattle.session_scans.specs.LookLaws.{LookLaws}
use Rattle.session_scans.specs.Looks.{deletes_of}
use Rattle.session_scans.proofs.Stepped.{MakesStep, stepped}
use Rattle.session_scans.proofs.Standing.{LooksThere, ScansAt, pages_show, scans_at, shows, sight, w}
use Rattle.session_scans.proofs.Stands.{IsThere}
use Rattle.session_scans.proofs.Turns.{between_kept, copy, done, done_there, matches_there, scan_after}

or_right : (a b : Bool) → IsTrue b → IsTrue (a || b)
or_right true b h = refl
or_right false b h = h

-- what is in the list is found at its place
pub found_here : (found : List (Row × Spot)) (k : ℕ) (d : Row × Spot) → k < length found → IsTrue (is_found found (get_or found k d).1.block (get_or found k d).1.slot)
found_here [] k d below = absurd (omega arith)
found_here (x ∷ found) zero d below = λ i. (eq-eqb x.1.block x.1.block refl i && eq-eqb x.1.slot x.1.slot refl i) || is_found found x.1.block x.1.slot
found_here (x ∷ found) (suc k) d below = or_right ((x.1.block == (get_or found k d).1.block) && (x.1.slot == (get_or found k d).1.slot))
    (is_found found (get_or found k d).1.block (get_or found k d).1.slot) (found_here found k d (omega arith))

-- places that ascend, in either word
pub ascends : (block slot : ℕ) (found : List (Row × Spot)) → scans.Ascend block slot found → transactions.Ascend block slot found
ascends block slot [] up = tt
ascends block slot (f ∷ found) up = (up.0, ascends f.1.block (f.1.slot + 1) found up.1)

no_spot : Spot
no_spot = record { block = 0; slot = 0 }

-- rows of what is in order are in order
pub rows_sorted : (ordered : List (Row × Spot)) → IsSorted (λ (a b : Row × Spot). id_cmp a.0.id b.0.id) ordered → IsSorted (λ (a b : Row). id_cmp a.id b.id) (rows_of ordered)
rows_sorted ordered sorted = λ k d low more.
    let within : k + 1 < length ordered = omega (arith, more, length-map ordered (λ (f : Row × Spot). f.0)) in
    (λ i. is_lt (id_cmp (get_or-map (λ (f : Row × Spot). f.0) ordered (k + 1) (d, no_spot) d within i).id (get_or-map (λ (f : Row × Spot). f.0) ordered k (d, no_spot) d (omega (arith, within)) i).id))
    ∙ sorted k (d, no_spot) low within

module _ (laws : LookLaws) (old : ShownStore) (n : ℕ) (looking : Looking) (before after : FindHand) (o : Open) (there : LooksThere old n looking before o) (p : Place) (shown : IsPlaceOf old p)
    (same : after.judging.query ≡ before.judging.query) (point : Point) (steps : MakesStep laws old n looking before after o there p shown (did.Finished point)) where
  abbrev query : Query
  query = before.judging.query

  abbrev at : ScansAt old.layout (pages_show laws old n looking before o there p shown) (shows laws old n looking before o there p shown).unseen n (shows laws old n looking before o there p shown).blocks
      (sight laws old n looking before o there p shown) (deletes_of looking) before
  at = scans_at laws old n looking before o there p shown

  abbrev pub now : ℕ → ℕ → Option Bool
  now = (stepped laws old n looking before after o there p shown (did.Finished point) steps).0

  abbrev pub scan_then : TableScan
  scan_then = scan_after laws old n looking before o there p shown after same now point

  abbrev pub goes : ScanGoes n (pages_show laws old n looking before o there p shown) (shows laws old n looking before o there p shown).unseen point (account_at before.judging.stage) scan_then
  goes = (stepped laws old n looking before after o there p shown (did.Finished point) steps).1.0

  pub read : IsScanRead (w laws old n looking before o there p shown) scan_then
  read = (stepped laws old n looking before after o there p shown (did.Finished point) steps).1.1

  abbrev its_done : TableScan
  its_done = done laws old n looking before o there p shown after same now point goes

  -- what it found and what it sees is that of the scan within its step
  found_is : (b k : ℕ) → its_done.found b k ≡ is_found after.found b k
  found_is b k = ap (λ (x : TableScan). x.found b k) (sym goes.same)

  pub sees_is : (b k : ℕ) → its_done.sees b k ≡ at.sees b k
  sees_is b k = ap (λ (x : TableScan). x.sees b k) (sym goes.same)

  matches_is : (r : Row) → its_done.matches r ≡ is_match old.layout query r
  matches_is r = ap (λ (x : TableScan). x.matches r) (sym goes.same) ∙ ap (λ (q : Query). is_match old.layout q r) same

  -- no candidate is left to read
  none_unread : (b : ℕ) → IsTrue (its_done.candidate b) → its_done.read ≤ b → ⊥
  none_unread b candidate unread = elim read.1 [
    | inl explains ↦ false≢true explains
    | inr all ↦
        let below : b < scan_then.read = all b (ap (λ (x : TableScan). x.candidate b) goes.same ∙ candidate) in
        let same_read : its_done.read ≡ scan_then.read = ap (λ (x : TableScan). x.read) (sym goes.same) in
        absurd (omega (arith, below, unread, same_read))
  ]

  module _ (stand : All (IsThere query.table (shows laws old n looking before o there p shown).blocks) after.found) where
    -- each visible match is found
    all_found : (spot : Spot) (row : StoredRow) → slot_at (shows laws old n looking before o there p shown).blocks spot ≡ Some row → sees_row old.transactions.tx.first shown.database.stored o row ≡ true
        → row_matches query (row_of query.table row) ≡ true → is_found after.found spot.block spot.slot ≡ true
    all_found spot row is seen matches =
        let sees : IsTrue (its_done.sees spot.block spot.slot) = sees_is spot.block spot.slot ∙ at.now spot.block spot.slot row is ∙ seen in
        let there_is : (w laws old n looking before o there p shown).row spot.block spot.slot ≡ Some (row_of query.table row) = ap (row_in query.table) is in
        let known = (between_kept laws old n looking before o there p shown after same now point goes).scans n its_done (done_there laws old n looking before o there p shown after same now point goes) spot.block spot.slot sees in
        let same_row : known.0 ≡ row_of query.table row = same_Some known.0 (row_of query.table row) (sym known.1 ∙ there_is) in
        let matched : IsTrue (its_done.matches known.0) = matches_is known.0 ∙ matches_there laws old n looking before o there p shown spot.block spot.slot known.0 known.1 ∙ ap (row_matches query) same_row ∙ matches in
        elim (known.2 matched) [
          | inl found ↦ sym (found_is spot.block spot.slot) ∙ found
          | inr unread ↦ absurd (none_unread spot.block unread.0 unread.1)
        ]

    -- what is found its session sees
    pub sees_found : (k : ℕ) (d : Row × Spot) → k < length after.found → IsTrue (at.sees (get_or after.found k d).1.block (get_or after.found k d).1.slot)
    sees_found k d below =
        let f : Row × Spot = get_or after.found k d in
        let known = (between_kept laws old n looking before o there p shown after same now point goes).finds n its_done (done_there laws old n looking before o there p shown after same now point goes) f.1.block f.1.slot
        (found_is f.1.block f.1.slot ∙ found_here after.found k d below) in
        sym (sees_is f.1.block f.1.slot) ∙ known.2

    -- where its session sees a row, it stands
    pub sees_standing : (x : Spot) → IsTrue (at.sees x.block x.slot) → slot_at (shows laws old n looking before o there p shown).blocks x ≢ None
    sees_standing x sees none =
        let known = (between_kept laws old n looking before o there p shown after same now point goes).scans n its_done (done_there laws old n looking before o there p shown after same now point goes) x.block x.slot
        (sees_is x.block x.slot ∙ sees) in
        none-some known.0 (sym (ap (row_in query.table) none) ∙ known.1)

    -- and each that is found is one, and stands there
    is_found_there : (k : ℕ) (d : Row × Spot) → k < length after.found
        → IsFoundThere (sees_row old.transactions.tx.first shown.database.stored o) query (shows laws old n looking before o there p shown).blocks (get_or after.found k d)
    is_found_there k d below =
        let f : Row × Spot = get_or after.found k d in
        let slot = slot_of_row query.table (slot_at (shows laws old n looking before o there p shown).blocks f.1) f.0 (stand k d below) in
        let known = (between_kept laws old n looking before o there p shown after same now point goes).finds n its_done (done_there laws old n looking before o there p shown after same now point goes) f.1.block f.1.slot
        (found_is f.1.block f.1.slot ∙ found_here after.found k d below) in
        let same_row : known.0 ≡ f.0 = same_Some known.0 f.0 (sym known.1 ∙ stand k d below) in
        record {
          stored = slot.0;
          there = slot.1;
          is = slot.2;
          seen = sym (sees_is f.1.block f.1.slot ∙ at.now f.1.block f.1.slot slot.0 slot.1) ∙ known.2;
          matches = ap (row_matches query) (sym same_row) ∙ sym (matches_is known.0 ∙ matches_there laws old n looking before o there p shown f.1.block f.1.slot known.0 known.1) ∙ known.3;
        }

    module _ (ascend : scans.Ascend 0 0 after.found) where
      -- no two of them have one id
      one_place : (spot other : Spot) (row stands : StoredRow) → slot_at (shows laws old n looking before o there p shown).blocks spot ≡ Some row
          → slot_at (shows laws old n looking before o there p shown).blocks other ≡ Some stands → stands.id ≡ row.id → other ≡ spot
      one_place spot other row stands is is_other alike =
          let has = (shows laws old n looking before o there p shown).has in
          let blocks = (shows laws old n looking before o there p shown).blocks in
          (laws.apart old.layout old.pages old.transactions (database_at p) query.table query.table other spot stands row shown.database there.find.judging.table there.find.judging.table
          (record { blocks = blocks; has = has; there = is_other }) (record { blocks = blocks; has = has; there = is }) alike).1

      pub ids_distinct : IsDistinct (eq_by_cmp id_cmp) (map (λ (r : Row). r.id) (rows_of after.found))
      ids_distinct = distinct_found (sees_row old.transactions.tx.first shown.database.stored o) query (shows laws old n looking before o there p shown).blocks one_place 0 0 after.found (ascends 0 0 after.found ascend) is_found_there

      pub are_found : AreFound (sees_row old.transactions.tx.first shown.database.stored o) query (shows laws old n looking before o there p shown).blocks after.found
      are_found = record { ascend = ascends 0 0 after.found ascend; there = is_found_there; all = all_found }

      -- in order of the ids it is what the query finds in the session's copy
      pub rows_are : (rows : List Row) → ListsRows after.found rows → rows ≡ rows_found (copy laws old n looking before o there p shown).0 query
      rows_are rows lists =
          let its_copy = copy laws old n looking before o there p shown in
          lists.2 ∙ laws.found old.layout old.pages old.transactions (database_at p) shown.database.stored n o its_copy.0 query (shows laws old n looking before o there p shown).blocks after.found (rows_of lists.0)
          shown.database shown.database.has there.opened its_copy.1 there.find.judging.table (shows laws old n looking before o there p shown).has are_found
          (IsPermutation-map (λ (f : Row × Spot). f.0) after.found lists.0 lists.1.permutation) (rows_sorted lists.0 lists.1.sorted)
