-- Where a delete stands that marks, as the parts of a store show it.
use Rattle.std.proofs.Common.{◌≡◌, ℕ, suc, ◌+◌, Bool, true, false, List, [], ◌∷◌, ◌++◌, length, drop, map, Option, None, Some, All, refl, sym, ap, ◌∙◌, subst, append_assoc}
use Rattle.std.specs.Prelude.{IsTrue}
use Rattle.std.specs.List.{slice_get}
use Rattle.std.specs.FinMap as finite
use Rattle.std.proofs.lemmas.List.{append-nil}
use Rattle.std.proofs.lemmas.List.Elements.{All-head}
use Rattle.block_model.specs.declared.request.Entry.{Entry}
use Rattle.block_model.specs.declared.request.Request.TheVariants as requests
use Rattle.block_model.specs.declared.row.Query.{Query}
use Rattle.block_model.specs.declared.row.Row.{Row}
use Rattle.block_model.specs.declared.row.RowId.{RowId}
use Rattle.block_model.specs.DatabaseState.{OpenTransaction}
use Rattle.block_model.specs.RequestEffect.{Answer, after_mark, rows_found}
use Rattle.page_layout.specs.RowBytes.{StoredRow}
use Rattle.heap_rows.specs.RowPlaces.{slot_at}
use Rattle.store_layout.specs.StatementRequests.{look_entry, request_entry}
use Rattle.snapshot_core.specs.declared.sessions.Open.{Open}
use Rattle.snapshot_core.specs.StoredVersions.{transaction_of}
use Rattle.transactions.specs.Laws.{CopyStands, SessionsAreShown}
use Rattle.transactions.specs.Sessions.{IsCopyOf}
use Rattle.coverage.specs.Accounts.{no_account}
use Rattle.coverage.specs.Table.{Marks, TableState}
use Rattle.script_semantics.specs.Place.{Place, database_at}
use Rattle.session_parts.specs.declared.hand.Hand.{Hand}
use Rattle.session_parts.specs.declared.hand.Hand.TheVariants as hands
use Rattle.session_parts.specs.declared.hand.Hit.{Hit}
use Rattle.session_parts.specs.declared.hand.Marking.{Marking}
use Rattle.session_parts.specs.HandFits.{IsMarkingFor, IsUnderWay}
use Rattle.session_parts.specs.Hands.{HandShows, MarkAnswers, hits_left, ids_of}
use Rattle.session_parts.specs.HandsInTables.{IsMarkingAt, IsMarkingBy, IsTaskOf}
use Rattle.session_parts.specs.Shares.{look_share}
use Rattle.session_parts.specs.ShowsPlace.{AreInCopy, AreToMark, IsLeftToMark, IsPlaceOf, ShowsTable}
use Rattle.session_parts.specs.StoreStates.{ShownStore, hand_in}
use Rattle.session_transactions.specs.Looks.{look_entries}
use Rattle.session_transactions.proofs.Copies.{found_in_copy, others_in_copy}
use Rattle.session_transactions.proofs.Definition.{StandsAtMark}
use Rattle.session_transactions.proofs.Entries.{HasMarked, entries_of}
use Rattle.session_transactions.proofs.Hits.{IsFirstOf, hits_from, rows_from}

-- whether the look is still to be entered
abbrev pub is_first : Option Query → Bool
is_first None = false
is_first (Some look) = true

-- the session's transaction, which hasn't failed
pub under_way : (own : Option Open) → IsUnderWay own → (o : Open) × (own ≡ Some o) × (o.failed ≡ false)
under_way None is = absurd is
under_way (Some o) is = (o, refl, is)

-- the hits that are left are in the copy
left_in : (look : Option Query) (marking : Marking) (answers : List Answer) (x : OpenTransaction) → ((id : RowId) (r : Row) → finite.get x.view id ≡ Some r → r.id ≡ id) → MarkAnswers look marking answers → AreToMark look x marking
    → AreInCopy x (ids_of (hits_left marking))
left_in (Some look) marking answers x at_ids are to_mark = subst (AreInCopy x) (to_mark ∙ ap (λ (k : ℕ). ids_of (drop k marking.hits.items)) (sym are.1)) (found_in_copy x marking.query at_ids)
left_in None marking answers x at_ids are to_mark = to_mark

-- the rows of its query, of which so many are marked
answered : (look : Option Query) (marking : Marking) (answers : List Answer) (x : OpenTransaction) → MarkAnswers look marking answers → AreToMark look x marking
    → (rows : List Row) × HasMarked (is_first look) (rows_found x marking.query) rows marking.next answers × (map (λ (r : Row). r.id) rows ≡ ids_of marking.hits.items)
answered (Some look) marking answers x are to_mark = (rows_found x marking.query, (are.0, refl, are.1), to_mark)
answered None marking answers x are to_mark = (are.0, are.2, are.1)

-- how the delete stands, and its row on the pages
pub record MarksAt (s : ShownStore) (p : Place) (n : ℕ) (marking : Marking) (hit : Hit) (o : Open) (shown : IsPlaceOf s p) : Type 0 where
  pub answers : List Answer
  pub stands : StandsAtMark p n marking.query answers (is_first marking.look) marking.next
  pub account : p.accounts n ≡ no_account
  pub its_id : stands.row.id ≡ hit.id
  pub others : map (λ (r : Row). r.id) stands.more ≡ ids_of (drop (suc marking.next) marking.hits.items)
  pub rows_ids : map (λ (r : Row). r.id) stands.rows ≡ ids_of marking.hits.items
  pub whole : stands.copy.failed ≡ false
  pub number : stands.copy.t ≡ o.t
  pub in_copy : finite.contains_key stands.copy.view hit.id ≡ true
  pub left_then : AreInCopy (after_mark stands.copy hit.id) (ids_of (drop (suc marking.next) marking.hits.items))
  pub table : ShowsTable s shown.database.stored marking.query.table (p.tables marking.query.table)
  pub marking_at : IsMarkingAt s.transactions.tx.first shown.database.stored o table.blocks marking (table.unseen.task n)
  pub scan_is : stands.scan ≡ marking_at.scan
  pub row : StoredRow
  pub there : slot_at table.blocks hit.spot ≡ Some row
  pub row_id : row.id ≡ hit.id

module _ (sessions : SessionsAreShown) (copies : CopyStands) (s : ShownStore) (p : Place) (n : ℕ) (marking : Marking) (hit : Hit) (hands_is : hand_in s.hands n ≡ Some (hands.Marks marking))
    (fits : IsMarkingFor s.layout marking) (o : Open) (opened : transaction_of s.transactions.opens n ≡ Some o) (whole : o.failed ≡ false) (next : slice_get marking.hits.items marking.next ≡ Some hit)
    (shown : IsPlaceOf s p) where
  abbrev Id : Row → RowId
  Id r = r.id

  abbrev shows : HandShows (Some (hands.Marks marking)) (p.hands n) (p.accounts n)
  shows = subst (λ (h : Option Hand). HandShows h (p.hands n) (p.accounts n)) hands_is (shown.hands n)

  abbrev found : (x : OpenTransaction) × (finite.get (database_at p).sessions n ≡ Some x) × IsCopyOf o x
  found = (sessions s.layout s.pages s.transactions (database_at p) shown.database).shown n o opened

  to_mark : AreToMark marking.look found.0 marking
  to_mark = subst (λ (c : Option OpenTransaction). IsLeftToMark c (hands.Marks marking)) found.1 (shown.own n (hands.Marks marking) hands_is)

  left_is : ids_of (hits_left marking) ≡ hit.id ∷ ids_of (drop (suc marking.next) marking.hits.items)
  left_is = ap ids_of (hits_from marking.hits.items marking.next hit next)

  abbrev its_rows : (rows : List Row) × HasMarked (is_first marking.look) (rows_found found.0 marking.query) rows marking.next shows.0.answers × (map Id rows ≡ ids_of marking.hits.items)
  its_rows = answered marking.look marking shows.0.answers found.0 shows.3 to_mark

  abbrev here : IsFirstOf (drop marking.next its_rows.0) hit.id (ids_of (drop (suc marking.next) marking.hits.items))
  here = rows_from its_rows.0 marking.hits.items marking.next hit its_rows.2 next

  abbrev table : ShowsTable s shown.database.stored marking.query.table (p.tables marking.query.table)
  table = shown.tables marking.query.table fits.table

  abbrev marking_at : IsMarkingAt s.transactions.tx.first shown.database.stored o table.blocks marking (table.unseen.task n)
  marking_at = subst (λ (x : Option Open). IsMarkingBy s.transactions.tx shown.database.stored x table.blocks marking (table.unseen.task n)) opened
      ((subst (λ (h : Option Hand). IsTaskOf s.layout marking.query.table table.blocks s.transactions.tx shown.database.stored (transaction_of s.transactions.opens n) h (table.unseen.task n)) hands_is (table.tasks n)).0 refl)

  in_view : AreInCopy found.0 (hit.id ∷ ids_of (drop (suc marking.next) marking.hits.items))
  in_view = subst (AreInCopy found.0) left_is (left_in marking.look marking shows.0.answers found.0
      (λ id r is. (copies s.layout s.pages s.transactions (database_at p) n found.0 id r shown.database found.1 is).1) shows.3 to_mark)

  abbrev stands : StandsAtMark p n marking.query shows.0.answers (is_first marking.look) marking.next
  stands = record {
    in_hand = shows.1 ∙ (λ i. Some (record { statement = shows.2 i; answers = shows.0.answers }));
    copy = found.0;
    got = found.1;
    rows = its_rows.0;
    has = its_rows.1;
    row = here.row;
    more = here.more;
    left = here.is;
    scan = marking_at.scan;
    at = ap (λ (w : TableState). w.task n) table.shown ∙ marking_at.task_is ∙ ap (Marks marking_at.scan) (left_is ∙ (λ i. sym here.its_id i ∷ sym here.others i));
  }

  abbrev on_pages : (row : StoredRow) × (slot_at table.blocks hit.spot ≡ Some row) × (row.id ≡ hit.id) × IsTrue (marking_at.scan.sees hit.spot.block hit.spot.slot)
  on_pages = All-head (λ (h : Hit). (row : StoredRow) × (slot_at table.blocks h.spot ≡ Some row) × (row.id ≡ h.id) × IsTrue (marking_at.scan.sees h.spot.block h.spot.slot)) hit (drop (suc marking.next) marking.hits.items)
      (subst (All (λ (h : Hit). (row : StoredRow) × (slot_at table.blocks h.spot ≡ Some row) × (row.id ≡ h.id) × IsTrue (marking_at.scan.sees h.spot.block h.spot.slot)))
      (hits_from marking.hits.items marking.next hit next) marking_at.stand)

  pub marks_at : MarksAt s p n marking hit o shown
  marks_at = record {
    answers = shows.0.answers;
    stands = stands;
    account = shows.4;
    its_id = here.its_id;
    others = here.others;
    rows_ids = its_rows.2;
    whole = found.2.failed ∙ whole;
    number = found.2.t;
    in_copy = All-head (λ (id : RowId). finite.contains_key found.0.view id ≡ true) hit.id (ids_of (drop (suc marking.next) marking.hits.items)) in_view.1;
    left_then = others_in_copy found.0 hit.id (ids_of (drop (suc marking.next) marking.hits.items)) in_view;
    table = table;
    marking_at = marking_at;
    scan_is = refl;
    row = on_pages.0;
    there = on_pages.1;
    row_id = on_pages.2;
  }

-- ---- the entries

pub count_entries : (look : Option Query) (n : ℕ) (q : Query) (row : Row) → length (entries_of (is_first look) n q row) ≡ look_share look + 1
count_entries None n q row = refl
count_entries (Some look) n q row = refl

pub entries_are : (look : Option Query) (n : ℕ) (q : Query) (row : Row) (id : RowId) (entries : List Entry) → ((copy : Query) → look ≡ Some copy → copy ≡ q) → row.id ≡ id
    → (entries ++ look_entries n look) ++ request_entry n q.table (requests.Mark id) ∷ [] ≡ entries ++ entries_of (is_first look) n q row
entries_are None n q row id entries copied its_id = λ i. append-nil entries i ++ request_entry n q.table (requests.Mark (sym its_id i)) ∷ []
entries_are (Some copy) n q row id entries copied its_id = append_assoc entries (look_entry n copy ∷ []) _ ∙ (λ i. entries ++ look_entry n (copied copy refl i) ∷ request_entry n q.table (requests.Mark (sym its_id i)) ∷ [])
