-- A mark that is answered, in a place that a store shows: the step in its table, and what its entries lead to.
use Rattle.std.proofs.Common.{◌≡◌, ℕ, ◌<◌, Bool, true, List, [], ◌∷◌, ◌++◌, length, Option, Some, sym, ap, ◌∙◌, subst, append_assoc}
use Rattle.std.specs.FinMap as finite
use Rattle.std.proofs.lemmas.Option.{same_Some}
use Rattle.block_model.specs.declared.place.Place.{Place as PagePlace}
use Rattle.block_model.specs.declared.request.Entry.{Entry}
use Rattle.block_model.specs.declared.request.Request.TheVariants as requests
use Rattle.block_model.specs.declared.row.Query.{Query}
use Rattle.block_model.specs.declared.row.RowId.{RowId}
use Rattle.block_model.specs.DatabaseState.{DatabaseState}
use Rattle.block_model.specs.RequestEffect.{Answer, effect}
use Rattle.block_model.specs.SerialRun.{IsLegal, serial_run}
use Rattle.page_map.specs.PageMap.{page_at}
use Rattle.store_layout.specs.declared.statement.Statement.TheVariants as statements
use Rattle.store_layout.specs.StatementRequests.{request_entry}
use Rattle.snapshot_core.specs.declared.sessions.Open.{Open}
use Rattle.snapshot_core.specs.StoredVersions.{transaction_of}
use Rattle.page_locks.specs.RightHolders.{right_of}
use Rattle.transactions.specs.Laws.{IsMarking}
use Rattle.transactions.specs.ShowsDatabase.{DoesRequest, ShowsDatabase}
use Rattle.transactions.specs.StoredRows.{conflicts_with}
use Rattle.script_semantics.specs.Place.{Hand as HandAt, Place, database_at}
use Rattle.script_semantics.specs.Requests.{Course}
use Rattle.script_semantics.specs.StatementSteps.{course_of}
use Rattle.session_parts.specs.declared.hand.Hand.{Hand}
use Rattle.session_parts.specs.declared.hand.Hand.TheVariants as hands
use Rattle.session_parts.specs.declared.hand.Hit.{Hit}
use Rattle.session_parts.specs.declared.hand.Marking.{Marking}
use Rattle.session_parts.specs.HandsInTables.{table_in}
use Rattle.session_parts.specs.LeadLaws.{HasInHand}
use Rattle.session_parts.specs.Leaving.{IsRelationOf, LeadsTo, SameLocks, StaysWithin, StepsInTable}
use Rattle.session_parts.specs.ShowsPlace.{IsOfTransaction, IsPlaceOf}
use Rattle.session_parts.specs.StoreStates.{ShownStore, hand_in}
use Rattle.session_parts.proofs.Fronts.{fronts_within}
use Rattle.session_parts.proofs.Requests.{copies_stay}
use Rattle.session_transactions.specs.Looks.{look_entries}
use Rattle.session_transactions.proofs.Definition.{course, course_is}
use Rattle.session_transactions.proofs.Entries.{all_within, entries_of, legal_mark}
use Rattle.session_transactions.proofs.Standing.{MarksAt, entries_are, is_first}

module _ (s then : ShownStore) (n : ℕ) (marking : Marking) (hit : Hit) (o : Open) (p : Place) (shown : IsPlaceOf s p) (at : MarksAt s p n marking hit o shown) where
  abbrev table : ℕ
  table = marking.query.table

  in_copy : (id : RowId) → id ≡ hit.id → finite.contains_key at.stands.copy.view id ≡ true
  in_copy id is = subst (λ (id : RowId). finite.contains_key at.stands.copy.view id ≡ true) (sym is) at.in_copy

  pub is_marking : (conflict : Bool) → table < length s.layout.schema.tables → transaction_of s.transactions.opens n ≡ Some o → conflicts_with s.transactions.tx.first shown.database.stored o.t at.row ≡ conflict
      → IsMarking s.layout s.pages s.transactions (database_at p) n table o at.row conflict
  is_marking conflict below opened conflicts = record {
    shows = shown.database;
    opened = opened;
    below = below;
    copy = at.stands.copy;
    under_way = at.stands.got;
    in_copy = in_copy at.row.id at.row_id;
    stored = shown.database.stored;
    has = shown.database.has;
    conflicts = conflicts;
  }

  pub steps_in_table : hand_in s.hands n ≡ Some (hands.Marks marking) → table < length s.layout.schema.tables
      → ((place : PagePlace) → (IsRelationOf s.layout table place.relation → ⊥) → page_at then.pages place ≡ page_at s.pages place) → then.locks ≡ s.locks → then.rights ≡ s.rights
      → (hand_then : Option Hand) → hand_in then.hands n ≡ hand_then → ((other : ℕ) → table_in s.layout hand_then ≡ Some other → other ≡ table) → StepsInTable n table s then
  steps_in_table is below pages locks rights hand_then hand_is is_there = record {
    below = below;
    pages = pages;
    locks = SameLocks locks;
    rights = λ other apart. ap (λ (r : List (Option ℕ)). right_of r other) rights;
    was_in = λ other there. sym (same_Some table other (sym (ap (table_in s.layout) is) ∙ there));
    is_in = λ other there. is_there other (sym (ap (table_in s.layout) hand_is) ∙ there);
  }

  module _ (answer : RowId → Answer) (made : DoesRequest s.layout then.pages then.transactions (database_at p) (request_entry n table (requests.Mark at.row.id)) (answer at.row.id))
      (looks : (copy : Query) → marking.look ≡ Some copy → copy ≡ marking.query) (entries : then.entries ≡ (s.entries ++ look_entries n marking.look) ++ request_entry n table (requests.Mark hit.id) ∷ []) where
    pub does : effect (database_at p) (request_entry n table (requests.Mark at.stands.row.id)) ≡ (made.0, answer at.stands.row.id)
    does = subst (λ (id : RowId). effect (database_at p) (request_entry n table (requests.Mark id)) ≡ (made.0, answer id)) (at.row_id ∙ sym at.its_id) made.1

    abbrev its_course : Course
    its_course = course p n marking.query at.answers (is_first marking.look) marking.next at.stands (answer at.stands.row.id) made.0 does

    its_journal : its_course.journal ≡ p.journal ++ entries_of (is_first marking.look) n marking.query at.stands.row
    its_journal = (course_is p n marking.query at.answers (is_first marking.look) marking.next at.stands (answer at.stands.row.id) made.0 does).journal

    pub longer : then.entries ≡ its_course.journal
    longer = entries ∙ entries_are marking.look n marking.query at.stands.row hit.id s.entries looks at.its_id
        ∙ ap (λ (l : List Entry). l ++ entries_of (is_first marking.look) n marking.query at.stands.row) (sym shown.journal) ∙ sym its_journal

    run : serial_run p.opening then.entries ≡ made.0
    run = ap (serial_run p.opening) longer ∙ (course_is p n marking.query at.answers (is_first marking.look) marking.next at.stands (answer at.stands.row.id) made.0 does).run

    pub leads : (at_then : Option HandAt) → HasInHand s then n at_then (p.accounts n) made.0 → StaysWithin s then → LeadsTo s then p n at_then (p.accounts n)
    leads at_then has stays = record {
      database = subst (ShowsDatabase s.layout then.pages then.transactions) (sym run) made.2;
      legal = subst (IsLegal p.opening) (sym (longer ∙ its_journal))
          (legal_mark p.opening n marking.query (course_of p (record { statement = statements.Delete marking.query; answers = at.answers })) at.stands.copy at.stands.got (is_first marking.look) at.stands.row shown.legal at.whole
          (in_copy at.stands.row.id at.its_id));
      fronts = fronts_within s then p shown (look_entries n marking.look ++ request_entry n table (requests.Mark hit.id) ∷ [])
          (entries ∙ append_assoc s.entries (look_entries n marking.look) (request_entry n table (requests.Mark hit.id) ∷ [])) (all_within marking.look n table hit.id) stays;
      copies = λ m apart. ap (λ (d : DatabaseState). finite.get d.sessions m) (run ∙ sym (ap (λ (r : DatabaseState × Answer). r.0) made.1))
          ∙ copies_stay (database_at p) (request_entry n table (requests.Mark at.row.id)) m apart;
      hand = has.hand;
      own = λ hand there. subst (λ (d : DatabaseState). IsOfTransaction (transaction_of then.transactions.opens n) (finite.get d.sessions n) hand) (sym run) (has.own hand there);
      order = has.order;
    }
