-- A mark that meets a conflict, as a step of its session.
use Rattle.std.proofs.Common.{◌≡◌, ℕ, ◌≤◌, ◌==◌, Bool, true, false, not, ◌&&◌, List, [], ◌∷◌, ◌++◌, length, map, Option, None, Some, refl, sym, ap, ◌∙◌, subst}
use Rattle.std.specs.List.{slice_get}
use Rattle.std.proofs.lemmas.List.{get_or-set_other}
use Rattle.std.proofs.lemmas.Option.{none-some}
use Rattle.block_model.specs.declared.reply.Refusal.TheVariants as refusals
use Rattle.block_model.specs.declared.reply.Reply.TheVariants as replies
use Rattle.block_model.specs.declared.request.Entry.{Entry}
use Rattle.block_model.specs.declared.request.Request.TheVariants as requests
use Rattle.block_model.specs.declared.row.Row.{Row}
use Rattle.block_model.specs.declared.row.RowId.{RowId}
use Rattle.block_model.specs.RequestEffect.{Conflict, effect}
use Rattle.disk_trait.specs.Told.{Told}
use Rattle.page_map.specs.Keeps.{Tells}
use Rattle.snapshot_core.specs.declared.statuses.Status.{Status}
use Rattle.store_layout.specs.declared.limits.TheConstants.{MAX_ENTRIES}
use Rattle.store_layout.specs.declared.statement.Statement.TheVariants as statements
use Rattle.store_layout.specs.StatementRequests.{request_entry}
use Rattle.snapshot_core.specs.declared.sessions.Open.{Open}
use Rattle.snapshot_core.specs.SessionChanges.{failed_open}
use Rattle.snapshot_core.specs.StoredVersions.{transaction_of}
use Rattle.transactions.specs.CountedRows.{counts as counts_of}
use Rattle.transactions.specs.Laws.{ConflictIsShown, CopyStands, FailureCounts, SessionsAreShown}
use Rattle.transactions.specs.ShowsDatabase.{DoesRequest}
use Rattle.transactions.specs.TransactionsState.{with_failed}
use Rattle.coverage.specs.Machines.{Unseen, task_turned}
use Rattle.coverage.specs.Refusals.{HasConflict}
use Rattle.coverage.specs.Table.{Resting, TableState}
use Rattle.coverage.proofs.Views.{pick_other, pick_same}
use Rattle.script_semantics.specs.Place.{Place, database_at}
use Rattle.script_semantics.specs.StatementSteps.{Ended, Steps, StepsTo}
use Rattle.session_parts.specs.declared.hand.Hand.{Hand}
use Rattle.session_parts.specs.declared.hand.Hand.TheVariants as hands
use Rattle.session_parts.specs.declared.hand.Hit.{Hit}
use Rattle.session_parts.specs.declared.hand.Marking.{Marking}
use Rattle.session_parts.specs.declared.hand.Stepped.TheVariants as stepped
use Rattle.session_parts.specs.declared.parts.Parts.{Parts}
use Rattle.session_parts.specs.HandFits.{IsMarkingFor}
use Rattle.session_parts.specs.Hands.{HandShows}
use Rattle.session_parts.specs.HandsAsk.{IsNoInsert}
use Rattle.session_parts.specs.HandsInTables.{IsTaskOf}
use Rattle.session_parts.specs.JournalState.{JournalState}
use Rattle.session_parts.specs.Leaving.{CountsFew, LeadsTo, LeavesOthers}
use Rattle.session_parts.specs.PlacesAfter.{TurnsIn, place_after, refusal_in}
use Rattle.session_parts.specs.RefusalLaws.{CountsNoMore, refused_in}
use Rattle.session_parts.specs.ShowsPlace.{IsPlaceOf, ShowsTable}
use Rattle.session_parts.specs.Stepping.{MakesItsStep}
use Rattle.session_parts.specs.StoreLaws.{HasHand}
use Rattle.session_parts.specs.StoreStates.{ShownStore, hand_in, shown_of, store_of, with_hand}
use Rattle.session_parts.proofs.Fronts.{failure_stays_within}
use Rattle.session_parts.proofs.Leads.{failure_counts_no_more, fewer_counts_few, nothing_leaves_slots}
use Rattle.session_parts.proofs.Places.{table_step_is_shown}
use Rattle.session_parts.proofs.Refusals.{mark_is_refused}
use Rattle.session_parts.proofs.Stores.{hand_changes}
use Rattle.session_parts.proofs.Tables.{own_table_goes_on}
use Rattle.session_transactions.specs.HitConflicts.{HitConflicts}
use Rattle.session_transactions.specs.Looks.{look_entries}
use Rattle.session_transactions.proofs.Answered.{steps_in_table, is_marking, does as its_does, leads as its_leads, longer as its_longer}
use Rattle.session_transactions.proofs.Definition.{conflicts}
use Rattle.session_transactions.proofs.Standing.{MarksAt, is_first, marks_at}

-- the laws of transactions that it takes
pub record ConflictLaws : Type 0 where
  pub sessions : SessionsAreShown
  pub copies : CopyStands
  pub conflict : ConflictIsShown
  pub counts : FailureCounts

module _ {D : Type 0} (told : D → Told) (laws : ConflictLaws) (old : Parts D) (j : JournalState) (n : ℕ) (marking : Marking) (hit : Hit) (o : Open)
    (fits : IsMarkingFor old.pages.layout marking) (opened : transaction_of old.transactions.opens n ≡ Some o) (whole : o.failed ≡ false) (next : slice_get marking.hits.items marking.next ≡ Some hit)
    (conflict : HitConflicts told old.pages old.transactions.tx.first marking.query.table hit o.t true)
    (entries : j.entries ≡ (old.journal.entries ++ look_entries n marking.look) ++ request_entry n marking.query.table (requests.Mark hit.id) ∷ []) (room : length j.entries ≤ MAX_ENTRIES) where
  abbrev new : Parts D
  new = record old { transactions = with_failed old.transactions n o; journal = j }

  module _ (names : List (List ℕ)) (hands_ : List (Option Hand)) (is : hand_in hands_ n ≡ Some (hands.Marks marking)) (tells : Tells told old.pages) (p : Place) (shown : IsPlaceOf (shown_of (store_of old names hands_)) p) where
    abbrev s : ShownStore
    s = shown_of (store_of old names hands_)

    abbrev then : ShownStore
    then = shown_of (store_of new names (with_hand hands_ n None))

    abbrev table : ℕ
    table = marking.query.table

    abbrev stored : List Status
    stored = shown.database.stored

    has_none : HasHand hands_ (with_hand hands_ n None) n None
    has_none = hand_changes hands_ n (hands.Marks marking) None is

    at : MarksAt s p n marking hit o shown
    at = marks_at laws.sessions laws.copies s p n marking hit is fits o opened whole next shown

    made : DoesRequest s.layout s.pages (with_failed s.transactions n o) (database_at p) (request_entry n table (requests.Mark at.row.id)) (Conflict at.row.id)
    made = laws.conflict s.layout s.pages s.transactions (database_at p) n table o hit.spot at.row
        (is_marking s then n marking hit o p shown at true fits.table opened (sym (conflict tells stored at.table.blocks at.row shown.database.has at.table.has at.there at.row_id)))
        (record { blocks = at.table.blocks; has = at.table.has; there = at.there })

    abbrev does : effect (database_at p) (request_entry n table (requests.Mark at.stands.row.id)) ≡ (made.0, Conflict at.stands.row.id)
    does = its_does s then n marking hit o p shown at (λ id. Conflict id) made fits.look entries

    abbrev counts : ℕ → Bool
    counts = counts_of then.transactions stored

    fewer : (u : ℕ) → counts u ≡ (counts_of s.transactions stored u && not (u == o.t))
    fewer u = laws.counts s.layout s.pages s.transactions (database_at p) stored n u o shown.database shown.database.has opened

    no_more : CountsNoMore (p.tables table) counts o.t
    no_more = failure_counts_no_more s then stored table o.t (p.tables table) at.table fewer

    abbrev v : TableState
    v = refused_in n counts (p.tables table)

    turns : (turns : TurnsIn p n (statements.Delete marking.query) table v (p.accounts n)) × (refusal_in turns ≡ Some (HasConflict at.stands.row.id))
    turns = mark_is_refused p n table o.t (statements.Delete marking.query) (p.tables table) at.stands.scan at.stands.row.id (map (λ (r : Row). r.id) at.stands.more) counts refl (λ is. cc) refl at.stands.at no_more

    leaves : LeavesOthers n s then
    leaves = record {
      layout = refl;
      names = refl;
      first = refl;
      hands = has_none.others;
      opens = λ m apart. get_or-set_other old.transactions.opens n m (Some (failed_open o)) None apart;
    }

    few : CountsFew s then stored stored
    few = fewer_counts_few s then stored stored o.t fewer

    abbrev unseen : Unseen
    unseen = record (task_turned n Resting at.table.unseen) { counts = counts }

    own_task : IsTaskOf s.layout table at.table.blocks then.transactions.tx stored (transaction_of then.transactions.opens n) (hand_in then.hands n) (unseen.task n)
    own_task = subst (λ (h : Option Hand). IsTaskOf s.layout table at.table.blocks then.transactions.tx stored (transaction_of then.transactions.opens n) h (unseen.task n)) (sym has_none.own)
        (pick_same n Resting (at.table.unseen.task n))

    own_table : ShowsTable then stored table v
    own_table = own_table_goes_on s then stored n table (p.tables table) v unseen at.table.blocks at.table leaves turns.0.step (ap (refused_in n counts) at.table.shown) at.table.has at.table.lock (λ t. refl)
        (λ m apart. pick_other m n Resting (at.table.unseen.task m) apart) own_task (nothing_leaves_slots s stored n at.table.blocks)

    leads : LeadsTo s then p n None (p.accounts n)
    leads = its_leads s then n marking hit o p shown at (λ id. Conflict id) made fits.look entries None (record {
      hand = subst (λ (h : Option Hand). HandShows h None (p.accounts n)) (sym has_none.own) refl;
      own = λ now there. absurd (none-some now (sym has_none.own ∙ there));
      order = λ index below order. order;
    }) (failure_stays_within s then n o opened refl (λ place. refl))

    abbrev q : Place
    q = place_after p n table None v (p.accounts n) counts j.entries

    pub shown_then : IsPlaceOf then q
    shown_then = table_step_is_shown s then p n table None v (p.accounts n) shown leaves
        (steps_in_table s then n marking hit o p shown at is fits.table (λ place elsewhere. refl) refl refl None has_none.own (λ other there. absurd (none-some other there))) few leads own_table
        (record { queue = refl; dropped = refl; told = refl; hand = subst IsNoInsert (sym has_none.own) tt })

    pub steps_then : Steps p n (Ended (replies.Refused (refusals.Conflict hit.id))) q
    steps_then = record {
      hand = record { statement = statements.Delete marking.query; answers = at.answers };
      in_hand = at.stands.in_hand;
      steps = subst (λ (id : RowId). StepsTo p n (record { statement = statements.Delete marking.query; answers = at.answers }) (Ended (replies.Refused (refusals.Conflict id))) q) at.its_id
          (subst (λ (l : List Entry). StepsTo p n (record { statement = statements.Delete marking.query; answers = at.answers }) (Ended (replies.Refused (refusals.Conflict at.stands.row.id))) (place_after p n table None v (p.accounts n) counts l)) (sym (its_longer s then n marking hit o p shown at (λ id. Conflict id) made fits.look entries))
          (conflicts p n marking.query at.answers (is_first marking.look) marking.next at.stands made.0 does v counts turns.0 turns.1));
      fits = room;
    }

  pub meets_conflict : MakesItsStep told old new n (hands.Marks marking) (stepped.Done (replies.Refused (refusals.Conflict hit.id)))
  meets_conflict names hands_ is tells before after p shown =
      (q names hands_ is tells p shown, shown_then names hands_ is tells p shown, steps_then names hands_ is tells p shown)
