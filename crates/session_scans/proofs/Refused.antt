-- a look for which memory is short, in a place that the store shows
use Rattle.std.proofs.Common.{◌≡◌, ◌≢◌, inl, inr, ℕ, ◌≤◌, ◌==◌, Bool, not, ◌&&◌, List, [], ◌∷◌, ◌++◌, length, Option, None, Some, refl, sym, ap, subst, ◌∙◌}
use Rattle.std.specs.FinMap as finite
use Rattle.std.proofs.lemmas.Option.{none-some}
use Rattle.block_model.specs.declared.reply.Refusal.TheVariants as refusals
use Rattle.block_model.specs.declared.reply.Reply.TheVariants as replies
use Rattle.block_model.specs.declared.request.Entry.{Entry}
use Rattle.block_model.specs.declared.request.Tag.TheVariants as tags
use Rattle.block_model.specs.declared.row.Query.{Query}
use Rattle.block_model.specs.DatabaseState.{DatabaseState, OpenTransaction}
use Rattle.block_model.specs.RequestEffect.{IsLegalRequest, NoMemory, after_failure, after_request}
use Rattle.page_locks.specs.RightHolders.{right_of}
use Rattle.page_map.specs.PageMap.{PageMap, page_at}
use Rattle.heap_rows.specs.HeapBlocks.{HasBlocks}
use Rattle.index_steps.specs.ShownRows.{shown_by}
use Rattle.store_layout.specs.declared.limits.TheConstants.{MAX_ENTRIES}
use Rattle.snapshot_core.specs.declared.statuses.Status.{Status}
use Rattle.snapshot_core.specs.declared.sessions.Open.{Open}
use Rattle.snapshot_core.specs.StoredVersions.{transaction_of}
use Rattle.tx_table.specs.Statuses.{HasStatuses}
use Rattle.transactions.specs.CountedRows.{counts as counts_of}
use Rattle.transactions.specs.Sessions.{IsCopyOf}
use Rattle.transactions.specs.ShowsDatabase.{DoesRequest, ShowsDatabase}
use Rattle.transactions.specs.TransactionsState.{TransactionsState, with_failed}
use Rattle.coverage.specs.Machines.{Unseen, table_state, task_turned}
use Rattle.coverage.specs.Table.{Resting, TableState, Task}
use Rattle.coverage.proofs.Views.{pick_other, pick_same}
use Rattle.bitmap_scan.specs.declared.stage.Stage.TheVariants as stages
use Rattle.bitmap_scan.specs.Finds.{FindHand}
use Rattle.script_semantics.specs.Place.{Hand as HandAt, Place, database_at, new_hand}
use Rattle.script_semantics.specs.StatementSteps.{Ended, Steps, StepsTo}
use Rattle.session_parts.specs.HandsAsk.{IsNoInsert}
use Rattle.session_parts.specs.HandsInTables.{IsTaskOf, table_in}
use Rattle.session_parts.specs.Leaving.{CountsFew, LeadsTo, StepsAtOnce, AsksForNone}
use Rattle.session_parts.specs.PlacesAfter.{place_after, place_at_once}
use Rattle.session_parts.specs.RefusalLaws.{CountsNoMore, refused_in}
use Rattle.session_parts.specs.ShowsPlace.{IsPlaceOf, ShowsTable}
use Rattle.session_parts.specs.StoreStates.{ShownStore, hand_in}
use Rattle.session_parts.proofs.Fronts.{failure_stays_within}
use Rattle.session_parts.proofs.Leads.{failure_counts_no_more, fewer_counts_few, nothing_leaves_slots, request_leads, same_sees_alike}
use Rattle.session_parts.proofs.Places.{step_at_once_is_shown, table_step_is_shown}
use Rattle.session_parts.proofs.Requests.{look_is_legal}
use Rattle.session_parts.proofs.Tables.{own_table_goes_on}
use Rattle.session_scans.specs.declared.looking.Looking.{Looking}
use Rattle.session_scans.specs.LookLaws.{LookLaws}
use Rattle.session_scans.specs.Looks.{statement_for}
use Rattle.session_scans.proofs.Led.{ScanLeft, in_its_table}
use Rattle.session_scans.proofs.Standing.{LooksThere, in_hand, shows}
use Rattle.session_scans.proofs.Tells.{none_in_hand, none_then}
use Rattle.session_scans.proofs.Turns.{copy}
use Rattle.session_scans.proofs.Refusals.{begun_or_not, entries_then, first_step, later_step, none_before, refused_entry, turns}

-- ---- the place then

-- the session's transaction has failed, and the look is entered so
module _ (laws : LookLaws) (old new : ShownStore) (n : ℕ) (looking : Looking) (before : FindHand) (o : Open) (there : LooksThere old n looking before o) (p : Place) (shown : IsPlaceOf old p)
    (left : ScanLeft old new n (with_failed old.transactions n o)) (entered : new.entries ≡ old.entries ++ refused_entry n before.judging.query ∷ []) (none : hand_in new.hands n ≡ None)
    (room : length new.entries ≤ MAX_ENTRIES) where
  abbrev query : Query
  query = before.judging.query

  abbrev number : ℕ
  number = query.table

  abbrev hand : HandAt
  hand = new_hand (statement_for looking query)

  abbrev d : DatabaseState
  d = database_at p

  abbrev e : Entry
  e = refused_entry n query

  abbrev stored : List Status
  stored = shown.database.stored

  abbrev here : ShowsTable old stored number (p.tables number)
  here = shows laws old n looking before o there p shown

  abbrev its_copy : (x : OpenTransaction) × (finite.get d.sessions n ≡ Some x) × IsCopyOf o x
  its_copy = copy laws old n looking before o there p shown

  does : DoesRequest old.layout new.pages new.transactions d e NoMemory
  does = (
    after_failure d n its_copy.0,
    (laws.is_failure d n number its_copy.0 its_copy.1).blind query,
    subst (λ (m : PageMap). ShowsDatabase old.layout m new.transactions (after_failure d n its_copy.0)) (sym left.pages)
        (subst (λ (t : TransactionsState). ShowsDatabase old.layout old.pages t (after_failure d n its_copy.0)) (sym left.transactions)
        (laws.failure old.layout old.pages old.transactions d n o its_copy.0 shown.database there.opened its_copy.1)),
  )

  legal : IsLegalRequest d e
  legal = look_is_legal d n number its_copy.0 query tags.NoMemory its_copy.1 (its_copy.2.failed ∙ there.whole) refl

  asks_none : AsksForNone n old new p (p.accounts n)
  asks_none = record { queue = left.queue; dropped = left.dropped; told = refl; hand = subst IsNoInsert (sym none) tt }

  leads : LeadsTo old new p n None (p.accounts n)
  leads = request_leads old new p n None (p.accounts n) e NoMemory shown refl legal entered does tt
      (failure_stays_within old new n o there.opened left.transactions (λ place. ap (λ (m : PageMap). page_at m place) left.pages)) (none_then old new n (p.accounts n) (after_request d e) left.pages none)

  abbrev counts : ℕ → Bool
  counts = counts_of new.transactions stored

  fewer : (u : ℕ) → counts u ≡ (counts_of old.transactions stored u && not (u == o.t))
  fewer u = ap (λ (t : TransactionsState). counts_of t stored u) left.transactions ∙ laws.failed old.layout old.pages old.transactions d stored n u o shown.database shown.database.has there.opened

  few : CountsFew old new stored stored
  few = fewer_counts_few old new stored stored o.t fewer

  entries_are : entries_then laws old n looking before o there p shown ≡ new.entries
  entries_are = ap (λ (l : List Entry). l ++ e ∷ []) shown.journal ∙ sym entered

  is_none : (other : ℕ) → table_in old.layout (hand_in new.hands n) ≡ Some other → ⊥
  is_none other is = none-some other (sym (ap (table_in old.layout) none) ∙ is)

  -- before the first step no table is touched
  module _ (first : before.judging.stage ≡ stages.Extent) where
    at_once : StepsAtOnce n old new
    at_once = record {
      pages = λ place apart. ap (λ (m : PageMap). page_at m place) left.pages;
      locks = left.locks;
      rights = left.rights;
      was_in = none_before laws old n looking before o there p shown first;
      is_in = is_none;
    }

    first_refused : (q : Place) × IsPlaceOf new q × Steps p n (Ended (replies.Refused refusals.Memory)) q
    first_refused = (
      place_at_once p n counts new.entries,
      step_at_once_is_shown old new p n stored shown left.others at_once (subst (λ (m : PageMap). HasStatuses old.layout m stored) (sym left.pages) shown.database.has)
          (same_sees_alike old new stored n left.others.first) few none leads asks_none,
      record {
        hand = hand;
        in_hand = in_hand laws old n looking before o there p shown;
        steps = subst (λ (l : List Entry). StepsTo p n hand (Ended (replies.Refused refusals.Memory)) (place_at_once p n counts l)) entries_are (first_step laws old n looking before o there p shown first counts);
        fits = room;
      },
    )

  -- later it is a turn in its table
  module _ (begun : before.judging.stage ≢ stages.Extent) where
    no_more : CountsNoMore (p.tables number) counts o.t
    no_more = failure_counts_no_more old new stored number o.t (p.tables number) here fewer

    abbrev v : TableState
    v = refused_in n counts (p.tables number)

    abbrev unseen : Unseen
    unseen = record (task_turned n Resting here.unseen) { counts = counts }

    own_task : IsTaskOf old.layout number here.blocks new.transactions.tx stored (transaction_of new.transactions.opens n) (hand_in new.hands n) (unseen.task n)
    own_task = subst (λ (q : Task). IsTaskOf old.layout number here.blocks new.transactions.tx stored (transaction_of new.transactions.opens n) (hand_in new.hands n) q) (sym (pick_same n Resting (here.unseen.task n)))
        (none_in_hand old new n number here.blocks stored none).task

    own_table : ShowsTable new stored number v
    own_table = own_table_goes_on old new stored n number (p.tables number) v unseen here.blocks here left.others (turns laws old n looking before o there p shown begun o.t counts no_more).0.step
        (ap (refused_in n counts) here.shown ∙ (λ i. table_state (shown_by old.layout (sym left.pages i) (sym left.locks i) number here.blocks) unseen))
        (subst (λ (m : PageMap). HasBlocks old.layout m number here.blocks) (sym left.pages) here.has)
        (here.lock ∙ ap (λ (r : List (Option ℕ)). right_of r number) (sym left.rights))
        (λ t. refl) (λ m away. pick_other m n Resting (here.unseen.task m) away) own_task (nothing_leaves_slots old stored n here.blocks)

    later_refused : (q : Place) × IsPlaceOf new q × Steps p n (Ended (replies.Refused refusals.Memory)) q
    later_refused = (
      place_after p n number None v (p.accounts n) counts new.entries,
      table_step_is_shown old new p n number None v (p.accounts n) shown left.others (in_its_table old new n looking before o (with_failed old.transactions n o) there left (λ other is. absurd (is_none other is))) few leads own_table asks_none,
      record {
        hand = hand;
        in_hand = in_hand laws old n looking before o there p shown;
        steps = subst (λ (l : List Entry). StepsTo p n hand (Ended (replies.Refused refusals.Memory)) (place_after p n number None v (p.accounts n) counts l)) entries_are
            (later_step laws old n looking before o there p shown begun o.t counts no_more counts);
        fits = room;
      },
    )

  pub scan_refused : (q : Place) × IsPlaceOf new q × Steps p n (Ended (replies.Refused refusals.Memory)) q
  scan_refused = elim (begun_or_not before.judging.stage) [
    | inl first ↦ first_refused first
    | inr begun ↦ later_refused begun
  ]
