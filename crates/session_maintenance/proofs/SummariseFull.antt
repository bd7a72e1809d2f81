-- an index that is full for a summarise, or for work
use Rattle.std.proofs.Common.{◌≡◌, ◌≢◌, inr, ℕ, ◌<◌, ◌≤◌, true, List, [], ◌++◌, length, Option, None, Some, refl, sym, ap, subst, ◌∙◌}
use Rattle.std.specs.Prelude.{slice_get, slice_set}
use Rattle.std.proofs.lemmas.Bool.{false≢true}
use Rattle.std.proofs.lemmas.List.{append-nil}
use Rattle.std.proofs.lemmas.Option.{none-some}
use Rattle.disk_trait.specs.Told.{Told}
use Rattle.block_model.specs.declared.place.Place.{Place as PagePlace}
use Rattle.block_model.specs.declared.reply.Refusal.TheVariants as refusals
use Rattle.block_model.specs.declared.reply.Reply.{Reply}
use Rattle.block_model.specs.declared.reply.Reply.TheVariants as replies
use Rattle.block_model.specs.declared.request.Entry.{Entry}
use Rattle.block_model.specs.declared.request.Tag.TheVariants as tags
use Rattle.block_model.specs.declared.row.Row.{Row}
use Rattle.store_layout.specs.DiskLayout.{DiskLayout}
use Rattle.page_layout.specs.PageContents.{Slot}
use Rattle.page_map.specs.Keeps.{Keeps, Tells}
use Rattle.page_map.specs.PageMap.{PageMap, View, page_at}
use Rattle.page_locks.specs.LockChanges.{GivesAll}
use Rattle.page_locks.specs.LockCounts.{locks_of}
use Rattle.page_locks.specs.LockHolders.{LockState, holder}
use Rattle.page_locks.specs.RightHolders.{right_of}
use Rattle.snapshot_core.specs.StoredVersions.{transaction_of}
use Rattle.brin_insert.specs.AskedFor.{AreRequestsOf}
use Rattle.store_layout.specs.declared.limits.TheConstants.{MAX_ENTRIES}
use Rattle.store_layout.specs.declared.statement.Statement.{Statement}
use Rattle.transactions.specs.CountedRows.{counts as counts_of}
use Rattle.transactions.specs.Laws.{ShowAlike}
use Rattle.transactions.specs.TransactionsState.{TransactionsState}
use Rattle.coverage.specs.Accounts.{Account}
use Rattle.coverage.specs.Statements.{Phase}
use Rattle.index_steps.specs.IndexTuples.{index_at}
use Rattle.index_steps.specs.ShownRows.{shown_by}
use Rattle.index_steps.specs.ShownTable.{indexes_of}
use Rattle.coverage.specs.Refusals.{IndexNumber, InsertFull, IsFull, IsTaskFull, MaintainFull, maintain_refusal}
use Rattle.coverage.specs.Table.{Job, Maintains, TableState, Task, index_view_at}
use Rattle.coverage.specs.TableSteps.{IndexFull, IsInsertRefused, IsMaintainRefused}
use Rattle.summarise_core.specs.SummariseHands.{table_of}
use Rattle.summarise_core.specs.Summarises.{FullAt, SummariseState, count_of}
use Rattle.summarise_core.specs.SummariseTable.{IsSummariseFull, task_of}
use Rattle.script_semantics.specs.Names.{index_name}
use Rattle.script_semantics.specs.Beginnings.{IsIn, StandsAt}
use Rattle.script_semantics.specs.Place.{Place, new_hand}
use Rattle.script_semantics.specs.Requests.{refused_request}
use Rattle.script_semantics.specs.StatementSteps.{Ended, PutsTuples, Steps, StepsTo}
use Rattle.session_parts.specs.declared.hand.Hand.{Hand}
use Rattle.session_parts.specs.declared.hand.Stepped.TheVariants as stepped
use Rattle.session_parts.specs.declared.parts.Parts.{Parts}
use Rattle.session_parts.specs.Hands.{HandShows, statement_of}
use Rattle.session_parts.specs.HandsAsk.{IsNoInsert}
use Rattle.session_parts.specs.HandsInTables.{table_in}
use Rattle.session_parts.specs.PlacesAfter.{place_after}
use Rattle.session_parts.specs.RefusalLaws.{IsMaintenanceShown}
use Rattle.session_parts.specs.ShowsPlace.{IsPlaceOf, ShowsTable}
use Rattle.session_parts.specs.StepAnswers.{StaysReady}
use Rattle.session_parts.specs.Stepping.{IsFit}
use Rattle.session_parts.specs.StoreStates.{ShownStore, hand_in, shown_of, store_of}
use Rattle.session_parts.specs.UndoneLaws.{StepsSo}
use Rattle.session_parts.proofs.FullRooms.{index_refuses}
use Rattle.session_parts.proofs.Maintenance.{maintenance_refusal_is_shown}
use Rattle.session_parts.proofs.Steps.{turn_is_refused}
use Rattle.session_maintenance.proofs.SummariseLocks.{gives_own, gives_stay, gives_there}
use Rattle.session_maintenance.proofs.SummariseParts.{MachineLeft, fits, is_it, left_given, within}
use Rattle.session_maintenance.proofs.SummariseTurns.{IsBySummarise, IsSummaryAt, at_range, holds_there}
use Rattle.session_maintenance.proofs.UpkeepAt.{IsUpkeep, UpkeepLeft, at_task, counted, hand_is, here, kept_here, unseen_here}
use Rattle.session_maintenance.proofs.UpkeepParts.{refused_so, with_these}
use Rattle.session_maintenance.proofs.UpkeepPoints.{is_maintaining}
use Rattle.session_maintenance.proofs.UpkeepSteps.{behind}

not_insert : (w : TableState) (s b k : ℕ) (r : Row) (task : Task) → IsInsertRefused w s b k r task → is_maintaining task ≡ true → ⊥
not_insert w s b k r _ (IndexFull number i x old new verdict) is = false≢true is

-- a maintenance statement at this task is refused there, since its index is full
pub record RefusedThere (w : TableState) (s : ℕ) (task : Task) (at number : ℕ) : Type 0 where
  pub job : Job
  pub range : ℕ
  pub phase : Phase
  pub is : task ≡ Maintains job at range phase
  pub refused : IsMaintainRefused (index_view_at at w) s range phase
  pub why : maintain_refusal at refused ≡ IsFull (IndexNumber at) number

pub refused_there : (w : TableState) (s : ℕ) (task : Task) (at number : ℕ) → IsTaskFull w s task at number → is_maintaining task ≡ true → RefusedThere w s task at number
refused_there w s _ _ _ (InsertFull b k r task at number refused why) is = absurd (not_insert w s b k r task refused is)
refused_there w s _ _ _ (MaintainFull job at range number phase refused why) is = record { job = job; range = range; phase = phase; is = refl; refused = refused; why = why }

-- its session gave its page locks and its table's summarise lock
module _ (old new : ShownStore) (n : ℕ) (was : Hand) (index : ℕ) (Here : Task → Type 0) (account : Account) (is : IsUpkeep old.layout was index Here account) (left : UpkeepLeft old new n was index) (p : Place) (shown : IsPlaceOf old p) (alike : ShowAlike)
    (pages : (place : PagePlace) → page_at new.pages place ≡ page_at old.pages place) (gives : GivesAll (holder old.locks) (holder new.locks) n) (free : right_of new.rights (index_at old.layout index).table ≡ None) (now : hand_in new.hands n ≡ None)
    (same_queue : new.queue ≡ old.queue) (number at : ℕ) (stands : StandsAt old.layout index at) (its_task : Task) (its_at : (unseen_here old n was index Here account is left.had p shown).task n ≡ its_task) (maintains : is_maintaining its_task ≡ true)
    (on : IsIn p n (statement_of was) (index_at old.layout index).table) (enters : refused_request n tags.Full (statement_of was) ≡ []) (puts : PutsTuples (statement_of was)) where
  abbrev its_table : ℕ
  its_table = (index_at old.layout index).table

  abbrev statement : Statement
  statement = statement_of was

  abbrev at_here : ShowsTable old shown.database.stored its_table (p.tables its_table)
  at_here = here old n was index Here account is left.had p shown

  module _ (full : IsSummariseFull n at (shown_by old.layout old.pages old.locks its_table at_here.blocks) its_task number) where
    there : RefusedThere (p.tables its_table) n its_task at number
    there = subst (λ (x : TableState). RefusedThere x n its_task at number) (sym at_here.shown)
        (refused_there _ n its_task at number (full at_here.unseen its_at (kept_here old n was index Here account is left.had p shown)) maintains)

    counts_same : (t : ℕ) → counts_of new.transactions shown.database.stored t ≡ counts_of old.transactions shown.database.stored t
    counts_same t = ap (λ (s : TransactionsState). counts_of s shown.database.stored t) left.transactions

    it : IsMaintenanceShown new shown.database.stored p n its_table statement (maintain_refusal at there.refused)
    it = maintenance_refusal_is_shown old new shown.database.stored p n its_table at there.range statement (p.tables its_table) there.job there.phase at_here left.others pages gives free counts_same
        (λ in_it. none-some its_table (ap (table_in old.layout) (sym now) ∙ in_it)) refl on (ap (λ (x : TableState). x.task n) at_here.shown ∙ its_at ∙ there.is) there.refused

    told : Some (maintain_refusal at there.refused) ≡ Some (IsFull (IndexNumber at) number)
    told = ap Some there.why

    entries_are : p.journal ++ refused_request n tags.Full statement ≡ new.entries
    entries_are = ap (λ (l : List Entry). p.journal ++ l) enters ∙ append-nil p.journal ∙ shown.journal ∙ sym left.entries

    pub is_refused : (q : Place) × IsPlaceOf new q × Steps p n (Ended (replies.Refused (refusals.Full (index_name old.layout its_table at) number))) q
    is_refused = (
      place_after p n its_table None it.after (p.accounts n) (counts_of new.transactions shown.database.stored) new.entries,
      behind old new n was index Here account is left p shown alike None it.after (p.accounts n) p.queue (subst (λ (l : List (ℕ × ℕ)). AreRequestsOf old.layout l p.queue) (sym same_queue) shown.queue)
          (subst (λ (h : Option Hand). HandShows h None (p.accounts n)) (sym now) refl)
          (λ h in_it. absurd (none-some h (sym now ∙ in_it)))
          (λ other in_it. absurd (none-some other (ap (table_in old.layout) (sym now) ∙ in_it))) it.shows refl (subst IsNoInsert (sym now) tt),
      record {
        hand = new_hand statement;
        in_hand = hand_is old n was index Here account is left.had p shown;
        steps = subst (λ (l : DiskLayout). StepsTo p n (new_hand statement) (Ended (replies.Refused (refusals.Full (index_name l its_table at) number)))
            (place_after p n its_table None it.after (p.accounts n) (counts_of new.transactions shown.database.stored) new.entries)) shown.layout
            (subst (λ (e : List Entry). StepsTo p n (new_hand statement) (Ended (replies.Refused (refusals.Full (index_name p.layout its_table at) number)))
            (place_after p n its_table None it.after (p.accounts n) (counts_of new.transactions shown.database.stored) e)) entries_are
            (turn_is_refused p n its_table (new_hand statement) it.after (p.accounts n) (counts_of new.transactions shown.database.stored) (IsFull (IndexNumber at) number) tags.Full
            (refusals.Full (index_name p.layout its_table at) number) it.turns (it.refused ∙ told)
            (index_refuses old p its_table shown is.below n at index number statement it.after (p.accounts n) stands it.turns (it.refused ∙ told) puts)));
        fits = subst (λ (e : List Entry). length e ≤ MAX_ENTRIES) (sym left.entries) left.few;
      },
    )

-- what the law of its machine says
abbrev pub FullInTable : Type 0
FullInTable = (layout : DiskLayout) (pages : PageMap) (locks : LockState) (blocks : List (List Slot)) (s at number : ℕ) (a : SummariseState) → slice_get (indexes_of layout (table_of layout a.index)) at ≡ Some a.index
    → FullAt layout pages locks s a number → IsSummariseFull s at (shown_by layout pages locks (table_of layout a.index) blocks) (task_of layout at a) number

-- over the parts of a store
module _ {D : Type 0} (told : D → Told) (parts : Parts D) (n : ℕ) (hand : SummariseState → Hand) (by : IsBySummarise parts.pages.layout (transaction_of parts.transactions.opens n) hand) (a : SummariseState)
    (fit : IsFit told parts n (hand a)) (below : (index_at parts.pages.layout a.index).table < length parts.pages.layout.schema.tables) where
  abbrev number : ℕ
  number = (index_at parts.pages.layout a.index).table

  abbrev is_there : IsUpkeep parts.pages.layout (hand a) a.index (IsSummaryAt parts.pages.layout a) (counted (count_of a))
  is_there = is_it told parts n hand by a fit below

  pub full_so : FullInTable → ShowAlike → (pages : View D) (locks given : LockState) (b : SummariseState) (left : MachineLeft told parts n a pages locks b)
      → (room : ℕ) → (Tells told parts.pages → FullAt parts.pages.layout parts.pages.pages parts.locks n a room) → locks ≡ parts.locks → Keeps told parts.pages pages → StaysReady parts.pages pages
      → GivesAll (holder locks) (holder given) n → given.limit ≡ locks.limit → locks_of given n ≡ 0 → ((m : ℕ) → m ≢ n → locks_of given m ≡ locks_of locks m)
      → (rights : List (Option ℕ)) → (right_of parts.rights number ≡ Some n → rights ≡ slice_set parts.rights number None) → (right_of parts.rights number ≢ Some n → rights ≡ parts.rights)
      → (reply : Reply) → ((table at : ℕ) → slice_get (indexes_of parts.pages.layout table) at ≡ Some a.index → reply ≡ replies.Refused (refusals.Full (index_name parts.pages.layout table at) room))
      → StepsSo told parts (with_these parts pages given rights) n (hand a) (stepped.Done reply)
  full_so law alike pages locks given b left room full same_locks keeps ready gives limit none others rights gave kept reply named =
      let inside = within told parts n hand by a fit below in
      let stays = gives_stay number n parts.rights rights inside gave kept in
      let all_given : GivesAll (holder parts.locks) (holder given) n = subst (λ (l : LockState). GivesAll (holder l) (holder given) n) same_locks gives in
      refused_so told parts pages given rights parts.queue n (hand a) a.index (IsSummaryAt parts.pages.layout a) (counted (count_of a)) fit is_there (left_given told parts n a pages locks b left given limit others rights stays) none (by.share a) ready (inr all_given) (gives_own number n parts.rights rights inside gave kept) reply (λ names hand_list has tells p shown so now.
      let old = shown_of (store_of parts names hand_list) in
      let it = at_task old n (hand a) a.index (IsSummaryAt parts.pages.layout a) (counted (count_of a)) is_there so.had p shown in
      let shows = here old n (hand a) a.index (IsSummaryAt parts.pages.layout a) (counted (count_of a)) is_there so.had p shown in
      let at = (full tells).0 in
      let held : right_of parts.rights number ≡ Some n = holds_there old n (hand a) a is_there so.had p shown at in
      let made = is_refused old _ n (hand a) a.index (IsSummaryAt parts.pages.layout a) (counted (count_of a)) is_there so p shown alike (λ place. ap (λ (m : PageMap). page_at m place) (keeps.pages tells)) all_given
      (gives_there number n parts.rights rights inside gave kept held) now refl room it.0 it.1 (task_of parts.pages.layout it.0 a) it.2 (ap is_maintaining (at_range parts.pages.layout it.0 a at))
      (by.on a (fits told parts n hand by a fit below).in_hand below p n it.0 shown.layout (ap (λ (x : TableState). x.task n) shows.shown ∙ it.2)) (by.enters a n tags.Full) (by.puts a)
      (law parts.pages.layout parts.pages.pages parts.locks shows.blocks n it.0 room a it.1 (full tells)) in
      (made.0, made.1, subst (λ (r : Reply). Steps p n (Ended r) made.0) (sym (named number it.0 it.1)) made.2))
