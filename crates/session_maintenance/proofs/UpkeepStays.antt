-- a maintenance statement that waits: the store shows the same place
use Rattle.std.proofs.Common.{◌≡◌, inr, ℕ, ◌≤◌, List, length, Option, Some, sym, ap, subst, ◌∙◌}
use Rattle.std.specs.FinMap as finite
use Rattle.std.proofs.lemmas.Option.{same_Some}
use Rattle.block_model.specs.declared.place.Place.{Place as PagePlace}
use Rattle.block_model.specs.declared.reply.Refusal.TheVariants as refusals
use Rattle.block_model.specs.declared.request.Entry.{Entry}
use Rattle.store_layout.specs.DiskLayout.{DiskLayout}
use Rattle.page_layout.specs.PageContents.{Slot}
use Rattle.page_map.specs.PageMap.{page_at}
use Rattle.page_locks.specs.LockChanges.{page_of}
use Rattle.page_locks.specs.LockHolders.{holder}
use Rattle.page_locks.specs.RightHolders.{right_of}
use Rattle.snapshot_core.specs.declared.statuses.Status.{Status}
use Rattle.snapshot_core.specs.StoredVersions.{transaction_of}
use Rattle.store_layout.specs.declared.limits.TheConstants.{MAX_ENTRIES}
use Rattle.store_layout.specs.declared.statement.Statement.{Statement}
use Rattle.transactions.specs.Laws.{ShowAlike}
use Rattle.index_contents.specs.IndexContents.{relation_of as index_relation}
use Rattle.coverage.specs.Accounts.{Account}
use Rattle.coverage.specs.Table.{Task}
use Rattle.coverage.specs.TablePoints.{IsHeldBy, PageLock, SummariseLock, WaitedFor, waits_for}
use Rattle.coverage.specs.TableSteps.{IsBlocked}
use Rattle.index_steps.specs.IndexTuples.{index_at}
use Rattle.index_steps.specs.ShownTable.{shown_at}
use Rattle.script_semantics.specs.Beginnings.{IsIn, StandsAt}
use Rattle.script_semantics.specs.Names.{name_of}
use Rattle.script_semantics.specs.Place.{Hand as HandAt, Place, database_at, new_hand}
use Rattle.script_semantics.specs.StatementSteps.{Steps, StepsTo, Waits, what_of}
use Rattle.session_parts.specs.declared.hand.Hand.{Hand}
use Rattle.session_parts.specs.Hands.{HandShows, statement_of}
use Rattle.session_parts.specs.HandsAsk.{HandAsked}
use Rattle.session_parts.specs.HandsInTables.{IsTaskOf}
use Rattle.session_parts.specs.ShowsPlace.{IsOfTransaction, IsPlaceOf}
use Rattle.session_parts.specs.StoreStates.{ShownStore, hand_in}
use Rattle.session_parts.proofs.Places.{place_stays_shown}
use Rattle.session_parts.proofs.Steps.{turn_waits}
use Rattle.session_maintenance.proofs.UpkeepAt.{IsUpkeep, UpkeepLeft, hand_is, here, table, told_is, unseen_here, upkeep_shows, w}
use Rattle.session_maintenance.proofs.UpkeepSteps.{leads_so}

-- nothing changed, but that the statement is kept anew, at the same task
pub record UpkeepStays (old new : ShownStore) (n : ℕ) (was next : Hand) (index : ℕ) (Here HereNext : Task → Type 0) (account : Account) : Type 0 where
  pub left : UpkeepLeft old new n was index
  pub stays : IsUpkeep old.layout next index HereNext account
  pub same : statement_of next ≡ statement_of was
  pub at : (task : Task) → Here task → HereNext task
  pub now : hand_in new.hands n ≡ Some next
  pub pages : (place : PagePlace) → page_at new.pages place ≡ page_at old.pages place
  pub locks : new.locks ≡ old.locks
  pub rights : new.rights ≡ old.rights
  pub queue : new.queue ≡ old.queue

module _ (old new : ShownStore) (n : ℕ) (was next : Hand) (index : ℕ) (Here HereNext : Task → Type 0) (account : Account) (is : IsUpkeep old.layout was index Here account) (so : UpkeepStays old new n was next index Here HereNext account)
    (p : Place) (shown : IsPlaceOf old p) (alike : ShowAlike) where
  next_shows : HandShows (hand_in new.hands n) (p.hands n) (p.accounts n)
  next_shows = subst (λ (h : Option HandAt). HandShows (hand_in new.hands n) h (p.accounts n)) (sym (hand_is old n was index Here account is so.left.had p shown))
      (subst (λ (s : Statement). HandShows (hand_in new.hands n) (Some (new_hand s)) (p.accounts n)) so.same
      (upkeep_shows old.layout next index HereNext account so.stays (hand_in new.hands n) so.now (p.accounts n) (told_is old n was index Here account is so.left.had p shown)))

  own_then : (h : Hand) → hand_in new.hands n ≡ Some h → IsOfTransaction (transaction_of new.transactions.opens n) (finite.get (database_at p).sessions n) h
  own_then h there = subst (λ (x : Hand). IsOfTransaction (transaction_of new.transactions.opens n) (finite.get (database_at p).sessions n) x) (same_Some next h (sym so.now ∙ there))
      (so.stays.own (transaction_of new.transactions.opens n) (finite.get (database_at p).sessions n))

  tasks_then : (number : ℕ) (stored : List Status) (blocks : List (List Slot)) (now : Task)
      → IsTaskOf old.layout number blocks old.transactions.tx stored (transaction_of old.transactions.opens n) (hand_in old.hands n) now
      → IsTaskOf old.layout number blocks old.transactions.tx stored (transaction_of old.transactions.opens n) (hand_in new.hands n) now
  tasks_then number stored blocks now at =
      let before = is.task_is number blocks old.transactions.tx stored (transaction_of old.transactions.opens n) now
      (subst (λ (h : Option Hand). IsTaskOf old.layout number blocks old.transactions.tx stored (transaction_of old.transactions.opens n) h now) so.left.had at) in
      subst (λ (h : Option Hand). IsTaskOf old.layout number blocks old.transactions.tx stored (transaction_of old.transactions.opens n) h now) (sym so.now)
      (so.stays.is_task number blocks old.transactions.tx stored (transaction_of old.transactions.opens n) now ((λ own. so.at now (before.0 own)), before.1))

  pub stays_shown : IsPlaceOf new p
  stays_shown = place_stays_shown old new p n shown (record {
    others = so.left.others;
    pages = so.pages;
    transactions = so.left.transactions;
    locks = so.locks;
    rights = so.rights;
    entries = so.left.entries;
    queue = so.queue;
    dropped = so.left.dropped;
    asked = subst (λ (h : Option Hand). HandAsked old.layout h (p.accounts n).dropped) (sym so.now) (so.stays.asked (p.accounts n).dropped);
    hand = leads_so old new n was index Here account is so.left p shown alike (p.hands n) (p.accounts n) next_shows own_then;
    tasks = tasks_then;
  })

-- it waits in its table, for what another session holds
module _ (old : ShownStore) (n : ℕ) (was : Hand) (index : ℕ) (Here : Task → Type 0) (account : Account) (is : IsUpkeep old.layout was index Here account) (had : hand_in old.hands n ≡ Some was) (p : Place) (shown : IsPlaceOf old p)
    (few : length old.entries ≤ MAX_ENTRIES) (on : IsIn p n (statement_of was) (index_at old.layout index).table)
    (task : Task) (is_at : (unseen_here old n was index Here account is had p shown).task n ≡ task) where
  abbrev Blocks : WaitedFor → Type 0
  Blocks waited = (blocked : IsBlocked (w old n was index Here account is had p shown) n task) × (waits_for (w old n was index Here account is had p shown) n task blocked ≡ waited)

  is_waiting : (waited : WaitedFor) (by : ℕ) → Blocks waited → IsHeldBy (w old n was index Here account is had p shown) waited by
      → Steps p n (Waits (refusals.Blocked (what_of old.layout (table old n was index Here account is had p shown) waited) (name_of p by))) p
  is_waiting waited by blocked held = record {
    hand = new_hand (statement_of was);
    in_hand = hand_is old n was index Here account is had p shown;
    steps = subst (λ (l : DiskLayout). StepsTo p n (new_hand (statement_of was)) (Waits (refusals.Blocked (what_of l (table old n was index Here account is had p shown) waited) (name_of p by))) p) shown.layout
        (turn_waits p n (table old n was index Here account is had p shown) (new_hand (statement_of was)) (w old n was index Here account is had p shown) task waited by
        (here old n was index Here account is had p shown).shown on is_at (inr is.lock) blocked.0 blocked.1 held);
    fits = subst (λ (l : List Entry). length l ≤ MAX_ENTRIES) (sym shown.journal) few;
  }

  -- for a page of its index
  pub waits_for_page : (at : ℕ) → StandsAt old.layout index at → (held : PagePlace) (by : ℕ) → Blocks (PageLock at held.block) → held.relation ≡ index_relation old.layout index → holder old.locks held ≡ Some by
      → Steps p n (Waits (refusals.Blocked (what_of old.layout (table old n was index Here account is had p shown) (PageLock at held.block)) (name_of p by))) p
  waits_for_page at stands held by blocked relation holds = is_waiting (PageLock at held.block) by blocked
      (ap (λ (o : Option ℕ). (shown_at old.layout old.pages old.locks o).lock held.block) stands
      ∙ ap (λ (page : PagePlace). holder old.locks page) there ∙ holds)
    where
      there : page_of (index_relation old.layout index) held.block ≡ held
      there = λ j. record { relation = sym relation j; block = held.block }

  -- for the summarise lock of its table
  pub waits_for_lock : (by : ℕ) → Blocks SummariseLock → right_of old.rights (table old n was index Here account is had p shown) ≡ Some by
      → Steps p n (Waits (refusals.Blocked (what_of old.layout (table old n was index Here account is had p shown) SummariseLock) (name_of p by))) p
  waits_for_lock by blocked holds = is_waiting SummariseLock by blocked ((here old n was index Here account is had p shown).lock ∙ holds)
