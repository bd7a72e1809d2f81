-- what came of a step of a maintenance machine
use Rattle.std.proofs.Common.{Err, IfErr, IfOk, List, None, Ok, Option, Result, Some, [], ap, arith, inl, inr, length, refl, slice_get, slice_set, subst, sym, ℕ, ◌<◌, ◌∙◌, ◌≡◌, ◌≢◌, ◌≤◌, ◌⊎◌}
use Rattle.block_model.specs.declared.place.Place.{Place as PagePlace}
use Rattle.block_model.specs.declared.reply.Point.{Point}
use Rattle.block_model.specs.declared.reply.Reply.{Reply}
use Rattle.block_model.specs.declared.reply.What.{What}
use Rattle.coverage.specs.Accounts.{Account, Asked}
use Rattle.coverage.specs.Machines.{Unseen, table_state}
use Rattle.coverage.specs.Table.{Resting, TableState, Task}
use Rattle.coverage.specs.TableCovered.{IsMaintenance}
use Rattle.disk_trait.specs.Told.{Told}
use Rattle.index_steps.specs.ShownRows.{shown_by}
use Rattle.page_layout.specs.PageContents.{Slot}
use Rattle.page_locks.specs.LockCounts.{locks_of}
use Rattle.page_locks.specs.LockHolders.{LockState, holder}
use Rattle.page_locks.specs.RightHolders.{right_of}
use Rattle.page_locks.specs.declared.did.Did.{Did}
use Rattle.page_locks.specs.declared.held.Held.{Held}
use Rattle.page_map.specs.Keeps.{Keeps, Tells, Untold}
use Rattle.page_map.specs.Outcome.{Refused}
use Rattle.page_map.specs.PageMap.{View}
use Rattle.page_map.specs.declared.faults.StoreError.{StoreError}
use Rattle.script_semantics.specs.Beginnings.{Begins, IsIn, TakesUp}
use Rattle.script_semantics.specs.Place.{Place}
use Rattle.script_semantics.specs.StatementSteps.{Steps, Waits, reply_after, what_of}
use Rattle.session_maintenance.proofs.MachineHands.{IsPlainHand, IsSeenSo, StandsIn, at_task, here, kept_here, pages_show, unseen, w}
use Rattle.session_maintenance.proofs.MachineParts.{LocksLeft, Makes, PartsLeft, RunsIn, blocks_in, done_so, fits, moved_so, new, new_store, old_store, stands, undone_so, waits_so, with_queue, within}
use Rattle.session_maintenance.proofs.MachinePlaces.{StillShown, is_waiting, made_so}
use Rattle.session_maintenance.proofs.SummariseLocks.{OthersStay, gives_own, gives_stay, gives_there, same_stays, set_stays, set_there, stays_on}
use Rattle.session_maintenance.specs.MaintenanceSteps.{IsFirstWithin, MachineDid, MachineGoes, MachineView, MachineWaitsFor}
use Rattle.session_parts.proofs.HeldLocks.{holder_has_lock}
use Rattle.session_parts.specs.DamagedPages.{NamesAPage}
use Rattle.session_parts.specs.HandFits.{IsHandFor, locks_held, right_held}
use Rattle.session_parts.specs.Hands.{TellsSo, statement_of}
use Rattle.session_parts.specs.ShowsPlace.{IsPlaceOf}
use Rattle.session_parts.specs.StepAnswers.{StaysReady}
use Rattle.session_parts.specs.StoreFaults.{fault_of}
use Rattle.session_parts.specs.StoreStates.{hand_in}
use Rattle.session_parts.specs.UndoneLaws.{StepsSo}
use Rattle.session_parts.specs.declared.hand.Hand.{Hand}
use Rattle.session_parts.specs.declared.hand.Stepped.{Stepped}
use Rattle.session_parts.specs.declared.parts.Parts.{Parts}
use Rattle.snapshot_core.specs.StoredVersions.{transaction_of}
use Rattle.std.proofs.lemmas.Option.{same_Some}
use Rattle.store_layout.specs.DiskLayout.{DiskLayout}
use Rattle.vacuum_core.specs.TableSteps.{held_done}
use Rattle.block_model.specs.declared.reply.Refusal.TheVariants as refusals
use Rattle.block_model.specs.declared.reply.Reply.TheVariants as replies
use Rattle.block_model.specs.declared.reply.What.TheVariants as whats
use Rattle.page_locks.specs.declared.did.Did.TheVariants as did
use Rattle.session_parts.specs.declared.hand.Stepped.TheVariants as stepped
use Rattle.page_map.specs.declared.faults.MachineFault.TheVariants as faults
use Rattle.session_parts.specs.declared.faults.Step.TheVariants as steps
use Rattle.session_maintenance.specs.declared.settle.Came.TheVariants as cames
use Rattle.coverage.specs.TablePoints.{IsHeldBy, PageLock, SummariseLock, WaitedFor}
use Rattle.session_maintenance.specs.declared.settle.Came.{Came}
use Rattle.session_maintenance.specs.Settled.{GivesPageLocks, HoldsAPage, IsOfAnIndex, IsSettled, NamesIndex}
use Rattle.session_parts.specs.declared.faults.Step.{Step}
use Rattle.page_map.specs.declared.faults.MachineFault.{MachineFault}
use Rattle.session_parts.specs.declared.faults.StoreFault.{StoreFault}
use Rattle.session_parts.specs.StepIs.{stepped_in}
use Rattle.index_contents.specs.IndexContents.{relation_of as index_relation}
use Rattle.index_steps.specs.ShownTable.{indexes_of, shown_at}
use Rattle.script_semantics.specs.Names.{index_name, name_of, table_name}
use Rattle.page_locks.specs.LockChanges.{page_of}

module _ {D : Type 0} (told : D → Told) (parts : Parts D) (n : ℕ) (was next : Hand) (table : ℕ) (a b : ℕ → MachineView) (runs : RunsIn told parts n was table a) (pages : View D) (locks : LockState) (righted : List (Option ℕ))
    (left : PartsLeft told parts pages locks n table) where
  -- the parts behind it
  abbrev pub stepped_parts : Parts D
  stepped_parts = with_queue parts pages locks righted parts.queue

  abbrev pub there : (names : List (List ℕ)) (hand_list : List (Option Hand)) → hand_in hand_list n ≡ Some was → (p : Place) → IsPlaceOf (old_store told parts n was table a runs names hand_list) p → StandsIn (old_store told parts n was table a runs names hand_list) n was table
  there names hand_list has p shown = stands told parts n was table a runs names hand_list has p shown

  abbrev pub count : (names : List (List ℕ)) (hand_list : List (Option Hand)) → hand_in hand_list n ≡ Some was → (p : Place) → IsPlaceOf (old_store told parts n was table a runs names hand_list) p → ℕ
  count names hand_list has p shown = blocks_in told parts n was table a runs names hand_list has p shown

  -- so it is in each place that is shown, with its table's heap as it is then
  abbrev pub InPlaces : ((names : List (List ℕ)) (hand_list : List (Option Hand)) (has : hand_in hand_list n ≡ Some was) (p : Place) (shown : IsPlaceOf (old_store told parts n was table a runs names hand_list) p) → List (List Slot) → Type 0) → Type 0
  InPlaces P = (names : List (List ℕ)) (hand_list : List (Option Hand)) (has : hand_in hand_list n ≡ Some was) → Tells told parts.pages → (p : Place) (shown : IsPlaceOf (old_store told parts n was table a runs names hand_list) p)
      → (now : List (List Slot)) × StillShown (old_store told parts n was table a runs names hand_list) pages.pages n was table (there names hand_list has p shown) now × P names hand_list has p shown now

  abbrev pub DidSo : Option ℕ → Did → Type 0
  DidSo held_done answer = InPlaces (λ names hand_list has p shown now. MachineDid n (pages_show (old_store told parts n was table a runs names hand_list) n was table (there names hand_list has p shown))
      (shown_by parts.pages.layout pages.pages locks table now) (right_of parts.rights table) held_done (a (count names hand_list has p shown)) (b (count names hand_list has p shown)) answer)

  -- how its statement stands to its table, and what it begins with
  pub record StatementSo : Type 0 where
    pub on : (p : Place) (k : ℕ) → p.layout ≡ parts.pages.layout → (p.tables table).task n ≡ (a k).task → IsIn p n (statement_of was) table
    pub takes : (k : ℕ) (queue : List Asked) → TakesUp (statement_of was) (a k).task queue queue
    pub starts : (p : Place) (blocks : List (List Slot)) (u : Unseen) (between : Task) → p.layout ≡ parts.pages.layout → IsFirstWithin (a (length blocks)).first between
        → IsMaintenance (a (length blocks)).task ⊎ (IsMaintenance between × Begins p n (table_state (shown_by parts.pages.layout parts.pages.pages parts.locks table blocks) u) (statement_of was) between)

  -- it takes the summarise lock of its table, or has it
  abbrev pub TakesRight : Type 0
  TakesRight = (righted ≡ slice_set parts.rights table (Some n)) ⊎ ((righted ≡ parts.rights) × ((k : ℕ) → IsMaintenance (a k).task))

  pub right_stays : TakesRight → OthersStay table n parts.rights righted
  right_stays (inl taken) = set_stays table n (Some n) parts.rights righted (within told parts n was table a runs) (λ m is. sym (same_Some n m is)) taken
  right_stays (inr kept) = same_stays table n parts.rights righted kept.0

  pub right_taken : TakesRight → (names : List (List ℕ)) (hand_list : List (Option Hand)) (has : hand_in hand_list n ≡ Some was) (p : Place) (shown : IsPlaceOf (old_store told parts n was table a runs names hand_list) p) → right_of righted table ≡ Some n
  right_taken (inl taken) names hand_list has p shown = set_there table (Some n) parts.rights righted (within told parts n was table a runs) taken
  right_taken (inr kept) names hand_list has p shown =
      let old = old_store told parts n was table a runs names hand_list in
      let s = there names hand_list has p shown in
      ap (λ (l : List (Option ℕ)). right_of l table) kept.0 ∙ sym (here old n was table s).lock
      ∙ ((kept_here old n was table s).summarise_lock n).1 (subst IsMaintenance (sym (at_task old n was table s (a 0) (runs.is 0))) (kept.1 0))

  -- what is in hand then is the same statement
  pub record SameHand : Type 0 where
    pub plain : IsPlainHand next
    pub same : statement_of next ≡ statement_of was
    pub in_hand : IsHandFor parts.pages.layout (transaction_of parts.transactions.opens n) next
    pub own : locks_of locks n ≤ locks_held (Some next)

  -- it goes on
  pub record MovesSo (held_done : Option ℕ) (point : Point) : Type 0 where
    pub made : DidSo held_done (did.Moved point)
    pub statement : StatementSo
    pub takes : TakesRight
    pub hand : SameHand
    pub is_then : (k : ℕ) → IsSeenSo parts.pages.layout table next (b k)
    pub right : right_held parts.pages.layout (Some next) ≡ Some table
    pub told_then : (k : ℕ) (so_far : Account) → (b k).tells so_far → TellsSo next so_far
    pub busy : (k : ℕ) → (b k).task ≢ Resting
    pub changes : LocksLeft parts.pages.layout parts.locks locks n table
    pub ready : StaysReady parts.pages pages

  -- it is done
  pub record EndsSo (held_done : Option ℕ) (Over : Type 0) (point : Point) : Type 0 where
    pub over : Over
    pub made : DidSo held_done (did.Finished point)
    pub statement : StatementSo
    pub takes : TakesRight
    pub none : locks_of locks n ≡ 0
    pub changes : LocksLeft parts.pages.layout parts.locks locks n table
    pub ready : StaysReady parts.pages pages

  -- nothing changed, and it is at the same task
  pub record RestsSo : Type 0 where
    pub hand : SameHand
    pub is_then : (k : ℕ) → IsSeenSo parts.pages.layout table next (b k)
    pub task : (k : ℕ) → (b k).task ≡ (a k).task
    pub told_then : (so_far : Account) → TellsSo was so_far → TellsSo next so_far
    pub right : right_held parts.pages.layout (Some next) ≡ right_held parts.pages.layout (Some was)
    pub keeps : Keeps told parts.pages pages
    pub same_locks : locks ≡ parts.locks
    pub same_rights : righted ≡ parts.rights
    pub ready : StaysReady parts.pages pages
    pub on : (p : Place) (k : ℕ) → p.layout ≡ parts.pages.layout → (p.tables table).task n ≡ (a k).task → IsIn p n (statement_of was) table

  -- it waits for a page of its index
  pub record WaitsSo (held_done : Option ℕ) (held : Held) : Type 0 where
    pub made : DidSo held_done (did.Blocked held)
    pub rests : RestsSo
    pub index : ℕ
    pub at : ℕ
    pub listed : slice_get (indexes_of parts.pages.layout table) at ≡ Some index
    pub below : index < length parts.pages.layout.schema.indexes
    pub page : held.page.relation ≡ index_relation parts.pages.layout index
    pub holds : holder parts.locks held.page ≡ Some held.by
    pub another : held.by ≢ n
    pub waits : (k : ℕ) → (a k).waits held.page.block ≡ PageLock at held.page.block

  -- or for its table's summarise lock
  pub record LacksSo (held_done : Option ℕ) (by : ℕ) : Type 0 where
    pub made : DidSo held_done (did.NoRight by)
    pub rests : RestsSo
    pub holds : right_of parts.rights table ≡ Some by
    pub another : by ≢ n

  -- its index is full
  pub record FullSo (relation number : ℕ) : Type 0 where
    pub index : ℕ
    pub at : ℕ
    pub listed : slice_get (indexes_of parts.pages.layout table) at ≡ Some index
    pub below : index < length parts.pages.layout.schema.indexes
    pub same_rights : righted ≡ parts.rights
    pub page : relation ≡ index_relation parts.pages.layout index
    pub refused : (given : LockState) (rights : List (Option ℕ)) → GivesPageLocks locks given n → (right_of righted table ≡ Some n → rights ≡ slice_set righted table None) → (right_of righted table ≢ Some n → rights ≡ righted)
        → StepsSo told parts (with_queue parts pages given rights parts.queue) n was (stepped.Done (replies.Refused (refusals.Full (index_name parts.pages.layout table at) number)))

  -- the pages refuse it
  pub record FaultSo (error : StoreError) : Type 0 where
    pub plain : IsPlainHand next
    pub same : statement_of next ≡ statement_of was
    pub in_hand : IsHandFor parts.pages.layout (transaction_of parts.transactions.opens n) next
    pub right : right_held parts.pages.layout (Some next) ≡ right_held parts.pages.layout (Some was)
    pub same_rights : righted ≡ parts.rights
    pub refused : Refused told (Untold told parts.pages) parts.pages pages error
    pub names : NamesAPage parts.pages.layout error

  -- so the machine says
  abbrev pub Said : Option ℕ → Type 0 → Result Did MachineFault → Type 0
  Said held_done Over (Ok (did.Moved point)) = MovesSo held_done point
  Said held_done Over (Ok (did.Finished point)) = EndsSo held_done Over point
  Said held_done Over (Ok (did.Blocked held)) = WaitsSo held_done held
  Said held_done Over (Ok (did.NoRight by)) = LacksSo held_done by
  Said held_done Over (Err (faults.Full relation number)) = FullSo relation number
  Said held_done Over (Err (faults.Store error)) = FaultSo error
  Said held_done Over (Err faults.Memory) = ⊥

  -- what settling it needs
  pub rights_left : (held_done : Option ℕ) (Over : Type 0) (came : Result Did MachineFault) → Said held_done Over came → OthersStay table n parts.rights righted
  rights_left held_done Over (Ok (did.Moved point)) so = right_stays so.takes
  rights_left held_done Over (Ok (did.Finished point)) so = right_stays so.takes
  rights_left held_done Over (Ok (did.Blocked held)) so = same_stays table n parts.rights righted so.rests.same_rights
  rights_left held_done Over (Ok (did.NoRight by)) so = same_stays table n parts.rights righted so.rests.same_rights
  rights_left held_done Over (Err (faults.Full relation number)) so = same_stays table n parts.rights righted so.same_rights
  rights_left held_done Over (Err (faults.Store error)) so = same_stays table n parts.rights righted so.same_rights
  rights_left held_done Over (Err faults.Memory) so = absurd so

  pub held_page : (held_done : Option ℕ) (Over : Type 0) (came : Result Did MachineFault) → Said held_done Over came → IfOk came (HoldsAPage parts.pages.layout) × IfErr came (IsOfAnIndex parts.pages.layout)
  held_page held_done Over (Ok (did.Moved point)) so = (tt, tt)
  held_page held_done Over (Ok (did.Finished point)) so = (tt, tt)
  held_page held_done Over (Ok (did.Blocked held)) so = ((so.index, so.below, so.page), tt)
  held_page held_done Over (Ok (did.NoRight by)) so = (tt, tt)
  held_page held_done Over (Err (faults.Full relation number)) so = (tt, (so.index, so.below, so.page))
  held_page held_done Over (Err (faults.Store error)) so = (tt, tt)
  held_page held_done Over (Err faults.Memory) so = absurd so

  -- and so it is with its statement
  abbrev pub Comes : Option ℕ → Type 0 → Parts D → Result Came StoreFault → Type 0
  Comes held_done Over new (Ok (cames.Goes step)) = StepsSo told parts new n was (stepped_in next (Ok step))
  Comes held_done Over new (Ok (cames.Ends point)) = (new ≡ stepped_parts) × EndsSo held_done Over point
  Comes held_done Over new (Err fault) = StepsSo told parts new n was (stepped_in next (Err fault))

  -- ---- a step that is made, in each place

  pub makes_so : (held_done : Option ℕ) (point : Point) (rights : List (Option ℕ)) (stays : OthersStay table n parts.rights rights) (changes : LocksLeft parts.pages.layout parts.locks locks n table) (ready : StaysReady parts.pages pages) (statement : StatementSo) (h : Option Hand)
      → InPlaces (λ names hand_list has p shown now. MachineGoes n (pages_show (old_store told parts n was table a runs names hand_list) n was table (there names hand_list has p shown))
      (shown_by parts.pages.layout pages.pages locks table now) (right_of parts.rights table) held_done (a (count names hand_list has p shown)) (b (count names hand_list has p shown)) point)
      → ((names : List (List ℕ)) (hand_list : List (Option Hand)) (has : hand_in hand_list n ≡ Some was) (p : Place) (shown : IsPlaceOf (old_store told parts n was table a runs names hand_list) p) → held_done ≡ right_of rights table)
      → Makes told parts n was table a runs pages locks rights parts.queue left stays changes ready h b point
  makes_so held_done point rights stays changes ready statement h goes held names hand_list has tells p shown =
      let old = old_store told parts n was table a runs names hand_list in
      let s = there names hand_list has p shown in
      let k = count names hand_list has p shown in
      let it = goes names hand_list has tells p shown in
      made_so old (new_store told parts n was table a runs pages locks rights parts.queue left stays names hand_list h) n was table s (a k) (b k) (runs.is k) it.0 it.1 held_done (held names hand_list has p shown) point it.2
      (λ between first. statement.starts p (here old n was table s).blocks (unseen old n was table s) between shown.layout first)
      (statement.on p k shown.layout (ap (λ (x : TableState). x.task n) (here old n was table s).shown ∙ at_task old n was table s (a k) (runs.is k))) (statement.takes k p.queue) refl

  moves : (held_done : Option ℕ) (point : Point) → MovesSo held_done point → StepsSo told parts stepped_parts n was (stepped.Moved point next)
  moves held_done point so = moved_so told parts n was table a runs pages locks righted parts.queue left (right_stays so.takes) so.changes so.ready next b so.hand.plain so.is_then so.hand.same so.hand.in_hand so.hand.own so.right so.told_then so.busy point
      (makes_so (Some n) point righted (right_stays so.takes) so.changes so.ready so.statement (Some next) so.made (λ names hand_list has p shown. sym (right_taken so.takes names hand_list has p shown)))

  -- it waits, in each place
  waiting : (rests : RestsSo) (waited : WaitedFor) (by : ℕ) (names : List (List ℕ)) (hand_list : List (Option Hand)) (has : hand_in hand_list n ≡ Some was) (p : Place) (shown : IsPlaceOf (old_store told parts n was table a runs names hand_list) p)
      → MachineWaitsFor n (pages_show (old_store told parts n was table a runs names hand_list) n was table (there names hand_list has p shown)) (right_of parts.rights table) (a (count names hand_list has p shown)).task waited
      → IsHeldBy (w (old_store told parts n was table a runs names hand_list) n was table (there names hand_list has p shown)) waited by → Steps p n (Waits (refusals.Blocked (what_of parts.pages.layout table waited) (name_of p by))) p
  waiting rests waited by names hand_list has p shown waits held =
      let old = old_store told parts n was table a runs names hand_list in
      let s = there names hand_list has p shown in
      let k = count names hand_list has p shown in
      is_waiting old n was runs.plain table s (a k) (runs.is k) (fits told parts n was table a runs).entries
      (rests.on p k shown.layout (ap (λ (x : TableState). x.task n) (here old n was table s).shown ∙ at_task old n was table s (a k) (runs.is k))) waited by waits held

  rests_so : (rests : RestsSo) (what : What) (by : ℕ) → (by ≢ n) × ((1 ≤ locks_of parts.locks by) ⊎ ((t : ℕ) × (right_of parts.rights t ≡ Some by)))
      → ((names : List (List ℕ)) (hand_list : List (Option Hand)) (has : hand_in hand_list n ≡ Some was) → Tells told parts.pages → (p : Place) (shown : IsPlaceOf (old_store told parts n was table a runs names hand_list) p) → Steps p n (Waits (refusals.Blocked what (name_of p by))) p)
      → StepsSo told parts stepped_parts n was (stepped.Blocked what by next)
  rests_so rests what by holder_is waits = waits_so told parts n was table a runs pages locks righted parts.queue left (same_stays table n parts.rights righted rests.same_rights) next rests.hand.plain rests.hand.same rests.hand.in_hand rests.hand.own rests.right rests.same_rights
      b rests.is_then rests.task rests.told_then rests.ready rests.keeps rests.same_locks refl what by holder_is waits

  waits_there : (held_done : Option ℕ) (held : Held) (so : WaitsSo held_done held) → StepsSo told parts stepped_parts n was (stepped.Blocked (whats.Page (index_name parts.pages.layout table so.at) held.page.block) held.by next)
  waits_there held_done held so = rests_so so.rests (whats.Page (index_name parts.pages.layout table so.at) held.page.block) held.by (so.another, inl (holder_has_lock parts.locks held.page held.by so.holds)) (λ names hand_list has tells p shown.
      waiting so.rests (PageLock so.at held.page.block) held.by names hand_list has p shown
      (subst (MachineWaitsFor n (pages_show (old_store told parts n was table a runs names hand_list) n was table (there names hand_list has p shown)) (right_of parts.rights table) (a (count names hand_list has p shown)).task)
      (so.waits (count names hand_list has p shown)) (so.made names hand_list has tells p shown).2.0)
      (ap (λ (o : Option ℕ). (shown_at parts.pages.layout parts.pages.pages parts.locks o).lock held.page.block) so.listed ∙ ap (λ (page : PagePlace). holder parts.locks page) (page_is held so.index so.page) ∙ so.holds))
    where
      page_is : (held : Held) (index : ℕ) → held.page.relation ≡ index_relation parts.pages.layout index → page_of (index_relation parts.pages.layout index) held.page.block ≡ held.page
      page_is held index relation = λ j. record { relation = sym relation j; block = held.page.block }

  lacks_right : (held_done : Option ℕ) (by : ℕ) → LacksSo held_done by → StepsSo told parts stepped_parts n was (stepped.Blocked (whats.Work (table_name parts.pages.layout table)) by next)
  lacks_right held_done by so = rests_so so.rests (whats.Work (table_name parts.pages.layout table)) by (so.another, inr (table, so.holds)) (λ names hand_list has tells p shown.
      waiting so.rests SummariseLock by names hand_list has p shown (so.made names hand_list has tells p shown).2.0
      ((here (old_store told parts n was table a runs names hand_list) n was table (there names hand_list has p shown)).lock ∙ so.holds))

  -- with its session's page locks given
  pub left_given : (given : LockState) → GivesPageLocks locks given n → PartsLeft told parts pages given n table
  left_given given gives = record { leaves = left.leaves; pages_left = left.pages_left; order = left.order; limit = gives.limit ∙ left.limit; counts = λ m other. gives.counts m other ∙ left.counts m other }

  refuses : (error : StoreError) (given : LockState) → GivesPageLocks locks given n → FaultSo error → StepsSo told parts (with_queue parts pages given righted parts.queue) n was (stepped.Undone (fault_of error) next)
  refuses error given gives so = undone_so told parts n was table a runs pages given righted parts.queue (left_given given gives) (same_stays table n parts.rights righted so.same_rights) next so.plain so.same so.in_hand (let none = gives.none in omega (arith, none)) so.right so.same_rights
      error so.refused so.names

  goes : (held_done : Option ℕ) (Over : Type 0) (new : Parts D) (answer : Stepped) (step : Step) → stepped_in next (Ok step) ≡ answer → (result : Result Came StoreFault) → result ≡ Ok (cames.Goes step) → new ≡ stepped_parts → StepsSo told parts stepped_parts n was answer → Comes held_done Over new result
  goes held_done Over new answer step is result came same so = subst (Comes held_done Over new) (sym came) (subst (λ (q : Parts D). StepsSo told parts q n was (stepped_in next (Ok step))) (sym same) (subst (StepsSo told parts stepped_parts n was) (sym is) so))

  pub came_to : (held_done : Option ℕ) (Over : Type 0) (new : Parts D) (came : Result Did MachineFault) (result : Result Came StoreFault) → Said held_done Over came → pages.layout ≡ parts.pages.layout → IsSettled stepped_parts new n table came result → Comes held_done Over new result
  came_to held_done Over new (Ok (did.Moved point)) result so same it = goes held_done Over new (stepped.Moved point next) (steps.Moved point) refl result (it.1 ∙ ap Ok it.2) it.3 (moves held_done point so)
  came_to held_done Over new (Ok (did.Finished point)) result so same it = subst (Comes held_done Over new) (sym (it.1 ∙ ap Ok it.2)) (it.3, so)
  came_to held_done Over new (Ok (did.Blocked held)) result so same it =
      let named = subst (λ (l : DiskLayout). NamesIndex l held.page.relation (λ name. it.0 ≡ cames.Goes (steps.Blocked (whats.Page name held.page.block) held.by))) same it.2 so.index table so.at so.page so.listed in
      goes held_done Over new (stepped.Blocked (whats.Page (index_name parts.pages.layout table so.at) held.page.block) held.by next) (steps.Blocked (whats.Page (index_name parts.pages.layout table so.at) held.page.block) held.by) refl result (it.1 ∙ ap Ok named) it.3
      (waits_there held_done held so)
  came_to held_done Over new (Ok (did.NoRight by)) result so same it =
      let named = subst (λ (l : DiskLayout). it.0 ≡ cames.Goes (steps.Blocked (whats.Work (table_name l table)) by)) same it.2 in
      goes held_done Over new (stepped.Blocked (whats.Work (table_name parts.pages.layout table)) by next) (steps.Blocked (whats.Work (table_name parts.pages.layout table)) by) refl result (it.1 ∙ ap Ok named) it.3 (lacks_right held_done by so)
  came_to held_done Over new (Err (faults.Full relation number)) result so same it =
      let named = subst (λ (l : DiskLayout). NamesIndex l relation (λ name. result ≡ Ok (cames.Goes (steps.Done (replies.Refused (refusals.Full name number)))))) same it.reply so.index table so.at so.page so.listed in
      subst (Comes held_done Over new) (sym named) (subst (λ (q : Parts D). StepsSo told parts q n was (stepped.Done (replies.Refused (refusals.Full (index_name parts.pages.layout table so.at) number)))) (sym it.rest) (so.refused new.locks new.rights it.locks it.given it.kept))
  came_to held_done Over new (Err (faults.Store error)) result so same it =
      subst (Comes held_done Over new) (sym it.0) (subst (λ (q : Parts D). StepsSo told parts q n was (stepped.Undone (fault_of error) next)) (sym it.2) (refuses error new.locks it.1 so))
  came_to held_done Over new (Err faults.Memory) result so same it = absurd so

  -- ---- it is done: its statement replies, and gives its table's summarise lock

  pub ends : (Over : Type 0) (point : Point) (so : EndsSo None Over point) → ((k : ℕ) → (b k).task ≡ Resting) → (given : List (Option ℕ)) → (right_of righted table ≡ Some n → given ≡ slice_set righted table None) → (right_of righted table ≢ Some n → given ≡ righted)
      → (reply : Reply) → ((p : Place) (between : Task) (k : ℕ) (account : Account) → (b k).tells account → (account.dropped ≡ []) × (Some reply ≡ reply_after p.layout table between account [] (statement_of was)))
      → StepsSo told parts (with_queue parts pages locks given parts.queue) n was (stepped.Done reply)
  ends Over point so rests given gives keeps reply replies =
      let first = right_stays so.takes in
      let as_many = first.tables in
      let inside = within told parts n was table a runs in
      let still : table < length righted = omega (arith, inside, as_many) in
      let stays = stays_on table n parts.rights righted given first (gives_stay table n righted given still gives keeps) in
      done_so told parts n was table a runs pages locks given parts.queue left stays so.changes so.ready so.none (gives_own table n righted given still gives keeps) b rests point reply
      (λ names hand_list has p shown made tells. replies p made.between (count names hand_list has p shown) made.account tells)
      (makes_so None point given stays so.changes so.ready so.statement None so.made (λ names hand_list has p shown. sym (gives_there table n righted given still gives keeps (right_taken so.takes names hand_list has p shown))))
