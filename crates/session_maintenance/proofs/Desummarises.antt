-- a desummarise, as a maintenance machine
use Rattle.std.proofs.Common.{Err, IfErr, IfOk, List, None, Ok, OnErr, OnOk, Option, Result, Some, ap, arith, inl, inr, length, refl, slice_get, slice_set, subst, sym, ℕ, ◌/◌, ◌<◌, ◌∙◌, ◌≡◌, ◌≢◌, ◌≤◌, ◌⊎◌}
use Rattle.block_model.specs.declared.reply.Point.{Point}
use Rattle.coverage.specs.Accounts.{Account, no_account}
use Rattle.coverage.specs.Machines.{ShownTable, Unseen, table_state}
use Rattle.coverage.specs.Table.{Considers, Desummarising, Prunes, Resting, Task}
use Rattle.coverage.specs.TableCovered.{IsMaintenance, IsTableKept}
use Rattle.disk_trait.specs.Told.{Told}
use Rattle.heap_rows.specs.Heaps.{relation_of as heap_of}
use Rattle.index_contents.specs.IndexChanges.{LeavesOthers as LeavesOtherIndexes}
use Rattle.index_contents.specs.IndexContents.{relation_of as index_relation}
use Rattle.index_contents.specs.KeepsOrder.{KeepsOrder}
use Rattle.index_steps.specs.IndexTuples.{index_at}
use Rattle.index_steps.specs.ShownRows.{shown_by}
use Rattle.page_layout.specs.PageContents.{Slot}
use Rattle.page_locks.specs.LockCounts.{locks_of}
use Rattle.page_locks.specs.LockHolders.{LockState, holder}
use Rattle.page_locks.specs.RightHolders.{right_of}
use Rattle.page_locks.specs.declared.did.Did.{Did}
use Rattle.page_locks.specs.declared.held.Held.{Held}
use Rattle.page_map.specs.Keeps.{Keeps, Tells, Untold}
use Rattle.page_map.specs.PageMap.{PageMap, View}
use Rattle.script_semantics.specs.Beginnings.{Begins, StandsAt}
use Rattle.script_semantics.specs.Place.{Place}
use Rattle.session_maintenance.proofs.MachineHands.{IsSeenSo, at_task, here, kept_here, plain_hand, unseen}
use Rattle.session_maintenance.proofs.MachineOutcomes.{Comes, DidSo, EndsSo, RestsSo, Said, StatementSo, TakesRight, came_to, count, ends, held_page, rights_left}
use Rattle.session_maintenance.proofs.MachineParts.{LocksLeft, PartsLeft, RunsIn, index_left, new, old_store, stands, with_queue, within}
use Rattle.session_maintenance.proofs.MachinePlaces.{beside_shown}
use Rattle.session_maintenance.specs.MaintenanceSteps.{MachineDid, MachineGoes, MachineView}
use Rattle.session_parts.proofs.Undone.{fit_of_parts}
use Rattle.session_parts.specs.Hands.{TellsSo, statement_of}
use Rattle.session_parts.specs.StepAnswers.{StaysReady}
use Rattle.session_parts.specs.UndoneLaws.{FitsParts, StepsSo}
use Rattle.session_parts.specs.declared.hand.Hand.{Hand}
use Rattle.session_parts.specs.declared.parts.Parts.{Parts}
use Rattle.std.proofs.lemmas.Option.{none-some, same_Some}
use Rattle.store_layout.specs.DiskLayout.{DiskLayout}
use Rattle.tx_table.specs.Statuses.{status_relation}
use Rattle.block_model.specs.declared.reply.Reply.TheVariants as replies
use Rattle.page_locks.specs.declared.did.Did.TheVariants as did
use Rattle.session_parts.specs.declared.hand.Hand.TheVariants as hands
use Rattle.session_parts.specs.declared.hand.Stepped.TheVariants as stepped
use Rattle.store_layout.specs.declared.statement.Statement.TheVariants as statements
use Rattle.page_map.specs.declared.faults.MachineFault.TheVariants as faults
use Rattle.summarise_core.specs.declared.desummarise_stage.Stage.TheVariants as stages
use Rattle.session_maintenance.specs.declared.settle.Came.{Came}
use Rattle.session_maintenance.specs.Settled.{HoldsAPage, IsOfAnIndex, IsSettled}
use Rattle.session_parts.specs.declared.faults.StoreFault.{StoreFault}
use Rattle.session_maintenance.specs.MaintenanceSteps.{IsFirstWithin}
use Rattle.summarise_core.specs.Desummarises.{DamageIn, DesummariseDoes, DesummariseState, IsAtWork, IsDesummariseOf, IsDone, IsLeft, RightAnswers, StandsAfter, StaysWithoutRight, StoreStep, count_at, held_at, range_of, step_of, table_of, taken_at}
use Rattle.summarise_core.specs.DesummariseTable.{DesummariseDid, DesummariseGoes, DoesInTable, HasCounted, IsFirstWithin as IsFirstAt, LeavesTheRest, account_by, first_task, task_at, task_of}
use Rattle.summarise_core.specs.declared.desummarise_stage.Stage.{Stage}
use Rattle.coverage.specs.InOneIndex.{with_ranges}
use Rattle.coverage.specs.TablePoints.{PageLock}
use Rattle.session_parts.proofs.Tables.{unlisted}
use Rattle.session_parts.proofs.Steps.{takes_none}
use Rattle.session_parts.specs.DamagedPages.{index_names}
use Rattle.session_parts.specs.HandFits.{right_held, right_in}
use Rattle.index_steps.specs.StepAnswers.{BlockedWell, IsOfStore}
use Rattle.index_steps.specs.SwapAnswers.{FaultNamesPageOf, LeavesLocks, MachineOutcome, TakesAtMost}
use Rattle.index_steps.specs.ShownTable.{indexes_of, shown_at}
use Rattle.session_maintenance.proofs.WorkAsked.{same_place}
use Rattle.session_maintenance.proofs.UpkeepParts.{refused_untold}
use Rattle.page_map.specs.declared.faults.MachineFault.{MachineFault}
use Rattle.session_parts.specs.Stepping.{IsFit, IsShown}

-- ---- what its table sees of it

abbrev first_at : Stage → Task → Option Task
first_at stages.Right first = Some first
first_at stage first = None

abbrev tells_at : Stage → Account → Type 0
tells_at stages.Right account = Unit {0}
tells_at stage account = account ≡ with_ranges (count_at stage) no_account

abbrev pub view_of : DiskLayout → (at : ℕ) → DesummariseState → MachineView
view_of layout at a = record { task = task_of layout at a; first = first_at a.stage (first_task layout at a); tells = tells_at a.stage; waits = λ block. PageLock at block }

pub tells_so : (stage : Stage) (account : Account) → account ≡ with_ranges (count_at stage) no_account → tells_at stage account
tells_so stages.Right account is = tt
tells_so stages.Map account is = is
tells_so (stages.Clear x) account is = is
tells_so (stages.Drop x) account is = is
tells_so stages.Lacked account is = is
tells_so stages.Cleared account is = is

abbrev ranged : ℕ → Account
ranged count = record no_account { ranges = count }

told_as : (count : ℕ) → with_ranges count no_account ≡ ranged count
told_as count = ap ranged (omega arith)

counted_on : (before after : Stage) (count : ℕ) → HasCounted before after count → (told : Account) → tells_at before told → tells_at after (account_by before count told)
counted_on stages.Right after count counts told is = tells_so after no_account (ap ranged (omega (arith, counts)))
counted_on stages.Map after count counts told is = tells_so after (with_ranges count told) (ap (with_ranges count) is ∙ ap ranged (omega (arith, counts)))
counted_on (stages.Clear x) after count counts told is = tells_so after (with_ranges count told) (ap (with_ranges count) is ∙ ap ranged (omega (arith, counts)))
counted_on (stages.Drop x) after count counts told is = tells_so after (with_ranges count told) (ap (with_ranges count) is ∙ ap ranged (omega (arith, counts)))
counted_on stages.Lacked after count counts told is = tells_so after (with_ranges count told) (ap (with_ranges count) is ∙ ap ranged (omega (arith, counts)))
counted_on stages.Cleared after count counts told is = tells_so after (with_ranges count told) (ap (with_ranges count) is ∙ ap ranged (omega (arith, counts)))

first_so : (stage : Stage) (first within : Task) → IsFirstAt stage first within → IsFirstWithin (first_at stage first) within
first_so stages.Right first within is = is
first_so stages.Map first within is = tt
first_so (stages.Clear x) first within is = tt
first_so (stages.Drop x) first within is = tt
first_so stages.Lacked first within is = tt
first_so stages.Cleared first within is = tt

goes_so : (s at : ℕ) (old new : ShownTable) (held held_then : Option ℕ) (layout : DiskLayout) (a b : DesummariseState) (point : Point) (count : ℕ) → HasCounted a.stage b.stage count
    → DesummariseGoes s old new held held_then (task_of layout at a) (task_of layout at b) point (account_by a.stage count) a.stage (first_task layout at a) → MachineGoes s old new held held_then (view_of layout at a) (view_of layout at b) point
goes_so s at old new held held_then layout a b point count counts goes = (
  account_by a.stage count,
  counted_on a.stage b.stage count counts,
  (λ u was lock kept spared. let it = goes.0 u was lock kept in (u.unnamed, (λ i x is. is), it.0, it.1, it.2)),
  (λ u was lock kept spared. first_so a.stage (first_task layout at a) _ (goes.1 u was lock kept)),
)

did_so : (s at : ℕ) (old new : ShownTable) (held : Option ℕ) (layout : DiskLayout) (a b : DesummariseState) (answer : Did) → DesummariseDid s at old new held layout a b answer → MachineDid s old new held None (view_of layout at a) (view_of layout at b) answer
did_so s at old new held layout a b (did.Moved point) (count, counts, goes) = goes_so s at old new held (Some s) layout a b point count counts goes
did_so s at old new held layout a b (did.Finished point) (count, counts, goes) = goes_so s at old new held None layout a b point count counts goes
did_so s at old new held layout a b (did.Blocked waited) (waits, same) = (waits, ap (task_of layout at) same)
did_so s at old new held layout a b (did.NoRight by) (waits, holds, other, same) = (waits, holds, other, ap (task_of layout at) same)

-- ---- by where it stands

right_of_its : (own table : ℕ) (stage : Stage) → right_in own stage ≡ Some table → table ≡ own
right_of_its own table stages.Right has = absurd (none-some table has)
right_of_its own table stages.Map has = sym (same_Some own table has)
right_of_its own table (stages.Clear x) has = sym (same_Some own table has)
right_of_its own table (stages.Drop x) has = sym (same_Some own table has)
right_of_its own table stages.Lacked has = absurd (none-some table has)
right_of_its own table stages.Cleared has = absurd (none-some table has)

-- at its range it has the summarise lock, and something to tell
record AtWork (own at range : ℕ) (stage : Stage) : Type 0 where
  right : right_in own stage ≡ Some own
  busy : task_at at range stage ≢ Resting
  left : IsLeft stage
  told : (so_far : Account) → tells_at stage so_far → so_far ≡ ranged (count_at stage)

at_work : (own at range : ℕ) (stage : Stage) → IsAtWork stage → AtWork own at range stage
at_work own at range stages.Right work = absurd work
at_work own at range stages.Map work = record { right = refl; busy = λ is. cc; left = tt; told = λ so_far is. is ∙ told_as (count_at stages.Map) }
at_work own at range (stages.Clear x) work = record { right = refl; busy = λ is. cc; left = tt; told = λ so_far is. is ∙ told_as (count_at (stages.Clear x)) }
at_work own at range (stages.Drop x) work = record { right = refl; busy = λ is. cc; left = tt; told = λ so_far is. is ∙ told_as (count_at (stages.Drop x)) }
at_work own at range stages.Lacked work = absurd work
at_work own at range stages.Cleared work = absurd work

-- once it is done it holds no page lock
record Over (at range : ℕ) (stage : Stage) : Type 0 where
  free : held_at stage ≡ 0
  rests : task_at at range stage ≡ Resting
  told : (so_far : Account) → tells_at stage so_far → so_far ≡ ranged (count_at stage)

over : (at range : ℕ) (stage : Stage) → IsDone stage → Over at range stage
over at range stages.Right done = absurd done
over at range stages.Map done = absurd done
over at range (stages.Clear x) done = absurd done
over at range (stages.Drop x) done = absurd done
over at range stages.Lacked done = record { free = refl; rests = refl; told = λ so_far is. is ∙ told_as (count_at stages.Lacked) }
over at range stages.Cleared done = record { free = refl; rests = refl; told = λ so_far is. is ∙ told_as (count_at stages.Cleared) }

abbrev pub IsMade : Did → Type 0
IsMade (did.Moved point) = Unit {0}
IsMade (did.Finished point) = Unit {0}
IsMade answer = ⊥

takes_right : (own s at range : ℕ) (rights righted : List (Option ℕ)) (stage : Stage) (answer : Did) → IsMade answer → IsLeft stage → RightAnswers own s rights righted stage answer
    → (righted ≡ slice_set rights own (Some s)) ⊎ ((righted ≡ rights) × IsMaintenance (task_at at range stage))
takes_right own s at range rights righted stages.Right (did.Moved point) made left right = inl right.1
takes_right own s at range rights righted stages.Right (did.Finished point) made left right = inl right.1
takes_right own s at range rights righted stages.Right (did.Blocked held) made left right = absurd made
takes_right own s at range rights righted stages.Right (did.NoRight by) made left right = absurd made
takes_right own s at range rights righted stages.Map answer made left right = inr (right, tt)
takes_right own s at range rights righted (stages.Clear x) answer made left right = inr (right, tt)
takes_right own s at range rights righted (stages.Drop x) answer made left right = inr (right, tt)
takes_right own s at range rights righted stages.Lacked answer made left right = absurd left
takes_right own s at range rights righted stages.Cleared answer made left right = absurd left

right_rests : (own s : ℕ) (rights righted : List (Option ℕ)) (stage : Stage) (held : Held) → 0 < taken_at stage → RightAnswers own s rights righted stage (did.Blocked held) → righted ≡ rights
right_rests own s rights righted stages.Right held some right = absurd (omega (arith, some))
right_rests own s rights righted stages.Map held some right = right
right_rests own s rights righted (stages.Clear x) held some right = right
right_rests own s rights righted (stages.Drop x) held some right = right
right_rests own s rights righted stages.Lacked held some right = right
right_rests own s rights righted stages.Cleared held some right = right

takes_few : (stage : Stage) → taken_at stage ≤ 3
takes_few (stages.Clear x) = omega arith
takes_few stage = omega arith

pub desummarise_takes : (a : DesummariseState) → taken_at a.stage ≤ 3
desummarise_takes a = takes_few a.stage

-- it begins with the work at its range
starts_by : (layout : DiskLayout) (pages : PageMap) (locks : LockState) (blocks : List (List Slot)) (u : Unseen) (p : Place) (n at : ℕ) (a : DesummariseState) (between : Task) → p.layout ≡ layout → StandsAt layout a.index at → (stage : Stage) → IsLeft stage
    → IsFirstWithin (first_at stage (first_task layout at a)) between → IsMaintenance (task_at at (range_of layout a) stage)
    ⊎ (IsMaintenance between × Begins p n (table_state (shown_by layout pages locks (index_at layout a.index).table blocks) u) (statements.Desummarize a.index a.block) between)
starts_by layout pages locks blocks u p n at a between same stands stages.Right left first = inr (
  subst IsMaintenance (sym first) tt,
  (
    at,
    subst (λ (l : DiskLayout). StandsAt l a.index at) (sym same) stands,
    first ∙ ap (λ (m : ℕ). Considers (Desummarising (a.block / m)) at (a.block / m)) (sym (ap (λ (o : Option ℕ). (shown_at layout pages locks o).pages_per_range) stands)),
  ),
)
starts_by layout pages locks blocks u p n at a between same stands stages.Map left first = inl tt
starts_by layout pages locks blocks u p n at a between same stands (stages.Clear x) left first = inl tt
starts_by layout pages locks blocks u p n at a between same stands (stages.Drop x) left first = inl tt
starts_by layout pages locks blocks u p n at a between same stands stages.Lacked left first = absurd left
starts_by layout pages locks blocks u p n at a between same stands stages.Cleared left first = absurd left

not_work : (index block : ℕ) → statements.Desummarize index block ≢ statements.Work
not_work index block is = cc

is_seen : (layout : DiskLayout) (at : ℕ) (a : DesummariseState) → StandsAt layout a.index at → (index_at layout a.index).table < length layout.schema.tables → IsSeenSo layout (index_at layout a.index).table (hands.Desummarises a) (view_of layout at a)
is_seen layout at a stands below = record {
  below = below;
  in_table = λ other has. sym (same_Some (index_at layout a.index).table other has);
  right = λ other has. right_of_its (index_at layout a.index).table other a.stage has;
  task_is = λ number blocks tx stored transaction now is. ((λ own. let it = is.0 own in it.2 ∙ ap (λ (i : ℕ). task_of layout i a) (same_place layout (index_at layout a.index).table it.0 at a.index it.1 stands)), is.1);
  is_task = λ number blocks tx stored transaction now is. ((λ own. (at, stands, is.0 own)), is.1);
  tells = λ so_far is. tells_so a.stage so_far (is ∙ sym (told_as (count_at a.stage)));
}

-- ---- what the laws of its machine say

abbrev pub StepsInTable : Type 0
StepsInTable = (step : StoreStep) (at : ℕ) (a b : DesummariseState) (answer : Did) → slice_get (indexes_of step.layout (table_of step.layout a.index)) at ≡ Some a.index
    → LeavesTheRest step a.index → DesummariseDoes step a b answer → DoesInTable step at a b answer

abbrev pub TakesSound : Type 0
TakesSound = (layout : DiskLayout) (pages : PageMap) (locks : LockState) (blocks : List (List Slot)) (at : ℕ) (a : DesummariseState) (u : Unseen) → slice_get (indexes_of layout (table_of layout a.index)) at ≡ Some a.index
    → IsTableKept (table_state (shown_by layout pages locks (table_of layout a.index) blocks) u) → DamageIn layout pages a → ⊥

-- ---- over the parts of a store

-- what its machine's step told
pub record StepTold {D : Type 0} (told : D → Told) (parts : Parts D) (n : ℕ) (a b : DesummariseState) (pages : View D) (locks : LockState) (righted : List (Option ℕ)) (came : Result Did MachineFault) : Type 0 where
  pub does : IfOk came (λ answer. Tells told parts.pages → (blocks : List (List Slot)) → DesummariseDoes (step_of parts.pages.layout parts.pages.pages pages.pages parts.locks locks parts.rights righted n blocks) a b answer)
  pub after : IfOk came (StandsAfter a.stage b.stage)
  pub of : IsDesummariseOf parts.pages.layout b
  pub index : b.index ≡ a.index
  pub block : b.block ≡ a.block
  pub right : IfOk came (RightAnswers (table_of parts.pages.layout a.index) n parts.rights righted a.stage)
  pub same_rights : OnErr came (righted ≡ parts.rights)
  pub blocked : IfOk came (BlockedWell told a.index n parts.pages pages parts.locks locks)
  pub no_right : IfOk came (StaysWithoutRight told parts.pages pages parts.locks locks)
  pub of_store : IfErr came IsOfStore
  pub others : LeavesOtherIndexes told a.index parts.pages pages
  pub order : KeepsOrder told a.index parts.pages pages
  pub leaves : LeavesLocks (holder parts.locks) (holder locks) (index_relation parts.pages.layout a.index) n
  pub counts : TakesAtMost (taken_at a.stage) parts.locks locks n
  pub own : OnOk came (locks_of parts.locks n ≤ held_at a.stage → locks_of locks n ≤ held_at b.stage)
  pub stays : OnErr came (b ≡ a)
  pub at : IfErr came (FaultNamesPageOf parts.pages.layout a.index)
  pub outcome : MachineOutcome told (Tells told parts.pages → DamageIn parts.pages.layout parts.pages.pages a) parts.pages pages came

module _ {D : Type 0} (told : D → Told) (parts : Parts D) (n : ℕ) (a : DesummariseState) (fit : IsFit told parts n (hands.Desummarises a)) (below : (index_at parts.pages.layout a.index).table < length parts.pages.layout.schema.tables) where
  abbrev pub number : ℕ
  number = (index_at parts.pages.layout a.index).table

  its_hand : FitsParts told parts n (Some (hands.Desummarises a))
  its_hand = fit_of_parts told parts n (hands.Desummarises a) fit

  pub listed : (at : ℕ) × StandsAt parts.pages.layout a.index at
  listed = unlisted parts.pages.layout number a.index its_hand.in_hand.0.index refl

  abbrev pub view : DesummariseState → ℕ → MachineView
  view b k = view_of parts.pages.layout listed.0 b

  pub runs : RunsIn told parts n (hands.Desummarises a) number (view a)
  runs = record { fit = fit; plain = plain_hand (hands.Desummarises a) tt; is = λ k. is_seen parts.pages.layout listed.0 a listed.1 below }

  -- its step finds no damage where the store shows a place
  is_sound : (shown : IsShown told parts n (hands.Desummarises a)) → TakesSound → parts.pages.failed ≡ None → (Tells told parts.pages → DamageIn parts.pages.layout parts.pages.pages a) → Untold told parts.pages
  is_sound shown law ready damage tells =
      let it = shown tells ready in
      let s = stands told parts n (hands.Desummarises a) number (view a) runs it.0 it.1 it.2 it.3.0 it.3.1 in
      let old = old_store told parts n (hands.Desummarises a) number (view a) runs it.0 it.1 in
      law parts.pages.layout parts.pages.pages parts.locks (here old n (hands.Desummarises a) number s).blocks listed.0 a (unseen old n (hands.Desummarises a) number s) listed.1 (kept_here old n (hands.Desummarises a) number s) (damage tells)

  module _ (b : DesummariseState) (pages : View D) (locks : LockState) (righted : List (Option ℕ)) (came : Result Did MachineFault) (step : StepTold told parts n a b pages locks righted came) where
    abbrev pub next : Hand
    next = hands.Desummarises b

    pub left_so : PartsLeft told parts pages locks n number
    left_so = index_left told parts pages locks n a.index (taken_at a.stage) its_hand.in_hand.0.index step.others step.order step.counts

    same_statement : statement_of next ≡ statements.Desummarize a.index a.block
    same_statement = λ j. statements.Desummarize (step.index j) (step.block j)

    seen_then : (k : ℕ) → IsSeenSo parts.pages.layout number next (view b k)
    seen_then k = subst (λ (i : ℕ). IsSeenSo parts.pages.layout (index_at parts.pages.layout i).table next (view b k)) step.index
        (is_seen parts.pages.layout listed.0 b (subst (λ (i : ℕ). StandsAt parts.pages.layout i listed.0) (sym step.index) listed.1) (subst (λ (i : ℕ). (index_at parts.pages.layout i).table < length parts.pages.layout.schema.tables) (sym step.index) below))

    statement : StatementSo told parts n (hands.Desummarises a) next number (view a) (view b) runs pages locks righted left_so
    statement = record {
      on = λ p k same at. ap (λ (l : DiskLayout). (index_at l a.index).table) (sym same);
      takes = λ k queue. takes_none (statements.Desummarize a.index a.block) (task_of parts.pages.layout listed.0 a) queue queue (omega arith) (not_work a.index a.block);
      starts = λ p blocks u between same first. starts_by parts.pages.layout parts.pages.pages parts.locks blocks u p n listed.0 a between same listed.1 a.stage its_hand.in_hand.1 first;
    }

    made : (law : StepsInTable) (answer : Did) → (Tells told parts.pages → (blocks : List (List Slot)) → DesummariseDoes (step_of parts.pages.layout parts.pages.pages pages.pages parts.locks locks parts.rights righted n blocks) a b answer)
        → DidSo told parts n (hands.Desummarises a) next number (view a) (view b) runs pages locks righted left_so None answer
    made law answer does names hand_list has tells p shown =
        let old = old_store told parts n (hands.Desummarises a) number (view a) runs names hand_list in
        let s = stands told parts n (hands.Desummarises a) number (view a) runs names hand_list has p shown in
        let blocks = (here old n (hands.Desummarises a) number s).blocks in (
          blocks,
          beside_shown old pages.pages n (hands.Desummarises a) number s
              (λ block. step.others.pages tells (record { relation = status_relation; block = block }) (λ (same : status_relation ≡ index_relation parts.pages.layout a.index). absurd (omega (arith, same))))
              (λ other block inside. step.others.pages tells (record { relation = heap_of other; block = block }) (λ (same : heap_of other ≡ index_relation parts.pages.layout a.index). absurd (omega (arith, same, inside))))
              (λ extent next is. never_prunes (sym (at_task old n (hands.Desummarises a) number s (view a 0) (runs.is 0)) ∙ is)),
          did_so n listed.0 _ _ (right_of parts.rights number) parts.pages.layout a b answer (law (step_of parts.pages.layout parts.pages.pages pages.pages parts.locks locks parts.rights righted n blocks) listed.0 a b answer listed.1
              (record { others = step.others.indexes tells; locks = step.leaves }) (does tells blocks)),
        )
      where
        prunes_none : (extent next at range : ℕ) (stage : Stage) → task_at at range stage ≢ Prunes extent next
        prunes_none extent next at range stages.Right = λ is. cc
        prunes_none extent next at range stages.Map = λ is. cc
        prunes_none extent next at range (stages.Clear x) = λ is. cc
        prunes_none extent next at range (stages.Drop x) = λ is. cc
        prunes_none extent next at range stages.Lacked = λ is. cc
        prunes_none extent next at range stages.Cleared = λ is. cc

        never_prunes : {extent next : ℕ} → task_of parts.pages.layout listed.0 a ≢ Prunes extent next
        never_prunes {extent} {next} = prunes_none extent next listed.0 (range_of parts.pages.layout a) a.stage

    rests : b ≡ a → Keeps told parts.pages pages → locks ≡ parts.locks → righted ≡ parts.rights → locks_of locks n ≤ held_at b.stage → StaysReady parts.pages pages
        → RestsSo told parts n (hands.Desummarises a) next number (view a) (view b) runs pages locks righted left_so
    rests same keeps same_locks same_rights own ready = record {
      hand = record { plain = plain_hand next tt; same = same_statement; in_hand = (step.of, subst (λ (x : DesummariseState). IsLeft x.stage) (sym same) its_hand.in_hand.1); own = own };
      is_then = seen_then;
      task = λ k. ap (task_of parts.pages.layout listed.0) same;
      told_then = λ so_far is. subst (λ (x : DesummariseState). TellsSo (hands.Desummarises x) so_far) (sym same) is;
      right = ap (λ (x : DesummariseState). right_held parts.pages.layout (Some (hands.Desummarises x))) same;
      keeps = keeps;
      same_locks = same_locks;
      same_rights = same_rights;
      ready = ready;
      on = statement.on;
    }

    same_state : b.stage ≡ a.stage → b ≡ a
    same_state stage = λ j. record { index = step.index j; block = step.block j; stage = stage j }

    takes : (answer : Did) → IsMade answer → RightAnswers (table_of parts.pages.layout a.index) n parts.rights righted a.stage answer → TakesRight told parts n (hands.Desummarises a) next number (view a) (view b) runs pages locks righted left_so
    takes answer is right = elim (takes_right number n listed.0 (range_of parts.pages.layout a) parts.rights righted a.stage answer is its_hand.in_hand.1 right) [
      | inl taken ↦ inl taken
      | inr kept ↦ inr (kept.0, λ k. kept.1)
    ]

    changes : LocksLeft parts.pages.layout parts.locks locks n number
    changes = inr (inl (index_relation parts.pages.layout a.index, inr (a.index, its_hand.in_hand.0.index, refl, refl), step.leaves))

  pub said : StepsInTable → IsShown told parts n (hands.Desummarises a) → TakesSound → (b : DesummariseState) (pages : View D) (locks : LockState) (righted : List (Option ℕ)) (came : Result Did MachineFault) (step : StepTold told parts n a b pages locks righted came)
      → Said told parts n (hands.Desummarises a) (hands.Desummarises b) number (view a) (view b) runs pages locks righted (left_so b pages locks righted came step) None (IsDone b.stage) came
  said law shown sound b pages locks righted (Ok (did.Moved point)) step =
      let work = at_work number listed.0 (range_of parts.pages.layout b) b.stage step.after in
      record {
        made = made b pages locks righted (Ok (did.Moved point)) step law (did.Moved point) step.does;
        statement = statement b pages locks righted (Ok (did.Moved point)) step;
        takes = takes b pages locks righted (Ok (did.Moved point)) step (did.Moved point) tt step.right;
        hand = record { plain = plain_hand (hands.Desummarises b) tt; same = same_statement b pages locks righted (Ok (did.Moved point)) step; in_hand = (step.of, work.left); own = step.own its_hand.own };
        is_then = seen_then b pages locks righted (Ok (did.Moved point)) step;
        right = ap (λ (i : ℕ). right_in (index_at parts.pages.layout i).table b.stage) step.index ∙ work.right;
        told_then = λ k so_far is. work.told so_far is;
        busy = λ k. work.busy;
        changes = changes b pages locks righted (Ok (did.Moved point)) step;
        ready = (step.outcome.0, step.outcome.1);
      }
  said law shown sound b pages locks righted (Ok (did.Finished point)) step = record {
    over = step.after;
    made = made b pages locks righted (Ok (did.Finished point)) step law (did.Finished point) step.does;
    statement = statement b pages locks righted (Ok (did.Finished point)) step;
    takes = takes b pages locks righted (Ok (did.Finished point)) step (did.Finished point) tt step.right;
    none = let free = (over listed.0 (range_of parts.pages.layout b) b.stage step.after).free in let own = step.own its_hand.own in omega (arith, free, own);
    changes = changes b pages locks righted (Ok (did.Finished point)) step;
    ready = (step.outcome.0, step.outcome.1);
  }
  said law shown sound b pages locks righted (Ok (did.Blocked held)) step = record {
    made = made b pages locks righted (Ok (did.Blocked held)) step law (did.Blocked held) step.does;
    rests = rests b pages locks righted (Ok (did.Blocked held)) step (same_state b pages locks righted (Ok (did.Blocked held)) step step.after.1) step.blocked.2 step.blocked.1
        (right_rests number n parts.rights righted a.stage held step.after.0 step.right) (step.own its_hand.own) (step.outcome.0, step.outcome.1);
    index = a.index;
    at = listed.0;
    listed = listed.1;
    below = its_hand.in_hand.0.index;
    page = step.blocked.0.0;
    holds = step.blocked.0.1;
    another = step.blocked.0.2;
    waits = λ k. refl;
  }
  said law shown sound b pages locks righted (Ok (did.NoRight by)) step =
      let lacks : (right_of parts.rights number ≡ Some by) × (by ≢ n) × (righted ≡ parts.rights) = subst (λ (q : Stage). RightAnswers number n parts.rights righted q (did.NoRight by)) step.after.0 step.right in
      record {
        made = made b pages locks righted (Ok (did.NoRight by)) step law (did.NoRight by) step.does;
        rests = rests b pages locks righted (Ok (did.NoRight by)) step (same_state b pages locks righted (Ok (did.NoRight by)) step step.after.1) step.no_right.1 step.no_right.0 lacks.2 (step.own its_hand.own) (step.outcome.0, step.outcome.1);
        holds = lacks.0;
        another = lacks.1;
      }
  said law shown sound b pages locks righted (Err (faults.Full relation number)) step = absurd step.of_store
  said law shown sound b pages locks righted (Err (faults.Store error)) step = record {
    plain = plain_hand (hands.Desummarises b) tt;
    same = same_statement b pages locks righted (Err (faults.Store error)) step;
    in_hand = (step.of, subst (λ (x : DesummariseState). IsLeft x.stage) (sym step.stays) its_hand.in_hand.1);
    right = ap (λ (x : DesummariseState). right_held parts.pages.layout (Some (hands.Desummarises x))) step.stays;
    same_rights = step.same_rights;
    refused = refused_untold told (Tells told parts.pages → DamageIn parts.pages.layout parts.pages.pages a) parts.pages pages error (is_sound shown sound) step.outcome;
    names = index_names parts.pages.layout a.index error step.at;
  }
  said law shown sound b pages locks righted (Err faults.Memory) step = absurd step.of_store

  module _ (law : StepsInTable) (shown : IsShown told parts n (hands.Desummarises a)) (sound : TakesSound) (b : DesummariseState) (pages : View D) (locks : LockState) (righted : List (Option ℕ)) (came : Result Did MachineFault)
      (step : StepTold told parts n a b pages locks righted came) where
    abbrev left_then : PartsLeft told parts pages locks n number
    left_then = left_so b pages locks righted came step

    -- what settling it needs
    pub needs : (table : ℕ) → table ≡ number → (table < length righted) × IfOk came (HoldsAPage pages.layout) × IfErr came (IsOfAnIndex pages.layout)
    needs table is =
        let so = said law shown sound b pages locks righted came step in
        let as_many = (rights_left told parts n (hands.Desummarises a) (hands.Desummarises b) number (view a) (view b) runs pages locks righted left_then None (IsDone b.stage) came so).tables in
        let page = held_page told parts n (hands.Desummarises a) (hands.Desummarises b) number (view a) (view b) runs pages locks righted left_then None (IsDone b.stage) came so in
        let inside = within told parts n (hands.Desummarises a) number (view a) runs in (
          omega (arith, as_many, inside, is),
          subst (λ (l : DiskLayout). IfOk came (HoldsAPage l)) (sym step.others.leaves.layout) page.0,
          subst (λ (l : DiskLayout). IfErr came (IsOfAnIndex l)) (sym step.others.leaves.layout) page.1,
        )

    -- so it is with the statement
    pub comes : (table : ℕ) → table ≡ number → (new : Parts D) (result : Result Came StoreFault) → IsSettled (with_queue parts pages locks righted parts.queue) new n table came result → (then : Result Came StoreFault) → result ≡ then
        → Comes told parts n (hands.Desummarises a) (hands.Desummarises b) number (view a) (view b) runs pages locks righted left_then None (IsDone b.stage) new then
    comes table is new result settled then same = subst (Comes told parts n (hands.Desummarises a) (hands.Desummarises b) number (view a) (view b) runs pages locks righted left_then None (IsDone b.stage) new) same
        (came_to told parts n (hands.Desummarises a) (hands.Desummarises b) number (view a) (view b) runs pages locks righted left_then None (IsDone b.stage) new came result
        (said law shown sound b pages locks righted came step) step.others.leaves.layout (subst (λ (t : ℕ). IsSettled (with_queue parts pages locks righted parts.queue) new n t came result) is settled))

    -- the range's entry is out, or there was none: it replies
    pub replied : (table : ℕ) → table ≡ number → (point : Point) → EndsSo told parts n (hands.Desummarises a) (hands.Desummarises b) number (view a) (view b) runs pages locks righted left_then None (IsDone b.stage) point → (given : List (Option ℕ))
        → (right_of righted table ≡ Some n → given ≡ slice_set righted table None) → (right_of righted table ≢ Some n → given ≡ righted)
        → StepsSo told parts (with_queue parts pages locks given parts.queue) n (hands.Desummarises a) (stepped.Done (replies.Desummarized (count_at b.stage)))
    replied table same point so given gives keeps =
        let is = over listed.0 (range_of parts.pages.layout b) b.stage so.over in
        ends told parts n (hands.Desummarises a) (hands.Desummarises b) number (view a) (view b) runs pages locks righted left_then (IsDone b.stage) point so (λ k. is.rests) given
        (subst (λ (t : ℕ). right_of righted t ≡ Some n → given ≡ slice_set righted t None) same gives) (subst (λ (t : ℕ). right_of righted t ≢ Some n → given ≡ righted) same keeps) (replies.Desummarized (count_at b.stage))
        (λ p between k account tells. let told_so = is.told account tells in (ap (λ (x : Account). x.dropped) told_so, ap (λ (x : Account). Some (replies.Desummarized x.ranges)) (sym told_so)))
