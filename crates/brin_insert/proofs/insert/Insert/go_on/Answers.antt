use Rattle.std.proofs.Common.{◌≡◌, ◌<◌, ◌≤◌, ℕ, suc, ◌+◌, ◌/◌, List, length, length-set, Option, Some, set, refl, sym, ap, subst, ◌∙◌, arith}
use Rattle.std.specs.Vec.{with_item}
use Rattle.std.specs.Prelude.{slice_get}
use Rattle.block_model.specs.declared.row.Row.{Row}
use Rattle.page_map.specs.PageMap.{PageMap}
use Rattle.page_locks.specs.declared.did.Did.{Did}
use Rattle.page_locks.specs.LockCounts.{locks_of}
use Rattle.page_locks.specs.LockHolders.{LockState}
use Rattle.index_contents.specs.KeepsOrder.{KeepsOrder}
use Rattle.index_steps.specs.ShownTable.{indexes_of}
use Rattle.brin_insert.specs.declared.insert.Insert.{Insert}
use Rattle.brin_insert.specs.InsertHands.{InsertHand}
use Rattle.brin_insert.specs.StageLocks.{held_at}
use Rattle.std.proofs.lemmas.Bool.{false≢true}
use Rattle.std.proofs.lemmas.Option.{slice_get_within}
use Rattle.block_model.specs.declared.reply.Point.TheVariants as points
use Rattle.block_model.specs.declared.place.Spot.{Spot}
use Rattle.block_model.specs.declared.value.Value.{Value}
use Rattle.store_layout.specs.DiskLayout.{DiskLayout}
use Rattle.page_map.specs.Keeps.{Tells, Untold}
use Rattle.page_locks.specs.declared.did.Did.TheVariants as did
use Rattle.page_locks.specs.LockHolders.{holder}
use Rattle.heap_rows.specs.Heaps.{slots_a_page}
use Rattle.index_contents.specs.IndexContents.{contents}
use Rattle.index_steps.specs.IndexTuples.{TakesValues, index_at, shape_of}
use Rattle.index_steps.specs.LockLaws.{takes_none}
use Rattle.index_steps.specs.MoveEnds.{IsMoving}
use Rattle.index_steps.proofs.Onward.{fault_too}
use Rattle.index_steps.specs.SwapAnswers.{LeavesLocks, TakesAtMost}
use Rattle.range_tuple.specs.TupleBytes.{tuple_bytes}
use Rattle.brin_insert.specs.declared.stage.Stage.{Stage}
use Rattle.brin_insert.specs.declared.stage.Stage.TheVariants as stages
use Rattle.brin_insert.specs.InsertAnswers.{LeavesOtherRelations, relation_at, relation_in}
use Rattle.brin_insert.specs.InsertSteps.{IsAtWork, Stepped, insert_at, insert_of}
use Rattle.brin_insert.specs.Inserts.{AsksIn, HasStepAt, IsInsertFor, IsOfItsIndex, numbers_in, work_of}
use Rattle.index_steps.specs.ShownRows.{rows_in}
use Rattle.brin_insert.specs.StepAnswers.{DamageAt}
use Rattle.brin_insert.proofs.InTable.{blocked, finished, moved, row_stepped, stepped_here}
use Rattle.brin_insert.proofs.Numbers.{number_within}
use Rattle.brin_insert.specs.InsertLocks.{held_by, stage_at, stage_of, taken_by}
use Rattle.brin_insert.proofs.OwnLocks.{given_there, no_stage_drops, none_held, own_complete, own_there, stage_there, taken_there}
use Rattle.brin_insert.proofs.Outcomes.{heap_names, index_full, index_names, index_next, index_others}
use Rattle.brin_insert.proofs.Ordered.{keeps_by_heap, keeps_by_index}
use Rattle.brin_insert.proofs.Placed.{first_free, first_within, not_first, not_within, placed_first, placed_still, waits_later, waits_not}
use Rattle.brin_insert.proofs.Reaching.{left_by}
use Rattle.brin_insert.proofs.Tasks.{as_many, comes_asking, few_at, few_was, got_set, index_there, is_at_work, kept_at, left_with, made_then, made_with, none_was, number_there, own_then, range_is, same_numbers, task_stays, tuple_there, tuples_then, work_there}
use Rattle.brin_insert.proofs.insert.Insert.go_on.Goals as goal
use Rattle.brin_insert.proofs.insert.Insert.go_on.Given as given
use Rattle.brin_insert.proofs.insert.Insert.go_on.Goals.{After-index_mut-work, After-step}

-- the work in the index that the insert is at
module _ (g : given.Over) (c : After-index_mut-work g) where
  abbrev first : InsertHand
  first = c.index_mut-work.result.now

  is_there : work_of c.args.self.now ≡ Some first
  is_there = work_there c.args.self.now c.in-Some.spot first c.in-Some.is c.requires.left c.index_mut-work.ensures.value

  is_numbered : slice_get (indexes_of c.args.pages.now.layout c.args.self.now.row.table) c.args.self.now.at ≡ Some first.index
  is_numbered = number_there c.args.pages.now.layout c.args.self.now c.args.self.now.at first c.requires.made is_there

-- and a step of it
module _ (g : given.Over) (c : After-step g) where
  abbrev layout : DiskLayout
  layout = c.args.pages.now.layout

  abbrev pages : PageMap
  pages = c.args.pages.now.pages

  abbrev paged : PageMap
  paged = c.step.new.pages.pages

  abbrev locks : LockState
  locks = c.args.locks.now

  abbrev locked : LockState
  locked = c.step.new.locks

  abbrev actor : ℕ
  actor = c.args.actor

  abbrev old : Insert
  old = c.args.self.now

  abbrev x : Spot
  x = c.in-Some.spot

  abbrev e : InsertHand
  e = c.index_mut-work.result.now

  abbrev next : InsertHand
  next = c.step.new.self

  abbrev range : ℕ
  range = x.block / (index_at layout e.index).pages_per_range

  got : work_of old ≡ Some e
  got = work_there old x e c.in-Some.is c.requires.left c.index_mut-work.ensures.value

  there : slice_get (indexes_of layout old.row.table) old.at ≡ Some e.index
  there = number_there layout old old.at e c.requires.made got

  ranged : c.range_in-range.result ≡ range
  ranged = range_is layout c.layout-in-Some.result.now e.index c.index.result x.block c.range_in-range.result c.range_in-range.ensures c.layout-in-Some.ensures c.index.ensures

  below : old.at < length old.works.items
  below = slice_get_within old.works.items old.at e got

  found : slice_get (set old.works.items old.at next) old.at ≡ Some next
  found = got_set old.works.items old.at next below

  own : IsOfItsIndex layout next
  own = own_then layout e next c.step.ensures.same_index c.step.ensures.same_columns (tuple_there layout old old.at e c.requires.made got)

  numbers : numbers_in (set old.works.items old.at next) ≡ numbers_in old.works.items
  numbers = same_numbers old.works.items old.at e next got c.step.ensures.same_index

  here : (done : Did) → ((r : Row) → r.values ≡ c.as_slice-values.result.now → Stepped (shape_of layout e.index) actor c.range_in-range.result r (insert_of layout pages locks e old.copied) (insert_of layout paged locked next c.step.new.copied) done)
      → Stepped (shape_of layout e.index) actor range old.row (insert_at layout pages locks e.index e.stage old.copied e.widened) (insert_at layout paged locked e.index next.stage c.step.new.copied next.widened) done
  here done came = stepped_here layout pages paged locks locked actor c.range_in-range.result range old.row e next old.copied c.step.new.copied done c.step.ensures.same_index ranged (came old.row (sym c.as_slice-values.ensures.values))

  left : IsAtWork next.stage → HasStepAt old.place (slice_get (set old.works.items old.at next) old.at)
  left stands = left_with old.place (set old.works.items old.at next) old.at x next c.in-Some.is found stands

  made : IsInsertFor layout (record old { works = with_item old.works old.at next; copied = c.step.new.copied })
  made = made_with layout old _ c.requires.made refl (λ wants. absurd (false≢true (sym c.requires.plain ∙ wants))) (omega (arith, length-set old.works.items old.at next, c.requires.made.room)) c.requires.made.few refl e next got c.step.ensures.same_index own refl

  others : LeavesOtherRelations g.D.Disk.told (relation_at layout old) c.args.pages.now c.step.new.pages
  others = index_others g.D.Disk.told c.args.pages.now locks actor c.range_in-range.result old x e c.requires.made c.in-Some.is got c.step.new.pages c.step.ensures.others

  apart : LeavesLocks (holder locks) (holder locked) (relation_at layout old) actor
  apart = subst (λ (relation : ℕ). LeavesLocks (holder locks) (holder locked) relation actor) (sym (index_next layout old x e c.in-Some.is got)) c.step.ensures.locks

  takes : TakesAtMost (taken_by (stage_of old)) locks locked actor
  takes = taken_there old locks locked actor x e c.in-Some.is got c.step.ensures.counts

  given_by : ((y : Spot) → e.stage ≡ stages.Drop y → locks_of locked actor ≡ 0) → (y : Spot) → stage_of old ≡ Some (stages.Drop y) → locks_of locked actor ≡ 0
  given_by gives y is = given_there old.place old.works.items old.at x y e locked actor c.in-Some.is got gives is

  own_by : (locks_of locks actor ≤ held_at e.stage → locks_of locked actor ≤ held_at next.stage) → locks_of locks actor ≤ held_by (stage_of old) → locks_of locked actor ≤ held_by (stage_at old.place (slice_get (set old.works.items old.at next) old.at))
  own_by few = own_there old.place old.works.items (set old.works.items old.at next) old.at x e next locks locked actor c.in-Some.is got found few

  kept_order : (n : ℕ) → KeepsOrder g.D.Disk.told n c.args.pages.now c.step.new.pages
  kept_order n = keeps_by_index g.D.Disk.told c.args.pages.now c.step.new.pages e.index n c.step.ensures.others c.step.ensures.order

pub range_in-range-requires : goal.range_in-range-requires
range_in-range-requires g c =
    let e = c.index_mut-work.result.now in
    omega (arith, c.index.ensures, ap (λ (l : DiskLayout). length l.schema.indexes) c.layout-in-Some.ensures, number_within c.args.pages.now.layout c.args.self.now.row.table c.args.self.now.at e.index (is_numbered g (goal.at.range_in-range-requires g c).After-index_mut-work))

pub step-requires-clause-index : goal.step-requires-clause-index
step-requires-clause-index g c = number_within c.args.pages.now.layout c.args.self.now.row.table c.args.self.now.at c.index_mut-work.result.now.index (is_numbered g (goal.at.step-requires-clause-index g c).After-index_mut-work)

pub step-requires-clause-work : goal.step-requires-clause-work
step-requires-clause-work g c = is_at_work c.args.self.now c.in-Some.spot c.index_mut-work.result.now c.in-Some.is c.requires.left (is_there g (goal.at.step-requires-clause-work g c).After-index_mut-work)

pub step-requires-clause-tuple : goal.step-requires-clause-tuple
step-requires-clause-tuple g c = tuple_there c.args.pages.now.layout c.args.self.now c.args.self.now.at c.index_mut-work.result.now c.requires.made (is_there g (goal.at.step-requires-clause-tuple g c).After-index_mut-work)

pub step-requires-clause-takes : goal.step-requires-clause-takes
step-requires-clause-takes g c =
    let e = c.index_mut-work.result.now in
    subst (λ (values : List Value). TakesValues (shape_of c.args.pages.now.layout e.index) values) (sym c.as_slice-values.ensures.values) (c.requires.made.taken c.args.self.now.at e.index (is_numbered g (goal.at.step-requires-clause-takes g c).After-index_mut-work))

pub step-requires-clause-moving : goal.step-requires-clause-moving
step-requires-clause-moving g c = λ from to is tells.
    let store = c.args.pages.now in
    let old = c.args.self.now in
    let x = c.in-Some.spot in
    let e = c.index_mut-work.result.now in
    let ranged : c.range_in-range.result ≡ x.block / (index_at store.layout e.index).pages_per_range = range_is store.layout c.layout-in-Some.result.now e.index c.index.result x.block c.range_in-range.result c.range_in-range.ensures c.layout-in-Some.ensures c.index.ensures in
    subst (λ (m : ℕ). IsMoving (shape_of store.layout e.index) (contents store.layout store.pages e.index) m from to) (sym ranged)
    (c.a_kept_table_is_read.ensures.moving store.layout store.pages c.args.locks.now c.args.actor old.row.table old.at e.index x.block x.slot old.row from to old.copied (tuple_bytes e.widened) (is_numbered g (goal.at.step-requires-clause-moving g c).After-index_mut-work)
    (kept_at store.layout store.pages c.args.locks.now c.args.actor old x e (stages.Set from to) c.in-Some.is (is_there g (goal.at.step-requires-clause-moving g c).After-index_mut-work) c.requires.plain is (c.requires.kept tells)))

pub overflow_add-self : goal.overflow_add-self
overflow_add-self g c = omega (arith, below g (goal.at.overflow_add-self g c).After-step, c.args.self.now.works.ok, c.args.self.now.works.small)

pub returns-in-Ok-clause-stepped : goal.returns-in-Ok-clause-stepped
returns-in-Ok-clause-stepped g c = λ tells blocks has.
    let store = c.args.pages.now in
    let old = c.args.self.now in
    let rest = c.reach-did.ensures.rest in
    row_stepped c.a_row_is_put_in_its_table.ensures store.layout store.pages c.put.new.pages.pages c.args.locks.now c.args.actor old c.reach-did.new.self c.in-Ok.spot c.as_slice.result.now blocks c.requires.made c.in-None.is
    (λ wants. subst (λ (l : DiskLayout). AsksIn l c.in-Ok.spot (work_of c.reach-did.new.self)) (c.layout.ensures ∙ c.put.ensures.others.leaves.layout) (c.reach-did.ensures.asks wants))
    (λ silent asks. c.reach-did.ensures.plain silent (subst (λ (l : DiskLayout). AsksIn l c.in-Ok.spot (work_of c.reach-did.new.self)) (sym (c.layout.ensures ∙ c.put.ensures.others.leaves.layout)) asks))
    rest.1 rest.0 rest.2 c.reach-did.ensures.numbers c.as_slice.ensures.values
    (record {
      declared = c.requires.made.table;
      has = has;
      place = c.in-Ok.ensures.place tells blocks has;
      fills = c.in-Ok.ensures.slots tells blocks has;
      within = c.in-Ok.ensures.within;
      others = c.put.ensures.others.pages tells;
    })
    (c.in-Ok.ensures.put tells blocks has) c.reach-did.result c.reach-did.ensures.reached

pub returns-in-Ok-Moved-clause-stepped : goal.returns-in-Ok-Moved-clause-stepped
returns-in-Ok-Moved-clause-stepped g c = λ tells blocks has.
    let store = c.args.pages.now in
    let old = c.args.self.now in
    let made = (goal.at.returns-in-Ok-Moved-clause-stepped g c).After-step in
    let came = rw c.in-Ok-Moved.field-0-is at c.in-Ok-Moved.ensures.stepped in
    moved c.an_insert_steps_in_its_table.ensures.steps c.an_insert_steps_in_its_table.ensures.waits store.layout store.pages c.step.new.pages.pages c.args.locks.now c.step.new.locks c.args.actor old _ c.in-Some.spot c.index_mut-work.result.now c.step.new.self c.step.new.copied blocks
    c.requires.made c.in-Some.is (got g made) c.in-Some.is refl c.step.ensures.same_index has (c.step.ensures.others.pages tells) (c.step.ensures.others.indexes tells) c.step.ensures.locks
    c.requires.plain c.requires.plain c.in-Ok-Moved.point (here g made (did.Moved c.in-Ok-Moved.point) (came tells)) refl refl (found g made)

pub returns-in-Ok-Blocked-clause-stepped : goal.returns-in-Ok-Blocked-clause-stepped
returns-in-Ok-Blocked-clause-stepped g c = λ tells blocks has.
    let store = c.args.pages.now in
    let old = c.args.self.now in
    let made = (goal.at.returns-in-Ok-Blocked-clause-stepped g c).After-step in
    let came = rw c.in-Ok-Blocked.field-0-is at c.in-Ok-Blocked.ensures.stepped in
    blocked c.an_insert_steps_in_its_table.ensures.steps c.an_insert_steps_in_its_table.ensures.waits store.layout store.pages c.step.new.pages.pages c.args.locks.now c.step.new.locks c.args.actor old _ c.in-Some.spot c.index_mut-work.result.now c.step.new.self c.step.new.copied blocks
    c.requires.made c.in-Some.is (got g made) c.in-Some.is refl c.step.ensures.same_index has (c.step.ensures.others.pages tells) (c.step.ensures.others.indexes tells) c.step.ensures.locks
    c.requires.plain c.requires.plain c.in-Ok-Blocked.held (here g made (did.Blocked c.in-Ok-Blocked.held) (came tells)) refl refl (found g made)

pub returns-in-Ok-Finished-clause-stepped : goal.returns-in-Ok-Finished-clause-stepped
returns-in-Ok-Finished-clause-stepped g c = λ tells blocks has.
    let store = c.args.pages.now in
    let old = c.args.self.now in
    let x = c.in-Some.spot in
    let e = c.index_mut-work.result.now in
    let made = (goal.at.returns-in-Ok-Finished-clause-stepped g c).After-step in
    let next_at : c.reach-answer.new.self.at ≡ suc old.at = omega (arith, c.reach-answer.ensures.rest.2) in
    let came = rw c.in-Ok-Finished.field-0-is at c.in-Ok-Finished.ensures.stepped in
    finished c.an_insert_steps_in_its_table.ensures.steps c.an_insert_steps_in_its_table.ensures.waits store.layout store.pages c.step.new.pages.pages c.args.locks.now c.step.new.locks c.args.actor old c.reach-answer.new.self x e c.step.new.self c.step.new.copied blocks
    c.requires.made c.in-Some.is (got g made) (c.reach-answer.ensures.rest.1 ∙ c.in-Some.is) c.reach-answer.ensures.rest.0 c.step.ensures.same_index has (c.step.ensures.others.pages tells) (c.step.ensures.others.indexes tells) c.step.ensures.locks
    c.requires.plain (λ wants. subst (λ (l : DiskLayout). AsksIn l x (work_of c.reach-answer.new.self)) (c.layout-in-Ok-Finished.ensures ∙ c.step.ensures.others.leaves.layout) (c.reach-answer.ensures.asks wants))
    (λ silent asks. c.reach-answer.ensures.plain silent (subst (λ (l : DiskLayout). AsksIn l x (work_of c.reach-answer.new.self)) (sym (c.layout-in-Ok-Finished.ensures ∙ c.step.ensures.others.leaves.layout)) asks))
    c.in-Ok-Finished.point (here g made (did.Finished c.in-Ok-Finished.point) (came tells))
    next_at (c.reach-answer.ensures.numbers ∙ numbers g made) c.reach-answer.result c.reach-answer.ensures.reached

pub returns-in-Ok-Moved-clause-left : goal.returns-in-Ok-Moved-clause-left
returns-in-Ok-Moved-clause-left g c = left g (goal.at.returns-in-Ok-Moved-clause-left g c).After-step (rw c.in-Ok-Moved.field-0-is at c.in-Ok-Moved.ensures.stands)

pub returns-in-Ok-Moved-clause-made : goal.returns-in-Ok-Moved-clause-made
returns-in-Ok-Moved-clause-made g c = made g (goal.at.returns-in-Ok-Moved-clause-made g c).After-step

pub returns-in-Ok-Blocked-clause-left : goal.returns-in-Ok-Blocked-clause-left
returns-in-Ok-Blocked-clause-left g c = left g (goal.at.returns-in-Ok-Blocked-clause-left g c).After-step (rw c.in-Ok-Blocked.field-0-is at c.in-Ok-Blocked.ensures.stands)

pub returns-in-Ok-Blocked-clause-made : goal.returns-in-Ok-Blocked-clause-made
returns-in-Ok-Blocked-clause-made g c = made g (goal.at.returns-in-Ok-Blocked-clause-made g c).After-step

pub returns-in-Err-step-clause-made : goal.returns-in-Err-step-clause-made
returns-in-Err-step-clause-made g c = made g (goal.at.returns-in-Err-step-clause-made g c).After-step

pub returns-in-Ok-Finished-clause-made : goal.returns-in-Ok-Finished-clause-made
returns-in-Ok-Finished-clause-made g c =
    let store = c.args.pages.now in
    let old = c.args.self.now in
    let x = c.in-Some.spot in
    let made = (goal.at.returns-in-Ok-Finished-clause-made g c).After-step in
    let new = c.reach-answer.new.self in
    let same = c.reach-answer.ensures.numbers ∙ numbers g made in
    let still = c.reach-answer.ensures.rest.1 ∙ c.in-Some.is in
    let fewer = c.reach-answer.ensures.rest.4 in
    let next_at : new.at ≡ suc old.at = omega (arith, c.reach-answer.ensures.rest.2) in
    let was = few_was old.place x old.asking old.at (length old.dropped.items) c.in-Some.is c.requires.plain c.requires.made.few in
    made_then store.layout old new c.requires.made c.reach-answer.ensures.rest.0
    (λ wants. comes_asking store.layout new x c.in-Ok-Finished.point c.reach-answer.result still c.reach-answer.ensures.reached (subst (λ (l : DiskLayout). AsksIn l x (work_of new)) (c.layout-in-Ok-Finished.ensures ∙ c.step.ensures.others.leaves.layout) (c.reach-answer.ensures.asks wants)))
    (omega (arith, as_many new.works.items old.works.items same, c.requires.made.room, c.reach-answer.ensures.rest.5))
    (few_at new.place x new.asking new.at (length new.dropped.items) still (omega (arith, ap length fewer, was, next_at)))
    fewer same
    (c.reach-answer.ensures.tuples store.layout (tuples_then old.works.items old.at c.index_mut-work.result.now c.step.new.self (got g made) c.step.ensures.same_index store.layout (own g made) c.requires.made.tuples))

pub returns-in-Ok-Moved-clause-others : goal.returns-in-Ok-Moved-clause-others
returns-in-Ok-Moved-clause-others g c = others g (goal.at.returns-in-Ok-Moved-clause-others g c).After-step

pub returns-in-Ok-Moved-clause-locks : goal.returns-in-Ok-Moved-clause-locks
returns-in-Ok-Moved-clause-locks g c = apart g (goal.at.returns-in-Ok-Moved-clause-locks g c).After-step

pub returns-in-Ok-Finished-clause-others : goal.returns-in-Ok-Finished-clause-others
returns-in-Ok-Finished-clause-others g c = others g (goal.at.returns-in-Ok-Finished-clause-others g c).After-step

pub returns-in-Ok-Finished-clause-locks : goal.returns-in-Ok-Finished-clause-locks
returns-in-Ok-Finished-clause-locks g c = apart g (goal.at.returns-in-Ok-Finished-clause-locks g c).After-step

pub returns-in-Err-step-clause-locks : goal.returns-in-Err-step-clause-locks
returns-in-Err-step-clause-locks g c = apart g (goal.at.returns-in-Err-step-clause-locks g c).After-step

pub returns-in-Ok-Blocked-clause-blocked : goal.returns-in-Ok-Blocked-clause-blocked
returns-in-Ok-Blocked-clause-blocked g c =
    let waits = rw c.in-Ok-Blocked.field-0-is at c.in-Ok-Blocked.ensures.blocked in
    (waits.0.0 ∙ sym (index_next c.args.pages.now.layout c.args.self.now c.in-Some.spot c.index_mut-work.result.now c.in-Some.is (got g (goal.at.returns-in-Ok-Blocked-clause-blocked g c).After-step)), waits.0.1, waits.0.2, waits.1, waits.2)

pub returns-in-Err-step-clause-full : goal.returns-in-Err-step-clause-full
returns-in-Err-step-clause-full g c =
    let store = c.args.pages.now in
    let old = c.args.self.now in
    let x = c.in-Some.spot in
    let e = c.index_mut-work.result.now in
    let made = (goal.at.returns-in-Err-step-clause-full g c).After-step in
    index_full g.D.Disk.told store c.args.locks.now c.args.actor c.range_in-range.result old x e c.requires.made c.in-Some.is (got g made) c.requires.plain
    (λ blocks number lacks. c.an_insert_steps_in_its_table.ensures.full store.layout store.pages c.args.locks.now old.row.table (slots_a_page store.layout old.row.table) (length blocks) old.at e.index c.args.actor x.block x.slot number (rows_in old.row.table blocks) old.row e.stage old.copied e.widened (there g made) lacks)
    c.in-Err-step.fault (ranged g made) c.in-Err-step.ensures.full

pub returns-in-Err-step-clause-stays : goal.returns-in-Err-step-clause-stays
returns-in-Err-step-clause-stays g c =
    let old = c.args.self.now in
    let made = (goal.at.returns-in-Err-step-clause-stays g c).After-step in
    task_stays c.args.pages.now.layout old (record old { works = with_item old.works old.at c.step.new.self; copied = c.step.new.copied }) c.in-Some.spot c.index_mut-work.result.now c.step.new.self c.in-Some.is c.in-Some.is refl refl (got g made) (found g made) c.requires.plain c.requires.plain c.step.ensures.same_index c.in-Err-step.ensures.same_stage c.in-Err-step.ensures.same_hand

pub returns-in-Err-step-clause-still_left : goal.returns-in-Err-step-clause-still_left
returns-in-Err-step-clause-still_left g c =
    let made = (goal.at.returns-in-Err-step-clause-still_left g c).After-step in
    left g made (subst (λ (q : Stage). IsAtWork q) (sym c.in-Err-step.ensures.same_stage) (is_at_work c.args.self.now c.in-Some.spot c.index_mut-work.result.now c.in-Some.is c.requires.left (got g made)))

pub returns-in-Err-clause-at : goal.returns-in-Err-clause-at
returns-in-Err-clause-at g c =
    let store = c.args.pages.now in
    let old = c.args.self.now in
    heap_names store.layout old.row.table (relation_at store.layout old) c.in-Err.fault c.requires.made.table (ap (λ (o : Option Spot). relation_in store.layout old.row.table o (work_of old)) c.in-None.is) c.in-Err.ensures.names

pub returns-in-Err-step-clause-at : goal.returns-in-Err-step-clause-at
returns-in-Err-step-clause-at g c =
    index_names g.D.Disk.told c.args.pages.now c.args.locks.now c.args.actor c.range_in-range.result c.args.self.now c.in-Some.spot c.index_mut-work.result.now c.requires.made c.in-Some.is (got g (goal.at.returns-in-Err-step-clause-at g c).After-step) c.in-Err-step.fault c.in-Err-step.ensures.at

pub returns-in-Err-step-clause-outcome : goal.returns-in-Err-step-clause-outcome
returns-in-Err-step-clause-outcome g c =
    let store = c.args.pages.now in
    let old = c.args.self.now in
    let x = c.in-Some.spot in
    let e = c.index_mut-work.result.now in
    let made = (goal.at.returns-in-Err-step-clause-outcome g c).After-step in
    fault_too Did Did g.D.Disk.told (Tells g.D.Disk.told store → DamageAt (shape_of store.layout e.index) (contents store.layout store.pages e.index) c.range_in-range.result e.stage) (Untold g.D.Disk.told store) store c.step.new.pages c.in-Err-step.fault
    (λ cause tells. c.a_kept_table_is_read.ensures.undamaged store.layout store.pages c.args.locks.now c.args.actor old.row.table old.at e.index x.block x.slot old.row e.stage old.copied (tuple_bytes e.widened) (there g made)
    (kept_at store.layout store.pages c.args.locks.now c.args.actor old x e e.stage c.in-Some.is (got g made) c.requires.plain refl (c.requires.kept tells))
    (subst (λ (m : ℕ). DamageAt (shape_of store.layout e.index) (contents store.layout store.pages e.index) m e.stage) (ranged g made) (cause tells)))
    c.in-Err-step.ensures.outcome

pub returns-in-Ok-clause-made : goal.returns-in-Ok-clause-made
returns-in-Ok-clause-made g c =
    let store = c.args.pages.now in
    let old = c.args.self.now in
    let new = c.reach-did.new.self in
    let fewer = c.reach-did.ensures.rest.4 in
    let none = none_was old.place old.asking old.at (length old.dropped.items) c.in-None.is c.requires.made.few in
    made_then store.layout old new c.requires.made c.reach-did.ensures.rest.0
    (λ wants. comes_asking store.layout new c.in-Ok.spot points.Row c.reach-did.result c.reach-did.ensures.rest.1 c.reach-did.ensures.reached (subst (λ (l : DiskLayout). AsksIn l c.in-Ok.spot (work_of new)) (c.layout.ensures ∙ c.put.ensures.others.leaves.layout) (c.reach-did.ensures.asks wants)))
    (omega (arith, as_many new.works.items old.works.items c.reach-did.ensures.numbers, c.requires.made.room, c.reach-did.ensures.rest.5))
    (few_at new.place c.in-Ok.spot new.asking new.at (length new.dropped.items) c.reach-did.ensures.rest.1 (omega (arith, ap length fewer, none)))
    fewer c.reach-did.ensures.numbers (c.reach-did.ensures.tuples store.layout c.requires.made.tuples)

pub returns-in-Ok-clause-first : goal.returns-in-Ok-clause-first
returns-in-Ok-clause-first g c = waits_not c.args.self.now.place points.Row c.reach-did.result (work_of c.reach-did.new.self) c.in-None.is c.reach-did.ensures.reached

pub returns-in-Ok-Moved-clause-first : goal.returns-in-Ok-Moved-clause-first
returns-in-Ok-Moved-clause-first g c = waits_later c.args.self.now.place c.in-Some.spot (did.Moved c.in-Ok-Moved.point) c.in-Some.is

pub returns-in-Ok-Blocked-clause-first : goal.returns-in-Ok-Blocked-clause-first
returns-in-Ok-Blocked-clause-first g c = waits_later c.args.self.now.place c.in-Some.spot (did.Blocked c.in-Ok-Blocked.held) c.in-Some.is

pub returns-in-Ok-Finished-clause-first : goal.returns-in-Ok-Finished-clause-first
returns-in-Ok-Finished-clause-first g c = waits_later c.args.self.now.place c.in-Some.spot c.reach-answer.result c.in-Some.is

pub returns-in-Ok-clause-left : goal.returns-in-Ok-clause-left
returns-in-Ok-clause-left g c = left_by c.reach-did.new.self c.in-Ok.spot points.Row c.reach-did.result c.reach-did.ensures.rest.1 c.reach-did.ensures.reached

pub returns-in-Ok-Finished-clause-left : goal.returns-in-Ok-Finished-clause-left
returns-in-Ok-Finished-clause-left g c =
    left_by c.reach-answer.new.self c.in-Some.spot c.in-Ok-Finished.point c.reach-answer.result (c.reach-answer.ensures.rest.1 ∙ c.in-Some.is) c.reach-answer.ensures.reached

pub step-requires-clause-locks : goal.step-requires-clause-locks
step-requires-clause-locks g c = λ y is.
    c.requires.locks y (stage_there c.args.self.now.place c.args.self.now.works.items c.args.self.now.at c.in-Some.spot c.index_mut-work.result.now c.in-Some.is (is_there g (goal.at.step-requires-clause-locks g c).After-index_mut-work) ∙ ap Some is)

pub returns-in-Ok-clause-counts : goal.returns-in-Ok-clause-counts
returns-in-Ok-clause-counts g c = takes_none (taken_by (stage_of c.args.self.now)) c.args.locks.now c.args.actor

pub returns-in-Err-clause-counts : goal.returns-in-Err-clause-counts
returns-in-Err-clause-counts g c = takes_none (taken_by (stage_of c.args.self.now)) c.args.locks.now c.args.actor

pub returns-in-Ok-clause-given : goal.returns-in-Ok-clause-given
returns-in-Ok-clause-given g c = λ y is. absurd (no_stage_drops c.args.self.now y c.in-None.is is)

pub returns-in-Ok-clause-own : goal.returns-in-Ok-clause-own
returns-in-Ok-clause-own g c = none_held c.args.self.now c.args.locks.now c.args.actor (held_by (stage_of c.reach-did.new.self)) c.in-None.is

pub returns-in-Ok-Moved-clause-counts : goal.returns-in-Ok-Moved-clause-counts
returns-in-Ok-Moved-clause-counts g c = takes g (goal.at.returns-in-Ok-Moved-clause-counts g c).After-step

pub returns-in-Ok-Blocked-clause-counts : goal.returns-in-Ok-Blocked-clause-counts
returns-in-Ok-Blocked-clause-counts g c = takes g (goal.at.returns-in-Ok-Blocked-clause-counts g c).After-step

pub returns-in-Ok-Finished-clause-counts : goal.returns-in-Ok-Finished-clause-counts
returns-in-Ok-Finished-clause-counts g c = takes g (goal.at.returns-in-Ok-Finished-clause-counts g c).After-step

pub returns-in-Err-step-clause-counts : goal.returns-in-Err-step-clause-counts
returns-in-Err-step-clause-counts g c = takes g (goal.at.returns-in-Err-step-clause-counts g c).After-step

pub returns-in-Ok-Moved-clause-given : goal.returns-in-Ok-Moved-clause-given
returns-in-Ok-Moved-clause-given g c = given_by g (goal.at.returns-in-Ok-Moved-clause-given g c).After-step c.in-Ok-Moved.ensures.given

pub returns-in-Ok-Blocked-clause-given : goal.returns-in-Ok-Blocked-clause-given
returns-in-Ok-Blocked-clause-given g c = given_by g (goal.at.returns-in-Ok-Blocked-clause-given g c).After-step c.in-Ok-Blocked.ensures.given

pub returns-in-Ok-Finished-clause-given : goal.returns-in-Ok-Finished-clause-given
returns-in-Ok-Finished-clause-given g c = given_by g (goal.at.returns-in-Ok-Finished-clause-given g c).After-step c.in-Ok-Finished.ensures.given

pub returns-in-Ok-Moved-clause-own : goal.returns-in-Ok-Moved-clause-own
returns-in-Ok-Moved-clause-own g c = own_by g (goal.at.returns-in-Ok-Moved-clause-own g c).After-step c.in-Ok-Moved.ensures.own

pub returns-in-Ok-Blocked-clause-own : goal.returns-in-Ok-Blocked-clause-own
returns-in-Ok-Blocked-clause-own g c = own_by g (goal.at.returns-in-Ok-Blocked-clause-own g c).After-step c.in-Ok-Blocked.ensures.own

pub returns-in-Ok-Finished-clause-own : goal.returns-in-Ok-Finished-clause-own
returns-in-Ok-Finished-clause-own g c =
    own_complete c.args.self.now.place c.args.self.now.works.items c.args.self.now.at c.in-Some.spot c.index_mut-work.result.now c.step.new.self.stage c.args.locks.now c.step.new.locks c.args.actor (held_by (stage_of c.reach-answer.new.self)) c.in-Some.is (got g (goal.at.returns-in-Ok-Finished-clause-own g c).After-step)
    (rw c.in-Ok-Finished.field-0-is at c.in-Ok-Finished.ensures.stands) c.in-Ok-Finished.ensures.own

pub returns-in-Ok-clause-placed : goal.returns-in-Ok-clause-placed
returns-in-Ok-clause-placed g c = placed_first c.args.self.now.place c.reach-did.new.self.place c.in-Ok.spot c.in-None.is c.reach-did.ensures.rest.1

pub returns-in-Ok-clause-first_place : goal.returns-in-Ok-clause-first_place
returns-in-Ok-clause-first_place g c = λ tells blocks has.
    first_free c.args.pages.now.layout c.args.self.now.place c.reach-did.new.self.place c.in-Ok.spot blocks c.in-None.is c.reach-did.ensures.rest.1 (c.in-Ok.ensures.place tells blocks has)

pub returns-in-Ok-Moved-clause-placed : goal.returns-in-Ok-Moved-clause-placed
returns-in-Ok-Moved-clause-placed g c = placed_still c.args.self.now.place c.args.self.now.place c.in-Some.spot c.in-Some.is refl

pub returns-in-Ok-Moved-clause-first_place : goal.returns-in-Ok-Moved-clause-first_place
returns-in-Ok-Moved-clause-first_place g c = λ tells blocks has. not_first c.args.pages.now.layout c.args.self.now.place c.args.self.now.place c.in-Some.spot blocks c.in-Some.is

pub returns-in-Ok-Blocked-clause-placed : goal.returns-in-Ok-Blocked-clause-placed
returns-in-Ok-Blocked-clause-placed g c = placed_still c.args.self.now.place c.args.self.now.place c.in-Some.spot c.in-Some.is refl

pub returns-in-Ok-Blocked-clause-first_place : goal.returns-in-Ok-Blocked-clause-first_place
returns-in-Ok-Blocked-clause-first_place g c = λ tells blocks has. not_first c.args.pages.now.layout c.args.self.now.place c.args.self.now.place c.in-Some.spot blocks c.in-Some.is

pub returns-in-Ok-Finished-clause-placed : goal.returns-in-Ok-Finished-clause-placed
returns-in-Ok-Finished-clause-placed g c = placed_still c.args.self.now.place c.reach-answer.new.self.place c.in-Some.spot c.in-Some.is c.reach-answer.ensures.rest.1

pub returns-in-Ok-Finished-clause-first_place : goal.returns-in-Ok-Finished-clause-first_place
returns-in-Ok-Finished-clause-first_place g c = λ tells blocks has. not_first c.args.pages.now.layout c.args.self.now.place c.reach-answer.new.self.place c.in-Some.spot blocks c.in-Some.is

pub returns-in-Err-step-clause-same_stage : goal.returns-in-Err-step-clause-same_stage
returns-in-Err-step-clause-same_stage g c =
    let made = (goal.at.returns-in-Err-step-clause-same_stage g c).After-step in
    let old = c.args.self.now in
    stage_there old.place (set old.works.items old.at c.step.new.self) old.at c.in-Some.spot c.step.new.self c.in-Some.is (found g made) ∙ ap Some c.in-Err-step.ensures.same_stage ∙ sym (stage_there old.place old.works.items old.at c.in-Some.spot c.index_mut-work.result.now c.in-Some.is (got g made))

pub returns-in-Ok-clause-order : goal.returns-in-Ok-clause-order
returns-in-Ok-clause-order g c = λ n low. keeps_by_heap g.D.Disk.told c.args.pages.now c.put.new.pages c.args.self.now.row.table n c.requires.made.table c.put.ensures.others

pub returns-in-Err-clause-order : goal.returns-in-Err-clause-order
returns-in-Err-clause-order g c = λ n low. keeps_by_heap g.D.Disk.told c.args.pages.now c.put.new.pages c.args.self.now.row.table n c.requires.made.table c.put.ensures.others

pub returns-in-Ok-Moved-clause-order : goal.returns-in-Ok-Moved-clause-order
returns-in-Ok-Moved-clause-order g c = λ n low. kept_order g (goal.at.returns-in-Ok-Moved-clause-order g c).After-step n

pub returns-in-Ok-Blocked-clause-order : goal.returns-in-Ok-Blocked-clause-order
returns-in-Ok-Blocked-clause-order g c = λ n low. kept_order g (goal.at.returns-in-Ok-Blocked-clause-order g c).After-step n

pub returns-in-Ok-Finished-clause-order : goal.returns-in-Ok-Finished-clause-order
returns-in-Ok-Finished-clause-order g c = λ n low. kept_order g (goal.at.returns-in-Ok-Finished-clause-order g c).After-step n

pub returns-in-Err-step-clause-order : goal.returns-in-Err-step-clause-order
returns-in-Err-step-clause-order g c = λ n low. kept_order g (goal.at.returns-in-Err-step-clause-order g c).After-step n

pub returns-in-Ok-clause-within : goal.returns-in-Ok-clause-within
returns-in-Ok-clause-within g c = first_within c.args.pages.now.layout c.args.self.now.row.table c.args.self.now.place c.reach-did.new.self.place c.in-Ok.spot c.in-None.is c.reach-did.ensures.rest.1 c.in-Ok.ensures.within

pub returns-in-Ok-Moved-clause-within : goal.returns-in-Ok-Moved-clause-within
returns-in-Ok-Moved-clause-within g c = not_within c.args.pages.now.layout c.args.self.now.row.table c.args.self.now.place c.args.self.now.place c.in-Some.spot c.in-Some.is

pub returns-in-Ok-Blocked-clause-within : goal.returns-in-Ok-Blocked-clause-within
returns-in-Ok-Blocked-clause-within g c = not_within c.args.pages.now.layout c.args.self.now.row.table c.args.self.now.place c.args.self.now.place c.in-Some.spot c.in-Some.is

pub returns-in-Ok-Finished-clause-within : goal.returns-in-Ok-Finished-clause-within
returns-in-Ok-Finished-clause-within g c = not_within c.args.pages.now.layout c.args.self.now.row.table c.args.self.now.place c.reach-answer.new.self.place c.in-Some.spot c.in-Some.is

pub reach-did-requires : goal.reach-did-requires
reach-did-requires g c = λ hand got.
    let store = c.args.pages.now in
    let old = c.args.self.now in
    let there = index_there store.layout old.row.table old.works.items 0 hand c.requires.made.numbers got in
    omega (arith, ap (λ (l : DiskLayout). length l.schema.indexes) (c.layout.ensures ∙ c.put.ensures.others.leaves.layout), number_within store.layout old.row.table 0 hand.index there)

pub reach-answer-requires : goal.reach-answer-requires
reach-answer-requires g c = λ hand found.
    let store = c.args.pages.now in
    let old = c.args.self.now in
    let there = index_there store.layout old.row.table (set old.works.items old.at c.step.new.self) (old.at + 1) hand (numbers g (goal.at.reach-answer-requires g c).After-step ∙ c.requires.made.numbers) found in
    omega (arith, ap (λ (l : DiskLayout). length l.schema.indexes) (c.layout-in-Ok-Finished.ensures ∙ c.step.ensures.others.leaves.layout), number_within store.layout old.row.table (old.at + 1) hand.index there)
