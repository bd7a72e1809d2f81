-- a step of an insert in an index, as what came of it in the table
use Rattle.std.proofs.Common.{◌≡◌, ◌≢◌, inl, inr, ℕ, suc, ◌/◌, ◌≤◌, true, false, List, length, Option, None, Some, refl, sym, ap, subst, ◌∙◌, arith}
use Rattle.std.specs.Prelude.{slice_get}
use Rattle.std.proofs.lemmas.Bool.{cases_eq}
use Rattle.std.proofs.lemmas.Option.{slice_get_within}
use Rattle.block_model.specs.declared.place.Place.{Place}
use Rattle.block_model.specs.declared.place.Spot.{Spot}
use Rattle.block_model.specs.declared.reply.Point.{Point}
use Rattle.block_model.specs.declared.reply.Point.TheVariants as points
use Rattle.block_model.specs.declared.row.Row.{Row}
use Rattle.block_model.specs.declared.row.RowId.{RowId}
use Rattle.block_model.specs.declared.value.Value.{Value}
use Rattle.store_layout.specs.DiskLayout.{DiskLayout}
use Rattle.page_layout.specs.PageContents.{HasSlots, IsUnstarted, Slot}
use Rattle.page_map.specs.PageMap.{PageMap, block_at, page_at}
use Rattle.page_locks.specs.declared.did.Did.{Did}
use Rattle.page_locks.specs.declared.did.Did.TheVariants as did
use Rattle.page_locks.specs.declared.held.Held.{Held}
use Rattle.page_locks.specs.LockHolders.{LockState, holder}
use Rattle.heap_rows.specs.HeapBlocks.{HasBlocks, slots_of}
use Rattle.heap_rows.specs.Heaps.{form_at, relation_of as heap_of, slots_a_page}
use Rattle.range_tuple.specs.TupleBytes.{tuple_bytes}
use Rattle.range_tuple.specs.Tuples.{Tuple}
use Rattle.coverage.specs.Statements.{Empty, OnIndex}
use Rattle.coverage.specs.Accounts.{no_account}
use Rattle.coverage.specs.InOneIndex.{DoesAt}
use Rattle.coverage.specs.Machines.{ShownTable, Unseen, table_state, task_turned}
use Rattle.coverage.specs.Table.{Asks, Inserts, Reaches, Resting, Task, TableState}
use Rattle.coverage.specs.TableSteps.{AsksSummary, TaskTurns}
use Rattle.index_contents.specs.IndexContents.{contents, relation_of}
use Rattle.index_steps.specs.IndexTuples.{index_at, shape_of}
use Rattle.index_steps.specs.SwapAnswers.{LeavesLocks}
use Rattle.brin_insert.specs.declared.insert.Insert.{Insert}
use Rattle.brin_insert.specs.declared.stage.Stage.{Stage}
use Rattle.brin_insert.specs.declared.stage.Stage.TheVariants as stages
use Rattle.brin_insert.specs.InsertAnswers.{AccountsCome, DoesWith, InsertDid, InsertGoesTo, InsertStepped, InsertWaitsFor, TakesItsSlot, heap_after}
use Rattle.brin_insert.specs.InsertHands.{InsertHand}
use Rattle.brin_insert.specs.InsertSteps.{IsAtWork, StepMakes, StepWaits, Stepped, insert_at, insert_of, on_index}
use Rattle.brin_insert.specs.Inserts.{AsksIn, HasReached, IsInsertFor, numbers_in, task_at, task_of, work_of}
use Rattle.brin_insert.specs.RowSteps.{PutsRowOf, RowBegins, blocks_with}
use Rattle.index_steps.specs.ShownRows.{rows_in, shown_by}
use Rattle.index_steps.specs.ShownTable.{indexes_of, shown_table}
use Rattle.brin_insert.specs.TableSteps.{ShownDoes, StepsInIndex, Stores, task_after}
use Rattle.brin_insert.proofs.Reaching.{reaches}
use Rattle.brin_insert.proofs.Tasks.{number_there, task_asks, task_is}
use Rattle.coverage.proofs.Views.{pick_other, pick_same}
use Rattle.brin_insert.proofs.Turning.{goes_by, stays_in}

-- what the law of an insert's steps says
abbrev pub StepsInTable : Type 0
StepsInTable = (store : Stores) (table rows_per_page blocks at n s b k : ℕ) (row : ℕ → ℕ → Option Row) (r : Row) (stage next : Stage) (copied after : List ℕ) (t v : Tuple) (point : Point)
    → slice_get (indexes_of store.layout table) at ≡ Some n → StepsInIndex store n s b r stage next copied after t v point
    → ShownDoes s (shown_table store.layout store.pages store.locks table rows_per_page blocks row) (shown_table store.layout store.paged store.locked table rows_per_page blocks row)
    (Inserts b k r at (on_index (shape_of store.layout n) stage copied (tuple_bytes t))) (task_after store.layout n b k r at next after (tuple_bytes v)) point

abbrev pub WaitsInTable : Type 0
WaitsInTable = (layout : DiskLayout) (pages : PageMap) (locks : LockState) (table rows_per_page blocks at n s b k page : ℕ) (row : ℕ → ℕ → Option Row) (r : Row) (stage : Stage) (copied : List ℕ) (t : Tuple)
    → slice_get (indexes_of layout table) at ≡ Some n → StepWaits (shape_of layout n) s (b / (index_at layout n).pages_per_range) r (insert_at layout pages locks n stage copied t) page
    → InsertWaitsFor s (shown_table layout pages locks table rows_per_page blocks row) (Inserts b k r at (on_index (shape_of layout n) stage copied (tuple_bytes t))) at page

-- a step in the range of that number, in the index that the work stays in
pub stepped_here : (layout : DiskLayout) (pages paged : PageMap) (locks locked : LockState) (s number range : ℕ) (r : Row) (hand next : InsertHand) (copied after : List ℕ) (answer : Did) → next.index ≡ hand.index → number ≡ range
    → Stepped (shape_of layout hand.index) s number r (insert_of layout pages locks hand copied) (insert_of layout paged locked next after) answer
    → Stepped (shape_of layout hand.index) s range r (insert_at layout pages locks hand.index hand.stage copied hand.widened) (insert_at layout paged locked hand.index next.stage after next.widened) answer
stepped_here layout pages paged locks locked s number range r hand next copied after answer same ranged stepped =
    subst (λ (m : ℕ). Stepped (shape_of layout hand.index) s m r (insert_of layout pages locks hand copied) (insert_at layout paged locked hand.index next.stage after next.widened) answer) ranged
    (subst (λ (n : ℕ). Stepped (shape_of layout hand.index) s number r (insert_of layout pages locks hand copied) (insert_at layout paged locked n next.stage after next.widened) answer) same stepped)

-- a heap whose pages stay has its blocks
pub blocks_stay : (layout : DiskLayout) (pages paged : PageMap) (table : ℕ) (blocks : List (List Slot)) → ((block : ℕ) → block_at paged (heap_of table) block ≡ block_at pages (heap_of table) block)
    → HasBlocks layout pages table blocks → HasBlocks layout paged table blocks
blocks_stay layout pages paged table blocks same has = record {
  within = has.within;
  started = λ block below. subst (λ (page : List ℕ). HasSlots (form_at layout table) page (slots_of blocks block)) (sym (same block)) (has.started block below);
  unstarted = λ block past below. subst (λ (page : List ℕ). IsUnstarted page) (sym (same block)) (has.unstarted block past below);
}

-- a step in an index makes nothing of the account, and a row that is put begins an empty one
as_before : (s b k at : ℕ) (r : Row) (on : OnIndex) (shown : ShownTable) (w v : TableState) (point : Point) → DoesAt s w v point (λ account. account) → DoesWith s w v point (AccountsCome s shown (Inserts b k r at on))
as_before s b k at r on shown w v point does = record { does = does.does; point_is = does.point_is; adds = λ a c is. does.adds a c is }

as_first : (s : ℕ) (shown : ShownTable) (w v : TableState) (point : Point) → DoesAt s w v point (λ account. no_account) → DoesWith s w v point (AccountsCome s shown Resting)
as_first s shown w v point does = record { does = does.does; point_is = does.point_is; adds = λ a c is. does.adds a c is }

-- at work in the index, it stays there
after_work : (layout : DiskLayout) (n b k : ℕ) (r : Row) (at : ℕ) (next : Stage) (copied widened : List ℕ) → IsAtWork next → task_after layout n b k r at next copied widened ≡ Inserts b k r at (on_index (shape_of layout n) next copied widened)
after_work layout n b k r at stages.Map copied widened work = refl
after_work layout n b k r at (stages.Copy x) copied widened work = refl
after_work layout n b k r at (stages.Swap x) copied widened work = refl
after_work layout n b k r at (stages.Set x y) copied widened work = refl
after_work layout n b k r at (stages.Drop x) copied widened work = refl
after_work layout n b k r at stages.Complete copied widened work = absurd work

-- what came of a step, of tasks that are these
came_as : (s at : ℕ) (old new : ShownTable) (before after one other : Task) (answer : Did) → before ≡ one → after ≡ other → InsertDid s at old new one other answer → InsertDid s at old new before after answer
came_as s at old new before after one other answer first second came =
    subst (λ (t : Task). InsertDid s at old new t after answer) (sym first) (subst (λ (t : Task). InsertDid s at old new one t answer) (sym second) came)

module _ (steps : StepsInTable) (waits : WaitsInTable) (layout : DiskLayout) (pages paged : PageMap) (locks locked : LockState) (s : ℕ) (old new : Insert) (x : Spot) (hand next : InsertHand) (bytes : List ℕ) (blocks : List (List Slot))
    (made : IsInsertFor layout old) (placed : old.place ≡ Some x) (got : work_of old ≡ Some hand) (still : new.place ≡ Some x) (same_row : new.row ≡ old.row) (same_index : next.index ≡ hand.index)
    (has : HasBlocks layout pages old.row.table blocks) (apart : (place : Place) → place.relation ≢ relation_of layout hand.index → page_at paged place ≡ page_at pages place)
    (others : (other : ℕ) → other ≢ hand.index → contents layout paged other ≡ contents layout pages other) (kept_locks : LeavesLocks (holder locks) (holder locked) (relation_of layout hand.index) s) where
  abbrev n : ℕ
  n = hand.index

  abbrev table : ℕ
  table = old.row.table

  abbrev was : ShownTable
  was = shown_by layout pages locks table blocks

  abbrev now : ShownTable
  now = shown_by layout paged locked table blocks

  abbrev range : ℕ
  range = x.block / (index_at layout n).pages_per_range

  abbrev before : Task
  before = Inserts x.block x.slot old.row old.at (on_index (shape_of layout n) hand.stage old.copied (tuple_bytes hand.widened))

  abbrev store : Stores
  store = record { layout = layout; pages = pages; paged = paged; locks = locks; locked = locked }

  abbrev CameOf : Did → Type 0
  CameOf answer = Stepped (shape_of layout n) s range old.row (insert_at layout pages locks n hand.stage old.copied hand.widened) (insert_at layout paged locked n next.stage bytes next.widened) answer

  there : slice_get (indexes_of layout table) old.at ≡ Some n
  there = number_there layout old old.at hand made got

  task_was : old.asking ≡ false → task_of layout old ≡ before
  task_was silent = task_is layout old x hand placed got silent

  has_then : HasBlocks layout paged table blocks
  has_then = blocks_stay layout pages paged table blocks (λ block. apart (record { relation = heap_of table; block = block }) (λ same. omega (arith, same, made.table))) has

  does : (point : Point) → StepMakes (shape_of layout n) s range old.row (insert_at layout pages locks n hand.stage old.copied hand.widened) (insert_at layout paged locked n next.stage bytes next.widened) point
      → ShownDoes s was now before (task_after layout n x.block x.slot old.row old.at next.stage bytes (tuple_bytes next.widened)) point
  does point makes =
      steps store table (slots_a_page layout table) (length blocks) old.at n s x.block x.slot (rows_in table blocks) old.row hand.stage next.stage old.copied bytes hand.widened next.widened point there
      (record { makes = makes; others = others; locks = kept_locks })

  -- the task after it, where the insert stays in the index
  task_now : new.asking ≡ false → new.at ≡ old.at → new.copied ≡ bytes → work_of new ≡ Some next → task_of layout new ≡ Inserts x.block x.slot old.row old.at (on_index (shape_of layout n) next.stage bytes (tuple_bytes next.widened))
  task_now silent same held found =
      task_is layout new x next still found silent
      ∙ ap (λ (b : List ℕ). Inserts x.block x.slot new.row new.at (on_index (shape_of layout next.index) next.stage b (tuple_bytes next.widened))) held
      ∙ ap (λ (r : Row). Inserts x.block x.slot r new.at (on_index (shape_of layout next.index) next.stage bytes (tuple_bytes next.widened))) same_row
      ∙ ap (λ (i : ℕ). Inserts x.block x.slot old.row i (on_index (shape_of layout next.index) next.stage bytes (tuple_bytes next.widened))) same
      ∙ ap (λ (m : ℕ). Inserts x.block x.slot old.row old.at (on_index (shape_of layout m) next.stage bytes (tuple_bytes next.widened))) same_index

  stepped : old.asking ≡ false → (answer : Did) → InsertDid s old.at was now before (task_of layout new) answer → InsertStepped layout pages paged locks locked s old new answer blocks
  stepped silent answer came =
      let heap : heap_after layout old.row old.place new.place blocks ≡ blocks = ap (λ (o : Option Spot). heap_after layout old.row o new.place blocks) placed in
      record {
        has = subst (λ (l : List (List Slot)). HasBlocks layout paged table l) (sym heap) has_then;
        slot = subst (λ (o : Option Spot). TakesItsSlot layout old.row o new.place blocks) (sym placed) tt;
        came = subst (λ (l : List (List Slot)). InsertDid s old.at was (shown_by layout paged locked table l) (task_of layout old) (task_of layout new) answer) (sym heap)
            (came_as s old.at was now (task_of layout old) (task_of layout new) before (task_of layout new) answer (task_was silent) refl came);
      }

  pub moved : old.asking ≡ false → new.asking ≡ false → (point : Point) → CameOf (did.Moved point) → new.at ≡ old.at → new.copied ≡ bytes → work_of new ≡ Some next → InsertStepped layout pages paged locks locked s old new (did.Moved point) blocks
  moved silent silent_too point came same held found =
      let after : Task = Inserts x.block x.slot old.row old.at (on_index (shape_of layout n) next.stage bytes (tuple_bytes next.widened)) in
      let shown : ShownDoes s was now before after point = subst (λ (t : Task). ShownDoes s was now before t point) (after_work layout n x.block x.slot old.row old.at next.stage bytes (tuple_bytes next.widened) came.1) (does point came.0) in
      let goes : InsertGoesTo s was now before after point = goes_by s was now before after after point (λ u is kept. as_before s x.block x.slot old.at old.row (on_index (shape_of layout n) hand.stage old.copied (tuple_bytes hand.widened)) was _ _ point (shown u is kept)) (λ u. stays_in s now u x.block x.slot old.row old.at (on_index (shape_of layout n) next.stage bytes (tuple_bytes next.widened))) in
      stepped silent (did.Moved point) (came_as s old.at was now before (task_of layout new) before after (did.Moved point) refl (task_now silent_too same held found) (goes, tt))

  pub blocked : old.asking ≡ false → new.asking ≡ false → (held : Held) → CameOf (did.Blocked held) → new.at ≡ old.at → new.copied ≡ bytes → work_of new ≡ Some next → InsertStepped layout pages paged locks locked s old new (did.Blocked held) blocks
  blocked silent silent_too held came same carried found =
      let stays : Inserts x.block x.slot old.row old.at (on_index (shape_of layout n) next.stage bytes (tuple_bytes next.widened)) ≡ before =
      ap (λ (q : Stage). Inserts x.block x.slot old.row old.at (on_index (shape_of layout n) q bytes (tuple_bytes next.widened))) came.1
      ∙ ap (λ (b : List ℕ). Inserts x.block x.slot old.row old.at (on_index (shape_of layout n) hand.stage b (tuple_bytes next.widened))) came.2
      ∙ ap (λ (b : List ℕ). Inserts x.block x.slot old.row old.at (on_index (shape_of layout n) hand.stage old.copied b)) came.3 in
      stepped silent (did.Blocked held) (
        waits layout pages locks table (slots_a_page layout table) (length blocks) old.at n s x.block x.slot held.page.block (rows_in table blocks) old.row hand.stage old.copied hand.widened there came.0,
        task_now silent_too same carried found ∙ stays,
      )

  pub finished : old.asking ≡ false → (new.asking ≡ true → AsksIn layout x (work_of new)) → (new.asking ≡ false → AsksIn layout x (work_of new) → ⊥) → (point : Point) → CameOf (did.Finished point) → new.at ≡ suc old.at → numbers_in new.works.items ≡ numbers_in old.works.items → (answer : Did) → HasReached point answer (work_of new)
      → InsertStepped layout pages paged locks locked s old new answer blocks
  finished silent asks plain point came next_at same_numbers answer reached =
      let shown : ShownDoes s was now before (Reaches x.block x.slot old.row (suc old.at)) point = subst (λ (q : Stage). ShownDoes s was now before (task_after layout n x.block x.slot old.row old.at q bytes (tuple_bytes next.widened)) point) came.1 (does point came.0) in
      let inside : suc old.at ≤ length (indexes_of layout table) = omega (arith, slice_get_within (indexes_of layout table) old.at n there) in
      stepped silent answer (reaches layout paged locked s old.at before was new old.row x point blocks (suc old.at) same_row still next_at (same_numbers ∙ made.numbers) asks plain inside (λ u is kept. as_before s x.block x.slot old.at old.row (on_index (shape_of layout n) hand.stage old.copied (tuple_bytes hand.widened)) was _ _ point (shown u is kept)) answer reached)

-- what the law of a row that is put says
abbrev pub RowInTable : Type 0
RowInTable = (layout : DiskLayout) (pages paged : PageMap) (locks : LockState) (s table : ℕ) (id : RowId) (values : List Value) (spot : Spot) (blocks : List (List Slot))
    → PutsRowOf layout pages paged table id values spot blocks → RowBegins layout pages paged locks s table id values spot blocks

-- its row is put, and it comes to the first index or is complete
pub row_stepped : RowInTable → (layout : DiskLayout) (pages paged : PageMap) (locks : LockState) (s : ℕ) (old new : Insert) (spot : Spot) (values : List Value) (blocks : List (List Slot)) → IsInsertFor layout old → old.place ≡ None
    → (new.asking ≡ true → AsksIn layout spot (work_of new)) → (new.asking ≡ false → AsksIn layout spot (work_of new) → ⊥)
    → new.place ≡ Some spot → new.row ≡ old.row → new.at ≡ 0 → numbers_in new.works.items ≡ numbers_in old.works.items → values ≡ old.row.values → PutsRowOf layout pages paged old.row.table old.row.id values spot blocks
    → HasBlocks layout paged old.row.table (blocks_with layout old.row.table old.row.id values spot blocks) → (answer : Did) → HasReached points.Row answer (work_of new) → InsertStepped layout pages paged locks locks s old new answer blocks
row_stepped row layout pages paged locks s old new spot values blocks made none asks plain placed same_row first numbers same puts has answer reached =
    let puts_own : PutsRowOf layout pages paged old.row.table old.row.id old.row.values spot blocks = subst (λ (vs : List Value). PutsRowOf layout pages paged old.row.table old.row.id vs spot blocks) same puts in
    let has_own : HasBlocks layout paged old.row.table (blocks_with layout old.row.table old.row.id old.row.values spot blocks) = subst (λ (vs : List Value). HasBlocks layout paged old.row.table (blocks_with layout old.row.table old.row.id vs spot blocks)) same has in
    let was : ShownTable = shown_by layout pages locks old.row.table blocks in
    let now : ShownTable = shown_by layout paged locks old.row.table (blocks_with layout old.row.table old.row.id old.row.values spot blocks) in
    let rests : task_of layout old ≡ Resting = ap (λ (o : Option Spot). task_at layout old o) none in
    let after : List (List Slot) = blocks_with layout old.row.table old.row.id old.row.values spot blocks in
    let heap : heap_after layout old.row old.place new.place blocks ≡ after =
    ap (λ (o : Option Spot). heap_after layout old.row o new.place blocks) none ∙ ap (λ (o : Option Spot). heap_after layout old.row None o blocks) placed in
    record {
      has = subst (λ (l : List (List Slot)). HasBlocks layout paged old.row.table l) (sym heap) has_own;
      slot = subst (λ (o : Option Spot). TakesItsSlot layout old.row o new.place blocks) (sym none) (subst (λ (o : Option Spot). TakesItsSlot layout old.row None o blocks) (sym placed) puts_own.fills);
      came = subst (λ (l : List (List Slot)). InsertDid s old.at was (shown_by layout paged locks old.row.table l) (task_of layout old) (task_of layout new) answer) (sym heap)
          (came_as s old.at was now (task_of layout old) (task_of layout new) Resting (task_of layout new) answer rests refl
          (reaches layout paged locks s old.at Resting was new old.row spot points.Row after 0 same_row placed first (numbers ∙ made.numbers) asks plain (omega arith)
          (λ u at kept. as_first s was _ _ points.Row (row layout pages paged locks s old.row.table old.row.id old.row.values spot blocks puts_own u at)) answer reached));
    }

-- it asks for a summary, and nothing of the table changes but what the insert is at
module _ (layout : DiskLayout) (pages : PageMap) (locks : LockState) (s : ℕ) (old new : Insert) (x : Spot) (hand : InsertHand) (blocks : List (List Slot)) (placed : old.place ≡ Some x) (got : work_of old ≡ Some hand) (wants : old.asking ≡ true) (begun : hand.stage ≡ stages.Map)
    (silent : new.asking ≡ false) (same_row : new.row ≡ old.row) (still : new.place ≡ old.place) (same_at : new.at ≡ old.at) (found : work_of new ≡ Some hand) where
  abbrev shown : ShownTable
  shown = shown_by layout pages locks old.row.table blocks

  abbrev asks_now : Task
  asks_now = Asks x.block x.slot old.row old.at

  abbrev then : Task
  then = Inserts x.block x.slot old.row old.at Empty

  task_then : task_of layout new ≡ then
  task_then =
      task_is layout new x hand (still ∙ placed) found silent
      ∙ ap (λ (r : Row). Inserts x.block x.slot r new.at (on_index (shape_of layout hand.index) hand.stage new.copied (tuple_bytes hand.widened))) same_row
      ∙ ap (λ (i : ℕ). Inserts x.block x.slot old.row i (on_index (shape_of layout hand.index) hand.stage new.copied (tuple_bytes hand.widened))) same_at
      ∙ ap (λ (q : Stage). Inserts x.block x.slot old.row old.at (on_index (shape_of layout hand.index) q new.copied (tuple_bytes hand.widened))) begun

  turns : (u : Unseen) → u.task s ≡ asks_now → TaskTurns s (table_state shown u) (table_state shown (task_turned s then u)) asks_now then
  turns u is = record {
    was = is;
    now = pick_same s then (u.task s);
    others = λ n. elim (cases_eq n s) [
      | inl same ↦ inl same
      | inr other ↦ inr (pick_other n s then (u.task n) other)
    ];
  }

  goes_on : InsertGoesTo s shown shown asks_now then points.Ask
  goes_on u is kept = (
    then,
    record {
      does = AsksSummary x.block x.slot old.row old.at (turns u is)
          (record {
            rows = record { layout = record { indexes = refl; rows_per_page = refl; heap_limit = refl }; blocks = refl; row = λ b k. refl; counts = λ t. refl };
            indexes = record { index = λ i. refl };
            summarise_lock = refl;
          });
      point_is = refl;
      adds = λ a c come. come;
    },
    stays_in s shown u x.block x.slot old.row old.at Empty,
  )

  asked_quietly : HasBlocks layout pages old.row.table blocks → InsertStepped layout pages pages locks locks s old new (did.Moved points.Ask) blocks
  asked_quietly has =
      let heap : heap_after layout old.row old.place new.place blocks ≡ blocks = ap (λ (o : Option Spot). heap_after layout old.row o new.place blocks) placed in
      record {
        has = subst (λ (l : List (List Slot)). HasBlocks layout pages old.row.table l) (sym heap) has;
        slot = subst (λ (o : Option Spot). TakesItsSlot layout old.row o new.place blocks) (sym placed) tt;
        came = subst (λ (l : List (List Slot)). InsertDid s old.at shown (shown_by layout pages locks old.row.table l) (task_of layout old) (task_of layout new) (did.Moved points.Ask)) (sym heap)
            (came_as s old.at shown shown (task_of layout old) (task_of layout new) asks_now then (did.Moved points.Ask) (task_asks layout old x hand placed got wants) task_then (goes_on, tt));
      }

  pub asked : (paged : PageMap) → paged ≡ pages → HasBlocks layout pages old.row.table blocks → InsertStepped layout pages paged locks locks s old new (did.Moved points.Ask) blocks
  asked paged same has = subst (λ (p : PageMap). InsertStepped layout pages p locks locks s old new (did.Moved points.Ask) blocks) (sym same) (asked_quietly has)
