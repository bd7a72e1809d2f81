-- Each step is one of those that are told without a table.
use Rattle.std.proofs.Common.{◌≡◌, ◌≢◌, ◌⊎◌, inl, inr, ℕ, ◌<◌, List, [], Option, None, Some, refl, sym, ap, ◌∙◌, subst}
use Rattle.std.specs.Prelude.{codes}
use Rattle.std.proofs.lemmas.Option.{none-some, same_Some}
use Rattle.block_model.specs.declared.reply.Point.{Point}
use Rattle.block_model.specs.declared.reply.Point.TheVariants as points
use Rattle.block_model.specs.declared.reply.Refusal.{Refusal}
use Rattle.block_model.specs.declared.reply.Refusal.TheVariants as refusals
use Rattle.block_model.specs.declared.reply.Reply.TheVariants as replies
use Rattle.block_model.specs.declared.request.Entry.{Entry}
use Rattle.block_model.specs.declared.request.Tag.{Tag}
use Rattle.block_model.specs.declared.request.Tag.TheVariants as tags
use Rattle.block_model.specs.declared.row.Row.{Row}
use Rattle.block_model.specs.RequestEffect.{Answer}
use Rattle.store_layout.specs.declared.statement.Statement.{Statement}
use Rattle.store_layout.specs.declared.statement.Statement.TheVariants as statements
use Rattle.store_layout.specs.HeapRoom.{full_table}
use Rattle.coverage.specs.GoingOn.{IsInserting}
use Rattle.coverage.specs.IndexView.{IndexView}
use Rattle.coverage.specs.Refusals as causes
use Rattle.coverage.specs.Refusals.{Heap, IndexNumber, LacksMemory, IsFull, InsertFull, IsTaskFull, MaintainFull, MayLackMemory, does_refusal, insert_refusal, maintain_refusal}
use Rattle.coverage.specs.Statements.{Phase}
use Rattle.coverage.specs.Table.{Asks, Inserts, Marks, Resting, TableState, Task, index_view_at}
use Rattle.coverage.specs.TableSteps.{Conflicts, Does, IndexFull, IsInsertRefused, RefusesInsert, RefusesMaintain, RefusesRow, RefusesScan, RefusesVacuum, NoPage, IsMaintainRefused}
use Rattle.script_semantics.specs.Beginnings.{IsAtRest, IsIn}
use Rattle.script_semantics.specs.Laws.{OfMemory, OfRoom}
use Rattle.script_semantics.specs.Place.{Hand, Place, database_at}
use Rattle.script_semantics.specs.Requests.{Course}
use Rattle.script_semantics.specs.RequestSteps.{AnswersFit, EndsBare, EndsWithout, EntersAll, EntersMark, EntersNone, EntersPut, EntersRefused, FailsSo, IsAnsweredInPlace, IsMarking, ItsIndexIsFull, MaintenanceWants, MemoryIsShort, NoneAsked}
use Rattle.script_semantics.specs.RequestSteps.{NoneLeft, RequestStep, StaysWaiting, TableIsFull}
use Rattle.script_semantics.specs.StatementSteps.{AtOnce, Begin, Commit, Ended, ForMemory, GoesOn, HeapIsFull, IndexIsFull, IsAtOnce, IsInsert, IsRefused, IsWaiting, LacksMemoryAtOnce, MakesAt, MayLackMemory as MayLackAtOnce, MeetsConflict, Moved}
use Rattle.script_semantics.specs.StatementSteps.{NoNumber, NothingAsked, Outcome, PutsTuples, RefusesSo, Replies, Rollback, StepsTo, TakesMemory, Waits, full_index, numbers_of}
use Rattle.script_semantics.specs.Turns.{Leads, Turn, point_of, refusal_of}
use Rattle.script_semantics.proofs.OneStep.{reply_is}
use Rattle.script_semantics.proofs.RowTurns.{row_is_insert}

-- ---- what a refusal tells of the task

-- coverage's law of refusals
pub record Causes : Type 0 where
  pub memory : (s : ℕ) (w v : TableState) (does : Does s w v) → does_refusal s w v does ≡ Some LacksMemory → MayLackMemory (w.task s)
  pub index : (s : ℕ) (w v : TableState) (does : Does s w v) (at number : ℕ) → does_refusal s w v does ≡ Some (IsFull (IndexNumber at) number)
      → IsTaskFull w s (w.task s) at number × (number ≡ (w.index at).pages.limit)

insert_not_heap : (w : TableState) (s b k : ℕ) (r : Row) (task : Task) (refused : IsInsertRefused w s b k r task) (number : ℕ) → insert_refusal refused ≡ IsFull Heap number → ⊥
insert_not_heap w s b k r _ (IndexFull room at x old new verdict) number is = cc

maintain_not_heap : (w : IndexView) (s range at : ℕ) (phase : Phase) (refused : IsMaintainRefused w s range phase) (number : ℕ) → maintain_refusal at refused ≡ IsFull Heap number → ⊥
maintain_not_heap w s range at _ (NoPage room phase full) number is = cc

-- a table is full for an insert that rests
heap_rests : (s : ℕ) (w v : TableState) (does : Does s w v) (number : ℕ) → does_refusal s w v does ≡ Some (IsFull Heap number) → w.task s ≡ Resting
heap_rests s w v (RefusesRow t refused turns fails) number is = turns.was
heap_rests s w v (RefusesInsert b k r old refused turns fails) number is = absurd (insert_not_heap w s b k r old refused number (same_Some _ _ is))
heap_rests s w v (RefusesMaintain job at range phase refused turns stepped passes) number is = absurd (maintain_not_heap (index_view_at at w) s range at phase refused number (same_Some _ _ is))
heap_rests s w v (RefusesVacuum old vacuuming turns given rows indexes) number is = absurd (cc)
heap_rests s w v (RefusesScan scan t turns how) number is = absurd (cc)
heap_rests s w v (Conflicts scan id rest t turns fails) number is = absurd (cc)
heap_rests s w v does number is = absurd (none-some _ is)

insert_not_resting : (w : TableState) (s b k : ℕ) (r : Row) (task : Task) → IsInsertRefused w s b k r task → task ≡ Resting → ⊥
insert_not_resting w s b k r _ (IndexFull room at x old new verdict) is = cc

-- an index is not
full_not_resting : (w : TableState) (s : ℕ) (task : Task) (at number : ℕ) → IsTaskFull w s task at number → task ≡ Resting → ⊥
full_not_resting w s _ _ _ (InsertFull b k r task at number refused why) is = insert_not_resting w s b k r task refused is
full_not_resting w s _ _ _ (MaintainFull job at range number phase refused why) is = cc

inserting_has_memory : (task : Task) → IsInserting task → MayLackMemory task → ⊥
inserting_has_memory (Asks b k r at) is may = may
inserting_has_memory (Inserts b k r at on) is may = may
inserting_has_memory task is may = is

pub marking_has_memory : (task : Task) → IsMarking task → MayLackMemory task → ⊥
marking_has_memory (Marks scan ids) is may = may
marking_has_memory task is may = is

-- ---- a refused step

module _ (causes_are : Causes) (p q : Place) (n : ℕ) where
  pub memory_at : (statement : Statement) (turn : Turn p n statement q) → refusal_of turn ≡ Some LacksMemory → (table : ℕ) → turn.table ≡ table → MayLackMemory ((p.tables table).task n)
  memory_at statement turn is table same = subst (λ i. MayLackMemory ((p.tables i).task n)) same (causes_are.memory n (p.tables turn.table) turn.step.between turn.step.does is)

  heap_at : (statement : Statement) (turn : Turn p n statement q) (number : ℕ) → refusal_of turn ≡ Some (IsFull Heap number) → (table : ℕ) → turn.table ≡ table → (p.tables table).task n ≡ Resting
  heap_at statement turn number is table same = subst (λ i. (p.tables i).task n ≡ Resting) same (heap_rests n (p.tables turn.table) turn.step.between turn.step.does number is)

  busy_at : (statement : Statement) (turn : Turn p n statement q) (at number : ℕ) → refusal_of turn ≡ Some (IsFull (IndexNumber at) number) → (table : ℕ) → turn.table ≡ table → (p.tables table).task n ≢ Resting
  busy_at statement turn at number is table same =
      subst (λ i. (p.tables i).task n ≢ Resting) same (full_not_resting _ n _ at number (causes_are.index n (p.tables turn.table) turn.step.between turn.step.does at number is).0)

  memory_first : (answers : List Answer) (statement : Statement) (turn : Turn p n statement q) → refusal_of turn ≡ Some LacksMemory → TakesMemory statement → AnswersFit p n answers statement → answers ≡ []
  memory_first answers (statements.Insert table values) turn is takes (inl new) = new.0
  memory_first answers (statements.Insert table values) turn is takes (inr put) = absurd (inserting_has_memory _ put.1 (memory_at (statements.Insert table values) turn is table turn.on))
  memory_first answers (statements.Select query) turn is takes none = none
  memory_first answers (statements.Delete query) turn is takes (inl none) = none
  memory_first answers (statements.Delete query) turn is takes (inr marks) = absurd (marking_has_memory _ marks.1 (memory_at (statements.Delete query) turn is query.table turn.on))
  memory_first answers statement turn is takes fit = absurd takes

  heap_fails : (answers : List Answer) (statement : Statement) (turn : Turn p n statement q) (number : ℕ) → refusal_of turn ≡ Some (IsFull Heap number) → IsInsert statement → AnswersFit p n answers statement
      → FailsSo p.layout (record { statement = statement; answers = answers }) tags.Full (full_table p.layout turn.table)
  heap_fails answers (statements.Insert table values) turn number is insert (inl new) =
      subst (λ i. FailsSo p.layout (record { statement = statements.Insert table values; answers = answers }) tags.Full (full_table p.layout i)) (sym turn.on)
      (TableIsFull table values (ap (λ a. record { statement = statements.Insert table values; answers = a }) new.0))
  heap_fails answers (statements.Insert table values) turn number is insert (inr put) =
      absurd (subst IsInserting (heap_at (statements.Insert table values) turn number is table turn.on) put.1)
  heap_fails answers statement turn number is insert fit = absurd insert

  index_fails : (answers : List Answer) (statement : Statement) (turn : Turn p n statement q) (at number : ℕ) → refusal_of turn ≡ Some (IsFull (IndexNumber at) number) → PutsTuples statement → AnswersFit p n answers statement
      → FailsSo p.layout (record { statement = statement; answers = answers }) tags.Full (full_index p.layout turn.table at)
  index_fails answers (statements.Insert table values) turn at number is puts (inl new) = absurd (busy_at (statements.Insert table values) turn at number is table turn.on new.1)
  index_fails answers (statements.Insert table values) turn at number is puts (inr put) =
      subst (λ i. FailsSo p.layout (record { statement = statements.Insert table values; answers = answers }) tags.Full (full_index p.layout i at)) (sym turn.on)
      (ItsIndexIsFull table at values refl put.0)
  index_fails answers (statements.Summarize index block) turn at number is puts fit = MaintenanceWants tags.Full (full_index p.layout turn.table at) refl (OfRoom _ _)
  index_fails answers (statements.Vacuum table) turn at number is puts fit = MaintenanceWants tags.Full (full_index p.layout turn.table at) refl (OfRoom _ _)
  index_fails answers statements.Work turn at number is puts fit = MaintenanceWants tags.Full (full_index p.layout turn.table at) refl (OfRoom _ _)
  index_fails answers statement turn at number is puts fit = absurd puts

  fails : (answers : List Answer) (statement : Statement) (turn : Turn p n statement q) (why : causes.Refusal) (tag : Tag) (told : Refusal) → refusal_of turn ≡ Some why
      → RefusesSo p turn.table statement why tag told → AnswersFit p n answers statement → FailsSo p.layout (record { statement = statement; answers = answers }) tag told
  fails answers statement turn _ _ _ is (ForMemory takes) fit = MemoryIsShort takes (memory_first answers statement turn is takes fit)
  fails answers statement turn _ _ _ is (HeapIsFull number insert) fit = heap_fails answers statement turn number is insert fit
  fails answers statement turn _ _ _ is (IndexIsFull at number puts) fit = index_fails answers statement turn at number is puts fit

at_once_fails : (p : Place) (n : ℕ) (answers : List Answer) (statement : Statement) → MayLackAtOnce p n statement → IsAtRest p n → AnswersFit p n answers statement
    → FailsSo p.layout (record { statement = statement; answers = answers }) tags.NoMemory refusals.Memory
at_once_fails p n answers (statements.Select query) may rest none = MemoryIsShort tt none
at_once_fails p n answers (statements.Delete query) may rest (inl none) = MemoryIsShort tt none
at_once_fails p n answers (statements.Delete query) may rest (inr marks) = absurd (subst IsMarking (rest query.table marks.0) marks.1)
at_once_fails p n answers statements.Work may rest fit = MaintenanceWants tags.NoMemory refusals.Memory refl OfMemory
at_once_fails p n answers statement may rest fit = absurd may

-- ---- all steps

begin_number : (p : Place) (statement : Statement) → IsAtOnce p statement → statement ≡ statements.Begin → (database_at p).next < numbers_of p.layout
begin_number p _ (Begin fits) is = fits
begin_number p _ Commit is = absurd (cc)
begin_number p _ Rollback is = absurd (cc)

module _ (p : Place) (n : ℕ) (hand : Hand) where
  abbrev To : Outcome → Option Hand → List Entry → Type 0
  To outcome now entries = RequestStep p.layout p.opening n hand p.journal outcome now entries

  stands : (q : Place) (outcome : Outcome) (now : Option Hand) (entries : List Entry) → Leads p n now entries q → To outcome now entries → To outcome (q.hands n) q.journal
  stands q outcome now entries leads step = subst (To outcome (q.hands n)) (sym leads.journal) (subst (λ h. To outcome h entries) (sym leads.hand) step)

  goes : (point : Point) (c : Course) → (point ≡ points.Row → IsInsert hand.statement) → MakesAt point p n hand c → To (Moved point) (Some (record hand { answers = c.answers })) c.journal
  goes points.Row c insert makes = EntersPut c (insert refl) makes
  goes points.Mark c insert makes = EntersMark c makes.0 makes.1
  goes point c insert makes = subst (λ (d : Course). To (Moved point) (Some (record hand { answers = d.answers })) d.journal) (sym makes) (EntersNone point)

  no_begin : (table : ℕ) → IsIn p n hand.statement table → hand.statement ≡ statements.Begin → ⊥
  no_begin table on is = subst (λ st. IsIn p n st table) is on

  pub steps_enter : Causes → (outcome : Outcome) (q : Place) → p.hands n ≡ Some hand → IsAnsweredInPlace p n hand → StepsTo p n hand outcome q → To outcome (q.hands n) q.journal
  steps_enter why _ _ has fit (GoesOn point c q turn named busy makes leads) =
      stands q (Moved point) _ c.journal leads (goes point c (λ row. row_is_insert p q n hand.statement turn (named ∙ ap Some row)) makes)
  steps_enter why _ _ has fit (Replies point c reply q turn named rests all replied leads) = stands q (Ended reply) None c.journal leads (EntersAll c reply all (record {
    reply_is = λ is. replied ∙ reply_is p.layout turn.table (turn.step.between.task n) (q.accounts n) c.answers hand.statement is;
    number = λ is. absurd (no_begin turn.table turn.on is);
  }))
  steps_enter why _ _ has fit (MeetsConflict id c q turn named all replied leads) = stands q _ None c.journal leads (EntersAll c _ all (record {
    reply_is = λ is. replied;
    number = λ is. absurd (no_begin turn.table turn.on is);
  }))
  steps_enter why _ _ has fit (IsRefused cause tag told q turn named so leads) =
      stands q _ None _ leads (EntersRefused tag told (fails why p q n hand.answers hand.statement turn cause tag told named so fit))
  steps_enter why _ _ has fit (AtOnce c reply q once all replied stay leads) = stands q (Ended reply) None c.journal leads (EntersAll c reply all (record {
    reply_is = λ is. replied;
    number = begin_number p hand.statement once;
  }))
  steps_enter why _ _ has fit (NothingAsked q work rest empty stay leads) =
      stands q (Ended replies.Idle) None p.journal leads (EndsWithout replies.Idle (subst (λ st. EndsBare p.layout (database_at p) st replies.Idle) (sym work) NoneAsked))
  steps_enter why _ _ has fit (LacksMemoryAtOnce q may rest stay leads) =
      stands q _ None _ leads (EntersRefused tags.NoMemory refusals.Memory (at_once_fails p n hand.answers hand.statement may rest fit))
  steps_enter why _ _ has fit (NoNumber q begin full stay leads) =
      let reply = replies.Refused (refusals.Full (codes "status") (numbers_of p.layout)) in
      stands q (Ended reply) None p.journal leads (EndsWithout reply (subst (λ st. EndsBare p.layout (database_at p) st reply) (sym begin) (NoneLeft full)))
  steps_enter why _ _ has fit (IsWaiting table told on own blocked waits) = subst (λ h. To (Waits told) h p.journal) (sym has) (StaysWaiting told)
