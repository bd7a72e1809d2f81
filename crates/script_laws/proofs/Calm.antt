-- A table as one without scans, whose rows don't count: the steps of its statements are steps there, whatever rows come to count; and what rests and is
-- covered is so there.
use Rattle.std.proofs.Common.{◌≡◌, ◌⊎◌, inl, inr, ℕ, false, Option, None, Some, ◌∷◌, refl, sym, ap, ◌∙◌, subst}
use Rattle.std.specs.Prelude.{IsTrue}
use Rattle.std.proofs.lemmas.Bool.{false≢true}
use mathlib.Core.Path.{fun_ext}
use Rattle.block_model.specs.declared.place.Spot.{Spot}
use Rattle.block_model.specs.declared.row.Row.{Row}
use Rattle.coverage.specs.IndexView.{Building, IndexTuple, IndexView, IsBuilding, IsTupleOf, Progress}
use Rattle.coverage.specs.IsCovered.{StatementHolds}
use Rattle.coverage.specs.IsSound.{IsLeftUnnamed}
use Rattle.coverage.specs.PageOrder.{AreOrdered}
use Rattle.coverage.specs.Statements.{Phase, Statement, Idle, Inserting, Maintaining, Holding, Scanning, building_of, loose_of}
use Rattle.coverage.specs.Steps.{IsUnnamed, SweepsTuples, InsertStep, SummariseLockPasses}
use Rattle.coverage.specs.Verdicts.{Full, Waits, SwapVerdict, ClearVerdict}
use Rattle.coverage.specs.Waiting.{IsPhaseWaiting}
use Rattle.coverage.specs.TableCovered.{IsTableAtRest, IsTableCovered}
use Rattle.coverage.specs.Table.{Job, EachRange, OneRange, WholeRanges, Desummarising, Task, Resting, Reaches, SweepsFrom, Scans, Marks, TableState, index_view_at, seen_by}
use Rattle.coverage.specs.TableSteps.{AsksSummary, BeginsScan, BeginsWith, Blocked, Conflicts, Desummarize, DesummariseWaits, Does, Fails, GivesLock, GoesOn, HasPut, HasRange, HasStep, IndexFull}
use Rattle.coverage.specs.TableSteps.{Inserted, InsertCompletes, InsertGoes, InsertWaits, IsBlocked, IsInsertRefused, IsLastIndex, IsMaintained, IsMaintainRefused, IsVacuuming, JobStep, JudgesNext, Judges}
use Rattle.coverage.specs.TableSteps.{MaintainCompletes, MaintainGoes, Marked, MarksRow, NextIndex, NothingToSweep, OnlyTurns, Onward, Pruned, PrunesBlock, PutsRow, RangesDone, ReadsBlock, RefusesInsert, RefusesMaintain}
use Rattle.coverage.specs.TableSteps.{RefusesRow, RefusesScan, RefusesVacuum, RestartsIndex, RowLacksMemory, SameIndexes, SameRows, Scanned, SeesPlace, Settles, Stays, StepsIn, Summarize, SummariseLockHeld, SummariseWaits}
use Rattle.coverage.specs.TableSteps.{SummarizeOne, SweepsPage, SweepWaits, Swept, TableStep, TakesLock, TaskTurns, ToAsk, ToIndex, ToMarks, ToPage, ToRange, Transacts, Vacuum, Work, range_in}

-- a scan is at nothing
abbrev pub calmed : Task → Task
calmed (Scans scan) = Resting
calmed (Marks scan ids) = Resting
calmed task = task

abbrev pub calm : TableState → TableState
calm w = record w { task = λ n. calmed (w.task n); counts = λ _. false }

-- ---- what an index shows

same_building : (i : ℕ) (task : Task) → building_of (seen_by i (calmed task)) ≡ building_of (seen_by i task)
same_building i (Scans scan) = refl
same_building i (Marks scan ids) = refl
same_building i task = refl

same_loose : (i : ℕ) (task : Task) → loose_of (seen_by i (calmed task)) ≡ loose_of (seen_by i task)
same_loose i (Scans scan) = refl
same_loose i (Marks scan ids) = refl
same_loose i task = refl

pub same_view : (i : ℕ) (w : TableState) → index_view_at i w ≡ index_view_at i (calm w)
same_view i w =
    let building : (λ n. building_of (seen_by i (w.task n))) ≡ (λ n. building_of (seen_by i (calmed (w.task n)))) = fun_ext (λ n. sym (same_building i (w.task n))) in
    let loose : (λ n. loose_of (seen_by i (w.task n))) ≡ (λ n. loose_of (seen_by i (calmed (w.task n)))) = fun_ext (λ n. sym (same_loose i (w.task n))) in
    ap (λ (f : ℕ → Option Building). record (index_view_at i w) { building = f }) building
    ∙ ap (λ (f : ℕ → Option Spot). record (index_view_at i w) { building = λ n. building_of (seen_by i (calmed (w.task n))); loose = f }) loose

-- what is said of two views
two_views : (i : ℕ) (w v : TableState) (P : IndexView → IndexView → Type 0) → P (index_view_at i w) (index_view_at i v) → P (index_view_at i (calm w)) (index_view_at i (calm v))
two_views i w v P h = subst (λ (x : IndexView). P x (index_view_at i (calm v))) (same_view i w) (subst (λ (y : IndexView). P (index_view_at i w) y) (same_view i v) h)

one_view : (i : ℕ) (w : TableState) (P : IndexView → Type 0) → P (index_view_at i w) → P (index_view_at i (calm w))
one_view i w P h = subst P (same_view i w) h

-- ---- what stays

turns_calm : (s : ℕ) (w v : TableState) (old new : Task) → TaskTurns s w v old new → TaskTurns s (calm w) (calm v) (calmed old) (calmed new)
turns_calm s w v old new turns = record { was = ap calmed turns.was; now = ap calmed turns.now; others = λ n. by n (turns.others n) }
  where
    by : (n : ℕ) → (n ≡ s) ⊎ (v.task n ≡ w.task n) → (n ≡ s) ⊎ (calmed (v.task n) ≡ calmed (w.task n))
    by n (inl is) = inl is
    by n (inr same) = inr (ap calmed same)

rows_calm : (w v : TableState) → SameRows w v → SameRows (calm w) (calm v)
rows_calm w v rows = record {
  layout = record { indexes = rows.layout.indexes; rows_per_page = rows.layout.rows_per_page; heap_limit = rows.layout.heap_limit };
  blocks = rows.blocks;
  row = rows.row;
  counts = λ _. refl;
}

indexes_calm : (w v : TableState) → SameIndexes w v → SameIndexes (calm w) (calm v)
indexes_calm w v same = record { index = same.index }

only_calm : (w v : TableState) → OnlyTurns w v → OnlyTurns (calm w) (calm v)
only_calm w v only = record { rows = rows_calm w v only.rows; indexes = indexes_calm w v only.indexes; summarise_lock = only.summarise_lock }

stepped_calm : (i : ℕ) (w v : TableState) → StepsIn i w v → StepsIn i (calm w) (calm v)
stepped_calm i w v stepped = record { below = stepped.below; rows = rows_calm w v stepped.rows; others = stepped.others; autosummarize = stepped.autosummarize }

fails_calm : (w v : TableState) (t u : ℕ) → Fails w v t → Fails (calm w) (calm v) u
fails_calm w v t u fails = record {
  layout = record { indexes = fails.layout.indexes; rows_per_page = fails.layout.rows_per_page; heap_limit = fails.layout.heap_limit };
  blocks = fails.blocks;
  row = fails.row;
  indexes = indexes_calm w v fails.indexes;
  summarise_lock = fails.summarise_lock;
  failed = refl;
  fewer = λ n h. h;
}

only_fails : (w v : TableState) → OnlyTurns w v → Fails (calm w) (calm v) 0
only_fails w v only = record {
  layout = record { indexes = only.rows.layout.indexes; rows_per_page = only.rows.layout.rows_per_page; heap_limit = only.rows.layout.heap_limit };
  blocks = only.rows.blocks;
  row = only.rows.row;
  indexes = indexes_calm w v only.indexes;
  summarise_lock = only.summarise_lock;
  failed = refl;
  fewer = λ n h. h;
}

-- ---- what a step does

begins_calm : (w : TableState) (first : Task) → BeginsWith w first → BeginsWith (calm w) (calmed first)
begins_calm w _ (Summarize at below) = Summarize at below
begins_calm w _ (SummarizeOne at only below) = SummarizeOne at only below
begins_calm w _ (Work at only below) = Work at only below
begins_calm w _ (Desummarize at only below) = Desummarize at only below
begins_calm w _ Vacuum = Vacuum

vacuuming_calm : (task : Task) → IsVacuuming task → IsVacuuming (calmed task)
vacuuming_calm (Scans scan) is = absurd is
vacuuming_calm (Marks scan ids) is = absurd is
vacuuming_calm task is = is

spared_calm : (b k : ℕ) (task : Task) → HasPut b k (calmed task) ⊎ SeesPlace b k (calmed task) → HasPut b k task ⊎ SeesPlace b k task
spared_calm b k (Scans scan) (inl put) = absurd put
spared_calm b k (Scans scan) (inr sees) = absurd sees
spared_calm b k (Marks scan ids) (inl put) = absurd put
spared_calm b k (Marks scan ids) (inr sees) = absurd sees
spared_calm b k task h = h

job_calm : (job : Job) (s i range : ℕ) (w v : TableState) (old : Phase) (new : Statement) → JobStep job s range (index_view_at i w) (index_view_at i v) old new
    → JobStep job s range (index_view_at i (calm w)) (index_view_at i (calm v)) old new
job_calm job s i range w v old new step = two_views i w v (λ x y. JobStep job s range x y old new) step

blocked_calm : (w : TableState) (s : ℕ) (task : Task) → IsBlocked w s task → IsBlocked (calm w) s (calmed task)
blocked_calm w s _ (SummariseLockHeld n held other) = SummariseLockHeld n held other
blocked_calm w s _ (InsertWaits q b k r at x old new verdict) = InsertWaits q b k r at x old new (one_view at w (λ y. SwapVerdict y s (range_in w at b) x old new (Waits q)) verdict)
blocked_calm w s _ (SummariseWaits q job at range phase waits) = SummariseWaits q job at range phase (one_view at w (λ y. IsPhaseWaiting y s range phase q) waits)
blocked_calm w s _ (DesummariseWaits q only at range x verdict) = DesummariseWaits q only at range x (one_view at w (λ y. ClearVerdict y s range x (Waits q)) verdict)
blocked_calm w s _ (SweepWaits at page locked) = SweepWaits at page locked

refused_calm : (w : TableState) (s b k : ℕ) (r : Row) (task : Task) → IsInsertRefused w s b k r task → IsInsertRefused (calm w) s b k r (calmed task)
refused_calm w s b k r _ (IndexFull number at x old new verdict) = IndexFull number at x old new (one_view at w (λ y. SwapVerdict y s (range_in w at b) x old new (Full number)) verdict)

-- a step of a scan is one of a session that has nothing in hand
still : (s : ℕ) (w v : TableState) → TaskTurns s (calm w) (calm v) Resting Resting → Fails (calm w) (calm v) 0 → Does s (calm w) (calm v)
still s w v turns fails = RefusesRow 0 RowLacksMemory turns fails

does_calm : (s : ℕ) (w v : TableState) → Does s w v → Does s (calm w) (calm v)
does_calm s w v (PutsRow b k r place turns takes) =
    PutsRow b k r (record { vacant = place.vacant; below = place.below; first = place.first }) (turns_calm s w v Resting (Reaches b k r 0) turns)
    (record {
      layout = record { indexes = takes.layout.indexes; rows_per_page = takes.layout.rows_per_page; heap_limit = takes.layout.heap_limit };
      now = takes.now;
      others = takes.others;
      blocks = takes.blocks;
      counts = λ _. refl;
      indexes = indexes_calm w v takes.indexes;
      summarise_lock = takes.summarise_lock;
    })
does_calm s w v (RefusesRow t refused turns fails) = still s w v (turns_calm s w v Resting Resting turns) (fails_calm w v t 0 fails)
does_calm s w v (AsksSummary b k r at turns only) = AsksSummary b k r at (turns_calm s w v _ _ turns) (only_calm w v only)
does_calm s w v (InsertGoes b k r at old new turns stepped step) =
    InsertGoes b k r at old new (turns_calm s w v _ _ turns) (stepped_calm at w v stepped) (two_views at w v (λ x y. InsertStep s b k r x y old (Inserting b k r new)) step)
does_calm s w v (InsertCompletes b k r at old turns stepped step) =
    InsertCompletes b k r at old (turns_calm s w v _ _ turns) (stepped_calm at w v stepped) (two_views at w v (λ x y. InsertStep s b k r x y old Idle) step)
does_calm s w v (RefusesInsert b k r old refused turns fails) =
    RefusesInsert b k r (calmed old) (refused_calm w s b k r old refused) (turns_calm s w v old Resting turns) (fails_calm w v r.id.t r.id.t fails)
does_calm s w v (TakesLock first begins turns free held rows indexes) =
    TakesLock (calmed first) (begins_calm w first begins) (turns_calm s w v Resting first turns) free held (rows_calm w v rows) (indexes_calm w v indexes)
does_calm s w v (MaintainGoes job at range old new turns stepped step) =
    MaintainGoes job at range old new (turns_calm s w v _ _ turns) (stepped_calm at w v stepped) (job_calm job s at range w v old (Maintaining range new) step)
does_calm s w v (MaintainCompletes job at range old turns stepped step) =
    MaintainCompletes job at range old (turns_calm s w v _ _ turns) (stepped_calm at w v stepped) (job_calm job s at range w v old Holding step)
does_calm s w v (RefusesMaintain job at range phase refused turns stepped passes) =
    RefusesMaintain job at range phase (one_view at w (λ x. IsMaintainRefused x s range phase) refused) (turns_calm s w v _ _ turns) (stepped_calm at w v stepped)
    (two_views at w v (λ x y. SummariseLockPasses s x y (Some s) None) passes)
does_calm s w v (RefusesVacuum old vacuuming turns given rows indexes) =
    RefusesVacuum (calmed old) (vacuuming_calm old vacuuming) (turns_calm s w v old Resting turns) given (rows_calm w v rows) (indexes_calm w v indexes)
does_calm s w v (PrunesBlock extent next dropped inside spared turns drops) =
    PrunesBlock extent next dropped inside (λ n b k other is h. spared n b k other is (spared_calm b k (w.task n) h)) (turns_calm s w v _ _ turns)
    (record {
      layout = record { indexes = drops.layout.indexes; rows_per_page = drops.layout.rows_per_page; heap_limit = drops.layout.heap_limit };
      on = drops.on;
      gone = drops.gone;
      rows = drops.rows;
      blocks = drops.blocks;
      counts = λ _. refl;
      indexes = indexes_calm w v drops.indexes;
      summarise_lock = drops.summarise_lock;
    })
does_calm s w v (SweepsPage at page turns stepped sweeps) =
    SweepsPage at page (turns_calm s w v _ _ turns) (stepped_calm at w v stepped) (two_views at w v (λ x y. SweepsTuples s x y page (λ z. (z.block ≡ page) × IsUnnamed x z)) sweeps)
does_calm s w v (RestartsIndex at turns only) = RestartsIndex at (turns_calm s w v _ _ turns) (only_calm w v only)
does_calm s w v (BeginsScan scan begins turns only) = still s w v (turns_calm s w v Resting (Scans scan) turns) (only_fails w v only)
does_calm s w v (Judges old new inside low step turns only) = still s w v (turns_calm s w v (Scans old) (Scans new) turns) (only_fails w v only)
does_calm s w v (ReadsBlock scan next found reads turns only) = still s w v (turns_calm s w v _ _ turns) (only_fails w v only)
does_calm s w v (RefusesScan scan t turns (inl fails)) = still s w v (turns_calm s w v (Scans scan) Resting turns) (fails_calm w v t 0 fails.1)
does_calm s w v (RefusesScan scan t turns (inr only)) = still s w v (turns_calm s w v (Scans scan) Resting turns) (only_fails w v only.1)
does_calm s w v (MarksRow scan id rest turns only) = still s w v (turns_calm s w v _ _ turns) (only_fails w v only)
does_calm s w v (Conflicts scan id rest t turns fails) = still s w v (turns_calm s w v (Marks scan (id ∷ rest)) Resting turns) (fails_calm w v t 0 fails)
does_calm s w v (Blocked task blocked turns only) = Blocked (calmed task) (blocked_calm w s task blocked) (turns_calm s w v task task turns) (only_calm w v only)
does_calm s w v (Transacts counts resting few same) = Transacts (λ _. false) (ap calmed resting) (λ t is. inl is) (ap calm same)

-- ---- where its statement comes

range_calm : (w : TableState) (job : Job) (at range : ℕ) → HasRange w job at range → HasRange (calm w) job at range
range_calm w (EachRange extent) at range h = h
range_calm w (OneRange extent only) at range h = h
range_calm w (WholeRanges extent) at range h = h
range_calm w (Desummarising only) at range h = h

range_was : (w : TableState) (job : Job) (at range : ℕ) → HasRange (calm w) job at range → HasRange w job at range
range_was w (EachRange extent) at range h = h
range_was w (OneRange extent only) at range h = h
range_was w (WholeRanges extent) at range h = h
range_was w (Desummarising only) at range h = h

last_calm : (w : TableState) (job : Job) (at : ℕ) → IsLastIndex w job at → IsLastIndex (calm w) job at
last_calm w (EachRange extent) at h = h
last_calm w (OneRange extent only) at h = h
last_calm w (WholeRanges extent) at h = h
last_calm w (Desummarising only) at h = h

step_calm : (w : TableState) (task : Task) → HasStep w task → HasStep (calm w) (calmed task)
step_calm w (Scans scan) has = tt
step_calm w (Marks scan ids) has = tt
step_calm w task has = has

onward_calm : (w : TableState) (old new : Task) → Onward w old new → Onward (calm w) (calmed old) (calmed new)
onward_calm w _ _ (Stays task has) = Stays (calmed task) (step_calm w task has)
onward_calm w _ _ (ToAsk b k r at below asks) = ToAsk b k r at below asks
onward_calm w _ _ (ToIndex b k r at below not) = ToIndex b k r at below not
onward_calm w _ _ (Inserted b k r at last) = Inserted b k r at last
onward_calm w _ _ (ToRange job at range has) = ToRange job at range (range_calm w job at range has)
onward_calm w _ _ (NextIndex extent at range none more) = NextIndex extent at range none more
onward_calm w _ _ (Pruned extent next new past more) = Pruned extent next (calmed new) past (onward_calm w (SweepsFrom 0 0) new more)
onward_calm w _ _ (ToPage at from m p next) = ToPage at from m p (record { has = next.has; after = next.after; first = next.first })
onward_calm w _ _ (Swept at from none some) = Swept at from none some
onward_calm w _ _ (JudgesNext scan new inside low empty more) = onward_calm w _ new more
onward_calm w _ _ (Scanned scan read nothing) = Stays Resting tt
onward_calm w _ _ (ToMarks scan id rest read looks deletes lists) = Stays Resting tt
onward_calm w _ _ (Marked scan) = Stays Resting tt

done_calm : (w : TableState) (task : Task) → IsMaintained w task → IsMaintained (calm w) (calmed task)
done_calm w _ (RangesDone job at range none last) = RangesDone job at range (λ h. none (range_was w job at range h)) (last_calm w job at last)
done_calm w _ (NothingToSweep extent next past none) = NothingToSweep extent next past none

settles_calm : (s : ℕ) (w v : TableState) → Settles s w v → Settles s (calm w) (calm v)
settles_calm s w v (GoesOn old new onward turns only) = GoesOn (calmed old) (calmed new) (onward_calm w old new onward) (turns_calm s w v old new turns) (only_calm w v only)
settles_calm s w v (GivesLock old done turns given rows indexes) =
    GivesLock (calmed old) (done_calm w old done) (turns_calm s w v old Resting turns) given (rows_calm w v rows) (indexes_calm w v indexes)

pub steps_calm : (s : ℕ) (w v : TableState) → TableStep s w v → TableStep s (calm w) (calm v)
steps_calm s w v step = record { between = calm step.between; does = does_calm s w step.between step.does; settles = settles_calm s step.between v step.settles }

-- ---- a store that was opened

-- a statement at nothing holds no place, and is no scan
abbrev IsScanning : Statement → Type 0
IsScanning (Scanning scan) = Unit
IsScanning statement = ⊥

module _ (w : TableState) (rest : IsTableAtRest w) where
  idle_calm : (i s : ℕ) → seen_by i (calmed (w.task s)) ≡ Idle
  idle_calm i s = ap (λ (task : Task). seen_by i (calmed task)) (rest.resting s)

  pub rest_calm : IsTableAtRest (calm w)
  rest_calm = record {
    resting = λ s. ap calmed (rest.resting s);
    free = rest.free;
    rest = λ i below.
        record {
          idle = idle_calm i;
          unlocked = (rest.rest i below).unlocked;
          free = rest.free;
          unnamed_tuples = one_view i w (λ y. (x : Spot) → IsTrue (y.unnamed x) → IsLeftUnnamed y x) (rest.rest i below).unnamed_tuples;
        };
    ordered = λ i below. one_view i w AreOrdered (rest.ordered i below);
    lawful = rest.lawful;
    ranged = rest.ranged;
    rows_below = rest.rows_below;
  }

-- an entry names a tuple of its range, which is one of the index
abbrev NameTuples : IndexView → Type 0
NameTuples y = (range : ℕ) (x : Spot) → y.entry range ≡ Some x → (t : IndexTuple) × (y.tuple x ≡ Some t) × (t.range ≡ range) × IsTupleOf y t

abbrev AreNamed : IndexView → Type 0
AreNamed y = (x : Spot) (t : IndexTuple) → y.tuple x ≡ Some t → (y.entry t.range ≡ Some x) ⊎ ((s : ℕ) × (y.loose s ≡ Some x) × (y.lock x.block ≡ Some s)) ⊎ IsTrue (y.unnamed x)

abbrev HasOneBuilder : IndexView → Type 0
HasOneBuilder y = (s n range m : ℕ) (p q : Progress) → IsBuilding y s range p → IsBuilding y n m q → s ≡ n

-- who builds there builds here
builds_calm : (i : ℕ) (w : TableState) (s range : ℕ) (p : Progress) → IsBuilding (index_view_at i (calm w)) s range p → IsBuilding (index_view_at i w) s range p
builds_calm i w s range p builds = subst (λ (y : IndexView). IsBuilding y s range p) (sym (same_view i w)) builds

pub covered_calm : (w : TableState) → IsTableCovered w → IsTableAtRest w → IsTableCovered (calm w)
covered_calm w covered rest = record {
  indexes = λ i below.
      record {
        rows_settled = λ b k r stands counts. absurd (false≢true counts);
        entries_name_tuples = one_view i w NameTuples (covered.indexes i below).entries_name_tuples;
        tuples_are_named = one_view i w AreNamed (covered.indexes i below).tuples_are_named;
        one_builder_a_table = one_view i w HasOneBuilder (covered.indexes i below).one_builder_a_table;
        held_places_were_named = λ s range x holds. absurd (subst (λ (st : Statement). StatementHolds (index_view_at i (calm w)) st range x) (idle_calm w rest i s) holds);
        held_tuples_include = λ s scan is. absurd (subst IsScanning (sym is ∙ idle_calm w rest i s) tt);
      };
  one_builder = λ i j s n range m p q low less builds other. covered.one_builder i j s n range m p q low less (builds_calm i w s range p builds) (builds_calm j w n m q other);
}
