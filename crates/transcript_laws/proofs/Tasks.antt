-- What a step of its table leaves an insert at, and a delete; and that no other statement comes to what an insert is at.
use Rattle.std.proofs.Common.{◌≡◌, ◌⊎◌, inl, inr, ℕ, Bool, true, false, Some, refl, sym, ap, subst, ◌∙◌}
use Rattle.std.proofs.lemmas.Bool.{false≢true}
use Rattle.std.proofs.lemmas.Option.{none-some, same_Some}
use Rattle.block_model.specs.declared.reply.Point.{Point}
use Rattle.block_model.specs.declared.reply.Point.TheVariants as points
use Rattle.coverage.specs.GoingOn.{IsInserting}
use Rattle.coverage.specs.IndexView.{IndexView}
use Rattle.coverage.specs.Table.{Asks, Inserts, Marks, Reaches, Resting, Scans, SweepsFrom, TableScan, TableState, Task}
use Rattle.coverage.specs.TablePoints.{does_point, judge_point}
use Rattle.coverage.specs.TableSteps.{AsksSummary, BeginsScan, BeginsWith, Blocked, Conflicts, Desummarize, Does, GivesLock, GoesOn, HasStep, InsertCompletes, InsertGoes, Inserted, JudgeDrops, JudgeGone, JudgeKeeps, JudgeMap, JudgeNoEntry, JudgeStep, Judges}
use Rattle.coverage.specs.TableSteps.{JudgesNext, MaintainCompletes, MaintainGoes, Marked, MarksRow, NextIndex, Onward, Pruned, PrunesBlock, PutsRow, ReadsBlock, RefusesInsert, RefusesMaintain, RefusesRow, RefusesScan, RefusesVacuum, RestartsIndex}
use Rattle.coverage.specs.TableSteps.{Scanned, Settles, Stays, Summarize, SummarizeOne, SweepsPage, Swept, TakesLock, ToAsk, ToIndex, ToMarks, ToPage, ToRange, Transacts, Vacuum, Work}
use Rattle.script_semantics.specs.RequestSteps.{IsMarking}

-- ---- inserts

-- an insert that has put its row
abbrev pub HasRow : Task → Type 0
HasRow (Reaches b k r at) = Unit {0}
HasRow (Asks b k r at) = Unit {0}
HasRow (Inserts b k r at on_index) = Unit {0}
HasRow task = ⊥

of_inserting : (task : Task) → IsInserting task → HasRow task
of_inserting (Asks b k r at) is = tt
of_inserting (Inserts b k r at on_index) is = tt
of_inserting task is = absurd is

lock_row : (w : TableState) (first : Task) → BeginsWith w first → HasRow first → ⊥
lock_row w _ (Summarize at below) has = has
lock_row w _ (SummarizeOne at only below) has = has
lock_row w _ (Work at only below) has = has
lock_row w _ (Desummarize at only below) has = has
lock_row w _ Vacuum has = has

-- a statement has put a row before its step, or puts it by the step of that name
pub row_comes : (s : ℕ) (w v : TableState) (does : Does s w v) → HasRow (v.task s) → HasRow (w.task s) ⊎ (does_point s w v does ≡ Some points.Row)
row_comes s w v (PutsRow b k r place turns takes) has = inr refl
row_comes s w v (RefusesRow t refused turns fails) has = absurd (subst HasRow turns.now has)
row_comes s w v (AsksSummary b k r at turns only) has = inl (subst HasRow (sym turns.was) tt)
row_comes s w v (InsertGoes b k r at old new turns stepped step) has = inl (subst HasRow (sym turns.was) tt)
row_comes s w v (InsertCompletes b k r at old turns stepped step) has = inl (subst HasRow (sym turns.was) tt)
row_comes s w v (RefusesInsert b k r old refused turns fails) has = absurd (subst HasRow turns.now has)
row_comes s w v (TakesLock first begins turns free held rows indexes) has = absurd (lock_row w first begins (subst HasRow turns.now has))
row_comes s w v (MaintainGoes job at range old new turns stepped step) has = absurd (subst HasRow turns.now has)
row_comes s w v (MaintainCompletes job at range old turns stepped step) has = absurd (subst HasRow turns.now has)
row_comes s w v (RefusesMaintain job at range phase refused turns stepped passes) has = absurd (subst HasRow turns.now has)
row_comes s w v (RefusesVacuum old vacuuming turns given rows indexes) has = absurd (subst HasRow turns.now has)
row_comes s w v (PrunesBlock extent next dropped inside spared turns drops) has = absurd (subst HasRow turns.now has)
row_comes s w v (SweepsPage at page turns stepped sweeps) has = absurd (subst HasRow turns.now has)
row_comes s w v (RestartsIndex at turns only) has = absurd (subst HasRow turns.now has)
row_comes s w v (BeginsScan scan begins turns only) has = absurd (subst HasRow turns.now has)
row_comes s w v (Judges old new inside low step turns only) has = absurd (subst HasRow turns.now has)
row_comes s w v (ReadsBlock scan next found reads turns only) has = absurd (subst HasRow turns.now has)
row_comes s w v (RefusesScan scan t turns how) has = absurd (subst HasRow turns.now has)
row_comes s w v (MarksRow scan id rest turns only) has = absurd (subst HasRow turns.now has)
row_comes s w v (Conflicts scan id rest t turns fails) has = absurd (subst HasRow turns.now has)
row_comes s w v (Blocked task blocked turns only) has = inl (subst HasRow (turns.now ∙ sym turns.was) has)
row_comes s w v (Transacts counts resting few same) has = inl (subst (λ (x : TableState). HasRow (x.task s)) same has)

onward_comes : (w : TableState) (old new : Task) → Onward w old new → HasRow new → HasRow old
onward_comes w _ _ (Stays task step) has = has
onward_comes w _ _ (ToAsk b k r at below asks) has = tt
onward_comes w _ _ (ToIndex b k r at below not) has = tt
onward_comes w _ _ (Inserted b k r at last) has = tt
onward_comes w _ _ (ToRange job at range ranges) has = absurd has
onward_comes w _ _ (NextIndex extent at range none more) has = absurd has
onward_comes w _ _ (Pruned extent next new past more) has = onward_comes w (SweepsFrom 0 0) new more has
onward_comes w _ _ (ToPage at from m p next) has = absurd has
onward_comes w _ _ (Swept at from none some) has = absurd has
onward_comes w _ _ (JudgesNext scan new inside low empty more) has = onward_comes w _ new more has
onward_comes w _ _ (Scanned scan read nothing) has = absurd has
onward_comes w _ _ (ToMarks scan id rest read looks deletes lists) has = absurd has
onward_comes w _ _ (Marked scan) has = absurd has

pub row_settles : (s : ℕ) (w v : TableState) → Settles s w v → HasRow (v.task s) → HasRow (w.task s)
row_settles s w v (GoesOn old new onward turns only) has = subst HasRow (sym turns.was) (onward_comes w old new onward (subst HasRow turns.now has))
row_settles s w v (GivesLock old done turns given rows indexes) has = absurd (subst HasRow turns.now has)

-- an insert that has put its row goes on with it, or ends
pub row_stays : (s : ℕ) (w v : TableState) (does : Does s w v) → IsInserting (w.task s) → HasRow (v.task s) ⊎ (v.task s ≡ Resting)
row_stays s w v (PutsRow b k r place turns takes) is = absurd (subst IsInserting turns.was is)
row_stays s w v (RefusesRow t refused turns fails) is = inr turns.now
row_stays s w v (AsksSummary b k r at turns only) is = inl (subst HasRow (sym turns.now) tt)
row_stays s w v (InsertGoes b k r at old new turns stepped step) is = inl (subst HasRow (sym turns.now) tt)
row_stays s w v (InsertCompletes b k r at old turns stepped step) is = inl (subst HasRow (sym turns.now) tt)
row_stays s w v (RefusesInsert b k r old refused turns fails) is = inr turns.now
row_stays s w v (TakesLock first begins turns free held rows indexes) is = absurd (subst IsInserting turns.was is)
row_stays s w v (MaintainGoes job at range old new turns stepped step) is = absurd (subst IsInserting turns.was is)
row_stays s w v (MaintainCompletes job at range old turns stepped step) is = absurd (subst IsInserting turns.was is)
row_stays s w v (RefusesMaintain job at range phase refused turns stepped passes) is = inr turns.now
row_stays s w v (RefusesVacuum old vacuuming turns given rows indexes) is = inr turns.now
row_stays s w v (PrunesBlock extent next dropped inside spared turns drops) is = absurd (subst IsInserting turns.was is)
row_stays s w v (SweepsPage at page turns stepped sweeps) is = absurd (subst IsInserting turns.was is)
row_stays s w v (RestartsIndex at turns only) is = absurd (subst IsInserting turns.was is)
row_stays s w v (BeginsScan scan begins turns only) is = absurd (subst IsInserting turns.was is)
row_stays s w v (Judges old new inside low step turns only) is = absurd (subst IsInserting turns.was is)
row_stays s w v (ReadsBlock scan next found reads turns only) is = absurd (subst IsInserting turns.was is)
row_stays s w v (RefusesScan scan t turns how) is = inr turns.now
row_stays s w v (MarksRow scan id rest turns only) is = absurd (subst IsInserting turns.was is)
row_stays s w v (Conflicts scan id rest t turns fails) is = inr turns.now
row_stays s w v (Blocked task blocked turns only) is = inl (subst HasRow (turns.was ∙ sym turns.now) (of_inserting (w.task s) is))
row_stays s w v (Transacts counts resting few same) is = absurd (subst IsInserting resting is)

stays_inserting : (w : TableState) (task : Task) → HasRow task → HasStep w task → IsInserting task
stays_inserting w (Reaches b k r at) has step = absurd step
stays_inserting w (Asks b k r at) has step = tt
stays_inserting w (Inserts b k r at on_index) has step = tt
stays_inserting w task has step = absurd has

onward_inserting : (w : TableState) (old new : Task) → HasRow old → Onward w old new → IsInserting new ⊎ (new ≡ Resting)
onward_inserting w _ _ has (Stays task step) = inl (stays_inserting w task has step)
onward_inserting w _ _ has (ToAsk b k r at below asks) = inl tt
onward_inserting w _ _ has (ToIndex b k r at below not) = inl tt
onward_inserting w _ _ has (Inserted b k r at last) = inr refl
onward_inserting w _ _ has (ToRange job at range ranges) = absurd has
onward_inserting w _ _ has (NextIndex extent at range none more) = absurd has
onward_inserting w _ _ has (Pruned extent next new past more) = absurd has
onward_inserting w _ _ has (ToPage at from m p next) = absurd has
onward_inserting w _ _ has (Swept at from none some) = absurd has
onward_inserting w _ _ has (JudgesNext scan new inside low empty more) = absurd has
onward_inserting w _ _ has (Scanned scan read nothing) = absurd has
onward_inserting w _ _ has (ToMarks scan id rest read looks deletes lists) = absurd has
onward_inserting w _ _ has (Marked scan) = absurd has

pub settles_inserting : (s : ℕ) (w v : TableState) → HasRow (w.task s) → Settles s w v → IsInserting (v.task s) ⊎ (v.task s ≡ Resting)
settles_inserting s w v has (GoesOn old new onward turns only) =
    elim (onward_inserting w old new (subst HasRow turns.was has) onward) [ inl is ↦ inl (subst IsInserting (sym turns.now) is) | inr rests ↦ inr (turns.now ∙ rests) ]
settles_inserting s w v has (GivesLock old done turns given rows indexes) = inr turns.now

-- ---- deletes

-- at nothing, at its scan, or at its marks
abbrev pub IsOfScan : Task → Type 0
IsOfScan Resting = Unit {0}
IsOfScan (Scans scan) = Unit {0}
IsOfScan (Marks scan ids) = Unit {0}
IsOfScan task = ⊥

abbrev pub IsScanning : Task → Type 0
IsScanning (Scans scan) = Unit {0}
IsScanning task = ⊥

abbrev is_mark : Point → Bool
is_mark points.Mark = true
is_mark point = false

judge_not : (w : IndexView) (old new : TableScan) (step : JudgeStep w old new) → is_mark (judge_point step) ≡ false
judge_not w old _ (JudgeMap x empty names) = refl
judge_not w old _ (JudgeNoEntry empty none) = refl
judge_not w old _ (JudgeGone x held gone) = refl
judge_not w old _ (JudgeKeeps x t held stands keeps) = refl
judge_not w old _ (JudgeDrops x t candidate held stands drops excludes others) = refl

lock_scan : (w : TableState) (first : Task) → BeginsWith w first → IsScanning first → ⊥
lock_scan w _ (Summarize at below) has = has
lock_scan w _ (SummarizeOne at only below) has = has
lock_scan w _ (Work at only below) has = has
lock_scan w _ (Desummarize at only below) has = has
lock_scan w _ Vacuum has = has

-- by a step of this name the scan goes on, or a row is marked
pub data ScanStep (before now : Task) (point : Point) : Type 0 where
  Goes : IsScanning now → (IsMarking before → ⊥) → (point ≡ points.Mark → ⊥) → ScanStep before now point
  MarksOne : IsMarking now → point ≡ points.Mark → ScanStep before now point

not_mark : (at point : Point) → is_mark at ≡ false → Some at ≡ Some point → point ≡ points.Mark → ⊥
not_mark at point not is mark = false≢true (sym not ∙ ap is_mark (same_Some _ _ is ∙ mark))

pub scan_steps : (s : ℕ) (w v : TableState) (does : Does s w v) (point : Point) → IsOfScan (w.task s) → (w.task s ≡ Resting → IsScanning (v.task s)) → does_point s w v does ≡ Some point → ScanStep (w.task s) (v.task s) point
scan_steps s w v (PutsRow b k r place turns takes) point of begins is = absurd (subst IsScanning turns.now (begins turns.was))
scan_steps s w v (RefusesRow t refused turns fails) point of begins is = absurd (none-some _ is)
scan_steps s w v (AsksSummary b k r at turns only) point of begins is = absurd (subst IsOfScan turns.was of)
scan_steps s w v (InsertGoes b k r at old new turns stepped step) point of begins is = absurd (subst IsOfScan turns.was of)
scan_steps s w v (InsertCompletes b k r at old turns stepped step) point of begins is = absurd (subst IsOfScan turns.was of)
scan_steps s w v (RefusesInsert b k r old refused turns fails) point of begins is = absurd (none-some _ is)
scan_steps s w v (TakesLock first start turns free held rows indexes) point of begins is = absurd (lock_scan w first start (subst IsScanning turns.now (begins turns.was)))
scan_steps s w v (MaintainGoes job at range old new turns stepped step) point of begins is = absurd (subst IsOfScan turns.was of)
scan_steps s w v (MaintainCompletes job at range old turns stepped step) point of begins is = absurd (subst IsOfScan turns.was of)
scan_steps s w v (RefusesMaintain job at range phase refused turns stepped passes) point of begins is = absurd (none-some _ is)
scan_steps s w v (RefusesVacuum old vacuuming turns given rows indexes) point of begins is = absurd (none-some _ is)
scan_steps s w v (PrunesBlock extent next dropped inside spared turns drops) point of begins is = absurd (subst IsOfScan turns.was of)
scan_steps s w v (SweepsPage at page turns stepped sweeps) point of begins is = absurd (subst IsOfScan turns.was of)
scan_steps s w v (RestartsIndex at turns only) point of begins is = absurd (subst IsOfScan turns.was of)
scan_steps s w v (BeginsScan scan start turns only) point of begins is =
    Goes (subst IsScanning (sym turns.now) tt) (λ marks. subst IsMarking turns.was marks) (not_mark points.Extent point refl is)
scan_steps s w v (Judges old new inside low step turns only) point of begins is =
    Goes (subst IsScanning (sym turns.now) tt) (λ marks. subst IsMarking turns.was marks) (not_mark (judge_point step) point (judge_not _ old new step) is)
scan_steps s w v (ReadsBlock scan next found reads turns only) point of begins is =
    Goes (subst IsScanning (sym turns.now) tt) (λ marks. subst IsMarking turns.was marks) (not_mark points.Page point refl is)
scan_steps s w v (RefusesScan scan t turns how) point of begins is = absurd (none-some _ is)
scan_steps s w v (MarksRow scan id rest turns only) point of begins is = MarksOne (subst IsMarking (sym turns.now) tt) (sym (same_Some _ _ is))
scan_steps s w v (Conflicts scan id rest t turns fails) point of begins is = absurd (none-some _ is)
scan_steps s w v (Blocked task blocked turns only) point of begins is = absurd (none-some _ is)
scan_steps s w v (Transacts counts resting few same) point of begins is = absurd (none-some _ is)

onward_scan : (w : TableState) (old new : Task) → IsScanning old → Onward w old new → IsOfScan new
onward_scan w _ _ is (Stays task step) = by task is
  where
    by : (t : Task) → IsScanning t → IsOfScan t
    by (Scans scan) is = tt
    by t is = absurd is
onward_scan w _ _ is (ToAsk b k r at below asks) = absurd is
onward_scan w _ _ is (ToIndex b k r at below not) = absurd is
onward_scan w _ _ is (Inserted b k r at last) = absurd is
onward_scan w _ _ is (ToRange job at range ranges) = absurd is
onward_scan w _ _ is (NextIndex extent at range none more) = absurd is
onward_scan w _ _ is (Pruned extent next new past more) = absurd is
onward_scan w _ _ is (ToPage at from m p next) = absurd is
onward_scan w _ _ is (Swept at from none some) = absurd is
onward_scan w _ _ is (JudgesNext scan new inside low empty more) = onward_scan w _ new tt more
onward_scan w _ _ is (Scanned scan read nothing) = tt
onward_scan w _ _ is (ToMarks scan id rest read looks deletes lists) = tt
onward_scan w _ _ is (Marked scan) = absurd is

pub settles_scan : (s : ℕ) (w v : TableState) → IsScanning (w.task s) → Settles s w v → IsOfScan (v.task s)
settles_scan s w v is (GoesOn old new onward turns only) = subst IsOfScan (sym turns.now) (onward_scan w old new (subst IsScanning turns.was is) onward)
settles_scan s w v is (GivesLock old done turns given rows indexes) = subst IsOfScan (sym turns.now) tt

onward_marks : (w : TableState) (old new : Task) → IsMarking old → Onward w old new → IsMarking new ⊎ (new ≡ Resting)
onward_marks w _ _ is (Stays task step) = inl is
onward_marks w _ _ is (ToAsk b k r at below asks) = absurd is
onward_marks w _ _ is (ToIndex b k r at below not) = absurd is
onward_marks w _ _ is (Inserted b k r at last) = absurd is
onward_marks w _ _ is (ToRange job at range ranges) = absurd is
onward_marks w _ _ is (NextIndex extent at range none more) = absurd is
onward_marks w _ _ is (Pruned extent next new past more) = absurd is
onward_marks w _ _ is (ToPage at from m p next) = absurd is
onward_marks w _ _ is (Swept at from none some) = absurd is
onward_marks w _ _ is (JudgesNext scan new inside low empty more) = absurd is
onward_marks w _ _ is (Scanned scan read nothing) = absurd is
onward_marks w _ _ is (ToMarks scan id rest read looks deletes lists) = absurd is
onward_marks w _ _ is (Marked scan) = inr refl

pub settles_marks : (s : ℕ) (w v : TableState) → IsMarking (w.task s) → Settles s w v → IsMarking (v.task s) ⊎ (v.task s ≡ Resting)
settles_marks s w v is (GoesOn old new onward turns only) =
    elim (onward_marks w old new (subst IsMarking turns.was is) onward) [ inl marks ↦ inl (subst IsMarking (sym turns.now) marks) | inr rests ↦ inr (turns.now ∙ rests) ]
settles_marks s w v is (GivesLock old done turns given rows indexes) = inr turns.now

pub marks_of_scan : (task : Task) → IsMarking task → IsOfScan task
marks_of_scan (Marks scan ids) is = tt
marks_of_scan task is = absurd is
