-- A scan whose session steps alone ends within two steps a range and one a block, and a delete with one more for each row that it marks.
use Rattle.std.proofs.Common.{◌≡◌, ⊎_elim, ℕ, ◌+◌, ◌-◌, ◌*◌, ◌/◌, ◌≤◌, ◌<◌, Some, Bool, List, ◌∷◌, length, sym, ◌∙◌, ap, subst, arith, suc, div-lt_iff_lt-mul, suc-mul, add-one}
use Rattle.std.specs.Prelude.{refl}
use Rattle.std.proofs.lemmas.Nat.{le-div}
use Rattle.std.proofs.lemmas.Option.{same_Some, none-some}
use Rattle.std.proofs.Math.Nat.{le_of_lt, ne_of_lt}
use Rattle.block_model.specs.declared.row.Row.{Row}
use Rattle.block_model.specs.declared.row.RowId.{RowId}
use Rattle.block_model.specs.declared.place.Spot.{Spot}
use Rattle.coverage.specs.IndexView.{IndexTuple}
use Rattle.coverage.specs.Steps.{Stands}
use Rattle.coverage.specs.Table.{TableScan, Task, Resting, Scans, Marks, TableState, index_view_at}
use Rattle.coverage.specs.TableSteps.{first_block, OnlyTurns, ReadsPage, JudgeStep, JudgeMap, JudgeNoEntry, JudgeGone, JudgeKeeps, JudgeDrops, Onward, Stays}
use Rattle.coverage.specs.TableSteps.{JudgesNext, Scanned, ToMarks, Marked, IsMaintained, RangesDone, NothingToSweep, Settles, TableStep, ListsFound}
use Rattle.coverage.specs.GoingOn.{StepsAlone, LastAlone, OneMoreAlone}
use Rattle.coverage.specs.StepsLeft.{sum_below, ranges_below, unjudged_ranges, held_steps, unread_blocks, scan_steps, HasAtMostToMark}
use Rattle.coverage.specs.TableCovered.{FindsOnly, AreToMark, IsTableKept}
use Rattle.coverage.proofs.Sums.{sum_grows}
use Rattle.coverage.proofs.StepDid.{Did, DidJudge, DidRead, DidMark, step_did, step_settles}
use Rattle.coverage.proofs.TableSeen.{table_step_kept, table_between_kept}

-- a scan or a delete's marks
abbrev IsScanning : Task → Type 0
IsScanning (Scans scan) = Unit
IsScanning (Marks scan ids) = Unit
IsScanning task = ⊥

-- a table without its statements: a scan's steps leave it as it is
abbrev table_of : TableState → TableState
table_of w = record w { task = λ n. Resting }

same_table : (w v : TableState) → OnlyTurns w v → table_of v ≡ table_of w
same_table w v only = λ j. record {
  indexes = only.rows.layout.indexes j;
  index = λ i. only.indexes.index i j;
  rows_per_page = only.rows.layout.rows_per_page j;
  heap_limit = only.rows.layout.heap_limit j;
  blocks = only.rows.blocks j;
  row = λ b k. only.rows.row b k j;
  summarise_lock = only.summarise_lock j;
  task = λ n. Resting;
  counts = λ t. only.rows.counts t j;
}

-- a range that begins below the extent is one of them, and no other is
module _ (per extent range : ℕ) (ranged : 0 < per) where
  pub one_of_ranges : range * per < extent → range < (extent + per - 1) / per
  one_of_ranges low = le-div (suc range) (extent + per - 1) per ranged (subst (λ n. n ≤ extent + per - 1) (sym (suc-mul range per)) (omega arith))

  -- so it is for a range all of whose blocks lie below it
  pub one_of_whole_ranges : (range + 1) * per ≤ extent → range < extent / per
  one_of_whole_ranges low = le-div (suc range) extent per ranged (subst (λ n. n * per ≤ extent) (add-one range) low)

  none_of_ranges : extent ≤ range * per → (extent + per - 1) / per ≤ range
  none_of_ranges high =
      let below = (div-lt_iff_lt-mul {k = per} {x = extent + per - 1} {y = suc range} ranged).1
      (subst (λ n. extent + per - 1 < n) (sym (suc-mul range per)) (omega arith)) in
      omega arith

-- a tuple of the range stands at the place that the scan holds
abbrev HoldsTuple : TableState → TableScan → Type 0
HoldsTuple w scan = (x : Spot) × (t : IndexTuple) × (scan.held ≡ Some x) × Stands (index_view_at scan.at w) scan.range x t

abbrev unread : TableScan → ℕ
unread scan = unread_blocks scan.explains scan.extent scan.read

-- so many steps are within what is left
abbrev Within : (rows n : ℕ) → TableState → Task → Type 0
Within rows n z (Scans scan) = (scan.at < z.indexes → HoldsTuple z scan → n ≤ 2 * unjudged_ranges z scan + unread scan + rows - 1)
    × (n ≤ scan_steps z scan + rows)
Within rows n z (Marks scan ids) = n ≤ length ids
Within rows n z task = Unit

abbrev ToMark : (rows : ℕ) → TableState → Task → Type 0
ToMark rows z (Scans scan) = HasAtMostToMark z scan rows
ToMark rows z task = Unit

none_left : (rows : ℕ) (z : TableState) (task : Task) → Within rows 0 z task
none_left rows z (Scans scan) = ((λ inside holds. omega arith), omega arith)
none_left rows z (Marks scan ids) = omega arith
none_left rows z _ = tt

-- the sums of what is left: a range fewer, or the same, in steps
module _ (all before range un rows n : ℕ) where
  read_map : before + range < all → n ≤ 2 * (all - (before + range)) + un + rows - 1 → suc n ≤ 0 + 2 * (all - (before + range)) + un + rows
  read_map some le = omega arith

  range_done : (held : ℕ) → before + range < all → n ≤ 0 + 2 * (all - (before + suc range)) + un + rows → suc n ≤ held + 2 * (all - (before + range)) + un + rows
  range_done held some le = omega arith

  tuple_read : before + range < all → n ≤ 0 + 2 * (all - (before + suc range)) + un + rows → suc n ≤ 2 * (all - (before + range)) + un + rows - 1
  tuple_read some le = omega arith

  read_again : n ≤ 0 + 2 * (all - (before + range)) + un + rows → suc n ≤ 1 + 2 * (all - (before + range)) + un + rows
  read_again le = omega arith

module _ (rows n : ℕ) (w : TableState) (old : TableScan) (inside : old.at < w.indexes) (low : first_block w old.at old.range < old.extent)
    (ranged : 0 < (w.index old.at).pages_per_range)
    (named : (range : ℕ) (x : Spot) → (w.index old.at).entry range ≡ Some x → (t : IndexTuple) × ((w.index old.at).tuple x ≡ Some t) × (t.range ≡ range)) where
  abbrev all : ℕ
  all = sum_below w.indexes (ranges_below w old.extent)

  abbrev before : ℕ
  before = sum_below old.at (ranges_below w old.extent)

  one_more : before + old.range < all
  one_more = omega (arith, one_of_ranges (w.index old.at).pages_per_range old.extent old.range ranged low, sum_grows (ranges_below w old.extent) (suc old.at) w.indexes inside)

  abbrev steps_held : ℕ → ℕ → Type 0
  steps_held held m = m ≤ held + 2 * (all - (before + old.range)) + unread old + rows

  judge_within : (new : TableScan) → JudgeStep (index_view_at old.at w) old new → Within rows n (table_of w) (Scans new) → Within rows (suc n) (table_of w) (Scans old)
  judge_within _ (JudgeMap x empty names) left = (
    (λ _ holds. absurd (none-some _ (sym empty ∙ holds.2))),
    subst (λ h. steps_held (held_steps h) (suc n)) (sym empty)
        (read_map all before old.range (unread old) rows n one_more (left.0 inside (x, (named old.range x names).0, refl, ((named old.range x names).1, (named old.range x names).2)))),
  )
  judge_within _ (JudgeNoEntry empty none) left = (
    (λ _ holds. absurd (none-some _ (sym empty ∙ holds.2))),
    range_done all before old.range (unread old) rows n (held_steps old.held) one_more
        (subst (λ h. n ≤ held_steps h + 2 * (all - (before + suc old.range)) + unread old + rows) empty left.1),
  )
  judge_within _ (JudgeGone x held gone) left = (
    (λ _ holds. absurd (gone holds.1 (ap (w.index old.at).tuple (same_Some _ _ (sym held ∙ holds.2)) ∙ holds.3.0) holds.3.1)),
    subst (λ h. steps_held (held_steps h) (suc n)) (sym held) (read_again all before old.range (unread old) rows n left.1),
  )
  judge_within _ (JudgeKeeps x t held stands keeps) left = (
    (λ _ holds. tuple_read all before old.range (unread old) rows n one_more left.1),
    range_done all before old.range (unread old) rows n (held_steps old.held) one_more left.1,
  )
  judge_within _ (JudgeDrops x t candidate held stands drops excludes others) left = (
    (λ _ holds. tuple_read all before old.range (unread old) rows n one_more left.1),
    range_done all before old.range (unread old) rows n (held_steps old.held) one_more left.1,
  )

-- a block is read
module _ (rows n : ℕ) (z w : TableState) (scan : TableScan) (next : ℕ) (found : ℕ → ℕ → Bool) (reads : ReadsPage w scan next found)
    (all : scan.at ≡ z.indexes) (below : next < scan.extent) where
  read_within : Within rows n z (Scans (record scan { read = next + 1; found = found })) → Within rows (suc n) z (Scans scan)
  read_within left = (
    (λ inside holds. absurd (ne_of_lt inside all)),
    subst (λ e. suc n ≤ held_steps scan.held + 2 * unjudged_ranges z scan + unread_blocks e scan.extent scan.read + rows) (sym reads.reads)
        (omega (arith, reads.unread, below, subst (λ e. n ≤ held_steps scan.held + 2 * unjudged_ranges z scan + unread_blocks e scan.extent (next + 1) + rows) reads.reads left.1)),
  )

-- where a scan comes by its step: what is left there was left before it went on
module _ (rows n : ℕ) (u : TableState) (ranged : (i : ℕ) → i < u.indexes → 0 < (u.index i).pages_per_range) where
  no_range_left : (m k : ℕ) → m ≤ k → k ≤ m → k ≡ m
  no_range_left m k le ge = omega arith

  sums : (a b c : ℕ) → c ≡ b → a + c + 0 ≡ a + b
  sums a b c is = omega arith

  found_to_mark : (scan : TableScan) (ids : List RowId) → FindsOnly u scan → ListsFound u scan ids → AreToMark u scan ids
  found_to_mark scan ids finds lists id among =
      let one = lists.only id among in
      let is = finds one.0 one.1 one.3 in
      (one.0, one.1, is.0, is.1, ap (λ (r : Row). r.id) (same_Some _ _ (sym is.1 ∙ one.4)) ∙ one.5, is.2, is.3)

  onward_within : (scan : TableScan) (t : Task) → Onward u (Scans scan) t
      → (scan.at < u.indexes → scan.range ≤ ranges_below u scan.extent scan.at) → FindsOnly u scan → HasAtMostToMark u scan rows
      → (t ≡ Resting → n ≡ 0) → Within rows n (table_of u) t → Within rows n (table_of u) (Scans scan)
  onward_within scan _ (Stays _ has) low finds few ends left = left
  onward_within scan _ (Scanned _ read nothing) low finds few ends left =
      subst (λ m. Within rows m (table_of u) (Scans scan)) (sym (ends refl)) (none_left rows (table_of u) (Scans scan))
  onward_within scan _ (ToMarks _ id rest read reads deletes lists) low finds few ends left = (
    (λ inside holds. absurd (ne_of_lt inside read.0)),
    omega (arith, left, few reads deletes (id ∷ rest) lists.ordered (found_to_mark scan (id ∷ rest) finds lists)),
  )
  onward_within scan t (JudgesNext _ _ inside all empty more) low finds few ends left =
      let next = record scan { at = suc scan.at; range = 0 } in
      let on = onward_within next t more (λ _. omega arith) finds few ends left in
      let f = ranges_below u scan.extent in
      let is = no_range_left scan.range (f scan.at) (low inside)
      (none_of_ranges (u.index scan.at).pages_per_range scan.extent scan.range (ranged scan.at inside) all) in (
        (λ _ holds. absurd (none-some _ (sym empty ∙ holds.2))),
        subst (λ m. n ≤ held_steps scan.held + 2 * (sum_below u.indexes f - m) + unread scan + rows)
            (sums (sum_below scan.at f) scan.range (f scan.at) is) on.1,
      )

  marks_within : (scan : TableScan) (ids : List RowId) (t : Task) → Onward u (Marks scan ids) t → (t ≡ Resting → n ≡ 0) → Within rows n (table_of u) t
      → n ≤ length ids
  marks_within scan ids _ (Stays _ has) ends left = left
  marks_within scan _ _ (Marked _) ends left = subst (λ m. m ≤ 0) (sym (ends refl)) (omega arith)

-- what a delete has to mark at most is the same all along
judge_marks : (rows : ℕ) (w : TableState) (old new : TableScan) → JudgeStep (index_view_at old.at w) old new → HasAtMostToMark w old rows
    → HasAtMostToMark w new rows
judge_marks rows w old _ (JudgeMap x empty named) few = few
judge_marks rows w old _ _ few = few

onward_marks : (rows : ℕ) (u : TableState) (scan : TableScan) (t : Task) → Onward u (Scans scan) t → HasAtMostToMark u scan rows → ToMark rows u t
onward_marks rows u scan _ (Stays _ has) few = few
onward_marks rows u scan _ (Scanned _ read nothing) few = tt
onward_marks rows u scan _ (ToMarks _ id rest read reads deletes lists) few = tt
onward_marks rows u scan t (JudgesNext _ _ inside _ empty more) few = onward_marks rows u (record scan { at = suc scan.at; range = 0 }) t more few

-- a judgement leaves a scan at its range, or at the next one
judge_range : (Is : (extent at range : ℕ) → Type 0) (w : TableState) (old new : TableScan) → JudgeStep (index_view_at old.at w) old new
    → Is old.extent old.at old.range → Is old.extent old.at (suc old.range) → Is new.extent new.at new.range
judge_range Is w old _ (JudgeMap x empty named) here there = here
judge_range Is w old _ (JudgeGone x held gone) here there = here
judge_range Is w old _ _ here there = there

unmaintained : (u : TableState) (task : Task) → IsMaintained u task → IsScanning task → ⊥
unmaintained u _ (RangesDone job at range done last) is = is
unmaintained u _ (NothingToSweep extent next _ none) is = is

scan_settles : (s : ℕ) (u v : TableState) → Settles s u v → (task : Task) → IsScanning task → u.task s ≡ task
    → Onward u task (v.task s) × OnlyTurns u v
scan_settles s u v settles task scanning is = ⊎_elim
    (λ (on : Onward u task (v.task s) × OnlyTurns u v). on)
    (λ (done : IsMaintained u task × (v.task s ≡ Resting)). absurd (unmaintained u task done.0 scanning))
    (step_settles s u v settles task is)

module _ (s rows : ℕ) where
  module _ (n : ℕ) (w v : TableState) (step : TableStep s w v) (kept : IsTableKept w) (ends : v.task s ≡ Resting → n ≡ 0)
      (more : ToMark rows (table_of v) (v.task s) → Within rows n (table_of v) (v.task s)) where
    abbrev u : TableState
    u = step.between

    kept_u : IsTableKept u
    kept_u = table_between_kept s w u kept step.does

    -- what is left of the scan that the step made
    scan_left : (scan : TableScan) → u.task s ≡ Scans scan → OnlyTurns w u → (scan.at < u.indexes → scan.range ≤ ranges_below u scan.extent scan.at)
        → HasAtMostToMark w scan rows → Within rows n (table_of w) (Scans scan)
    scan_left scan is only low few =
        let settled = scan_settles s u v step.settles (Scans scan) tt is in
        let few_u = subst (λ z. HasAtMostToMark z scan rows) (sym (same_table w u only)) few in
        let few_v = subst (λ z. ToMark rows z (v.task s)) (sym (same_table u v settled.1)) (onward_marks rows u scan (v.task s) settled.0 few_u) in
        let left = subst (λ z. Within rows n z (v.task s)) (same_table u v settled.1) (more few_v) in
        subst (λ z. Within rows n z (Scans scan)) (same_table w u only)
        (onward_within rows n u (λ i below. (kept_u.indexes i below).sound.ranged) scan (v.task s) settled.0 low (kept_u.finds s scan is) few_u ends left)

    step_within : (task new : Task) → Did s w u task new → w.task s ≡ task → u.task s ≡ new → ToMark rows (table_of w) task
        → Within rows (suc n) (table_of w) task
    step_within _ _ (DidJudge old new inside low judge only) was now few =
        let sound = (kept.indexes old.at inside).sound in
        let lower = one_of_ranges (w.index old.at).pages_per_range old.extent old.range sound.ranged low in
        judge_within rows n w old inside low sound.ranged sound.entries_name_tuples new judge
        (scan_left new now only
        (λ _. subst (λ z. new.range ≤ ranges_below z new.extent new.at) (sym (same_table w u only))
        (judge_range (λ e a r. r ≤ ranges_below w e a) w old new judge
        (le_of_lt lower) lower))
        (judge_marks rows w old new judge few))
    step_within _ _ (DidRead scan next found reads only) was now few =
        read_within rows n (table_of w) w scan next found reads reads.judged (((kept.exact s scan was).candidate next).0 reads.given).0
        (scan_left (record scan { read = next + 1; found = found }) now only
        (λ inside. absurd (omega (arith, reads.judged, only.rows.layout.indexes, inside))) few)
    step_within _ _ (DidMark scan id rest only) was now few =
        let settled = scan_settles s u v step.settles (Marks scan rest) tt now in
        let fewer = marks_within rows n u (λ i below. (kept_u.indexes i below).sound.ranged) scan rest (v.task s) settled.0 ends
        (subst (λ z. Within rows n z (v.task s)) (same_table u v settled.1) (more (to_mark scan rest (v.task s) settled.0))) in
        omega arith
      where
        to_mark : (scan : TableScan) (ids : List RowId) (t : Task) → Onward u (Marks scan ids) t → ToMark rows (table_of v) t
        to_mark scan ids _ (Stays _ has) = tt
        to_mark scan _ _ (Marked _) = tt
    step_within _ _ _ was now few = tt

  within : (n : ℕ) (w : TableState) → StepsAlone s n w → IsTableKept w → ToMark rows (table_of w) (w.task s) → Within rows n (table_of w) (w.task s)
  within _ _ (LastAlone w v step p point) kept few =
      step_within 0 w v step kept (λ _. refl) (λ _. none_left rows (table_of v) (v.task s)) (w.task s) (step.between.task s)
      (step_did s w step.between p step.does point) refl refl few
  within _ _ (OneMoreAlone n w v step p point going more) kept few =
      step_within n w v step kept (λ is. absurd (going is)) (λ few_v. within n v more (table_step_kept s w v kept step) few_v)
      (w.task s) (step.between.task s) (step_did s w step.between p step.does point) refl refl few

pub scan_within : (s n rows : ℕ) (w : TableState) (scan : TableScan) → IsTableKept w → w.task s ≡ Scans scan → HasAtMostToMark w scan rows
    → StepsAlone s n w → n ≤ scan_steps w scan + rows
scan_within s n rows w scan kept is few alone =
    (subst (Within rows n (table_of w)) is (within s rows n w alone kept (subst (ToMark rows (table_of w)) (sym is) few))).1

pub marks_within_ids : (s n : ℕ) (w : TableState) (scan : TableScan) (ids : List RowId) → IsTableKept w → w.task s ≡ Marks scan ids
    → StepsAlone s n w → n ≤ length ids
marks_within_ids s n w scan ids kept is alone =
    subst (Within 0 n (table_of w)) is (within s 0 n w alone kept (subst (ToMark 0 (table_of w)) (sym is) tt))
