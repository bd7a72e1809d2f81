-- the steps of a scan that judges ranges, as steps of its table
use Rattle.std.proofs.Common.{◌≡◌, ◌≢◌, ◌⊎◌, inl, inr, ℕ, suc, ◌+◌, ◌*◌, ◌/◌, ◌<◌, Bool, true, false, List, length, Option, None, Some, refl, sym, ap, subst, ◌∙◌, arith}
use Rattle.std.specs.Prelude.{nat_lt, ◌&&◌, if◌then◌else◌}
use Rattle.std.proofs.lemmas.Bool.{cases_eq, lt-ltb, ltb-true}
use Rattle.std.proofs.lemmas.List.{length-map}
use Rattle.block_model.specs.declared.place.Spot.{Spot}
use Rattle.block_model.specs.declared.reply.Point.{Point}
use Rattle.block_model.specs.declared.reply.Point.TheVariants as points
use Rattle.block_model.specs.declared.row.Query.{Query}
use Rattle.store_layout.specs.DiskLayout.{DiskLayout}
use Rattle.page_layout.specs.PageContents.{Slot}
use Rattle.page_map.specs.PageMap.{PageMap}
use Rattle.page_locks.specs.LockHolders.{LockState}
use Rattle.coverage.specs.Accounts.{Account}
use Rattle.coverage.specs.InOneIndex.{DoesAt}
use Rattle.coverage.specs.Machines.{ShownTable, Unseen, table_state, task_turned}
use Rattle.coverage.specs.Table.{Resting, Scans, TableScan, TableState, index_view_at, judged_with}
use Rattle.coverage.specs.TablePoints.{judge_point}
use Rattle.coverage.specs.TableSteps.{BeginsScan, JudgeDrops, JudgeGone, JudgeKeeps, JudgeMap, JudgeNoEntry, JudgeStep, Judges, Onward}
use Rattle.heap_rows.specs.HeapBlocks.{HasBlocks}
use Rattle.index_contents.specs.IndexContents.{contents}
use Rattle.index_steps.specs.IndexTuples.{seen, shape_of}
use Rattle.index_steps.specs.Readings.{ShowsGone}
use Rattle.index_steps.specs.ShownIndex.{lock_in}
use Rattle.index_steps.specs.ShownTable.{indexes_of}
use Rattle.bitmap_scan.specs.Judgings.{SaysOfRange, IsTupleThere}
use Rattle.bitmap_scan.specs.declared.judging.Judged.TheVariants as verdicts
use Rattle.bitmap_scan.specs.NextRanges.{AreBelow, LeavesOut, first_range, range_from}
use Rattle.bitmap_scan.specs.ScanHands.{IsAtRange, ScanHand, ScannedIndex, is_candidate, scanned_at, scanned_index, scanned_indexes}
use Rattle.bitmap_scan.specs.ScanSteps.{JudgesTo, ScanGoes}
use Rattle.index_steps.specs.ShownRows.{shown_by}
use Rattle.bitmap_scan.specs.TableScans.{index_judged, range_judged, spot_held, table_scan}
use Rattle.bitmap_scan.specs.declared.stage.Stage.{Stage}
use Rattle.bitmap_scan.specs.declared.stage.Stage.TheVariants as stages
use Rattle.bitmap_scan.proofs.Excluding.{excludes, seen_keeps}
use Rattle.bitmap_scan.proofs.InTable.{only_turns, pages_here, shows_here, turns}
use Rattle.bitmap_scan.proofs.Numbers.{is_there}
use Rattle.bitmap_scan.proofs.Onwards.{at_range, at_stage, first_onward, range_onward}

-- a hand, by its parts
abbrev pub hand : Query → List ScannedIndex → ℕ → Stage → List Bool → ScanHand
hand query indexes extent stage candidates = record { query = query; indexes = indexes; stage = stage; extent = extent; candidates = candidates }

-- no spot is held before a range
held_if : (b : Bool) (at range : ℕ) (stage : Stage) → spot_held stage ≡ None → spot_held (if b then stages.Map at range else stage) ≡ None
held_if true at range stage none = refl
held_if false at range stage none = none

held_first : (indexes : List ScannedIndex) (extent at : ℕ) → spot_held (first_range indexes extent at) ≡ None
held_first indexes extent at = held_if (nat_lt at (length indexes) && nat_lt 0 extent) at 0 stages.Judged refl

held_from : (indexes : List ScannedIndex) (extent at range : ℕ) → spot_held (range_from indexes extent at range) ≡ None
held_from indexes extent at range = held_if (nat_lt (range * (scanned_at indexes at).pages_per_range) extent) at range (first_range indexes extent (at + 1)) (held_first indexes extent (at + 1))

module _ (layout : DiskLayout) (pages : PageMap) (query : Query) (indexes : List ScannedIndex) (is : indexes ≡ scanned_indexes layout query.table) where
  module _ (s : ℕ) (locks : LockState) (blocks : List (List Slot)) (u : Unseen) where
    abbrev table : ShownTable
    table = shown_by layout pages locks query.table blocks

    abbrev w : TableState
    w = table_state table u

    abbrev after : TableScan → TableState
    after scan = table_state table (task_turned s (Scans scan) u)

    pub counted : w.indexes ≡ length indexes
    counted = sym (ap length is ∙ length-map (indexes_of layout query.table) (scanned_index layout))

    pub per_range : (i : ℕ) → i < length indexes → (w.index i).pages_per_range ≡ (scanned_at indexes i).pages_per_range
    per_range i below =
        let there = is_there layout query.table indexes i is below in
        pages_here layout pages locks query.table blocks u i there.n there.there ∙ sym (ap (λ (x : ScannedIndex). x.pages_per_range) there.scanned)

    -- a judged range, as what the session does
    judges : (old new : TableScan) → old.at < length indexes → old.range * (scanned_at indexes old.at).pages_per_range < old.extent → (step : JudgeStep (index_view_at old.at w) old new) → u.task s ≡ Scans old
        → DoesAt s w (after new) (judge_point step) (λ account. account)
    judges old new below low step task = record {
      does = Judges old new (omega (arith, below, counted)) (subst (λ (n : ℕ). old.range * n < old.extent) (sym (per_range old.at below)) low) step
          (turns layout pages locks query.table blocks u s (Scans old) (Scans new) task) (only_turns layout pages locks query.table blocks u s (Scans new));
      point_is = refl;
      adds = λ a b adds. adds;
    }

    -- behind a range the statement comes to the next one, or to the next index
    settles : (base : TableScan) (at range : ℕ) → at < length indexes → (point : Point) (account : Account → Account) → DoesAt s w (after (at_range base at (suc range))) point account
        → ScanGoes s table u point account (at_stage base (length indexes) (range_from indexes base.extent at (range + 1)))
    settles base at range below point account does =
        let stage = range_from indexes base.extent at (range + 1) in
        let more : range + 1 ≡ suc range = omega arith in
        record {
          done = at_range base at (suc range);
          does = does;
          same = ap (λ (held : Option Spot). record base { at = index_judged (length indexes) stage; range = range_judged stage; held = held }) (held_from indexes base.extent at (range + 1));
          onward = λ next onward. subst (λ (m : ℕ). Onward (after (at_range base at (suc range))) (Scans (at_range base at m)) next) more
              (range_onward (after (at_range base at (suc range))) indexes counted per_range base at (range + 1) below next onward);
        }

  -- the first step: the blocks below the extent are the candidates
  pub begins : (before extent : ℕ) (old new : List Bool) → ((blocks : List (List Slot)) → HasBlocks layout pages query.table blocks → extent ≡ length blocks) → AreBelow extent old new
      → JudgesTo layout pages (hand query indexes before stages.Extent old) (hand query indexes extent (first_range indexes extent 0) new)
  begins before extent old new counts below s locks blocks beside u has task begin =
      let base : TableScan = table_scan layout (hand query indexes extent (stages.Map 0 0) new) beside in
      let stage = first_range indexes extent 0 in
      let there : extent ≡ length blocks = counts blocks has in (
        beside.judged,
        record {
          done = base;
          does = record {
            does = BeginsScan base (record {
              sees = begin.sees;
              extent = there;
              candidate = λ b. (
                λ candidate. omega (arith, there, ltb-true b extent (sym (below.below b) ∙ candidate)),
                λ inside. below.below b ∙ lt-ltb b extent (omega (arith, there, inside)),
              );
              at = refl;
              range = refl;
              held = refl;
              judged = begin.judged;
              read = begin.read;
              found = begin.found;
              explain = begin.explain;
            }) (turns layout pages locks query.table blocks u s Resting (Scans base) task) (only_turns layout pages locks query.table blocks u s (Scans base));
            point_is = refl;
            adds = λ a b adds. adds;
          };
          same = ap (λ (held : Option Spot). record base { at = index_judged (length indexes) stage; range = range_judged stage; held = held }) (held_first indexes extent 0);
          onward = λ next onward. first_onward (after s locks blocks u base) indexes (counted s locks blocks u) (per_range s locks blocks u) base 0 (omega arith) next onward;
        },
      )

  module _ (extent at range : ℕ) (at_one : IsAtRange indexes extent at range) where
    -- the map names a spot
    pub named : (candidates : List Bool) (x : Spot) → (contents layout pages (scanned_at indexes at).number).entry range ≡ Some x
        → JudgesTo layout pages (hand query indexes extent (stages.Map at range) candidates) (hand query indexes extent (stages.Tuple at range x) candidates)
    named candidates x names s locks blocks beside u has task begin =
        let old : TableScan = table_scan layout (hand query indexes extent (stages.Map at range) candidates) beside in
        let new : TableScan = table_scan layout (hand query indexes extent (stages.Tuple at range x) candidates) beside in
        let there = is_there layout query.table indexes at is at_one.0 in
        let shows = shows_here layout pages locks query.table blocks u at there.n there.there in
        let entry = shows.entry range ∙ ap (λ (i : ScannedIndex). (contents layout pages i.number).entry range) (sym there.scanned) ∙ names in
        (beside.judged, record { done = new; does = judges s locks blocks u old new at_one.0 at_one.1 (JudgeMap x refl entry) task; same = refl; onward = λ next onward. onward })

    -- it names none: the range is kept
    pub unnamed : (candidates : List Bool) → (contents layout pages (scanned_at indexes at).number).entry range ≡ None
        → JudgesTo layout pages (hand query indexes extent (stages.Map at range) candidates) (hand query indexes extent (range_from indexes extent at (range + 1)) candidates)
    unnamed candidates none s locks blocks beside u has task begin =
        let old : TableScan = table_scan layout (hand query indexes extent (stages.Map at range) candidates) beside in
        let base : TableScan = record old { judged = judged_with old true } in
        let there = is_there layout query.table indexes at is at_one.0 in
        let shows = shows_here layout pages locks query.table blocks u at there.n there.there in
        let entry = shows.entry range ∙ ap (λ (i : ScannedIndex). (contents layout pages i.number).entry range) (sym there.scanned) ∙ none in
        (judged_with old true, settles s locks blocks u base at range at_one.0 points.Map (λ account. account) (judges s locks blocks u old (at_range base at (suc range)) at_one.0 at_one.1 (JudgeNoEntry refl entry) task))

    module _ (x : Spot) (old_candidates : List Bool) where
      -- no tuple of the range stands there
      pub gone : SaysOfRange (shape_of layout (scanned_at indexes at).number) (contents layout pages (scanned_at indexes at).number) range x query.conds verdicts.Gone
          → JudgesTo layout pages (hand query indexes extent (stages.Tuple at range x) old_candidates) (hand query indexes extent (stages.Map at range) old_candidates)
      gone none s locks blocks beside u has task begin =
          let old : TableScan = table_scan layout (hand query indexes extent (stages.Tuple at range x) old_candidates) beside in
          let new : TableScan = table_scan layout (hand query indexes extent (stages.Map at range) old_candidates) beside in
          let there = is_there layout query.table indexes at is at_one.0 in
          let shows = shows_here layout pages locks query.table blocks u at there.n there.there in
          let is_gone = subst (λ (i : ScannedIndex). ShowsGone (shape_of layout i.number) (contents layout pages i.number) range x) there.scanned none in
          (beside.judged, record { done = new; does = judges s locks blocks u old new at_one.0 at_one.1 (JudgeGone x refl (is_gone (lock_in layout locks there.n) (index_view_at at (w s locks blocks u)) shows)) task; same = refl; onward = λ next onward. onward })

      -- the tuple keeps the conditions
      pub kept : SaysOfRange (shape_of layout (scanned_at indexes at).number) (contents layout pages (scanned_at indexes at).number) range x query.conds verdicts.Kept
          → JudgesTo layout pages (hand query indexes extent (stages.Tuple at range x) old_candidates) (hand query indexes extent (range_from indexes extent at (range + 1)) old_candidates)
      kept (t, stands, keeps_it) s locks blocks beside u has task begin =
          let old : TableScan = table_scan layout (hand query indexes extent (stages.Tuple at range x) old_candidates) beside in
          let base : TableScan = record old { judged = judged_with old true } in
          let there = is_there layout query.table indexes at is at_one.0 in
          let shows = shows_here layout pages locks query.table blocks u at there.n there.there in
          let tuple = subst (λ (i : ScannedIndex). IsTupleThere (shape_of layout i.number) (contents layout pages i.number) range x t) there.scanned stands in
          let shape = shape_of layout there.n in
          let step = JudgeKeeps x (seen shape tuple.bytes) refl (tuple.there (lock_in layout locks there.n) (index_view_at at (w s locks blocks u)) shows) (seen_keeps shape tuple.bytes t query.conds tuple.read ∙ keeps_it) in
          (judged_with old true, settles s locks blocks u base at range at_one.0 points.Tuple (λ account. account) (judges s locks blocks u old (at_range base at (suc range)) at_one.0 at_one.1 step task))

      -- it doesn't: the blocks of the range are left out
      pub left_out : (new_candidates : List Bool) → SaysOfRange (shape_of layout (scanned_at indexes at).number) (contents layout pages (scanned_at indexes at).number) range x query.conds verdicts.LeftOut
          → LeavesOut (scanned_at indexes at).pages_per_range range old_candidates new_candidates
          → JudgesTo layout pages (hand query indexes extent (stages.Tuple at range x) old_candidates) (hand query indexes extent (range_from indexes extent at (range + 1)) new_candidates)
      left_out new_candidates (t, stands, drops, misses) leaves s locks blocks beside u has task begin =
          let old : TableScan = table_scan layout (hand query indexes extent (stages.Tuple at range x) old_candidates) beside in
          let base : TableScan = record old { judged = judged_with old false; candidate = is_candidate new_candidates } in
          let there = is_there layout query.table indexes at is at_one.0 in
          let shows = shows_here layout pages locks query.table blocks u at there.n there.there in
          let tuple = subst (λ (i : ScannedIndex). IsTupleThere (shape_of layout i.number) (contents layout pages i.number) range x t) there.scanned stands in
          let shape = shape_of layout there.n in
          let view = index_view_at at (w s locks blocks u) in
          let per : view.pages_per_range ≡ (scanned_at indexes at).pages_per_range = per_range s locks blocks u at at_one.0 in
          let out = subst (λ (n : ℕ). LeavesOut n range old_candidates new_candidates) (sym per) leaves in
          let step = JudgeDrops x (seen shape tuple.bytes) (is_candidate new_candidates) refl (tuple.there (lock_in layout locks there.n) view shows) (seen_keeps shape tuple.bytes t query.conds tuple.read ∙ drops)
          (excludes layout query there.n there.of.table_is tuple.bytes t tuple.read drops misses) (λ b. left view.pages_per_range out b) in
          (judged_with old false, settles s locks blocks u base at range at_one.0 points.Tuple (λ account. account) (judges s locks blocks u old (at_range base at (suc range)) at_one.0 at_one.1 step task))
        where
          left : (per : ℕ) → LeavesOut per range old_candidates new_candidates → (b : ℕ)
              → ((b / per ≡ range) × (is_candidate new_candidates b ≡ false)) ⊎ ((b / per ≢ range) × (is_candidate new_candidates b ≡ is_candidate old_candidates b))
          left per out b = elim (cases_eq (b / per) range) [ inl here ↦ inl (here, out.out b here) | inr apart ↦ inr (apart, out.others b apart) ]
