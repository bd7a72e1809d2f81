-- a statement in hand comes to its end
use Rattle.std.proofs.Common.{◌≡◌, ◌≢◌, inl, inr, ℕ, zero, suc, ◌^◌, ◌≤◌, ◌<◌, Bool, true, false, List, length, Option, None, Some, IfSome, refl, sym, ap, ◌∙◌, subst, arith, length-drop}
use Rattle.std.specs.Prelude.{drop, slice_get}
use Rattle.std.proofs.lemmas.Bool.{cases_eq}
use Rattle.std.proofs.lemmas.List.{length-map}
use Rattle.std.proofs.lemmas.Option.{none-some, same_Some}
use Rattle.block_model.specs.declared.place.Spot.{Spot}
use Rattle.block_model.specs.declared.row.Row.{Row}
use Rattle.store_layout.specs.declared.statement.Statement.{Statement}
use Rattle.store_layout.specs.declared.statement.Statement.TheVariants as statements
use Rattle.store_layout.specs.DiskLayout.{DiskLayout, HasBoundedSizes}
use Rattle.store_layout.specs.FirstBrokenRule.{KeepsLimits}
use Rattle.page_layout.specs.PageContents.{Slot}
use Rattle.snapshot_core.specs.declared.sessions.Open.{Open}
use Rattle.snapshot_core.specs.StoredVersions.{transaction_of}
use Rattle.snapshot_core.specs.declared.statuses.Status.{Status}
use Rattle.tx_table.specs.TxState.{TxState}
use Rattle.coverage.specs.Accounts.{Asked}
use Rattle.coverage.specs.Table.{Resting, Task, TableState}
use Rattle.index_steps.specs.IndexTuples.{index_at}
use Rattle.index_steps.specs.ShownTable.{indexes_of}
use Rattle.index_steps.proofs.Lawful.{its_table}
use Rattle.index_steps.proofs.Listed.{is_counted}
use Rattle.summarise_core.specs.declared.desummarise_stage.Stage.{Stage as DesummariseStage}
use Rattle.summarise_core.specs.declared.desummarise_stage.Stage.TheVariants as desummarise_stages
use Rattle.summarise_core.specs.Desummarises.{range_of}
use Rattle.summarise_core.specs.DesummariseTable as desummarises
use Rattle.brin_insert.specs.declared.insert.Insert.{Insert}
use Rattle.brin_insert.specs.AskedFor.{AreRequestsOf, IsRequestOf, NoRequests, OneMoreRequest}
use Rattle.brin_insert.specs.InsertHands.{InsertHand}
use Rattle.brin_insert.specs.Inserts as inserts
use Rattle.session_parts.specs.Stage.{Stage}
use Rattle.session_parts.specs.Stage.TheVariants as stages
use Rattle.session_parts.specs.Explains.{explaining}
use Rattle.session_parts.specs.Finds.{FindHand, scanning}
use Rattle.session_parts.specs.ScanHands.{IsHand, IsScanOf, ScanHand}
use Rattle.session_parts.specs.TableScans as scans
use Rattle.session_parts.specs.TableScans.{Beside}
use Rattle.summarise_core.specs.declared.course.Standing.{Standing}
use Rattle.summarise_core.specs.declared.course.Standing.TheVariants as standings
use Rattle.summarise_core.specs.declared.wish.Wish.{Wish}
use Rattle.summarise_core.specs.declared.wish.Wish.TheVariants as wishes
use Rattle.summarise_core.specs.Summarises.{SummariseState}
use Rattle.summarise_core.specs.SummariseTable as summarises
use Rattle.session_parts.specs.Standing.{Standing as CleaningStanding}
use Rattle.session_parts.specs.Standing.TheVariants as cleaning_standings
use Rattle.session_parts.specs.TableSteps as vacuums
use Rattle.session_parts.specs.Vacuums.{VacuumState}
use Rattle.script_semantics.specs.Beginnings.{IsIn, IsWorkIn}
use Rattle.script_semantics.specs.Place.{Hand as HandAt, Place}
use Rattle.script_semantics.specs.Bounds.{IsBounded, IsTaskBounded, most_blocks}
use Rattle.script_semantics.specs.Moves.{IsBoundedAt, IsInOneTable}
use Rattle.script_semantics.specs.ShownBounds.{HasIndexPages, ShownTablesAreBounded}
use Rattle.session_parts.specs.declared.hand.Hand.{Hand}
use Rattle.session_parts.specs.declared.hand.Hand.TheVariants as hands
use Rattle.session_parts.specs.declared.hand.Hit.{Hit}
use Rattle.session_parts.specs.declared.hand.Marking.{Marking}
use Rattle.session_parts.specs.declared.hand.Requested.{Requested}
use Rattle.session_parts.specs.HandFits.{FitsHand, IsHandFor}
use Rattle.session_parts.specs.Hands.{HandShows, hits_left, ids_of, statement_of}
use Rattle.session_parts.specs.HandsInTables.{InItsTable, IsCompletingAt, IsDesummariseAt, IsExplainAt, IsMarkingBy, IsScanBy, IsSummariseAt, IsTaskOf}
use Rattle.session_parts.specs.ShowsPlace.{ShowsPlace, ShowsTable}
use Rattle.session_parts.specs.StoreStates.{StoreState, hand_at, shown_of}
use Rattle.session_core.specs.Ending.{GoesWithin}

-- ---- what a statement is at

task_in_bounded : (layout : DiskLayout) (x : Spot) (r : Row) (at : ℕ) (copied : List ℕ) (work : Option InsertHand) (asking : Bool) → IsTaskBounded (inserts.task_in layout x r at copied work asking)
task_in_bounded layout x r at copied None asking = tt
task_in_bounded layout x r at copied (Some hand) true = tt
task_in_bounded layout x r at copied (Some hand) false = tt

insert_bounded : (layout : DiskLayout) (insert : Insert) (place : Option Spot) → IsTaskBounded (inserts.task_at layout insert place)
insert_bounded layout insert None = tt
insert_bounded layout insert (Some x) = task_in_bounded layout x insert.row insert.at insert.copied (inserts.work_of insert) insert.asking

scan_bounded : (layout : DiskLayout) (hand : ScanHand) (beside : Beside) (stage : Stage) → hand.extent ≤ most_blocks → IsTaskBounded (scans.task_of layout stage hand beside)
scan_bounded layout hand beside stages.Extent low = tt
scan_bounded layout hand beside (stages.Map at range) low = low
scan_bounded layout hand beside (stages.Tuple at range spot) low = low
scan_bounded layout hand beside stages.Judged low = low

first_bounded : (wish : Wish) (at : ℕ) → IsTaskBounded (summarises.before_first wish at)
first_bounded wishes.New at = tt
first_bounded (wishes.Block block) at = tt
first_bounded wishes.Complete at = tt

next_bounded : (at left : ℕ) → IsTaskBounded (summarises.next_index at left)
next_bounded at zero = tt
next_bounded at (suc left) = tt

last_bounded : (wish : Wish) (at left : ℕ) → IsTaskBounded (summarises.behind_last wish at left)
last_bounded wishes.New at left = tt
last_bounded (wishes.Block block) at left = tt
last_bounded wishes.Complete at left = next_bounded at left

summarise_bounded : (layout : DiskLayout) (at : ℕ) (a : SummariseState) (standing : Standing) → IsTaskBounded (summarises.task_at layout at a standing)
summarise_bounded layout at a standings.Begins = first_bounded a.wish at
summarise_bounded layout at a standings.AtRange = tt
summarise_bounded layout at a standings.Done = last_bounded a.wish at (summarises.indexes_left layout a.index at)

done_bounded : (count : ℕ) → IsTaskBounded (vacuums.task_done count)
done_bounded zero = tt
done_bounded (suc n) = tt

cleaning_bounded : (a : VacuumState) (standing : CleaningStanding) → IsTaskBounded (vacuums.task_at a standing)
cleaning_bounded a cleaning_standings.Begins = tt
cleaning_bounded a (cleaning_standings.Prunes block) = tt
cleaning_bounded a (cleaning_standings.Sweeps at block) = tt
cleaning_bounded a cleaning_standings.Done = done_bounded (length a.indexes)

desummarise_bounded : (at range : ℕ) (stage : DesummariseStage) → IsTaskBounded (desummarises.task_at at range stage)
desummarise_bounded at range desummarise_stages.Right = tt
desummarise_bounded at range desummarise_stages.Map = tt
desummarise_bounded at range (desummarise_stages.Clear x) = tt
desummarise_bounded at range (desummarise_stages.Drop x) = tt
desummarise_bounded at range desummarise_stages.Lacked = tt
desummarise_bounded at range desummarise_stages.Cleared = tt

-- in its own table, or at nothing in another one
in_its_table : (own table : ℕ) (Here : Type 0) (task : Task) → InItsTable own table Here task → (Here → IsTaskBounded task) → IsTaskBounded task
in_its_table own table Here task is so = elim (cases_eq own table) [
  | inl same ↦ so (is.0 same)
  | inr other ↦ subst IsTaskBounded (sym (is.1 other)) tt
]

low_enough : (a b c : ℕ) → a ≤ b → b ≡ c → c ≤ 131072 → a ≤ 131072
low_enough a b c le same few = omega arith

-- the list of what is left to mark is no longer than one in memory
few_left : (marking : Marking) → length (ids_of (hits_left marking)) < 2 ^ 63
few_left marking =
    omega (arith, length-map (drop marking.next marking.hits.items) (λ (h : Hit). h.id), length-drop marking.next marking.hits.items, marking.hits.ok, marking.hits.small)

module _ (layout : DiskLayout) (sizes : HasBoundedSizes layout) (table : ℕ) (blocks : List (List Slot)) (tx : TxState) (stored : List Status) (own : Option Open) where
  extent_low : (hand : ScanHand) → IsScanOf layout hand → IsHand hand → hand.extent ≤ most_blocks
  extent_low hand of goes = low_enough hand.extent (length hand.candidates) layout.sizes.heap_blocks goes.extent of.room sizes.few_heap_blocks

  find_bounded : (transaction : Option Open) (deletes : Bool) (hand : FindHand) (task : Task) → IsScanOf layout hand.judging → IsHand hand.judging → IsScanBy layout blocks tx stored transaction deletes hand task
      → IsTaskBounded task
  find_bounded None deletes hand task of goes is = absurd is
  find_bounded (Some o) deletes hand task of goes is =
      subst IsTaskBounded (sym is.task_is) (scan_bounded layout hand.judging (scanning is.sees is.judged deletes hand) hand.judging.stage (extent_low hand.judging of goes))

  marks_bounded : (transaction : Option Open) (marking : Marking) (task : Task) → IsMarkingBy tx stored transaction blocks marking task → IsTaskBounded task
  marks_bounded None marking task is = absurd is
  marks_bounded (Some o) marking task is = subst IsTaskBounded (sym is.task_is) (few_left marking)

  task_bounded : (hand : Hand) (task : Task) → IsHandFor layout own hand → GoesWithin hand → IsTaskOf layout table blocks tx stored own (Some hand) task → IsTaskBounded task
  task_bounded (hands.Begins numbers) task fit goes is = subst IsTaskBounded (sym is) tt
  task_bounded hands.Commits task fit goes is = subst IsTaskBounded (sym is) tt
  task_bounded hands.RollsBack task fit goes is = subst IsTaskBounded (sym is) tt
  task_bounded (hands.Puts into values) task fit goes is = subst IsTaskBounded (sym is) tt
  task_bounded (hands.Inserts insert) task fit goes is =
      in_its_table insert.row.table table (task ≡ inserts.task_of layout insert) task is (λ here. subst IsTaskBounded (sym here) (insert_bounded layout insert insert.place))
  task_bounded (hands.Selecting query) task fit goes is = subst IsTaskBounded (sym is) tt
  task_bounded (hands.Selects scan) task fit goes is =
      in_its_table scan.judging.query.table table (IsScanBy layout blocks tx stored own false scan task) task is (λ here. find_bounded own false scan task fit.1.judging goes here)
  task_bounded (hands.Deleting query) task fit goes is = subst IsTaskBounded (sym is) tt
  task_bounded (hands.Deletes scan) task fit goes is =
      in_its_table scan.judging.query.table table (IsScanBy layout blocks tx stored own true scan task) task is (λ here. find_bounded own true scan task fit.1.judging goes here)
  task_bounded (hands.Marks marking) task fit goes is =
      in_its_table marking.query.table table (IsMarkingBy tx stored own blocks marking task) task is (λ here. marks_bounded own marking task here)
  task_bounded (hands.Explains explain) task fit goes is =
      in_its_table explain.judging.query.table table (IsExplainAt layout explain.judging task) task is
      (λ here. subst IsTaskBounded (sym here.1) (scan_bounded layout explain.judging (explaining here.0) explain.judging.stage (extent_low explain.judging fit.0 goes)))
  task_bounded (hands.Summarises a) task fit goes is =
      in_its_table (index_at layout a.index).table table (IsSummariseAt layout a task) task is (λ here. subst IsTaskBounded (sym here.2) (summarise_bounded layout here.0 a a.standing))
  task_bounded (hands.Desummarises a) task fit goes is =
      in_its_table (index_at layout a.index).table table (IsDesummariseAt layout a task) task is (λ here. subst IsTaskBounded (sym here.2) (desummarise_bounded here.0 (range_of layout a) a.stage))
  task_bounded (hands.Cleans c) task fit goes is =
      in_its_table c.vacuum.table table (task ≡ vacuums.task_of c.vacuum) task is (λ here. subst IsTaskBounded (sym here) (cleaning_bounded c.vacuum c.vacuum.standing))
  task_bounded (hands.Completes c) task fit goes is =
      in_its_table c.table table (IsCompletingAt layout c task) task is (λ here. subst IsTaskBounded (sym here.2) (summarise_bounded layout c.next here.0 here.0.standing))
  task_bounded hands.Working task fit goes is = subst IsTaskBounded (sym is) tt
  task_bounded (hands.Works r) task fit goes is =
      in_its_table (index_at layout r.summarise.index).table table (IsSummariseAt layout r.summarise task) task is
      (λ here. subst IsTaskBounded (sym here.2) (summarise_bounded layout here.0 r.summarise r.summarise.standing))

-- ---- in which table

below : (i n m : ℕ) → i ≡ n → n < m → i < m
below i n m is less = subst (λ k. k < m) (sym is) less

-- the table of a summary that is asked for is one of the layout
asked_below : (layout : DiskLayout) (request : ℕ × ℕ) (asked : Asked) → KeepsLimits layout.schema layout.sizes → IsRequestOf layout request asked → asked.table < length layout.schema.tables
unfolding indexes_of
asked_below layout request asked limits of =
    let counted = is_counted asked.table 0 layout.schema.indexes asked.at request.0 of.there in
    subst (λ (k : ℕ). k < length layout.schema.tables) counted.of (its_table layout counted.by counted.below limits)

first_below : (layout : DiskLayout) (requests : List (ℕ × ℕ)) (queue : List Asked) (asked : Asked) → KeepsLimits layout.schema layout.sizes → AreRequestsOf layout requests queue → slice_get queue 0 ≡ Some asked
    → asked.table < length layout.schema.tables
first_below layout _ _ asked limits NoRequests first = absurd (none-some asked first)
first_below layout _ _ asked limits (OneMoreRequest request one requests more of rest) first =
    subst (λ (a : Asked). a.table < length layout.schema.tables) (same_Some one asked first) (asked_below layout request one limits of)

module _ (layout : DiskLayout) (limits : KeepsLimits layout.schema layout.sizes) (p : Place) (n : ℕ) (same : p.layout ≡ layout) (requests : List (ℕ × ℕ)) (queue : AreRequestsOf layout requests p.queue) where
  work_below : (i : ℕ) → IsWorkIn p n i → i < length layout.schema.tables
  work_below i (inl (less, at_work)) = subst (λ (d : DiskLayout). i < length d.schema.tables) same less
  work_below i (inr (rest, (asked, first, is))) = subst (λ (k : ℕ). k < length layout.schema.tables) is (first_below layout requests p.queue asked limits queue first)

  -- work is in one table, where it is at a step in no more than one
  one_by_steps : ((i j : ℕ) → i < length layout.schema.tables → j < length layout.schema.tables → (p.tables i).task n ≢ Resting → (p.tables j).task n ≢ Resting → j ≡ i)
      → IsInOneTable p n statements.Work
  one_by_steps steps i j on on' = (subst (λ (d : DiskLayout). i < length d.schema.tables) (sym same) (work_below i on), alike on on')
    where
      of : (k : ℕ) → k < length p.layout.schema.tables → k < length layout.schema.tables
      of k less = subst (λ (d : DiskLayout). k < length d.schema.tables) same less

      alike : IsWorkIn p n i → IsWorkIn p n j → j ≡ i
      alike (inl (less, at_work)) (inl (less', at_work')) = steps i j (of i less) (of j less') at_work at_work'
      alike (inl (less, at_work)) (inr (rest, asked)) = absurd (at_work (rest i less))
      alike (inr (rest, asked)) (inl (less, at_work)) = absurd (at_work (rest j less))
      alike (inr (rest, (asked, first, is))) (inr (rest', (asked', first', is'))) = sym is' ∙ ap (λ (a : Asked). a.table) (same_Some asked' asked (sym first' ∙ first)) ∙ is

  table_below : (i : ℕ) (own : Option Open) (hand : Hand) → IsHandFor layout own hand → IsIn p n (statement_of hand) i → i < length layout.schema.tables
  table_below i own (hands.Begins numbers) fit on = absurd on
  table_below i own hands.Commits fit on = absurd on
  table_below i own hands.RollsBack fit on = absurd on
  table_below i own (hands.Puts into values) fit on = below i into _ on fit.1
  table_below i own (hands.Inserts insert) fit on = below i insert.row.table _ on fit.1.table
  table_below i own (hands.Selecting query) fit on = below i query.table _ on fit.1
  table_below i own (hands.Selects scan) fit on = below i scan.judging.query.table _ on fit.1.judging.table
  table_below i own (hands.Deleting query) fit on = below i query.table _ on fit.1
  table_below i own (hands.Deletes scan) fit on = below i scan.judging.query.table _ on fit.1.judging.table
  table_below i own (hands.Marks marking) fit on = below i marking.query.table _ on fit.1.table
  table_below i own (hands.Explains explain) fit on = below i explain.judging.query.table _ on fit.0.table
  table_below i own (hands.Summarises a) fit on =
      below i (index_at layout a.index).table _ (on ∙ ap (λ (d : DiskLayout). (index_at d a.index).table) same) (its_table layout a.index fit.0.index limits)
  table_below i own (hands.Desummarises a) fit on =
      below i (index_at layout a.index).table _ (on ∙ ap (λ (d : DiskLayout). (index_at d a.index).table) same) (its_table layout a.index fit.0.index limits)
  table_below i own (hands.Cleans c) fit on = below i c.vacuum.table _ on fit.vacuum.table
  table_below i own (hands.Completes c) fit on = below i c.table _ on fit.table
  table_below i own hands.Working fit on = work_below i on
  table_below i own (hands.Works r) fit on = work_below i on

-- ---- at each place that is shown

module _ {D : Type 0} (s : StoreState D) (n : ℕ) (limits : KeepsLimits s.pages.layout.schema s.pages.layout.sizes) (sizes : HasBoundedSizes s.pages.layout) (index_pages : HasIndexPages s.pages.layout s.pages.pages)
    (bounded : ShownTablesAreBounded) (p : Place) (shown : ShowsPlace s p) where
  abbrev own : Option Open
  own = transaction_of s.transactions.opens n

  -- what it is at in a table that is shown
  at_table : (i : ℕ) (st : ShowsTable (shown_of s) shown.database.stored i (p.tables i)) → (p.tables i).task n ≡ st.unseen.task n
  at_table i st = ap (λ (w : TableState). w.task n) st.shown

  task_shown : (hand : Hand) → hand_at s n ≡ Some hand → (i : ℕ) (st : ShowsTable (shown_of s) shown.database.stored i (p.tables i))
      → IsTaskOf s.pages.layout i st.blocks s.transactions.tx shown.database.stored own (Some hand) (st.unseen.task n)
  task_shown hand is i st = subst (λ (h : Option Hand). IsTaskOf s.pages.layout i st.blocks s.transactions.tx shown.database.stored own h (st.unseen.task n)) is (st.tasks n)

  shown_below : (hand : Hand) → IsHandFor s.pages.layout own hand → (i : ℕ) → IsIn p n (statement_of hand) i → i < length s.pages.layout.schema.tables
  shown_below hand fit i on = table_below s.pages.layout limits p n shown.layout s.queue shown.queue i own hand fit on

  -- work before its first step is at none, and behind it in the table of its request
  working : hand_at s n ≡ Some hands.Working → IsInOneTable p n statements.Work
  working is = one_by_steps s.pages.layout limits p n shown.layout s.queue shown.queue (λ i j less less' at_work at_work'.
      let st = shown.tables i less in
      absurd (at_work (at_table i st ∙ task_shown hands.Working is i st)))

  works : (r : Requested) → hand_at s n ≡ Some (hands.Works r) → IsInOneTable p n statements.Work
  works r is = one_by_steps s.pages.layout limits p n shown.layout s.queue shown.queue (λ i j less less' at_work at_work'. sym (here j less' at_work') ∙ here i less at_work)
    where
      here : (i : ℕ) → i < length s.pages.layout.schema.tables → (p.tables i).task n ≢ Resting → (index_at s.pages.layout r.summarise.index).table ≡ i
      here i less at_work = elim (cases_eq (index_at s.pages.layout r.summarise.index).table i) [
        | inl same ↦ same
        | inr other ↦ let st = shown.tables i less in absurd (at_work (at_table i st ∙ (task_shown (hands.Works r) is i st).1 other))
      ]

  in_one : (hand : Hand) → hand_at s n ≡ Some hand → IsInOneTable p n (statement_of hand)
  in_one (hands.Begins numbers) is = tt
  in_one hands.Commits is = tt
  in_one hands.RollsBack is = tt
  in_one (hands.Puts into values) is = tt
  in_one (hands.Inserts insert) is = tt
  in_one (hands.Selecting query) is = tt
  in_one (hands.Selects scan) is = tt
  in_one (hands.Deleting query) is = tt
  in_one (hands.Deletes scan) is = tt
  in_one (hands.Marks marking) is = tt
  in_one (hands.Explains explain) is = tt
  in_one (hands.Summarises a) is = tt
  in_one (hands.Desummarises a) is = tt
  in_one (hands.Cleans c) is = tt
  in_one (hands.Completes c) is = tt
  in_one hands.Working is = working is
  in_one (hands.Works r) is = works r is

  there : (hand : Hand) → hand_at s n ≡ Some hand → IsHandFor s.pages.layout own hand → GoesWithin hand → IsBoundedAt p n (statement_of hand)
  there hand is fit goes =
      let shows = λ (i : ℕ) (on : IsIn p n (statement_of hand) i). shown.tables i (shown_below hand fit i on) in
      record {
        one_table = in_one hand is;
        kept = λ i on. (shows i on).kept;
        bounded = λ i on.
            let st = shows i on in
            subst IsBounded (sym st.shown) (bounded s.pages.layout s.pages.pages s.locks i st.blocks st.unseen limits index_pages (shown_below hand fit i on) st.has);
        task = λ i on.
            let st = shows i on in
            subst IsTaskBounded (sym (at_table i st))
            (task_bounded s.pages.layout sizes i st.blocks s.transactions.tx shown.database.stored own hand (st.unseen.task n) fit goes (task_shown hand is i st));
      }

  by_hand : (in_hand : Option Hand) → hand_at s n ≡ in_hand → FitsHand s.pages.layout own in_hand → IfSome in_hand GoesWithin → (at : HandAt) → p.hands n ≡ Some at → HandShows in_hand (p.hands n) (p.accounts n)
      → IsBoundedAt p n at.statement
  by_hand None is fit goes at has shows = absurd (none-some at (sym shows ∙ has))
  by_hand (Some hand) is fit goes at has shows =
      subst (λ (statement : Statement). IsBoundedAt p n statement) (sym (ap (λ (h : HandAt). h.statement) (same_Some _ _ (sym has ∙ shows.1)) ∙ shows.2)) (there hand is fit goes)

  pub ends_at : FitsHand s.pages.layout own (hand_at s n) → IfSome (hand_at s n) GoesWithin → (at : HandAt) → p.hands n ≡ Some at → IsBoundedAt p n at.statement
  ends_at fit goes at has = by_hand (hand_at s n) refl fit goes at has (shown.hands n)
