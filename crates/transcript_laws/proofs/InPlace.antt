-- Wherever a script comes, the answers of a statement in hand are in place, and one that is no insert has dropped nothing.
use Rattle.std.proofs.Common.{◌≡◌, ◌≢◌, ◌⊎◌, inl, inr, ℕ, ◌<◌, List, [], ◌∷◌, ◌++◌, length, Option, None, Some, refl, sym, ap, subst, ◌∙◌}
use Rattle.std.proofs.lemmas.Bool.{cases_eq}
use Rattle.std.proofs.lemmas.Option.{none-some, same_Some, slice_get_within}
use Rattle.block_model.specs.declared.reply.Point.{Point}
use Rattle.block_model.specs.declared.reply.Point.TheVariants as points
use Rattle.block_model.specs.declared.reply.Refusal.{Refusal}
use Rattle.block_model.specs.declared.reply.Reply.{Reply}
use Rattle.block_model.specs.declared.request.Entry.{Entry}
use Rattle.block_model.specs.declared.row.Query.{Query}
use Rattle.block_model.specs.declared.value.Value.{Value}
use Rattle.block_model.specs.DatabaseState.{DatabaseState}
use Rattle.block_model.specs.RequestEffect.{Answer}
use Rattle.store_layout.specs.declared.statement.Statement.{Statement}
use Rattle.store_layout.specs.declared.statement.Statement.TheVariants as statements
use Rattle.store_layout.specs.DiskLayout.{DiskLayout}
use Rattle.store_layout.specs.FirstBrokenRule.{KeepsLimits}
use Rattle.store_layout.specs.StatementFits.{IsStatementFor}
use Rattle.coverage.specs.Accounts as accounts
use Rattle.coverage.specs.Accounts.{Account, Accounts, Adds, Asked, no_account}
use Rattle.coverage.specs.GoingOn.{IsInserting}
use Rattle.coverage.specs.Refusals as causes
use Rattle.coverage.specs.Refusals.{does_refusal}
use Rattle.coverage.specs.Table.{Resting, TableState, Task}
use Rattle.coverage.specs.TablePoints.{does_point}
use Rattle.coverage.specs.TableSteps.{AsksSummary, BeginsScan, BeginsWith, Blocked, Conflicts, Desummarize, Does, InsertCompletes, InsertGoes, Judges, MaintainCompletes, MaintainGoes, MarksRow, PrunesBlock, PutsRow, ReadsBlock, RefusesInsert}
use Rattle.coverage.specs.TableSteps.{RefusesMaintain, RefusesRow, RefusesScan, RefusesVacuum, RestartsIndex, Summarize, SummarizeOne, SweepsPage, TakesLock, Transacts, Vacuum, Work}
use Rattle.script_semantics.specs.Beginnings.{Begins}
use Rattle.script_semantics.specs.LineTexts.{NotTaken, Submits, Taken, WantsMemory, dropped_at, with_statement}
use Rattle.script_semantics.specs.Names.{dropped_of}
use Rattle.script_semantics.specs.Place.{Hand, Place, accounts_at, new_hand}
use Rattle.script_semantics.specs.Requests.{Course, Enters, First, Further, MakesMark, MakesOne}
use Rattle.script_semantics.specs.RequestSteps.{AnswersFit, IsAnsweredInPlace, IsMarking}
use Rattle.script_semantics.specs.StatementSteps.{AtOnce, Ended, GoesOn, IsInsert, IsRefused, IsWaiting, LacksMemoryAtOnce, MakesAt, MeetsConflict, NoNumber, NothingAsked, Outcome, Replies, StepsTo, course_of}
use Rattle.script_semantics.specs.Turns.{Leads, Recounts, TablesStay, Turn, point_of}
use Rattle.script_semantics.proofs.RowTurns.{row_is_insert}
use Rattle.script_laws.specs.Reached.{AtOpening, AtStart, BehindNames, BehindStep, BehindSubmit, IsReached}
use Rattle.script_laws.proofs.Fits.{in_below}
use Rattle.script_laws.proofs.Orderly.{IsOrderly, Tells, recounted_task, settles_rests, step_others}
use Rattle.script_laws.proofs.Reaching.{nothing_first}
use Rattle.script_laws.proofs.Selects.{reached_is_fresh}
use Rattle.transcript_laws.proofs.Events.{updated_here, updated_there}
use Rattle.transcript_laws.proofs.Tasks.{Goes, HasRow, IsOfScan, IsScanning, MarksOne, ScanStep, marks_of_scan, row_comes, row_settles, row_stays, scan_steps, settles_inserting, settles_marks, settles_scan}

-- ---- answers that a step adds

append_some : (answers : List Answer) (a : Answer) → answers ++ a ∷ [] ≡ [] → ⊥
append_some [] a e = cc
append_some (first ∷ answers) a e = cc

one_some : (opening : DatabaseState) (n : ℕ) (statement : Statement) (c d : Course) → MakesOne opening n statement c d → d.answers ≢ []
one_some opening n statement c _ (Enters e is) = append_some c.answers _

mark_some : (opening : DatabaseState) (n : ℕ) (statement : Statement) (c f : Course) → MakesMark opening n statement c f → f.answers ≢ []
mark_some opening n statement c _ (First d f none one two) = one_some opening n statement d f two
mark_some opening n statement c _ (Further first more d is one) = one_some opening n statement c d one

module _ (p : Place) (n : ℕ) (hand : Hand) (c : Course) where
  still_some : (point : Point) → MakesAt point p n hand c → hand.answers ≢ [] → c.answers ≢ []
  still_some points.Row makes some = one_some p.opening n hand.statement (course_of p hand) c makes
  still_some points.Mark makes some = mark_some p.opening n hand.statement (course_of p hand) c makes.0
  still_some point makes some = λ none. some (sym (ap (λ (d : Course). d.answers) makes) ∙ none)

  row_some : (point : Point) → point ≡ points.Row → MakesAt point p n hand c → c.answers ≢ []
  row_some point is makes = one_some p.opening n hand.statement (course_of p hand) c (subst (λ r. MakesAt r p n hand c) is makes)

  mark_then : (point : Point) → point ≡ points.Mark → MakesAt point p n hand c → c.answers ≢ []
  mark_then point is makes = mark_some p.opening n hand.statement (course_of p hand) c (subst (λ r. MakesAt r p n hand c) is makes).0

  same_answers : (point : Point) → (point ≡ points.Row → ⊥) → (point ≡ points.Mark → ⊥) → MakesAt point p n hand c → c.answers ≡ hand.answers
  same_answers points.Row row mark makes = absurd (row refl)
  same_answers points.Mark row mark makes = absurd (mark refl)
  same_answers point row mark makes = ap (λ (d : Course). d.answers) makes

-- ---- requests that a step drops

abbrev dropped_in : Account → List Asked
dropped_in account = account.dropped

lock_drops : (s : ℕ) (w : TableState) (first : Task) (begins : BeginsWith w first) (a c : Accounts) → accounts.Begins s w first begins a c → dropped_in (c.of s) ≡ []
lock_drops s w _ (Work at only below) a c adds = ap dropped_in adds.0
lock_drops s w _ (Summarize at below) a c adds = ap dropped_in adds.account
lock_drops s w _ (SummarizeOne at only below) a c adds = ap dropped_in adds.account
lock_drops s w _ (Desummarize at only below) a c adds = ap dropped_in adds.account
lock_drops s w _ Vacuum a c adds = ap dropped_in adds.account

abbrev IsNamed : (s : ℕ) (w v : TableState) → Does s w v → Type 0
IsNamed s w v does = ((point : Point) × (does_point s w v does ≡ Some point)) ⊎ ((why : causes.Refusal) × (does_refusal s w v does ≡ Some why))

no_name : {A : Type 0} → ((point : Point) × (None ≡ Some point)) ⊎ ((why : causes.Refusal) × (None ≡ Some why)) → A
no_name (inl named) = absurd (none-some _ named.1)
no_name (inr named) = absurd (none-some _ named.1)

-- only an insert that has put its row drops a request
none_dropped : (s : ℕ) (w v : TableState) (does : Does s w v) (a c : Accounts) → IsNamed s w v does → (HasRow (w.task s) → ⊥) → dropped_in (a.of s) ≡ [] → Adds s w v does a c → dropped_in (c.of s) ≡ []
none_dropped s w v (PutsRow b k r place turns takes) a c named bare none adds = ap dropped_in adds.account
none_dropped s w v (RefusesRow t refused turns fails) a c named bare none adds = ap dropped_in adds.account
none_dropped s w v (AsksSummary b k r at turns only) a c named bare none adds = absurd (bare (subst HasRow (sym turns.was) tt))
none_dropped s w v (InsertGoes b k r at old new turns stepped step) a c named bare none adds = ap dropped_in adds.account ∙ none
none_dropped s w v (InsertCompletes b k r at old turns stepped step) a c named bare none adds = ap dropped_in adds.account ∙ none
none_dropped s w v (RefusesInsert b k r old refused turns fails) a c named bare none adds = ap dropped_in adds.account ∙ none
none_dropped s w v (TakesLock first begins turns free held rows indexes) a c named bare none adds = lock_drops s w first begins a c adds
none_dropped s w v (MaintainGoes job at range old new turns stepped step) a c named bare none adds = ap dropped_in adds.account ∙ none
none_dropped s w v (MaintainCompletes job at range old turns stepped step) a c named bare none adds = ap dropped_in adds.account ∙ none
none_dropped s w v (RefusesMaintain job at range phase refused turns stepped passes) a c named bare none adds = ap dropped_in adds.account ∙ none
none_dropped s w v (RefusesVacuum old vacuuming turns given rows indexes) a c named bare none adds = ap dropped_in adds.account ∙ none
none_dropped s w v (PrunesBlock extent next dropped inside spared turns drops) a c named bare none adds = ap dropped_in adds.2.account ∙ none
none_dropped s w v (SweepsPage at page turns stepped sweeps) a c named bare none adds = ap dropped_in adds.2.account ∙ none
none_dropped s w v (RestartsIndex at turns only) a c named bare none adds = ap dropped_in adds.account ∙ none
none_dropped s w v (BeginsScan scan begins turns only) a c named bare none adds = ap dropped_in adds.account
none_dropped s w v (Judges old new inside low step turns only) a c named bare none adds = ap dropped_in adds.account ∙ none
none_dropped s w v (ReadsBlock scan next found reads turns only) a c named bare none adds = ap dropped_in adds.account ∙ none
none_dropped s w v (RefusesScan scan t turns how) a c named bare none adds = ap dropped_in adds.account ∙ none
none_dropped s w v (MarksRow scan id rest turns only) a c named bare none adds = ap dropped_in adds.account ∙ none
none_dropped s w v (Conflicts scan id rest t turns fails) a c named bare none adds = ap dropped_in adds.account ∙ none
none_dropped s w v (Blocked task blocked turns only) a c named bare none adds = ap dropped_in adds.account ∙ none
none_dropped s w v (Transacts counts resting few same) a c named bare none adds = no_name named

-- ---- what holds of a statement in hand

-- the answers fit; a delete is at nothing, its scan or its marks; and one that is no insert has put no row and dropped nothing
pub record StandsIn (layout : DiskLayout) (p : Place) (n : ℕ) (hand : Hand) : Type 0 where
  pub answers : IsAnsweredInPlace p n hand
  pub scans : (query : Query) → hand.statement ≡ statements.Delete query → IsOfScan ((p.tables query.table).task n)
  pub drops : IsInsert hand.statement ⊎ ((IsInsert hand.statement → ⊥) × (dropped_in (p.accounts n) ≡ []) × ((i : ℕ) → i < length layout.schema.tables → HasRow ((p.tables i).task n) → ⊥))

abbrev pub AllStand : DiskLayout → Place → Type 0
AllStand layout p = (n : ℕ) (hand : Hand) → p.hands n ≡ Some hand → StandsIn layout p n hand

-- ---- another session's step

record IsUntouched (p q : Place) (m : ℕ) : Type 0 where
  layout : q.layout ≡ p.layout
  tasks : (i : ℕ) → (q.tables i).task m ≡ (p.tables i).task m
  account : q.accounts m ≡ p.accounts m

fits_still : (p q : Place) (m : ℕ) (answers : List Answer) (statement : Statement) → IsUntouched p q m → AnswersFit p m answers statement → AnswersFit q m answers statement
fits_still p q m answers (statements.Insert table values) u (inl new) = inl (new.0, u.tasks table ∙ new.1)
fits_still p q m answers (statements.Insert table values) u (inr put) = inr (put.0, subst IsInserting (sym (u.tasks table)) put.1)
fits_still p q m answers (statements.Select query) u none = none
fits_still p q m answers (statements.Delete query) u (inl none) = inl none
fits_still p q m answers (statements.Delete query) u (inr marks) =
    inr (subst (λ (l : DiskLayout). query.table < length l.schema.tables) (sym u.layout) marks.0, subst IsMarking (sym (u.tasks query.table)) marks.1)
fits_still p q m answers statement u fit = tt

stands_still : (layout : DiskLayout) (p q : Place) (m : ℕ) (hand : Hand) → IsUntouched p q m → StandsIn layout p m hand → StandsIn layout q m hand
stands_still layout p q m hand u stands = record {
  answers = fits_still p q m hand.answers hand.statement u stands.answers;
  scans = λ query is. subst IsOfScan (sym (u.tasks query.table)) (stands.scans query is);
  drops = elim stands.drops [
    | inl insert ↦ inl insert
    | inr none ↦ inr (none.0, ap dropped_in u.account ∙ none.1, λ i below has. none.2 i below (subst HasRow (u.tasks i) has))
  ];
}

module _ (p q : Place) (n m : ℕ) (apart : m ≢ n) (same : q.layout ≡ p.layout) where
  by_turn : (statement : Statement) (turn : Turn p n statement q) → IsUntouched p q m
  by_turn statement turn = record {
    layout = same;
    tasks = λ i. elim (turn.others i) [
      | inl is ↦ subst (λ j. (q.tables j).task m ≡ (p.tables j).task m) (sym is) (step_others n (p.tables turn.table) (q.tables turn.table) m apart turn.step)
      | inr again ↦ recounted_task (p.tables i) (q.tables i) m again
    ];
    account = elim (turn.accounts.others m) [ inl is ↦ absurd (apart is) | inr is ↦ is ];
  }

  by_rest : TablesStay p q → IsUntouched p q m
  by_rest stay = record { layout = same; tasks = λ i. recounted_task (p.tables i) (q.tables i) m (stay.tables i); account = ap (λ (f : ℕ → Account). f m) stay.accounts }

-- ---- a step of the session itself, behind which its statement goes on

module _ (layout : DiskLayout) (p q : Place) (n : ℕ) (point : Point) (c : Course) where
  -- an insert
  insert_goes : (answers : List Answer) (statement : Statement) (turn : Turn p n statement q) (table : ℕ) → turn.table ≡ table → IsInsert statement → point_of turn ≡ Some point → (q.tables turn.table).task n ≢ Resting
      → MakesAt point p n (record { statement = statement; answers = answers }) c → ((p.tables turn.table).task n ≡ Resting → HasRow (turn.step.between.task n) ⊎ (turn.step.between.task n ≡ Resting))
      → ((answers ≡ []) × ((p.tables table).task n ≡ Resting)) ⊎ ((answers ≢ []) × IsInserting ((p.tables table).task n)) → (c.answers ≢ []) × IsInserting ((q.tables table).task n)
  insert_goes answers statement turn table on insert named busy makes begins fit = by fit
    where
      w : TableState
      w = p.tables turn.table

      settled : HasRow (turn.step.between.task n) → IsInserting ((q.tables table).task n)
      settled has = subst (λ i. IsInserting ((q.tables i).task n)) on
          (elim (settles_inserting n turn.step.between (q.tables turn.table) has turn.step.settles) [ inl is ↦ is | inr rests ↦ absurd (busy rests) ])

      rested : {A : Type 0} → turn.step.between.task n ≡ Resting → A
      rested is = absurd (busy (settles_rests n turn.step.between (q.tables turn.table) is turn.step.settles))

      row_point : (p.tables turn.table).task n ≡ Resting → HasRow (turn.step.between.task n) → point ≡ points.Row
      row_point rests has =
          elim (row_comes n (p.tables turn.table) turn.step.between turn.step.does has) [ inl was ↦ absurd (subst HasRow rests was) | inr row ↦ same_Some _ _ (sym named ∙ row) ]

      first : (rests : (p.tables turn.table).task n ≡ Resting) → HasRow (turn.step.between.task n) ⊎ (turn.step.between.task n ≡ Resting) → (c.answers ≢ []) × IsInserting ((q.tables table).task n)
      first rests (inl has) = (row_some p n (record { statement = statement; answers = answers }) c point (row_point rests has) makes, settled has)
      first rests (inr is) = rested is

      by : ((answers ≡ []) × ((p.tables table).task n ≡ Resting)) ⊎ ((answers ≢ []) × IsInserting ((p.tables table).task n)) → (c.answers ≢ []) × IsInserting ((q.tables table).task n)
      by (inl new) = let rests : (p.tables turn.table).task n ≡ Resting = ap (λ i. (p.tables i).task n) on ∙ new.1 in first rests (begins rests)
      by (inr put) = (
        still_some p n (record { statement = statement; answers = answers }) c point makes put.0,
        elim (row_stays n (p.tables turn.table) turn.step.between turn.step.does (subst (λ i. IsInserting ((p.tables i).task n)) (sym on) put.1)) [ inl has ↦ settled has | inr is ↦ rested is ],
      )

  insert_begins : (table : ℕ) (values : List Value) (turn : Turn p n (statements.Insert table values) q) → (p.tables turn.table).task n ≡ Resting
      → HasRow (turn.step.between.task n) ⊎ (turn.step.between.task n ≡ Resting)
  insert_begins table values turn rests = by turn.own
    where
      by : ((p.tables turn.table).task n ≢ Resting) ⊎ Begins p n (p.tables turn.table) (statements.Insert table values) (turn.step.between.task n) → HasRow (turn.step.between.task n) ⊎ (turn.step.between.task n ≡ Resting)
      by (inl busy) = absurd (busy rests)
      by (inr (inl is)) = inr is
      by (inr (inr reaches)) = inl (subst HasRow (sym reaches.4) tt)

  -- a delete
  delete_begins : (query : Query) (turn : Turn p n (statements.Delete query) q) → (p.tables turn.table).task n ≡ Resting → IsScanning (turn.step.between.task n)
  delete_begins query turn rests = by turn.own
    where
      by : ((p.tables turn.table).task n ≢ Resting) ⊎ Begins p n (p.tables turn.table) (statements.Delete query) (turn.step.between.task n) → IsScanning (turn.step.between.task n)
      by (inl busy) = absurd (busy rests)
      by (inr begins) = subst IsScanning (sym begins.2) tt

  delete_step : (query : Query) (turn : Turn p n (statements.Delete query) q) → point_of turn ≡ Some point → IsOfScan ((p.tables query.table).task n)
      → ScanStep ((p.tables turn.table).task n) (turn.step.between.task n) point
  delete_step query turn named of =
      scan_steps n (p.tables turn.table) turn.step.between turn.step.does point (subst (λ i. IsOfScan ((p.tables i).task n)) (sym turn.on) of) (delete_begins query turn) named

  delete_scans : (query : Query) (turn : Turn p n (statements.Delete query) q) → ScanStep ((p.tables turn.table).task n) (turn.step.between.task n) point → IsOfScan ((q.tables query.table).task n)
  delete_scans query turn step = subst (λ i. IsOfScan ((q.tables i).task n)) turn.on (by step)
    where
      by : ScanStep ((p.tables turn.table).task n) (turn.step.between.task n) point → IsOfScan ((q.tables turn.table).task n)
      by (Goes scanning before not) = settles_scan n turn.step.between (q.tables turn.table) scanning turn.step.settles
      by (MarksOne marks is) = elim (settles_marks n turn.step.between (q.tables turn.table) marks turn.step.settles) [ inl still ↦ marks_of_scan _ still | inr rests ↦ subst IsOfScan (sym rests) tt ]

  delete_goes : (query : Query) (answers : List Answer) (turn : Turn p n (statements.Delete query) q) → query.table < length q.layout.schema.tables → point_of turn ≡ Some point → (q.tables turn.table).task n ≢ Resting
      → MakesAt point p n (record { statement = statements.Delete query; answers = answers }) c → AnswersFit p n answers (statements.Delete query)
      → ScanStep ((p.tables turn.table).task n) (turn.step.between.task n) point → AnswersFit q n c.answers (statements.Delete query)
  delete_goes query answers turn below named busy makes (inl none) (Goes scanning before not) =
      inl (same_answers p n (record { statement = statements.Delete query; answers = answers }) c point (λ row. row_is_insert p q n (statements.Delete query) turn (named ∙ ap Some row)) not makes ∙ none)
  delete_goes query answers turn below named busy makes (inr marks) (Goes scanning before not) = absurd (before (subst (λ i. IsMarking ((p.tables i).task n)) (sym turn.on) marks.1))
  delete_goes query answers turn below named busy makes fit (MarksOne marks is) = inr (
    below,
    subst (λ i. IsMarking ((q.tables i).task n)) turn.on
        (elim (settles_marks n turn.step.between (q.tables turn.table) marks turn.step.settles) [ inl still ↦ still | inr rests ↦ absurd (busy rests) ]),
  )

  -- each statement
  fits_goes : (answers : List Answer) (statement : Statement) (turn : Turn p n statement q) → q.layout ≡ layout → IsStatementFor layout.schema statement → point_of turn ≡ Some point
      → (q.tables turn.table).task n ≢ Resting → MakesAt point p n (record { statement = statement; answers = answers }) c → AnswersFit p n answers statement
      → ((query : Query) → statement ≡ statements.Delete query → IsOfScan ((p.tables query.table).task n)) → ((query : Query) → statement ≡ statements.Select query → c.answers ≡ [])
      → AnswersFit q n c.answers statement
  fits_goes answers (statements.Insert table values) turn same fits named busy makes fit scans fresh =
      inr (insert_goes answers (statements.Insert table values) turn table turn.on tt named busy makes (insert_begins table values turn) fit)
  fits_goes answers (statements.Select query) turn same fits named busy makes fit scans fresh = fresh query refl
  fits_goes answers (statements.Delete query) turn same fits named busy makes fit scans fresh =
      delete_goes query answers turn (subst (λ (l : DiskLayout). query.table < length l.schema.tables) (sym same) (slice_get_within layout.schema.tables query.table fits.of fits.table)) named busy makes fit
      (delete_step query turn named (scans query refl))
  fits_goes answers statement turn same fits named busy makes fit scans fresh = tt

  scans_goes : (statement : Statement) (turn : Turn p n statement q) → point_of turn ≡ Some point → ((query : Query) → statement ≡ statements.Delete query → IsOfScan ((p.tables query.table).task n))
      → (query : Query) → statement ≡ statements.Delete query → IsOfScan ((q.tables query.table).task n)
  scans_goes statement turn named scans query is = by statement turn named is (scans query is)
    where
      by : (st : Statement) (turn : Turn p n st q) → point_of turn ≡ Some point → st ≡ statements.Delete query → IsOfScan ((p.tables query.table).task n) → IsOfScan ((q.tables query.table).task n)
      by st turn named is of = subst_turn st is turn named
        where
          subst_turn : (st : Statement) → st ≡ statements.Delete query → (turn : Turn p n st q) → point_of turn ≡ Some point → IsOfScan ((q.tables query.table).task n)
          subst_turn st is = subst (λ s. (turn : Turn p n s q) → point_of turn ≡ Some point → IsOfScan ((q.tables query.table).task n)) (sym is)
              (λ turn named. delete_scans query turn (delete_step query turn named of))

-- ---- what it has dropped

abbrev HasNoRow : DiskLayout → Place → ℕ → Type 0
HasNoRow layout p n = (i : ℕ) → i < length layout.schema.tables → HasRow ((p.tables i).task n) → ⊥

abbrev DropsNone : DiskLayout → Place → ℕ → Statement → Type 0
DropsNone layout p n statement = IsInsert statement ⊎ ((IsInsert statement → ⊥) × (dropped_in (p.accounts n) ≡ []) × HasNoRow layout p n)

-- by where a statement ends
ends_none : (p q : Place) (n : ℕ) (hand : Hand) (reply : Reply) → (TablesStay p q → dropped_in (q.accounts n) ≡ []) → ((turn : Turn p n hand.statement q) → Tells turn → dropped_in (q.accounts n) ≡ [])
    → StepsTo p n hand (Ended reply) q → dropped_in (q.accounts n) ≡ []
ends_none p _ n hand _ stays turns (Replies point c reply q turn named rests all replied leads) = turns turn (inl (point, named))
ends_none p _ n hand _ stays turns (MeetsConflict id c q turn named all replied leads) = turns turn (inr (_, named))
ends_none p _ n hand _ stays turns (IsRefused why tag told q turn named so leads) = turns turn (inr (why, named))
ends_none p _ n hand _ stays turns (AtOnce c reply q once all replied stay leads) = stays stay
ends_none p _ n hand _ stays turns (NothingAsked q work rest empty stay leads) = stays stay
ends_none p _ n hand _ stays turns (LacksMemoryAtOnce q may rest stay leads) = stays stay
ends_none p _ n hand _ stays turns (NoNumber q begin number stay leads) = stays stay

module _ (layout : DiskLayout) (limits : KeepsLimits layout.schema layout.sizes) (p q : Place) (n : ℕ) (hand : Hand) (o : IsOrderly layout p) (has : p.hands n ≡ Some hand) where
  module _ (turn : Turn p n hand.statement q) where
    below_here : turn.table < length layout.schema.tables
    below_here = in_below layout p n turn.table o.same limits o.asked hand.statement (o.fits n hand has) turn.on

    account_then : Tells turn → HasNoRow layout p n → dropped_in (p.accounts n) ≡ [] → dropped_in (q.accounts n) ≡ []
    account_then tells bare none =
        none_dropped n (p.tables turn.table) turn.step.between turn.step.does (accounts_at p turn.table) (accounts_at q turn.table) tells (bare turn.table below_here) none turn.accounts.adds

    no_row_then : (IsInsert hand.statement → ⊥) → HasNoRow layout p n → HasNoRow layout q n
    no_row_then not bare i below row = by (turn.others i)
      where
        by : (i ≡ turn.table) ⊎ Recounts (p.tables i) (q.tables i) → ⊥
        by (inl is) =
            elim (row_comes n (p.tables turn.table) turn.step.between turn.step.does (row_settles n turn.step.between (q.tables turn.table) turn.step.settles (subst (λ j. HasRow ((q.tables j).task n)) is row))) [
              | inl was ↦ bare turn.table below_here was
              | inr named ↦ not (row_is_insert p q n hand.statement turn named)
            ]
        by (inr again) = bare i below (subst HasRow (recounted_task (p.tables i) (q.tables i) n again) row)

    drops_goes : Tells turn → DropsNone layout p n hand.statement → DropsNone layout q n hand.statement
    drops_goes tells (inl insert) = inl insert
    drops_goes tells (inr none) = inr (none.0, account_then tells none.2 none.1, no_row_then none.0 none.2)

  -- where a statement ends
  ends_dropped : (reply : Reply) → DropsNone layout p n hand.statement → StepsTo p n hand (Ended reply) q → IsInsert hand.statement ⊎ (dropped_in (q.accounts n) ≡ [])
  ends_dropped reply (inl insert) step = inl insert
  ends_dropped reply (inr none) step =
      inr (ends_none p q n hand reply (λ stay. ap (λ (f : ℕ → Account). dropped_in (f n)) stay.accounts ∙ none.1) (λ turn tells. account_then turn tells none.2 none.1) step)

-- ---- all steps, and submissions

-- no request of a select in hand was answered
abbrev IsFresh : Place → Type 0
IsFresh q = (n : ℕ) (query : Query) (answers : List Answer) → q.hands n ≡ Some (record { statement = statements.Select query; answers = answers }) → answers ≡ []

module _ (layout : DiskLayout) (limits : KeepsLimits layout.schema layout.sizes) (p q : Place) (n : ℕ) where
  then_stands : (now : Option Hand) (entries : List Entry) → Leads p n now entries q → ((m : ℕ) → m ≢ n → IsUntouched p q m) → ((h : Hand) → now ≡ Some h → StandsIn layout q n h) → AllStand layout p → AllStand layout q
  then_stands now entries leads untouched own all m h has =
      elim (cases_eq m n) [
        | inl same ↦ subst (λ k. StandsIn layout q k h) (sym same) (own h (sym leads.hand ∙ ap q.hands (sym same) ∙ has))
        | inr apart ↦ elim (leads.others m) [ inl same ↦ absurd (apart same) | inr is ↦ stands_still layout p q m h (untouched m apart) (all m h (sym is ∙ has)) ]
      ]

  over : (entries : List Entry) → Leads p n None entries q → ((m : ℕ) → m ≢ n → IsUntouched p q m) → AllStand layout p → AllStand layout q
  over entries leads untouched all = then_stands None entries leads untouched (λ h is. absurd (none-some _ is)) all

  goes_on : (hand : Hand) (point : Point) (c : Course) → IsOrderly layout p → IsFresh q → AllStand layout p → p.hands n ≡ Some hand → (turn : Turn p n hand.statement q) → point_of turn ≡ Some point
      → (q.tables turn.table).task n ≢ Resting → MakesAt point p n hand c → Leads p n (Some (record hand { answers = c.answers })) c.journal q → StandsIn layout q n (record hand { answers = c.answers })
  goes_on hand point c o fresh all has turn named busy makes leads =
      let stands = all n hand has in
      record {
        answers = fits_goes layout p q n point c hand.answers hand.statement turn (leads.layout ∙ o.same) (o.fits n hand has) named busy makes stands.answers stands.scans
            (λ query select. fresh n query c.answers (leads.hand ∙ ap (λ st. Some (record { statement = st; answers = c.answers })) select));
        scans = scans_goes layout p q n point c hand.statement turn named stands.scans;
        drops = drops_goes layout limits p q n hand o has turn (inl (point, named)) stands.drops;
      }

stands_step : (layout : DiskLayout) → KeepsLimits layout.schema layout.sizes → (p : Place) (n : ℕ) (hand : Hand) (outcome : Outcome) (q : Place) → IsOrderly layout p → IsFresh q → AllStand layout p → p.hands n ≡ Some hand
    → StepsTo p n hand outcome q → AllStand layout q
stands_step layout limits p n hand _ _ o fresh all has (GoesOn point c q turn named busy makes leads) =
    then_stands layout limits p q n (Some (record hand { answers = c.answers })) c.journal leads (λ m apart. by_turn p q n m apart leads.layout hand.statement turn)
    (λ h is. subst (StandsIn layout q n) (same_Some _ _ is) (goes_on layout limits p q n hand point c o fresh all has turn named busy makes leads)) all
stands_step layout limits p n hand _ _ o fresh all has (Replies point c reply q turn named rests makes replied leads) =
    over layout limits p q n c.journal leads (λ m apart. by_turn p q n m apart leads.layout hand.statement turn) all
stands_step layout limits p n hand _ _ o fresh all has (MeetsConflict id c q turn named makes replied leads) =
    over layout limits p q n c.journal leads (λ m apart. by_turn p q n m apart leads.layout hand.statement turn) all
stands_step layout limits p n hand _ _ o fresh all has (IsRefused why tag told q turn named so leads) =
    over layout limits p q n _ leads (λ m apart. by_turn p q n m apart leads.layout hand.statement turn) all
stands_step layout limits p n hand _ _ o fresh all has (AtOnce c reply q once makes replied stay leads) =
    over layout limits p q n c.journal leads (λ m apart. by_rest p q n m apart leads.layout stay) all
stands_step layout limits p n hand _ _ o fresh all has (NothingAsked q work rest empty stay leads) = over layout limits p q n _ leads (λ m apart. by_rest p q n m apart leads.layout stay) all
stands_step layout limits p n hand _ _ o fresh all has (LacksMemoryAtOnce q may rest stay leads) = over layout limits p q n _ leads (λ m apart. by_rest p q n m apart leads.layout stay) all
stands_step layout limits p n hand _ _ o fresh all has (NoNumber q begin number stay leads) = over layout limits p q n _ leads (λ m apart. by_rest p q n m apart leads.layout stay) all
stands_step layout limits p n hand _ _ o fresh all has (IsWaiting table told on own blocked waits) = all

-- a statement that is taken has made no step
fits_new : (layout : DiskLayout) (p : Place) (n : ℕ) (statement other : Statement) → IsOrderly layout p → p.hands n ≡ None → IsStatementFor layout.schema statement → AnswersFit (with_statement p n other) n [] statement
fits_new layout p n (statements.Insert table values) other o none fits = inl (refl, o.idle n table none (slice_get_within layout.schema.tables table fits.into fits.table))
fits_new layout p n (statements.Select query) other o none fits = refl
fits_new layout p n (statements.Delete query) other o none fits = inl refl
fits_new layout p n statement other o none fits = tt

module _ (layout : DiskLayout) (p : Place) (n : ℕ) (statement : Statement) (o : IsOrderly layout p) (none : p.hands n ≡ None) (fits : IsStatementFor layout.schema statement) where
  abbrev taken_place : Place
  taken_place = with_statement p n statement

  scans_new : (query : Query) → statement ≡ statements.Delete query → IsOfScan ((p.tables query.table).task n)
  scans_new query is =
      let of = subst (IsStatementFor layout.schema) is fits in subst IsOfScan (sym (o.idle n query.table none (slice_get_within layout.schema.tables query.table of.of of.table))) tt

  no_row_new : HasNoRow layout p n
  no_row_new i below row = subst HasRow (o.idle n i none below) row

  drops_new : (st : Statement) → DropsNone layout taken_place n st
  drops_new (statements.Insert table values) = inl tt
  drops_new st = inr (λ insert. insert, ap dropped_in (updated_here p.accounts n no_account), no_row_new)

  new_stands : StandsIn layout taken_place n (new_hand statement)
  new_stands = record {
    answers = fits_new layout p n statement statement o none fits;
    scans = scans_new;
    drops = drops_new statement;
  }

  taken_stands : AllStand layout p → AllStand layout taken_place
  taken_stands all m h has =
      elim (cases_eq m n) [
        | inl same ↦ subst (λ k. StandsIn layout taken_place k h) (sym same)
            (subst (StandsIn layout taken_place n) (same_Some _ _ (sym (updated_here p.hands n (Some (new_hand statement))) ∙ ap taken_place.hands (sym same) ∙ has)) new_stands)
        | inr apart ↦ stands_still layout p taken_place m h (record { layout = refl; tasks = λ i. refl; account = updated_there p.accounts n m no_account apart })
            (all m h (sym (updated_there p.hands n m (Some (new_hand statement)) apart) ∙ has))
      ]

submits_stands : (layout : DiskLayout) (p : Place) (n : ℕ) (statement : Statement) (told : Option Refusal) (q : Place) → IsOrderly layout p → IsStatementFor layout.schema statement → AllStand layout p → Submits p n statement told q
    → AllStand layout q
submits_stands layout p n statement _ _ o fits all (Taken none) = taken_stands layout p n statement o (nothing_first (p.hands n) _ none) fits all
submits_stands layout p n statement _ _ o fits all (NotTaken refusal because) = all
submits_stands layout p n statement _ _ o fits all (WantsMemory none may) = all

named_stands : (layout : DiskLayout) (p : Place) (names : List (List ℕ)) → AllStand layout p → AllStand layout (record p { names = names })
named_stands layout p names all n hand has = stands_still layout p (record p { names = names }) n hand (record { layout = refl; tasks = λ i. refl; account = refl }) (all n hand has)

pub reached_stands : (layout : DiskLayout) → KeepsLimits layout.schema layout.sizes → ((p : Place) → IsReached layout p → IsOrderly layout p) → (p : Place) → IsReached layout p → AllStand layout p
reached_stands layout limits orderly _ (AtStart p start) n hand has = absurd (none-some _ (sym (start.hands n) ∙ has))
reached_stands layout limits orderly _ (AtOpening opening p start) n hand has = absurd (none-some _ (sym (start.hands n) ∙ has))
reached_stands layout limits orderly _ (BehindNames p names reached) n hand has = named_stands layout p names (reached_stands layout limits orderly p reached) n hand has
reached_stands layout limits orderly _ (BehindSubmit p q m statement told reached fits submits) n hand has =
    submits_stands layout p m statement told q (orderly p reached) fits (reached_stands layout limits orderly p reached) submits n hand has
reached_stands layout limits orderly _ (BehindStep p q m outcome reached step) n hand has =
    stands_step layout limits p m step.hand outcome q (orderly p reached) (reached_is_fresh layout q (BehindStep p q m outcome reached step)) (reached_stands layout limits orderly p reached) step.in_hand step.steps n hand has

pub reached_drops_none : (layout : DiskLayout) → KeepsLimits layout.schema layout.sizes → ((p : Place) → IsReached layout p → IsOrderly layout p) → (p q : Place) (n : ℕ) (hand : Hand) (reply : Reply) → IsReached layout p → p.hands n ≡ Some hand
    → StepsTo p n hand (Ended reply) q → IsInsert hand.statement ⊎ (dropped_at q n ≡ [])
reached_drops_none layout limits orderly p q n hand reply reached has step =
    elim (ends_dropped layout limits p q n hand (orderly p reached) has reply (reached_stands layout limits orderly p reached n hand has).drops step) [
      | inl insert ↦ inl insert
      | inr none ↦ inr (ap (dropped_of q.layout) none)
    ]
