-- At every place to which a script comes, each session that has nothing in hand is at nothing, and so holds nothing.
use Rattle.std.proofs.Common.{◌≡◌, ◌≢◌, ◌⊎◌, inl, inr, ℕ, ◌<◌, eqb, true, false, List, [], ◌∷◌, length, Option, None, Some, refl, sym, ap, ◌∙◌, subst}
use Rattle.std.proofs.lemmas.Bool.Decides.{eqb_tells}
use Rattle.std.proofs.lemmas.List.Elements.{All-push, All-rest}
use Rattle.std.proofs.lemmas.Option.{none-some}
use Rattle.block_model.specs.declared.place.Spot.{Spot}
use Rattle.block_model.specs.declared.reply.Point.{Point}
use Rattle.block_model.specs.declared.request.Entry.{Entry}
use Rattle.store_layout.specs.declared.statement.Statement.{Statement}
use Rattle.store_layout.specs.declared.statement.Statement.TheVariants as statements
use Rattle.store_layout.specs.StatementFits.{IsStatementFor}
use Rattle.store_layout.specs.DiskLayout.{DiskLayout}
use Rattle.store_layout.specs.FirstBrokenRule.{KeepsLimits}
use Rattle.coverage.specs.Accounts as accounts
use Rattle.coverage.specs.Accounts.{Accounts, Adds, Asked, Asking, HasEntry, IsDropped, Joins}
use Rattle.coverage.specs.Refusals as causes
use Rattle.coverage.specs.Refusals.{does_refusal}
use Rattle.coverage.specs.Table.{Task, Resting, TableState}
use Rattle.coverage.specs.TableCovered.{IsTableKept}
use Rattle.coverage.specs.TablePoints.{does_point}
use Rattle.coverage.specs.TableSteps.{AsksSummary, BeginsScan, BeginsWith, Blocked, Conflicts, Desummarize, Does, GivesLock, GoesOn, Inserted, InsertCompletes, InsertGoes, Judges, JudgesNext, MaintainCompletes, MaintainGoes, Marked, MarksRow}
use Rattle.coverage.specs.TableSteps.{NextIndex, Onward, Pruned, PrunesBlock, PutsRow, ReadsBlock, RefusesInsert, RefusesMaintain, RefusesRow, RefusesScan, RefusesVacuum, RestartsIndex, Scanned, Settles, Stays, SweepsPage}
use Rattle.coverage.specs.TableSteps.{Summarize, SummarizeOne, Swept, TableDone, TableNext, TableRun, TableStep, TakesLock, TaskTurns, ToAsk, ToIndex, ToMarks, ToPage, ToRange, Transacts, Vacuum, Work}
use Rattle.script_semantics.specs.Beginnings.{IsAtRest, IsIn, IsWorkIn}
use Rattle.script_semantics.specs.Place.{Hand, Place, accounts_at}
use Rattle.script_semantics.specs.Turns.{Leads, Recounts, TablesStay, Turn, point_of, refusal_of}
use Rattle.script_laws.proofs.Calm.{calm, steps_calm}
use Rattle.script_laws.proofs.Fits.{AreOfTables, IsHome, IsOfTables, home_in, home_one, in_below}

-- ---- what a step of a table leaves to the others, and of its own statement

others_stay : (s : ℕ) (w v : TableState) (old new : Task) (n : ℕ) → n ≢ s → TaskTurns s w v old new → v.task n ≡ w.task n
others_stay s w v old new n apart turns = by (turns.others n)
  where
    by : (n ≡ s) ⊎ (v.task n ≡ w.task n) → v.task n ≡ w.task n
    by (inl is) = absurd (apart is)
    by (inr same) = same

does_others : (s : ℕ) (w v : TableState) (n : ℕ) → n ≢ s → Does s w v → v.task n ≡ w.task n
does_others s w v n apart (PutsRow b k r place turns takes) = others_stay s w v _ _ n apart turns
does_others s w v n apart (RefusesRow t refused turns fails) = others_stay s w v _ _ n apart turns
does_others s w v n apart (AsksSummary b k r at turns only) = others_stay s w v _ _ n apart turns
does_others s w v n apart (InsertGoes b k r at old new turns stepped step) = others_stay s w v _ _ n apart turns
does_others s w v n apart (InsertCompletes b k r at old turns stepped step) = others_stay s w v _ _ n apart turns
does_others s w v n apart (RefusesInsert b k r old refused turns fails) = others_stay s w v _ _ n apart turns
does_others s w v n apart (TakesLock first begins turns free held rows indexes) = others_stay s w v _ _ n apart turns
does_others s w v n apart (MaintainGoes job at range old new turns stepped step) = others_stay s w v _ _ n apart turns
does_others s w v n apart (MaintainCompletes job at range old turns stepped step) = others_stay s w v _ _ n apart turns
does_others s w v n apart (RefusesMaintain job at range phase refused turns stepped passes) = others_stay s w v _ _ n apart turns
does_others s w v n apart (RefusesVacuum old vacuuming turns given rows indexes) = others_stay s w v _ _ n apart turns
does_others s w v n apart (PrunesBlock extent next dropped inside spared turns drops) = others_stay s w v _ _ n apart turns
does_others s w v n apart (SweepsPage at page turns stepped sweeps) = others_stay s w v _ _ n apart turns
does_others s w v n apart (RestartsIndex at turns only) = others_stay s w v _ _ n apart turns
does_others s w v n apart (BeginsScan scan begins turns only) = others_stay s w v _ _ n apart turns
does_others s w v n apart (Judges old new inside low step turns only) = others_stay s w v _ _ n apart turns
does_others s w v n apart (ReadsBlock scan next found reads turns only) = others_stay s w v _ _ n apart turns
does_others s w v n apart (RefusesScan scan t turns how) = others_stay s w v _ _ n apart turns
does_others s w v n apart (MarksRow scan id rest turns only) = others_stay s w v _ _ n apart turns
does_others s w v n apart (Conflicts scan id rest t turns fails) = others_stay s w v _ _ n apart turns
does_others s w v n apart (Blocked task blocked turns only) = others_stay s w v _ _ n apart turns
does_others s w v n apart (Transacts counts resting few same) = ap (λ (x : TableState). x.task n) same

settles_others : (s : ℕ) (w v : TableState) (n : ℕ) → n ≢ s → Settles s w v → v.task n ≡ w.task n
settles_others s w v n apart (GoesOn old new onward turns only) = others_stay s w v _ _ n apart turns
settles_others s w v n apart (GivesLock old done turns given rows indexes) = others_stay s w v _ _ n apart turns

pub step_others : (s : ℕ) (w v : TableState) (n : ℕ) → n ≢ s → TableStep s w v → v.task n ≡ w.task n
step_others s w v n apart step = settles_others s step.between v n apart step.settles ∙ does_others s w step.between n apart step.does

-- a step that refuses its statement leaves it at nothing
refused_rests : (s : ℕ) (w v : TableState) (why : causes.Refusal) (does : Does s w v) → does_refusal s w v does ≡ Some why → v.task s ≡ Resting
refused_rests s w v why (PutsRow b k r place turns takes) is = absurd (none-some _ is)
refused_rests s w v why (RefusesRow t refused turns fails) is = turns.now
refused_rests s w v why (AsksSummary b k r at turns only) is = absurd (none-some _ is)
refused_rests s w v why (InsertGoes b k r at old new turns stepped step) is = absurd (none-some _ is)
refused_rests s w v why (InsertCompletes b k r at old turns stepped step) is = absurd (none-some _ is)
refused_rests s w v why (RefusesInsert b k r old refused turns fails) is = turns.now
refused_rests s w v why (TakesLock first begins turns free held rows indexes) is = absurd (none-some _ is)
refused_rests s w v why (MaintainGoes job at range old new turns stepped step) is = absurd (none-some _ is)
refused_rests s w v why (MaintainCompletes job at range old turns stepped step) is = absurd (none-some _ is)
refused_rests s w v why (RefusesMaintain job at range phase refused turns stepped passes) is = turns.now
refused_rests s w v why (RefusesVacuum old vacuuming turns given rows indexes) is = turns.now
refused_rests s w v why (PrunesBlock extent next dropped inside spared turns drops) is = absurd (none-some _ is)
refused_rests s w v why (SweepsPage at page turns stepped sweeps) is = absurd (none-some _ is)
refused_rests s w v why (RestartsIndex at turns only) is = absurd (none-some _ is)
refused_rests s w v why (BeginsScan scan begins turns only) is = absurd (none-some _ is)
refused_rests s w v why (Judges old new inside low step turns only) is = absurd (none-some _ is)
refused_rests s w v why (ReadsBlock scan next found reads turns only) is = absurd (none-some _ is)
refused_rests s w v why (RefusesScan scan t turns how) is = turns.now
refused_rests s w v why (MarksRow scan id rest turns only) is = absurd (none-some _ is)
refused_rests s w v why (Conflicts scan id rest t turns fails) is = turns.now
refused_rests s w v why (Blocked task blocked turns only) is = absurd (none-some _ is)
refused_rests s w v why (Transacts counts resting few same) is = absurd (none-some _ is)

onward_rests : (w : TableState) (old new : Task) → old ≡ Resting → Onward w old new → new ≡ Resting
onward_rests w _ _ is (Stays task has) = is
onward_rests w _ _ is (ToAsk b k r at below asks) = absurd (cc)
onward_rests w _ _ is (ToIndex b k r at below not) = absurd (cc)
onward_rests w _ _ is (Inserted b k r at last) = refl
onward_rests w _ _ is (ToRange job at range has) = absurd (cc)
onward_rests w _ _ is (NextIndex extent at range none more) = absurd (cc)
onward_rests w _ _ is (Pruned extent next new past more) = absurd (cc)
onward_rests w _ _ is (ToPage at from m p next) = absurd (cc)
onward_rests w _ _ is (Swept at from none some) = absurd (cc)
onward_rests w _ _ is (JudgesNext scan new inside low empty more) = absurd (cc)
onward_rests w _ _ is (Scanned scan read nothing) = refl
onward_rests w _ _ is (ToMarks scan id rest read looks deletes lists) = absurd (cc)
onward_rests w _ _ is (Marked scan) = refl

pub settles_rests : (s : ℕ) (w v : TableState) → w.task s ≡ Resting → Settles s w v → v.task s ≡ Resting
settles_rests s w v rests (GoesOn old new onward turns only) = turns.now ∙ onward_rests w old new (sym turns.was ∙ rests) onward
settles_rests s w v rests (GivesLock old done turns given rows indexes) = turns.now

pub step_refused : (s : ℕ) (w v : TableState) (why : causes.Refusal) (step : TableStep s w v) → does_refusal s w step.between step.does ≡ Some why → v.task s ≡ Resting
step_refused s w v why step is = settles_rests s step.between v (refused_rests s w step.between why step.does is) step.settles

-- ---- what is asked for

module _ (layout : DiskLayout) where
  same_queue : (a c : Accounts) → c.queue ≡ a.queue → AreOfTables layout a.queue → AreOfTables layout c.queue
  same_queue a c same all = subst (AreOfTables layout) (sym same) all

  asking_queue : (s : ℕ) (a c : Accounts) (asked : Asked) (entry : Option Spot) → asked.table < length layout.schema.tables → Asking s a c asked entry → AreOfTables layout a.queue
      → AreOfTables layout c.queue
  asking_queue s a c asked _ low (HasEntry x stays) all = same_queue a c stays.queue all
  asking_queue s a c asked _ low (Joins room joins stays) all =
      subst (AreOfTables layout) (sym joins) (All-push (IsOfTables layout) a.queue asked all low)
  asking_queue s a c asked _ low (IsDropped full stays) all = same_queue a c stays.queue all

  begins_queue : (s : ℕ) (w : TableState) (first : Task) (begins : BeginsWith w first) (a c : Accounts) → accounts.Begins s w first begins a c → AreOfTables layout a.queue → AreOfTables layout c.queue
  begins_queue s w _ (Work at only below) a c adds all =
      All-rest (IsOfTables layout) (record { table = a.table; at = at; range = only }) c.queue a.queue adds.1 all
  begins_queue s w _ (Summarize at below) a c adds all = same_queue a c adds.queue all
  begins_queue s w _ (SummarizeOne at only below) a c adds all = same_queue a c adds.queue all
  begins_queue s w _ (Desummarize at only below) a c adds all = same_queue a c adds.queue all
  begins_queue s w _ Vacuum a c adds all = same_queue a c adds.queue all

  -- a step that has a name, or refuses, asks for nothing of another table
  queue_then : (s : ℕ) (w v : TableState) (does : Does s w v) (a c : Accounts) → a.table < length layout.schema.tables
      → ((point : Point) × (does_point s w v does ≡ Some point)) ⊎ ((why : causes.Refusal) × (does_refusal s w v does ≡ Some why))
      → Adds s w v does a c → AreOfTables layout a.queue → AreOfTables layout c.queue
  queue_then s w v (AsksSummary b k r at turns only) a c low tells adds all =
      asking_queue s a c (record { table = a.table; at = at; range = adds.0 }) ((w.index at).entry adds.0) low adds.2 all
  queue_then s w v (TakesLock first begins turns free held rows indexes) a c low tells adds all = begins_queue s w first begins a c adds all
  queue_then s w v (PrunesBlock extent next dropped inside spared turns drops) a c low tells adds all = same_queue a c adds.2.queue all
  queue_then s w v (SweepsPage at page turns stepped sweeps) a c low tells adds all = same_queue a c adds.2.queue all
  queue_then s w v (Transacts counts resting few same) a c low tells adds all =
      elim tells [ inl told ↦ absurd (none-some _ told.1) | inr refused ↦ absurd (none-some _ refused.1) ]
  queue_then s w v does a c low tells adds all = same_queue a c adds.queue all

-- ---- places

abbrev pub AreKept : Type 0
AreKept = (steps : List ℕ) (w v : TableState) → IsTableKept w → TableRun steps w v → IsTableKept v

-- Each table is kept, as one without scans. A session that has nothing in hand is at nothing; a statement in hand is one of the schema, and
-- is at something in its own table alone; of two tables work is at nothing in one. What is asked for is of tables of the layout.
pub record IsOrderly (layout : DiskLayout) (p : Place) : Type 0 where
  pub same : p.layout ≡ layout
  pub kept : (i : ℕ) → i < length layout.schema.tables → IsTableKept (calm (p.tables i))
  pub idle : (n i : ℕ) → p.hands n ≡ None → i < length layout.schema.tables → (p.tables i).task n ≡ Resting
  pub fits : (n : ℕ) (hand : Hand) → p.hands n ≡ Some hand → IsStatementFor layout.schema hand.statement
  pub home : (n i : ℕ) (hand : Hand) → p.hands n ≡ Some hand → i < length layout.schema.tables → ((p.tables i).task n ≡ Resting) ⊎ IsHome layout hand.statement i
  pub alone : (n i j : ℕ) → i < length layout.schema.tables → j < length layout.schema.tables → ((p.tables i).task n ≡ Resting) ⊎ ((p.tables j).task n ≡ Resting) ⊎ (i ≡ j)
  pub asked : AreOfTables layout p.queue

-- what a step of session n's statement leaves of the tables, and of what is asked for
pub record Goes (layout : DiskLayout) (p : Place) (n : ℕ) (statement : Statement) (q : Place) : Type 0 where
  pub kept : (i : ℕ) → i < length layout.schema.tables → IsTableKept (calm (q.tables i))
  pub others : (m i : ℕ) → m ≢ n → (q.tables i).task m ≡ (p.tables i).task m
  pub own : (i : ℕ) → ((q.tables i).task n ≡ (p.tables i).task n) ⊎ IsHome layout statement i
  pub alone : (i j : ℕ) → i < length layout.schema.tables → j < length layout.schema.tables → ((q.tables i).task n ≡ Resting) ⊎ ((q.tables j).task n ≡ Resting) ⊎ (i ≡ j)
  pub asked : AreOfTables layout q.queue

recounted : (w v : TableState) → Recounts w v → IsTableKept (calm w) → IsTableKept (calm v)
recounted w v again kept = subst (λ (x : TableState). IsTableKept (calm x)) (sym again.1) kept

pub recounted_task : (w v : TableState) (n : ℕ) → Recounts w v → v.task n ≡ w.task n
recounted_task w v n again = ap (λ (x : TableState). x.task n) again.1

-- a step that has a name, or refuses
abbrev pub Tells : {p q : Place} {n : ℕ} {statement : Statement} → Turn p n statement q → Type 0
Tells turn = ((point : Point) × (point_of turn ≡ Some point)) ⊎ ((why : causes.Refusal) × (refusal_of turn ≡ Some why))

module _ (keeps : AreKept) (layout : DiskLayout) (limits : KeepsLimits layout.schema layout.sizes) where
  module _ (p q : Place) (n : ℕ) (hand : Hand) (o : IsOrderly layout p) (in_hand : p.hands n ≡ Some hand) where
    alone_still : TablesStay p q → (i j : ℕ) → ((p.tables i).task n ≡ Resting) ⊎ ((p.tables j).task n ≡ Resting) ⊎ (i ≡ j)
        → ((q.tables i).task n ≡ Resting) ⊎ ((q.tables j).task n ≡ Resting) ⊎ (i ≡ j)
    alone_still stay i j (inl rests) = inl (recounted_task (p.tables i) (q.tables i) n (stay.tables i) ∙ rests)
    alone_still stay i j (inr (inl rests)) = inr (inl (recounted_task (p.tables j) (q.tables j) n (stay.tables j) ∙ rests))
    alone_still stay i j (inr (inr is)) = inr (inr is)

    pub stays : TablesStay p q → Goes layout p n hand.statement q
    stays stay = record {
      kept = λ i below. recounted (p.tables i) (q.tables i) (stay.tables i) (o.kept i below);
      others = λ m i _. recounted_task (p.tables i) (q.tables i) m (stay.tables i);
      own = λ i. inl (recounted_task (p.tables i) (q.tables i) n (stay.tables i));
      alone = λ i j low less. alone_still stay i j (o.alone n i j low less);
      asked = subst (AreOfTables layout) (sym stay.queue) o.asked;
    }

    -- ---- a turn is in one table, and in the others its statement is at nothing

    -- work that has begun is in a table where it isn't at nothing
    work_elsewhere : (table i : ℕ) → table < length layout.schema.tables → i < length layout.schema.tables → IsWorkIn p n table → ((p.tables i).task n ≡ Resting) ⊎ (i ≡ table)
    work_elsewhere table i within low (inl busy) = by (o.alone n i table low within)
      where
        by : ((p.tables i).task n ≡ Resting) ⊎ ((p.tables table).task n ≡ Resting) ⊎ (i ≡ table) → ((p.tables i).task n ≡ Resting) ⊎ (i ≡ table)
        by (inl rests) = inl rests
        by (inr (inl rests)) = absurd (busy.1 rests)
        by (inr (inr is)) = inr is
    work_elsewhere table i within low (inr first) = inl (first.0 i (subst (λ (l : DiskLayout). i < length l.schema.tables) (sym o.same) low))

    elsewhere : (table i : ℕ) → table < length layout.schema.tables → i < length layout.schema.tables → IsIn p n hand.statement table → ((p.tables i).task n ≡ Resting) ⊎ (i ≡ table)
    elsewhere table i within low on = by (o.home n i hand in_hand low)
      where
        of_homes : (hand.statement ≡ statements.Work) ⊎ (i ≡ table) → ((p.tables i).task n ≡ Resting) ⊎ (i ≡ table)
        of_homes (inl work) = work_elsewhere table i within low (subst (λ st. IsIn p n st table) work on)
        of_homes (inr is) = inr is

        by : ((p.tables i).task n ≡ Resting) ⊎ IsHome layout hand.statement i → ((p.tables i).task n ≡ Resting) ⊎ (i ≡ table)
        by (inl rests) = inl rests
        by (inr home) = of_homes (home_one layout hand.statement i table home (home_in layout p n table hand.statement o.same on))

    module _ (turn : Turn p n hand.statement q) where
      home_here : IsHome layout hand.statement turn.table
      home_here = home_in layout p n turn.table hand.statement o.same turn.on

      below_here : turn.table < length layout.schema.tables
      below_here = in_below layout p n turn.table o.same limits o.asked hand.statement (o.fits n hand in_hand) turn.on

      kept_here : IsTableKept (calm (q.tables turn.table))
      kept_here =
          keeps (n ∷ []) (calm (p.tables turn.table)) (calm (q.tables turn.table)) (o.kept turn.table below_here)
          (TableNext n [] (calm (p.tables turn.table)) (calm (q.tables turn.table)) (calm (q.tables turn.table)) (steps_calm n (p.tables turn.table) (q.tables turn.table) turn.step) (TableDone (calm (q.tables turn.table))))

      kept_at : (i : ℕ) → i < length layout.schema.tables → (i ≡ turn.table) ⊎ Recounts (p.tables i) (q.tables i) → IsTableKept (calm (q.tables i))
      kept_at i below (inl is) = subst (λ j. IsTableKept (calm (q.tables j))) (sym is) kept_here
      kept_at i below (inr again) = recounted (p.tables i) (q.tables i) again (o.kept i below)

      others_at : (m i : ℕ) → m ≢ n → (i ≡ turn.table) ⊎ Recounts (p.tables i) (q.tables i) → (q.tables i).task m ≡ (p.tables i).task m
      others_at m i apart (inl is) = subst (λ j. (q.tables j).task m ≡ (p.tables j).task m) (sym is) (step_others n (p.tables turn.table) (q.tables turn.table) m apart turn.step)
      others_at m i apart (inr again) = recounted_task (p.tables i) (q.tables i) m again

      own_at : (i : ℕ) → (i ≡ turn.table) ⊎ Recounts (p.tables i) (q.tables i) → ((q.tables i).task n ≡ (p.tables i).task n) ⊎ IsHome layout hand.statement i
      own_at i (inl is) = inr (subst (IsHome layout hand.statement) (sym is) home_here)
      own_at i (inr again) = inl (recounted_task (p.tables i) (q.tables i) n again)

      -- in each other table it is at nothing behind the turn too
      elsewhere_then : (i : ℕ) → i < length layout.schema.tables → ((q.tables i).task n ≡ Resting) ⊎ (i ≡ turn.table)
      elsewhere_then i low = by (turn.others i) (elsewhere turn.table i below_here low turn.on)
        where
          by : (i ≡ turn.table) ⊎ Recounts (p.tables i) (q.tables i) → ((p.tables i).task n ≡ Resting) ⊎ (i ≡ turn.table) → ((q.tables i).task n ≡ Resting) ⊎ (i ≡ turn.table)
          by (inl is) was = inr is
          by (inr again) (inl rests) = inl (recounted_task (p.tables i) (q.tables i) n again ∙ rests)
          by (inr again) (inr is) = inr is

      alone_then : (i j : ℕ) → ((q.tables i).task n ≡ Resting) ⊎ (i ≡ turn.table) → ((q.tables j).task n ≡ Resting) ⊎ (j ≡ turn.table)
          → ((q.tables i).task n ≡ Resting) ⊎ ((q.tables j).task n ≡ Resting) ⊎ (i ≡ j)
      alone_then i j (inl rests) other = inl rests
      alone_then i j (inr is) (inl rests) = inr (inl rests)
      alone_then i j (inr is) (inr too) = inr (inr (is ∙ sym too))

      pub goes : Tells turn → Goes layout p n hand.statement q
      goes tells = record {
        kept = λ i below. kept_at i below (turn.others i);
        others = λ m i apart. others_at m i apart (turn.others i);
        own = λ i. own_at i (turn.others i);
        alone = λ i j low less. alone_then i j (elsewhere_then i low) (elsewhere_then j less);
        asked = queue_then layout n (p.tables turn.table) turn.step.between turn.step.does (accounts_at p turn.table) (accounts_at q turn.table) below_here tells turn.accounts.adds o.asked;
      }

      -- where it is at nothing in its table, it is at nothing anywhere
      pub rests : (q.tables turn.table).task n ≡ Resting → (i : ℕ) → i < length layout.schema.tables → (q.tables i).task n ≡ Resting
      rests here i low = by (elsewhere_then i low)
        where
          by : ((q.tables i).task n ≡ Resting) ⊎ (i ≡ turn.table) → (q.tables i).task n ≡ Resting
          by (inl rests_there) = rests_there
          by (inr is) = subst (λ j. (q.tables j).task n ≡ Resting) (sym is) here

    module _ (now : Option Hand) (entries : List Entry) (moves : Goes layout p n hand.statement q) (leads : Leads p n now entries q) (statement_stays : (h : Hand) → now ≡ Some h → h.statement ≡ hand.statement)
        (rests_then : now ≡ None → (i : ℕ) → i < length layout.schema.tables → (q.tables i).task n ≡ Resting) where
      other_hand : (m : ℕ) → m ≢ n → q.hands m ≡ p.hands m
      other_hand m apart = by (leads.others m)
        where
          by : (m ≡ n) ⊎ (q.hands m ≡ p.hands m) → q.hands m ≡ p.hands m
          by (inl is) = absurd (apart is)
          by (inr same) = same

      now_is : (m : ℕ) (h : Option Hand) → m ≡ n → q.hands m ≡ h → now ≡ h
      now_is m h is has = sym leads.hand ∙ ap q.hands (sym is) ∙ has

      idle_by : (m i : ℕ) → q.hands m ≡ None → i < length layout.schema.tables → (m ≡ n) ⊎ (m ≢ n) → (q.tables i).task m ≡ Resting
      idle_by m i none below (inl is) = ap (q.tables i).task is ∙ rests_then (now_is m None is none) i below
      idle_by m i none below (inr apart) = moves.others m i apart ∙ o.idle m i (sym (other_hand m apart) ∙ none) below

      fits_by : (m : ℕ) (h : Hand) → q.hands m ≡ Some h → (m ≡ n) ⊎ (m ≢ n) → IsStatementFor layout.schema h.statement
      fits_by m h has (inl is) = subst (IsStatementFor layout.schema) (sym (statement_stays h (now_is m (Some h) is has))) (o.fits n hand in_hand)
      fits_by m h has (inr apart) = o.fits m h (sym (other_hand m apart) ∙ has)

      own_home : (i : ℕ) → i < length layout.schema.tables → ((q.tables i).task n ≡ (p.tables i).task n) ⊎ IsHome layout hand.statement i → ((q.tables i).task n ≡ Resting) ⊎ IsHome layout hand.statement i
      own_home i below (inr home) = inr home
      own_home i below (inl same) = by (o.home n i hand in_hand below)
        where
          by : ((p.tables i).task n ≡ Resting) ⊎ IsHome layout hand.statement i → ((q.tables i).task n ≡ Resting) ⊎ IsHome layout hand.statement i
          by (inl rests) = inl (same ∙ rests)
          by (inr home) = inr home

      home_by : (m i : ℕ) (h : Hand) → q.hands m ≡ Some h → i < length layout.schema.tables → (m ≡ n) ⊎ (m ≢ n) → ((q.tables i).task m ≡ Resting) ⊎ IsHome layout h.statement i
      home_by m i h has below (inl is) =
          subst (λ k. ((q.tables i).task k ≡ Resting) ⊎ IsHome layout h.statement i) (sym is)
          (subst (λ st. ((q.tables i).task n ≡ Resting) ⊎ IsHome layout st i) (sym (statement_stays h (now_is m (Some h) is has))) (own_home i below (moves.own i)))
      home_by m i h has below (inr apart) =
          subst (λ task. (task ≡ Resting) ⊎ IsHome layout h.statement i) (sym (moves.others m i apart)) (o.home m i h (sym (other_hand m apart) ∙ has) below)

      alone_by : (m i j : ℕ) → i < length layout.schema.tables → j < length layout.schema.tables → (m ≡ n) ⊎ (m ≢ n) → ((q.tables i).task m ≡ Resting) ⊎ ((q.tables j).task m ≡ Resting) ⊎ (i ≡ j)
      alone_by m i j low less (inl is) = subst (λ k. ((q.tables i).task k ≡ Resting) ⊎ ((q.tables j).task k ≡ Resting) ⊎ (i ≡ j)) (sym is) (moves.alone i j low less)
      alone_by m i j low less (inr apart) =
          subst (λ task. (task ≡ Resting) ⊎ ((q.tables j).task m ≡ Resting) ⊎ (i ≡ j)) (sym (moves.others m i apart))
          (subst (λ task. ((p.tables i).task m ≡ Resting) ⊎ (task ≡ Resting) ⊎ (i ≡ j)) (sym (moves.others m j apart)) (o.alone m i j low less))

      which : (m : ℕ) → (m ≡ n) ⊎ (m ≢ n)
      which m = by (eqb_tells m n)
        where
          by : ((eqb m n ≡ true) × (m ≡ n)) ⊎ ((eqb m n ≡ false) × (m ≢ n)) → (m ≡ n) ⊎ (m ≢ n)
          by (inl is) = inl is.1
          by (inr not) = inr not.1

      pub orderly_then : IsOrderly layout q
      orderly_then = record {
        same = leads.layout ∙ o.same;
        kept = moves.kept;
        idle = λ m i none below. idle_by m i none below (which m);
        fits = λ m h has. fits_by m h has (which m);
        home = λ m i h has below. home_by m i h has below (which m);
        alone = λ m i j low less. alone_by m i j low less (which m);
        asked = moves.asked;
      }

    -- a statement that is over
    pub over : (entries : List Entry) → Goes layout p n hand.statement q → Leads p n None entries q → ((i : ℕ) → i < length layout.schema.tables → (q.tables i).task n ≡ Resting) → IsOrderly layout q
    over entries moves leads rests_now = orderly_then None entries moves leads (λ h is. absurd (none-some _ is)) (λ _. rests_now)

    -- one that made no step rests everywhere
    pub rests_nowhere : ((i : ℕ) → IsHome layout hand.statement i → ⊥) → TablesStay p q → (i : ℕ) → i < length layout.schema.tables → (q.tables i).task n ≡ Resting
    rests_nowhere homeless stay i below = by (o.home n i hand in_hand below)
      where
        by : ((p.tables i).task n ≡ Resting) ⊎ IsHome layout hand.statement i → (q.tables i).task n ≡ Resting
        by (inl rests_now) = recounted_task (p.tables i) (q.tables i) n (stay.tables i) ∙ rests_now
        by (inr home) = absurd (homeless i home)

    -- one that was at rest still is
    pub rests_still : IsAtRest p n → TablesStay p q → (i : ℕ) → i < length layout.schema.tables → (q.tables i).task n ≡ Resting
    rests_still rest stay i low = recounted_task (p.tables i) (q.tables i) n (stay.tables i) ∙ rest i (subst (λ (l : DiskLayout). i < length l.schema.tables) (sym o.same) low)
