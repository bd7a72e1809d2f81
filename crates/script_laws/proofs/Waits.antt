-- What a step that is blocked is told, and that it is told nothing else.
use Rattle.std.proofs.Common.{◌≡◌, ◌≢◌, ◌⊎◌, inl, inr, ℕ, ◌≤◌, List, [], ◌∷◌, length, slice_get, None, Some, refl, sym, ap, ◌∙◌, subst}
use Rattle.std.specs.Prelude.{IsTrue}
use Rattle.std.proofs.lemmas.Bool.{false≢true}
use Rattle.std.proofs.lemmas.Option.{none-some, same_Some}
use Rattle.block_model.specs.declared.place.Spot.{Spot}
use Rattle.block_model.specs.declared.reply.Refusal.{Refusal}
use Rattle.block_model.specs.declared.reply.Refusal.TheVariants as refusals
use Rattle.block_model.specs.declared.reply.Reply.TheVariants as replies
use Rattle.block_model.specs.declared.row.Row.{Row}
use Rattle.coverage.specs.IndexView.{IndexTuple, IndexView, map_page_of}
use Rattle.coverage.specs.Statements.{Copied, Held, NotBuilding, OnIndex, Phase, Vacant}
use Rattle.coverage.specs.Verdicts.{ClearWaits, First, IsLocked, SwapDiffers, SwapFits, SwapMoves, SwapVerdict, SwapWaits, Verdict}
use Rattle.coverage.specs.Verdicts as verdicts
use Rattle.coverage.specs.Waiting.{IsPhaseFull}
use Rattle.index_steps.specs.IndexTuples.{index_at}
use Rattle.script_semantics.specs.Beginnings.{Begins, IsAtRest, IsIn, takes_lock}
use Rattle.script_semantics.specs.Laws.{IsHeldFrom}
use Rattle.script_semantics.specs.LineTexts as texts
use Rattle.script_semantics.specs.LineTexts.{NoStep, StepsOnce, dropped_at, outcome_text}
use Rattle.script_semantics.specs.Names.{index_name, name_of, table_name}
use Rattle.script_semantics.specs.Place.{Hand, Place, new_hand}
use Rattle.script_semantics.specs.StatementSteps as line
use Rattle.script_semantics.specs.StatementSteps.{AtOnce, Ended, HeapIsFull, IndexIsFull, ForMemory, IsAtOnce, IsRefused, IsWaiting, LacksMemoryAtOnce, MayLackMemory, MeetsConflict, NoNumber, NothingAsked, Outcome, RefusesSo, Replies, Steps, StepsTo, Waits, WaitsFor, what_of}
use Rattle.script_semantics.specs.Turns.{Turn}
use Rattle.query_words.specs.declared.line.Order.TheVariants as orders
use Rattle.reply_texts.specs.Texts.{reply_text}
use Rattle.store_layout.specs.declared.limits.TheConstants.{MAX_ENTRIES}
use Rattle.store_layout.specs.declared.statement.Statement.{Statement}
use Rattle.store_layout.specs.declared.statement.Statement.TheVariants as statements
use Rattle.coverage.specs.Accounts.{Asked}
use Rattle.coverage.specs.Refusals.{does_refusal}
use Rattle.coverage.specs.Table.{Considers, Desummarising, Inserts, Maintains, Prunes, Resting, TableState, Task, index_view_at}
use Rattle.coverage.specs.TablePoints.{IsHeldBy, PageLock, SummariseLock, WaitedFor, does_point, waits_for}
use Rattle.coverage.specs.TableSteps.{AsksSummary, BeginsScan, Blocked, Conflicts, DesummariseWaits, Does, InsertCompletes, InsertGoes, InsertWaits, IsBlocked, IsVacuuming, Judges, MaintainCompletes, MaintainGoes, MarksRow}
use Rattle.coverage.specs.TableSteps.{IndexFull, IsInsertRefused, IsMaintainRefused, NoPage, PrunesBlock, PutsRow, ReadsBlock, RefusesInsert, RefusesMaintain, RefusesRow, RefusesScan, RefusesVacuum, RestartsIndex, SummariseLockHeld}
use Rattle.coverage.specs.TableSteps.{SweepsPage, TakesLock, Transacts, range_in}
use Rattle.coverage.proofs.TableBlocked.{blocked_no_point, blocked_once}
use Rattle.script_laws.specs.RowLaws.{ADesummarizeWaitsForAPage, ALockIsWaitedFor, AnInsertWaitsForAPage}
use Rattle.script_laws.specs.Finds.{IsOnlyIn}
use Rattle.script_laws.specs.Answered.{IsToldSo}
use Rattle.script_laws.proofs.Said.{said_page, said_work}

one_holder : (w : TableState) (waited : WaitedFor) (m n : ℕ) → IsHeldBy w waited m → IsHeldBy w waited n → m ≡ n
one_holder w SummariseLock m n one two = same_Some _ _ (sym one ∙ two)
one_holder w (PageLock at page) m n one two = same_Some _ _ (sym one ∙ two)

module _ (p : Place) (n m table : ℕ) (hand : Hand) (waited : WaitedFor) where
  -- in the table the statement is blocked for this, and makes no step of another kind
  record Stuck (i : ℕ) : Type 0 where
    blocked : IsBlocked (p.tables i) n ((p.tables i).task n)
    waited_is : waits_for (p.tables i) n ((p.tables i).task n) blocked ≡ waited
    held : IsHeldBy (p.tables i) waited m
    own : ((p.tables i).task n ≢ Resting) ⊎ IsTrue (takes_lock hand.statement)
    no_step : (v : TableState) (does : Does n (p.tables i) v) → ((p.tables i).task n ≢ Resting) ⊎ Begins p n (p.tables i) hand.statement (v.task n)
        → (does_point n (p.tables i) v does ≡ None) × (does_refusal n (p.tables i) v does ≡ None)

  -- it isn't one of those that end without a step of a table
  record IsOfATable : Type 0 where
    at_once : IsAtOnce p hand.statement → ⊥
    nothing : hand.statement ≡ statements.Work → IsAtRest p n → p.queue ≡ [] → ⊥
    lacks : IsAtRest p n → MayLackMemory p n hand.statement → ⊥
    begin : hand.statement ≡ statements.Begin → ⊥

  module _ (only : IsOnlyIn p n hand.statement table) (stuck : Stuck table) (of : IsOfATable) where
    stuck_in : (i : ℕ) → IsIn p n hand.statement i → Stuck i
    stuck_in i on = subst Stuck (sym (only i on)) stuck

    no_turn : (q : Place) (turn : Turn p n hand.statement q) → (does_point n (p.tables turn.table) turn.step.between turn.step.does ≡ None)
        × (does_refusal n (p.tables turn.table) turn.step.between turn.step.does ≡ None)
    no_turn q turn = (stuck_in turn.table turn.on).no_step turn.step.between turn.step.does turn.own

    abbrev told_one : Refusal
    told_one = refusals.Blocked (what_of p.layout table waited) (name_of p m)

    told_here : (i : ℕ) (told : Refusal) → i ≡ table → (blocked : IsBlocked (p.tables i) n ((p.tables i).task n))
        → WaitsFor p i (waits_for (p.tables i) n ((p.tables i).task n) blocked) told → told ≡ told_one
    told_here i told is blocked waits =
        let here = subst Stuck (sym is) stuck in
        let same : waits_for (p.tables i) n ((p.tables i).task n) blocked ≡ waited = blocked_once n (p.tables i) ((p.tables i).task n) blocked here.blocked ∙ here.waited_is in
        let so = subst (λ x. WaitsFor p i x told) same waits in
        so.2 ∙ ap (λ (by : ℕ). refusals.Blocked (what_of p.layout i waited) (name_of p by)) (one_holder (p.tables i) waited so.0 m so.1 here.held)
        ∙ ap (λ (j : ℕ). refusals.Blocked (what_of p.layout j waited) (name_of p m)) is

    only_waits : (outcome : Outcome) (q : Place) → StepsTo p n hand outcome q → (outcome ≡ Waits told_one) × (q ≡ p)
    only_waits _ _ (line.GoesOn point c q turn named on made leads) = absurd (none-some _ (sym (no_turn q turn).0 ∙ named))
    only_waits _ _ (Replies point c reply q turn named rests all replied leads) = absurd (none-some _ (sym (no_turn q turn).0 ∙ named))
    only_waits _ _ (MeetsConflict id c q turn named all replied leads) = absurd (none-some _ (sym (no_turn q turn).1 ∙ named))
    only_waits _ _ (IsRefused why tag told q turn named so leads) = absurd (none-some _ (sym (no_turn q turn).1 ∙ named))
    only_waits _ _ (AtOnce c reply q once all replied stay leads) = absurd (of.at_once once)
    only_waits _ _ (NothingAsked q work rest empty stay leads) = absurd (of.nothing work rest empty)
    only_waits _ _ (LacksMemoryAtOnce q lacks rest stay leads) = absurd (of.lacks rest lacks)
    only_waits _ _ (NoNumber q begin next stay leads) = absurd (of.begin begin)
    only_waits _ _ (IsWaiting i told on own blocked waits) = (ap Waits (told_here i told (only i on) blocked waits), refl)

    module _ (in_hand : p.hands n ≡ Some hand) (fits : length p.journal ≤ MAX_ENTRIES) (name : List ℕ) where
      waits_so : IsIn p n hand.statement table → texts.Does p n name orders.Step (reply_text name (replies.Refused told_one)) p
      waits_so on = StepsOnce (Waits told_one) p (record {
        hand = hand;
        in_hand = in_hand;
        steps = IsWaiting table told_one on stuck.own stuck.blocked (subst (λ x. WaitsFor p table x told_one) (sym stuck.waited_is) (m, stuck.held, refl));
        fits = fits;
      })

      step_told : (outcome : Outcome) (q : Place) → Steps p n outcome q → (outcome ≡ Waits told_one) × (q ≡ p)
      step_told outcome q steps = only_waits outcome q (subst (λ (h : Hand). StepsTo p n h outcome q) (same_Some _ _ (sym steps.in_hand ∙ in_hand)) steps.steps)

      told_alone : (told : List ℕ) (q : Place) → texts.Does p n name orders.Step told q → (told ≡ reply_text name (replies.Refused told_one)) × (q ≡ p)
      told_alone _ _ (StepsOnce outcome q steps) =
          let so = step_told outcome q steps in
          (ap (λ (o : Outcome). outcome_text name (dropped_at q n) o) so.0, so.1)
      told_alone _ _ (NoStep idle) = absurd (none-some _ (sym idle ∙ in_hand))

      told_so : IsIn p n hand.statement table → IsToldSo p n name (reply_text name (replies.Refused told_one))
      told_so on = (waits_so on, told_alone)

-- ---- the summarise lock

-- what a session at rest begins while another has the summarise lock is no maintenance
abbrev IsMaintaining : Task → Type 0
IsMaintaining (Considers job at range) = Unit {0}
IsMaintaining (Prunes extent next) = Unit {0}
IsMaintaining task = ⊥

only_takes : (n m : ℕ) (w v : TableState) → w.task n ≡ Resting → w.summarise_lock ≡ Some m → IsMaintaining (v.task n) → Does n w v → ⊥
only_takes n m w v rests held is (PutsRow b k r place turns takes) = subst IsMaintaining turns.now is
only_takes n m w v rests held is (RefusesRow t refused turns fails) = subst IsMaintaining turns.now is
only_takes n m w v rests held is (AsksSummary b k r at turns only) = subst IsMaintaining turns.now is
only_takes n m w v rests held is (InsertGoes b k r at old new turns stepped step) = subst IsMaintaining turns.now is
only_takes n m w v rests held is (InsertCompletes b k r at old turns stepped step) = subst IsMaintaining turns.now is
only_takes n m w v rests held is (RefusesInsert b k r old refused turns fails) = subst IsMaintaining turns.now is
only_takes n m w v rests held is (TakesLock first begins turns free now rows indexes) = none-some _ (sym free ∙ held)
only_takes n m w v rests held is (MaintainGoes job at range old new turns stepped step) = subst IsMaintaining turns.now is
only_takes n m w v rests held is (MaintainCompletes job at range old turns stepped step) = absurd (cc)
only_takes n m w v rests held is (RefusesMaintain job at range phase refused turns stepped passes) = subst IsMaintaining turns.now is
only_takes n m w v rests held is (RefusesVacuum old vacuuming turns given rows indexes) = subst IsMaintaining turns.now is
only_takes n m w v rests held is (PrunesBlock extent next dropped inside spared turns drops) = absurd (cc)
only_takes n m w v rests held is (SweepsPage at page turns stepped sweeps) = subst IsMaintaining turns.now is
only_takes n m w v rests held is (RestartsIndex at turns only) = absurd (cc)
only_takes n m w v rests held is (BeginsScan scan begins turns only) = subst IsMaintaining turns.now is
only_takes n m w v rests held is (Judges old new inside low step turns only) = subst IsMaintaining turns.now is
only_takes n m w v rests held is (ReadsBlock scan next found reads turns only) = subst IsMaintaining turns.now is
only_takes n m w v rests held is (RefusesScan scan t turns how) = subst IsMaintaining turns.now is
only_takes n m w v rests held is (MarksRow scan id rest turns only) = subst IsMaintaining turns.now is
only_takes n m w v rests held is (Conflicts scan id rest t turns fails) = subst IsMaintaining turns.now is
only_takes n m w v rests held is (Blocked task blocked turns only) = subst IsMaintaining (turns.now ∙ sym turns.was ∙ rests) is
only_takes n m w v rests held is (Transacts counts resting few same) = subst IsMaintaining (ap (λ (u : TableState). u.task n) same ∙ rests) is

maintaining : (p : Place) (n : ℕ) (w : TableState) (st : Statement) (task : Task) → IsTrue (takes_lock st) → Begins p n w st task → IsMaintaining task
maintaining p n w (statements.Summarize index None) task takes begins = subst IsMaintaining (sym begins.2) tt
maintaining p n w (statements.Summarize index (Some block)) task takes begins = subst IsMaintaining (sym begins.2) tt
maintaining p n w (statements.Desummarize index block) task takes begins = subst IsMaintaining (sym begins.2) tt
maintaining p n w (statements.Vacuum table) task takes begins = subst IsMaintaining (sym begins) tt
maintaining p n w statements.Work task takes begins = subst IsMaintaining (sym begins.2) tt
maintaining p n w st task takes begins = absurd (false≢true takes)

rests_blocked : (w : TableState) (n m : ℕ) → w.summarise_lock ≡ Some m → m ≢ n → (task : Task) → task ≡ Resting → (blocked : IsBlocked w n task) × (waits_for w n task blocked ≡ SummariseLock)
rests_blocked w n m held other task rests =
    subst (λ t. (blocked : IsBlocked w n t) × (waits_for w n t blocked ≡ SummariseLock)) (sym rests) (SummariseLockHeld m held other, refl)

not_at_once : (p : Place) (st : Statement) → IsTrue (takes_lock st) → IsAtOnce p st → ⊥
not_at_once p _ takes (line.Begin next) = false≢true takes
not_at_once p _ takes line.Commit = false≢true takes
not_at_once p _ takes line.Rollback = false≢true takes

-- work that finds the lock held lacks no memory: it takes none before it has the lock
never_lacks : (p : Place) (n m table : ℕ) (st : Statement) → IsHeldFrom p n m table st → IsOnlyIn p n st table → IsAtRest p n → MayLackMemory p n st → ⊥
never_lacks p n m table (statements.Select q) from only rest lacks = false≢true from.takes
never_lacks p n m table (statements.Delete q) from only rest lacks = false≢true from.takes
never_lacks p n m table statements.Work from only rest lacks =
    let here : lacks.0.table ≡ table = only lacks.0.table (inr (rest, (lacks.0, lacks.1, refl))) in
    from.other (lacks.2 m (ap (λ (i : ℕ). (p.tables i).summarise_lock) here ∙ from.held))
never_lacks p n m table st from only rest lacks = lacks

something_asked : (p : Place) (n table : ℕ) (st : Statement) → IsIn p n st table → (p.tables table).task n ≡ Resting → st ≡ statements.Work → p.queue ≡ [] → ⊥
something_asked p n table st on rests work empty = by (subst (λ s. IsIn p n s table) work on)
  where
    by : IsIn p n statements.Work table → ⊥
    by (inl busy) = busy.1 rests
    by (inr first) = none-some _ (sym (ap (λ (l : List Asked). slice_get l 0) empty) ∙ first.1.1)

lock_stops : (p : Place) (n m table : ℕ) (st : Statement) → IsHeldFrom p n m table st → (v : TableState) → Does n (p.tables table) v
    → ((p.tables table).task n ≢ Resting) ⊎ Begins p n (p.tables table) st (v.task n) → ⊥
lock_stops p n m table st from v does (inl busy) = busy from.rests
lock_stops p n m table st from v does (inr begins) = only_takes n m (p.tables table) v from.rests from.held (maintaining p n (p.tables table) st (v.task n) from.takes begins) does

pub a_lock_is_waited_for : ALockIsWaitedFor
a_lock_is_waited_for p n m table name st in_hand from only =
    let waiting = rests_blocked (p.tables table) n m from.held from.other ((p.tables table).task n) from.rests in
    subst (IsToldSo p n name) (said_work name (table_name p.layout table) (name_of p m))
    (told_so p n m table (new_hand st) SummariseLock only
    (record {
      blocked = waiting.0;
      waited_is = waiting.1;
      held = from.held;
      own = inr from.takes;
      no_step = λ v does own. absurd (lock_stops p n m table st from v does own);
    })
    (record {
      at_once = not_at_once p st from.takes;
      nothing = λ work rest empty. something_asked p n table st from.on from.rests work empty;
      lacks = λ rest lacks. never_lacks p n m table st from only rest lacks;
      begin = λ is. false≢true (subst (λ s. IsTrue (takes_lock s)) is from.takes);
    })
    in_hand from.fits name from.on)

-- ---- a page

-- the parts of a task
abbrev its_index : Task → ℕ
its_index (Inserts b k r at on_index) = at
its_index task = 0

abbrev place_in : OnIndex → Spot → Spot
place_in (Copied x old new) other = x
place_in on_index other = other

abbrev its_place : Spot → Task → Spot
its_place other (Inserts b k r at on_index) = place_in on_index other
its_place other task = other

abbrev its_phase : Task → Phase
its_phase (Maintains job at range phase) = phase
its_phase task = Vacant

-- where another session locks the page of the copied tuple, no page is found wanting
never_full : (u : IndexView) (n range number : ℕ) (x : Spot) (old new : IndexTuple) (verdict : Verdict) → SwapVerdict u n range x old new verdict → verdict ≡ verdicts.Full number → IsLocked u.lock n x.block → ⊥
never_full u n range number x old new _ (SwapWaits locked) is by = absurd (cc)
never_full u n range number x old new _ (SwapDiffers free differs) is by = by.2 (free by.0 by.1)
never_full u n range number x old new _ (SwapFits free there regular fits) is by = by.2 (free by.0 by.1)
never_full u n range number x old new _ (SwapMoves verdict free there moves put) is by = by.2 (free by.0 by.1)

module _ (w : TableState) (n m b k at : ℕ) (r : Row) (x : Spot) (old new : IndexTuple) (locked : (w.index at).lock x.block ≡ Some m) (other : m ≢ n) where
  abbrev copied : Task
  copied = Inserts b k r at (Copied x old new)

  fits : (c j : ℕ) (q : Row) (task : Task) → task ≡ copied → IsInsertRefused w n c j q task → ⊥
  fits c j q _ is (IndexFull number i y before after verdict) =
      never_full (index_view_at i w) n (range_in w i c) number y before after (verdicts.Full number) verdict refl
      (m, subst (λ (z : Spot). (w.index i).lock z.block ≡ Some m) (sym (ap (its_place x) is)) (subst (λ (o : ℕ). (w.index o).lock x.block ≡ Some m) (sym (ap its_index is)) locked), other)

  insert_goes_on : (v : TableState) (does : Does n w v) → w.task n ≡ copied → does_refusal n w v does ≡ None
  insert_goes_on v (RefusesRow t refused turns fails) is = absurd (cc)
  insert_goes_on v (RefusesInsert c j q task refused turns fails) is = absurd (fits c j q task (sym turns.was ∙ is) refused)
  insert_goes_on v (RefusesMaintain job i range phase refused turns stepped passes) is = absurd (cc)
  insert_goes_on v (RefusesVacuum task vacuuming turns given rows indexes) is = absurd (subst IsVacuuming (sym turns.was ∙ is) vacuuming)
  insert_goes_on v (RefusesScan scan t turns how) is = absurd (cc)
  insert_goes_on v (Conflicts scan id rest t turns fails) is = absurd (cc)
  insert_goes_on v (PutsRow c j q place turns takes) is = refl
  insert_goes_on v (AsksSummary c j q i turns only) is = refl
  insert_goes_on v (InsertGoes c j q i before after turns stepped step) is = refl
  insert_goes_on v (InsertCompletes c j q i before turns stepped step) is = refl
  insert_goes_on v (TakesLock first begins turns free held rows indexes) is = refl
  insert_goes_on v (MaintainGoes job i range before after turns stepped step) is = refl
  insert_goes_on v (MaintainCompletes job i range before turns stepped step) is = refl
  insert_goes_on v (PrunesBlock extent next dropped inside spared turns drops) is = refl
  insert_goes_on v (SweepsPage i page turns stepped sweeps) is = refl
  insert_goes_on v (RestartsIndex i turns only) is = refl
  insert_goes_on v (BeginsScan scan begins turns only) is = refl
  insert_goes_on v (Judges before after inside low step turns only) is = refl
  insert_goes_on v (ReadsBlock scan next found reads turns only) is = refl
  insert_goes_on v (MarksRow scan id rest turns only) is = refl
  insert_goes_on v (Blocked task blocked turns only) is = refl
  insert_goes_on v (Transacts counts resting few same) is = refl

  insert_blocked : (task : Task) → task ≡ copied → (blocked : IsBlocked w n task) × (waits_for w n task blocked ≡ PageLock at x.block)
  insert_blocked task is = subst (λ t. (blocked : IsBlocked w n t) × (waits_for w n t blocked ≡ PageLock at x.block)) (sym is)
      (InsertWaits x.block b k r at x old new (SwapWaits (m, locked, other)), refl)

pub an_insert_waits : AnInsertWaitsForAPage
an_insert_waits p n m table at b k name values answers r x old new in_hand room is locked other =
    let w = p.tables table in
    let st = statements.Insert table values in
    let waiting = insert_blocked w n m b k at r x old new locked other (w.task n) is in
    let busy : w.task n ≢ Resting = λ rests. absurd (cc) in
    subst (IsToldSo p n name) (said_page name (index_name p.layout table at) x.block (name_of p m))
    (told_so p n m table (record { statement = st; answers = answers }) (PageLock at x.block) (λ i on. on)
    (record {
      blocked = waiting.0;
      waited_is = waiting.1;
      held = locked;
      own = inl busy;
      no_step = λ v does own. (blocked_no_point n w v waiting.0 busy does, insert_goes_on w n m b k at r x old new locked other v does is);
    })
    (record { at_once = λ once. elim once [ ]; nothing = λ work rest empty. absurd (cc); lacks = λ rest lacks. lacks; begin = λ begin. absurd (cc) })
    in_hand room name refl)

no_phase_full : (w : IndexView) (n range number : ℕ) (x : Spot) → IsPhaseFull w n range (NotBuilding (Held x)) number → ⊥
no_phase_full w n range number x full = elim full [ ]

module _ (w : TableState) (n m only at range : ℕ) (x : Spot) (locked : (w.index at).lock x.block ≡ Some m) (other : m ≢ n) where
  abbrev clearing : Task
  clearing = Maintains (Desummarising only) at range (NotBuilding (Held x))

  lacks_none : (u : IndexView) (o : ℕ) (phase : Phase) → phase ≡ NotBuilding (Held x) → IsMaintainRefused u n o phase → ⊥
  lacks_none u o _ is (NoPage number phase full) = no_phase_full u n o number x (subst (λ (f : Phase). IsPhaseFull u n o f number) is full)

  clear_goes_on : (v : TableState) (does : Does n w v) → w.task n ≡ clearing → does_refusal n w v does ≡ None
  clear_goes_on v (RefusesRow t refused turns fails) is = absurd (cc)
  clear_goes_on v (RefusesInsert c j q task refused turns fails) is = absurd (no_insert c j q task (sym turns.was ∙ is) refused)
    where
      no_insert : (c j : ℕ) (q : Row) (task : Task) → task ≡ clearing → IsInsertRefused w n c j q task → ⊥
      no_insert c j q _ is (IndexFull number i y before after verdict) = absurd (cc)
  clear_goes_on v (RefusesMaintain job i o phase refused turns stepped passes) is = absurd (lacks_none (index_view_at i w) o phase (ap its_phase (sym turns.was ∙ is)) refused)
  clear_goes_on v (RefusesVacuum task vacuuming turns given rows indexes) is = absurd (subst IsVacuuming (sym turns.was ∙ is) vacuuming)
  clear_goes_on v (RefusesScan scan t turns how) is = absurd (cc)
  clear_goes_on v (Conflicts scan id rest t turns fails) is = absurd (cc)
  clear_goes_on v (PutsRow c j q place turns takes) is = refl
  clear_goes_on v (AsksSummary c j q i turns only) is = refl
  clear_goes_on v (InsertGoes c j q i before after turns stepped step) is = refl
  clear_goes_on v (InsertCompletes c j q i before turns stepped step) is = refl
  clear_goes_on v (TakesLock first begins turns free held rows indexes) is = refl
  clear_goes_on v (MaintainGoes job i o before after turns stepped step) is = refl
  clear_goes_on v (MaintainCompletes job i o before turns stepped step) is = refl
  clear_goes_on v (PrunesBlock extent next dropped inside spared turns drops) is = refl
  clear_goes_on v (SweepsPage i page turns stepped sweeps) is = refl
  clear_goes_on v (RestartsIndex i turns only) is = refl
  clear_goes_on v (BeginsScan scan begins turns only) is = refl
  clear_goes_on v (Judges before after inside low step turns only) is = refl
  clear_goes_on v (ReadsBlock scan next found reads turns only) is = refl
  clear_goes_on v (MarksRow scan id rest turns only) is = refl
  clear_goes_on v (Blocked task blocked turns only) is = refl
  clear_goes_on v (Transacts counts resting few same) is = refl

  clear_blocked : (task : Task) → task ≡ clearing → (blocked : IsBlocked w n task) × (waits_for w n task blocked ≡ PageLock at x.block)
  clear_blocked task is = subst (λ t. (blocked : IsBlocked w n t) × (waits_for w n t blocked ≡ PageLock at x.block)) (sym is)
      (DesummariseWaits x.block only at range x (ClearWaits x.block (First x.block (map_page_of range ∷ []) (m, locked, other))), refl)

pub a_desummarize_waits : ADesummarizeWaitsForAPage
a_desummarize_waits p n m index block at range only name x in_hand room is locked other =
    let table = (index_at p.layout index).table in
    let w = p.tables table in
    let st = statements.Desummarize index block in
    let waiting = clear_blocked w n m only at range x locked other (w.task n) is in
    let busy : w.task n ≢ Resting = λ rests. absurd (cc) in
    subst (IsToldSo p n name) (said_page name (index_name p.layout table at) x.block (name_of p m))
    (told_so p n m table (new_hand st) (PageLock at x.block) (λ i on. on)
    (record {
      blocked = waiting.0;
      waited_is = waiting.1;
      held = locked;
      own = inl busy;
      no_step = λ v does own. (blocked_no_point n w v waiting.0 busy does, clear_goes_on w n m only at range x locked other v does is);
    })
    (record { at_once = λ once. elim once [ ]; nothing = λ work rest empty. absurd (cc); lacks = λ rest lacks. lacks; begin = λ begin. absurd (cc) })
    in_hand room name refl)
