-- A desummarize that steps alone, at one range of an index.
use Rattle.std.proofs.Common.{◌≡◌, ◌≢◌, ◌⊎◌, inl, inr, ℕ, suc, ◌+◌, List, [], Option, None, Some, refl, sym, ap, ◌∙◌, subst, arith}
use Rattle.std.proofs.lemmas.Option.{none-some, same_Some}
use Rattle.block_model.specs.declared.reply.Point.{Point}
use Rattle.block_model.specs.declared.reply.Reply.{Reply}
use Rattle.block_model.specs.declared.reply.Reply.TheVariants as replies
use Rattle.block_model.specs.RequestEffect.{Answer}
use Rattle.coverage.specs.IndexView.{IndexView}
use Rattle.coverage.specs.Statements.{Dropping, Empty, Held, Holding, Maintaining, NotBuilding, Phase, Statement}
use Rattle.coverage.specs.Counts.{desummarise_count}
use Rattle.coverage.specs.Steps.{Clear, ClearAgain, ClearMap, ClearNone, DesummariseStep, DropCleared}
use Rattle.coverage.specs.Accounts.{Account, Accounts, AccountsStep, Adds}
use Rattle.coverage.specs.Refusals.{Refusal}
use Rattle.coverage.specs.Table.{Considers, Desummarising, Index, Maintains, Resting, TableState, Task, index_view_at}
use Rattle.coverage.specs.TablePoints.{does_point}
use Rattle.coverage.specs.TableSteps.{Does, Settles, TableStep, range_in}
use Rattle.index_steps.specs.IndexTuples.{index_at}
use Rattle.store_layout.specs.declared.statement.Statement.TheVariants as statements
use Rattle.script_semantics.specs.Beginnings.{Begins, StandsAt}
use Rattle.script_semantics.specs.LineTexts as texts
use Rattle.script_semantics.specs.LineTexts.{Finishes, LastStep}
use Rattle.script_semantics.specs.Place.{Hand, Place, accounts_at, new_hand}
use Rattle.script_semantics.specs.StatementSteps as steps
use Rattle.script_semantics.specs.StatementSteps.{AtOnce, Ended, IsRefused, IsWaiting, LacksMemoryAtOnce, MeetsConflict, Moved, NoNumber, NothingAsked, Outcome, Replies, StepsTo}
use Rattle.script_semantics.specs.Turns.{Turn, point_of}
use Rattle.script_laws.specs.TextLaws.{AnswersItsRange, IsCleared}
use Rattle.script_laws.proofs.MaintainDoes.{AtRange, Completes, FindsLocked, Goes, LacksPage, Ranged, SettlesSo, at_first, at_range, settles_so}

-- what its phase says of the range: its entry stands as at first, and nothing is counted; or it had one, and has none now
abbrev pub PhaseSays : (first now : IndexView) → (range count : ℕ) → Phase → Type 0
PhaseSays first now range count (NotBuilding Empty) = (count ≡ 0) × (now.entry range ≡ first.entry range)
PhaseSays first now range count (NotBuilding (Held x)) = (count ≡ 0) × (now.entry range ≡ first.entry range)
PhaseSays first now range count (NotBuilding (Dropping x)) = (count ≡ 1) × (first.entry range ≢ None) × (now.entry range ≡ None)
PhaseSays first now range count phase = ⊥

abbrev pub StatementSays : (first now : IndexView) → (range count : ℕ) → Statement → Type 0
StatementSays first now range count (Maintaining m phase) = PhaseSays first now range count phase
StatementSays first now range count Holding = IsCleared (first.entry range) (now.entry range) count
StatementSays first now range count statement = ⊥

clears : (s range count : ℕ) (first w v : IndexView) (old : Phase) (new : Statement) (step : DesummariseStep s range w v old new) → PhaseSays first w range count old
    → StatementSays first v range (count + desummarise_count step) new
clears s range count first w v _ _ (ClearMap x named reads) says = (omega (arith, says.0), reads.frame.map.entry range ∙ says.1)
clears s range count first w v _ _ (ClearNone none reads) says = record {
  one = ((λ is. absurd (omega (arith, is, says.0))), λ had. absurd (had (sym says.1 ∙ none)));
  most = omega (arith, says.0);
  behind = reads.frame.map.entry range ∙ none;
}
clears s range count first w v _ _ (Clear x verdict cleared these) says =
    (omega (arith, says.0), (λ none. none-some _ (sym none ∙ sym says.1 ∙ cleared.entry.was)), cleared.entry.now)
clears s range count first w v _ _ (ClearAgain x verdict reads) says = (omega (arith, says.0), reads.frame.map.entry range ∙ says.1)
clears s range count first w v _ _ (DropCleared x drops) says = record {
  one = ((λ _. says.1), λ _. omega (arith, says.0));
  most = omega (arith, says.0);
  behind = drops.frame.map.entry range ∙ says.2;
}

-- ---- in the table

module _ (first : TableState) (s at range : ℕ) where
  abbrev pub task_at : Phase → Task
  task_at phase = Maintains (Desummarising range) at range phase

  abbrev pub SaysIn : TableState → ℕ → Phase → Type 0
  SaysIn w count phase = PhaseSays (index_view_at at first) (index_view_at at w) range count phase

  -- it is at a phase of its range, or is done with it
  pub data Comes (w : TableState) (count : ℕ) : Type 0 where
    IsAtPhase : (phase : Phase) → w.task s ≡ task_at phase → SaysIn w count phase → Comes w count
    IsPast : w.task s ≡ Considers (Desummarising range) at (suc range) → IsCleared ((first.index at).entry range) ((w.index at).entry range) count → Comes w count

  pub does_clear : (w v : TableState) (a b : Accounts) (point : Point) (phase : Phase) (does : Does s w v) → does_point s w v does ≡ Some point → Adds s w v does a b → w.task s ≡ task_at phase
      → SaysIn w (a.of s).ranges phase → Comes v (b.of s).ranges
  does_clear w v a b point phase does told adds is says =
      by _ _ (at_range s w v a b (Desummarising range) at range phase does adds is) told
    where
      by : (named : Option Point) (refused : Option Refusal) → AtRange s w v a b (Desummarising range) at range phase named refused → named ≡ Some point → Comes v (b.of s).ranges
      by _ _ (Goes new _ now below step account) told = IsAtPhase new now (subst (λ count. SaysIn v count new) (sym (ap (λ (x : Account). x.ranges) account))
          (clears s range (a.of s).ranges (index_view_at at first) (index_view_at at w) (index_view_at at v) phase (Maintaining range new) step says))
      by _ _ (Completes _ now below step account) told = IsPast now
          (subst (λ count. IsCleared ((first.index at).entry range) ((v.index at).entry range) count) (sym (ap (λ (x : Account). x.ranges) account))
          (clears s range (a.of s).ranges (index_view_at at first) (index_view_at at w) (index_view_at at v) phase Holding step says))
      by _ _ (LacksPage number why full) told = absurd (none-some _ told)
      by _ _ (FindsLocked blocked) told = absurd (none-some _ told)

-- ---- where its step ends

phase_same : (range count : ℕ) (first now next : IndexView) (phase : Phase) → next.entry range ≡ now.entry range → PhaseSays first now range count phase → PhaseSays first next range count phase
phase_same range count first now next (NotBuilding Empty) same says = (says.0, same ∙ says.1)
phase_same range count first now next (NotBuilding (Held x)) same says = (says.0, same ∙ says.1)
phase_same range count first now next (NotBuilding (Dropping x)) same says = (says.0, says.1, same ∙ says.2)
phase_same range count first now next phase same says = absurd says

module _ (first : TableState) (s at range : ℕ) where
  -- it is at its range still; or it is done
  pub data Ends (w : TableState) (count : ℕ) : Type 0 where
    StillAt : (phase : Phase) → w.task s ≡ task_at first s at range phase → SaysIn first s at range w count phase → Ends w count
    IsDone : w.task s ≡ Resting → IsCleared ((first.index at).entry range) ((w.index at).entry range) count → Ends w count

  settles_in : (w v : TableState) (count : ℕ) → Comes first s at range w count → Settles s w v → Ends v count
  settles_in w v count (IsAtPhase phase is says) settles =
      let so = subst (SettlesSo s w v) is (settles_so s w v settles) in
      StillAt phase so.0 (phase_same range count (index_view_at at first) (index_view_at at w) (index_view_at at v) phase (ap (λ (x : Index). x.entry range) (so.1.index at)) says)
  settles_in w v count (IsPast is cleared) settles = by (subst (SettlesSo s w v) is (settles_so s w v settles))
    where
      by : Ranged s w v (Desummarising range) at (suc range) → Ends v count
      by (same, inl has) = absurd (omega (arith, has.0))
      by (same, inr none) = IsDone none.1 (subst (λ (x : Index). IsCleared ((first.index at).entry range) (x.entry range) count) (sym (same.index at)) cleared)

  -- a step at its range
  pub steps_on : (w v : TableState) (a b : Accounts) (point : Point) (phase : Phase) (step : TableStep s w v) → does_point s w step.between step.does ≡ Some point
      → AccountsStep s w step.between step.does a b → w.task s ≡ task_at first s at range phase → SaysIn first s at range w (a.of s).ranges phase → Ends v (b.of s).ranges
  steps_on w v a b point phase step told accounts is says =
      settles_in step.between v (b.of s).ranges (does_clear first s at range w step.between a b point phase step.does told accounts.adds is says) step.settles

-- ---- its first step

module _ (s at range : ℕ) where
  abbrev begun : Task
  begun = Considers (Desummarising range) at range

  first_settles : (w u v : TableState) → u.index at ≡ w.index at → u.task s ≡ begun → Settles s u v
      → (v.task s ≡ Maintains (Desummarising range) at range (NotBuilding Empty)) × ((v.index at).entry range ≡ (w.index at).entry range)
  first_settles w u v same is settles = by (subst (SettlesSo s u v) is (settles_so s u v settles))
    where
      by : Ranged s u v (Desummarising range) at range → (v.task s ≡ Maintains (Desummarising range) at range (NotBuilding Empty)) × ((v.index at).entry range ≡ (w.index at).entry range)
      by (on, inl has) = (has.1, ap (λ (x : Index). x.entry range) (on.index at ∙ same))
      by (on, inr none) = absurd (none.0 refl)

  pub first_step : (w v : TableState) (a b : Accounts) (point : Point) (step : TableStep s w v) → does_point s w step.between step.does ≡ Some point
      → AccountsStep s w step.between step.does a b → w.task s ≡ Resting → step.between.task s ≡ begun → Ends w s at range v (b.of s).ranges
  first_step w v a b point step told accounts rests is =
      let did = at_first s w step.between a b (Desummarising range) at range step.does accounts.adds rests is in
      let settled = first_settles w step.between v (did.0.index at) is step.settles in
      StillAt (NotBuilding Empty) settled.0 (ap (λ (x : Account). x.ranges) did.1, settled.1)

-- ---- over a finish

abbrev desummarized : Outcome → Option ℕ
desummarized (Ended (replies.Desummarized count)) = Some count
desummarized outcome = None

-- a step of the session on this table
record TurnsIn (n t index block : ℕ) (p q : Place) : Type 0 where
  step : TableStep n (p.tables t) (q.tables t)
  point : Point
  told : does_point n (p.tables t) step.between step.does ≡ Some point
  accounts : AccountsStep n (p.tables t) step.between step.does (accounts_at p t) (accounts_at q t)
  first : (p.tables t).task n ≡ Resting → (at : ℕ) × StandsAt p.layout index at × (step.between.task n ≡ begun n at (range_in (p.tables t) at block))

module _ (n index block : ℕ) where
  abbrev hand_with : List Answer → Hand
  hand_with answers = record { statement = statements.Desummarize index block; answers = answers }

  turns_here : (p q : Place) (turn : Turn p n (statements.Desummarize index block) q) (point : Point) → point_of turn ≡ Some point → TurnsIn n turn.table index block p q
  turns_here p q turn point told = record { step = turn.step; point = point; told = told; accounts = turn.accounts; first = λ rests. by rests turn.own }
    where
      by : (p.tables turn.table).task n ≡ Resting
          → ((p.tables turn.table).task n ≢ Resting) ⊎ Begins p n (p.tables turn.table) (statements.Desummarize index block) (turn.step.between.task n)
          → (at : ℕ) × StandsAt p.layout index at × (turn.step.between.task n ≡ begun n at (range_in (p.tables turn.table) at block))
      by rests (inl busy) = absurd (busy rests)
      by rests (inr begins) = begins

  -- a step that goes on
  record GoesIn (t : ℕ) (p q : Place) : Type 0 where
    turns : TurnsIn n t index block p q
    answers : List Answer
    in_hand : q.hands n ≡ Some (hand_with answers)
    busy : (q.tables t).task n ≢ Resting
    layout : q.layout ≡ p.layout

  goes_in : (t : ℕ) (p : Place) (answers : List Answer) (point : Point) (q : Place) → (index_at p.layout index).table ≡ t → StepsTo p n (hand_with answers) (Moved point) q → GoesIn t p q
  goes_in t p answers _ _ is (steps.GoesOn point c q turn named on made leads) = record {
    turns = subst (λ i. TurnsIn n i index block p q) (turn.on ∙ is) (turns_here p q turn point named);
    answers = c.answers;
    in_hand = leads.hand;
    busy = subst (λ i. (q.tables i).task n ≢ Resting) (turn.on ∙ is) on;
    layout = leads.layout;
  }

  -- the step that replies
  record RepliesIn (t : ℕ) (p q : Place) (count : ℕ) : Type 0 where
    turns : TurnsIn n t index block p q
    rests : (q.tables t).task n ≡ Resting
    counted : (q.accounts n).ranges ≡ count

  replies_in : (t count : ℕ) (p : Place) (answers : List Answer) (outcome : Outcome) (q : Place) → (index_at p.layout index).table ≡ t → desummarized outcome ≡ Some count
      → StepsTo p n (hand_with answers) outcome q → RepliesIn t p q count
  replies_in t count p answers _ _ is told (steps.GoesOn point c q turn named on made leads) = absurd (none-some _ told)
  replies_in t count p answers _ _ is told (Replies point c reply q turn named rests all replied leads) = record {
    turns = subst (λ i. TurnsIn n i index block p q) (turn.on ∙ is) (turns_here p q turn point named);
    rests = subst (λ i. (q.tables i).task n ≡ Resting) (turn.on ∙ is) rests;
    counted = same_Some _ _ (sym (ap (λ (r : Reply). desummarized (Ended r)) (same_Some _ _ replied)) ∙ told);
  }
  replies_in t count p answers _ _ is told (MeetsConflict id c q turn named all replied leads) = absurd (none-some _ told)
  replies_in t count p answers _ _ is told (IsRefused why tag because q turn named so leads) = absurd (none-some _ told)
  replies_in t count p answers _ _ is told (AtOnce c reply q once all replied stay leads) = elim once [ ]
  replies_in t count p answers _ _ is told (NothingAsked q work rest empty stay leads) = absurd (none-some _ told)
  replies_in t count p answers _ _ is told (LacksMemoryAtOnce q looking rest stay leads) = absurd (none-some _ told)
  replies_in t count p answers _ _ is told (NoNumber q begin next stay leads) = absurd (none-some _ told)
  replies_in t count p answers _ _ is told (IsWaiting table because on own blocked waits) = absurd (none-some _ told)

  module _ (first : TableState) (at range t count : ℕ) where
    ends_done : (q : Place) → Ends first n at range (q.tables t) (q.accounts n).ranges → (q.tables t).task n ≡ Resting → (q.accounts n).ranges ≡ count
        → IsCleared ((first.index at).entry range) (((q.tables t).index at).entry range) count
    ends_done q (StillAt phase is says) rests counted = absurd (cc)
    ends_done q (IsDone is cleared) rests counted = subst (IsCleared ((first.index at).entry range) (((q.tables t).index at).entry range)) counted cleared

    in_steps : (p q : Place) (outcome : Outcome) (answers : List Answer) → desummarized outcome ≡ Some count → p.hands n ≡ Some (hand_with answers)
        → (index_at p.layout index).table ≡ t → (p.tables t).task n ≢ Resting → Ends first n at range (p.tables t) (p.accounts n).ranges → Finishes n p outcome q
        → IsCleared ((first.index at).entry range) (((q.tables t).index at).entry range) count
    in_steps _ _ _ answers told there is busy (IsDone rests cleared) finishes = absurd (busy rests)
    in_steps _ _ _ answers told there is busy (StillAt phase at_it says) (LastStep p q outcome last step) =
        let last_one = replies_in t count p answers outcome q is told (subst (λ h. StepsTo p n h outcome q) (same_Some _ _ (sym step.in_hand ∙ there)) step.steps) in
        ends_done q
        (steps_on first n at range (p.tables t) (q.tables t) (accounts_at p t) (accounts_at q t) last_one.turns.point phase last_one.turns.step last_one.turns.told last_one.turns.accounts at_it says)
        last_one.rests last_one.counted
    in_steps _ _ _ answers told there is busy (StillAt phase at_it says) (texts.Further p q r point outcome step more) =
        let goes = goes_in t p answers point q is (subst (λ h. StepsTo p n h (Moved point) q) (same_Some _ _ (sym step.in_hand ∙ there)) step.steps) in
        in_steps q r outcome goes.answers told goes.in_hand (ap (λ l. (index_at l index).table) goes.layout ∙ is) goes.busy
        (steps_on first n at range (p.tables t) (q.tables t) (accounts_at p t) (accounts_at q t) goes.turns.point phase goes.turns.step goes.turns.told goes.turns.accounts at_it says)
        more

  whole : (t count : ℕ) (p q : Place) (outcome : Outcome) → desummarized outcome ≡ Some count → p.hands n ≡ Some (hand_with []) → (index_at p.layout index).table ≡ t
      → (p.tables t).task n ≡ Resting → Finishes n p outcome q → AnswersItsRange t index block p q count
  whole t count _ _ _ told there is rests (LastStep p q outcome last step) =
      let last_one = replies_in t count p [] outcome q is told (subst (λ h. StepsTo p n h outcome q) (same_Some _ _ (sym step.in_hand ∙ there)) step.steps) in
      let began = last_one.turns.first rests in
      record {
        at = began.0;
        stands = began.1;
        cleared = ends_done (p.tables t) began.0 (range_in (p.tables t) began.0 block) t count q
            (first_step n began.0 (range_in (p.tables t) began.0 block) (p.tables t) (q.tables t) (accounts_at p t) (accounts_at q t) last_one.turns.point last_one.turns.step last_one.turns.told
            last_one.turns.accounts rests began.2) last_one.rests last_one.counted;
      }
  whole t count _ _ _ told there is rests (texts.Further p q r point outcome step more) =
      let goes = goes_in t p [] point q is (subst (λ h. StepsTo p n h (Moved point) q) (same_Some _ _ (sym step.in_hand ∙ there)) step.steps) in
      let began = goes.turns.first rests in
      record {
        at = began.0;
        stands = began.1;
        cleared = in_steps (p.tables t) began.0 (range_in (p.tables t) began.0 block) t count q r outcome goes.answers told goes.in_hand
            (ap (λ l. (index_at l index).table) goes.layout ∙ is) goes.busy
            (first_step n began.0 (range_in (p.tables t) began.0 block) (p.tables t) (q.tables t) (accounts_at p t) (accounts_at q t) goes.turns.point goes.turns.step goes.turns.told
            goes.turns.accounts rests began.2) more;
      }

pub desummarize_answers : (p q : Place) (n index block count : ℕ) → p.hands n ≡ Some (new_hand (statements.Desummarize index block))
    → (p.tables (index_at p.layout index).table).task n ≡ Resting → Finishes n p (Ended (replies.Desummarized count)) q → AnswersItsRange (index_at p.layout index).table index block p q count
desummarize_answers p q n index block count there rests finishes =
    whole n index block (index_at p.layout index).table count p q (Ended (replies.Desummarized count)) refl there refl rests finishes
