-- A summarize of a whole table that steps alone counts each of its ranges that had no final tuple, and leaves none without.
use Rattle.std.proofs.Common.{◌≡◌, ◌≢◌, ◌⊎◌, inl, inr, ⊎_elim, ℕ, suc, ◌+◌, ◌*◌, ◌≤◌, ◌<◌, List, [], Option, None, Some, refl, sym, ap, ◌∙◌, subst, arith}
use Rattle.std.proofs.lemmas.Bool.{cases_eq}
use Rattle.std.proofs.lemmas.Option.{none-some, same_Some}
use Rattle.block_model.specs.declared.reply.Point.{Point}
use Rattle.block_model.specs.declared.reply.Reply.{Reply}
use Rattle.block_model.specs.declared.reply.Reply.TheVariants as replies
use Rattle.block_model.specs.RequestEffect.{Answer}
use Rattle.coverage.specs.Counts.{IsCountBelow, NoneBelow, NotThisOne, OneMoreBelow, summarise_count}
use Rattle.coverage.specs.IndexView.{IndexView}
use Rattle.coverage.specs.IsSound.{IsSound}
use Rattle.coverage.specs.Knowing.{Knows, KnowsPhase}
use Rattle.coverage.specs.Statements.{Empty, Holding, Maintaining, NotBuilding, Phase, Statement}
use Rattle.coverage.specs.Steps.{SummariseStep}
use Rattle.coverage.proofs.FinalsElsewhere.{summarise_elsewhere}
use Rattle.coverage.proofs.Numbers.{lt_or_ge}
use Rattle.index_steps.specs.IndexTuples.{index_at}
use Rattle.store_layout.specs.declared.statement.Statement.TheVariants as statements
use Rattle.coverage.specs.Accounts.{Account, Accounts, AccountsStep, Adds}
use Rattle.coverage.specs.Refusals.{Refusal}
use Rattle.coverage.specs.Table.{Considers, EachRange, Index, Maintains, Resting, TableState, Task, index_view_at, seen_by}
use Rattle.coverage.specs.TableCovered.{IsTableKept}
use Rattle.coverage.specs.TablePoints.{does_point}
use Rattle.coverage.specs.TableSteps.{Does, Settles, TableStep}
use Rattle.coverage.proofs.TableSeen.{table_step_kept}
use Rattle.coverage.proofs.Views.{pick_same}
use Rattle.script_semantics.specs.Beginnings.{Begins, StandsAt}
use Rattle.script_semantics.specs.LineTexts as texts
use Rattle.script_semantics.specs.LineTexts.{Finishes, LastStep}
use Rattle.script_semantics.specs.Place.{Hand, Place, accounts_at, new_hand}
use Rattle.script_semantics.specs.StatementSteps as steps
use Rattle.script_semantics.specs.StatementSteps.{AtOnce, Ended, IsRefused, IsWaiting, LacksMemoryAtOnce, MeetsConflict, Moved, NoNumber, NothingAsked, Outcome, Replies, StepsTo}
use Rattle.script_semantics.specs.Turns.{Turn, point_of}
use Rattle.script_laws.specs.TextLaws.{CountsItsRanges, HasFinal}
use Rattle.script_laws.proofs.Calm.{calm, calmed, same_view, steps_calm}
use Rattle.script_laws.proofs.MaintainDoes.{AtRange, Completes, FindsLocked, Goes, LacksPage, Ranged, SettlesSo, at_first, at_range, settles_so}
use Rattle.script_laws.proofs.SummaryStep.{IsOver, PhaseSays, StatementSays, elsewhere_on, own_on, own_says, step_per}

-- what holds of the ranges where so many of those before this one are counted
record Stands (first now : Index) (extent r c : ℕ) : Type 0 where
  on : (m : ℕ) → HasFinal first m → HasFinal now m
  ahead : (m : ℕ) → r < m → HasFinal now m → HasFinal first m
  behind : (m : ℕ) → m < r → HasFinal now m
  counted : IsCountBelow (λ m. HasFinal first m → ⊥) r c
  ranges : (m : ℕ) → m < r → m * first.pages_per_range < extent
  per : now.pages_per_range ≡ first.pages_per_range

lower_one : (m r : ℕ) → m < suc r → r ≤ m → m ≡ r
lower_one m r less ge = omega arith

onto : (m r : ℕ) → suc r < m → r < m
onto m r less = omega arith

self_on : (r : ℕ) → r < suc r
self_on r = omega arith

apart_less : (m r : ℕ) → m < r → m ≡ r → ⊥
apart_less m r less is = omega arith

apart_more : (m r : ℕ) → r < m → m ≡ r → ⊥
apart_more m r less is = omega arith

-- behind its last step the range is one of those before
next_range : (first now : Index) (extent r c count : ℕ) → Stands first now extent r c → r * first.pages_per_range < extent → IsOver (HasFinal first r) (HasFinal now r) c count
    → Stands first now extent (suc r) count
next_range first now extent r c count stands has over = record {
  on = stands.on;
  ahead = λ m less. stands.ahead m (onto m r less);
  behind = λ m less. ⊎_elim
      (λ (before : m < r). stands.behind m before)
      (λ (ge : r ≤ m). subst (HasFinal now) (sym (lower_one m r less ge)) over.0)
      (lt_or_ge m r);
  counted = ⊎_elim
      (λ (had : (count ≡ c) × HasFinal first r). subst (IsCountBelow (λ m. HasFinal first m → ⊥) (suc r)) (sym had.0) (NotThisOne r c (λ lacks. lacks had.1) stands.counted))
      (λ (one : (count ≡ suc c) × (HasFinal first r → ⊥)). subst (IsCountBelow (λ m. HasFinal first m → ⊥) (suc r)) (sym one.0) (OneMoreBelow r c one.1 stands.counted))
      over.1;
  ranges = λ m less. ⊎_elim
      (λ (before : m < r). stands.ranges m before)
      (λ (ge : r ≤ m). subst (λ k. k * first.pages_per_range < extent) (sym (lower_one m r less ge)) has)
      (lt_or_ge m r);
  per = stands.per;
}

-- ---- the steps of the table

module _ (first : Index) (s at extent : ℕ) where
  abbrev task_at : ℕ → Phase → Task
  task_at range phase = Maintains (EachRange extent) at range phase

  abbrev Says : TableState → (c count range : ℕ) → Phase → Type 0
  Says w c count range phase = PhaseSays (HasFinal first range) (HasFinal (w.index at) range) ((w.index at).entry range) c count phase

  -- between what it does and where it comes by that
  data Comes (w : TableState) (count : ℕ) : Type 0 where
    IsAtPhase : (r c : ℕ) (phase : Phase) → w.task s ≡ task_at r phase → r * first.pages_per_range < extent → Stands first (w.index at) extent r c → Says w c count r phase → Comes w count
    IsBefore : (r : ℕ) → w.task s ≡ Considers (EachRange extent) at r → (HasFinal (w.index at) r → HasFinal first r) → Stands first (w.index at) extent r count → Comes w count

  -- it is at a range; or it is done
  data Ends (w : TableState) (count : ℕ) : Type 0 where
    StillAt : (r c : ℕ) (phase : Phase) → w.task s ≡ task_at r phase → r * first.pages_per_range < extent → Stands first (w.index at) extent r c → Says w c count r phase → Ends w count
    IsDone : (r : ℕ) → w.task s ≡ Resting → (r * first.pages_per_range < extent → ⊥) → Stands first (w.index at) extent r count → Ends w count

  settles_in : (w v : TableState) (count : ℕ) → Comes w count → Settles s w v → Ends v count
  settles_in w v count (IsAtPhase r c phase is has stands says) settles =
      let so = subst (SettlesSo s w v) is (settles_so s w v settles) in
      StillAt r c phase so.0 has
      (subst (λ (x : Index). Stands first x extent r c) (sym (so.1.index at)) stands)
      (subst (λ (x : Index). PhaseSays (HasFinal first r) (HasFinal x r) (x.entry r) c count phase) (sym (so.1.index at)) says)
  settles_in w v count (IsBefore r is here stands) settles = by (subst (SettlesSo s w v) is (settles_so s w v settles))
    where
      by : Ranged s w v (EachRange extent) at r → Ends v count
      by (same, inl has) =
          StillAt r count (NotBuilding Empty) has.1 (subst (λ p. r * p < extent) stands.per has.0)
          (subst (λ (x : Index). Stands first x extent r count) (sym (same.index at)) stands)
          (refl, subst (λ (x : Index). HasFinal x r → HasFinal first r) (sym (same.index at)) here)
      by (same, inr none) =
          IsDone r none.1 (λ has. none.0 (subst (λ p. r * p < extent) (sym stands.per) has))
          (subst (λ (x : Index). Stands first x extent r count) (sym (same.index at)) stands)

  -- ---- what a step at its range does
  module _ (w v : TableState) (kept : IsTableKept (calm w)) (below : at < w.indexes) (before count r c : ℕ) (phase : Phase) (is : w.task s ≡ task_at r phase) where
    sound : IsSound (index_view_at at w)
    sound = subst IsSound (sym (same_view at w)) (kept.indexes at below).sound

    seen : seen_by at (calmed (w.task s)) ≡ Maintaining r phase
    seen = ap (λ t. seen_by at (calmed t)) is ∙ pick_same at (Maintaining r phase) Holding

    known : KnowsPhase (index_view_at at w) s r phase
    known = subst (λ (x : IndexView). KnowsPhase x s r phase) (sym (same_view at w)) (subst (Knows (index_view_at at (calm w)) s) seen ((kept.indexes at below).knows s)).1

    module _ (stands : Stands first (w.index at) extent r c) (says : Says w c before r phase) (new : Statement)
        (step : SummariseStep s r (index_view_at at w) (index_view_at at v) phase new) (count_is : count ≡ before + summarise_count step) where
      now_says : StatementSays (HasFinal first r) (HasFinal (v.index at) r) ((v.index at).entry r) c count new
      now_says = subst (λ k. StatementSays (HasFinal first r) (HasFinal (v.index at) r) ((v.index at).entry r) c k new) (sym count_is)
          (own_says s (index_view_at at w) (index_view_at at v) (HasFinal first r) r c before phase new sound known (stands.on r) says step)

      other_on : (m : ℕ) → m ≢ r → HasFinal (w.index at) m → HasFinal (v.index at) m
      other_on m other = elsewhere_on s (index_view_at at w) (index_view_at at v) m r phase new sound.entries_name_tuples known other step

      still : Stands first (v.index at) extent r c
      still = record {
        on = λ m had. ⊎_elim
            (λ (one : m ≡ r).
            let had_r : HasFinal first r = subst (HasFinal first) one had in
            subst (HasFinal (v.index at)) (sym one) (own_on s (index_view_at at w) (index_view_at at v) (HasFinal first r) r c before phase new says step had_r (stands.on r had_r)))
            (λ (other : m ≢ r). other_on m other (stands.on m had))
            (cases_eq m r);
        ahead = λ m less final. stands.ahead m less
            (summarise_elsewhere s (index_view_at at w) (index_view_at at v) m r phase new sound.entries_name_tuples known (apart_more m r less) step final);
        behind = λ m less. other_on m (apart_less m r less) (stands.behind m less);
        counted = stands.counted;
        ranges = stands.ranges;
        per = step_per s (index_view_at at w) (index_view_at at v) r phase new step ∙ stands.per;
      }

  does_sum : (w v : TableState) (a b : Accounts) (point : Point) (r c : ℕ) (phase : Phase) (does : Does s w v) → does_point s w v does ≡ Some point → Adds s w v does a b → IsTableKept (calm w)
      → w.task s ≡ task_at r phase → r * first.pages_per_range < extent → Stands first (w.index at) extent r c → Says w c (a.of s).ranges r phase → Comes v (b.of s).ranges
  does_sum w v a b point r c phase does told adds kept is has stands says = by _ _ (at_range s w v a b (EachRange extent) at r phase does adds is) told
    where
      by : (named : Option Point) (refused : Option Refusal) → AtRange s w v a b (EachRange extent) at r phase named refused → named ≡ Some point → Comes v (b.of s).ranges
      by _ _ (Goes new _ now below step account) told =
          let counted = ap (λ (x : Account). x.ranges) account in
          IsAtPhase r c new now has
          (still w v kept below (a.of s).ranges (b.of s).ranges r c phase is stands says (Maintaining r new) step counted)
          (now_says w v kept below (a.of s).ranges (b.of s).ranges r c phase is stands says (Maintaining r new) step counted)
      by _ _ (Completes _ now below step account) told =
          let counted = ap (λ (x : Account). x.ranges) account in
          let on = still w v kept below (a.of s).ranges (b.of s).ranges r c phase is stands says Holding step counted in
          IsBefore (suc r) now (on.ahead (suc r) (self_on r))
          (next_range first (v.index at) extent r c (b.of s).ranges on has
          (now_says w v kept below (a.of s).ranges (b.of s).ranges r c phase is stands says Holding step counted))
      by _ _ (LacksPage number why full) told = absurd (none-some _ told)
      by _ _ (FindsLocked blocked) told = absurd (none-some _ told)

  -- a step at a range
  steps_on : (w v : TableState) (a b : Accounts) (point : Point) (step : TableStep s w v) → does_point s w step.between step.does ≡ Some point
      → AccountsStep s w step.between step.does a b → IsTableKept (calm w) → (w.task s ≢ Resting) → Ends w (a.of s).ranges → Ends v (b.of s).ranges
  steps_on w v a b point step told accounts kept busy (StillAt r c phase is has stands says) =
      settles_in step.between v (b.of s).ranges (does_sum w step.between a b point r c phase step.does told accounts.adds kept is has stands says) step.settles
  steps_on w v a b point step told accounts kept busy (IsDone r rests past stands) = absurd (busy rests)

-- ---- its first step

none_less : (m : ℕ) → m < 0 → ⊥
none_less m less = omega arith

module _ (s at extent : ℕ) where
  abbrev begun : Task
  begun = Considers (EachRange extent) at 0

  -- no range is counted at first
  none_counted : (x : Index) → Stands x x extent 0 0
  none_counted x = record {
    on = λ m had. had;
    ahead = λ m less had. had;
    behind = λ m less. absurd (none_less m less);
    counted = NoneBelow;
    ranges = λ m less. absurd (none_less m less);
    per = refl;
  }

  first_step : (w v : TableState) (a b : Accounts) (point : Point) (step : TableStep s w v) → does_point s w step.between step.does ≡ Some point
      → AccountsStep s w step.between step.does a b → w.task s ≡ Resting → step.between.task s ≡ begun → Ends (w.index at) s at extent v (b.of s).ranges
  first_step w v a b point step told accounts rests is =
      let did = at_first s w step.between a b (EachRange extent) at 0 step.does accounts.adds rests is in
      settles_in (w.index at) s at extent step.between v (b.of s).ranges
      (IsBefore 0 is (subst (λ (x : Index). HasFinal x 0 → HasFinal (w.index at) 0) (sym (did.0.index at)) (λ had. had))
      (subst (λ (x : Index). Stands (w.index at) x extent 0 (b.of s).ranges) (sym (did.0.index at))
      (subst (Stands (w.index at) (w.index at) extent 0) (sym (ap (λ (x : Account). x.ranges) did.1)) (none_counted (w.index at)))))
      step.settles

-- ---- over a finish

abbrev summarized : Outcome → Option ℕ
summarized (Ended (replies.Summarized count)) = Some count
summarized outcome = None

-- a step of the session on this table
record TurnsIn (n t index : ℕ) (p q : Place) : Type 0 where
  step : TableStep n (p.tables t) (q.tables t)
  point : Point
  told : does_point n (p.tables t) step.between step.does ≡ Some point
  accounts : AccountsStep n (p.tables t) step.between step.does (accounts_at p t) (accounts_at q t)
  first : (p.tables t).task n ≡ Resting → (at : ℕ) × StandsAt p.layout index at × (step.between.task n ≡ begun n at (p.tables t).blocks)

module _ (n index : ℕ) where
  abbrev hand_with : List Answer → Hand
  hand_with answers = record { statement = statements.Summarize index None; answers = answers }

  turns_here : (p q : Place) (turn : Turn p n (statements.Summarize index None) q) (point : Point) → point_of turn ≡ Some point → TurnsIn n turn.table index p q
  turns_here p q turn point told = record { step = turn.step; point = point; told = told; accounts = turn.accounts; first = λ rests. by rests turn.own }
    where
      by : (p.tables turn.table).task n ≡ Resting
          → ((p.tables turn.table).task n ≢ Resting) ⊎ Begins p n (p.tables turn.table) (statements.Summarize index None) (turn.step.between.task n)
          → (at : ℕ) × StandsAt p.layout index at × (turn.step.between.task n ≡ begun n at (p.tables turn.table).blocks)
      by rests (inl busy) = absurd (busy rests)
      by rests (inr begins) = begins

  -- a step that goes on
  record GoesIn (t : ℕ) (p q : Place) : Type 0 where
    turns : TurnsIn n t index p q
    answers : List Answer
    in_hand : q.hands n ≡ Some (hand_with answers)
    busy : (q.tables t).task n ≢ Resting
    layout : q.layout ≡ p.layout

  goes_in : (t : ℕ) (p : Place) (answers : List Answer) (point : Point) (q : Place) → (index_at p.layout index).table ≡ t → StepsTo p n (hand_with answers) (Moved point) q → GoesIn t p q
  goes_in t p answers _ _ is (steps.GoesOn point c q turn named on made leads) = record {
    turns = subst (λ i. TurnsIn n i index p q) (turn.on ∙ is) (turns_here p q turn point named);
    answers = c.answers;
    in_hand = leads.hand;
    busy = subst (λ i. (q.tables i).task n ≢ Resting) (turn.on ∙ is) on;
    layout = leads.layout;
  }

  -- the step that replies
  record RepliesIn (t : ℕ) (p q : Place) (count : ℕ) : Type 0 where
    turns : TurnsIn n t index p q
    rests : (q.tables t).task n ≡ Resting
    counted : (q.accounts n).ranges ≡ count

  replies_in : (t count : ℕ) (p : Place) (answers : List Answer) (outcome : Outcome) (q : Place) → (index_at p.layout index).table ≡ t → summarized outcome ≡ Some count
      → StepsTo p n (hand_with answers) outcome q → RepliesIn t p q count
  replies_in t count p answers _ _ is told (steps.GoesOn point c q turn named on made leads) = absurd (none-some _ told)
  replies_in t count p answers _ _ is told (Replies point c reply q turn named rests all replied leads) = record {
    turns = subst (λ i. TurnsIn n i index p q) (turn.on ∙ is) (turns_here p q turn point named);
    rests = subst (λ i. (q.tables i).task n ≡ Resting) (turn.on ∙ is) rests;
    counted = same_Some _ _ (sym (ap (λ (r : Reply). summarized (Ended r)) (same_Some _ _ replied)) ∙ told);
  }
  replies_in t count p answers _ _ is told (MeetsConflict id c q turn named all replied leads) = absurd (none-some _ told)
  replies_in t count p answers _ _ is told (IsRefused why tag because q turn named so leads) = absurd (none-some _ told)
  replies_in t count p answers _ _ is told (AtOnce c reply q once all replied stay leads) = elim once [ ]
  replies_in t count p answers _ _ is told (NothingAsked q work rest empty stay leads) = absurd (none-some _ told)
  replies_in t count p answers _ _ is told (LacksMemoryAtOnce q looking rest stay leads) = absurd (none-some _ told)
  replies_in t count p answers _ _ is told (NoNumber q begin next stay leads) = absurd (none-some _ told)
  replies_in t count p answers _ _ is told (IsWaiting table because on own blocked waits) = absurd (none-some _ told)

  kept_on : (t : ℕ) (p q : Place) → TurnsIn n t index p q → IsTableKept (calm (p.tables t)) → IsTableKept (calm (q.tables t))
  kept_on t p q turns kept = table_step_kept n (calm (p.tables t)) (calm (q.tables t)) kept (steps_calm n (p.tables t) (q.tables t) turns.step)

  -- what is told of the ranges in the end
  module _ (first : Index) (at extent t count : ℕ) where
    record Told (q : Place) : Type 0 where
      below : ℕ
      past : below * first.pages_per_range < extent → ⊥
      stands : Stands first ((q.tables t).index at) extent below count

    ends_done : (q : Place) → Ends first n at extent (q.tables t) (q.accounts n).ranges → (q.tables t).task n ≡ Resting → (q.accounts n).ranges ≡ count → Told q
    ends_done q (StillAt r c phase is has stands says) rests counted = absurd (cc)
    ends_done q (IsDone r is past stands) rests counted = record { below = r; past = past; stands = subst (Stands first ((q.tables t).index at) extent r) counted stands }

    in_steps : (p q : Place) (outcome : Outcome) (answers : List Answer) → summarized outcome ≡ Some count → p.hands n ≡ Some (hand_with answers) → (index_at p.layout index).table ≡ t
        → (p.tables t).task n ≢ Resting → IsTableKept (calm (p.tables t)) → Ends first n at extent (p.tables t) (p.accounts n).ranges → Finishes n p outcome q → Told q
    in_steps _ _ _ answers told there is busy kept ends (LastStep p q outcome last step) =
        let last_one = replies_in t count p answers outcome q is told (subst (λ h. StepsTo p n h outcome q) (same_Some _ _ (sym step.in_hand ∙ there)) step.steps) in
        ends_done q
        (steps_on first n at extent (p.tables t) (q.tables t) (accounts_at p t) (accounts_at q t) last_one.turns.point last_one.turns.step last_one.turns.told last_one.turns.accounts kept busy ends)
        last_one.rests last_one.counted
    in_steps _ _ _ answers told there is busy kept ends (texts.Further p q r point outcome step more) =
        let goes = goes_in t p answers point q is (subst (λ h. StepsTo p n h (Moved point) q) (same_Some _ _ (sym step.in_hand ∙ there)) step.steps) in
        in_steps q r outcome goes.answers told goes.in_hand (ap (λ l. (index_at l index).table) goes.layout ∙ is) goes.busy (kept_on t p q goes.turns kept)
        (steps_on first n at extent (p.tables t) (q.tables t) (accounts_at p t) (accounts_at q t) goes.turns.point goes.turns.step goes.turns.told goes.turns.accounts kept busy ends)
        more

  telling : (t count : ℕ) (p q : Place) (at : ℕ) → StandsAt p.layout index at → Told ((p.tables t).index at) at (p.tables t).blocks t count q → CountsItsRanges t index p q count
  telling t count p q at stands told = record {
    at = at;
    stands = stands;
    below = told.below;
    ranges = told.stands.ranges;
    past = told.past;
    counted = told.stands.counted;
    finals = told.stands.behind;
  }

  whole : (t count : ℕ) (p q : Place) (outcome : Outcome) → summarized outcome ≡ Some count → p.hands n ≡ Some (hand_with []) → (index_at p.layout index).table ≡ t
      → (p.tables t).task n ≡ Resting → IsTableKept (calm (p.tables t)) → Finishes n p outcome q → CountsItsRanges t index p q count
  whole t count _ _ _ told there is rests kept (LastStep p q outcome last step) =
      let last_one = replies_in t count p [] outcome q is told (subst (λ h. StepsTo p n h outcome q) (same_Some _ _ (sym step.in_hand ∙ there)) step.steps) in
      let began = last_one.turns.first rests in
      telling t count p q began.0 began.1
      (ends_done ((p.tables t).index began.0) began.0 (p.tables t).blocks t count q
      (first_step n began.0 (p.tables t).blocks (p.tables t) (q.tables t) (accounts_at p t) (accounts_at q t) last_one.turns.point last_one.turns.step last_one.turns.told
      last_one.turns.accounts rests began.2) last_one.rests last_one.counted)
  whole t count _ _ _ told there is rests kept (texts.Further p q r point outcome step more) =
      let goes = goes_in t p [] point q is (subst (λ h. StepsTo p n h (Moved point) q) (same_Some _ _ (sym step.in_hand ∙ there)) step.steps) in
      let began = goes.turns.first rests in
      telling t count p r began.0 began.1
      (in_steps ((p.tables t).index began.0) began.0 (p.tables t).blocks t count q r outcome goes.answers told goes.in_hand
      (ap (λ l. (index_at l index).table) goes.layout ∙ is) goes.busy (kept_on t p q goes.turns kept)
      (first_step n began.0 (p.tables t).blocks (p.tables t) (q.tables t) (accounts_at p t) (accounts_at q t) goes.turns.point goes.turns.step goes.turns.told
      goes.turns.accounts rests began.2) more)

pub summarize_counts : (p q : Place) (n index count : ℕ) → p.hands n ≡ Some (new_hand (statements.Summarize index None))
    → (p.tables (index_at p.layout index).table).task n ≡ Resting → IsTableKept (calm (p.tables (index_at p.layout index).table))
    → Finishes n p (Ended (replies.Summarized count)) q → CountsItsRanges (index_at p.layout index).table index p q count
summarize_counts p q n index count there rests kept finishes =
    whole n index (index_at p.layout index).table count p q (Ended (replies.Summarized count)) refl there refl rests kept finishes
