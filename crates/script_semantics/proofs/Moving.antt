-- Steps of a statement at places as steps in its table: how many there are.
use Rattle.std.proofs.Common.{◌≡◌, ◌≢◌, ◌⊎◌, inl, inr, ⊎_elim, ℕ, zero, suc, ◌-◌, ◌^◌, ◌≤◌, ◌<◌, Some, length, refl, sym, ap, ◌∙◌, subst, arith}
use Rattle.std.proofs.lemmas.Option.{same_Some}
use Rattle.block_model.specs.declared.reply.Point.{Point}
use Rattle.store_layout.specs.declared.statement.Statement.{Statement}
use Rattle.store_layout.specs.declared.statement.Statement.TheVariants as statements
use Rattle.store_layout.specs.DiskLayout.{DiskLayout}
use Rattle.coverage.specs.GoingOn.{StepsAlone, LastAlone, OneMoreAlone}
use Rattle.coverage.specs.Table.{Task, Resting, Reaches, Asks, Inserts, Considers, Maintains, Prunes, SweepsFrom, Sweeps, Restarts, Scans, Marks, TableState}
use Rattle.index_steps.specs.IndexTuples.{index_at}
use Rattle.script_semantics.specs.Beginnings.{IsIn, IsWorkIn}
use Rattle.script_semantics.specs.Place.{Hand, Place}
use Rattle.script_semantics.specs.StatementSteps.{GoesOn, Moved, Steps, StepsTo}
use Rattle.script_semantics.specs.Stops.{MovedTo, OnTo, Still}
use Rattle.script_semantics.specs.Turns.{Recounts, Turn, point_of}
use Rattle.script_semantics.specs.Moves.{IsBoundedAt, IsInOneTable, MovedIn, OneFurther, StillThere}
use Rattle.script_semantics.proofs.Begun.{few_after}
use Rattle.script_semantics.proofs.FewSteps.{few_from}

-- ---- by their number

pub uncounted : (n k : ℕ) (p q : Place) → MovedIn n k p q → MovedTo n p q
uncounted n _ _ _ (StillThere p) = Still p
uncounted n _ _ _ (OneFurther k p q r point step more) = OnTo p q r point step (uncounted n k q r more)

pub one_behind : (n k : ℕ) (p q r : Place) (point : Point) → MovedIn n k p q → Steps q n (Moved point) r → MovedIn n (suc k) p r
one_behind n _ _ _ r point (StillThere p) step = OneFurther 0 p r r point step (StillThere r)
one_behind n _ _ _ r point (OneFurther k p m q first before more) step = OneFurther (suc k) p m r first before (one_behind n k m q r point more step)

-- ---- the table of a statement

abbrev InHand : Place → ℕ → Statement → Type 0
InHand p n statement = (hand : Hand) × (p.hands n ≡ Some hand) × (hand.statement ≡ statement)

-- the statement makes its steps in this table, and in no other
abbrev IsInAlone : Place → ℕ → Statement → ℕ → Type 0
IsInAlone p n statements.Work table = (table < length p.layout.schema.tables) × ((i : ℕ) → IsWorkIn p n i → i ≡ table)
IsInAlone p n statement table = IsIn p n statement table

in_alone : (p : Place) (n : ℕ) (statement : Statement) (table : ℕ) → IsInOneTable p n statement → IsIn p n statement table → IsInAlone p n statement table
in_alone p n statements.Begin table one on = on
in_alone p n statements.Commit table one on = on
in_alone p n statements.Rollback table one on = on
in_alone p n (statements.Insert into values) table one on = on
in_alone p n (statements.Select query) table one on = on
in_alone p n (statements.Delete query) table one on = on
in_alone p n (statements.Explain query) table one on = on
in_alone p n (statements.Summarize index block) table one on = on
in_alone p n (statements.Desummarize index block) table one on = on
in_alone p n (statements.Vacuum of) table one on = on
in_alone p n statements.Work table one on = ((one table table on on).0, λ i there. (one table i on there).1)

same_table : (p : Place) (n : ℕ) (statement : Statement) (table i : ℕ) → IsInAlone p n statement table → IsIn p n statement i → i ≡ table
same_table p n statements.Begin table i alone on = absurd on
same_table p n statements.Commit table i alone on = absurd on
same_table p n statements.Rollback table i alone on = absurd on
same_table p n (statements.Insert into values) table i alone on = on ∙ sym alone
same_table p n (statements.Select query) table i alone on = on ∙ sym alone
same_table p n (statements.Delete query) table i alone on = on ∙ sym alone
same_table p n (statements.Explain query) table i alone on = on ∙ sym alone
same_table p n (statements.Summarize index block) table i alone on = on ∙ sym alone
same_table p n (statements.Desummarize index block) table i alone on = on ∙ sym alone
same_table p n (statements.Vacuum of) table i alone on = on ∙ sym alone
same_table p n statements.Work table i alone on = alone.1 i on

-- it stays there, as long as the layout is the same and it is at a step there
module _ (p q : Place) (n table : ℕ) (layout : q.layout ≡ p.layout) (others : (i : ℕ) → (i ≡ table) ⊎ Recounts (p.tables i) (q.tables i)) (going : (q.tables table).task n ≢ Resting) where
  work_stays : IsInAlone p n statements.Work table → (i : ℕ) → IsWorkIn q n i → i ≡ table
  work_stays alone i (inl (below, at_work)) = ⊎_elim
      (λ (same : i ≡ table). same)
      (λ (recounts : Recounts (p.tables i) (q.tables i)).
      alone.1 i (inl (
        subst (λ (d : DiskLayout). i < length d.schema.tables) layout below,
        λ rests. at_work (ap (λ (w : TableState). w.task n) recounts.1 ∙ rests),
      )))
      (others i)
  work_stays alone i (inr (rest, asked)) = absurd (going (rest table (subst (λ (d : DiskLayout). table < length d.schema.tables) (sym layout) alone.0)))

  stays_alone : (statement : Statement) → IsInAlone p n statement table → IsInAlone q n statement table
  stays_alone statements.Begin on = on
  stays_alone statements.Commit on = on
  stays_alone statements.Rollback on = on
  stays_alone (statements.Insert into values) on = on
  stays_alone (statements.Select query) on = on
  stays_alone (statements.Delete query) on = on
  stays_alone (statements.Explain query) on = on
  stays_alone (statements.Summarize index block) on = on ∙ ap (λ (d : DiskLayout). (index_at d index).table) (sym layout)
  stays_alone (statements.Desummarize index block) on = on ∙ ap (λ (d : DiskLayout). (index_at d index).table) (sym layout)
  stays_alone (statements.Vacuum of) on = on
  stays_alone statements.Work alone = (subst (λ (d : DiskLayout). table < length d.schema.tables) (sym layout) alone.0, work_stays alone)

-- ---- a step of it

-- the turn with which the statement goes on, and has its next step before it
record GoesFurther (p : Place) (n : ℕ) (statement : Statement) (point : Point) (q : Place) : Type 0 where
  turn : Turn p n statement q
  named : point_of turn ≡ Some point
  going : (q.tables turn.table).task n ≢ Resting
  next : InHand q n statement
  layout : q.layout ≡ p.layout

further_by : (p : Place) (n : ℕ) (hand : Hand) (point : Point) (q : Place) → StepsTo p n hand (Moved point) q → GoesFurther p n hand.statement point q
further_by p n hand _ _ (GoesOn point c q turn named going makes leads) = record {
  turn = turn;
  named = named;
  going = going;
  next = (record hand { answers = c.answers }, leads.hand, refl);
  layout = leads.layout;
}

further : (p : Place) (n : ℕ) (statement : Statement) (point : Point) (q : Place) → InHand p n statement → Steps p n (Moved point) q → GoesFurther p n statement point q
further p n statement point q hand step =
    subst (λ (s : Statement). GoesFurther p n s point q) (ap (λ (h : Hand). h.statement) (same_Some _ _ (sym step.in_hand ∙ hand.1)) ∙ hand.2)
    (further_by p n step.hand point q step.steps)

module _ (n : ℕ) (statement : Statement) where
  -- it takes this step in its table, and is there alone behind it
  further_alone : (p : Place) (point : Point) (q : Place) (table : ℕ) → IsInAlone p n statement table → (to : GoesFurther p n statement point q)
      → (to.turn.table ≡ table) × IsInAlone q n statement to.turn.table
  further_alone p point q table alone to =
      let same = same_table p n statement table to.turn.table alone to.turn.on in
      (same, stays_alone p q n to.turn.table to.layout to.turn.others to.going statement (subst (IsInAlone p n statement) (sym same) alone))

  alone_from : (k : ℕ) (p r : Place) (table : ℕ) → InHand p n statement → IsInAlone p n statement table → MovedIn n (suc k) p r → StepsAlone n (suc k) (p.tables table)
  alone_from zero p r table hand alone (OneFurther _ _ q _ point step (StillThere _)) =
      let to = further p n statement point q hand step in
      subst (λ i. StepsAlone n 1 (p.tables i)) (further_alone p point q table alone to).0
      (LastAlone (p.tables to.turn.table) (q.tables to.turn.table) to.turn.step point to.named)
  alone_from (suc k) p r table hand alone (OneFurther _ _ q _ point step more) =
      let to = further p n statement point q hand step in
      let one = further_alone p point q table alone to in
      subst (λ i. StepsAlone n (suc (suc k)) (p.tables i)) one.0
      (OneMoreAlone (suc k) (p.tables to.turn.table) (q.tables to.turn.table) to.turn.step point to.named to.going (alone_from k q r to.turn.table to.next one.1 more))

-- ---- how many

abbrev IsOther : Task → Type 0
IsOther Resting = ⊥
IsOther task = Unit {0}

other : (task : Task) → IsOther task → task ≢ Resting
other task is rests = subst IsOther rests is

rests_or_not : (task : Task) → (task ≡ Resting) ⊎ (task ≢ Resting)
rests_or_not Resting = inl refl
rests_or_not (Reaches b k r at) = inr (other (Reaches b k r at) tt)
rests_or_not (Asks b k r at) = inr (other (Asks b k r at) tt)
rests_or_not (Inserts b k r at on_index) = inr (other (Inserts b k r at on_index) tt)
rests_or_not (Considers job at range) = inr (other (Considers job at range) tt)
rests_or_not (Maintains job at range phase) = inr (other (Maintains job at range phase) tt)
rests_or_not (Prunes extent next) = inr (other (Prunes extent next) tt)
rests_or_not (SweepsFrom at from) = inr (other (SweepsFrom at from) tt)
rests_or_not (Sweeps at page) = inr (other (Sweeps at page) tt)
rests_or_not (Restarts at) = inr (other (Restarts at) tt)
rests_or_not (Scans scan) = inr (other (Scans scan) tt)
rests_or_not (Marks scan ids) = inr (other (Marks scan ids) tt)

no_step : 0 < 18446744073709551615
no_step = omega arith

one_step : 1 < 18446744073709551615
one_step = omega arith

few : (m : ℕ) → m ≤ 9223372036854775808 → suc m < 18446744073709551615
few m le = omega arith

fewer : (m : ℕ) → suc m ≤ 9223372036854775808 → suc m < 18446744073709551615
fewer m le = omega arith

module _ (n : ℕ) (statement : Statement) (p : Place) (hand : InHand p n statement) (within : IsBoundedAt p n statement) where
  few_behind : (k : ℕ) (point : Point) (q r : Place) → Steps p n (Moved point) q → MovedIn n (suc k) q r → suc (suc k) < 2 ^ 64 - 1
  few_behind k point q r step more =
      let to = further p n statement point q hand step in
      let w = p.tables to.turn.table in
      let v = q.tables to.turn.table in
      let kept = within.kept to.turn.table to.turn.on in
      let bounded = within.bounded to.turn.table to.turn.on in
      let one = further_alone n statement p point q to.turn.table (in_alone p n statement to.turn.table within.one_table to.turn.on) to in
      let alone = alone_from n statement k q r to.turn.table to.next one.1 more in
      ⊎_elim
      (λ (rests : w.task n ≡ Resting). few (suc k) (few_after n (suc k) w v to.turn.step point to.named rests kept bounded to.going alone))
      (λ (not : w.task n ≢ Resting).
      fewer (suc k)
      (few_from n (suc (suc k)) w kept bounded (OneMoreAlone (suc k) w v to.turn.step point to.named to.going alone) (w.task n) refl not
      (within.task to.turn.table to.turn.on)))
      (rests_or_not (w.task n))

  pub few_moves : (k : ℕ) (q : Place) → MovedIn n k p q → k < 2 ^ 64 - 1
  few_moves zero q moved = no_step
  few_moves (suc zero) q moved = one_step
  few_moves (suc (suc k)) r (OneFurther _ _ q _ point step more) = few_behind k point q r step more
