-- What a table's step leaves to other sessions.
use Rattle.std.proofs.Common.{◌≡◌, ◌≢◌, ◌⊎◌, inl, inr, ⊎_elim, ℕ, ◌+◌, ◌≤◌, ◌<◌, max, Some, true, false, sym, ◌∙◌, ap, subst, arith, rules}
use Rattle.std.proofs.Math.Nat.{le_refl}
use Rattle.block_model.specs.declared.row.Row.{Row}
use Rattle.coverage.specs.Table.{Task, Resting, TableState}
use Rattle.coverage.specs.TableSteps.{TaskTurns, OnlyTurns, SeesPlace, Fails, Does, PutsRow, RefusesRow, AsksSummary, InsertGoes, InsertCompletes}
use Rattle.coverage.specs.TableSteps.{RefusesInsert, TakesLock, MaintainGoes, MaintainCompletes, RefusesMaintain, RefusesVacuum, PrunesBlock, SweepsPage}
use Rattle.coverage.specs.TableSteps.{RestartsIndex, BeginsScan, Judges, ReadsBlock, RefusesScan, MarksRow, Conflicts, Blocked, Transacts, Settles, GoesOn}
use Rattle.coverage.specs.TableSteps.{GivesLock}

-- what a step leaves to the scans of others
pub record Leaves (s : ℕ) (w v : TableState) : Type 0 where
  pub others : (n : ℕ) → (n ≡ s) ⊎ (v.task n ≡ w.task n)
  pub rows : (n b k : ℕ) (r : Row) → n ≢ s → w.row b k ≡ Some r → SeesPlace b k (w.task n) → v.row b k ≡ Some r
  pub blocks : w.blocks ≤ v.blocks
  pub from : (b k : ℕ) (r : Row) → v.row b k ≡ Some r → (w.row b k ≡ Some r) ⊎ (b < v.blocks)

same_leaves : (s : ℕ) (w v : TableState) (old new : Task) → TaskTurns s w v old new → ((b k : ℕ) → v.row b k ≡ w.row b k) → v.blocks ≡ w.blocks → Leaves s w v
same_leaves s w v old new turns rows blocks = record {
  others = turns.others;
  rows = λ n b k r other there sees. rows b k ∙ there;
  blocks = subst (λ m. w.blocks ≤ m) (sym blocks) (le_refl w.blocks);
  from = λ b k r there. inl (sym (rows b k) ∙ there);
}

pub does_leaves : (s : ℕ) (w v : TableState) → Does s w v → Leaves s w v
does_leaves s w v (PutsRow b k r place turns takes) = record {
  others = turns.others;
  rows = search rules;
  blocks = subst (λ m. w.blocks ≤ m) (sym takes.blocks) (omega arith);
  from = λ c j q there. ⊎_elim
      (λ (at : (c ≡ b) × (j ≡ k)). inr (subst (λ m. c < m) (sym takes.blocks) (subst (λ m. m < max w.blocks (b + 1)) (sym at.0) (omega arith))))
      (λ (same : v.row c j ≡ w.row c j). inl (sym same ∙ there))
      (takes.others c j);
}
does_leaves s w v (RefusesRow t refused turns fails) = same_leaves s w v _ _ turns fails.row fails.blocks
does_leaves s w v (AsksSummary b k r at turns only) = same_leaves s w v _ _ turns only.rows.row only.rows.blocks
does_leaves s w v (InsertGoes b k r at old new turns stepped step) = same_leaves s w v _ _ turns stepped.rows.row stepped.rows.blocks
does_leaves s w v (InsertCompletes b k r at old turns stepped step) = same_leaves s w v _ _ turns stepped.rows.row stepped.rows.blocks
does_leaves s w v (RefusesInsert b k r old refused turns fails) = same_leaves s w v _ _ turns fails.row fails.blocks
does_leaves s w v (TakesLock first begins turns free held rows indexes) = same_leaves s w v _ _ turns rows.row rows.blocks
does_leaves s w v (MaintainGoes job at range old new turns stepped step) = same_leaves s w v _ _ turns stepped.rows.row stepped.rows.blocks
does_leaves s w v (MaintainCompletes job at range old turns stepped step) = same_leaves s w v _ _ turns stepped.rows.row stepped.rows.blocks
does_leaves s w v (RefusesMaintain job at range phase refused turns stepped passes) = same_leaves s w v _ _ turns stepped.rows.row stepped.rows.blocks
does_leaves s w v (RefusesVacuum old vacuuming turns given rows indexes) = same_leaves s w v _ _ turns rows.row rows.blocks
does_leaves s w v (PrunesBlock extent next dropped inside spared turns drops) = record {
  others = turns.others;
  rows = search rules;
  blocks = subst (λ m. w.blocks ≤ m) (sym drops.blocks) (le_refl w.blocks);
  from = search rules;
}
does_leaves s w v (SweepsPage at page turns stepped sweeps) = same_leaves s w v _ _ turns stepped.rows.row stepped.rows.blocks
does_leaves s w v (RestartsIndex at turns only) = same_leaves s w v _ _ turns only.rows.row only.rows.blocks
does_leaves s w v (BeginsScan scan begins turns only) = same_leaves s w v _ _ turns only.rows.row only.rows.blocks
does_leaves s w v (Judges old new inside low step turns only) = same_leaves s w v _ _ turns only.rows.row only.rows.blocks
does_leaves s w v (ReadsBlock scan next found reads turns only) = same_leaves s w v _ _ turns only.rows.row only.rows.blocks
does_leaves s w v (RefusesScan scan t turns how) = ⊎_elim
    (λ (fails : (scan.explains ≡ false) × Fails w v t). same_leaves s w v _ _ turns fails.1.row fails.1.blocks)
    (λ (only : (scan.explains ≡ true) × OnlyTurns w v). same_leaves s w v _ _ turns only.1.rows.row only.1.rows.blocks)
    how
does_leaves s w v (MarksRow scan id rest turns only) = same_leaves s w v _ _ turns only.rows.row only.rows.blocks
does_leaves s w v (Conflicts scan id rest t turns fails) = same_leaves s w v _ _ turns fails.row fails.blocks
does_leaves s w v (Blocked task blocked turns only) = same_leaves s w v _ _ turns only.rows.row only.rows.blocks
does_leaves s w v (Transacts counts resting few same) =
    same_leaves s w v Resting Resting
    (record { was = resting; now = ap (λ (u : TableState). u.task s) same ∙ resting; others = λ n. inr (ap (λ (u : TableState). u.task n) same) })
    (λ b k. ap (λ (u : TableState). u.row b k) same) (ap (λ (u : TableState). u.blocks) same)

pub settles_leaves : (s : ℕ) (w v : TableState) → Settles s w v → Leaves s w v
settles_leaves s w v (GoesOn old new onward turns only) = same_leaves s w v old new turns only.rows.row only.rows.blocks
settles_leaves s w v (GivesLock old done turns given rows indexes) = same_leaves s w v old Resting turns rows.row rows.blocks
