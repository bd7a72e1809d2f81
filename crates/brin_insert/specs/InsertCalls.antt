-- calls of an insert's step, one right after the other
use Rattle.std.specs.Prelude.{ℕ, suc}
use Rattle.block_model.specs.declared.reply.Point.{Point}
use Rattle.coverage.specs.GoingOn.{IsInserting}
use Rattle.coverage.specs.Machines.{ShownTable}
use Rattle.coverage.specs.Table.{Task}
use Rattle.brin_insert.specs.InsertAnswers.{InsertGoesTo}

-- So many steps of an insert, none of which is blocked or refused, while nothing else changes pages or locks.
pub data InsertCalls (s : ℕ) : (calls : ℕ) → ShownTable → Task → Type 0 where
  LastCall : (old new : ShownTable) (before after : Task) (point : Point) → InsertGoesTo s old new before after point → InsertCalls s 1 old before
  OneMoreCall : (calls : ℕ) (old new : ShownTable) (before after : Task) (point : Point) → InsertGoesTo s old new before after point → IsInserting after
      → InsertCalls s calls new after → InsertCalls s (suc calls) old before
