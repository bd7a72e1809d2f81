use Rattle.std.proofs.Common.{inl, inr, refl}
use Rattle.vacuum_core.specs.DeadRows.{living}
use Rattle.vacuum_core.proofs.Picking.{none_dead, one_dead}
use Rattle.vacuum_core.proofs.dead_rows.add_dead.Goals as goal

pub returns-in-Ok-true-clause-dead : goal.returns-in-Ok-true-clause-dead
returns-in-Ok-true-clause-dead g c = λ tells statuses has.
    one_dead (living c.args.live.now c.args.tx.now.first statuses) c.args.row.now c.args.dead.now.items c.push_reserved.new.self.items c.in-Ok-true.field-0 (c.in-Ok-true.ensures.dead tells statuses has) c.in-Ok-true.field-0-test c.push_reserved.ensures.items

pub returns-in-Ok-true-clause-added : goal.returns-in-Ok-true-clause-added
returns-in-Ok-true-clause-added g c = inl c.push_reserved.ensures.items

pub returns-in-Ok-false-clause-dead : goal.returns-in-Ok-false-clause-dead
returns-in-Ok-false-clause-dead g c = λ tells statuses has.
    none_dead (living c.args.live.now c.args.tx.now.first statuses) c.args.row.now c.args.dead.now.items c.in-Ok-false.field-0 (c.in-Ok-false.ensures.dead tells statuses has) c.in-Ok-false.field-0-test

pub returns-in-Ok-false-clause-added : goal.returns-in-Ok-false-clause-added
returns-in-Ok-false-clause-added g c = inr refl
