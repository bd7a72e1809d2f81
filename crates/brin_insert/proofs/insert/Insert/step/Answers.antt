use Rattle.brin_insert.proofs.insert.Insert.step.Goals as goal

pub returns-in-Ok-clause-stepped : goal.returns-in-Ok-clause-stepped
returns-in-Ok-clause-stepped g c = λ tells blocks has. c.in-Ok.ensures.stepped tells blocks has c.args.locks.now c.args.actor
