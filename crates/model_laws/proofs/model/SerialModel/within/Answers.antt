use Rattle.model_laws.proofs.model.SerialModel.within.Goals as goal

pub returns-in-Look-clause-ok : goal.returns-in-Look-clause-ok
returns-in-Look-clause-ok c = rw c.in-Look.is (c.look.ensures.ok c.args.entry.now.table)

pub returns-in-Mark-clause-ok : goal.returns-in-Mark-clause-ok
returns-in-Mark-clause-ok c = rw c.in-Mark.is (c.mark.ensures.ok c.args.entry.now.table c.args.entry.now.tag)

pub returns-in-Commit-clause-ok : goal.returns-in-Commit-clause-ok
returns-in-Commit-clause-ok c = rw c.in-Commit.is (c.commit.ensures.ok c.args.entry.now.table c.args.entry.now.tag)
