use Rattle.script_run.proofs.Fronts.{front_of, front_moved}
use Rattle.script_run.proofs.cursor.keep_front.Goals as goal

pub returns-then-start-gt0-clause-front : goal.returns-then-start-gt0-clause-front
returns-then-start-gt0-clause-front c = front_moved c.args.buffer.now c.copy_within.new.self c.args.start c.args.end c.min-count.result c.requires.ordered c.requires.inside c.min-count.ensures c.copy_within.ensures.after

pub returns-else-start-gt0-clause-front : goal.returns-else-start-gt0-clause-front
returns-else-start-gt0-clause-front c = front_of c.args.buffer.now c.args.start c.args.end c.min-count.result c.if-start-gt0.false c.min-count.ensures
