use Rattle.block_model.specs.declared.reply.Point.TheVariants as points
use Rattle.summarise_core.proofs.Coming.{comes_exact, comes_free, comes_last, comes_next}
use Rattle.summarise_core.proofs.course.come_to.Goals as goal

pub returns-then-goes_over-clause-next : goal.returns-then-goes_over-clause-next
returns-then-goes_over-clause-next c = λ is index point. comes_next c.args.in_range index c.args.course.now c.args.work.now c.begin.new.self point (c.goes_over.ensures.goes c.if-goes_over.true) c.begin.ensures

pub returns-then-goes_over-clause-free : goal.returns-then-goes_over-clause-free
returns-then-goes_over-clause-free c = λ index.
    comes_free c.args.in_range _ _ points.Right _ (comes_next c.args.in_range index c.args.course.now c.args.work.now c.begin.new.self points.Right (c.goes_over.ensures.goes c.if-goes_over.true) c.begin.ensures)

pub returns-then-goes_over-clause-exact : goal.returns-then-goes_over-clause-exact
returns-then-goes_over-clause-exact c = λ layout blocks index.
    comes_exact layout blocks c.args.in_range _ _ points.Right _ (comes_next c.args.in_range index c.args.course.now c.args.work.now c.begin.new.self points.Right (c.goes_over.ensures.goes c.if-goes_over.true) c.begin.ensures)

pub returns-clause-last : goal.returns-clause-last
returns-clause-last c = λ is index point. comes_last c.args.in_range index c.args.course.now c.args.work.now point (c.goes_over.ensures.lacks c.if-goes_over.false)

pub returns-clause-exact : goal.returns-clause-exact
returns-clause-exact c = λ layout blocks index.
    comes_exact layout blocks c.args.in_range _ _ points.Right _ (comes_last c.args.in_range index c.args.course.now c.args.work.now points.Right (c.goes_over.ensures.lacks c.if-goes_over.false))
