use Rattle.std.proofs.Common.{subst}
use Rattle.index_steps.specs.declared.next.PageState.{PageState}
use Rattle.index_steps.specs.NextPages.{StandsNext}
use Rattle.index_steps.proofs.judging.go_on.Goals as goal

pub count_left_over-requires-clause-next : goal.count_left_over-requires-clause-next
count_left_over-requires-clause-next g c = λ tells. subst (λ (s : PageState). StandsNext c.args.pages.now.layout c.args.pages.now.pages c.args.index c.args.next.block s) c.in-LeftOver.is (c.requires.next tells)

pub returns-in-Unstarted : goal.returns-in-Unstarted
returns-in-Unstarted g c = λ was. c.start.ensures was c.args.moved.now

pub returns-in-LeftOver : goal.returns-in-LeftOver
returns-in-LeftOver g c = λ was. c.count_left_over.ensures was c.args.moved.now

pub returns-in-Regular : goal.returns-in-Regular
returns-in-Regular g c = λ was. c.flag.ensures was c.args.moved.now
