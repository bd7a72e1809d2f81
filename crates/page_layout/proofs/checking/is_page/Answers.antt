use Rattle.std.proofs.Common.{sym, ◌∙◌}
use Rattle.std.proofs.lemmas.Option.{none-some}
use Rattle.page_layout.proofs.checking.is_page.Goals as goal

pub returns-in-Some-clause-other : goal.returns-in-Some-clause-other
returns-in-Some-clause-other c = λ e is. none-some c.in-Some.field-0 (sym (c.page_fault.ensures.refused is.1) ∙ c.in-Some.is)

pub returns-in-None-clause-page : goal.returns-in-None-clause-page
returns-in-None-clause-page c = λ e. (c.if-bytes-ne-PAGE_SIZE.false, c.page_fault.ensures.passed c.in-None.is)
