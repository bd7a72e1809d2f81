use Rattle.std.proofs.Common.{sym, ◌∙◌}
use Rattle.std.proofs.lemmas.Option.{none-some}
use Rattle.page_layout.specs.IndexLaws.{index_page, page_index}
use Rattle.page_layout.proofs.checking.index_fault.Goals as goal

pub returns-in-Some-clause-refused : goal.returns-in-Some-clause-refused
returns-in-Some-clause-refused c = λ is. absurd (none-some c.in-Some.at (sym (c.first_fault.ensures.refused (page_index c.args.page.now is)) ∙ c.in-Some.is))

pub returns-in-None-clause-passed : goal.returns-in-None-clause-passed
returns-in-None-clause-passed c = λ none. index_page c.args.page.now (c.first_fault.ensures.passed c.in-None.is)
