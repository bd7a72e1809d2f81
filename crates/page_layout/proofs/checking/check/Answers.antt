use Rattle.std.proofs.Common.{sym, subst, ◌∙◌}
use Rattle.std.proofs.lemmas.Option.{none-some}
use Rattle.page_layout.specs.PageContents.{IsPageOf}
use Rattle.page_layout.proofs.checking.check.Goals as goal

pub returns-in-Some-clause-refused : goal.returns-in-Some-clause-refused
returns-in-Some-clause-refused c = λ is.
    none-some c.in-Some.at (sym (c.page_fault.ensures.refused (subst (IsPageOf c.args.form) (sym c.as_bytes.ensures.bytes) is)) ∙ c.in-Some.is)

pub returns-in-None-clause-passed : goal.returns-in-None-clause-passed
returns-in-None-clause-passed c = subst (IsPageOf c.args.form) c.as_bytes.ensures.bytes (c.page_fault.ensures.passed c.in-None.is)
