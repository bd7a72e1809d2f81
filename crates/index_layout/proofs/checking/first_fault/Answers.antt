use Rattle.std.proofs.Common.{refl, sym, ◌∙◌}
use Rattle.std.proofs.lemmas.Option.{none-some}
use Rattle.index_layout.proofs.PageKinds.{index_takes, index_passes}
use Rattle.index_layout.proofs.checking.first_fault.Goals as goal

pub returns-in-Some-clause-refused : goal.returns-in-Some-clause-refused
returns-in-Some-clause-refused c = λ is. absurd (none-some c.in-Some.at (sym (index_passes c.args.page.now 8192 refl is) ∙ sym c.index_fault.ensures.fault ∙ c.in-Some.is))

pub returns-in-None-clause-passed : goal.returns-in-None-clause-passed
returns-in-None-clause-passed c = λ e. index_takes c.args.page.now 1020 refl c.requires.whole c.bytes_known.ensures (sym c.index_fault.ensures.fault ∙ c.in-None.is)
