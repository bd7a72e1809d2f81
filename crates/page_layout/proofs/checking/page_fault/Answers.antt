use Rattle.std.proofs.Common.{refl, sym, ◌∙◌}
use Rattle.page_layout.specs.IndexLaws.{index_page_of, page_index_of}
use Rattle.page_layout.proofs.Pages.{index_same, rows_passes, rows_same, rows_takes}
use Rattle.page_layout.proofs.checking.page_fault.Goals as goal

pub returns-then-is_index-clause-fault : goal.returns-then-is_index-clause-fault
returns-then-is_index-clause-fault c = c.index_fault.ensures.fault ∙ index_same c.args.form.now c.args.page.now (c.if-is_index.ensures.index refl)

pub returns-then-is_index-clause-passed : goal.returns-then-is_index-clause-passed
returns-then-is_index-clause-passed c = λ none. index_page_of c.args.form.now c.args.page.now (c.if-is_index.ensures.index refl) (c.index_fault.ensures.passed none)

pub returns-then-is_index-clause-refused : goal.returns-then-is_index-clause-refused
returns-then-is_index-clause-refused c = λ is. c.index_fault.ensures.refused (page_index_of c.args.form.now c.args.page.now (c.if-is_index.ensures.index refl) is)

pub returns-clause-fault : goal.returns-clause-fault
returns-clause-fault c = c.rows_fault.ensures.fault ∙ rows_same c.args.form.now c.args.page.now (c.if-is_index.ensures.rows refl)

pub returns-clause-passed : goal.returns-clause-passed
returns-clause-passed c = λ none.
    rows_takes c.args.form.now c.args.page.now (c.if-is_index.ensures.rows refl) c.requires.form c.requires.few c.requires.whole c.bytes_known.ensures (sym c.rows_fault.ensures.fault ∙ none)

pub returns-clause-refused : goal.returns-clause-refused
returns-clause-refused c = λ is.
    c.rows_fault.ensures.fault ∙ rows_passes c.args.form.now c.args.page.now 8192 refl (c.if-is_index.ensures.rows refl) c.requires.form c.requires.few is
