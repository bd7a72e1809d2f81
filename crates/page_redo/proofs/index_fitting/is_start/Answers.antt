use Rattle.std.proofs.Common.{sym, subst, ◌∙◌}
use Rattle.std.proofs.lemmas.Bool.{eqb-false, eqb-true, false≢true}
use Rattle.page_layout.specs.declared.page.Form.{Form}
use Rattle.page_redo.specs.Redo.{IsStart}
use Rattle.page_redo.proofs.Starts.{heap_only, heap_start, index_only, index_start, no_start}
use Rattle.page_redo.proofs.index_fitting.is_start.Goals as goal

pub returns-in-Status-clause-isnt : goal.returns-in-Status-clause-isnt
returns-in-Status-clause-isnt c = λ e start. no_start c.args.kind (subst (λ (f : Form). IsStart f c.args.kind) c.in-Status.is start)

pub returns-in-Heap-clause-is : goal.returns-in-Heap-clause-is
returns-in-Heap-clause-is c = λ e. subst (λ (f : Form). IsStart f c.args.kind) (sym c.in-Heap.is) (heap_start c.in-Heap.row c.in-Heap.slots c.in-Heap.kinds c.in-Heap.format c.args.kind (eqb-true c.args.kind 2 e))

pub returns-in-Heap-clause-isnt : goal.returns-in-Heap-clause-isnt
returns-in-Heap-clause-isnt c = λ e start. eqb-false c.args.kind 2 e (heap_only c.in-Heap.row c.in-Heap.slots c.in-Heap.kinds c.in-Heap.format c.args.kind (subst (λ (f : Form). IsStart f c.args.kind) c.in-Heap.is start))

pub returns-in-Index-clause-is : goal.returns-in-Index-clause-is
returns-in-Index-clause-is c = λ e. subst (λ (f : Form). IsStart f c.args.kind) (sym c.in-Index.is) (index_start c.args.kind (sym c.is_index_start.ensures ∙ e))

pub returns-in-Index-clause-isnt : goal.returns-in-Index-clause-isnt
returns-in-Index-clause-isnt c = λ e start.
    false≢true (sym e ∙ c.is_index_start.ensures ∙ index_only c.args.kind (subst (λ (f : Form). IsStart f c.args.kind) c.in-Index.is start))
