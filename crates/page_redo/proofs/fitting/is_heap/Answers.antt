use Rattle.std.proofs.Common.{◌∙◌}
use Rattle.std.proofs.lemmas.Bool.{eqb-false}
use Rattle.page_layout.specs.SlotLaws.{heap_front}
use Rattle.page_redo.proofs.fitting.is_heap.Goals as goal

pub returns-in-Heap-clause-isnt : goal.returns-in-Heap-clause-isnt
returns-in-Heap-clause-isnt c = λ e is. eqb-false c.kind_of.result 2 e (c.kind_of.ensures ∙ heap_front c.args.form.now c.args.page.now is.0 is.1)
