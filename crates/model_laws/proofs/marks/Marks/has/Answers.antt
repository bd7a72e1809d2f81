use Rattle.std.proofs.Common.{sym, ap, ◌∙◌}
use Rattle.std.specs.List.{list_any}
use Rattle.std.specs.Ordering.{eq_by_cmp}
use Rattle.std.specs.FinSet.{contains, contains-from_list}
use Rattle.block_model.specs.TableState.{id_cmp, ids_total}
use Rattle.model_laws.proofs.marks.Marks.has.Goals as goal

pub returns : goal.returns
returns c = c.is_among.ensures ∙ ap (list_any (eq_by_cmp id_cmp c.args.id)) c.as_slice.ensures ∙ sym (contains-from_list ids_total c.self.inside.ids c.args.id) ∙ ap (λ s. contains s c.args.id) c.self.view_is
