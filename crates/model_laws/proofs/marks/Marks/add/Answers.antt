use Rattle.std.proofs.Common.{ap, ◌∙◌}
use Rattle.std.specs.FinSet.{insert, from_list, from_list_push}
use Rattle.block_model.specs.TableState.{ids_total, ids_exact}
use Rattle.model_laws.proofs.marks.Marks.add.Goals as goal

pub returns-clause-ok : goal.returns-clause-ok
returns-clause-ok c = ap from_list c.in_ok-push.ensures.ok ∙ from_list_push ids_total ids_exact c.self.inside.ids c.args.id ∙ ap (λ s. insert s c.args.id) c.self.view_is
