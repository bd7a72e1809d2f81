use Rattle.std.proofs.Common.{refl, sym, ◌∙◌, subst}
use Rattle.store_format.specs.ControlPage.{HasControl}
use Rattle.store_format.proofs.laws.a_new_store_has_its_control_page.Goals as goal

pub returns : goal.returns
returns c image has = subst (HasControl c.args.layout.now) (c.write.ensures.written ∙ sym has.control) (c.write.ensures.control refl)
