use Rattle.std.proofs.Common.{Ok, sym, subst, ◌∙◌}
use Rattle.session_parts.specs.declared.hand.Cleaning.{Cleaning}
use Rattle.session_parts.specs.StepIs.{stepped_in}
use Rattle.session_maintenance.specs.Cleaned.{EndsCleaning}
use Rattle.session_maintenance.proofs.InHand.{same_cleaning}
use Rattle.session_maintenance.proofs.cleaning.end_cleaning.Goals as goal

pub cleaned-requires : goal.cleaned-requires
cleaned-requires c = c.requires.table c.taken-cleaning.result c.taken-cleaning.ensures

pub returns : goal.returns
returns c = λ cleaning is.
    let e = c.cleaned.ensures in
    let ends : EndsCleaning c.args.session c.args.point c.taken-cleaning.result c.args.rights.now c.cleaned.new.rights (stepped_in c.cleaned.new.hand (Ok c.cleaned.result)) =
    record { answer = e.answer; given = e.given; same = e.same; held = e.held } in
    subst (λ (k : Cleaning). EndsCleaning c.args.session c.args.point k c.args.rights.now c.cleaned.new.rights (stepped_in c.cleaned.new.hand (Ok c.cleaned.result))) (same_cleaning (sym c.taken-cleaning.ensures ∙ is)) ends
