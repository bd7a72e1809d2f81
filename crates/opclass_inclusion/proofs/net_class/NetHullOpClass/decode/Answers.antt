use Rattle.std.proofs.Common.{refl, ap, sym, ◌∙◌}
use Rattle.opclass_inclusion.specs.NetReading.{read_of}
use Rattle.opclass_inclusion.proofs.Reading.{faultless, one_reading}
use Rattle.opclass_inclusion.proofs.NetReading.{read_again}
use Rattle.opclass_inclusion.proofs.net_class.NetHullOpClass.decode.Goals as goal

pub returns-in_err-into-clause-again : goal.returns-in_err-into-clause-again
returns-in_err-into-clause-again c = λ s lawful is.
    absurd (faultless (read_of c.args.bytes.now) s _ (ap read_of is ∙ read_again s lawful) c.in_err-into.ensures.read)

pub returns-clause-again : goal.returns-clause-again
returns-clause-again c = λ s lawful is.
    (refl, one_reading (read_of c.args.bytes.now) c.in_ok-into.field-0 s c.in_ok-into.ensures.read (ap read_of is ∙ read_again s lawful))
