use Rattle.std.proofs.Common.{ap, ◌∙◌, arith}
use Rattle.byte_fields.specs.Fields.{put-number, put_at}
use Rattle.byte_fields.proofs.Parts.{number-read}
use Rattle.byte_fields.proofs.get.get_u32.Goals as goal

pub returns-clause-got : goal.returns-clause-got
returns-clause-got c = c.read_u32.ensures ∙ number-read c.args.bytes.now c.args.at 4 _ c.requires.within (omega arith)

pub returns-clause-again : goal.returns-clause-again
returns-clause-again c =
    ap (put_at c.args.bytes.now c.args.at 4) (returns-clause-got c)
    ∙ put-number c.args.bytes.now c.args.at 4 c.requires.within (λ i. let byte = c.type_inv.bytes i in omega (arith, byte))
