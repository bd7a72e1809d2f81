use Rattle.std.proofs.Common.{ℕ, List, ap, ◌∙◌, arith}
use Rattle.byte_fields.specs.Fields.{field_at, number-put, number_of}
use Rattle.byte_fields.proofs.Parts.{put-written}
use Rattle.byte_fields.proofs.put.put_u32.Goals as goal

pub returns-clause-put : goal.returns-clause-put
returns-clause-put c = put-written c.args.bytes.now c.write_u32.new.buf c.args.at 4 _ c.args.value (omega arith) c.write_u32.ensures

pub returns-clause-got : goal.returns-clause-got
returns-clause-got c =
    ap (λ (l : List ℕ). number_of (field_at l c.args.at 4)) (returns-clause-put c)
    ∙ number-put c.args.bytes.now c.args.at 4 c.args.value c.requires.within (omega arith)
