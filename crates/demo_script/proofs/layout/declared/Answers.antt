use Rattle.demo_script.proofs.DemoSchema.{demo_is_of_form}
use Rattle.demo_script.proofs.layout.declared.Goals as goal

pub unreachable-requires : goal.unreachable-requires
unreachable-requires c = demo_is_of_form c.in_ok-words.words c.in-Err-Form.field-0 c.in-Err-Form.field-0-0 c.in-Err-Form.field-0-1 c.in_ok-words.ensures c.in-Err-Form.ensures.only c.in-Err-Form.field-0-is
