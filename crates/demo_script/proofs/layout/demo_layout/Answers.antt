use Rattle.demo_script.proofs.DemoSchema.{schema_within}
use Rattle.demo_script.proofs.layout.demo_layout.Goals as goal

pub within_limits-requires : goal.within_limits-requires
within_limits-requires c = schema_within c.in_ok-schema.schema c.args.rows c.in_ok-schema.ensures.alone c.requires.some c.requires.few
