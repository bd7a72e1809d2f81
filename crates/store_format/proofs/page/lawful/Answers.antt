use Rattle.store_format.proofs.Layouts.{breaks_limits}
use Rattle.store_format.proofs.page.lawful.Goals as goal

pub returns-in-Err : goal.returns-in-Err
returns-in-Err c = breaks_limits c.args.schema c.args.sizes c.in-Err.field-0.rule c.the_first_broken_rule_is_the_least.ensures c.in-Err.ensures.passed
