use Rattle.std.proofs.Common.{take, drop, ◌-◌}
use Rattle.script_run.proofs.Feeds.{feed_at_first}
use Rattle.script_run.proofs.cursor.line_feed.Goals as goal

pub returns : goal.returns
returns c = feed_at_first (take (c.args.to - c.args.from) (drop c.args.from c.args.buffer.now)) c.memchr.result c.memchr.ensures
