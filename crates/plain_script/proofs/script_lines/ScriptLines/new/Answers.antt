use Rattle.plain_script.proofs.Gathered.{held_as_read}
use Rattle.plain_script.proofs.script_lines.ScriptLines.new.Goals as goal

pub returns : goal.returns
returns c = held_as_read c.args.sessions.items c.of-whole.result.value.items c.args.lines.items c.args.unread.items (λ i. (c.of-whole.ensures i).items) c.requires
