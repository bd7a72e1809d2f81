use Rattle.std.proofs.Common.{refl}
use Rattle.block_model.specs.declared.reply.Reply.TheVariants as replies
use Rattle.session_scans.specs.Finishes.{Tells}
use Rattle.session_scans.proofs.finishing.tell_rows.Goals as goal

pub returns-in-Ok : goal.returns-in-Ok
returns-in-Ok g c = λ point. Tells (replies.Found c.in-Ok.rows) c.in-Ok.rows c.in-Ok.ensures refl refl c.enter_look.ensures c.requires.room
