use Rattle.script_laws.proofs.PaidLines.{scripts_have_room}
use Rattle.script_laws.proofs.requests.short_scripts_have_room.Goals as goal

pub returns : goal.returns
returns c = scripts_have_room
