use Rattle.brin_app.proofs.ScriptRoom.{scripts_fit_journal}
use Rattle.brin_app.proofs.laws.short_scripts_fit.Goals as goal

pub returns : goal.returns
returns c = scripts_fit_journal c.the_requests_of_lines_are_bounded.ensures.begin c.the_requests_of_lines_are_bounded.ensures.fit c.short_scripts_have_room.ensures
