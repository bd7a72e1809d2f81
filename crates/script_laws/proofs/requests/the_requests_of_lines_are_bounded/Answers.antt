use Rattle.script_laws.proofs.PaidLines.{lines_make_few, scripts_begin, scripts_with_room_fit}
use Rattle.script_laws.proofs.requests.the_requests_of_lines_are_bounded.Goals as goal

pub returns-clause-begin : goal.returns-clause-begin
returns-clause-begin c = scripts_begin

pub returns-clause-few : goal.returns-clause-few
returns-clause-few c = lines_make_few

pub returns-clause-fit : goal.returns-clause-fit
returns-clause-fit c = scripts_with_room_fit
