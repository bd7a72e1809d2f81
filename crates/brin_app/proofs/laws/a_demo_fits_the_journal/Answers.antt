use Rattle.brin_app.proofs.DemoFits.{no_demo_fills_journal}
use Rattle.brin_app.proofs.laws.a_demo_fits_the_journal.Goals as goal

pub returns : goal.returns
returns c = no_demo_fills_journal c.the_requests_of_lines_are_bounded.ensures.begin c.the_requests_of_lines_are_bounded.ensures.fit c.words_bound_requests.ensures.requests
