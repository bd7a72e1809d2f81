use Rattle.std.proofs.lemmas.Bool.{false≢true}
use Rattle.brin_app.specs.declared.top.Task.TheVariants.{RunStored}
use Rattle.rerun.proofs.Turning.{holds_alone, runs_over}
use Rattle.rerun.proofs.turns.run_script.Goals as goal

pub brin_main-requires-clause-image : goal.brin_main-requires-clause-image
brin_main-requires-clause-image g c κs within _ = c.requires.image

pub brin_main-requires-clause-faults : goal.brin_main-requires-clause-faults
brin_main-requires-clause-faults g c κs within threads = absurd (c.requires.alone threads)

pub brin_main-requires-clause-given : goal.brin_main-requires-clause-given
brin_main-requires-clause-given g c κs within honest = absurd (false≢true honest)

pub returns-clause-ran : goal.returns-clause-ran
returns-clause-ran g c = λ asked has layout table sure.
    runs_over layout table c.brin_main.result.0 _ _ _ _ sure ((holds_alone c.brin_main.ensures.holds_on c.requires.alone).kept (layout, table, sure)) has (c.brin_main.ensures.script_output RunStored asked)

pub returns-clause-image : goal.returns-clause-image
returns-clause-image g c = λ store. ((holds_alone c.brin_main.ensures.holds_on c.requires.alone).kept store).image
