use Rattle.summary_directory.proofs.Given.{explain_tells}
use Rattle.summary_directory.proofs.laws.an_explain_tells_the_given_blocks.Goals as goal

pub returns : goal.returns
returns c = λ layout shown query w scan exact judges. explain_tells layout shown query w scan exact judges
