use Rattle.plain_script.proofs.PlainWords.{all_orders_are_whole, others_are_the_same, plain_lines_are_lines, steps_are_no_words}
use Rattle.plain_script.proofs.laws.plain_lines_are_lines.Goals as goal

pub returns-clause-steps : goal.returns-clause-steps
returns-clause-steps c = steps_are_no_words

pub returns-clause-others : goal.returns-clause-others
returns-clause-others c = others_are_the_same

pub returns-clause-same : goal.returns-clause-same
returns-clause-same c = plain_lines_are_lines

pub returns-clause-whole : goal.returns-clause-whole
returns-clause-whole c = all_orders_are_whole
