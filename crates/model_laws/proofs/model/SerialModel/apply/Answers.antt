use Rattle.std.proofs.Common.{ap, Some, None, rules}
use Rattle.block_model.specs.DatabaseState.{DatabaseState}
use Rattle.block_model.specs.RequestEffect.{Answer}
use Rattle.model_laws.specs.Answers.{answer_of}
use Rattle.model_laws.proofs.RunSteps.{effect_from}
use Rattle.model_laws.proofs.model.SerialModel.apply.Goals as goal

pub returns-in_default-clause-state : goal.returns-in_default-clause-state
returns-in_default-clause-state c = ap (λ (p : DatabaseState × Answer). p.0) (effect_from c.args.self.now c.args.entry.now None c.outside.new.self (answer_of c.in_ok-answer.answer) (search rules) c.in_ok-answer.ensures.ok)

pub returns-in_default-clause-reply : goal.returns-in_default-clause-reply
returns-in_default-clause-reply c = ap (λ (p : DatabaseState × Answer). p.1) (effect_from c.args.self.now c.args.entry.now None c.outside.new.self (answer_of c.in_ok-answer.answer) (search rules) c.in_ok-answer.ensures.ok)

pub returns-clause-state : goal.returns-clause-state
returns-clause-state c = ap (λ (p : DatabaseState × Answer). p.0) (effect_from c.args.self.now c.args.entry.now (Some c.in_ok-transaction.transaction) c.within.new.self (answer_of c.in_ok-answer-2.answer) (search rules) c.in_ok-answer-2.ensures.ok)

pub returns-clause-reply : goal.returns-clause-reply
returns-clause-reply c = ap (λ (p : DatabaseState × Answer). p.1) (effect_from c.args.self.now c.args.entry.now (Some c.in_ok-transaction.transaction) c.within.new.self (answer_of c.in_ok-answer-2.answer) (search rules) c.in_ok-answer-2.ensures.ok)
