use Rattle.std.proofs.Common.{List, subst}
use Rattle.block_model.specs.declared.reply.Reply.TheVariants as replies
use Rattle.block_model.specs.RequestEffect.{Answer}
use Rattle.store_layout.specs.declared.statement.Statement.TheVariants as statements
use Rattle.script_semantics.specs.StatementSteps.{Ended, StepsTo}
use Rattle.script_laws.proofs.Selects.{reached_is_fresh}
use Rattle.script_laws.proofs.looking.a_select_misses_nothing.Goals as goal

pub returns : goal.returns
returns c = λ layout p q n query answers rows x reached has its step.
    c.answers_are_of_the_copy.ensures.select p q n query rows x its
    (subst (λ (a : List Answer). StepsTo p n (record { statement = statements.Select query; answers = a }) (Ended (replies.Found rows)) q) (reached_is_fresh layout p reached n query answers has) step)
