use Rattle.reply_texts.specs.Texts.{reply_text}
use Rattle.reply_texts.proofs.reply.add_reply.Goals as goal

pub returns-in-Summarized-clause-ok : goal.returns-in-Summarized-clause-ok
unfolding reply_text
returns-in-Summarized-clause-ok c = rw c.in-Summarized.is c.add_count-in-Summarized.ensures.ok

pub returns-in-Desummarized-clause-ok : goal.returns-in-Desummarized-clause-ok
unfolding reply_text
returns-in-Desummarized-clause-ok c = rw c.in-Desummarized.is c.add_count-in-Desummarized.ensures.ok
