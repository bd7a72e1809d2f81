use Rattle.std.proofs.Common.{append_assoc}
use Rattle.reply_texts.proofs.reply.add_vacuumed.Goals as goal

pub returns-clause-ok : goal.returns-clause-ok
returns-clause-ok c =
    simp (c.in_ok-add_count.ensures.ok, c.in_ok-add_number-2.ensures.ok, c.in_ok-append.ensures.ok, c.in_ok-add_number.ensures.ok, c.in_ok-add_words.ensures.ok, append_assoc)
