use Rattle.std.proofs.Common.{sym}
use Rattle.query_words.proofs.query.read_key.Goals as goal

pub returns-in-Some-clause-said : goal.returns-in-Some-clause-said
returns-in-Some-clause-said c =
    (c.args.kind, (c.in-Some.value, (c.value_of_is_denoted.ensures c.args.kind c.args.word.now.text.now c.in-Some.value).0 (sym c.in-Some.ensures)))
