use Rattle.std.proofs.Common.{◌≡◌, drop}
use Rattle.query_words.specs.Written.{first_written}
use Rattle.query_words.proofs.written.first_written.Given as goal

abbrev pub invariant-all : goal.invariant-all
invariant-all g l = first_written g.W.Written.text (drop l.one-index l.all) l.word ≡ first_written g.W.Written.text l.all l.word
