use Rattle.std.proofs.Common.{◌≡◌, ℕ, [], take, drop}
use Rattle.query_words.specs.Words.{words_from}
use Rattle.query_words.proofs.word.next.word_len.Given as goal

abbrev pub invariant-bytes : goal.invariant-bytes
invariant-bytes l = (at : ℕ) → words_from at (take l.i l.bytes) (drop l.i l.bytes) ≡ words_from at [] l.bytes
