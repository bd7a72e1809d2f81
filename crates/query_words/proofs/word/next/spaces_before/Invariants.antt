use Rattle.std.proofs.Common.{◌≡◌, ◌+◌, ℕ, [], drop}
use Rattle.query_words.specs.Words.{words_from}
use Rattle.query_words.proofs.word.next.spaces_before.Given as goal

abbrev pub invariant-bytes : goal.invariant-bytes
invariant-bytes l = (at : ℕ) → words_from (at + l.i) [] (drop l.i l.bytes) ≡ words_from at [] l.bytes
