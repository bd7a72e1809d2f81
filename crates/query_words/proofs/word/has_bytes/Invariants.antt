use Rattle.std.proofs.Common.{◌≡◌, drop}
use Rattle.std.specs.Str.{bytes_eq}
use Rattle.query_words.proofs.word.has_bytes.Given as goal

abbrev pub invariant-bytes : goal.invariant-bytes
invariant-bytes l = bytes_eq (drop l.i l.word) (drop l.i l.expected) ≡ bytes_eq l.word l.expected
