use Rattle.std.proofs.Common.{◌≡◌, drop}
use Rattle.value_text.specs.TextReading.{word_at}
use Rattle.value_text.proofs.cursor.word.Given as goal

-- what is left to read there is what was to be read
abbrev pub invariant-bytes : goal.invariant-bytes
invariant-bytes l = word_at (drop l.wanted-index l.word) l.rest ≡ word_at l.word l.text
