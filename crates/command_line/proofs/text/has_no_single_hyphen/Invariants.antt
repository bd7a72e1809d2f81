use Rattle.std.proofs.Common.{◌≡◌, drop, map}
use Rattle.command_line.specs.ClapReading.{has_no_single_hyphen}
use Rattle.command_line.proofs.text.has_no_single_hyphen.Given as goal

abbrev pub invariant-words : goal.invariant-words
invariant-words l = has_no_single_hyphen (map (λ w. w.now) (drop l.word-index l.words)) ≡ has_no_single_hyphen (map (λ w. w.now) l.words)
