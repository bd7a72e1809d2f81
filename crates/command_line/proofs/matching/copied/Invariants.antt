use Rattle.std.proofs.Common.{◌≡◌, map, take}
use Rattle.command_line.proofs.matching.copied.Given as goal

abbrev pub invariant-words : goal.invariant-words
invariant-words l = l.copy ≡ map (λ w. w.now) (take l.word-index l.words)
