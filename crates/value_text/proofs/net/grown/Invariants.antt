use Rattle.std.proofs.Common.{◌≡◌, ◌≤◌, length}
use Rattle.value_text.specs.Reading.{grown}
use Rattle.value_text.proofs.net.grown.Given as goal

-- the number grows from there as it does from the first digit
abbrev pub invariant-digits : goal.invariant-digits
invariant-digits l = record { within : l.n ≤ 255; same : grown l.limit l.n l.rest ≡ grown l.limit l.first l.text }

abbrev pub decreases-digits : goal.decreases-digits
decreases-digits l = length l.rest
