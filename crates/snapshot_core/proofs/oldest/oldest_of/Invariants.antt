use Rattle.std.proofs.Common.{◌≡◌, None, drop}
use Rattle.std.specs.Option.{option_copied}
use Rattle.snapshot_core.specs.OldestOpen.{oldest_from}
use Rattle.snapshot_core.proofs.oldest.oldest_of.Given as goal

abbrev pub invariant-sessions : goal.invariant-sessions
invariant-sessions l = oldest_from (option_copied l.oldest) (drop l.session-index l.sessions) ≡ oldest_from None l.sessions
