use Rattle.coverage.proofs.Opening.{scan_finds, scan_excludes}
use Rattle.coverage.proofs.index_laws.scans_miss_nothing.Goals as goal

pub returns : goal.returns
returns c = record { found = scan_finds; excluded = scan_excludes }
