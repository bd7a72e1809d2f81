-- a step of the map's growth as one of the summarise for whose range the map grows
use Rattle.page_locks.specs.declared.did.Did.{Did}
use Rattle.page_locks.specs.declared.did.Did.TheVariants as did

-- behind the last step of a growth the summarise goes on
abbrev pub onward : Did → Did
onward (did.Finished point) = did.Moved point
onward done = done
