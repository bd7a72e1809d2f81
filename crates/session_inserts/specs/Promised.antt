-- an entry of the journal that is promised to a step alone
use Rattle.std.specs.Prelude.{◌-◌}
use Rattle.session_parts.specs.declared.parts.Parts.{Parts}

-- the parts before that promise
abbrev pub unpromised : {D : Type 0} → Parts D → Parts D
unpromised parts = record parts { journal = record parts.journal { promised = parts.journal.promised - 1 } }
