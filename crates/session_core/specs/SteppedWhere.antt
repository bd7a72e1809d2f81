-- which statements are taken out of the hand for a step, and which are stepped where they stand
use Rattle.session_parts.specs.declared.hand.Hand.{Hand}
use Rattle.session_parts.specs.declared.hand.Hand.TheVariants as hands

-- a statement of one step, and any other before its first
abbrev pub IsTakenOut : Hand → Type 0
IsTakenOut (hands.Begins numbers) = Unit {0}
IsTakenOut hands.Commits = Unit {0}
IsTakenOut hands.RollsBack = Unit {0}
IsTakenOut (hands.Selecting query) = Unit {0}
IsTakenOut (hands.Deleting query) = Unit {0}
IsTakenOut hands.Working = Unit {0}
IsTakenOut hand = ⊥

-- a statement that goes on by itself, but an insert
abbrev pub IsSteppedThere : Hand → Type 0
IsSteppedThere (hands.Selects scan) = Unit {0}
IsSteppedThere (hands.Deletes scan) = Unit {0}
IsSteppedThere (hands.Marks marking) = Unit {0}
IsSteppedThere (hands.Explains explain) = Unit {0}
IsSteppedThere (hands.Summarises summarise) = Unit {0}
IsSteppedThere (hands.Desummarises desummarise) = Unit {0}
IsSteppedThere (hands.Cleans cleaning) = Unit {0}
IsSteppedThere (hands.Completes completing) = Unit {0}
IsSteppedThere (hands.Works requested) = Unit {0}
IsSteppedThere hand = ⊥
