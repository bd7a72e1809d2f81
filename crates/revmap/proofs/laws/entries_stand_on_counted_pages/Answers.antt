use Rattle.revmap.proofs.RangeEntries.{named_is_held, past_is_none}
use Rattle.revmap.proofs.laws.entries_stand_on_counted_pages.Goals as goal

pub returns-clause-held : goal.returns-clause-held
returns-clause-held c = named_is_held

pub returns-clause-past : goal.returns-clause-past
returns-clause-past c = past_is_none
