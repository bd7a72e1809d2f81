use Rattle.index_steps.proofs.Seen.{included_seen, keeps_seen, placeholder_seen, range_seen}
use Rattle.index_steps.proofs.laws.what_is_seen_is_its_tuple.Goals as goal

pub returns-clause-range : goal.returns-clause-range
returns-clause-range c = λ shape bytes t read. range_seen shape bytes t read

pub returns-clause-placeholder : goal.returns-clause-placeholder
returns-clause-placeholder c = λ shape bytes t read. placeholder_seen shape bytes t read

pub returns-clause-includes : goal.returns-clause-includes
returns-clause-includes c = λ shape bytes t read r are. included_seen c.a_row_is_included_as_tested.ensures shape bytes t read r are

pub returns-clause-keeps : goal.returns-clause-keeps
returns-clause-keeps c = λ shape bytes t read conds. keeps_seen shape bytes t read conds
