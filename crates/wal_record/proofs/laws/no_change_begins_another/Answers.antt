use Rattle.std.proofs.Common.{sym, ap, ◌∙◌}
use Rattle.std.proofs.lemmas.Option.{some_pair_parts}
use Rattle.wal_record.specs.Reading.{change_at}
use Rattle.wal_record.proofs.Changes.{change_again}
use Rattle.wal_record.proofs.laws.no_change_begins_another.Goals as goal

pub returns : goal.returns
returns c = λ a b x y left right e. some_pair_parts a b x y (sym (change_again a x left) ∙ ap change_at e ∙ change_again b y right)
