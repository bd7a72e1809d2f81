use Rattle.session_parts.proofs.Leads.{failure_counts_no_more, fewer_counts_few, more_counts_few, next_has_no_rows, same_counts_few}
use Rattle.session_parts.proofs.laws_leads.few_rows_come_to_count.Goals as goal

pub returns-clause-same : goal.returns-clause-same
returns-clause-same c = same_counts_few

pub returns-clause-fewer : goal.returns-clause-fewer
returns-clause-fewer c = fewer_counts_few

pub returns-clause-more : goal.returns-clause-more
returns-clause-more c = more_counts_few

pub returns-clause-next : goal.returns-clause-next
returns-clause-next c = next_has_no_rows

pub returns-clause-failure : goal.returns-clause-failure
returns-clause-failure c = failure_counts_no_more
