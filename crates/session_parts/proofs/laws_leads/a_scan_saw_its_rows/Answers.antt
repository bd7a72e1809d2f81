use Rattle.session_parts.proofs.Leads.{scan_saw_rows}
use Rattle.session_parts.proofs.laws_leads.a_scan_saw_its_rows.Goals as goal

pub returns : goal.returns
returns c = scan_saw_rows
