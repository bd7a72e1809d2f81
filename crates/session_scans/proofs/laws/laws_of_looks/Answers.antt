use Rattle.session_scans.proofs.laws.laws_of_looks.Goals as goal

pub returns : goal.returns
returns c = record {
  sessions = c.a_session_has_its_transaction.ensures;
  copies = c.a_session_sees_its_copy.ensures;
  seen = c.which_rows_count.ensures.seen;
  unseen = c.others_see_alike.ensures.put;
  apart = c.ids_of_rows_differ.ensures;
  found = c.rows_found_are_what_stands.ensures;
  look = c.a_look_is_shown.ensures;
  failure = c.a_failure_is_shown.ensures;
  is_failure = c.a_refusal_is_a_failure.ensures;
  failed = c.which_rows_count.ensures.failed;
}
