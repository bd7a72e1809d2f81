use Rattle.session_inserts.proofs.laws.steps_of_an_insert.Goals as goal

pub returns-clause-index : goal.returns-clause-index
returns-clause-index c = record {
  machine = c.a_machine_asks.ensures;
  goes = c.a_turn_is_a_step.ensures.asks;
  replies = c.a_turn_is_a_step.ensures.replies;
  waits = c.a_turn_is_a_step.ensures.waits;
  shown = c.a_step_is_shown.ensures.asking;
  stays = c.a_step_is_shown.ensures.same;
  own = c.the_own_table_goes_on.ensures.goes_on;
  alike = c.other_pages_show_alike.ensures;
  leads = c.a_request_leads.ensures.none;
  few = c.few_rows_come_to_count.ensures.same;
  slots = c.others_see_on.ensures.nothing;
}

pub returns-clause-row : goal.returns-clause-row
returns-clause-row c = record {
  machine = c.a_machine_asks.ensures;
  goes = c.a_turn_is_a_step.ensures.asks;
  replies = c.a_turn_is_a_step.ensures.replies;
  shown = c.a_step_is_shown.ensures.asking;
  own = c.the_own_table_goes_on.ensures.goes_on;
  leads = c.a_request_leads.ensures.one;
  within = c.transactions_go_on.ensures.put;
  legal = c.requests_are_legal.ensures.put;
  few = c.few_rows_come_to_count.ensures.same;
  slots = c.others_see_on.ensures.put;
  put = c.a_put_is_shown.ensures;
  unseen = c.others_see_alike.ensures.put;
  counts = c.which_rows_count.ensures.put;
  sessions = c.a_session_has_its_transaction.ensures;
}

pub returns-clause-refusal : goal.returns-clause-refusal
returns-clause-refusal c = record {
  row = c.a_refusal_turns.ensures.row;
  insert = c.a_refusal_turns.ensures.insert;
  refused = c.a_turn_is_a_step.ensures.refused;
  shown = c.a_step_is_shown.ensures.in_one_table;
  table_shown = c.a_refusal_is_shown.ensures.transaction;
  leads = c.a_request_leads.ensures.one;
  within = c.transactions_go_on.ensures.failure;
  legal = c.requests_are_legal.ensures.put;
  fewer = c.few_rows_come_to_count.ensures.fewer;
  no_more = c.few_rows_come_to_count.ensures.failure;
  failure = c.a_failure_is_shown.ensures;
  is_failure = c.a_refusal_is_a_failure.ensures;
  counts = c.which_rows_count.ensures.failed;
  sessions = c.a_session_has_its_transaction.ensures;
  alike = c.other_pages_show_alike.ensures;
}
