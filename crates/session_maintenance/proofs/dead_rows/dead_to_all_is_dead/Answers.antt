use Rattle.session_maintenance.proofs.Dead.{dead_to_all, drops_by_journal}
use Rattle.session_maintenance.proofs.dead_rows.dead_to_all_is_dead.Goals as goal

pub returns-clause-rows : goal.returns-clause-rows
returns-clause-rows c = dead_to_all (record {
  numbers = c.numbers_rise.ensures;
  copies = c.copies_are_of_their_fronts.ensures;
  oldest = c.oldest_front_stands.ensures;
  by_front = c.dead_by_oldest_front.ensures;
  unseen = c.dead_rows_are_unseen.ensures;
})

pub returns-clause-blocks : goal.returns-clause-blocks
returns-clause-blocks c = drops_by_journal (record {
  numbers = c.numbers_rise.ensures;
  copies = c.copies_are_of_their_fronts.ensures;
  oldest = c.oldest_front_stands.ensures;
  by_front = c.dead_by_oldest_front.ensures;
  unseen = c.dead_rows_are_unseen.ensures;
})
