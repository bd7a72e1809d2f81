use Rattle.session_starts.proofs.Images.{commit_is_image}
use Rattle.session_starts.proofs.image_laws.a_stopped_commit_is_an_image.Goals as goal

pub returns : goal.returns
returns c =
    let tables = c.table_stays_covered.ensures in
    commit_is_image tables.stopped tables.covered c.an_opening_ends_all.ensures c.a_session_has_its_transaction.ensures c.statuses_are_one_list.ensures
    c.a_stopped_commit_is_whole.ensures c.which_rows_count.ensures.committed c.others_see_alike.ensures.apart
