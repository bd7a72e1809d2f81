use Rattle.session_starts.proofs.Whole.{step_stops_whole}
use Rattle.session_starts.proofs.image_laws.a_step_stops_whole.Goals as goal

pub returns : goal.returns
returns g c = step_stops_whole g.D.Disk.told c.a_shown_store_is_an_image.ensures c.a_stopped_commit_is_an_image.ensures c.a_step_leaves_the_table.ensures
