use Rattle.bitmap_scan.proofs.SeenPlaces.{does_stay, run_stays, step_stands, step_stays}
use Rattle.bitmap_scan.proofs.laws.a_seen_row_stays_in_its_place.Goals as goal

pub returns-clause-step : goal.returns-clause-step
returns-clause-step c = λ s n b k w v scan kept task sees step. step_stays s w scan kept task b k sees n v step

pub returns-clause-does : goal.returns-clause-does
returns-clause-does c = λ s n b k w v scan kept task sees does. does_stay s w scan kept task b k sees n v does

pub returns-clause-run : goal.returns-clause-run
returns-clause-run c = λ s b k steps w v scan kept task sees run on. run_stays s steps w v scan kept task b k sees run on

pub returns-clause-stands : goal.returns-clause-stands
returns-clause-stands c = λ s n b k r w v there sees step. step_stands s n b k r w there sees v step
