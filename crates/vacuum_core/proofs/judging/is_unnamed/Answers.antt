use Rattle.page_store.specs.SurvivesLaws.{survives_still}
use Rattle.std.proofs.Common.{refl}
use Rattle.coverage.specs.IndexView.{map_page_of}
use Rattle.index_steps.specs.DamagedPages.{names_page}
use Rattle.vacuum_core.proofs.judging.is_unnamed.Goals as goal

pub returns-in_default-clause-survives : goal.returns-in_default-clause-survives
returns-in_default-clause-survives g c = survives_still g.D.Disk.told c.args.pages.now c.known.ensures.stays

pub returns-then-tuple-lt-RANGE_SIZE-clause-survives : goal.returns-then-tuple-lt-RANGE_SIZE-clause-survives
returns-then-tuple-lt-RANGE_SIZE-clause-survives g c = survives_still g.D.Disk.told c.args.pages.now c.known.ensures.stays

pub returns-in-Err-clause-at : goal.returns-in-Err-clause-at
returns-in-Err-clause-at g c = names_page c.args.pages.now.layout c.args.pages.now.layout c.args.index (map_page_of c.tuple_range.result) c.in-Err.error refl c.requires.index c.in-Err.ensures.reopen c.in-Err.ensures.at
