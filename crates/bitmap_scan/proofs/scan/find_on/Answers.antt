use Rattle.page_store.specs.SurvivesLaws.{survives_on}
use Rattle.bitmap_scan.proofs.Behind.{names_block}
use Rattle.bitmap_scan.proofs.scan.find_on.Goals as goal

pub returns-in-Ok-find_among-clause-survives : goal.returns-in-Ok-find_among-clause-survives
returns-in-Ok-find_among-clause-survives g c = survives_on g.D.Disk.told c.args.pages.now c.rows_of.new.pages c.find_among.new.pages c.rows_of.ensures.kept c.rows_of.ensures.survives c.find_among.ensures.survives

pub returns-in-Err-find_among-clause-survives : goal.returns-in-Err-find_among-clause-survives
returns-in-Err-find_among-clause-survives g c = survives_on g.D.Disk.told c.args.pages.now c.rows_of.new.pages c.find_among.new.pages c.rows_of.ensures.kept c.rows_of.ensures.survives c.find_among.ensures.survives

pub returns-in-Err-clause-names : goal.returns-in-Err-clause-names
returns-in-Err-clause-names g c = names_block c.args.pages.now.layout c.args.query.now.table c.args.block c.in-Err.error c.requires.table c.requires.block c.in-Err.ensures.at
