use Rattle.page_store.specs.SurvivesLaws.{survives_on}
use Rattle.revmap.proofs.entries.set.Goals as goal

pub returns-in-Ok-set_found-clause-survives : goal.returns-in-Ok-set_found-clause-survives
returns-in-Ok-set_found-clause-survives g c = survives_on g.D.Disk.told c.args.pages.now c.entry.new.pages c.set_found.new.pages c.entry.ensures.kept c.entry.ensures.survives c.set_found.ensures.survives

pub returns-in-Err-set_found-clause-survives : goal.returns-in-Err-set_found-clause-survives
returns-in-Err-set_found-clause-survives g c = survives_on g.D.Disk.told c.args.pages.now c.entry.new.pages c.set_found.new.pages c.entry.ensures.kept c.entry.ensures.survives c.set_found.ensures.survives
