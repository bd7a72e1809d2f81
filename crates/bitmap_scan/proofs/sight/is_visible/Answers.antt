use Rattle.page_store.specs.SurvivesLaws.{survives_on}
use Rattle.bitmap_scan.proofs.sight.is_visible.Goals as goal

pub returns-clause-survives : goal.returns-clause-survives
returns-clause-survives g c = survives_on g.D.Disk.told c.args.pages.now c.has_done.new.pages c.has_done-2.new.pages c.has_done.ensures.kept c.has_done.ensures.survives c.has_done-2.ensures.survives

pub returns-in_err-gone-clause-survives : goal.returns-in_err-gone-clause-survives
returns-in_err-gone-clause-survives g c = survives_on g.D.Disk.told c.args.pages.now c.has_done.new.pages c.has_done-2.new.pages c.has_done.ensures.kept c.has_done.ensures.survives c.has_done-2.ensures.survives
