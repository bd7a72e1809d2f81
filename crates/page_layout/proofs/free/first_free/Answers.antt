use Rattle.std.proofs.Common.{◌∙◌, arith}
use Rattle.page_layout.specs.SlotLaws.{lowest_from}
use Rattle.page_layout.proofs.SlotsRead.{lowest_here}
use Rattle.page_layout.proofs.free.first_free.Goals as goal

pub returns-clause-read : goal.returns-clause-read
returns-clause-read c = lowest_here c.args.form c.args.page.now c.first_free_from.result c.requires.page c.first_free_from.ensures.contents c.first_free_from.ensures.unstarted c.first_free_from.ensures.statuses c.first_free_from.ensures.index

pub returns-clause-contents : goal.returns-clause-contents
returns-clause-contents c = λ slots has. c.first_free_from.ensures.contents slots has ∙ lowest_from 0 slots (λ slot below. absurd (omega arith))
