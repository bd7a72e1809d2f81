use Rattle.std.proofs.Common.{refl}
use Rattle.index_contents.specs.IndexContents.{relation_of}
use Rattle.page_locks.specs.LockHolders.{holder}
use Rattle.index_steps.specs.DamagedPages.{names_page}
use Rattle.index_steps.specs.LockLaws.{gives_apart}
use Rattle.index_steps.proofs.moving.drop_moved.Goals as goal

pub returns-in-Err-clause-at : goal.returns-in-Err-clause-at
returns-in-Err-clause-at g c = names_page c.args.pages.now.layout c.args.pages.now.layout c.args.at.index c.args.from.block c.in-Err.error refl c.requires.index c.in-Err.ensures.reopen c.in-Err.ensures.at

pub returns-in-Ok-clause-apart : goal.returns-in-Ok-clause-apart
returns-in-Ok-clause-apart g c = gives_apart (relation_of c.args.pages.now.layout c.args.at.index) c.args.at.actor (holder c.args.locks.now) (holder c.drop_all.new.self) c.drop_all.ensures.given
