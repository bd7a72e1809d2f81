use Rattle.std.proofs.lemmas.Result.{IfErr-weaker}
use Rattle.page_store.specs.Made.{IsOfDisk}
use Rattle.tx_table.specs.LeavesRest.{NamesStatuses}
use Rattle.tx_table.proofs.Parts.{unnamed}
use Rattle.tx_table.proofs.status_pages.flush.Goals as goal

pub returns-clause-at : goal.returns-clause-at
returns-clause-at g c = IfErr-weaker c.flush.result IsOfDisk (NamesStatuses c.args.pages.now.layout) (unnamed c.args.pages.now.layout) c.flush.ensures.undamaged
