use Rattle.std.proofs.Common.{ap, subst}
use Rattle.wal_record.specs.Changes.{LoggedChange, logged}
use Rattle.page_map.specs.PageFacts.{IsMadeFrom}
use Rattle.page_map.proofs.FactsKept.{mark_facts}
use Rattle.page_store.proofs.change.keeps_facts.Goals as goal

pub returns-in-RowMark : goal.returns-in-RowMark
returns-in-RowMark c = λ _ page made.
    mark_facts c.slots_are_read.ensures.one c.args.form.now c.in-RowMark.place c.in-RowMark.slot c.in-RowMark.deleter page c.args.old.now
    (subst (λ (change : LoggedChange). IsMadeFrom c.args.form.now c.args.old.now change page) (ap logged c.in-RowMark.is) made)
