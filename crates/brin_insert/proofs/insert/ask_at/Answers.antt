use Rattle.std.proofs.Common.{Option, refl, sym, subst, ◌∙◌}
use Rattle.block_model.specs.declared.place.Spot.{Spot}
use Rattle.coverage.specs.IndexView.{map_page_of}
use Rattle.index_steps.specs.DamagedPages.{names_page}
use Rattle.brin_insert.specs.AskedFor.{HasOne, IsAsked}
use Rattle.brin_insert.proofs.insert.ask_at.Goals as goal

pub returns-in-Ok-Some-clause-asked : goal.returns-in-Ok-Some-clause-asked
returns-in-Ok-Some-clause-asked g c = λ tells.
    subst (λ (o : Option Spot). IsAsked (c.args.index, c.args.range) c.args.queue.now c.args.queue.now c.args.dropped.now.items c.args.dropped.now.items o) (sym (c.in-Ok-Some.ensures.entry tells ∙ c.in-Ok-Some.field-0-is))
    (HasOne c.in-Ok-Some.field-0-0 refl refl)

pub returns-in-Err-clause-at : goal.returns-in-Err-clause-at
returns-in-Err-clause-at g c = names_page c.args.pages.now.layout c.args.pages.now.layout c.args.index (map_page_of c.args.range) c.in-Err.error refl c.requires.index c.in-Err.ensures.reopen c.in-Err.ensures.at
