use Rattle.std.proofs.Common.{sym, ◌∙◌, ap}
use Rattle.std.specs.Prelude.{set}
use Rattle.std.proofs.lemmas.List.{set-get_or}
use Rattle.page_map.specs.declared.facts.PageFacts.{PageFacts}
use Rattle.page_map.specs.PageFacts.{no_facts}
use Rattle.recovery.proofs.judging.note_started.Goals as goal

pub returns-then-found-eq-UNSTARTED : goal.returns-then-found-eq-UNSTARTED
returns-then-found-eq-UNSTARTED c =
    sym (ap (λ (f : PageFacts). set c.args.facts.now c.args.at f) (c.requires.unstarted c.if-found-eq-UNSTARTED.true ∙ sym c.requires.fresh) ∙ set-get_or c.args.facts.now c.args.at no_facts)
