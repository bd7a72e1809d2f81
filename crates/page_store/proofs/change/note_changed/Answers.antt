use Rattle.std.proofs.Common.{sym, ◌∙◌}
use Rattle.page_map.specs.PageFacts.{facts_on}
use Rattle.page_store.proofs.FactSteps.{noted_same}
use Rattle.page_store.proofs.change.note_changed.Goals as goal

pub returns-then-keeps_facts-clause-noted : goal.returns-then-keeps_facts-clause-noted
returns-then-keeps_facts-clause-noted g c =
    let old = c.requires.held in
    record {
      page = old.page;
      held = old.held;
      passes = old.passes;
      facts = noted_same c.args.facts.now.items c.args.place (facts_on c.args.form.now old.page) (sym c.requires.known ∙ c.keeps_facts.ensures c.if-keeps_facts.true old.page old.made);
    }
