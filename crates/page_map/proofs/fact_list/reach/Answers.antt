use Rattle.std.proofs.Common.{◌∙◌, ◌+◌, ◌++◌, [], ◌∷◌, ap, length, arith}
use Rattle.page_map.specs.declared.facts.PageFacts.{PageFacts}
use Rattle.page_map.specs.PageFacts.{no_facts}
use Rattle.page_map.proofs.Filling.{filled_enough, filled_more, length-filled}
use Rattle.page_map.proofs.fact_list.reach.Goals as goal

pub returns-then-at-len-clause-items : goal.returns-then-at-len-clause-items
returns-then-at-len-clause-items c = filled_enough no_facts (c.args.at + 1) c.args.items.now.items (omega arith)

pub push_reserved-requires : goal.push_reserved-requires
push_reserved-requires c = omega (arith, ap (length {A = PageFacts}) c.facts.invariant.reached, length-filled no_facts c.facts.counter c.args.items.now.items)

pub facts-init : goal.facts-init
facts-init c = record { reached = filled_enough no_facts _ c.args.items.now.items (omega arith); room = omega arith }

pub facts-preserved : goal.facts-preserved
facts-preserved c = record {
  reached = c.push_reserved.ensures.items ∙ (λ i. c.facts.invariant.reached i ++ no_facts ∷ []) ∙ filled_more no_facts c.args.items.now.items c.facts.counter (omega arith);
  room = omega arith;
}

pub returns-clause-there : goal.returns-clause-there
returns-clause-there c = omega (arith, ap (length {A = PageFacts}) c.facts.invariant.reached, length-filled no_facts c.facts.counter c.args.items.now.items)
