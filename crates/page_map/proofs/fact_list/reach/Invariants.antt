use Rattle.std.proofs.Common.{◌≡◌, ◌≤◌}
use Rattle.std.specs.Prelude.{vec_capacity}
use Rattle.page_map.specs.Filled.{filled}
use Rattle.page_map.specs.PageFacts.{no_facts}
use Rattle.page_map.proofs.fact_list.reach.Given as goal

abbrev pub invariant-facts : goal.invariant-facts
invariant-facts l = record {
  reached : l.items.items ≡ filled no_facts l.counter l.initial.items.items;
  room : vec_capacity l.initial.items ≤ vec_capacity l.items;
}
