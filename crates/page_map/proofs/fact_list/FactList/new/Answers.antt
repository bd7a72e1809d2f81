use Rattle.std.proofs.Common.{arith}
use Rattle.page_map.specs.PageFacts.{no_facts}
use Rattle.page_map.proofs.FactLists.{new_list}
use Rattle.page_map.proofs.Filling.{filled-nil}
use Rattle.page_map.proofs.fact_list.FactList.new.Goals as goal

pub invariant_of-result : goal.invariant_of-result
invariant_of-result c = new_list c.args.limit c.in_ok-items.items.items _ c.in_ok-most.most.items c.in_ok-items.ensures.items (omega (arith, c.in_ok-items.ensures.exact)) c.in_ok-most.ensures.groups

pub returns : goal.returns
returns c = filled-nil no_facts c.args.limit c.in_ok-items.items.items c.in_ok-items.ensures.items
