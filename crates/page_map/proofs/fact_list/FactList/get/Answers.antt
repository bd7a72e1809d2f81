use Rattle.std.proofs.Common.{◌≡◌, ◌≤◌, ◌∙◌, List, length, sym, ap, subst, arith}
use Rattle.std.specs.Prelude.{slice_get}
use Rattle.std.proofs.lemmas.List.{get_or_past}
use Rattle.std.proofs.lemmas.Option.{get_or_from_slice_get}
use Rattle.page_map.specs.declared.facts.PageFacts.{PageFacts}
use Rattle.page_map.specs.PageFacts.{facts_in, no_facts}
use Rattle.page_map.proofs.Filling.{get_or-filled}
use Rattle.page_map.proofs.Lookups.{got}
use Rattle.page_map.proofs.fact_list.FactList.get.Goals as goal

pub returns-in-Some : goal.returns-in-Some
returns-in-Some c =
    let one = c.in-Some.facts.now in
    let items = c.self.inside.items.items in
    let there = ap (λ (l : List PageFacts). slice_get l c.args.at) (sym c.deref.ensures.value) ∙ got c.deref.result.now c.args.at one c.in-Some.ensures.lookup.0 c.in-Some.ensures.lookup.1 in
    subst (λ (l : List PageFacts). one ≡ facts_in l c.args.at) c.self.view_is (sym (get_or-filled no_facts c.self.inside.limit items c.args.at ∙ get_or_from_slice_get items c.args.at one no_facts there))

pub returns-in-None : goal.returns-in-None
returns-in-None c =
    let items = c.self.inside.items.items in
    let past : length items ≤ c.args.at = omega (arith, c.in-None.ensures.lookup.3, ap (length {A = PageFacts}) c.deref.ensures.value) in
    subst (λ (l : List PageFacts). no_facts ≡ facts_in l c.args.at) c.self.view_is (sym (get_or-filled no_facts c.self.inside.limit items c.args.at ∙ get_or_past items c.args.at no_facts past))
