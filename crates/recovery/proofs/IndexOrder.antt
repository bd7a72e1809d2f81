-- the order of an index's pages, by the kinds that were noted
use Rattle.std.proofs.Common.{◌≡◌, ◌⊎◌, inl, inr, ℕ, ◌+◌, ◌<◌, ◌≤◌, cond, eqb, List, refl, sym, ◌∙◌, ap, subst, ⊎_elim, arith}
use Rattle.std.proofs.lemmas.Bool.{cases_eq, ne_eqb}
use Rattle.page_layout.specs.IndexReading.{map_pages_of, number_at}
use Rattle.page_map.specs.declared.facts.PageFacts.{PageFacts}
use Rattle.recovery.specs.PageOrder.{empty_page, IsIndexInOrder, IsOfTuples, kind_of, map_pages}
use Rattle.page_map.proofs.PageKinds.{kind_without_maps}
use Rattle.recovery.specs.Orders.{HasIndexKinds, IsTupleKind, MayStand, StandsInIndex, kind_in}
use Rattle.recovery.proofs.KindsStand.{no_tuple}

module _ (limit maps : ℕ) (facts : List PageFacts) (page : ℕ → List ℕ) (kinds : (block : ℕ) → block < limit → kind_in facts block ≡ kind_of (page block)) (here : map_pages (page 0) ≡ maps) (some : 1 ≤ maps) (few : maps < limit) where
  -- the kinds are those of an index in order, and a page that is left over has no entries
  pub in_order : HasIndexKinds limit maps facts → (maps + 1 < limit → kind_in facts (maps + 1) ≡ 4 → page (maps + 1) ≡ empty_page 4) → IsIndexInOrder limit page
  in_order has left = record {
    first = λ before block low within started none.
        has.first before block low within (λ e. started (sym (kinds block within) ∙ e)) (kinds before (omega (arith, low, within)) ∙ none);
    metapage = sym (kinds 0 (omega (arith, few))) ∙ (has.kinds 0 (omega (arith, few))).meta refl;
    some_map = subst (λ (n : ℕ). 1 ≤ n) (sym here) some;
    few_maps = subst (λ (n : ℕ). n < limit) (sym here) few;
    maps = λ block low within.
        let inside : block ≤ maps = omega (arith, within, here) in
        sym (kinds block (omega (arith, inside, few))) ∙ (has.kinds block (omega (arith, inside, few))).map low inside;
    next = λ within.
        let inside : maps + 1 < limit = omega (arith, within, here) in
        subst (λ (n : ℕ). IsOfTuples (page (n + 1)) ⊎ (page (n + 1) ≡ empty_page 4)) (sym here)
        (⊎_elim (λ (tuple : IsTupleKind (kind_in facts (maps + 1))). inl (subst IsTupleKind (kinds (maps + 1) inside) tuple))
        (λ (left_over : (kind_in facts (maps + 1) ≡ 4) × (maps + 1 ≡ maps + 1)). inr (left inside left_over.0)) ((has.kinds (maps + 1) inside).behind (omega arith)));
    others = λ block past within.
        let behind : maps + 1 < block = omega (arith, past, here) in
        ⊎_elim (λ (tuple : IsTupleKind (kind_in facts block)). subst IsTupleKind (kinds block within) tuple)
        (λ (left_over : (kind_in facts block ≡ 4) × (block ≡ maps + 1)). absurd (omega (arith, behind, left_over.1))) ((has.kinds block within).behind (omega (arith, behind)));
  }

  -- a page that stands in order is of a kind that may stand there
  pub stands_may : (block : ℕ) → block < limit → StandsInIndex limit page block → MayStand maps block (kind_in facts block)
  stands_may block within stands = record {
    meta = λ is. kinds block within ∙ ap (λ (b : ℕ). kind_of (page b)) is ∙ stands.metapage is;
    map = λ low inside. kinds block within ∙ stands.maps low (omega (arith, inside, here));
    behind = λ past. elim (cases_eq block (maps + 1)) [
      | inl next ↦
          let at : block ≡ map_pages (page 0) + 1 = omega (arith, next, here) in
          ⊎_elim (λ (tuple : IsOfTuples (page block)). inl (subst IsTupleKind (sym (kinds block within)) tuple))
          (λ (left : page block ≡ empty_page 4). inr (kinds block within ∙ ap kind_of left, next)) (stands.next at)
      | inr beyond ↦ inl (subst IsTupleKind (sym (kinds block within)) (stands.others (omega (arith, past, beyond, here))))
    ];
  }

  -- a page of the map behind those that the metapage counts has no entries
  pub left_empty : (within : maps + 1 < limit) → kind_in facts (maps + 1) ≡ 4 → StandsInIndex limit page (maps + 1) → page (maps + 1) ≡ empty_page 4
  left_empty within same stands =
      ⊎_elim (λ (tuple : IsOfTuples (page (maps + 1))). absurd (no_tuple (kind_of (page (maps + 1))) (sym (kinds (maps + 1) within) ∙ same) tuple))
      (λ (left : page (maps + 1) ≡ empty_page 4). left) (stands.next (ap (λ (n : ℕ). n + 1) (sym here)))

-- a page that counts pages of the map is a metapage
pub is_meta : (page : List ℕ) (maps : ℕ) → maps ≡ map_pages_of page → 0 < maps → kind_of page ≡ 3
is_meta page maps is some = elim (cases_eq (kind_of page) 3) [
  | inl same ↦ same
  | inr other ↦ absurd (let none : 0 ≡ map_pages_of page = kind_without_maps page (kind_of page) refl (ne_eqb (kind_of page) 3 other) in omega (arith, some, is, none))
]

pub counts : (page : List ℕ) (maps : ℕ) → maps ≡ map_pages_of page → kind_of page ≡ 3 → map_pages page ≡ maps
unfolding map_pages_of
counts page maps is meta = sym (is ∙ ap (λ (k : ℕ). cond (eqb k 3) (number_at page 32 4) 0) meta)
