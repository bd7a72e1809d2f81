-- pages that were judged, one more
use Rattle.std.proofs.Common.{◌≡◌, inl, inr, ℕ, zero, suc, ◌+◌, ◌<◌, List, [], ◌∷◌, ◌++◌, length, map, set, get_or, refl, sym, ◌∙◌, ap, subst, arith, length-append}
use Rattle.std.proofs.lemmas.Bool.{cases_eq, cases_lt}
use Rattle.std.proofs.lemmas.List.{get_or-map, get_or-set_same, get_or-set_other, get_or_default, length-map}
use Rattle.store_layout.specs.DiskLayout.{DiskLayout, relation_blocks}
use Rattle.disk_trait.specs.Told.{Told}
use Rattle.page_map.specs.declared.facts.PageFacts.{PageFacts}
use Rattle.page_map.specs.PageFacts.{facts_in, no_facts}
use Rattle.buffer_pool.specs.PoolState.{PoolState}
use Rattle.recovery.specs.Judged.{AreJudged, AreJudgedIn, IsJudged}
use Rattle.recovery.proofs.PageJudged.{judged_after, judged_before}

-- of one relation, those of the blocks below the number
abbrev pub JudgedBelow : DiskLayout → PoolState → Told → ℕ → ℕ → List PageFacts → Type 0
JudgedBelow layout pool disk relation n facts = (block : ℕ) → block < n → IsJudged layout pool disk (record { relation = relation; block = block }) (facts_in facts block)

pub judged_more : (layout : DiskLayout) (pool : PoolState) (disk : Told) (relation n : ℕ) (facts : List PageFacts) (found : PageFacts) → n < length facts → JudgedBelow layout pool disk relation n facts
    → IsJudged layout pool disk (record { relation = relation; block = n }) found → JudgedBelow layout pool disk relation (n + 1) (set facts n found)
judged_more layout pool disk relation n facts found within below one block low = elim (cases_eq n block) [
  | inl is ↦
      subst (λ (b : ℕ). IsJudged layout pool disk (record { relation = relation; block = b }) (facts_in (set facts n found) b)) is
      (subst (IsJudged layout pool disk (record { relation = relation; block = n })) (sym (get_or-set_same facts n found no_facts within)) one)
  | inr other ↦
      subst (IsJudged layout pool disk (record { relation = relation; block = block })) (sym (get_or-set_other facts n block found no_facts (λ e. other (sym e)))) (below block (omega (arith, low, other)))
]

-- the relations below the number
pub record JudgedRelations (layout : DiskLayout) (pool : PoolState) (disk : Told) (n : ℕ) (facts : List (List PageFacts)) : Type 0 where
  pub count : length facts ≡ n
  pub lengths : (relation : ℕ) → relation < n → length (get_or facts relation []) ≡ get_or (relation_blocks layout) relation 0
  pub pages : (relation : ℕ) → relation < n → JudgedBelow layout pool disk relation (get_or (relation_blocks layout) relation 0) (get_or facts relation [])

get_or-append_left : {X : Type 0} (xs : List X) (y d : X) (k : ℕ) → k < length xs → get_or (xs ++ y ∷ []) k d ≡ get_or xs k d
get_or-append_left [] y d k low = absurd (omega (arith, low))
get_or-append_left (x ∷ xs) y d zero low = refl
get_or-append_left (x ∷ xs) y d (suc k) low = get_or-append_left xs y d k (omega (arith, low))

get_or-append_last : {X : Type 0} (xs : List X) (y d : X) (k : ℕ) → k ≡ length xs → get_or (xs ++ y ∷ []) k d ≡ y
get_or-append_last [] y d zero is = refl
get_or-append_last [] y d (suc k) is = absurd (omega (arith, is))
get_or-append_last (x ∷ xs) y d zero is = absurd (omega (arith, is))
get_or-append_last (x ∷ xs) y d (suc k) is = get_or-append_last xs y d k (omega (arith, is))

pub relations_more : (layout : DiskLayout) (pool : PoolState) (disk : Told) (n : ℕ) (facts : List (List PageFacts)) (found : List PageFacts) → JudgedRelations layout pool disk n facts
    → AreJudgedIn layout pool disk n (get_or (relation_blocks layout) n 0) found → JudgedRelations layout pool disk (n + 1) (facts ++ found ∷ [])
relations_more layout pool disk n facts found r one = record {
  count = omega (arith, length-append facts (found ∷ []), r.count);
  lengths = λ relation low. elim (cases_lt relation n) [
    | inl below ↦ ap (length {A = PageFacts}) (get_or-append_left facts found [] relation (omega (arith, below, r.count))) ∙ r.lengths relation below
    | inr last ↦
        let is : relation ≡ n = omega (arith, last, low) in
        ap (length {A = PageFacts}) (get_or-append_last facts found [] relation (omega (arith, is, r.count))) ∙ one.long ∙ ap (λ (k : ℕ). get_or (relation_blocks layout) k 0) (sym is)
  ];
  pages = λ relation low. elim (cases_lt relation n) [
    | inl below ↦ subst (JudgedBelow layout pool disk relation (get_or (relation_blocks layout) relation 0)) (sym (get_or-append_left facts found [] relation (omega (arith, below, r.count)))) (r.pages relation below)
    | inr last ↦
        let is : n ≡ relation = omega (arith, last, low) in
        subst (JudgedBelow layout pool disk relation (get_or (relation_blocks layout) relation 0)) (sym (get_or-append_last facts found [] relation (omega (arith, is, r.count))))
        (subst (λ (k : ℕ). JudgedBelow layout pool disk k (get_or (relation_blocks layout) k 0) found) is one.pages)
  ];
}

-- all relations
same_lengths : (facts : List (List PageFacts)) (limits : List ℕ) → length facts ≡ length limits → ((k : ℕ) → k < length limits → length (get_or facts k []) ≡ get_or limits k 0) → map length facts ≡ limits
same_lengths [] [] long each = refl
same_lengths [] (l ∷ limits) long each = absurd (omega (arith, long))
same_lengths (f ∷ facts) [] long each = absurd (omega (arith, long))
same_lengths (f ∷ facts) (l ∷ limits) long each =
    let one : length f ≡ l = each 0 (omega arith) in
    let rest = same_lengths facts limits (omega (arith, long)) (λ k low. each (suc k) (omega (arith, low))) in
    λ i. one i ∷ rest i

pub all_judged : (layout : DiskLayout) (pool : PoolState) (disk : Told) (facts : List (List PageFacts)) → JudgedRelations layout pool disk (length (relation_blocks layout)) facts → AreJudged layout pool facts disk
all_judged layout pool disk facts r = record {
  whole = same_lengths facts (relation_blocks layout) r.count r.lengths;
  pages = λ place is. r.pages place.relation is.relation place.block is.block;
}

-- a read of the disk before or behind changes nothing of it
pub judged_in_before : (layout : DiskLayout) (pool : PoolState) (relation limit : ℕ) (facts : List PageFacts) (old mid : Told) → mid ≡ record old { faults = mid.faults } → AreJudgedIn layout pool mid relation limit facts → AreJudgedIn layout pool old relation limit facts
judged_in_before layout pool relation limit facts old mid same j =
    record { long = j.long; pages = λ block low. judged_before layout pool (record { relation = relation; block = block }) (facts_in facts block) old mid same (j.pages block low) }

pub judged_in_after : (layout : DiskLayout) (pool : PoolState) (relation limit : ℕ) (facts : List PageFacts) (old mid : Told) → mid ≡ record old { faults = mid.faults } → AreJudgedIn layout pool old relation limit facts → AreJudgedIn layout pool mid relation limit facts
judged_in_after layout pool relation limit facts old mid same j =
    record { long = j.long; pages = λ block low. judged_after layout pool (record { relation = relation; block = block }) (facts_in facts block) old mid same (j.pages block low) }

-- of all pages, those of one relation
pub one_judged : (layout : DiskLayout) (pool : PoolState) (disk : Told) (facts : List (List PageFacts)) (relation : ℕ) (kinds : List PageFacts) → AreJudged layout pool facts disk → relation < length (relation_blocks layout) → kinds ≡ get_or facts relation kinds
    → AreJudgedIn layout pool disk relation (get_or (relation_blocks layout) relation 0) kinds
one_judged layout pool disk facts relation kinds judged inside is =
    let within : relation < length facts = omega (arith, inside, ap (length {A = ℕ}) judged.whole, length-map facts (length {A = PageFacts})) in
    let own : kinds ≡ get_or facts relation [] = is ∙ get_or_default facts relation kinds [] within in
    subst (AreJudgedIn layout pool disk relation (get_or (relation_blocks layout) relation 0)) (sym own) (record {
      long = sym (get_or-map (length {A = PageFacts}) facts relation [] 0 within) ∙ ap (λ (l : List ℕ). get_or l relation 0) judged.whole;
      pages = λ block low. judged.pages (record { relation = relation; block = block }) (record { relation = inside; block = low });
    })
