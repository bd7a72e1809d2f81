-- The rows that a query finds in a copy, by their ids, and a copy that loses one of them.
use Rattle.std.proofs.Common.{◌≡◌, Bool, true, false, cond, ◌&&◌, T, List, [], ◌∷◌, map, None, Some, Ordering, is_some, refl, sym, ap, ◌∙◌, subst}
use Rattle.std.specs.declared.cmp.Ordering.TheVariants.{Less, Equal, Greater}
use Rattle.std.specs.List.{AllByRecursion, IsDistinct, filter}
use Rattle.std.specs.Ordering.{eq_by_cmp, is_lt, is_eq}
use Rattle.std.specs.Cmp.{eq_by_cmp_equiv}
use Rattle.std.specs.FinMap as maps
use Rattle.std.specs.FinMap.{contains_key, entries, find, is_sorted, get-entries, get-remove, entries_sorted}
use Rattle.std.specs.FinMap.Entries.{below_all}
use Rattle.std.proofs.lemmas.Bool.{true≢false}
use Rattle.std.proofs.lemmas.List.Elements.{All-from_recursion, recursion_from_All}
use Rattle.std.proofs.lemmas.Option.{none-some}
use Rattle.block_model.specs.declared.row.RowId.{RowId}
use Rattle.block_model.specs.declared.row.Row.{Row}
use Rattle.block_model.specs.declared.row.Query.{Query}
use Rattle.block_model.specs.DatabaseState.{OpenTransaction}
use Rattle.block_model.specs.RequestEffect.{rows_found, after_mark}
use Rattle.block_model.specs.RowMatches.{row_matches}
use Rattle.block_model.specs.TableState.{id_cmp, ids_total, ids_exact, id_ties_itself}
use Rattle.session_parts.specs.ShowsPlace.{AreInCopy}

-- ---- parts of tests

first : (a b : Bool) → T (a && b) → T a
first true b h = tt
first false b h = h

second : (a b : Bool) → T (a && b) → T b
second true b h = h
second false b h = absurd h

abbrev same : RowId → RowId → Bool
same a b = eq_by_cmp id_cmp a b

equal_from : (r : Ordering) → is_eq r ≡ true → r ≡ Equal
equal_from Less is = absurd (true≢false (sym is))
equal_from Equal is = refl
equal_from Greater is = absurd (true≢false (sym is))

same_id : (a b : RowId) → same a b ≡ true → a ≡ b
same_id a b is = ids_exact a b (equal_from (id_cmp a b) is)

apart_by : (r : Ordering) → T (is_lt r) → is_eq r ≡ false
apart_by Less h = refl
apart_by Equal h = absurd h
apart_by Greater h = absurd h

-- ---- parts of lists

head_or : Row → List Row → Row
head_or row [] = row
head_or row (r ∷ rs) = r

tail_of : List Row → List Row
tail_of [] = []
tail_of (r ∷ rs) = rs

is_some_row : List Row → Bool
is_some_row [] = false
is_some_row (r ∷ rs) = true

pub same_head : {r s : Row} {rs ss : List Row} → r ∷ rs ≡ s ∷ ss → r ≡ s
unfolding head_or
same_head {r} is = ap (head_or r) is

pub same_tail : {r s : Row} {rs ss : List Row} → r ∷ rs ≡ s ∷ ss → rs ≡ ss
unfolding tail_of
same_tail is = ap tail_of is

pub nil-cons : {s : Row} {ss : List Row} → [] ≡ s ∷ ss → ⊥
unfolding is_some_row
nil-cons is = true≢false (sym (ap is_some_row is))

-- ---- entries in order of ids, each row at its own

abbrev AtTheirIds : List (RowId × Row) → Type 0
AtTheirIds [] = Unit {0}
AtTheirIds (e ∷ es) = (e.1.id ≡ e.0) × AtTheirIds es

-- a lesser id isn't found among them
missing : (id : RowId) (es : List (RowId × Row)) → T (below_all id_cmp id es) → find id_cmp id es ≡ None
missing id [] h = refl
missing id (e ∷ es) h = ap (λ b. cond b (Some e.1) (find id_cmp id es)) (apart_by (id_cmp id e.0) (first _ _ h)) ∙ missing id es (second _ _ h)

at_ids : (es : List (RowId × Row)) → T (is_sorted id_cmp es) → ((id : RowId) (r : Row) → find id_cmp id es ≡ Some r → r.id ≡ id) → AtTheirIds es
at_ids [] h found = tt
at_ids (e ∷ es) h found = (
  found e.0 e.1 (ap (λ b. cond b (Some e.1) (find id_cmp e.0 es)) (id_ties_itself e.0)),
  at_ids es (second _ _ h) (λ id r is. found id r (behind id r is)),
)
  where
    behind : (id : RowId) (r : Row) → find id_cmp id es ≡ Some r → find id_cmp id (e ∷ es) ≡ Some r
    behind id r is =
        elim (same id e.0) as (λ b. same id e.0 ≡ b → cond b (Some e.1) (find id_cmp id es) ≡ Some r) [
          | true ↦ λ ties. absurd (none-some _ (sym (subst (λ k. find id_cmp k es ≡ None) (sym (same_id id e.0 ties)) (missing e.0 es (first _ _ h))) ∙ is))
          | false ↦ λ _. is
        ] refl

module _ (m : Row → Bool) where
  abbrev ids_found : List (RowId × Row) → List RowId
  ids_found es = map (λ (r : Row). r.id) (filter m (map (λ (e : RowId × Row). e.1) es))

  apart_found : (id : RowId) (es : List (RowId × Row)) → T (below_all id_cmp id es) → AtTheirIds es → AllByRecursion (λ k. same id k ≡ false) (ids_found es)
  apart_found id [] h at = tt
  apart_found id (e ∷ es) h at =
      let rest = apart_found id es (second _ _ h) at.1 in
      elim (m e.1) as (λ b. AllByRecursion (λ k. same id k ≡ false) (map (λ (r : Row). r.id) (cond b (e.1 ∷ filter m (map (λ (e : RowId × Row). e.1) es)) (filter m (map (λ (e : RowId × Row). e.1) es))))) [
        | true ↦ (ap (same id) at.0 ∙ apart_by (id_cmp id e.0) (first _ _ h), rest)
        | false ↦ rest
      ]

  -- they differ
  distinct_found : (es : List (RowId × Row)) → T (is_sorted id_cmp es) → AtTheirIds es → IsDistinct same (ids_found es)
  unfolding IsDistinct
  distinct_found [] h at = tt
  distinct_found (e ∷ es) h at =
      let rest = distinct_found es (second _ _ h) at.1 in
      elim (m e.1) as (λ b. IsDistinct same (map (λ (r : Row). r.id) (cond b (e.1 ∷ filter m (map (λ (e : RowId × Row). e.1) es)) (filter m (map (λ (e : RowId × Row). e.1) es))))) [
        | true ↦ (subst (λ k. AllByRecursion (λ j. same k j ≡ false) (ids_found es)) (sym at.0) (apart_found e.0 es (first _ _ h) at.1), rest)
        | false ↦ rest
      ]

  -- and each stands there
  abbrev Has : List (RowId × Row) → RowId → Type 0
  Has es id = is_some (find id_cmp id es) ≡ true

  has_more : (e : RowId × Row) (es : List (RowId × Row)) (ids : List RowId) → AllByRecursion (Has es) ids → AllByRecursion (Has (e ∷ es)) ids
  has_more e es [] has = tt
  has_more e es (id ∷ ids) has = (elim (same id e.0) as (λ b. is_some (cond b (Some e.1) (find id_cmp id es)) ≡ true) [ true ↦ refl | false ↦ has.0 ], has_more e es ids has.1)

  found_there : (es : List (RowId × Row)) → AtTheirIds es → AllByRecursion (Has es) (ids_found es)
  found_there [] at = tt
  found_there (e ∷ es) at =
      let rest = has_more e es (ids_found es) (found_there es at.1) in
      elim (m e.1) as (λ b. AllByRecursion (Has (e ∷ es)) (map (λ (r : Row). r.id) (cond b (e.1 ∷ filter m (map (λ (e : RowId × Row). e.1) es)) (filter m (map (λ (e : RowId × Row). e.1) es))))) [
        | true ↦ (ap (λ b. is_some (cond b (Some e.1) (find id_cmp e.1.id es))) (ap (λ k. same k e.0) at.0 ∙ id_ties_itself e.0), rest)
        | false ↦ rest
      ]

-- what a query finds in a copy
pub found_in_copy : (x : OpenTransaction) (q : Query) → ((id : RowId) (r : Row) → maps.get x.view id ≡ Some r → r.id ≡ id) → AreInCopy x (map (λ (r : Row). r.id) (rows_found x q))
found_in_copy x q ids =
    let es = entries x.view in
    let at : AtTheirIds es = at_ids es (entries_sorted x.view) (λ id r is. ids id r (get-entries x.view id ∙ is)) in (
      distinct_found (row_matches q) es (entries_sorted x.view) at,
      All-from_recursion (λ (id : RowId). contains_key x.view id ≡ true) (ids_found (row_matches q) es)
          (there (ids_found (row_matches q) es) (found_there (row_matches q) es at)),
    )
  where
    there : (found : List RowId) → AllByRecursion (Has (row_matches q) (entries x.view)) found → AllByRecursion (λ (id : RowId). contains_key x.view id ≡ true) found
    there [] has = tt
    there (id ∷ found) has = (ap is_some (get-entries x.view id) ∙ has.0, there found has.1)

-- the others, where the first one is marked
pub others_in_copy : (x : OpenTransaction) (id : RowId) (others : List RowId) → AreInCopy x (id ∷ others) → AreInCopy (after_mark x id) others
unfolding IsDistinct
others_in_copy x id others are = (
  are.0.1,
  All-from_recursion (λ (k : RowId). contains_key (after_mark x id).view k ≡ true) others (stay others are.0.0 (recursion_from_All (λ (k : RowId). contains_key x.view k ≡ true) (id ∷ others) are.1).1),
)
  where
    stay : (others : List RowId) → AllByRecursion (λ k. same id k ≡ false) others → AllByRecursion (λ k. contains_key x.view k ≡ true) others
        → AllByRecursion (λ k. contains_key (after_mark x id).view k ≡ true) others
    stay [] apart has = tt
    stay (k ∷ others) apart has = (
      ap is_some (get-remove ids_total x.view id k ∙ ap (λ b. cond b None (maps.get x.view k)) ((eq_by_cmp_equiv ids_total).symm k id ∙ apart.0)) ∙ has.0,
      stay others apart.1 has.1,
    )
