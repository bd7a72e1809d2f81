-- What a scan found, in order of ids.
use Rattle.std.proofs.Common.{◌≡◌, ◌≢◌, Bool, true, false, cond, ◌&&◌, ◌||◌, T, eqb, ℕ, ◌+◌, ◌<◌, ◌≤◌, List, [], ◌∷◌, ◌++◌, map, length, get_or, Option, None, Some, ◌⊎◌, inl, inr, refl, sym, ap, subst, ◌∙◌, arith, eqb-true, All, IsPermutation, IsSorted}
use Rattle.std.specs.declared.cmp.Ordering.TheVariants.{Less, Equal, Greater}
use Rattle.std.specs.List.{AllByRecursion, IsDistinct, filter, list_any}
use Rattle.std.specs.List.Sorted.{IsStrictlySortedBy}
use Rattle.std.specs.Cmp.{eq_by_cmp_equiv}
use Rattle.std.specs.Option.{is_some}
use Rattle.std.specs.Ordering.{eq_by_cmp, is_eq, is_lt, ordering_reverse}
use Rattle.std.specs.FinMap.{is_sorted, values}
use Rattle.std.specs.FinMap.Entries.{below_all}
use Rattle.std.proofs.lemmas.Bool.{false≢true, true≢false}
use Rattle.std.proofs.lemmas.List.{get_or-map, length-map}
use Rattle.std.proofs.lemmas.List.Elements.{All-head, All-tail}
use Rattle.std.proofs.lemmas.List.Sorted.{IsPermutation-cons, IsPermutation-map, IsPermutation-middle, IsPermutation-refl, IsPermutation-sym, IsPermutation-trans}
use Rattle.std.proofs.lemmas.Map.Entries.{option_filter}
use Rattle.std.proofs.lemmas.Map.Keys.{IsDistinct-IsPermutation, IsDistinct-head, IsDistinct-tail, apart_from_distinct, sorted_from_all_adjacent, sorted_head, sorted_tail}
use Rattle.block_model.specs.declared.place.Spot.{Spot}
use Rattle.block_model.specs.declared.row.Query.{Query}
use Rattle.block_model.specs.declared.row.Row.{Row}
use Rattle.block_model.specs.declared.row.RowId.{RowId}
use Rattle.block_model.specs.TableState.{id_cmp, id_ties_itself, ids_total}
use Rattle.page_layout.specs.PageContents.{Slot}
use Rattle.page_layout.specs.RowBytes.{StoredRow}
use Rattle.heap_rows.specs.RowPlaces.{slot_at}
use Rattle.snapshot_core.specs.declared.table.Version.{Version}
use Rattle.snapshot_core.specs.StoredVersions.{stored}
use Rattle.snapshot_core.specs.VisibleState.{table_of}
use Rattle.snapshot_core.proofs.Choices.{both, same_id}
use Rattle.snapshot_core.proofs.Stored.{AreDistinct, distinct-filter, ids, stored-filter}
use Rattle.snapshot_core.proofs.Among.{puts_new}
use Rattle.snapshot_core.proofs.Listed.{AreInOrder, found_rows, rows_by_id, rows_of}
use Rattle.transactions.specs.FoundRows.{Ascend, IsFoundThere, is_found}

-- ---- lists of versions that are found alike

none_parts : (b : Bool) (x : Version) (o : Option Version) → cond b (Some x) o ≡ None → (b ≡ false) × (o ≡ None)
none_parts true x o e = absurd (cc)
none_parts false x o e = (refl, e)

apart_none : (vs : List Version) (q : RowId) → AllByRecursion (λ y. eq_by_cmp id_cmp q y ≡ false) (ids vs) → stored vs q ≡ None
apart_none [] q h = refl
apart_none (x ∷ xs) q h = ap (λ b. cond b (Some x) (stored xs q)) h.0 ∙ apart_none xs q h.1

none_apart : (vs : List Version) (q : RowId) → stored vs q ≡ None → AllByRecursion (λ y. eq_by_cmp id_cmp q y ≡ false) (ids vs)
none_apart [] q e = tt
none_apart (x ∷ xs) q e = let parts = none_parts (eq_by_cmp id_cmp q x.row.id) x (stored xs q) e in (parts.0, none_apart xs q parts.1)

-- a version that is found is one of the list
record Splits (l : List Version) (v : Version) : Type 0 where
  front : List Version
  back : List Version
  is : l ≡ front ++ v ∷ back

splits : (l : List Version) (q : RowId) (v : Version) → stored l q ≡ Some v → Splits l v
splits [] q v there = absurd (cc)
splits (x ∷ xs) q v there = go (eq_by_cmp id_cmp q x.row.id) (λ e. splits xs q v e) there
  where
    go : (b : Bool) → (stored xs q ≡ Some v → Splits xs v) → cond b (Some x) (stored xs q) ≡ Some v → Splits (x ∷ xs) v
    go true behind e = record { front = []; back = xs; is = ap (λ v. v ∷ xs) (let same : x ≡ v = cc in same) }
    go false behind e = let rest = behind e in record { front = x ∷ rest.front; back = rest.back; is = ap (λ l. x ∷ l) rest.is }

to_front : (xs ys : List Version) (v : Version) → AreDistinct (xs ++ v ∷ ys) → AreDistinct (v ∷ (xs ++ ys))
to_front xs ys v d = IsDistinct-IsPermutation (eq_by_cmp id_cmp) (eq_by_cmp_equiv ids_total).symm (ids (xs ++ v ∷ ys)) (ids (v ∷ (xs ++ ys)))
    (IsPermutation-map (λ (v : Version). v.row.id) (xs ++ v ∷ ys) (v ∷ (xs ++ ys)) (IsPermutation-middle xs v ys)) d

alone_none : (xs : List Version) (v : Version) → AreDistinct (v ∷ xs) → stored xs v.row.id ≡ None
alone_none xs v d = apart_none xs v.row.id (IsDistinct-head (eq_by_cmp id_cmp) v.row.id (ids xs) d)

left : (xs rest : List Version) (x : Version) (q : RowId) → stored xs x.row.id ≡ None → stored rest x.row.id ≡ None → cond (eq_by_cmp id_cmp q x.row.id) (Some x) (stored xs q) ≡ cond (eq_by_cmp id_cmp q x.row.id) (Some x) (stored rest q) → stored xs q ≡ stored rest q
left xs rest x q none none' e = go (eq_by_cmp id_cmp q x.row.id) refl e
  where
    go : (b : Bool) → eq_by_cmp id_cmp q x.row.id ≡ b → cond b (Some x) (stored xs q) ≡ cond b (Some x) (stored rest q) → stored xs q ≡ stored rest q
    go true same e = ap (stored xs) (same_id q x.row.id same) ∙ none ∙ sym (ap (stored rest) (same_id q x.row.id same) ∙ none')
    go false same e = e

pub permutation_from_stored : (xs ys : List Version) → AreDistinct xs → AreDistinct ys → ((q : RowId) → stored xs q ≡ stored ys q) → IsPermutation xs ys
permutation_from_stored [] [] d d' same = IsPermutation-refl []
permutation_from_stored [] (y ∷ ys) d d' same = absurd (let found : None ≡ Some y = same y.row.id ∙ ap (λ b. cond b (Some y) (stored ys y.row.id)) (id_ties_itself y.row.id) in cc)
permutation_from_stored (x ∷ xs) ys d d' same =
    let there : stored ys x.row.id ≡ Some x = sym (same x.row.id) ∙ ap (λ b. cond b (Some x) (stored xs x.row.id)) (id_ties_itself x.row.id) in
    let parts = splits ys x.row.id x there in
    let rest = parts.front ++ parts.back in
    let moved = to_front parts.front parts.back x (subst AreDistinct parts.is d') in
    let rest_distinct : AreDistinct rest = IsDistinct-tail (eq_by_cmp id_cmp) x.row.id (ids rest) moved in
    let none_here = alone_none xs x d in
    let none_there = alone_none rest x moved in
    let puts = puts_new parts.front parts.back x rest_distinct none_there in
    let alike : (q : RowId) → stored xs q ≡ stored rest q = λ q. left xs rest x q none_here none_there (same q ∙ ap (λ l. stored l q) parts.is ∙ puts.at q) in
    IsPermutation-trans (x ∷ xs) (x ∷ rest) ys (IsPermutation-cons x xs rest (permutation_from_stored xs rest (IsDistinct-tail (eq_by_cmp id_cmp) x.row.id (ids xs) d) rest_distinct alike))
    (subst (IsPermutation (x ∷ rest)) (sym parts.is) (IsPermutation-sym (parts.front ++ x ∷ parts.back) (x ∷ rest) (IsPermutation-middle parts.front x parts.back)))

same_found : {X : Type 0} (a b : Option X) → ((x : X) → a ≡ Some x → b ≡ Some x) → ((x : X) → b ≡ Some x → a ≡ Some x) → a ≡ b
same_found None None f g = refl
same_found None (Some y) f g = g y refl
same_found (Some x) b f g = sym (f x refl)

-- ---- versions of rows in order

-- ids that don't fall and differ rise
rising : (x y : RowId) → is_lt (id_cmp y x) ≡ false → eq_by_cmp id_cmp x y ≡ false → id_cmp x y ≡ Less
rising x y up ne =
    elim (id_cmp y x) as (λ r. id_cmp x y ≡ ordering_reverse r → is_lt r ≡ false → id_cmp x y ≡ Less) [
      | Less ↦ λ e h. absurd (true≢false h)
      | Equal ↦ λ e h. absurd (true≢false (sym (ap is_eq e) ∙ ne))
      | Greater ↦ λ e h. e
    ] (ids_total.antisymm x y) up

abbrev pub row_ids : List Row → List RowId
row_ids rows = map (λ (r : Row). r.id) rows

no_row : Row
no_row = record { table = 0; id = record { t = 0; k = 0 }; values = [] }

strictly : (rows : List Row) → IsDistinct (eq_by_cmp id_cmp) (row_ids rows) → IsSorted (λ (a b : Row). id_cmp a.id b.id) rows → IsStrictlySortedBy id_cmp (row_ids rows)
strictly rows d sorted = sorted_from_all_adjacent ids_total (row_ids rows) no_row.id (λ k below.
    let within : k + 1 < length rows = omega (arith, below, length-map rows (λ (r : Row). r.id)) in
    let first = get_or-map (λ (r : Row). r.id) rows k no_row no_row.id (omega arith) in
    let next = get_or-map (λ (r : Row). r.id) rows (k + 1) no_row no_row.id within in
    (λ i. id_cmp (first i) (next i))
    ∙ rising (get_or rows k no_row).id (get_or rows (k + 1) no_row).id (sorted k no_row (omega arith) within)
    (sym (λ i. eq_by_cmp id_cmp (first i) (next i)) ∙ apart_from_distinct (eq_by_cmp id_cmp) (row_ids rows) k (k + 1) no_row.id d (omega arith) below))

below_from : (x : RowId) (vs : List Version) → AllByRecursion (λ y. id_cmp x y ≡ Less) (ids vs) → T (below_all id_cmp x (rows_by_id vs))
below_from x [] h = tt
below_from x (v ∷ vs) h = both (is_lt (id_cmp x v.row.id)) (below_all id_cmp x (rows_by_id vs)) (subst (λ o. T (is_lt o)) (sym h.0) tt) (below_from x vs h.1)

in_order_from : (vs : List Version) → IsStrictlySortedBy id_cmp (ids vs) → AreInOrder vs
in_order_from [] h = tt
in_order_from (v ∷ vs) h = both (below_all id_cmp v.row.id (rows_by_id vs)) (is_sorted id_cmp (rows_by_id vs)) (below_from v.row.id vs (sorted_head id_cmp v.row.id (ids vs) h)) (in_order_from vs (sorted_tail id_cmp v.row.id (ids vs) h))

-- ---- what was found of the rows in slots

or_true : (b : Bool) → (b || true) ≡ true
or_true true = refl
or_true false = refl

-- a place comes before one
abbrev Before : Spot → ℕ → ℕ → Type 0
Before spot b k = (spot.block < b) ⊎ ((spot.block ≡ b) × (spot.slot < k))

before_on : (spot : Spot) (b k c j : ℕ) → Before spot b k → (b < c) ⊎ ((b ≡ c) × (k ≤ j)) → Before spot c j
before_on spot b k c j (inl low) (inl up) = inl (omega (arith, low, up))
before_on spot b k c j (inl low) (inr same) = inl (let e = same.0 in omega (arith, low, e))
before_on spot b k c j (inr here) (inl up) = inl (let e = here.0 in omega (arith, e, up))
before_on spot b k c j (inr here) (inr same) = inr (here.0 ∙ same.0, (let low = here.1 in let up = same.1 in omega (arith, low, up)))

not_before_itself : (spot other : Spot) → Before spot other.block other.slot → spot ≡ other → ⊥
not_before_itself spot other (inl low) same = let e : spot.block ≡ other.block = ap (λ (x : Spot). x.block) same in absurd (omega (arith, low, e))
not_before_itself spot other (inr here) same = let e : spot.slot ≡ other.slot = ap (λ (x : Spot). x.slot) same in let low = here.1 in absurd (omega (arith, low, e))

untied : (a b : RowId) → a ≢ b → eq_by_cmp id_cmp a b ≡ false
untied a b apart = go (eq_by_cmp id_cmp a b) refl
  where
    go : (t : Bool) → eq_by_cmp id_cmp a b ≡ t → t ≡ false
    go true e = absurd (apart (same_id a b e))
    go false e = refl

both_true : (a b : Bool) → (a && b) ≡ true → (a ≡ true) × (b ≡ true)
both_true true true e = (refl, refl)
both_true true false e = absurd (false≢true e)
both_true false b e = absurd (false≢true e)

module _ (sees : StoredRow → Bool) (query : Query) (blocks : List (List Slot))
    (one : (spot other : Spot) (row there : StoredRow) → slot_at blocks spot ≡ Some row → slot_at blocks other ≡ Some there → there.id ≡ row.id → other ≡ spot) where
  abbrev There : Row × Spot → Type 0
  There f = IsFoundThere sees query blocks f

  its_id : (f : Row × Spot) (there : IsFoundThere sees query blocks f) → f.0.id ≡ there.stored.id
  its_id f there = ap (λ (r : Row). r.id) there.is

  later_apart : (f : Row × Spot) (b k : ℕ) (found : List (Row × Spot)) → There f → Before f.1 b k → Ascend b k found → All There found → AllByRecursion (λ y. eq_by_cmp id_cmp f.0.id y ≡ false) (row_ids (map (λ (g : Row × Spot). g.0) found))
  later_apart f b k [] here before ascend all = tt
  later_apart f b k (g ∷ found) here before ascend all =
      let there = All-head There g found all in
      let earlier = before_on f.1 b k g.1.block g.1.slot before ascend.0 in (
        untied f.0.id g.0.id (λ same. not_before_itself f.1 g.1 earlier (one g.1 f.1 there.stored here.stored there.there here.there (sym (its_id f here) ∙ same ∙ its_id g there))),
        later_apart f g.1.block (g.1.slot + 1) found here (further earlier) ascend.1 (All-tail There g found all),
      )
    where
      further : Before f.1 g.1.block g.1.slot → Before f.1 g.1.block (g.1.slot + 1)
      further (inl low) = inl low
      further (inr at) = inr (at.0, (let low = at.1 in omega (arith, low)))

  pub distinct_found : (b k : ℕ) (found : List (Row × Spot)) → Ascend b k found → All There found → IsDistinct (eq_by_cmp id_cmp) (row_ids (map (λ (f : Row × Spot). f.0) found))
  unfolding IsDistinct
  distinct_found b k [] ascend all = tt
  distinct_found b k (f ∷ found) ascend all = (
    later_apart f f.1.block (f.1.slot + 1) found (All-head There f found all) (inr (refl, omega (arith))) ascend.1 (All-tail There f found all),
    distinct_found f.1.block (f.1.slot + 1) found ascend.1 (All-tail There f found all),
  )

  -- the row of a place where something was found is there
  pub found_id : (spot : Spot) (row : StoredRow) (found : List (Row × Spot)) → slot_at blocks spot ≡ Some row → All There found → is_found found spot.block spot.slot ≡ true
      → list_any (eq_by_cmp id_cmp row.id) (row_ids (map (λ (f : Row × Spot). f.0) found)) ≡ true
  found_id spot row [] at all is = absurd (false≢true is)
  found_id spot row (f ∷ found) at all is = go (eqb f.1.block spot.block && eqb f.1.slot spot.slot) refl (λ e. found_id spot row found at (All-tail There f found all) e) is
    where
      rest : List RowId
      rest = row_ids (map (λ (f : Row × Spot). f.0) found)

      go : (b : Bool) → (eqb f.1.block spot.block && eqb f.1.slot spot.slot) ≡ b → (is_found found spot.block spot.slot ≡ true → list_any (eq_by_cmp id_cmp row.id) rest ≡ true) → (b || is_found found spot.block spot.slot) ≡ true → (eq_by_cmp id_cmp row.id f.0.id || list_any (eq_by_cmp id_cmp row.id) rest) ≡ true
      go true here behind e =
          let there = All-head There f found all in
          let parts = both_true (eqb f.1.block spot.block) (eqb f.1.slot spot.slot) here in
          let place : f.1 ≡ spot = λ i. record { block = eqb-true f.1.block spot.block parts.0 i; slot = eqb-true f.1.slot spot.slot parts.1 i } in
          let same : Some there.stored ≡ Some row = sym there.there ∙ ap (slot_at blocks) place ∙ at in
          let is_row : there.stored ≡ row = cc in
          let id : row.id ≡ f.0.id = sym (its_id f there ∙ ap (λ (r : StoredRow). r.id) is_row) in
          ap (λ b. b || list_any (eq_by_cmp id_cmp row.id) rest) (ap (eq_by_cmp id_cmp row.id) (sym id) ∙ id_ties_itself row.id)
      go false elsewhere behind e = ap (λ b. eq_by_cmp id_cmp row.id f.0.id || b) (behind e) ∙ or_true (eq_by_cmp id_cmp row.id f.0.id)

-- ---- the versions of rows

-- a row's version is stored, and passes
pub record HasVersion (vs : List Version) (p : Version → Bool) (r : Row) : Type 0 where
  pub version : Version
  pub there : stored vs r.id ≡ Some version
  pub is : version.row ≡ r
  pub passes : p version ≡ true

-- the version of the row's id
version_in : Option Version → Row → Version
version_in None r = record { row = r; deleter = 0 }
version_in (Some v) r = v

pick : List Version → Row → Version
pick vs r = version_in (stored vs r.id) r

picked : (vs : List Version) (p : Version → Bool) (r : Row) (has : HasVersion vs p r) → pick vs r ≡ has.version
unfolding pick version_in
picked vs p r has = ap (λ (o : Option Version). version_in o r) has.there

abbrev picks : List Version → List Row → List Version
picks vs rows = map (pick vs) rows

rows_of_picks : (vs : List Version) (p : Version → Bool) (rows : List Row) → All (HasVersion vs p) rows → rows_of (picks vs rows) ≡ rows
rows_of_picks vs p [] all = refl
rows_of_picks vs p (r ∷ rows) all =
    let has = All-head (HasVersion vs p) r rows all in
    λ i. (ap (λ (v : Version). v.row) (picked vs p r has) ∙ has.is) i ∷ rows_of_picks vs p rows (All-tail (HasVersion vs p) r rows all) i

ids_of_picks : (vs : List Version) (p : Version → Bool) (rows : List Row) → All (HasVersion vs p) rows → ids (picks vs rows) ≡ row_ids rows
ids_of_picks vs p [] all = refl
ids_of_picks vs p (r ∷ rows) all =
    let has = All-head (HasVersion vs p) r rows all in
    λ i. (ap (λ (v : Version). v.row.id) (picked vs p r has) ∙ ap (λ (r : Row). r.id) has.is) i ∷ ids_of_picks vs p rows (All-tail (HasVersion vs p) r rows all) i

-- a picked version is one that passes
picked_passes : (vs : List Version) (p : Version → Bool) (d : AreDistinct vs) (rows : List Row) (q : RowId) (v : Version) → All (HasVersion vs p) rows → stored (picks vs rows) q ≡ Some v → stored (filter p vs) q ≡ Some v
picked_passes vs p d [] q v all there = absurd (cc)
picked_passes vs p d (r ∷ rows) q v all there = go (eq_by_cmp id_cmp q (pick vs r).row.id) refl (λ e. picked_passes vs p d rows q v (All-tail (HasVersion vs p) r rows all) e) there
  where
    has : HasVersion vs p r
    has = All-head (HasVersion vs p) r rows all

    go : (b : Bool) → eq_by_cmp id_cmp q (pick vs r).row.id ≡ b → (stored (picks vs rows) q ≡ Some v → stored (filter p vs) q ≡ Some v) → cond b (Some (pick vs r)) (stored (picks vs rows) q) ≡ Some v → stored (filter p vs) q ≡ Some v
    go true same behind e =
        let is : pick vs r ≡ v = cc in
        let id : q ≡ r.id = same_id q (pick vs r).row.id same ∙ ap (λ (v : Version). v.row.id) (picked vs p r has) ∙ ap (λ (r : Row). r.id) has.is in
        stored-filter p vs q d
        ∙ ap (option_filter p) (ap (stored vs) id ∙ has.there)
        ∙ ap (λ b. cond b (Some has.version) None) has.passes
        ∙ ap Some (sym (picked vs p r has) ∙ is)
    go false other behind e = behind e

stored_among : (vs : List Version) (q : RowId) → list_any (eq_by_cmp id_cmp q) (ids vs) ≡ is_some (stored vs q)
stored_among [] q = refl
stored_among (v ∷ vs) q =
    elim (eq_by_cmp id_cmp q v.row.id) as (λ b. (b || list_any (eq_by_cmp id_cmp q) (ids vs)) ≡ is_some (cond b (Some v) (stored vs q))) [
      | true ↦ refl
      | false ↦ stored_among vs q
    ]

its_value : {X : Type 0} (o : Option X) → is_some o ≡ true → (x : X) × (o ≡ Some x)
its_value None e = absurd (false≢true e)
its_value (Some x) e = (x, refl)

filtered : (p : Version → Bool) (o : Option Version) (v : Version) → option_filter p o ≡ Some v → (o ≡ Some v) × (p v ≡ true)
filtered p None v e = absurd (cc)
filtered p (Some w) v e = go (p w) refl e
  where
    go : (b : Bool) → p w ≡ b → cond b (Some w) None ≡ Some v → (Some w ≡ Some v) × (p v ≡ true)
    go true so e = let same : w ≡ v = cc in (e, ap p (sym same) ∙ so)
    go false not_so e = absurd (cc)

-- rows in order of their ids, of which each has a version that passes, and which are all of them
pub rows_in_order : (vs : List Version) (p : Version → Bool) (m : Row → Bool) (rows : List Row) → AreDistinct vs → All (HasVersion vs (λ v. p v && m v.row)) rows → IsDistinct (eq_by_cmp id_cmp) (row_ids rows) → IsSorted (λ (a b : Row). id_cmp a.id b.id) rows
    → ((q : RowId) (v : Version) → stored vs q ≡ Some v → (p v && m v.row) ≡ true → list_any (eq_by_cmp id_cmp q) (row_ids rows) ≡ true) → rows ≡ filter m (values (table_of p vs))
rows_in_order vs p m rows d all distinct sorted complete =
    let passes : Version → Bool = λ v. p v && m v.row in
    let out = picks vs rows in
    let has_ids = ids_of_picks vs passes rows all in
    let out_distinct : AreDistinct out = subst (IsDistinct (eq_by_cmp id_cmp)) (sym has_ids) distinct in
    let here : (q : RowId) (v : Version) → stored out q ≡ Some v → stored (filter passes vs) q ≡ Some v = λ q v there. picked_passes vs passes d rows q v all there in
    let same : (q : RowId) → stored (filter passes vs) q ≡ stored out q = λ q. same_found (stored (filter passes vs) q) (stored out q) (λ v there.
    let parts = filtered passes (stored vs q) v (sym (stored-filter passes vs q d) ∙ there) in
    let among : is_some (stored out q) ≡ true = sym (stored_among out q) ∙ ap (list_any (eq_by_cmp id_cmp q)) has_ids ∙ complete q v parts.0 parts.1 in
    let it = its_value (stored out q) among in
    let one : Some it.0 ≡ Some v = sym (here q it.0 it.1) ∙ there in
    it.1 ∙ one) (here q) in
    let perm = permutation_from_stored (filter passes vs) out (distinct-filter passes vs d) out_distinct same in
    sym (rows_of_picks vs passes rows all) ∙ found_rows p m vs out d perm (in_order_from out (subst (IsStrictlySortedBy id_cmp) (sym has_ids) (strictly rows distinct sorted)))
