-- rows are removed once
use Rattle.std.proofs.Common.{◌≡◌, ℕ, zero, suc, ◌+◌, ◌<◌, Bool, true, false, not, cond, ◌==◌, ◌&&◌, ◌||◌, ◌⊎◌, inl, inr, List, [], ◌∷◌, ◌++◌, if◌then◌else◌, All, AllPairs, refl, sym, ap, subst, ◌∙◌, Option, Some, None, is_some, eqb-true, ne_eqb, arith}
use Rattle.std.specs.List.{list_any}
use Rattle.std.specs.Ordering.{eq_by_cmp, nat_cmp}
use Rattle.std.specs.FinMap.{get, contains_key, entries, find, get-empty, get-entries}
use Rattle.std.specs.Cmp.{unsigned_tied}
use Rattle.std.specs.FinSet as set
use Rattle.std.proofs.lemmas.Bool.{false≢true, true≢false, or_parts, or_cases, or_left, or_right, and_from, not-false, false_from_ne_true}
use Rattle.std.proofs.lemmas.List.Elements.{All-nil, All-cons}
use Rattle.block_model.specs.declared.row.RowId.{RowId}
use Rattle.block_model.specs.declared.row.Row.{Row}
use Rattle.block_model.specs.declared.request.Entry.{Entry}
use Rattle.block_model.specs.declared.request.Request.{Request}
use Rattle.block_model.specs.declared.request.Request.TheVariants.{Begin, Put, Look, Mark, Commit, Rollback}
use Rattle.block_model.specs.TableState.{TableState, id_cmp, ids_total, ids_exact}
use Rattle.block_model.specs.DatabaseState.{DatabaseState, OpenTransaction}
use Rattle.block_model.specs.RequestEffect.{Answer, effect_at, effect_is, after_request, is_conflict, is_own, marked_elsewhere, with_transaction, without_transaction, after_begin, new_transaction, merged}
use Rattle.block_model.specs.SerialRun.{serial_run}
use Rattle.model_laws.specs.Commits.{merged_of, committed_in}
use Rattle.model_laws.specs.MarksAreApart.{MarksAreApart}
use Rattle.model_laws.specs.NoRowRemovedTwice.{IsOpening, InitialIsOpening, MarksApart, MarksStand, NoRowRemovedTwice}
use Rattle.model_laws.proofs.KeyedLists.{tied}
use Rattle.block_model.specs.NumberMaps.{found_after_put, found_after_removal, same_Some, none_Some}
use Rattle.block_model.specs.RequestLaws.{within_leads, outside_leads, after_merge, commit_merges}
use Rattle.model_laws.proofs.CommitLaws.{get_merged, commit_effect}

-- What holds of every state that a run reaches from an opening: transactions have numbers of their own below the next,
-- which no row in the table has, and they marked rows that stand in the table, no two the same.
pub record IsSound (s : DatabaseState) : Type 0 where
  pub below : (n : ℕ) (x : OpenTransaction) → get s.sessions n ≡ Some x → x.t < s.next
  pub apart : (n m : ℕ) (x y : OpenTransaction) → (n ≡ m → ⊥) → get s.sessions n ≡ Some x → get s.sessions m ≡ Some y → x.t ≡ y.t → ⊥
  pub earlier : (id : RowId) → contains_key s.table id ≡ true → id.t < s.next
  pub of_others : (id : RowId) (n : ℕ) (x : OpenTransaction) → contains_key s.table id ≡ true → get s.sessions n ≡ Some x → id.t ≡ x.t → ⊥
  pub stand : (n : ℕ) (x : OpenTransaction) → get s.sessions n ≡ Some x → MarksStand s x
  pub marks_apart : (n m : ℕ) (x y : OpenTransaction) → (n ≡ m → ⊥) → get s.sessions n ≡ Some x → get s.sessions m ≡ Some y → MarksApart x y

-- the row is gone, and no transaction can put it any more
pub record IsGone (s : DatabaseState) (id : RowId) : Type 0 where
  pub earlier : id.t < s.next
  pub not_open : (n : ℕ) (x : OpenTransaction) → get s.sessions n ≡ Some x → id.t ≡ x.t → ⊥
  pub absent : contains_key s.table id ≡ true → ⊥

-- ---- who is under way

-- a transaction that passes a test is among the open ones
any_found : (p : ℕ × OpenTransaction → Bool) (es : List (ℕ × OpenTransaction)) (m : ℕ) (z : OpenTransaction) → find nat_cmp m es ≡ Some z → p (m, z) ≡ true → list_any p es ≡ true
any_found p [] m z got passes = absurd (none_Some z got)
any_found p (e ∷ es) m z got passes = elim (eq_by_cmp nat_cmp m e.0) as (λ b. eq_by_cmp nat_cmp m e.0 ≡ b → cond b (Some e.1) (find nat_cmp m es) ≡ Some z → list_any p (e ∷ es) ≡ true) [
  | true ↦ λ here got. or_left (p e) (list_any p es) ((λ i. p (sym (eqb-true m e.0 (sym (unsigned_tied m e.0) ∙ here)) i, same_Some e.1 z got i)) ∙ passes)
  | false ↦ λ away got. or_right (p e) (list_any p es) (any_found p es m z got passes)
] refl got

unmarked_elsewhere : (s : DatabaseState) (n m : ℕ) (z : OpenTransaction) (id : RowId) → (m ≡ n → ⊥) → get s.sessions m ≡ Some z → marked_elsewhere s n id ≡ false → set.contains z.marks id ≡ true → ⊥
unmarked_elsewhere s n m z id apart got free marked = true≢false (sym (any_found (λ e. not (e.0 == n) && set.contains e.1.marks id) (entries s.sessions) m z (sym (get-entries s.sessions m) ∙ got)
    (and_from (not (m == n)) (set.contains z.marks id) (ap not (ne_eqb m n apart)) marked)) ∙ free)

-- ---- rows after a commit

has_row : (own marked : Bool) (mine below : Option Row) → is_some (if own && is_some mine then mine else if marked then None else below) ≡ true → (own ≡ true) ⊎ ((marked ≡ false) × (is_some below ≡ true))
has_row true marked mine below h = inl refl
has_row false true mine below h = absurd (false≢true h)
has_row false false mine below h = inr (refl, h)

keeps_row : (own marked : Bool) (mine below : Option Row) → marked ≡ false → is_some below ≡ true → is_some (if own && is_some mine then mine else if marked then None else below) ≡ true
keeps_row true false (Some r) below m h = refl
keeps_row true false None below m h = h
keeps_row false false mine below m h = h
keeps_row own true mine below m h = absurd (true≢false m)

merged_has : (table : TableState) (x : OpenTransaction) (id : RowId) → contains_key (merged table x) id ≡ true → (id.t ≡ x.t) ⊎ ((set.contains x.marks id ≡ false) × (contains_key table id ≡ true))
merged_has table x id h = elim (has_row (is_own x id) (set.contains x.marks id) (get x.view id) (get table id) (ap is_some (sym (get_merged table x id)) ∙ h)) [
  | inl own ↦ inl (eqb-true id.t x.t own)
  | inr left ↦ inr left
]

merged_keeps : (table : TableState) (x : OpenTransaction) (id : RowId) → set.contains x.marks id ≡ false → contains_key table id ≡ true → contains_key (merged table x) id ≡ true
merged_keeps table x id unmarked there = ap is_some (get_merged table x id) ∙ keeps_row (is_own x id) (set.contains x.marks id) (get x.view id) (get table id) unmarked there

-- ---- soundness stays

-- a session's transaction takes the place of its transaction of the same number
sound_put : (s : DatabaseState) (n : ℕ) (x y : OpenTransaction) → IsSound s → get s.sessions n ≡ Some x → y.t ≡ x.t → MarksStand s y
    → ((m : ℕ) (z : OpenTransaction) → (m ≡ n → ⊥) → get s.sessions m ≡ Some z → MarksApart y z) → IsSound (with_transaction s n y)
sound_put s n x y h got same stand marks = record {
  below = λ m z found. elim (found_after_put s.sessions n m y z found) [ inl here ↦ subst (λ (w : OpenTransaction). w.t < s.next) here.1 (subst (λ t. t < s.next) (sym same) (h.below n x got)) | inr there ↦ h.below m z there.1 ];
  apart = λ m k z w differ found found'. elim (found_after_put s.sessions n m y z found) [
    | inl here ↦ elim (found_after_put s.sessions n k y w found') [
      | inl here' ↦ absurd (differ (here.0 ∙ sym here'.0))
      | inr there' ↦ λ e. h.apart n k x w (λ q. there'.0 (sym q)) got there'.1 (sym same ∙ ap (λ (v : OpenTransaction). v.t) here.1 ∙ e)
    ]
    | inr there ↦ elim (found_after_put s.sessions n k y w found') [
      | inl here' ↦ λ e. h.apart m n z x there.0 there.1 got (e ∙ sym (ap (λ (v : OpenTransaction). v.t) here'.1) ∙ same)
      | inr there' ↦ h.apart m k z w differ there.1 there'.1
    ]
  ];
  earlier = h.earlier;
  of_others = λ id m z has found. elim (found_after_put s.sessions n m y z found) [
    | inl here ↦ λ e. h.of_others id n x has got (e ∙ sym (ap (λ (v : OpenTransaction). v.t) here.1) ∙ same)
    | inr there ↦ h.of_others id m z has there.1
  ];
  stand = λ m z found. elim (found_after_put s.sessions n m y z found) [ inl here ↦ subst (MarksStand s) here.1 stand | inr there ↦ h.stand m z there.1 ];
  marks_apart = λ m k z w differ found found'. elim (found_after_put s.sessions n m y z found) [
    | inl here ↦ elim (found_after_put s.sessions n k y w found') [
      | inl here' ↦ absurd (differ (here.0 ∙ sym here'.0))
      | inr there' ↦ subst (λ (v : OpenTransaction). MarksApart v w) here.1 (marks k w there'.0 there'.1)
    ]
    | inr there ↦ elim (found_after_put s.sessions n k y w found') [
      | inl here' ↦ λ id a b. marks m z there.0 there.1 id (ap (λ (v : OpenTransaction). set.contains v.marks id) here'.1 ∙ b) a
      | inr there' ↦ h.marks_apart m k z w differ there.1 there'.1
    ]
  ];
}

-- the marks stay
sound_kept : (s : DatabaseState) (n : ℕ) (x y : OpenTransaction) → IsSound s → get s.sessions n ≡ Some x → y.t ≡ x.t → y.marks ≡ x.marks → IsSound (with_transaction s n y)
sound_kept s n x y h got same marks = sound_put s n x y h got same (λ id m. h.stand n x got id (ap (λ k. set.contains k id) (sym marks) ∙ m))
    (λ m z apart found id a b. h.marks_apart n m x z (λ q. apart (sym q)) got found id (ap (λ k. set.contains k id) (sym marks) ∙ a) b)

-- one row more is marked, and it didn't conflict
module _ (s : DatabaseState) (n : ℕ) (x : OpenTransaction) (id : RowId) (other : is_own x id ≡ false) (free : is_conflict s n x id ≡ false) where
  free_parts : (not (contains_key s.table id) ≡ false) × (marked_elsewhere s n id ≡ false)
  free_parts = or_parts (not (contains_key s.table id)) (marked_elsewhere s n id) (ap (λ b. not b && (not (contains_key s.table id) || marked_elsewhere s n id)) (sym other) ∙ free)

  sound_marked : (y : OpenTransaction) → IsSound s → get s.sessions n ≡ Some x → y.t ≡ x.t → y.marks ≡ set.insert x.marks id → IsSound (with_transaction s n y)
  sound_marked y h got same marks =
      let marked = λ (q : RowId) (m : set.contains y.marks q ≡ true). or_cases (eq_by_cmp id_cmp q id) (set.contains x.marks q) (sym (ap (λ k. set.contains k q) marks ∙ set.contains-insert ids_total x.marks id q) ∙ m) in
      let is_new = λ (q : RowId) (e : eq_by_cmp id_cmp q id ≡ true). ids_exact q id (tied (id_cmp q id) e) in
      sound_put s n x y h got same
      (λ q m. elim (marked q m) [ inl new ↦ ap (contains_key s.table) (is_new q new) ∙ not-false (contains_key s.table id) free_parts.0 | inr old ↦ h.stand n x got q old ])
      (λ m z apart found q a b. elim (marked q a) [
        | inl new ↦ unmarked_elsewhere s n m z id apart found free_parts.1 (ap (set.contains z.marks) (sym (is_new q new)) ∙ b)
        | inr old ↦ h.marks_apart n m x z (λ e. apart (sym e)) got found q old b
      ])

-- the transaction is over
sound_gone : (s : DatabaseState) (n : ℕ) → IsSound s → IsSound (without_transaction s n)
sound_gone s n h = record {
  below = λ m z found. h.below m z (found_after_removal s.sessions n m z found).1;
  apart = λ m k z w differ found found'. h.apart m k z w differ (found_after_removal s.sessions n m z found).1 (found_after_removal s.sessions n k w found').1;
  earlier = h.earlier;
  of_others = λ id m z has found. h.of_others id m z has (found_after_removal s.sessions n m z found).1;
  stand = λ m z found. h.stand m z (found_after_removal s.sessions n m z found).1;
  marks_apart = λ m k z w differ found found'. h.marks_apart m k z w differ (found_after_removal s.sessions n m z found).1 (found_after_removal s.sessions n k w found').1;
}

sound_merged : (s : DatabaseState) (n : ℕ) (x : OpenTransaction) → IsSound s → get s.sessions n ≡ Some x → IsSound (after_merge s n x)
sound_merged s n x h got =
    let less = sound_gone s n h in
    record {
      below = less.below;
      apart = less.apart;
      earlier = λ id has. elim (merged_has s.table x id has) [ inl own ↦ subst (λ t. t < s.next) (sym own) (h.below n x got) | inr left ↦ h.earlier id left.1 ];
      of_others = λ id m z has found. let there = found_after_removal s.sessions n m z found in elim (merged_has s.table x id has) [
        | inl own ↦ λ e. h.apart n m x z (λ q. there.0 (sym q)) got there.1 (sym own ∙ e)
        | inr left ↦ h.of_others id m z left.1 there.1
      ];
      stand = λ m z found id marked. let there = found_after_removal s.sessions n m z found in
          merged_keeps s.table x id (false_from_ne_true (set.contains x.marks id) (λ both. h.marks_apart n m x z (λ q. there.0 (sym q)) got there.1 id both marked)) (h.stand m z there.1 id marked);
      marks_apart = less.marks_apart;
    }

sound_begun : (s : DatabaseState) (n : ℕ) → IsSound s → IsSound (after_begin s n)
sound_begun s n h =
    let new = new_transaction s in
    let none = λ (id : RowId) (m : set.contains new.marks id ≡ true). false≢true (sym (set.contains-empty id_cmp id) ∙ m) in
    record {
      below = λ m z found. elim (found_after_put s.sessions n m new z found) [ inl here ↦ subst (λ (w : OpenTransaction). w.t < s.next + 1) here.1 (omega arith) | inr there ↦ let e = h.below m z there.1 in omega (arith, e) ];
      apart = λ m k z w differ found found'. elim (found_after_put s.sessions n m new z found) [
        | inl here ↦ elim (found_after_put s.sessions n k new w found') [
          | inl here' ↦ absurd (differ (here.0 ∙ sym here'.0))
          | inr there' ↦ λ e. above w.t s.next (h.below k w there'.1) (ap (λ (v : OpenTransaction). v.t) here.1 ∙ e)
        ]
        | inr there ↦ elim (found_after_put s.sessions n k new w found') [
          | inl here' ↦ λ e. above z.t s.next (h.below m z there.1) (ap (λ (v : OpenTransaction). v.t) here'.1 ∙ sym e)
          | inr there' ↦ h.apart m k z w differ there.1 there'.1
        ]
      ];
      earlier = λ id has. let e = h.earlier id has in omega (arith, e);
      of_others = λ id m z has found. elim (found_after_put s.sessions n m new z found) [
        | inl here ↦ λ e. above id.t s.next (h.earlier id has) (ap (λ (v : OpenTransaction). v.t) here.1 ∙ sym e)
        | inr there ↦ h.of_others id m z has there.1
      ];
      stand = λ m z found id marked. elim (found_after_put s.sessions n m new z found) [
        | inl here ↦ absurd (none id (ap (λ (v : OpenTransaction). set.contains v.marks id) here.1 ∙ marked))
        | inr there ↦ h.stand m z there.1 id marked
      ];
      marks_apart = λ m k z w differ found found' id a b. elim (found_after_put s.sessions n m new z found) [
        | inl here ↦ none id (ap (λ (v : OpenTransaction). set.contains v.marks id) here.1 ∙ a)
        | inr there ↦ elim (found_after_put s.sessions n k new w found') [
          | inl here' ↦ none id (ap (λ (v : OpenTransaction). set.contains v.marks id) here'.1 ∙ b)
          | inr there' ↦ h.marks_apart m k z w differ there.1 there'.1 id a b
        ]
      ];
    }
  where
    above : (t next : ℕ) → t < next → next ≡ t → ⊥
    above t next below same = omega arith

-- ---- a row that is gone stays so

gone_put : (s : DatabaseState) (n : ℕ) (x y : OpenTransaction) (id : RowId) → get s.sessions n ≡ Some x → y.t ≡ x.t → IsGone s id → IsGone (with_transaction s n y) id
gone_put s n x y id got same h = record {
  earlier = h.earlier;
  not_open = λ m z found. elim (found_after_put s.sessions n m y z found) [
    | inl here ↦ λ e. h.not_open n x got (e ∙ sym (ap (λ (v : OpenTransaction). v.t) here.1) ∙ same)
    | inr there ↦ h.not_open m z there.1
  ];
  absent = h.absent;
}

gone_less : (s : DatabaseState) (n : ℕ) (id : RowId) → IsGone s id → IsGone (without_transaction s n) id
gone_less s n id h = record { earlier = h.earlier; not_open = λ m z found. h.not_open m z (found_after_removal s.sessions n m z found).1; absent = h.absent }

gone_merged : (s : DatabaseState) (n : ℕ) (x : OpenTransaction) (id : RowId) → get s.sessions n ≡ Some x → IsGone s id → IsGone (after_merge s n x) id
gone_merged s n x id got h = record {
  earlier = h.earlier;
  not_open = (gone_less s n id h).not_open;
  absent = λ has. elim (merged_has s.table x id has) [ inl own ↦ h.not_open n x got own | inr left ↦ h.absent left.1 ];
}

gone_begun : (s : DatabaseState) (n : ℕ) (id : RowId) → IsGone s id → IsGone (after_begin s n) id
gone_begun s n id h = record {
  earlier = let e = h.earlier in omega (arith, e);
  not_open = λ m z found. elim (found_after_put s.sessions n m (new_transaction s) z found) [
    | inl here ↦ λ e. not_next id.t s.next h.earlier (e ∙ sym (ap (λ (v : OpenTransaction). v.t) here.1))
    | inr there ↦ h.not_open m z there.1
  ];
  absent = h.absent;
}
  where
    not_next : (t next : ℕ) → t < next → t ≡ next → ⊥
    not_next t next below same = omega arith

-- what a commit removes is gone
removed_is_gone : (s : DatabaseState) (n : ℕ) (x : OpenTransaction) → IsSound s → get s.sessions n ≡ Some x → (id : RowId) → set.contains x.marks id ≡ true → IsGone (after_merge s n x) id
removed_is_gone s n x h got id marked =
    let there = h.stand n x got id marked in
    record {
      earlier = h.earlier id there;
      not_open = λ m z found. h.of_others id m z there (found_after_removal s.sessions n m z found).1;
      absent = λ has. elim (merged_has s.table x id has) [ inl own ↦ h.of_others id n x there got own | inr left ↦ true≢false (sym marked ∙ left.0) ];
    }

-- ---- over a run

-- the state is sound, and what was gone is gone
record Follows (s s' : DatabaseState) : Type 0 where
  sound : IsSound s'
  gone : (id : RowId) → IsGone s id → IsGone s' id

follows_at : (o : Option OpenTransaction) (s : DatabaseState) (e : Entry) → get s.sessions e.session ≡ o → IsSound s → Follows s (effect_at o s e).0
follows_at None s e got h = outside_leads (Follows s) s e.session (record { sound = h; gone = λ id g. g }) (record { sound = sound_begun s e.session h; gone = gone_begun s e.session }) e.request
follows_at (Some x) s e got h = within_leads (Follows s) s e.session x
    (record { sound = h; gone = λ id g. g })
    (λ y same marks. record { sound = sound_kept s e.session x y h got same marks; gone = λ id. gone_put s e.session x y id got same })
    (λ id y other free same marks. record { sound = sound_marked s e.session x id other free y h got same marks; gone = λ q. gone_put s e.session x y q got same })
    (record { sound = sound_gone s e.session h; gone = gone_less s e.session })
    (λ _. record { sound = sound_merged s e.session x h got; gone = λ id. gone_merged s e.session x id got })
    e.table e.request e.tag

follows : (s : DatabaseState) (e : Entry) → IsSound s → Follows s (after_request s e)
follows s e h = subst (λ (p : DatabaseState × Answer). Follows s p.0) (sym (effect_is s e)) (follows_at (get s.sessions e.session) s e refl h)

-- what a request merges: nothing, or the transaction that it commits
record Merges (s : DatabaseState) (e : Entry) (o : Option OpenTransaction) : Type 0 where
  x : OpenTransaction
  found : o ≡ Some x
  commit : e.request ≡ Commit
  unfailed : x.failed ≡ false
  is : merged_of o e.request ≡ x ∷ []

merged_within : (x : OpenTransaction) (request : Request) → (merged_of (Some x) request ≡ []) ⊎ ((request ≡ Commit) × (x.failed ≡ false) × (merged_of (Some x) request ≡ x ∷ []))
merged_within x Begin = inl refl
merged_within x (Put values) = inl refl
merged_within x (Look q) = inl refl
merged_within x (Mark id) = inl refl
merged_within x Rollback = inl refl
merged_within x Commit = elim x.failed as (λ b. ((if b then [] else x ∷ []) ≡ []) ⊎ ((Commit ≡ Commit) × (b ≡ false) × ((if b then [] else x ∷ []) ≡ x ∷ []))) [ true ↦ inl refl | false ↦ inr (refl, refl, refl) ]

merges_or_not : (s : DatabaseState) (e : Entry) (o : Option OpenTransaction) → (merged_of o e.request ≡ []) ⊎ Merges s e o
merges_or_not s e None = inl refl
merges_or_not s e (Some x) = elim (merged_within x e.request) [ inl nothing ↦ inl nothing | inr m ↦ inr (record { x = x; found = refl; commit = m.0; unfailed = m.1; is = m.2 }) ]

-- no later commit removes a row that is gone
gone_unmarked : (s : DatabaseState) (journal : List Entry) (id : RowId) → IsSound s → IsGone s id → All (λ (y : OpenTransaction). set.contains y.marks id ≡ true → ⊥) (committed_in s journal)
gone_unmarked s [] id h g = All-nil (λ (y : OpenTransaction). set.contains y.marks id ≡ true → ⊥)
gone_unmarked s (e ∷ es) id h g =
    let P = λ (y : OpenTransaction). set.contains y.marks id ≡ true → ⊥ in
    let step = follows s e h in
    let rest : All P (committed_in (after_request s e) es) = gone_unmarked (after_request s e) es id step.sound (step.gone id g) in
    elim (merges_or_not s e (get s.sessions e.session)) [
      | inl nothing ↦ subst (λ (l : List OpenTransaction). All P (l ++ committed_in (after_request s e) es)) (sym nothing) rest
      | inr m ↦ subst (λ (l : List OpenTransaction). All P (l ++ committed_in (after_request s e) es)) (sym m.is)
          (All-cons P m.x (committed_in (after_request s e) es) (λ marked. g.absent (h.stand e.session m.x m.found id marked)) rest)
    ]

pairs_cons : {X : Type 0} (R : X → X → Type 0) (x : X) (xs : List X) → All (R x) xs → AllPairs R xs → AllPairs R (x ∷ xs)
pairs_cons R x xs first rest i zero d below inside = absurd (omega arith)
pairs_cons R x xs first rest zero (suc j) d below inside = first j d (omega arith)
pairs_cons R x xs first rest (suc i) (suc j) d below inside = rest i j d (omega arith) (omega arith)

removed_once : (s : DatabaseState) (journal : List Entry) → IsSound s → AllPairs MarksApart (committed_in s journal)
removed_once s [] h = λ i j d below inside. absurd (omega arith)
removed_once s (e ∷ es) h =
    let rest : AllPairs MarksApart (committed_in (after_request s e) es) = removed_once (after_request s e) es (follows s e h).sound in
    elim (merges_or_not s e (get s.sessions e.session)) [
      | inl nothing ↦ subst (λ (l : List OpenTransaction). AllPairs MarksApart (l ++ committed_in (after_request s e) es)) (sym nothing) rest
      | inr m ↦ subst (λ (l : List OpenTransaction). AllPairs MarksApart (l ++ committed_in (after_request s e) es)) (sym m.is)
          (pairs_cons MarksApart m.x (committed_in (after_request s e) es)
          (λ k d inside id marked. gone_unmarked (after_request s e) es id (follows s e h).sound (subst (λ (s' : DatabaseState). IsGone s' id) (sym (state_of s e m)) (removed_is_gone s e.session m.x h m.found id marked)) k d inside)
          rest)
    ]
  where
    state_of : (s : DatabaseState) (e : Entry) (m : Merges s e (get s.sessions e.session)) → after_request s e ≡ after_merge s e.session m.x
    state_of s e m = ap (λ (p : DatabaseState × Answer). p.0) (commit_effect s e m.x (record { commit = m.commit; under_way = m.found })) ∙ commit_merges s e.session m.x m.unfailed

sound_after : (s : DatabaseState) (journal : List Entry) → IsSound s → IsSound (serial_run s journal)
sound_after s [] h = h
sound_after s (e ∷ es) h = sound_after (after_request s e) es (follows s e h).sound

opening_is_sound : (s : DatabaseState) → IsOpening s → IsSound s
opening_is_sound s h =
    let nobody = λ (n : ℕ) (x : OpenTransaction) (found : get s.sessions n ≡ Some x). none_Some x (sym (h.none_open n) ∙ found) in
    record {
      below = λ n x found. absurd (nobody n x found);
      apart = λ n m x y differ found _ _. nobody n x found;
      earlier = h.earlier;
      of_others = λ id n x has found _. nobody n x found;
      stand = λ n x found. absurd (nobody n x found);
      marks_apart = λ n m x y differ found _ _ _ _. nobody n x found;
    }

pub no_row_removed_twice : NoRowRemovedTwice
no_row_removed_twice s journal h = record {
  once = removed_once s journal (opening_is_sound s h);
  stood = λ before after e x is commits. (sound_after s before (opening_is_sound s h)).stand e.session x commits.under_way;
}

pub marks_are_apart : MarksAreApart
marks_are_apart s journal h = let sound = sound_after s journal (opening_is_sound s h) in record { stand = sound.stand; apart = sound.marks_apart }

pub initial_is_opening : InitialIsOpening
initial_is_opening = record { none_open = get-empty nat_cmp; earlier = λ id has. absurd (false≢true (sym (ap is_some (get-empty id_cmp id)) ∙ has)) }
