-- What clap's rows hold after one use of an argument, and which rule a name leads to.
use Rattle.std.proofs.Common.{◌≡◌, ◌∙◌, refl, sym, ap, List, [], ◌∷◌, ◌++◌, Bool, true, false, cond, ◌||◌, Option, Some, None, is_some, option_map, find, bytes_eq, unwrap_or, true≢false}
use Rattle.std.specs.List.{list_any}
use Rattle.std.specs.Prelude.{fold}
use Rattle.std.proofs.lemmas.Slice.Eq.{bytes_eq-Decides}
use Rattle.std.proofs.lemmas.Bool.{cases_Bool, false_from_ne_true}
use Rattle.clap.specs.Walk.{Row, all_of, has_row, with_values, without, used, arg_by_long, arg_by_id, arg_by_index, with_default}
use Rattle.clap.specs.declared.builder.value_parser.Reading.{Reading}
use Rattle.clap.specs.declared.parser.matches.ValueSource.{ValueSource}
use Rattle.std.proofs.Common.{inl, inr}
use Rattle.command_line.specs.CommandWords.{Text, WordsSaid, value_of}
use Rattle.command_line.specs.ClapRules.{declared_id, option_rule, declared_rule, rules, RowsShow, shown}

pub same_text : (a b : Text) → bytes_eq a b ≡ true → a ≡ b
same_text a b e = (bytes_eq-Decides a b).0 e

pub text_is : (a : Text) → bytes_eq a a ≡ true
text_is a = (bytes_eq-Decides a a).1 refl

pub named_alike : (a b c : Text) → bytes_eq a b ≡ true → bytes_eq a c ≡ bytes_eq b c
named_alike a b c e = ap (λ (x : Text). bytes_eq x c) (same_text a b e)

-- b is not c's name where a is b's and not c's
pub apart : (a n id : Text) → bytes_eq a n ≡ false → bytes_eq a id ≡ true → bytes_eq n id ≡ false
apart a n id ne e = false_from_ne_true (bytes_eq n id) (λ h.
    let same : a ≡ n = same_text a id e ∙ sym (same_text n id h) in
    true≢false (sym (text_is n) ∙ ap (λ (x : Text). bytes_eq x n) (sym same) ∙ ne))

pub none_without : (id : Text) (rows : List Row) → has_row id rows ≡ false → without id rows ≡ rows
none_without id [] e = refl
none_without id (r ∷ rs) e = go (bytes_eq r.id id) e (none_without id rs)
  where
    go : (b : Bool) → (b || has_row id rs) ≡ false → (has_row id rs ≡ false → without id rs ≡ rs) → cond b rs (r ∷ without id rs) ≡ r ∷ rs
    go true e h = absurd (true≢false e)
    go false e h = ap (λ (xs : List Row). r ∷ xs) (h e)

-- a search past one element more, where what is sought is another's
past_one : {A B : Type 0} (f : A → B) (b c : Bool) (x : A) (found before : Option A) (s : Option B) → (b ≡ true → c ≡ false)
    → option_map f found ≡ cond c s (option_map f before) → option_map f (cond b (Some x) found) ≡ cond c s (option_map f (cond b (Some x) before))
past_one f true c x found before s ne h = sym (ap (λ (q : Bool). cond q s (Some (f x))) (ne refl))
past_one f false c x found before s ne h = h

pub values_at : (n : Text) (how : Reading) (s : ValueSource) (vs : List Text) (id : Text) (rows : List Row)
    → all_of id (with_values n how s vs rows) ≡ cond (bytes_eq n id) (Some (unwrap_or (all_of n rows) [] ++ vs)) (all_of id rows)
values_at n how s vs id [] = go (bytes_eq n id)
  where
    go : (b : Bool) → option_map (λ (r : Row). r.values) (cond b (Some (record { id = n; values = vs; count = None; source = Some s; reading = how })) None) ≡ cond b (Some vs) None
    go true = refl
    go false = refl
values_at n how s vs id (r ∷ rs) = elim (cases_Bool (bytes_eq r.id n)) [
  | inl e ↦ rw (e, named_alike r.id n id e) (same (bytes_eq n id) _ _ _)
  | inr e ↦ rw e (past_one (λ (q : Row). q.values) (bytes_eq r.id id) (bytes_eq n id) r _ _ _ (apart r.id n id e) (values_at n how s vs id rs))
]
  where
    same : (b : Bool) (x y : Row) (found : Option Row) → option_map (λ (q : Row). q.values) (cond b (Some x) found) ≡ cond b (Some x.values) (option_map (λ (q : Row). q.values) (cond b (Some y) found))
    same true x y found = refl
    same false x y found = refl

pub has_is : (id : Text) (rows : List Row) → has_row id rows ≡ is_some (all_of id rows)
has_is id [] = refl
has_is id (r ∷ rs) = go (bytes_eq r.id id) (find (λ (q : Row). bytes_eq q.id id) rs) (has_is id rs)
  where
    go : (b : Bool) (found : Option Row) → has_row id rs ≡ is_some (option_map (λ (q : Row). q.values) found) → (b || has_row id rs) ≡ is_some (option_map (λ (q : Row). q.values) (cond b (Some r) found))
    go true found h = refl
    go false found h = h

pub given_at : (n v id : Text) (vs : List (Text × Text)) → is_some (value_of n vs) ≡ false
    → value_of id (vs ++ (n, v) ∷ []) ≡ cond (bytes_eq n id) (Some v) (value_of id vs)
given_at n v id [] e = go (bytes_eq n id)
  where
    go : (b : Bool) → option_map (λ (p : Text × Text). p.1) (cond b (Some (n, v)) None) ≡ cond b (Some v) None
    go true = refl
    go false = refl
given_at n v id (p ∷ ps) e = elim (cases_Bool (bytes_eq p.0 n)) [
  | inl h ↦ absurd (true≢false (rw h at e))
  | inr h ↦ past_one (λ (q : Text × Text). q.1) (bytes_eq p.0 id) (bytes_eq n id) p _ _ _ (apart p.0 n id h) (given_at n v id ps (rw h at e))
]

-- ---- which rule a name leads to

pub long_known : (names : List Text) (name : Text) → list_any (λ n. bytes_eq n name) names ≡ true → arg_by_long (rules names) name ≡ Some (option_rule name)
long_known [] name e = absurd (true≢false (sym e))
long_known (n ∷ ns) name e = elim (cases_Bool (bytes_eq n name)) [
  | inl h ↦ rw h (ap (λ (x : Text). Some (option_rule x)) (same_text n name h))
  | inr h ↦ rw h (long_known ns name (rw h at e))
]

pub long_unknown : (names : List Text) (name : Text) → list_any (λ n. bytes_eq n name) names ≡ false → arg_by_long (rules names) name ≡ None
long_unknown [] name e = refl
long_unknown (n ∷ ns) name e = elim (cases_Bool (bytes_eq n name)) [
  | inl h ↦ absurd (true≢false (rw h at e))
  | inr h ↦ rw h (long_unknown ns name (rw h at e))
]

pub id_known : (names : List Text) (name : Text) → list_any (λ n. bytes_eq n name) names ≡ true → arg_by_id (rules names) name ≡ Some (option_rule name)
id_known [] name e = absurd (true≢false (sym e))
id_known (n ∷ ns) name e = elim (cases_Bool (bytes_eq n name)) [
  | inl h ↦ rw h (ap (λ (x : Text). Some (option_rule x)) (same_text n name h))
  | inr h ↦ rw h (id_known ns name (rw h at e))
]

pub id_declared : (names : List Text) → list_any (λ n. bytes_eq n declared_id) names ≡ false → arg_by_id (rules names) declared_id ≡ Some declared_rule
id_declared [] e = refl
id_declared (n ∷ ns) e = elim (cases_Bool (bytes_eq n declared_id)) [
  | inl h ↦ absurd (true≢false (rw h at e))
  | inr h ↦ rw h (id_declared ns (rw h at e))
]

pub first_place : (names : List Text) → arg_by_index (rules names) 1 ≡ Some declared_rule
first_place [] = refl
first_place (n ∷ ns) = first_place ns

pub known_apart : (names : List Text) (name : Text) → list_any (λ n. bytes_eq n declared_id) names ≡ false → list_any (λ n. bytes_eq n name) names ≡ true → bytes_eq declared_id name ≡ false
known_apart names name d e = false_from_ne_true (bytes_eq declared_id name) (λ h.
    true≢false (sym e ∙ ap (λ (x : Text). list_any (λ n. bytes_eq n x) names) (sym (same_text declared_id name h)) ∙ d))

pub no_defaults : (names : List Text) (rows : List Row) → fold with_default rows (rules names) ≡ rows
no_defaults [] rows = go (has_row declared_id rows)
  where
    go : (b : Bool) → cond b rows rows ≡ rows
    go true = refl
    go false = refl
no_defaults (n ∷ ns) rows = go (has_row n rows) (no_defaults ns rows)
  where
    go : (b : Bool) → fold with_default rows (rules ns) ≡ rows → fold with_default (cond b rows rows) (rules ns) ≡ rows
    go true h = h
    go false h = h

pub known_other : (names : List Text) (name : Text) → list_any (λ n. bytes_eq n declared_id) names ≡ false → list_any (λ n. bytes_eq n name) names ≡ true → bytes_eq name declared_id ≡ false
known_other names name d e = false_from_ne_true (bytes_eq name declared_id) (λ h.
    true≢false (sym e ∙ ap (λ (x : Text). list_any (λ n. bytes_eq n x) names) (same_text name declared_id h) ∙ d))

-- ---- what the rows show after one use

pub has_value : (rows : List Row) (said : WordsSaid) (name : Text) → bytes_eq declared_id name ≡ false → RowsShow rows said → has_row name rows ≡ is_some (value_of name said.values)
has_value rows said name ne s = has_is name rows ∙ ap (λ (o : Option (List Text)). is_some o) (s.value name ne) ∙ go (value_of name said.values)
  where
    go : (o : Option Text) → is_some (option_map (λ v. v ∷ []) o) ≡ is_some o
    go None = refl
    go (Some v) = refl

pub set_shows : (names : List Text) (rows : List Row) (said : WordsSaid) (name v : Text) → list_any (λ n. bytes_eq n declared_id) names ≡ false → list_any (λ n. bytes_eq n name) names ≡ true
    → is_some (value_of name said.values) ≡ false → RowsShow rows said
    → RowsShow (used (option_rule name) (v ∷ []) rows) (record { values = said.values ++ (name, v) ∷ []; declared = said.declared })
set_shows names rows said name v d k none s =
    let apart_name : bytes_eq declared_id name ≡ false = known_apart names name d k in
    let other_name : bytes_eq name declared_id ≡ false = known_other names name d k in
    let no_row : has_row name rows ≡ false = has_value rows said name apart_name s ∙ none in
    let kept : without name rows ≡ rows = none_without name rows no_row in
    record {
      value = λ id ne. rw (kept, values_at name _ _ (v ∷ []) id rows, given_at name v id said.values none, s.value name apart_name, s.value id ne) (go (bytes_eq name id) (value_of name said.values) none (value_of id said.values));
      declared = rw (kept, values_at name _ _ (v ∷ []) declared_id rows, other_name) s.declared;
    }
  where
    go : (b : Bool) (o : Option Text) → is_some o ≡ false → (q : Option Text) → cond b (Some (unwrap_or (option_map (λ x. x ∷ []) o) [] ++ v ∷ [])) (option_map (λ x. x ∷ []) q) ≡ option_map (λ x. x ∷ []) (cond b (Some v) q)
    go b (Some x) e q = absurd (true≢false e)
    go true None e q = refl
    go false None e q = refl

pub add_shows : (rows : List Row) (said : WordsSaid) (w : Text) → RowsShow rows said
    → RowsShow (used declared_rule (w ∷ []) rows) (record { values = said.values; declared = said.declared ++ w ∷ [] })
add_shows rows said w s = record {
  value = λ id ne. rw (values_at declared_id _ _ (w ∷ []) id rows, ne) (s.value id ne);
  declared = rw (values_at declared_id _ _ (w ∷ []) declared_id rows, s.declared) (go said.declared);
}
  where
    go : (d : List Text) → Some (unwrap_or (shown d) [] ++ w ∷ []) ≡ shown (d ++ w ∷ [])
    go [] = refl
    go (x ∷ xs) = refl
