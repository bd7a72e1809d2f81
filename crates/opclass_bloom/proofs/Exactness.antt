-- values added one by one set exactly their positions, whatever the order
use Rattle.std.proofs.Common.{◌≡◌, ℕ, ◌<◌, Bool, true, false, ◌||◌, List, [], ◌∷◌, ◌++◌, fold, Contains, length, refl, sym, ap, ◌∙◌, arith, ext_get_or}
use Rattle.std.specs.List.{list_any}
use Rattle.std.specs.Cmp.{both_ways}
use Rattle.std.proofs.Math.Bool.{or_assoc, or-false}
use Rattle.std.proofs.lemmas.List.{length-replicate, get_or-replicate}
use Rattle.std.proofs.lemmas.List.Folds.{list_any-append, list_any_at, Any-from_list_any}
use Rattle.block_model.specs.declared.value.Value.{Value}
use Rattle.opclass_api.specs.SameValues.{HaveSameValues}
use Rattle.opclass_bloom.specs.Bits.{is_set, nothing_set, with_value, united}
use Rattle.opclass_bloom.specs.ExactSummary.{ExactSummary, has_position}
use Rattle.opclass_bloom.specs.Parameters.{Parameters}
use Rattle.opclass_bloom.specs.Positions.{positions}
use Rattle.opclass_bloom.proofs.Setting.{only_these_set, length-with_value, either_set, length-united}

pub value_sets : (p : Parameters) (s : List Bool) (v : Value) (q : ℕ) → q < length s → is_set (with_value p s v) q ≡ (is_set s q || has_position p q v)
unfolding with_value has_position
value_sets p s v q small = only_these_set (positions p v) s q small

length-values : (p : Parameters) (values : List Value) (s : List Bool) → length (fold (with_value p) s values) ≡ length s
length-values p [] s = refl
length-values p (v ∷ values) s = length-values p values (with_value p s v) ∙ length-with_value p s v

values_set : (p : Parameters) (values : List Value) (s : List Bool) (q : ℕ) → q < length s → is_set (fold (with_value p) s values) q ≡ (is_set s q || list_any (has_position p q) values)
values_set p [] s q small = sym (or-false (is_set s q))
values_set p (v ∷ values) s q small =
    let long : q < length (with_value p s v) = rw (length-with_value p s v) small in
    values_set p values (with_value p s v) q long ∙ ap (λ (b : Bool). b || list_any (has_position p q) values) (value_sets p s v q small) ∙ or_assoc (is_set s q) (has_position p q v) (list_any (has_position p q) values)

pub exact_in_order : (p : Parameters) (values : List Value) → ExactSummary p values (fold (with_value p) (nothing_set p) values)
exact_in_order p values = record {
  of_class = length-values p values (nothing_set p) ∙ length-replicate p.bits false;
  exact = λ q small.
      let long : q < length (nothing_set p) = rw (length-replicate p.bits false) small in
      values_set p values (nothing_set p) q long ∙ ap (λ (b : Bool). b || list_any (has_position p q) values) (get_or-replicate p.bits q false false small);
}

-- a list has one exact summary
pub one_exact : (p : Parameters) (values : List Value) (s t : List Bool) → ExactSummary p values s → ExactSummary p values t → t ≡ s
one_exact p values s t first second =
    ext_get_or false t s (second.of_class ∙ sym first.of_class)
    (λ q small. let within : q < p.bits = omega (arith, second.of_class, small) in second.exact q within ∙ sym (first.exact q within))

-- a test that an element passes is passed by the same element of another list
passed_too : (test : Value → Bool) (values others : List Value) → ((v : Value) → Contains values v → Contains others v) → list_any test values ≡ true → list_any test others ≡ true
passed_too test values others there some =
    let any = Any-from_list_any test values some in
    let v = any.1 in
    let found = there v (any.0, any.2, any.3) in
    list_any_at test others found.0 v found.1 (ap test found.2 ∙ any.4)

-- the exact summary of the same values
exact_same : (p : Parameters) (values others : List Value) (s : List Bool) → HaveSameValues values others → ExactSummary p values s → ExactSummary p others s
exact_same p values others s same exact = record {
  of_class = exact.of_class;
  exact = λ q small. exact.exact q small ∙ both_ways (list_any (has_position p q) values) (list_any (has_position p q) others) (passed_too (has_position p q) values others same.all_there) (passed_too (has_position p q) others values same.no_more);
}

-- whatever the order
pub exact_in_any_order : (p : Parameters) (values others : List Value) → HaveSameValues values others → fold (with_value p) (nothing_set p) others ≡ fold (with_value p) (nothing_set p) values
exact_in_any_order p values others same =
    one_exact p others (fold (with_value p) (nothing_set p) values) (fold (with_value p) (nothing_set p) others) (exact_same p values others (fold (with_value p) (nothing_set p) values) same (exact_in_order p values)) (exact_in_order p others)

-- the union is exact for both lists
pub exact_of_both : (p : Parameters) (first second : List Value) (s t : List Bool) → ExactSummary p first s → ExactSummary p second t → ExactSummary p (first ++ second) (united s t)
exact_of_both p first second s t exact also = record {
  of_class = length-united s t (also.of_class ∙ sym exact.of_class) ∙ exact.of_class;
  exact = λ q small.
      let test = has_position p q in
      either_set s t q ∙ ap (λ (b : Bool). b || is_set t q) (exact.exact q small) ∙ ap (λ (b : Bool). list_any test first || b) (also.exact q small) ∙ sym (list_any-append test first second);
}
