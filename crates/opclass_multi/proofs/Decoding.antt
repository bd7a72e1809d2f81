-- bytes that are read: what was written is read again, and what is read was written
use Rattle.std.proofs.Common.{◌≡◌, ℕ, zero, suc, ◌+◌, ◌-◌, ◌^◌, ◌≤◌, ◌<◌, ℤ, ◌≤ℤ◌, Bool, true, false, cond, Option, None, Some, Result, Ok, Err, List, [], ◌∷◌, ◌++◌, length, take, drop, FitsSigned, refl, sym, ap, subst, ◌∙◌, arith, inl, inr, append_assoc, length-append}
use Rattle.std.specs.Prelude.{int_lt, nat_lt, ◌==◌, ◌&&◌, OnOk, OnErr, IfErr, IsOk, MatchResult}
use Rattle.std.specs.Int.{w64, cast_signed, bytes_high_first}
use Rattle.std.specs.List.{flat_map}
use Rattle.std.proofs.lemmas.Bool.{cond-true, cond-false, cases_lt, and_parts, eqb-true, ltb-true, ltb-false, lt-ltb, le-ltb}
use Rattle.std.proofs.lemmas.Int.{of_z-to_z, ints}
use Rattle.std.proofs.lemmas.List.{append-nil, take_at, drop_at, drop-drop, take-append-drop, get_or-drop, get_or-take, get_or_past, length-take, length-drop, take_all, drop_all, drop_more}
use Rattle.std.proofs.lemmas.List.Edits.{take-paste}
use Rattle.std.proofs.Math.Seq.{paste}
use Rattle.std.proofs.lemmas.List.Sums.{sum_by-cons}
use borrow.Author.Gap.{read_sfits}
use Rattle.byte_fields.specs.Fields.{AreBytes, field_at, number_of, number-fits, number-bytes, bytes-number, length-field, length-number}
use Rattle.byte_fields.specs.Int8.{int8_bytes, length-int8, number_back}
use Rattle.opclass_multi.specs.declared.bytes.ReadElement.{ReadElement}
use Rattle.opclass_multi.specs.declared.element.Element.{Element}
use Rattle.opclass_multi.specs.Elements.{point, IsOrdered, StartsAfter, AreApart, weight, count_of}
use Rattle.opclass_multi.specs.Encoding.{element_bytes, size_of, elements_bytes}
use Rattle.opclass_multi.specs.Reading.{number_at, is_above, point_in, interval_in, element_in, behind, read_on, elements_in, counted_in, read_of, kept_in, sized, summary_in}
use Rattle.opclass_multi.proofs.Reducing.{count_least, weight_bounds}
use Rattle.opclass_multi.proofs.Writing.{interval_bytes, point_bytes, interval_size, point_size, by_width, length-element}

-- ---- what was written is read again
front_number : (z : ℤ) (rest : List ℕ) → FitsSigned w64 z → number_at (int8_bytes z ++ rest) 0 ≡ z
unfolding number_at
front_number z rest fits = ap (λ (bytes : List ℕ). cast_signed w64 (number_of bytes)) (take_at (int8_bytes z) rest 8 (length-int8 z)) ∙ number_back z fits

second_number : (l g : ℤ) (rest : List ℕ) → FitsSigned w64 g → number_at (int8_bytes l ++ (int8_bytes g ++ rest)) 8 ≡ g
unfolding number_at
second_number l g rest fits =
    ap (λ (bytes : List ℕ). cast_signed w64 (number_of (take 8 bytes))) (drop_at (int8_bytes l) (int8_bytes g ++ rest) 8 (length-int8 l))
    ∙ ap (λ (bytes : List ℕ). cast_signed w64 (number_of bytes)) (take_at (int8_bytes g) rest 8 (length-int8 g)) ∙ number_back g fits

point_again : (v : ℤ) (before : Option ℤ) (rest : List ℕ) → FitsSigned w64 v → is_above before v ≡ true → point_in before (int8_bytes v ++ rest) ≡ Ok (point v)
point_again v before rest fits above =
    let bytes = int8_bytes v ++ rest in
    let is : number_at bytes 0 ≡ v = front_number v rest fits in
    let long : 8 ≤ length bytes = omega (arith, length-append (int8_bytes v) rest, length-int8 v) in
    cond-false (nat_lt (length bytes) 8) _ _ (le-ltb (length bytes) 8 long)
    ∙ cond-true (is_above before (number_at bytes 0)) _ _ (ap (is_above before) is ∙ above)
    ∙ (λ i. Ok (point (is i)))

interval_again : (e : Element) (before : Option ℤ) (rest : List ℕ) → FitsSigned w64 e.least → FitsSigned w64 e.greatest → is_above before e.least ≡ true → int_lt e.least e.greatest ≡ true
    → interval_in before (int8_bytes e.least ++ (int8_bytes e.greatest ++ rest)) ≡ Ok e
interval_again e before rest fits also above wide =
    let bytes = int8_bytes e.least ++ (int8_bytes e.greatest ++ rest) in
    let first : number_at bytes 0 ≡ e.least = front_number e.least (int8_bytes e.greatest ++ rest) fits in
    let second : number_at bytes 8 ≡ e.greatest = second_number e.least e.greatest rest also in
    let long : 16 ≤ length bytes = omega (arith, length-append (int8_bytes e.least) (int8_bytes e.greatest ++ rest), length-append (int8_bytes e.greatest) rest, length-int8 e.least, length-int8 e.greatest) in
    cond-false (nat_lt (length bytes) 8) _ _ (le-ltb (length bytes) 8 (omega arith))
    ∙ cond-true (is_above before (number_at bytes 0)) _ _ (ap (is_above before) first ∙ above)
    ∙ cond-false (nat_lt (length bytes) 16) _ _ (le-ltb (length bytes) 16 long)
    ∙ cond-true (int_lt (number_at bytes 0) (number_at bytes 8)) _ _ ((λ i. int_lt (first i) (second i)) ∙ wide)
    ∙ (λ i. Ok (record { least = first i; greatest = second i }))

-- an element that was written is read
element_again : (e : Element) (intervals : ℕ) (before : Option ℤ) (rest : List ℕ) → IsOrdered e → is_above before e.least ≡ true → weight e ≤ suc intervals → element_in intervals before (element_bytes e ++ rest) ≡ Ok e
element_again e intervals before rest one above left =
    by_width e (element_in intervals before (element_bytes e ++ rest) ≡ Ok e)
    (λ w. let counts : weight e ≡ 2 = cond-true (int_lt e.least e.greatest) 2 1 w in
    ap (λ (bytes : List ℕ). element_in intervals before (bytes ++ rest)) (interval_bytes e w)
    ∙ cond-true (nat_lt 0 intervals) (interval_in before ((int8_bytes e.least ++ int8_bytes e.greatest) ++ rest)) (Err 0) (lt-ltb 0 intervals (omega arith))
    ∙ ap (interval_in before) (append_assoc (int8_bytes e.least) (int8_bytes e.greatest) rest)
    ∙ interval_again e before rest one.least_fits one.greatest_fits above w)
    (λ n. let same : e.greatest ≡ e.least = (let order : e.least ≤ℤ e.greatest = one.in_order in omega (arith, ints)) in
    ap (λ (bytes : List ℕ). element_in intervals before (bytes ++ rest)) (point_bytes e n)
    ∙ point_again e.least before rest one.least_fits above
    ∙ (λ i. Ok (record { least = e.least; greatest = sym same i })))

-- the elements begin above the end of what was read
abbrev StartAbove : Option ℤ → List Element → Type 0
StartAbove None es = Unit {0}
StartAbove (Some before) es = StartsAfter before es

first_above : (before : Option ℤ) (e : Element) (es : List Element) → StartAbove before (e ∷ es) → is_above before e.least ≡ true
first_above None e es start = refl
first_above (Some v) e es start = grind (arith, ints)

behind_bytes : (e : Element) (rest : List ℕ) → drop (size_of e) (element_bytes e ++ rest) ≡ rest
behind_bytes e rest = drop_at (element_bytes e) rest (size_of e) (length-element e)

elements_again : (es : List Element) (intervals : ℕ) (before : Option ℤ) → AreApart es → StartAbove before es → count_of es ≤ length es + intervals → elements_in (length es) intervals before (flat_map element_bytes es) ≡ Ok es
elements_again [] intervals before apart start fits = refl
elements_again (e ∷ es) intervals before apart start fits =
    let rest = flat_map element_bytes es in
    let next = λ (f : Element). elements_in (length es) (suc intervals - weight f) (Some f.greatest) (drop (size_of f) (element_bytes e ++ rest)) in
    let counts = sum_by-cons weight e es in
    ap (λ (r : Result Element ℕ). read_on r next) (element_again e intervals before rest apart.0 (first_above before e es start) (omega (arith, counts, count_least es)))
    ∙ ap (λ (r : Result (List Element) ℕ). behind (size_of e) (e ∷ []) r)
    (ap (elements_in (length es) (suc intervals - weight e) (Some e.greatest)) (behind_bytes e rest)
    ∙ elements_again es (suc intervals - weight e) (Some e.greatest) apart.2 apart.1 (omega (arith, counts, count_least es, (weight_bounds e).0)))

-- elements that were written are read
pub read_again : (limit : ℕ) (es : List Element) → limit ≤ 256 → AreApart es → count_of es ≤ limit → read_of limit (elements_bytes es) ≡ Ok es
read_again limit es few apart fits =
    let n = length es in
    let rest = flat_map element_bytes es in
    let bytes = elements_bytes es in
    let small : n ≤ 256 = omega (arith, count_least es) in
    let long : 2 ≤ length bytes = omega (arith, length-append (bytes_high_first 2 n) rest, length-number 2 n) in
    let number : number_of (field_at bytes 0 2) ≡ n = ap number_of (take_at (bytes_high_first 2 n) rest 2 (length-number 2 n)) ∙ number-bytes 2 n (omega arith) in
    cond-false (nat_lt (length bytes) 2) _ _ (le-ltb (length bytes) 2 long)
    ∙ ap (λ m. counted_in limit m (drop 2 bytes)) number
    ∙ ap (counted_in limit n) (drop_at (bytes_high_first 2 n) rest 2 (length-number 2 n))
    ∙ cond-false (nat_lt limit n) _ _ (le-ltb limit n (omega (arith, count_least es)))
    ∙ ap (behind 2 []) (elements_again es (limit - n) None apart tt (omega (arith, count_least es)))

-- ---- what is read was written
by_cond : {X : Type 0} (b : Bool) (x y z : X) (P : Type 0) → cond b x y ≡ z → (b ≡ true → x ≡ z → P) → (b ≡ false → y ≡ z → P) → P
by_cond true x y z P is one other = one refl is
by_cond false x y z P is one other = other refl is

pub AreBytes-drop : (n : ℕ) (bytes : List ℕ) → AreBytes bytes → AreBytes (drop n bytes)
AreBytes-drop n bytes small i = rw (get_or-drop n bytes i 0) (small (n + i))

AreBytes-take : (n : ℕ) (bytes : List ℕ) → AreBytes bytes → AreBytes (take n bytes)
AreBytes-take n bytes small i =
    elim (cases_lt i n) [
      | inl lt ↦ rw (get_or-take n bytes i 0 lt) (small i)
      | inr le ↦ rw (get_or_past (take n bytes) i 0 (omega (arith, length-take n bytes))) (omega arith)
    ]

field_small : (bytes : List ℕ) (at : ℕ) → AreBytes bytes → at + 8 ≤ length bytes → number_of (field_at bytes at 8) < 2 ^ 64
field_small bytes at small within =
    let fits = number-fits (field_at bytes at 8) (AreBytes-take 8 (drop at bytes) (AreBytes-drop at bytes small)) in
    let size = length-field bytes at 8 within in
    subst (λ n. number_of (field_at bytes at 8) < 256 ^ n) size fits

number_fits : (bytes : List ℕ) (at : ℕ) → FitsSigned w64 (number_at bytes at)
unfolding number_at
number_fits bytes at = read_sfits w64 (number_of (field_at bytes at 8))

-- the bytes of a number that was read
number_spelled : (bytes : List ℕ) (at : ℕ) → AreBytes bytes → at + 8 ≤ length bytes → int8_bytes (number_at bytes at) ≡ take 8 (drop at bytes)
unfolding number_at int8_bytes
number_spelled bytes at small within =
    let field = field_at bytes at 8 in
    ap (bytes_high_first 8) (of_z-to_z w64 (number_of field) (field_small bytes at small within))
    ∙ ap (λ n. bytes_high_first n (number_of field)) (sym (length-field bytes at 8 within))
    ∙ bytes-number field (AreBytes-take 8 (drop at bytes) (AreBytes-drop at bytes small))

-- an element that was read
pub record Taken (intervals : ℕ) (before : Option ℤ) (bytes : List ℕ) (e : Element) : Type 0 where
  pub spelled : bytes ≡ element_bytes e ++ drop (size_of e) bytes
  pub ordered : IsOrdered e
  pub above : is_above before e.least ≡ true
  pub left : weight e ≤ suc intervals

point_spelled : (v : ℤ) (bytes : List ℕ) → bytes ≡ int8_bytes v ++ drop 8 bytes → 0 ∷ bytes ≡ element_bytes (point v) ++ drop (size_of (point v)) (0 ∷ bytes)
point_spelled v bytes same =
    let narrow : int_lt v v ≡ false = grind (arith, ints) in
    ap (λ (l : List ℕ). 0 ∷ l) same ∙ (λ i. sym (point_bytes (point v) narrow) i ++ drop (sym (point_size (point v) narrow) i) (0 ∷ bytes))

interval_spelled : (e : Element) (bytes : List ℕ) → int_lt e.least e.greatest ≡ true → bytes ≡ int8_bytes e.least ++ (int8_bytes e.greatest ++ drop 16 bytes) → 1 ∷ bytes ≡ element_bytes e ++ drop (size_of e) (1 ∷ bytes)
interval_spelled e bytes wide same =
    ap (λ (l : List ℕ). 1 ∷ l) (same ∙ sym (append_assoc (int8_bytes e.least) (int8_bytes e.greatest) (drop 16 bytes)))
    ∙ (λ i. sym (interval_bytes e wide) i ++ drop (sym (interval_size e wide) i) (1 ∷ bytes))

first_spelled : (bytes : List ℕ) → AreBytes bytes → 8 ≤ length bytes → bytes ≡ int8_bytes (number_at bytes 0) ++ drop 8 bytes
first_spelled bytes small long =
    sym (take-append-drop 8 bytes) ∙ ap (λ (l : List ℕ). l ++ drop 8 bytes) (sym (number_spelled bytes 0 small (omega arith)))

both_spelled : (bytes : List ℕ) → AreBytes bytes → 16 ≤ length bytes → bytes ≡ int8_bytes (number_at bytes 0) ++ (int8_bytes (number_at bytes 8) ++ drop 16 bytes)
both_spelled bytes small long =
    let second : drop 8 bytes ≡ int8_bytes (number_at bytes 8) ++ drop 16 bytes =
    sym (take-append-drop 8 (drop 8 bytes))
    ∙ ap (λ (l : List ℕ). l ++ drop 8 (drop 8 bytes)) (sym (number_spelled bytes 8 small long))
    ∙ ap (λ (l : List ℕ). int8_bytes (number_at bytes 8) ++ l) (drop-drop 8 8 bytes) in
    first_spelled bytes small (omega arith) ∙ ap (λ (l : List ℕ). int8_bytes (number_at bytes 0) ++ l) second

point_counts : (v : ℤ) (intervals : ℕ) → weight (point v) ≤ suc intervals
point_counts v intervals = let narrow : int_lt v v ≡ false = grind (arith, ints) in let counts : weight (point v) ≡ 1 = cond-false (int_lt v v) 2 1 narrow in omega arith

point_taken : (intervals : ℕ) (before : Option ℤ) (bytes : List ℕ) (e : Element) → AreBytes bytes → point_in before bytes ≡ Ok e → Taken intervals before (0 ∷ bytes) e
point_taken intervals before bytes e small is =
    let v = number_at bytes 0 in
    let P = Taken intervals before (0 ∷ bytes) e in
    by_cond (nat_lt (length bytes) 8) (Err (suc (length bytes))) _ (Ok e) P is (λ t wrong. absurd (cc))
    (λ f is. by_cond (is_above before v) (Ok (point v)) (Err 1) (Ok e) P is
    (λ above is. let own : point v ≡ e = cc in
    subst (Taken intervals before (0 ∷ bytes)) own (record {
      spelled = point_spelled v bytes (first_spelled bytes small (ltb-false (length bytes) 8 f));
      ordered = record { least_fits = number_fits bytes 0; greatest_fits = number_fits bytes 0; in_order = omega (arith, ints) };
      above = above;
      left = point_counts v intervals;
    }))
    (λ below wrong. absurd (cc)))

interval_taken : (intervals : ℕ) (before : Option ℤ) (bytes : List ℕ) (e : Element) → AreBytes bytes → 0 < intervals → interval_in before bytes ≡ Ok e → Taken intervals before (1 ∷ bytes) e
interval_taken intervals before bytes e small some is =
    let l = number_at bytes 0 in
    let g = number_at bytes 8 in
    let P = Taken intervals before (1 ∷ bytes) e in
    by_cond (nat_lt (length bytes) 8) (Err (suc (length bytes))) _ (Ok e) P is (λ t wrong. absurd (cc))
    (λ f is. by_cond (is_above before l) _ (Err 1) (Ok e) P is
    (λ above is. by_cond (nat_lt (length bytes) 16) (Err (suc (length bytes))) _ (Ok e) P is (λ t wrong. absurd (cc))
    (λ full is. by_cond (int_lt l g) (Ok (record { least = l; greatest = g })) (Err 9) (Ok e) P is
    (λ wide is. let one : Element = record { least = l; greatest = g } in
    let own : one ≡ e = cc in
    subst (Taken intervals before (1 ∷ bytes)) own (record {
      spelled = interval_spelled one bytes wide (both_spelled bytes small (ltb-false (length bytes) 16 full));
      ordered = record { least_fits = number_fits bytes 0; greatest_fits = number_fits bytes 8; in_order = omega (arith, ints) };
      above = above;
      left = omega (arith, (weight_bounds one).1);
    }))
    (λ narrow wrong. absurd (cc))))
    (λ below wrong. absurd (cc)))

pub element_taken : (intervals : ℕ) (before : Option ℤ) (bytes : List ℕ) (e : Element) → AreBytes bytes → element_in intervals before bytes ≡ Ok e → Taken intervals before bytes e
element_taken intervals before [] e small is = absurd (cc)
element_taken intervals before (tag ∷ bytes) e small is =
    let P = Taken intervals before (tag ∷ bytes) e in
    by_cond (tag == 0) (point_in before bytes) _ (Ok e) P is
    (λ t is. subst (λ n. Taken intervals before (n ∷ bytes) e) (sym (eqb-true tag 0 t)) (point_taken intervals before bytes e (λ i. small (suc i)) is))
    (λ f is. by_cond (tag == 1 && nat_lt 0 intervals) (interval_in before bytes) (Err 0) (Ok e) P is
    (λ t is. let parts = and_parts (tag == 1) (nat_lt 0 intervals) t in
    subst (λ n. Taken intervals before (n ∷ bytes) e) (sym (eqb-true tag 1 parts.0)) (interval_taken intervals before bytes e (λ i. small (suc i)) (ltb-true 0 intervals parts.1) is))
    (λ g wrong. absurd (cc)))

-- an element that was read with its size
pub sized_ok : (intervals : ℕ) (r : Result Element ℕ) (t : ReadElement) → sized intervals r ≡ Ok t → (r ≡ Ok t.element) × (t.size ≡ size_of t.element) × (t.intervals ≡ suc intervals - weight t.element)
sized_ok intervals (Ok e) t is =
    let one : ReadElement = record { element = e; size = size_of e; intervals = suc intervals - weight e } in
    let own : one ≡ t = cc in
    let element : e ≡ t.element = ap (λ (x : ReadElement). x.element) own in
    (ap Ok element, sym (ap (λ (x : ReadElement). x.size) own) ∙ ap size_of element, sym (ap (λ (x : ReadElement). x.intervals) own) ∙ ap (λ (x : Element). suc intervals - weight x) element)
sized_ok intervals (Err at) t is = absurd (cc)

pub sized_err : (intervals : ℕ) (r : Result Element ℕ) (place : ℕ) → sized intervals r ≡ Err place → r ≡ Err place
sized_err intervals (Ok e) place is = absurd (cc)
sized_err intervals (Err at) place is = let own : at ≡ place = cc in ap Err own

-- elements that were read
record AllTaken (n intervals : ℕ) (before : Option ℤ) (bytes : List ℕ) (es : List Element) : Type 0 where
  spelled : bytes ≡ flat_map element_bytes es
  number : length es ≡ n
  apart : AreApart es
  start : StartAbove before es
  count : count_of es ≤ n + intervals

above_start : (before : Option ℤ) (e : Element) (es : List Element) → is_above before e.least ≡ true → StartAbove before (e ∷ es)
above_start None e es above = tt
above_start (Some v) e es above = omega (arith, ints)

-- one and the rest
joined_taken : (n intervals : ℕ) (before : Option ℤ) (bytes : List ℕ) (e : Element) (more : List Element) → Taken intervals before bytes e
    → AllTaken n (suc intervals - weight e) (Some e.greatest) (drop (size_of e) bytes) more → AllTaken (suc n) intervals before bytes (e ∷ more)
joined_taken n intervals before bytes e more one rest = record {
  spelled = one.spelled ∙ ap (λ (l : List ℕ). element_bytes e ++ l) rest.spelled;
  number = ap suc rest.number;
  apart = (one.ordered, rest.start, rest.apart);
  start = above_start before e more one.above;
  count = omega (arith, sum_by-cons weight e more, rest.count, one.left);
}

with_rest : (n intervals : ℕ) (before : Option ℤ) (bytes : List ℕ) (e : Element) (es : List Element) (q : Result (List Element) ℕ) → Taken intervals before bytes e
    → ((more : List Element) → q ≡ Ok more → AllTaken n (suc intervals - weight e) (Some e.greatest) (drop (size_of e) bytes) more)
    → behind (size_of e) (e ∷ []) q ≡ Ok es → AllTaken (suc n) intervals before bytes es
with_rest n intervals before bytes e es (Err at) one rest is = absurd (cc)
with_rest n intervals before bytes e es (Ok more) one rest is =
    let own : e ∷ more ≡ es = cc in
    subst (AllTaken (suc n) intervals before bytes) own (joined_taken n intervals before bytes e more one (rest more refl))

with_one : (n intervals : ℕ) (before : Option ℤ) (bytes : List ℕ) (es : List Element) (r : Result Element ℕ)
    → ((e : Element) → r ≡ Ok e → Taken intervals before bytes e)
    → ((e : Element) (more : List Element) → elements_in n (suc intervals - weight e) (Some e.greatest) (drop (size_of e) bytes) ≡ Ok more → AllTaken n (suc intervals - weight e) (Some e.greatest) (drop (size_of e) bytes) more)
    → read_on r (λ e. elements_in n (suc intervals - weight e) (Some e.greatest) (drop (size_of e) bytes)) ≡ Ok es → AllTaken (suc n) intervals before bytes es
with_one n intervals before bytes es (Err at) one rest is = absurd (cc)
with_one n intervals before bytes es (Ok e) one rest is =
    with_rest n intervals before bytes e es (elements_in n (suc intervals - weight e) (Some e.greatest) (drop (size_of e) bytes)) (one e refl) (rest e) is

elements_taken : (n intervals : ℕ) (before : Option ℤ) (bytes : List ℕ) (es : List Element) → AreBytes bytes → elements_in n intervals before bytes ≡ Ok es → AllTaken n intervals before bytes es
elements_taken zero intervals before [] es small is =
    let none : [] ≡ es = cc in
    subst (AllTaken zero intervals before []) none (record { spelled = refl; number = refl; apart = tt; start = nothing before; count = omega arith })
  where
    nothing : (before : Option ℤ) → StartAbove before []
    nothing None = tt
    nothing (Some v) = tt
elements_taken zero intervals before (b ∷ bytes) es small is = absurd (cc)
elements_taken (suc n) intervals before bytes es small is =
    with_one n intervals before bytes es (element_in intervals before bytes) (λ e got. element_taken intervals before bytes e small got)
    (λ e more got. elements_taken n (suc intervals - weight e) (Some e.greatest) (drop (size_of e) bytes) more (AreBytes-drop (size_of e) bytes small) got) is

-- the elements that bytes encode
pub record IsRead (limit : ℕ) (bytes : List ℕ) (es : List Element) : Type 0 where
  pub spelled : bytes ≡ elements_bytes es
  pub apart : AreApart es
  pub within : count_of es ≤ limit

counted_taken : (limit n : ℕ) (bytes : List ℕ) (es : List Element) (q : Result (List Element) ℕ) → n ≤ limit → ((more : List Element) → q ≡ Ok more → AllTaken n (limit - n) None bytes more) → behind 2 [] q ≡ Ok es → (bytes ≡ flat_map element_bytes es) × (length es ≡ n) × AreApart es × (count_of es ≤ limit)
counted_taken limit n bytes es (Err at) some rest is = absurd (cc)
counted_taken limit n bytes es (Ok more) some rest is =
    let own : more ≡ es = cc in
    let all = rest more refl in
    subst (λ (es : List Element). (bytes ≡ flat_map element_bytes es) × (length es ≡ n) × AreApart es × (count_of es ≤ limit)) own (all.spelled, all.number, all.apart, omega (arith, all.count))

pub read_taken : (limit : ℕ) (bytes : List ℕ) (es : List Element) → AreBytes bytes → read_of limit bytes ≡ Ok es → IsRead limit bytes es
read_taken limit bytes es small is =
    let n = number_of (field_at bytes 0 2) in
    let P = IsRead limit bytes es in
    by_cond (nat_lt (length bytes) 2) (Err (length bytes)) _ (Ok es) P is (λ t wrong. absurd (cc))
    (λ long is. by_cond (nat_lt limit n) (Err 0) _ (Ok es) P is (λ t wrong. absurd (cc))
    (λ some is. let size : 2 ≤ length bytes = ltb-false (length bytes) 2 long in
    let all = counted_taken limit n (drop 2 bytes) es (elements_in n (limit - n) None (drop 2 bytes)) (ltb-false limit n some) (λ more got. elements_taken n (limit - n) None (drop 2 bytes) more (AreBytes-drop 2 bytes small) got) is in
    let field : take 2 bytes ≡ bytes_high_first 2 n =
    sym (bytes-number (take 2 bytes) (AreBytes-take 2 bytes small)) ∙ ap (λ k. bytes_high_first k n) (length-field bytes 0 2 (omega arith)) in
    record {
      spelled =
          sym (take-append-drop 2 bytes)
          ∙ ap (λ (l : List ℕ). l ++ drop 2 bytes) (field ∙ ap (bytes_high_first 2) (sym all.1))
          ∙ ap (λ (l : List ℕ). bytes_high_first 2 (length es) ++ l) all.0;
      apart = all.2;
      within = all.3;
    }))

-- ---- the loop that reads
behind-behind : (a b : ℕ) (es fs : List Element) (r : Result (List Element) ℕ) → behind a es (behind b fs r) ≡ behind (a + b) (es ++ fs) r
behind-behind a b es fs (Ok more) = ap Ok (sym (append_assoc es fs more))
behind-behind a b es fs (Err at) = let place : a + (b + at) ≡ a + b + at = omega arith in ap Err place

pub on_more : (r : Result (List Element) ℕ) (at n m intervals : ℕ) (es : List Element) (before : Option ℤ) (bytes : List ℕ) (e : Element) → m ≡ suc n
    → r ≡ behind at es (elements_in m intervals before (drop at bytes)) → element_in intervals before (drop at bytes) ≡ Ok e
    → r ≡ behind (at + size_of e) (es ++ e ∷ []) (elements_in n (suc intervals - weight e) (Some e.greatest) (drop (at + size_of e) bytes))
on_more r at n m intervals es before bytes e left so_far got =
    let next = λ (f : Element). elements_in n (suc intervals - weight f) (Some f.greatest) (drop (size_of f) (drop at bytes)) in
    so_far
    ∙ ap (λ k. behind at es (elements_in k intervals before (drop at bytes))) left
    ∙ ap (λ (one : Result Element ℕ). behind at es (read_on one next)) got
    ∙ behind-behind at (size_of e) es (e ∷ []) (next e)
    ∙ ap (λ (l : List ℕ). behind (at + size_of e) (es ++ e ∷ []) (elements_in n (suc intervals - weight e) (Some e.greatest) l)) (drop-drop (size_of e) at bytes)

pub on_fault : (r : Result (List Element) ℕ) (at n m intervals place : ℕ) (es : List Element) (before : Option ℤ) (bytes : List ℕ) → m ≡ suc n
    → r ≡ behind at es (elements_in m intervals before (drop at bytes)) → element_in intervals before (drop at bytes) ≡ Err place → r ≡ Err (at + place)
on_fault r at n m intervals place es before bytes left so_far got =
    let next = λ (f : Element). elements_in n (suc intervals - weight f) (Some f.greatest) (drop (size_of f) (drop at bytes)) in
    so_far
    ∙ ap (λ k. behind at es (elements_in k intervals before (drop at bytes))) left
    ∙ ap (λ (one : Result Element ℕ). behind at es (read_on one next)) got

pub on_end : (r : Result (List Element) ℕ) (at m intervals : ℕ) (es : List Element) (before : Option ℤ) (bytes : List ℕ) → m ≡ 0
    → r ≡ behind at es (elements_in m intervals before (drop at bytes)) → length bytes ≤ at → r ≡ Ok es
on_end r at m intervals es before bytes none so_far end =
    so_far
    ∙ ap (λ k. behind at es (elements_in k intervals before (drop at bytes))) none
    ∙ ap (λ (l : List ℕ). behind at es (elements_in 0 intervals before l)) (drop_all at bytes end)
    ∙ ap Ok (append-nil es)

pub on_rest : (r : Result (List Element) ℕ) (at m intervals : ℕ) (es : List Element) (before : Option ℤ) (bytes : List ℕ) → m ≡ 0
    → r ≡ behind at es (elements_in m intervals before (drop at bytes)) → at < length bytes → r ≡ Err at
on_rest r at m intervals es before bytes none so_far past =
    let place : at + 0 ≡ at = omega arith in
    so_far
    ∙ ap (λ k. behind at es (elements_in k intervals before (drop at bytes))) none
    ∙ ap (λ (l : List ℕ). behind at es (elements_in 0 intervals before l)) (drop_more bytes at 0 past)
    ∙ ap Err place

-- an element that was read ends within the bytes
pub taken_within : (intervals : ℕ) (before : Option ℤ) (bytes : List ℕ) (e : Element) → Taken intervals before bytes e → size_of e ≤ length bytes
taken_within intervals before bytes e one = omega (arith, ap length one.spelled, length-append (element_bytes e) (drop (size_of e) bytes), length-element e)

-- what a call that read leaves
pub lawful_after : {E : Type 0} (r : Result (Unit {0}) E) (limit : ℕ) (bytes : List ℕ) (old new : List Element) → AreBytes bytes → OnOk r (read_of limit bytes ≡ Ok new) → OnErr r (new ≡ old)
    → AreApart old → count_of old ≤ limit → AreApart new × (count_of new ≤ limit)
lawful_after (Ok u) limit bytes old new small found same apart within = let all = read_taken limit bytes new small found in (all.apart, all.within)
lawful_after (Err e) limit bytes old new small found same apart within = (subst AreApart (sym same) apart, omega (arith, ap count_of same))

pub found_after : {E : Type 0} (r : Result (Unit {0}) E) (limit : ℕ) (bytes : List ℕ) (new : List Element) → AreBytes bytes → OnOk r (read_of limit bytes ≡ Ok new) → OnOk r (bytes ≡ elements_bytes new)
found_after (Ok u) limit bytes new small found = (read_taken limit bytes new small found).spelled
found_after (Err e) limit bytes new small found = tt

pub again_after : {E : Type 0} (place : E → ℕ) (r : Result (Unit {0}) E) (limit : ℕ) (bytes : List ℕ) (new es : List Element) → limit ≤ 256
    → OnOk r (read_of limit bytes ≡ Ok new) → IfErr r (λ e. read_of limit bytes ≡ Err (place e)) → AreApart es → count_of es ≤ limit → bytes ≡ elements_bytes es → IsOk r × (new ≡ es)
again_after place (Ok u) limit bytes new es few found fault apart within is =
    let again : read_of limit bytes ≡ Ok es = ap (read_of limit) is ∙ read_again limit es few apart within in
    let same : new ≡ es = cc in
    (refl, same)
again_after place (Err e) limit bytes new es few found fault apart within is =
    let again : read_of limit bytes ≡ Ok es = ap (read_of limit) is ∙ read_again limit es few apart within in
    absurd (cc)

pub read_after : {E : Type 0} (place : E → ℕ) (r : Result (Unit {0}) E) (limit kept own : ℕ) (bytes : List ℕ) (new : List Element) → kept ≡ limit → kept ≡ own → OnOk r (read_of limit bytes ≡ Ok new)
    → IfErr r (λ e. read_of limit bytes ≡ Err (place e)) → MatchResult r (λ ok. summary_in own bytes ≡ Ok (record { limit = kept; elements = new })) (λ e. summary_in own bytes ≡ Err (place e))
read_after place (Ok u) limit kept own bytes new passed is found fault = ap (λ n. summary_in n bytes) (sym is ∙ passed) ∙ ap (kept_in limit) found ∙ (λ i. Ok (record { limit = sym passed i; elements = new }))
read_after place (Err e) limit kept own bytes new passed is found fault = ap (λ n. summary_in n bytes) (sym is ∙ passed) ∙ ap (kept_in limit) fault

-- the elements behind the first ones, moved to the front
pub moved : (old n : ℕ) (xs : List Element) → old ≤ length xs → n ≡ length xs - old → take n (paste xs 0 (drop old xs) n) ≡ drop old xs
moved old n xs within is =
    let size : length (drop old xs) ≡ n = omega (arith, length-drop old xs) in
    let whole : n ≡ 0 + n = omega arith in
    ap (λ k. take k (paste xs 0 (drop old xs) n)) whole ∙ take-paste xs 0 (drop old xs) n (omega arith) (omega arith) ∙ take_all n (drop old xs) (omega arith)
