-- A number that is capped at the limit of blocks is a block where the number is.
use Rattle.std.proofs.Common.{◌≡◌, ℕ, ◌≤◌, ◌<◌, ◌^◌, nat_lt, min, Bool, true, false, ◌&&◌, cond, None, Some, refl, sym, ap, ◌∙◌, arith}
use Rattle.std.proofs.lemmas.Bool.{ltb-true, ltb-false, le-ltb}

none_either : {A : Type 0} (x : A) (b : Bool) → cond (b && false) (Some x) None ≡ None
none_either x true = refl
none_either x false = refl

capped_at : (b : Bool) (x m : ℕ) (t : Bool) → nat_lt x (2 ^ 32) ≡ t → m ≡ min x (2 ^ 32) → cond (b && nat_lt m (2 ^ 32)) (Some m) None ≡ cond (b && nat_lt x (2 ^ 32)) (Some x) None
capped_at b x m true low e =
    let below : x < 2 ^ 32 = ltb-true x (2 ^ 32) low in
    let same : m ≡ x = omega (arith, e, below) in
    ap (λ (n : ℕ). cond (b && nat_lt n (2 ^ 32)) (Some n) None) same
capped_at b x m false high e =
    let above : 2 ^ 32 ≤ x = ltb-false x (2 ^ 32) high in
    let same : m ≡ 2 ^ 32 = omega (arith, e, above) in
    ap (λ (n : ℕ). cond (b && nat_lt n (2 ^ 32)) (Some n) None) same
    ∙ ap (λ (t : Bool). cond (b && t) (Some (2 ^ 32)) None) (le-ltb (2 ^ 32) (2 ^ 32) (omega arith))
    ∙ none_either (2 ^ 32) b ∙ sym (ap (λ (t : Bool). cond (b && t) (Some x) None) high ∙ none_either x b)

-- a number that is capped at the limit is below it where the number is
pub capped : (b : Bool) (x : ℕ) → cond (b && nat_lt (min x (2 ^ 32)) (2 ^ 32)) (Some (min x (2 ^ 32))) None ≡ cond (b && nat_lt x (2 ^ 32)) (Some x) None
capped b x = capped_at b x (min x (2 ^ 32)) (nat_lt x (2 ^ 32)) refl refl
