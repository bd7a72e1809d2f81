-- the ends of joined elements are ends of old ones
use Rattle.std.proofs.Common.{ℤ, List, [], ◌∷◌, All, map}
use Rattle.std.specs.Prelude.{int_lt}
use Rattle.std.proofs.lemmas.Bool.{cond_both}
use Rattle.std.proofs.lemmas.List.Elements.{All-nil, All-cons, All-head, All-tail}
use Rattle.opclass_multi.specs.declared.element.Element.{Element}
use Rattle.opclass_multi.specs.Joined.{hull, with_element, joined}
use Rattle.opclass_multi.proofs.Joining.{beside}

-- what holds of the starts holds of them after one more
starts_kept : (P : ℤ → Type 0) (e : Element) (es : List Element) → P e.least → All P (map (λ (f : Element). f.least) es) → All P (map (λ (f : Element). f.least) (with_element e es))
starts_kept P e [] own all = All-cons P e.least [] own (All-nil P)
starts_kept P e (f ∷ fs) own all =
    let starts : List Element → List ℤ = map (λ (f : Element). f.least) in
    beside e f fs (λ es. All P (starts es)) (λ b. All-cons P e.least (starts (f ∷ fs)) own all)
    (λ b. All-cons P f.least (starts (with_element e fs)) (All-head P f.least (starts fs) all) (starts_kept P e fs own (All-tail P f.least (starts fs) all)))
    (λ m n. starts_kept P (hull e f) fs (cond_both (int_lt f.least e.least) f.least e.least P (λ t. All-head P f.least (starts fs) all) (λ o. own)) (All-tail P f.least (starts fs) all))

ends_kept : (P : ℤ → Type 0) (e : Element) (es : List Element) → P e.greatest → All P (map (λ (f : Element). f.greatest) es) → All P (map (λ (f : Element). f.greatest) (with_element e es))
ends_kept P e [] own all = All-cons P e.greatest [] own (All-nil P)
ends_kept P e (f ∷ fs) own all =
    let ends : List Element → List ℤ = map (λ (f : Element). f.greatest) in
    beside e f fs (λ es. All P (ends es)) (λ b. All-cons P e.greatest (ends (f ∷ fs)) own all)
    (λ b. All-cons P f.greatest (ends (with_element e fs)) (All-head P f.greatest (ends fs) all) (ends_kept P e fs own (All-tail P f.greatest (ends fs) all)))
    (λ m n. ends_kept P (hull e f) fs (cond_both (int_lt f.greatest e.greatest) e.greatest f.greatest P (λ t. own) (λ o. All-head P f.greatest (ends fs) all)) (All-tail P f.greatest (ends fs) all))

pub all_starts : (P : ℤ → Type 0) (es fs : List Element) → All P (map (λ (f : Element). f.least) es) → All P (map (λ (f : Element). f.least) fs) → All P (map (λ (f : Element). f.least) (joined es fs))
all_starts P es [] all others = all
all_starts P es (f ∷ fs) all others =
    let starts : List Element → List ℤ = map (λ (f : Element). f.least) in
    all_starts P (with_element f es) fs (starts_kept P f es (All-head P f.least (starts fs) others) all) (All-tail P f.least (starts fs) others)

pub all_ends : (P : ℤ → Type 0) (es fs : List Element) → All P (map (λ (f : Element). f.greatest) es) → All P (map (λ (f : Element). f.greatest) fs) → All P (map (λ (f : Element). f.greatest) (joined es fs))
all_ends P es [] all others = all
all_ends P es (f ∷ fs) all others =
    let ends : List Element → List ℤ = map (λ (f : Element). f.greatest) in
    all_ends P (with_element f es) fs (ends_kept P f es (All-head P f.greatest (ends fs) others) all) (All-tail P f.greatest (ends fs) others)
