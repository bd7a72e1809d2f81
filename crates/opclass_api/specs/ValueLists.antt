-- lists of values, and what holds of all of them
use Rattle.std.proofs.Common.{◌≡◌, List, [], ◌∷◌, All, Contains as Has, refl, subst, arith}
use Rattle.std.proofs.lemmas.List.Elements.{All-weaker, All-contains, All-contains_itself}
use Rattle.block_model.specs.declared.value.Value.{Value}
use Rattle.opclass_api.specs.SameValues.{HaveSameValues}

pub empty_lacks : (v : Value) → Has [] v → ⊥
empty_lacks v there = omega (arith, there.1)

pub none_has : (values : List Value) (v : Value) → values ≡ [] → Has values v → ⊥
none_has values v none there = empty_lacks v (subst (λ (xs : List Value). Has xs v) none there)

pub none_same : (values others : List Value) → HaveSameValues values others → values ≡ [] → others ≡ []
none_same values [] same none = refl
none_same values (v ∷ others) same none = absurd (none_has values v none (same.no_more v (0, omega arith, refl)))

pub all_same : (P : Value → Type 0) (values others : List Value) → HaveSameValues values others → All P values → All P others
all_same P values others same all = All-weaker (Has others) P (λ v there. All-contains P values v all (same.no_more v there)) others (All-contains_itself others)

pub all_back : (P : Value → Type 0) (values others : List Value) → HaveSameValues values others → All P others → All P values
all_back P values others same all = All-weaker (Has values) P (λ v there. All-contains P others v all (same.all_there v there)) values (All-contains_itself values)
