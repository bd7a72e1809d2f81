-- pages that tie in their order
use Rattle.std.proofs.Common.{◌≡◌, Bool, true, false, cond, refl}
use Rattle.std.specs.Cmp.{Equal-is}
use Rattle.std.specs.Ordering.{eq_by_cmp}
use Rattle.std.proofs.lemmas.Cmp.{eq_by_cmp_equiv}
use Rattle.block_model.specs.declared.place.Place.{Place}
use Rattle.page_locks.specs.LockHolders.{place_cmp, places_total, places_exact}

pub ties_itself : (a : Place) → eq_by_cmp place_cmp a a ≡ true
ties_itself a = (eq_by_cmp_equiv places_total).refl a

pub ties_back : (a b : Place) → eq_by_cmp place_cmp a b ≡ eq_by_cmp place_cmp b a
ties_back a b = (eq_by_cmp_equiv places_total).symm a b

pub same_place : (a b : Place) → eq_by_cmp place_cmp a b ≡ true → a ≡ b
same_place a b e = places_exact a b ((Equal-is (place_cmp a b)).0 e)

-- a choice that makes no difference
pub same_choice : {X : Type 0} (b : Bool) (x y : X) → (b ≡ true → x ≡ y) → cond b x y ≡ y
same_choice true x y h = h refl
same_choice false x y h = refl
