-- elements that are asked miss no value that they hold
use Rattle.std.proofs.Common.{◌≡◌, ℤ, ◌≤ℤ◌, Bool, true, false, ◌||◌, List, [], ◌∷◌, length, suc, ◌==◌, refl, sym, ◌∙◌, arith}
use Rattle.std.specs.List.{list_any}
use Rattle.std.proofs.lemmas.Bool.{or_parts, or_from, ne_eqb}
use Rattle.std.proofs.lemmas.Int.{ints}
use Rattle.block_model.specs.declared.value.Value.{Value}
use Rattle.block_model.specs.declared.value.Value.TheVariants.{Null, Int, Span, Net}
use Rattle.block_model.specs.declared.row.Cond.{Cond}
use Rattle.opclass_api.specs.Conditions.{AllCompare, meets_all, has_null_key}
use Rattle.opclass_api.specs.NumberBounds.{key_holds}
use Rattle.opclass_api.specs.Asking as Asked
use Rattle.opclass_api.specs.NumbersKept.{key_kept, key_null}
use Rattle.opclass_multi.specs.declared.element.Element.{Element}
use Rattle.opclass_multi.specs.Elements.{covers, holds}
use Rattle.opclass_multi.specs.Kept.{Kept}
use Rattle.opclass_multi.specs.Includes.{Includes}
use Rattle.opclass_multi.specs.Consistent.{all_hold, consistent}

-- the ends of an element that holds a value
ends : (e : Element) (v : ℤ) → covers v v e ≡ true → (e.least ≤ℤ v) × (v ≤ℤ e.greatest)
ends e v held = (grind (arith, ints), grind (arith, ints))

-- an element that holds a value meets what the value meets
element_misses : (e : Element) (conds : List Cond) (v : ℤ) → AllCompare conds → covers v v e ≡ true → all_hold conds e ≡ false → meets_all conds (Int v) ≡ false
element_misses e conds v all held none =
    let within = ends e v held in
    Asked.misses_none (λ cond. key_holds e.least e.greatest cond.op cond.key) conds (Int v)
    (λ cond c m. key_kept e.least e.greatest v cond.op cond.key within.0 within.1 (sym (Asked.by_kind (Int v) cond.op cond.key c) ∙ m)) all none

elements_miss : (es : List Element) (conds : List Cond) (v : ℤ) → AllCompare conds → holds es v v ≡ true → list_any (all_hold conds) es ≡ false → meets_all conds (Int v) ≡ false
elements_miss [] conds v all held none = absurd (cc)
elements_miss (e ∷ es) conds v all held none =
    let parts = or_parts (all_hold conds e) (list_any (all_hold conds) es) none in
    in_one (covers v v e) (holds es v v) (meets_all conds (Int v)) held (λ here. element_misses e conds v all here parts.0) (λ there. elements_miss es conds v all there parts.1)
  where
    in_one : (a b m : Bool) → (a || b) ≡ true → (a ≡ true → m ≡ false) → (b ≡ true → m ≡ false) → m ≡ false
    in_one true b m held here there = here refl
    in_one false b m held here there = there held

pub misses_none : (s : Kept) (conds : List Cond) (v : Value) → AllCompare conds → consistent s conds ≡ false → Includes s v → meets_all conds v ≡ false
misses_none s conds (Int v) all none within = elements_miss s.elements conds v all within (or_parts _ (list_any (all_hold conds) s.elements) none).1
misses_none s conds Null all none within = absurd within
misses_none s conds (Span r) all none within = absurd within
misses_none s conds (Net a) all none within = absurd within

null_fails : (e : Element) (conds : List Cond) → has_null_key conds ≡ true → all_hold conds e ≡ false
null_fails e conds some = Asked.null_fails (λ cond. key_holds e.least e.greatest cond.op cond.key) conds (λ cond null. key_null e.least e.greatest cond.op cond.key null) some

all_fail : (es : List Element) (conds : List Cond) → has_null_key conds ≡ true → list_any (all_hold conds) es ≡ false
all_fail [] conds some = refl
all_fail (e ∷ es) conds some = or_from (all_hold conds e) (list_any (all_hold conds) es) (null_fails e conds some) (all_fail es conds some)

-- no element meets a condition with a null key
pub null_holds_nothing : (s : Kept) (conds : List Cond) → has_null_key conds ≡ true → consistent s conds ≡ false
null_holds_nothing s [] some = cc
null_holds_nothing s (cond ∷ conds) some =
    or_from (suc (length conds) == 0) (list_any (all_hold (cond ∷ conds)) s.elements) (ne_eqb (suc (length conds)) 0 (λ none. omega (arith, none))) (all_fail s.elements (cond ∷ conds) some)
