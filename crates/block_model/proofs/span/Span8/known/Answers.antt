use Rattle.std.proofs.Common.{rules, ℤ, subst, refl}
use Rattle.block_model.specs.declared.span.Shape.{Shape}
use Rattle.block_model.specs.declared.span.Shape.TheVariants as shapes
use Rattle.std.proofs.Common.{arith}
use Rattle.std.proofs.lemmas.Int.{ints}
use Rattle.std.proofs.Common.{◌≡◌, true, pos, negsuc, FitsSigned, w64}
use Rattle.block_model.specs.ValuesOfKind.{is_int8, HasBounds}
use Rattle.block_model.specs.Ranges.{IsRange}
use Rattle.block_model.specs.Spans.{range_in, HasRangeForm}
use Rattle.block_model.proofs.span.Span8.known.Goals as goal

has_number : (s : Shape) (l h : ℤ) → HasRangeForm s l h → IsRange (range_in s l h)
has_number shapes.Empty l h k = tt
has_number shapes.All l h k = refl
has_number shapes.From l h k = refl
has_number shapes.Below l h k = refl
has_number shapes.Bounded l h k = k

pub returns-clause-number : goal.returns-clause-number
returns-clause-number c = subst IsRange c.self.view_is (has_number c.self.inside.shape c.self.inside.lower c.self.inside.upper c.self.invariant)

is8 : (z : ℤ) → FitsSigned w64 z → is_int8 z ≡ true
is8 (pos n) fits = grind (arith, ints)
is8 (negsuc n) fits = grind (arith, ints)

has_bounds : (s : Shape) (l h : ℤ) → is_int8 l ≡ true → is_int8 h ≡ true → HasBounds (range_in s l h)
has_bounds shapes.Empty l h a b = tt
has_bounds shapes.All l h a b = (tt, tt)
has_bounds shapes.From l h a b = (a, tt)
has_bounds shapes.Below l h a b = (tt, b)
has_bounds shapes.Bounded l h a b = (a, b)

pub returns-clause-bounds : goal.returns-clause-bounds
returns-clause-bounds c =
    let lower : FitsSigned w64 c.self.inside.lower = search rules in
    let upper : FitsSigned w64 c.self.inside.upper = search rules in
    subst HasBounds c.self.view_is (has_bounds c.self.inside.shape c.self.inside.lower c.self.inside.upper (is8 c.self.inside.lower lower) (is8 c.self.inside.upper upper))
