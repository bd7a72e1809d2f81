-- laws of the five forms as one class
use Rattle.std.proofs.Common.{◌≡◌, ℕ, Bool, true, List, [], ◌∷◌, fold, refl}
use Rattle.std.specs.Prelude.{◌↔◌}
use Rattle.std.proofs.lemmas.Bool.{false≢true}
use Rattle.block_model.specs.declared.value.Value.{Value}
use Rattle.opclass_minmax.specs.declared.class.MinMax.{MinMax}
use Rattle.opclass_inclusion.specs.declared.span_class.SpanHull.{SpanHull}
use Rattle.opclass_inclusion.specs.declared.net_class.NetHull.{NetHull}
use Rattle.opclass_bloom.specs.Parameters.{Parameters}
use Rattle.opclass_inclusion.specs.declared.span_summary.SpanSummary.{SpanSummary}
use Rattle.opclass_inclusion.specs.declared.net_summary.NetSummary.{NetSummary}
use Rattle.opclass_minmax.specs as minmax
use Rattle.opclass_multi.specs as multi
use Rattle.opclass_inclusion.specs as inclusion
use Rattle.opclass_bloom.specs as bloom
use Rattle.opclass_any.specs.AnyClass.{add, empty, exact, includes, is_included}
use Rattle.opclass_any.specs.declared.classes.AnyClass.{AnyClass}
use Rattle.opclass_any.specs.declared.classes.AnyClass.TheVariants as forms
use Rattle.opclass_any.specs.declared.classes.AnySummary.{AnySummary}
use Rattle.opclass_any.specs.declared.classes.AnySummary.TheVariants as kept

-- the test says what `includes` does
pub tested : (class : AnyClass) (s : AnySummary) (v : Value) → (is_included class s v ≡ true) ↔ includes class s v
unfolding is_included includes
tested (forms.MinMax class) (kept.MinMax s) v = minmax.Included.tested s v
tested (forms.Multi limit) (kept.Multi s) v = multi.Included.tested s v
tested (forms.SpanHull class) (kept.SpanHull s) v = inclusion.SpanIncluded.tested s v
tested (forms.NetHull class) (kept.NetHull s) v = inclusion.NetIncluded.tested s v
tested (forms.Bloom p) (kept.Bloom s) v = bloom.Included.tested p s v
tested class s v = (λ is. absurd (false≢true is), λ is. absurd is)

added_minmax : (class : MinMax) (values : List Value) (s : minmax.Bounds.Bounds) → kept.MinMax (fold minmax.Bounds.with_value s values) ≡ fold (add (forms.MinMax class)) (kept.MinMax s) values
unfolding add
added_minmax class [] s = refl
added_minmax class (v ∷ values) s = added_minmax class values (minmax.Bounds.with_value s v)

added_multi : (limit : ℕ) (values : List Value) (s : multi.Kept.Kept) → kept.Multi (fold multi.Kept.with_value s values) ≡ fold (add (forms.Multi limit)) (kept.Multi s) values
unfolding add
added_multi limit [] s = refl
added_multi limit (v ∷ values) s = added_multi limit values (multi.Kept.with_value s v)

added_span : (class : SpanHull) (values : List Value) (s : SpanSummary) → kept.SpanHull (fold inclusion.SpanHulls.with_value s values) ≡ fold (add (forms.SpanHull class)) (kept.SpanHull s) values
unfolding add
added_span class [] s = refl
added_span class (v ∷ values) s = added_span class values (inclusion.SpanHulls.with_value s v)

added_net : (class : NetHull) (values : List Value) (s : NetSummary) → kept.NetHull (fold inclusion.NetHulls.with_value s values) ≡ fold (add (forms.NetHull class)) (kept.NetHull s) values
unfolding add
added_net class [] s = refl
added_net class (v ∷ values) s = added_net class values (inclusion.NetHulls.with_value s v)

added_bloom : (p : Parameters) (values : List Value) (s : List Bool) → kept.Bloom (fold (bloom.Bits.with_value p) s values) ≡ fold (add (forms.Bloom p)) (kept.Bloom s) values
unfolding add
added_bloom p [] s = refl
added_bloom p (v ∷ values) s = added_bloom p values (bloom.Bits.with_value p s v)

-- the exact summary is what adding the values in their order gives
pub added_in_order : (class : AnyClass) (values : List Value) → exact class values ≡ fold (add class) (empty class) values
unfolding exact empty
added_in_order (forms.MinMax class) values = added_minmax class values minmax.Bounds.NothingYet
added_in_order (forms.Multi limit) values = added_multi limit values (multi.Kept.nothing_yet limit)
added_in_order (forms.SpanHull class) values = added_span class values inclusion.SpanHulls.no_range
added_in_order (forms.NetHull class) values = added_net class values inclusion.declared.net_summary.NetSummary.TheVariants.NothingYet
added_in_order (forms.Bloom p) values = added_bloom p values (bloom.Bits.nothing_set p)
