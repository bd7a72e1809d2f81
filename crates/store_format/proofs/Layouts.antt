-- the layout that a page says
use Rattle.std.proofs.Common.{◌≡◌, ℕ, List, Option, Some, MatchOption, slice_index, Result, Err, sym, ap, subst, ◌∙◌}
use Rattle.std.proofs.lemmas.Bool.{false≢true}
use Rattle.std.proofs.lemmas.Option.{none-some}
use Rattle.block_model.specs.declared.schema.Schema.{Schema}
use Rattle.block_model.specs.declared.schema.Sizes.{Sizes}
use Rattle.store_layout.specs.DiskLayout.{DiskLayout}
use Rattle.store_layout.specs.FirstBrokenRule.{KeepsLimits, IsFirstBroken, IsLeastBroken, first_broken_rule}
use Rattle.store_format.specs.declared.control_fault.ControlFault.{ControlFault}
use Rattle.store_format.specs.declared.control_fault.ControlFault.TheVariants as faults
use Rattle.store_format.specs.ControlPage.{HasControl, control_bytes, written_bytes}
use Rattle.store_format.specs.ControlReading.{Gives, Answers, fields_at}
use Rattle.store_format.proofs.Again.{control_again, some_is}

-- where a rule is broken, the limits aren't kept
pub breaks_limits : (schema : Schema) (sizes : Sizes) (rule : ℕ) → IsLeastBroken schema sizes → first_broken_rule schema sizes ≡ Some rule → KeepsLimits schema sizes → ⊥
breaks_limits schema sizes rule least is keeps =
    let broken = subst (λ (o : Option ℕ). MatchOption o (KeepsLimits schema sizes) (IsFirstBroken schema sizes)) is least in
    false≢true (sym broken.broken ∙ keeps rule)

-- a layout whose page says these fields is the one of these fields
pub says_fields : (d : DiskLayout) (page rest : List ℕ) (sizes : Sizes) (schema : Schema) (result : Result DiskLayout ControlFault) → HasControl d page → fields_at page ≡ Some ((sizes, schema), rest)
    → (KeepsLimits schema sizes → Answers (record { schema = schema; sizes = sizes }) result) → Answers d result
says_fields d page rest sizes schema result has is =
    let again = control_again d page has in
    let same : ((d.sizes, d.schema), again.0) ≡ ((sizes, schema), rest) = some_is _ _ (sym again.1 ∙ is) in
    subst (λ (p : (Sizes × Schema) × List ℕ). (KeepsLimits p.0.1 p.0.0 → Answers (record { schema = p.0.1; sizes = p.0.0 }) result) → Answers d result) same (λ answers. answers has.limits)

-- where the fields aren't said, no layout has the page
pub says_none : (d : DiskLayout) (page rest : List ℕ) (fault : ControlFault) → HasControl d page → Gives {X = Sizes × Schema} (Err fault) rest (fields_at page) → Answers d (Err fault)
says_none d page rest faults.NoStore has none =
    let again = control_again d page has in
    none-some ((d.sizes, d.schema), again.0) (sym none ∙ again.1)
says_none d page rest faults.Memory has none = tt

-- the area byte of a control page is read from it
pub area_again : (d : DiskLayout) (page : List ℕ) (gate area : ℕ) → page ≡ control_bytes d gate area → gate ≡ 1 → page ≡ control_bytes d 1 (slice_index page 1)
unfolding control_bytes written_bytes
area_again d page gate area is is_open =
    let read : slice_index page 1 ≡ area = ap (λ (l : List ℕ). slice_index l 1) is in
    is ∙ ap (λ (g : ℕ). control_bytes d g area) is_open ∙ ap (control_bytes d 1) (sym read)
