use Rattle.std.proofs.Common.{◌≡◌, ◌-◌, length, Err, sym, ap, ◌∙◌}
use Rattle.value_text.specs.ValueTexts.{meaning}
use Rattle.value_text.specs.Parts.{value_text}
use Rattle.value_text.proofs.ValueReading.{read_is_text, read_is_only, refused_leaves, refused_is_no_text, refused_stops_at, answers_value, answers_range}
use Rattle.value_text.proofs.read.read_value.Goals as goal

pub value-requires : goal.value-requires
value-requires c = (read_is_text c.args.kind c.args.text.now (value_text c.in-Ok.literal) c.in-Ok.field-0-1.now c.in-Ok.ensures).0

pub overflow_sub-result : goal.overflow_sub-result
overflow_sub-result c = refused_leaves c.args.kind c.args.text.now c.in-Err.left.now c.in-Err.ensures

pub returns-in-Ok-value-clause-value : goal.returns-in-Ok-value-clause-value
returns-in-Ok-value-clause-value c =
    let t = read_is_text c.args.kind c.args.text.now (value_text c.in-Ok.literal) c.in-Ok.field-0-1.now c.in-Ok.ensures in
    (value_text c.in-Ok.literal, t.0, t.1, sym c.value.ensures ∙ c.in-Ok-value.is)

pub returns-in-Ok-value-clause-only : goal.returns-in-Ok-value-clause-only
returns-in-Ok-value-clause-only c written i same =
    let t = read_is_only c.args.kind c.args.text.now (value_text c.in-Ok.literal) c.in-Ok.field-0-1.now c.in-Ok.ensures written i same in
    answers_value (meaning written) c.in-Ok-value.value (ap meaning (sym t) ∙ sym c.value.ensures ∙ c.in-Ok-value.is)

pub returns-in-Err-value-clause-only : goal.returns-in-Err-value-clause-only
returns-in-Err-value-clause-only c written i same =
    let t = read_is_only c.args.kind c.args.text.now (value_text c.in-Ok.literal) c.in-Ok.field-0-1.now c.in-Ok.ensures written i same in
    answers_range (meaning written) c.in-Err-value.at (ap meaning (sym t) ∙ sym c.value.ensures ∙ c.in-Err-value.is)

pub returns-in-Err-value-clause-range : goal.returns-in-Err-value-clause-range
returns-in-Err-value-clause-range c at e =
    let here : c.in-Err-value.at ≡ at = cc in
    let t = read_is_text c.args.kind c.args.text.now (value_text c.in-Ok.literal) c.in-Ok.field-0-1.now c.in-Ok.ensures in
    (value_text c.in-Ok.literal, t.0, t.1, sym c.value.ensures ∙ c.in-Err-value.is ∙ ap Err here)

pub returns-in-Err-clause-only : goal.returns-in-Err-clause-only
returns-in-Err-clause-only c written i same = absurd (refused_is_no_text c.args.kind c.args.text.now c.in-Err.left.now c.in-Err.ensures written i same)

pub returns-in-Err-clause-form : goal.returns-in-Err-clause-form
returns-in-Err-clause-form c at e =
    let place : length c.args.text.now - length c.in-Err.left.now ≡ at = cc in
    refused_stops_at c.args.kind c.args.text.now c.in-Err.left.now c.in-Err.ensures at (sym place)
