use Rattle.std.proofs.Common.{ℕ, List, Err, sym, ap, subst, ◌∙◌}
use Rattle.block_model.specs.declared.schema.Schema.{Schema}
use Rattle.block_model.specs.declared.schema.Sizes.{Sizes}
use Rattle.store_format.specs.ControlReading.{Gives, fields_at}
use Rattle.store_format.proofs.Layouts.{says_fields, says_none}
use Rattle.store_format.proofs.page.layout_of.Goals as goal

pub returns-in-Ok : goal.returns-in-Ok
returns-in-Ok c = λ d has.
    says_fields d c.args.bytes.now c.read_fields.new.unread c.in-Ok.sizes c.in-Ok.schema c.lawful.result has (ap fields_at (sym c.new-unread.ensures) ∙ c.in-Ok.ensures) c.lawful.ensures

pub returns-in-Err : goal.returns-in-Err
returns-in-Err c = λ d has.
    let given = subst (λ (l : List ℕ). Gives {X = Sizes × Schema} (Err c.in-Err.fault) c.read_fields.new.unread (fields_at l)) c.new-unread.ensures c.in-Err.ensures in
    says_none d c.args.bytes.now c.read_fields.new.unread c.in-Err.fault has given
