use Rattle.std.proofs.Common.{◌∙◌, length, sym, ap}
use Rattle.index_layout.proofs.Reading.{count_read, slots_none}
use Rattle.index_layout.proofs.readers.slots.Goals as goal

pub returns-then-is_regular : goal.returns-then-is_regular
returns-then-is_regular c = c.get_u16.ensures.got ∙ count_read c.args.page.now (sym c.is_regular.ensures ∙ c.if-is_regular.true)

pub returns : goal.returns
returns c = sym (ap length (slots_none c.args.page.now (sym c.is_regular.ensures ∙ c.if-is_regular.false)))
