use Rattle.std.proofs.Common.{◌∙◌, get_or, arith}
use Rattle.index_layout.specs.IndexReading.{slots_of}
use Rattle.index_layout.proofs.Reading.{few_slots, offset_read}
use Rattle.index_layout.proofs.readers.offset_at.Goals as goal

pub get_u16-requires : goal.get_u16-requires
get_u16-requires c =
    let page = c.args.page.now in
    record { within = omega (arith, few_slots (get_or page 0 0) (slots_of page) page c.requires.page, c.from.ensures, c.requires.slot, c.requires.whole) }

pub returns-clause-free : goal.returns-clause-free
returns-clause-free c =
    let page = c.args.page.now in
    (offset_read (get_or page 0 0) (slots_of page) page c.args.slot c.from.result c.from-2.result c.requires.page c.requires.slot c.from.ensures (c.from-2.ensures ∙ c.get_u16.ensures.got)).free

pub returns-clause-used : goal.returns-clause-used
returns-clause-used c =
    let page = c.args.page.now in
    (offset_read (get_or page 0 0) (slots_of page) page c.args.slot c.from.result c.from-2.result c.requires.page c.requires.slot c.from.ensures (c.from-2.ensures ∙ c.get_u16.ensures.got)).used

pub returns-clause-begins : goal.returns-clause-begins
returns-clause-begins c =
    let page = c.args.page.now in
    (offset_read (get_or page 0 0) (slots_of page) page c.args.slot c.from.result c.from-2.result c.requires.page c.requires.slot c.from.ensures (c.from-2.ensures ∙ c.get_u16.ensures.got)).begins
