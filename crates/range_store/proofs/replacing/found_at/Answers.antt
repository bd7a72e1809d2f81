use Rattle.std.proofs.Common.{ℕ, ◌+◌, ◌*◌, ◌<◌, ◌≤◌, ap, length, sym, ◌∙◌, arith}
use Rattle.byte_fields.specs.Fields.{field_at, number_of}
use Rattle.index_contents.specs.IndexReading.{slots_of}
use Rattle.range_store.specs.Tuples.{size_of}
use Rattle.range_store.proofs.Found.{directory_within, has_tuples, no_place, no_slot, place_there, shown_there}
use Rattle.range_store.proofs.replacing.found_at.Goals as goal

pub get_u16-requires : goal.get_u16-requires
get_u16-requires c =
    let page = c.args.page.now in
    let below : c.args.slot < length (slots_of page) = omega arith in
    let within = directory_within page c.args.slot (c.an_index_page_has_one_list.ensures.regular page c.requires.page) below in
    record { within = omega (arith, within) }

pub returns-then-slot-slots : goal.returns-then-slot-slots
returns-then-slot-slots c =
    let page = c.args.page.now in
    let past : length (slots_of page) ≤ c.args.slot = omega arith in
    let none = no_slot page c.args.slot past in
    (none, ap size_of (sym none), no_place page c.args.slot past)

pub returns : goal.returns
returns c =
    let page = c.args.page.now in
    let below : c.args.slot < length (slots_of page) = omega arith in
    let is = has_tuples page c.args.slot below in
    let begins = c.get_u16.ensures.got ∙ ap (λ (n : ℕ). number_of (field_at page (32 + n * 4) 2)) c.from.ensures in
    (shown_there page c.args.slot c.size_at.result c.get_u16.result (c.an_index_page_has_one_list.ensures.regular page c.requires.page is) below is c.size_at.ensures begins, c.size_at.ensures, place_there page c.args.slot c.get_u16.result below begins)
