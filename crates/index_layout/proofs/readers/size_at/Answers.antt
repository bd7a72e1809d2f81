use Rattle.std.proofs.Common.{◌≡◌, ℕ, ◌+◌, ◌*◌, ◌∙◌, length, get_or, ap, sym, arith}
use Rattle.std.specs.Prelude.{None}
use Rattle.byte_fields.specs.Fields.{field_at, number_of}
use Rattle.index_layout.specs.IndexPages.{tuple_bytes}
use Rattle.index_layout.specs.IndexReading.{slots_of}
use Rattle.index_layout.proofs.SlotsRead.{slot_at}
use Rattle.index_layout.proofs.Reading.{few_slots, free_at}
use Rattle.index_layout.proofs.readers.size_at.Goals as goal

pub get_u16-requires : goal.get_u16-requires
get_u16-requires c =
    let page = c.args.page.now in
    record { within = omega (arith, few_slots (get_or page 0 0) (slots_of page) page c.requires.page, c.from.ensures, c.requires.slot, c.requires.whole) }

pub returns : goal.returns
returns c =
    let page = c.args.page.now in
    let slots = slots_of page in
    let slot = c.args.slot in
    let s = slot_at (get_or page 0 0) slots page slot c.requires.page c.requires.slot in
    let read : c.from-2.result ≡ number_of (field_at page (32 + slot * 4 + 2) 2) = c.from-2.ensures ∙ c.get_u16.ensures.got ∙ ap (λ (k : ℕ). number_of (field_at page (32 + k * 4 + 2) 2)) c.from.ensures in
    let size : c.from-2.result ≡ length (tuple_bytes (get_or slots slot None)) = read ∙ s.size in
    record {
      read = read;
      size = size;
      free = λ e. free_at (get_or page 0 0) slots page slot c.requires.page (sym size ∙ e);
      room = omega (arith, s.room, size);
      within = s.within;
    }
