use Rattle.std.proofs.Common.{get_or, set, refl, ap}
use Rattle.std.proofs.lemmas.List.{nil_from_length}
use Rattle.index_layout.specs.IndexReading.{slots_of, is_regular}
use Rattle.index_layout.proofs.PageWrites.{turned}
use Rattle.index_layout.proofs.writers.turn_to_map.Goals as goal

pub returns : goal.returns
returns c =
    let page = c.args.page.now in
    record { map = turned (get_or page 0 0) 8160 1020 (slots_of page) page (set page 0 4) refl refl (c.page_known.ensures.regular (ap is_regular c.requires.kind)).has (nil_from_length (slots_of page) c.requires.empty) refl }
