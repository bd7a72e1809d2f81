use Rattle.std.proofs.Common.{get_or, set, refl, ap}
use Rattle.index_layout.specs.IndexReading.{slots_of, is_regular}
use Rattle.index_layout.proofs.PageWrites.{evacuated}
use Rattle.index_layout.proofs.writers.evacuate.Goals as goal

pub returns : goal.returns
returns c =
    let page = c.args.page.now in
    record { evacuated = evacuated (get_or page 0 0) (slots_of page) page (set page 0 6) (c.page_known.ensures.regular (ap is_regular c.requires.kind)) refl }
