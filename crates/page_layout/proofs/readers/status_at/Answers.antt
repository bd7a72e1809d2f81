use Rattle.std.proofs.Common.{ℕ, List, ◌+◌, ◌/◌, ◌%◌, ◌<◌, ◌*◌, length, get_or, drop, sym, ap, ◌∙◌, arith}
use Rattle.std.proofs.lemmas.List.{get_or-drop, length-drop}
use Rattle.page_layout.specs.PageContents.{status_in}
use Rattle.page_layout.proofs.OnPages.{status_entry}
use Rattle.page_layout.proofs.readers.status_at.Goals as goal

pub returns : goal.returns
returns c =
    let e = c.args.entry in
    let page = c.as_bytes-bytes.result.now in
    let long : e < 4 * length (drop 32 page) = omega (arith, c.requires.entry, c.as_bytes-bytes.ensures.whole, length-drop 32 page) in
    c.status_in.ensures
    ∙ (λ i. status_in (get_or page (32 + c.from.ensures i) 0) (e % 4))
    ∙ ap (λ (b : ℕ). status_in b (e % 4)) (sym (get_or-drop 32 page (e / 4) 0))
    ∙ status_entry (drop 32 page) e long
    ∙ ap (λ (l : List ℕ). get_or (Rattle.page_layout.specs.PageContents.statuses (drop 32 l)) e 0) c.as_bytes-bytes.ensures.bytes
