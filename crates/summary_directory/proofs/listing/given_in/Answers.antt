use Rattle.std.proofs.Common.{◌≡◌, ℕ, List, map, slice_index, ap, ◌∙◌}
use Rattle.block_model.specs.declared.row.Query.{Query}
use Rattle.summary_directory.specs.declared.kept.Kept.{Kept}
use Rattle.summary_directory.specs.Rule.{kept}
use Rattle.summary_directory.specs.ShelfFold.{shown_of}
use Rattle.summary_directory.specs.Verdicts.{verdict_by}
use Rattle.summary_directory.proofs.Judged.{given_by, listed}
use Rattle.summary_directory.proofs.listing.given_in.Goals as goal

pub returns-clause-given : goal.returns-clause-given
returns-clause-given c = λ layout same.
    let query : Query = c.args.query.now in
    let k : Kept = kept c.args.shelf.now in
    let judges = c.args.judges.now in
    let conds : c.as_slice-conds.result.now ≡ query.conds = c.as_slice-conds.ensures.conds in
    let by_shelf : map (verdict_by c.as_slice.result.now c.as_slice-conds.result.now) judges ≡ map (verdict_by k.tuples query.conds) judges =
    λ j. map (verdict_by (c.as_slice.ensures.value j) (conds j)) judges in
    let many : c.extent_of-extent.result ≡ slice_index k.extents query.table =
    c.extent_of-extent.ensures ∙ ap (λ (l : List ℕ). slice_index l query.table) c.as_slice-2.ensures.value in
    given_by layout (shown_of k) query judges c.in_ok-blocks.blocks same
    (listed k query judges c.as_slice-3.result.now c.extent_of-extent.result c.in_ok-blocks.blocks (c.as_slice-3.ensures.value ∙ c.in_ok-verdicts.ensures.verdicts ∙ by_shelf) many c.in_ok-blocks.ensures)
