use Rattle.std.proofs.Common.{fold, ap, ◌∙◌}
use Rattle.summary_directory.specs.Rule.{kept}
use Rattle.summary_directory.specs.ShelfFold.{step}
use Rattle.summary_directory.proofs.Steps.{publishes, match_both, counted}
use Rattle.summary_directory.proofs.directory.publish_batch.Goals as goal

pub publish_as-requires : goal.publish_as-requires
publish_as-requires g c next is =
    let now = c.args.writer.desk.shown.value in
    publishes _ _ now next g.B.Batch.posts c.requires.counted (is ∙ ap (fold step (kept now)) c.requires.batch)

pub returns : goal.returns
returns g c =
    let next = c.publish_as.result.0.desk.shown.value in record {
      shown = match_both c.publish_as.result.1 c.publish_as.ensures.values c.publish_as.ensures.rule
          (λ v r. (r.0, counted next _ r.1, v.1))
          (λ v r. (r, v.0, v.1));
    }
