use Rattle.std.proofs.Common.{drop}
use Rattle.summary_directory.proofs.directory.publish_all.Given as goal

abbrev pub ghosts-publish_batch : goal.ghosts-publish_batch
ghosts-publish_batch g a = record { posts = drop a.writer.behind a.writer.log.items }
