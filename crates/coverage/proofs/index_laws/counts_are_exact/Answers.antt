use Rattle.std.proofs.Common.{subst}
use Rattle.coverage.specs.Counts.{HasGone}
use Rattle.coverage.specs.IsCovered.{index_view}
use Rattle.coverage.specs.Knowing.{Knows}
use Rattle.coverage.proofs.Counted.{count_once, summarise_one_count, desummarise_one_count}
use Rattle.coverage.proofs.CountsExact.{summarise_exact, desummarise_exact, swept_exact}
use Rattle.coverage.proofs.FinalsElsewhere.{summarise_elsewhere}
use Rattle.coverage.proofs.index_laws.counts_are_exact.Goals as goal

pub returns : goal.returns
returns c = record {
  rows = λ before after block m n one two. count_once (λ k. HasGone (before block k) (after block k)) m n one two;
  tuples = λ before after page m n one two.
      count_once (λ k. HasGone (before (record { block = page; slot = k })) (after (record { block = page; slot = k }))) m n one two;
  summarise = λ s range w v u phase e f one two. summarise_one_count s range w v u phase e f one two;
  summarised = λ w v s range old new step before after was now. summarise_exact s range w v before after old new step was now;
  elsewhere = λ w v s range m old new step kept was other final.
      summarise_elsewhere s (index_view w) (index_view v) m range old new (λ n x names. kept.sound.entries_name_tuples n x names)
      (subst (Knows (index_view w) s) was (kept.knows s)).1 other step final;
  cleared = λ w v s range old new step. desummarise_exact s range w v old new step;
  swept = λ s page w v sweeps x on. swept_exact s page w v sweeps x on;
  desummarise = λ s range w v u phase e f one two. desummarise_one_count s range w v u phase e f one two;
}
