use Rattle.std.proofs.Common.{None, refl}
use Rattle.index_steps.specs.IndexTuples.{index_at}
use Rattle.store_layout.specs.declared.statement.Statement.TheVariants as statements
use Rattle.store_layout.proofs.FirstBroken.{keeps_limits}
use Rattle.script_laws.proofs.Fits.{in_below}
use Rattle.script_laws.proofs.Reaching.{reached_is_orderly}
use Rattle.script_laws.proofs.Summing.{summarize_counts}
use Rattle.script_laws.proofs.maintenance_texts.a_summarize_leaves_no_range_out.Goals as goal

pub returns : goal.returns
returns c = λ layout p q n index count within reached has rests finishes.
    let limits = keeps_limits layout.schema layout.sizes within in
    let o = reached_is_orderly c.table_stays_covered.ensures.kept layout limits (record { new = c.table_stays_covered.ensures.new; opened = c.table_stays_covered.ensures.opened }) p reached in
    let fits = o.fits n _ has in
    let below = in_below layout p n (index_at p.layout index).table o.same limits o.asked (statements.Summarize index None) fits refl in
    summarize_counts p q n index count has rests (o.kept (index_at p.layout index).table below) finishes
