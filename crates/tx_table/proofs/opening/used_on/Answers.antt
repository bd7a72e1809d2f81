use Rattle.std.proofs.Common.{◌-◌, ◌∙◌, inl, inr, sym, ap, arith}
use Rattle.std.proofs.lemmas.Bool.{cases_eq}
use Rattle.tx_table.specs.PageEntries.{entry_on}
use Rattle.tx_table.proofs.opening.used_on.Goals as goal

pub entries-preserved : goal.entries-preserved
entries-preserved c = record {
  few = omega (arith, c.entries.invariant.few);
  behind = λ entry from below. elim (cases_eq entry (c.entries.used - 1)) [
    | inl same ↦ ap (entry_on c.args.page.now) same ∙ sym c.status_at.ensures ∙ c.if-status_at-ne-UNUSED.false
    | inr apart ↦ c.entries.invariant.behind entry (omega (arith, from, apart)) below
  ];
}
