use Rattle.std.proofs.Common.{◌≡◌, ◌++◌, take}
use Rattle.value_text.specs.Appended.{IsLonger}
use Rattle.value_text.specs.CanonicalTexts.{values_text}
use Rattle.value_text.proofs.write.write_values.Given as goal

abbrev pub invariant-values : goal.invariant-values
invariant-values l = record {
  texts : l.out.items ≡ l.fn.out.items ++ values_text (take l.value-index l.values);
  longer : IsLonger l.fn.out.items l.out.items;
}
