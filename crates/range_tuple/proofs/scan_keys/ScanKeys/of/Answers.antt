use Rattle.std.proofs.Common.{◌≡◌, ◌==◌, false, List, subst}
use Rattle.std.specs.List.{list_any}
use Rattle.block_model.specs.declared.row.Cond.{Cond}
use Rattle.range_tuple.proofs.scan_keys.ScanKeys.of.Goals as goal

pub shared_ref_as_front-keys_of : goal.shared_ref_as_front-keys_of
shared_ref_as_front-keys_of c = c.self.invariant.few

pub returns-in_default-clause-not_asked : goal.returns-in_default-clause-not_asked
returns-in_default-clause-not_asked c = λ none.
    subst (λ (conds : List Cond). list_any (λ cond. cond.column == c.args.place) conds ≡ false) c.self.view_is (c.self.invariant.all c.args.place (c.keys_of.ensures.none c.in_default.is))
