use Rattle.std.proofs.Common.{subst, sym, ◌∙◌}
use Rattle.std.specs.Prelude.{◌≡◌, ◌⊎◌, Bool, false}
use Rattle.block_model.specs.declared.value.Value.{Value}
use Rattle.opclass_inclusion.specs.NetIncludes.{Includes, IsNet}
use Rattle.opclass_inclusion.proofs.NetAsking.{misses_none, null_key}
use Rattle.opclass_inclusion.proofs.net_class.NetHullOpClass.consistent.Goals as goal

pub returns-clause-misses_no_match : goal.returns-clause-misses_no_match
returns-clause-misses_no_match c = λ none v within. misses_none c.args.s.now c.args.conds.now v c.requires.comparisons (sym c.hold.ensures ∙ none) within

pub returns-clause-null_key : goal.returns-clause-null_key
returns-clause-null_key c = λ null.
    subst (λ (b : Bool). (b ≡ false) ⊎ ((v : Value) → IsNet v → Includes c.args.s.now v)) (sym c.hold.ensures) (null_key c.args.s.now c.args.conds.now null)
