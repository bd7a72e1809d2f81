use Rattle.std.proofs.Common.{◌&&◌, List, sym, ap, ◌∙◌}
use Rattle.std.specs.List.{list_all}
use Rattle.std.proofs.lemmas.List.{take_all}
use Rattle.block_model.specs.declared.row.Cond.{Cond}
use Rattle.kept_tuples.specs.Wanted.{allows_on, may_have}
use Rattle.kept_tuples.specs.declared.wanted.Wanted.{Wanted}
use Rattle.kept_tuples.proofs.Wants.{allows_more, keeps_is, may_have_both}
use Rattle.kept_tuples.proofs.wanted.Wanted.of.Goals as goal

pub conds-preserved : goal.conds-preserved
conds-preserved c = λ nulls least greatest ordered.
    ap (λ (w : Wanted). may_have w nulls least greatest) c.and-wanted.ensures
    ∙ may_have_both c.conds.wanted c.on.result nulls least greatest
    ∙ (λ i. c.conds.invariant nulls least greatest ordered i && c.on.ensures nulls least greatest ordered i)
    ∙ sym (allows_more c.args.place nulls least greatest c.args.conds.now c.conds.cond-index c.cond-item.result c.conds-test.true c.cond-item.is)

pub returns : goal.returns
returns c = λ range nulls least greatest ordered.
    c.conds.invariant nulls least greatest ordered
    ∙ ap (λ (conds : List Cond). list_all (allows_on c.args.place nulls least greatest) conds) (take_all c.conds.cond-index c.args.conds.now c.conds-test.false)
    ∙ keeps_is c.args.place range nulls least greatest c.args.conds.now
