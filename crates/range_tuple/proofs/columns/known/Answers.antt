use Rattle.std.proofs.Common.{sym, subst}
use Rattle.std.proofs.lemmas.List.{take_all}
use Rattle.std.proofs.lemmas.List.Elements.{All-more, All-same}
use Rattle.range_tuple.specs.KeptColumns.{ReadsAgain}
use Rattle.range_tuple.specs.Tuples.{IsColumn}
use Rattle.range_tuple.proofs.columns.known.Goals as goal

pub columns-preserved : goal.columns-preserved
columns-preserved c = record {
  columns = All-more IsColumn c.args.columns.now c.columns.column-index c.column-item.result c.columns-test.true c.columns.invariant.columns (subst IsColumn c.column-item.is c.known.ensures.column);
  classes = All-more ReadsAgain c.args.columns.now c.columns.column-index c.column-item.result c.columns-test.true c.columns.invariant.classes (subst ReadsAgain c.column-item.is c.known.ensures.class);
}

pub returns-clause-columns : goal.returns-clause-columns
returns-clause-columns c = All-same IsColumn c.args.columns.now _ (sym (take_all c.columns.column-index c.args.columns.now c.columns-test.false)) c.columns.invariant.columns

pub returns-clause-classes : goal.returns-clause-classes
returns-clause-classes c = All-same ReadsAgain c.args.columns.now _ (sym (take_all c.columns.column-index c.args.columns.now c.columns-test.false)) c.columns.invariant.classes
