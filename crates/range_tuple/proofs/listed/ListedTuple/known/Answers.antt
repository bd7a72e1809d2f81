use Rattle.std.proofs.Common.{◌≤◌, ◌<◌, All, length, refl, subst}
use Rattle.block_model.specs.declared.limits.TheConstants.{MAX_TUPLE}
use Rattle.range_tuple.specs.Tuples.{IsColumn, IsTuple, Tuple, tuple_room}
use Rattle.range_tuple.proofs.listed.ListedTuple.known.Goals as goal

pub returns-clause-tuple : goal.returns-clause-tuple
returns-clause-tuple c = subst IsTuple c.self.view_is (record {
  range_fits = c.self.invariant.range_fits;
  empty_flag = refl;
  columns = subst (All IsColumn) c.deref.ensures.value c.known.ensures.columns;
})

pub returns-clause-some : goal.returns-clause-some
returns-clause-some c = subst (λ (t : Tuple). 0 < length t.columns) c.self.view_is c.self.invariant.some

pub returns-clause-fits : goal.returns-clause-fits
returns-clause-fits c = subst (λ (t : Tuple). tuple_room t.columns ≤ MAX_TUPLE) c.self.view_is c.self.invariant.fits
