use Rattle.std.proofs.Common.{◌+◌, inl, inr, sym, arith, eqb-true}
use Rattle.std.proofs.lemmas.Bool.{false≢true}
use borrow.Author.Tests.{eqb-false}
use Rattle.recovery.proofs.KindsStand.{at_left, at_map, at_meta, at_tuples, left_is, no_other, tuples_are}
use Rattle.recovery.proofs.order.may_stand.Goals as goal

pub returns-then-block-eq-META_BLOCK-clause-may : goal.returns-then-block-eq-META_BLOCK-clause-may
returns-then-block-eq-META_BLOCK-clause-may c = λ e. at_meta c.args.maps c.args.block c.args.kind c.if-block-eq-META_BLOCK.true (eqb-true c.args.kind 3 e)

pub returns-then-block-eq-META_BLOCK-clause-other : goal.returns-then-block-eq-META_BLOCK-clause-other
returns-then-block-eq-META_BLOCK-clause-other c = λ e stand. eqb-false c.args.kind 3 e (stand.meta c.if-block-eq-META_BLOCK.true)

pub returns-then-block-maps-clause-may : goal.returns-then-block-maps-clause-may
returns-then-block-maps-clause-may c = λ e. at_map c.args.maps c.args.block c.args.kind (omega (arith, c.if-block-eq-META_BLOCK.false)) c.if-block-maps.true (eqb-true c.args.kind 4 e)

pub returns-then-block-maps-clause-other : goal.returns-then-block-maps-clause-other
returns-then-block-maps-clause-other c = λ e stand. eqb-false c.args.kind 4 e (stand.map (omega (arith, c.if-block-eq-META_BLOCK.false)) c.if-block-maps.true)

pub returns-then-kind-eq-MAP-clause-may : goal.returns-then-kind-eq-MAP-clause-may
returns-then-kind-eq-MAP-clause-may c = λ e. at_left c.args.maps c.args.block c.args.kind (omega (arith, c.if-block-maps.false)) c.if-kind-eq-MAP.true (eqb-true c.args.block (c.args.maps + 1) e)

pub returns-then-kind-eq-MAP-clause-other : goal.returns-then-kind-eq-MAP-clause-other
returns-then-kind-eq-MAP-clause-other c = λ e stand. eqb-false c.args.block (c.args.maps + 1) e (left_is c.args.maps c.args.block c.args.kind (omega (arith, c.if-block-maps.false)) c.if-kind-eq-MAP.true stand)

pub returns-then-kind-eq-REGULAR-clause-may : goal.returns-then-kind-eq-REGULAR-clause-may
returns-then-kind-eq-REGULAR-clause-may c = λ e. at_tuples c.args.maps c.args.block c.args.kind (omega (arith, c.if-block-maps.false)) (inl c.if-kind-eq-REGULAR.true)

pub returns-then-kind-eq-REGULAR-clause-other : goal.returns-then-kind-eq-REGULAR-clause-other
returns-then-kind-eq-REGULAR-clause-other c = λ e. absurd (false≢true (sym e))

pub returns-then-kind-eq-EVACUATED-clause-may : goal.returns-then-kind-eq-EVACUATED-clause-may
returns-then-kind-eq-EVACUATED-clause-may c = λ e. at_tuples c.args.maps c.args.block c.args.kind (omega (arith, c.if-block-maps.false)) (inr (inl c.if-kind-eq-EVACUATED.true))

pub returns-then-kind-eq-EVACUATED-clause-other : goal.returns-then-kind-eq-EVACUATED-clause-other
returns-then-kind-eq-EVACUATED-clause-other c = λ e. absurd (false≢true (sym e))

pub returns-clause-may : goal.returns-clause-may
returns-clause-may c = λ e. at_tuples c.args.maps c.args.block c.args.kind (omega (arith, c.if-block-maps.false)) (inr (inr (eqb-true c.args.kind 0 e)))

pub returns-clause-other : goal.returns-clause-other
returns-clause-other c = λ e stand.
    no_other c.args.kind c.if-kind-eq-REGULAR.false c.if-kind-eq-EVACUATED.false (eqb-false c.args.kind 0 e)
    (tuples_are c.args.maps c.args.block c.args.kind (omega (arith, c.if-block-maps.false)) c.if-kind-eq-MAP.false stand)
