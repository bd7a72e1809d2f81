use Rattle.std.proofs.Common.{ℕ, List, ◌∙◌, refl, subst}
use Rattle.std.proofs.lemmas.Result.{err_from_is_err_and}
use Rattle.demo_script.specs.Saying.{Hears}
use Rattle.demo_script.proofs.RowParts.{cut_finish, cut_insert, cut_keeper, said_blocked, said_insert, short_finish, short_insert}
use Rattle.demo_script.proofs.row.put_row.Goals as goal

pub returns-in_err-make_insert-clause-cut : goal.returns-in_err-make_insert-clause-cut
returns-in_err-make_insert-clause-cut g c =
    let p = err_from_is_err_and c.from_residual.result c.from_residual.ensures.1 in
    rw p.1 (short_insert g.A.Answerer.answers g.A.Answerer.stops c.args.seed c.args.row c.args.busy c.args.answerer.now c.args.answerer.now p.0 p.2 refl)

pub returns-in_err-first-clause-cut : goal.returns-in_err-first-clause-cut
returns-in_err-first-clause-cut g c =
    let p = err_from_is_err_and c.from_residual-in_err-first.result c.from_residual-in_err-first.ensures.1 in
    let s = c.args.answerer.now in
    let t = c.say.new.answerer in
    let fault = c.in_err-first.field-0.0 in
    let is = c.as_bytes.ensures.value ∙ c.in_ok-make_insert.ensures in
    rw (p.1, p.2)
    (cut_insert g.A.Answerer.answers g.A.Answerer.stops c.args.seed c.args.row c.args.busy s t fault (subst (λ (l : List ℕ). g.A.Answerer.stops s l fault t) is c.in_err-first.ensures.stops))

pub returns-then-not-first-clause-said : goal.returns-then-not-first-clause-said
returns-then-not-first-clause-said g c =
    let s = c.args.answerer.now in
    let t = c.say.new.answerer in
    let first = c.in_ok-first.first in
    let is = c.as_bytes.ensures.value ∙ c.in_ok-make_insert.ensures in
    said_insert g.A.Answerer.answers g.A.Answerer.stops c.args.seed c.args.row c.args.busy s t first c.if-not-first.true (subst (λ (l : List ℕ). Hears g.A.Answerer.answers s l first t) is c.in_ok-first.ensures.heard)

pub returns-in_err-kept-clause-cut : goal.returns-in_err-kept-clause-cut
returns-in_err-kept-clause-cut g c =
    let p = err_from_is_err_and c.from_residual-in_err-kept.result c.from_residual-in_err-kept.ensures.1 in
    let s = c.args.answerer.now in
    let t = c.say.new.answerer in
    let first = c.in_ok-first.first in
    let is = c.as_bytes.ensures.value ∙ c.in_ok-make_insert.ensures in
    let heard = subst (λ (l : List ℕ). Hears g.A.Answerer.answers s l first t) is c.in_ok-first.ensures.heard in
    rw (p.1, p.2)
    (cut_keeper g.A.Answerer.answers g.A.Answerer.stops c.args.seed c.args.row c.args.busy s t first c.if-not-first.false heard c.say-2.new.answerer c.in_err-kept.field-0.0 c.in_err-kept.ensures.stops)

pub returns-in_err-make_finish-clause-cut : goal.returns-in_err-make_finish-clause-cut
returns-in_err-make_finish-clause-cut g c =
    let p = err_from_is_err_and c.from_residual-in_err-make_finish.result c.from_residual-in_err-make_finish.ensures.1 in
    let s = c.args.answerer.now in
    let t = c.say.new.answerer in
    let u = c.say-2.new.answerer in
    let first = c.in_ok-first.first in
    let is = c.as_bytes.ensures.value ∙ c.in_ok-make_insert.ensures in
    let heard = subst (λ (l : List ℕ). Hears g.A.Answerer.answers s l first t) is c.in_ok-first.ensures.heard in
    rw p.1
    (short_finish g.A.Answerer.answers g.A.Answerer.stops c.args.seed c.args.row c.args.busy s t first c.if-not-first.false heard u c.in_ok-kept.kept c.in_ok-kept.ensures.heard u p.0 p.2 refl)

pub returns-in_err-own-clause-cut : goal.returns-in_err-own-clause-cut
returns-in_err-own-clause-cut g c =
    let p = err_from_is_err_and c.from_residual-in_err-own.result c.from_residual-in_err-own.ensures.1 in
    let s = c.args.answerer.now in
    let t = c.say.new.answerer in
    let u = c.say-2.new.answerer in
    let v = c.say-3.new.answerer in
    let first = c.in_ok-first.first in
    let fault = c.in_err-own.field-0.0 in
    let is = c.as_bytes.ensures.value ∙ c.in_ok-make_insert.ensures in
    let own_is = c.as_bytes-2.ensures.value ∙ c.in_ok-make_finish.ensures in
    let heard = subst (λ (l : List ℕ). Hears g.A.Answerer.answers s l first t) is c.in_ok-first.ensures.heard in
    rw (p.1, p.2)
    (cut_finish g.A.Answerer.answers g.A.Answerer.stops c.args.seed c.args.row c.args.busy s t first c.if-not-first.false heard u c.in_ok-kept.kept c.in_ok-kept.ensures.heard v fault
    (subst (λ (l : List ℕ). g.A.Answerer.stops u l fault v) own_is c.in_err-own.ensures.stops))

pub returns-clause-said : goal.returns-clause-said
returns-clause-said g c =
    let s = c.args.answerer.now in
    let t = c.say.new.answerer in
    let u = c.say-2.new.answerer in
    let v = c.say-3.new.answerer in
    let first = c.in_ok-first.first in
    let own = c.in_ok-own.own in
    let is = c.as_bytes.ensures.value ∙ c.in_ok-make_insert.ensures in
    let own_is = c.as_bytes-2.ensures.value ∙ c.in_ok-make_finish.ensures in
    let heard = subst (λ (l : List ℕ). Hears g.A.Answerer.answers s l first t) is c.in_ok-first.ensures.heard in
    said_blocked g.A.Answerer.answers g.A.Answerer.stops c.args.seed c.args.row c.args.busy s t first c.if-not-first.false heard u c.in_ok-kept.kept c.in_ok-kept.ensures.heard v own
    (subst (λ (l : List ℕ). Hears g.A.Answerer.answers u l own v) own_is c.in_ok-own.ensures.heard)
