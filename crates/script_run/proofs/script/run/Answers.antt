use Rattle.std.proofs.Common.{[], Ok, subst, ap, ◌∙◌, arith}
use Rattle.std.proofs.lemmas.Bool.{false≢true}
use Rattle.std.proofs.lemmas.Result.{err_from_is_err_and}
use Rattle.script_run.specs.Reading.{Next}
use Rattle.script_run.proofs.Progress.{started, served}
use Rattle.script_run.proofs.Endings.{ran_nothing, ran_done, ran_unread, ran_unserved}
use Rattle.script_run.proofs.script.run.Goals as goal

pub lines-init : goal.lines-init
lines-init g c = record {
  so_far = ([], [], [], started g.E.Engine.answers c.args.engine.now c.args.limit c.in_ok-lines.lines (g.S.Source.left c.args.source.now) (g.K.Sink.taken c.args.sink.now) c.in_ok-lines.ensures.limit c.in_ok-lines.ensures.nothing);
  read = omega arith;
  write = omega arith;
}

pub returns-in_err-lines-clause-ran : goal.returns-in_err-lines-clause-ran
returns-in_err-lines-clause-ran g c =
    let p = err_from_is_err_and c.from_residual.result c.from_residual.ensures.1 in
    rw (p.1, p.2) (ran_nothing g.E.Engine.answers g.E.Engine.stops c.args.engine.now c.args.limit (g.S.Source.left c.args.source.now) (g.K.Sink.taken c.args.sink.now))

pub lines-preserved : goal.lines-preserved
lines-preserved g c =
    let call = subst (Next _ _ _ _) (c.in_ok-line.was ∙ ap Ok c.in-Some.is) c.next.follows.holds-at-none in
    record {
      so_far = served c.lines.invariant.so_far.3 call c.in_ok-serve.ensures.serves;
      read = omega (arith, c.lines.invariant.read, c.next.ensures.later);
      write = omega (arith, c.lines.invariant.write, c.serve.ensures.later);
    }

pub returns-in_default-clause-ran : goal.returns-in_default-clause-ran
returns-in_default-clause-ran g c = ran_done c.lines.invariant.so_far.3 (subst (Next _ _ _ _) (c.in_ok-line.was ∙ ap Ok c.in_default.is) c.next.follows.holds-at-none)

pub returns-in_err-line-clause-ran : goal.returns-in_err-line-clause-ran
returns-in_err-line-clause-ran g c =
    let p = err_from_is_err_and c.from_residual-in_err-line.result c.from_residual-in_err-line.ensures.1 in
    rw (p.1, p.2)
    (ran_unread c.lines.invariant.so_far.3 c.in_err-line.field-0.0 (subst (Next _ _ _ _) c.in_err-line.was c.next.follows.holds-at-none) (λ e. false≢true (c.in_err-line.ensures.ended e)))

pub returns-in_err-serve-clause-ran : goal.returns-in_err-serve-clause-ran
returns-in_err-serve-clause-ran g c =
    let p = err_from_is_err_and c.from_residual-in_err-serve.result c.from_residual-in_err-serve.ensures.1 in
    rw (p.1, p.2)
    (ran_unserved c.lines.invariant.so_far.3 (g.K.Sink.taken c.serve.new.sink) c.in_err-serve.field-0.0 (subst (Next _ _ _ _) (c.in_ok-line.was ∙ ap Ok c.in-Some.is) c.next.follows.holds-at-none) c.in_err-serve.ensures.serves)
