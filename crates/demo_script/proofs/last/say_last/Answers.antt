use Rattle.std.proofs.Common.{ℕ, List, [], ◌∷◌, ◌++◌, ◌∙◌, codes, refl, subst}
use Rattle.std.proofs.lemmas.Result.{err_from_is_err_and}
use Rattle.demo_script.specs.Conversation.{last_lines, selects}
use Rattle.demo_script.specs.Saying.{Hears}
use Rattle.demo_script.proofs.LastParts.{ends, explain_line, found_said, looked, prepares}
use Rattle.demo_script.proofs.LineParts.{cut_lines, cut_parts, more_lines, more_parts, no_lines, short_lines}
use Rattle.demo_script.proofs.last.say_last.Goals as goal

pub returns-in_err-say_all-clause-cut : goal.returns-in_err-say_all-clause-cut
returns-in_err-say_all-clause-cut g c =
    let p = err_from_is_err_and c.from_residual.result c.from_residual.ensures.1 in
    let rows = c.args.rows in
    rw (p.1, p.2) (cut_parts (no_lines g.A.Answerer.answers (last_lines rows) c.args.answerer.now) prepares (selects rows ++ ends rows) refl c.in_err-say_all.ensures.cut)

pub returns-in_err-found-clause-cut : goal.returns-in_err-found-clause-cut
returns-in_err-found-clause-cut g c =
    let p = err_from_is_err_and c.from_residual-in_err-found.result c.from_residual-in_err-found.ensures.1 in
    let rows = c.args.rows in
    let prepared = more_parts (no_lines g.A.Answerer.answers (last_lines rows) c.args.answerer.now) prepares (selects rows ++ ends rows) refl c.in_ok-say_all.ensures.said in
    rw (p.1, p.2) (cut_parts prepared (selects rows) (ends rows) refl c.in_err-found.ensures.cut)

pub returns-in_err-make_explain-clause-cut : goal.returns-in_err-make_explain-clause-cut
returns-in_err-make_explain-clause-cut g c =
    let p = err_from_is_err_and c.from_residual-in_err-make_explain.result c.from_residual-in_err-make_explain.ensures.1 in
    let rows = c.args.rows in
    let u = c.select_all.new.answerer in
    let prepared = more_parts (no_lines g.A.Answerer.answers (last_lines rows) c.args.answerer.now) prepares (selects rows ++ ends rows) refl c.in_ok-say_all.ensures.said in
    let found = more_parts prepared (selects rows) (ends rows) refl (found_said c.in_ok-found.ensures.said) in
    rw p.1 (short_lines g.A.Answerer.stops found u p.0 p.2 refl)

pub returns-in_err-explained-clause-cut : goal.returns-in_err-explained-clause-cut
returns-in_err-explained-clause-cut g c =
    let p = err_from_is_err_and c.from_residual-in_err-explained.result c.from_residual-in_err-explained.ensures.1 in
    let rows = c.args.rows in
    let u = c.select_all.new.answerer in
    let v = c.say.new.answerer in
    let fault = c.in_err-explained.field-0.0 in
    let is = c.as_bytes.ensures.value ∙ c.in_ok-make_explain.ensures in
    let prepared = more_parts (no_lines g.A.Answerer.answers (last_lines rows) c.args.answerer.now) prepares (selects rows ++ ends rows) refl c.in_ok-say_all.ensures.said in
    let found = more_parts prepared (selects rows) (ends rows) refl (found_said c.in_ok-found.ensures.said) in
    rw (p.1, p.2)
    (cut_lines g.A.Answerer.stops found v fault (explain_line rows) (codes "d0 commit" ∷ []) refl (subst (λ (l : List ℕ). g.A.Answerer.stops u l fault v) is c.in_err-explained.ensures.stops))

pub returns-in_err-say-clause-cut : goal.returns-in_err-say-clause-cut
returns-in_err-say-clause-cut g c =
    let p = err_from_is_err_and c.from_residual-in_err-say.result c.from_residual-in_err-say.ensures.1 in
    let rows = c.args.rows in
    let u = c.select_all.new.answerer in
    let v = c.say.new.answerer in
    let explained = c.in_ok-explained.explained in
    let is = c.as_bytes.ensures.value ∙ c.in_ok-make_explain.ensures in
    let heard = subst (λ (l : List ℕ). Hears g.A.Answerer.answers u l explained v) is c.in_ok-explained.ensures.heard in
    let prepared = more_parts (no_lines g.A.Answerer.answers (last_lines rows) c.args.answerer.now) prepares (selects rows ++ ends rows) refl c.in_ok-say_all.ensures.said in
    let found = more_parts prepared (selects rows) (ends rows) refl (found_said c.in_ok-found.ensures.said) in
    let far = more_lines found (explain_line rows) (codes "d0 commit" ∷ []) refl explained heard in
    rw (p.1, p.2) (cut_lines g.A.Answerer.stops far c.say-2.new.answerer c.in_err-say.field-0.0 (codes "d0 commit") [] refl c.in_err-say.ensures.stops)

pub returns-clause-said : goal.returns-clause-said
returns-clause-said g c =
    let u = c.select_all.new.answerer in
    let v = c.say.new.answerer in
    let explained = c.in_ok-explained.explained in
    let is = c.as_bytes.ensures.value ∙ c.in_ok-make_explain.ensures in
    let heard = subst (λ (l : List ℕ). Hears g.A.Answerer.answers u l explained v) is c.in_ok-explained.ensures.heard in
    looked c.in_ok-say_all.ensures.said c.in_ok-found.ensures.said v c.say-2.new.answerer explained c.in_ok-say.field-0 heard c.in_ok-say.ensures.heard
