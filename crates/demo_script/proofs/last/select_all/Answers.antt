use Rattle.std.proofs.Common.{ℕ, List, [], ◌∷◌, ◌∙◌, codes, refl, subst}
use Rattle.std.proofs.lemmas.Result.{err_from_is_err_and}
use Rattle.demo_script.specs.DemoLines.{middle_conditions, select_line}
use Rattle.demo_script.specs.Saying.{Hears}
use Rattle.demo_script.proofs.LastParts.{found_all, none_found}
use Rattle.demo_script.proofs.LineParts.{cut_lines, more_lines, short_lines}
use Rattle.demo_script.proofs.last.select_all.Goals as goal

abbrev second : List ℕ
second = select_line (codes "v = 7")

abbrev third : List ℕ
third = select_line (codes "r @> [500,501)")

abbrev fourth : List ℕ
fourth = select_line (codes "a = 10.0.0.7")

pub returns-in_err-make_select-clause-cut : goal.returns-in_err-make_select-clause-cut
returns-in_err-make_select-clause-cut g c =
    let p = err_from_is_err_and c.from_residual.result c.from_residual.ensures.1 in
    let s = c.args.answerer.now in
    rw p.1 (short_lines g.A.Answerer.stops (none_found g.A.Answerer.answers c.args.rows s) s p.0 p.2 refl)

pub returns-in_err-first-clause-cut : goal.returns-in_err-first-clause-cut
returns-in_err-first-clause-cut g c =
    let p = err_from_is_err_and c.from_residual-in_err-first.result c.from_residual-in_err-first.ensures.1 in
    let s = c.args.answerer.now in
    let t = c.say.new.answerer in
    let fault = c.in_err-first.field-0.0 in
    let is = c.as_bytes.ensures.value ∙ c.in_ok-make_select.ensures in
    rw (p.1, p.2)
    (cut_lines g.A.Answerer.stops (none_found g.A.Answerer.answers c.args.rows s) t fault (select_line (middle_conditions c.args.rows)) (second ∷ third ∷ fourth ∷ []) refl
    (subst (λ (l : List ℕ). g.A.Answerer.stops s l fault t) is c.in_err-first.ensures.stops))

pub returns-in_err-second-clause-cut : goal.returns-in_err-second-clause-cut
returns-in_err-second-clause-cut g c =
    let p = err_from_is_err_and c.from_residual-in_err-second.result c.from_residual-in_err-second.ensures.1 in
    let s = c.args.answerer.now in
    let t = c.say.new.answerer in
    let first = c.in_ok-first.first in
    let is = c.as_bytes.ensures.value ∙ c.in_ok-make_select.ensures in
    let a = subst (λ (l : List ℕ). Hears g.A.Answerer.answers s l first t) is c.in_ok-first.ensures.heard in
    let one = more_lines (none_found g.A.Answerer.answers c.args.rows s) _ (second ∷ third ∷ fourth ∷ []) refl first a in
    rw (p.1, p.2) (cut_lines g.A.Answerer.stops one c.say-2.new.answerer c.in_err-second.field-0.0 second (third ∷ fourth ∷ []) refl c.in_err-second.ensures.stops)

pub returns-in_err-third-clause-cut : goal.returns-in_err-third-clause-cut
returns-in_err-third-clause-cut g c =
    let p = err_from_is_err_and c.from_residual-in_err-third.result c.from_residual-in_err-third.ensures.1 in
    let s = c.args.answerer.now in
    let t = c.say.new.answerer in
    let first = c.in_ok-first.first in
    let is = c.as_bytes.ensures.value ∙ c.in_ok-make_select.ensures in
    let a = subst (λ (l : List ℕ). Hears g.A.Answerer.answers s l first t) is c.in_ok-first.ensures.heard in
    let one = more_lines (none_found g.A.Answerer.answers c.args.rows s) _ (second ∷ third ∷ fourth ∷ []) refl first a in
    let two = more_lines one second (third ∷ fourth ∷ []) refl c.in_ok-second.second c.in_ok-second.ensures.heard in
    rw (p.1, p.2) (cut_lines g.A.Answerer.stops two c.say-3.new.answerer c.in_err-third.field-0.0 third (fourth ∷ []) refl c.in_err-third.ensures.stops)

pub returns-in_err-fourth-clause-cut : goal.returns-in_err-fourth-clause-cut
returns-in_err-fourth-clause-cut g c =
    let p = err_from_is_err_and c.from_residual-in_err-fourth.result c.from_residual-in_err-fourth.ensures.1 in
    let s = c.args.answerer.now in
    let t = c.say.new.answerer in
    let first = c.in_ok-first.first in
    let is = c.as_bytes.ensures.value ∙ c.in_ok-make_select.ensures in
    let a = subst (λ (l : List ℕ). Hears g.A.Answerer.answers s l first t) is c.in_ok-first.ensures.heard in
    let one = more_lines (none_found g.A.Answerer.answers c.args.rows s) _ (second ∷ third ∷ fourth ∷ []) refl first a in
    let two = more_lines one second (third ∷ fourth ∷ []) refl c.in_ok-second.second c.in_ok-second.ensures.heard in
    let three = more_lines two third (fourth ∷ []) refl c.in_ok-third.third c.in_ok-third.ensures.heard in
    rw (p.1, p.2) (cut_lines g.A.Answerer.stops three c.say-4.new.answerer c.in_err-fourth.field-0.0 fourth [] refl c.in_err-fourth.ensures.stops)

pub returns-clause-said : goal.returns-clause-said
returns-clause-said g c =
    let s = c.args.answerer.now in
    let t = c.say.new.answerer in
    let first = c.in_ok-first.first in
    let is = c.as_bytes.ensures.value ∙ c.in_ok-make_select.ensures in
    let a = subst (λ (l : List ℕ). Hears g.A.Answerer.answers s l first t) is c.in_ok-first.ensures.heard in
    found_all g.A.Answerer.answers c.args.rows s t c.say-2.new.answerer c.say-3.new.answerer c.say-4.new.answerer first c.in_ok-second.second c.in_ok-third.third c.in_ok-fourth.fourth a c.in_ok-second.ensures.heard
    c.in_ok-third.ensures.heard c.in_ok-fourth.ensures.heard
