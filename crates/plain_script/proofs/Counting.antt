-- how many lines each session has
use Rattle.std.proofs.Common.{◌≡◌, ℕ, zero, suc, ◌+◌, ◌<◌, ◌≤◌, Bool, true, false, cond, eqb, List, [], ◌∷◌, ◌++◌, length, map, set, get_or, ◌⊎◌, inl, inr, refl, sym, ap, ◌∙◌, subst, arith, length-append}
use Rattle.std.proofs.lemmas.Bool.{cases_eq, eq-eqb, ne_eqb}
use Rattle.std.proofs.lemmas.List.{map-append, map-set, length-map, get_or-map, get_or-set_same, get_or-set_other}
use Rattle.std.proofs.lemmas.List.Elements.{filter-append}
use Rattle.std.proofs.lemmas.List.Sums.{length-filter, count_by-le-length}
use Rattle.std.proofs.Math.Seq.{map-set_same}
use Rattle.transcripts.specs.Transcript.{Line, lines_of}
use Rattle.plain_script.specs.KeptLines.{AreCounted, count_kept, line_kept, lines_kept, names_kept}
use Rattle.plain_script.specs.SessionLines.{one_if}
use Rattle.plain_script.specs.declared.kept.ScriptLine.{ScriptLine}
use Rattle.plain_script.specs.declared.kept.ScriptSession.{ScriptSession}

one_alone : (b : Bool) (l : Line) → length (cond b (l ∷ []) []) ≡ one_if b
one_alone true l = refl
one_alone false l = refl

-- one more line
pub lines_of_more : (n : ℕ) (lines : List Line) (l : Line) → length (lines_of n (lines ++ l ∷ [])) ≡ length (lines_of n lines) + one_if (eqb l.session n)
lines_of_more n lines l =
    ap length (filter-append (λ (line : Line). eqb line.session n) lines (l ∷ [])) ∙ length-append (lines_of n lines) (lines_of n (l ∷ []))
    ∙ ap (λ k. length (lines_of n lines) + k) (one_alone (eqb l.session n) l)

-- no session has more lines than there are
pub few_of : (n : ℕ) (lines : List Line) → length (lines_of n lines) ≤ length lines
few_of n lines = subst (λ k. k ≤ length lines) (sym (length-filter (λ (line : Line). eqb line.session n) lines)) (count_by-le-length (λ (line : Line). eqb line.session n) lines)

-- the count of a session that is there
pub count_at : (sessions : List ScriptSession) (n : ℕ) (d : ScriptSession) → n < length sessions → count_kept sessions n ≡ (get_or sessions n d).lines
count_at sessions n d within = get_or-map (λ (s : ScriptSession). s.lines) sessions n d 0 within

-- a session of which a line is kept has as many before it as are counted, fewer than all are then
pub counted_below : (sessions : List ScriptSession) (kept : List ScriptLine) (n : ℕ) (d : ScriptSession) → n < length sessions → AreCounted sessions kept
    → ((get_or sessions n d).lines ≡ length (lines_of n (lines_kept kept))) × ((get_or sessions n d).lines < length kept + 1)
counted_below sessions kept n d within counted =
    let is : (get_or sessions n d).lines ≡ length (lines_of n (lines_kept kept)) = sym (count_at sessions n d within) ∙ counted n in
    (is, omega (arith, is, few_of n (lines_kept kept), length-map kept line_kept))

-- a session counts the line that is kept of it
pub counted_more : (sessions : List ScriptSession) (kept : List ScriptLine) (x : ScriptLine) (s : ScriptSession) → x.session < length sessions → AreCounted sessions kept
    → s.lines ≡ count_kept sessions x.session + 1 → AreCounted (set sessions x.session s) (kept ++ x ∷ [])
counted_more sessions kept x s within counted more m = ap (λ counts. get_or counts m 0) (map-set (λ (y : ScriptSession). y.lines) sessions x.session s) ∙ at (cases_eq m x.session) ∙ sym shown
  where
    shown : length (lines_of m (lines_kept (kept ++ x ∷ []))) ≡ length (lines_of m (lines_kept kept)) + one_if (eqb x.session m)
    shown = ap (λ ls. length (lines_of m ls)) (map-append line_kept kept (x ∷ [])) ∙ lines_of_more m (lines_kept kept) (line_kept x)

    same : get_or (set (map (λ (y : ScriptSession). y.lines) sessions) x.session s.lines) x.session 0 ≡ length (lines_of x.session (lines_kept kept)) + one_if (eqb x.session x.session)
    same =
        let is = get_or-set_same (map (λ (y : ScriptSession). y.lines) sessions) x.session s.lines 0 (omega (arith, within, length-map sessions (λ (y : ScriptSession). y.lines))) in
        let one : one_if (eqb x.session x.session) ≡ 1 = ap (λ b. one_if b) (eq-eqb x.session x.session refl) in
        is ∙ more ∙ ap (λ k. k + 1) (counted x.session) ∙ ap (λ k. length (lines_of x.session (lines_kept kept)) + k) (sym one)

    at : (m ≡ x.session) ⊎ (m ≡ x.session → ⊥)
        → get_or (set (map (λ (y : ScriptSession). y.lines) sessions) x.session s.lines) m 0 ≡ length (lines_of m (lines_kept kept)) + one_if (eqb x.session m)
    at (inl e) =
        subst (λ k. get_or (set (map (λ (y : ScriptSession). y.lines) sessions) x.session s.lines) k 0 ≡ length (lines_of k (lines_kept kept)) + one_if (eqb x.session k)) (sym e) same
    at (inr not) =
        let none : one_if (eqb x.session m) ≡ 0 = ap (λ b. one_if b) (ne_eqb x.session m (λ e. not (sym e))) in
        let fill : length (lines_of m (lines_kept kept)) ≡ length (lines_of m (lines_kept kept)) + one_if (eqb x.session m) = omega (arith, none) in
        get_or-set_other (map (λ (y : ScriptSession). y.lines) sessions) x.session m s.lines 0 not ∙ counted m ∙ fill

-- a new session has no line yet
pub counted_new : (sessions : List ScriptSession) (s : ScriptSession) (n : ℕ) → s.lines ≡ 0 → count_kept (sessions ++ s ∷ []) n ≡ count_kept sessions n
counted_new [] s n none = first n
  where
    first : (n : ℕ) → get_or (s.lines ∷ []) n 0 ≡ get_or [] n 0
    first zero = none
    first (suc n) = refl
counted_new (x ∷ sessions) s zero none = refl
counted_new (x ∷ sessions) s (suc n) none = counted_new sessions s n none

-- names stay where a count is changed
pub names_set : (sessions : List ScriptSession) (n : ℕ) (s d : ScriptSession) → s.name ≡ (get_or sessions n d).name → names_kept (set sessions n s) ≡ names_kept sessions
names_set sessions n s d e = map-set_same (λ (x : ScriptSession). x.name) sessions n s d e

pub same_many : (new old : List ScriptSession) → names_kept new ≡ names_kept old → length new ≡ length old
same_many new old e = sym (length-map new (λ (x : ScriptSession). x.name)) ∙ ap length e ∙ length-map old (λ (x : ScriptSession). x.name)
