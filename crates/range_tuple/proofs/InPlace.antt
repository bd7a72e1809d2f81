-- a loop that makes a list another one, place by place
use Rattle.std.proofs.Common.{◌≡◌, ℕ, ◌+◌, ◌-◌, ◌<◌, ◌≤◌, Bool, true, false, ◌||◌, List, [], ◌∷◌, ◌++◌, All, length, get_or, set, take, drop, refl, sym, ap, ◌∙◌, subst, arith}
use Rattle.std.proofs.lemmas.Bool.{false≢true}
use Rattle.std.proofs.lemmas.List.{append-nil, append_assoc, drop_all, drop_more, get_or-append_right, get_or-drop, get_or_default, get_or-take, length-take-le, set-append_right, take-take, take_all, take_more}
use Rattle.std.proofs.lemmas.List.Elements.{All-get_or, All-more, All-same, All-take}

-- the list is so far the other one up to a place, and the old one from there on; whether a place changed is known
pub record Follows {X : Type 0} (goal old ys : List X) (i : ℕ) (changed : Bool) : Type 0 where
  pub so_far : ys ≡ take i goal ++ drop i old
  pub same : changed ≡ false → take i goal ≡ take i old
  pub differs : changed ≡ true → (k : ℕ) × (d : X) × (get_or goal k d ≡ get_or old k d → ⊥)

pub follows_none : {X : Type 0} (goal old : List X) → Follows goal old old 0 false
follows_none goal old = record { so_far = refl; same = λ stays. refl; differs = λ yes. absurd (false≢true yes) }

-- the place that is read next is the old one's
pub read_there : {X : Type 0} (goal old ys : List X) (i : ℕ) (d : X) → length goal ≡ length old → i < length old → ys ≡ take i goal ++ drop i old → get_or ys i d ≡ get_or old i d
read_there goal old ys i d long within so_far =
    let front : length (take i goal) ≡ i = length-take-le i goal (omega (arith, long, within)) in
    rw so_far (get_or-append_right (take i goal) (drop i old) i i d front (omega arith) ∙ get_or-drop i old (i - i) d ∙ ap (λ (k : ℕ). get_or old k d) (omega arith))

pub set_there : {X : Type 0} (goal old ys : List X) (i : ℕ) (x : X) → length goal ≡ length old → i < length old → ys ≡ take i goal ++ drop i old → x ≡ get_or goal i x → set ys i x ≡ take (i + 1) goal ++ drop (i + 1) old
set_there {X} goal old ys i x long within so_far is =
    let front : length (take i goal) ≡ i = length-take-le i goal (omega (arith, long, within)) in
    let first : set (take i goal ++ drop i old) i x ≡ take i goal ++ set (drop i old) (i - i) x = set-append_right (take i goal) (drop i old) i i x front (omega arith) in
    let second : set (drop i old) (i - i) x ≡ x ∷ drop (i + 1) old = ap (λ (k : ℕ). set (drop i old) k x) (omega arith) ∙ ap (λ (zs : List X). set zs 0 x) (drop_more old i x within) in
    let third : take (i + 1) goal ≡ take i goal ++ x ∷ [] = take_more goal i x (omega (arith, long, within)) ∙ ap (λ (y : X). take i goal ++ y ∷ []) (sym is) in
    rw so_far (first ∙ ap (λ (zs : List X). take i goal ++ zs) second ∙ sym (append_assoc (take i goal) (x ∷ []) (drop (i + 1) old)) ∙ ap (λ (zs : List X). zs ++ drop (i + 1) old) (sym third))

-- one place more
pub follows_more : {X : Type 0} (goal old ys : List X) (i : ℕ) (changed now : Bool) (a b : X) → length goal ≡ length old → i < length old → Follows goal old ys i changed → a ≡ get_or ys i a → b ≡ get_or goal i b → (now ≡ false → b ≡ a) → (now ≡ true → b ≡ a → ⊥) → Follows goal old (set ys i b) (i + 1) (now || changed)
follows_more {X} goal old ys i changed now a b long within before read is same other =
    let was : a ≡ get_or old i a = read ∙ read_there goal old ys i a long within before.so_far in
    let within_goal : i < length goal = omega (arith, long, within) in
    let kept : now ≡ false → take i goal ≡ take i old → take (i + 1) goal ≡ take (i + 1) old = λ stays front.
    take_more goal i a within_goal ∙ ap (λ (zs : List X). zs ++ get_or goal i a ∷ []) front ∙ ap (λ (y : X). take i old ++ y ∷ []) (get_or_default goal i a b within_goal ∙ sym is ∙ same stays ∙ was) ∙ sym (take_more old i a within)
    in
    let here : now ≡ true → get_or goal i b ≡ get_or old i b → ⊥ = λ yes e. other yes (is ∙ e ∙ get_or_default old i b a within ∙ sym was) in
    record {
      so_far = set_there goal old ys i b long within before.so_far is;
      same = either now changed kept before.same;
      differs = some now changed here before.differs;
    }
  where
    either : (now changed : Bool) → (now ≡ false → take i goal ≡ take i old → take (i + 1) goal ≡ take (i + 1) old) → (changed ≡ false → take i goal ≡ take i old) → (now || changed) ≡ false → take (i + 1) goal ≡ take (i + 1) old
    either false changed kept same stays = kept refl (same stays)
    either true changed kept same stays = absurd (false≢true (sym stays))

    some : (now changed : Bool) → (now ≡ true → get_or goal i b ≡ get_or old i b → ⊥) → (changed ≡ true → (k : ℕ) × (d : X) × (get_or goal k d ≡ get_or old k d → ⊥)) → (now || changed) ≡ true → (k : ℕ) × (d : X) × (get_or goal k d ≡ get_or old k d → ⊥)
    some true changed here differs some_changed = (i, b, here refl)
    some false changed here differs some_changed = differs some_changed

-- at the end it is the other list, changed exactly where a place was
pub record Followed {X : Type 0} (goal old ys : List X) (changed : Bool) : Type 0 where
  pub is : ys ≡ goal
  pub same : changed ≡ false → ys ≡ old
  pub changes : changed ≡ true → ys ≡ old → ⊥

pub follows_all : {X : Type 0} (goal old ys : List X) (i : ℕ) (changed : Bool) → length goal ≡ length old → length old ≤ i → Follows goal old ys i changed → Followed goal old ys changed
follows_all {X} goal old ys i changed long past all =
    let is : ys ≡ goal = all.so_far ∙ ap (λ (zs : List X). take i goal ++ zs) (drop_all i old past) ∙ append-nil (take i goal) ∙ take_all i goal (omega (arith, long, past)) in
    record {
      is = is;
      same = λ stays. is ∙ sym (take_all i goal (omega (arith, long, past))) ∙ all.same stays ∙ take_all i old past;
      changes = λ yes same. let there = all.differs yes in there.2 (ap (λ (zs : List X). get_or zs there.0 there.1) (sym is ∙ same));
    }

-- what holds of each place of one list holds of each of the other, one place more
pub kept_more : {X : Type 0} (P : X → Type 0) (old goal : List X) (i : ℕ) (a b : X) → length goal ≡ length old → i < length old → a ≡ get_or old i a → b ≡ get_or goal i b → (P a → P b) → (All P (take i old) → All P (take i goal)) → All P (take (i + 1) old) → All P (take (i + 1) goal)
kept_more P old goal i a b long within was is here before all =
    let front : All P (take i old) = All-same P (take i old) (take i (take (i + 1) old)) (sym (take-take i (i + 1) old (omega arith))) (All-take P i (take (i + 1) old) all) in
    let size : length (take (i + 1) old) ≡ i + 1 = length-take-le (i + 1) old (omega (arith, within)) in
    let last : P (get_or (take (i + 1) old) i a) = All-get_or P (take (i + 1) old) i a (omega (arith, size)) all in
    let one : P a = subst P (get_or-take (i + 1) old i a (omega arith) ∙ sym was) last in
    All-more P goal i b (omega (arith, long, within)) (before front) (subst P is (here one))
