-- each step keeps the rule
use Rattle.std.specs.Prelude.{Result, Ok, Err, MatchResult}
use Rattle.std.proofs.Common.{◌≡◌, ◌≢◌, ℕ, zero, suc, ◌+◌, List, [], ◌∷◌, ◌++◌, length, set, fold, refl, sym, ap, ◌∙◌, subst, ⊎_elim, arith, length-append, append_assoc, append-nil}
use Rattle.std.proofs.lemmas.List.Sums.{fold-append}
use mathlib.Core.Option.{some, some-ne-none, some-injective}
use lib.ListN.{get_elem?}
use Rattle.crossbeam_utils.specs.Register.{Admits, Turns, TurnsAt, Forks, Merges}
use Rattle.atomic_table.proofs.Lists.{at_set, at_snoc}
use Rattle.summary_directory.specs.declared.post.Post.{Post}
use Rattle.summary_directory.specs.declared.post.Post.TheVariants.{Set, Clear, Extent}
use Rattle.summary_directory.specs.declared.kept.Kept.{Kept}
use Rattle.summary_directory.specs.declared.kept.Learnt.{Learnt}
use Rattle.summary_directory.specs.declared.shelf.Shelf.{Shelf}
use Rattle.summary_directory.specs.Rule.{StartsWith, kept, Knows, Keeps, newcomer, Looked, Published, informed}
use Rattle.summary_directory.specs.ShelfFold.{fold_of, no_posts, shown_of, step}
use Rattle.summary_directory.proofs.Folds.{shown_is}

-- ---- a shelf counts its posts

step_counts : (k : Kept) (p : Post) → (step k p).posts ≡ k.posts + 1
step_counts k (Set index range bytes) = refl
step_counts k (Clear index range) = refl
step_counts k (Extent table blocks) = refl

counts : (k : Kept) (ps : List Post) → (fold step k ps).posts ≡ k.posts + length ps
counts k [] = omega arith
counts k (p ∷ ps) = let a = counts (step k p) ps in let b = step_counts k p in omega (arith, a, b)

pub counted : (x : Shelf) (ps : List Post) → kept x ≡ fold_of ps → x.posts ≡ length ps
counted x ps is = let a = counts no_posts ps in let b : x.posts ≡ (fold_of ps).posts = ap (λ (k : Kept). k.posts) is in omega (arith, a, b)

-- ---- lists that begin with others

whole : (ps : List Post) → StartsWith ps ps
whole ps = ([], sym (append-nil ps))

none : (ps : List Post) → StartsWith ps []
none ps = (ps, refl)

further : (ps front more : List Post) → StartsWith ps front → StartsWith (ps ++ more) front
further ps front more h = (h.0 ++ more, ap (λ (l : List Post). l ++ more) h.1 ∙ append_assoc front h.0 more)

no_rest : (ps front : List Post) → StartsWith ps front → length ps ≡ length front → ps ≡ front
no_rest ps front h same = by_rest h.0 h.1
  where
    by_rest : (rest : List Post) → ps ≡ front ++ rest → ps ≡ front
    by_rest [] e = e ∙ append-nil front
    by_rest (x ∷ xs) e = absurd (let a = ap length e in let b = length-append front (x ∷ xs) in omega (arith, a, b, same))

-- ---- the seats

new_knows : (ps : List Post) → Knows ps newcomer
new_knows ps = (none ps, none ps)

set_knows : (ps : List Post) (views : List Learnt) (by : ℕ) (w : Learnt) → ((j : ℕ) (u : Learnt) → get_elem? views j ≡ some u → Knows ps u) → Knows ps w → (j : ℕ) (u : Learnt) → get_elem? (set views by w) j ≡ some u → Knows ps u
set_knows ps views by w others mine j u e =
    ⊎_elim
    (λ (t : (j ≡ by) × (w ≡ u)). subst (Knows ps) t.1 mine)
    (λ (t : (j ≢ by) × (get_elem? views j ≡ some u)). others j u t.1)
    (at_set views by j w u e)

-- the first seat is the writer's, at a shelf of no posts
pub begins : (x : Shelf) → kept x ≡ no_posts → Keeps x (newcomer ∷ [])
begins x empty = ([], empty, one)
  where
    one : (seat : ℕ) (v : Learnt) → get_elem? (newcomer ∷ []) seat ≡ some v → Knows [] v
    one zero v e = subst (Knows []) (some-injective _ _ e) (new_knows [])
    one (suc seat) v e = absurd (some-ne-none v (sym e))

-- a new seat
pub admits : Admits Keeps newcomer
admits x views h = (h.0, h.1, λ seat v e. ⊎_elim (h.2 seat v) (λ (is : newcomer ≡ v). subst (Knows h.0) is (new_knows h.0)) (at_snoc views newcomer v seat e))

-- a reader enters
pub looks : (seat : ℕ) (v : Learnt) → Turns Keeps seat v (λ x. x) Looked
looks seat v x views h at =
    let mine = h.2 seat v at in
    let w : Learnt = record { seen = h.0; told = v.told } in (
      w,
      (h.0, h.1, set_knows h.0 views seat w h.2 (whole h.0, mine.1)),
      (mine.0, mine.1, ap shown_of h.1 ∙ shown_is h.0, refl),
    )

-- the writer publishes: it has seen as many posts as the shelf counts, so it has seen all
pub publishes : (seat : ℕ) (v : Learnt) (x y : Shelf) (batch : List Post) → x.posts ≡ length v.seen → kept y ≡ fold step (kept x) batch → TurnsAt Keeps seat v x y (Published batch)
publishes seat v x y batch as_many folded views h at =
    let mine = h.2 seat v at in
    let long : length h.0 ≡ length v.seen = sym (counted x h.0 h.1) ∙ as_many in
    let all : h.0 ≡ v.seen = no_rest h.0 v.seen mine.0 long in
    let w : Learnt = record { seen = v.seen ++ batch; told = v.told } in
    let is : kept y ≡ fold_of (v.seen ++ batch) =
    folded ∙ ap (λ (k : Kept). fold step k batch) (h.1 ∙ ap fold_of all) ∙ sym (fold-append step no_posts v.seen batch) in
    let others : (j : ℕ) (u : Learnt) → get_elem? views j ≡ some u → Knows (v.seen ++ batch) u =
    λ j u e. let k = h.2 j u e in let ps = subst (λ (l : List Post). StartsWith l u.seen × StartsWith l u.told) all (k.0, k.1) in (further v.seen u.seen batch ps.0, further v.seen u.told batch ps.1) in (
      w,
      (
        v.seen ++ batch,
        is,
        set_knows (v.seen ++ batch) views seat w others (whole (v.seen ++ batch), (others seat v at).1),
      ),
      (refl, is),
    )

-- the writer tells what it has seen: a note, which is a seat
pub forks : (seat : ℕ) (v : Learnt) → Forks Keeps seat v v v
forks seat v x views h at = (
  h.0,
  h.1,
  λ j u e. ⊎_elim (set_knows h.0 views seat v h.2 (h.2 seat v at) j u) (λ (same : v ≡ u). subst (Knows h.0) same (h.2 seat v at)) (at_snoc (set views seat v) v u j e),
)

-- a reader takes the note in
pub merges : (seat : ℕ) (v : Learnt) (other : ℕ) (w : Learnt) → Merges Keeps seat v other w (informed v w) newcomer
merges seat v other w x views h at apart there =
    let mine = h.2 seat v at in
    let theirs : Knows h.0 w = ⊎_elim (λ (t : (other ≡ seat) × (informed v w ≡ w)). absurd (apart t.0)) (λ (t : (other ≢ seat) × (get_elem? views other ≡ some w)). h.2 other w t.1) (at_set views seat other (informed v w) w there) in
    let both : Knows h.0 (informed v w) = (mine.0, theirs.0) in
    (h.0, h.1, set_knows h.0 (set views seat (informed v w)) other newcomer (set_knows h.0 views seat (informed v w) h.2 both) (new_knows h.0))

-- ---- what the steps tell

pub match_both : {T E A B C D X Y : Type 0} (r : Result T E) → MatchResult r (λ _. A) (λ _. B) → MatchResult r (λ _. C) (λ _. D) → (A → C → X) → (B → D → Y) → MatchResult r (λ _. X) (λ _. Y)
match_both (Ok x) a c f g = f a c
match_both (Err e) b d f g = g b d
