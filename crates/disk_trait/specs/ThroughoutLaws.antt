-- laws of what holds at every moment of a run of calls
use Rattle.std.proofs.Common.{inl, inr, ⊎_elim, ℕ, List, refl, ◌∙◌, arith}
use Rattle.std.specs.Prelude.{IsTrue}
use Rattle.disk_trait.specs.Told.{Told}
use Rattle.disk_trait.specs.GoesOn.{GoesOn}
use Rattle.disk_trait.specs.Throughout.{Throughout}

-- before the first call
pub started : (old : Told) (P : List ℕ → Type 0) → ((c : List ℕ) → IsTrue (old.since old.moment c) → P c) → Throughout old old P
started old P here = record {
  size = refl;
  tells_contents = refl;
  tells_images = refl;
  later = omega arith;
  each = here;
  earlier = λ t c le left. inl left;
}

-- one call more, after which each image has P
pub goes_on : (old mid new : Told) (P : List ℕ → Type 0) → Throughout old mid P → GoesOn mid new → ((c : List ℕ) → IsTrue (new.now c) → P c) → Throughout old new P
goes_on old mid new P so_far time here = record {
  size = time.size ∙ so_far.size;
  tells_contents = time.tells_contents ∙ so_far.tells_contents;
  tells_images = time.tells_images ∙ so_far.tells_images;
  later = omega (arith, so_far.later, time.later);
  each = λ c left. ⊎_elim (so_far.each c) (here c) (time.nothing_else old.moment c so_far.later left);
  earlier = λ t c le left. ⊎_elim (so_far.earlier t c le) (λ now. inr (here c now)) (time.nothing_else t c (omega (arith, le, so_far.later)) left);
}

-- one run after another
pub joined : (old mid new : Told) (P : List ℕ → Type 0) → Throughout old mid P → Throughout mid new P → Throughout old new P
joined old mid new P first second = record {
  size = second.size ∙ first.size;
  tells_contents = second.tells_contents ∙ first.tells_contents;
  tells_images = second.tells_images ∙ first.tells_images;
  later = omega (arith, first.later, second.later);
  each = λ c left. ⊎_elim (first.each c) (λ p. p) (second.earlier old.moment c first.later left);
  earlier = λ t c le left. ⊎_elim (first.earlier t c le) (λ p. inr p) (second.earlier t c (omega (arith, le, first.later)) left);
}

-- less is said of each image
pub weaker : (old new : Told) (P Q : List ℕ → Type 0) → Throughout old new P → ((c : List ℕ) → P c → Q c) → Throughout old new Q
weaker old new P Q all less = record {
  size = all.size;
  tells_contents = all.tells_contents;
  tells_images = all.tells_images;
  later = all.later;
  each = λ c left. less c (all.each c left);
  earlier = λ t c le left. ⊎_elim (λ was. inl was) (λ p. inr (less c p)) (all.earlier t c le left);
}

-- two facts of the same moments
pub paired : (old new : Told) (P Q : List ℕ → Type 0) → Throughout old new P → Throughout old new Q → Throughout old new (λ c. P c × Q c)
paired old new P Q one two = record {
  size = one.size;
  tells_contents = one.tells_contents;
  tells_images = one.tells_images;
  later = one.later;
  each = λ c left. (one.each c left, two.each c left);
  earlier = λ t c le left. ⊎_elim (λ was. inl was) (λ p. ⊎_elim (λ was. inl was) (λ q. inr (p, q)) (two.earlier t c le left)) (one.earlier t c le left);
}
