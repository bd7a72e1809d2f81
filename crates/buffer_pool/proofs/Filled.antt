-- buckets while they are filled
use Rattle.std.proofs.Common.{◌≡◌, ◌≢◌, ℕ, ◌+◌, ◌-◌, ◌<◌, ◌≤◌, List, [], ◌∷◌, ◌++◌, length, get_or, sym, ◌∙◌, ap, subst, arith, inl, inr, length-append}
use Rattle.std.proofs.lemmas.Bool.{cases_lt}
use Rattle.std.proofs.lemmas.List.{get_or_append_left, get_or_at}
use Rattle.buffer_pool.specs.Linked.{IsNext, IsLinked}
use Rattle.buffer_pool.proofs.Links.{as_next, as_node}

-- so many frames stand in the last bucket, each above the one before it
pub record AreFramesFilled (count last : ℕ) (bucket_of below : List ℕ) : Type 0 where
  pub buckets : length bucket_of ≡ count
  pub whole : length below ≡ count
  pub own : (k : ℕ) → k < count → get_or bucket_of k 0 ≡ last
  pub next : (k : ℕ) → k < count → get_or below k 0 ≡ k

-- behind all frames stand so many heads, whose buckets are empty
pub record AreHeadsFilled (frames count last : ℕ) (bucket_of below : List ℕ) : Type 0 where
  pub buckets : length bucket_of ≡ frames + count
  pub whole : length below ≡ frames + count
  pub own : (k : ℕ) → k < frames → get_or bucket_of k 0 ≡ last
  pub next : (k : ℕ) → k < frames → get_or below k 0 ≡ k
  pub heads : (b : ℕ) → b < count → get_or bucket_of (frames + b) 0 ≡ b
  pub empty : (b : ℕ) → b < count → get_or below (frames + b) 0 ≡ 0

-- a fact of two lists holds of equal ones
pub on_lists : (P : List ℕ → List ℕ → Type 0) (a a' b b' : List ℕ) → a' ≡ a → b' ≡ b → P a b → P a' b'
on_lists P a a' b b' ea eb p = subst (λ (x : List ℕ). P x b') (sym ea) (subst (λ (x : List ℕ). P a x) (sym eb) p)

-- one frame more
pub frames_more : (count last : ℕ) (of below : List ℕ) → AreFramesFilled count last of below → AreFramesFilled (count + 1) last (of ++ last ∷ []) (below ++ count ∷ [])
frames_more count last of below it = record {
  buckets = omega (arith, length-append of (last ∷ []), it.buckets);
  whole = omega (arith, length-append below (count ∷ []), it.whole);
  own = λ k less. elim (cases_lt k count) [
    | inl before ↦ get_or_append_left of (last ∷ []) 0 k (omega (arith, before, it.buckets)) ∙ it.own k before
    | inr at ↦ get_or_at of last [] 0 k (omega (arith, at, less, it.buckets))
  ];
  next = λ k less. elim (cases_lt k count) [
    | inl before ↦ get_or_append_left below (count ∷ []) 0 k (omega (arith, before, it.whole)) ∙ it.next k before
    | inr at ↦ get_or_at below count [] 0 k (omega (arith, at, less, it.whole)) ∙ omega (arith, at, less)
  ];
}

-- no head yet
pub heads_none : (frames last : ℕ) (of below : List ℕ) → AreFramesFilled frames last of below → AreHeadsFilled frames 0 last of below
heads_none frames last of below it = record {
  buckets = omega (arith, it.buckets);
  whole = omega (arith, it.whole);
  own = it.own;
  next = it.next;
  heads = λ b less. absurd (omega (arith, less));
  empty = λ b less. absurd (omega (arith, less));
}

-- one head more
pub heads_more : (frames count last : ℕ) (of below : List ℕ) → AreHeadsFilled frames count last of below → AreHeadsFilled frames (count + 1) last (of ++ count ∷ []) (below ++ 0 ∷ [])
heads_more frames count last of below it = record {
  buckets = omega (arith, length-append of (count ∷ []), it.buckets);
  whole = omega (arith, length-append below (0 ∷ []), it.whole);
  own = λ k less. get_or_append_left of (count ∷ []) 0 k (omega (arith, less, it.buckets)) ∙ it.own k less;
  next = λ k less. get_or_append_left below (0 ∷ []) 0 k (omega (arith, less, it.whole)) ∙ it.next k less;
  heads = λ b less. elim (cases_lt b count) [
    | inl before ↦ get_or_append_left of (count ∷ []) 0 (frames + b) (omega (arith, before, it.buckets)) ∙ it.heads b before
    | inr at ↦ get_or_at of count [] 0 (frames + b) (omega (arith, at, less, it.buckets)) ∙ omega (arith, at, less)
  ];
  empty = λ b less. elim (cases_lt b count) [
    | inl before ↦ get_or_append_left below (0 ∷ []) 0 (frames + b) (omega (arith, before, it.whole)) ∙ it.empty b before
    | inr at ↦ get_or_at below 0 [] 0 (frames + b) (omega (arith, at, less, it.whole))
  ];
}

-- with the head of the last bucket behind them they are linked
module _ (frames last : ℕ) (of below : List ℕ) (filled : AreHeadsFilled frames last last of below) where
  low : (k : ℕ) → k < frames → get_or (of ++ last ∷ []) k 0 ≡ last
  low k inside = get_or_append_left of (last ∷ []) 0 k (omega (arith, inside, filled.buckets)) ∙ filled.own k inside

  high : (b : ℕ) → b ≤ last → get_or (of ++ last ∷ []) (frames + b) 0 ≡ b
  high b inside = elim (cases_lt b last) [
    | inl less ↦ get_or_append_left of (last ∷ []) 0 (frames + b) (omega (arith, less, filled.buckets)) ∙ filled.heads b less
    | inr more ↦ get_or_at of last [] 0 (frames + b) (omega (arith, more, inside, filled.buckets)) ∙ omega (arith, more, inside)
  ]

  as_long : length (of ++ last ∷ []) ≡ frames + last + 1
  as_long = omega (arith, length-append of (last ∷ []), filled.buckets)

  below_frame : (k : ℕ) → k < frames → get_or (below ++ frames ∷ []) k 0 ≡ k
  below_frame k inside = get_or_append_left below (frames ∷ []) 0 k (omega (arith, inside, filled.whole)) ∙ filled.next k inside

  below_head : (b : ℕ) → b < last → get_or (below ++ frames ∷ []) (frames + b) 0 ≡ 0
  below_head b inside = get_or_append_left below (frames ∷ []) 0 (frames + b) (omega (arith, inside, filled.whole)) ∙ filled.empty b inside

  below_last : get_or (below ++ frames ∷ []) (frames + last) 0 ≡ frames
  below_last = get_or_at below frames [] 0 (frames + last) filled.whole

  -- no node from one on up to another is of a bucket of which there is none
  others : (b from to : ℕ) → to ≤ frames + last + 1 → ((k : ℕ) → from ≤ k → k < to → k < frames → last ≢ b) → ((d : ℕ) → from ≤ frames + d → frames + d < to → d ≢ b)
      → (k : ℕ) → from ≤ k → k < to → get_or (of ++ last ∷ []) k 0 ≢ b
  others b from to within frame head k more less e = elim (cases_lt k frames) [
    | inl inside ↦ frame k more less inside (sym (low k inside) ∙ e)
    | inr behind ↦
        let at : frames + (k - frames) ≡ k = omega (arith, behind) in
        head (k - frames) (omega (arith, at, more)) (omega (arith, at, less))
        (sym (high (k - frames) (omega (arith, at, less, within))) ∙ ap (λ (x : ℕ). get_or (of ++ last ∷ []) x 0) at ∙ e)
  ]

  next_frame : (k : ℕ) → k < frames → IsNext (of ++ last ∷ []) last k k
  next_frame k inside = record {
    within = omega arith;
    same = λ some. low (k - 1) (omega (arith, inside));
    none_between = λ m more less. absurd (omega (arith, more, less));
  }

  next_head : (b : ℕ) → b < last → IsNext (of ++ last ∷ []) b (frames + b) 0
  next_head b inside = record {
    within = omega arith;
    same = λ some. absurd (omega (arith, some));
    none_between = others b 0 (frames + b) (omega (arith, inside)) (λ k _ _ _ e. omega (arith, e, inside)) (λ d _ less e. omega (arith, e, less));
  }

  next_last : IsNext (of ++ last ∷ []) last (frames + last) frames
  next_last = record {
    within = omega arith;
    same = λ some. low (frames - 1) (omega (arith, some));
    none_between = others last frames (frames + last) (omega arith) (λ k more _ inside e. omega (arith, more, inside)) (λ d _ less e. omega (arith, e, less));
  }

  next_at : (b : ℕ) → b ≤ last → IsNext (of ++ last ∷ []) (get_or (of ++ last ∷ []) (frames + b) 0) (frames + b) (get_or (below ++ frames ∷ []) (frames + b) 0)
  next_at b inside = elim (cases_lt b last) [
    | inl less ↦ as_next (of ++ last ∷ []) b (get_or (of ++ last ∷ []) (frames + b) 0) (frames + b) 0 (get_or (below ++ frames ∷ []) (frames + b) 0) (high b inside) (below_head b less) (next_head b less)
    | inr more ↦
        let is : b ≡ last = omega (arith, more, inside) in
        as_node (of ++ last ∷ []) (below ++ frames ∷ []) (frames + b) (frames + last) (ap (λ (x : ℕ). frames + x) is)
        (as_next (of ++ last ∷ []) last (get_or (of ++ last ∷ []) (frames + last) 0) (frames + last) frames (get_or (below ++ frames ∷ []) (frames + last) 0) (high last (omega arith)) below_last next_last)
  ]

  pub filled_linked : IsLinked frames (of ++ last ∷ []) (below ++ frames ∷ [])
  filled_linked = record {
    whole = omega (arith, as_long, length-append below (frames ∷ []), filled.whole);
    heads = λ bucket within. high bucket (omega (arith, within, as_long));
    small = λ k within. elim (cases_lt k frames) [
      | inl inside ↦ omega (arith, low k inside, as_long)
      | inr behind ↦
          let at : frames + (k - frames) ≡ k = omega (arith, behind) in
          let is : get_or (of ++ last ∷ []) k 0 ≡ k - frames = ap (λ (x : ℕ). get_or (of ++ last ∷ []) x 0) (sym at) ∙ high (k - frames) (omega (arith, at, within, as_long)) in
          omega (arith, is, at, within, as_long)
    ];
    next = λ k within. elim (cases_lt k frames) [
      | inl inside ↦ as_next (of ++ last ∷ []) last (get_or (of ++ last ∷ []) k 0) k k (get_or (below ++ frames ∷ []) k 0) (low k inside) (below_frame k inside) (next_frame k inside)
      | inr behind ↦
          let at : k ≡ frames + (k - frames) = omega (arith, behind) in
          as_node (of ++ last ∷ []) (below ++ frames ∷ []) k (frames + (k - frames)) at (next_at (k - frames) (omega (arith, at, within, as_long)))
    ];
  }
