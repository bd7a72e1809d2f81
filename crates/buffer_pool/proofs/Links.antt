-- a frame leaves its bucket and joins another
use Rattle.std.proofs.Common.{◌≡◌, ◌≢◌, ℕ, ◌+◌, ◌-◌, ◌<◌, ◌≤◌, List, length, set, get_or, sym, ◌∙◌, ap, subst, arith, get_or-set_same, get_or-set_other, length-set, inl, inr}
use Rattle.std.proofs.lemmas.Bool.{cases_eq, cases_lt}
use Rattle.buffer_pool.specs.Linked.{IsNext, IsLinked, AreLinkedAbove}

-- the same, said with equal numbers
pub as_next : (of : List ℕ) (b b' j c c' : ℕ) → b' ≡ b → c' ≡ c → IsNext of b j c → IsNext of b' j c'
as_next of b b' j c c' eb ec it = subst (λ (x : ℕ). IsNext of x j c') (sym eb) (subst (λ (x : ℕ). IsNext of b j x) (sym ec) it)

-- what is said of one node holds of an equal one
pub as_node : (of below : List ℕ) (j i : ℕ) → j ≡ i → IsNext of (get_or of i 0) i (get_or below i 0) → IsNext of (get_or of j 0) j (get_or below j 0)
as_node of below j i e it = subst (λ (x : ℕ). IsNext of (get_or of x 0) x (get_or below x 0)) (sym e) it

-- The frame f leaves its bucket for one that no node has. The node i above it in its bucket then names what f named.
module _ (of below : List ℕ) (f i none : ℕ)
    (next : (k : ℕ) → k < length of → IsNext of (get_or of k 0) k (get_or below k 0))
    (whole : length below ≡ length of)
    (above : f < i) (inside_i : i < length of) (alike : get_or of i 0 ≡ get_or of f 0) (lowest : get_or below i 0 ≤ f + 1)
    (unused : (k : ℕ) → k < length of → get_or of k 0 ≢ none) where
  inside_f : f < length of
  inside_f = omega (arith, above, inside_i)

  names_f : get_or below i 0 ≡ f + 1
  names_f = elim (cases_lt f (get_or below i 0)) [
    | inl less ↦ omega (arith, less, lowest)
    | inr more ↦ absurd ((next i inside_i).none_between f more above (sym alike))
  ]

  moved : (k : ℕ) → k ≢ f → get_or (set of f none) k 0 ≡ get_or of k 0
  moved k apart = get_or-set_other of f k none 0 apart

  differs : (j k : ℕ) → j < length of → (k ≢ f → get_or of k 0 ≢ get_or of j 0) → get_or (set of f none) k 0 ≢ get_or of j 0
  differs j k inside apart e = elim (cases_eq k f) [
    | inl is ↦ unused j inside (sym e ∙ ap (λ (x : ℕ). get_or (set of f none) x 0) is ∙ get_or-set_same of f none 0 inside_f)
    | inr other ↦ apart other (sym (moved k other) ∙ e)
  ]

  left_i : IsNext (set of f none) (get_or of i 0) i (get_or below f 0)
  left_i =
      let nf = next f inside_f in
      let ni = next i inside_i in
      record {
        within = omega (arith, nf.within, above);
        same = λ some. moved (get_or below f 0 - 1) (omega (arith, some, nf.within)) ∙ nf.same some ∙ sym alike;
        none_between = λ k low high. differs i k inside_i (λ other e. elim (cases_lt k f) [
          | inl less ↦ nf.none_between k low less (e ∙ alike)
          | inr more ↦ ni.none_between k (omega (arith, names_f, more, other)) high e
        ]);
      }

  -- no other node names f
  not_f : (j : ℕ) → j < length of → j ≢ i → 0 < get_or below j 0 → get_or below j 0 - 1 ≢ f
  not_f j inside other some is =
      let nj = next j inside in
      let ni = next i inside_i in
      let bound : get_or below j 0 ≡ f + 1 = omega (arith, is, some) in
      let same : get_or of f 0 ≡ get_or of j 0 = ap (λ (x : ℕ). get_or of x 0) (sym is) ∙ nj.same some in
      elim (cases_lt i j) [
        | inl less ↦ nj.none_between i (omega (arith, bound, above)) less (alike ∙ same)
        | inr more ↦ ni.none_between j (omega (arith, names_f, bound, nj.within)) (omega (arith, more, other)) (sym (alike ∙ same))
      ]

  left_other : (j : ℕ) → j < length of → j ≢ i → IsNext (set of f none) (get_or of j 0) j (get_or below j 0)
  left_other j inside other =
      let nj = next j inside in
      record {
        within = nj.within;
        same = λ some. moved (get_or below j 0 - 1) (not_f j inside other some) ∙ nj.same some;
        none_between = λ k low high. differs j k inside (λ _. nj.none_between k low high);
      }

  pub left : (j : ℕ) → j < length of → j ≢ f → IsNext (set of f none) (get_or (set of f none) j 0) j (get_or (set below i (get_or below f 0)) j 0)
  left j inside apart = elim (cases_eq j i) [
    | inl is ↦ as_node (set of f none) (set below i (get_or below f 0)) j i is
        (as_next (set of f none) (get_or of i 0) (get_or (set of f none) i 0) i (get_or below f 0) (get_or (set below i (get_or below f 0)) i 0)
        (moved i (omega (arith, above))) (get_or-set_same below i (get_or below f 0) 0 (omega (arith, whole, inside_i))) left_i)
    | inr other ↦ as_next (set of f none) (get_or of j 0) (get_or (set of f none) j 0) j (get_or below j 0) (get_or (set below i (get_or below f 0)) j 0)
        (moved j apart) (get_or-set_other below i j (get_or below f 0) 0 other) (left_other j inside other)
  ]

-- The frame f, alone in its bucket, joins the bucket b below the node i.
module _ (of of' below : List ℕ) (f i b : ℕ)
    (next : (k : ℕ) → k < length of → k ≢ f → IsNext of (get_or of k 0) k (get_or below k 0))
    (whole : length below ≡ length of)
    (above : f < i) (inside_i : i < length of) (alike : get_or of i 0 ≡ b) (lowest : get_or below i 0 ≤ f + 1)
    (alone : (k : ℕ) → k < length of → k ≢ f → get_or of k 0 ≢ get_or of f 0)
    (moved : (k : ℕ) → k ≢ f → get_or of' k 0 ≡ get_or of k 0) (here : get_or of' f 0 ≡ b) where
  not_i : i ≢ f
  not_i = omega (arith, above)

  passes_f : get_or below i 0 ≤ f
  passes_f = elim (cases_lt f (get_or below i 0)) [
    | inl less ↦
        let is : get_or below i 0 - 1 ≡ f = omega (arith, less, lowest) in
        absurd (alone i inside_i not_i (sym ((next i inside_i not_i).same (omega (arith, less))) ∙ ap (λ (x : ℕ). get_or of x 0) is))
    | inr more ↦ more
  ]

  joined_f : IsNext of' b f (get_or below i 0)
  joined_f =
      let ni = next i inside_i not_i in
      record {
        within = passes_f;
        same = λ some. moved (get_or below i 0 - 1) (omega (arith, some, passes_f)) ∙ ni.same some ∙ alike;
        none_between = λ k low high e. ni.none_between k low (omega (arith, high, above)) (sym (moved k (omega (arith, high))) ∙ e ∙ sym alike);
      }

  joined_i : IsNext of' b i (f + 1)
  joined_i =
      let ni = next i inside_i not_i in
      let back : f + 1 - 1 ≡ f = omega arith in
      record {
        within = omega (arith, above);
        same = λ some. ap (λ (x : ℕ). get_or of' x 0) back ∙ here;
        none_between = λ k low high e. ni.none_between k (omega (arith, lowest, low)) high (sym (moved k (omega (arith, low))) ∙ e ∙ sym alike);
      }

  joined_other : (j : ℕ) → j < length of → j ≢ f → j ≢ i → IsNext of' (get_or of j 0) j (get_or below j 0)
  joined_other j inside apart other =
      let nj = next j inside apart in
      let ni = next i inside_i not_i in
      record {
        within = nj.within;
        same = λ some. moved (get_or below j 0 - 1) (λ is. alone j inside apart (sym (nj.same some) ∙ ap (λ (x : ℕ). get_or of x 0) is)) ∙ nj.same some;
        none_between = λ k low high e. elim (cases_eq k f) [
          | inl is ↦
              let same : b ≡ get_or of j 0 = sym here ∙ ap (λ (x : ℕ). get_or of' x 0) (sym is) ∙ e in
              elim (cases_lt i j) [
                | inl less ↦ nj.none_between i (omega (arith, low, is, above)) less (alike ∙ same)
                | inr more ↦ ni.none_between j (omega (arith, passes_f, is, high)) (omega (arith, more, other)) (sym (alike ∙ same))
              ]
          | inr apart_k ↦ nj.none_between k low high (sym (moved k apart_k) ∙ e)
        ];
      }

  pub joined : (j : ℕ) → j < length of → IsNext of' (get_or of' j 0) j (get_or (set (set below f (get_or below i 0)) i (f + 1)) j 0)
  joined j inside =
      let c = get_or below i 0 in
      let made = set (set below f c) i (f + 1) in
      elim (cases_eq j i) [
        | inl is ↦ as_node of' made j i is
            (as_next of' b (get_or of' i 0) i (f + 1) (get_or made i 0) (moved i not_i ∙ alike)
            (get_or-set_same (set below f c) i (f + 1) 0 (omega (arith, length-set below f c, whole, inside_i))) joined_i)
        | inr other ↦ elim (cases_eq j f) [
          | inl is ↦ as_node of' made j f is
              (as_next of' b (get_or of' f 0) f c (get_or made f 0) here
              (get_or-set_other (set below f c) i f (f + 1) 0 (omega (arith, above)) ∙ get_or-set_same below f c 0 (omega (arith, whole, above, inside_i))) joined_f)
          | inr apart ↦ as_next of' (get_or of j 0) (get_or of' j 0) j (get_or below j 0) (get_or made j 0) (moved j apart)
              (get_or-set_other (set below f c) i j (f + 1) 0 other ∙ get_or-set_other below f j c 0 apart) (joined_other j inside apart other)
        ]
      ]

-- what the walk to a node needs of linked nodes
pub linked_above : (frames : ℕ) (of below : List ℕ) (f : ℕ) → IsLinked frames of below → AreLinkedAbove of below f
linked_above frames of below f linked k inside more = ((linked.next k inside).within, (linked.next k inside).same (omega (arith, more)))

-- and still has once the node i names a lower one
pub linked_above_changed : (of below : List ℕ) (f i x : ℕ) → AreLinkedAbove of below f → x ≤ f → i < length below → AreLinkedAbove of (set below i x) f
linked_above_changed of below f i x linked low inside k within more = elim (cases_eq k i) [
  | inl is ↦ absurd (omega (arith, more, low, ap (λ (y : ℕ). get_or (set below i x) y 0) is, get_or-set_same below i x 0 inside))
  | inr other ↦
      let stays = get_or-set_other below i k x 0 other in
      let it = linked k within (omega (arith, more, stays)) in
      (omega (arith, it.0, stays), ap (λ (y : ℕ). get_or of (y - 1) 0) stays ∙ it.1)
]

-- the frame f leaves its bucket, above which the node i stands in it, and joins the bucket b below the node j
module _ (frames : ℕ) (of below : List ℕ) (f i j b : ℕ) (linked : IsLinked frames of below) (frame : f < frames) (bucket : frames + b < length of)
    (above_i : f < i) (inside_i : i < length of) (alike_i : get_or of i 0 ≡ get_or of f 0) (lowest_i : get_or below i 0 ≤ f + 1)
    (above_j : f < j) (inside_j : j < length of) (alike_j : get_or of j 0 ≡ b) (lowest_j : get_or (set below i (get_or below f 0)) j 0 ≤ f + 1) where
  unused : (k : ℕ) → k < length of → get_or of k 0 ≢ length of
  unused k inside e = absurd (omega (arith, linked.small k inside, e))

  stays : (k : ℕ) → k ≢ f → get_or (set of f (length of)) k 0 ≡ get_or of k 0
  stays k apart = get_or-set_other of f k (length of) 0 apart

  gone : get_or (set of f (length of)) f 0 ≡ length of
  gone = get_or-set_same of f (length of) 0 (omega (arith, frame, bucket))

  as_long : length (set of f (length of)) ≡ length of
  as_long = length-set of f (length of)

  pub moved_next : (k : ℕ) → k < length of
      → IsNext (set of f b) (get_or (set of f b) k 0) k (get_or (set (set (set below i (get_or below f 0)) f (get_or (set below i (get_or below f 0)) j 0)) j (f + 1)) k 0)
  moved_next k inside =
      let mid = set below i (get_or below f 0) in
      joined (set of f (length of)) (set of f b) mid f j b
      (λ (n : ℕ) within apart. left of below f i (length of) linked.next linked.whole above_i inside_i alike_i lowest_i unused n (omega (arith, within, as_long)) apart)
      (length-set below i (get_or below f 0) ∙ linked.whole ∙ sym as_long)
      above_j (omega (arith, inside_j, as_long)) (stays j (omega (arith, above_j)) ∙ alike_j) lowest_j
      (λ (n : ℕ) within apart e. unused n (omega (arith, within, as_long)) (sym (stays n apart) ∙ e ∙ gone))
      (λ (n : ℕ) apart. get_or-set_other of f n b 0 apart ∙ sym (stays n apart))
      (get_or-set_same of f b 0 (omega (arith, frame, bucket)))
      k (omega (arith, inside, as_long))

  pub moved_linked : (of' below' : List ℕ) → of' ≡ set of f b → below' ≡ set (set (set below i (get_or below f 0)) f (get_or (set below i (get_or below f 0)) j 0)) j (f + 1) → IsLinked frames of' below'
  moved_linked of' below' is_of is_below =
      let mid = set below i (get_or below f 0) in
      let c = get_or mid j 0 in
      let long : length (set of f b) ≡ length of = length-set of f b in
      subst (λ (x : List ℕ). IsLinked frames x below') (sym is_of) (subst (λ (x : List ℕ). IsLinked frames (set of f b) x) (sym is_below) (record {
        whole = length-set (set mid f c) j (f + 1) ∙ length-set mid f c ∙ length-set below i (get_or below f 0) ∙ linked.whole ∙ sym long;
        heads = λ bucket within. get_or-set_other of f (frames + bucket) b 0 (omega (arith, frame)) ∙ linked.heads bucket (omega (arith, within, long));
        small = λ k within. elim (cases_eq k f) [
          | inl is ↦ omega (arith, bucket, long, ap (λ (x : ℕ). get_or (set of f b) x 0) is, get_or-set_same of f b 0 (omega (arith, frame, bucket)))
          | inr apart ↦ omega (arith, long, get_or-set_other of f k b 0 apart, linked.small k (omega (arith, within, long)))
        ];
        next = λ k within. moved_next k (omega (arith, within, long));
      }))

-- what the head of a bucket names
pub first_is : (frames : ℕ) (of below : List ℕ) (b : ℕ) → IsLinked frames of below → frames + b < length of → IsNext of b frames (get_or below (frames + b) 0)
first_is frames of below b linked inside =
    let r = get_or below (frames + b) 0 in
    let n = linked.next (frames + b) inside in
    let own = linked.heads b inside in
    record {
      within = elim (cases_lt frames r) [
        | inl more ↦
            let at : frames + (r - 1 - frames) ≡ r - 1 = omega (arith, more) in
            let low : frames + (r - 1 - frames) < length of = omega (arith, at, n.within, inside, more) in
            let same : r - 1 - frames ≡ b = sym (linked.heads (r - 1 - frames) low) ∙ ap (λ (x : ℕ). get_or of x 0) at ∙ n.same (omega (arith, more)) ∙ own in
            absurd (omega (arith, same, at, n.within, more))
        | inr less ↦ less
      ];
      same = λ some. n.same some ∙ own;
      none_between = λ k low high e. n.none_between k low (omega (arith, high)) (e ∙ sym own);
    }
