-- frames that change seats
use Rattle.std.proofs.Common.{◌≡◌, ◌≢◌, ℕ, ◌+◌, ◌<◌, ◌≤◌, ◌^◌, true, false, Bool, List, length, set, take, replicate, get_or, sym, ◌∙◌, ap, subst, arith, get_or-set_same, get_or-set_other, length-set, inl, inr}
use Rattle.std.specs.Prelude.{◌⊎◌}
use Rattle.std.proofs.lemmas.Bool.{cases_eq, false≢true}
use Rattle.std.specs.List.{Contains}
use Rattle.std.proofs.lemmas.List.{get_or-replicate, get_or-take, get_or_default, length-replicate, length-take-le, set-get_or}
use Rattle.buffer_pool.specs.Rings.{ArePaired, IsRing}

-- the numbers f and s become partners, and what were theirs do
module _ (n : ℕ) (a b : List ℕ) (f s : ℕ) (long_a : length a ≡ n) (long_b : length b ≡ n) (inside_f : f < n) (inside_s : s < n)
    (there : (k : ℕ) → k < n → (get_or a k 0 < n) × (get_or b (get_or a k 0) 0 ≡ k))
    (back : (k : ℕ) → k < n → (get_or b k 0 < n) × (get_or a (get_or b k 0) 0 ≡ k)) where
  half : (k : ℕ) → k < n → (get_or (set (set a (get_or b s 0) (get_or a f 0)) f s) k 0 < n) × (get_or (set (set b (get_or a f 0) (get_or b s 0)) s f) (get_or (set (set a (get_or b s 0) (get_or a f 0)) f s) k 0) 0 ≡ k)
  half k inside =
      let own = get_or a f 0 in
      let other = get_or b s 0 in
      let mid_a = set a other own in
      let mid_b = set b own other in
      let now_a = set mid_a f s in
      let now_b = set mid_b s f in
      let own_in : own < n = (there f inside_f).0 in
      let other_in : other < n = (back s inside_s).0 in
      elim (cases_eq k f) [
        | inl is ↦
            let at : get_or now_a k 0 ≡ s = ap (λ (x : ℕ). get_or now_a x 0) is ∙ get_or-set_same mid_a f s 0 (omega (arith, inside_f, long_a, length-set a other own)) in
            (omega (arith, at, inside_s), ap (λ (x : ℕ). get_or now_b x 0) at ∙ get_or-set_same mid_b s f 0 (omega (arith, inside_s, long_b, length-set b own other)) ∙ sym is)
        | inr apart ↦ elim (cases_eq k other) [
          | inl is ↦
              let at : get_or now_a k 0 ≡ own = get_or-set_other mid_a f k s 0 apart ∙ ap (λ (x : ℕ). get_or mid_a x 0) is ∙ get_or-set_same a other own 0 (omega (arith, other_in, long_a)) in
              let not_s : own ≢ s = λ (e : own ≡ s). apart (is ∙ ap (λ (x : ℕ). get_or b x 0) (sym e) ∙ (there f inside_f).1) in
              (omega (arith, at, own_in), ap (λ (x : ℕ). get_or now_b x 0) at ∙ get_or-set_other mid_b s own f 0 not_s ∙ get_or-set_same b own other 0 (omega (arith, own_in, long_b)) ∙ sym is)
          | inr apart_other ↦
              let at : get_or now_a k 0 ≡ get_or a k 0 = get_or-set_other mid_a f k s 0 apart ∙ get_or-set_other a other k own 0 apart_other in
              let w = there k inside in
              let not_s : get_or a k 0 ≢ s = λ (e : get_or a k 0 ≡ s). apart_other (sym w.1 ∙ ap (λ (x : ℕ). get_or b x 0) e) in
              let not_own : get_or a k 0 ≢ own = λ (e : get_or a k 0 ≡ own). apart (sym w.1 ∙ ap (λ (x : ℕ). get_or b x 0) e ∙ (there f inside_f).1) in
              (omega (arith, at, w.0), ap (λ (x : ℕ). get_or now_b x 0) at ∙ get_or-set_other mid_b s (get_or a k 0) f 0 not_s ∙ get_or-set_other b own (get_or a k 0) other 0 not_own ∙ w.1)
        ]
      ]

-- the frame f sits in the seat s, and the one that sat there in its own
module _ (n : ℕ) (members seats : List ℕ) (f s : ℕ) (paired : ArePaired n members seats) (inside_f : f < n) (inside_s : s < n) where
  pub exchanged : ArePaired n (set (set members (get_or seats f 0) (get_or members s 0)) s f) (set (set seats (get_or members s 0) (get_or seats f 0)) f s)
  exchanged =
      let own = get_or seats f 0 in
      let other = get_or members s 0 in
      record {
        members_long = length-set (set members own other) s f ∙ length-set members own other ∙ paired.members_long;
        seats_long = length-set (set seats other own) f s ∙ length-set seats other own ∙ paired.seats_long;
        seat = half n seats members f s paired.seats_long paired.members_long inside_f inside_s paired.seat paired.member;
        member = half n members seats s f paired.members_long paired.seats_long inside_s inside_f paired.member paired.seat;
      }

  pub seat_here : get_or (set (set seats (get_or members s 0) (get_or seats f 0)) f s) f 0 ≡ s
  seat_here = get_or-set_same (set seats (get_or members s 0) (get_or seats f 0)) f s 0 (omega (arith, inside_f, paired.seats_long, length-set seats (get_or members s 0) (get_or seats f 0)))

  pub seat_there : get_or (set (set seats (get_or members s 0) (get_or seats f 0)) f s) (get_or members s 0) 0 ≡ get_or seats f 0
  seat_there =
      let own = get_or seats f 0 in
      let other = get_or members s 0 in
      let now = set (set seats other own) f s in
      elim (cases_eq other f) [
        | inl is ↦ ap (λ (x : ℕ). get_or now x 0) is ∙ seat_here ∙ sym (paired.member s inside_s).1 ∙ ap (λ (x : ℕ). get_or seats x 0) is
        | inr apart ↦ get_or-set_other (set seats other own) f other s 0 apart ∙ get_or-set_same seats other own 0 (omega (arith, paired.seats_long, (paired.member s inside_s).0))
      ]

  pub seat_others : (k : ℕ) → k ≢ f → k ≢ get_or members s 0 → get_or (set (set seats (get_or members s 0) (get_or seats f 0)) f s) k 0 ≡ get_or seats k 0
  seat_others k apart apart_other = get_or-set_other (set seats (get_or members s 0) (get_or seats f 0)) f k s 0 apart ∙ get_or-set_other seats (get_or members s 0) k (get_or seats f 0) 0 apart_other

-- two frames that sit in one seat are one
module _ (n : ℕ) (members seats : List ℕ) (paired : ArePaired n members seats) where
  pub sits : (k s : ℕ) → k < n → get_or seats k 0 ≡ s → k ≡ get_or members s 0
  sits k s inside e = sym (paired.seat k inside).1 ∙ ap (λ (x : ℕ). get_or members x 0) e

-- The frame f changes seats with the one in the seat s.
module _ (marks : List Bool) (members seats members' seats' : List ℕ) (count f s : ℕ) (ring : IsRing marks members seats count) (inside_f : f < length marks)
    (paired : ArePaired (length members) members' seats') (inside_s : s < length marks)
    (here : get_or seats' f 0 ≡ s) (there : get_or seats' (get_or members s 0) 0 ≡ get_or seats f 0)
    (others : (k : ℕ) → k ≢ f → k ≢ get_or members s 0 → get_or seats' k 0 ≡ get_or seats k 0) where
  pair : ArePaired (length marks) members seats
  pair = ring.paired

  -- another frame than f either had that seat and has f's now, or has its own, which is neither
  moved : (k : ℕ) → k < length marks → k ≢ f → ((get_or seats k 0 ≡ s) × (get_or seats' k 0 ≡ get_or seats f 0) × (get_or seats f 0 ≢ s)) ⊎ ((get_or seats' k 0 ≡ get_or seats k 0) × (get_or seats k 0 ≢ s))
  moved k inside apart = elim (cases_eq k (get_or members s 0)) [
    | inl is ↦ inl (
      ap (λ (x : ℕ). get_or seats x 0) is ∙ (pair.member s inside_s).1,
      ap (λ (x : ℕ). get_or seats' x 0) is ∙ there,
      λ (e : get_or seats f 0 ≡ s). apart (is ∙ sym (sits (length marks) members seats pair f s inside_f e)),
    )
    | inr other ↦ inr (others k apart other, λ (e : get_or seats k 0 ≡ s). other (sits (length marks) members seats pair k s inside e))
  ]

  mark_other : (b c : Bool) (k : ℕ) → k ≢ f → get_or (set marks f b) k false ≡ c → get_or marks k false ≡ c
  mark_other b c k apart e = sym (get_or-set_other marks f k b false apart) ∙ e

  mark_here : (b c : Bool) (k : ℕ) → k ≡ f → get_or (set marks f b) k false ≡ c → b ≡ c
  mark_here b c k is e = sym (get_or-set_same marks f b false inside_f) ∙ sym (ap (λ (x : ℕ). get_or (set marks f b) x false) is) ∙ e

  pairs : (b : Bool) → ArePaired (length (set marks f b)) members' seats'
  pairs b = subst (λ (n : ℕ). ArePaired n members' seats') (pair.members_long ∙ sym (length-set marks f b)) paired

  -- where s is the seat behind the ring's last one, the frame joins the ring
  pub joined : get_or marks f false ≡ false → s ≡ count → IsRing (set marks f true) members' seats' (count + 1)
  joined was last =
      let far : count ≤ get_or seats f 0 = ring.outside f inside_f was in
      let long : length (set marks f true) ≡ length marks = length-set marks f true in
      record {
        paired = pairs true;
        small = omega (arith, long, ring.small);
        within = omega (arith, long, inside_s, last);
        inside = λ k within e. elim (cases_eq k f) [
          | inl is ↦ omega (arith, ap (λ (x : ℕ). get_or seats' x 0) is, here, last)
          | inr apart ↦
              let low : get_or seats k 0 < count = ring.inside k (omega (arith, within, long)) (mark_other true true k apart e) in
              elim (moved k (omega (arith, within, long)) apart) [
                | inl it ↦ absurd (omega (arith, low, it.0, last))
                | inr it ↦ omega (arith, low, it.0)
              ]
        ];
        outside = λ k within e. elim (cases_eq k f) [
          | inl is ↦ absurd (false≢true (sym (mark_here true false k is e)))
          | inr apart ↦
              let high : count ≤ get_or seats k 0 = ring.outside k (omega (arith, within, long)) (mark_other true false k apart e) in
              elim (moved k (omega (arith, within, long)) apart) [
                | inl it ↦ omega (arith, far, it.1, it.2, last)
                | inr it ↦ omega (arith, high, it.0, it.1, last)
              ]
        ];
      }

  -- where s is the ring's last seat, the frame leaves it
  pub left : get_or marks f false ≡ true → count ≡ s + 1 → IsRing (set marks f false) members' seats' s
  left was last =
      let near : get_or seats f 0 < count = ring.inside f inside_f was in
      let long : length (set marks f false) ≡ length marks = length-set marks f false in
      record {
        paired = pairs false;
        small = omega (arith, long, ring.small);
        within = omega (arith, long, inside_s);
        inside = λ k within e. elim (cases_eq k f) [
          | inl is ↦ absurd (false≢true (mark_here false true k is e))
          | inr apart ↦
              let low : get_or seats k 0 < count = ring.inside k (omega (arith, within, long)) (mark_other false true k apart e) in
              elim (moved k (omega (arith, within, long)) apart) [
                | inl it ↦ omega (arith, near, it.1, it.2, last)
                | inr it ↦ omega (arith, low, it.0, it.1, last)
              ]
        ];
        outside = λ k within e. elim (cases_eq k f) [
          | inl is ↦ omega (arith, ap (λ (x : ℕ). get_or seats' x 0) is, here)
          | inr apart ↦
              let high : count ≤ get_or seats k 0 = ring.outside k (omega (arith, within, long)) (mark_other false false k apart e) in
              elim (moved k (omega (arith, within, long)) apart) [
                | inl it ↦ absurd (omega (arith, high, it.0, last))
                | inr it ↦ omega (arith, high, it.0, last)
              ]
        ];
      }

-- a mark that stands already
pub marked : (marks : List Bool) (f : ℕ) (b : Bool) → get_or marks f false ≡ b → set marks f b ≡ marks
marked marks f b e = ap (set marks f) (sym e) ∙ set-get_or marks f false

module _ (marks : List Bool) (members seats : List ℕ) (count : ℕ) (ring : IsRing marks members seats count) where
  -- the seat of a frame of the ring
  seat_of : (k : ℕ) → k < length marks → get_or marks k false ≡ true → (get_or seats k 0 < count) × (get_or members (get_or seats k 0) 0 ≡ k)
  seat_of k inside is = (ring.inside k inside is, (ring.paired.seat k inside).1)

  -- each seat has a frame
  pub seated : (n s : ℕ) → n ≡ length marks → s < length members → get_or members s 0 < n
  seated n s long inside = omega (arith, long, (ring.paired.member s (omega (arith, inside, ring.paired.members_long))).0)

  -- what no frame of the ring's seats passes, none of the ring does
  pub none_in_ring : (p : ℕ → Bool) → ((s : ℕ) → s < count → p (get_or members s 0) ≡ false) → (k : ℕ) → k < length marks → get_or marks k false ≡ true → p k ≡ false
  none_in_ring p none k inside is =
      let w = seat_of k inside is in
      sym (ap p w.1) ∙ none (get_or seats k 0) w.0

  -- the frames of the ring
  pub as_many : length (take count members) ≡ count
  as_many = length-take-le count members (omega (arith, ring.within, ring.paired.members_long))

  pub among : (k : ℕ) → k < length marks → get_or marks k false ≡ true → Contains (take count members) k
  among k inside is =
      let w = seat_of k inside is in
      let within : get_or seats k 0 < length members = omega (arith, w.0, ring.within, ring.paired.members_long) in (
        get_or seats k 0,
        omega (arith, w.0, as_many),
        get_or-take count members (get_or seats k 0) k w.0 ∙ get_or_default members (get_or seats k 0) k 0 within ∙ w.1,
      )

-- a ring without frames
pub empty_ring : (n : ℕ) (marks : List Bool) (members seats : List ℕ) → marks ≡ replicate n false → length members ≡ n → length seats ≡ n
    → ((k : ℕ) → k < n → get_or members k 0 ≡ k) → ((k : ℕ) → k < n → get_or seats k 0 ≡ k) → n < 2 ^ 32 → IsRing marks members seats 0
empty_ring n marks members seats is long_members long_seats own_members own_seats small =
    let long : length marks ≡ n = ap (λ (m : List Bool). length m) is ∙ length-replicate n false in
    record {
      paired = record {
        members_long = long_members ∙ sym long;
        seats_long = long_seats ∙ sym long;
        seat = λ k within. both members seats (length marks) k within (own_members k (omega (arith, within, long))) (own_seats k (omega (arith, within, long)));
        member = λ k within. both seats members (length marks) k within (own_seats k (omega (arith, within, long))) (own_members k (omega (arith, within, long)));
      };
      small = omega (arith, long, small);
      within = omega arith;
      inside = λ k within e. absurd (false≢true (sym (ap (λ (m : List Bool). get_or m k false) is ∙ get_or-replicate n k false false (omega (arith, within, long))) ∙ e));
      outside = λ k within e. omega arith;
    }
  where
    both : (a b : List ℕ) (m k : ℕ) → k < m → get_or a k 0 ≡ k → get_or b k 0 ≡ k → (get_or b k 0 < m) × (get_or a (get_or b k 0) 0 ≡ k)
    both a b m k within ea eb = (omega (arith, eb, within), ap (λ (x : ℕ). get_or a x 0) eb ∙ ea)
