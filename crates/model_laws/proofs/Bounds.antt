-- bounds and the numbers between them
use Rattle.std.specs.Prelude.{◌≡◌, ℤ, pos, ◌-ℤ◌, ◌<ℤ◌, ◌≤ℤ◌, int_lt, int_le, true, Option, None, Some, refl}
use Rattle.std.specs.Int.{int_max, int_min}
use Rattle.std.specs.Ordering.{int_eq}
use Rattle.std.proofs.Common.{arith, sym, ap, ◌∙◌}
use Rattle.std.proofs.lemmas.Int.{ints}
use Rattle.block_model.specs.Ranges.{is_from, is_below, leaves_room, starts_first, ends_last, same_bound, meets_before, touches}

-- some number is between bounds that leave room
pub record NumberBetween (l h : Option ℤ) : Type 0 where
  pub n : ℤ
  pub from : is_from l n ≡ true
  pub below : is_below h n ≡ true

pub number_between : (l h : Option ℤ) → leaves_room l h ≡ true → NumberBetween l h
number_between None None r = record { n = pos 0; from = refl; below = refl }
number_between None (Some h) r = record { n = h -ℤ pos 1; from = refl; below = grind (arith, ints) }
number_between (Some l) None r = record { n = l; from = grind (arith, ints); below = refl }
number_between (Some l) (Some h) r = record { n = l; from = grind (arith, ints); below = r }

-- and none is between others
pub room_for : (l h : Option ℤ) (n : ℤ) → is_from l n ≡ true → is_below h n ≡ true → leaves_room l h ≡ true
room_for None h n f b = refl
room_for (Some l) None n f b = refl
room_for (Some l) (Some h) n f b = grind (arith, ints)

pub from_first : (a b : Option ℤ) (n : ℤ) → starts_first a b ≡ true → is_from b n ≡ true → is_from a n ≡ true
from_first None b n s f = refl
from_first (Some a) (Some b) n s f = grind (arith, ints)
from_first (Some a) None n s f = grind arith

pub below_last : (a b : Option ℤ) (n : ℤ) → ends_last a b ≡ true → is_below b n ≡ true → is_below a n ≡ true
below_last None b n s f = refl
below_last (Some a) (Some b) n s f = grind (arith, ints)
below_last (Some a) None n s f = grind arith

-- a lower bound that no number between l and h is before isn't after l
pub first_of : (a l h : Option ℤ) → leaves_room l h ≡ true → ((n : ℤ) → is_from l n ≡ true → is_below h n ≡ true → is_from a n ≡ true) → starts_first a l ≡ true
first_of None l h r f = refl
first_of (Some a) None None r f = let e : int_le a (a -ℤ pos 1) ≡ true = f (a -ℤ pos 1) refl refl in grind (arith, ints)
first_of (Some a) None (Some h) r f =
    let n = int_min a h -ℤ pos 1 in
    let b : int_lt (int_min a h -ℤ pos 1) h ≡ true = grind (arith, ints) in
    let e : int_le a (int_min a h -ℤ pos 1) ≡ true = f (int_min a h -ℤ pos 1) refl b in grind (arith, ints)
first_of (Some a) (Some l) None r f = let here : int_le l l ≡ true = grind (arith, ints) in f l here refl
first_of (Some a) (Some l) (Some h) r f = let here : int_le l l ≡ true = grind (arith, ints) in f l here r

-- an upper bound that no number between l and h is beyond isn't before h
pub last_of : (a l h : Option ℤ) → leaves_room l h ≡ true → ((n : ℤ) → is_from l n ≡ true → is_below h n ≡ true → is_below a n ≡ true) → ends_last a h ≡ true
last_of None l h r f = refl
last_of (Some a) None None r f = let e : int_lt a a ≡ true = f a refl refl in grind (arith, ints)
last_of (Some a) (Some l) None r f =
    let b : int_le l (int_max a l) ≡ true = grind (arith, ints) in
    let e : int_lt (int_max a l) a ≡ true = f (int_max a l) b refl in grind (arith, ints)
last_of (Some a) None (Some h) r f =
    let b : int_lt (h -ℤ pos 1) h ≡ true = grind (arith, ints) in
    let e : int_lt (h -ℤ pos 1) a ≡ true = f (h -ℤ pos 1) refl b in grind (arith, ints)
last_of (Some a) (Some l) (Some h) r f =
    let s : int_le l (h -ℤ pos 1) ≡ true = grind (arith, ints) in
    let b : int_lt (h -ℤ pos 1) h ≡ true = grind (arith, ints) in
    let e : int_lt (h -ℤ pos 1) a ≡ true = f (h -ℤ pos 1) s b in grind (arith, ints)

-- the later of two lower bounds, and the earlier of two upper ones
abbrev later : Option ℤ → Option ℤ → Option ℤ
later None b = b
later (Some a) None = Some a
later (Some a) (Some b) = Some (int_max a b)

abbrev earlier : Option ℤ → Option ℤ → Option ℤ
earlier None b = b
earlier (Some a) None = Some a
earlier (Some a) (Some b) = Some (int_min a b)

room_later : (a b h : Option ℤ) → leaves_room a h ≡ true → leaves_room b h ≡ true → leaves_room (later a b) h ≡ true
room_later None b h r s = s
room_later (Some a) None h r s = r
room_later (Some a) (Some b) None r s = refl
room_later (Some a) (Some b) (Some h) r s = grind (arith, ints)

room_earlier : (l a b : Option ℤ) → leaves_room l a ≡ true → leaves_room l b ≡ true → leaves_room l (earlier a b) ≡ true
room_earlier l None b r s = s
room_earlier l (Some a) None r s = r
room_earlier None (Some a) (Some b) r s = refl
room_earlier (Some l) (Some a) (Some b) r s = grind (arith, ints)

from_later : (a b : Option ℤ) (n : ℤ) → is_from (later a b) n ≡ true → (is_from a n ≡ true) × (is_from b n ≡ true)
from_later None b n f = (refl, f)
from_later (Some a) None n f = (f, refl)
from_later (Some a) (Some b) n f = (grind (arith, ints), grind (arith, ints))

below_earlier : (a b : Option ℤ) (n : ℤ) → is_below (earlier a b) n ≡ true → (is_below a n ≡ true) × (is_below b n ≡ true)
below_earlier None b n f = (refl, f)
below_earlier (Some a) None n f = (f, refl)
below_earlier (Some a) (Some b) n f = (grind (arith, ints), grind (arith, ints))

-- some number is between two pairs of bounds where each lower one leaves room below each upper one
pub record CommonNumber (a b c d : Option ℤ) : Type 0 where
  pub n : ℤ
  pub from : (is_from a n ≡ true) × (is_from c n ≡ true)
  pub below : (is_below b n ≡ true) × (is_below d n ≡ true)

pub common_number : (a b c d : Option ℤ) → leaves_room a b ≡ true → leaves_room c d ≡ true → leaves_room a d ≡ true → leaves_room c b ≡ true → CommonNumber a b c d
common_number a b c d v k s t =
    let found : NumberBetween (later a c) (earlier b d) = number_between (later a c) (earlier b d) (room_earlier (later a c) b d (room_later a c b v t) (room_later a c d s k)) in
    record { n = found.n; from = from_later a c found.n found.from; below = below_earlier b d found.n found.below }

-- equal bounds
pub same_bound_is : (a b : Option ℤ) → same_bound a b ≡ true → a ≡ b
same_bound_is None None e = refl
same_bound_is None (Some b) e = grind arith
same_bound_is (Some a) None e = grind arith
same_bound_is (Some a) (Some b) e = let i : a ≡ b = grind (arith, ints) in ap Some i

pub same_lower : (a b : Option ℤ) → starts_first a b ≡ true → starts_first b a ≡ true → same_bound a b ≡ true
same_lower None None s t = refl
same_lower None (Some b) s t = grind arith
same_lower (Some a) None s t = grind arith
same_lower (Some a) (Some b) s t = grind (arith, ints)

pub same_upper : (a b : Option ℤ) → ends_last a b ≡ true → ends_last b a ≡ true → same_bound a b ≡ true
same_upper None None s t = refl
same_upper None (Some b) s t = grind arith
same_upper (Some a) None s t = grind arith
same_upper (Some a) (Some b) s t = grind (arith, ints)

pub touches_at : (a b : Option ℤ) (n : ℤ) → a ≡ Some n → b ≡ Some n → touches a b ≡ true
touches_at a b n e f = ap (λ (x : Option ℤ). touches x b) e ∙ ap (touches (Some n)) f ∙ (let here : int_eq n n ≡ true = grind (arith, ints) in here)

next_from : (l : Option ℤ) (n : ℤ) → is_from l (n -ℤ pos 1) ≡ true → is_from l n ≡ true
next_from None n f = refl
next_from (Some l) n f = grind (arith, ints)

one_before_below : (h : Option ℤ) (n : ℤ) → is_below h n ≡ true → is_below h (n -ℤ pos 1) ≡ true
one_before_below None n b = refl
one_before_below (Some h) n b = grind (arith, ints)

first_beyond : (h n : ℤ) → int_lt (n -ℤ pos 1) h ≡ true → ¬ (int_lt n h ≡ true) → h ≡ n
first_beyond h n b off = grind (arith, ints)

first_from : (l n : ℤ) → int_le l n ≡ true → ¬ (int_le l (n -ℤ pos 1) ≡ true) → l ≡ n
first_from l n f off = grind (arith, ints)

-- numbers between bounds end before n, where n - 1 is between them and n isn't
pub ends_at : (l h : Option ℤ) (n : ℤ) → is_from l (n -ℤ pos 1) ≡ true → is_below h (n -ℤ pos 1) ≡ true → ¬ ((is_from l n ≡ true) × (is_below h n ≡ true)) → h ≡ Some n
ends_at l None n f b off = absurd (off (next_from l n f, refl))
ends_at l (Some h) n f b off = ap Some (first_beyond h n b (λ e. off (next_from l n f, e)))

-- and begin at n, where n is between them and n - 1 isn't
pub begins_at : (l h : Option ℤ) (n : ℤ) → is_from l n ≡ true → is_below h n ≡ true → ¬ ((is_from l (n -ℤ pos 1) ≡ true) × (is_below h (n -ℤ pos 1) ≡ true)) → l ≡ Some n
begins_at None h n f b off = absurd (off (refl, one_before_below h n b))
begins_at (Some l) h n f b off = ap Some (first_from l n f (λ e. off (e, one_before_below h n b)))

-- where the first bounds end and the second begin at one number, it is in the second, and the one before in the first
pub record Touching (l h l' h' : Option ℤ) : Type 0 where
  pub n : ℤ
  pub in_first : (is_from l (n -ℤ pos 1) ≡ true) × (is_below h (n -ℤ pos 1) ≡ true)
  pub in_second : (is_from l' n ≡ true) × (is_below h' n ≡ true)

one_before_end : (l : Option ℤ) (h : ℤ) → leaves_room l (Some h) ≡ true → is_from l (h -ℤ pos 1) ≡ true
one_before_end None h r = refl
one_before_end (Some l) h r = grind (arith, ints)

room_begins : (l h : Option ℤ) (n : ℤ) → l ≡ Some n → leaves_room l h ≡ true → is_below h n ≡ true
room_begins l None n e r = refl
room_begins l (Some h) n e r = sym (ap (λ (x : Option ℤ). leaves_room x (Some h)) e) ∙ r

pub touching : (l h l' h' : Option ℤ) → leaves_room l h ≡ true → leaves_room l' h' ≡ true → touches h l' ≡ true → Touching l h l' h'
touching l (Some h) (Some l') h' r s e =
    let is : l' ≡ h = grind (arith, ints) in
    record {
      n = h;
      in_first = (one_before_end l h r, (let b : int_lt (h -ℤ pos 1) h ≡ true = grind (arith, ints) in b));
      in_second = ((let f : int_le l' h ≡ true = grind (arith, ints) in f), room_begins (Some l') h' h (ap Some is) s);
    }
touching l (Some h) None h' r s e = grind arith
touching l None l' h' r s e = grind arith

-- and none is in both
pub touching_apart : (h l' : Option ℤ) (n : ℤ) → touches h l' ≡ true → is_below h n ≡ true → is_from l' n ≡ true → ⊥
touching_apart (Some h) (Some l') n e b f = grind (arith, ints)
touching_apart (Some h) None n e b f = grind arith
touching_apart None l' n e b f = grind arith

-- an upper bound that isn't after a lower one
pub less_across : (h l : Option ℤ) (n m : ℤ) → meets_before h l ≡ true → is_below h n ≡ true → is_from l m ≡ true → n <ℤ m
less_across (Some h) (Some l) n m e b f = grind (arith, ints)
less_across (Some h) None n m e b f = grind arith
less_across None l n m e b f = grind arith

from_max : (l : Option ℤ) (a b : ℤ) → is_from l a ≡ true → is_from l (int_max a b) ≡ true
from_max None a b f = refl
from_max (Some l) a b f = grind (arith, ints)

below_min : (h : Option ℤ) (a b : ℤ) → is_below h b ≡ true → is_below h (int_min a b) ≡ true
below_min None a b f = refl
below_min (Some h) a b f = grind (arith, ints)

-- and where all numbers between the first bounds are less than all between the second
pub meets_where_less : (l h l' h' : Option ℤ) (a b : ℤ) → is_from l a ≡ true → is_below h a ≡ true → is_from l' b ≡ true → is_below h' b ≡ true
    → ((n m : ℤ) → is_from l n ≡ true → is_below h n ≡ true → is_from l' m ≡ true → is_below h' m ≡ true → n <ℤ m) → meets_before h l' ≡ true
meets_where_less l None l' h' a b fa ba fb bb less = let e : int_max a b <ℤ b = less (int_max a b) b (from_max l a b fa) refl fb bb in grind (arith, ints)
meets_where_less l (Some h) None h' a b fa ba fb bb less = let e : a <ℤ int_min a b = less a (int_min a b) fa ba refl (below_min h' a b bb) in grind (arith, ints)
meets_where_less l (Some h) (Some l') h' a b fa ba fb bb less =
    let r : leaves_room l (Some h) ≡ true = room_for l (Some h) a fa ba in
    let s : leaves_room (Some l') h' ≡ true = room_for (Some l') h' b fb bb in
    let below : int_lt (h -ℤ pos 1) h ≡ true = grind (arith, ints) in
    let from : int_le l' l' ≡ true = grind (arith, ints) in
    let e : (h -ℤ pos 1) <ℤ l' = less (h -ℤ pos 1) l' (one_before_end l h r) below from (room_begins (Some l') h' l' refl s) in
    grind (arith, ints)

-- ---- a number at or after another

pub record NumberAfter (l h : Option ℤ) (at : ℤ) : Type 0 where
  pub n : ℤ
  pub after : at ≤ℤ n
  pub from : is_from l n ≡ true
  pub below : is_below h n ≡ true

-- where an upper bound isn't after the second's, each number below it has one between the second bounds at or after it
pub number_after : (b l h : Option ℤ) (n : ℤ) → leaves_room l h ≡ true → ends_last h b ≡ true → is_below b n ≡ true → NumberAfter l h n
number_after b l None n r e u =
    let some : NumberBetween l None = number_between l None r in
    record { n = int_max some.n n; after = (let m : n ≤ℤ int_max some.n n = grind (arith, ints) in m); from = from_max l some.n n some.from; below = refl }
number_after (Some b) l (Some h) n r e u = record {
  n = h -ℤ pos 1;
  after = (let m : n ≤ℤ (h -ℤ pos 1) = grind (arith, ints) in m);
  from = one_before_end l h r;
  below = (let m : int_lt (h -ℤ pos 1) h ≡ true = grind (arith, ints) in m);
}
number_after None l (Some h) n r e u = grind arith

pub ends_where_reached : (a b l h : Option ℤ) (some : ℤ) → is_from a some ≡ true → is_below b some ≡ true → ((n : ℤ) → is_from a n ≡ true → is_below b n ≡ true → NumberAfter l h n) → ends_last h b ≡ true
ends_where_reached a b l None some f u all = refl
ends_where_reached a None l (Some h) some f u all =
    let m : NumberAfter l (Some h) (int_max some h) = all (int_max some h) (from_max a some h f) refl in
    let below : int_lt m.n h ≡ true = m.below in
    let after : int_max some h ≤ℤ m.n = m.after in grind (arith, ints)
ends_where_reached a (Some b) l (Some h) some f u all =
    let last : int_lt (b -ℤ pos 1) b ≡ true = grind (arith, ints) in
    let m : NumberAfter l (Some h) (b -ℤ pos 1) = all (b -ℤ pos 1) (one_before_end a b (room_for a (Some b) some f u)) last in
    let below : int_lt m.n h ≡ true = m.below in
    let after : (b -ℤ pos 1) ≤ℤ m.n = m.after in grind (arith, ints)

-- ---- a number at or before another

pub record NumberBefore (l h : Option ℤ) (at : ℤ) : Type 0 where
  pub n : ℤ
  pub before : n ≤ℤ at
  pub from : is_from l n ≡ true
  pub below : is_below h n ≡ true

-- where a lower bound isn't before the second's, each number from it on has one between the second bounds at or before it
pub number_before : (a l h : Option ℤ) (n : ℤ) → leaves_room l h ≡ true → starts_first l a ≡ true → is_from a n ≡ true → NumberBefore l h n
number_before a None h n r e f =
    let some : NumberBetween None h = number_between None h r in
    record { n = int_min n some.n; before = (let m : int_min n some.n ≤ℤ n = grind (arith, ints) in m); from = refl; below = below_min h n some.n some.below }
number_before (Some a) (Some l) h n r e f = record {
  n = l;
  before = (let m : l ≤ℤ n = grind (arith, ints) in m);
  from = (let m : int_le l l ≡ true = grind (arith, ints) in m);
  below = room_begins (Some l) h l refl r;
}
number_before None (Some l) h n r e f = grind arith

pub starts_where_preceded : (a b l h : Option ℤ) (some : ℤ) → is_from a some ≡ true → is_below b some ≡ true → ((n : ℤ) → is_from a n ≡ true → is_below b n ≡ true → NumberBefore l h n) → starts_first l a ≡ true
starts_where_preceded a b None h some f u all = refl
starts_where_preceded None b (Some l) h some f u all =
    let m : NumberBefore (Some l) h (int_min (l -ℤ pos 1) some) = all (int_min (l -ℤ pos 1) some) refl (below_min b (l -ℤ pos 1) some u) in
    let from : int_le l m.n ≡ true = m.from in
    let before : m.n ≤ℤ int_min (l -ℤ pos 1) some = m.before in grind (arith, ints)
starts_where_preceded (Some a) b (Some l) h some f u all =
    let first : int_le a a ≡ true = grind (arith, ints) in
    let m : NumberBefore (Some l) h a = all a first (room_begins (Some a) b a refl (room_for (Some a) b some f u)) in
    let from : int_le l m.n ≡ true = m.from in
    let before : m.n ≤ℤ a = m.before in grind (arith, ints)
