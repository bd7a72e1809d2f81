-- where a line feed stands
use Rattle.std.proofs.Common.{◌≡◌, ◌≢◌, ℕ, suc, ◌+◌, ◌<◌, List, [], ◌∷◌, ◌++◌, Option, None, Some, MatchOption, length, take, drop, get_or, sym, ap, ◌∙◌, subst, arith, get_or-take, length-take, length-append, append_assoc}
use Rattle.std.proofs.Math.Seq.{take-append-add, drop-append-add}
use Rattle.std.proofs.lemmas.Bool.{eq-eqb, eqb-true}
use Rattle.std.proofs.lemmas.List.{drop_more, take-append-drop}
use Rattle.memchr.specs.Find.{IsFirstByte, is_byte}
use Rattle.script_run.specs.Buffered.{HasNoFeed, FeedAt}

pub no_feed_append : (xs ys : List ℕ) → HasNoFeed xs → HasNoFeed ys → HasNoFeed (xs ++ ys)
no_feed_append [] ys h k = k
no_feed_append (x ∷ xs) ys h k = (h.0, no_feed_append xs ys h.1 k)

-- no byte is one where each isn't
no_feed_each : (xs : List ℕ) → ((k : ℕ) → k < length xs → get_or xs k 0 ≢ 10) → HasNoFeed xs
no_feed_each [] h = tt
no_feed_each (x ∷ xs) h = (h 0 (omega arith), no_feed_each xs (λ k b. h (suc k) (omega arith)))

-- what a search for one says
pub feed_at_first : (xs : List ℕ) (r : Option ℕ) → IsFirstByte (is_byte 10) xs r → MatchOption r (HasNoFeed xs) (λ at. FeedAt xs at)
feed_at_first xs None h = no_feed_each xs (λ k b e. h k (omega arith) b (eq-eqb _ _ e))
feed_at_first xs (Some at) h =
    let here : get_or xs at 0 ≡ 10 = eqb-true _ _ h.1 in
    let inside : at < length xs = h.0.high in
    record {
      inside = inside;
      splits = sym (take-append-drop at xs) ∙ ap (λ l. take at xs ++ l) (drop_more xs at 0 inside) ∙ ap (λ b. take at xs ++ b ∷ drop (at + 1) xs) here;
      first = no_feed_each (take at xs) (λ k b e. let below : k < at = omega (arith, length-take at xs) in h.0.before k (omega arith) below (eq-eqb _ _ (sym (get_or-take at xs k 0 below) ∙ e)));
    }

-- a line feed behind bytes without one
pub feed_behind : (xs ys : List ℕ) (n at : ℕ) → length xs ≡ n → HasNoFeed xs → FeedAt ys at → FeedAt (xs ++ ys) (n + at)
feed_behind xs ys n at long none feed =
    let front : take (n + at) (xs ++ ys) ≡ xs ++ take at ys = ap (λ k. take (k + at) (xs ++ ys)) (sym long) ∙ take-append-add xs ys at in
    let back : drop (n + at + 1) (xs ++ ys) ≡ drop (at + 1) ys = ap (λ k. drop k (xs ++ ys)) (let e : n + at + 1 ≡ length xs + (at + 1) = omega arith in e) ∙ drop-append-add xs ys (at + 1) in
    record {
      inside = let i : n + at < length (xs ++ ys) = omega (arith, length-append xs ys, feed.inside) in i;
      splits = ap (λ l. xs ++ l) feed.splits ∙ sym (append_assoc xs (take at ys) (10 ∷ drop (at + 1) ys)) ∙ ap (λ l. l ++ 10 ∷ drop (at + 1) ys) (sym front) ∙ ap (λ l. take (n + at) (xs ++ ys) ++ 10 ∷ l) (sym back);
      first = subst HasNoFeed (sym front) (no_feed_append xs (take at ys) none feed.first);
    }
