-- The lowest block that is sought.
use Rattle.std.proofs.Common.{◌≡◌, ◌≢◌, ℕ, ◌+◌, ◌<◌, ◌≤◌, Bool, true, false, List, length, get_or, set, sym, ap, ⊎_elim, ◌∙◌, arith}
use Rattle.std.proofs.lemmas.Bool.{cases_lt}
use Rattle.std.proofs.lemmas.List.{get_or_default, get_or_past}
use Rattle.page_map.specs.declared.facts.PageFacts.{PageFacts}
use Rattle.page_map.specs.declared.lowest.Sought.{Sought}
use Rattle.page_map.specs.declared.lowest.Sought.TheVariants as sought
use Rattle.page_map.specs.Filled.{filled}
use Rattle.page_map.specs.Lowest.{IsLowest, is_sought}
use Rattle.page_map.specs.PageFacts.{facts_in, no_facts}
use Rattle.page_map.proofs.Filling.{filled_set-other}

-- facts that were read
pub read_sought : (wanted : Sought) (facts : List PageFacts) (n : ℕ) (one : PageFacts) (b : Bool) → n < length facts → one ≡ get_or facts n one → b ≡ is_sought wanted one → is_sought wanted (facts_in facts n) ≡ b
read_sought wanted facts n one b there is e = ap (is_sought wanted) (sym (is ∙ get_or_default facts n one no_facts there)) ∙ sym e

pub room_past : (facts : List PageFacts) (n : ℕ) → length facts ≤ n → is_sought sought.Room (facts_in facts n) ≡ false
room_past facts n past = ap (is_sought sought.Room) (get_or_past facts n no_facts past)

-- none is found up to the last block
pub room_end : (wanted : Sought) (facts : List PageFacts) (limit n : ℕ) → wanted ≡ sought.Room → length facts ≤ n → ((other : ℕ) → other < n → is_sought wanted (facts_in facts other) ≡ false) → IsLowest wanted facts limit limit
room_end wanted facts limit n is all lower = record {
  within = omega arith;
  lower = λ other low.
      ⊎_elim
      (λ inside. lower other (omega (arith, inside, all)))
      (λ past. ap (λ (s : Sought). is_sought s (facts_in facts other)) is ∙ room_past facts other past)
      (cases_lt other (length facts));
  found = λ below. absurd (omega arith);
}

pub unstarted_end : (wanted : Sought) (facts : List PageFacts) (limit n : ℕ) → wanted ≡ sought.Unstarted → length facts ≤ n → length facts ≤ limit → ((other : ℕ) → other < n → is_sought wanted (facts_in facts other) ≡ false) → IsLowest wanted facts limit (length facts)
unstarted_end wanted facts limit n is all few lower = record {
  within = few;
  lower = λ other low. lower other (omega (arith, low, all));
  found = λ below. ap (λ (s : Sought). is_sought s (facts_in facts (length facts))) is ∙ ap (is_sought sought.Unstarted) (get_or_past facts (length facts) no_facts (omega arith));
}

-- after a change of the block at a place

pub lower_kept : (wanted : Sought) (facts new : List PageFacts) (limit lowest at : ℕ) (one : PageFacts) → IsLowest wanted facts limit lowest → new ≡ set (filled no_facts (at + 1) facts) at one
    → (other : ℕ) → other < lowest → other ≢ at → is_sought wanted (facts_in new other) ≡ false
lower_kept wanted facts new limit lowest at one is e other low differ =
    ap (λ (l : List PageFacts). is_sought wanted (facts_in l other)) e ∙ ap (is_sought wanted) (filled_set-other no_facts facts at one other differ) ∙ is.lower other low

pub found_kept : (wanted : Sought) (facts new : List PageFacts) (limit lowest at : ℕ) (one : PageFacts) → IsLowest wanted facts limit lowest → new ≡ set (filled no_facts (at + 1) facts) at one
    → lowest < limit → lowest ≢ at → is_sought wanted (facts_in new lowest) ≡ true
found_kept wanted facts new limit lowest at one is e below differ =
    ap (λ (l : List PageFacts). is_sought wanted (facts_in l lowest)) e ∙ ap (is_sought wanted) (filled_set-other no_facts facts at one lowest differ) ∙ is.found below
