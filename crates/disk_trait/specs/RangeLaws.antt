-- laws of a write elsewhere: a range that is sure stays sure, and its bytes stay
use Rattle.std.specs.Prelude.{◌≡◌, ◌⊎◌, ℕ, ◌+◌, ◌-◌, ◌≤◌, List, take, drop}
use Rattle.std.proofs.Common.{sym, ◌∙◌, ap, inl, inr, arith}
use Rattle.std.proofs.lemmas.List.{take-take, drop-drop, drop-take}
use Rattle.disk_trait.specs.Told.{Told}
use Rattle.disk_trait.specs.Torn.{Torn}
use Rattle.disk_trait.specs.Follows.{Follows}
use Rattle.disk_trait.specs.TornImage.{IsStableIn}

-- the m bytes from one offset on and the n bytes from another have none in common
abbrev pub AreApart : ℕ → ℕ → ℕ → ℕ → Type 0
AreApart from m at n = (from + m ≤ at) ⊎ (at + n ≤ from)

pub torn_apart : (from m at n : ℕ) (old new : List ℕ) → AreApart from m at n → Torn at n old new → take m (drop from new) ≡ take m (drop from old)
torn_apart from m at n old new (inl below) torn =
    sym (drop-take from m new)
    ∙ ap (drop from) (sym (take-take (from + m) at new below) ∙ ap (take (from + m)) torn.before ∙ take-take (from + m) at old below)
    ∙ drop-take from m old
torn_apart from m at n old new (inr above) torn =
    ap (take m) (ap (λ (k : ℕ). drop k new) (omega arith) ∙ sym (drop-drop (from - (at + n)) (at + n) new) ∙ ap (drop (from - (at + n))) torn.after ∙ drop-drop (from - (at + n)) (at + n) old ∙ ap (λ (k : ℕ). drop k old) (omega arith))

pub stays_stable : (from m at n : ℕ) (old new : Told) → AreApart from m at n → Torn at n old.contents new.contents → Follows (Torn at n) old new → IsStableIn from m old → IsStableIn from m new
stays_stable from m at n old new apart contents images stable c now =
    let d = images c now in
    torn_apart from m at n d.0 c apart d.2 ∙ stable d.0 d.1 ∙ sym (torn_apart from m at n old.contents new.contents apart contents)
