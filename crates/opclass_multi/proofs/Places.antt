-- elements that are moved to the front of a list, one place at a time
use Rattle.std.proofs.Common.{◌≡◌, ℕ, ◌+◌, ◌<◌, List, [], ◌∷◌, ◌++◌, length, take, drop, set, get_or, sym, ap, ◌∙◌, arith}
use Rattle.std.proofs.lemmas.List.{drop_more, drop-set-lt, take_more_set}
use Rattle.opclass_multi.specs.declared.element.Element.{Element}

pub next_of : (items : List Element) (at : ℕ) (next : Element) → at < length items → next ≡ get_or items at next → drop at items ≡ next ∷ drop (at + 1) items
next_of items at next below is = drop_more items at next below ∙ ap (λ (x : Element). x ∷ drop (at + 1) items) (sym is)

pub kept_items : (items : List Element) (kept at : ℕ) (last : Element) → kept < at → at < length items → take (kept + 1) (set items kept last) ≡ take kept items ++ last ∷ []
kept_items items kept at last behind below = take_more_set items kept last (omega arith)

pub rest_items : (items : List Element) (kept at : ℕ) (last : Element) → kept < at → drop (at + 1) (set items kept last) ≡ drop (at + 1) items
rest_items items kept at last behind = drop-set-lt (at + 1) items kept last (omega arith)
