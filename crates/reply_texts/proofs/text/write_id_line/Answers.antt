use Rattle.std.proofs.Common.{rules, arith, ◌≡◌, ◌≤◌, ◌++◌, ◌∷◌, [], ℕ, List, decimal, codes, drop, length, sym, ap, ◌∙◌, append_assoc}
use Rattle.std.proofs.lemmas.Fmt.{length-decimal-le}
use Rattle.std.proofs.lemmas.List.{drop_all}
use Rattle.reply_texts.proofs.text.write_id_line.Goals as goal

pub write_digits-k-requires : goal.write_digits-k-requires
write_digits-k-requires c =
    let short : length (decimal c.from.result) ≤ 20 = search (rules, length-decimal-le 20) in search (rules, short, c.put_before-feed.ensures.start)

pub put_before-point-requires-clause-some : goal.put_before-point-requires-clause-some
put_before-point-requires-clause-some c =
    let short : length (decimal c.from.result) ≤ 20 = search (rules, length-decimal-le 20) in omega (arith, short, c.write_digits-k.ensures.start, c.put_before-feed.ensures.start)

pub write_digits-requires : goal.write_digits-requires
write_digits-requires c =
    let short : length (decimal c.from.result) ≤ 20 = search (rules, length-decimal-le 20) in
    let point : 20 ≤ c.put_before-point.result = omega (arith, short, c.write_digits-k.ensures.start, c.put_before-feed.ensures.start, c.put_before-point.ensures.start) in
    let digits : length (decimal c.args.id.now.t) ≤ 20 = search (rules, length-decimal-le 20) in search (rules, point, digits)

in_front : (t k a b d e old : List ℕ) → length old ≡ 42 → a ≡ t ++ b → b ≡ 46 ∷ d → d ≡ k ++ e → e ≡ 10 ∷ drop 42 old → a ≡ (t ++ codes "." ++ k) ++ codes "\n"
in_front t k a b d e old size first point second feed =
    let none : drop 42 old ≡ [] = drop_all 42 old (omega (arith, size)) in
    first ∙ ap (λ (l : List ℕ). t ++ l) (point ∙ ap (λ (l : List ℕ). 46 ∷ l) (second ∙ ap (λ (l : List ℕ). k ++ l) (feed ∙ ap (λ (l : List ℕ). 10 ∷ l) none))) ∙ sym (append_assoc (t ++ 46 ∷ []) k (10 ∷ []) ∙ append_assoc t (46 ∷ []) (k ++ 10 ∷ []))

pub returns-clause-text : goal.returns-clause-text
returns-clause-text c =
    in_front (decimal c.args.id.now.t) (decimal c.args.id.now.k) _ _ _ _ c.args.line.now c.requires c.write_digits.ensures.written c.put_before-point.ensures.text
    (c.write_digits-k.ensures.written ∙ ap (λ (n : ℕ). decimal n ++ drop c.put_before-feed.result c.put_before-feed.new.line) c.from.ensures) c.put_before-feed.ensures.text
