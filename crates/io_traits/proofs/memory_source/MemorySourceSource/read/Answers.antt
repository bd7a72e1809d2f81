use Rattle.std.proofs.Common.{◌≡◌, ℕ, ◌+◌, ◌-◌, ◌<◌, List, [], ◌++◌, length, take, drop, min, sym, ap, ◌∙◌, arith, length-drop}
use Rattle.std.proofs.lemmas.List.{take-append-drop, take_rest, drop-drop, drop_all}
use Rattle.io_traits.specs.Memory.{Reading}
use Rattle.io_traits.proofs.memory_source.MemorySourceSource.read.Goals as goal

-- what is left from there on, in two parts
parts : (held bytes new : List ℕ) (at n : ℕ) → held ≡ bytes → take n new ≡ take n (take (length held - at) (drop at held)) → drop at bytes ≡ take n new ++ drop (at + n) bytes
parts held bytes new at n same copied =
    let rest : take (length held - at) (drop at held) ≡ drop at bytes = take_rest held at ∙ ap (drop at) same in
    let front : take n new ≡ take n (drop at bytes) = copied ∙ ap (take n) rest in
    sym (take-append-drop n (drop at bytes)) ∙ (λ i. sym front i ++ drop-drop n at bytes i)

-- nothing was given, since nothing is left
nothing : (held bytes : List ℕ) (at n piece room : ℕ) → held ≡ bytes → n ≡ min piece (min room (length (take (length held - at) (drop at held)))) → 0 < piece → n ≡ 0 → 0 < room → drop (at + n) bytes ≡ []
nothing held bytes at n piece room same count some none into =
    let rest : length (take (length held - at) (drop at held)) ≡ length bytes - at = ap length (take_rest held at ∙ ap (drop at) same) ∙ length-drop at bytes in
    drop_all (at + n) bytes (omega arith)

pub returns-clause-bytes : goal.returns-clause-bytes
returns-clause-bytes c =
    let told = c.copy_front-count.ensures in
    let room : length c.copy_front-count.new.into ≡ length c.args.into.now = c.copy_front-count.auto.into in
    let same = c.deref.ensures.value in (
      ap (λ (s : Reading). s.left) (sym c.self.view_is) ∙ parts _ _ c.copy_front-count.new.into c.self.inside.given c.copy_front-count.result same told.copied,
      λ none into. nothing _ _ c.self.inside.given c.copy_front-count.result c.self.inside.piece (length c.args.into.now) same told.count c.self.invariant.1 none (omega arith),
    )
