use Rattle.std.proofs.Common.{◌≡◌, ℕ, List, ◌++◌, ◌∷◌, [], true, false, Err, sym, ◌∙◌, ap}
use Rattle.command_line.specs.DeclaredSchema.{part_on}
use Rattle.command_line.specs.Words.{part_text, index_text, has_column}
use Rattle.command_line.proofs.DeclaredLemmas.{column-found, column_missing}
use Rattle.command_line.proofs.PartsLoop.{others_of, left_next, found_next, found_lacks}
use Rattle.command_line.proofs.judge.judge_parts.Goals as goal

pub returns-then-not-has_column : goal.returns-then-not-has_column
returns-then-not-has_column c t i e =
    let h = c.parts.invariant in
    let first = c.in-Some.ensures.first h.0 h.1.are h.1.bytes in
    let found = h.2 t i e in
    let lacks : has_column c.in-Some.part.column.now t.columns ≡ false = let k : c.has_column.result ≡ has_column c.in-Some.part.column.now t.columns = c.has_column.ensures t i e in cc in
    found_lacks t.columns (index_text c.args.index.now) c.args.index.now.parts.now c.parts.rest.now h.0 found.0 (c.in-Some.part, c.in-Some.others) found.1 first
    (column_missing c.in-Some.part.column.now 0 t.columns lacks)
    ∙ ap Err (sym c.place.ensures)

pub parts-preserved : goal.parts-preserved
parts-preserved c =
    let h = c.parts.invariant in
    let all : List ℕ = c.args.index.now.parts.now in
    let first = c.in-Some.ensures.first h.0 h.1.are h.1.bytes in (
      others_of h.0,
      left_next all c.parts.rest.now h.0 (c.in-Some.part, c.in-Some.others) h.1 first c.in-Some.ensures.shorter,
      λ t i e.
          let found = h.2 t i e in
          let has : has_column c.in-Some.part.column.now t.columns ≡ true = let k : c.has_column.result ≡ has_column c.in-Some.part.column.now t.columns = c.has_column.ensures t i e in cc in
          let column = column-found c.in-Some.part.column.now 0 t.columns has in (
            found.0 ++ part_on (part_text c.in-Some.part) column.0 ∷ [],
            found_next t.columns (index_text c.args.index.now) all c.parts.rest.now h.0 found.0 (c.in-Some.part, c.in-Some.others) column.0 h.1 found.1 first column.1,
          ),
    )
