use Rattle.std.proofs.Common.{refl, arith, get_or, []}
use Rattle.command_line.specs.DeclaredSchema.{nothing_declared}
use Rattle.command_line.proofs.DeclaredLemmas.{denotes_push, denotes_all, first-fault, told_fault}
use Rattle.command_line.proofs.judge.first_fault.Goals as goal

pub words-init : goal.words-init
words-init c = (nothing_declared, refl)

pub words-preserved : goal.words-preserved
words-preserved c =
    let before = c.words.invariant in
    let after = c.in_default.ensures before.0 before.1 in
    (after.0, denotes_push c.args.autos c.args.words.now c.words.word before.0 after.0 (get_or c.args.words.now c.words.word []) (omega arith) refl before.1 after.1)

pub returns-clause-memory : goal.returns-clause-memory
returns-clause-memory c e = (c.words.invariant.0, denotes_all c.args.autos c.args.words.now c.words.word c.words.invariant.0 (omega arith) c.words.invariant.1)

pub returns-in-Err-clause-form : goal.returns-in-Err-clause-form
returns-in-Err-clause-form c =
    let before = c.words.invariant in
    let faulty = c.in-Err.ensures before.0 before.1 in
    told_fault c.args.autos c.args.words.now c.words.word c.in-Err.at
    (first-fault c.args.autos c.args.words.now c.words.word c.in-Err.at before.0 (get_or c.args.words.now c.words.word []) (omega arith) refl before.1 faulty)
