use Rattle.std.proofs.Common.{Err, ap, ◌∙◌, arith}
use Rattle.command_line.specs.DeclaredSchema.{nothing_declared}
use Rattle.command_line.proofs.DeclaredLemmas.{words_one, fault_denotes_nothing, denotes_push, denotes_all, first-fault, told_fault, answers_fault}
use Rattle.command_line.proofs.declarations.read_declarations_with.Goals as goal

pub words-preserved : goal.words-preserved
words-preserved c =
    denotes_push c.args.autos c.args.words.now c.words.word c.words.schema c.declare.new.schema c.word.result.now (omega arith) c.word.ensures c.words.invariant c.in-Ok.ensures.ok

pub returns-in-Err-Form-clause-only : goal.returns-in-Err-Form-clause-only
returns-in-Err-Form-clause-only c =
    let faulty = c.declare.ensures.form c.in-Err-Form.at (c.in-Err-Form.is ∙ ap Err c.in-Err-Form.field-0-is) in
    fault_denotes_nothing c.args.autos c.args.words.now c.words.word c.in-Err-Form.at
    (first-fault c.args.autos c.args.words.now c.words.word c.in-Err-Form.at c.words.schema c.word.result.now (omega arith) c.word.ensures c.words.invariant faulty)

pub returns-in-Err-Memory-clause-only : goal.returns-in-Err-Memory-clause-only
returns-in-Err-Memory-clause-only c = answers_fault c.args.autos c.args.words.now c.first_fault.result c.first_fault.ensures.form

pub returns-clause-only : goal.returns-clause-only
returns-clause-only c schema h =
    words_one c.args.autos c.args.words.now nothing_declared c.words.schema schema (denotes_all c.args.autos c.args.words.now c.words.word c.words.schema (omega arith) c.words.invariant) h

pub returns-in-Err-Form-clause-form : goal.returns-in-Err-Form-clause-form
returns-in-Err-Form-clause-form c word at e =
    let faulty = c.declare.ensures.form c.in-Err-Form.at (c.in-Err-Form.is ∙ ap Err c.in-Err-Form.field-0-is) in
    told_fault c.args.autos c.args.words.now c.words.word c.in-Err-Form.at
    (first-fault c.args.autos c.args.words.now c.words.word c.in-Err-Form.at c.words.schema c.word.result.now (omega arith) c.word.ensures c.words.invariant faulty) word at (cc)
