use Rattle.std.proofs.Common.{◌≡◌, Ok, Err, Option, refl, subst}
use Rattle.std.specs.Prelude.{IfOk, IfErr}
use Rattle.bpf_words.specs.declared.instruction.Insn.{Insn}
use Rattle.assembler_lines.specs.Slots.{lines_of}
use Rattle.assembler_lines.specs.Statements.{Judged, Blank, Label, Plain, Onto, reading_of}
use Rattle.assembler.specs.Text.{IsFault}
use Rattle.assembler.proofs.Resolving.{line_is}
use Rattle.assembler.proofs.assembly.instruction_at.Goals as goal

pub returns-in-Ok-Blank-clause-insn : goal.returns-in-Ok-Blank-clause-insn
returns-in-Ok-Blank-clause-insn c =
    let says : Ok Blank ≡ reading_of c.args.line.now = rw (c.in-Ok-Blank.is, c.in-Ok-Blank.field-0-is) at c.reading.ensures in
    line_is (lines_of c.args.labels.now.source.now) c.args.index c.args.line.now (Ok Blank) c.requires.line says

pub returns-in-Ok-Label-clause-insn : goal.returns-in-Ok-Label-clause-insn
returns-in-Ok-Label-clause-insn c =
    let says : Ok (Label c.in-Ok-Label.name.now) ≡ reading_of c.args.line.now = rw (c.in-Ok-Label.is, c.in-Ok-Label.field-0-is) at c.reading.ensures in
    subst (λ (judged : Judged (Option Insn)). IfOk c.at_label.result (λ insn. Ok insn ≡ judged))
    (line_is (lines_of c.args.labels.now.source.now) c.args.index c.args.line.now (Ok (Label c.in-Ok-Label.name.now)) c.requires.line says) c.at_label.ensures.insn

pub returns-in-Ok-Label-clause-fault : goal.returns-in-Ok-Label-clause-fault
returns-in-Ok-Label-clause-fault c =
    let says : Ok (Label c.in-Ok-Label.name.now) ≡ reading_of c.args.line.now = rw (c.in-Ok-Label.is, c.in-Ok-Label.field-0-is) at c.reading.ensures in
    subst (λ (judged : Judged (Option Insn)). IfErr c.at_label.result (IsFault c.args.index judged))
    (line_is (lines_of c.args.labels.now.source.now) c.args.index c.args.line.now (Ok (Label c.in-Ok-Label.name.now)) c.requires.line says) c.at_label.ensures.fault

pub returns-in-Ok-Plain-clause-insn : goal.returns-in-Ok-Plain-clause-insn
returns-in-Ok-Plain-clause-insn c =
    let says : Ok (Plain c.in-Ok-Plain.insn) ≡ reading_of c.args.line.now = rw (c.in-Ok-Plain.is, c.in-Ok-Plain.field-0-is) at c.reading.ensures in
    line_is (lines_of c.args.labels.now.source.now) c.args.index c.args.line.now (Ok (Plain c.in-Ok-Plain.insn)) c.requires.line says

pub returns-in-Ok-Onto-clause-insn : goal.returns-in-Ok-Onto-clause-insn
returns-in-Ok-Onto-clause-insn c =
    let says : Ok (Onto c.in-Ok-Onto.jump c.in-Ok-Onto.name.now) ≡ reading_of c.args.line.now = rw (c.in-Ok-Onto.is, c.in-Ok-Onto.field-0-is) at c.reading.ensures in
    subst (λ (judged : Judged (Option Insn)). IfOk c.at_jump.result (λ insn. Ok insn ≡ judged))
    (line_is (lines_of c.args.labels.now.source.now) c.args.index c.args.line.now (Ok (Onto c.in-Ok-Onto.jump c.in-Ok-Onto.name.now)) c.requires.line says) c.at_jump.ensures.insn

pub returns-in-Ok-Onto-clause-fault : goal.returns-in-Ok-Onto-clause-fault
returns-in-Ok-Onto-clause-fault c =
    let says : Ok (Onto c.in-Ok-Onto.jump c.in-Ok-Onto.name.now) ≡ reading_of c.args.line.now = rw (c.in-Ok-Onto.is, c.in-Ok-Onto.field-0-is) at c.reading.ensures in
    subst (λ (judged : Judged (Option Insn)). IfErr c.at_jump.result (IsFault c.args.index judged))
    (line_is (lines_of c.args.labels.now.source.now) c.args.index c.args.line.now (Ok (Onto c.in-Ok-Onto.jump c.in-Ok-Onto.name.now)) c.requires.line says) c.at_jump.ensures.fault

pub returns-in-Err-clause-fault : goal.returns-in-Err-clause-fault
returns-in-Err-clause-fault c =
    let says : Err c.in-Err.fault ≡ reading_of c.args.line.now = rw c.in-Err.is at c.reading.ensures in
    rw c.fault_at.ensures (refl, line_is (lines_of c.args.labels.now.source.now) c.args.index c.args.line.now (Err c.in-Err.fault) c.requires.line says)
