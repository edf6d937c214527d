use Rattle.std.proofs.Common.{rules, ◌++◌, ◌∙◌, List, ℕ, sym, ap}
use Rattle.bpf_words.specs.Words.{program_of}
use Rattle.disassembler.specs.Canonical.{line_of}
use Rattle.disassembler.proofs.Listing.{line_more}
use Rattle.disassembler.proofs.Joining.{program_again}
use Rattle.disassembler.proofs.disassemble.disassemble.Goals as goal

pub loop-index-preserved : goal.loop-index-preserved
loop-index-preserved c =
    let line = line_more (program_of c.args.words.now) c.loop-index.index c.insn.result c.insn.ensures.value in
    c.in_ok-push_line.ensures ∙ ap (λ (text : List ℕ). text ++ line_of c.insn.result) c.loop-index.invariant ∙ sym line

pub returns-in_err-push_line-clause-assembles : goal.returns-in_err-push_line-clause-assembles
returns-in_err-push_line-clause-assembles c = program_again c.args.words.now (search rules) (search rules)

pub returns-clause-assembles : goal.returns-clause-assembles
returns-clause-assembles c = program_again c.args.words.now (search rules) (search rules)
