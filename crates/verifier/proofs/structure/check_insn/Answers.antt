use Rattle.std.proofs.Common.{subst, rules}
use Rattle.std.specs.Bool.{IsTrue}
use Rattle.std.proofs.lemmas.Bool.{false≢true}
use Rattle.bpf_words.specs.Words.{program_of}
use Rattle.verifier.proofs.Structured.{least_fall, least_write, sound}
use Rattle.verifier.proofs.structure.check_insn.Goals as goal

pub returns-then-falls_off : goal.returns-then-falls_off
returns-then-falls_off c =
    let is : IsTrue c.falls_off.result = search rules in
    least_fall (program_of c.args.words.now) c.args.slot c.args.insn.now (λ fault. c.in_ok-check_jumps.ensures fault) (c.falls_off.ensures.0 is)

pub returns-then-writes_r10 : goal.returns-then-writes_r10
returns-then-writes_r10 c =
    let is : IsTrue c.writes_r10.result = search rules in
    least_write (program_of c.args.words.now) c.args.slot c.args.insn.now (λ fault. c.in_ok-check_jumps.ensures fault)
    (λ f. false≢true (subst IsTrue c.if-falls_off.false (c.falls_off.ensures.1 f)))
    (c.writes_r10.ensures.0 is)

pub returns : goal.returns
returns c =
    sound (program_of c.args.words.now) c.args.slot c.args.insn.now (λ fault. c.in_ok-check_jumps.ensures fault)
    (λ f. false≢true (subst IsTrue c.if-falls_off.false (c.falls_off.ensures.1 f)))
    (λ f. false≢true (subst IsTrue c.if-writes_r10.false (c.writes_r10.ensures.1 f)))
