use Rattle.std.proofs.Common.{◌≡◌, sym, ◌∙◌, arith}
use Rattle.std.proofs.lemmas.List.{take_all}
use Rattle.std.proofs.lemmas.Slice.Eq.{bytes_eq-Decides}
use Rattle.assembler_lines.proofs.mnemonics.is_word.Goals as goal

pub returns : goal.returns
returns c =
    let mnemonic = c.args.mnemonic.now in
    let word = c.args.word.now in
    let index = c.loop-index.index in
    let same : mnemonic ≡ word = sym (take_all index mnemonic (omega arith)) ∙ c.loop-index.invariant ∙ take_all index word (omega arith) in
    sym ((bytes_eq-Decides mnemonic word).1 same)
