use Rattle.std.proofs.Common.{rules, ◌≡◌}
use Rattle.bpf_words.specs.Encoding.{encoded}
use Rattle.call_inlining.proofs.Same.{read_alike}
use Rattle.call_inlining.proofs.instructions.is_same.Goals as goal

pub returns : goal.returns
returns c = λ same.
    let bytes : encoded c.args.a ≡ encoded c.args.b = search rules in
    read_alike c.args.a c.args.b c.encode-a.ensures.reads_back c.encode-b.ensures.reads_back bytes
