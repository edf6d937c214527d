-- Instructions of the same bytes are the same.
use Rattle.std.proofs.Common.{◌≡◌, [], ◌++◌, List, ℕ, Ok, refl, sym, ap, ◌∙◌}
use Rattle.bpf_words.specs.declared.instruction.Insn.{Insn}
use Rattle.bpf_words.specs.Encoding.{encoded}
use Rattle.bpf_words.specs.RoundTrip.{ReadsBack}
use Rattle.bpf_words.specs.Words.{read_at}

pub read_alike : (a b : Insn) → ReadsBack a (encoded a) → ReadsBack b (encoded b) → encoded a ≡ encoded b → a ≡ b
read_alike a b reads_a reads_b same =
    let first : read_at ([] ++ encoded a ++ []) 0 ≡ Ok a = reads_a [] [] 0 refl in
    let second : read_at ([] ++ encoded b ++ []) 0 ≡ Ok b = reads_b [] [] 0 refl in
    let both : read_at ([] ++ encoded a ++ []) 0 ≡ read_at ([] ++ encoded b ++ []) 0 = ap (λ (bytes : List ℕ). read_at ([] ++ bytes ++ []) 0) same in
    let okay : Ok a ≡ Ok b = sym first ∙ both ∙ second in
    cc
