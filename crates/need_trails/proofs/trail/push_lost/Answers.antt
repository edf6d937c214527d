use Rattle.std.proofs.Common.{ℕ, List, [], ◌∷◌, ◌++◌, codes, ap, sym, string_bytes, append_assoc}
use Rattle.std.proofs.lemmas.Result.{IfOk-equal}
use Rattle.std.specs.Fmt.{decimal}
use Rattle.need_trails.proofs.trail.push_lost.Goals as goal

pub returns : goal.returns
returns c =
    let text = string_bytes c.args.text.now in
    let first = codes "known before slot " ++ decimal c.args.slot in
    let last = codes ", not behind it" in
    IfOk-equal c.writeln.result (string_bytes c.writeln.new.self) (text ++ (first ++ (last ++ 10 ∷ []))) (text ++ (first ++ last ++ 10 ∷ [])) c.writeln.ensures.bytes
    (ap (λ (line : List ℕ). text ++ line) (sym (append_assoc first last (10 ∷ []))))
