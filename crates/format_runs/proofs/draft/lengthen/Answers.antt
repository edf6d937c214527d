use Rattle.std.proofs.Common.{◌≡◌, ◌<◌, ◌++◌, ◌∷◌, [], ℕ, List, replicate, sym, ap, subst, ◌∙◌}
use Rattle.std.proofs.lemmas.Result.{IfOk-weaker}
use Rattle.mark_anchors.specs.Formatting.{Format}
use Rattle.format_runs.specs.Runs.{AreMaximal, IsLast, Run, formats_of}
use Rattle.format_runs.proofs.Formats.{formats_longer}
use Rattle.format_runs.proofs.Apart.{last_format, maximal_back, maximal_longer}
use Rattle.format_runs.proofs.draft.lengthen.Goals as goal

pub returns-in-Some-clause-formats : goal.returns-in-Some-clause-formats
returns-in-Some-clause-formats c =
    let front : List Run = c.pop.new.self.items in
    let last : Run = c.in-Some.last in
    let n : ℕ = c.args.characters in
    let was : c.args.runs.now.items ≡ front ++ last ∷ [] = c.in-Some.ensures.items in
    let maximal : AreMaximal (front ++ last ∷ []) = subst AreMaximal was c.requires.maximal in
    let some : 0 < last.characters = (maximal_back front (last ∷ []) maximal).0 in
    λ format is.
    let same : last.format ≡ format = last_format front last format some (subst (λ (l : List Run). IsLast (formats_of l) format) was is) in
    IfOk-weaker c.push.result _ _
    (λ _ e. ap formats_of e ∙ ap (λ (r : Run). formats_of (front ++ r ∷ [])) c.longer.ensures ∙ formats_longer front last n
    ∙ ap (λ (l : List Run). formats_of l ++ replicate n last.format) (sym was) ∙ ap (λ (f : Format). formats_of c.args.runs.now.items ++ replicate n f) same)
    c.push.ensures

pub returns-in-Some-clause-maximal : goal.returns-in-Some-clause-maximal
returns-in-Some-clause-maximal c =
    let front : List Run = c.pop.new.self.items in
    let last : Run = c.in-Some.last in
    let n : ℕ = c.args.characters in
    let was : c.args.runs.now.items ≡ front ++ last ∷ [] = c.in-Some.ensures.items in
    let whole : AreMaximal (front ++ c.longer.result ∷ []) =
    subst (λ (r : Run). AreMaximal (front ++ r ∷ [])) (sym c.longer.ensures) (maximal_longer front last n (subst AreMaximal was c.requires.maximal)) in
    IfOk-weaker c.push.result _ _ (λ _ e. subst AreMaximal (sym e) whole) c.push.ensures
