use Rattle.std.proofs.Common.{◌≡◌, ◌+◌, ◌++◌, ◌∷◌, [], ℕ, List, length, take, drop, arith, ap, ◌∙◌, append_assoc}
use Rattle.std.proofs.lemmas.Option.{get_or_from_slice_get}
use Rattle.format_runs.specs.Runs.{Run, of_size}
use Rattle.format_runs.proofs.Slices.{slice_to_end}
use Rattle.format_runs.proofs.draft.sized.Goals as goal

pub returns : goal.returns
returns c =
    let runs : List Run = c.args.runs.now in
    let i : ℕ = c.args.index in
    let n : ℕ = c.args.characters in
    let front : List Run = take i runs in
    let rest : List Run = drop (i + 1) runs in
    λ run is.
    let one : c.in_ok-of_size.field-0 ≡ of_size run n =
    c.in_ok-of_size.ensures
    ∙ ap (λ (r : Run). of_size r n) (c.index-runs-index.is ∙ get_or_from_slice_get runs i run c.index-runs-index.result is) in
    c.in_ok-share_all-2.ensures ∙ ap (λ (l : List Run). c.push.new.runs.items ++ l) (slice_to_end runs (i + 1) (length runs) (omega arith))
    ∙ ap (λ (l : List Run). l ++ rest)
    (c.in_ok-push.ensures
    ∙ ap (λ (l : List Run). l ++ c.in_ok-of_size.field-0 ∷ []) (c.in_ok-share_all.ensures ∙ ap (λ (l : List Run). l ++ front) c.in_ok-next.ensures.items)
    ∙ ap (λ (r : Run). front ++ r ∷ []) one)
    ∙ append_assoc front (of_size run n ∷ []) rest
