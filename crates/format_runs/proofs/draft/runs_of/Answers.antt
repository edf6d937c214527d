use Rattle.std.proofs.Common.{◌≡◌, ◌++◌, ◌∷◌, [], IfSome, List, None, Option, Some, sym, ap, subst, ◌∙◌}
use Rattle.std.specs.Option.{option_or}
use Rattle.std.proofs.lemmas.Option.{IfSome_then}
use Rattle.std.proofs.lemmas.List.{nil_from_length}
use Rattle.span_flatten.specs.declared.version.Row.{Row}
use Rattle.format_runs.proofs.draft.runs_of.Goals as goal

either : {X : Type 0} (P : X → Type 0) (o p : Option X) → IfSome o P → IfSome p P → IfSome (option_or o p) P
either P None p h k = k
either P (Some x) p h k = h

pub push_row-requires : goal.push_row-requires
push_row-requires c =
    let first : Row = c.in-Some.first.now in
    let none : c.in-Some.others.now ≡ [] = nil_from_length c.in-Some.others.now c.in_default-split_last.ensures.cases in
    let is : c.args.rows.now ≡ first ∷ [] = c.in-Some.ensures.cases.0 ∙ ap (λ (l : List Row). first ∷ l) none in
    subst (λ o. IfSome o (λ run. run.now.format ≡ first.format)) (sym c.or.ensures)
    (either (λ run. run.now.format ≡ first.format) c.args.begin c.args.end (IfSome_then c.args.begin c.requires.begin (λ run same. same first [] is)) (IfSome_then c.args.end c.requires.end (λ run same. same [] first is)))

pub push_row-requires-3 : goal.push_row-requires-3
push_row-requires-3 c =
    let first : Row = c.in-Some.first.now in
    let middle : List Row = c.in-Some-split_last.middle.now in
    let last : Row = c.in-Some-split_last.last.now in
    let is : c.args.rows.now ≡ (first ∷ middle) ++ last ∷ [] =
    c.in-Some.ensures.cases.0 ∙ ap (λ (l : List Row). first ∷ l) c.in-Some-split_last.ensures.cases.0 in
    IfSome_then c.args.end c.requires.end (λ run same. same (first ∷ middle) last is)
