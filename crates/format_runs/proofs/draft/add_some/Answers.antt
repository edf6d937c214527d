use Rattle.std.proofs.Common.{◌<◌, ◌++◌, ◌∷◌, [], arith, sym, subst}
use Rattle.std.proofs.lemmas.Result.{IfOk-weaker}
use Rattle.format_runs.specs.Runs.{AreMaximal, Run}
use Rattle.format_runs.proofs.Apart.{maximal_push}
use Rattle.format_runs.proofs.draft.add_some.Goals as goal

pub returns-clause-maximal : goal.returns-clause-maximal
returns-clause-maximal c =
    let some : 0 < c.args.characters = omega (arith, c.if-characters-eq0.false) in
    IfOk-weaker c.push.result _ _
    (λ _ e. subst AreMaximal (sym e) (subst (λ (run : Run). AreMaximal (c.args.runs.now.items ++ run ∷ [])) (sym c.in_ok-of_size.ensures)
    (maximal_push c.args.runs.now.items _ c.requires.maximal some (c.requires.apart some))))
    c.push.ensures
