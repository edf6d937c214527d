use Rattle.std.proofs.Common.{◌≡◌, ◌++◌, ◌∷◌, List, rules, replicate, sym, ap, subst, ◌∙◌}
use Rattle.std.proofs.lemmas.Result.{IfOk-weaker}
use Rattle.mark_anchors.specs.Formatting.{Format}
use Rattle.format_runs.specs.Runs.{AreAlike, AreApart, AreMaximal, Run, formats_of}
use Rattle.format_runs.proofs.Apart.{added_formats, added_maximal, alike_format, maximal_joined}
use Rattle.format_runs.proofs.draft.add_runs.Goals as goal

pub returns-then-not-join-clause-maximal : goal.returns-then-not-join-clause-maximal
returns-then-not-join-clause-maximal c =
    let apart : AreApart (formats_of c.args.runs.now.items) (formats_of c.args.more.items) = c.requires.apart (search rules) in
    let whole : AreMaximal (c.args.runs.now.items ++ c.args.more.items) = maximal_joined c.args.runs.now.items c.args.more.items c.requires.maximal c.requires.maximal_more apart in
    IfOk-weaker c.move_all.result _ _ (λ _ e. subst AreMaximal (sym e) whole) c.move_all.ensures

pub returns-clause-formats : goal.returns-clause-formats
returns-clause-formats c =
    let old : List Run = c.args.runs.now.items in
    let first : Run = c.in-Some.first.now in
    let others : List Run = c.in-Some.others.now in
    let same : c.args.more.items ≡ first ∷ others = (sym c.as_slice.ensures.value ∙ c.in-Some.ensures.cases.0) in
    let more : AreMaximal (first ∷ others) = subst AreMaximal same c.requires.maximal_more in
    let alike : AreAlike (formats_of old) (formats_of (first ∷ others)) =
    subst (λ (l : List Run). AreAlike (formats_of old) (formats_of l)) same (c.requires.alike (search rules)) in
    let formats : formats_of c.lengthen.new.runs.items ≡ formats_of old ++ replicate first.characters first.format =
    c.in_ok-lengthen.ensures.formats alike.format alike.last ∙ ap (λ n. formats_of old ++ replicate n alike.format) c.characters.ensures
    ∙ ap (λ (f : Format). formats_of old ++ replicate first.characters f) (alike_format (formats_of old) first others more.0 alike) in
    IfOk-weaker c.share_all.result _ _
    (λ _ e. ap formats_of e ∙ added_formats old c.lengthen.new.runs.items others first formats ∙ ap (λ (l : List Run). formats_of old ++ formats_of l) (sym same))
    c.share_all.ensures

pub returns-clause-maximal : goal.returns-clause-maximal
returns-clause-maximal c =
    let old : List Run = c.args.runs.now.items in
    let first : Run = c.in-Some.first.now in
    let others : List Run = c.in-Some.others.now in
    let same : c.args.more.items ≡ first ∷ others = (sym c.as_slice.ensures.value ∙ c.in-Some.ensures.cases.0) in
    let more : AreMaximal (first ∷ others) = subst AreMaximal same c.requires.maximal_more in
    let alike : AreAlike (formats_of old) (formats_of (first ∷ others)) =
    subst (λ (l : List Run). AreAlike (formats_of old) (formats_of l)) same (c.requires.alike (search rules)) in
    let formats : formats_of c.lengthen.new.runs.items ≡ formats_of old ++ replicate first.characters first.format =
    c.in_ok-lengthen.ensures.formats alike.format alike.last ∙ ap (λ n. formats_of old ++ replicate n alike.format) c.characters.ensures
    ∙ ap (λ (f : Format). formats_of old ++ replicate first.characters f) (alike_format (formats_of old) first others more.0 alike) in
    let whole : AreMaximal (c.lengthen.new.runs.items ++ others) =
    added_maximal old c.lengthen.new.runs.items others first formats c.in_ok-lengthen.ensures.maximal more in
    IfOk-weaker c.share_all.result _ _ (λ _ e. subst AreMaximal (sym e) whole) c.share_all.ensures
