use Rattle.std.proofs.Common.{◌≡◌, ◌∙◌, sym, ap, subst}
use Rattle.std.specs.Bool.{Decides, one_answer}
use Rattle.std.proofs.lemmas.Bool.{false≢true}
use Rattle.mark_anchors.specs.Formatting.{Format}
use Rattle.mark_anchors.proofs.Formats.{formatting_eq_Decides, same_fields}
use Rattle.mark_anchors.proofs.format.FormatPartialEq.eq.Goals as goal

pub returns-then-eq-clause-eq : goal.returns-then-eq-clause-eq
returns-then-eq-clause-eq c =
    let one : Format = record { values = c.self.inside.values; comments = c.self.inside.comments } in
    let two : Format = record { values = c.other.inside.values; comments = c.other.inside.comments } in
    let tells : Decides c.is_same.result (one ≡ two) = (λ yes. same_fields one two (c.eq.ensures.same.0 c.if-eq.true) (c.is_same.ensures.0 yes), λ is. c.is_same.ensures.1 (ap (λ (f : Format). f.comments) is)) in
    let same : Decides c.is_same.result (c.args.self.now ≡ c.args.other.now) =
    subst (λ (f : Format). Decides c.is_same.result (f ≡ c.args.other.now)) c.self.view_is (subst (λ (f : Format). Decides c.is_same.result (one ≡ f)) c.other.view_is tells) in
    one_answer _ _ same (formatting_eq_Decides c.args.self.now c.args.other.now)

pub returns-then-eq-clause-same : goal.returns-then-eq-clause-same
returns-then-eq-clause-same c =
    let one : Format = record { values = c.self.inside.values; comments = c.self.inside.comments } in
    let two : Format = record { values = c.other.inside.values; comments = c.other.inside.comments } in
    let tells : Decides c.is_same.result (one ≡ two) = (λ yes. same_fields one two (c.eq.ensures.same.0 c.if-eq.true) (c.is_same.ensures.0 yes), λ is. c.is_same.ensures.1 (ap (λ (f : Format). f.comments) is)) in
    let same : Decides c.is_same.result (c.args.self.now ≡ c.args.other.now) =
    subst (λ (f : Format). Decides c.is_same.result (f ≡ c.args.other.now)) c.self.view_is (subst (λ (f : Format). Decides c.is_same.result (one ≡ f)) c.other.view_is tells) in
    same

pub returns-else-eq-clause-eq : goal.returns-else-eq-clause-eq
returns-else-eq-clause-eq c =
    let one : Format = record { values = c.self.inside.values; comments = c.self.inside.comments } in
    let two : Format = record { values = c.other.inside.values; comments = c.other.inside.comments } in
    let tells : Decides c.eq.result (one ≡ two) = (λ yes. absurd (false≢true (sym c.if-eq.false ∙ yes)), λ is. c.eq.ensures.same.1 (ap (λ (f : Format). f.values) is)) in
    let same : Decides c.eq.result (c.args.self.now ≡ c.args.other.now) =
    subst (λ (f : Format). Decides c.eq.result (f ≡ c.args.other.now)) c.self.view_is (subst (λ (f : Format). Decides c.eq.result (one ≡ f)) c.other.view_is tells) in
    one_answer _ _ same (formatting_eq_Decides c.args.self.now c.args.other.now)

pub returns-else-eq-clause-same : goal.returns-else-eq-clause-same
returns-else-eq-clause-same c =
    let one : Format = record { values = c.self.inside.values; comments = c.self.inside.comments } in
    let two : Format = record { values = c.other.inside.values; comments = c.other.inside.comments } in
    let tells : Decides c.eq.result (one ≡ two) = (λ yes. absurd (false≢true (sym c.if-eq.false ∙ yes)), λ is. c.eq.ensures.same.1 (ap (λ (f : Format). f.values) is)) in
    let same : Decides c.eq.result (c.args.self.now ≡ c.args.other.now) =
    subst (λ (f : Format). Decides c.eq.result (f ≡ c.args.other.now)) c.self.view_is (subst (λ (f : Format). Decides c.eq.result (one ≡ f)) c.other.view_is tells) in
    same
