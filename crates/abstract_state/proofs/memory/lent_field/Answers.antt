use Rattle.std.proofs.Common.{◌≡◌, true, false, Some, sym, ap, ◌∙◌, rules}
use Rattle.std.specs.Result.{IsOk, IfOk}
use Rattle.std.specs.Option.{IfSome}
use Rattle.std.proofs.lemmas.Result.{IfOk-weaker}
use Rattle.span_context.specs.Profile.{lends_link}
use Rattle.span_context.specs.ContextField.{offset_of}
use Rattle.abstract_state.specs.declared.region.Region.{Region}
use Rattle.abstract_state.specs.Lent.{Lends, begin_field, end_field, limit_of}
use Rattle.abstract_state.specs.Exact.{IsLentIn}
use Rattle.abstract_state.proofs.Regions.{each}
use Rattle.abstract_state.proofs.Memories.{lent_link}
use Rattle.abstract_state.proofs.memory.lent_field.Goals as goal

pub returns-else-lends_link-clause-sound : goal.returns-else-lends_link-clause-sound
returns-else-lends_link-clause-sound c = IfOk-weaker c.text_field.result _ _ (λ o h span same. h span) c.text_field.ensures.sound

pub returns-then-lends_link-clause-sound : goal.returns-then-lends_link-clause-sound
returns-then-lends_link-clause-sound c =
    let yes : c.lends_link.result ≡ true = search rules in
    IfOk-weaker c.link_field.result _ _ (λ o h span same. h span (ap lends_link same ∙ sym c.lends_link.ensures ∙ yes)) c.link_field.ensures.sound

pub returns-else-lends_link-clause-begin : goal.returns-else-lends_link-clause-begin
returns-else-lends_link-clause-begin c =
    let no : c.lends_link.result ≡ false = search rules in
    each
    (λ (r : Region). Lends r c.args.profile → offset_of c.args.field ≡ begin_field r → IsOk c.text_field.result × IfOk c.text_field.result (λ o. IfSome o (λ k. IsLentIn r 0 0 (Some 0) k)))
    (λ lends at. c.text_field.ensures.begin at)
    (λ lends at. let bad : false ≡ true = sym no ∙ c.lends_link.ensures ∙ lent_link c.args.profile lends in absurd (cc))

pub returns-else-lends_link-clause-end : goal.returns-else-lends_link-clause-end
returns-else-lends_link-clause-end c =
    let no : c.lends_link.result ≡ false = search rules in
    each
    (λ (r : Region). Lends r c.args.profile → offset_of c.args.field ≡ end_field r → IsOk c.text_field.result × IfOk c.text_field.result (λ o. IfSome o (λ k. IsLentIn r 0 (limit_of r) (Some 0) k)))
    (λ lends at. c.text_field.ensures.end at)
    (λ lends at. let bad : false ≡ true = sym no ∙ c.lends_link.ensures ∙ lent_link c.args.profile lends in absurd (cc))

pub returns-then-lends_link-clause-begin : goal.returns-then-lends_link-clause-begin
returns-then-lends_link-clause-begin c = each
    (λ (r : Region). Lends r c.args.profile → offset_of c.args.field ≡ begin_field r → IsOk c.link_field.result × IfOk c.link_field.result (λ o. IfSome o (λ k. IsLentIn r 0 0 (Some 0) k)))
    (λ lends at. c.link_field.ensures.begin at)
    (λ lends at. c.link_field.ensures.link_begin at)

pub returns-then-lends_link-clause-end : goal.returns-then-lends_link-clause-end
returns-then-lends_link-clause-end c = each
    (λ (r : Region). Lends r c.args.profile → offset_of c.args.field ≡ end_field r → IsOk c.link_field.result × IfOk c.link_field.result (λ o. IfSome o (λ k. IsLentIn r 0 (limit_of r) (Some 0) k)))
    (λ lends at. c.link_field.ensures.end at)
    (λ lends at. c.link_field.ensures.link_end at)
