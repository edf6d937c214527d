use Rattle.std.proofs.Common.{◌≡◌, [], ◌∷◌, ◌++◌, List, ap, sym, ◌∙◌}
use Rattle.change_history.specs.Chronicle.{Chronicle}
use Rattle.span_flatten.specs.Version.{Version}
use Rattle.version_history.specs.Tokens.{Token}
use Rattle.hub_core.proofs.Opened.{none_open}
use Rattle.hub_core.proofs.Sound.{sound_start}
use Rattle.hub_core.proofs.hub.Core.new.Goals as goal

pub invariant_of-result : goal.invariant_of-result
invariant_of-result g c =
    let made : c.new.result ≡ record { size = c.size.result; changes = [] } = c.new.ensures in (
      ap (λ (h : Chronicle). h.size) made ∙ c.size.ensures,
      sound_start g.S.Sink.sent g.S.Sink.full _ c.in_ok-token.token (ap (λ (h : Chronicle). h.changes) made)
          (c.push_reserved.ensures.items ∙ ap (λ (l : List (Token Version)). l ++ c.in_ok-token.token ∷ []) (c.in_ok-reserve.ensures.items ∙ c.new-versions.ensures.items)) c.new-2.ensures.items c.in_ok-token.ensures,
      c.new-3.ensures.items ∙ sym (none_open 0 _ c.new-2.ensures.items),
    )
