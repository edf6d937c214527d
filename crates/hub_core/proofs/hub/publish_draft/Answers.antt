use Rattle.std.proofs.Common.{◌≡◌, ℕ, ◌+◌, List, ◌++◌, ◌∷◌, [], ◌∙◌, Some, ap, get_or, length, sym, subst}
use Rattle.std.specs.Prelude.{slice_get}
use Rattle.std.proofs.lemmas.Option.{get_or_from_slice_get}
use Rattle.span_flatten.specs.Version.{IsVersion, Version, spans_of}
use Rattle.version_pieces.specs.Alike.{AreAlike}
use Rattle.version_history.specs.Tokens.{Token}
use Rattle.change_history.specs.Accepted.{operations_of}
use Rattle.hub_core.proofs.hub.publish_draft.Goals as goal

-- what is read at an index before and after there is room is the token that stands there
read_twice : (before after : List (Token Version)) (m n k : ℕ) (a b token : Token Version) → after ≡ before → m ≡ k → n ≡ k → slice_get before k ≡ Some token
    → a ≡ get_or before m a → b ≡ get_or after n b → a ≡ b
read_twice before after m n k a b token same at at_again there one other =
    let is_a : a ≡ token = one ∙ ap (λ i. get_or before i a) at ∙ get_or_from_slice_get before k token a there in
    let is_b : b ≡ token = other ∙ ap (λ (l : List (Token Version)). get_or l n b) same ∙ ap (λ i. get_or before i b) at_again ∙ get_or_from_slice_get before k token b there in
    is_a ∙ sym is_b

pub publish_next-requires : goal.publish_next-requires
publish_next-requires g c =
    let next = c.in_ok-next.next in
    let latest = c.requires.published in
    let same : c.index.result.now ≡ c.index-2.result.now =
    read_twice c.args.versions.now.items c.reserve.new.self.items c.len.result c.len-2.result (length c.args.history.now.changes) c.index.result.now c.index-2.result.now latest.0
    c.reserve.ensures.items c.len.ensures.value c.len-2.ensures.value latest.1 c.index.ensures c.index-2.ensures in
    record {
      alike = subst (λ (v : Version). AreAlike (spans_of v) (spans_of next.version) next.alike.front next.alike.behind)
          (c.look-previous.ensures ∙ ap (λ (t : Token Version). t.value) same) c.in_ok-next.ensures.alike;
    }

pub returns-in-Ok-clause-token : goal.returns-in-Ok-clause-token
returns-in-Ok-clause-token g c = λ change draft.
    subst (λ v. IsVersion (operations_of (c.args.history.now.changes ++ change ∷ [])) (length c.args.history.now.changes + 1) v) (sym c.in-Ok.ensures.ok) (c.in_ok-next.ensures.is change draft)
