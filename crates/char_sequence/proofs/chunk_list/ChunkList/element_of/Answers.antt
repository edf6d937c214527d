use Rattle.std.proofs.Common.{◌≡◌, ℕ, ◌+◌, Some, get_or, sym, ap, subst, ◌∙◌}
use Rattle.std.specs.List.{slice_get}
use Rattle.char_sequence.specs.Chunks.{joined, start_of, IsSpotOf}
use Rattle.char_sequence.proofs.Chunking.{spot_element, here_at, position_here, at_within}
use Rattle.char_sequence.proofs.chunk_list.ChunkList.element_of.Goals as goal

pub returns : goal.returns
returns c =
    let e = c.index-as_slice-spot.result in
    let d = c.index.result.now in
    let spot : IsSpotOf c.self.inside.chunks.items c.args.id c.in_ok-spot.spot.position c.in_ok-spot.spot.at =
    subst (λ v. IsSpotOf v.chunks c.args.id c.in_ok-spot.spot.position c.in_ok-spot.spot.at) (sym c.self.view_is) c.in_ok-spot.ensures.found in
    let here = here_at _ _ d (position_here _ _ _ _ spot) c.index.ensures in
    let at : e ≡ get_or d c.in_ok-spot.spot.at e = c.index-as_slice-spot.is ∙ ap (λ z. get_or z c.in_ok-spot.spot.at e) c.as_slice.ensures.value in
    let g = here_at d _ e (at_within _ _ _ _ spot d here) at in
    let r = spot_element _ _ _ _ spot d here e g in
    subst (λ v. (k : ℕ) × (slice_get (joined v.chunks) k ≡ Some e) × (e.id ≡ c.args.id)) c.self.view_is (start_of c.self.inside.chunks.items c.in_ok-spot.spot.position + c.in_ok-spot.spot.at, r.0, r.1)
