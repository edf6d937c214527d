use Rattle.std.proofs.Common.{◌≡◌, ◌+◌, ◌<◌, List, Some, length, drop, sym, ap, subst, ◌∙◌, arith}
use Rattle.std.specs.List.{slice_get}
use Rattle.std.proofs.lemmas.Option.{slice_get_within}
use Rattle.char_sequence.specs.declared.sequence.Element.{Element}
use Rattle.char_sequence.specs.Chunks.{joined, start_of}
use Rattle.char_sequence.specs.Visible.{visible_count, IsFirstVisible}
use Rattle.char_sequence.proofs.Chunking.{here_at, option_at}
use Rattle.char_sequence.proofs.Joined.{start_within}
use Rattle.char_sequence.proofs.Counts.{lengths_few}
use Rattle.char_sequence.proofs.Nearest.{none_from, start_between, first_in_chunks, some_within}
use Rattle.char_sequence.proofs.chunk_list.ChunkList.first_visible_from.Goals as goal

pub returns-in_err-position : goal.returns-in_err-position
returns-in_err-position c =
    let cs = c.self.inside.chunks.items in
    let p = c.args.chunk.position in
    let start : c.args.chunk.start ≡ start_of cs p = c.requires.1 ∙ ap (λ v. start_of v.chunks p) (sym c.self.view_is) in
    rw c.from_residual.ensures
    (ap (λ v. visible_count (drop c.args.chunk.start (joined v.chunks))) (sym c.self.view_is)
    ∙ none_from cs c.self.inside.counts c.self.invariant.2 p c.args.chunk.start start c.in_err-position.ensures)

pub length_between-requires-clause-few : goal.length_between-requires-clause-few
length_between-requires-clause-few c =
    let few = c.self.invariant.0.few in
    let same = lengths_few c.self.inside.chunks.items c.self.inside.counts c.self.invariant.2 in
    omega (arith, few, same)

pub overflow_add-start : goal.overflow_add-start
overflow_add-start c =
    let cs = c.self.inside.chunks.items in
    let p = c.args.chunk.position in
    let q = c.in_ok-position.position in
    let start : c.args.chunk.start ≡ start_of cs p = c.requires.1 ∙ ap (λ v. start_of v.chunks p) (sym c.self.view_is) in
    let reached = c.in_ok-position.ensures.reached in
    let far = start_between cs c.self.inside.counts c.self.invariant.2 p q reached in
    let within = start_within cs q in
    let few = c.self.invariant.0.few in
    let between = c.length_between.ensures in
    omega (arith, start, far, within, few, between)

pub overflow_add-result : goal.overflow_add-result
overflow_add-result c =
    let cs = c.self.inside.chunks.items in
    let p = c.args.chunk.position in
    let q = c.in_ok-position.position in
    let start : c.args.chunk.start ≡ start_of cs p = c.requires.1 ∙ ap (λ v. start_of v.chunks p) (sym c.self.view_is) in
    let reached = c.in_ok-position.ensures.reached in
    let far = start_between cs c.self.inside.counts c.self.invariant.2 p q reached in
    let within = start_within cs q in
    let few = c.self.invariant.0.few in
    let between = c.length_between.ensures in
    let es = c.as_slice-elements.result.now in
    let first = option_at _ (λ k. IsFirstVisible es 0 k) c.first_visible.result c.unwrap-at.result c.unwrap-at.ensures c.first_visible.ensures in
    let less = slice_get_within es c.unwrap-at.result first.visible.0 first.visible.1 in
    let short = ap length c.as_slice-elements.ensures.value in
    let most = c.as_slice-elements.ensures.few in
    omega (arith, start, far, within, few, between, less, short, most)

pub returns : goal.returns
returns c =
    let cs = c.self.inside.chunks.items in
    let p = c.args.chunk.position in
    let q = c.in_ok-position.position in
    let some = c.in_ok-position.ensures in
    let start : c.args.chunk.start ≡ start_of cs p = c.requires.1 ∙ ap (λ v. start_of v.chunks p) (sym c.self.view_is) in
    let far = start_between cs c.self.inside.counts c.self.invariant.2 p q some.reached in
    let between = c.length_between.ensures in
    let begin = c.args.chunk.start + c.length_between.result in
    let begins : begin ≡ start_of cs q = omega (arith, start, far, between) in
    let low : q < length cs = some_within cs c.self.inside.counts c.self.invariant.2 q some.some in
    let here : slice_get cs q ≡ Some c.index.result.now = here_at cs q c.index.result.now low c.index.ensures in
    let es = c.as_slice-elements.result.now in
    let first = option_at _ (λ k. IsFirstVisible es 0 k) c.first_visible.result c.unwrap-at.result c.unwrap-at.ensures c.first_visible.ensures in
    subst (λ v. IsFirstVisible (joined v.chunks) c.args.chunk.start (begin + c.unwrap-at.result)) c.self.view_is
    (first_in_chunks cs c.self.inside.counts c.self.invariant.2 p q c.index.result.now c.args.chunk.start begin c.unwrap-at.result here start begins some
    (subst (λ (z : List Element). IsFirstVisible z 0 c.unwrap-at.result) c.as_slice-elements.ensures.value first))
