use Rattle.std.proofs.Common.{◌≡◌, ℕ, ◌∙◌, List, Result, IfOk, length, map, ap, subst}
use Rattle.std.specs.Option.{option_map_or}
use Rattle.std.specs.List.{AllZip, slice_range}
use Rattle.std.specs.declared.alloc.AllocError.{AllocError}
use Rattle.std.proofs.lemmas.Slice.Zip.{AllZip-map}
use Rattle.rayon.specs.Numbers.{nat_range}
use Rattle.span_view.specs.Views.{view_of, view_at}
use Rattle.feeds.specs.Verdicts.{verdict_on}
use Rattle.stream_readers.proofs.Indexes.{by_index, between, if_ok, in_oks}
use Rattle.stream_readers.proofs.verdicts.verdicts_between.Goals as goal

pub returns : goal.returns
returns g c =
    let program = c.args.program.now in
    let version = c.args.version.now in
    let from = c.args.from in
    let to = c.args.to in
    let n = length version.rows in
    let ends = c.into_par_iter.ensures in
    let verdict = λ (i : ℕ). option_map_or (verdict_on program) (view_at version i) 0 in
    let Gives : List ℕ → List (Result ℕ AllocError) → Type 0 = AllZip (λ i r. IfOk r (λ v. v ≡ verdict i)) in
    let made = c.in_ok-collect.ensures in
    let chain = rw (c.map.ensures.base, c.map.ensures.f, c.with_min_len.ensures.base) at made.1 in
    let indexes = chain.1 ∙ (λ i. nat_range (ends.0 i) (ends.1 i)) in
    if_ok c.in_ok-collect.field-0 _ _ _ made.2 (λ v h.
    h.2 ∙ AllZip-map verdict chain.0 h.0 (in_oks AllocError (λ i v. v ≡ verdict i) chain.0 h.0 (subst (Gives chain.0) h.1 chain.2)) ∙ ap (map verdict) indexes
    ∙ between verdict from to n c.requires.order c.requires.within
    ∙ ap (λ l. slice_range l from to) (by_index (view_of version) (verdict_on program) 0 version.rows))
