use Rattle.std.proofs.Common.{◌≡◌, ◌+◌, arith, Some, length, set, take, drop, sym, ap, ◌∙◌, rules, subst}
use Rattle.std.specs.List.{slice_get, insert}
use Rattle.std.proofs.lemmas.Option.{same_Some, slice_get_within}
use Rattle.char_sequence.specs.Index.{HasId}
use Rattle.char_sequence.specs.Chunks.{AreCounts}
use Rattle.char_sequence.specs.Visible.{visible_text}
use Rattle.char_sequence.proofs.Chunking.{kept_split, split_same, here_at, dropped}
use Rattle.char_sequence.proofs.Counts.{counts_same}
use Rattle.char_sequence.proofs.chunk_list.ChunkList.split_chunk.Goals as goal

pub rename-requires : goal.rename-requires
rename-requires c =
    λ k e g none.
    let cs = c.self.inside.chunks.items in
    let p = c.args.position in
    let same = ap (λ v. v.chunks) c.self.view_is in
    let old : slice_get cs p ≡ Some c.requires.0 = ap (λ z. slice_get z p) same ∙ c.requires.1 in
    let grown : slice_get c.reserve.new.self.items p ≡ Some c.requires.0 = ap (λ z. slice_get z p) c.in_ok-reserve.ensures.items ∙ old in
    let here = here_at c.reserve.new.self.items p c.index_mut-left.result.now (slice_get_within c.reserve.new.self.items p _ grown) c.index_mut-left.ensures.value in
    let one = same_Some c.index_mut-left.result.now _ (sym here ∙ grown) in
    let right : c.as_slice.result.now ≡ drop c.args.at c.requires.0 = c.as_slice.ensures.value ∙ c.split-right.ensures.right ∙ ap (λ z. drop c.args.at z) one in
    let there = dropped c.requires.0 c.args.at k e (ap (λ z. slice_get z k) (sym right) ∙ g) in
    c.self.invariant.0.indexed.listed p c.requires.0 old there.0 e there.1 none

pub overflow_add-position : goal.overflow_add-position
overflow_add-position c =
    let same = ap (λ v. v.chunks) c.self.view_is in
    let low = slice_get_within c.self.inside.chunks.items c.args.position c.requires.0 (ap (λ z. slice_get z c.args.position) same ∙ c.requires.1) in
    let counted = c.self.invariant.0.indexed.counted in
    let fresh = c.split-name.ensures.name ∙ ap length c.in_ok-reserve-2.ensures.same in
    let fits = c.split-name.type_inv in
    omega (arith, low, counted, fresh, fits)

pub insert-requires : goal.insert-requires
insert-requires c =
    let same = ap (λ v. v.chunks) c.self.view_is in
    let low = slice_get_within c.self.inside.chunks.items c.args.position c.requires.0 (ap (λ z. slice_get z c.args.position) same ∙ c.requires.1) in
    let kept = ap length c.in_ok-reserve.ensures.items in
    let size : c.reserve.new.self.len ≡ length c.reserve.new.self.items = search rules in
    omega (arith, low, kept, size)

pub returns-clause-next : goal.returns-clause-next
returns-clause-next c =
    let same = ap (λ v. v.chunks) c.self.view_is in
    let low = slice_get_within c.self.inside.chunks.items c.args.position c.requires.0 (ap (λ z. slice_get z c.args.position) same ∙ c.requires.1) in
    let counted = c.self.invariant.0.indexed.counted in
    let fresh = c.split-name.ensures.name ∙ ap length c.in_ok-reserve-2.ensures.same in
    let fits = c.split-name.type_inv in
    omega (arith, low, counted, fresh, fits)

pub invariant_of-self-2 : goal.invariant_of-self-2
invariant_of-self-2 c =
    let cs = c.self.inside.chunks.items in
    let p = c.args.position in
    let same = ap (λ v. v.chunks) c.self.view_is in
    let room = c.in_ok-reserve.ensures.items in
    let old : slice_get cs p ≡ Some c.requires.0 = ap (λ z. slice_get z p) same ∙ c.requires.1 in
    let grown : slice_get c.reserve.new.self.items p ≡ Some c.requires.0 = ap (λ z. slice_get z p) room ∙ old in
    let here = here_at c.reserve.new.self.items p c.index_mut-left.result.now (slice_get_within c.reserve.new.self.items p _ grown) c.index_mut-left.ensures.value in
    let one = same_Some c.index_mut-left.result.now _ (sym here ∙ grown) in
    let chunks : c.insert.new.self.items ≡ insert (set cs p c.split-right.new.self) (p + 1) c.split-right.result = search rules in
    let names = c.split-name.ensures.names ∙ ap (λ z. insert z (p + 1) c.split-name.result) c.in_ok-reserve-2.ensures.same in
    let right = c.as_slice.ensures.value in
    let left : c.split-right.new.self ≡ take c.args.at c.requires.0 = c.split-right.ensures.left ∙ ap (λ z. take c.args.at z) one in
    let behind : c.split-right.result ≡ drop c.args.at c.requires.0 = c.split-right.ensures.right ∙ ap (λ z. drop c.args.at z) one in
    let whole = split_same cs c.insert.new.self.items p c.args.at c.requires.0 old (chunks ∙ ap (λ z. insert (set cs p z) (p + 1) c.split-right.result) left ∙ ap (λ z. insert (set cs p (take c.args.at c.requires.0)) (p + 1) z) behind) in
    let kept = kept_split cs _ _ _ _ _ p c.args.at c.split-name.result _ c.requires.0 c.split-right.new.self c.split-right.result c.self.invariant.0 old left behind chunks names
    (λ k e g. c.rename.ensures.renamed k e (ap (λ z. slice_get z k) right ∙ g))
    (λ q none. c.rename.ensures.kept q (subst (λ z. HasId z q → ⊥) (sym right) none)) in
    let counts = counts_same _ _ _ c.self.invariant.2 c.in_ok-reserve-3.ensures.same.0 c.in_ok-reserve-3.ensures.same.1 in
    (kept, c.self.invariant.1 ∙ ap (λ l. length (visible_text l)) (sym whole), subst (λ z. AreCounts z c.split.new.self) (sym chunks) (c.split.ensures cs counts))

pub returns-clause-split : goal.returns-clause-split
returns-clause-split c =
    λ chunk g.
    let cs = c.self.inside.chunks.items in
    let p = c.args.position in
    let same = ap (λ v. v.chunks) c.self.view_is in
    let room = c.in_ok-reserve.ensures.items in
    let grown : slice_get c.reserve.new.self.items p ≡ Some chunk = ap (λ z. slice_get z p) (room ∙ same) ∙ g in
    let here = here_at c.reserve.new.self.items p c.index_mut-left.result.now (slice_get_within c.reserve.new.self.items p _ grown) c.index_mut-left.ensures.value in
    let one = same_Some c.index_mut-left.result.now chunk (sym here ∙ grown) in
    let chunks : c.insert.new.self.items ≡ insert (set cs p c.split-right.new.self) (p + 1) c.split-right.result = search rules in
    chunks ∙ ap (λ z. insert (set z p c.split-right.new.self) (p + 1) c.split-right.result) same
    ∙ ap (λ z. insert (set c.args.self.now.chunks p z) (p + 1) c.split-right.result) (c.split-right.ensures.left ∙ ap (λ z. take c.args.at z) one)
    ∙ ap (λ z. insert (set c.args.self.now.chunks p (take c.args.at chunk)) (p + 1) z) (c.split-right.ensures.right ∙ ap (λ z. drop c.args.at z) one)
