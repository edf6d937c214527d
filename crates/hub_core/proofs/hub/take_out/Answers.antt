use Rattle.std.proofs.Common.{◌≡◌, ℕ, ◌<◌, ◌≤◌, List, Some, length, arith, refl, sym, ap, ◌∙◌, subst, vec_len, ⊎_elim}
use Rattle.std.specs.Prelude.{slice_get, remove}
use Rattle.std.proofs.lemmas.Bool.{cases_lt}
use Rattle.std.proofs.lemmas.Option.{same_Some, slice_get_read, slice_get_within}
use Rattle.hub_core.proofs.hub.take_out.Goals as goal

pub returns-then-index-id : goal.returns-then-index-id
returns-then-index-id c =
    let ids = c.loop-index.ids.items in
    let index = c.loop-index.index in
    let same : ids ≡ c.args.ids.now.items = ap (λ v. v.items) c.loop-index.invariant.same in
    let within : index < length ids = omega arith in
    let read : slice_get ids index ≡ Some c.index.result.now = slice_get_read ids (length ids) index c.index.result.now refl within c.index.ensures in
    (index, subst (λ (m : List ℕ). slice_get m index ≡ Some c.args.id) same (read ∙ ap Some c.if-index-id.true), c.remove.ensures.items ∙ ap (λ (m : List ℕ). remove m index) same)

pub loop-index-preserved : goal.loop-index-preserved
loop-index-preserved c =
    let ids = c.loop-index.ids.items in
    let index = c.loop-index.index in
    let within : index < length ids = omega (arith, ap vec_len c.loop-index.invariant.same) in
    let read : slice_get ids index ≡ Some c.index.result.now = slice_get_read ids (length ids) index c.index.result.now refl within c.index.ensures in
    record {
      same = c.loop-index.invariant.same;
      none = λ k less at. ⊎_elim (λ (front : k < index). c.loop-index.invariant.none k front at)
          (λ (past : index ≤ k).
          let last : k ≡ index = omega (arith, less, past) in
          c.if-index-id.false (same_Some c.index.result.now c.args.id (sym read ∙ subst (λ n. slice_get ids n ≡ Some c.args.id) last at))) (cases_lt k index);
    }

pub returns : goal.returns
returns c =
    let ids = c.loop-index.ids.items in
    let same : c.args.ids.now.items ≡ ids = sym (ap (λ v. v.items) c.loop-index.invariant.same) in
    let at : slice_get ids c.requires.0 ≡ Some c.args.id = subst (λ (m : List ℕ). slice_get m c.requires.0 ≡ Some c.args.id) same c.requires.1 in
    let within : c.requires.0 < length ids = slice_get_within ids c.requires.0 c.args.id at in
    absurd (c.loop-index.invariant.none c.requires.0 (omega (arith, within, ap vec_len c.loop-index.invariant.same)) at)
