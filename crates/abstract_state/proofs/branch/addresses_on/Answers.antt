use Rattle.std.proofs.Common.{◌≤◌, ◌+◌, ◌^◌, ◌∙◌, refl, sym, ap, arith}
use Rattle.abstract_state.specs.Lent.{base_of}
use Rattle.abstract_state.specs.declared.region.Region.{Region}
use Rattle.abstract_state.proofs.Sides.{at_left, at_right, at_neither}
use Rattle.abstract_state.proofs.Branches.{lent_holds}
use Rattle.abstract_state.proofs.branch.addresses_on.Goals as goal

pub returns-in_default-clause-sound : goal.returns-in_default-clause-sound
returns-in_default-clause-sound c = λ lengths m n a b h.
    let ma : a.0 ≤ c.args.x.offset.range.high = a.2.range.high in
    let mb : b.0 ≤ c.args.y.offset.range.high = b.2.range.high in
    let nx : c.args.x.offset.range.high ≤ 2 ^ 20 = c.args.x.near in
    let ny : c.args.y.offset.range.high ≤ 2 ^ 20 = c.args.y.near in
    let second = b.1 ∙ ap (λ (r : Region). base_of r + b.0) (sym c.requires.region) in
    let plain = sym (lent_holds c.args.x.region c.args.comparison m n a.0 b.0 c.requires.order a.1 second (omega arith) (omega arith)) ∙ h in
    absurd (at_neither _ lengths a.0 b.0 c.in_default.is (c.edge.ensures.contains lengths a.0 b.0 a.2 b.2 plain))

pub returns-clause-sound : goal.returns-clause-sound
returns-clause-sound c = λ lengths m n a b h.
    let ma : a.0 ≤ c.args.x.offset.range.high = a.2.range.high in
    let mb : b.0 ≤ c.args.y.offset.range.high = b.2.range.high in
    let nx : c.args.x.offset.range.high ≤ 2 ^ 20 = c.args.x.near in
    let ny : c.args.y.offset.range.high ≤ 2 ^ 20 = c.args.y.near in
    let second = b.1 ∙ ap (λ (r : Region). base_of r + b.0) (sym c.requires.region) in
    let plain = sym (lent_holds c.args.x.region c.args.comparison m n a.0 b.0 c.requires.order a.1 second (omega arith) (omega arith)) ∙ h in
    let w = c.edge.ensures.contains lengths a.0 b.0 a.2 b.2 plain in (
      _,
      refl,
      c.narrowed.ensures.sound lengths m a.0 a.1 (at_left _ _ lengths a.0 b.0 c.in-Some.is w),
      c.narrowed-2.ensures.sound lengths n b.0 b.1 (at_right _ _ lengths a.0 b.0 c.in-Some.is w),
    )

pub returns-clause-guards : goal.returns-clause-guards
returns-clause-guards c = λ region greater not t end. c.narrowed.ensures.ends region c.args.x.offset.range.low (c.in-Some.ensures.ends region refl greater not t end)
