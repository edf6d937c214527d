use Rattle.std.proofs.Common.{◌≡◌, Some, refl, sym, subst, ◌∙◌}
use Rattle.std.specs.Option.{IsSome}
use Rattle.std.proofs.lemmas.Option.{same_Some}
use Rattle.change_ops.specs.declared.operation.Op.TheVariants.{Remove}
use Rattle.char_sequence.specs.Order.{IsAt}
use Rattle.char_sequence.specs.Tree.{Present}
use Rattle.version_windows.proofs.touched.place_removed.Goals as goal

pub unwrap-requires : goal.unwrap-requires
unwrap-requires c =
    let removed = c.requires.3 in
    let found : c.removed_by.result ≡ Some removed.0 = c.removed_by.ensures.only removed.0 ((c.requires.2.removes c.args.removal removed.0).0 removed.1) in
    subst IsSome (sym found) refl

pub place_alone-requires : goal.place_alone-requires
place_alone-requires c =
    let removed = c.requires.3 in
    let found : c.removed_by.result ≡ Some removed.0 = c.removed_by.ensures.only removed.0 ((c.requires.2.removes c.args.removal removed.0).0 removed.1) in
    let same : removed.0 ≡ c.unwrap.result = same_Some removed.0 c.unwrap.result (sym found ∙ c.unwrap.ensures) in
    (c.requires.0, c.requires.1, subst (Present c.requires.0) same (c.requires.1.named (Remove c.args.removal removed.0) removed.0 removed.1 refl))

pub returns-clause-place : goal.returns-clause-place
returns-clause-place c =
    λ ops held x removed.
    let found : c.removed_by.result ≡ Some x = c.removed_by.ensures.only x ((held.removes c.args.removal x).0 removed) in
    let same : c.unwrap.result ≡ x = same_Some c.unwrap.result x (sym c.unwrap.ensures ∙ found) in
    subst (λ y. IsAt c.args.sequence.now.elements y c.place_alone.result.low) same c.place_alone.ensures.place
