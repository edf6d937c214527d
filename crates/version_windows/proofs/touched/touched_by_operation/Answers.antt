use Rattle.std.proofs.Common.{refl, sym, subst, arith}
use Rattle.change_ops.specs.Operations.{Names, NamesRemoval}
use Rattle.version_laws.specs.Touched.{TouchesWithin}
use Rattle.version_windows.proofs.touched.touched_by_operation.Goals as goal

pub place_alone-requires-in-Remove : goal.place_alone-requires-in-Remove
place_alone-requires-in-Remove c = (
  c.requires.0,
  c.requires.1,
  c.requires.1.named c.args.operation.now c.in-Remove.target c.requires.3 (subst (λ o. Names o c.in-Remove.target) (sym c.in-Remove.is) refl),
)

pub place_removed-requires : goal.place_removed-requires
place_removed-requires c = (
  c.requires.0,
  c.requires.1,
  c.requires.2,
  c.requires.1.removals c.args.operation.now c.in-Revive.removal c.requires.3 (subst (λ o. NamesRemoval o c.in-Revive.removal) (sym c.in-Revive.is) refl),
)

pub returns-in-Revive-clause-touched : goal.returns-in-Revive-clause-touched
returns-in-Revive-clause-touched c =
    λ ops held.
    let alone = c.place_removed.ensures.alone in
    subst (TouchesWithin ops c.args.sequence.now.elements c.place_removed.result.low c.place_removed.result.high) (sym c.in-Revive.is)
    (λ x removed. (c.place_removed.result.low, c.place_removed.ensures.place ops held x removed, omega arith, omega (arith, alone)))

pub places_between-requires : goal.places_between-requires
places_between-requires c = (
  c.requires.0,
  c.requires.1,
  λ x names. c.requires.1.named c.args.operation.now x c.requires.3 (subst (λ o. Names o x) (sym c.in-AddMark.is) names),
)

pub places_between-requires-in-RemoveMark : goal.places_between-requires-in-RemoveMark
places_between-requires-in-RemoveMark c = (
  c.requires.0,
  c.requires.1,
  λ x names. c.requires.1.named c.args.operation.now x c.requires.3 (subst (λ o. Names o x) (sym c.in-RemoveMark.is) names),
)
