use Rattle.std.proofs.Common.{◌+◌, ◌*◌, false, get_or, refl, sym, ◌∙◌, arith}
use Rattle.abstract_state.proofs.Frames.{mark_kept, mark_set}
use Rattle.abstract_state.proofs.Slots.{slot_kept, stored_byte}
use Rattle.abstract_state.proofs.stack.rewritten.Goals as goal

pub returns-then-first-offset-clause-contains : goal.returns-then-first-offset-clause-contains
returns-then-first-offset-clause-contains c = λ lengths old new i at s spares fills.
    slot_kept c.args.slot lengths old new i (λ j h. spares (8 * i + j) (λ a b. absurd (omega (arith, c.if-first-offset.true)))) s

pub returns-then-offset-count-clause-contains : goal.returns-then-offset-count-clause-contains
returns-then-offset-count-clause-contains c = λ lengths old new i at s spares fills.
    slot_kept c.args.slot lengths old new i (λ j h. spares (8 * i + j) (λ a b. absurd (omega (arith, c.if-offset-count.true)))) s

pub returns-clause-contains : goal.returns-clause-contains
returns-clause-contains c = λ lengths old new i at s spares fills j h m.
    stored_byte old new (get_or c.marks-marks.result j false) c.args.first c.args.offset c.args.count i j at (c.marks-marks.ensures.contains lengths old i s j h) spares fills (sym (c.with_store.ensures.each j h) ∙ m)

pub returns-then-first-offset-clause-stores : goal.returns-then-first-offset-clause-stores
returns-then-first-offset-clause-stores c = λ i at. record {
  before = λ h. refl;
  behind = λ h. refl;
  kept = λ j h m. m;
  set = λ j h a b. absurd (omega (arith, c.if-first-offset.true));
}

pub returns-then-offset-count-clause-stores : goal.returns-then-offset-count-clause-stores
returns-then-offset-count-clause-stores c = λ i at. record {
  before = λ h. refl;
  behind = λ h. refl;
  kept = λ j h m. m;
  set = λ j h a b. absurd (omega (arith, c.if-offset-count.true));
}

pub returns-clause-stores : goal.returns-clause-stores
returns-clause-stores c = λ i at. record {
  before = λ h. absurd (omega (arith, c.if-first-offset.false));
  behind = λ h. absurd (omega (arith, c.if-offset-count.false));
  kept = λ j h m. c.with_store.ensures.each j h ∙ mark_kept (get_or c.marks-marks.result j false) _ (c.marks-marks.ensures.marked j h m);
  set = λ j h a b. c.with_store.ensures.each j h ∙ mark_set (get_or c.marks-marks.result j false) c.args.offset c.args.first j c.args.count (omega arith) (omega arith);
}
