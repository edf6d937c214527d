use Rattle.std.proofs.Common.{sym, inl}
use Rattle.change_ops.specs.Sizes.{most_characters, most_marks}
use Rattle.change_ops.specs.Operations.{is_insert, is_mark}
use Rattle.std.proofs.Common.{◌++◌}
use Rattle.change_history.proofs.Counting.{at_limit, below_limit, not_full, not_unknown}
use Rattle.change_history.proofs.parts.Parts.check.Goals as goal

pub returns-then-is_unknown : goal.returns-then-is_unknown
returns-then-is_unknown c = λ ops own node k t of short. (c.is_stale.ensures.no ops own node t of c.if-is_stale.false, c.is_unknown.ensures.yes ops own node k t c.if-is_unknown.true)

pub returns-then-is_character_too_many : goal.returns-then-is_character_too_many
returns-then-is_character_too_many c = λ ops own node k t of short. (
  c.is_stale.ensures.no ops own node t of c.if-is_stale.false,
  not_unknown (ops ++ own) c.args.op.now (c.is_unknown.ensures.characters ops own node k t c.if-is_unknown.false) (c.is_unknown.ensures.removal ops own node k t c.if-is_unknown.false),
  inl (at_limit is_insert (ops ++ own) c.args.op.now c.args.tally.now.characters (most_characters c.args.size) t.characters (sym c.if-is_character_too_many.ensures)),
)

pub returns-then-is_mark_too_many : goal.returns-then-is_mark_too_many
returns-then-is_mark_too_many c = λ ops own node k t of short. (
  c.is_stale.ensures.no ops own node t of c.if-is_stale.false,
  not_unknown (ops ++ own) c.args.op.now (c.is_unknown.ensures.characters ops own node k t c.if-is_unknown.false) (c.is_unknown.ensures.removal ops own node k t c.if-is_unknown.false),
  not_full c.args.size (ops ++ own) c.args.op.now c.args.tally.now.characters t.characters (sym c.if-is_character_too_many.ensures) short,
  at_limit is_mark (ops ++ own) c.args.op.now c.args.tally.now.marks (most_marks c.args.size) t.marks (sym c.if-is_mark_too_many.ensures),
)

pub returns : goal.returns
returns c = λ ops own node k t of short. record {
  accepted = record {
    fresh = c.is_stale.ensures.no ops own node t of c.if-is_stale.false;
    known = c.is_unknown.ensures.characters ops own node k t c.if-is_unknown.false;
    removal = c.is_unknown.ensures.removal ops own node k t c.if-is_unknown.false;
    room = not_full c.args.size (ops ++ own) c.args.op.now c.args.tally.now.characters t.characters (sym c.if-is_character_too_many.ensures) short;
  };
  room = below_limit is_mark (ops ++ own) c.args.op.now c.args.tally.now.marks (most_marks c.args.size) t.marks (sym c.if-is_mark_too_many.ensures);
}
