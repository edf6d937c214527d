use Rattle.version_pieces.specs.declared.version.NextVersion.{NextVersion}
use Rattle.change_history.proofs.Following.{is_step, next_kept}
use Rattle.change_history.proofs.parts.Parts.next_version.Goals as goal

pub next_version-requires : goal.next_version-requires
next_version-requires c = record {
  step = (c.requires.0, is_step c.requires.0 c.args.previous.now c.args.lines.now c.args.before.now c.args.self.now c.requires.1);
  places = c.requires.1.kept.places;
}

pub returns-clause-is : goal.returns-clause-is
returns-clause-is c = next_kept (λ (n : NextVersion). n.version) c.next_version.result c.args.previous.now c.args.lines.now c.args.before.now c.args.self.now c.args.number c.next_version.ensures.is
