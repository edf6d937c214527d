use Rattle.std.proofs.Common.{sym, subst}
use Rattle.span_flatten.specs.Version.{Version, IsVersion}
use Rattle.change_history.proofs.Keeping.{are_marks}
use Rattle.change_history.proofs.parts.Parts.version.Goals as goal

pub flatten-requires : goal.flatten-requires
flatten-requires c = (c.requires.0, c.requires.1.shows, are_marks c.requires.0 c.args.self.now.marks c.requires.1.marks)

pub from_version-requires : goal.from_version-requires
from_version-requires c =
    let kept = c.requires.1 in
    record {
      ops = c.requires.0;
      elements = c.args.self.now.sequence.elements;
      shows = kept.shows;
      number = c.args.number;
      is = c.in_ok-whole.ensures c.requires.0 kept.shows (are_marks c.requires.0 c.args.self.now.marks kept.marks);
    }

pub returns-clause-is : goal.returns-clause-is
returns-clause-is c = λ ops kept.
    subst (λ (v : Version). IsVersion ops c.args.number v) (sym c.in_ok-version.ensures.version)
    (c.in_ok-whole.ensures ops kept.shows (are_marks ops c.args.self.now.marks kept.marks))
