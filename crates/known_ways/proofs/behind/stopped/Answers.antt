use Rattle.known_ways.proofs.Edges.{behind_stopped}
use Rattle.known_ways.proofs.behind.stopped.Goals as goal

pub returns-in-Refused : goal.returns-in-Refused
returns-in-Refused c = λ rule answers.
    behind_stopped rule c.nowhere.result c.args.stop c.in-Refused.field-0 c.in-Refused.is answers c.nowhere.ensures.next c.nowhere.ensures.jumped
