use Rattle.std.proofs.Common.{◌∙◌, sym}
use Rattle.mark_anchors.proofs.Stores.{none_beyond}
use Rattle.mark_anchors.proofs.values.Values.has.Goals as goal

pub returns-in-None : goal.returns-in-None
returns-in-None c =
    none_beyond (record { flags = c.self.inside.flags; link = c.self.inside.link; colors = c.self.inside.colors; line_kinds = c.self.inside.line_kinds }) c.args.self.now
    c.args.row (sym c.self.view_is) (sym c.new.ensures ∙ c.in-None.is)
