use Rattle.std.proofs.Common.{subst, IsUtf8}
use Rattle.version_windows.proofs.windows.replacement.Goals as goal

pub formatted_window-requires : goal.formatted_window-requires
formatted_window-requires c = record {
  range = c.requires.range;
  formats =
      (c.args.before.now.elements, (c.args.old, (c.requires.formats.0, c.visible_before-from.ensures, c.visible_before-to.ensures, c.requires.formats.1)));
}

pub returns : goal.returns
returns c =
    λ marks given. (
      c.visible_before-from.ensures,
      c.visible_before-to.ensures,
      c.in_ok-window.ensures c.args.before.now.elements c.args.old marks c.visible_before-from.ensures c.visible_before-to.ensures given,
      c.rows-rows.ensures.whole,
      subst IsUtf8 c.text-text.ensures c.text-text.utf8,
      tt,
    )
