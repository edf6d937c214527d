use Rattle.std.proofs.Common.{◌≡◌, ◌∙◌, ◌+◌, [], ◌∷◌, ◌++◌, length, ap, arith}
use Rattle.std.proofs.lemmas.List.{length_push}
use Rattle.change_ops.specs.declared.keys.TheConstants.{KEYS}
use Rattle.mark_anchors.proofs.Rows.{bare_more}
use Rattle.mark_anchors.proofs.placed.empty_lists.Goals as goal

pub loop-row-preserved : goal.loop-row-preserved
loop-row-preserved c =
    let lists = c.loop-row.lists.items in
    let pushed : c.push.new.self.items ≡ lists ++ c.new.result ∷ [] = c.in_ok-push.ensures.items in
    record {
      sized = ap length pushed ∙ length_push lists c.new.result ∙ ap (λ n. n + 1) c.loop-row.invariant.sized;
      bare = bare_more lists c.push.new.self.items c.new.result pushed c.new.ensures.items c.loop-row.invariant.bare;
    }

pub returns : goal.returns
returns c =
    let all : c.loop-row._row ≡ KEYS = omega arith in
    record { sized = c.loop-row.invariant.sized ∙ all; empty = c.loop-row.invariant.bare }
