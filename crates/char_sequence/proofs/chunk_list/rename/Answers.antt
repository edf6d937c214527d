use Rattle.char_sequence.proofs.Chunking.{here_at}
use Rattle.char_sequence.proofs.Renaming.{renamed_none, renamed_more, renamed_all, kept_all}
use Rattle.char_sequence.proofs.chunk_list.rename.Goals as goal

pub loop-element-init : goal.loop-element-init
loop-element-init c = renamed_none _ _ _ c.requires

pub rename-requires : goal.rename-requires
rename-requires c =
    let here = here_at c.args.elements.now c.loop-element.element-index c.element-item.result c.loop-element-test.true c.element-item.is in
    c.loop-element.invariant.listed c.loop-element.element-index c.element-item.result here

pub loop-element-preserved : goal.loop-element-preserved
loop-element-preserved c =
    let here = here_at c.args.elements.now c.loop-element.element-index c.element-item.result c.loop-element-test.true c.element-item.is in
    renamed_more _ _ _ _ _ _ c.element-item.result c.loop-element.invariant here c.rename.ensures.named c.rename.ensures.kept

pub returns : goal.returns
returns c = record {
  renamed = renamed_all _ _ _ _ _ c.loop-element-test.false c.loop-element.invariant;
  kept = kept_all _ _ _ _ _ c.loop-element.invariant;
}
