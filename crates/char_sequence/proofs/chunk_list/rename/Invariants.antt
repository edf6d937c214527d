use Rattle.char_sequence.specs.Named.{name_of}
use Rattle.char_sequence.proofs.Renaming.{IsRenamed}
use Rattle.char_sequence.proofs.chunk_list.rename.Given as goal

abbrev pub invariant-loop-element : goal.invariant-loop-element
invariant-loop-element l = IsRenamed l.elements (name_of l.initial.index) (name_of l.index) l.name l.element-index
