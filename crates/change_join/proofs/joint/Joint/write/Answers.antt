use Rattle.std.specs.String.{string_bytes}
use Rattle.change_join.proofs.Joints.{written}
use Rattle.change_join.proofs.joint.Joint.write.Goals as goal

pub returns : goal.returns
returns c = written c.write.result c.args.self.now c.word_of.result.now (string_bytes c.args.out.now) (string_bytes c.write.new.self) c.word_of.ensures c.write.ensures.bytes
