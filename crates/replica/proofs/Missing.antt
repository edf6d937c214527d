-- A message that waits for an operation doesn't have its causes there.
use Rattle.std.proofs.Common.{◌≡◌, ◌<◌, List, [], ◌∷◌, ◌++◌, inl, inr, sym, ◌∙◌, arith, Contains}
use Rattle.change_ops.specs.declared.id.OpId.{OpId}
use Rattle.change_ops.specs.declared.operation.Op.{Op}
use Rattle.change_ops.specs.Operations.{id_of}
use Rattle.change_ops.specs.Changes.{operations}
use Rattle.char_sequence.specs.Newest.{IsLastCounter}
use Rattle.replica.specs.Messages.{Message}
use Rattle.replica.specs.Knowing.{IsMissing, CausesAreThere, AllCausesAreThere, IsMissingAmong}
use Rattle.replica.specs.Readiness.{operations_in, HasCauses}
use Rattle.replica.specs.Buffers.{WaitsFor, earlier_id}

missing_not : (ops : List Op) (op : Op) (id : OpId) → IsMissing ops op id → CausesAreThere ops op → ⊥
missing_not ops op id (inl lost) causes = lost.1 (causes.characters id lost.0)
missing_not ops op id (inr lost) causes = lost.1 (causes.removals id lost.0)

among_not : (ops added : List Op) (id : OpId) → IsMissingAmong ops added id → AllCausesAreThere ops added → ⊥
among_not ops [] id m all = m
among_not ops (op ∷ added) id (inl here) all = missing_not ops op id here all.0
among_not ops (op ∷ added) id (inr there) all = among_not (ops ++ op ∷ []) added id there all.1

same_id : (x y : OpId) → x.counter ≡ y.counter → x.node ≡ y.node → x ≡ y
same_id x y c n = λ i. record { counter = c i; node = n i }

earlier_not : (ops : List Op) (m : Message) (id : OpId) → 0 < m.previous → id ≡ earlier_id m → ((o : Op) → Contains ops o → id_of o ≡ id → ⊥) → IsLastCounter ops m.change.node m.previous → ⊥
earlier_not ops m id some same none (inl last) =
    let r = last.reached in
    none r.0 r.1 (same_id (id_of r.0) (earlier_id m) r.3 r.2 ∙ sym same)
earlier_not ops m id some same none (inr start) = let nothing : m.previous ≡ 0 = start.0 in omega arith

pub waits_not : (accepted : List Message) (m : Message) (id : OpId) → WaitsFor accepted m id → HasCauses accepted m → ⊥
waits_not accepted m id (inl lost) causes = among_not (operations_in accepted) (operations m.change) id lost causes.named
waits_not accepted m id (inr lost) causes = earlier_not (operations_in accepted) m id lost.0 lost.1 lost.2 causes.earlier
