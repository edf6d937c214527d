use Rattle.std.proofs.Common.{◌≡◌, List, Option, rules, subst}
use Rattle.std.specs.Bool.{Decides, one_answer}
use Rattle.std.proofs.lemmas.Bool.Decides.{Decides-at}
use Rattle.change_ops.specs.declared.value.Value.{Value}
use Rattle.mark_anchors.specs.Values.{Stored, values_of}
use Rattle.mark_anchors.proofs.Formats.{values_Decides}
use Rattle.mark_anchors.proofs.Stores.{fields_eq, fields_Decides}
use Rattle.mark_anchors.proofs.values.ValuesPartialEq.eq.Goals as goal

pub returns-then-eq-3-clause-eq : goal.returns-then-eq-3-clause-eq
returns-then-eq-3-clause-eq c =
    let s : Stored = record { flags = c.self.inside.flags; link = c.self.inside.link; colors = c.self.inside.colors; line_kinds = c.self.inside.line_kinds } in
    let t : Stored = record { flags = c.other.inside.flags; link = c.other.inside.link; colors = c.other.inside.colors; line_kinds = c.other.inside.line_kinds } in
    let fields : c.eq-then-eq-3.result ≡ fields_eq s t = search rules in
    let tells : Decides c.eq-then-eq-3.result (values_of s ≡ values_of t) = Decides-at _ _ fields (fields_Decides s t c.self.invariant c.other.invariant) in
    let same : Decides c.eq-then-eq-3.result (c.args.self.now ≡ c.args.other.now) =
    subst (λ (v : List (Option Value)). Decides c.eq-then-eq-3.result (v ≡ c.args.other.now)) c.self.view_is
    (subst (λ (v : List (Option Value)). Decides c.eq-then-eq-3.result (values_of s ≡ v)) c.other.view_is tells) in
    one_answer _ _ same (values_Decides c.args.self.now c.args.other.now)

pub returns-then-eq-3-clause-same : goal.returns-then-eq-3-clause-same
returns-then-eq-3-clause-same c =
    let s : Stored = record { flags = c.self.inside.flags; link = c.self.inside.link; colors = c.self.inside.colors; line_kinds = c.self.inside.line_kinds } in
    let t : Stored = record { flags = c.other.inside.flags; link = c.other.inside.link; colors = c.other.inside.colors; line_kinds = c.other.inside.line_kinds } in
    let fields : c.eq-then-eq-3.result ≡ fields_eq s t = search rules in
    let tells : Decides c.eq-then-eq-3.result (values_of s ≡ values_of t) = Decides-at _ _ fields (fields_Decides s t c.self.invariant c.other.invariant) in
    let same : Decides c.eq-then-eq-3.result (c.args.self.now ≡ c.args.other.now) =
    subst (λ (v : List (Option Value)). Decides c.eq-then-eq-3.result (v ≡ c.args.other.now)) c.self.view_is
    (subst (λ (v : List (Option Value)). Decides c.eq-then-eq-3.result (values_of s ≡ v)) c.other.view_is tells) in
    same

pub returns-else-eq-3-clause-eq : goal.returns-else-eq-3-clause-eq
returns-else-eq-3-clause-eq c =
    let s : Stored = record { flags = c.self.inside.flags; link = c.self.inside.link; colors = c.self.inside.colors; line_kinds = c.self.inside.line_kinds } in
    let t : Stored = record { flags = c.other.inside.flags; link = c.other.inside.link; colors = c.other.inside.colors; line_kinds = c.other.inside.line_kinds } in
    let fields : c.if-eq-2.value ≡ fields_eq s t = search rules in
    let tells : Decides c.if-eq-2.value (values_of s ≡ values_of t) = Decides-at _ _ fields (fields_Decides s t c.self.invariant c.other.invariant) in
    let same : Decides c.if-eq-2.value (c.args.self.now ≡ c.args.other.now) =
    subst (λ (v : List (Option Value)). Decides c.if-eq-2.value (v ≡ c.args.other.now)) c.self.view_is
    (subst (λ (v : List (Option Value)). Decides c.if-eq-2.value (values_of s ≡ v)) c.other.view_is tells) in
    one_answer _ _ same (values_Decides c.args.self.now c.args.other.now)

pub returns-else-eq-3-clause-same : goal.returns-else-eq-3-clause-same
returns-else-eq-3-clause-same c =
    let s : Stored = record { flags = c.self.inside.flags; link = c.self.inside.link; colors = c.self.inside.colors; line_kinds = c.self.inside.line_kinds } in
    let t : Stored = record { flags = c.other.inside.flags; link = c.other.inside.link; colors = c.other.inside.colors; line_kinds = c.other.inside.line_kinds } in
    let fields : c.if-eq-2.value ≡ fields_eq s t = search rules in
    let tells : Decides c.if-eq-2.value (values_of s ≡ values_of t) = Decides-at _ _ fields (fields_Decides s t c.self.invariant c.other.invariant) in
    let same : Decides c.if-eq-2.value (c.args.self.now ≡ c.args.other.now) =
    subst (λ (v : List (Option Value)). Decides c.if-eq-2.value (v ≡ c.args.other.now)) c.self.view_is
    (subst (λ (v : List (Option Value)). Decides c.if-eq-2.value (values_of s ≡ v)) c.other.view_is tells) in
    same
