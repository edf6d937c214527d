use Rattle.std.proofs.Common.{◌≡◌, ℕ, Some, None, sym, ◌∙◌, subst, arith}
use Rattle.std.specs.List.{slice_get}
use Rattle.std.proofs.lemmas.Option.{slice_get_within}
use Rattle.char_sequence.specs.Named.{name_among, IsRising}
use Rattle.char_sequence.proofs.Chunking.{here_at}
use Rattle.char_sequence.proofs.Naming.{name_is, name_none}
use Rattle.char_sequence.proofs.index.PeerIndex.name_of.Goals as goal

pub index-requires : goal.index-requires
index-requires c =
    let at = subst (λ z. IsRising z → slice_get z c.in-Some.place ≡ Some c.args.counter) c.deref.ensures.value c.in-Some.ensures c.self.invariant.rising in
    let low = slice_get_within c.self.inside.counters.items c.in-Some.place c.args.counter at in
    let counted = c.self.invariant.counted in
    omega (arith, low, counted)

pub returns-in-Some : goal.returns-in-Some
returns-in-Some c =
    let ks = c.self.inside.counters.items in
    let ns = c.self.inside.names.items in
    let at = subst (λ z. IsRising z → slice_get z c.in-Some.place ≡ Some c.args.counter) c.deref.ensures.value c.in-Some.ensures c.self.invariant.rising in
    let low = slice_get_within ks c.in-Some.place c.args.counter at in
    let counted = c.self.invariant.counted in
    let here = here_at ns c.in-Some.place c.index.result.now (omega (arith, low, counted)) c.index.ensures in
    subst (λ v. Some c.index.result.now ≡ name_among v.counters v.names c.args.counter) c.self.view_is
    (sym (name_is ks ns c.in-Some.place c.args.counter c.self.invariant.rising counted at ∙ here))

pub returns-in-None : goal.returns-in-None
returns-in-None c =
    let none = subst (λ z. IsRising z → (k : ℕ) → slice_get z k ≡ Some c.args.counter → ⊥) c.deref.ensures.value c.in-None.ensures c.self.invariant.rising in
    subst (λ v. None ≡ name_among v.counters v.names c.args.counter) c.self.view_is (sym (name_none c.self.inside.counters.items c.self.inside.names.items c.args.counter none))
