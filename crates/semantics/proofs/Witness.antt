-- A safe program and one that isn't, by computation.
use Rattle.std.proofs.Common.{◌≡◌, ℕ, zero, suc, ◌&&◌, Bool, true, false, nat_lt, List, [], ◌∷◌, ◌++◌, replicate, refl, sym, ◌∙◌, arith}
use Rattle.std.specs.List.{list_all}
use borrow.Author.Tests.{ltb-true}
use Rattle.byteorder.specs.Endian.{little_bytes}
use Rattle.span_context.specs.Context.{text_base, link_base, SpanBytes, span_bytes}
use Rattle.semantics.specs.declared.FaultKind.TheVariants.{UnsetRegister}
use Rattle.semantics.specs.declared.Outcome.TheVariants.{Done, Fault}
use Rattle.semantics.specs.Outcomes.{outcome, outcome_from}
use Rattle.semantics.specs.Safe.{AreBytes, IsSpan, Safe}
use Rattle.semantics.specs.Samples.{returns_one, exit_alone}

pub both : (a b : Bool) → (a && b) ≡ true → (a ≡ true) × (b ≡ true)
both true b h = (refl, h)
both false b h = absurd (cc)

bytes-tested : (numbers : List ℕ) → list_all (λ n. nat_lt n 256) numbers ≡ true → AreBytes numbers
bytes-tested [] h index = omega arith
bytes-tested (n ∷ rest) h zero = ltb-true n 256 (both (nat_lt n 256) (list_all (λ m. nat_lt m 256) rest) h).0
bytes-tested (n ∷ rest) h (suc index) = bytes-tested rest (both (nat_lt n 256) (list_all (λ m. nat_lt m 256) rest) h).1 index

-- a span of no text and without a link
abbrev pub empty_context : List ℕ
empty_context = little_bytes 8 text_base ++ little_bytes 8 text_base ++ replicate 40 0 ++ little_bytes 8 link_base ++ little_bytes 8 link_base

abbrev pub empty_bytes : SpanBytes
empty_bytes = span_bytes empty_context [] []

empty_span : IsSpan empty_bytes
empty_span = record {
  fits = record {
    long = refl;
    short = omega arith;
    begins = refl;
    ends = refl;
    counts = refl;
    link_short = omega arith;
    link = record { counts = refl; begins = refl; ends = refl };
  };
  context_bytes = bytes-tested empty_context refl;
  text_bytes = bytes-tested [] refl;
  link_bytes = bytes-tested [] refl;
}

pub one-safe : Safe returns_one
unfolding outcome_from
one-safe bytes span = (1, refl)

unset : (bytes : SpanBytes) → outcome exit_alone bytes ≡ Fault 0 UnsetRegister
unfolding outcome_from
unset bytes = refl

pub alone-unsafe : Safe exit_alone → ⊥
alone-unsafe safe =
    let run = safe empty_bytes empty_span in
    let clash : Fault 0 UnsetRegister ≡ Done run.0 = sym (unset empty_bytes) ∙ run.1 in
    absurd (cc)
