-- Spans that agree in all but index, count and number give a program that lists none of these one verdict.
use Rattle.std.proofs.Common.{◌≡◌, ◌⊎◌, ℕ, zero, suc, ◌+◌, ◌-◌, ◌/◌, ◌^◌, ◌<◌, ◌≤◌, List, ◌++◌, length, get_or, slice_index, refl, sym, ap, ◌∙◌, ⊎_elim, arith}
use Rattle.std.proofs.Math.Nat.{mod-lt}
use Rattle.std.proofs.lemmas.List.{get_or_append_left, get_or-append_right}
use Rattle.std.specs.Int.{byte_at, bytes_low_first}
use Rattle.byteorder.specs.Endian.{little_bytes}
use Rattle.span_context.specs.declared.context.Facts.{Facts}
use Rattle.span_context.specs.declared.profile.Profile.TheVariants.{Two}
use Rattle.span_context.specs.Context.{text_base, link_base, context_bytes}
use Rattle.span_context.proofs.ContextFits.{context-fits}
use Rattle.semantics.specs.Safe.{AreBytes, IsSpan}
use Rattle.semantics.specs.Step.{Program}
use Rattle.program_reads.specs.declared.reads.Reads.{Reads}
use Rattle.program_reads.specs.Positions.{IsPositionless}
use Rattle.program_reads.specs.Reads.{AgreesOn}
use Rattle.filters.specs.Filters.{DeterminesRuns}
use Rattle.program_reads.proofs.Positions.{beside_position}
use Rattle.span_view.specs.Views.{SpanView}
use Rattle.span_view.specs.ContextOf.{bytes_of, facts_of, link_of}
use Rattle.feeds.specs.Verdicts.{number_of, verdict_on}
use Rattle.feeds.specs.Kept.{IsAlike, IsBlindToPosition}
use Rattle.feeds.proofs.Bytes.{Are, join}

-- the context's bytes before index, count and number, of these three, and behind them
before : Facts → List ℕ
before facts =
    little_bytes 8 text_base ++ little_bytes 8 (text_base + facts.text_len) ++ little_bytes 4 facts.text_len ++ little_bytes 4 facts.characters
    ++ little_bytes 4 facts.flags ++ little_bytes 4 facts.color ++ little_bytes 4 facts.link_len ++ little_bytes 4 facts.comments

numbering : Facts → List ℕ
numbering facts = little_bytes 4 facts.index ++ little_bytes 4 facts.count ++ little_bytes 8 facts.version

behind : Facts → List ℕ
behind facts = little_bytes 8 link_base ++ little_bytes 8 (link_base + facts.link_len)

parts : (facts : Facts) → context_bytes facts ≡ before facts ++ (numbering facts ++ behind facts)
unfolding before numbering behind
parts facts = refl

length_before : (facts : Facts) → length (before facts) ≡ 40
unfolding before
length_before facts = refl

length_numbering : (facts : Facts) → length (numbering facts) ≡ 16
unfolding numbering
length_numbering facts = refl

-- the facts beside index, count and number are the same
record AreSame (one other : Facts) : Type 0 where
  pub text_len : one.text_len ≡ other.text_len
  pub characters : one.characters ≡ other.characters
  pub flags : one.flags ≡ other.flags
  pub color : one.color ≡ other.color
  pub link_len : one.link_len ≡ other.link_len
  pub comments : one.comments ≡ other.comments

same_before : (one other : Facts) → AreSame one other → before one ≡ before other
unfolding before
same_before one other same = rw (same.text_len, same.characters, same.flags, same.color, same.link_len, same.comments) refl

same_behind : (one other : Facts) → AreSame one other → behind one ≡ behind other
unfolding behind
same_behind one other same = rw same.link_len refl

at_front : (facts : Facts) (k : ℕ) → k < 40 → get_or (context_bytes facts) k 0 ≡ get_or (before facts) k 0
at_front facts k less =
    ap (λ l. get_or l k 0) (parts facts) ∙ get_or_append_left (before facts) (numbering facts ++ behind facts) 0 k (omega (arith, length_before facts))

at_back : (facts : Facts) (k : ℕ) → 56 ≤ k → get_or (context_bytes facts) k 0 ≡ get_or (behind facts) (k - 40 - 16) 0
at_back facts k least =
    ap (λ l. get_or l k 0) (parts facts) ∙ get_or-append_right (before facts) (numbering facts ++ behind facts) 40 k 0 (length_before facts) (omega arith)
    ∙ get_or-append_right (numbering facts) (behind facts) 16 (k - 40) 0 (length_numbering facts) (omega arith)

same_byte : (one other : Facts) (k : ℕ) → AreSame one other → (k < 40) ⊎ ((56 ≤ k) × (k < 72)) → get_or (context_bytes one) k 0 ≡ get_or (context_bytes other) k 0
same_byte one other k same beside = ⊎_elim
    (λ (less : k < 40). at_front one k less ∙ ap (λ l. get_or l k 0) (same_before one other same) ∙ sym (at_front other k less))
    (λ (least : (56 ≤ k) × (k < 72)). at_back one k least.0 ∙ ap (λ l. get_or l (k - 40 - 16) 0) (same_behind one other same) ∙ sym (at_back other k least.0))
    beside

same_facts : (older newer : SpanView) → IsAlike older newer → AreSame (facts_of older) (facts_of newer)
same_facts older newer alike =
    let f = alike.format in
    record {
      text_len = ap length alike.text;
      characters = rw alike.text refl;
      flags = rw (f.strong, f.em, f.link, f.color, f.comments, f.code) refl;
      color = rw f.color refl;
      link_len = rw f.link refl;
      comments = f.comments;
    }

agree : (reads : Reads) (older newer : SpanView) → IsPositionless reads → IsAlike older newer → AgreesOn reads (bytes_of older) (bytes_of newer)
agree reads older newer positionless alike = record {
  context = λ k has. same_byte (facts_of older) (facts_of newer) k (same_facts older newer alike) (beside_position reads k positionless has);
  text = λ k listed one other. ap (λ l. slice_index l k) alike.text;
  link = λ k listed one other. rw alike.format.link refl;
}

pub blind_to_position : (reads : Reads) (program : Program) → IsPositionless reads → DeterminesRuns reads program → IsBlindToPosition program
unfolding verdict_on
blind_to_position reads program positionless determines = λ older newer alike.
    ap number_of (determines (bytes_of older) (bytes_of newer) alike.older_lent alike.newer_lent (agree reads older newer positionless alike))

-- ---- a program may be run on each span within its limits
byte_small : (k x : ℕ) → byte_at k x < 256
byte_small zero x = mod-lt x (omega arith)
byte_small (suc k) x = mod-lt (x / 256 ^ suc k) (omega arith)

low_bytes : (i n x : ℕ) → AreBytes (bytes_low_first i n x)
low_bytes i zero x k = omega arith
low_bytes i (suc n) x zero = byte_small i x
low_bytes i (suc n) x (suc k) = low_bytes (suc i) n x k

number : (n x : ℕ) → Are (little_bytes n x)
number n x = record { each = low_bytes 0 n x }

context_small : (f : Facts) → Are (context_bytes f)
context_small f =
    join (join (join (join (join (join (join (join (join (join (join (join (number 8 text_base) (number 8 (text_base + f.text_len)))
    (number 4 f.text_len)) (number 4 f.characters)) (number 4 f.flags)) (number 4 f.color)) (number 4 f.link_len)) (number 4 f.comments))
    (number 4 f.index)) (number 4 f.count)) (number 8 f.version)) (number 8 link_base)) (number 8 (link_base + f.link_len))

pub lent_span : (span : SpanView) → length span.text ≤ 131072 → length (link_of span) ≤ 1024 → AreBytes span.text → AreBytes (link_of span) → IsSpan (bytes_of span)
lent_span span short link_short text link = record {
  fits = context-fits (facts_of span) span.text (link_of span) refl refl short link_short;
  context_bytes = (context_small (facts_of span)).each;
  text_bytes = text;
  link_bytes = link;
}
