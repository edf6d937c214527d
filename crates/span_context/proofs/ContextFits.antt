-- The context that is made of a span's facts fits the span's text and its link's.
use Rattle.std.proofs.Common.{◌≡◌, ℕ, ◌+◌, ◌≤◌, List, [], ◌++◌, length, refl, ap, sym, ◌∙◌, arith}
use Rattle.byteorder.specs.Endian.{little_bytes}
use Rattle.byteorder.specs.Numbers.{little_number-reads_back}
use Rattle.span_context.specs.declared.context.Facts.{Facts}
use Rattle.span_context.specs.Context.{text_base, link_base, span_bytes, context_bytes, Fits}

-- what stands after the link's length
after_link_len : Facts → List ℕ
after_link_len facts =
    little_bytes 4 facts.comments ++ little_bytes 4 facts.index ++ little_bytes 4 facts.count ++ little_bytes 8 facts.version
    ++ little_bytes 8 link_base ++ little_bytes 8 (link_base + facts.link_len)

-- what stands after the text's length
after_len : Facts → List ℕ
after_len facts =
    little_bytes 4 facts.characters ++ little_bytes 4 facts.flags ++ little_bytes 4 facts.color ++ little_bytes 4 facts.link_len
    ++ after_link_len facts

pub context-fits : (facts : Facts) (text link : List ℕ) → length text ≡ facts.text_len → length link ≡ facts.link_len → facts.text_len ≤ 131072 → facts.link_len ≤ 1024 → Fits (span_bytes (context_bytes facts) text link)
unfolding after_len after_link_len
context-fits facts text link same linked few short = record {
  long = refl;
  short = omega arith;
  begins = refl;
  ends =
      little_number-reads_back 8 (text_base + facts.text_len) (little_bytes 4 facts.text_len ++ after_len facts) (omega arith)
      ∙ ap (λ n. text_base + n) (sym same);
  counts = little_number-reads_back 4 facts.text_len (after_len facts) (omega arith) ∙ sym same;
  link_short = omega arith;
  link = record {
    counts = little_number-reads_back 4 facts.link_len (after_link_len facts) (omega arith) ∙ sym linked;
    begins = refl;
    ends = little_number-reads_back 8 (link_base + facts.link_len) [] (omega arith) ∙ ap (λ n. link_base + n) (sym linked);
  };
}

pub ruleset fitting = (context-fits)
