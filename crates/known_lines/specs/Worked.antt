-- A worked case: what a test that is enough for one byte leaves known of an address in the text, and of the stack.
use Rattle.std.specs.Prelude.{true, false, List, [], ◌∷◌, Bool, Some, None}
use Rattle.abstract_state.specs.declared.region.Region.TheVariants.{Text}
use Rattle.abstract_state.specs.Estimate.{Estimate}
use Rattle.abstract_state.specs.Addresses.{Content, InRegion}

-- from the text's begin up to 131071 bytes on, with a byte from there on
abbrev pub one_byte : Estimate
one_byte = record {
  bits = record { ones = 0; unknown = 131071 };
  range = record { low = 0; high = 131071 };
  tails = record { text = Some 1; link = None };
}

abbrev pub in_text : Content
in_text = InRegion Text one_byte

-- the low four of eight bytes are set
abbrev pub low_half : List Bool
low_half = true ∷ true ∷ true ∷ true ∷ false ∷ false ∷ false ∷ false ∷ []
