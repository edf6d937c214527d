-- What holds of more: a rule over what is written holds over what is known.
use Rattle.std.proofs.Common.{ℕ, ◌+◌}
use Rattle.span_context.specs.declared.profile.Profile.{Profile}
use Rattle.bpf_words.specs.declared.instruction.Width.{Width}
use Rattle.abstract_state.specs.declared.region.Region.{Region}
use Rattle.abstract_state.specs.declared.relation.Relation.{Relation}
use Rattle.guarded_rules.specs.Facts.{Property, AtLeast, AtMost, Behind}
use Rattle.guarded_rules.specs.Sums.{Adds, adds_word, adds_least, adds_most, adds_behind, adds_second, Takes, takes_least, takes_most, takes_behind, Sums, adds, takes}
use Rattle.guarded_rules.specs.Tests.{Side, other, Tells, kept, most, behind, least, alike, past, short, Excludes, order, unlike}
use Rattle.guarded_rules.specs.Steps.{Reaches, ahead_by_tail, ahead_by_length, back_by_tail, back_by_length}

adds_map : (profile : Profile) (width : Width) (A B C D : Property → Type 0) (p : Property) → ((q : Property) → A q → C q) → ((q : Property) → B q → D q) → Adds profile width A B p → Adds profile width C D p
adds_map profile width A B C D p f g adds_word = adds_word
adds_map profile width A B C D p f g (adds_least m n high more one other top bound few) = adds_least m n high more (f (AtLeast m) one) (g (AtLeast n) other) (f (AtMost high) top) (g (AtMost more) bound) few
adds_map profile width A B C D p f g (adds_most m n one other few) = adds_most m n (f (AtMost m) one) (g (AtMost n) other) few
adds_map profile width A B C D p f g (adds_behind r n top tail few) = adds_behind r n top (f (Behind r (n + top)) tail) (g (AtMost top) few)
adds_map profile width A B C D p f g (adds_second r n top more tail few) = adds_second r n top more (g (Behind r (n + top)) tail) (f (AtMost top) few)

takes_map : (A B C : Property → Type 0) (p : Property) → ((q : Property) → A q → C q) → Takes A B p → Takes C B p
takes_map A B C p f (takes_least m more one other less) = takes_least m more (f (AtLeast m) one) other less
takes_map A B C p f (takes_most m more high n one other less top bottom) = takes_most m more high n (f (AtLeast m) one) other less (f (AtMost high) top) bottom
takes_map A B C p f (takes_behind m more n r t one other less tail bottom fits) = takes_behind m more n r t (f (AtLeast m) one) other less (f (Behind r t) tail) bottom fits

pub takes_both : (A B C D : Property → Type 0) (p : Property) → ((q : Property) → A q → C q) → ((q : Property) → B q → D q) → Takes A B p → Takes C D p
takes_both A B C D p f g (takes_least m more one other less) = takes_least m more (f (AtLeast m) one) (g (AtMost more) other) less
takes_both A B C D p f g (takes_most m more high n one other less top bottom) = takes_most m more high n (f (AtLeast m) one) (g (AtMost more) other) less (f (AtMost high) top) (g (AtLeast n) bottom)
takes_both A B C D p f g (takes_behind m more n r t one other less tail bottom fits) = takes_behind m more n r t (f (AtLeast m) one) (g (AtMost more) other) less (f (Behind r t) tail) (g (AtLeast n) bottom) fits

pub sums_map : (profile : Profile) (width : Width) (A B C D : Property → Type 0) (p : Property) → ((q : Property) → A q → C q) → ((q : Property) → B q → D q) → Sums profile width A B p → Sums profile width C D p
sums_map profile width A B C D p f g (adds top few half sums) = adds top (g (AtMost top) few) half (adds_map profile width A B C D p f g sums)
sums_map profile width A B C D p f g (takes n low high half fits sums) = takes n (g (AtLeast n) low) (g (AtMost n) high) half fits (takes_map A _ C p f sums)

pub tells_map : (r : Relation) (A B : Side → Property → Type 0) (side : Side) (p : Property) → ((s : Side) (q : Property) → A s q → B s q) → Tells r A side p → Tells r B side p
tells_map r A B side p f (kept s h) = kept s (f s p h)
tells_map r A B side p f (most first m n before h) = most first m n before (f (other first) (AtMost (m + n)) h)
tells_map r A B side p f (behind first m n region before h few) = behind first m n region before (f (other first) (Behind region m) h) few
tells_map r A B side p f (least first m n before h) = least first m n before (f first (AtLeast m) h)
tells_map r A B side p f (alike s is h) = alike s is (f (other s) p h)
tells_map r A B side p f (past s n is h low high) = past s n is (f s (AtLeast n) h) (f (other s) (AtLeast n) low) (f (other s) (AtMost n) high)
tells_map r A B side p f (short s n is h low high) = short s n is (f s (AtMost (n + 1)) h) (f (other s) (AtLeast (n + 1)) low) (f (other s) (AtMost (n + 1)) high)

pub excludes_map : (r : Relation) (A B : Side → Property → Type 0) → ((s : Side) (q : Property) → A s q → B s q) → Excludes r A → Excludes r B
excludes_map r A B f (order first m l n before low high few) = order first m l n before (f first (AtLeast m) low) (f (other first) (AtMost l) high) few
excludes_map r A B f (unlike side m l is low high few) = unlike side m l is (f side (AtLeast m) low) (f (other side) (AtMost l) high) few

pub reaches_map : (region : Region) (A C : Property → Type 0) (B D : ℕ → Type 0) (offset count : ℕ) → ((q : Property) → A q → C q) → ((n : ℕ) → B n → D n) → Reaches region A B offset count → Reaches region C D offset count
reaches_map region A C B D offset count f g (ahead_by_tail n near tail few) = ahead_by_tail n near (f (Behind region n) tail) few
reaches_map region A C B D offset count f g (ahead_by_length m n near high long few) = ahead_by_length m n near (f (AtMost m) high) (g n long) few
reaches_map region A C B D offset count f g (back_by_tail back n is low tail few) = back_by_tail back n is (f (AtLeast back) low) (f (Behind region n) tail) few
reaches_map region A C B D offset count f g (back_by_length back m n is low high long few) = back_by_length back m n is (f (AtLeast back) low) (f (AtMost m) high) (g n long) few
