-- The letters and sets that the code asks for are the bytes that the fields admit that are kept as their bytes.
use mathlib.Core.Path.{◌≡◌, refl, sym, ap, ◌∙◌}
use mathlib.Core.Bool.{Bool, true, false, not, ◌&&◌, ◌||◌}
use mathlib.Core.List.{List, [], ◌∷◌, ◌++◌}
use Prim.Native.Nat.{ℕ, zero, suc, ◌≤◌}
use Prim.Native.String.{String}
use lib.ListN.{replicate}
use lib.Dec.{eqb}
use Rattle.columns.specs.Sets.{is, among, is_digit, is_upper, is_lower, is_narrow, is_text, is_name}
use Rattle.columns.specs.Texts.{bytes, exactly}
use Rattle.emissions.specs.Emission.{is_modulation, is_signal, is_information, is_detail, is_multiplex}
use Rattle.fields.specs.Table.{is_user}
use Rattle.flaws.specs.Flaws.{letter_of, unread}
use Rattle.flaw_parts.specs.Parts.{in_some, at_some, emission_sets}
use Rattle.flaws.proofs.SetsAlike.{Bytes, far_or, far_is, far_between, far_among, among-letters, alike, unread-alike, by_letters}

-- The bytes of some literals are the letters of all.
abbrev pub all_bytes : List String → List ℕ
all_bytes [] = []
all_bytes (x ∷ xs) = bytes x ++ all_bytes xs

letters-joined : (a b : List ℕ) (c : ℕ) → (letter_of a c || letter_of b c) ≡ letter_of (a ++ b) c
unfolding letter_of
letters-joined [] b c = refl
letters-joined (x ∷ a) b c = by (eqb c x) (letter_of a c) (letter_of b c) (letter_of (a ++ b) c) (letters-joined a b c) where
  by : (x y z w : Bool) → (y || z) ≡ w → ((x || y) || z) ≡ (x || w)
  by true y z w e = refl
  by false y z w e = e

some_letters : (xs : List String) (c : ℕ) → in_some xs c ≡ letter_of (all_bytes xs) c
unfolding in_some letter_of
some_letters [] c = refl
some_letters (x ∷ xs) c = rw (among-letters x c, some_letters xs c) (letters-joined (bytes x) (all_bytes xs) c)

module _ (c : ℕ) (h : 256 ≤ c) where
  digit_far : is_digit c ≡ false
  digit_far = far_between "0" "9" tt c h

  upper_far : is_upper c ≡ false
  upper_far = far_between "A" "Z" tt c h

  space_far : is " " c ≡ false
  space_far = far_is " " tt c h

  user_far : is_user c ≡ false
  user_far = rw upper_far

-- some tests that reach no further than the bytes
abbrev AllBytes : List (ℕ → Bool) → Type 0
AllBytes [] = Unit {0}
AllBytes (t ∷ ts) = Bytes t × AllBytes ts

some_far : (tests : List (ℕ → Bool)) → AllBytes tests → Bytes (at_some tests)
unfolding at_some
some_far [] b c h = refl
some_far (t ∷ ts) b c h = far_or (t c) (at_some ts c) (b.0 c h) (some_far ts b.1 c h)

runs_far : (n : ℕ) (t : ℕ → Bool) (ts : List (ℕ → Bool)) → Bytes t → AllBytes ts → AllBytes (replicate n t ++ ts)
runs_far zero t ts b bs = bs
runs_far (suc n) t ts b bs = (b, runs_far n t ts b bs)

run_far : (n : ℕ) (t : ℕ → Bool) → Bytes t → AllBytes (replicate n t)
run_far zero t b = tt
run_far (suc n) t b = (b, run_far n t b)

narrow_far : Bytes is_narrow
unfolding is_narrow
narrow_far c h = far_or (is_upper c || is_digit c) (is "-" c) (far_or (is_upper c) (is_digit c) (upper_far c h) (digit_far c h)) (far_is "-" tt c h)

name_far : Bytes is_name
unfolding is_name is_text
name_far c h =
    far_or (is_upper c || is_lower c || is_digit c || among "+-/*.(),= " c) (is "_" c)
    (far_or (is_upper c || is_lower c || is_digit c) (among "+-/*.(),= " c)
    (far_or (is_upper c || is_lower c) (is_digit c) (far_or (is_upper c) (is_lower c) (upper_far c h) (far_between "a" "z" tt c h)) (digit_far c h))
    (far_among "+-/*.(),= " tt c h))
    (far_is "_" tt c h)

-- Choices,
pub choice_letters : (xs : List String) (p : List ℕ) → unread (letter_of (all_bytes xs)) p ≡ unread (in_some xs) p
choice_letters xs p = sym (unread-alike (in_some xs) (letter_of (all_bytes xs)) (some_letters xs) p)

-- 6Z,
abbrev user_tests : List (ℕ → Bool)
user_tests = is_user ∷ (λ c. is_user c || is " " c) ∷ []

pub user_letters : (p : List ℕ) → unread (letter_of (bytes "ABCDEFGHIKLMNOPQRSTUVWXYZ ")) p ≡ unread (at_some user_tests) p
unfolding at_some letter_of
user_letters p =
    by_letters (at_some user_tests) (bytes "ABCDEFGHIKLMNOPQRSTUVWXYZ ")
    (some_far user_tests (user_far, (λ c h. far_or (is_user c) (is " " c) (user_far c h) (space_far c h), tt))) tt tt p

-- 4A,
abbrev name_tests : List (ℕ → Bool)
name_tests = replicate 4 is_digit ++ (exactly "_" ++ replicate 15 is_name)

pub name_set : (p : List ℕ) → unread is_name p ≡ unread (at_some name_tests) p
unfolding at_some is_name is_text among
name_set p =
    unread-alike is_name (at_some name_tests)
    (alike is_name (at_some name_tests) name_far
    (some_far name_tests (runs_far 4 is_digit (exactly "_" ++ replicate 15 is_name) digit_far ((λ c h. far_is "_" tt c h), run_far 15 is_name name_far))) tt) p

-- 4B,
pub country_letters : (p : List ℕ) → unread (letter_of (bytes "ABCDEFGHIJKLMNOPQRSTUVWXYZ ")) p ≡ unread (λ c. is_upper c || is " " c) p
unfolding letter_of
country_letters p =
    by_letters (λ c. is_upper c || is " " c) (bytes "ABCDEFGHIJKLMNOPQRSTUVWXYZ ") (λ c h. far_or (is_upper c) (is " " c) (upper_far c h) (space_far c h)) tt tt p

-- 7A,
emission_far : AllBytes emission_sets
emission_far = (
  digit_far,
  (
    (λ c h. far_among "HKMG" tt c h),
    (
      (λ c h. far_among "NAHRJBCFGDPKLMQVWX" tt c h),
      (
        (λ c h. far_among "0123789X" tt c h),
        ((λ c h. far_among "NABCDEFWX" tt c h), ((λ c h. far_among "ABCDEFGHJKLMNWX" tt c h), ((λ c h. far_among "NCFTWX" tt c h), (space_far, tt)))),
      ),
    ),
  ),
)

pub emission_letters : (p : List ℕ) → unread (letter_of (bytes "0123456789ABCDEFGHJKLMNPQRTVWX ")) p ≡ unread (at_some emission_sets) p
unfolding at_some among letter_of
emission_letters p = by_letters (at_some emission_sets) (bytes "0123456789ABCDEFGHJKLMNPQRTVWX ") (some_far emission_sets emission_far) tt tt p

-- 9XH and 9XV,
abbrev antenna_tests : List (ℕ → Bool)
antenna_tests = replicate 3 is_digit ++ (replicate 2 is_upper ++ replicate 2 is_digit)

pub antenna_letters : (p : List ℕ) → unread (letter_of (bytes "0123456789ABCDEFGHIJKLMNOPQRSTUVWXYZ")) p ≡ unread (at_some antenna_tests) p
unfolding at_some letter_of
antenna_letters p =
    by_letters (at_some antenna_tests) (bytes "0123456789ABCDEFGHIJKLMNOPQRSTUVWXYZ")
    (some_far antenna_tests (runs_far 3 is_digit (replicate 2 is_upper ++ replicate 2 is_digit) digit_far (runs_far 2 is_upper (replicate 2 is_digit) upper_far (run_far 2 is_digit digit_far)))) tt tt p

-- and 13X.
abbrev reference_tests : List (ℕ → Bool)
reference_tests = exactly "AUT" ++ (replicate 4 is_digit ++ (replicate 5 is_narrow ++ replicate 3 is_digit))

pub reference-set : (p : List ℕ) → unread is_narrow p ≡ unread (at_some reference_tests) p
unfolding at_some is_narrow
reference-set p =
    let rest = runs_far 4 is_digit (replicate 5 is_narrow ++ replicate 3 is_digit) digit_far (runs_far 5 is_narrow (replicate 3 is_digit) narrow_far (run_far 3 is_digit digit_far)) in
    unread-alike is_narrow (at_some reference_tests)
    (alike is_narrow (at_some reference_tests) narrow_far
    (some_far reference_tests ((λ c h. far_is "A" tt c h), ((λ c h. far_is "U" tt c h), ((λ c h. far_is "T" tt c h), rest)))) tt) p
