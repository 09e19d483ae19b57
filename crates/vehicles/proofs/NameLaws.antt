-- A carriage's name and the number in it.
use mathlib.Core.Path.{◌≡◌, refl, ap, ◌∙◌}
use mathlib.Core.Bool.{true, false, ◌&&◌}
use mathlib.Core.List.{List, [], ◌++◌}
use Prim.Native.Nat.{ℕ, ◌+◌}
use native.Mathlib.Omega.{arith}
use lib.ListN.{length, take, drop, length-append, length-take, length-drop}
use lib.Seq.{take_at, drop_at}
use borrow.Author.Tests.{eqb-true}
use Rattle.columns.specs.Sets.{is_digit}
use Rattle.columns.specs.Texts.{every, same, sized}
use Rattle.columns.proofs.TextLaws.{and_split, same_length, not_same}
use Rattle.columns.proofs.SameLaws.{same_refl}
use Rattle.vehicles.specs.Digits.{number_digits, is_number, last_right}
use Rattle.vehicles.specs.Names.{before, behind, name_of, middle, holds_number, number_in, number_offset}

-- A number has twelve digits.
pub number-length : (t : List ℕ) → is_number t ≡ true → length t ≡ number_digits
unfolding is_number
number-length t h = eqb-true (length t) number_digits (and_split (sized number_digits t) (every is_digit t) h).0

-- A name is eight bytes longer than its number,
name_length : (t : List ℕ) → length (name_of t) ≡ 8 + length t
unfolding name_of
name_length t = omega (arith, length-append before (t ++ behind), length-append t behind)

-- so that one which is its own middle's has twenty.
name_twenty : (name : List ℕ) → length (name_of (middle name)) ≡ length name → length name ≡ 20
name_twenty name e = omega (arith, e, name_length (middle name), length-take 12 (drop 5 name), length-drop 5 name)

-- A name of another length holds no number,
pub other_length : (name : List ℕ) → (length name ≡ 20 → ⊥) → false ≡ holds_number name
unfolding holds_number
other_length name n = rw (not_same (name_of (middle name)) name (λ e. n (name_twenty name e)))

-- and one that does has twenty bytes.
pub holding_twenty : (name : List ℕ) → holds_number name ≡ true → length name ≡ 20
unfolding holds_number
holding_twenty name h = name_twenty name (same_length (name_of (middle name)) name (and_split (same (name_of (middle name)) name) (is_number (middle name) && last_right (middle name)) h).0)

-- What is handed out: the number at its place, or nothing at the front.
pub found_there : (name : List ℕ) → holds_number name ≡ true → (middle name ≡ number_in name) × (5 ≡ number_offset name)
unfolding number_in number_offset
found_there name h = (rw h, rw h)

pub found_nothing : (name : List ℕ) → holds_number name ≡ false → ([] ≡ number_in name) × (0 ≡ number_offset name)
unfolding number_in number_offset
found_nothing name h = (rw h, rw h)

-- The middle of a number's name is the number,
middle_back : (t : List ℕ) → length t ≡ number_digits → middle (name_of t) ≡ t
unfolding name_of
middle_back t n = ap (take 12) (drop_at before (t ++ behind) 5 refl) ∙ take_at t behind 12 n

-- and where its last digit is right, it is read back from its name.
pub number_back : (t : List ℕ) → is_number t ≡ true → last_right t ≡ true → number_in (name_of t) ≡ t
unfolding number_in holds_number
number_back t h k =
    let n : length t ≡ number_digits = number-length t h in
    rw (middle_back t n, same_refl (name_of t), h, k)
