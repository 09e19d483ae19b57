-- Decimals are read back and written again, over both digit counts and the sign.
use mathlib.Core.Path.{◌≡◌, refl}
use mathlib.Core.Bool.{Bool, true, false, not, ◌||◌, false≢true, or-true}
use mathlib.Core.List.{List}
use Prim.Native.Nat.{ℕ, ◌+◌, ◌^◌, ◌≤◌, ◌<◌}
use lib.Dec.{ltb, eqb}
use lib.ListN.{replicate}
use lib.IntN.{ℤ, pos, nat_abs}
use borrow.Author.Tests.{ltb-true, lt-ltb}
use Rattle.columns.specs.Texts.{head, ended, skip}
use Rattle.flaws.specs.Flaws.{unread}
use Rattle.flaws.specs.declared.Flaw.{Flaw}
use Rattle.numerals.specs.Numbers.{amount, with_sign, in_sign, has_minus, unsigned, is_negative}
use Rattle.decimals.specs.Decimals.{magnitude_of, admits_decimal, decimal_of, decimal_fits, spell_decimal}
use Rattle.columns.proofs.TextLaws.{and_split, and_both, cond_case}
use Rattle.decimals.proofs.DecimalLaws.{magnitude_below}
use Rattle.numerals.proofs.Signs.{nat_abs_neg}
use Rattle.decimals.proofs.DecimalTrip.{decimal_trip}
use Rattle.numerals.proofs.WholeColumn.{number_of_spaces}
use Rattle.std.specs.Prelude.{Option, Some, None, Result, Ok, Err}
use Rattle.numerals.specs.declared.Unread.{Unread}

-- what was read has its places
abbrev pub HasPlaces : ℕ → ℕ → Bool → Result (Option ℤ) Flaw → Type 0
HasPlaces a b sign (Err wrong) = Unit {0}
HasPlaces a b sign (Ok None) = Unit {0}
HasPlaces a b sign (Ok (Some z)) = decimal_fits a b sign z ≡ true

in_sign_places : (a b : ℕ) (sign : Bool) (wrong : Flaw) (minus : Bool) (w : Result (Option ℕ) Unread) → amount w < 10 ^ (a + b) → (minus ≡ true → sign ≡ true) → HasPlaces a b sign (in_sign wrong minus w)
in_sign_places a b sign wrong minus (Err bad) h s = tt
in_sign_places a b sign wrong minus (Ok None) h s = tt
in_sign_places a b sign wrong true (Ok (Some v)) h s =
    and_both (ltb (nat_abs (with_sign true v)) (10 ^ (a + b))) (sign || not (is_negative (with_sign true v))) (rw (nat_abs_neg (pos v)) (lt-ltb v (10 ^ (a + b)) h)) (rw (s refl))
in_sign_places a b sign wrong false (Ok (Some v)) h s = and_both (ltb v (10 ^ (a + b))) (sign || true) (lt-ltb v (10 ^ (a + b)) h) (or-true sign)

pub decimal-places : (a b : ℕ) (sign : Bool) (p : List ℕ) → HasPlaces a b sign (decimal_of a b sign p)
unfolding decimal_of
decimal-places a b sign p =
    let t = skip p in
    cond_case (HasPlaces a b sign) (ended t) (λ e. tt)
    (λ e. in_sign_places a b sign (unread (admits_decimal sign) p) (has_minus sign t) (magnitude_of a b (unsigned sign t)) (magnitude_below a b (unsigned sign t)) (λ m. (and_split sign (eqb (head t) 45) m).0))

-- what has its places is read back
pub decimal_back : (a b : ℕ) (sign : Bool) (z : ℤ) → 1 ≤ b → decimal_fits a b sign z ≡ true → decimal_of a b sign (spell_decimal a b sign z) ≡ Ok (Some z)
decimal_back a b sign z one e =
    let h = and_split (ltb (nat_abs z) (10 ^ (a + b))) (sign || not (is_negative z)) e in
    decimal_trip a b sign z one (ltb-true (nat_abs z) (10 ^ (a + b)) h.0) (sign_place sign z h.1) where
      sign_place : (sign : Bool) (z : ℤ) → (sign || not (is_negative z)) ≡ true → is_negative z ≡ true → sign ≡ true
      sign_place true z e f = refl
      sign_place false z e f = absurd (false≢true (rw f at e))

-- spaces are no decimal
pub spaces_no_decimal : (a b : ℕ) (sign : Bool) (n : ℕ) → decimal_of a b sign (replicate n 32) ≡ Ok None
unfolding decimal_of
spaces_no_decimal a b sign n = number_of_spaces sign (admits_decimal sign) (magnitude_of a b) n
