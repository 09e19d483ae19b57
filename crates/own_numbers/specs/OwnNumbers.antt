-- What the code alone wants that tells a number's own spelling without reading it: tests that its columns pass only where they hold the one spelling.
-- Nothing is meant here that the table of fields does not say.
use Rattle.std.specs.Prelude.{ℕ, ◌+◌, Bool, not, ◌&&◌, ◌||◌, List, get_or, take, drop, eqb}
use Rattle.columns.specs.Sets.{is, is_digit}
use Rattle.columns.specs.Texts.{head, tail, every, same}

-- The mark stands behind a digits, and behind it digits alone.
unfoldable pub digits_around : ℕ → ℕ → List ℕ → Bool
digits_around mark a t = eqb (get_or t a 0) mark && (every is_digit (take a t) && every is_digit (drop (a + 1) t))

-- Digits are so around a point behind a space, or behind minus where they are not the given spelling of zero.
unfoldable pub signed_around : ℕ → List ℕ → List ℕ → Bool
signed_around a none s = digits_around 46 a (tail s) && (is " " (head s) || (is "-" (head s) && not (same none (tail s))))
