-- Document 02, wish 13: what a row of the second table asks of one field, by the number of the fact.
use Rattle.std.specs.Prelude.{ℕ, Bool, false, not, List, [], ◌∷◌, eqb, get_or}
use Rattle.columns.specs.Sets.{is}
use Rattle.columns.specs.Texts.{bytes, head, blank, trimmed, same, ends_in}
use Rattle.numerals.specs.Numbers.{whole_of, amount}

abbrev pub facts : List (List ℕ → Bool)
facts =
    (λ p. not (blank p)) ∷  -- 0 is filled
    (λ p. is "M" (head p)) ∷  -- 1 begins with M
    (λ p. same (bytes "FL") p) ∷  -- 2 is FL
    (λ p. eqb (amount (whole_of p)) 0) ∷  -- 3 is 0
    (λ p. same (bytes "000ND00") p) ∷  -- 4 is 000ND00
    (λ p. ends_in "_R" (trimmed p)) ∷  -- 5 ends in _R, trailing spaces off
    []

unfoldable pub fact_of : ℕ → List ℕ → Bool
fact_of fact p = get_or facts fact (λ p. false) p
