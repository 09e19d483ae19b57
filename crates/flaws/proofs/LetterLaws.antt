-- A byte among some letters.
use mathlib.Core.Path.{◌≡◌, refl, sym, ◌∙◌}
use mathlib.Core.List.{List, [], ◌∷◌}
use Prim.Native.Nat.{ℕ}
use lib.Dec.{eqb}
use native.Mathlib.Decide.{ℕ_discrete}
use borrow.Author.Tests.{ne_eqb}
use Rattle.std.specs.List.{list_any}
use Rattle.flaws.specs.Flaws.{letter_of}

-- equal is equal either way round
turned : (x y : ℕ) → eqb x y ≡ eqb y x
turned x y = elim (ℕ_discrete x y) [ yes e ↦ rw e | no n ↦ ne_eqb x y n ∙ sym (ne_eqb y x (λ q. n (sym q))) ]

-- the library looks for the same byte
pub letter_of-list_any : (l : List ℕ) (c : ℕ) → letter_of l c ≡ list_any (λ x. eqb x c) l
unfolding letter_of
letter_of-list_any [] c = refl
letter_of-list_any (x ∷ l) c = rw (turned c x, letter_of-list_any l c)
