-- `own_spelling::numbers::respell_height` meets its contract: it stands, or is read and written.
use mathlib.Core.Path.{◌≡◌, sym, ap, ◌∙◌}
use mathlib.Core.Bool.{true}
use mathlib.Core.List.{List}
use Prim.Native.Nat.{ℕ, ◌^◌, ◌<◌}
use native.Mathlib.Omega.{arith}
use lib.ListN.{length}
use lib.IntN.{pos}
use borrow.Author.Tests.{lt-ltb}
use Rattle.columns.specs.Sets.{is_digit}
use Rattle.columns.specs.Texts.{every}
use Rattle.numerals.specs.Numbers.{number, spell_whole, signed_of, signed_fits, spell_signed}
use Rattle.distances.specs.Distances.{height_of, spell_height}
use Rattle.numerals.proofs.NumberLaws.{digits_below}
use Rattle.numerals.proofs.RoundTrip.{signed_trip}
use Rattle.own_numbers.proofs.OwnLaws.{own_says}
use Rattle.own_spelling.proofs.numbers.respell_height.Goals as goal
use Rattle.std.specs.Prelude.{Some, Ok}

-- A height in four digits is what it says in the one spelling.
height_own : (p : List ℕ) → length p ≡ 4 → every is_digit p ≡ true → spell_height (height_of p) ≡ p
unfolding height_of spell_height spell_signed
height_own p n e =
    let four : spell_whole 4 (number p) ≡ p = ap (λ (k : ℕ). spell_whole k (number p)) (sym n) ∙ own_says p e in
    let few : number p < 10 ^ 4 = digits_below 4 p e (omega arith) in
    let fits : signed_fits 4 (pos (number p)) ≡ true = unfold signed_fits in lt-ltb (number p) (10 ^ 4) few in
    let says : signed_of p ≡ Ok (Some (pos (number p))) = ap signed_of (sym four) ∙ (unfold spell_signed in signed_trip 4 (pos (number p)) (omega arith) fits) in
    rw says four

pub returns-then-all_in : goal.returns-then-all_in
returns-then-all_in c = sym (height_own _ c.requires (sym c.all_in.ensures ∙ c.if-all_in.true))

pub returns : goal.returns
returns c = c.put_height.ensures ∙ ap spell_height c.read_height-v.ensures
