-- An amount in its one spelling, with a digit above 0 in the three places before the point, is a decimal above zero.
use mathlib.Core.Path.{◌≡◌, refl, sym, ◌∙◌}
use mathlib.Core.Logic.{◌⊎◌, inl, inr, ⊎_elim}
use mathlib.Core.Bool.{Bool, true, false, not, ◌&&◌, ◌||◌, true≢false}
use mathlib.Core.List.{List}
use Prim.Native.Nat.{ℕ, ◌<◌}
use native.Mathlib.Omega.{arith}
use lib.Arith.{lt_of_le-ne}
use lib.Dec.{eqb}
use lib.ListN.{length, get_or, take, drop, length-drop}
use lib.Seq.{take_all, length-take-le, get_or-take}
use borrow.Author.Tests.{eq-eqb, lt-ltb, not-true}
use Rattle.columns.specs.Sets.{is_digit}
use Rattle.columns.specs.Texts.{every}
use Rattle.columns.proofs.TextLaws.{and_split, every_at}
use Rattle.numerals.specs.Numbers.{number, number_from}
use Rattle.numerals.proofs.NumberLaws.{digit_range, number_grows, number_above}
use Rattle.decimals.proofs.DecimalPlain.{plain-decimal}
use Rattle.frequencies.specs.Frequencies.{amount_good}

-- a digit that is not 0 is above it
above : (p : List ℕ) (i : ℕ) → length p ≡ 11 → every is_digit (take 5 p) ≡ true → i < 5 → not (eqb (get_or p i 0) 48) ≡ true → 48 < get_or (take 5 p) i 0
above p i l e h n =
    let same : get_or (take 5 p) i 0 ≡ get_or p i 0 = get_or-take 5 p i 0 h in
    let low = (digit_range (get_or (take 5 p) i 0) (every_at is_digit (take 5 p) i e (omega (arith, length-take-le 5 p (omega arith))))).0 in
    lt_of_le-ne low (λ q. true≢false (sym (eq-eqb (get_or p i 0) 48 (sym same ∙ sym q)) ∙ not-true (eqb (get_or p i 0) 48) n))

-- one of three tests passed
either : (a b c : Bool) → ((a || b) || c) ≡ true → ((a ≡ true) ⊎ (b ≡ true)) ⊎ (c ≡ true)
either true b c e = inl (inl refl)
either false true c e = inl (inr refl)
either false false c e = inr e

pub plain-amount : (p : List ℕ) → length p ≡ 11 → get_or p 5 0 ≡ 46
    → ((every is_digit (take 5 p) && every is_digit (take 5 (drop 6 p))) && ((not (eqb (get_or p 2 0) 48) || not (eqb (get_or p 3 0) 48)) || not (eqb (get_or p 4 0) 48))) ≡ true
    → amount_good p ≡ true
unfolding amount_good
plain-amount p l dot e =
    let t = and_split (every is_digit (take 5 p) && every is_digit (take 5 (drop 6 p))) ((not (eqb (get_or p 2 0) 48) || not (eqb (get_or p 3 0) 48)) || not (eqb (get_or p 4 0) 48)) e in
    let d = and_split (every is_digit (take 5 p)) (every is_digit (take 5 (drop 6 p))) t.0 in
    let rest : every is_digit (drop 6 p) ≡ true = rw (take_all 5 (drop 6 p) (simp length-drop (omega arith))) at d.1 in
    let v = number_from (number (take 5 p)) (drop 6 p) in
    let some : 0 < number (take 5 p) =
    ⊎_elim
    (⊎_elim
    (λ n. number_above 0 (take 5 p) 2 (above p 2 l d.0 (omega arith) n))
    (λ n. number_above 0 (take 5 p) 3 (above p 3 l d.0 (omega arith) n)))
    (λ n. number_above 0 (take 5 p) 4 (above p 4 l d.0 (omega arith) n))
    (either (not (eqb (get_or p 2 0) 48)) (not (eqb (get_or p 3 0) 48)) (not (eqb (get_or p 4 0) 48)) t.1) in
    rw (plain-decimal 5 5 p (omega arith) (omega arith) l d.0 dot rest)
    (lt-ltb 0 v (omega (arith, number_grows (number (take 5 p)) (drop 6 p))))
