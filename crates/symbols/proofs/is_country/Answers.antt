-- `symbols::is_country` meets its contract: each return rewrites with the places that were passed.
use Prim.Native.Nat.{ℕ}
use mathlib.Core.Path.{◌≡◌, refl}
use mathlib.Core.Bool.{true, cond, ◌&&◌}
use mathlib.Core.List.{List, [], ◌∷◌}
use lib.ListN.{length, get_or}
use borrow.Author.Tests.{eq-eqb, ne_eqb}
use Rattle.columns.specs.Sets.{is, is_upper}
use Rattle.fields.specs.Table.{fits_at}
use Rattle.columns.proofs.AnswerLaws.{passed, failed}
use Rattle.columns.proofs.TrimLaws.{blank_one, trimmed_cons, trimmed_one, filled_cons}
use native.Mathlib.Omega.{arith}
use Rattle.symbols.proofs.is_country.Goals as goal

-- the three places, one after the other
parts : (s : List ℕ) → length s ≡ 3 → fits_at 10 s ≡ (is_upper (get_or s 0 0) && cond (is " " (get_or s 1 0)) (is " " (get_or s 2 0)) (is_upper (get_or s 1 0) && cond (is " " (get_or s 2 0)) true (is_upper (get_or s 2 0))))
parts [] h = absurd (omega arith)
parts (x ∷ []) h = absurd (omega arith)
parts (x ∷ y ∷ []) h = absurd (omega arith)
parts (x ∷ y ∷ z ∷ []) h = rw (filled_cons is_upper refl x (y ∷ z ∷ []), trimmed_cons is_upper refl y (z ∷ []), blank_one z, trimmed_one is_upper refl z)
parts (x ∷ y ∷ z ∷ w ∷ s) h = absurd (omega arith)

pub returns-then-s-ne3 : goal.returns-then-s-ne3
returns-then-s-ne3 c = rw (ne_eqb _ _ c.if-s-ne3.true)

pub returns-then-not-is_upper : goal.returns-then-not-is_upper
returns-then-not-is_upper c =
    let long = c.if-s-ne3.false in
    rw (parts, failed c.is_upper.ensures c.if-not-is_upper.true-raw)

pub returns-then-s-eq32 : goal.returns-then-s-eq32
returns-then-s-eq32 c =
    let long = c.if-s-ne3.false in
    rw (parts, passed c.is_upper.ensures c.if-not-is_upper.false-raw, eq-eqb _ _ c.if-s-eq32.true)

pub returns-then-not-is_upper-2 : goal.returns-then-not-is_upper-2
returns-then-not-is_upper-2 c =
    let long = c.if-s-ne3.false in
    rw (parts, passed c.is_upper.ensures c.if-not-is_upper.false-raw, ne_eqb _ _ c.if-s-eq32.false, failed c.is_upper-2.ensures c.if-not-is_upper-2.true-raw)

pub returns-then-s-eq32-2 : goal.returns-then-s-eq32-2
returns-then-s-eq32-2 c =
    let long = c.if-s-ne3.false in
    rw (parts, passed c.is_upper.ensures c.if-not-is_upper.false-raw, ne_eqb _ _ c.if-s-eq32.false, passed c.is_upper-2.ensures c.if-not-is_upper-2.false-raw, eq-eqb _ _ c.if-s-eq32-2.true)

pub returns : goal.returns
returns c =
    let long = c.if-s-ne3.false in
    rw (parts, passed c.is_upper.ensures c.if-not-is_upper.false-raw, ne_eqb _ _ c.if-s-eq32.false, passed c.is_upper-2.ensures c.if-not-is_upper-2.false-raw, ne_eqb _ _ c.if-s-eq32-2.false) c.is_upper-3.ensures
