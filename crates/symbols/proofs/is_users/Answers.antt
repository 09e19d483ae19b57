-- `symbols::is_users` meets its contract: each return rewrites with the places that were passed.
use Prim.Native.Nat.{ℕ}
use mathlib.Core.Path.{◌≡◌, sym}
use mathlib.Core.Bool.{◌&&◌, ◌||◌, and-true, or-false}
use mathlib.Core.List.{List, [], ◌∷◌}
use lib.ListN.{length, get_or}
use borrow.Author.Tests.{ne_eqb}
use Rattle.columns.specs.Sets.{is}
use Rattle.fields.specs.Table.{fits_at, is_user}
use Rattle.columns.proofs.AnswerLaws.{passed, failed}
use Rattle.columns.proofs.PlaceLaws.{not-each, each_one, each_none}
use native.Mathlib.Omega.{arith}
use Rattle.symbols.proofs.is_users.Goals as goal

-- the two places
parts : (s : List ℕ) → length s ≡ 2 → fits_at 6 s ≡ (is_user (get_or s 0 0) && (is_user (get_or s 1 0) || is " " (get_or s 1 0)))
parts s h = rw (each_one s 0 is_user ((λ c. is_user c || is " " c) ∷ []) (omega arith), each_one s 1 (λ c. is_user c || is " " c) [] (omega arith), each_none s 2 (omega arith), and-true)

pub returns-then-s-ne2 : goal.returns-then-s-ne2
returns-then-s-ne2 c = sym (not-each _ _ c.if-s-ne2.true)

pub returns-then-not-is_user : goal.returns-then-not-is_user
returns-then-not-is_user c =
    let long = c.if-s-ne2.false in
    rw (parts, failed c.is_user.ensures c.if-not-is_user.true-raw)

pub returns-then-s-eq32 : goal.returns-then-s-eq32
returns-then-s-eq32 c =
    let long = c.if-s-ne2.false in
    rw (parts, passed c.is_user.ensures c.if-not-is_user.false-raw, c.if-s-eq32.true)

pub returns : goal.returns
returns c =
    let long = c.if-s-ne2.false in
    rw (parts, passed c.is_user.ensures c.if-not-is_user.false-raw, ne_eqb _ _ c.if-s-eq32.false, or-false) c.is_user-2.ensures
