-- `symbols::is_reference` meets its contract: its four parts.
use Prim.Native.Nat.{ℕ}
use mathlib.Core.Path.{◌≡◌, sym}
use mathlib.Core.Bool.{◌&&◌, and_assoc}
use mathlib.Core.List.{List, ◌++◌}
use lib.ListN.{length, take, drop, replicate}
use Rattle.columns.specs.Sets.{is_digit, is_narrow}
use Rattle.columns.specs.Texts.{bytes, every, same}
use Rattle.fields.specs.Table.{fits_at}
use Rattle.columns.proofs.PlaceLaws.{not-each, each_word, each_run, each_rest}
use native.Mathlib.Omega.{arith}
use Rattle.symbols.proofs.is_reference.Goals as goal

-- the reference in its four parts
parts : (s : List ℕ) → length s ≡ 15 → (((same (bytes "AUT") (take 3 s) && every is_digit (take 4 (drop 3 s))) && every is_narrow (take 5 (drop 7 s))) && every is_digit (take 3 (drop 12 s))) ≡ fits_at 30 s
parts s h =
    rw (each_word s 0 "AUT" (replicate 4 is_digit ++ (replicate 5 is_narrow ++ replicate 3 is_digit)), each_run s 3 4 is_digit (replicate 5 is_narrow ++ replicate 3 is_digit) (omega arith), each_run s 7 5 is_narrow (replicate 3 is_digit) (omega arith), each_rest s 12 3 is_digit h, and_assoc)
    (and_assoc (same (bytes "AUT") (take 3 s)) (every is_digit (take 4 (drop 3 s))) _)

pub returns-then-s-ne15 : goal.returns-then-s-ne15
returns-then-s-ne15 c = sym (not-each _ _ c.if-s-ne15.true)

pub returns : goal.returns
returns c =
    rw (c.equal.ensures, c.all_in.ensures, c.all_in-2.ensures, c.all_in-3.ensures) (parts c.args.s.now c.if-s-ne15.false)
