-- `symbols::is_station_name` meets its contract: its three parts, of which the underscore is asked twice.
use Prim.Native.Nat.{ℕ}
use mathlib.Core.Path.{◌≡◌, refl, sym, ap}
use mathlib.Core.Bool.{Bool, true, ◌&&◌, and_assoc}
use mathlib.Core.List.{List, ◌++◌}
use lib.Dec.{eqb}
use lib.ListN.{length, get_or, take, drop, replicate}
use Rattle.columns.specs.Sets.{is, is_digit, among, is_text, is_name}
use Rattle.columns.specs.Texts.{every, exactly}
use Rattle.fields.specs.Table.{fits_at}
use Rattle.columns.proofs.TextLaws.{every_with}
use Rattle.columns.proofs.PlaceLaws.{not-each, each_run, each_one, each_rest}
use native.Mathlib.Omega.{arith}
use Rattle.symbols.proofs.is_station_name.Goals as goal

-- the underscore is of the set of names
underscore : is_name 95 ≡ true
unfolding is_name is_text among
underscore = refl

-- the name in its three parts
parts : (s : List ℕ) → length s ≡ 20 → ((every is_digit (take 4 s) && eqb (get_or s 4 0) 95) && every is_name (take 16 (drop 4 s))) ≡ fits_at 9 s
parts s h =
    rw (each_run s 0 4 is_digit (exactly "_" ++ replicate 15 is_name) (omega arith), each_one s 4 (is "_") (replicate 15 is_name) (omega arith), each_rest s 5 15 is_name h, and_assoc)
    (ap (λ (b : Bool). every is_digit (take 4 s) && b) (every_with is_name s 4 15 95 (omega arith) underscore))

pub returns-then-s-ne20 : goal.returns-then-s-ne20
returns-then-s-ne20 c = sym (not-each _ _ c.if-s-ne20.true)

pub returns : goal.returns
returns c =
    rw (c.all_in.ensures, c.all_in-2.ensures) (parts c.args.s.now c.if-s-ne20.false)
