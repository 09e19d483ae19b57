-- `basics::places::place_in` meets its contract: entry k - 1 of the table is pair k - 1 of the list.
use mathlib.Core.Path.{◌≡◌, refl, ap}
use mathlib.Core.List.{List, [], ◌∷◌}
use Prim.Native.Nat.{ℕ, zero, suc, ◌-◌, ◌≤◌, ◌<◌}
use native.Mathlib.Omega.{arith}
use lib.ListN.{length, get_or, get_or-eq_default}
use borrow.Author.Tests.{lt-ltb}
use Rattle.basics.specs.Fields.{pairs, place_of}
use Rattle.basics.specs.declared.Place.{Place}
use Rattle.basics.proofs.places.place_in.Goals as goal

-- a table has a pair for each entry,
pairs-length : (ps : List (List ℕ)) → length (pairs ps) ≡ length ps
pairs-length [] = refl
pairs-length (p ∷ ps) = ap suc (pairs-length ps)

-- which says the same place
entry : (ps : List (List ℕ)) (i : ℕ) → ◌≡◌ {A = Place} (record { first = get_or (get_or ps i []) 0 0; length = get_or (get_or ps i []) 1 0 }) (record { first = (get_or (pairs ps) i (0, 0)).0; length = (get_or (pairs ps) i (0, 0)).1 })
entry [] i = refl
entry (p ∷ ps) zero = refl
entry (p ∷ ps) (suc i) = entry ps i

pub returns-then-k-eq0 : goal.returns-then-k-eq0
unfolding place_of
returns-then-k-eq0 c = rw c.if-k-eq0.true

pub returns-then-k-places : goal.returns-then-k-places
unfolding place_of
returns-then-k-places c =
    let ps = c.args.places.now in
    let k = c.args.k in
    let past : length (pairs ps) ≤ k - 1 = omega (arith, pairs-length ps, c.if-k-places.true) in
    let positive : 0 < k = omega (arith, c.if-k-places.true) in
    rw (lt-ltb 0 k positive, get_or-eq_default (pairs ps) (0, 0) past)

pub returns : goal.returns
unfolding place_of
returns c =
    let positive : 0 < c.args.k = omega arith in
    rw (lt-ltb 0 c.args.k positive) (entry c.args.places.now (c.args.k - 1))
