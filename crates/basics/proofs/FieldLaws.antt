-- A record cut into its fields and joined again, over any table of places that tiles it.
use mathlib.Core.Path.{◌≡◌, refl}
use mathlib.Core.Bool.{true, and-eq-true_iff}
use mathlib.Core.List.{List, [], ◌∷◌, ◌++◌, append_assoc}
use Prim.Native.Nat.{ℕ, zero, suc, ◌+◌, ◌-◌, ◌≤◌}
use native.Mathlib.Omega.{arith}
use lib.Dec.{eqb}
use lib.ListN.{length, get_or, drop, length-append, length-drop}
use lib.Seq.{take_at, drop_at, length-take-le}
use borrow.Author.Tests.{eqb-true}
use Rattle.basics.specs.Fields.{record_length, piece, cut, at, joined, tiles_from}

-- each piece is as long as its place
abbrev pub Wide : List (ℕ × ℕ) → List (List ℕ) → Type 0
Wide [] [] = Unit {0}
Wide [] (p ∷ ps) = ⊥
Wide (q ∷ qs) [] = ⊥
Wide (q ∷ qs) (p ∷ ps) = (length p ≡ q.1) × Wide qs ps

-- pieces that are joined are cut out again
pub cut-joined : (front : List ℕ) (c : ℕ) (qs : List (ℕ × ℕ)) (ps : List (List ℕ)) → length front + 1 ≡ c → tiles_from c qs ≡ true → Wide qs ps → cut qs (front ++ joined ps) ≡ ps
cut-joined front c [] [] l t w = refl
cut-joined front c [] (p ∷ ps) l t w = absurd w
cut-joined front c (q ∷ qs) [] l t w = absurd w
cut-joined front c (q ∷ qs) (p ∷ ps) l t w =
    let a = (and-eq-true_iff (eqb q.0 c) (tiles_from (c + q.1) qs)).0 t in
    let s : length front ≡ q.0 - 1 = omega (arith, eqb-true q.0 c a.0) in
    let here : piece (front ++ (p ++ joined ps)) q ≡ p = rw (drop_at front (p ++ joined ps) (q.0 - 1) s) (take_at p (joined ps) q.1 w.0) in
    let m : length (front ++ p) + 1 ≡ c + q.1 = omega (arith, length-append front p, w.0) in
    let rest : cut qs ((front ++ p) ++ joined ps) ≡ ps = cut-joined (front ++ p) (c + q.1) qs ps m a.1 w.1 in
    rw (here, ← append_assoc, rest)

-- a tiling ends at the record's end
pub tiles_inside : (c : ℕ) (qs : List (ℕ × ℕ)) → tiles_from c qs ≡ true → c ≤ record_length + 1
tiles_inside c [] t = omega (arith, eqb-true c (record_length + 1) t)
tiles_inside c (q ∷ qs) t = omega (arith, tiles_inside (c + q.1) qs ((and-eq-true_iff (eqb q.0 c) (tiles_from (c + q.1) qs)).0 t).1)

-- the pieces of a record are as long as their places
pub cut_wide : (r : List ℕ) → length r ≡ record_length → (c : ℕ) (qs : List (ℕ × ℕ)) → 1 ≤ c → tiles_from c qs ≡ true → Wide qs (cut qs r)
cut_wide r n c [] one t = tt
cut_wide r n c (q ∷ qs) one t =
    let a = (and-eq-true_iff (eqb q.0 c) (tiles_from (c + q.1) qs)).0 t in
    let e : q.0 ≡ c = eqb-true q.0 c a.0 in
    let inside : c + q.1 ≤ record_length + 1 = tiles_inside (c + q.1) qs a.1 in
    let room : q.1 ≤ length (drop (q.0 - 1) r) = simp length-drop (omega arith) in
    (length-take-le q.1 (drop (q.0 - 1) r) room, cut_wide r n (c + q.1) qs (omega arith) a.1)

-- the width of piece k
pub width_at : (qs : List (ℕ × ℕ)) (ps : List (List ℕ)) → Wide qs ps → (k : ℕ) → length (at ps k) ≡ (get_or qs (k - 1) (0, 0)).1
width_at qs ps w k = by qs ps w (k - 1) where
  by : (qs : List (ℕ × ℕ)) (ps : List (List ℕ)) → Wide qs ps → (i : ℕ) → length (get_or ps i []) ≡ (get_or qs i (0, 0)).1
  by [] [] w i = refl
  by [] (p ∷ ps) w i = absurd w
  by (q ∷ qs) [] w i = absurd w
  by (q ∷ qs) (p ∷ ps) w zero = w.0
  by (q ∷ qs) (p ∷ ps) w (suc i) = by qs ps w.1 i
