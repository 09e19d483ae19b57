-- Some fields written into a record, and the others left there: together they are the record's fields.
use mathlib.Core.Path.{◌≡◌, refl, sym, ap, ◌∙◌}
use mathlib.Core.Bool.{Bool, true, false, ◌&&◌, and-eq-true_iff}
use mathlib.Core.List.{List, [], ◌∷◌, ◌++◌, append_assoc}
use Prim.Native.Nat.{ℕ, ◌+◌, ◌-◌, ◌≤◌}
use native.Mathlib.Omega.{arith}
use lib.Dec.{eqb, leb}
use lib.ListN.{length, take, drop, length-append, length-drop, take-append-drop}
use lib.Seq.{take_at, drop_at, drop-drop}
use borrow.Rule.Slice.PartMut.{put_mid}
use borrow.Author.Tests.{eqb-true, leb-true}
use Rattle.basics.specs.Fields.{piece, cut, joined}
use Rattle.basics.proofs.WriteLaws.{PiecesWritten, then_some}
use Rattle.semicolons.specs.Fields.{padded_field, none_longer}
use Rattle.semicolons.specs.declared.Side.TheVariants as side
use Rattle.vehicles.specs.Digits.{number_digits}
use Rattle.vehicles.specs.Names.{before, behind, name_of}
use Rattle.station.specs.Places.{station_places, fields_of}
use Rattle.carriage_lines.specs.Lines.{field_behind, carriage_number, own_fields, own_places, carriage_pieces, carriage_record}

-- The places cover the columns behind the first a up to column e, each beginning where the one before it ends.
abbrev pub covers : ℕ → List (ℕ × ℕ) → ℕ → Bool
covers a [] e = eqb a e
covers a (q ∷ qs) e = eqb (q.0 - 1) a && covers (a + q.1) qs e

-- the fields there, joined, are what stands there
left_there : (s : List ℕ) (a : ℕ) (qs : List (ℕ × ℕ)) (e : ℕ) → covers a qs e ≡ true → joined (cut qs s) ++ drop e s ≡ drop a s
left_there s a [] e t = ap (λ (k : ℕ). drop k s) (sym (eqb-true a e t))
left_there s a (q ∷ qs) e t =
    let b = (and-eq-true_iff (eqb (q.0 - 1) a) (covers (a + q.1) qs e)).0 t in
    let here : piece s q ≡ take q.1 (drop a s) = ap (λ (k : ℕ). take q.1 (drop k s)) (eqb-true (q.0 - 1) a b.0) in
    append_assoc (piece s q) (joined (cut qs s)) (drop e s)
    ∙ (λ k. here k ++ left_there s (a + q.1) qs e b.1 k)
    ∙ ap (λ (l : List ℕ). take q.1 (drop a s) ++ l) (sym (drop-drop q.1 a s))
    ∙ take-append-drop q.1 (drop a s)

-- Between two fields that are written the others are left as they were.
pub then-left : {s now : List ℕ} {pieces : List (List ℕ)} {a : ℕ} → PiecesWritten s pieces a now → (qs : List (ℕ × ℕ)) (n : ℕ) → covers a qs (a + n) ≡ true → a + n ≤ length s
    → PiecesWritten s (pieces ++ cut qs s) (a + n) now
then-left {s} {now} {pieces} {a} w qs n t inside =
    let there : joined (cut qs s) ++ drop (a + n) s ≡ drop a s = left_there s a qs (a + n) t in
    let long : length (joined (cut qs s)) ≡ n = omega (arith, ap length there, length-append (joined (cut qs s)) (drop (a + n) s), length-drop (a + n) s, length-drop a s) in
    let kept : drop a now ≡ drop a s = ap (drop a) w.is ∙ drop_at (joined pieces) (drop a s) a w.wide in
    let is : take n (drop a now) ≡ joined (cut qs s) = ap (take n) (kept ∙ sym there) ∙ take_at (joined (cut qs s)) (drop (a + n) s) n long in
    let same : put_mid a n now (take n (drop a now)) ≡ now = ap (λ (l : List ℕ). take a now ++ l) (take-append-drop n (drop a now)) ∙ take-append-drop a now in
    let put : PiecesWritten s (pieces ++ cut qs s) (a + n) (put_mid a n now (take n (drop a now))) = then_some w n inside (cut qs s) is refl in
    record { wide = put.wide; is = sym same ∙ put.is }

-- The four fields behind the number have room in their columns.
pub own_room : (t : List ℕ) → none_longer own_places (own_fields t) ≡ true → (length (field_behind 1 t) ≤ 11) × (length (field_behind 2 t) ≤ 1) × (length (field_behind 3 t) ≤ 6) × (length (field_behind 4 t) ≤ 15)
own_room t e =
    let a = (and-eq-true_iff (leb (length (field_behind 1 t)) 11) _).0 e in
    let b = (and-eq-true_iff (leb (length (field_behind 2 t)) 1) _).0 a.1 in
    let c = (and-eq-true_iff (leb (length (field_behind 3 t)) 6) _).0 b.1 in
    let d = (and-eq-true_iff (leb (length (field_behind 4 t)) 15) _).0 c.1 in
    (leb-true _ _ a.0, leb-true _ _ b.0, leb-true _ _ c.0, leb-true _ _ d.0)

-- Asked one after the other, the first that is too long ends it,
module _ (t : List ℕ) where
  abbrev room : ℕ → ℕ → Bool
  room k w = leb (length (field_behind k t)) w

  abbrev Short : Bool → Type 0
  Short b = none_longer own_places (own_fields t) ≡ b

  pub first_long : room 1 11 ≡ false → Short false
  first_long a = λ k. a k && (room 2 1 && (room 3 6 && (room 4 15 && true)))

  pub second_long : room 1 11 ≡ true → room 2 1 ≡ false → Short false
  second_long a b = λ k. a k && (b k && (room 3 6 && (room 4 15 && true)))

  pub third_long : room 1 11 ≡ true → room 2 1 ≡ true → room 3 6 ≡ false → Short false
  third_long a b c = λ k. a k && (b k && (c k && (room 4 15 && true)))

  pub fourth_long : room 1 11 ≡ true → room 2 1 ≡ true → room 3 6 ≡ true → room 4 15 ≡ false → Short false
  fourth_long a b c d = λ k. a k && (b k && (c k && (d k && true)))

  -- or none is.
  pub none_long : room 1 11 ≡ true → room 2 1 ≡ true → room 3 6 ≡ true → room 4 15 ≡ true → Short true
  none_long a b c d = λ k. a k && (b k && (c k && (d k && true)))

-- A name has twenty bytes.
pub name_wide : (number : List ℕ) → length number ≡ number_digits → length (name_of number) ≡ 20
unfolding name_of
name_wide number n = omega (arith, n, length-append before (number ++ behind), length-append number behind)

-- The fields that are put in and those that are left are a carriage's.
pub made_is : (t d name : List ℕ) → name ≡ name_of (carriage_number t)
    → joined (padded_field side.Left 11 (field_behind 1 t) ∷ padded_field side.Right 1 (field_behind 2 t) ∷ (cut (take 6 (drop 2 station_places)) d ++ (name ∷ (cut (take 5 (drop 9 station_places)) d ++ (padded_field side.Left 6 (field_behind 3 t) ∷ (cut (take 14 (drop 15 station_places)) d ++ (padded_field side.Right 15 (field_behind 4 t) ∷ [])))))))
    ≡ carriage_record t d
unfolding carriage_record carriage_pieces fields_of
made_is t d name e =
    ap (λ (x : List ℕ). joined (padded_field side.Left 11 (field_behind 1 t) ∷ padded_field side.Right 1 (field_behind 2 t) ∷ (cut (take 6 (drop 2 station_places)) d ++ (x ∷ (cut (take 5 (drop 9 station_places)) d ++ (padded_field side.Left 6 (field_behind 3 t) ∷ (cut (take 14 (drop 15 station_places)) d ++ (padded_field side.Right 15 (field_behind 4 t) ∷ [])))))))) e
